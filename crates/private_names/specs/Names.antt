-- Which names are private, and what becomes of them.
-- Source: Python reference 6.2.1, Identifiers (Names), "Private name mangling".
use Rattle.std.specs.Prelude.{ℕ, ◌==◌, ◌&&◌, not, Bool, if◌then◌else◌, List, [], ◌∷◌, ◌++◌, codes, nat_eq}
use Rattle.std.specs.List.{starts_with, ends_with}

-- an underscore
abbrev pub underscore : ℕ
underscore = 95

-- a name without the underscores that it begins with
abbrev pub without_underscores : List ℕ → List ℕ
without_underscores [] = []
without_underscores (b ∷ bs) = if b == underscore then without_underscores bs else b ∷ bs

-- a private name begins with two underscores or more, and does not end with two or more
abbrev pub is_private : List ℕ → Bool
is_private name = starts_with nat_eq name (codes "__") && not (ends_with nat_eq name (codes "__"))

-- a name within a class, of whose name this is left without the underscores that it begins with; nothing is left outside
-- of all classes, and of a name that has underscores alone
unfoldable pub mangled_name : List ℕ → List ℕ → List ℕ
mangled_name [] name = name
mangled_name (c ∷ class) name = if is_private name then codes "_" ++ ((c ∷ class) ++ name) else name
