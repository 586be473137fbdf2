-- The names that a source gives, and those that stand in what is written: paths of names, made new by a number.
-- Source: Python reference 2.3, Identifiers and keywords, by bytes; paths, and names made new by a number: own rule (docs/RULES.md).
use Rattle.std.specs.Prelude.{◌≡◌, ◌⊎◌, ◌==◌, ◌&&◌, ◌||◌, ◌++◌, nat_le, ℕ, Bool, List, [], ◌∷◌, All, codes, IsTrue}
use Rattle.std.specs.Fmt.{decimal}

abbrev pub is_between : ℕ → ℕ → ℕ → Bool
is_between low high b = nat_le low b && nat_le b high

-- a letter or `_`; the bytes from 128 on are of letters beyond ASCII
abbrev pub starts_name : ℕ → Bool
starts_name b = is_between 65 90 b || is_between 97 122 b || (b == 95) || nat_le 128 b

abbrev pub continues_name : ℕ → Bool
continues_name b = starts_name b || is_between 48 57 b

-- a name of the source
pub record IsName (name : List ℕ) : Type 0 where
  pub first : ℕ
  pub rest : List ℕ
  pub whole : name ≡ first ∷ rest
  pub starts : IsTrue (starts_name first)
  pub continues : All (λ b. IsTrue (continues_name b)) rest

-- names with a dot between each two
abbrev pub dotted : List ℕ → List (List ℕ) → List ℕ
dotted name [] = name
dotted name (more ∷ names) = name ++ (codes "." ++ dotted more names)

-- one or more names joined by dots
pub record IsPath (text : List ℕ) : Type 0 where
  pub name : List ℕ
  pub more : List (List ℕ)
  pub first : IsName name
  pub others : All IsName more
  pub whole : text ≡ dotted name more

-- nothing, or `$` and a number
abbrev pub IsSuffix : List ℕ → Type 0
IsSuffix text = (text ≡ []) ⊎ ((n : ℕ) × (text ≡ codes "$" ++ decimal n))

-- one or more names joined by dots, and then `$` and a number or nothing
pub record IsPublicName (text : List ℕ) : Type 0 where
  pub name : List ℕ
  pub more : List (List ℕ)
  pub suffix : List ℕ
  pub first : IsName name
  pub others : All IsName more
  pub ends : IsSuffix suffix
  pub whole : text ≡ dotted name more ++ suffix
