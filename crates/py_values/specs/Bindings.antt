-- Names, each with its value.
-- Source: Python reference 4.2.1, Binding of names.
use Rattle.std.specs.Prelude.{ℕ, ◌≡◌, ◌<◌, ◌≤◌, ◌^◌, Bool, if◌then◌else◌, List, [], ◌∷◌, map, String, string_bytes, Option, Some, None}
use Rattle.std.specs.List.{list_any}
use Rattle.lists.specs.Texts.{text_eq}
use Rattle.py_values.specs.declared.val.Val.{Val}

-- a name and its value
abbrev pub Binding : Type 0
Binding = List ℕ × Val

-- the same, by the bytes of the names
abbrev pub by_bytes : {Y : Type 0} → List (String Y × Val) → List Binding
by_bytes es = map (λ e. (string_bytes e.0, e.1)) es

-- the value of a name
abbrev pub bound_in : List ℕ → List Binding → Option Val
bound_in name [] = None
bound_in name (b ∷ bs) = if text_eq name b.0 then Some b.1 else bound_in name bs

-- a name keeps its place, and a new one comes last
abbrev pub bound_to : List ℕ → Val → List Binding → List Binding
bound_to name v [] = (name, v) ∷ []
bound_to name v (b ∷ bs) = if text_eq name b.0 then (b.0, v) ∷ bs else b ∷ bound_to name v bs

-- how many names come first, and how many behind them: eight at most, others only behind eight, and all are counted
abbrev pub IsSplit : ℕ → ℕ → Type 0
IsSplit first others = (first ≤ 8) × (first < 8 → others ≡ 0) × (others < 2 ^ 62)

-- whether a name is one of these
abbrev pub is_among : List ℕ → List (List ℕ) → Bool
is_among name names = list_any (text_eq name) names
