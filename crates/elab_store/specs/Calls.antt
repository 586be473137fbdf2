-- Calls of things: what their arguments are. (Python language reference, "Calls".)
use Rattle.std.specs.Prelude.{ℕ, ◌-◌, List, [], ◌∷◌, length, take, drop}
use Rattle.py_values.specs.declared.val.Val.{Val}
use Rattle.py_values.specs.declared.val.Val.TheVariants as val

-- what is called, the arguments by place, those by keyword, and the name to which the call is assigned, empty where it is to none
pub record Called : Type 0 where
  pub callee : Val
  pub placed : List Val
  pub keywords : List (List ℕ)
  pub keyword_vals : List Val
  pub name : List ℕ

abbrev pub first_or : {A : Type 0} → A → List A → A
first_or d [] = d
first_or d (x ∷ xs) = x

abbrev pub behind_first : {A : Type 0} → List A → List A
behind_first [] = []
behind_first (x ∷ xs) = xs

-- the values are the callee, the arguments by place and those by keyword; the names are that of the call and the keywords
abbrev pub placed_count : List Val → List (List ℕ) → ℕ
placed_count vals names = length (behind_first vals) - length (behind_first names)

abbrev pub called : List Val → List (List ℕ) → Called
called vals names = record {
  callee = first_or val.None vals;
  placed = take (placed_count vals names) (behind_first vals);
  keywords = behind_first names;
  keyword_vals = drop (placed_count vals names) (behind_first vals);
  name = first_or [] names;
}
