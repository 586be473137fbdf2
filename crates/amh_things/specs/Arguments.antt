-- Arguments of a call, as Python binds them to parameters (Python reference, "Calls"): the first ones by position, and the others by name.
use Rattle.std.specs.Prelude.{ℕ, ◌-◌, nat_le, ◌&&◌, Bool, true, false, if◌then◌else◌, List, [], ◌∷◌, length, take, drop, slice_get, Option, Some, None}
use Rattle.std.specs.List.{list_all, list_any}
use Rattle.lists.specs.Texts.{text_eq}
use Rattle.py_values.specs.declared.val.Val.{Val}

pub record Arguments : Type 0 where
  -- the values by position, the values of keywords, and the keywords
  pub positional : List Val
  pub named : List Val
  pub keys : List (List ℕ)

-- the values of a call: those of its keywords are the last ones
abbrev pub arguments_of : List Val → List (List ℕ) → Arguments
arguments_of args keys = record {
  positional = take (length args - length keys) args;
  named = drop (length args - length keys) args;
  keys = keys;
}

-- the value of a keyword, which stands once in a call
abbrev pub keyword : List ℕ → List (List ℕ) → List Val → Option Val
keyword name [] vs = None
keyword name (k ∷ ks) [] = None
keyword name (k ∷ ks) (v ∷ vs) = if text_eq k name then Some v else keyword name ks vs

-- whether there is a keyword
abbrev pub is_some_key : List (List ℕ) → Bool
is_some_key [] = false
is_some_key (k ∷ ks) = true

abbrev pub first_some : Option Val → Option Val → Option Val
first_some (Some v) w = Some v
first_some None w = w

-- the value of the parameter that has this place and this name
abbrev pub argument : Arguments → ℕ → List ℕ → Option Val
argument a i name = first_some (slice_get a.positional i) (keyword name a.keys a.named)

abbrev pub is_among : List (List ℕ) → List ℕ → Bool
is_among names k = list_any (λ n. text_eq k n) names

-- whether each argument is for one of these parameters, and none of them is given twice
abbrev pub fits : List (List ℕ) → Arguments → Bool
fits parameters a =
    nat_le (length a.positional) (length parameters)
    && list_all (is_among (drop (length a.positional) parameters)) a.keys
