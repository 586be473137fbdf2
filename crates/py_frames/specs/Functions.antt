-- The function of a `def` statement, by the place of the statement; and how arguments meet parameters.
-- Source: Python reference 6.3.4, Calls, and 8.7, Function definitions.
use Rattle.std.specs.Prelude.{ℕ, ◌==◌, ◌&&◌, Bool, true, false, if◌then◌else◌, List, [], ◌∷◌, ◌++◌, Option, Some, None}
use Rattle.lists.specs.Texts.{text_eq}
use Rattle.amh_host.specs.declared.place.Place.{Place}
use Rattle.py_tree.specs.Tree.{Perhaps, absent, present}
use Rattle.py_tree.specs.Steps.{Step, If, While, For, With, Def, Class, Steps, last, next, Branches, no_branch, branch, Otherwise, nothing_else, otherwise, Body, Fun, Parameter, Named, Star}
use Rattle.py_values.specs.declared.val.Val.{Val}
use Rattle.py_frames.specs.declared.request.NamedVal.{NamedVal}

abbrev pub same_place : Place → Place → Bool
same_place p q = (p.line == q.line) && (p.col == q.col)

abbrev pub or_else : {A : Type 0} → Option A → Option A → Option A
or_else None y = y
or_else (Some x) y = Some x

abbrev pub body_place : Body → Place
body_place (Fun p name is_async params result body) = p

-- the first function whose statement stands at a place, in the order of the text
abbrev mutual
  pub function_in : Place → Step → Option Body
  function_in at_place (If p bs b) = or_else (function_in_branches at_place bs) (function_in_else at_place b)
  function_in at_place (While p e b) = function_at at_place b
  function_in at_place (For p t e b) = function_at at_place b
  function_in at_place (With p e t b) = function_at at_place b
  function_in at_place (Def p f) = function_or_inner at_place f
  function_in at_place (Class p n a b) = function_at at_place b
  function_in at_place _ = None

  pub function_or_inner : Place → Body → Option Body
  function_or_inner at_place (Fun p name is_async params result body) =
      if same_place at_place p then Some (Fun p name is_async params result body) else function_at at_place body

  pub function_at : Place → Steps → Option Body
  function_at at_place last = None
  function_at at_place (next s ss) = or_else (function_in at_place s) (function_at at_place ss)

  pub function_in_branches : Place → Branches → Option Body
  function_in_branches at_place no_branch = None
  function_in_branches at_place (branch t b bs) = or_else (function_at at_place b) (function_in_branches at_place bs)

  pub function_in_else : Place → Otherwise → Option Body
  function_in_else at_place nothing_else = None
  function_in_else at_place (otherwise b) = function_at at_place b

-- ---- arguments

-- the first argument by this keyword, and the others
abbrev pub taken_keyword : List ℕ → List NamedVal → List NamedVal → Option (Val × List NamedVal)
taken_keyword name before [] = None
taken_keyword name before (x ∷ xs) = if text_eq x.name name then Some (x.val, before ++ xs) else taken_keyword name (before ++ x ∷ []) xs

abbrev pub is_given : List ℕ → List NamedVal → Bool
is_given name [] = false
is_given name (x ∷ xs) = if text_eq x.name name then true else is_given name xs

abbrev pub named_val : List ℕ → Val → NamedVal
named_val n v = record { name = n; val = v }

-- the values of defaults, without the next parameter's
abbrev pub defaults_behind : Perhaps → List Val → List Val
defaults_behind absent ds = ds
defaults_behind (present t) [] = []
defaults_behind (present t) (d ∷ ds) = ds

abbrev pub default_value : Perhaps → List Val → Option Val
default_value absent ds = None
default_value (present t) [] = None
default_value (present t) (d ∷ ds) = Some d

abbrev pub with_first : NamedVal → Option (List NamedVal) → Option (List NamedVal)
with_first x None = None
with_first x (Some xs) = Some (x ∷ xs)

abbrev pub or_default : List ℕ → Option Val → (List NamedVal → Option (List NamedVal)) → List NamedVal → Option (List NamedVal)
or_default name None rest keywords = None
or_default name (Some v) rest keywords = with_first (named_val name v) (rest keywords)

abbrev pub by_keyword : List ℕ → Option (Val × List NamedVal) → Option Val → List NamedVal → (List NamedVal → Option (List NamedVal)) → Option (List NamedVal)
by_keyword name None default keywords rest = or_default name default rest keywords
by_keyword name (Some x) default keywords rest = with_first (named_val name x.0) (rest x.1)

-- Parameters meet the arguments in order, then those by keyword, then their defaults, the values of which stand in the
-- order of the parameters that have one. None where an argument is too many, is given twice or lacks.
abbrev pub parameters_met : List Parameter → List Val → List NamedVal → List Val → Option (List NamedVal)
parameters_met [] [] [] defaults = Some []
parameters_met [] (v ∷ vs) keywords defaults = None
parameters_met [] [] (x ∷ xs) defaults = None
parameters_met (Star p ∷ ps) [] keywords defaults = parameters_met ps [] keywords defaults
parameters_met (Star p ∷ ps) (v ∷ vs) keywords defaults = None
parameters_met (Named p n a d ∷ ps) (v ∷ vs) keywords defaults =
    if is_given n keywords then None
    else with_first (named_val n v) (parameters_met ps vs keywords (defaults_behind d defaults))
parameters_met (Named p n a d ∷ ps) [] keywords defaults =
    by_keyword n (taken_keyword n [] keywords) (default_value d defaults) keywords (λ others. parameters_met ps [] others (defaults_behind d defaults))
