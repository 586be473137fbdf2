-- The table of a program's functions, with the names that are their own.
-- Internal: no rule of the language.
use Rattle.std.specs.Prelude.{◌≡◌, ◌⊎◌, ℕ, List, [], ◌∷◌, ◌++◌, map, length}
use Rattle.amh_host.specs.declared.place.Place.{Place}
use Rattle.py_tree.specs.Programs.{steps_of, body_of}
use Rattle.py_tree.specs.Steps.{Step, If, While, For, With, Def, Class, Steps, last, next, Branches, no_branch, branch, Otherwise, nothing_else, otherwise, Body, Fun}
use Rattle.py_frames.specs.declared.functions.Functions.{Functions}
use Rattle.py_frames.specs.declared.functions.KnownFunction.{KnownFunction}
use Rattle.py_frames.specs.declared.spots.Spot.{Spot}
use Rattle.py_frames.specs.Own.{function_names}
use Rattle.py_frames.specs.Functions.{body_place}

-- all functions of a program, in the order of the text, each before those in its body
abbrev mutual
  pub functions_in : Steps → List Body
  functions_in last = []
  functions_in (next s ss) = functions_in_step s ++ functions_in ss

  pub functions_in_step : Step → List Body
  functions_in_step (If p bs b) = functions_in_branches bs ++ functions_in_else b
  functions_in_step (While p e b) = functions_in b
  functions_in_step (For p t e b) = functions_in b
  functions_in_step (With p e t b) = functions_in b
  functions_in_step (Def p f) = functions_in_body f
  functions_in_step (Class p n a b) = functions_in b
  functions_in_step _ = []

  pub functions_in_body : Body → List Body
  functions_in_body (Fun p name is_async params result body) = Fun p name is_async params result body ∷ functions_in body

  pub functions_in_branches : Branches → List Body
  functions_in_branches no_branch = []
  functions_in_branches (branch t b bs) = functions_in b ++ functions_in_branches bs

  pub functions_in_else : Otherwise → List Body
  functions_in_else nothing_else = []
  functions_in_else (otherwise b) = functions_in b

-- a function and its own names, as a table has them, and as they are
abbrev pub described : Body → Body × List (List ℕ)
described b = (b, function_names b)

abbrev pub known_body : KnownFunction → Body × List (List ℕ)
known_body x = (body_of x.function.value, x.own)

-- ---- an index of the places

-- a place, as a key
abbrev pub spot_of : Place → Spot
spot_of p = record { line = p.line; col = p.col }

abbrev pub spot_at : KnownFunction → Spot
spot_at x = spot_of (body_place (known_body x).0)

-- as many keys as there are functions are the places of these, in order
abbrev pub AreSpots : List Spot → List KnownFunction → Type 0
AreSpots spots xs = length spots ≡ length xs → spots ≡ map spot_at xs

-- a key goes last, or all stay
abbrev pub AddsAtMost : Spot → List Spot → List Spot → Type 0
AddsAtMost spot old new = (new ≡ old) ⊎ (new ≡ old ++ spot ∷ [])

-- a table has the functions of its program, and an index finds them
abbrev pub IsTable : Functions → Type 0
IsTable f = (map known_body f.table.items ≡ map described (functions_in (steps_of f.program))) × AreSpots f.spots.keys f.table.items
