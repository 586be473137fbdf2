-- The functions of statements, as those of each part one after the other; and the first at a place.
use Rattle.std.proofs.Common.{◌≡◌, ℕ, ◌+◌, ◌<◌, ◌≤◌, inl, inr, refl, ap, sym, subst, ◌∙◌, List, [], ◌∷◌, ◌++◌, length, take, get_or, map, Option, Some, None, option_map, Bool, true, false, cond, nat_lt, if◌then◌else◌, arith}
use Rattle.std.specs.Prelude.{◌⊎◌, position, not, slice_get}
use Rattle.std.proofs.lemmas.Bool.Decides.{nat_tests}
use Rattle.std.proofs.lemmas.List.{length-append, length-map, map-append, take_more, take_all}
use Rattle.std.proofs.lemmas.List.Folds.{find_at}
use Rattle.std.proofs.lemmas.Option.{slice_get_past}
use Rattle.std.specs.List.{flat_map, find, position_or_len}
use Rattle.amh_host.specs.declared.place.Place.{Place}
use Rattle.py_tree.specs.declared.stmt.Stmt.{Stmt}
use Rattle.py_tree.specs.declared.stmt.Branch.{Branch}
use Rattle.py_tree.specs.Steps.{Step, Pass, Break, Continue, Return, Assert, Raise, ImportAll, Import, Assign, Annotate, Augment, Evaluate, If, While, For, With, Def, Class, Steps, last, next, Branches, no_branch, branch, Otherwise, nothing_else, otherwise, Body, Fun, steps, branches}
use Rattle.py_tree.specs.Programs.{step_of, branch_of}
use Rattle.py_frames.specs.declared.functions.KnownFunction.{KnownFunction}
use Rattle.py_frames.specs.Functions.{same_place, body_place, or_else, function_in, function_or_inner, function_at, function_in_branches, function_in_else}
use Rattle.py_frames.specs.Tables.{functions_in, functions_in_step, functions_in_body, functions_in_branches, functions_in_else, described, known_body, spot_of, spot_at, AreSpots, AddsAtMost}
use Rattle.py_frames.specs.declared.spots.Spot.{Spot}

abbrev pub Row : Type 0
Row = Body × List (List ℕ)

abbrev pub rows_of_stmt : Stmt → List Row
rows_of_stmt s = map described (functions_in_step (step_of s))

abbrev pub rows_of_branch : Branch → List Row
rows_of_branch b = map described (functions_in (branch_of b).1)

pub described_append : (xs ys : List Body) → map described (xs ++ ys) ≡ map described xs ++ map described ys
described_append [] ys = refl
described_append (x ∷ xs) ys = ap (λ z. described x ∷ z) (described_append xs ys)

pub flat_map_stmts : (ss : List Stmt) → flat_map rows_of_stmt ss ≡ map described (functions_in (steps (map step_of ss)))
flat_map_stmts [] = refl
flat_map_stmts (s ∷ ss) = ap (λ z. rows_of_stmt s ++ z) (flat_map_stmts ss) ∙ sym (described_append (functions_in_step (step_of s)) (functions_in (steps (map step_of ss))))

pub flat_map_branches : (bs : List Branch) → flat_map rows_of_branch bs ≡ map described (functions_in_branches (branches (map branch_of bs)))
flat_map_branches [] = refl
flat_map_branches (b ∷ bs) = ap (λ z. rows_of_branch b ++ z) (flat_map_branches bs) ∙ sym (described_append (functions_in (branch_of b).1) (functions_in_branches (branches (map branch_of bs))))

-- ---- the first at a place

abbrev pub stands_at : Place → Body → Bool
stands_at place b = same_place place (body_place b)

abbrev pub row_at : Place → Row → Bool
row_at place r = stands_at place r.0

pub find-append : (p : Body → Bool) (xs ys : List Body) → find p (xs ++ ys) ≡ or_else (find p xs) (find p ys)
find-append p [] ys = refl
find-append p (x ∷ xs) ys = chosen (find-append p xs ys) (p x)
  where
    chosen : find p (xs ++ ys) ≡ or_else (find p xs) (find p ys) → (t : Bool) → (if t then Some x else find p (xs ++ ys)) ≡ or_else (if t then Some x else find p xs) (find p ys)
    chosen e true = refl
    chosen e false = e

-- the first of all functions is the first that the text has at a place
mutual
  pub find-step : (place : Place) (s : Step) → find (stands_at place) (functions_in_step s) ≡ function_in place s
  find-step place (Pass p) = refl
  find-step place (Break p) = refl
  find-step place (Continue p) = refl
  find-step place (Return p e) = refl
  find-step place (Assert p e m) = refl
  find-step place (Raise p e) = refl
  find-step place (ImportAll p path) = refl
  find-step place (Import p path names) = refl
  find-step place (Assign p ts e) = refl
  find-step place (Annotate p t a e) = refl
  find-step place (Augment p t o e) = refl
  find-step place (Evaluate p e) = refl
  find-step place (If p bs b) = find-append (stands_at place) (functions_in_branches bs) (functions_in_else b) ∙ ap (λ z. or_else z (find (stands_at place) (functions_in_else b))) (find-branches place bs) ∙ ap (or_else (function_in_branches place bs)) (find-else place b)
  find-step place (While p e b) = find-steps place b
  find-step place (For p t e b) = find-steps place b
  find-step place (With p e t b) = find-steps place b
  find-step place (Def p f) = find-body place f
  find-step place (Class p n a b) = find-steps place b

  pub find-body : (place : Place) (f : Body) → find (stands_at place) (functions_in_body f) ≡ function_or_inner place f
  find-body place (Fun p name is_async params result body) = ap (λ z. if same_place place p then Some (Fun p name is_async params result body) else z) (find-steps place body)

  pub find-steps : (place : Place) (ss : Steps) → find (stands_at place) (functions_in ss) ≡ function_at place ss
  find-steps place last = refl
  find-steps place (next s ss) = find-append (stands_at place) (functions_in_step s) (functions_in ss) ∙ ap (λ z. or_else z (find (stands_at place) (functions_in ss))) (find-step place s) ∙ ap (or_else (function_in place s)) (find-steps place ss)

  pub find-branches : (place : Place) (bs : Branches) → find (stands_at place) (functions_in_branches bs) ≡ function_in_branches place bs
  find-branches place no_branch = refl
  find-branches place (branch t b bs) = find-append (stands_at place) (functions_in b) (functions_in_branches bs) ∙ ap (λ z. or_else z (find (stands_at place) (functions_in_branches bs))) (find-steps place b) ∙ ap (or_else (function_at place b)) (find-branches place bs)

  pub find-else : (place : Place) (b : Otherwise) → find (stands_at place) (functions_in_else b) ≡ function_in_else place b
  find-else place nothing_else = refl
  find-else place (otherwise b) = find-steps place b

pub find-rows : (place : Place) (bs : List Body) → find (row_at place) (map described bs) ≡ option_map described (find (stands_at place) bs)
find-rows place [] = refl
find-rows place (b ∷ bs) = chosen (find-rows place bs) (stands_at place b)
  where
    chosen : find (row_at place) (map described bs) ≡ option_map described (find (stands_at place) bs) → (t : Bool) → (if t then Some (described b) else find (row_at place) (map described bs)) ≡ option_map described (if t then Some b else find (stands_at place) bs)
    chosen e true = refl
    chosen e false = e

pub find-known : (place : Place) (xs : List KnownFunction) → option_map known_body (find (λ x. row_at place (known_body x)) xs) ≡ find (row_at place) (map known_body xs)
find-known place [] = refl
find-known place (x ∷ xs) = chosen (find-known place xs) (row_at place (known_body x))
  where
    chosen : option_map known_body (find (λ y. row_at place (known_body y)) xs) ≡ find (row_at place) (map known_body xs) → (t : Bool) → option_map known_body (if t then Some x else find (λ y. row_at place (known_body y)) xs) ≡ (if t then Some (known_body x) else find (row_at place) (map known_body xs))
    chosen e true = refl
    chosen e false = e

-- the first known function at a place is the first of the program
pub find_function : (place : Place) (xs : List KnownFunction) (program : Steps) → map known_body xs ≡ map described (functions_in program) → option_map known_body (find (λ x. row_at place (known_body x)) xs) ≡ option_map described (function_at place program)
find_function place xs program e = find-known place xs ∙ ap (find (row_at place)) e ∙ find-rows place (functions_in program) ∙ ap (option_map described) (find-steps place program)

pub found_function : (place : Place) (xs : List KnownFunction) (program : Steps) (found : Option KnownFunction) → map known_body xs ≡ map described (functions_in program) → found ≡ find (λ x. same_place place (body_place (known_body x).0)) xs → option_map known_body found ≡ option_map described (function_at place program)
found_function place xs program found e q = ap (option_map known_body) q ∙ find_function place xs program e

-- ---- the index of places

-- so many keys at most; and as many as functions are the places of these
pub record AreFirst (spots : List Spot) (n : ℕ) (xs : List KnownFunction) : Type 0 where
  pub few : length spots ≤ n
  pub each : length spots ≡ n → spots ≡ map spot_at xs

pub spots_begin : AreFirst [] 0 []
spots_begin = record { few = omega arith; each = λ h. refl }

pub spots_more : (old new : List Spot) (spot : Spot) (xs : List KnownFunction) (i : ℕ) (x : KnownFunction) → i < length xs → x ≡ get_or xs i x → spot ≡ spot_at x → AreFirst old i (take i xs) → AddsAtMost spot old new → AreFirst new (i + 1) (take (i + 1) xs)
spots_more old new spot xs i x h g e a (inl same) = record {
  few = let l : length new ≡ length old = ap (λ (z : List Spot). length z) same in let m = a.few in omega arith;
  each = λ q. let l : length new ≡ length old = ap (λ (z : List Spot). length z) same in let m = a.few in absurd (omega arith);
}
spots_more old new spot xs i x h g e a (inr added) = record {
  few = let l : length new ≡ length old + 1 = ap (λ (z : List Spot). length z) added ∙ length-append old (spot ∷ []) in let m = a.few in omega arith;
  each = λ q.
      let l : length new ≡ length old + 1 = ap (λ (z : List Spot). length z) added ∙ length-append old (spot ∷ []) in
      let n : length old ≡ i = omega arith in
      added ∙ ap (λ (z : List Spot). z ++ spot ∷ []) (a.each n) ∙ ap (λ (z : Spot). map spot_at (take i xs) ++ z ∷ []) e
      ∙ sym (map-append spot_at (take i xs) (x ∷ []))
      ∙ ap (λ (z : KnownFunction). map spot_at (take i xs ++ z ∷ [])) g
      ∙ ap (λ (z : List KnownFunction). map spot_at z) (sym (take_more xs i x h));
}

pub spots_all : (spots : List Spot) (xs : List KnownFunction) (i : ℕ) → length xs ≤ i → i ≤ length xs → AreFirst spots i (take i xs) → AreSpots spots xs
spots_all spots xs i h g a = λ q. a.each (omega arith) ∙ ap (λ (z : List KnownFunction). map spot_at z) (take_all i xs h)

-- the first key that is equal stands where the first function does
module _ (test : Spot → Bool) (p : KnownFunction → Bool) (same : (x : KnownFunction) → p x ≡ test (spot_at x)) where
  same_position : (xs : List KnownFunction) → position_or_len test (map spot_at xs) ≡ position_or_len p xs
  same_position [] = refl
  same_position (x ∷ xs) =
      ap (λ (b : Bool). cond (not b) (1 + position_or_len test (map spot_at xs)) 0) (sym (same x))
      ∙ ap (λ (n : ℕ). cond (not (p x)) (1 + n) 0) (same_position xs)

  found_some : (xs : List KnownFunction) (n i : ℕ) (b : Bool) → n ≡ position_or_len p xs → Some i ≡ cond b (Some n) None → find p xs ≡ slice_get xs i
  found_some xs n i true e h = let q : n ≡ i = cc in find_at p xs ∙ ap (slice_get xs) (sym e ∙ q)
  found_some xs n i false e h = cc

  found_none : (xs : List KnownFunction) (n : ℕ) (b : Bool) → nat_lt n (length xs) ≡ b → n ≡ position_or_len p xs → None ≡ cond b (Some n) None → find p xs ≡ None
  found_none xs n true g e h = cc
  found_none xs n false g e h = find_at p xs ∙ ap (slice_get xs) (sym e) ∙ slice_get_past xs n (grind (arith, nat_tests))

  pub indexed_some : (spots : List Spot) (xs : List KnownFunction) (i : ℕ) → spots ≡ map spot_at xs → Some i ≡ position test spots → slice_get xs i ≡ find p xs
  indexed_some spots xs i e h =
      sym (found_some xs (position_or_len test (map spot_at xs)) i (nat_lt (position_or_len test (map spot_at xs)) (length (map spot_at xs))) (same_position xs) (h ∙ ap (λ (z : List Spot). position test z) e))

  pub indexed_none : (spots : List Spot) (xs : List KnownFunction) → spots ≡ map spot_at xs → None ≡ position test spots → None ≡ find p xs
  indexed_none spots xs e h =
      let l : length (map spot_at xs) ≡ length xs = length-map xs spot_at in
      sym (found_none xs (position_or_len test (map spot_at xs)) (nat_lt (position_or_len test (map spot_at xs)) (length xs)) refl (same_position xs) (h ∙ ap (λ (z : List Spot). position test z) e ∙ ap (λ (z : ℕ). cond (nat_lt (position_or_len test (map spot_at xs)) z) (Some (position_or_len test (map spot_at xs))) None) l))

pub ruleset spot_rules = (spots_begin, spots_more, spots_all)
