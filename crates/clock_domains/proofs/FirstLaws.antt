-- The first clocked process that drives a signal, by its number.
use Rattle.std.proofs.Common.{◌≡◌, ℕ, zero, suc, Bool, true, false, ◌&&◌, ◌||◌, cond, List, [], ◌∷◌, length, Option, Some, None, is_some, refl, ap, ◌∙◌, arith}
use Rattle.std.specs.Prelude.{option_map}
use Rattle.std.specs.List.{filter}
use Rattle.design_ir.specs.declared.process.Process.{Process}
use Rattle.design_ir.specs.Pools.{Pooled}
use Rattle.design_ir.specs.Guards.{driven}
use Rattle.design_ir.specs.Circuits.{is_among}
use Rattle.fragment_walks.specs.Reads.{is_driven}
use Rattle.clock_domains.specs.Resolved.{first_of, is_clocked, process_path}
use Rattle.clock_domains.specs.Firsts.{IsPlace, first_clocked, path_at}

pub first_assoc : {A : Type 0} (a b c : Option A) → first_of (first_of a b) c ≡ first_of a (first_of b c)
first_assoc None b c = refl
first_assoc (Some x) b c = refl

pub first_one : {A : Type 0} (a : Option A) → first_of a None ≡ a
first_one None = refl
first_one (Some x) = refl

-- ---- what the numbers say

pub first_is : (q : Pooled) (ps : List Process) (s : ℕ) → is_some (first_clocked q ps s) ≡ is_driven q (filter is_clocked ps) s
first_is q [] s = refl
first_is q (p ∷ ps) s = split (is_clocked p) (is_among (driven q p.body) s) ∙ ap (λ b. (is_clocked p && is_among (driven q p.body) s) || b) (first_is q ps s) ∙ filtered (is_clocked p)
  where
    some_mapped : (o : Option ℕ) → is_some (option_map (λ (k : ℕ). suc k) o) ≡ is_some o
    some_mapped None = refl
    some_mapped (Some x) = refl

    split : (a b : Bool) → is_some (cond (a && b) (Some 0) (option_map (λ (k : ℕ). suc k) (first_clocked q ps s))) ≡ ((a && b) || is_some (first_clocked q ps s))
    split true true = refl
    split true false = some_mapped (first_clocked q ps s)
    split false b = some_mapped (first_clocked q ps s)

    filtered : (a : Bool) → ((a && is_among (driven q p.body) s) || is_driven q (filter is_clocked ps) s) ≡ is_driven q (cond a (p ∷ filter is_clocked ps) (filter is_clocked ps)) s
    filtered true = refl
    filtered false = refl

pub path_is : (q : Pooled) (ps : List Process) (paths : List (Option (List ℕ))) (s : ℕ) → path_at paths (first_clocked q ps s) ≡ process_path q ps paths s
path_is q [] paths s = refl
path_is q (p ∷ ps) [] s = nowhere (first_clocked q (p ∷ ps) s)
  where
    nowhere : (o : Option ℕ) → path_at [] o ≡ None
    nowhere None = refl
    nowhere (Some zero) = refl
    nowhere (Some (suc k)) = refl
path_is q (p ∷ ps) (path ∷ paths) s = split (is_clocked p && is_among (driven q p.body) s) (first_clocked q ps s) (path_is q ps paths s)
  where
    split : (b : Bool) (o : Option ℕ) → path_at paths o ≡ process_path q ps paths s → path_at (path ∷ paths) (cond b (Some 0) (option_map (λ (k : ℕ). suc k) o)) ≡ cond b path (process_path q ps paths s)
    split true o h = refl
    split false None h = h
    split false (Some k) h = h

pub place_wider : (n : ℕ) (o : Option ℕ) → IsPlace n o → IsPlace (suc n) (option_map (λ (k : ℕ). suc k) o)
place_wider n None h = tt
place_wider n (Some k) h = omega (arith, h)

pub first_place : (q : Pooled) (ps : List Process) (s : ℕ) → IsPlace (length ps) (first_clocked q ps s)
first_place q [] s = tt
first_place q (p ∷ ps) s = split (is_clocked p && is_among (driven q p.body) s) (place_wider (length ps) (first_clocked q ps s) (first_place q ps s))
  where
    split : (b : Bool) → IsPlace (suc (length ps)) (option_map (λ (k : ℕ). suc k) (first_clocked q ps s)) → IsPlace (suc (length ps)) (cond b (Some 0) (option_map (λ (k : ℕ). suc k) (first_clocked q ps s)))
    split true h = omega arith
    split false h = h
