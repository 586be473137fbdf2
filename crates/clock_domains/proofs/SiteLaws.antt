-- The first process or memory that names a signal as a register, by its number.
use Rattle.std.proofs.Common.{◌≡◌, ℕ, zero, suc, ◌+◌, ◌<◌, ◌≤◌, ◌==◌, nat_lt, Bool, true, false, cond, if◌then◌else◌, List, [], ◌∷◌, ◌++◌, map, length, Option, Some, None, is_some, slice_index_or, refl, sym, ap, ◌∙◌, subst, arith}
use Rattle.std.specs.Prelude.{option_map}
use Rattle.std.specs.List.{AllByRecursion, filter}
use Rattle.std.proofs.lemmas.Bool.{false≢true}
use Rattle.std.proofs.lemmas.Bool.Decides.{nat_tests}
use Rattle.std.proofs.lemmas.List.{length-append}
use Rattle.design_ir.specs.declared.memory.Memory.{Memory}
use Rattle.design_ir.specs.declared.process.Process.{Process}
use Rattle.design_ir.specs.Pools.{Pooled}
use Rattle.design_ir.specs.Circuits.{is_among}
use Rattle.fragment_walks.specs.Reads.{is_driven}
use Rattle.fragment_walks.specs.Numbers.{lesser}
use Rattle.fragment_walks.proofs.Lists.{any_none, all_imp}
use Rattle.clock_domains.specs.Resolved.{clocked_data, is_clocked, memory_path, process_path}
use Rattle.clock_domains.specs.Firsts.{IsPlace, first_clocked, first_memory, first_site, path_at}
use Rattle.clock_domains.proofs.DesignSound.{not_equal}
use Rattle.clock_domains.proofs.FirstLaws.{first_is, first_place, path_is}

-- ---- memories

pub memory_path_is : (ms : List Memory) (paths : List (Option (List ℕ))) (s : ℕ) → path_at paths (first_memory ms s) ≡ memory_path ms paths s
memory_path_is [] paths s = refl
memory_path_is (m ∷ ms) [] s = nowhere (first_memory (m ∷ ms) s)
  where
    nowhere : (o : Option ℕ) → path_at [] o ≡ None
    nowhere None = refl
    nowhere (Some zero) = refl
    nowhere (Some (suc k)) = refl
memory_path_is (m ∷ ms) (path ∷ paths) s = split (is_among (clocked_data m) s) (first_memory ms s) (memory_path_is ms paths s)
  where
    split : (b : Bool) (o : Option ℕ) → path_at paths o ≡ memory_path ms paths s → path_at (path ∷ paths) (cond b (Some 0) (option_map (λ (k : ℕ). suc k) o)) ≡ cond b path (memory_path ms paths s)
    split true o h = refl
    split false None h = h
    split false (Some k) h = h

place_wider : (n : ℕ) (o : Option ℕ) → IsPlace n o → IsPlace (suc n) (option_map (λ (k : ℕ). suc k) o)
place_wider n None h = tt
place_wider n (Some k) h = omega (arith, h)

pub memory_place : (ms : List Memory) (s : ℕ) → IsPlace (length ms) (first_memory ms s)
memory_place [] s = tt
memory_place (m ∷ ms) s = split (is_among (clocked_data m) s) (place_wider (length ms) (first_memory ms s) (memory_place ms s))
  where
    split : (b : Bool) → IsPlace (suc (length ms)) (option_map (λ (k : ℕ). suc k) (first_memory ms s)) → IsPlace (suc (length ms)) (cond b (Some 0) (option_map (λ (k : ℕ). suc k) (first_memory ms s)))
    split true h = omega arith
    split false h = h

-- past the signals of the pool there is none
pub memory_none : (n : ℕ) (ms : List Memory) (s : ℕ) → AllByRecursion (λ (m : Memory). AllByRecursion (λ x. x < n) (clocked_data m)) ms → n ≤ s → first_memory ms s ≡ None
memory_none n [] s h le = refl
memory_none n (m ∷ ms) s h le =
    ap (λ b. cond b (Some 0) (option_map (λ (k : ℕ). suc k) (first_memory ms s))) (any_none (λ x. x == s) (clocked_data m) (all_imp (λ x low. not_equal x s (λ e. omega (arith, e, low, le))) (clocked_data m) h.0))
    ∙ ap (option_map (λ (k : ℕ). suc k)) (memory_none n ms s h.1 le)

-- ---- processes, and memories behind them

index_left : (xs ys : List (Option (List ℕ))) (k : ℕ) → k < length xs → slice_index_or (xs ++ ys) k None ≡ slice_index_or xs k None
index_left [] ys k h = absurd (omega (arith, h))
index_left (x ∷ xs) ys zero h = refl
index_left (x ∷ xs) ys (suc k) h = index_left xs ys k (omega (arith, h))

index_right : (xs ys : List (Option (List ℕ))) (n k : ℕ) → n ≡ length xs → slice_index_or (xs ++ ys) (n + k) None ≡ slice_index_or ys k None
index_right [] ys n k e = ap (λ j. slice_index_or ys j None) (let f : n + k ≡ k = omega (arith, e) in f)
index_right (x ∷ xs) ys zero k e = absurd (omega (arith, e))
index_right (x ∷ xs) ys (suc n) k e =
    ap (λ j. slice_index_or (x ∷ (xs ++ ys)) j None) (let f : suc n + k ≡ suc (n + k) = omega arith in f) ∙ index_right xs ys n k (omega (arith, e))

module _ (q : Pooled) (ps : List Process) (ms : List Memory) where
  -- the number of a process is the lesser
  first_stays : (m : ℕ) (o : Option ℕ) → m < length ps → lesser (Some m) (option_map (λ (k : ℕ). length ps + k) o) ≡ Some m
  first_stays m None low = refl
  first_stays m (Some k) low = ap (λ b. if b then Some (length ps + k) else Some m) (not_less (length ps + k) m (omega (arith, low)))
    where
      not_less : (a b : ℕ) → b ≤ a → nat_lt a b ≡ false
      not_less a b le = grind (arith, nat_tests)

  pub site_place : (s : ℕ) → IsPlace (length ps + length ms) (first_site q ps ms s)
  site_place s = by (first_clocked q ps s) (first_memory ms s) (first_place q ps s) (memory_place ms s)
    where
      by : (o u : Option ℕ) → IsPlace (length ps) o → IsPlace (length ms) u → IsPlace (length ps + length ms) (lesser o (option_map (λ (k : ℕ). length ps + k) u))
      by None None h k = tt
      by None (Some n) h k = omega (arith, k)
      by (Some m) u h k = subst (IsPlace (length ps + length ms)) (sym (first_stays m u h)) (omega (arith, h))

  pub site_none : (s : ℕ) → is_driven q (filter is_clocked ps) s ≡ false → first_memory ms s ≡ None → first_site q ps ms s ≡ None
  site_none s free none = by (first_clocked q ps s) (first_is q ps s ∙ free) ∙ ap (option_map (λ (k : ℕ). length ps + k)) none
    where
      by : (o : Option ℕ) → is_some o ≡ false → lesser o (option_map (λ (k : ℕ). length ps + k) (first_memory ms s)) ≡ option_map (λ (k : ℕ). length ps + k) (first_memory ms s)
      by None e = refl
      by (Some m) e = absurd (false≢true (sym e))

  pub site_path : (paths more : List (Option (List ℕ))) (s : ℕ) → length paths ≡ length ps → path_at (paths ++ more) (first_site q ps ms s) ≡ (if is_driven q (filter is_clocked ps) s then process_path q ps paths s else memory_path ms more s)
  site_path paths more s size = by (first_clocked q ps s) refl (first_place q ps s) (first_is q ps s) (path_is q ps paths s)
    where
      behind : (u : Option ℕ) → path_at more u ≡ memory_path ms more s → path_at (paths ++ more) (option_map (λ (k : ℕ). length ps + k) u) ≡ memory_path ms more s
      behind None e = e
      behind (Some k) e = index_right paths more (length ps) k (sym size) ∙ e

      by : (o : Option ℕ) → first_clocked q ps s ≡ o → IsPlace (length ps) o → is_some o ≡ is_driven q (filter is_clocked ps) s → path_at paths o ≡ process_path q ps paths s
          → path_at (paths ++ more) (lesser o (option_map (λ (k : ℕ). length ps + k) (first_memory ms s))) ≡ (if is_driven q (filter is_clocked ps) s then process_path q ps paths s else memory_path ms more s)
      by None f low is at = behind (first_memory ms s) (memory_path_is ms more s) ∙ ap (λ b. if b then process_path q ps paths s else memory_path ms more s) is
      by (Some m) f low is at =
          ap (path_at (paths ++ more)) (first_stays m (first_memory ms s) low)
          ∙ index_left paths more m (omega (arith, low, size))
          ∙ at
          ∙ ap (λ b. if b then process_path q ps paths s else memory_path ms more s) is
