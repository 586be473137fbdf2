-- The places that writes fill, also of writes that are cut, raised and tested.
use Rattle.std.specs.Prelude.{◌≡◌, ◌≢◌, refl, ℕ, ◌+◌, ◌-◌, ◌<◌, ◌≤◌, min, max, nat_lt, ◌==◌, ◌&&◌, Bool, true, false, if◌then◌else◌, List, [], ◌∷◌, ◌++◌, map, fold, ℤ, Some, None}
use Rattle.std.specs.List.{flat_map, filter_map, cons_option}
use Rattle.std.proofs.Common.{sym, ◌∙◌, ap, arith, ⊎_elim}
use Rattle.std.proofs.lemmas.Bool.{cond-true, cond-false, lt-ltb, le-ltb, eq-eqb, ne_eqb, cases_lt, false≢true}
use Rattle.std.proofs.lemmas.List.{map-append}
use Rattle.std.proofs.lemmas.List.Elements.{filter_map-append}
use Rattle.std.proofs.lemmas.List.Folds.{list_all-append}
use Rattle.design_ir.specs.Pools.{Pooled}
use Rattle.design_ir.specs.Targets.{Numbers}
use Rattle.design_ir.specs.Put.{put_bits}
use Rattle.design_ir.proofs.GuardLaws.{fold_append}
use Rattle.flat_design.specs.declared.writes.Test.{Test}
use Rattle.flat_design.specs.declared.writes.Write.{Write}
use Rattle.flat_design.specs.Activity.{test_holds, tests_hold}
use Rattle.flat_design.specs.Writes.{cut, raised, tested, written_bits, put_write}
use Rattle.flat_design.proofs.Placings.{Placing, run, lifted, window, put_placing, put_occupied, occupied_run, window_run, run_lifted}

-- ---- writes

module _ (p : Pooled) (env : List ℤ) where
  -- what a write fills where its tests hold
  abbrev pub filled : Write → List Placing
  filled w = if tests_hold p w.tests env then run w.from w.sig.0 w.low w.width else []

  abbrev pub placed : List Write → List Placing
  placed ws = flat_map filled ws

  put_filled : (b : Bool) (v : ℕ) (w : Write) (cur : List ℤ) → (if b then put_bits p (written_bits w) v w.from cur else cur) ≡ fold (put_placing p v) cur (if b then run w.from w.sig.0 w.low w.width else [])
  put_filled true v w cur = put_occupied p v (written_bits w) w.from cur ∙ ap (fold (put_placing p v) cur) (occupied_run w.from w.sig.0 w.low w.width)
  put_filled false v w cur = refl

  pub put_placed : (v : ℕ) (ws : List Write) (cur : List ℤ) → fold (put_write p env v) cur ws ≡ fold (put_placing p v) cur (placed ws)
  put_placed v [] cur = refl
  put_placed v (w ∷ ws) cur =
      put_placed v ws (put_write p env v cur w)
      ∙ ap (λ c. fold (put_placing p v) c (placed ws)) (put_filled (tests_hold p w.tests env) v w cur)
      ∙ sym (fold_append (put_placing p v) cur (filled w) (placed ws))

  -- ---- cut

  placed_option : (t : Bool) (w : Write) (ws : List Write) → placed (cons_option (if t then Some w else None) ws) ≡ (if t then filled w else []) ++ placed ws
  placed_option true w ws = refl
  placed_option false w ws = refl

  none_left : (a b c d e : ℕ) → (if nat_lt a b then run c d e (b - a) else []) ≡ run c d e (b - a)
  none_left a b c d e =
      ⊎_elim
      (λ (h : a < b). cond-true (nat_lt a b) (run c d e (b - a)) [] (lt-ltb a b h))
      (λ (h : b ≤ a). cond-false (nat_lt a b) (run c d e (b - a)) [] (le-ltb a b h) ∙ ap (run c d e) (let z : 0 ≡ b - a = omega (arith, h) in z))
      (cases_lt a b)

  both_none : (t : Bool) → ◌≡◌ {A = List Placing} (if t then [] else []) []
  both_none true = refl
  both_none false = refl

  cut_filled : (b : Bool) (low width i sig from n : ℕ)
      → (if nat_lt (max i low) (min (i + n) (low + width)) then if b then run (max i low - low) sig (from + (max i low - i)) (min (i + n) (low + width) - max i low) else [] else []) ≡ filter_map (window low width) (if b then run i sig from n else [])
  cut_filled true low width i sig from n = none_left (max i low) (min (i + n) (low + width)) (max i low - low) sig (from + (max i low - i)) ∙ sym (window_run low width i sig from n)
  cut_filled false low width i sig from n = both_none (nat_lt (max i low) (min (i + n) (low + width)))

  pub placed_cut : (low width : ℕ) (ws : List Write) → placed (filter_map (cut low width) ws) ≡ filter_map (window low width) (placed ws)
  placed_cut low width [] = refl
  placed_cut low width (w ∷ ws) =
      placed_option (nat_lt (max w.from low) (min (w.from + w.width) (low + width))) (record w { from = max w.from low - low; low = w.low + (max w.from low - w.from); width = min (w.from + w.width) (low + width) - max w.from low }) (filter_map (cut low width) ws)
      ∙ (λ t. cut_filled (tests_hold p w.tests env) low width w.from w.sig.0 w.low w.width t ++ placed_cut low width ws t)
      ∙ sym (filter_map-append (window low width) (filled w) (placed ws))

  -- ---- raised

  raised_filled : (b : Bool) (by : ℕ) (w : Write) → (if b then run (by + w.from) w.sig.0 w.low w.width else []) ≡ map (lifted by) (if b then run w.from w.sig.0 w.low w.width else [])
  raised_filled true by w = run_lifted by w.from (by + w.from) w.sig.0 w.low w.width refl
  raised_filled false by w = refl

  pub placed_raised : (by : ℕ) (ws : List Write) → placed (map (raised by) ws) ≡ map (lifted by) (placed ws)
  placed_raised by [] = refl
  placed_raised by (w ∷ ws) = (λ t. raised_filled (tests_hold p w.tests env) by w t ++ placed_raised by ws t) ∙ sym (map-append (lifted by) (filled w) (placed ws))

  -- ---- tested

  and_more : (tests : List Test) (t : Test) → tests_hold p (tests ++ t ∷ []) env ≡ (tests_hold p tests env && (test_holds p env t && true))
  and_more tests t = list_all-append (test_holds p env) tests (t ∷ [])

  and_all : (b : Bool) → (b && (true && true)) ≡ b
  and_all true = refl
  and_all false = refl

  and_none : (b : Bool) → (b && (false && true)) ≡ false
  and_none true = refl
  and_none false = refl

  module _ (n : Numbers) (t : Test) where
    untested : (b : Bool) (w : Write) → b ≡ true → filled (if b then w else record w { tests = w.tests ++ t ∷ [] }) ≡ filled w
    untested true w e = refl
    untested false w e = absurd (false≢true e)

    -- a test that holds, or none
    kept : (b : Bool) (w : Write) → test_holds p env t ≡ true → filled (if b then w else record w { tests = w.tests ++ t ∷ [] }) ≡ filled w
    kept true w e = refl
    kept false w e = ap (λ c. if c then run w.from w.sig.0 w.low w.width else []) (and_more w.tests t ∙ ap (λ c. tests_hold p w.tests env && (c && true)) e ∙ and_all (tests_hold p w.tests env))

    lost : (b : Bool) (w : Write) → b ≡ false → test_holds p env t ≡ false → filled (if b then w else record w { tests = w.tests ++ t ∷ [] }) ≡ []
    lost true w e f = absurd (false≢true (sym e))
    lost false w e f = ap (λ c. if c then run w.from w.sig.0 w.low w.width else []) (and_more w.tests t ∙ ap (λ c. tests_hold p w.tests env && (c && true)) f ∙ and_none (tests_hold p w.tests env))

    pub placed_untested : (ws : List Write) → n.least ≡ n.greatest → placed (map (tested n t) ws) ≡ placed ws
    placed_untested [] e = refl
    placed_untested (w ∷ ws) e = λ i. untested (n.least == n.greatest) w (eq-eqb n.least n.greatest e) i ++ placed_untested ws e i

    pub placed_kept : (ws : List Write) → test_holds p env t ≡ true → placed (map (tested n t) ws) ≡ placed ws
    placed_kept [] e = refl
    placed_kept (w ∷ ws) e = λ i. kept (n.least == n.greatest) w e i ++ placed_kept ws e i

    pub placed_lost : (ws : List Write) → n.least ≢ n.greatest → test_holds p env t ≡ false → placed (map (tested n t) ws) ≡ []
    placed_lost [] e f = refl
    placed_lost (w ∷ ws) e f = λ i. lost (n.least == n.greatest) w (ne_eqb n.least n.greatest e) f i ++ placed_lost ws e f i
