-- Asynchronous resets, process by process: what is held then does not change which of them are 1.
use Rattle.std.specs.Prelude.{◌≡◌, refl, ℕ, zero, suc, ◌+◌, ◌<◌, ◌≤◌, if◌then◌else◌, ◌&&◌, cond, Bool, true, false, not, List, [], ◌∷◌, ◌++◌, filter, fold, length, slice_get, ℤ, Option, Some, None}
use Rattle.std.specs.List.{AllByRecursion, range_with_len}
use Rattle.std.proofs.Common.{sym, ◌∙◌, ap, arith, ⊎_elim, append-nil}
use Rattle.std.proofs.lemmas.Bool.{cases_Bool, cond_both}
use Rattle.std.proofs.lemmas.List.Elements.{filter-append}
use Rattle.shape_rules.specs.Operators.{is_zero}
use Rattle.design_ir.specs.declared.ids.DomainId.{DomainId}
use Rattle.design_ir.specs.declared.ids.SigId.{SigId}
use Rattle.design_ir.specs.declared.domain.Domain.{Domain}
use Rattle.design_ir.specs.declared.process.DesignProcess.{DesignProcess}
use Rattle.design_ir.specs.Guards.{driven}
use Rattle.design_ir.specs.Circuits.{Circuit, at, option_test, is_among}
use Rattle.design_ir.specs.Designs.{IsDesign, IsClockDomain, IsInputReset}
use Rattle.design_ir.specs.Steps.{is_cleared, is_reset, reset_all, cleared_at, cleared}
use Rattle.design_ir.proofs.Resets.{resets_other}
use Rattle.comb_graph.proofs.Undriven.{input_undriven}
use Rattle.sim_plans.specs.Plans.{is_async, is_clearable, clearable_processes}
use Rattle.sim_plans.proofs.EdgesFit.{all_get}
use Rattle.sim_plans.proofs.Rooting.{range_turn}

module _ (c : Circuit) (held : List ℤ) where
  -- a signal that no process drives keeps its number
  kept_at : (s : ℕ) (p : DesignProcess) (cur : List ℤ) (o : Option DomainId) → is_among (driven c.pool p.body) s ≡ false → at (cleared_at c held p cur o) s ≡ at cur s
  kept_at s p cur None free = refl
  kept_at s p cur (Some d) free =
      cond_both (is_cleared c held d.0) (reset_all c.pool.signals cur (driven c.pool p.body)) cur (λ xs. at xs s ≡ at cur s) (λ t. resets_other c.pool.signals (driven c.pool p.body) cur s free) (λ t. refl)

  pub clear_keeps : (s : ℕ) (p : DesignProcess) (cur : List ℤ) → is_among (driven c.pool p.body) s ≡ false → at (cleared c held cur p) s ≡ at cur s
  clear_keeps s p cur free = kept_at s p cur p.domain free

  -- ---- which resets are 1

  abbrev reset_of : List ℤ → Domain → Bool
  reset_of cur x = option_test (λ (s : SigId). not (is_zero (at cur s.0))) x.rst

  same_reset : IsDesign c → (cur : List ℤ) → ((s : ℕ) → AllByRecursion (λ (p : DesignProcess). is_among (driven c.pool p.body) s ≡ false) c.processes → at cur s ≡ at held s)
      → (o : Option SigId) → IsInputReset c o → option_test (λ (s : SigId). not (is_zero (at cur s.0))) o ≡ option_test (λ (s : SigId). not (is_zero (at held s.0))) o
  same_reset design cur same None is = refl
  same_reset design cur same (Some s) is = ap (λ n. not (is_zero n)) (same s.0 (input_undriven c s.0 design is))

  same_test : IsDesign c → (cur : List ℤ) → ((s : ℕ) → AllByRecursion (λ (p : DesignProcess). is_among (driven c.pool p.body) s ≡ false) c.processes → at cur s ≡ at held s)
      → (x : Domain) → IsClockDomain c x → (b : Bool) → x.async_reset ≡ b → (b && reset_of cur x) ≡ (b && reset_of held x)
  same_test design cur same x is false e = refl
  same_test design cur same x is true e = same_reset design cur same x.rst (is.async_input e)

  same_domain : IsDesign c → (cur : List ℤ) → ((s : ℕ) → AllByRecursion (λ (p : DesignProcess). is_among (driven c.pool p.body) s ≡ false) c.processes → at cur s ≡ at held s)
      → (d : ℕ) (o : Option Domain) → slice_get c.domains d ≡ o → (option_test (λ (x : Domain). x.async_reset) o && option_test (reset_of cur) o) ≡ (option_test (λ (x : Domain). x.async_reset) o && option_test (reset_of held) o)
  same_domain design cur same d None e = refl
  same_domain design cur same d (Some x) e = same_test design cur same x (all_get (IsClockDomain c) c.domains d x design.domains e) x.async_reset refl

  pub same_cleared : IsDesign c → (cur : List ℤ) → ((s : ℕ) → AllByRecursion (λ (p : DesignProcess). is_among (driven c.pool p.body) s ≡ false) c.processes → at cur s ≡ at held s) → (d : ℕ) → is_cleared c cur d ≡ is_cleared c held d
  same_cleared design cur same d = same_domain design cur same d (slice_get c.domains d) refl

  same_clear : IsDesign c → (cur : List ℤ) → ((s : ℕ) → AllByRecursion (λ (p : DesignProcess). is_among (driven c.pool p.body) s ≡ false) c.processes → at cur s ≡ at held s)
      → (p : DesignProcess) (o : Option DomainId) → cleared_at c cur p cur o ≡ cleared_at c held p cur o
  same_clear design cur same p None = refl
  same_clear design cur same p (Some d) = ap (λ b. if b then reset_all c.pool.signals cur (driven c.pool p.body) else cur) (same_cleared design cur same d.0)

  -- a process is cleared by what is held now as by what was held before
  pub clears_same : IsDesign c → (cur : List ℤ) → ((s : ℕ) → AllByRecursion (λ (p : DesignProcess). is_among (driven c.pool p.body) s ≡ false) c.processes → at cur s ≡ at held s) → (p : DesignProcess) → cleared c cur cur p ≡ cleared c held cur p
  clears_same design cur same p = same_clear design cur same p p.domain

-- ---- which processes may be cleared

-- the process with this number, where there is one
abbrev cleared_some : Circuit → List ℤ → List ℤ → Option DesignProcess → List ℤ
cleared_some c held cur None = cur
cleared_some c held cur (Some p) = cleared c held cur p

abbrev pub cleared_number : Circuit → List ℤ → List ℤ → ℕ → List ℤ
cleared_number c held cur k = cleared_some c held cur (slice_get c.processes k)

pub number_is : (c : Circuit) (held cur : List ℤ) (k : ℕ) (p : DesignProcess) → slice_get c.processes k ≡ Some p → cleared_number c held cur k ≡ cleared c held cur p
number_is c held cur k p is = ap (cleared_some c held cur) is

-- what changes nothing is left out
fold_filter : {A B : Type 0} (test : A → Bool) (f : B → A → B) → ((b : B) (x : A) → test x ≡ false → f b x ≡ b) → (xs : List A) (b : B) → fold f b (filter test xs) ≡ fold f b xs
fold_filter test f h [] b = refl
fold_filter test f h (x ∷ xs) b =
    ⊎_elim
    (λ (t : test x ≡ true). ap (λ y. fold f b (cond y (x ∷ filter test xs) (filter test xs))) t ∙ fold_filter test f h xs (f b x))
    (λ (t : test x ≡ false). ap (λ y. fold f b (cond y (x ∷ filter test xs) (filter test xs))) t ∙ fold_filter test f h xs b ∙ ap (λ y. fold f y xs) (sym (h b x t)))
    (cases_Bool (test x))

module _ (c : Circuit) (held : List ℤ) where
  stays_at : (p : DesignProcess) (cur : List ℤ) (o : Option DomainId) → option_test (is_async c) o ≡ false → cleared_at c held p cur o ≡ cur
  stays_at p cur None e = refl
  stays_at p cur (Some d) e = ap (λ b. if b && is_reset c held d.0 then reset_all c.pool.signals cur (driven c.pool p.body) else cur) e

  stays_some : (cur : List ℤ) (o : Option DesignProcess) → option_test (λ (p : DesignProcess). option_test (is_async c) p.domain) o ≡ false → cleared_some c held cur o ≡ cur
  stays_some cur None e = refl
  stays_some cur (Some p) e = stays_at p cur p.domain e

  by_numbers : (ps : List DesignProcess) (n : ℕ) (cur : List ℤ) → ((i : ℕ) → slice_get c.processes (n + i) ≡ slice_get ps i)
      → fold (cleared_number c held) cur (range_with_len n (length ps)) ≡ fold (cleared c held) cur ps
  by_numbers [] n cur stand = refl
  by_numbers (p ∷ ps) n cur stand =
      let first : n ≡ n + 0 = omega arith in
      let here : cleared_number c held cur n ≡ cleared c held cur p = ap (cleared_some c held cur) (ap (slice_get c.processes) first ∙ stand 0) in
      by_numbers ps (n + 1) (cleared_number c held cur n) (λ i. (let next : n + 1 + i ≡ n + suc i = omega arith in ap (slice_get c.processes) next) ∙ stand (suc i))
      ∙ ap (λ xs. fold (cleared c held) xs ps) here

  -- the others are as they were
  pub clearable_alone : (cur : List ℤ) → fold (cleared_number c held) cur (clearable_processes c) ≡ fold (cleared c held) cur c.processes
  clearable_alone cur =
      fold_filter (is_clearable c) (cleared_number c held) (λ xs k e. stays_some xs (slice_get c.processes k) e) (range_with_len 0 (length c.processes)) cur
      ∙ by_numbers c.processes 0 cur (λ i. let same : 0 + i ≡ i = omega arith in ap (slice_get c.processes) same)

-- ---- the list of them

range_next : (test : ℕ → Bool) (k : ℕ) → filter test (range_with_len 0 (k + 1)) ≡ filter test (range_with_len 0 k) ++ cond (test k) (k ∷ []) []
range_next test k =
    ap (filter test) (sym (range_turn k (range_with_len 0 k) (range_with_len 0 k ++ k ∷ []) refl refl)) ∙ filter-append test (range_with_len 0 k) (k ∷ [])

pub listed_more : (test : ℕ → Bool) (k : ℕ) (old new : List ℕ) → test k ≡ true → new ≡ old ++ k ∷ [] → old ≡ filter test (range_with_len 0 k) → new ≡ filter test (range_with_len 0 (k + 1))
listed_more test k old new is grown known =
    grown ∙ ap (λ xs. xs ++ k ∷ []) known ∙ ap (λ b. filter test (range_with_len 0 k) ++ cond b (k ∷ []) []) (sym is) ∙ sym (range_next test k)

pub listed_same : (test : ℕ → Bool) (k : ℕ) (old : List ℕ) → test k ≡ false → old ≡ filter test (range_with_len 0 k) → old ≡ filter test (range_with_len 0 (k + 1))
listed_same test k old is known =
    known ∙ sym (append-nil (filter test (range_with_len 0 k))) ∙ ap (λ b. filter test (range_with_len 0 k) ++ cond b (k ∷ []) []) (sym is) ∙ sym (range_next test k)

below_range : (n : ℕ) (test : ℕ → Bool) (m a : ℕ) → a + m ≤ n → AllByRecursion (λ k. k < n) (filter test (range_with_len a m))
below_range n test zero a le = tt
below_range n test (suc m) a le =
    let rest = below_range n test m (a + 1) (omega (arith, le)) in
    cond_both (test a) (a ∷ filter test (range_with_len (a + 1) m)) (filter test (range_with_len (a + 1) m)) (AllByRecursion (λ k. k < n)) (λ t. (omega (arith, le), rest)) (λ t. rest)

pub clearable_below : (c : Circuit) → AllByRecursion (λ k. k < length c.processes) (clearable_processes c)
clearable_below c = below_range (length c.processes) (is_clearable c) (length c.processes) 0 (omega arith)

-- a process that is cleared
pub clear_is : (c : Circuit) (held cur : List ℤ) (q : DesignProcess) (d : DomainId) → q.domain ≡ Some d → is_cleared c held d.0 ≡ true → cleared c held cur q ≡ reset_all c.pool.signals cur (driven c.pool q.body)
clear_is c held cur q d e r = ap (cleared_at c held q cur) e ∙ ap (λ b. if b then reset_all c.pool.signals cur (driven c.pool q.body) else cur) r
