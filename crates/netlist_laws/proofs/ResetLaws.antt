-- What a reset leaves of a register: its init, but where it is reset-less.
use Rattle.std.specs.Prelude.{◌≡◌, ◌≢◌, refl, ℕ, ◌<◌, ◌==◌, ◌⊎◌, Bool, true, false, not, cond, List, [], ◌∷◌, length, slice_get, slice_set, ℤ, pos, Option, Some, None, option_map, option_and_then, unwrap_or}
use Rattle.std.proofs.Common.{sym, ◌∙◌, ap, arith, subst, ⊎_elim, inl, inr}
use Rattle.std.proofs.lemmas.Bool.{false≢true, or_parts, or_cases, cond_both, cases_eq, eqb-true, eqb-false}
use Rattle.std.proofs.lemmas.List.{length-set, get_or-set_same, get_or-set_other}
use Rattle.shape_rules.specs.Operators.{is_zero}
use Rattle.design_ir.specs.declared.ids.SigId.{SigId}
use Rattle.design_ir.specs.declared.ids.DomainId.{DomainId}
use Rattle.design_ir.specs.declared.signal.Sig.{Sig}
use Rattle.design_ir.specs.declared.domain.Domain.{Domain}
use Rattle.design_ir.specs.Circuits.{Circuit, at, is_among, option_test}
use Rattle.design_ir.specs.Steps.{reset_to, reset_all, is_reset}
use Rattle.netlist_laws.specs.Module.{reset_of}

-- ---- what a reset leaves

module _ (sigs : List Sig) (s : ℕ) where
  length-reset_to : (t : ℕ) (cur : List ℤ) (o : Option Sig) → length (reset_to t cur o) ≡ length cur
  length-reset_to t cur None = refl
  length-reset_to t cur (Some y) = cond_both y.reset_less cur (slice_set cur t y.init) (λ xs. length xs ≡ length cur) (λ e. refl) (λ e. length-set cur t y.init)

  pub length-reset_all : (ss : List ℕ) (cur : List ℤ) → length (reset_all sigs cur ss) ≡ length cur
  length-reset_all [] cur = refl
  length-reset_all (t ∷ ss) cur = length-reset_all ss (reset_to t cur (slice_get sigs t)) ∙ length-reset_to t cur (slice_get sigs t)

  reset_to-other : (t : ℕ) (cur : List ℤ) (o : Option Sig) → s ≢ t → at (reset_to t cur o) s ≡ at cur s
  reset_to-other t cur None apart = refl
  reset_to-other t cur (Some y) apart =
      cond_both y.reset_less cur (slice_set cur t y.init) (λ xs. at xs s ≡ at cur s) (λ e. refl) (λ e. get_or-set_other cur t s y.init (pos 0) apart)

  pub reset_all-other : (ss : List ℕ) (cur : List ℤ) → is_among ss s ≡ false → at (reset_all sigs cur ss) s ≡ at cur s
  reset_all-other [] cur e = refl
  reset_all-other (t ∷ ss) cur e =
      let parts = or_parts (t == s) (is_among ss s) e in
      reset_all-other ss (reset_to t cur (slice_get sigs t)) parts.1 ∙ reset_to-other t cur (slice_get sigs t) (λ same. eqb-false t s parts.0 (sym same))

  module _ (x : Sig) (is : slice_get sigs s ≡ Some x) where
    own : (cur : List ℤ) → at (reset_to s cur (slice_get sigs s)) s ≡ at (cond x.reset_less cur (slice_set cur s x.init)) s
    own cur = ap (λ o. at (reset_to s cur o) s) is

    -- a fact of the signal's number after one reset, by whether it is the signal's
    by_signal : (P : ℤ → Type 0) (t : ℕ) (cur : List ℤ) → P (at (cond x.reset_less cur (slice_set cur s x.init)) s) → P (at cur s) → P (at (reset_to t cur (slice_get sigs t)) s)
    by_signal P t cur mine others = ⊎_elim
        (λ (e : s ≡ t). subst (λ u. P (at (reset_to u cur (slice_get sigs u)) s)) e (subst P (sym (own cur)) mine))
        (λ (e : s ≢ t). subst P (sym (reset_to-other t cur (slice_get sigs t) e)) others)
        (cases_eq s t)

    pub reset_all-less : x.reset_less ≡ true → (ss : List ℕ) (cur : List ℤ) → at (reset_all sigs cur ss) s ≡ at cur s
    reset_all-less less [] cur = refl
    reset_all-less less (t ∷ ss) cur =
        reset_all-less less ss (reset_to t cur (slice_get sigs t))
        ∙ by_signal (λ z. z ≡ at cur s) t cur (ap (λ b. at (cond b cur (slice_set cur s x.init)) s) less) refl

    module _ (full : x.reset_less ≡ false) where
      put_init : (cur : List ℤ) → s < length cur → at (cond x.reset_less cur (slice_set cur s x.init)) s ≡ x.init
      put_init cur there = ap (λ b. at (cond b cur (slice_set cur s x.init)) s) full ∙ get_or-set_same cur s x.init (pos 0) there

      there_still : (t : ℕ) (cur : List ℤ) → s < length cur → s < length (reset_to t cur (slice_get sigs t))
      there_still t cur there = omega (arith, there, length-reset_to t cur (slice_get sigs t))

      stays : (ss : List ℕ) (cur : List ℤ) → s < length cur → at cur s ≡ x.init → at (reset_all sigs cur ss) s ≡ x.init
      stays [] cur there e = e
      stays (t ∷ ss) cur there e =
          stays ss (reset_to t cur (slice_get sigs t)) (there_still t cur there) (by_signal (λ z. z ≡ x.init) t cur (put_init cur there) e)

      pub reset_all-full : (ss : List ℕ) (cur : List ℤ) → s < length cur → is_among ss s ≡ true → at (reset_all sigs cur ss) s ≡ x.init
      reset_all-full [] cur there e = absurd (false≢true e)
      reset_all-full (t ∷ ss) cur there e = ⊎_elim
          (λ (same : (t == s) ≡ true). stays ss (reset_to t cur (slice_get sigs t)) (there_still t cur there)
          (subst (λ u. at (reset_to u cur (slice_get sigs u)) s ≡ x.init) (sym (eqb-true t s same)) (own cur ∙ put_init cur there)))
          (λ (more : is_among ss s ≡ true). reset_all-full ss (reset_to t cur (slice_get sigs t)) (there_still t cur there) more)
          (or_cases (t == s) (is_among ss s) e)

-- ---- the reset of a domain

rst_of : Option Domain → Option ℕ
rst_of o = option_and_then (λ (x : Domain). option_map (λ (r : SigId). r.0) x.rst) o

-- the domain with a reset, and its signal
pub record IsResetOf (c : Circuit) (d : DomainId) (r : ℕ) : Type 0 where
  pub domain : Domain
  pub signal : SigId
  pub listed : slice_get c.domains d.0 ≡ Some domain
  pub has : domain.rst ≡ Some signal
  pub number : signal.0 ≡ r

module _ (c : Circuit) (d : DomainId) (env : List ℤ) where
  by_rst : (r : ℕ) (x : Domain) (y : Option SigId) → slice_get c.domains d.0 ≡ Some x → x.rst ≡ y → option_map (λ (q : SigId). q.0) y ≡ Some r → IsResetOf c d r
  by_rst r x None l e h = cc
  by_rst r x (Some q) l e h = let same : q.0 ≡ r = cc in record { domain = x; signal = q; listed = l; has = e; number = same }

  by_domain : (r : ℕ) (o : Option Domain) → slice_get c.domains d.0 ≡ o → rst_of o ≡ Some r → IsResetOf c d r
  unfolding rst_of
  by_domain r None l h = cc
  by_domain r (Some x) l h = by_rst r x x.rst l refl h

  no_rst : (y : Option SigId) → option_map (λ (q : SigId). q.0) y ≡ None → option_test (λ (q : SigId). not (is_zero (at env q.0))) y ≡ false
  no_rst None h = refl
  no_rst (Some q) h = cc

  no_domain : (o : Option Domain) → rst_of o ≡ None → option_test (λ (x : Domain). option_test (λ (q : SigId). not (is_zero (at env q.0))) x.rst) o ≡ false
  unfolding rst_of
  no_domain None h = refl
  no_domain (Some x) h = no_rst x.rst h

  pub is_reset-of : (r : ℕ) → IsResetOf c d r → is_reset c env d.0 ≡ not (is_zero (at env r))
  is_reset-of r h =
      ap (option_test (λ (x : Domain). option_test (λ (q : SigId). not (is_zero (at env q.0))) x.rst)) h.listed
      ∙ ap (option_test (λ (q : SigId). not (is_zero (at env q.0)))) h.has
      ∙ ap (λ n. not (is_zero (at env n))) h.number

  -- ---- the reset that a register heeds

  module _ (s : ℕ) (x : Sig) (is : slice_get c.pool.signals s ≡ Some x) where
    reset_of_is : reset_of c s d ≡ cond x.reset_less None (rst_of (slice_get c.domains d.0))
    unfolding rst_of
    reset_of_is = ap (λ o. cond (unwrap_or (option_map (λ (y : Sig). y.reset_less) o) true) None (option_and_then (λ (y : Domain). option_map (λ (r : SigId). r.0) y.rst) (slice_get c.domains d.0))) is

    some_heeded : (r : ℕ) (t : Bool) → x.reset_less ≡ t → cond t None (rst_of (slice_get c.domains d.0)) ≡ Some r → (x.reset_less ≡ false) × IsResetOf c d r
    some_heeded r true e h = cc
    some_heeded r false e h = (e, by_domain r (slice_get c.domains d.0) refl h)

    pub reset_of-some : (r : ℕ) → reset_of c s d ≡ Some r → (x.reset_less ≡ false) × IsResetOf c d r
    reset_of-some r h = some_heeded r x.reset_less refl (sym reset_of_is ∙ h)

    none_heeded : (t : Bool) → x.reset_less ≡ t → cond t None (rst_of (slice_get c.domains d.0)) ≡ None → (x.reset_less ≡ true) ⊎ (is_reset c env d.0 ≡ false)
    none_heeded true e h = inl e
    none_heeded false e h = inr (no_domain (slice_get c.domains d.0) h)

    -- a register that heeds none is reset-less, or its domain is not reset
    pub reset_of-none : reset_of c s d ≡ None → (x.reset_less ≡ true) ⊎ (is_reset c env d.0 ≡ false)
    reset_of-none h = none_heeded x.reset_less refl (sym reset_of_is ∙ h)
