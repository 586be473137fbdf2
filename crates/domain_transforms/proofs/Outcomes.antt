-- What comes of a wrapper, where a count decides on it.
use Rattle.std.proofs.Common.{◌≡◌, true, false, ap, ◌∙◌, subst}
use Rattle.std.specs.Prelude.{nat_lt, length, Result, Ok, Err, IfOk, IfErr, OnOk}
use Rattle.design_ir.specs.declared.fragment.Fragment.{Fragment}
use Rattle.design_ir.specs.Pools.{Pooled}
use Rattle.domain_transforms.specs.declared.stop.ControlStop.{ControlStop}
use Rattle.domain_transforms.specs.declared.stop.ControlStop.TheVariants.{Limit}
use Rattle.domain_transforms.specs.Counted.{is_past}

module _ (r : Result Fragment ControlStop) (made : Fragment × Pooled) (f : Fragment) (new : Pooled) (is : (f, new) ≡ made) where
  pub given : IfOk r (λ g. (g ≡ f) × (is_past new f ≡ false)) → IfOk r (λ g. (g, new) ≡ made)
  given = by r
    where
      by : (r : Result Fragment ControlStop) → IfOk r (λ g. (g ≡ f) × (is_past new f ≡ false)) → IfOk r (λ g. (g, new) ≡ made)
      by (Ok g) h = ap (λ x. (x, new)) h.0 ∙ is
      by (Err e) h = tt

  pub room : IfOk r (λ g. (g ≡ f) × (is_past new f ≡ false)) → OnOk r (is_past made.1 made.0 ≡ false)
  room = by r
    where
      by : (r : Result Fragment ControlStop) → IfOk r (λ g. (g ≡ f) × (is_past new f ≡ false)) → OnOk r (is_past made.1 made.0 ≡ false)
      by (Ok g) h = subst (λ (m : Fragment × Pooled). is_past m.1 m.0 ≡ false) is h.1
      by (Err e) h = tt

  pub limit : IfErr r (λ stop. (stop ≡ Limit) × (is_past new f ≡ true)) → IfErr r (λ stop. stop ≡ Limit → is_past made.1 made.0 ≡ true)
  limit = by r
    where
      by : (r : Result Fragment ControlStop) → IfErr r (λ stop. (stop ≡ Limit) × (is_past new f ≡ true)) → IfErr r (λ stop. stop ≡ Limit → is_past made.1 made.0 ≡ true)
      by (Ok g) h = tt
      by (Err e) h = λ same. subst (λ (m : Fragment × Pooled). is_past m.1 m.0 ≡ true) is h.1

-- ---- where the pool's count alone decides

module _ (r : Result Fragment ControlStop) (made : Fragment × Pooled) (f : Fragment) (new : Pooled) (is : (f, new) ≡ made) where
  pub given_ample : IfOk r (λ g. (g ≡ f) × (nat_lt 262144 (length new.exprs) ≡ false)) → IfOk r (λ g. (g, new) ≡ made)
  given_ample = by r
    where
      by : (r : Result Fragment ControlStop) → IfOk r (λ g. (g ≡ f) × (nat_lt 262144 (length new.exprs) ≡ false)) → IfOk r (λ g. (g, new) ≡ made)
      by (Ok g) h = ap (λ x. (x, new)) h.0 ∙ is
      by (Err e) h = tt

  pub room_ample : IfOk r (λ g. (g ≡ f) × (nat_lt 262144 (length new.exprs) ≡ false)) → OnOk r (nat_lt 262144 (length made.1.exprs) ≡ false)
  room_ample = by r
    where
      by : (r : Result Fragment ControlStop) → IfOk r (λ g. (g ≡ f) × (nat_lt 262144 (length new.exprs) ≡ false)) → OnOk r (nat_lt 262144 (length made.1.exprs) ≡ false)
      by (Ok g) h = subst (λ (m : Fragment × Pooled). nat_lt 262144 (length m.1.exprs) ≡ false) is h.1
      by (Err e) h = tt

  pub limit_ample : IfErr r (λ stop. (stop ≡ Limit) × (nat_lt 262144 (length new.exprs) ≡ true)) → IfErr r (λ stop. stop ≡ Limit → nat_lt 262144 (length made.1.exprs) ≡ true)
  limit_ample = by r
    where
      by : (r : Result Fragment ControlStop) → IfErr r (λ stop. (stop ≡ Limit) × (nat_lt 262144 (length new.exprs) ≡ true)) → IfErr r (λ stop. stop ≡ Limit → nat_lt 262144 (length made.1.exprs) ≡ true)
      by (Ok g) h = tt
      by (Err e) h = λ same. subst (λ (m : Fragment × Pooled). nat_lt 262144 (length m.1.exprs) ≡ true) is h.1
