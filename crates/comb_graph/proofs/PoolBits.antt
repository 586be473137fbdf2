-- The bits that are needed decide the bits of every expression of a pool.
use Rattle.std.specs.Prelude.{◌≡◌, ℕ, zero, suc, ◌<◌, ◌≤◌, List, [], ◌∷◌, length, ℤ, pos}
use Rattle.std.specs.List.{AllByRecursion}
use Rattle.std.proofs.Common.{sym, ◌∙◌, ap, arith, ⊎_elim}
use Rattle.std.proofs.lemmas.Bool.{cases_lt}
use Rattle.amh_bits.specs.Patterns.{int_bit}
use Rattle.shape_rules.specs.Forms.{unsigned}
use Rattle.design_ir.specs.declared.ids.ExprId.{ExprId}
use Rattle.design_ir.specs.Named.{named, AllBelow}
use Rattle.design_ir.specs.Pools.{Pooled}
use Rattle.design_ir.specs.PoolRules.{IsPool}
use Rattle.design_ir.specs.Targets.{Bit}
use Rattle.design_ir.specs.Values.{form, form_step, num, value_step, signal_form}
use Rattle.design_ir.specs.Needed.{extended, needed, needed_whole}
use Rattle.design_ir.specs.Circuits.{at}
pub use Rattle.design_ir.proofs.Answers.{answer_past}
use Rattle.design_ir.proofs.Equations.{standing, form_is, num_is}
use Rattle.design_ir.proofs.NumbersFit.{FitsSignals, element, num_fits}
use Rattle.comb_graph.proofs.Decided.{IsDecided, whole_same, extended_same}
use Rattle.comb_graph.proofs.ExpressionBits.{step_same}
use Rattle.comb_graph.proofs.NeededBits.{needed_is}

-- ---- what is not of the pool

pub form_past : (p : Pooled) (k : ℕ) → length p.exprs ≤ k → form p k ≡ unsigned 0
unfolding form
form_past p k h = answer_past (unsigned 0) (form_step p.signals) p.exprs k h

pub num_past : (p : Pooled) (env : List ℤ) (k : ℕ) → length p.exprs ≤ k → num p env k ≡ pos 0
unfolding num
num_past p env k h = answer_past (pos 0) (value_step (form p) env) p.exprs k h

-- ---- bits of signals that two environments share

-- where it is a bit of its signal, both have it
abbrev pub IsShared : Pooled → List ℤ → List ℤ → Bit → Type 0
IsShared p E F b = b.index < (signal_form p.signals b.sig).width → int_bit (at E b.sig) b.index ≡ int_bit (at F b.sig) b.index

module _ (p : Pooled) (E F : List ℤ) (rules : IsPool p) (left : FitsSignals p E) (right : FitsSignals p F) where
  abbrev IsKnown : ExprId → Type 0
  IsKnown e = IsDecided (IsShared p E F) (form p e.0) (needed p e.0) (num p E e.0) (num p F e.0)

  all_known : (k : ℕ) (es : List ExprId) → AllBelow k es → ((e : ExprId) → e.0 < k → IsKnown e) → AllByRecursion IsKnown es
  all_known k [] h each = tt
  all_known k (e ∷ es) h each = (each e h.0, all_known k es h.1 each)

  up_to : (n : ℕ) (e : ExprId) → e.0 < n → e.0 < length p.exprs → IsKnown e
  up_to zero e below there = absurd (omega (arith, below))
  up_to (suc n) e below there =
      let x = element p.exprs e.0 there in
      let stands = standing p e.0 x.0 rules x.1 in
      let earlier = all_known e.0 (named x.0) stands.names (λ a lt. up_to n a (omega (arith, below, lt)) (omega (arith, there, lt))) in
      record {
        left = num_fits p E rules left e there;
        right = num_fits p F rules right e there;
        same = λ k h all.
            rw (num_is p E e.0 x.0 rules x.1, num_is p F e.0 x.0 rules x.1)
            (step_same (IsShared p E F) p.signals E F (λ s k inside shared. shared inside) (form p) (needed p) (num p E) (num p F) x.0 k stands.askable.parts earlier
            (rw (form_is p e.0 x.0 rules x.1) at h) (rw (needed_is p e.0 x.0 rules x.1) at all));
      }

  known : (e : ExprId) → e.0 < length p.exprs → IsKnown e
  known e there = up_to (suc e.0) e (omega arith) there

  none_known : (e : ExprId) → length p.exprs ≤ e.0 → num p E e.0 ≡ num p F e.0
  none_known e past = num_past p E e.0 past ∙ sym (num_past p F e.0 past)

  -- where every bit that it needs is shared, an expression has one number
  pub num_shared : (e : ExprId) → AllByRecursion (IsShared p E F) (needed_whole p e) → num p E e.0 ≡ num p F e.0
  num_shared e all =
      ⊎_elim
      (λ there. whole_same (IsShared p E F) (form p e.0) (needed p e.0) (num p E e.0) (num p F e.0) (known e there) all)
      (λ past. none_known e past)
      (cases_lt e.0 (length p.exprs))

  -- and bit k, also past its width, where every bit is shared that this one needs
  pub num_bit_shared : (e : ExprId) (k : ℕ) → AllByRecursion (IsShared p E F) (extended (form p e.0) (needed p e.0) k) → int_bit (num p E e.0) k ≡ int_bit (num p F e.0) k
  num_bit_shared e k all =
      ⊎_elim
      (λ there. extended_same (IsShared p E F) (form p e.0) (needed p e.0) (num p E e.0) (num p F e.0) k (known e there) all)
      (λ past. ap (λ n. int_bit n k) (none_known e past))
      (cases_lt e.0 (length p.exprs))
