-- In a design with an order of its comb bits, round after round one bit more stays, until all do.
use Rattle.std.specs.Prelude.{◌≡◌, ℕ, zero, suc, ◌<◌, true, false, List, [], length, slice_get, ℤ, Some}
use Rattle.std.proofs.Common.{sym, ◌∙◌, ap, arith, subst, ⊎_elim}
use Rattle.std.proofs.lemmas.Bool.{cases_Bool}
use Rattle.amh_bits.specs.Patterns.{int_bit}
use Rattle.design_ir.specs.PoolRules.{IsPool}
use Rattle.design_ir.specs.Designs.{IsDesign}
use Rattle.design_ir.specs.Targets.{Bit}
use Rattle.design_ir.specs.Settled.{delta, Settled}
use Rattle.design_ir.specs.Loops.{Needs}
use Rattle.design_ir.specs.Circuits.{Circuit, State, at}
use Rattle.design_ir.proofs.NumbersFit.{FitsSignals}
use Rattle.comb_graph.specs.Orders.{is_comb, IsCombBit, IsOrder}
use Rattle.comb_graph.specs.Laws.{FitsState, SettlesOnce, rounds}
use Rattle.digraph.proofs.Members.{all_at}
use Rattle.comb_graph.proofs.SameNumbers.{IsWhole, numbers_same}
use Rattle.comb_graph.proofs.PoolBits.{IsShared}
use Rattle.comb_graph.proofs.DeltaLaws.{delta_length, delta_fits, delta_other, delta_shared}
use Rattle.comb_graph.proofs.Positions.{position_of, behind_at}

module _ (c : Circuit) (order : List Bit) (rules : IsPool c.pool) (design : IsDesign c) (ordered : IsOrder c order) (st : State) (fit : FitsState c st) where
  -- the first n bits of the order, and all that are not comb, are the same in both
  record IsSameTo (n : ℕ) (E F : List ℤ) : Type 0 where
    first : (i : ℕ) (b : Bit) → i < n → slice_get order i ≡ Some b → int_bit (at E b.sig) b.index ≡ int_bit (at F b.sig) b.index
    others : (s : ℕ) → is_comb c s ≡ false → at E s ≡ at F s

  needed_shared : (n : ℕ) (E F : List ℤ) (i : ℕ) (b x : Bit) → IsSameTo n E F → i < suc n → slice_get order i ≡ Some b → Needs c b x → IsShared c.pool E F x
  needed_shared n E F i b x same below e needs here =
      ⊎_elim
      (λ (comb : is_comb c x.sig ≡ true). let before = behind_at c order ordered i b x e (record { comb = comb; inside = here }) needs in same.first before.0 x (omega (arith, before.1, below)) before.2)
      (λ (not_comb : is_comb c x.sig ≡ false). ap (λ z. int_bit z x.index) (same.others x.sig not_comb))
      (cases_Bool (is_comb c x.sig))

  -- a round more keeps one bit more
  next : (n : ℕ) (E F : List ℤ) → FitsSignals c.pool E → FitsSignals c.pool F → IsSameTo n E F → IsSameTo (suc n) (delta c st E) (delta c st F)
  next n E F left right same = record {
    first = λ i b below e.
        let comb : IsCombBit c b = all_at (IsCombBit c) order i b ordered.only e in
        delta_shared c st rules design E F b left right comb.inside (λ x needs. needed_shared n E F i b x same below e needs);
    others = delta_other c st rules design E F;
  }

  -- where all bits of the order are the same, all numbers are
  all_same : (E F : List ℤ) → IsWhole c E → IsWhole c F → IsSameTo (length order) E F → E ≡ F
  all_same E F left right same =
      numbers_same c E F left right (λ b comb. let place = position_of order b (ordered.all b comb) in same.first place.0 b place.1 place.2) same.others

  -- ---- one environment at most

  round_whole : (env : List ℤ) → IsWhole c (delta c st env)
  round_whole env = record { fits = delta_fits c st rules design fit env; long = delta_length c st rules design env }

  settled_whole : (E : List ℤ) → Settled c st E → IsWhole c E
  settled_whole E e = subst (IsWhole c) e (round_whole E)

  settled_same : (E F : List ℤ) → Settled c st E → Settled c st F → (n : ℕ) → IsSameTo n E F
  settled_same E F e f zero = record {
    first = λ i b below is. absurd (omega (arith, below));
    others = λ s not_comb. ap (λ x. at x s) (sym e) ∙ delta_other c st rules design E F s not_comb ∙ ap (λ x. at x s) f;
  }
  settled_same E F e f (suc n) =
      subst (λ x. IsSameTo (suc n) x F) e (subst (IsSameTo (suc n) (delta c st E)) f (next n E F (settled_whole E e).fits (settled_whole F f).fits (settled_same E F e f n)))

  -- ---- and one at least

  -- a round and n more, from nothing
  after : ℕ → List ℤ
  after n = rounds c st (suc n) []

  after_whole : (n : ℕ) → IsWhole c (after n)
  unfolding after
  after_whole n = round_whole (rounds c st n [])

  -- n more keep n bits
  after_same : (n : ℕ) → IsSameTo n (after n) (after (suc n))
  unfolding after
  after_same zero = record { first = λ i b below is. absurd (omega (arith, below)); others = delta_other c st rules design [] (delta c st []) }
  after_same (suc n) = next n (after n) (after (suc n)) (after_whole n).fits (after_whole (suc n)).fits (after_same n)

  pub settles_once : SettlesOnce c st
  unfolding after
  settles_once =
      let n : ℕ = length order in
      let env : List ℤ = after n in
      let settled : Settled c st env = sym (all_same env (after (suc n)) (after_whole n) (after_whole (suc n)) (after_same n)) in
      record {
        env = env;
        settled = settled;
        fits = (after_whole n).fits;
        only = λ other is. all_same other env (settled_whole other is) (after_whole n) (settled_same other env is settled n);
      }
