-- After as many rounds as bits stand on the longest chain of needs, nothing changes any more.
use Rattle.std.specs.Prelude.{◌≡◌, refl, ℕ, zero, suc, ◌<◌, true, false, List, [], ◌∷◌, length, ℤ}
use Rattle.std.proofs.Common.{sym, ap, arith, ⊎_elim}
use Rattle.std.proofs.lemmas.Bool.{cases_Bool}
use Rattle.amh_bits.specs.Patterns.{int_bit}
use Rattle.design_ir.specs.PoolRules.{IsPool}
use Rattle.design_ir.specs.Designs.{IsDesign}
use Rattle.design_ir.specs.Targets.{Bit}
use Rattle.design_ir.specs.Settled.{delta, Settled}
use Rattle.design_ir.specs.Loops.{Needs}
use Rattle.design_ir.specs.Circuits.{Circuit, State, at}
use Rattle.comb_graph.specs.Orders.{is_comb, IsCombBit, IsCombChain, IsLongest}
use Rattle.comb_graph.specs.Laws.{FitsState, rounds}
use Rattle.comb_graph.proofs.PoolBits.{IsShared}
use Rattle.comb_graph.proofs.DeltaLaws.{delta_length, delta_fits, delta_other, delta_shared}
use Rattle.comb_graph.proofs.SameNumbers.{IsWhole, numbers_same}

-- no chain from this bit on has more bits
abbrev AtMost : Circuit → ℕ → Bit → Type 0
AtMost c n b = (rest : List Bit) → IsCombChain c (b ∷ rest) → length rest < n

module _ (c : Circuit) (rules : IsPool c.pool) (design : IsDesign c) (st : State) (fit : FitsState c st) where
  -- a number for each signal, and those that are not comb are as a round leaves them
  pub record IsReady (env : List ℤ) : Type 0 where
    pub whole : IsWhole c env
    pub held : (s : ℕ) → is_comb c s ≡ false → at env s ≡ at (delta c st env) s

  module _ (env : List ℤ) (ready : IsReady env) where
    rounds_whole : (n : ℕ) → IsWhole c (rounds c st n env)
    rounds_whole zero = ready.whole
    rounds_whole (suc n) = record { fits = delta_fits c st rules design fit (rounds c st n env); long = delta_length c st rules design (rounds c st n env) }

    rounds_other : (n s : ℕ) → is_comb c s ≡ false → at (rounds c st n env) s ≡ at (rounds c st (suc n) env) s
    rounds_other zero s e = ready.held s e
    rounds_other (suc n) s e = delta_other c st rules design (rounds c st n env) (rounds c st (suc n) env) s e

    -- a bit stays from the round on that is as long as its longest chain
    bit_stays : (n : ℕ) (b : Bit) → IsCombBit c b → AtMost c n b → int_bit (at (rounds c st n env) b.sig) b.index ≡ int_bit (at (rounds c st (suc n) env) b.sig) b.index
    bit_stays zero b comb most = absurd (omega (arith, most [] (record { bits = (comb, tt); needs = tt })))
    bit_stays (suc n) b comb most =
        let before : List ℤ = rounds c st n env in
        let needed : (x : Bit) → Needs c b x → IsShared c.pool before (delta c st before) x =
        λ x needs inside.
        ⊎_elim
        (λ (is : is_comb c x.sig ≡ true). bit_stays n x (record { comb = is; inside = inside }) (λ rest chain. omega (arith, most (x ∷ rest) (record { bits = (comb, chain.bits); needs = (needs, chain.needs) }))))
        (λ (is : is_comb c x.sig ≡ false). ap (λ z. int_bit z x.index) (rounds_other n x.sig is))
        (cases_Bool (is_comb c x.sig)) in
        delta_shared c st rules design before (delta c st before) b (rounds_whole n).fits (rounds_whole (suc n)).fits comb.inside needed

    pub settled_after : (n : ℕ) → IsLongest c n → Settled c st (rounds c st n env)
    settled_after n longest =
        sym (numbers_same c (rounds c st n env) (rounds c st (suc n) env) (rounds_whole n) (rounds_whole (suc n)) (λ b comb. bit_stays n b comb (λ rest chain. omega (arith, longest.most (b ∷ rest) chain))) (rounds_other n))

  -- ---- from any numbers

  round_ready : (env : List ℤ) → IsReady (delta c st env)
  round_ready env = record {
    whole = record { fits = delta_fits c st rules design fit env; long = delta_length c st rules design env };
    held = delta_other c st rules design env (delta c st env);
  }

  rounds_first : (n : ℕ) (env : List ℤ) → rounds c st n (delta c st env) ≡ rounds c st (suc n) env
  rounds_first zero env = refl
  rounds_first (suc n) env = ap (delta c st) (rounds_first n env)

  pub rounds_settle : (n : ℕ) (env : List ℤ) → IsLongest c n → Settled c st (rounds c st (suc n) env)
  rounds_settle n env longest = rw (rounds_first n env) at (settled_after (delta c st env) (round_ready env) n longest)
