-- The deltas of an event end, and are no more than the longest chain of needs allows.
use Rattle.std.specs.Prelude.{◌≡◌, ◌≢◌, refl, ℕ, zero, suc, ◌+◌, ◌≤◌, ◌⊎◌, List, [], ◌∷◌, length, ℤ, pos, negsuc, unsigned_abs}
use Rattle.std.proofs.Common.{sym, ◌∙◌, ap, arith, subst, ⊎_elim, inl, inr}
use Rattle.std.proofs.lemmas.Bool.{cases_eq}
use Rattle.design_ir.specs.declared.event.Event.{Event}
use Rattle.design_ir.specs.PoolRules.{IsPool}
use Rattle.design_ir.specs.Designs.{IsDesign}
use Rattle.design_ir.specs.Settled.{Settled}
use Rattle.design_ir.specs.Histories.{with_held, DeltasFrom, Deltas}
use Rattle.design_ir.specs.Legal.{IsLegal}
use Rattle.design_ir.specs.Steps.{step}
use Rattle.design_ir.specs.Circuits.{Circuit, State}
use Rattle.comb_graph.specs.Orders.{IsLongest}
use Rattle.comb_graph.specs.Laws.{FitsState, rounds, HasDeltas}
use Rattle.comb_graph.proofs.ChainRounds.{settled_after}
use Rattle.comb_graph.proofs.EventStarts.{begin_ready}
use Rattle.comb_graph.proofs.StepFits.{step_fits}

-- ---- the same numbers or others

cases_int : (x y : ℤ) → (x ≡ y) ⊎ (x ≢ y)
cases_int (pos m) (pos n) = ⊎_elim (λ e. inl (ap pos e)) (λ e. inr (λ f. e (ap unsigned_abs f))) (cases_eq m n)
cases_int (negsuc m) (negsuc n) = ⊎_elim (λ e. inl (ap negsuc e)) (λ e. inr (λ f. e (omega (arith, ap unsigned_abs f)))) (cases_eq m n)
cases_int (pos m) (negsuc n) = inr (λ f. cc)
cases_int (negsuc m) (pos n) = inr (λ f. cc)

cases_list : (xs ys : List ℤ) → (xs ≡ ys) ⊎ (xs ≢ ys)
cases_list [] [] = inl refl
cases_list [] (y ∷ ys) = inr (λ f. cc)
cases_list (x ∷ xs) [] = inr (λ f. cc)
cases_list (x ∷ xs) (y ∷ ys) =
    ⊎_elim
    (λ (e : x ≡ y). ⊎_elim (λ (f : xs ≡ ys). inl (λ i. e i ∷ f i)) (λ (f : xs ≢ ys). inr (λ g. f cc)) (cases_list xs ys))
    (λ (e : x ≢ y). inr (λ g. e cc))
    (cases_int x y)

module _ (c : Circuit) (st : State) where
  -- what follows an environment is decided
  deltas_only : (env : List ℤ) (xs ys : List (List ℤ)) → DeltasFrom c st env xs → DeltasFrom c st env ys → xs ≡ ys
  deltas_only env [] [] h k = refl
  deltas_only env [] (y ∷ ys) h k = absurd (k.1 (sym k.0 ∙ h))
  deltas_only env (x ∷ xs) [] h k = absurd (h.1 (sym h.0 ∙ k))
  deltas_only env (x ∷ xs) (y ∷ ys) h k =
      let first : x ≡ y = sym h.0 ∙ k.0 in
      let rest = deltas_only y xs ys (subst (λ z. DeltasFrom c st z xs) first h.2) k.2 in
      λ i. first i ∷ rest i

  -- deltas that end within so many
  record Ends (env : List ℤ) (most : ℕ) : Type 0 where
    deltas : List (List ℤ)
    are : DeltasFrom c st env deltas
    few : length deltas ≤ most

  module _ (env : List ℤ) (n : ℕ) (settled : Settled c st (rounds c st n env)) where
    ends : (m k : ℕ) → k + m ≡ n → Ends (rounds c st k env) m
    ends zero k e =
        let here : k ≡ n = omega arith in
        record { deltas = []; are = subst (λ j. Settled c st (rounds c st j env)) (sym here) settled; few = omega arith }
    ends (suc m) k e =
        ⊎_elim
        (λ (same : rounds c st (suc k) env ≡ rounds c st k env). record { deltas = []; are = same; few = omega arith })
        (λ (other : rounds c st (suc k) env ≢ rounds c st k env).
        let rest : Ends (rounds c st (suc k) env) m = ends m (suc k) (omega (arith, e)) in
        record { deltas = rounds c st (suc k) env ∷ rest.deltas; are = (refl, other, rest.are); few = omega (arith, rest.few) })
        (cases_list (rounds c st (suc k) env) (rounds c st k env))

    ends_from : Ends env n
    ends_from = ends n 0 (omega arith)

only_from : (c : Circuit) (st : State) (env first : List ℤ) (more : List (List ℤ)) → first ≡ with_held c st 0 env → DeltasFrom c st first more → (others : List (List ℤ)) → Deltas c st env others → others ≡ first ∷ more
only_from c st env first more e h [] k = absurd k
only_from c st env first more e h (x ∷ xs) k =
    let same : x ≡ first = k.0 ∙ sym e in
    let rest = deltas_only c st first xs more (subst (λ z. DeltasFrom c st z xs) same k.1) h in
    λ i. same i ∷ rest i

pub few_deltas : (c : Circuit) (longest : ℕ) → IsPool c.pool → IsDesign c → IsLongest c longest → (st : State) (env : List ℤ) (e : Event) → FitsState c st → Settled c st env → IsLegal c e → HasDeltas c (step c st env e) env longest
few_deltas c longest rules design chain st env e fit settled legal =
    let new : State = step c st env e in
    let fits : FitsState c new = step_fits c rules design st env e legal fit in
    let first : List ℤ = with_held c new 0 env in
    let last = settled_after c rules design new fits first (begin_ready c rules design st new fit fits env settled) longest chain in
    let all : Ends c new first longest = ends_from c new first longest last in
    record {
      deltas = first ∷ all.deltas;
      are = (refl, all.are);
      few = omega (arith, all.few);
      only = only_from c new env first all.deltas refl all.are;
    }
