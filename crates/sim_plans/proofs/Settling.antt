-- Sweeps that settle.
use Rattle.std.specs.Prelude.{◌≡◌, refl, ℕ, suc, ◌+◌, ◌<◌, List, [], ◌∷◌, length, ℤ}
use Rattle.std.proofs.Common.{sym, ◌∙◌, ap, arith, add-one}
use Rattle.design_ir.specs.Circuits.{Circuit, State, at}
use Rattle.design_ir.specs.Settled.{delta, Settled}
use Rattle.comb_graph.specs.Laws.{rounds}

-- numbers that are the same at each place
pub same_lists : (xs ys : List ℤ) → length xs ≡ length ys → ((k : ℕ) → k < length xs → at xs k ≡ at ys k) → xs ≡ ys
same_lists [] [] long same = refl
same_lists [] (y ∷ ys) long same = absurd (omega (arith, long))
same_lists (x ∷ xs) [] long same = absurd (omega (arith, long))
same_lists (x ∷ xs) (y ∷ ys) long same =
    let first = same 0 (omega arith) in
    let rest = same_lists xs ys (omega (arith, long)) (λ k h. same (suc k) (omega (arith, h))) in
    ap (λ z. z ∷ xs) first ∙ ap (λ zs. y ∷ zs) rest

module _ (c : Circuit) (st : State) where
  pub rounds_turn : (n : ℕ) (first env next : List ℤ) → next ≡ delta c st env → env ≡ rounds c st n first → next ≡ rounds c st (n + 1) first
  rounds_turn n first env next swept known = swept ∙ ap (delta c st) known ∙ ap (λ k. rounds c st k first) (sym (add-one n))

  -- nothing changed, so nothing will
  pub settled_here : (env now next : List ℤ) → next ≡ delta c st env → next ≡ now → now ≡ env → Settled c st next
  settled_here env now next swept unchanged is = ap (delta c st) (unchanged ∙ is) ∙ sym swept
