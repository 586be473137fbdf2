-- Tasks that run before anything is settled.
use Rattle.std.specs.Prelude.{◌≡◌, ℕ, true, false, List, length, ℤ}
use Rattle.std.proofs.Common.{sym, ◌∙◌, ap, arith, subst, ⊎_elim}
use Rattle.std.proofs.lemmas.Bool.{cases_Bool, false≢true}
use Rattle.amh_bits.specs.Patterns.{IsOf}
use Rattle.design_ir.specs.Circuits.{Circuit, at, is_among}
use Rattle.design_ir.specs.Designs.{IsDesign}
use Rattle.design_ir.specs.Values.{signal_form}
use Rattle.comb_graph.specs.Orders.{is_comb}
use Rattle.sim_plans.specs.declared.plan.Plan.{Plan}
use Rattle.sim_plans.specs.Plans.{IsPlan, outs_at, taken}
use Rattle.delta_sim.specs.Standing.{AreNumbersOf}
use Rattle.sim_plans.proofs.Jobs.{out_comb}
use Rattle.sim_plans.proofs.Taking.{taken_at, taken_length, taken_other}

module _ (c : Circuit) (from env new : List ℤ) (ss : List ℕ) (of_from : AreNumbersOf c from) (of_env : AreNumbersOf c env) (e : new ≡ taken from ss env) where
  pub given_numbers : AreNumbersOf c new
  given_numbers = record {
    count = ap length e ∙ taken_length from ss env ∙ of_env.count;
    fits = λ s inside.
        let form = signal_form c.pool.signals s in
        ⊎_elim
        (λ (m : is_among ss s ≡ true). subst (IsOf form.signed form.width) (sym (ap (λ xs. at xs s) e ∙ taken_at from ss env s m (omega (arith, inside, of_env.count)))) (of_from.fits s inside))
        (λ (m : is_among ss s ≡ false). subst (IsOf form.signed form.width) (sym (ap (λ xs. at xs s) e ∙ taken_other from ss env s m)) (of_env.fits s inside))
        (cases_Bool (is_among ss s));
  }

  pub given_others : (design : IsDesign c) (count : ℕ) (plan : Plan) (is : IsPlan c count plan) (j : ℕ) → ss ≡ outs_at plan j → (s : ℕ) → is_comb c s ≡ false → at new s ≡ at env s
  given_others design count plan is j own s none =
      ap (λ xs. at xs s) e ∙ taken_other from ss env s
      (⊎_elim
      (λ (m : is_among ss s ≡ true). absurd (false≢true (sym none ∙ out_comb c design count plan is j s (ap (λ xs. is_among xs s) (sym own) ∙ m))))
      (λ (m : is_among ss s ≡ false). m)
      (cases_Bool (is_among ss s)))
