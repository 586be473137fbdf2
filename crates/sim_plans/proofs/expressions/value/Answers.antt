use Rattle.std.proofs.Common.{ℕ, pos, slice_index_or, sym, ap, ◌∙◌}
use Rattle.std.specs.List.{list_any}
use Rattle.amh_bits.specs.Patterns.{pattern}
use Rattle.shape_rules.specs.Forms.{Form}
use Rattle.shape_rules.specs.Operators.{truth}
use Rattle.design_ir.specs.Values.{form, value_step, matches}
use Rattle.sim_plans.proofs.expressions.value.Goals as goal

pub returns-in-Matches : goal.returns-in-Matches
returns-in-Matches c =
    let width = ap (λ (f : Form). f.width) (c.low_bits-in-Matches.view_is ∙ c.shape-in-Matches.ensures) in
    let bits = c.low_bits-in-Matches-2.ensures ∙ ap (λ (w : ℕ). pattern w c.at-in-Matches.result) width ∙ ap (pattern (form c.args.design.now.pool c.in-Matches.a.0).width) c.at-in-Matches.ensures in
    c.truth.ensures
    ∙ ap truth (c.matched.ensures ∙ ap (λ (n : ℕ). list_any (λ p. matches p n) c.in-Matches.patterns) bits)
    ∙ sym (ap (value_step (form c.args.design.now.pool) c.args.env.now (λ k. slice_index_or c.args.nums.now k (pos 0))) c.in-Matches.is)
