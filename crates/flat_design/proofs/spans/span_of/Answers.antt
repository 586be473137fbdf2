use Rattle.std.proofs.Common.{◌≡◌, ◌∙◌, ◌^◌, ◌-◌, ℕ, ap, arith, Some}
use Rattle.amh_bits.specs.BitVectors.{BitVector}
use Rattle.amh_bits.specs.Patterns.{pattern}
use Rattle.shape_rules.specs.Forms.{Form}
use Rattle.design_ir.specs.Targets.{Numbers}
use Rattle.design_ir.specs.Values.{form}
use Rattle.comb_graph.proofs.SeenLaws.{const_numbers, other_numbers}
use Rattle.flat_design.proofs.spans.span_of.Goals as goal

pub returns-in-Const-clause-numbers : goal.returns-in-Const-clause-numbers
returns-in-Const-clause-numbers c =
    let pool = c.args.pool.now in
    let value = c.in-Const.value in
    let width : c.width.inside.width ≡ (form pool c.args.e.0).width = ap (λ (f : Form). f.width) (c.width.view_is ∙ c.shape.ensures) in
    let own : c.own.inside.bits ≡ pattern (form pool c.args.e.0).width value = ap (λ (v : BitVector). v.bits) (c.own.view_is ∙ c.to_bits.ensures) ∙ ap (λ w. pattern w value) width in
    let one : ℕ → Numbers = λ n. record { least = n; greatest = n } in
    ap one own ∙ const_numbers pool c.args.e.0 value c.in-Const.shape c.count.ensures.rules (c.at.ensures ∙ ap (λ e. Some e) c.in-Const.is) c.requires.plain

pub returns-in_default : goal.returns-in_default
returns-in_default c =
    let pool = c.args.pool.now in
    let width : c.width.inside.width ≡ (form pool c.args.e.0).width = ap (λ (f : Form). f.width) (c.width.view_is ∙ c.shape.ensures) in
    record {
      numbers = other_numbers pool c.args.e.0 c.greatest.result c.at.result.now c.at.ensures c.in_default.not-Const (c.greatest.ensures ∙ ap (λ w. 2 ^ w - 1) width);
      some = omega arith;
    }
