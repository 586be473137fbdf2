use Rattle.std.proofs.Common.{◌+◌, refl, sym, ap, ◌∙◌}
use Rattle.design_ir.specs.Trees.{assign}
use Rattle.module_dsl.specs.Blocks.{Given, blocks_of, in_switch}
use Rattle.module_dsl.specs.Builders.{Built, built_blocks, built_count, and_given}
use Rattle.module_dsl.proofs.BuilderLaws.{count-given}
use Rattle.module_dsl.proofs.builder.Builder.added_by.Goals as goal

pub returns : goal.returns
returns c = λ target value place i.
    let inside = c.self.inside in
    let steps = inside.steps.items in
    let b : Built = record { name = inside.name; steps = steps } in
    let g : Given = record { side = c.args.side.now; statement = assign target value place } in
    let outside = ap (λ (x : Built). in_switch (built_blocks x).around) c.self.view_is ∙ i in
    let added = c.added_by.ensures (blocks_of steps) g c.self.invariant outside refl in
    ap (λ x. built_count (and_given x c.args.side.now target value place)) (sym c.self.view_is)
    ∙ count-given b c.args.side.now target value place ∙ added ∙ ap (λ n. n + c.added_by.result) c.self.invariant.statements
    ∙ ap (λ x. built_count x + c.added_by.result) c.self.view_is
