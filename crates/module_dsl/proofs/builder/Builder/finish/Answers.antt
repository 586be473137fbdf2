use Rattle.std.proofs.Common.{◌≡◌, true, not, None, map, sym, ap, ◌∙◌}
use Rattle.module_dsl.specs.Blocks.{blocks_of, is_outermost}
use Rattle.module_dsl.specs.Builders.{Built, finish_refusal, fragment_of, order_where}
use Rattle.module_dsl.specs.Parting.{process_from}
use Rattle.module_dsl.proofs.BuilderLaws.{processes-are, fragment-is}
use Rattle.module_dsl.proofs.builder.Builder.finish.Goals as goal

pub returns-clause-made : goal.returns-clause-made
returns-clause-made c =
    let inside = c.self.inside in
    let steps = inside.steps.items in
    let b : Built = record { name = inside.name; steps = steps } in
    let outer : is_outermost (blocks_of steps).around ≡ true = sym (c.is_outermost.ensures (blocks_of steps) c.self.invariant) ∙ c.if-not-is_outermost.false in
    let refusal : finish_refusal b ≡ None = ap (λ t. order_where (not t) None) outer in
    let processes = c.in_ok-processes.ensures ∙ ap (λ xs. map (process_from xs) inside.progress.sides.items) c.as_slice.ensures.value ∙ processes-are steps inside.progress c.self.invariant outer in (
      sym (ap finish_refusal c.self.view_is) ∙ refusal,
      fragment-is b c.new.result c.in_ok-processes.processes c.new-2.result c.new-3.result c.new.ensures processes c.new-2.ensures c.new-3.ensures ∙ ap fragment_of c.self.view_is,
    )
