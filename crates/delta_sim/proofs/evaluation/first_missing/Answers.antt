use Rattle.std.proofs.Common.{◌≡◌, ◌<◌, sym, ◌∙◌, arith, true, length}
use Rattle.design_ir.specs.Named.{named}
use Rattle.design_ir.proofs.Equations.{place_below}
use Rattle.sim_plans.specs.Marks.{is_marked}
use Rattle.delta_sim.proofs.Finding.{marked_next}
use Rattle.delta_sim.proofs.evaluation.first_missing.Goals as goal

pub loop-name-smaller : goal.loop-name-smaller
loop-name-smaller c =
    let there : c.loop-name.place < length (named c.args.e.now) = place_below (named c.args.e.now) c.loop-name.place c.in-Some.name (sym c.name_at.ensures.name ∙ c.in-Some.is) in
    omega (arith, there)

pub loop-name-preserved : goal.loop-name-preserved
loop-name-preserved c =
    let here : is_marked c.args.found.now.marks c.in-Some.name.0 ≡ true = sym c.has.ensures ∙ c.if-not-has.false in
    marked_next c.args.found.now.marks (named c.args.e.now) c.loop-name.place c.in-Some.name (sym c.name_at.ensures.name ∙ c.in-Some.is) here c.loop-name.invariant
