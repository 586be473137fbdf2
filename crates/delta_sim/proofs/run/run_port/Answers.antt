use Rattle.std.proofs.Common.{◌∷◌, [], ap, sym, subst, arith, length}
use Rattle.sim_plans.specs.Tasks.{AreAmong}
use Rattle.delta_sim.proofs.PortTurns.{known_of}
use Rattle.delta_sim.proofs.run.run_port.Goals as goal

pub at-requires : goal.at-requires
at-requires c =
    let t = c.args.task.now in
    let computed = subst (λ es. AreAmong es (t.addr ∷ [])) (sym c.as_slice.ensures) c.requires.computed in
    let known = known_of c.args.design.now.pool c.args.env.now c.compute.new.nums.items c.as_slice.result.now (t.addr ∷ []) c.compute.ensures.read computed in
    omega (arith, known.0.0, ap length c.as_slice-2.ensures.value)
