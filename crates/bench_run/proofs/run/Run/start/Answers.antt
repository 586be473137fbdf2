use Rattle.std.proofs.Common.{refl, length}
use Rattle.py_tree.specs.Programs.{program_of}
use Rattle.elab_eval.specs.Elaborates.{found_of}
use Rattle.bench_run.proofs.StartLaws.{at_first, begins, safe_first}
use Rattle.bench_run.proofs.UnitLaws.{units_few}
use Rattle.bench_run.proofs.run.Run.start.Goals as goal

pub returns-in-Ok-clause-stands : goal.returns-in-Ok-clause-stands
returns-in-Ok-clause-stands c =
    let f = found_of c.args.built in (
      refl,
      at_first c.designs_grow_on.ensures c.ordered_have_one_history.ensures _ _ (program_of c.args.program) f c.args.left.left
          (begins _ _ (program_of c.args.program) f c.args.left.left c.in-Ok.begun c.args.ranks.now c.in-Ok.ensures c.count.ensures.rules c.processes.ensures.rules c.requires.ranked refl refl refl refl refl refl refl refl refl refl),
    )

pub returns-in-Ok-clause-going : goal.returns-in-Ok-clause-going
returns-in-Ok-clause-going c =
    let f = found_of c.args.built in
    safe_first _ _ (program_of c.args.program) f c.args.left.left
    (begins _ _ (program_of c.args.program) f c.args.left.left c.in-Ok.begun c.args.ranks.now c.in-Ok.ensures c.count.ensures.rules c.processes.ensures.rules c.requires.ranked refl refl refl refl refl refl refl refl refl refl)
    (c.in-Ok.ensures).benches.bench (c.in-Ok.ensures).simulated.are (c.in-Ok.ensures).simulated.within c.requires.units

pub returns-in-Ok-clause-few : goal.returns-in-Ok-clause-few
returns-in-Ok-clause-few c =
    let f = found_of c.args.built in
    units_few f.frozen (record { 0 = length f.store.things }) f.store.simulation.testbenches c.in-Ok.begun.testbenches.items c.args.left.left (c.in-Ok.ensures).benches.testbenches c.note_units.ensures
