use Rattle.std.proofs.Common.{sym, subst}
use Rattle.py_tree.specs.Programs.{program_of}
use Rattle.py_machine.specs.Lives.{IsOf}
use Rattle.bench_run.specs.declared.testbench.Running.{Running}
use Rattle.bench_run.proofs.GoLaws.{takes}
use Rattle.bench_run.proofs.turns.take_answer.Goals as goal

pub resume-turn-requires : goal.resume-turn-requires
resume-turn-requires g c = record {
  of = subst (λ (y : Running). IsOf (program_of c.args.setting.now.program) y.machine) (sym c.take-answer.ensures.rest) c.requires.live.of;
  units = λ e. c.requires.units;
}

pub returns-clause-took : goal.returns-clause-took
returns-clause-took g c =
    takes c.args.setting.now c.args.running.now c.take-answer.new.self c.resume-turn.new.self c.take-answer.result c.args.left.now.left c.resume-turn.new.left.left c.resume-turn.result c.requires.live c.requires.ready c.take-answer.ensures.taken
    c.take-answer.ensures.rest c.resume-turn.ensures.bench c.resume-turn.ensures.of c.resume-turn.ensures.left c.note_taken.ensures c.note_taken-2.ensures
