use Rattle.py_tree.specs.Programs.{program_of}
use Rattle.machine_table.proofs.running.Run.before_bench.Goals as goal

-- src/running.rt:129:5
pub returns : goal.returns
returns g c = c.in_ok-machine.ensures.of (program_of c.args.self.program.now)
