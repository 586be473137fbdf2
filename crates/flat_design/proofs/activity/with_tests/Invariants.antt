use Rattle.std.proofs.Common.{take}
use Rattle.flat_design.proofs.Testing.{AreTested}
use Rattle.flat_design.proofs.activity.with_tests.Given as goal

abbrev pub invariant-loop-test : goal.invariant-loop-test
invariant-loop-test l = AreTested l.initial.pool l.pool (take l.test-index l.tests) l.fn.active l.all
