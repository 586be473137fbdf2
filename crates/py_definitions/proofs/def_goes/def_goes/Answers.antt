use Rattle.std.proofs.Common.{◌≡◌, false, Some}
use Rattle.py_frames.specs.Stmt_begun.{value_come}
use Rattle.py_definitions.specs.Def_begun.{takes_more}
use Rattle.py_definitions.proofs.DefGoes.{def_takes}
use Rattle.py_definitions.proofs.def_goes.def_goes.Goals as goal

pub returns-in-Some-clause-moves : goal.returns-in-Some-clause-moves
returns-in-Some-clause-moves c =
    let e1 : takes_more c.args.frame ≡ false = cc in
    let e2 : value_come c.args.got ≡ Some c.in-Some.v = cc in
    def_takes c.args.functions.now c.args.frozen.now c.def_value.result c.args.going.now c.def_value.new.going c.args.budget c.args.frame c.args.got c.in-Some.v e1 e2 c.def_value.ensures.moves
