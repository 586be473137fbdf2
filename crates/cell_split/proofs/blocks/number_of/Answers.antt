use Rattle.std.proofs.Common.{◌≡◌, ◌∷◌}
use Rattle.std.specs.Prelude.{Some, None}
use Rattle.cell_split.proofs.BlockLaws.{parsed, stripped, ok_some, no_ok}
use Rattle.cell_split.proofs.blocks.number_of.Goals as goal

pub returns-in-Ok : goal.returns-in-Ok
returns-in-Ok c k small same =
    let is : c.args.id.now ≡ 36 ∷ c.in-Some.digits.now = stripped c.args.id.now c.strip_prefix.result (Some c.in-Some.digits) c.strip_prefix.ensures.cases c.in-Some.is in
    ok_some c.parse.result c.in-Ok.number k c.in-Ok.is (parsed c.args.id.now c.in-Some.digits.now k c.parse.result small is same c.parse.ensures.value.0)

pub returns-in-Err : goal.returns-in-Err
returns-in-Err c k small same =
    let is : c.args.id.now ≡ 36 ∷ c.in-Some.digits.now = stripped c.args.id.now c.strip_prefix.result (Some c.in-Some.digits) c.strip_prefix.ensures.cases c.in-Some.is in
    no_ok c.parse.result _ k c.in-Err.is (parsed c.args.id.now c.in-Some.digits.now k c.parse.result small is same c.parse.ensures.value.0)

pub returns-in-None : goal.returns-in-None
returns-in-None c k small same = absurd (stripped c.args.id.now c.strip_prefix.result None c.strip_prefix.ensures.cases c.in-None.is _ same)
