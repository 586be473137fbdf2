use Rattle.std.proofs.Common.{◌≡◌, ◌<◌, ◌≤◌, ◌∙◌, ap, List, length, get_or, not, arith}
use Rattle.py_values.specs.declared.val.Val.{Val}
use Rattle.py_values.specs.declared.val.Val.TheVariants as val
use Rattle.py_frames.proofs.BeginLaws.{give_goes}
use Rattle.py_expressions.proofs.SeekLaws.{sought_none, sought_goes, sought_stops}
use Rattle.py_expressions.proofs.seek.sought.Goals as goal

pub returns-then-next-len-clause-moves : goal.returns-then-next-len-clause-moves
returns-then-next-len-clause-moves c =
    let past : length c.args.row ≤ c.args.next = omega (arith, c.if-next-len.true, c.len.ensures) in
    sought_none c.args.functions.now c.args.frozen.now _ c.args.going.now c.args.going.now c.args.budget c.args.next c.args.sign c.args.a c.args.row c.args.place past (give_goes c.args.functions.now c.args.frozen.now c.args.going.now c.args.budget (val.Bool (not c.args.sign)))

pub returns-in-Err-clause-moves : goal.returns-in-Err-clause-moves
returns-in-Err-clause-moves c =
    let there : c.args.next < length c.args.row = omega (arith, c.if-next-len.false, c.len.ensures) in
    let v : Val = c.index-as_slice-next.result in
    let is : v ≡ get_or c.args.row c.args.next v = c.index-as_slice-next.is ∙ ap (λ (z : List Val). get_or z c.args.next v) c.as_slice.ensures in
    sought_stops c.args.functions.now c.args.frozen.now c.in-Err.halt c.args.going.now c.spend.new.going c.args.budget c.args.next c.args.sign c.args.a v c.args.row c.args.place there is c.in-Err.ensures

pub returns-in-Ok-clause-moves : goal.returns-in-Ok-clause-moves
returns-in-Ok-clause-moves c =
    let there : c.args.next < length c.args.row = omega (arith, c.if-next-len.false, c.len.ensures) in
    let v : Val = c.index-as_slice-next.result in
    let is : v ≡ get_or c.args.row c.args.next v = c.index-as_slice-next.is ∙ ap (λ (z : List Val). get_or z c.args.next v) c.as_slice.ensures in
    sought_goes c.args.functions.now c.args.frozen.now c.matched.result c.args.going.now c.spend.new.going c.matched.new.going c.args.budget c.args.next tt c.args.sign c.args.a v c.args.row c.args.place there is c.in-Ok.ensures c.matched.ensures.grows c.matched.ensures.moves
