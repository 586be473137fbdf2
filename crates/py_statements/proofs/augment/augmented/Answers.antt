-- A list is changed in place.
use Rattle.std.proofs.Common.{◌≡◌, false, ◌||◌}
use Rattle.py_frames.specs.Values.{is_thing}
use Rattle.py_statements.proofs.ChangeLaws.{augmented_changes}
use Rattle.py_statements.proofs.augment.augmented.Goals as goal

pub returns-in-Some-clause-moves : goal.returns-in-Some-clause-moves
returns-in-Some-clause-moves c =
    let e : (is_thing c.args.x.now || is_thing c.args.y.now) ≡ false = cc in
    augmented_changes c.args.functions.now c.args.frozen.now c.list_changed.result c.args.going.now c.list_changed.new.going c.args.budget c.args.op c.args.x.now c.args.y.now c.args.place c.in-Some.b e c.in-Some.ensures c.list_changed.ensures.moves
