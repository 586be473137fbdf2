use Rattle.std.proofs.Common.{◌+◌, ◌-◌, ◌==◌, ◌∷◌, [], ◌++◌, ◌∙◌, ap}
use Rattle.std.specs.List.{list_any}
use Rattle.memory_cells.specs.Plans.{through_from}
use Rattle.memory_cells.proofs.Loops.{one_more, no_more, through_next, through_end}
use Rattle.memory_cells.proofs.bits.through_mask.Goals as goal

pub loop-i-preserved : goal.loop-i-preserved
loop-i-preserved c =
    let through = c.args.through.now in
    let n = c.args.count in
    let i = c.loop-i.i in
    one_more c.loop-i.bits c.push.new.self (through_from through 0 n) (through_from through i (n - i)) (through_from through (i + 1) (n - (i + 1))) (list_any (λ j. j == i) through)
    (through_next through n i c.loop-i-test.true) (c.in_ok-push.ensures.ok ∙ ap (λ b. c.loop-i.bits ++ b ∷ []) c.is_among.ensures) c.loop-i.invariant

pub returns : goal.returns
returns c =
    let through = c.args.through.now in
    let n = c.args.count in
    no_more c.loop-i.bits (through_from through 0 n) (through_from through c.loop-i.i (n - c.loop-i.i)) (through_end through n c.loop-i.i c.loop-i-test.false) c.loop-i.invariant
