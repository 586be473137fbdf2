use Rattle.std.proofs.Common.{◌≡◌, true, false, drop, sym, ◌∙◌}
use Rattle.std.specs.Prelude.{nat_eq}
use Rattle.std.specs.List.{starts_with}
use Rattle.py_heap.proofs.MemberLaws.{part_here, part_turn}
use Rattle.py_heap.proofs.members.has_part.Goals as goal

pub returns-then-begins_at : goal.returns-then-begins_at
returns-then-begins_at c =
    let h : starts_with nat_eq (drop c.loop-i.i c.args.text.now) c.args.part.now ≡ true = cc in
    sym (sym c.loop-i.invariant ∙ part_here c.args.part.now (drop c.loop-i.i c.args.text.now) h)

pub loop-i-preserved : goal.loop-i-preserved
loop-i-preserved c =
    let h : starts_with nat_eq (drop c.loop-i.i c.args.text.now) c.args.part.now ≡ false = cc in
    sym (part_turn c.args.part.now c.args.text.now c.loop-i.i c.loop-i-test.true h) ∙ c.loop-i.invariant
