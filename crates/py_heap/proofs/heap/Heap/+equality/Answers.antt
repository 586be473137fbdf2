use Rattle.std.proofs.Common.{◌≡◌, ◌<◌, length, refl, arith}
use Rattle.std.specs.Prelude.{Ok, Err, true, false}
use Rattle.std.proofs.lemmas.Bool.Decides.{nat_tests}
use Rattle.py_heap.proofs.EqualityLaws.{deeper_none, deeper_past, deeper_more, turn, ended, charged_ok, charged_err, charged_give}
use Rattle.py_heap.specs.Heaps.{seen}
use Rattle.py_heap.proofs.heap.Heap.+equality.Goals as goal

pub elements_equal-returns-then-is_empty : goal.elements_equal-returns-then-is_empty
elements_equal-returns-then-is_empty t c =
    let e : length c.args.xs.now ≡ 0 = grind (arith, nat_tests) in
    rw (deeper_none _ _ _ _ c.if-depth-eq0.true e) (refl, omega arith, c.requires.some)

pub elements_equal-returns-else-is_empty : goal.elements_equal-returns-else-is_empty
elements_equal-returns-else-is_empty t c =
    let e : 0 < length c.args.xs.now = grind (arith, nat_tests) in
    rw (deeper_past _ _ _ _ c.if-depth-eq0.true e) (refl, omega arith, c.requires.some)

pub elements_equal-loop-i-init : goal.elements_equal-loop-i-init
elements_equal-loop-i-init t c = (c.requires.some, λ r left h. rw (deeper_more c.args.depth (seen c.args.frozen.now c.args.self.now) c.args.xs.now c.args.ys.now (omega arith)) h)

pub elements_equal-returns-in-Ok-false : goal.elements_equal-returns-in-Ok-false
elements_equal-returns-in-Ok-false t c =
    c.loop-i.invariant.1 (Ok false) _ (rw (turn _ _ _ _ _ _ c.loop-i-test.true c.requires.lengths c.index-xs-i.is c.index-ys-i.is) (charged_ok c.in-Ok-false.field-0 (Ok false) _ c.pair_equal.new.left.left c.pair_equal.new.left.left _ _ _ c.in-Ok-false.ensures (rw c.in-Ok-false.field-0-test (charged_give false _ c.in-Ok-false.ensures.2))))

pub elements_equal-returns-in-Err : goal.elements_equal-returns-in-Err
elements_equal-returns-in-Err t c =
    c.loop-i.invariant.1 (Err c.in-Err.stop) _ (rw (turn _ _ _ _ _ _ c.loop-i-test.true c.requires.lengths c.index-xs-i.is c.index-ys-i.is) (charged_err c.in-Err.stop _ _ _ _ _ c.in-Err.ensures))

pub elements_equal-returns : goal.elements_equal-returns
elements_equal-returns t c =
    c.loop-i.invariant.1 (Ok true) _ (rw (ended _ _ _ _ c.loop-i-test.false) (charged_give true _ c.loop-i.invariant.0))
