use Rattle.std.specs.Prelude.{Ok, Err, true, false}
use Rattle.py_heap.proofs.EqualityLaws.{charged_ok, charged_err, charged_give}
use Rattle.py_heap.proofs.MemberLaws.{any_turn, any_end}
use Rattle.py_heap.proofs.heap.Heap.any_equal.Goals as goal

pub returns-in-Ok-true : goal.returns-in-Ok-true
returns-in-Ok-true c =
    c.loop-x.invariant.1 (Ok true) _ (rw (any_turn _ _ _ _ _ c.loop-x-test.true c.x-item.is) (charged_ok c.in-Ok-true.field-0 (Ok true) _ c.one_equal.new.left.left c.one_equal.new.left.left _ _ _ c.in-Ok-true.ensures (rw c.in-Ok-true.field-0-test (charged_give true _ c.in-Ok-true.ensures.2))))

pub returns-in-Err : goal.returns-in-Err
returns-in-Err c =
    c.loop-x.invariant.1 (Err c.in-Err.stop) _ (rw (any_turn _ _ _ _ _ c.loop-x-test.true c.x-item.is) (charged_err c.in-Err.stop _ _ _ _ _ c.in-Err.ensures))

pub returns : goal.returns
returns c =
    c.loop-x.invariant.1 (Ok false) _ (rw (any_end _ _ _ _ c.loop-x-test.false) (charged_give false _ c.loop-x.invariant.0))

pub loop-x-preserved : goal.loop-x-preserved
loop-x-preserved c =
    (c.in-Ok-false.ensures.2, λ r left h. c.loop-x.invariant.1 r left (rw (any_turn _ _ _ _ _ c.loop-x-test.true c.x-item.is) (charged_ok c.in-Ok-false.field-0 r _ c.one_equal.new.left.left left _ _ _ c.in-Ok-false.ensures (rw c.in-Ok-false.field-0-test h))))
