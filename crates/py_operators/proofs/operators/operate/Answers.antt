use Rattle.py_heap.specs.Heaps.{seen}
use Rattle.py_operators.specs.Operators.{operated}
use Rattle.py_heap.specs.Places.{placed}
use Rattle.py_heap.proofs.EqualityLaws.{charged_err}
use Rattle.py_operators.proofs.ChargeLaws.{charged_after}
use Rattle.py_operators.proofs.operators.operate.Goals as goal

pub returns-in-Ok : goal.returns-in-Ok
returns-in-Ok c =
    let s = seen c.args.frozen.now c.args.heap.now in
    charged_after c.in-Ok.fresh _ _ _ (operated s c.args.op c.args.a c.args.b) (λ x. placed s x) c.in-Ok.ensures c.place.ensures

pub returns-in-Err : goal.returns-in-Err
returns-in-Err c =
    let s = seen c.args.frozen.now c.args.heap.now in
    let m = operated s c.args.op c.args.a c.args.b in
    charged_err c.in-Err.stop _ _ m.cost m.answer _ c.in-Err.ensures
