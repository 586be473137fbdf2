use Rattle.design_ir.specs.Values.{form}
use Rattle.design_ir.proofs.Commons.{stop_at}
use Rattle.design_ir.proofs.pool.Pool.common_shape_of.Goals as goal

pub returns-in-Err : goal.returns-in-Err
returns-in-Err c =
    stop_at (form c.args.self.now) c.loop-e.shape _ c.loop-e.e-index _ c.shape.result _ c.in-Err.stop c.loop-e-test.true c.loop-e.invariant.1 c.shape.ensures c.in-Err.ensures
