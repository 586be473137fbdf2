use Rattle.std.proofs.Common.{length}
use Rattle.std.specs.Prelude.{nat_le}
use Rattle.design_ir.specs.PoolRules.{IsPool, IsRefusal, limit_where}
use Rattle.memory_ports.proofs.Growing.{grown_not, counted, signal_expr}
use Rattle.memory_ports.proofs.signals.make.Goals as goal

pub returns-in-Err-clause-grown : goal.returns-in-Err-clause-grown
returns-in-Err-clause-grown c = rw c.in-Err.ensures.refused.1 (grown_not c.args.pool.now)

pub told-requires-in-Err-expr : goal.told-requires-in-Err-expr
told-requires-in-Err-expr c =
    let q = c.sig.new.self in
    let kept = c.in-Err-expr.ensures.refused in
    let rules : IsPool q = rw kept.1 at c.in-Err-expr.ensures.rules in
    let stops : IsRefusal (limit_where (nat_le 262144 (length q.exprs))) c.in-Err-expr.stop = rw (signal_expr q c.in-Ok.sig rules) at kept.0 in
    counted (nat_le 262144 (length q.exprs)) c.in-Err-expr.stop stops

pub returns-then-count-ge262144-clause-grown : goal.returns-then-count-ge262144-clause-grown
returns-then-count-ge262144-clause-grown c = grown_not c.args.pool.now
