use Rattle.std.proofs.Common.{ap}
use Rattle.design_ir.specs.declared.ids.ExprId.{ExprId}
use Rattle.design_ir.specs.Pools.{Pooled}
use Rattle.bench_acts.proofs.ShareLaws.{known_more}
use Rattle.bench_acts.proofs.sharing.shared_one.Goals as goal

pub returns-clause-known : goal.returns-clause-known
returns-clause-known c =
    known_more c.note.new.self c.args.design.now.pool.exprs c.put.new.pool.pool.exprs c.in_ok-e.e c.at-2.result.now c.in_ok-id.id.0
    (ap (λ (p : Pooled). p.exprs) c.in_ok-id.ensures.added.2) (ap (λ (x : ExprId). x.0) c.in_ok-id.ensures.added.1) c.at-2.ensures (c.in_ok-note.ensures.noted c.args.design.now.pool.exprs c.requires.known)
