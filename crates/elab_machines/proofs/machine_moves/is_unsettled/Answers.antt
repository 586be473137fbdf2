use Rattle.std.proofs.Common.{[], sym, ◌<◌, length, subst}
use Rattle.design_ir.specs.declared.ids.SigId.{SigId}
use Rattle.elab_store.proofs.Pools.{signal_there}
use Rattle.elab_machines.proofs.machine_moves.is_unsettled.Goals as goal

pub sig_at-requires : goal.sig_at-requires
sig_at-requires c =
    let p = c.args.pool.now in
    let P = λ (s : SigId). s.0 < length p.signals in
    subst P (sym c.signal.ensures) (signal_there p.signals [] p.exprs c.args.machine.now.register.0 c.args.machine.now.signal c.known.ensures.exprs c.requires)
