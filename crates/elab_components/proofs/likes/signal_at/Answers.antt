use Rattle.std.proofs.Common.{Some, [], ap, ◌∙◌}
use Rattle.elab_store.proofs.Pools.{signal_there}
use Rattle.elab_components.proofs.likes.signal_at.Goals as goal

pub sig_at-requires : goal.sig_at-requires
sig_at-requires c =
    let p = c.args.elaboration.now.pool in
    signal_there p.signals [] p.exprs c.args.e.0 c.in-Sig.s c.count-rules.ensures.rules.exprs (c.at.ensures ∙ ap Some c.in-Sig.is)
