use Rattle.std.proofs.Common.{sym, subst}
use Rattle.lib_wiring.specs.Wiring.{AreSignals}
use Rattle.elab_wiring.proofs.ConnectLaws.{wires_are_signals}
use Rattle.elab_wiring.proofs.connecting.equations_of.Goals as goal

pub connect-requires-clause-first : goal.connect-requires-clause-first
connect-requires-clause-first c =
    let q = c.args.elaboration.now.pool in
    subst (AreSignals q.signals) (sym c.in_ok-ours.ensures) (wires_are_signals q c.args.elaboration.now.store.components c.in-Some-Some.first c.requires.components.ends)

pub connect-requires-clause-second : goal.connect-requires-clause-second
connect-requires-clause-second c =
    let q = c.args.elaboration.now.pool in
    subst (AreSignals q.signals) (sym c.in_ok-theirs.ensures) (wires_are_signals q c.args.elaboration.now.store.components c.in-Some-Some.second c.requires.components.ends)
