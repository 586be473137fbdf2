use Rattle.std.proofs.Common.{arith}
use Rattle.elab_store.specs.Held.{held_of}
use Rattle.elab_components.proofs.FaceLaws.{names_short}
use Rattle.elab_components.proofs.interfaces.bind_names.Goals as goal

pub returns-then-i-parts : goal.returns-then-i-parts
returns-then-i-parts c =
    names_short c.loop-i.names c.args.members.now c.args.parts.now c.loop-i.i (held_of c.loop-i.elaboration) _ (omega (arith, c.loop-i-test.true)) (omega (arith, c.if-i-parts.true)) c.loop-i.invariant
