use Rattle.std.proofs.Common.{sym, subst, take}
use Rattle.std.specs.List.{AllByRecursion}
use Rattle.amh_bits.specs.Patterns.{IsOf}
use Rattle.elab_memories.proofs.GivenLaws.{wrapped_fit}
use Rattle.elab_memories.proofs.memories.wrapped_rows.Goals as goal

pub returns-clause-shapes : goal.returns-clause-shapes
returns-clause-shapes c = subst (AllByRecursion (IsOf c.args.shape.signed c.args.shape.width)) (sym c.loop-n.invariant) (wrapped_fit c.args.shape (take c.loop-n.n-index c.args.rows.now))
