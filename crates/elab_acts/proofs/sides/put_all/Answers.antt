use Rattle.std.proofs.Common.{refl, sym, ap, ◌∙◌, arith}
use Rattle.elab_acts.proofs.ToldLaws.{told-next, told-done}
use Rattle.elab_acts.proofs.sides.put_all.Goals as goal

pub loop-q-preserved : goal.loop-q-preserved
loop-q-preserved c = told-next c.args.of c.args.side.now c.args.equations.now c.loop-q.q-index _ _ c.loop-q.store (omega arith) refl c.put.new.store _ (ap (λ o. (c.put.new.store, o)) (sym c.in-None.is) ∙ c.in_ok-put.ensures) c.loop-q.invariant

pub returns : goal.returns
returns c = told-done c.args.of c.args.side.now c.args.equations.now c.loop-q.q-index c.loop-q.store _ (omega arith) c.loop-q.invariant
