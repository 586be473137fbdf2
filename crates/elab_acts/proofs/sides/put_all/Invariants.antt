use Rattle.std.proofs.Common.{◌≡◌, drop}
use Rattle.elab_acts.specs.Sides.{statements_told}
use Rattle.elab_acts.proofs.sides.put_all.Given as goal

abbrev pub invariant-loop-q : goal.invariant-loop-q
invariant-loop-q l = statements_told l.of l.side (drop l.q-index l.equations) l.store ≡ statements_told l.of l.side l.equations l.initial.store
