use Rattle.std.proofs.Common.{◌≡◌, length, drop}
use Rattle.amh_things.specs.Held.{AreHeld}
use Rattle.elab_wrappers.specs.Wrappers.{controls_from}
use Rattle.elab_wrappers.proofs.GivenLaws.{controlled_so}
use Rattle.elab_wrappers.proofs.controls.controls_from.Given as goal

-- what is held stands in the pool as it grows, and the controls so far are the first ones
abbrev pub invariant-loop-x : goal.invariant-loop-x
invariant-loop-x l =
    AreHeld (length l.pool.exprs) l.store.things
    × (controlled_so l.controls (controls_from l.store.things l.pool (drop l.x-index l.named)) ≡ controls_from l.store.things l.initial.pool l.named)
