use Rattle.std.proofs.Common.{◌≡◌, drop}
use Rattle.play_text.specs.Stripes.{marked}
use Rattle.play_text.proofs.trace_stripes.mark.Given as goal

abbrev pub invariant-loop-b : goal.invariant-loop-b
invariant-loop-b l = marked (drop l.b-index l.places) l.stripes.items ≡ marked l.places l.fn.stripes.items
