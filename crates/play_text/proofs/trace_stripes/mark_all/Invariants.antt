use Rattle.std.proofs.Common.{◌≡◌, drop}
use Rattle.play_text.specs.Stripes.{marked_all}
use Rattle.play_text.proofs.trace_stripes.mark_all.Given as goal

abbrev pub invariant-loop-s : goal.invariant-loop-s
invariant-loop-s l = marked_all l.shown (drop l.s-index l.signals) l.stripes.items ≡ marked_all l.shown l.signals l.fn.stripes.items
