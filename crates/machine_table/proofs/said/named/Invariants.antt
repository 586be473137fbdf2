use denote.Shadow.{shadow}
use denote.Text.{Utf8}
use Rattle.machine_table.proofs.said.named.Given as goal

-- what stands between two names is text
abbrev pub invariant-loop-name : goal.invariant-loop-name
invariant-loop-name l = shadow (Utf8 l.between)
