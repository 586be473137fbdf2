use Rattle.std.proofs.Common.{◌≡◌, length}
use denote.Text.{Utf8}
use denote.Shadow.{shadow}
use Rattle.private_names.specs.Names.{without_underscores}
use Rattle.private_names.proofs.class.without_underscores.Given as goal

-- what is left has the same left
abbrev pub invariant-loop-behind : goal.invariant-loop-behind
invariant-loop-behind l = shadow (Utf8 l.rest) × (without_underscores l.rest ≡ without_underscores l.fn.name)

abbrev pub decreases-loop-behind : goal.decreases-loop-behind
decreases-loop-behind l = length l.rest
