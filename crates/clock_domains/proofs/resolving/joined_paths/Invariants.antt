use Rattle.std.proofs.Common.{◌≡◌, ◌++◌, take}
use Rattle.clock_domains.proofs.resolving.joined_paths.Given as goal

abbrev pub invariant-loop-path : goal.invariant-loop-path
invariant-loop-path l = l.paths ≡ l.fn.processes ++ take l.path-index l.memories
