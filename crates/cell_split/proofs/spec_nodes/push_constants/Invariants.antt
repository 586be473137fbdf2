use Rattle.std.proofs.Common.{◌≡◌, ◌++◌, Bool, map, take}
use Rattle.cell_split.proofs.spec_nodes.push_constants.Given as goal

abbrev pub invariant-loop-bit : goal.invariant-loop-bit
invariant-loop-bit l = l.nodes.items ≡ l.fn.nodes.items ++ map (λ (b : Bool). l.spare) (take l._bit-index l.bits)
