use Rattle.std.proofs.Common.{◌≡◌, ℕ, length, take}
use Rattle.fragment_walks.specs.Holders.{first_roots}
use Rattle.fragment_walks.specs.Marks.{marked, numbers}
use Rattle.fragment_walks.specs.Numbers.{bounded}
use Rattle.fragment_walks.proofs.holders.number_roots.Given as goal

abbrev pub invariant-loop-number : goal.invariant-loop-number
invariant-loop-number l = record {
  size : length l.holders.items ≡ length l.fn.holders.items;
  each : (i : ℕ) → bounded i l.holders.items ≡ marked (numbers (first_roots i (take l.number l.roots))) (bounded i l.fn.holders.items);
}
