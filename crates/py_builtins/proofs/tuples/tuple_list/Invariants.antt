use Rattle.std.proofs.Common.{◌≡◌, [], vec_len}
use Rattle.std.specs.Prelude.{reverse}
use Rattle.py_builtins.specs.Sequences.{tuples_onto}
use Rattle.py_builtins.proofs.tuples.tuple_list.Given as goal

abbrev pub decreases-loop-row : goal.decreases-loop-row
decreases-loop-row l = vec_len l.rows

-- what is owed for the rows that are left is owed for all
abbrev pub invariant-loop-row : goal.invariant-loop-row
invariant-loop-row l = tuples_onto l.frozen l.heap l.all (reverse l.rows.items) ≡ tuples_onto l.frozen l.fn.heap [] (reverse l.fn.rows.items)
