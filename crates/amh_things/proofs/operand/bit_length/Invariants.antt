use Rattle.std.proofs.Common.{◌≡◌, ◌-◌, ◌^◌}
use Rattle.std.specs.Prelude.{nat_lt}
use Rattle.py_builtins.specs.Scalars.{first_from}
use Rattle.amh_things.proofs.operand.bit_length.Given as goal

abbrev pub invariant-loop-k : goal.invariant-loop-k
invariant-loop-k l = first_from (128 - l.k) (λ k. nat_lt l.n (2 ^ k)) l.k ≡ first_from 128 (λ k. nat_lt l.n (2 ^ k)) 0
