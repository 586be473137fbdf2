use Rattle.std.proofs.Common.{◌≡◌, suc, ◌+◌, ◌-◌, ◌^◌, true, false, sym, ◌∙◌, arith}
use Rattle.std.specs.Prelude.{nat_lt}
use Rattle.py_builtins.proofs.ScalarLaws.{first_turn, first_here, first_past}
use Rattle.py_builtins.proofs.scalars.bit_length.Goals as goal

pub returns-then-is_below_power-clause-least : goal.returns-then-is_below_power-clause-least
returns-then-is_below_power-clause-least c =
    let h : nat_lt c.args.n (2 ^ c.loop-k.k) ≡ true = cc in
    sym (first_here (128 - c.loop-k.k) (128 - (c.loop-k.k + 1)) (λ k. nat_lt c.args.n (2 ^ k)) c.loop-k.k (omega arith) h) ∙ c.loop-k.invariant

pub loop-k-preserved : goal.loop-k-preserved
loop-k-preserved c =
    let h : nat_lt c.args.n (2 ^ c.loop-k.k) ≡ false = cc in
    sym (first_turn (128 - c.loop-k.k) (128 - (c.loop-k.k + 1)) (λ k. nat_lt c.args.n (2 ^ k)) c.loop-k.k (omega arith) h) ∙ c.loop-k.invariant

pub returns-clause-least : goal.returns-clause-least
returns-clause-least c =
    let e : 128 ≡ c.loop-k.k = omega arith in
    e ∙ sym (first_past (128 - c.loop-k.k) (λ k. nat_lt c.args.n (2 ^ k)) c.loop-k.k (omega arith)) ∙ c.loop-k.invariant
