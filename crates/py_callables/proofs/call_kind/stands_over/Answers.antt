use Rattle.std.proofs.Common.{◌≡◌, ℕ, suc, ◌+◌, ◌-◌, ◌==◌, true, false, ap, ◌∙◌, sym, arith}
use Rattle.std.proofs.lemmas.Bool.Decides.{nat_tests}
use Rattle.py_values.specs.declared.val.Val.{Val}
use Rattle.py_heap.specs.Heaps.{seen}
use Rattle.py_frames.specs.Values.{stands_over}
use Rattle.py_callables.proofs.SuperLaws.{over_same, over_base}
use Rattle.py_callables.proofs.call_kind.stands_over.Goals as goal

pub returns-then-d-c : goal.returns-then-d-c
returns-then-d-c c =
    let n : ℕ = c.args.turns - c.loop-turn._turn in
    let m : ℕ = c.args.turns - (c.loop-turn._turn + 1) in
    let e : n ≡ suc m = omega (arith, c.loop-turn-test.true) in
    let same : (c.in-Class.d.0 == c.args.c.0) ≡ true = grind (arith, nat_tests, c.if-d-c.true) in
    sym (over_same n m (seen c.args.frozen.now c.args.going.now.state.heap) c.in-Class.d c.args.c e same)
    ∙ ap (λ (z : Val). stands_over n (seen c.args.frozen.now c.args.going.now.state.heap) z c.args.c) (sym c.in-Class.is)
    ∙ c.loop-turn.invariant

pub loop-turn-preserved : goal.loop-turn-preserved
loop-turn-preserved c =
    let n : ℕ = c.args.turns - c.loop-turn._turn in
    let m : ℕ = c.args.turns - (c.loop-turn._turn + 1) in
    let e : n ≡ suc m = omega (arith, c.loop-turn-test.true) in
    let other : (c.in-Class.d.0 == c.args.c.0) ≡ false = grind (arith, nat_tests, c.if-d-c.false) in
    sym (over_base n m (seen c.args.frozen.now c.args.going.now.state.heap) c.in-Class.d c.args.c c.first_of_row-at.result e other c.first_of_row-at.ensures)
    ∙ ap (λ (z : Val). stands_over n (seen c.args.frozen.now c.args.going.now.state.heap) z c.args.c) (sym c.in-Class.is)
    ∙ c.loop-turn.invariant
