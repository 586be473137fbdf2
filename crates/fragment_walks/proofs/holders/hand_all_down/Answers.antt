use Rattle.std.proofs.Common.{◌≡◌, ◌∙◌, ◌+◌, ◌-◌, length, sym, ap, arith}
use Rattle.fragment_walks.specs.Held.{inside}
use Rattle.fragment_walks.specs.Marks.{is_marked, comes_out}
use Rattle.fragment_walks.specs.Numbers.{bounded}
use Rattle.fragment_walks.proofs.Lists.{or_false}
use Rattle.fragment_walks.proofs.holders.hand_all_down.Goals as goal

pub loop-i-preserved : goal.loop-i-preserved
loop-i-preserved c =
    let q = c.args.pool.now in
    let n = length q.exprs in
    let i = c.loop-i.i in
    let count = c.count-count.result in
    let cur = c.loop-i in
    let new = c.hand_down.new in
    let size : count ≡ n = c.count-count.ensures.value in
    let place : n - (i + 1) ≡ count - 1 - i = omega (arith, size) in
    let next : count - 1 - i + 1 ≡ n - i = omega (arith, size, c.loop-i-test.true) in
    record {
      size = c.hand_down.ensures.size;
      held = λ b k small.
          ap (λ m. comes_out (inside q) (bounded b new.holders.items) (bounded b new.holders.items) m k) place
          ∙ c.hand_down.ensures.held b k small
          ∙ ap (λ m. comes_out (inside q) (bounded b cur.holders.items) (bounded b cur.holders.items) m k) next
          ∙ cur.invariant.held b k small;
    }

pub returns-clause-held : goal.returns-clause-held
returns-clause-held c b k small =
    let q = c.args.pool.now in
    let cur = c.loop-i in
    let none : 0 ≡ length q.exprs - cur.i = omega (arith, c.loop-i-test.false, c.count-count.ensures.value) in
    sym (or_false (is_marked (bounded b cur.holders.items) k))
    ∙ ap (λ m. comes_out (inside q) (bounded b cur.holders.items) (bounded b cur.holders.items) m k) none
    ∙ cur.invariant.held b k small
