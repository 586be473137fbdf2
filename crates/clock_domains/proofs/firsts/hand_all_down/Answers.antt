use Rattle.std.proofs.Common.{◌≡◌, ◌∙◌, ◌+◌, ◌-◌, length, sym, ap, arith}
use Rattle.design_ir.specs.Targets.{target_signals}
use Rattle.fragment_walks.specs.Marks.{is_marked, comes_out}
use Rattle.fragment_walks.specs.Numbers.{bounded}
use Rattle.fragment_walks.proofs.Lists.{or_false}
use Rattle.clock_domains.proofs.firsts.hand_all_down.Goals as goal

pub loop-i-preserved : goal.loop-i-preserved
loop-i-preserved c =
    let q = c.args.pool.now in
    let n = length q.exprs in
    let i = c.loop-i.i in
    let count = c.count-count.result in
    let cur = c.loop-i in
    let new = c.hand_down.new in
    let size : count ≡ n = c.count-count.ensures.value in
    let place : n - (i + 1) ≡ count - 1 - i = omega (arith, size) in
    let next : count - 1 - i + 1 ≡ n - i = omega (arith, size, c.loop-i-test.true) in
    record {
      targets = c.hand_down.ensures.targets;
      signals = c.hand_down.ensures.signals;
      driven = λ b s small.
          ap (λ m. comes_out (target_signals q) (bounded b new.targets.items) (bounded b new.signals.items) m s) place
          ∙ c.hand_down.ensures.driven b s small
          ∙ ap (λ m. comes_out (target_signals q) (bounded b cur.targets.items) (bounded b cur.signals.items) m s) next
          ∙ cur.invariant.driven b s small;
    }

pub returns-clause-driven : goal.returns-clause-driven
returns-clause-driven c b s small =
    let q = c.args.pool.now in
    let cur = c.loop-i in
    let none : 0 ≡ length q.exprs - cur.i = omega (arith, c.loop-i-test.false, c.count-count.ensures.value) in
    sym (or_false (is_marked (bounded b cur.signals.items) s))
    ∙ ap (λ m. comes_out (target_signals q) (bounded b cur.targets.items) (bounded b cur.signals.items) m s) none
    ∙ cur.invariant.driven b s small
