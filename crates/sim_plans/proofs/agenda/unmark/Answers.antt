use Rattle.std.proofs.Common.{◌∙◌, ◌<◌, ℕ, length, sym, false, length-set, get_or}
use Rattle.sim_plans.proofs.Turns.{all_here, any_default}
use Rattle.sim_plans.proofs.Waits.{unmarked, among_next, none_left}
use Rattle.sim_plans.proofs.agenda.unmark.Goals as goal

pub loop-n-preserved : goal.loop-n-preserved
loop-n-preserved c =
    let list = c.args.list.now in
    let i = c.loop-n.n-index in
    let n : ℕ = get_or list i 0 in
    record {
      size = length-set c.loop-n.marks.items n false ∙ c.loop-n.invariant.size;
      below = (all_here (λ k. k < length c.args.marks.now.items) list i n c.loop-n-test.true (any_default list i 0 n c.loop-n-test.true) c.loop-n.invariant.below).1;
      left = λ k is.
          let r = unmarked c.loop-n.marks.items n k is in
          let was = c.loop-n.invariant.left k r.1 in
          (among_next list i k c.loop-n-test.true r.0 ∙ was.0, was.1);
    }

pub returns-clause-gone : goal.returns-clause-gone
returns-clause-gone c = λ k is.
    let left = c.loop-n.invariant.left k is in
    (sym left.0 ∙ none_left c.args.list.now c.loop-n.n-index k c.loop-n-test.false, left.1)
