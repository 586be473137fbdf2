use Rattle.std.proofs.Common.{◌∙◌, ◌+◌, ap, arith, [], ◌∷◌, length, length-append}
use Rattle.sim_plans.proofs.Clocking.{place_of}
use Rattle.sim_plans.proofs.PortPrograms.{ports_more}
use Rattle.sim_plans.proofs.port_exprs.all_ports.Goals as goal

pub loop-k-preserved : goal.loop-k-preserved
loop-k-preserved c =
    let d = c.args.design.now in
    let list = c.in_ok-ports.field-0 in
    record {
      marks = c.in_ok-ports.ensures.marks;
      count = ap length c.in_ok-push.ensures.ok ∙ length-append c.loop-k.all (list ∷ []) ∙ ap (λ n. n + 1) c.loop-k.invariant.count;
      each = ports_more d (length d.pool.exprs) c.loop-k.k c.loop-k.all c.push.new.self list c.loop-k.invariant.count c.in_ok-push.ensures.ok c.in_ok-ports.ensures.program c.in_ok-ports.ensures.computed c.loop-k.invariant.each;
    }

pub returns : goal.returns
returns c = λ k m is.
    let d = c.args.design.now in
    let below = place_of d.memories k m is in
    c.loop-k.invariant.each k m (omega (arith, below, c.loop-k-test.false, c.len-k-end.ensures, ap length c.memories.ensures)) is
