use Rattle.std.proofs.Common.{◌≡◌, ◌+◌, ◌*◌, ◌≤◌, ◌∙◌, ℕ, sym, ap, subst, arith, false, refl, length, replicate}
use Rattle.design_ir.proofs.NumbersFit.{FitsSignals}
use Rattle.comb_graph.proofs.DeltaLaws.{delta_length, delta_fits}
use Rattle.sim_plans.specs.Plans.{IsPlan, Wakes}
use Rattle.sim_plans.specs.Settling.{nobody}
use Rattle.delta_sim.specs.Standing.{state_of}
use Rattle.sim_plans.specs.Waiting.{Waiting}
use Rattle.delta_sim.proofs.Counting.{few_agents}
use Rattle.delta_sim.proofs.Moving.{notes_none, notes_more}
use Rattle.delta_sim.proofs.Resting.{rests_next}
use Rattle.delta_sim.proofs.Settles.{idle_of, left_first, left_turn, left_next, idle_settles, count_here, count_next, count_end, runs_fit, runs_next, awake, one_most}
use Rattle.sim_plans.proofs.Waits.{count_most, replicate_length}
use Rattle.delta_sim.proofs.settle.settle.Goals as goal

pub loop-init : goal.loop-init
loop-init g c =
    let d = c.args.design.now in
    let st = state_of c.args.held.now c.args.rows.now in
    record {
      signals = c.requires.signals;
      fits = c.requires.fits;
      count = refl;
      numbers = c.requires.numbers;
      next = c.requires.next;
      next_fits = c.requires.next_fits;
      waits = c.requires.waits;
      then = c.requires.then;
      woken = c.requires.woken;
      moved = notes_none c.args.env.now.items c.args.moved.now.marks;
      rests = c.requires.rests;
      left = left_first d st c.args.env.now.items c.args.waits.now.marks c.args.most c.requires.ends;
      counts = λ before old rest wakes are. record { rows = before; old = old; rest = rest; are = are; wakes = wakes; many_deltas = omega arith; many_runs = omega arith };
      few_deltas = omega arith;
      few_runs = omega arith;
      steps = omega arith;
    }

pub counted-counts-requires-clause-deltas : goal.counted-counts-requires-clause-deltas
counted-counts-requires-clause-deltas g c = omega (arith, c.loop.invariant.few_deltas, c.loop-test.true, c.requires.most)

pub counted-counts-requires-clause-runs : goal.counted-counts-requires-clause-runs
counted-counts-requires-clause-runs g c =
    let d = c.args.design.now in
    let agents : ℕ = c.args.plan.now.agents in
    let some : c.len-count.result ≤ agents = omega (arith, c.len-count.ensures.count, c.len-count.ensures.rules.count, count_most c.loop.woken.marks, c.loop.invariant.woken) in
    let plan = subst (λ n. IsPlan d n c.args.plan.now) (sym c.loop.invariant.count) c.requires.plan in
    let few = few_agents d c.processes.ensures.rules (length c.loop.nums.items) c.args.plan.now plan c.count.ensures.rules in
    runs_fit c.loop.counter agents c.len-count.result c.loop.counts.runs c.args.most c.loop.invariant.few_runs some c.loop-test.true c.requires.most few

pub returns-then-len-eq0 : goal.returns-then-len-eq0
returns-then-len-eq0 g c =
    let d = c.args.design.now in
    let st = state_of c.args.held.now c.args.rows.now in
    let idle = idle_of c.loop.waits c.len.ensures.rules (sym c.len.ensures.count ∙ c.if-len-eq0.true) in
    let settled = idle_settles d st c.count.ensures.rules c.processes.ensures.rules c.args.plan.now c.loop.waits.marks c.loop.env.items c.loop.invariant.signals c.loop.invariant.rests idle in
    let plan = subst (λ n. IsPlan d n c.args.plan.now) (sym c.loop.invariant.count) c.requires.plan in
    record {
      settled = settled;
      signals = c.loop.invariant.signals;
      fits = c.loop.invariant.fits;
      count = c.loop.invariant.count;
      numbers = c.loop.invariant.numbers;
      next = c.loop.invariant.next;
      next_fits = c.loop.invariant.next_fits;
      waits = c.clear-then-len-eq0.ensures ∙ ap nobody c.loop.invariant.waits;
      then = c.loop.invariant.then;
      woken = c.clear.ensures ∙ ap nobody c.loop.invariant.woken;
      moved = c.loop.invariant.moved;
      counts = λ before old rest wakes are.
          let here = count_here d st c.processes.ensures.rules (length c.loop.nums.items) c.args.plan.now plan c.loop.env.items c.loop.woken.marks c.len-count.result c.loop.counts.deltas c.loop.counts.runs _ _ c.requires.rows.count c.loop.invariant.woken (c.len-count.ensures.count ∙ c.len-count.ensures.rules.count) (c.loop.invariant.counts before old rest wakes are) in
          let all = count_end d st c.loop.env.items _ _ _ _ settled here in
          record { many_deltas = c.counted-counts.ensures.deltas ∙ all.0; many_runs = c.counted-counts.ensures.runs ∙ all.1 };
      steps = omega (arith, c.tick.ensures, c.loop.invariant.steps, c.counted-counts.ensures.runs);
    }

pub delta-requires : goal.delta-requires
delta-requires g c =
    let d = c.args.design.now in
    record {
      plan = subst (λ n. IsPlan d n c.args.plan.now) (sym c.loop.invariant.count) c.requires.plan;
      rows = c.requires.rows;
      signals = c.loop.invariant.signals;
      fits = c.loop.invariant.fits;
      numbers = c.loop.invariant.numbers;
      next = c.loop.invariant.next;
      next_fits = c.loop.invariant.next_fits;
      waits = c.loop.invariant.waits;
      then = c.loop.invariant.then;
      woken = ap (λ (w : Waiting). length w.marks) (c.clear.ensures ∙ ap nobody c.loop.invariant.woken) ∙ replicate_length false c.args.plan.now.agents;
      moved = c.loop.invariant.moved.count ∙ c.requires.moved;
    }

pub loop-preserved : goal.loop-preserved
loop-preserved g c =
    let d = c.args.design.now in
    let st = state_of c.args.held.now c.args.rows.now in
    let rules = c.count.ensures.rules in
    let design = c.processes.ensures.rules in
    let env = c.loop.env.items in
    let new = c.delta.new.env.items in
    let plan = subst (λ n. IsPlan d n c.args.plan.now) (sym c.loop.invariant.count) c.requires.plan in
    let e = c.delta.ensures.env st c.requires.state refl c.loop.invariant.rests in
    let long : length new ≡ length d.pool.signals = ap length e ∙ delta_length d st rules design env in
    let fits : FitsSignals d.pool new = subst (FitsSignals d.pool) (sym e) (delta_fits d st rules design c.requires.state env) in
    let n : ℕ = c.args.plan.now.agents in
    let some = awake c.loop.waits c.len.ensures.rules (λ z. c.if-len-eq0.false (c.len.ensures.count ∙ z)) in
    let clear = ap (λ (w : Waiting). w.marks) (c.clear.ensures ∙ ap nobody c.loop.invariant.woken) in
    let woken = subst (λ was. Wakes c.args.plan.now.processes env new was c.delta.new.woken.marks) clear c.delta.ensures.woken in
    let few : c.len-count.result ≤ n = omega (arith, c.len-count.ensures.count, c.len-count.ensures.rules.count, count_most c.loop.woken.marks, c.loop.invariant.woken) in
    let most_one = one_most c.len-count.result in
    record {
      signals = long;
      fits = fits;
      count = c.delta.ensures.count ∙ c.loop.invariant.count;
      numbers = c.delta.ensures.numbers;
      next = c.delta.ensures.next;
      next_fits = c.delta.ensures.next_fits;
      waits = c.delta.ensures.waits.count ∙ replicate_length false c.args.plan.now.jobs;
      then = c.delta.ensures.then;
      woken = woken.count ∙ replicate_length false n;
      moved = notes_more c.args.env.now.items env new c.args.moved.now.marks c.loop.moved.marks c.delta.new.moved.marks c.loop.invariant.moved c.delta.ensures.moved;
      rests = rests_next d rules design (length c.loop.nums.items) c.loop.invariant.numbers.few c.args.plan.now plan st env new (replicate c.args.plan.now.jobs false) c.delta.new.waits.marks c.requires.rows.count e long (delta_length d st rules design new) c.delta.ensures.waits;
      left = left_next d st c.args.plan.now.readers c.args.plan.now.jobs env new c.loop.waits.marks c.delta.new.waits.marks c.args.most c.loop.counter c.loop.invariant.left some e c.delta.ensures.waits;
      counts = λ before old rest wakes are.
          let here = count_here d st c.processes.ensures.rules (length c.loop.nums.items) c.args.plan.now plan env c.loop.woken.marks c.len-count.result c.loop.counts.deltas c.loop.counts.runs _ _ c.requires.rows.count c.loop.invariant.woken (c.len-count.ensures.count ∙ c.len-count.ensures.rules.count) (c.loop.invariant.counts before old rest wakes are) in
          let same = rw (← c.counted-counts.ensures.deltas, ← c.counted-counts.ensures.runs) at here in
          count_next d st c.args.plan.now env new c.delta.new.woken.marks c.counted-counts.result.deltas c.counted-counts.result.runs _ _ c.requires.rows.count e woken same;
      few_deltas = omega (arith, c.counted-counts.ensures.deltas, c.loop.invariant.few_deltas, most_one);
      few_runs = subst (λ k. k ≤ (c.loop.counter + 1) * n) (sym c.counted-counts.ensures.runs) (runs_next c.loop.counter n c.len-count.result c.loop.counts.runs c.loop.invariant.few_runs few);
      steps = omega (arith, c.tick.ensures, c.loop.invariant.steps, c.counted-counts.ensures.runs);
    }

pub returns : goal.returns
returns g c =
    let turn = left_turn c.args.design.now (state_of c.args.held.now c.args.rows.now) c.loop.env.items c.loop.waits.marks c.args.most c.loop.counter c.loop.invariant.left in
    absurd (omega (arith, turn, c.loop-test.false))
