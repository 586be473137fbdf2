use Rattle.std.proofs.Common.{◌∙◌, ◌+◌, ap, arith, sym, subst, false, length}
use Rattle.comb_graph.specs.Laws.{FitsState}
use Rattle.design_ir.specs.Settled.{Settled}
use Rattle.design_ir.proofs.NumbersFit.{FitsSignals}
use Rattle.sim_plans.specs.Plans.{IsPlan, Rests}
use Rattle.sim_plans.specs.Settling.{EndsIn}
use Rattle.sim_plans.specs.Waiting.{Waiting}
use Rattle.delta_sim.specs.Standing.{IsFresh, AreNumbersOf, AreRowsOf}
use Rattle.delta_sim.proofs.Applying.{vec_whole}
use Rattle.delta_sim.proofs.Beginning.{numbers, fit, first_ends, first_rests}
use Rattle.delta_sim.proofs.Lives.{first_rows, move_state}
use Rattle.delta_sim.proofs.Moving.{no_signals}
use Rattle.sim_plans.proofs.Waits.{replicate_length}
use Rattle.delta_sim.proofs.sim.first_settled.Goals as goal

pub settle-requires-clause-state : goal.settle-requires-clause-state
settle-requires-clause-state g c =
    let d = c.args.design.now in
    let fresh = subst (IsFresh d) (sym c.sim.view_is) c.requires.fresh in
    let i = c.sim.inside in
    move_state (FitsState d) i.held.items c.as_slice.result.now i.rows.items c.as_slice-2.result.now c.as_slice.ensures.value c.as_slice-2.ensures.value (fit d c.count.ensures.rules c.processes.ensures.rules i.held.items fresh.held i.rows.items fresh.rows)

pub settle-requires-clause-signals : goal.settle-requires-clause-signals
settle-requires-clause-signals g c =
    let d = c.args.design.now in
    let fresh = subst (IsFresh d) (sym c.sim.view_is) c.requires.fresh in
    fresh.env.count

pub settle-requires-clause-fits : goal.settle-requires-clause-fits
settle-requires-clause-fits g c =
    let d = c.args.design.now in
    let fresh = subst (IsFresh d) (sym c.sim.view_is) c.requires.fresh in
    fresh.env.fits

pub settle-requires-clause-next : goal.settle-requires-clause-next
settle-requires-clause-next g c =
    let d = c.args.design.now in
    let fresh = subst (IsFresh d) (sym c.sim.view_is) c.requires.fresh in
    ap length c.deref_mut.ensures.value ∙ fresh.next.count

pub settle-requires-clause-next_fits : goal.settle-requires-clause-next_fits
settle-requires-clause-next_fits g c =
    let d = c.args.design.now in
    let fresh = subst (IsFresh d) (sym c.sim.view_is) c.requires.fresh in
    subst (FitsSignals d.pool) (sym c.deref_mut.ensures.value) fresh.next.fits

pub settle-requires-clause-moved : goal.settle-requires-clause-moved
settle-requires-clause-moved g c =
    let d = c.args.design.now in
    let fresh = subst (IsFresh d) (sym c.sim.view_is) c.requires.fresh in
    ap (λ (w : Waiting). length w.marks) fresh.moved ∙ replicate_length false (length d.pool.signals)

pub settle-requires-clause-rests : goal.settle-requires-clause-rests
settle-requires-clause-rests g c =
    let d = c.args.design.now in
    let i = c.sim.inside in
    let fresh = subst (IsFresh d) (sym c.sim.view_is) c.requires.fresh in
    let rests = first_rests d c.count.ensures.rules c.processes.ensures.rules i.held.items fresh.held i.rows.items fresh.rows i.env.items fresh.env fresh.same (length i.numbers.items) i.plan c.wake_all.new.waits.marks fresh.plan c.wake_all.ensures.all in
    move_state (λ st. Rests d st i.plan c.wake_all.new.waits.marks i.env.items) i.held.items c.as_slice.result.now i.rows.items c.as_slice-2.result.now c.as_slice.ensures.value c.as_slice-2.ensures.value rests

pub settle-requires-clause-rows : goal.settle-requires-clause-rows
settle-requires-clause-rows g c =
    let d = c.args.design.now in
    let i = c.sim.inside in
    let fresh = subst (IsFresh d) (sym c.sim.view_is) c.requires.fresh in
    subst (AreRowsOf d) (sym c.as_slice-2.ensures.value) (first_rows d i.rows.items c.count.ensures.rules c.processes.ensures.rules fresh.rows)

pub settle-requires-clause-most : goal.settle-requires-clause-most
settle-requires-clause-most g c =
    let fresh = subst (IsFresh c.args.design.now) (sym c.sim.view_is) c.requires.fresh in
    omega (arith, fresh.few_bits)

pub settle-requires-clause-ends : goal.settle-requires-clause-ends
settle-requires-clause-ends g c =
    let d = c.args.design.now in
    let i = c.sim.inside in
    let fresh = subst (IsFresh d) (sym c.sim.view_is) c.requires.fresh in
    let ends = first_ends d c.count.ensures.rules c.processes.ensures.rules i.held.items fresh.held i.rows.items fresh.rows i.env.items fresh.env fresh.same i.longest fresh.longest in
    move_state (λ st. EndsIn d st i.env.items (i.longest + 2)) i.held.items c.as_slice.result.now i.rows.items c.as_slice-2.result.now c.as_slice.ensures.value c.as_slice-2.ensures.value ends

pub returns-clause-of_design : goal.returns-clause-of_design
returns-clause-of_design g c =
    let d = c.args.design.now in
    let i = c.sim.inside in
    let fresh = subst (IsFresh d) (sym c.sim.view_is) c.requires.fresh in
    let held = numbers d c.count.ensures.rules c.processes.ensures.rules i.held.items fresh.held in
    let next_long = c.settle.ensures.next ∙ sym (ap length c.deref_mut.ensures.value ∙ fresh.next.count) ∙ c.deref_mut.ensures.len in
    record {
      held = held;
      rows = first_rows d i.rows.items c.count.ensures.rules c.processes.ensures.rules fresh.rows;
      env = record { count = c.settle.ensures.signals; fits = c.settle.ensures.fits };
      settled = move_state (λ st. Settled d st c.settle.new.env.items) c.as_slice.result.now i.held.items c.as_slice-2.result.now i.rows.items (sym c.as_slice.ensures.value) (sym c.as_slice-2.ensures.value) c.settle.ensures.settled;
      longest = fresh.longest;
      few_bits = fresh.few_bits;
      plan = subst (λ n. IsPlan d n i.plan) (sym c.settle.ensures.count) fresh.plan;
      numbers = c.settle.ensures.numbers;
      next = subst (AreNumbersOf d) (sym (vec_whole i.next.len c.settle.new.next i.next.items next_long)) (record { count = c.settle.ensures.next; fits = c.settle.ensures.next_fits });
      waits = c.settle.ensures.waits;
      then = c.settle.ensures.then;
      woken = c.settle.ensures.woken;
      noted = fresh.noted;
      changed = fresh.changed;
      moved = no_signals d c.clear.new.self (length c.settle.new.moved.marks) c.clear.ensures (c.settle.ensures.moved.count ∙ ap (λ (w : Waiting). length w.marks) fresh.moved ∙ replicate_length false (length d.pool.signals));
    }
