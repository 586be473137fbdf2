use Rattle.std.proofs.Common.{◌≡◌, ◌+◌, ◌∙◌, ◌∷◌, sym, ap, arith, subst, false, ◌<◌, ◌≤◌, ◌++◌, take, drop, length}
use Rattle.std.specs.List.{AllByRecursion}
use Rattle.design_ir.specs.Histories.{DeltasFrom}
use Rattle.comb_graph.specs.Laws.{FitsState}
use Rattle.design_ir.specs.Settled.{Settled}
use Rattle.design_ir.specs.Steps.{step}
use Rattle.design_ir.proofs.NumbersFit.{FitsSignals}
use Rattle.sim_plans.specs.Driven.{numbers_of}
use Rattle.sim_plans.specs.Plans.{taken, Notes, Rests, IsTable, IsPlan, Wakes}
use Rattle.sim_plans.specs.Settling.{AreCounts, EndsIn, IsWoken, nobody}
use Rattle.delta_sim.specs.Standing.{Simulated, IsSimOf, Settles, Stands, Tells, state_of, AreNumbersOf, AreRowsOf, AreSignals}
use Rattle.sim_plans.specs.Waiting.{Waiting}
use Rattle.delta_sim.proofs.Applying.{begins, vec_whole}
use Rattle.delta_sim.proofs.Lives.{happened, move_state, same_state, step_numbers, step_rows}
use Rattle.delta_sim.proofs.Moving.{no_signals, notes_more, tells}
use Rattle.delta_sim.proofs.Settles.{deltas_of_few}
use Rattle.sim_plans.proofs.Waits.{replicate_length}
use Rattle.delta_sim.proofs.sim.Sim.apply.Goals as goal

pub hold-requires : goal.hold-requires
hold-requires g c =
    let d = c.args.design.now in
    let of = subst (IsSimOf d) (sym c.self.view_is) c.requires.of_design in
    record {
      legal = c.requires.legal;
      plan = of.plan;
      env = ap length c.as_slice.ensures.value ∙ of.env.count;
      env_fits = subst (FitsSignals d.pool) (sym c.as_slice.ensures.value) of.env.fits;
      numbers = of.numbers;
      signals = of.held.count;
      fits = of.held.fits;
      rows = of.rows;
      room = of.noted;
      changed = of.changed;
    }

pub take_given-requires : goal.take_given-requires
take_given-requires g c =
    let d = c.args.design.now in
    let i = c.self.inside in
    let of = subst (IsSimOf d) (sym c.self.view_is) c.requires.of_design in
    let marks_long : length i.waits.marks ≡ i.plan.jobs = ap (λ (w : Waiting). length w.marks) of.waits ∙ replicate_length false i.plan.jobs in
    let woken_long : length i.woken.marks ≡ i.plan.agents = ap (λ (w : Waiting). length w.marks) of.woken ∙ replicate_length false i.plan.agents in
    let held_long = ap length (c.hold.ensures.held ∙ ap (λ xs. (step d (state_of i.held.items i.rows.items) xs c.args.event.now).held) c.as_slice.ensures.value) in
    record {
      tasks = subst (λ n. IsTable n (length i.waits.marks) i.plan.readers) (sym of.env.count) (subst (λ b. IsTable (length d.pool.signals) b i.plan.readers) (sym marks_long) of.plan.readers);
      processes = subst (λ n. IsTable n (length i.woken.marks) i.plan.processes) (sym of.env.count) (subst (λ b. IsTable (length d.pool.signals) b i.plan.processes) (sym woken_long) of.plan.processes);
      below = subst (λ n. AllByRecursion (λ s. s < n) (numbers_of i.plan.given)) (sym of.env.count) of.plan.given_below;
      long = ap length c.as_slice-2.ensures.value ∙ held_long ∙ (step_numbers d c.count.ensures.rules c.processes.ensures.rules i.held.items i.rows.items i.env.items c.args.event.now c.requires.legal of.held of.rows).count ∙ sym of.env.count;
      moved = (no_signals d c.clear.new.self (length i.moved.marks) c.clear.ensures of.moved.count).count ∙ sym of.env.count;
    }

pub wake_ports-requires : goal.wake_ports-requires
wake_ports-requires g c =
    let d = c.args.design.now in
    let i = c.self.inside in
    let of = subst (IsSimOf d) (sym c.self.view_is) c.requires.of_design in
    record {
      tasks = of.plan.jobs;
      processes = omega (arith, of.plan.agents);
      waits = c.take_given.ensures.waits.count ∙ ap (λ (w : Waiting). length w.marks) of.waits ∙ replicate_length false i.plan.jobs;
      woken = c.take_given.ensures.woken.count ∙ ap (λ (w : Waiting). length w.marks) of.woken ∙ replicate_length false i.plan.agents;
    }

pub settle-self-inside-requires-clause-rows : goal.settle-self-inside-requires-clause-rows
settle-self-inside-requires-clause-rows g c =
    let d = c.args.design.now in
    let i = c.self.inside in
    let of = subst (IsSimOf d) (sym c.self.view_is) c.requires.of_design in
    let rows_is = c.hold.ensures.rows ∙ ap (λ xs. (step d (state_of i.held.items i.rows.items) xs c.args.event.now).rows) c.as_slice.ensures.value in
    let rows = step_rows d c.count.ensures.rules c.processes.ensures.rules i.held.items i.rows.items i.env.items c.args.event.now c.requires.legal of.held of.rows in
    subst (AreRowsOf d) (sym (c.as_slice-4.ensures.value ∙ rows_is)) rows

pub settle-self-inside-requires-clause-waits : goal.settle-self-inside-requires-clause-waits
settle-self-inside-requires-clause-waits g c =
    let i = c.self.inside in
    let of = subst (IsSimOf c.args.design.now) (sym c.self.view_is) c.requires.of_design in
    c.wake_ports.ensures.waits.count ∙ c.take_given.ensures.waits.count ∙ ap (λ (w : Waiting). length w.marks) of.waits ∙ replicate_length false i.plan.jobs

pub settle-self-inside-requires-clause-woken : goal.settle-self-inside-requires-clause-woken
settle-self-inside-requires-clause-woken g c =
    let d = c.args.design.now in
    let i = c.self.inside in
    let of = subst (IsSimOf d) (sym c.self.view_is) c.requires.of_design in
    (c.wake_ports.ensures.woken (length d.processes) of.plan.agents).count ∙ c.take_given.ensures.woken.count ∙ ap (λ (w : Waiting). length w.marks) of.woken ∙ replicate_length false i.plan.agents

pub settle-self-inside-requires-clause-moved : goal.settle-self-inside-requires-clause-moved
settle-self-inside-requires-clause-moved g c =
    let d = c.args.design.now in
    let i = c.self.inside in
    let of = subst (IsSimOf d) (sym c.self.view_is) c.requires.of_design in
    c.take_given.ensures.moved.count ∙ (no_signals d c.clear.new.self (length i.moved.marks) c.clear.ensures of.moved.count).count

pub settle-self-inside-requires-clause-most : goal.settle-self-inside-requires-clause-most
settle-self-inside-requires-clause-most g c =
    let of = subst (IsSimOf c.args.design.now) (sym c.self.view_is) c.requires.of_design in
    omega (arith, of.few_bits)

pub settle-self-inside-requires-clause-state : goal.settle-self-inside-requires-clause-state
settle-self-inside-requires-clause-state g c =
    let d = c.args.design.now in
    let i = c.self.inside in
    let of = subst (IsSimOf d) (sym c.self.view_is) c.requires.of_design in
    let held = c.hold.new.held.items in
    let rows = c.hold.new.rows.items in
    let first = c.take_given.new.env.items in
    let marks = c.wake_ports.new.waits.marks in
    let held_is = c.hold.ensures.held ∙ ap (λ xs. (step d (state_of i.held.items i.rows.items) xs c.args.event.now).held) c.as_slice.ensures.value in
    let rows_is = c.hold.ensures.rows ∙ ap (λ xs. (step d (state_of i.held.items i.rows.items) xs c.args.event.now).rows) c.as_slice.ensures.value in
    let first_is = c.take_given.ensures.env ∙ ap (λ xs. taken xs (numbers_of i.plan.given) i.env.items) c.as_slice-2.ensures.value in
    let begun = begins d c.count.ensures.rules c.processes.ensures.rules _ of c.args.event.now c.requires.legal c.deltas_are_few.ensures held rows first i.waits.marks c.take_given.new.waits.marks marks c.hold.new.changed.marks held_is rows_is first_is c.take_given.ensures.waits c.wake_ports.ensures.waits c.hold.ensures.changed in
    move_state (FitsState d) held c.as_slice-3.result.now rows c.as_slice-4.result.now c.as_slice-3.ensures.value c.as_slice-4.ensures.value begun.fit

pub settle-self-inside-requires-clause-signals : goal.settle-self-inside-requires-clause-signals
settle-self-inside-requires-clause-signals g c =
    let d = c.args.design.now in
    let i = c.self.inside in
    let of = subst (IsSimOf d) (sym c.self.view_is) c.requires.of_design in
    let held = c.hold.new.held.items in
    let rows = c.hold.new.rows.items in
    let first = c.take_given.new.env.items in
    let marks = c.wake_ports.new.waits.marks in
    let held_is = c.hold.ensures.held ∙ ap (λ xs. (step d (state_of i.held.items i.rows.items) xs c.args.event.now).held) c.as_slice.ensures.value in
    let rows_is = c.hold.ensures.rows ∙ ap (λ xs. (step d (state_of i.held.items i.rows.items) xs c.args.event.now).rows) c.as_slice.ensures.value in
    let first_is = c.take_given.ensures.env ∙ ap (λ xs. taken xs (numbers_of i.plan.given) i.env.items) c.as_slice-2.ensures.value in
    let begun = begins d c.count.ensures.rules c.processes.ensures.rules _ of c.args.event.now c.requires.legal c.deltas_are_few.ensures held rows first i.waits.marks c.take_given.new.waits.marks marks c.hold.new.changed.marks held_is rows_is first_is c.take_given.ensures.waits c.wake_ports.ensures.waits c.hold.ensures.changed in
    begun.numbers.count

pub settle-self-inside-requires-clause-fits : goal.settle-self-inside-requires-clause-fits
settle-self-inside-requires-clause-fits g c =
    let d = c.args.design.now in
    let i = c.self.inside in
    let of = subst (IsSimOf d) (sym c.self.view_is) c.requires.of_design in
    let held = c.hold.new.held.items in
    let rows = c.hold.new.rows.items in
    let first = c.take_given.new.env.items in
    let marks = c.wake_ports.new.waits.marks in
    let held_is = c.hold.ensures.held ∙ ap (λ xs. (step d (state_of i.held.items i.rows.items) xs c.args.event.now).held) c.as_slice.ensures.value in
    let rows_is = c.hold.ensures.rows ∙ ap (λ xs. (step d (state_of i.held.items i.rows.items) xs c.args.event.now).rows) c.as_slice.ensures.value in
    let first_is = c.take_given.ensures.env ∙ ap (λ xs. taken xs (numbers_of i.plan.given) i.env.items) c.as_slice-2.ensures.value in
    let begun = begins d c.count.ensures.rules c.processes.ensures.rules _ of c.args.event.now c.requires.legal c.deltas_are_few.ensures held rows first i.waits.marks c.take_given.new.waits.marks marks c.hold.new.changed.marks held_is rows_is first_is c.take_given.ensures.waits c.wake_ports.ensures.waits c.hold.ensures.changed in
    begun.numbers.fits

pub settle-self-inside-requires-clause-rests : goal.settle-self-inside-requires-clause-rests
settle-self-inside-requires-clause-rests g c =
    let d = c.args.design.now in
    let i = c.self.inside in
    let of = subst (IsSimOf d) (sym c.self.view_is) c.requires.of_design in
    let held = c.hold.new.held.items in
    let rows = c.hold.new.rows.items in
    let first = c.take_given.new.env.items in
    let marks = c.wake_ports.new.waits.marks in
    let held_is = c.hold.ensures.held ∙ ap (λ xs. (step d (state_of i.held.items i.rows.items) xs c.args.event.now).held) c.as_slice.ensures.value in
    let rows_is = c.hold.ensures.rows ∙ ap (λ xs. (step d (state_of i.held.items i.rows.items) xs c.args.event.now).rows) c.as_slice.ensures.value in
    let first_is = c.take_given.ensures.env ∙ ap (λ xs. taken xs (numbers_of i.plan.given) i.env.items) c.as_slice-2.ensures.value in
    let begun = begins d c.count.ensures.rules c.processes.ensures.rules _ of c.args.event.now c.requires.legal c.deltas_are_few.ensures held rows first i.waits.marks c.take_given.new.waits.marks marks c.hold.new.changed.marks held_is rows_is first_is c.take_given.ensures.waits c.wake_ports.ensures.waits c.hold.ensures.changed in
    move_state (λ st. Rests d st i.plan marks first) held c.as_slice-3.result.now rows c.as_slice-4.result.now c.as_slice-3.ensures.value c.as_slice-4.ensures.value begun.rests

pub settle-self-inside-requires-clause-ends : goal.settle-self-inside-requires-clause-ends
settle-self-inside-requires-clause-ends g c =
    let d = c.args.design.now in
    let i = c.self.inside in
    let of = subst (IsSimOf d) (sym c.self.view_is) c.requires.of_design in
    let held = c.hold.new.held.items in
    let rows = c.hold.new.rows.items in
    let first = c.take_given.new.env.items in
    let marks = c.wake_ports.new.waits.marks in
    let held_is = c.hold.ensures.held ∙ ap (λ xs. (step d (state_of i.held.items i.rows.items) xs c.args.event.now).held) c.as_slice.ensures.value in
    let rows_is = c.hold.ensures.rows ∙ ap (λ xs. (step d (state_of i.held.items i.rows.items) xs c.args.event.now).rows) c.as_slice.ensures.value in
    let first_is = c.take_given.ensures.env ∙ ap (λ xs. taken xs (numbers_of i.plan.given) i.env.items) c.as_slice-2.ensures.value in
    let begun = begins d c.count.ensures.rules c.processes.ensures.rules _ of c.args.event.now c.requires.legal c.deltas_are_few.ensures held rows first i.waits.marks c.take_given.new.waits.marks marks c.hold.new.changed.marks held_is rows_is first_is c.take_given.ensures.waits c.wake_ports.ensures.waits c.hold.ensures.changed in
    move_state (λ st. EndsIn d st first (i.longest + 2)) held c.as_slice-3.result.now rows c.as_slice-4.result.now c.as_slice-3.ensures.value c.as_slice-4.ensures.value begun.ends

pub returns-clause-of_design : goal.returns-clause-of_design
returns-clause-of_design g c =
    let d = c.args.design.now in
    let i = c.self.inside in
    let of = subst (IsSimOf d) (sym c.self.view_is) c.requires.of_design in
    let held = c.hold.new.held.items in
    let rows = c.hold.new.rows.items in
    let first = c.take_given.new.env.items in
    let marks = c.wake_ports.new.waits.marks in
    let held_is = c.hold.ensures.held ∙ ap (λ xs. (step d (state_of i.held.items i.rows.items) xs c.args.event.now).held) c.as_slice.ensures.value in
    let rows_is = c.hold.ensures.rows ∙ ap (λ xs. (step d (state_of i.held.items i.rows.items) xs c.args.event.now).rows) c.as_slice.ensures.value in
    let first_is = c.take_given.ensures.env ∙ ap (λ xs. taken xs (numbers_of i.plan.given) i.env.items) c.as_slice-2.ensures.value in
    let begun = begins d c.count.ensures.rules c.processes.ensures.rules _ of c.args.event.now c.requires.legal c.deltas_are_few.ensures held rows first i.waits.marks c.take_given.new.waits.marks marks c.hold.new.changed.marks held_is rows_is first_is c.take_given.ensures.waits c.wake_ports.ensures.waits c.hold.ensures.changed in
    let next_long = c.settle-self-inside.ensures.next ∙ sym of.next.count ∙ sym (ap length c.deref_mut.ensures.value) ∙ c.deref_mut.ensures.len in
    let settled = move_state (λ st. Settled d st c.settle-self-inside.new.env.items) c.as_slice-3.result.now held c.as_slice-4.result.now rows (sym c.as_slice-3.ensures.value) (sym c.as_slice-4.ensures.value) c.settle-self-inside.ensures.settled in
    record {
      held = begun.held_of;
      rows = begun.rows_of;
      env = record { count = c.settle-self-inside.ensures.signals; fits = c.settle-self-inside.ensures.fits };
      settled = settled;
      longest = of.longest;
      few_bits = of.few_bits;
      plan = subst (λ n. IsPlan d n i.plan) (sym (c.settle-self-inside.ensures.count ∙ c.hold.ensures.count)) of.plan;
      numbers = c.settle-self-inside.ensures.numbers;
      next = subst (AreNumbersOf d) (sym (vec_whole i.next.len c.settle-self-inside.new.next i.next.items next_long)) (record { count = c.settle-self-inside.ensures.next; fits = c.settle-self-inside.ensures.next_fits });
      waits = c.settle-self-inside.ensures.waits;
      then = c.settle-self-inside.ensures.then;
      woken = c.settle-self-inside.ensures.woken;
      noted = omega (arith, of.noted, c.hold.ensures.room);
      changed = c.clear-2.ensures ∙ ap nobody c.hold.ensures.changed_count;
      moved = record { count = c.settle-self-inside.ensures.moved.count ∙ c.take_given.ensures.moved.count ∙ (no_signals d c.clear.new.self (length i.moved.marks) c.clear.ensures of.moved.count).count; once = c.items.ensures.rules };
    }

pub returns-clause-lives : goal.returns-clause-lives
returns-clause-lives g c = λ events stands.
    let d = c.args.design.now in
    let i = c.self.inside in
    let of = subst (IsSimOf d) (sym c.self.view_is) c.requires.of_design in
    let held = c.hold.new.held.items in
    let rows = c.hold.new.rows.items in
    let first = c.take_given.new.env.items in
    let marks = c.wake_ports.new.waits.marks in
    let held_is = c.hold.ensures.held ∙ ap (λ xs. (step d (state_of i.held.items i.rows.items) xs c.args.event.now).held) c.as_slice.ensures.value in
    let rows_is = c.hold.ensures.rows ∙ ap (λ xs. (step d (state_of i.held.items i.rows.items) xs c.args.event.now).rows) c.as_slice.ensures.value in
    let first_is = c.take_given.ensures.env ∙ ap (λ xs. taken xs (numbers_of i.plan.given) i.env.items) c.as_slice-2.ensures.value in
    let begun = begins d c.count.ensures.rules c.processes.ensures.rules _ of c.args.event.now c.requires.legal c.deltas_are_few.ensures held rows first i.waits.marks c.take_given.new.waits.marks marks c.hold.new.changed.marks held_is rows_is first_is c.take_given.ensures.waits c.wake_ports.ensures.waits c.hold.ensures.changed in
    let next_long = c.settle-self-inside.ensures.next ∙ sym of.next.count ∙ sym (ap length c.deref_mut.ensures.value) ∙ c.deref_mut.ensures.len in
    let settled = move_state (λ st. Settled d st c.settle-self-inside.new.env.items) c.as_slice-3.result.now held c.as_slice-4.result.now rows (sym c.as_slice-3.ensures.value) (sym c.as_slice-4.ensures.value) c.settle-self-inside.ensures.settled in
    let new : Simulated = record {
      held = c.hold.new.held.items;
      rows = c.hold.new.rows.items;
      env = c.settle-self-inside.new.env.items;
      counts = c.settle-self-inside.result;
      longest = c.self.inside.longest;
      plan = c.self.inside.plan;
      numbers = c.settle-self-inside.new.nums.items;
      next = take c.self.inside.next.len (c.settle-self-inside.new.next ++ drop (length c.settle-self-inside.new.next) c.self.inside.next.items);
      waits = c.settle-self-inside.new.waits;
      then = c.settle-self-inside.new.then;
      woken = c.settle-self-inside.new.woken;
      noted = c.hold.new.room.items;
      changed = c.clear-2.new.self;
      moved = c.settle-self-inside.new.moved;
    } in
    let is_sim : IsSimOf d new = record {
      held = begun.held_of;
      rows = begun.rows_of;
      env = record { count = c.settle-self-inside.ensures.signals; fits = c.settle-self-inside.ensures.fits };
      settled = settled;
      longest = of.longest;
      few_bits = of.few_bits;
      plan = subst (λ n. IsPlan d n i.plan) (sym (c.settle-self-inside.ensures.count ∙ c.hold.ensures.count)) of.plan;
      numbers = c.settle-self-inside.ensures.numbers;
      next = subst (AreNumbersOf d) (sym (vec_whole i.next.len c.settle-self-inside.new.next i.next.items next_long)) (record { count = c.settle-self-inside.ensures.next; fits = c.settle-self-inside.ensures.next_fits });
      waits = c.settle-self-inside.ensures.waits;
      then = c.settle-self-inside.ensures.then;
      woken = c.settle-self-inside.ensures.woken;
      noted = omega (arith, of.noted, c.hold.ensures.room);
      changed = c.clear-2.ensures ∙ ap nobody c.hold.ensures.changed_count;
      moved = record { count = c.settle-self-inside.ensures.moved.count ∙ c.take_given.ensures.moved.count ∙ (no_signals d c.clear.new.self (length i.moved.marks) c.clear.ensures of.moved.count).count; once = c.items.ensures.rules };
    } in
    let was : Simulated = record { held = i.held.items; rows = i.rows.items; env = i.env.items; counts = i.counts; longest = i.longest; plan = i.plan; numbers = i.numbers.items; next = i.next.items; waits = i.waits; then = i.then; woken = i.woken; noted = i.noted.items; changed = i.changed; moved = i.moved } in
    happened d events c.args.event.now was new is_sim (same_state (step d (state_of i.held.items i.rows.items) i.env.items c.args.event.now) held rows held_is rows_is) settled (subst (Stands d events) (sym c.self.view_is) stands)

pub returns-clause-counts : goal.returns-clause-counts
returns-clause-counts g c =
    let d = c.args.design.now in
    let i = c.self.inside in
    let of = subst (IsSimOf d) (sym c.self.view_is) c.requires.of_design in
    let held = c.hold.new.held.items in
    let rows = c.hold.new.rows.items in
    let first = c.take_given.new.env.items in
    let marks = c.wake_ports.new.waits.marks in
    let held_is = c.hold.ensures.held ∙ ap (λ xs. (step d (state_of i.held.items i.rows.items) xs c.args.event.now).held) c.as_slice.ensures.value in
    let rows_is = c.hold.ensures.rows ∙ ap (λ xs. (step d (state_of i.held.items i.rows.items) xs c.args.event.now).rows) c.as_slice.ensures.value in
    let first_is = c.take_given.ensures.env ∙ ap (λ xs. taken xs (numbers_of i.plan.given) i.env.items) c.as_slice-2.ensures.value in
    let begun = begins d c.count.ensures.rules c.processes.ensures.rules _ of c.args.event.now c.requires.legal c.deltas_are_few.ensures held rows first i.waits.marks c.take_given.new.waits.marks marks c.hold.new.changed.marks held_is rows_is first_is c.take_given.ensures.waits c.wake_ports.ensures.waits c.hold.ensures.changed in
    let rest = begun.ends.rest in
    let none = ap (λ (w : Waiting). w.marks) of.woken in
    let woken : IsWoken d i.plan i.env.items first i.rows.items rows c.wake_ports.new.woken.marks = record {
      many = of.rows.count;
      between = c.take_given.new.woken.marks;
      changed = c.hold.new.changed.marks;
      signals = subst (λ was. Wakes i.plan.processes i.env.items first was c.take_given.new.woken.marks) none c.take_given.ensures.woken;
      ports = c.wake_ports.ensures.woken (length d.processes) of.plan.agents;
      are_changed = c.hold.ensures.changed;
    } in
    let wakes = subst (λ ys. IsWoken d i.plan i.env.items first i.rows.items ys c.wake_ports.new.woken.marks) (sym c.as_slice-4.ensures.value) woken in
    let are = move_state (λ st. DeltasFrom d st first rest) held c.as_slice-3.result.now rows c.as_slice-4.result.now c.as_slice-3.ensures.value c.as_slice-4.ensures.value begun.ends.are in
    let counts = c.settle-self-inside.ensures.counts i.rows.items i.env.items rest wakes are in
    let counted = subst (λ ys. AreCounts d i.rows.items ys i.env.items (first ∷ rest) c.settle-self-inside.result.deltas c.settle-self-inside.result.runs) c.as_slice-4.ensures.value counts in
    let new : Simulated = record {
      held = c.hold.new.held.items;
      rows = c.hold.new.rows.items;
      env = c.settle-self-inside.new.env.items;
      counts = c.settle-self-inside.result;
      longest = c.self.inside.longest;
      plan = c.self.inside.plan;
      numbers = c.settle-self-inside.new.nums.items;
      next = take c.self.inside.next.len (c.settle-self-inside.new.next ++ drop (length c.settle-self-inside.new.next) c.self.inside.next.items);
      waits = c.settle-self-inside.new.waits;
      then = c.settle-self-inside.new.then;
      woken = c.settle-self-inside.new.woken;
      noted = c.hold.new.room.items;
      changed = c.clear-2.new.self;
      moved = c.settle-self-inside.new.moved;
    } in
    let was : Simulated = record { held = i.held.items; rows = i.rows.items; env = i.env.items; counts = i.counts; longest = i.longest; plan = i.plan; numbers = i.numbers.items; next = i.next.items; waits = i.waits; then = i.then; woken = i.woken; noted = i.noted.items; changed = i.changed; moved = i.moved } in
    let here : Settles d was new = record { deltas = first ∷ rest; are = begun.deltas rest begun.ends.are; counts = counted } in
    subst (λ (s : Simulated). Settles d s new) c.self.view_is here

pub returns-clause-few : goal.returns-clause-few
returns-clause-few g c =
    let d = c.args.design.now in
    let i = c.self.inside in
    let of = subst (IsSimOf d) (sym c.self.view_is) c.requires.of_design in
    let held = c.hold.new.held.items in
    let rows = c.hold.new.rows.items in
    let first = c.take_given.new.env.items in
    let marks = c.wake_ports.new.waits.marks in
    let held_is = c.hold.ensures.held ∙ ap (λ xs. (step d (state_of i.held.items i.rows.items) xs c.args.event.now).held) c.as_slice.ensures.value in
    let rows_is = c.hold.ensures.rows ∙ ap (λ xs. (step d (state_of i.held.items i.rows.items) xs c.args.event.now).rows) c.as_slice.ensures.value in
    let first_is = c.take_given.ensures.env ∙ ap (λ xs. taken xs (numbers_of i.plan.given) i.env.items) c.as_slice-2.ensures.value in
    let begun = begins d c.count.ensures.rules c.processes.ensures.rules _ of c.args.event.now c.requires.legal c.deltas_are_few.ensures held rows first i.waits.marks c.take_given.new.waits.marks marks c.hold.new.changed.marks held_is rows_is first_is c.take_given.ensures.waits c.wake_ports.ensures.waits c.hold.ensures.changed in
    let rest = begun.ends.rest in
    let none = ap (λ (w : Waiting). w.marks) of.woken in
    let woken : IsWoken d i.plan i.env.items first i.rows.items rows c.wake_ports.new.woken.marks = record {
      many = of.rows.count;
      between = c.take_given.new.woken.marks;
      changed = c.hold.new.changed.marks;
      signals = subst (λ was. Wakes i.plan.processes i.env.items first was c.take_given.new.woken.marks) none c.take_given.ensures.woken;
      ports = c.wake_ports.ensures.woken (length d.processes) of.plan.agents;
      are_changed = c.hold.ensures.changed;
    } in
    let wakes = subst (λ ys. IsWoken d i.plan i.env.items first i.rows.items ys c.wake_ports.new.woken.marks) (sym c.as_slice-4.ensures.value) woken in
    let are = move_state (λ st. DeltasFrom d st first rest) held c.as_slice-3.result.now rows c.as_slice-4.result.now c.as_slice-3.ensures.value c.as_slice-4.ensures.value begun.ends.are in
    let counts = c.settle-self-inside.ensures.counts i.rows.items i.env.items rest wakes are in
    let counted = subst (λ ys. AreCounts d i.rows.items ys i.env.items (first ∷ rest) c.settle-self-inside.result.deltas c.settle-self-inside.result.runs) c.as_slice-4.ensures.value counts in
    let few : length (first ∷ rest) ≤ i.longest + 1 = omega (arith, begun.ends.few) in
    omega (arith, few, counted.many_deltas, deltas_of_few d i.rows.items rows i.env.items (first ∷ rest))

pub returns-clause-moved : goal.returns-clause-moved
returns-clause-moved g c =
    let d = c.args.design.now in
    let i = c.self.inside in
    let of = subst (IsSimOf d) (sym c.self.view_is) c.requires.of_design in
    let new : Simulated = record {
      held = c.hold.new.held.items;
      rows = c.hold.new.rows.items;
      env = c.settle-self-inside.new.env.items;
      counts = c.settle-self-inside.result;
      longest = c.self.inside.longest;
      plan = c.self.inside.plan;
      numbers = c.settle-self-inside.new.nums.items;
      next = take c.self.inside.next.len (c.settle-self-inside.new.next ++ drop (length c.settle-self-inside.new.next) c.self.inside.next.items);
      waits = c.settle-self-inside.new.waits;
      then = c.settle-self-inside.new.then;
      woken = c.settle-self-inside.new.woken;
      noted = c.hold.new.room.items;
      changed = c.clear-2.new.self;
      moved = c.settle-self-inside.new.moved;
    } in
    let was : Simulated = record { held = i.held.items; rows = i.rows.items; env = i.env.items; counts = i.counts; longest = i.longest; plan = i.plan; numbers = i.numbers.items; next = i.next.items; waits = i.waits; then = i.then; woken = i.woken; noted = i.noted.items; changed = i.changed; moved = i.moved } in
    let cleared : AreSignals d c.clear.new.self = no_signals d c.clear.new.self (length i.moved.marks) c.clear.ensures of.moved.count in
    let are : AreSignals d new.moved = record { count = c.settle-self-inside.ensures.moved.count ∙ c.take_given.ensures.moved.count ∙ cleared.count; once = c.items.ensures.rules } in
    let notes = notes_more i.env.items c.take_given.new.env.items c.settle-self-inside.new.env.items c.clear.new.self.marks c.take_given.new.moved.marks c.settle-self-inside.new.moved.marks c.take_given.ensures.moved c.settle-self-inside.ensures.moved in
    subst (λ (s : Simulated). Tells d s new) c.self.view_is (tells d was new c.clear.new.self.marks are notes)
