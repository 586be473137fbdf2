use Rattle.std.proofs.Common.{◌≡◌, ◌∙◌, ◌<◌, ◌≤◌, ℕ, ap, arith, refl, false, not, [], length, length-set, slice_index_or, fold}
use Rattle.design_ir.specs.Steps.{clocked_read, write_row}
use Rattle.design_ir.proofs.NumbersFit.{element}
use Rattle.sim_plans.proofs.Clocking.{place_of}
use Rattle.sim_plans.specs.Waiting.{Waiting}
use Rattle.sim_plans.specs.Woken.{same_rows}
use Rattle.delta_sim.proofs.Flags.{flag_first, flag_turn, set_length}
use Rattle.delta_sim.proofs.PortsFit.{port_length}
use Rattle.delta_sim.proofs.PortTurns.{reads_turn, rows_are, done_turn, rest_turn}
use Rattle.sim_plans.proofs.Turns.{any_default}
use Rattle.sim_plans.proofs.Waits.{none_marked, replicate_length}
use Rattle.delta_sim.proofs.ports.clock_memories.Goals as goal

pub loop-k-init : goal.loop-k-init
loop-k-init c =
    let none = ap (λ (w : Waiting). w.marks) c.requires.changed in
    let n : ℕ = length c.args.design.now.memories in
    record {
      signals = c.requires.signals;
      many = refl;
      count = refl;
      numbers = c.requires.numbers;
      room = refl;
      changed_count = ap length none ∙ replicate_length false n;
      flags = flag_first c.args.rows.now.items c.args.rows.now.items n c.args.changed.now.marks (λ j. ap (λ ms. slice_index_or ms j false) none ∙ none_marked n j);
      held = refl;
      done = λ j m lt. absurd (omega (arith, lt));
      rest = λ j le. refl;
    }

pub clock_memory-other-requires-clause-room : goal.clock_memory-other-requires-clause-room
clock_memory-other-requires-clause-room c = omega (arith, c.loop-k.invariant.room, c.requires.room)

pub mark_if-requires : goal.mark_if-requires
mark_if-requires c = omega (arith, c.loop-k-test.true, c.len-k-end.ensures, ap length c.memories.ensures, c.loop-k.invariant.changed_count)

pub loop-k-preserved : goal.loop-k-preserved
loop-k-preserved c =
    let d = c.args.design.now in
    let env = c.args.env.now in
    let listed = c.args.listed.now in
    let ms = d.memories in
    let k = c.loop-k.k in
    let old = c.args.rows.now.items in
    let now = c.loop-k.rows.items in
    let held = c.loop-k.held in
    let new = c.clock_memory-other.new.rows in
    let there : k < length ms = omega (arith, c.loop-k-test.true, c.len-k-end.ensures, ap length c.memories.ensures) in
    let inside : k < length old = omega (arith, there, c.requires.rows) in
    let within : k < length now = omega (arith, inside, c.loop-k.invariant.many) in
    let m = element ms k there in
    let row : c.index_mut.result.now ≡ slice_index_or old k [] = c.index_mut.ensures.value ∙ any_default now k _ [] within ∙ c.loop-k.invariant.rest k (let le : k ≤ k = omega arith in le) in
    let read = c.clock_memory-other.ensures.held m.0 m.1 in
    let write : new ≡ fold (write_row d env listed m.0) (slice_index_or old k []) m.0.writes = c.clock_memory-other.ensures.rows m.0 m.1 ∙ ap (λ xs. fold (write_row d env listed m.0) xs m.0.writes) row in
    record {
      signals = ap length read ∙ port_length d env listed m.0 c.index_mut.result.now m.0.reads held ∙ c.loop-k.invariant.signals;
      many = length-set now k new ∙ c.loop-k.invariant.many;
      count = c.clock_memory-other.ensures.count ∙ c.loop-k.invariant.count;
      numbers = c.clock_memory-other.ensures.numbers;
      room = c.clock_memory-other.ensures.room ∙ c.loop-k.invariant.room;
      changed_count = ap length c.mark_if.ensures ∙ set_length c.clock_memory-other.result c.loop-k.changed.marks k ∙ c.loop-k.invariant.changed_count;
      flags = flag_turn old now k new c.loop-k.changed.marks c.mark_if.new.self.marks c.clock_memory-other.result within (omega (arith, there, c.loop-k.invariant.changed_count)) (c.clock_memory-other.ensures.changed ∙ ap (λ xs. not (same_rows xs new)) row) c.mark_if.ensures c.loop-k.invariant.flags;
      held = reads_turn d env listed ms old k m.0 held c.clock_memory-other.new.held _ m.1 inside (read ∙ ap (λ xs. fold (clocked_read d env listed m.0 xs) held m.0.reads) row) c.loop-k.invariant.held;
      done = done_turn d env listed ms old now k m.0 new m.1 within write c.loop-k.invariant.done;
      rest = rest_turn d env listed ms old now k m.0 new m.1 within write c.loop-k.invariant.rest;
    }

pub returns-clause-rows : goal.returns-clause-rows
returns-clause-rows c =
    let d = c.args.design.now in
    let ms = d.memories in
    let old = c.args.rows.now.items in
    rows_are d c.args.env.now c.args.listed.now ms old c.loop-k.rows.items c.requires.rows (c.loop-k.invariant.many ∙ c.requires.rows)
    (λ j m is. c.loop-k.invariant.done j m (let below = place_of ms j m is in omega (arith, below, c.loop-k-test.false, c.len-k-end.ensures, ap length c.memories.ensures)) is)

pub returns-clause-changed : goal.returns-clause-changed
returns-clause-changed c = λ j lt. c.loop-k.invariant.flags.done j (omega (arith, lt, c.loop-k-test.false, c.len-k-end.ensures, ap length c.memories.ensures))
