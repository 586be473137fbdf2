use Rattle.std.proofs.Common.{◌≡◌, ◌∙◌, sym, ap, arith, refl, subst, true, false, ⊎_elim, Some, length, slice_get, fold, List}
use Rattle.std.specs.List.{flat_map, list_any}
use Rattle.std.proofs.lemmas.Bool.{cases_Bool, or_parts}
use Rattle.design_ir.specs.declared.ids.ExprId.{ExprId}
use Rattle.design_ir.specs.declared.memory.MemRead.{MemRead}
use Rattle.design_ir.specs.declared.memory.MemWrite.{MemWrite}
use Rattle.design_ir.specs.declared.memory.Memory.{Memory}
use Rattle.design_ir.specs.Designs.{IsMemory}
use Rattle.design_ir.specs.Steps.{clocked_read, port_active, write_row}
use Rattle.sim_plans.specs.Ports.{AreKnown, AreNoted, port_exprs, read_exprs, write_exprs}
use Rattle.sim_plans.specs.Tasks.{AreAmong, IsProgram}
use Rattle.sim_plans.proofs.Clocking.{place_of}
use Rattle.sim_plans.proofs.EdgesFit.{all_get}
use Rattle.delta_sim.proofs.SameRows.{no_change, rows_other, rows_same}
use Rattle.delta_sim.proofs.PortTurns.{idle_reads, idle_writes, known_of, known_parts}
use Rattle.delta_sim.proofs.ports.clock_memory.Goals as goal

pub returns-then-not-acts-clause-held : goal.returns-then-not-acts-clause-held
returns-then-not-acts-clause-held c = λ q is.
    let d = c.args.design.now in
    let env = c.args.env.now in
    let listed = c.args.listed.now in
    let m = c.get-m.result.now in
    let p = subst (λ xs. slice_get xs c.args.k ≡ Some m) c.memories.ensures c.get-m.ensures.lookup in
    let same : m ≡ q = let f : Some m ≡ Some q = sym p ∙ is in cc in
    let none = or_parts (list_any (λ (w : MemWrite). port_active d env listed (Some w.domain)) m.writes) (list_any (λ (r : MemRead). port_active d env listed r.domain) m.reads) (sym c.if-not-acts.ensures) in
    sym (idle_reads d env listed m c.args.rows.now m.reads c.args.held.now none.1) ∙ ap (λ (x : Memory). fold (clocked_read d env listed x c.args.rows.now) c.args.held.now x.reads) same

pub returns-then-not-acts-clause-rows : goal.returns-then-not-acts-clause-rows
returns-then-not-acts-clause-rows c = λ q is.
    let d = c.args.design.now in
    let env = c.args.env.now in
    let listed = c.args.listed.now in
    let m = c.get-m.result.now in
    let p = subst (λ xs. slice_get xs c.args.k ≡ Some m) c.memories.ensures c.get-m.ensures.lookup in
    let same : m ≡ q = let f : Some m ≡ Some q = sym p ∙ is in cc in
    let none = or_parts (list_any (λ (w : MemWrite). port_active d env listed (Some w.domain)) m.writes) (list_any (λ (r : MemRead). port_active d env listed r.domain) m.reads) (sym c.if-not-acts.ensures) in
    sym (idle_writes d env listed m m.writes c.args.rows.now none.0) ∙ ap (λ (x : Memory). fold (write_row d env listed x) c.args.rows.now x.writes) same

pub get-requires : goal.get-requires
get-requires c =
    let p = subst (λ xs. slice_get xs c.args.k ≡ Some c.get-m.result.now) c.memories.ensures c.get-m.ensures.lookup in
    let has = c.requires.plan.ports c.args.k c.get-m.result.now p in
    place_of c.args.plan.now.ports c.args.k has.list has.stands

pub compute-requires-clause-program : goal.compute-requires-clause-program
compute-requires-clause-program c =
    let p = subst (λ xs. slice_get xs c.args.k ≡ Some c.get-m.result.now) c.memories.ensures c.get-m.ensures.lookup in
    let has = c.requires.plan.ports c.args.k c.get-m.result.now p in
    let list : c.get.result.now ≡ has.list = let f : Some c.get.result.now ≡ Some has.list = sym c.get.ensures.lookup ∙ has.stands in cc in
    subst (IsProgram c.args.design.now.pool (length c.args.nums.now.items)) (sym (c.as_slice.ensures ∙ list)) has.program

pub read_all-requires-clause-known : goal.read_all-requires-clause-known
read_all-requires-clause-known c =
    let pool = c.args.design.now.pool in
    let env = c.args.env.now in
    let m = c.get-m.result.now in
    let p = subst (λ xs. slice_get xs c.args.k ≡ Some m) c.memories.ensures c.get-m.ensures.lookup in
    let has = c.requires.plan.ports c.args.k m p in
    let list : c.get.result.now ≡ has.list = let f : Some c.get.result.now ≡ Some has.list = sym c.get.ensures.lookup ∙ has.stands in cc in
    let computed = subst (λ (l : List ExprId). AreAmong l (port_exprs m)) (sym (c.as_slice.ensures ∙ list)) has.computed in
    subst (λ ns. AreKnown pool env ns (port_exprs m)) (sym c.as_slice-2.ensures.value) (known_of pool env c.compute.new.nums.items c.as_slice.result.now (port_exprs m) c.compute.ensures.read computed)

pub write_all-requires-clause-written : goal.write_all-requires-clause-written
write_all-requires-clause-written c =
    let pool = c.args.design.now.pool in
    let env = c.args.env.now in
    let m = c.get-m.result.now in
    let p = subst (λ xs. slice_get xs c.args.k ≡ Some m) c.memories.ensures c.get-m.ensures.lookup in
    let has = c.requires.plan.ports c.args.k m p in
    let list : c.get.result.now ≡ has.list = let f : Some c.get.result.now ≡ Some has.list = sym c.get.ensures.lookup ∙ has.stands in cc in
    let computed = subst (λ (l : List ExprId). AreAmong l (port_exprs m)) (sym (c.as_slice.ensures ∙ list)) has.computed in
    let all = known_of pool env c.compute.new.nums.items c.as_slice.result.now (port_exprs m) c.compute.ensures.read computed in
    subst (λ ns. AreKnown pool env ns (flat_map write_exprs m.writes)) (sym c.as_slice-4.ensures.value) (known_parts pool env c.compute.new.nums.items (flat_map write_exprs m.writes) (flat_map read_exprs m.reads) all).0

pub note_all-requires-clause-written : goal.note_all-requires-clause-written
note_all-requires-clause-written c =
    let pool = c.args.design.now.pool in
    let env = c.args.env.now in
    let m = c.get-m.result.now in
    let p = subst (λ xs. slice_get xs c.args.k ≡ Some m) c.memories.ensures c.get-m.ensures.lookup in
    let has = c.requires.plan.ports c.args.k m p in
    let list : c.get.result.now ≡ has.list = let f : Some c.get.result.now ≡ Some has.list = sym c.get.ensures.lookup ∙ has.stands in cc in
    let computed = subst (λ (l : List ExprId). AreAmong l (port_exprs m)) (sym (c.as_slice.ensures ∙ list)) has.computed in
    let all = known_of pool env c.compute.new.nums.items c.as_slice.result.now (port_exprs m) c.compute.ensures.read computed in
    subst (λ ns. AreKnown pool env ns (flat_map write_exprs m.writes)) (sym c.as_slice-3.ensures.value) (known_parts pool env c.compute.new.nums.items (flat_map write_exprs m.writes) (flat_map read_exprs m.reads) all).0

pub note_all-requires-clause-room : goal.note_all-requires-clause-room
note_all-requires-clause-room c =
    let d = c.args.design.now in
    let m = c.get-m.result.now in
    let p = subst (λ xs. slice_get xs c.args.k ≡ Some m) c.memories.ensures c.get-m.ensures.lookup in
    let is = all_get (IsMemory d) d.memories c.args.k m c.processes.ensures.rules.memories p in
    omega (arith, is.few_ports, c.requires.room)

pub any_differs-requires-clause-written : goal.any_differs-requires-clause-written
any_differs-requires-clause-written c =
    let pool = c.args.design.now.pool in
    let env = c.args.env.now in
    let m = c.get-m.result.now in
    let p = subst (λ xs. slice_get xs c.args.k ≡ Some m) c.memories.ensures c.get-m.ensures.lookup in
    let has = c.requires.plan.ports c.args.k m p in
    let list : c.get.result.now ≡ has.list = let f : Some c.get.result.now ≡ Some has.list = sym c.get.ensures.lookup ∙ has.stands in cc in
    let computed = subst (λ (l : List ExprId). AreAmong l (port_exprs m)) (sym (c.as_slice.ensures ∙ list)) has.computed in
    let all = known_of pool env c.compute.new.nums.items c.as_slice.result.now (port_exprs m) c.compute.ensures.read computed in
    subst (λ ns. AreKnown pool env ns (flat_map write_exprs m.writes)) (sym c.as_slice-5.ensures.value) (known_parts pool env c.compute.new.nums.items (flat_map write_exprs m.writes) (flat_map read_exprs m.reads) all).0

pub any_differs-requires-clause-room : goal.any_differs-requires-clause-room
any_differs-requires-clause-room c =
    let d = c.args.design.now in
    let m = c.get-m.result.now in
    let p = subst (λ xs. slice_get xs c.args.k ≡ Some m) c.memories.ensures c.get-m.ensures.lookup in
    let is = all_get (IsMemory d) d.memories c.args.k m c.processes.ensures.rules.memories p in
    let long = ap length c.as_slice-6.ensures.value ∙ c.note_all.ensures.room in
    omega (arith, is.few_ports, c.requires.room, long)

pub returns-then-not-acts-clause-changed : goal.returns-then-not-acts-clause-changed
returns-then-not-acts-clause-changed c = sym (no_change c.args.rows.now c.args.rows.now refl)

pub returns-clause-changed : goal.returns-clause-changed
returns-clause-changed c =
    let d = c.args.design.now in
    let env = c.args.env.now in
    let m = c.get-m.result.now in
    let old = c.args.rows.now in
    let new = c.write_all.new.rows in
    let notes = subst (AreNoted d.pool env old m.writes) (sym c.as_slice-6.ensures.value) c.note_all.ensures.noted in
    ⊎_elim
    (λ (t : c.any_differs.result ≡ true). t ∙ sym (rows_other d env c.args.listed.now m old new c.as_slice-6.result.now c.write_all.ensures notes (c.any_differs.ensures.other t)))
    (λ (t : c.any_differs.result ≡ false). t ∙ sym (rows_same d env c.args.listed.now m old new c.as_slice-6.result.now c.write_all.ensures notes (c.any_differs.ensures.same t)))
    (cases_Bool c.any_differs.result)
