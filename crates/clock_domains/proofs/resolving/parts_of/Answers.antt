use Rattle.std.proofs.Common.{◌≡◌, ◌∙◌, ◌<◌, ◌++◌, [], ℕ, List, Option, map, length, refl, sym, ap, subst, arith}
use Rattle.std.specs.List.{AllByRecursion, flat_map}
use Rattle.design_ir.specs.Named.{AllBelow}
use Rattle.design_ir.specs.declared.memory.Memory.{Memory}
use Rattle.design_ir.specs.declared.port.Port.{Port}
use Rattle.design_ir.specs.declared.port.Column.{Column}
use Rattle.design_ir.specs.declared.process.Process.{Process}
use Rattle.fragment_walks.specs.Held.{memory_exprs}
use Rattle.fragment_walks.specs.Marks.{Flag}
use Rattle.fragment_walks.specs.Reads.{is_given}
use Rattle.fragment_walks.specs.Walks.{Contents}
use Rattle.clock_domains.specs.Firsts.{AreSites}
use Rattle.clock_domains.specs.Resolvable.{IsSideOf}
use Rattle.clock_domains.specs.Resolved.{columns_of, named_registers, ports_named, ports_of, process_in}
use Rattle.clock_domains.proofs.ReadyLaws.{columns_enough, ports_alike, ready_clocked, ready_domains, ready_exprs, ready_ports}
use Rattle.clock_domains.proofs.resolving.parts_of.Goals as goal

pub ports_of-requires : goal.ports_of-requires
ports_of-requires g c =
    let q = c.args.pool.now in
    let ds = c.args.domains.now in
    let own = c.args.root.now.processes in
    let top = c.args.top.now in
    let ready = c.requires.1.1.1.0 in
    let ps = c.as_slice-2.ensures.value ∙ c.requires.0 in
    let ms = c.as_slice-3.ensures ∙ c.requires.1.0 in
    let own' = subst (AllByRecursion (IsSideOf q)) (sym c.as_slice.ensures) ready.own_processes in
    let sides = subst (AllByRecursion (IsSideOf q)) (sym ps) ready.processes in
    let exprs = subst (λ (xs : List Memory). AllBelow (length q.exprs) (flat_map memory_exprs xs)) (sym ms) (ready_exprs q ds own g.all top ready) in
    let driven =
    subst (λ (xs : List Process). Flag c.args.drivers.driven.items (is_given q xs c.as_slice-3.result.now)) (sym ps)
    (subst (λ (xs : List Memory). Flag c.args.drivers.driven.items (is_given q g.all.processes xs)) (sym ms) c.requires.1.1.1.1.0) in
    (refl, (refl, (ready_domains q ds own g.all top ready, (own', (sides, (exprs, (ready.ports, driven)))))))

pub columns_in-requires : goal.columns_in-requires
columns_in-requires g c =
    let q = c.args.pool.now in
    let ds = c.args.domains.now in
    let own = c.args.root.now.processes in
    let top = c.args.top.now in
    let ready = c.requires.1.1.1.0 in
    let held : Contents = record { processes = c.as_slice-2.result.now; paths = []; memories = c.as_slice-3.result.now; memory_paths = [] } in
    let made : c.in_ok-ports.ports ≡ ports_of q ds own g.all top =
    c.in_ok-ports.ensures ∙ ap (λ (xs : List Process). ports_of q ds xs held top) c.as_slice.ensures ∙ ports_alike q ds own top held g.all (c.as_slice-2.ensures.value ∙ c.requires.0) (c.as_slice-3.ensures ∙ c.requires.1.0) in
    let there = subst (AllByRecursion (λ (p : Port). p.sig.0 < length q.signals)) (sym made) (ready_ports q ds own g.all top ready) in
    let sites = subst (AreSites q g.all.processes g.all.memories) (sym c.as_slice-5.ensures.value) c.requires.1.1.1.1.1 in
    (c.as_slice-4.ensures ∙ c.requires.1.1.0, (ready.walk, (ready_clocked q ds own g.all top ready, (there, sites))))

pub processes_made-requires : goal.processes_made-requires
processes_made-requires g c = c.requires.1.1.1.0.few

pub ports_named-requires : goal.ports_named-requires
ports_named-requires g c =
    let q = c.args.pool.now in
    let ports = c.in_ok-ports.ports in
    let enough = columns_enough ports _ c.in_ok-columns.columns c.in_ok-columns.ensures in
    omega (arith, enough, ap length c.as_slice-6.ensures, ap length c.as_slice-7.ensures)

pub returns-clause-processes : goal.returns-clause-processes
returns-clause-processes g c = c.in_ok-processes_made.ensures ∙ ap (map (process_in c.args.domains.now)) c.requires.0

pub returns-clause-columns : goal.returns-clause-columns
returns-clause-columns g c =
    let q = c.args.pool.now in
    let ds = c.args.domains.now in
    let own = c.args.root.now.processes in
    let top = c.args.top.now in
    let held : Contents = record { processes = c.as_slice-2.result.now; paths = []; memories = c.as_slice-3.result.now; memory_paths = [] } in
    let made : c.in_ok-ports.ports ≡ ports_of q ds own g.all top =
    c.in_ok-ports.ensures ∙ ap (λ (xs : List Process). ports_of q ds xs held top) c.as_slice.ensures ∙ ports_alike q ds own top held g.all (c.as_slice-2.ensures.value ∙ c.requires.0) (c.as_slice-3.ensures ∙ c.requires.1.0) in
    c.in_ok-columns.ensures ∙ ap (λ (xs : List Port). columns_of q ds g.all xs (named_registers q g.all xs)) made

pub returns-clause-ports : goal.returns-clause-ports
returns-clause-ports g c =
    let q = c.args.pool.now in
    let ds = c.args.domains.now in
    let own = c.args.root.now.processes in
    let top = c.args.top.now in
    let held : Contents = record { processes = c.as_slice-2.result.now; paths = []; memories = c.as_slice-3.result.now; memory_paths = [] } in
    let made : c.in_ok-ports.ports ≡ ports_of q ds own g.all top =
    c.in_ok-ports.ensures ∙ ap (λ (xs : List Process). ports_of q ds xs held top) c.as_slice.ensures ∙ ports_alike q ds own top held g.all (c.as_slice-2.ensures.value ∙ c.requires.0) (c.as_slice-3.ensures ∙ c.requires.1.0) in
    c.in_ok-ports_named.ensures
    ∙ ap (λ (xs : List Port). ports_named xs c.as_slice-7.result.now) (c.as_slice-6.ensures ∙ made)
    ∙ ap (ports_named (ports_of q ds own g.all top)) c.as_slice-7.ensures
