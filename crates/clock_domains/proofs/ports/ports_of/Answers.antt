use Rattle.std.proofs.Common.{◌≡◌, ◌∙◌, ◌<◌, ◌++◌, Bool, List, length, sym, ap, subst, arith}
use Rattle.std.specs.List.{AllByRecursion, filter}
use Rattle.design_ir.specs.declared.port.Port.{Port}
use Rattle.design_ir.specs.Circuits.{is_among}
use Rattle.fragment_walks.specs.Marks.{Flag, is_marked}
use Rattle.fragment_walks.specs.Reads.{is_given, is_read}
use Rattle.fragment_walks.proofs.Lists.{all_imp}
use Rattle.clock_domains.specs.Resolved.{signals_of, domain_ports}
use Rattle.clock_domains.specs.Chosen.{is_new, known_ports}
use Rattle.clock_domains.proofs.ChoiceLaws.{chosen_same, domain_there, flags_known}
use Rattle.clock_domains.proofs.PortLaws.{flag_same}
use Rattle.clock_domains.proofs.ports.ports_of.Goals as goal

pub domain_ports-requires-clause-size : goal.domain_ports-requires-clause-size
domain_ports-requires-clause-size g c = ap length c.as_slice.ensures.value ∙ c.requires.1.1.1.1.1.1.1.size

pub mark_ports-requires : goal.mark_ports-requires
mark_ports-requires g c =
    let q = c.args.pool.now in
    let driven = c.args.driven.items in
    let small = all_imp (λ (p : Port) low. let le : p.sig.0 < 16384 = omega (arith, low, c.count.ensures.rules.few_signals) in le) (domain_ports q (is_marked driven) c.args.domains.now) (domain_there q (is_marked driven) c.args.domains.now c.requires.1.1.0) in
    let made = c.in_ok-ports.ensures ∙ ap (λ (ms : List Bool). domain_ports q (is_marked ms) c.args.domains.now) c.as_slice.ensures.value in
    subst (AllByRecursion (λ (p : Port). p.sig.0 < 16384)) (sym (c.as_slice-2.ensures ∙ made)) small

pub add_top-requires-clause-there : goal.add_top-requires-clause-there
add_top-requires-clause-there g c =
    let q = c.args.pool.now in
    let read = c.in_ok-reads.field-0.items in
    flags_known q c.args.own.now g.all c.in_ok-driven_by.field-0.items c.args.driven.items read c.count.ensures.rules c.in_ok-driven_by.ensures
    (flag_same c.args.driven.items (is_given q) c.args.processes.now g.all.processes c.args.memories.now g.all.memories c.requires.0 c.requires.1.0 c.requires.1.1.1.1.1.1.1)
    (flag_same read (is_read q) c.args.processes.now g.all.processes c.args.memories.now g.all.memories c.requires.0 c.requires.1.0 c.in_ok-reads.ensures)

pub returns : goal.returns
returns g c =
    let q = c.args.pool.now in
    let driven = c.args.driven.items in
    let ds = c.args.domains.now in
    let read = c.in_ok-reads.field-0.items in
    let is_port = c.in_ok-mark_ports.field-0.items in
    let made : c.in_ok-ports.ports ≡ domain_ports q (is_marked driven) ds = c.in_ok-ports.ensures ∙ ap (λ (ms : List Bool). domain_ports q (is_marked ms) ds) c.as_slice.ensures.value in
    let flag : Flag is_port (is_among (signals_of (domain_ports q (is_marked driven) ds))) = subst (λ ps. Flag is_port (is_among (signals_of ps))) (c.as_slice-2.ensures ∙ made) c.in_ok-mark_ports.ensures in
    c.in_ok-add_top.ensures
    ∙ ap (λ ps. ps ++ filter (is_new q (is_marked is_port)) (known_ports q ds c.in_ok-driven_by.field-0.items driven read c.args.top.now)) made
    ∙ chosen_same q ds c.args.own.now g.all is_port c.in_ok-driven_by.field-0.items driven read c.args.top.now c.count.ensures.rules c.requires.1.1.1.1.1.1.0 c.requires.1.1.0 flag c.in_ok-driven_by.ensures
    (flag_same driven (is_given q) c.args.processes.now g.all.processes c.args.memories.now g.all.memories c.requires.0 c.requires.1.0 c.requires.1.1.1.1.1.1.1)
    (flag_same read (is_read q) c.args.processes.now g.all.processes c.args.memories.now g.all.memories c.requires.0 c.requires.1.0 c.in_ok-reads.ensures)
