use Rattle.std.proofs.Common.{◌≡◌, ◌∙◌, ◌<◌, ◌++◌, ℕ, List, Option, IfOk, map, length, sym, ap, subst}
use Rattle.std.specs.List.{AllByRecursion}
use Rattle.design_ir.specs.declared.ids.SigId.{SigId}
use Rattle.design_ir.specs.declared.port.Port.{Port}
use Rattle.design_ir.specs.declared.port.Column.{Column}
use Rattle.design_ir.specs.Circuits.{is_among}
use Rattle.fragment_walks.specs.Numbers.{first_at}
use Rattle.fragment_walks.specs.Marks.{Flag}
use Rattle.clock_domains.specs.Firsts.{IsPlace, known_column}
use Rattle.clock_domains.specs.Resolved.{named_registers, signals_of}
use Rattle.clock_domains.proofs.ReadyLaws.{columns_found, registers_found, registers_there, sites_places, sites_there}
use Rattle.clock_domains.proofs.resolving.columns_in.Goals as goal

pub named_registers-requires-clause-there : goal.named_registers-requires-clause-there
named_registers-requires-clause-there g c = sites_there c.args.pool.now g.all c.args.sites.now c.known.ensures c.requires.1.0 c.requires.1.1.0 c.requires.1.1.1.1

pub named_registers-requires-clause-paths : goal.named_registers-requires-clause-paths
named_registers-requires-clause-paths g c s =
    subst (λ (xs : List (Option (List ℕ))). IsPlace (length xs) (first_at c.args.sites.now s)) (sym c.requires.0) (sites_places c.args.pool.now g.all c.args.sites.now c.known.ensures c.requires.1.0 c.requires.1.1.0 c.requires.1.1.1.1 s)

pub register_columns-requires-clause-there : goal.register_columns-requires-clause-there
register_columns-requires-clause-there g c =
    let q = c.args.pool.now in
    let ports = c.args.ports.now in
    let among = subst (λ (xs : List Port). Flag c.in_ok-is_port.is_port.items (is_among (signals_of xs))) c.as_slice.ensures c.in_ok-is_port.ensures in
    let flag = subst (λ ms. Flag ms (is_among (signals_of ports))) (sym c.as_slice-2.ensures.value) among in
    let found = registers_found q g.all c.args.sites.now c.known.ensures c.requires.1.0 c.requires.1.1.0 c.requires.1.1.1.1 c.args.paths.now ports c.as_slice-2.result.now (map (λ (s : SigId). s.0) c.in_ok-registers.registers.items) c.requires.0 flag c.in_ok-registers.ensures in
    subst (AllByRecursion (λ (s : SigId). s.0 < length q.signals)) (sym c.as_slice-3.ensures.value) (registers_there q g.all ports c.in_ok-registers.registers.items found)

pub register_columns-requires-clause-paths : goal.register_columns-requires-clause-paths
register_columns-requires-clause-paths g c s =
    subst (λ (xs : List (Option (List ℕ))). IsPlace (length xs) (first_at c.args.sites.now s)) (sym c.requires.0) (sites_places c.args.pool.now g.all c.args.sites.now c.known.ensures c.requires.1.0 c.requires.1.1.0 c.requires.1.1.1.1 s)

pub returns : goal.returns
returns g c =
    let q = c.args.pool.now in
    let ports = c.args.ports.now in
    let sites = c.args.sites.now in
    let among = subst (λ (xs : List Port). Flag c.in_ok-is_port.is_port.items (is_among (signals_of xs))) c.as_slice.ensures c.in_ok-is_port.ensures in
    let flag = subst (λ ms. Flag ms (is_among (signals_of ports))) (sym c.as_slice-2.ensures.value) among in
    let found = registers_found q g.all sites c.known.ensures c.requires.1.0 c.requires.1.1.0 c.requires.1.1.1.1 c.args.paths.now ports c.as_slice-2.result.now (map (λ (s : SigId). s.0) c.in_ok-registers.registers.items) c.requires.0 flag c.in_ok-registers.ensures in
    let named = c.in_ok-named.ensures ∙ ap (λ (rs : List SigId). map (known_column q c.args.domains.now c.args.paths.now sites) (map (λ (s : SigId). s.0) rs)) c.as_slice-3.ensures.value in
    let whole =
    columns_found q g.all sites c.known.ensures c.requires.1.0 c.requires.1.1.0 c.requires.1.1.1.1 c.args.domains.now c.as_slice-4.result.now ports c.args.paths.now (map (λ (s : SigId). s.0) c.in_ok-registers.registers.items) c.as_slice-5.result.now c.as_slice-4.ensures c.requires.0 found (c.as_slice-5.ensures ∙ named) in
    subst (λ (x : List Column). IfOk c.columns_of.result (λ cs. cs ≡ x)) whole c.columns_of.ensures
