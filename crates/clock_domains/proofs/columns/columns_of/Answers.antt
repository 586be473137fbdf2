use Rattle.std.proofs.Common.{◌≡◌, ◌∙◌, ◌++◌, [], List, map, sym, ap}
use Rattle.design_ir.specs.declared.port.Column.{Column}
use Rattle.clock_domains.specs.Resolved.{column_of_port, columns_after}
use Rattle.clock_domains.specs.Tracked.{names_of}
use Rattle.clock_domains.proofs.NameLaws.{columns-append}
use Rattle.clock_domains.proofs.columns.columns_of.Goals as goal

pub returns : goal.returns
returns c =
    let ps = map column_of_port c.args.ports.now in
    let rs = c.args.registers.now in
    let first : c.add_ports.new.columns ≡ columns_after [] ps = c.in_ok-add_ports.ensures.columns ∙ ap (λ (cs : List Column). cs ++ columns_after (names_of cs) ps) c.new-columns.ensures in
    c.in_ok-add_registers.ensures.columns ∙ ap (λ (cs : List Column). cs ++ columns_after (names_of cs) rs) first ∙ sym (columns-append [] ps rs)
