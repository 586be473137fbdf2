use Rattle.std.proofs.Common.{◌≡◌, length, Some, slice_get, refl}
use Rattle.std.proofs.lemmas.Option.{slice_get_read}
use Rattle.clock_domains.specs.Resolved.{column_of_port}
use Rattle.clock_domains.proofs.NameLaws.{columns_turn}
use Rattle.clock_domains.proofs.columns.add_ports.Goals as goal

pub loop-port-preserved : goal.loop-port-preserved
loop-port-preserved c =
    let ps = c.args.ports.now in
    let i = c.loop-port.port-index in
    let p = c.port-item.result in
    let at : slice_get ps i ≡ Some p = slice_get_read ps (length ps) i p refl c.loop-port-test.true c.port-item.is in
    record {
      columns = columns_turn column_of_port ps i p c.as_str.result.now c.args.columns.now c.loop-port.columns c.add_column.new.columns at c.as_str.ensures c.loop-port.invariant.columns c.in_ok-add_column.ensures.columns;
      tracked = c.in_ok-add_column.ensures.tracked;
    }
