use Rattle.std.proofs.Common.{length, refl}
use Rattle.design_ir.specs.declared.port.Column.{Column}
use Rattle.netlist_cells.specs.Places.{shows_signal}
use Rattle.netlist_cells.proofs.LowerPlaces.{places_turn, column_there}
use Rattle.netlist_cells.proofs.tables.column_places.Goals as goal

pub loop-j-preserved : goal.loop-j-preserved
loop-j-preserved c =
    let d = c.args.design.now in
    let x = c.column.result.now in
    places_turn Column shows_signal d.columns c.columns-count.result c.loop-j.j (length d.pool.signals) x.sig.0 x c.loop-j.places.items c.loop-j-test.true c.columns-count.ensures c.column.ensures
    (column_there d _ x c.requires c.column.ensures) (λ s. refl) c.loop-j.invariant
