use Rattle.std.proofs.Common.{length, refl, arith}
use Rattle.design_ir.specs.declared.port.Port.{Port}
use Rattle.netlist_cells.specs.Places.{is_port_of}
use Rattle.netlist_cells.proofs.LowerPlaces.{places_turn, port_there}
use Rattle.netlist_cells.proofs.tables.port_places.Goals as goal

pub index_mut-requires : goal.index_mut-requires
index_mut-requires c =
    let d = c.args.design.now in
    omega (arith, port_there d _ c.port.result.now c.requires c.port.ensures, c.loop-j.invariant.long, c.loop-j.places.ok.0)

pub loop-j-preserved : goal.loop-j-preserved
loop-j-preserved c =
    let d = c.args.design.now in
    let p = c.port.result.now in
    places_turn Port is_port_of d.ports c.ports-count.result c.loop-j.j (length d.pool.signals) p.sig.0 p c.loop-j.places.items c.loop-j-test.true c.ports-count.ensures c.port.ensures
    (port_there d _ p c.requires c.port.ensures) (λ s. refl) c.loop-j.invariant
