use Rattle.std.proofs.Common.{subst}
use Rattle.design_ir.specs.declared.stmt.Stmt.{Stmt}
use Rattle.netlist.proofs.LowerDrivers.{IsPlainStmt, plain_at, driven_turn}
use Rattle.netlist.proofs.drivers.mark_block.Goals as goal
use Rattle.netlist.proofs.drivers.mark_block.Goals.{in-Assign, in-Choose}

pub mark_target-requires-clause-there : goal.mark_target-requires-clause-there
mark_target-requires-clause-there c =
    let pool = c.args.design.now.pool in
    let p = plain_at pool c.args.body.now c.as_slice-s-items.result.now c.loop-s.s-index c.s-item.result c.as_slice-s-items.ensures.value c.requires.plain c.requires.there c.loop-s-test.true c.s-item.is in
    (subst (λ (s : Stmt). IsPlainStmt pool s) c.in-Assign.is p).1

pub loop-s-preserved : goal.loop-s-preserved
loop-s-preserved c =
    let pool = c.args.design.now.pool in
    let ss = c.as_slice-s-items.result.now in
    let i = c.loop-s.s-index in
    let p = plain_at pool c.args.body.now ss i c.s-item.result c.as_slice-s-items.ensures.value c.requires.plain c.requires.there c.loop-s-test.true c.s-item.is in
    elim c.match-s.branch [
      | in-Assign w ↦
          let is = rw w.in-Assign.is at c.s-item.is in
          rw w.places-is (driven_turn pool ss i c.args.k w.in-Assign.target w.in-Assign.value w.in-Assign.place c.args.places.now.items c.loop-s.places.items w.mark_target.new.places.items c.loop-s-test.true is c.loop-s.invariant w.mark_target.ensures)
      | in-Choose w ↦ absurd (subst (λ (s : Stmt). IsPlainStmt pool s) w.in-Choose.is p)
    ]
