use Rattle.std.proofs.Common.{length, take, sym, ap, ◌∙◌, subst}
use Rattle.std.proofs.lemmas.List.{take_all}
use Rattle.design_ir.specs.declared.stmt.Stmt.{Stmt}
use Rattle.design_ir.specs.Statements.{block_of}
use Rattle.netlist_laws.specs.Latest.{latest_of}
use Rattle.netlist_laws.specs.Module.{expr_value}
use Rattle.netlist.specs.Tables.{Shows}
use Rattle.netlist.proofs.LowerDrivers.{IsPlainStmt, plain_at}
use Rattle.netlist.proofs.LowerSources.{latest_turn}
use Rattle.netlist.proofs.sources.give_block.Goals as goal
use Rattle.netlist.proofs.sources.give_block.Goals.{in-Assign+in_ok-assign-in-Assign, in-Choose}

pub assign-requires-clause-target : goal.assign-requires-clause-target
assign-requires-clause-target c =
    let pool = c.args.design.now.pool in
    let p = plain_at pool c.args.body.now c.as_slice-s-items.result.now c.loop-s.s-index c.s-item.result c.as_slice-s-items.ensures.value c.requires.plain c.requires.there c.loop-s-test.true c.s-item.is in
    (subst (λ (s : Stmt). IsPlainStmt pool s) c.in-Assign.is p).1

pub assign-requires-clause-value : goal.assign-requires-clause-value
assign-requires-clause-value c =
    let pool = c.args.design.now.pool in
    let p = plain_at pool c.args.body.now c.as_slice-s-items.result.now c.loop-s.s-index c.s-item.result c.as_slice-s-items.ensures.value c.requires.plain c.requires.there c.loop-s-test.true c.s-item.is in
    (subst (λ (s : Stmt). IsPlainStmt pool s) c.in-Assign.is p).2

pub loop-s-preserved : goal.loop-s-preserved
loop-s-preserved c =
    let d = c.args.design.now in
    let n = length d.pool.signals in
    let ss = c.as_slice-s-items.result.now in
    let i = c.loop-s.s-index in
    let p = plain_at d.pool c.args.body.now ss i c.s-item.result c.as_slice-s-items.ensures.value c.requires.plain c.requires.there c.loop-s-test.true c.s-item.is in
    elim c.match-s.branch [
      | in-Assign+in_ok-assign-in-Assign w ↦
          let is = rw w.in-Assign.is at c.s-item.is in
          rw w.bits-is (record {
            long = w.in_ok-assign-in-Assign.ensures.long ∙ c.loop-s.invariant.long;
            given = λ ids latest old.
                subst (Shows ids n w.assign.new.bits.items) (sym (latest_turn d.pool (expr_value d) ss i w.in-Assign.target w.in-Assign.value w.in-Assign.place latest c.loop-s-test.true is))
                (w.in_ok-assign-in-Assign.ensures.given ids (latest_of d.pool (expr_value d) (block_of (take i ss)) latest) (c.loop-s.invariant.given ids latest old));
          })
      | in-Choose w ↦ absurd (subst (λ (s : Stmt). IsPlainStmt d.pool s) w.in-Choose.is p)
    ]

pub returns-clause-given : goal.returns-clause-given
returns-clause-given c = λ ids latest old.
    let d = c.args.design.now in
    let ss = c.as_slice-s-items.result.now in
    let whole = ap block_of (take_all c.loop-s.s-index ss c.loop-s-test.false) ∙ c.as_slice-s-items.ensures.value in
    subst (λ b. Shows ids (length d.pool.signals) c.loop-s.bits.items (latest_of d.pool (expr_value d) b latest)) whole (c.loop-s.invariant.given ids latest old)
