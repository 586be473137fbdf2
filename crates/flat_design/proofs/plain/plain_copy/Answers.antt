use Rattle.std.proofs.Common.{◌≡◌, length, take, sym, ap, ◌∙◌, subst, refl}
use Rattle.std.specs.Prelude.{slice_get, Some}
use Rattle.std.specs.List.{AllByRecursion}
use Rattle.std.proofs.lemmas.Option.{slice_get_read}
use Rattle.design_ir.specs.declared.stmt.Stmt.{Stmt}
use Rattle.design_ir.specs.Trees.{assign, block_and}
use Rattle.design_ir.specs.Statements.{statement_of, block_of}
use Rattle.design_ir.specs.Guards.{statement_exprs, block_exprs}
use Rattle.design_ir.specs.Fixed.{is_plain}
use Rattle.design_ir.proofs.Lists.{block_of_snoc}
use Rattle.flat_design.specs.Growing.{IsReadable}
use Rattle.flat_design.proofs.SlotLists.{take_one_more}
use Rattle.flat_design.proofs.ShownBlocks.{statement_part}
use Rattle.flat_design.proofs.FixedLaws.{plain_push}
use Rattle.flat_design.proofs.plain.plain_copy.Goals as goal

pub is_fixed-requires : goal.is_fixed-requires
is_fixed-requires c =
    let p = c.args.design.now.pool in
    let ss = c.as_slice-statement-items.result.now in
    let i = c.loop-statement.statement-index in
    let s = c.statement-item.result in
    let here : slice_get ss i ≡ Some s = slice_get_read ss (length ss) i s refl c.loop-statement-test.true c.statement-item.is in
    let readable : AllByRecursion (IsReadable p) (block_exprs (block_of ss)) = subst (λ b. AllByRecursion (IsReadable p) (block_exprs b)) (sym c.as_slice-statement-items.ensures.value) c.requires in
    (subst (λ (x : Stmt). AllByRecursion (IsReadable p) (statement_exprs (statement_of x))) c.in-Assign.is (statement_part (IsReadable p) ss i s here readable)).0.there

pub loop-statement-preserved : goal.loop-statement-preserved
loop-statement-preserved c =
    let p = c.args.design.now.pool in
    let ss = c.as_slice-statement-items.result.now in
    let i = c.loop-statement.statement-index in
    let s = c.statement-item.result in
    let t = c.in-Assign.target in
    let v = c.in-Assign.value in
    let place = c.in-Assign.place in
    let pushed = c.in_ok-push-in-Assign.ensures.ok in
    record {
      copy =
          pushed ∙ ap (λ b. block_and b (assign t v place)) c.loop-statement.invariant.copy ∙ ap (block_and (block_of (take i ss))) (sym (ap statement_of c.in-Assign.is)) ∙ sym (block_of_snoc (take i ss) s)
          ∙ ap block_of (sym (take_one_more ss i s c.loop-statement-test.true c.statement-item.is));
      plain = ap (is_plain p) pushed ∙ plain_push p c.loop-statement.copy t v place c.loop-statement.invariant.plain (sym c.if-not-is_fixed.ensures);
    }
