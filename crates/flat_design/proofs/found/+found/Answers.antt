use Rattle.std.proofs.Common.{◌≡◌, ◌<◌, ◌+◌, ◌++◌, ◌∷◌, [], List, map, take, sym, ap, ◌∙◌, subst, arith}
use Rattle.std.specs.Prelude.{length, slice_get, Some, refl}
use Rattle.std.specs.List.{AllByRecursion}
use Rattle.std.proofs.lemmas.List.{take_all}
use Rattle.std.proofs.lemmas.Option.{slice_get_read}
use Rattle.design_ir.specs.Trees.{block_size, choices_size, statement_size}
use Rattle.design_ir.specs.Statements.{statement_of, block_of, choices_of}
use Rattle.design_ir.specs.Guards.{Guard, guarded, guarded_in, guarded_arms, choices_exprs, block_exprs}
use Rattle.design_ir.specs.declared.stmt.Stmt.{Stmt}
use Rattle.design_ir.specs.declared.stmt.Arm.{Arm}
use Rattle.flat_design.specs.Growing.{IsReadable}
use Rattle.flat_design.specs.Found.{AreFound, targets_of}
use Rattle.flat_design.proofs.ShownBlocks.{met, missed, statement_part, arm_part, statement_more, arm_more}
use Rattle.flat_design.proofs.FoundLaws.{found_turn}
use Rattle.flat_design.proofs.found.+found.Goals as goal

-- ---- blocks

pub add_block-add_statement-requires : goal.add_block-add_statement-requires
add_block-add_statement-requires t c =
    let p = c.args.design.now.pool in
    let ss = c.as_slice-statement-items.result.now in
    let i = c.loop-statement.statement-index in
    let s = c.statement-item.result in
    let smaller = c.as_slice-statement-items.ensures.smaller i s c.loop-statement-test.true in
    let small : statement_size (statement_of s) < block_size c.args.body.now = subst (λ (x : Stmt). statement_size (statement_of x) < block_size c.args.body.now) (sym c.statement-item.is) smaller in
    let here : slice_get ss i ≡ Some s = slice_get_read ss (length ss) i s refl c.loop-statement-test.true c.statement-item.is in
    let readable : AllByRecursion (IsReadable p) (block_exprs (block_of ss)) = subst (λ b. AllByRecursion (IsReadable p) (block_exprs b)) (sym c.as_slice-statement-items.ensures.value) c.requires.readable in (
      omega (arith, small, c.decreases),
      (statement_part (IsReadable p) ss i s here readable, (c.requires.found.0 ++ targets_of p (guarded [] (block_of (take i ss))), c.loop-statement.invariant [] c.requires.found.0 c.requires.found.1)),
    )

pub add_block-loop-statement-preserved : goal.add_block-loop-statement-preserved
add_block-loop-statement-preserved t c = λ gs so_far h.
    let p = c.args.design.now.pool in
    let ss = c.as_slice-statement-items.result.now in
    let i = c.loop-statement.statement-index in
    let s = c.statement-item.result in
    let new = c.add_statement.new.found in
    found_turn p (length p.signals) so_far (guarded gs (block_of (take i ss))) (guarded_in gs (statement_of s)) (guarded gs (block_of (take (i + 1) ss))) new.marks.items new.signals
    (statement_more gs ss i s c.loop-statement-test.true c.statement-item.is)
    (c.in_ok-add_statement.ensures gs (so_far ++ targets_of p (guarded gs (block_of (take i ss)))) (c.loop-statement.invariant gs so_far h))

pub add_block-returns : goal.add_block-returns
add_block-returns t c = λ gs so_far h.
    let p = c.args.design.now.pool in
    let ss = c.as_slice-statement-items.result.now in
    let all : block_of (take c.loop-statement.statement-index ss) ≡ c.args.body.now = ap block_of (take_all c.loop-statement.statement-index ss c.loop-statement-test.false) ∙ c.as_slice-statement-items.ensures.value in
    subst (λ b. AreFound (length p.signals) (so_far ++ targets_of p (guarded gs b)) c.loop-statement.found.marks.items c.loop-statement.found.signals) all (c.loop-statement.invariant gs so_far h)

-- ---- arms

pub add_arms-add_block-requires : goal.add_arms-add_block-requires
add_arms-add_block-requires t c =
    let p = c.args.design.now.pool in
    let xs = c.as_slice-arm-items.result.now in
    let i = c.loop-arm.arm-index in
    let a = c.arm-item.result in
    let smaller = c.as_slice-arm-items.ensures.smaller i a c.loop-arm-test.true in
    let small : block_size a.body < choices_size c.args.arms.now = subst (λ (x : Arm). block_size x.body < choices_size c.args.arms.now) (sym c.arm-item.is) smaller in
    let here : slice_get xs i ≡ Some a = slice_get_read xs (length xs) i a refl c.loop-arm-test.true c.arm-item.is in
    let readable : AllByRecursion (IsReadable p) (choices_exprs (choices_of xs)) = subst (λ b. AllByRecursion (IsReadable p) (choices_exprs b)) (sym c.as_slice-arm-items.ensures.value) c.requires.readable in (
      omega (arith, small, c.decreases),
      ((arm_part (IsReadable p) xs i a here readable).1, (c.requires.found.0 ++ targets_of p (guarded_arms [] (choices_of (take i xs))), c.loop-arm.invariant [] c.requires.found.0 c.requires.found.1)),
    )

pub add_arms-loop-arm-preserved : goal.add_arms-loop-arm-preserved
add_arms-loop-arm-preserved t c = λ gs so_far h.
    let p = c.args.design.now.pool in
    let xs = c.as_slice-arm-items.result.now in
    let i = c.loop-arm.arm-index in
    let a = c.arm-item.result in
    let hs : List Guard = (gs ++ map missed (take i xs)) ++ met a ∷ [] in
    let new = c.add_block.new.found in
    found_turn p (length p.signals) so_far (guarded_arms gs (choices_of (take i xs))) (guarded hs a.body) (guarded_arms gs (choices_of (take (i + 1) xs))) new.marks.items new.signals (arm_more gs xs i a c.loop-arm-test.true c.arm-item.is)
    (c.in_ok-add_block.ensures hs (so_far ++ targets_of p (guarded_arms gs (choices_of (take i xs)))) (c.loop-arm.invariant gs so_far h))

pub add_arms-returns : goal.add_arms-returns
add_arms-returns t c = λ gs so_far h.
    let p = c.args.design.now.pool in
    let xs = c.as_slice-arm-items.result.now in
    let all : choices_of (take c.loop-arm.arm-index xs) ≡ c.args.arms.now = ap choices_of (take_all c.loop-arm.arm-index xs c.loop-arm-test.false) ∙ c.as_slice-arm-items.ensures.value in
    subst (λ b. AreFound (length p.signals) (so_far ++ targets_of p (guarded_arms gs b)) c.loop-arm.found.marks.items c.loop-arm.found.signals) all (c.loop-arm.invariant gs so_far h)
