use Rattle.std.proofs.Common.{◌≡◌, ◌∙◌, ◌++◌, ◌∷◌, [], false, drop, length, ap, sym, subst, arith, length-append}
use Rattle.std.proofs.lemmas.Option.{get_or_from_slice_get}
use Rattle.std.proofs.lemmas.List.{drop_all}
use Rattle.design_ir.specs.Named.{AllBelow, named}
use Rattle.design_ir.specs.Pools.{answers}
use Rattle.design_ir.proofs.Answers.{turn}
use Rattle.design_ir.proofs.Equations.{standing}
use Rattle.fragment_walks.specs.Marks.{is_marked}
use Rattle.domain_transforms.specs.Renamed.{holds_renamed, renamed_test}
use Rattle.domain_transforms.proofs.remaking.touched_marks.Goals as goal

pub is_touched-touched-requires : goal.is_touched-touched-requires
is_touched-touched-requires c =
    subst (λ n. AllBelow n (named c.at.result.now)) (sym (ap length c.as_slice.ensures.value ∙ c.loop-k.invariant.size)) (standing c.args.pool.now c.loop-k.k c.at.result.now c.count-count.ensures.rules c.at.ensures).names

pub loop-k-preserved : goal.loop-k-preserved
loop-k-preserved c =
    let q = c.args.pool.now in
    let k = c.loop-k.k in
    let e = c.at.result.now in
    let marks = c.loop-k.marks.items in
    let value = c.is_touched-touched.ensures ∙ ap (λ ms. renamed_test c.args.names.now (is_marked ms) e) c.as_slice.ensures.value in
    let grown : c.push.new.self.items ≡ marks ++ c.is_touched-touched.result ∷ [] = c.in_ok-push.ensures.items in
    record {
      size = omega (arith, ap length grown, length-append marks (c.is_touched-touched.result ∷ []), c.loop-k.invariant.size);
      rest = turn false (renamed_test c.args.names.now) marks c.push.new.self.items q.exprs k e c.is_touched-touched.result (answers false (renamed_test c.args.names.now) [] q.exprs) (omega (arith, c.loop-k-test.true, c.count-count.ensures.value)) (sym (get_or_from_slice_get q.exprs k e e c.at.ensures)) value grown c.loop-k.invariant.rest;
    }

pub returns-clause-each : goal.returns-clause-each
unfolding holds_renamed
returns-clause-each c = λ k.
    let q = c.args.pool.now in
    let marks = c.loop-k.marks.items in
    let past : drop c.loop-k.k q.exprs ≡ [] = drop_all c.loop-k.k q.exprs (omega (arith, c.loop-k-test.false, c.count-count.ensures.value)) in
    ap (λ ms. is_marked ms k) (sym (ap (answers false (renamed_test c.args.names.now) marks) past) ∙ c.loop-k.invariant.rest)
