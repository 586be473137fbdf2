use Rattle.std.proofs.Common.{◌≡◌, ◌&&◌, ◌+◌, ◌++◌, ◌∷◌, [], ℕ, Bool, List, length, sym, ap, ◌∙◌, subst, arith}
use Rattle.design_ir.specs.declared.ids.ExprId.{ExprId}
use Rattle.fragment_walks.specs.Marks.{is_marked}
use Rattle.domain_transforms.specs.Anew.{AreAnew}
use Rattle.domain_transforms.proofs.remaking.remade_ids.Goals as goal

pub next_id-requires : goal.next_id-requires
next_id-requires c = (
  c.args.pool.now,
  (λ k. is_marked c.args.within.now k && is_marked c.args.touched.now k),
  record {
    so_far = subst (λ (ids : List ExprId). AreAnew c.args.names.now c.args.pool.now (λ k. is_marked c.args.within.now k && is_marked c.args.touched.now k) c.loop-k.k ids c.loop-k.pool) (sym c.as_slice.ensures.value) c.loop-k.invariant;
    here = omega (arith, c.loop-k-test.true, c.count-count.ensures.value);
    test_is = c.both-anew.ensures;
  },
)

pub loop-k-preserved : goal.loop-k-preserved
loop-k-preserved c =
    let q = c.args.pool.now in
    let test : ℕ → Bool = λ k. is_marked c.args.within.now k && is_marked c.args.touched.now k in
    let after = c.in_ok-id.ensures q test (record {
      so_far = subst (λ (ids : List ExprId). AreAnew c.args.names.now q test c.loop-k.k ids c.loop-k.pool) (sym c.as_slice.ensures.value) c.loop-k.invariant;
      here = omega (arith, c.loop-k-test.true, c.count-count.ensures.value);
      test_is = c.both-anew.ensures;
    }) in
    subst (λ (ids : List ExprId). AreAnew c.args.names.now q test (c.loop-k.k + 1) ids c.next_id.new.pool) (ap (λ ids. ids ++ c.in_ok-id.id ∷ []) c.as_slice.ensures.value ∙ sym c.in_ok-push.ensures.items) after

pub returns : goal.returns
returns c =
    let q = c.args.pool.now in
    let test : ℕ → Bool = λ k. is_marked c.args.within.now k && is_marked c.args.touched.now k in
    let whole : c.loop-k.k ≡ length q.exprs = omega (arith, c.loop-k-test.false, c.loop-k.auto.k-end, c.count-count.ensures.value) in
    subst (λ n. AreAnew c.args.names.now q test n c.loop-k.ids.items c.loop-k.pool) whole c.loop-k.invariant
