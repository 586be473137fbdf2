use Rattle.std.proofs.Common.{◌≡◌, ◌∙◌, ◌++◌, ◌-◌, ◌+◌, ℕ, suc, sym, ap, refl, List, length, Some, Option, arith}
use Rattle.std.specs.Prelude.{slice_get}
use Rattle.std.proofs.lemmas.Bool.{ltb-true, ltb-false}
use Rattle.std.proofs.lemmas.Option.{slice_get_read}
use Rattle.elab_store.specs.Wrappings.{wraps_from}
use Rattle.elab_store.proofs.WrapLaws.{none_past, walk_ended, walk_absent, walk_more}
use Rattle.elab_store.proofs.wrappings.wraps_of.Goals as goal

pub returns-in_default : goal.returns-in_default
returns-in_default c =
    let ws = c.args.wrapped.now in
    walk_ended ws (length ws - c.loop-i.i) c.loop-i.next c.loop-i.bys.items _ c.in_default.is c.loop-i.invariant

pub returns-in_default-get : goal.returns-in_default-get
returns-in_default-get c =
    let ws = c.args.wrapped.now in
    let n = length ws - c.loop-i.i in
    let k = c.in-Some.number in
    let so_far = ap (λ (o : Option ℕ). c.loop-i.bys.items ++ wraps_from n ws o) (sym c.in-Some.is) ∙ c.loop-i.invariant in
    walk_absent ws n k c.loop-i.bys.items _ (none_past ws k (ltb-false k (length ws) (sym c.in_default-get.ensures.lookup.0))) so_far

pub loop-i-preserved : goal.loop-i-preserved
loop-i-preserved c =
    let ws = c.args.wrapped.now in
    let j = length ws - c.loop-i.i in
    let n = length ws - (c.loop-i.i + 1) in
    let k = c.in-Some.number in
    let x = c.in-Some-get.one.now in
    let looked = c.in-Some-get.ensures.lookup in
    let at : slice_get ws k ≡ Some x = slice_get_read ws (length ws) k x refl (ltb-true k (length ws) (sym looked.0)) looked.1 in
    let step : j ≡ suc n = omega (arith, c.loop-i-test.true) in
    let so_far = ap (λ (o : Option ℕ). c.loop-i.bys.items ++ wraps_from j ws o) (sym c.in-Some.is) ∙ c.loop-i.invariant in
    ap (λ (bys : List ℕ). bys ++ wraps_from n ws x.over) c.in_ok-push.ensures.items ∙ walk_more ws j n k x c.loop-i.bys.items _ step at so_far
