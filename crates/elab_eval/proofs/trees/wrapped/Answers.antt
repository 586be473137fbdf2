use Rattle.std.proofs.Common.{◌≡◌, ◌∙◌, sym, ap, subst, refl, length, Some}
use Rattle.std.specs.Prelude.{slice_get, IfSome}
use Rattle.std.proofs.lemmas.Bool.{ltb-true, ltb-false}
use Rattle.std.proofs.lemmas.Option.{slice_get_read}
use Rattle.elab_store.specs.Sound.{IsWrapping}
use Rattle.elab_store.specs.Stores.{Stored}
use Rattle.elab_eval.proofs.TreeLaws.{none_past, wrapped_none, wrapped_got, wrapped_stopped, stopped_as}
use Rattle.elab_eval.proofs.WrappedLaws.{wrapping_at}
use Rattle.elab_eval.proofs.trees.wrapped.Goals as goal

pub wrapped_by-requires-clause-wrapping : goal.wrapped_by-requires-clause-wrapping
wrapped_by-requires-clause-wrapping c =
    let ws = c.deref.result.now in
    let k = c.args.k in
    let looked = c.in-Some.ensures.lookup in
    let at : slice_get ws k ≡ Some c.in-Some.wrapping.now = slice_get_read ws (length ws) k c.in-Some.wrapping.now refl (ltb-true k (length ws) (sym looked.0)) looked.1 in
    subst (λ o. IfSome o (IsWrapping c.args.pool.now)) (ap (λ (x : Stored). slice_get x.wrappings k) (sym c.store.view_is) ∙ ap (λ xs. slice_get xs k) (sym c.deref.ensures.value) ∙ at) (wrapping_at c.args.pool.now c.args.store.now.wrappings k c.requires.wrappings)

pub returns-in_default : goal.returns-in_default
returns-in_default c =
    let ws = c.deref.result.now in
    let k = c.args.k in
    let none = none_past ws k (ltb-false k (length ws) (sym c.in_default.ensures.lookup.0)) in
    stopped_as _ _ c.args.pool.now _ c.raised.ensures (wrapped_none (slice_get c.args.store.now.wrappings k) (c.args.f, c.args.pool.now) (ap (λ (x : Stored). slice_get x.wrappings k) (sym c.store.view_is) ∙ ap (λ xs. slice_get xs k) (sym c.deref.ensures.value) ∙ none))

pub returns-in-Ok : goal.returns-in-Ok
returns-in-Ok c =
    let ws = c.deref.result.now in
    let k = c.args.k in
    let looked = c.in-Some.ensures.lookup in
    let at : slice_get ws k ≡ Some c.in-Some.wrapping.now = slice_get_read ws (length ws) k c.in-Some.wrapping.now refl (ltb-true k (length ws) (sym looked.0)) looked.1 in
    wrapped_got (slice_get c.args.store.now.wrappings k) c.in-Some.wrapping.now c.args.f c.in-Ok.f c.args.pool.now c.wrapped_by.new.pool (ap (λ (x : Stored). slice_get x.wrappings k) (sym c.store.view_is) ∙ ap (λ xs. slice_get xs k) (sym c.deref.ensures.value) ∙ at) c.in-Ok.ensures.made c.in-Ok.ensures.room

pub returns-in-Err : goal.returns-in-Err
returns-in-Err c =
    let ws = c.deref.result.now in
    let k = c.args.k in
    let looked = c.in-Some.ensures.lookup in
    let at : slice_get ws k ≡ Some c.in-Some.wrapping.now = slice_get_read ws (length ws) k c.in-Some.wrapping.now refl (ltb-true k (length ws) (sym looked.0)) looked.1 in
    let owed = wrapped_stopped (slice_get c.args.store.now.wrappings k) c.in-Some.wrapping.now c.args.f c.args.pool.now c.wrapped_by.new.pool c.in-Err.stop (ap (λ (x : Stored). slice_get x.wrappings k) (sym c.store.view_is) ∙ ap (λ xs. slice_get xs k) (sym c.deref.ensures.value) ∙ at) c.in-Err.ensures.limit in
    stopped_as c.wrapper_stop.result _ c.wrapped_by.new.pool _ c.wrapper_stop.ensures owed
