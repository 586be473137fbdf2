use Rattle.std.proofs.Common.{◌≡◌, ◌<◌, ◌∷◌, [], ◌++◌, All, not, length, Some, None, slice_get, slice_set, refl, sym, ap, ◌∙◌, subst, arith}
use Rattle.std.proofs.lemmas.Option.{slice_get_read}
use Rattle.design_ir.specs.declared.expr.Expr.{Expr}
use Rattle.fragment_walks.specs.Reads.{own_signals}
use Rattle.domain_transforms.specs.Placed.{ArePlaces}
use Rattle.domain_transforms.proofs.PlaceLaws.{none_of, some_of, places_fresh, places_found, places_no_signal}
use Rattle.domain_transforms.proofs.places.add_place.Goals as goal

pub returns-then-is_none : goal.returns-then-is_none
returns-then-is_none c = λ exprs count h.
    let places = c.args.places.now.items in
    let t = c.in-Sig.s in
    let low = subst (λ (x : Expr). All (λ k. k < length places) (own_signals x)) c.in-Sig.is c.requires in
    let inside : t.0 < length places = low 0 0 (omega arith) in
    let at : slice_get places t.0 ≡ Some c.index.result.now = slice_get_read places (length places) t.0 c.index.result.now refl inside c.index.ensures in
    let none : c.index.result.now ≡ None = none_of c.index.result.now (c.is_none.ensures ∙ ap not c.if-is_none.true) in
    subst (λ (x : Expr). ArePlaces (exprs ++ x ∷ []) (slice_set places t.0 (Some c.args.id))) (sym c.in-Sig.is) (places_fresh exprs places t c.args.id count (at ∙ ap (λ o. Some o) none) h)

pub returns-else-is_none : goal.returns-else-is_none
returns-else-is_none c = λ exprs count h.
    let places = c.args.places.now.items in
    let t = c.in-Sig.s in
    let low = subst (λ (x : Expr). All (λ k. k < length places) (own_signals x)) c.in-Sig.is c.requires in
    let inside : t.0 < length places = low 0 0 (omega arith) in
    let at : slice_get places t.0 ≡ Some c.index.result.now = slice_get_read places (length places) t.0 c.index.result.now refl inside c.index.ensures in
    let some = some_of c.index.result.now (c.is_none.ensures ∙ ap not c.if-is_none.false) in
    subst (λ (x : Expr). ArePlaces (exprs ++ x ∷ []) places) (sym c.in-Sig.is) (places_found exprs places t some.0 (at ∙ ap (λ o. Some o) some.1) h)

pub returns-in_default : goal.returns-in_default
returns-in_default c = λ exprs count h. places_no_signal exprs c.args.places.now.items c.args.e.now c.in_default.not-Sig h
