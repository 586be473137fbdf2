-- Places that are marked.
use Rattle.std.specs.Prelude.{◌≡◌, ◌≢◌, refl, ℕ, ◌<◌, ◌==◌, ◌||◌, Bool, true, false, List, [], ◌∷◌, length, slice_index_or, slice_set, is_some, not, Option}
use Rattle.std.specs.List.{AllByRecursion}
use Rattle.std.proofs.Common.{sym, ◌∙◌, ap, subst}
use Rattle.std.proofs.lemmas.Bool.{eqb-true, eq-eqb, false≢true}
use Rattle.std.proofs.lemmas.List.{length-set, get_or-set_same, get_or-set_other}
use Rattle.design_ir.specs.declared.ids.ExprId.{ExprId}
use Rattle.design_ir.specs.Circuits.{Circuit, is_among}
use Rattle.design_ir.specs.Designs.{IsUsable}
use Rattle.sim_plans.specs.Reading.{AreThere}
use Rattle.sim_plans.specs.Given.{marked}

or_true : (a : Bool) → true ≡ (a || true)
or_true true = refl
or_true false = refl

pub or_false : (a : Bool) → (a || false) ≡ a
or_false true = refl
or_false false = refl

pub or_assoc : (a b c : Bool) → ((a || b) || c) ≡ (a || (b || c))
or_assoc true b c = refl
or_assoc false b c = refl

pub some_where : {A : Type 0} (o : Option A) (r : Bool) → r ≡ false → is_some o ≡ not r → is_some o ≡ true
some_where o r e is = is ∙ ap not e

pub usable_there : (c : Circuit) (es : List ExprId) → AllByRecursion (IsUsable c) es → AreThere c.pool es
usable_there c [] h = tt
usable_there c (e ∷ es) h = (h.0.there, usable_there c es h.1)

pub marked_length : (ss : List ℕ) (marks : List Bool) → length (marked ss marks) ≡ length marks
marked_length [] marks = refl
marked_length (s ∷ ss) marks = marked_length ss (slice_set marks s true) ∙ length-set marks s true

pub marked_at : (ss : List ℕ) (marks : List Bool) (t : ℕ) → t < length marks → slice_index_or (marked ss marks) t false ≡ (slice_index_or marks t false || is_among ss t)
marked_at [] marks t there = sym (or_false (slice_index_or marks t false))
marked_at (s ∷ ss) marks t there =
    marked_at ss (slice_set marks s true) t (subst (λ n. t < n) (sym (length-set marks s true)) there) ∙ split (s == t) refl
  where
    split : (b : Bool) → (s == t) ≡ b → (slice_index_or (slice_set marks s true) t false || is_among ss t) ≡ (slice_index_or marks t false || ((s == t) || is_among ss t))
    split true e =
        let same : s ≡ t = eqb-true s t e in
        ap (λ k. slice_index_or (slice_set marks k true) t false || is_among ss t) same
        ∙ ap (λ b. b || is_among ss t) (get_or-set_same marks t true false there)
        ∙ or_true (slice_index_or marks t false)
        ∙ ap (λ b. slice_index_or marks t false || (b || is_among ss t)) (sym e)
    split false e =
        let other : t ≢ s = λ same. false≢true (sym e ∙ eq-eqb s t (sym same)) in
        ap (λ b. b || is_among ss t) (get_or-set_other marks s t true false other)
        ∙ ap (λ b. slice_index_or marks t false || (b || is_among ss t)) (sym e)
