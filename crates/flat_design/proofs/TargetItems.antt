-- Items of targets: each is a target, and no wider than all of them.
use Rattle.std.specs.Prelude.{◌≡◌, refl, ℕ, zero, suc, ◌-◌, ◌<◌, ◌≤◌, min, Bool, true, false, List, [], ◌∷◌, map, length, slice_get, slice_index_or, Option, Some}
use Rattle.std.specs.List.{list_all}
use Rattle.std.proofs.Common.{sym, ◌∙◌, ap, arith}
use Rattle.std.proofs.lemmas.Bool.{and_parts}
use Rattle.std.proofs.lemmas.List.{length-map}
use Rattle.shape_rules.specs.Forms.{Form, common, common_width}
use Rattle.design_ir.specs.declared.ids.ExprId.{ExprId}
use Rattle.design_ir.specs.Targets.{Bit}
use Rattle.design_ir.specs.Values.{common_with, common_of_all, picked}
use Rattle.design_ir.proofs.Commons.{common_with_grows}

-- a test that all items pass
pub all_get : (test : ExprId → Bool) (es : List ExprId) (i : ℕ) (e : ExprId) → list_all test es ≡ true → slice_get es i ≡ Some e → test e ≡ true
all_get test [] i e t at = cc
all_get test (x ∷ es) zero e t at = let same : x ≡ e = cc in ap test (sym same) ∙ (and_parts (test x) (list_all test es) t).0
all_get test (x ∷ es) (suc i) e t at = all_get test es i e (and_parts (test x) (list_all test es) t).1 at

pub some_items : (es : List ExprId) → (es ≡ [] → ⊥) → 0 < length es
some_items [] h = absurd (h refl)
some_items (x ∷ es) h = omega arith

mapped_get : (f : ℕ → List (Option Bit)) (es : List ExprId) (i : ℕ) (e : ExprId) → slice_get es i ≡ Some e → slice_index_or (map (λ (a : ExprId). f a.0) es) i [] ≡ f e.0
mapped_get f [] i e at = cc
mapped_get f (x ∷ es) zero e at = let same : x ≡ e = cc in ap (λ (a : ExprId). f a.0) same
mapped_get f (x ∷ es) (suc i) e at = mapped_get f es i e at

-- the places of the item that is picked
pub picked_places : (f : ℕ → List (Option Bit)) (es : List ExprId) (i : ℕ) (e : ExprId) → slice_get es (min i (length es - 1)) ≡ Some e → picked [] (map (λ (a : ExprId). f a.0) es) i ≡ f e.0
picked_places f es i e at =
    ap (λ m. slice_index_or (map (λ (a : ExprId). f a.0) es) (min i (m - 1)) []) (length-map es (λ (a : ExprId). f a.0)) ∙ mapped_get f es (min i (length es - 1)) e at

right_fits : (s t : Bool) (a b : ℕ) → b ≤ common_width s t a b
right_fits false false a b = omega arith
right_fits false true a b = omega arith
right_fits true false a b = omega arith
right_fits true true a b = omega arith

with_fits : (form : ℕ → Form) (f : Form) (es : List ExprId) (i : ℕ) (e : ExprId) → slice_get es i ≡ Some e → (form e.0).width ≤ (common_with form f es).width
with_fits form f [] i e at = cc
with_fits form f (x ∷ es) zero e at =
    let same : (form x.0).width ≡ (form e.0).width = ap (λ (a : ExprId). (form a.0).width) (let is : x ≡ e = cc in is) in
    omega (arith, same, right_fits f.signed (form x.0).signed f.width (form x.0).width, common_with_grows form (common f (form x.0)) es)
with_fits form f (x ∷ es) (suc i) e at = with_fits form (common f (form x.0)) es i e at

pub common_fits : (form : ℕ → Form) (es : List ExprId) (i : ℕ) (e : ExprId) → slice_get es i ≡ Some e → (form e.0).width ≤ (common_of_all form es).width
common_fits form [] i e at = cc
common_fits form (x ∷ es) zero e at =
    let same : (form x.0).width ≡ (form e.0).width = ap (λ (a : ExprId). (form a.0).width) (let is : x ≡ e = cc in is) in
    omega (arith, same, common_with_grows form (form x.0) es)
common_fits form (x ∷ es) (suc i) e at = with_fits form (form x.0) es i e at
