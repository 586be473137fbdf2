-- The writes of a target as the code finds them: within 128 bits, and one item after another.
use Rattle.std.specs.Prelude.{◌≡◌, ℕ, zero, suc, ◌+◌, ◌<◌, ◌≤◌, true, List, [], ◌∷◌, ◌++◌, map, length, take, drop, slice_get, slice_index_or, All, Some}
use Rattle.std.specs.List.{AllByRecursion, flat_map, enumerate_from}
use Rattle.std.proofs.Common.{sym, ◌∙◌, ap, arith, append-nil, append_assoc, length-take}
use Rattle.std.proofs.lemmas.Grind.{flat_map-append}
use Rattle.std.proofs.lemmas.Option.{slice_get-get_or}
use Rattle.shape_rules.specs.Forms.{Form, IsForm}
use Rattle.design_ir.specs.declared.ids.ExprId.{ExprId}
use Rattle.design_ir.specs.declared.signal.Sig.{Sig}
use Rattle.design_ir.specs.Pools.{Pooled}
use Rattle.design_ir.specs.PoolRules.{IsPool}
use Rattle.design_ir.specs.Targets.{is_target}
use Rattle.design_ir.specs.Values.{form, signal_form}
use Rattle.design_ir.proofs.Elements.{get_has}
use Rattle.digraph.proofs.Takes.{take-push}
use Rattle.comb_graph.proofs.GraphRows.{drop-next}
use Rattle.comb_graph.proofs.GraphSteps.{narrow}
use Rattle.flat_design.specs.declared.writes.Write.{Write}
use Rattle.flat_design.specs.Pieces.{IsNarrow, IsWithin}
use Rattle.flat_design.specs.WriteLaws.{IsInside}
use Rattle.flat_design.specs.Writes.{raised, writes_of_all, writes}
use Rattle.flat_design.proofs.WriteLaws.{writes_are_inside}

signal_narrow : (sigs : List Sig) (s : ℕ) → AllByRecursion (λ (x : Sig). IsForm x.shape.width x.shape.signed) sigs → (signal_form sigs s).width ≤ 128
signal_narrow [] s shapes = omega arith
signal_narrow (x ∷ sigs) zero shapes = narrow x.shape.width x.shape.signed shapes.0
signal_narrow (x ∷ sigs) (suc s) shapes = signal_narrow sigs s shapes.1

module _ (p : Pooled) (k : ℕ) (rules : IsPool p) (target : is_target p k ≡ true) where
  inside : (i : ℕ) (d : Write) → i < length (writes p k) → IsInside p k (slice_index_or (writes p k) i d)
  inside i d below = writes_are_inside p rules k (slice_index_or (writes p k) i d) target (get_has (writes p k) i (slice_index_or (writes p k) i d) (slice_get-get_or (writes p k) i d below))

  pub all_narrow : All IsNarrow (writes p k)
  all_narrow = λ i d below. let h = inside i d below in omega (arith, h.bits, signal_narrow p.signals (slice_index_or (writes p k) i d).sig.0 rules.shapes)

  pub all_within : All (IsWithin (form p k).width) (writes p k)
  all_within = λ i d below. (inside i d below).value

-- ---- one item more

pub joined_more : (forms : ℕ → Form) (f : ℕ → List Write) (list all : List Write) (low : ℕ) (es : List ExprId) (i : ℕ) (e : ExprId) → slice_get es i ≡ Some e → list ++ writes_of_all forms f low (drop i es) ≡ all
    → (list ++ map (raised low) (f e.0)) ++ writes_of_all forms f (low + (forms e.0).width) (drop (i + 1) es) ≡ all
joined_more forms f list all low es i e at is =
    append_assoc list (map (raised low) (f e.0)) (writes_of_all forms f (low + (forms e.0).width) (drop (i + 1) es)) ∙ sym (ap (λ xs. list ++ writes_of_all forms f low xs) (drop-next es i e at)) ∙ is

enumerate_push : (a b : ℕ) (es : List ExprId) (e : ExprId) → b ≡ a + length es → enumerate_from a (es ++ e ∷ []) ≡ enumerate_from a es ++ (b, e) ∷ []
enumerate_push a b [] e at = let same : a ≡ b = omega (arith, at) in ap (λ k. (k, e) ∷ []) same
enumerate_push a b (x ∷ es) e at = ap (λ xs. (a, x) ∷ xs) (enumerate_push (a + 1) b es e (omega (arith, at)))

pub items_more : (f : (ℕ × ExprId) → List Write) (es : List ExprId) (i : ℕ) (e : ExprId) → i < length es → slice_get es i ≡ Some e → flat_map f (enumerate_from 0 (take (i + 1) es)) ≡ flat_map f (enumerate_from 0 (take i es)) ++ f (i, e)
items_more f es i e below at =
    ap (λ xs. flat_map f (enumerate_from 0 xs)) (take-push es i e at)
    ∙ ap (flat_map f) (enumerate_push 0 i (take i es) e (omega (arith, length-take i es, below)))
    ∙ flat_map-append f (enumerate_from 0 (take i es)) ((i, e) ∷ [])
    ∙ ap (λ xs. flat_map f (enumerate_from 0 (take i es)) ++ xs) (append-nil (f (i, e)))
