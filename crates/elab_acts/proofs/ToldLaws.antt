-- Statements that are put under a domain, one after the other.
use Rattle.std.proofs.Common.{◌≡◌, ℕ, zero, suc, ◌+◌, ◌<◌, ◌≤◌, refl, ap, ◌∙◌, sym, List, [], ◌∷◌, length, drop, Option, Some, None, arith, add-one}
use Rattle.std.specs.Prelude.{slice_get, slice_index_or}
use Rattle.std.proofs.Math.Seq.{drop-cons}
use Rattle.py_frames.specs.declared.request.Cause.{Cause}
use Rattle.design_ir.specs.declared.process.Side.{Side}
use Rattle.elab_store.specs.declared.kept.Equation.{Equation}
use Rattle.elab_store.specs.Stores.{Stored}
use Rattle.elab_acts.specs.Sides.{statement_told, statements_behind, statements_told}

module _ (m : ℕ) (d : Side) (qs : List Equation) (i : ℕ) (q other : Equation) (s : Stored) (below : i < length qs) (is : q ≡ slice_index_or qs i other) where
  first : drop i qs ≡ q ∷ drop (i + 1) qs
  first = drop-cons qs i other below ∙ ap (λ y. y ∷ drop (suc i) qs) (sym is) ∙ ap (λ j. q ∷ drop j qs) (sym (add-one i))

  step : (t : Stored) (o : Option Cause) (whole : Stored × Option Cause) → (t, o) ≡ statement_told m d q (slice_get s.modules m) s → statements_told m d (drop i qs) s ≡ whole → statements_behind (statements_told m d (drop (i + 1) qs)) (t, o) ≡ whole
  step t o whole told e =
      ap (statements_behind (statements_told m d (drop (i + 1) qs))) told ∙ sym (ap (λ xs. statements_told m d xs s) first) ∙ e

  pub told-next : (t : Stored) (whole : Stored × Option Cause) → (t, None) ≡ statement_told m d q (slice_get s.modules m) s → statements_told m d (drop i qs) s ≡ whole → statements_told m d (drop (i + 1) qs) t ≡ whole
  told-next t whole told e = step t None whole told e

  pub told-stops : (t : Stored) (why : Cause) (whole : Stored × Option Cause) → (t, Some why) ≡ statement_told m d q (slice_get s.modules m) s → statements_told m d (drop i qs) s ≡ whole → (t, Some why) ≡ whole
  told-stops t why whole told e = step t (Some why) whole told e

pub told-done : (m : ℕ) (d : Side) (qs : List Equation) (i : ℕ) (s : Stored) (whole : Stored × Option Cause) → length qs ≤ i → statements_told m d (drop i qs) s ≡ whole → (s, None) ≡ whole
told-done m d qs i s whole h e = sym (ap (λ xs. statements_told m d xs s) (past qs i h)) ∙ e
  where
    past : (qs : List Equation) (i : ℕ) → length qs ≤ i → drop i qs ≡ []
    past [] zero h = refl
    past [] (suc i) h = refl
    past (x ∷ qs) zero h = absurd (omega arith)
    past (x ∷ qs) (suc i) h = past qs i (omega arith)
