-- Bits chosen by a guard.
use Rattle.std.specs.Prelude.{◌≡◌, refl, ℕ, suc, ◌-◌, ◌<◌, ◌≤◌, max, Bool, true, false, if◌then◌else◌, List, [], ◌∷◌, ◌++◌, length, slice_get, ℤ, Some, None, Contains}
use Rattle.std.proofs.Common.{sym, ◌∙◌, ap, arith, subst, ⊎_elim}
use Rattle.std.proofs.lemmas.Bool.{cond_below, cond_above}
use Rattle.std.proofs.lemmas.List.Elements.{Contains-append_left, Contains-append_right, Contains-append_cases}
use Rattle.amh_bits.specs.Patterns.{pattern, nat_bit}
use Rattle.shape_rules.specs.Forms.{Form, unsigned, common}
use Rattle.shape_rules.specs.Operators.{is_zero}
use Rattle.design_ir.specs.declared.ids.ExprId.{ExprId}
use Rattle.design_ir.specs.declared.expr.Expr.TheVariants.{Mux}
use Rattle.design_ir.specs.declared.refusal.PoolStop.TheVariants.{Width}
use Rattle.design_ir.specs.Pools.{Pooled}
use Rattle.design_ir.specs.PoolRules.{IsPool, shape_stop}
use Rattle.design_ir.specs.Values.{form, num}
use Rattle.design_ir.specs.Targets.{Bit}
use Rattle.design_ir.specs.Needed.{needed, needed_whole, extended}
use Rattle.design_ir.proofs.Equations.{place_below}
use Rattle.flat_design.specs.declared.sources.Source.{Source}
use Rattle.flat_design.specs.Sources.{IsJoined, IsChosen, AreChosen, source_bit, source_needs}
use Rattle.flat_design.specs.Adding.{IsAdded, AreBits}
use Rattle.flat_design.proofs.Added.{added_readable, added_form, added_num, added_needs}

-- a width of at most 128 bits is not refused
pub fits_stop : (w : ℕ) → w ≤ 128 → shape_stop false w ≡ None
fits_stop w few = sym (cond_above 128 w (Some Width) None None few refl)

-- where each place of three lists has a choice, they are chosen
pub chosen_from : (p : Pooled) (guard : ExprId) (new old xs : List Source) → length new ≡ length xs → length old ≡ length xs
    → ((j : ℕ) (n o x : Source) → slice_get new j ≡ Some n → slice_get old j ≡ Some o → slice_get xs j ≡ Some x → IsChosen p guard n o x) → AreChosen p guard new old xs
chosen_from p guard [] [] [] ln lo each = tt
chosen_from p guard (n ∷ ns) (o ∷ os) (x ∷ xs) ln lo each =
    (each 0 n o x refl refl refl, chosen_from p guard ns os xs (omega (arith, ln)) (omega (arith, lo)) (λ j n o x at was is. each (suc j) n o x at was is))
chosen_from p guard [] [] (x ∷ xs) ln lo each = absurd (omega (arith, ln))
chosen_from p guard [] (o ∷ os) [] ln lo each = absurd (omega (arith, lo))
chosen_from p guard [] (o ∷ os) (x ∷ xs) ln lo each = absurd (omega (arith, ln))
chosen_from p guard (n ∷ ns) [] [] ln lo each = absurd (omega (arith, ln))
chosen_from p guard (n ∷ ns) [] (x ∷ xs) ln lo each = absurd (omega (arith, lo))
chosen_from p guard (n ∷ ns) (o ∷ os) [] ln lo each = absurd (omega (arith, ln))

-- a bit of one of two numbers
choice_bit : (t : Bool) (w k a b : ℕ) (x y : ℤ) → nat_bit (pattern w x) k ≡ a → nat_bit (pattern w y) k ≡ b → nat_bit (pattern w (if t then x else y)) k ≡ (if t then a else b)
choice_bit true w k a b x y p q = p
choice_bit false w k a b x y p q = q

-- what a bit within the width needs
inside_needs : (f : Form) (bits : ℕ → List Bit) (k : ℕ) (c : Bit) → k < f.width → Contains (extended f bits k) c → Contains (bits k) c
inside_needs f bits k c below n = subst (λ bs. Contains bs c) (sym (cond_below k f.width (bits k) (if f.signed then bits (f.width - 1) else []) below)) n

module _ (p : Pooled) (rules : IsPool p) (guard a b id : ExprId) (new old : List Source) (size : length new ≡ length old) (ja : IsJoined p new a) (jb : IsJoined p old b) (h : IsAdded p (Mux guard a b) id) where
  same_width : form p id.0 ≡ unsigned (length new)
  same_width =
      added_form p (Mux guard a b) id rules h
      ∙ ap (λ f. common f (form p b.0)) ja.shape
      ∙ ap (common (unsigned (length new))) jb.shape
      ∙ ap unsigned (let e : max (length new) (length old) ≡ length new = omega (arith, size) in e)

  chosen_at : (j : ℕ) (n o : Source) → slice_get new j ≡ Some n → slice_get old j ≡ Some o → IsChosen p guard n o (record { expr = id; bit = j })
  chosen_at j n o at was =
      let w : ℕ = length new in
      let below : j < w = place_below new j n at in
      let wa : (form p a.0).width ≡ w = ap (λ (f : Form). f.width) ja.shape in
      let wb : (form p b.0).width ≡ w = ap (λ (f : Form). f.width) jb.shape ∙ sym size in
      record {
        source = record { readable = added_readable p (Mux guard a b) id h; inside = omega (arith, below, ap (λ (f : Form). f.width) same_width) };
        bit = λ env.
            let na : ℤ = num p env a.0 in
            let nb : ℤ = num p env b.0 in
            ap (λ (f : Form). nat_bit (pattern f.width (num p env id.0)) j) same_width
            ∙ ap (λ z. nat_bit (pattern w z) j) (added_num p (Mux guard a b) id env rules h)
            ∙ choice_bit (is_zero (num p env guard.0)) w j (source_bit p env o) (source_bit p env n) nb na
            (ap (λ v. nat_bit (pattern v nb) j) (sym wb) ∙ jb.bits env j o was)
            (ap (λ v. nat_bit (pattern v na) j) (sym wa) ∙ ja.bits env j n at);
        needs = λ c n'.
            let whole : List Bit = needed_whole p guard in
            let left : List Bit = extended (form p a.0) (needed p a.0) j in
            let right : List Bit = extended (form p b.0) (needed p b.0) j in
            let all : Contains (whole ++ left ++ right) c = subst (λ (f : ℕ → List Bit). Contains (f j) c) (added_needs p (Mux guard a b) id rules h) n' in
            let sn : List Bit = source_needs p n in
            let so : List Bit = source_needs p o in
            ⊎_elim
            (λ (m : Contains (whole ++ left) c).
            Contains-append_left (whole ++ sn) so c
            (⊎_elim
            (λ (g : Contains whole c). Contains-append_left whole sn c g)
            (λ (l : Contains left c). Contains-append_right whole sn c (ja.needs j n c at (inside_needs (form p a.0) (needed p a.0) j c (omega (arith, below, wa)) l)))
            (Contains-append_cases whole left c m)))
            (λ (r : Contains right c). Contains-append_right (whole ++ sn) so c (jb.needs j o c was (inside_needs (form p b.0) (needed p b.0) j c (omega (arith, below, wb)) r)))
            (Contains-append_cases (whole ++ left) right c all);
      }

  pub mux_chosen : (xs : List Source) → AreBits id (length new) xs → AreChosen p guard new old xs
  mux_chosen xs bits =
      chosen_from p guard new old xs (sym bits.size) (omega (arith, size, bits.size))
      (λ j n o x at was is. subst (IsChosen p guard n o) (sym (bits.each j x is)) (chosen_at j n o at was))

-- nothing stops a choice of as many bits from both
pub mux_accepted : (p : Pooled) (a b : ExprId) (new old : List Source) → length new ≡ length old → length new ≤ 128 → IsJoined p new a → IsJoined p old b → shape_stop false (common (form p a.0) (form p b.0)).width ≡ None
mux_accepted p a b new old size few ja jb =
    let one : (common (form p a.0) (form p b.0)).width ≡ max (length new) (length old) = rw (ja.shape, jb.shape) refl in
    fits_stop (common (form p a.0) (form p b.0)).width (omega (arith, one, size, few))
