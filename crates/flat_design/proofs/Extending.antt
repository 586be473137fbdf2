-- Bits of a value, also past its end.
use Rattle.std.specs.Prelude.{◌≡◌, refl, ℕ, zero, suc, ◌+◌, ◌-◌, ◌<◌, ◌≤◌, Bool, true, false, if◌then◌else◌, List, [], ◌∷◌, ◌++◌, length, slice_get, ℤ, pos, Some, Contains}
use Rattle.std.proofs.Common.{sym, ◌∙◌, ap, arith, subst, ⊎_elim, length-append}
use Rattle.std.proofs.lemmas.Bool.{cond_below, cond_above, false≢true}
use Rattle.amh_bits.specs.Patterns.{IsOf, pattern, nat_bit, int_bit}
use Rattle.amh_bits.proofs.BitsOf.{bit_pattern}
use Rattle.amh_bits.proofs.Same.{past_unsigned, past_signed}
use Rattle.shape_rules.specs.Forms.{Form, IsForm, unsigned}
use Rattle.design_ir.specs.declared.ids.ExprId.{ExprId}
use Rattle.design_ir.specs.declared.expr.Expr.TheVariants.{Const}
use Rattle.design_ir.specs.Pools.{Pooled}
use Rattle.design_ir.specs.PoolRules.{IsPool}
use Rattle.design_ir.specs.Values.{form, num}
use Rattle.design_ir.specs.Targets.{Bit}
use Rattle.design_ir.specs.Needed.{needed, extended}
use Rattle.design_ir.specs.Circuits.{FitsSignals}
use Rattle.design_ir.proofs.Elements.{contains_none, get_append_cases}
use Rattle.design_ir.proofs.NumbersFit.{num_fits}
use Rattle.flat_design.specs.declared.sources.Source.{Source}
use Rattle.flat_design.specs.Growing.{IsReadable}
use Rattle.flat_design.specs.Sources.{IsSource, IsExtension, source_bit, source_needs}
use Rattle.flat_design.specs.Adding.{IsAdded}
use Rattle.flat_design.proofs.Added.{added_readable, added_form, added_num, added_needs}
use Rattle.flat_design.proofs.SourceLists.{only}

-- the same bit, counted from elsewhere
pub extension_at : (p : Pooled) (value : ExprId) (from i k : ℕ) (x : Source) → from + i ≡ k → IsExtension p value k 0 x → IsExtension p value from i x
extension_at p value from i k x is h =
    let here : k + 0 ≡ from + i = omega (arith, is) in
    let next : k + 1 ≡ from + suc i = omega (arith, is) in
    record { source = h.source; bit = λ env fit. h.bit env fit ∙ ap (λ w. nat_bit (pattern w (num p env value.0)) (k + 0)) next ∙ ap (nat_bit (pattern (from + suc i) (num p env value.0))) here; needs = λ c n. subst (λ j. Contains (extended (form p value.0) (needed p value.0) j) c) here (h.needs c n) }

-- where an integer has the source's bit
extension_from : (p : Pooled) (value : ExprId) (k : ℕ) (x : Source) → IsSource p x
    → ((env : List ℤ) → FitsSignals p env → source_bit p env x ≡ int_bit (num p env value.0) k)
    → ((c : Bit) → Contains (source_needs p x) c → Contains (extended (form p value.0) (needed p value.0) k) c)
    → IsExtension p value k 0 x
extension_from p value k x source bit needs =
    let here : k ≡ k + 0 = omega arith in
    record {
      source = source;
      bit = λ env fit. bit env fit ∙ ap (int_bit (num p env value.0)) here ∙ sym (bit_pattern (num p env value.0) (k + 1) (k + 0) (omega arith));
      needs = λ c n. subst (λ j. Contains (extended (form p value.0) (needed p value.0) j) c) here (needs c n);
    }

-- ---- shapes

-- a signed shape has a bit
pub signed_some : (w : ℕ) (signed : Bool) → IsForm w signed → signed ≡ true → 0 < w
signed_some w false h e = absurd (false≢true e)
signed_some w true h e = omega (arith, h.0)

-- ---- one bit

pub inside_extension : (p : Pooled) (value : ExprId) (k : ℕ) → IsReadable p value → k < (form p value.0).width → IsExtension p value k 0 (record { expr = value; bit = k })
inside_extension p value k readable inside =
    let f : Form = form p value.0 in
    extension_from p value k (record { expr = value; bit = k }) (record { readable = readable; inside = inside })
    (λ env fit. bit_pattern (num p env value.0) f.width k inside)
    (λ c n. subst (λ bs. Contains bs c) (cond_below k f.width (needed p value.0 k) (if f.signed then needed p value.0 (f.width - 1) else []) inside) n)

sign_past : (signed : Bool) (w k : ℕ) (z : ℤ) → signed ≡ true → 0 < w → w ≤ k → IsOf signed w z → int_bit z (w - 1) ≡ int_bit z k
sign_past signed zero k z e some far h = absurd (omega (arith, some))
sign_past signed (suc w) k z e some far h =
    let top : suc w - 1 ≡ w = omega arith in
    let of : IsOf true (suc w) z = subst (λ s. IsOf s (suc w) z) e h in
    ap (int_bit z) top ∙ sym (past_signed w k z of (omega (arith, far)))

past_needs : (f : Form) (bits : ℕ → List Bit) (k : ℕ) (c : Bit) → f.width ≤ k → Contains (if f.signed then bits (f.width - 1) else []) c → Contains (extended f bits k) c
past_needs f bits k c far n =
    subst (λ bs. Contains bs c) (cond_above k f.width (bits k) (if f.signed then bits (f.width - 1) else []) (if f.signed then bits (f.width - 1) else []) far refl) n

pub signed_extension : (p : Pooled) (value : ExprId) (k j : ℕ) → IsPool p → IsReadable p value → (form p value.0).signed ≡ true → 0 < (form p value.0).width → j ≡ (form p value.0).width - 1 → (form p value.0).width ≤ k → IsExtension p value k 0 (record { expr = value; bit = j })
signed_extension p value k j rules readable signed some top far =
    let f : Form = form p value.0 in
    let below : j < f.width = omega (arith, some, top) in
    extension_from p value k (record { expr = value; bit = j }) (record { readable = readable; inside = below })
    (λ env fit. bit_pattern (num p env value.0) f.width j below ∙ ap (int_bit (num p env value.0)) top ∙ sign_past f.signed f.width k (num p env value.0) signed some far (num_fits p env rules fit value readable.there))
    (λ c n. past_needs f (needed p value.0) k c far (rw signed (subst (λ i. Contains (needed p value.0 i) c) top n)))

pub zero_extension : (p : Pooled) (value id : ExprId) (k : ℕ) → IsPool p → IsReadable p value → (form p value.0).signed ≡ false → (form p value.0).width ≤ k → IsAdded p (Const (pos 0) (unsigned 1)) id → IsExtension p value k 0 (record { expr = id; bit = 0 })
zero_extension p value id k rules readable plain far h =
    let f : Form = form p value.0 in
    let shape : form p id.0 ≡ unsigned 1 = added_form p (Const (pos 0) (unsigned 1)) id rules h in
    extension_from p value k (record { expr = id; bit = 0 }) (record { readable = added_readable p (Const (pos 0) (unsigned 1)) id h; inside = omega (arith, ap (λ (g : Form). g.width) shape) })
    (λ env fit.
    let of : IsOf false f.width (num p env value.0) = subst (λ s. IsOf s f.width (num p env value.0)) plain (num_fits p env rules fit value readable.there) in
    ap (λ (g : Form). nat_bit (pattern g.width (num p env id.0)) 0) shape
    ∙ ap (λ z. nat_bit (pattern 1 z) 0) (added_num p (Const (pos 0) (unsigned 1)) id env rules h)
    ∙ sym (past_unsigned f.width k (num p env value.0) of far))
    (λ c n. absurd (contains_none c (subst (λ (g : ℕ → List Bit). Contains (g 0) c) (added_needs p (Const (pos 0) (unsigned 1)) id rules h) n)))

-- ---- one bit more

-- the bits that there are so far
pub record AreExtended (p : Pooled) (value : ExprId) (from to : ℕ) (xs : List Source) : Type 0 where
  pub size : from + length xs ≡ to
  pub each : (i : ℕ) (x : Source) → slice_get xs i ≡ Some x → IsExtension p value from i x

pub extended_push : (p : Pooled) (value : ExprId) (from to : ℕ) (xs : List Source) (x : Source) → AreExtended p value from to xs → IsExtension p value to 0 x → AreExtended p value from (to + 1) (xs ++ x ∷ [])
extended_push p value from to xs x h e = record {
  size = omega (arith, length-append xs (x ∷ []), h.size);
  each = λ i y got.
      ⊎_elim (λ (left : slice_get xs i ≡ Some y). h.each i y left)
      (λ (right : (length xs ≤ i) × (slice_get (x ∷ []) (i - length xs) ≡ Some y)).
      let last = only x (i - length xs) y right.1 in
      extension_at p value from i to y (omega (arith, h.size, right.0, last.0)) (subst (IsExtension p value to 0) (sym last.1) e))
      (get_append_cases xs (x ∷ []) i y got);
}
