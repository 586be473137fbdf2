-- What is kept of an aim follows it through slices, joins and selections.
use Rattle.std.specs.Prelude.{◌≡◌, refl, ℕ, ◌-◌, ◌^◌, ◌<◌, ◌≤◌, ◌&&◌, nat_lt, Bool, true, false, if◌then◌else◌, Some, None, ℤ, pos, negsuc, unsigned_abs, slice_get, option_and_then}
use Rattle.std.specs.List.{list_any, range_with_len}
use Rattle.std.proofs.Common.{sym, ◌∙◌, ap, arith, ⊎_elim}
use Rattle.std.proofs.lemmas.Bool.{cases_lt, false≢true, and_left, and_right, lt-ltb, le-ltb, eq-eqb, eqb-false}
use Rattle.std.proofs.Math.Nat.{mod-eq_of_lt}
use Rattle.amh_bits.specs.Patterns.{IsOf, nat_bit, pattern}
use Rattle.amh_bits.proofs.BitsOf.{nat_bit_low}
use Rattle.amh_bits.proofs.Reductions.{zero_by_bits}
use Rattle.shape_rules.specs.Forms.{Form}
use Rattle.design_ir.specs.declared.expr.Expr.{Expr}
use Rattle.design_ir.specs.declared.expr.Expr.TheVariants as expr
use Rattle.design_ir.specs.Pools.{Pooled}
use Rattle.design_ir.specs.PoolRules.{IsPool}
use Rattle.design_ir.specs.Values.{form}
use Rattle.design_ir.specs.Targets.{Bit, Numbers, own_number, numbers_of, numbers, some_number, fixed, chosen, Aim, stands_at, chosen_below}
use Rattle.design_ir.proofs.Elements.{any_of, any_has, range_has, range_of}
use Rattle.design_ir.proofs.Equations.{standing, form_is}
use Rattle.comb_graph.specs.Sets.{has}
use Rattle.comb_graph.proofs.SetLaws.{none}

-- ---- a set of places below a width

no_bit : (n k : ℕ) → has n k ≡ false → nat_bit n k ≡ 0
no_bit n k e = let small = nat_bit_low n k in let not-one = eqb-false (nat_bit n k) 1 e in omega (arith, small, not-one)

-- without a place below the width none is in the set
outside : (set width k : ℕ) → list_any (has set) (range_with_len 0 width) ≡ false → (nat_lt k width && has set k) ≡ false
outside set width k e =
    ⊎_elim
    (λ (inside : k < width). and_right (nat_lt k width) (has set k) (not_true (has set k) (λ h. false≢true (sym e ∙ any_has (has set) (range_with_len 0 width) k (range_has 0 width k (omega arith) (omega (arith, inside))) h))))
    (λ (past : width ≤ k). and_left (nat_lt k width) (has set k) (le-ltb k width past)) (cases_lt k width)
  where
    not_true : (t : Bool) → (t ≡ true → ⊥) → t ≡ false
    not_true true h = absurd (h refl)
    not_true false h = refl

there : (t : Bool) (x y : Aim) → (t ≡ false → ⊥) → x ≡ y → Some x ≡ (if t then Some y else None)
there true x y h e = ap (λ z. Some z) e
there false x y h e = absurd (h refl)

nowhere : (t : Bool) (y : Aim) → (t ≡ true → ⊥) → None ≡ (if t then Some y else None)
nowhere true y h = absurd (h refl)
nowhere false y h = refl

module _ (b : Bit) (set below width : ℕ) (is : (k : ℕ) → has below k ≡ (nat_lt k width && has set k)) where
  -- a place below the width is a bit of the number
  found : list_any (has set) (range_with_len 0 width) ≡ true → (k : ℕ) × (has below k ≡ true)
  found e =
      let k = any_of (has set) (range_with_len 0 width) e in
      let r = range_of 0 width k.0 k.1 in
      (k.0, is k.0 ∙ ap (λ t. t && has set k.0) (lt-ltb k.0 width (omega (arith, r.1))) ∙ k.2)

  -- without such a place the number is 0
  lost : below < 2 ^ 128 → list_any (has set) (range_with_len 0 width) ≡ false → below ≡ 0
  lost small e = zero_by_bits 128 below small (λ k inside. no_bit below k (is k ∙ outside set width k e))

  pub chosen_some : below < 2 ^ 128 → (below ≡ 0 → ⊥) → Some (record { bit = b; spot = chosen (has below) }) ≡ chosen_below width b (has set)
  chosen_some small some =
      let spots : chosen (has below) ≡ chosen (λ k. nat_lt k width && has set k) = λ i. chosen (λ k. is k i) in
      there (list_any (has set) (range_with_len 0 width)) (record { bit = b; spot = chosen (has below) }) (record { bit = b; spot = chosen (λ k. nat_lt k width && has set k) }) (λ e. some (lost small e)) (λ i. record { bit = b; spot = spots i })

  pub chosen_none : below ≡ 0 → None ≡ chosen_below width b (has set)
  chosen_none e =
      nowhere (list_any (has set) (range_with_len 0 width)) (record { bit = b; spot = chosen (λ k. nat_lt k width && has set k) })
      (λ any. let k = found any in false≢true (sym (none k.0) ∙ ap (λ n. has n k.0) (sym e) ∙ k.1))

-- the same bit at the same places
pub same_sets : (width : ℕ) (b : Bit) (f g : ℕ → Bool) → ((k : ℕ) → f k ≡ g k) → chosen_below width b f ≡ chosen_below width b g
same_sets width b f g same = λ i. chosen_below width b (λ k. same k i)

pub same_numbers : (n : Numbers) (far : ℕ) (f g : ℕ → Bool) → ((k : ℕ) → f k ≡ g k) → some_number n far f ≡ some_number n far g
same_numbers n far f g same = λ i. some_number n far (λ k. same k i)

-- a fixed place stands at itself
pub stands_fixed : (k : ℕ) → stands_at (fixed k) k ≡ true
stands_fixed k = eq-eqb k k refl

-- ---- the numbers of an offset

own_pattern : (s : Bool) (w : ℕ) (n : ℤ) → s ≡ false → IsOf s w n → pattern w n ≡ unsigned_abs n
own_pattern true w n plain is = absurd (false≢true (sym plain))
own_pattern false w (pos n) plain is = mod-eq_of_lt is
own_pattern false w (negsuc n) plain is = absurd is

pub const_numbers : (p : Pooled) (k : ℕ) (n : ℤ) (s : Form) → IsPool p → slice_get p.exprs k ≡ Some (expr.Const n s) → (form p k).signed ≡ false
    → record { least = pattern (form p k).width n; greatest = pattern (form p k).width n } ≡ numbers p k
unfolding numbers
const_numbers p k n s rules at plain =
    let same : form p k ≡ s = form_is p k (expr.Const n s) rules at in
    let own : pattern (form p k).width n ≡ unsigned_abs n =
    ap (λ (f : Form). pattern f.width n) same ∙ own_pattern s.signed s.width n (ap (λ (f : Form). f.signed) (sym same) ∙ plain) (standing p k (expr.Const n s) rules at).askable.parts in
    (λ i. record { least = own i; greatest = own i }) ∙ ap (λ o. numbers_of (form p k).width (option_and_then own_number o)) (sym at)

no_number : (e : Expr) → ((n : ℤ) (s : Form) → e ≡ expr.Const n s → ⊥) → own_number e ≡ None
no_number (expr.Const n s) h = absurd (h n s refl)
no_number (expr.Sig s) h = refl
no_number (expr.Slice a low width) h = refl
no_number (expr.Cat es) h = refl
no_number (expr.Part a offset width stride) h = refl
no_number (expr.Pick index es) h = refl
no_number (expr.Cast a signed) h = refl
no_number (expr.Unary o a) h = refl
no_number (expr.Binary o a b) h = refl
no_number (expr.Mux s a b) h = refl
no_number (expr.Matches a patterns) h = refl
no_number (expr.Reset domain place) h = refl

pub other_numbers : (p : Pooled) (k greatest : ℕ) (e : Expr) → slice_get p.exprs k ≡ Some e → ((n : ℤ) (s : Form) → e ≡ expr.Const n s → ⊥) → greatest ≡ 2 ^ (form p k).width - 1 → record { least = 0; greatest = greatest } ≡ numbers p k
unfolding numbers
other_numbers p k greatest e at other is =
    (λ i. record { least = 0; greatest = is i }) ∙ ap (numbers_of (form p k).width) (sym (no_number e other)) ∙ ap (λ o. numbers_of (form p k).width (option_and_then own_number o)) (sym at)
