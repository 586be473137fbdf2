-- Laws of reading the numbers of a script.
use Rattle.std.proofs.Common.{◌≡◌, refl, ℕ, ◌+◌, ◌-◌, ◌*◌, ◌^◌, ◌≤◌, ◌<◌, Bool, true, false, cond, List, [], ◌∷◌, length, drop, get_or, sym, ap, ◌∙◌, subst, arith}
use Rattle.std.specs.Prelude.{Option, Some, None, option_and_then, nat_lt}
use Rattle.std.specs.Char.{is_ascii_digit}
use Rattle.std.proofs.lemmas.List.{drop_more}
use Rattle.std.proofs.lemmas.Bool.Decides.{nat_tests}
use Rattle.std.specs.Prelude.{◌&&◌}
use Rattle.std.specs.Prelude.{ℤ, pos, negsuc}
use Rattle.std.proofs.Math.Nat.{pow-le-pow_right}
use Rattle.shape_rules.specs.Forms.{Form, IsForm}
use Rattle.std.proofs.lemmas.Bool.{false≢true}
use Rattle.play_text.specs.Script.{digits_from, integer_of, holds}
use Rattle.play_text.specs.ScriptParts.{as_u128, as_int, is_kept, in_shape}
use Rattle.std.specs.Prelude.{◌↔◌, unsigned_abs}
use Rattle.amh_bits.specs.Decimals.{int_text}
use Rattle.play_text.proofs.ScriptNumerals.{integer_of-int_text, integer_of-unique}

as_u128-large : (n : ℕ) → 2 ^ 128 ≤ n → as_u128 n ≡ None
as_u128-large n h = grind (arith, nat_tests)

as_u128-small : (n : ℕ) → n < 2 ^ 128 → as_u128 n ≡ Some n
as_u128-small n h = grind (arith, nat_tests)

-- more digits make no number smaller
digits_from-large : (n : ℕ) (ds : List ℕ) → 2 ^ 128 ≤ n → option_and_then as_u128 (digits_from n ds) ≡ None
digits_from-large n [] h = as_u128-large n h
digits_from-large n (b ∷ bs) h = here (is_ascii_digit b) (digits_from-large (10 * n + (b - 48)) bs (omega arith))
  where
    here : (t : Bool) → option_and_then as_u128 (digits_from (10 * n + (b - 48)) bs) ≡ None → option_and_then as_u128 (cond t (digits_from (10 * n + (b - 48)) bs) None) ≡ None
    here true k = k
    here false k = refl

-- a number that has no room has none with more digits
pub digits_from-past : (n d b i : ℕ) (text : List ℕ) → i < length text → b ≡ get_or text i 0 → d ≡ b - 48 → is_ascii_digit b ≡ true → as_u128 (10 * n + d) ≡ None → option_and_then as_u128 (digits_from n (drop i text)) ≡ None
digits_from-past n d b i text held is digit test none =
    let cut : drop i text ≡ b ∷ drop (i + 1) text = drop_more text i 0 held ∙ ap (λ (x : ℕ). x ∷ drop (i + 1) text) (sym is) in
    rw (cut, test) (digits_from-large (10 * n + (b - 48)) (drop (i + 1) text) (large (10 * n + (b - 48)) (ap (λ (x : ℕ). as_u128 (10 * n + x)) (sym digit) ∙ none)))
  where
    large : (m : ℕ) → as_u128 m ≡ None → 2 ^ 128 ≤ m
    large m h = grind (arith, nat_tests)

-- the number when no digit is left
pub digits_from-end : (n : ℕ) (rest : List ℕ) → length rest ≡ 0 → n < 2 ^ 128 → Some n ≡ option_and_then as_u128 (digits_from n rest)
digits_from-end n [] none h = sym (as_u128-small n h)
digits_from-end n (b ∷ bs) none h = absurd (omega arith)

-- what a shape holds is kept
holds-kept : (f : Form) (z : ℤ) → f.width ≤ 128 → holds f z ≡ true → is_kept z ≡ true
holds-kept f (pos n) narrow h = here f.signed h
  where
    here : (s : Bool) → cond s (nat_lt (2 * n) (2 ^ f.width)) (nat_lt n (2 ^ f.width)) ≡ true → nat_lt n (2 ^ 128) ≡ true
    here true k = let m = pow-le-pow_right {n = 2} (omega arith) narrow in grind (arith, nat_tests)
    here false k = let m = pow-le-pow_right {n = 2} (omega arith) narrow in grind (arith, nat_tests)
holds-kept f (negsuc n) narrow h = here f.signed h
  where
    here : (s : Bool) → (s && nat_lt (2 * n + 1) (2 ^ f.width)) ≡ true → nat_lt n (2 ^ 127) ≡ true
    here true k = let m = pow-le-pow_right {n = 2} (omega arith) narrow in grind (arith, nat_tests)
    here false k = absurd (false≢true k)

pub narrow_form : (w : ℕ) (s : Bool) → IsForm w s → w ≤ 128
narrow_form w false h = h
narrow_form w true h = h.1

-- an integer that is not kept is in no shape
pub in_shape-kept : (f : Form) (o : Option ℤ) → f.width ≤ 128 → option_and_then (in_shape f) (option_and_then as_int o) ≡ option_and_then (in_shape f) o
in_shape-kept f None narrow = refl
in_shape-kept f (Some z) narrow = here (is_kept z) refl (holds f z) refl
  where
    here : (k : Bool) → is_kept z ≡ k → (h : Bool) → holds f z ≡ h → option_and_then (in_shape f) (cond k (Some z) None) ≡ in_shape f z
    here true e h g = refl
    here false e true g = absurd (false≢true (sym e ∙ holds-kept f z narrow g))
    here false e false g = rw g refl

-- what is read as kept is in the shape where the integer is
in_shape-as_int : (f : Form) (o : Option ℤ) (y : ℤ) → Some y ≡ option_and_then as_int o → option_and_then (in_shape f) o ≡ in_shape f y
in_shape-as_int f None y h = absurd (cc)
in_shape-as_int f (Some z) y h = here (is_kept z) h
  where
    here : (t : Bool) → Some y ≡ cond t (Some z) None → in_shape f z ≡ in_shape f y
    here true e = let same : y ≡ z = cc in ap (in_shape f) (sym same)
    here false e = absurd (cc)

pub in_shape-held : (f : Form) (o : Option ℤ) (y : ℤ) → Some y ≡ option_and_then as_int o → holds f y ≡ true → Some y ≡ option_and_then (in_shape f) o
in_shape-held f o y h e = sym (in_shape-as_int f o y h ∙ rw e refl)

pub in_shape-other : (f : Form) (o : Option ℤ) (y : ℤ) → Some y ≡ option_and_then as_int o → holds f y ≡ false → None ≡ option_and_then (in_shape f) o
in_shape-other f o y h e = sym (in_shape-as_int f o y h ∙ rw e refl)

small_kept : (z : ℤ) → is_kept z ≡ true → unsigned_abs z < 10 ^ 64
small_kept (pos n) h = grind (arith, nat_tests)
small_kept (negsuc n) h = grind (arith, nat_tests)

-- what a text is read as is the integer of the shape whose numeral the text is
pub numeral_in : (f : Form) (text : List ℕ) (r : Option ℤ) → f.width ≤ 128 → r ≡ option_and_then (in_shape f) (integer_of text) → (z : ℤ) → (r ≡ Some z) ↔ ((holds f z ≡ true) × (text ≡ int_text z))
numeral_in f text r narrow is z = (λ e. to (integer_of text) refl (sym is ∙ e), λ p. is ∙ ap (λ (t : List ℕ). option_and_then (in_shape f) (integer_of t)) p.1 ∙ from p.0)
  where
    fits : holds f z ≡ true → unsigned_abs z < 10 ^ 64
    fits h = small_kept z (holds-kept f z narrow h)

    from : holds f z ≡ true → option_and_then (in_shape f) (integer_of (int_text z)) ≡ Some z
    from h = ap (λ (o : Option ℤ). option_and_then (in_shape f) o) (integer_of-int_text z (fits h)) ∙ rw h refl

    to : (o : Option ℤ) → integer_of text ≡ o → option_and_then (in_shape f) o ≡ Some z → (holds f z ≡ true) × (text ≡ int_text z)
    to None q e = absurd (cc)
    to (Some y) q e = here (holds f y) refl e
      where
        here : (t : Bool) → holds f y ≡ t → cond t (Some y) None ≡ Some z → (holds f z ≡ true) × (text ≡ int_text z)
        here true h k =
            let same : y ≡ z = cc in
            let held : holds f z ≡ true = subst (λ (x : ℤ). holds f x ≡ true) same h in
            (held, integer_of-unique text z (fits held) (q ∙ ap (λ (x : ℤ). Some x) same))
        here false h k = absurd (cc)

-- an integer of a shape is what its own text stands for
pub integer_of-held : (f : Form) (z : ℤ) → f.width ≤ 128 → holds f z ≡ true → integer_of (int_text z) ≡ Some z
integer_of-held f z narrow h = integer_of-int_text z (small_kept z (holds-kept f z narrow h))
