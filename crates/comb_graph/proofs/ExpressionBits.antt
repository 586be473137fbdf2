-- The bits that are needed decide an expression's bits, where those of the expressions that it names are decided.
use Rattle.std.specs.Prelude.{◌≡◌, refl, ℕ, ◌+◌, ◌-◌, ◌*◌, ◌^◌, ◌<◌, ◌≤◌, Bool, true, false, cond, List, [], ◌∷◌, ◌++◌, map, ℤ, pos, unsigned_abs}
use Rattle.std.specs.List.{AllByRecursion, flat_map, list_any}
use Rattle.std.proofs.Common.{sym, ◌∙◌, ap, arith, ⊎_elim}
use Rattle.std.proofs.lemmas.Bool.{cond_below, cond_above, cases_lt}
use Rattle.std.proofs.Math.Nat.{mul_comm}
use Rattle.amh_bits.specs.Integers.{floor_quotient}
use Rattle.amh_bits.specs.Patterns.{pattern, wrap, nat_bit, int_bit}
use Rattle.amh_bits.proofs.Wraps.{pattern_below, pattern_wrap}
use Rattle.amh_bits.proofs.BitsOf.{bit_pattern, int_bit_down, nat_bit_joined_low, nat_bit_joined_high}
use Rattle.shape_rules.specs.Forms.{Form}
use Rattle.shape_rules.specs.Operators.{is_zero, truth}
use Rattle.design_ir.specs.declared.ids.ExprId.{ExprId}
use Rattle.design_ir.specs.declared.signal.Sig.{Sig}
use Rattle.design_ir.specs.declared.expr.Expr.{Expr}
use Rattle.design_ir.specs.declared.expr.Expr.TheVariants as expr
use Rattle.design_ir.specs.Named.{named}
use Rattle.design_ir.specs.Targets.{Bit}
use Rattle.design_ir.specs.PoolRules.{IsInRange}
use Rattle.design_ir.specs.Values.{form_step, value_step, signal_form, total_width, joined, bits_from, picked, matches}
use Rattle.design_ir.specs.Needed.{extended, every, joined_bits, bits_step}
use Rattle.design_ir.specs.Circuits.{at}
use Rattle.comb_graph.proofs.Decided.{IsDecided, all_left, all_right, whole_same, extended_same}
use Rattle.comb_graph.proofs.OperatorBits.{unary_same, binary_same}

-- ---- one expression above another

joined_low : (low high width k : ℕ) → low < 2 ^ width → k < width → nat_bit (low + 2 ^ width * high) k ≡ nat_bit low k
joined_low low high width k small h =
    let e : low + 2 ^ width * high ≡ high * 2 ^ width + low = omega (arith, mul_comm high (2 ^ width)) in
    ap (λ n. nat_bit n k) e ∙ nat_bit_joined_low (record { width = width; bits = low }) (record { width = 0; bits = high }) k small h

joined_high : (low high width k : ℕ) → low < 2 ^ width → width ≤ k → nat_bit (low + 2 ^ width * high) k ≡ nat_bit high (k - width)
joined_high low high width k small h =
    let e : low + 2 ^ width * high ≡ high * 2 ^ width + low = omega (arith, mul_comm high (2 ^ width)) in
    let i : k ≡ width + (k - width) = omega arith in
    ap (λ n. nat_bit n k) e
    ∙ ap (nat_bit (high * 2 ^ width + low)) i
    ∙ nat_bit_joined_high (record { width = width; bits = low }) (record { width = 0; bits = high }) (k - width) small

module _ (P : Bit → Type 0) (sigs : List Sig) (E F : List ℤ) (read : (s k : ℕ) → k < (signal_form sigs s).width → P (record { sig = s; index = k }) → int_bit (at E s) k ≡ int_bit (at F s) k)
    (forms : ℕ → Form) (bits : ℕ → ℕ → List Bit) (x y : ℕ → ℤ) where
  -- the numbers of this expression are decided
  abbrev Known : ExprId → Type 0
  Known e = IsDecided P (forms e.0) (bits e.0) (x e.0) (y e.0)

  one_whole : (e : ExprId) → Known e → AllByRecursion P (every (forms e.0) (bits e.0)) → x e.0 ≡ y e.0
  one_whole e d h = whole_same P (forms e.0) (bits e.0) (x e.0) (y e.0) d h

  all_whole : (es : List ExprId) → AllByRecursion Known es → AllByRecursion P (flat_map (λ (e : ExprId). every (forms e.0) (bits e.0)) es) → map (λ (e : ExprId). x e.0) es ≡ map (λ (e : ExprId). y e.0) es
  all_whole [] d h = refl
  all_whole (e ∷ es) d h =
      let mine : List Bit = every (forms e.0) (bits e.0) in
      let others : List Bit = flat_map (λ (a : ExprId). every (forms a.0) (bits a.0)) es in
      ap (λ n. n ∷ map (λ (a : ExprId). x a.0) es) (one_whole e d.0 (all_left P mine others h))
      ∙ ap (λ ns. y e.0 ∷ ns) (all_whole es d.1 (all_right P mine others h))

  slice_same : (a : ExprId) (low width k : ℕ) → Known a → low + width ≤ (forms a.0).width → k < width → AllByRecursion P (bits a.0 (low + k)) → nat_bit (bits_from low width (x a.0)) k ≡ nat_bit (bits_from low width (y a.0)) k
  slice_same a low width k d range h all =
      bit_pattern (floor_quotient (x a.0) (2 ^ low)) width k h
      ∙ int_bit_down (x a.0) low k
      ∙ d.same (low + k) (omega arith) all
      ∙ sym (int_bit_down (y a.0) low k)
      ∙ sym (bit_pattern (floor_quotient (y a.0) (2 ^ low)) width k h)

  cat_same : (es : List ExprId) (k : ℕ) → AllByRecursion Known es → k < total_width forms es → AllByRecursion P (joined_bits forms bits es k) → nat_bit (joined forms x es) k ≡ nat_bit (joined forms y es) k
  cat_same [] k d h all = refl
  cat_same (e ∷ es) k d h all =
      let w : ℕ = (forms e.0).width in
      let p : ℕ = pattern w (x e.0) in
      let q : ℕ = pattern w (y e.0) in
      let mine : List Bit = bits e.0 k in
      let others : List Bit = joined_bits forms bits es (k - w) in
      ⊎_elim
      (λ (lt : k < w).
      joined_low p (joined forms x es) w k (pattern_below w (x e.0)) lt
      ∙ bit_pattern (x e.0) w k lt
      ∙ d.0.same k lt (rw (← cond_below k w mine others lt) at all)
      ∙ sym (bit_pattern (y e.0) w k lt)
      ∙ sym (joined_low q (joined forms y es) w k (pattern_below w (y e.0)) lt))
      (λ (ge : w ≤ k).
      joined_high p (joined forms x es) w k (pattern_below w (x e.0)) ge
      ∙ cat_same es (k - w) d.1 (omega (arith, h)) (rw (← cond_above k w mine others others ge refl) at all)
      ∙ sym (joined_high q (joined forms y es) w k (pattern_below w (y e.0)) ge))
      (cases_lt k w)

  cast_same : (a : ExprId) (signed : Bool) (k : ℕ) → Known a → k < (forms a.0).width → AllByRecursion P (bits a.0 k) → int_bit (wrap signed (forms a.0).width (x a.0)) k ≡ int_bit (wrap signed (forms a.0).width (y a.0)) k
  cast_same a signed k d h all =
      let w : ℕ = (forms a.0).width in
      let back : (z : ℤ) → int_bit (wrap signed w z) k ≡ int_bit z k =
      λ z. sym (bit_pattern (wrap signed w z) w k h) ∙ ap (λ n. nat_bit n k) (pattern_wrap signed w z) ∙ bit_pattern z w k h in
      back (x a.0) ∙ d.same k h all ∙ sym (back (y a.0))

  choice_same : (t : Bool) (k : ℕ) (a b c d : ℤ) → int_bit a k ≡ int_bit c k → int_bit b k ≡ int_bit d k → int_bit (cond t a b) k ≡ int_bit (cond t c d) k
  choice_same true k a b c d p q = p
  choice_same false k a b c d p q = q

  mux_same : (s a b : ExprId) (k : ℕ) → Known s → Known a → Known b
      → AllByRecursion P (every (forms s.0) (bits s.0) ++ extended (forms a.0) (bits a.0) k ++ extended (forms b.0) (bits b.0) k)
      → int_bit (cond (is_zero (x s.0)) (x b.0) (x a.0)) k ≡ int_bit (cond (is_zero (y s.0)) (y b.0) (y a.0)) k
  mux_same s a b k ds da db all =
      let test : List Bit = every (forms s.0) (bits s.0) in
      let first : List Bit = extended (forms a.0) (bits a.0) k in
      let second : List Bit = extended (forms b.0) (bits b.0) k in
      let most : AllByRecursion P (test ++ first) = all_left P (test ++ first) second all in
      ap (λ n. int_bit (cond (is_zero n) (x b.0) (x a.0)) k) (one_whole s ds (all_left P test first most))
      ∙ choice_same (is_zero (y s.0)) k (x b.0) (x a.0) (y b.0) (y a.0)
      (extended_same P (forms b.0) (bits b.0) (x b.0) (y b.0) k db (all_right P (test ++ first) second all))
      (extended_same P (forms a.0) (bits a.0) (x a.0) (y a.0) k da (all_right P test first most))

  pub step_same : (e : Expr) (k : ℕ) → IsInRange sigs forms e → AllByRecursion Known (named e) → k < (form_step sigs forms e).width → AllByRecursion P (bits_step forms bits e k)
      → int_bit (value_step forms E x e) k ≡ int_bit (value_step forms F y e) k
  step_same (expr.Const n s) k range d h all = refl
  step_same (expr.Sig s) k range d h all = read s.0 k h all.0
  step_same (expr.Unary op a) k range d h all = unary_same P op (forms a.0) (bits a.0) (x a.0) (y a.0) k range d.0 h all
  step_same (expr.Binary op a b) k range d h all =
      binary_same P (forms a.0) (forms b.0) (bits a.0) (bits b.0) (x a.0) (y a.0) (x b.0) (y b.0) k d.0 d.1.0 op h all
  step_same (expr.Mux s a b) k range d h all = mux_same s a b k d.0 d.1.0 d.1.1.0 all
  step_same (expr.Slice a low width) k range d h all = slice_same a low width k d.0 range h all
  step_same (expr.Cat es) k range d h all = cat_same es k d h all
  step_same (expr.Part a offset width stride) k range d h all =
      let first : List Bit = every (forms a.0) (bits a.0) in
      let second : List Bit = every (forms offset.0) (bits offset.0) in
      ap (λ n. nat_bit (bits_from (unsigned_abs (x offset.0) * stride) width n) k) (one_whole a d.0 (all_left P first second all))
      ∙ ap (λ n. nat_bit (bits_from (unsigned_abs n * stride) width (y a.0)) k) (one_whole offset d.1.0 (all_right P first second all))
  step_same (expr.Pick index es) k range d h all =
      let first : List Bit = every (forms index.0) (bits index.0) in
      let others : List Bit = flat_map (λ (e : ExprId). every (forms e.0) (bits e.0)) es in
      ap (λ n. int_bit (picked (pos 0) (map (λ (e : ExprId). x e.0) es) (unsigned_abs n)) k) (one_whole index d.0 (all_left P first others all))
      ∙ ap (λ ns. int_bit (picked (pos 0) ns (unsigned_abs (y index.0))) k) (all_whole es d.1 (all_right P first others all))
  step_same (expr.Cast a signed) k range d h all = cast_same a signed k d.0 h all
  step_same (expr.Matches a patterns) k range d h all =
      ap (λ n. int_bit (truth (list_any (λ p. matches p (pattern (forms a.0).width n)) patterns)) k) (one_whole a d.0 all)
  step_same (expr.Reset domain place) k range d h all = refl
