-- Sources that carry the numbers of signals, before and after the statements of a plain block.
use Rattle.std.specs.Prelude.{◌≡◌, ◌≢◌, refl, ℕ, zero, suc, ◌+◌, ◌-◌, ◌<◌, ◌≤◌, ◌==◌, ◌&&◌, ⊤, Bool, true, false, cond, List, [], ◌∷◌, map, length, slice_get, ℤ, Some, nat_lt}
use Rattle.std.specs.List.{AllByRecursion}
use Rattle.std.proofs.Common.{sym, ◌∙◌, ap, arith, subst, ⊎_elim}
use Rattle.std.proofs.lemmas.Bool.{false≢true, cases_eq, cond_both, and_parts, and_right, ne_eqb, eq-eqb, ltb-true, ltb-false}
use Rattle.std.proofs.lemmas.List.{length-map, length-set}
use Rattle.amh_bits.specs.Patterns.{pattern, nat_bit, IsOf}
use Rattle.amh_bits.proofs.BitsOf.{bit_pattern, nat_bit_low}
use Rattle.amh_bits.proofs.Same.{past_unsigned, past_signed}
use Rattle.design_ir.specs.declared.ids.ExprId.{ExprId}
use Rattle.design_ir.specs.Pools.{Pooled}
use Rattle.design_ir.specs.Values.{num, signal_form}
use Rattle.design_ir.specs.Targets.{Bit, target_bits, target_signals}
use Rattle.design_ir.specs.Trees.{assign, choose, Block, done, next}
use Rattle.design_ir.specs.Guards.{driven}
use Rattle.design_ir.specs.Put.{put, put_statement, put_number, put_bits, put_bit}
use Rattle.design_ir.specs.Circuits.{at, is_among}
use Rattle.design_ir.proofs.PutLaws.{put_length, among_parts, apart}
use Rattle.rtlil_text.specs.Sources.{Source, Constant, Net}
use Rattle.rtlil_text.specs.Cells.{number_bits}
use Rattle.rtlil_text.specs.Meaning.{source_value}
use Rattle.rtlil_text.specs.History.{Wires}
use Rattle.netlist_laws.specs.Operators.{Value}
use Rattle.netlist_laws.specs.Carried.{IsIn, Carries}
use Rattle.netlist_laws.specs.Latest.{Latest, places, is_fixed, source_at, with_source, given, latest_of, is_plain}
use Rattle.netlist_laws.proofs.Reading.{bit_of, HasBits, HasSign, has_carried, slice_get-pattern}
use Rattle.netlist_laws.proofs.FixedTargets.{IsInside, IsOfThese, target_bits-fixed, places_inside, places_of}
use Rattle.netlist_laws.proofs.BitWrites.{some_signal, at-put_bit_other, int_bit-put_bit_same, int_bit-put_bit_other}

-- ---- sources that carry numbers

-- the sources of a signal's bits give the bits of its number
pub record IsSourced (wires : Wires) (pool : Pooled) (latest : Latest) (cur : List ℤ) (s : ℕ) : Type 0 where
  pub bits : (i : ℕ) → i < (signal_form pool.signals s).width → source_value wires (latest s i) ≡ Some (bit_of (at cur s) i)

-- those of each signal do
abbrev pub Sourced : Wires → Pooled → Latest → List ℤ → Type 0
Sourced wires pool latest cur = (s i : ℕ) → i < (signal_form pool.signals s).width
    → source_value wires (latest s i) ≡ slice_get (number_bits (signal_form pool.signals s).width (pattern (signal_form pool.signals s).width (at cur s))) i

pub is_sourced : (wires : Wires) (pool : Pooled) (latest : Latest) (cur : List ℤ) (s : ℕ) → Sourced wires pool latest cur → IsSourced wires pool latest cur s
is_sourced wires pool latest cur s h = record { bits = λ i l. h s i l ∙ slice_get-pattern (signal_form pool.signals s).width (at cur s) i l }

pub all_sourced : (wires : Wires) (pool : Pooled) (latest : Latest) (cur : List ℤ) → ((s : ℕ) → IsSourced wires pool latest cur s) → Sourced wires pool latest cur
all_sourced wires pool latest cur h = λ s i l. (h s).bits i l ∙ sym (slice_get-pattern (signal_form pool.signals s).width (at cur s) i l)

-- ---- the bits of a value, also behind its end

-- the wire of a value carries a number of its shape
pub record IsShown (wires : Wires) (v : Value) (x : ℤ) : Type 0 where
  pub carried : Carries wires v x
  pub fits : IsIn v.form x
  pub sign : HasSign v.form

behind : (wires : Wires) (id : List ℕ) (s : Bool) (w k : ℕ) (x : ℤ) → (s ≡ true → 1 ≤ w) → IsOf s w x → HasBits wires id w x → w ≤ k
    → source_value wires (cond s (Net id (w - 1)) (Constant false)) ≡ Some (bit_of x k)
behind wires id true zero k x some f b h = absurd (omega (arith, some refl))
behind wires id true (suc w) k x some f b h =
    ap (wires id) (let e : suc w - 1 ≡ w = omega arith in e) ∙ b.at w (omega arith) ∙ ap (λ d. Some (d == 1)) (sym (past_signed w k x f (omega arith)))
behind wires id false w k x some f b h = ap (λ d. Some (d == 1)) (sym (past_unsigned w k x f h))

pub source_at_is : (wires : Wires) (v : Value) (k : ℕ) (x : ℤ) → IsShown wires v x → source_value wires (source_at v k) ≡ Some (bit_of x k)
source_at_is wires v k x h =
    let b : HasBits wires v.id v.form.width x = has_carried wires v x h.carried in
    cond_both (nat_lt k v.form.width) (Net v.id k) (cond v.form.signed (Net v.id (v.form.width - 1)) (Constant false)) (λ t. source_value wires t ≡ Some (bit_of x k))
    (λ e. b.at k (ltb-true k v.form.width e))
    (λ e. behind wires v.id v.form.signed v.form.width k x h.sign h.fits b (ltb-false k v.form.width e))

-- ---- blocks

-- what a block assigns has this
abbrev pub AreGiven : (ExprId → Type 0) → Block → Type 0
AreGiven P done = ⊤
AreGiven P (next (assign target source place) rest) = P source × AreGiven P rest
AreGiven P (next (choose arms) rest) = AreGiven P rest

-- ---- one bit

pub with_source_same : (b : Bit) (x : Source) (latest : Latest) → with_source b x latest b.sig b.index ≡ x
with_source_same b x latest =
    ap (λ t. cond (t && (b.index == b.index)) x (latest b.sig b.index)) (eq-eqb b.sig b.sig refl)
    ∙ ap (λ t. cond t x (latest b.sig b.index)) (eq-eqb b.index b.index refl)

pub with_source_sig : (b : Bit) (x : Source) (latest : Latest) (s i : ℕ) → s ≢ b.sig → with_source b x latest s i ≡ latest s i
with_source_sig b x latest s i apart = ap (λ t. cond (t && (i == b.index)) x (latest s i)) (ne_eqb s b.sig apart)

pub with_source_index : (b : Bit) (x : Source) (latest : Latest) (s i : ℕ) → i ≢ b.index → with_source b x latest s i ≡ latest s i
with_source_index b x latest s i apart =
    ap (λ t. cond t x (latest s i)) (and_right (s == b.sig) (i == b.index) (ne_eqb i b.index apart))

module _ (wires : Wires) (pool : Pooled) where
  module _ (b : Bit) (x : Source) (n : ℕ) (latest : Latest) (cur : List ℤ) (count : length cur ≡ length pool.signals) (inside : b.index < (signal_form pool.signals b.sig).width) (low : n < 2) (is : source_value wires x ≡ Some (n == 1)) where
    there : b.sig < length cur
    there = omega (arith, count, some_signal pool.signals b.sig (omega (arith, inside)))

    own_sourced : IsSourced wires pool latest cur b.sig → IsSourced wires pool (with_source b x latest) (put_bit pool b n cur) b.sig
    own_sourced h = record {
      bits = λ i l. ⊎_elim
          (λ (e : i ≡ b.index). subst (λ j. source_value wires (with_source b x latest b.sig j) ≡ Some (bit_of (at (put_bit pool b n cur) b.sig) j)) (sym e)
          (ap (source_value wires) (with_source_same b x latest) ∙ is ∙ ap (λ d. Some (d == 1)) (sym (int_bit-put_bit_same pool b n cur low inside there))))
          (λ (e : i ≢ b.index). ap (source_value wires) (with_source_index b x latest b.sig i e) ∙ h.bits i l ∙ ap (λ d. Some (d == 1)) (sym (int_bit-put_bit_other pool b n cur low inside i there l e)))
          (cases_eq i b.index);
    }

    other_sourced : (s : ℕ) → s ≢ b.sig → IsSourced wires pool latest cur s → IsSourced wires pool (with_source b x latest) (put_bit pool b n cur) s
    other_sourced s e h = record {
      bits = λ i l. ap (source_value wires) (with_source_sig b x latest s i e) ∙ h.bits i l ∙ ap (λ z. Some (bit_of z i)) (sym (at-put_bit_other pool b n cur low inside s e));
    }

    one_sourced : (s : ℕ) → IsSourced wires pool latest cur s → IsSourced wires pool (with_source b x latest) (put_bit pool b n cur) s
    one_sourced s h = ⊎_elim
        (λ (e : s ≡ b.sig). subst (λ t. IsSourced wires pool (with_source b x latest) (put_bit pool b n cur) t) (sym e) (own_sourced (subst (λ t. IsSourced wires pool latest cur t) e h)))
        (λ (e : s ≢ b.sig). other_sourced s e h)
        (cases_eq s b.sig)

  -- ---- one assignment

  given_sourced : (v : Value) (x : ℤ) → IsShown wires v x → (bs : List Bit) (k m : ℕ) (latest : Latest) (cur : List ℤ) (s : ℕ) → k + length bs ≤ m → length cur ≡ length pool.signals
      → AllByRecursion (IsInside (signal_form pool.signals)) bs → IsSourced wires pool latest cur s → IsSourced wires pool (given v bs k latest) (put_bits pool (map (λ b. Some b) bs) (pattern m x) k cur) s
  given_sourced v x shown [] k m latest cur s le count inside h = h
  given_sourced v x shown (b ∷ bs) k m latest cur s le count inside h =
      let is : source_value wires (source_at v k) ≡ Some (nat_bit (pattern m x) k == 1) = source_at_is wires v k x shown ∙ ap (λ d. Some (d == 1)) (sym (bit_pattern x m k (omega arith))) in
      given_sourced v x shown bs (k + 1) m (with_source b (source_at v k) latest) (put_bit pool b (nat_bit (pattern m x) k) cur) s (omega (arith, le)) (length-set cur b.sig _ ∙ count) inside.1
      (one_sourced b (source_at v k) (nat_bit (pattern m x) k) latest cur count inside.0 (nat_bit_low (pattern m x) k) is s h)

  -- ---- a block

  module _ (env : List ℤ) (value : ℕ → Value) where
    assigned : (t v : ExprId) (latest : Latest) (cur : List ℤ) (s : ℕ) → is_fixed pool t.0 ≡ true → IsShown wires (value v.0) (num pool env v.0) → length cur ≡ length pool.signals
        → IsSourced wires pool latest cur s → IsSourced wires pool (given (value v.0) (places pool t.0) 0 latest) (put_number pool (target_bits pool env t.0) (num pool env v.0) cur) s
    assigned t v latest cur s fixed shown count h =
        let bs : List Bit = places pool t.0 in
        let wide : length (map (λ b. Some b) bs) ≡ length bs = length-map bs (λ b. Some b) in
        subst (λ xs. IsSourced wires pool (given (value v.0) bs 0 latest) (put_number pool xs (num pool env v.0) cur) s) (sym (target_bits-fixed pool env t.0 fixed))
        (given_sourced (value v.0) (num pool env v.0) shown bs 0 (length (map (λ b. Some b) bs)) latest cur s (omega (arith, wide)) count (places_inside pool t.0) h)

    -- the last assignment wins, bit by bit, in the sources as in the numbers
    pub put_sourced : (b : Block) (latest : Latest) (cur : List ℤ) (s : ℕ) → is_plain pool b ≡ true → AreGiven (λ (e : ExprId). IsShown wires (value e.0) (num pool env e.0)) b
        → length cur ≡ length pool.signals → IsSourced wires pool latest cur s → IsSourced wires pool (latest_of pool value b latest) (put pool env b cur) s
    put_sourced done latest cur s plain shown count h = h
    put_sourced (next (assign t v p) rest) latest cur s plain shown count h =
        let parts = and_parts (is_fixed pool t.0) (is_plain pool rest) plain in
        put_sourced rest (given (value v.0) (places pool t.0) 0 latest) (put_statement pool env (assign t v p) cur) s parts.1 shown.1 (put_length pool env (next (assign t v p) done) cur ∙ count)
        (assigned t v latest cur s parts.0 shown.0 count h)
    put_sourced (next (choose arms) rest) latest cur s plain shown count h = absurd (false≢true plain)

    -- the same of all signals at once
    pub put_sourced_all : (b : Block) (latest : Latest) (cur : List ℤ) → is_plain pool b ≡ true → AreGiven (λ (e : ExprId). IsShown wires (value e.0) (num pool env e.0)) b
        → length cur ≡ length pool.signals → Sourced wires pool latest cur → Sourced wires pool (latest_of pool value b latest) (put pool env b cur)
    put_sourced_all b latest cur plain shown count h =
        all_sourced wires pool (latest_of pool value b latest) (put pool env b cur) (λ s. put_sourced b latest cur s plain shown count (is_sourced wires pool latest cur s h))

-- ---- signals that the block does not drive

given-other : (v : Value) (ss : List ℕ) (bs : List Bit) (k : ℕ) (latest : Latest) (s i : ℕ) → AllByRecursion (IsOfThese ss) bs → is_among ss s ≡ false → given v bs k latest s i ≡ latest s i
given-other v ss [] k latest s i h e = refl
given-other v ss (b ∷ bs) k latest s i h e =
    given-other v ss bs (k + 1) (with_source b (source_at v k) latest) s i h.1 e
    ∙ ap (λ t. cond (t && (i == b.index)) (source_at v k) (latest s i)) (ne_eqb s b.sig (apart ss s b.sig e h.0))

-- they keep their sources
pub latest_of-other : (pool : Pooled) (value : ℕ → Value) (b : Block) (latest : Latest) (s i : ℕ) → is_plain pool b ≡ true → is_among (driven pool b) s ≡ false → latest_of pool value b latest s i ≡ latest s i
latest_of-other pool value done latest s i plain e = refl
latest_of-other pool value (next (assign t v p) rest) latest s i plain e =
    let parts = and_parts (is_fixed pool t.0) (is_plain pool rest) plain in
    let split = among_parts (target_signals pool t.0) (driven pool rest) s e in
    latest_of-other pool value rest (given (value v.0) (places pool t.0) 0 latest) s i parts.1 split.1
    ∙ given-other (value v.0) (target_signals pool t.0) (places pool t.0) 0 latest s i (places_of pool t.0 parts.0) split.0
latest_of-other pool value (next (choose arms) rest) latest s i plain e = absurd (false≢true plain)
