-- A spec's text is read in one way.
use Rattle.std.proofs.Common.{◌≡◌, ◌∙◌, ◌⊎◌, ◌≤◌, ◌+◌, ◌-◌, ℕ, suc, Bool, true, false, List, [], ◌∷◌, ◌++◌, map, reverse, length, All, codes, refl, sym, ap, subst, arith, inl, inr, ⊎_elim, append_assoc}
use Rattle.std.specs.Prelude.{Contains}
use Rattle.rtlil_text.specs.Numerals.{numeral}
use Rattle.std.proofs.lemmas.List.{reverse-reverse}
use Rattle.std.proofs.lemmas.List.Elements.{All-head, All-from_recursion, recursion_from_All}
use Rattle.std.specs.List.{AllByRecursion}
use Rattle.rtlil_text.specs.declared.sig.SigPart.{SigPart}
use Rattle.rtlil_text.specs.declared.sig.SigPart.TheVariants as parts
use Rattle.rtlil_text.specs.declared.module.RtlWire.{RtlWire}
use Rattle.rtlil_text.specs.Lines.{◌▸◌, bit_char, const_text}
use Rattle.rtlil_text.specs.Grammar.{IsWhole, IsSpec, AreSpecs}
use Rattle.rtlil_text.specs.Rules.{PartFits, SpecFits, IsSlice}
use Rattle.rtlil_text.proofs.Words.{IsWord, append-cancel, word-cut, digits-cut, IsWord-append}
use Rattle.rtlil_text.proofs.Numerals.{IsWord-numeral, IsDigits-numeral, numeral-first, numeral-injective}

-- ---- first bytes

abbrev pub IsDigitByte : ℕ → Type 0
IsDigitByte x = (48 ≤ x) × (x ≤ 57)

abbrev pub IsIdByte : ℕ → Type 0
IsIdByte x = (x ≡ 92) ⊎ (x ≡ 36)

-- the text begins with such a byte
pub record Begins (P : ℕ → Type 0) (t : List ℕ) : Type 0 where
  pub first : ℕ
  pub rest : List ℕ
  pub such : P first
  pub is : t ≡ first ∷ rest

-- a text that begins with a byte of the one kind is none that begins with a byte of the other
clash : (P Q : ℕ → Type 0) → ((x : ℕ) → P x → Q x → ⊥) → (t u r s : List ℕ) → Begins P t → Begins Q u → t ++ r ≡ u ++ s → ⊥
clash P Q apart t u r s b c e =
    let f : b.first ∷ (b.rest ++ r) ≡ c.first ∷ (c.rest ++ s) = sym (ap (λ x. x ++ r) b.is) ∙ e ∙ ap (λ x. x ++ s) c.is in
    let g : b.first ≡ c.first = cc in
    apart c.first (subst P g b.such) c.such

digit_or_id : (x : ℕ) → IsDigitByte x → IsIdByte x → ⊥
digit_or_id x d i = ⊎_elim (λ e. omega (arith, d.1, e)) (λ e. omega (arith, d.0, e)) i

digit_or_brace : (x : ℕ) → IsDigitByte x → x ≡ 123 → ⊥
digit_or_brace x d e = omega (arith, d.1, e)

id_or_brace : (x : ℕ) → IsIdByte x → x ≡ 123 → ⊥
id_or_brace x i b = ⊎_elim (λ e. omega (arith, b, e)) (λ e. omega (arith, b, e)) i

turned : {P Q : ℕ → Type 0} → ((x : ℕ) → P x → Q x → ⊥) → (x : ℕ) → Q x → P x → ⊥
turned h x q p = h x p q

-- the text of an id
pub record IsIdText (id : List ℕ) : Type 0 where
  pub word : IsWord id
  pub begins : Begins IsIdByte id

-- a spec ends before a blank or a line feed, where no index of a slice follows
pub record Stops (r : List ℕ) : Type 0 where
  pub head : ℕ
  pub rest : List ℕ
  pub is : r ≡ head ∷ rest
  pub blank : head ≤ 32
  pub closed : (more : List ℕ) → head ≡ 32 → rest ≡ 91 ∷ more → ⊥

-- ---- words with and without an index

plain_plain : (w v r s : List ℕ) → IsWord w → IsWord v → Stops r → Stops s → w ++ r ≡ v ++ s → (w ≡ v) × (r ≡ s)
plain_plain w v r s hw hv p q e =
    let f : w ++ (p.head ∷ p.rest) ≡ v ++ (q.head ∷ q.rest) = ap (λ x. w ++ x) (sym p.is) ∙ e ∙ ap (λ x. v ++ x) q.is in
    let c = word-cut w v p.head q.head p.rest q.rest hw hv p.blank q.blank f in
    (c.0, p.is ∙ (λ i. c.1 i ∷ c.2 i) ∙ sym q.is)

plain_indexed : (w id r index s : List ℕ) → IsWord w → IsWord id → Stops r → w ++ r ≡ (id ++ (32 ∷ 91 ∷ index)) ++ s → ⊥
plain_indexed w id r index s hw hi p e =
    let f : w ++ (p.head ∷ p.rest) ≡ id ++ (32 ∷ 91 ∷ (index ++ s)) = ap (λ x. w ++ x) (sym p.is) ∙ e ∙ append_assoc id (32 ∷ 91 ∷ index) s in
    let c = word-cut w id p.head 32 p.rest (91 ∷ (index ++ s)) hw hi p.blank (omega arith) f in
    p.closed (index ++ s) c.1 c.2

indexed_indexed : (id other a b r s : List ℕ) → IsWord id → IsWord other → (id ++ (32 ∷ 91 ∷ a)) ++ r ≡ (other ++ (32 ∷ 91 ∷ b)) ++ s → (id ≡ other) × (a ++ r ≡ b ++ s)
indexed_indexed id other a b r s hi ho e =
    let f : id ++ (32 ∷ 91 ∷ (a ++ r)) ≡ other ++ (32 ∷ 91 ∷ (b ++ s)) = sym (append_assoc id (32 ∷ 91 ∷ a) r) ∙ e ∙ append_assoc other (32 ∷ 91 ∷ b) s in
    let c = word-cut id other 32 32 (91 ∷ (a ++ r)) (91 ∷ (b ++ s)) hi ho (omega arith) (omega arith) f in
    (c.0, append-cancel (91 ∷ []) (a ++ r) (b ++ s) c.2)

-- ---- constants

IsWord-bits : (bs : List Bool) → IsWord (map bit_char bs)
IsWord-bits [] = tt
IsWord-bits (true ∷ bs) = (omega arith, IsWord-bits bs)
IsWord-bits (false ∷ bs) = (omega arith, IsWord-bits bs)

pub IsWord-const_text : (bits : List Bool) → IsWord (const_text bits)
IsWord-const_text bits = IsWord-append (numeral (length bits)) (39 ∷ map bit_char (reverse bits)) (IsWord-numeral (length bits)) (omega arith, IsWord-bits (reverse bits))

pub const-begins : (bits : List Bool) → Begins IsDigitByte (const_text bits)
const-begins bits =
    let d = numeral-first (length bits) in
    record { first = d.0; rest = d.1 ++ (39 ∷ map bit_char (reverse bits)); such = (d.2, d.3); is = ap (λ x. x ++ (39 ∷ map bit_char (reverse bits))) d.4 }

bit_char-injective : (a b : Bool) → bit_char a ≡ bit_char b → a ≡ b
bit_char-injective true true e = refl
bit_char-injective true false e = absurd (omega (arith, e))
bit_char-injective false true e = absurd (omega (arith, e))
bit_char-injective false false e = refl

bits-injective : (a b : List Bool) → map bit_char a ≡ map bit_char b → a ≡ b
bits-injective [] [] e = refl
bits-injective [] (y ∷ b) e = cc
bits-injective (x ∷ a) [] e = cc
bits-injective (x ∷ a) (y ∷ b) e =
    let f : bit_char x ≡ bit_char y = cc in
    let g : map bit_char a ≡ map bit_char b = cc in
    (λ i. bit_char-injective x y f i ∷ bits-injective a b g i)

pub const_text-injective : (a b : List Bool) → const_text a ≡ const_text b → a ≡ b
const_text-injective a b e =
    let c = digits-cut (numeral (length a)) (numeral (length b)) 39 39 (map bit_char (reverse a)) (map bit_char (reverse b)) (IsDigits-numeral (length a)) (IsDigits-numeral (length b)) (inl (omega arith)) (inl (omega arith)) e in
    sym (reverse-reverse a) ∙ ap reverse (bits-injective (reverse a) (reverse b) c.2) ∙ reverse-reverse b

-- ---- all specs over some wires

left : {A : Type 0} (P : A → Type 0) (xs ys : List A) → AllByRecursion P (xs ++ ys) → AllByRecursion P xs
left P [] ys h = tt
left P (x ∷ xs) ys h = (h.0, left P xs ys h.1)

pub All-left : {A : Type 0} (P : A → Type 0) (xs ys : List A) → All P (xs ++ ys) → All P xs
All-left P xs ys h = All-from_recursion P xs (left P xs ys (recursion_from_All P (xs ++ ys) h))

pub All-right : {A : Type 0} (P : A → Type 0) (xs ys : List A) → All P (xs ++ ys) → All P ys
All-right P [] ys h = h
All-right P (x ∷ xs) ys h = All-right P xs ys (λ k d lt. h (suc k) d (omega arith))

module _ (wires : List RtlWire) (ids : (w : RtlWire) → Contains wires w → IsIdText w.id)
    (agree : (v w : RtlWire) → Contains wires v → Contains wires w → v.id ≡ w.id → v.width ≡ w.width) where
  whole_id : (id : List ℕ) (width : ℕ) → IsWhole wires id width → IsIdText id
  whole_id id width h = subst IsIdText h.named (ids h.wire h.among)

  slice_id : (id : List ℕ) (low width : ℕ) → IsSlice wires id low width → IsIdText id
  slice_id id low width h = subst IsIdText h.named (ids h.wire h.among)

  slice_of : (id : List ℕ) (low width : ℕ) (ps : List SigPart) → ps ≡ parts.Wire id low width ∷ [] → SpecFits wires ps → IsSlice wires id low width
  slice_of id low width ps e h = All-head (PartFits wires) (parts.Wire id low width) [] (subst (SpecFits wires) e h)

  indexed_begins : (id index : List ℕ) → IsIdText id → Begins IsIdByte (id ++ index)
  indexed_begins id index h = record { first = h.begins.first; rest = h.begins.rest ++ index; such = h.begins.such; is = ap (λ x. x ++ index) h.begins.is }

  same_width : (id : List ℕ) (a b : ℕ) → IsWhole wires id a → IsWhole wires id b → a ≡ b
  same_width id a b h k = sym h.wide ∙ agree h.wire k.wire h.among k.among (h.named ∙ sym k.named) ∙ k.wide

  from_const : (t : List ℕ) (bits : List Bool) → t ≡ const_text bits → Begins IsDigitByte t
  from_const t bits e = subst (Begins IsDigitByte) (sym e) (const-begins bits)

  from_slice : (t id index : List ℕ) → t ≡ id ++ index → IsIdText id → Begins IsIdByte t
  from_slice t id index e h = subst (Begins IsIdByte) (sym e) (indexed_begins id index h)

  from_braces : (t inner : List ℕ) → t ≡ 123 ∷ inner → Begins (λ x. x ≡ 123) t
  from_braces t inner e = record { first = 123; rest = inner; such = refl; is = e }

  pub IsStart : ℕ → Type 0
  IsStart x = (IsDigitByte x ⊎ IsIdByte x) ⊎ (x ≡ 123)

  pub spec-begins : (t : List ℕ) (ps : List SigPart) → IsSpec wires t ps → SpecFits wires ps → Begins IsStart t
  unfolding IsStart
  spec-begins t ps (IsSpec.const _ _ bits e f) h = let b = from_const t bits e in record { first = b.first; rest = b.rest; such = inl (inl b.such); is = b.is }
  spec-begins t ps (IsSpec.whole _ _ width w f) h = let b = (whole_id t width w).begins in record { first = b.first; rest = b.rest; such = inl (inr b.such); is = b.is }
  spec-begins t ps (IsSpec.one _ _ id low e f) h =
      let b = from_slice t id (codes " [" ▸ numeral low ▸ codes "]") e (slice_id id low 1 (slice_of id low 1 ps f h)) in record { first = b.first; rest = b.rest; such = inl (inr b.such); is = b.is }
  spec-begins t ps (IsSpec.range _ _ id high low le e f) h =
      let b = from_slice t id (codes " [" ▸ numeral high ▸ codes ":" ▸ numeral low ▸ codes "]") e (slice_id id low (high - low + 1) (slice_of id low (high - low + 1) ps f h)) in record { first = b.first; rest = b.rest; such = inl (inr b.such); is = b.is }
  spec-begins t ps (IsSpec.braces _ inner _ hs e) h = record { first = 123; rest = inner ▸ codes " }"; such = inr refl; is = e }

  pub no_start : (x c : ℕ) → (c ≡ 91) ⊎ (c ≡ 125) → IsStart x → x ≡ c → ⊥
  unfolding IsStart
  no_start x c (inl k) (inl (inl d)) e = omega (arith, k, d.1, e)
  no_start x c (inl k) (inl (inr (inl i))) e = omega (arith, k, i, e)
  no_start x c (inl k) (inl (inr (inr i))) e = omega (arith, k, i, e)
  no_start x c (inl k) (inr b) e = omega (arith, k, b, e)
  no_start x c (inr k) (inl (inl d)) e = omega (arith, k, d.1, e)
  no_start x c (inr k) (inl (inr (inl i))) e = omega (arith, k, i, e)
  no_start x c (inr k) (inl (inr (inr i))) e = omega (arith, k, i, e)
  no_start x c (inr k) (inr b) e = omega (arith, k, b, e)

  -- what stands behind a spec between braces
  stops-specs : (rest : List ℕ) (ps : List SigPart) (r : List ℕ) → AreSpecs wires rest ps → SpecFits wires ps → Stops (rest ++ (32 ∷ 125 ∷ r))
  stops-specs rest ps r (AreSpecs.none _ _ e f) h = record { head = 32; rest = 125 ∷ r; is = ap (λ x. x ++ (32 ∷ 125 ∷ r)) e; blank = omega arith; closed = λ more one b. bad more b }
    where
      bad : (more : List ℕ) → ◌≡◌ {A = List ℕ} (125 ∷ r) (91 ∷ more) → ⊥
      bad more b = let f : ◌≡◌ {A = ℕ} 125 91 = cc in omega (arith, f)
  stops-specs rest ps r (AreSpecs.more _ first others _ qs rs g gs e f) h =
      let b = spec-begins first qs g (All-left (PartFits wires) qs rs (subst (SpecFits wires) f h)) in
      record {
        head = 32;
        rest = (first ++ others) ++ (32 ∷ 125 ∷ r);
        is = ap (λ x. x ++ (32 ∷ 125 ∷ r)) e;
        blank = omega arith;
        closed = λ more one c. no_start b.first 91 (inl refl) b.such (first_is b more c);
      }
    where
      first_is : (b : Begins IsStart first) (more : List ℕ) → (first ++ others) ++ (32 ∷ 125 ∷ r) ≡ 91 ∷ more → b.first ≡ 91
      first_is b more c = let f : b.first ∷ ((b.rest ++ others) ++ (32 ∷ 125 ∷ r)) ≡ 91 ∷ more = sym (ap (λ x. (x ++ others) ++ (32 ∷ 125 ∷ r)) b.is) ∙ c in cc

  Once : List ℕ → List ℕ → List ℕ → List ℕ → List SigPart → List SigPart → Type 0
  Once t u r s ps qs = SpecFits wires ps → SpecFits wires qs → Stops r → Stops s → t ++ r ≡ u ++ s → (ps ≡ qs) × (r ≡ s)

  const-const : (t u r s : List ℕ) (ps qs : List SigPart) (a b : List Bool) → t ≡ const_text a → u ≡ const_text b → ps ≡ parts.Const a ∷ [] → qs ≡ parts.Const b ∷ [] → Once t u r s ps qs
  unfolding Once
  const-const t u r s ps qs a b e f g h hp hq p q same =
      let c = plain_plain t u r s (subst IsWord (sym e) (IsWord-const_text a)) (subst IsWord (sym f) (IsWord-const_text b)) p q same in
      let bits = const_text-injective a b (sym e ∙ c.0 ∙ f) in
      (g ∙ ap (λ x. parts.Const x ∷ []) bits ∙ sym h, c.1)

  whole-whole : (t u r s : List ℕ) (ps qs : List SigPart) (a b : ℕ) → IsWhole wires t a → IsWhole wires u b → ps ≡ parts.Wire t 0 a ∷ [] → qs ≡ parts.Wire u 0 b ∷ [] → Once t u r s ps qs
  unfolding Once
  whole-whole t u r s ps qs a b v w g h hp hq p q same =
      let c = plain_plain t u r s (whole_id t a v).word (whole_id u b w).word p q same in
      let width = same_width u a b (subst (λ x. IsWhole wires x a) c.0 v) w in
      (g ∙ (λ i. parts.Wire (c.0 i) 0 (width i) ∷ []) ∙ sym h, c.1)

  one_index : ℕ → List ℕ
  one_index low = numeral low ++ (93 ∷ [])

  range_index : ℕ → ℕ → List ℕ
  range_index high low = numeral high ++ (58 ∷ (numeral low ++ (93 ∷ [])))

  one-one : (t u r s : List ℕ) (ps qs : List SigPart) (id other : List ℕ) (a b : ℕ) → t ≡ id ++ (32 ∷ 91 ∷ one_index a) → u ≡ other ++ (32 ∷ 91 ∷ one_index b) → ps ≡ parts.Wire id a 1 ∷ [] → qs ≡ parts.Wire other b 1 ∷ [] → Once t u r s ps qs
  unfolding Once one_index
  one-one t u r s ps qs id other a b e f g h hp hq p q same =
      let sa = slice_of id a 1 ps g hp in
      let sb = slice_of other b 1 qs h hq in
      let c = indexed_indexed id other (numeral a ++ (93 ∷ [])) (numeral b ++ (93 ∷ [])) r s (slice_id id a 1 sa).word (slice_id other b 1 sb).word (sym (ap (λ x. x ++ r) e) ∙ same ∙ ap (λ x. x ++ s) f) in
      let d = digits-cut (numeral a) (numeral b) 93 93 r s (IsDigits-numeral a) (IsDigits-numeral b) (inr (omega arith)) (inr (omega arith)) (sym (append_assoc (numeral a) (93 ∷ []) r) ∙ c.1 ∙ append_assoc (numeral b) (93 ∷ []) s) in
      let low = numeral-injective a b d.0 in
      (g ∙ (λ i. parts.Wire (c.0 i) (low i) 1 ∷ []) ∙ sym h, d.2)

  one-range : (t u r s : List ℕ) (id other : List ℕ) (a high low : ℕ) → IsWord id → IsWord other → t ≡ id ++ (32 ∷ 91 ∷ one_index a) → u ≡ other ++ (32 ∷ 91 ∷ range_index high low) → t ++ r ≡ u ++ s → ⊥
  unfolding one_index range_index
  one-range t u r s id other a high low hi ho e f same =
      let c = indexed_indexed id other (numeral a ++ (93 ∷ [])) (numeral high ++ (58 ∷ (numeral low ++ (93 ∷ [])))) r s hi ho (sym (ap (λ x. x ++ r) e) ∙ same ∙ ap (λ x. x ++ s) f) in
      let d = digits-cut (numeral a) (numeral high) 93 58 r ((numeral low ++ (93 ∷ [])) ++ s) (IsDigits-numeral a) (IsDigits-numeral high) (inr (omega arith)) (inr (omega arith)) (sym (append_assoc (numeral a) (93 ∷ []) r) ∙ c.1 ∙ append_assoc (numeral high) (58 ∷ (numeral low ++ (93 ∷ []))) s) in
      omega (arith, d.1)

  range-range : (t u r s : List ℕ) (ps qs : List SigPart) (id other : List ℕ) (ha a hb b : ℕ) → a ≤ ha → b ≤ hb → t ≡ id ++ (32 ∷ 91 ∷ range_index ha a) → u ≡ other ++ (32 ∷ 91 ∷ range_index hb b)
      → ps ≡ parts.Wire id a (ha - a + 1) ∷ [] → qs ≡ parts.Wire other b (hb - b + 1) ∷ [] → Once t u r s ps qs
  unfolding Once range_index
  range-range t u r s ps qs id other ha a hb b la lb e f g h hp hq p q same =
      let sa = slice_of id a (ha - a + 1) ps g hp in
      let sb = slice_of other b (hb - b + 1) qs h hq in
      let c = indexed_indexed id other (numeral ha ++ (58 ∷ (numeral a ++ (93 ∷ [])))) (numeral hb ++ (58 ∷ (numeral b ++ (93 ∷ [])))) r s (slice_id id a (ha - a + 1) sa).word (slice_id other b (hb - b + 1) sb).word (sym (ap (λ x. x ++ r) e) ∙ same ∙ ap (λ x. x ++ s) f) in
      let d = digits-cut (numeral ha) (numeral hb) 58 58 ((numeral a ++ (93 ∷ [])) ++ r) ((numeral b ++ (93 ∷ [])) ++ s) (IsDigits-numeral ha) (IsDigits-numeral hb) (inr (omega arith)) (inr (omega arith))
      (sym (append_assoc (numeral ha) (58 ∷ (numeral a ++ (93 ∷ []))) r) ∙ c.1 ∙ append_assoc (numeral hb) (58 ∷ (numeral b ++ (93 ∷ []))) s) in
      let d2 = digits-cut (numeral a) (numeral b) 93 93 r s (IsDigits-numeral a) (IsDigits-numeral b) (inr (omega arith)) (inr (omega arith)) (sym (append_assoc (numeral a) (93 ∷ []) r) ∙ d.2 ∙ append_assoc (numeral b) (93 ∷ []) s) in
      let high = numeral-injective ha hb d.0 in
      let low = numeral-injective a b d2.0 in
      (g ∙ (λ i. parts.Wire (c.0 i) (low i) (high i - low i + 1) ∷ []) ∙ sym h, d2.2)

  whole-indexed : (t u r s : List ℕ) (a : ℕ) (id index : List ℕ) → IsWhole wires t a → IsWord id → u ≡ id ++ (32 ∷ 91 ∷ index) → Stops r → t ++ r ≡ u ++ s → ⊥
  whole-indexed t u r s a id index w hi f p same = plain_indexed t id r index s (whole_id t a w).word hi p (same ∙ ap (λ x. x ++ s) f)

  -- two specs between braces, without the braces
  between : (a b r s t u : List ℕ) → t ≡ 123 ∷ (a ++ (32 ∷ 125 ∷ [])) → u ≡ 123 ∷ (b ++ (32 ∷ 125 ∷ [])) → t ++ r ≡ u ++ s → a ++ (32 ∷ 125 ∷ r) ≡ b ++ (32 ∷ 125 ∷ s)
  between a b r s t u e f same =
      let g : 123 ∷ ((a ++ (32 ∷ 125 ∷ [])) ++ r) ≡ 123 ∷ ((b ++ (32 ∷ 125 ∷ [])) ++ s) = sym (ap (λ x. x ++ r) e) ∙ same ∙ ap (λ x. x ++ s) f in
      sym (append_assoc a (32 ∷ 125 ∷ []) r) ∙ append-cancel (123 ∷ []) ((a ++ (32 ∷ 125 ∷ [])) ++ r) ((b ++ (32 ∷ 125 ∷ [])) ++ s) g ∙ append_assoc b (32 ∷ 125 ∷ []) s

  -- behind the last spec stands no other one
  last_or_more : (t u first others r s : List ℕ) → t ≡ [] → u ≡ 32 ∷ (first ++ others) → Begins IsStart first → t ++ (32 ∷ 125 ∷ r) ≡ u ++ (32 ∷ 125 ∷ s) → ⊥
  last_or_more t u first others r s e f b same =
      let g : 32 ∷ 125 ∷ r ≡ 32 ∷ b.first ∷ ((b.rest ++ others) ++ (32 ∷ 125 ∷ s)) = sym (ap (λ x. x ++ (32 ∷ 125 ∷ r)) e) ∙ same ∙ ap (λ x. x ++ (32 ∷ 125 ∷ s)) f ∙ ap (λ x. 32 ∷ ((x ++ others) ++ (32 ∷ 125 ∷ s))) b.is in
      let h : b.first ≡ 125 = cc in
      no_start b.first 125 (inr refl) b.such h

  one_more : (t u first others first_b others_b r s : List ℕ) → t ≡ 32 ∷ (first ++ others) → u ≡ 32 ∷ (first_b ++ others_b) → t ++ (32 ∷ 125 ∷ r) ≡ u ++ (32 ∷ 125 ∷ s) → first ++ (others ++ (32 ∷ 125 ∷ r)) ≡ first_b ++ (others_b ++ (32 ∷ 125 ∷ s))
  one_more t u first others first_b others_b r s e f same =
      let g : 32 ∷ ((first ++ others) ++ (32 ∷ 125 ∷ r)) ≡ 32 ∷ ((first_b ++ others_b) ++ (32 ∷ 125 ∷ s)) = sym (ap (λ x. x ++ (32 ∷ 125 ∷ r)) e) ∙ same ∙ ap (λ x. x ++ (32 ∷ 125 ∷ s)) f in
      sym (append_assoc first others (32 ∷ 125 ∷ r)) ∙ append-cancel (32 ∷ []) ((first ++ others) ++ (32 ∷ 125 ∷ r)) ((first_b ++ others_b) ++ (32 ∷ 125 ∷ s)) g ∙ append_assoc first_b others_b (32 ∷ 125 ∷ s)

  fit_first : (ps qs rs : List SigPart) → ps ≡ qs ++ rs → SpecFits wires ps → SpecFits wires qs
  fit_first ps qs rs e h = All-left (PartFits wires) qs rs (subst (SpecFits wires) e h)

  fit_rest : (ps qs rs : List SigPart) → ps ≡ qs ++ rs → SpecFits wires ps → SpecFits wires rs
  fit_rest ps qs rs e h = All-right (PartFits wires) qs rs (subst (SpecFits wires) e h)

  mutual
    unfolding Once one_index range_index

    pub spec-once : (t u r s : List ℕ) (ps qs : List SigPart) → IsSpec wires t ps → IsSpec wires u qs → SpecFits wires ps → SpecFits wires qs → Stops r → Stops s → t ++ r ≡ u ++ s → (ps ≡ qs) × (r ≡ s)
    spec-once t u r s ps qs (IsSpec.const _ _ bits_a ea fa) (IsSpec.const _ _ bits_b eb fb) hp hq p q same =
        const-const t u r s ps qs bits_a bits_b ea eb fa fb hp hq p q same
    spec-once t u r s ps qs (IsSpec.const _ _ bits_a ea fa) (IsSpec.whole _ _ width_b wb fb) hp hq p q same =
        absurd (clash IsDigitByte IsIdByte digit_or_id t u r s (from_const t bits_a ea) (whole_id u width_b wb).begins same)
    spec-once t u r s ps qs (IsSpec.const _ _ bits_a ea fa) (IsSpec.one _ _ id_b low_b eb fb) hp hq p q same =
        absurd (clash IsDigitByte IsIdByte digit_or_id t u r s (from_const t bits_a ea) (from_slice u id_b (32 ∷ 91 ∷ (numeral low_b ++ (93 ∷ []))) eb (slice_id id_b low_b 1 (slice_of id_b low_b 1 qs fb hq))) same)
    spec-once t u r s ps qs (IsSpec.const _ _ bits_a ea fa) (IsSpec.range _ _ id_b high_b low_b lb eb fb) hp hq p q same =
        absurd (clash IsDigitByte IsIdByte digit_or_id t u r s (from_const t bits_a ea) (from_slice u id_b (32 ∷ 91 ∷ (numeral high_b ++ (58 ∷ (numeral low_b ++ (93 ∷ []))))) eb (slice_id id_b low_b (high_b - low_b + 1) (slice_of id_b low_b (high_b - low_b + 1) qs fb hq))) same)
    spec-once t u r s ps qs (IsSpec.const _ _ bits_a ea fa) (IsSpec.braces _ inner_b _ sb eb) hp hq p q same =
        absurd (clash IsDigitByte (λ x. x ≡ 123) digit_or_brace t u r s (from_const t bits_a ea) (from_braces u (inner_b ++ (32 ∷ 125 ∷ [])) eb) same)
    spec-once t u r s ps qs (IsSpec.whole _ _ width_a wa fa) (IsSpec.const _ _ bits_b eb fb) hp hq p q same =
        absurd (clash IsIdByte IsDigitByte (turned digit_or_id) t u r s (whole_id t width_a wa).begins (from_const u bits_b eb) same)
    spec-once t u r s ps qs (IsSpec.whole _ _ width_a wa fa) (IsSpec.whole _ _ width_b wb fb) hp hq p q same =
        whole-whole t u r s ps qs width_a width_b wa wb fa fb hp hq p q same
    spec-once t u r s ps qs (IsSpec.whole _ _ width_a wa fa) (IsSpec.one _ _ id_b low_b eb fb) hp hq p q same =
        absurd (whole-indexed t u r s width_a id_b (numeral low_b ++ (93 ∷ [])) wa (slice_id id_b low_b 1 (slice_of id_b low_b 1 qs fb hq)).word eb p same)
    spec-once t u r s ps qs (IsSpec.whole _ _ width_a wa fa) (IsSpec.range _ _ id_b high_b low_b lb eb fb) hp hq p q same =
        absurd (whole-indexed t u r s width_a id_b (numeral high_b ++ (58 ∷ (numeral low_b ++ (93 ∷ [])))) wa (slice_id id_b low_b (high_b - low_b + 1) (slice_of id_b low_b (high_b - low_b + 1) qs fb hq)).word eb p same)
    spec-once t u r s ps qs (IsSpec.whole _ _ width_a wa fa) (IsSpec.braces _ inner_b _ sb eb) hp hq p q same =
        absurd (clash IsIdByte (λ x. x ≡ 123) id_or_brace t u r s (whole_id t width_a wa).begins (from_braces u (inner_b ++ (32 ∷ 125 ∷ [])) eb) same)
    spec-once t u r s ps qs (IsSpec.one _ _ id_a low_a ea fa) (IsSpec.const _ _ bits_b eb fb) hp hq p q same =
        absurd (clash IsIdByte IsDigitByte (turned digit_or_id) t u r s (from_slice t id_a (32 ∷ 91 ∷ (numeral low_a ++ (93 ∷ []))) ea (slice_id id_a low_a 1 (slice_of id_a low_a 1 ps fa hp))) (from_const u bits_b eb) same)
    spec-once t u r s ps qs (IsSpec.one _ _ id_a low_a ea fa) (IsSpec.whole _ _ width_b wb fb) hp hq p q same =
        absurd (whole-indexed u t s r width_b id_a (numeral low_a ++ (93 ∷ [])) wb (slice_id id_a low_a 1 (slice_of id_a low_a 1 ps fa hp)).word ea q (sym same))
    spec-once t u r s ps qs (IsSpec.one _ _ id_a low_a ea fa) (IsSpec.one _ _ id_b low_b eb fb) hp hq p q same =
        one-one t u r s ps qs id_a id_b low_a low_b ea eb fa fb hp hq p q same
    spec-once t u r s ps qs (IsSpec.one _ _ id_a low_a ea fa) (IsSpec.range _ _ id_b high_b low_b lb eb fb) hp hq p q same =
        absurd (one-range t u r s id_a id_b low_a high_b low_b (slice_id id_a low_a 1 (slice_of id_a low_a 1 ps fa hp)).word (slice_id id_b low_b (high_b - low_b + 1) (slice_of id_b low_b (high_b - low_b + 1) qs fb hq)).word ea eb same)
    spec-once t u r s ps qs (IsSpec.one _ _ id_a low_a ea fa) (IsSpec.braces _ inner_b _ sb eb) hp hq p q same =
        absurd (clash IsIdByte (λ x. x ≡ 123) id_or_brace t u r s (from_slice t id_a (32 ∷ 91 ∷ (numeral low_a ++ (93 ∷ []))) ea (slice_id id_a low_a 1 (slice_of id_a low_a 1 ps fa hp))) (from_braces u (inner_b ++ (32 ∷ 125 ∷ [])) eb) same)
    spec-once t u r s ps qs (IsSpec.range _ _ id_a high_a low_a la ea fa) (IsSpec.const _ _ bits_b eb fb) hp hq p q same =
        absurd (clash IsIdByte IsDigitByte (turned digit_or_id) t u r s (from_slice t id_a (32 ∷ 91 ∷ (numeral high_a ++ (58 ∷ (numeral low_a ++ (93 ∷ []))))) ea (slice_id id_a low_a (high_a - low_a + 1) (slice_of id_a low_a (high_a - low_a + 1) ps fa hp))) (from_const u bits_b eb) same)
    spec-once t u r s ps qs (IsSpec.range _ _ id_a high_a low_a la ea fa) (IsSpec.whole _ _ width_b wb fb) hp hq p q same =
        absurd (whole-indexed u t s r width_b id_a (numeral high_a ++ (58 ∷ (numeral low_a ++ (93 ∷ [])))) wb (slice_id id_a low_a (high_a - low_a + 1) (slice_of id_a low_a (high_a - low_a + 1) ps fa hp)).word ea q (sym same))
    spec-once t u r s ps qs (IsSpec.range _ _ id_a high_a low_a la ea fa) (IsSpec.one _ _ id_b low_b eb fb) hp hq p q same =
        absurd (one-range u t s r id_b id_a low_b high_a low_a (slice_id id_b low_b 1 (slice_of id_b low_b 1 qs fb hq)).word (slice_id id_a low_a (high_a - low_a + 1) (slice_of id_a low_a (high_a - low_a + 1) ps fa hp)).word eb ea (sym same))
    spec-once t u r s ps qs (IsSpec.range _ _ id_a high_a low_a la ea fa) (IsSpec.range _ _ id_b high_b low_b lb eb fb) hp hq p q same =
        range-range t u r s ps qs id_a id_b high_a low_a high_b low_b la lb ea eb fa fb hp hq p q same
    spec-once t u r s ps qs (IsSpec.range _ _ id_a high_a low_a la ea fa) (IsSpec.braces _ inner_b _ sb eb) hp hq p q same =
        absurd (clash IsIdByte (λ x. x ≡ 123) id_or_brace t u r s (from_slice t id_a (32 ∷ 91 ∷ (numeral high_a ++ (58 ∷ (numeral low_a ++ (93 ∷ []))))) ea (slice_id id_a low_a (high_a - low_a + 1) (slice_of id_a low_a (high_a - low_a + 1) ps fa hp))) (from_braces u (inner_b ++ (32 ∷ 125 ∷ [])) eb) same)
    spec-once t u r s ps qs (IsSpec.braces _ inner_a _ sa ea) (IsSpec.const _ _ bits_b eb fb) hp hq p q same =
        absurd (clash (λ x. x ≡ 123) IsDigitByte (turned digit_or_brace) t u r s (from_braces t (inner_a ++ (32 ∷ 125 ∷ [])) ea) (from_const u bits_b eb) same)
    spec-once t u r s ps qs (IsSpec.braces _ inner_a _ sa ea) (IsSpec.whole _ _ width_b wb fb) hp hq p q same =
        absurd (clash (λ x. x ≡ 123) IsIdByte (turned id_or_brace) t u r s (from_braces t (inner_a ++ (32 ∷ 125 ∷ [])) ea) (whole_id u width_b wb).begins same)
    spec-once t u r s ps qs (IsSpec.braces _ inner_a _ sa ea) (IsSpec.one _ _ id_b low_b eb fb) hp hq p q same =
        absurd (clash (λ x. x ≡ 123) IsIdByte (turned id_or_brace) t u r s (from_braces t (inner_a ++ (32 ∷ 125 ∷ [])) ea) (from_slice u id_b (32 ∷ 91 ∷ (numeral low_b ++ (93 ∷ []))) eb (slice_id id_b low_b 1 (slice_of id_b low_b 1 qs fb hq))) same)
    spec-once t u r s ps qs (IsSpec.braces _ inner_a _ sa ea) (IsSpec.range _ _ id_b high_b low_b lb eb fb) hp hq p q same =
        absurd (clash (λ x. x ≡ 123) IsIdByte (turned id_or_brace) t u r s (from_braces t (inner_a ++ (32 ∷ 125 ∷ [])) ea) (from_slice u id_b (32 ∷ 91 ∷ (numeral high_b ++ (58 ∷ (numeral low_b ++ (93 ∷ []))))) eb (slice_id id_b low_b (high_b - low_b + 1) (slice_of id_b low_b (high_b - low_b + 1) qs fb hq))) same)
    spec-once t u r s ps qs (IsSpec.braces _ inner_a _ sa ea) (IsSpec.braces _ inner_b _ sb eb) hp hq p q same =
        let c = specs-once inner_a inner_b r s ps qs sa sb hp hq (between inner_a inner_b r s t u ea eb same) in (c.0, c.1)

    specs-once : (t u r s : List ℕ) (ps qs : List SigPart) → AreSpecs wires t ps → AreSpecs wires u qs → SpecFits wires ps → SpecFits wires qs → t ++ (32 ∷ 125 ∷ r) ≡ u ++ (32 ∷ 125 ∷ s) → (ps ≡ qs) × (r ≡ s)
    specs-once t u r s ps qs (AreSpecs.none _ _ ea fa) (AreSpecs.none _ _ eb fb) hp hq same =
        (fa ∙ sym fb, append-cancel (32 ∷ 125 ∷ []) r s (sym (ap (λ x. x ++ (32 ∷ 125 ∷ r)) ea) ∙ same ∙ ap (λ x. x ++ (32 ∷ 125 ∷ s)) eb))
    specs-once t u r s ps qs (AreSpecs.none _ _ ea fa) (AreSpecs.more _ first_b others_b _ qs_b rs_b gb gsb eb fb) hp hq same =
        absurd (last_or_more t u first_b others_b r s ea eb (spec-begins first_b qs_b gb (fit_first qs qs_b rs_b fb hq)) same)
    specs-once t u r s ps qs (AreSpecs.more _ first_a others_a _ qs_a rs_a ga gsa ea fa) (AreSpecs.none _ _ eb fb) hp hq same =
        absurd (last_or_more u t first_a others_a s r eb ea (spec-begins first_a qs_a ga (fit_first ps qs_a rs_a fa hp)) (sym same))
    specs-once t u r s ps qs (AreSpecs.more _ first_a others_a _ qs_a rs_a ga gsa ea fa) (AreSpecs.more _ first_b others_b _ qs_b rs_b gb gsb eb fb) hp hq same =
        let c = spec-once first_a first_b (others_a ++ (32 ∷ 125 ∷ r)) (others_b ++ (32 ∷ 125 ∷ s)) qs_a qs_b ga gb (fit_first ps qs_a rs_a fa hp) (fit_first qs qs_b rs_b fb hq)
        (stops-specs others_a rs_a r gsa (fit_rest ps qs_a rs_a fa hp)) (stops-specs others_b rs_b s gsb (fit_rest qs qs_b rs_b fb hq)) (one_more t u first_a others_a first_b others_b r s ea eb same) in
        let d = specs-once others_a others_b r s rs_a rs_b gsa gsb (fit_rest ps qs_a rs_a fa hp) (fit_rest qs qs_b rs_b fb hq) c.1 in
        (fa ∙ (λ i. c.0 i ++ d.0 i) ∙ sym fb, d.1)
