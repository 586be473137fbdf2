-- The sources that a write puts in the place of others.
use Rattle.std.specs.Prelude.{◌≡◌, refl, ℕ, zero, suc, ◌+◌, ◌-◌, ◌<◌, ◌≤◌, Bool, true, false, not, cond, if◌then◌else◌, List, [], ◌∷◌, ◌++◌, All, length, take, drop, slice_get, slice_index_or, slice_set, ℤ, Some, None, Contains}
use Rattle.std.proofs.Common.{sym, ◌∙◌, ap, arith, subst, ⊎_elim, length-take, length-drop}
use Rattle.std.proofs.lemmas.Bool.{false≢true}
use Rattle.std.proofs.lemmas.List.{length-set, get_or-set_same, get_or-set_other}
use Rattle.std.proofs.lemmas.Option.{slice_get_within, get_or_from_slice_get, slice_get-get_or}
use Rattle.std.proofs.lemmas.List.Elements.{Contains-append_left, Contains-append_right, Contains-append_cases, All-take, All-drop, All-weaker}
use Rattle.amh_bits.specs.Patterns.{int_bit}
use Rattle.amh_bits.proofs.BitsOf.{bit_pattern}
use Rattle.shape_rules.specs.Forms.{Form}
use Rattle.shape_rules.specs.Operators.{is_zero}
use Rattle.design_ir.specs.declared.ids.ExprId.{ExprId}
use Rattle.design_ir.specs.Pools.{Pooled}
use Rattle.design_ir.specs.PoolRules.{IsPool}
use Rattle.design_ir.specs.Values.{form, num}
use Rattle.design_ir.specs.Targets.{Bit}
use Rattle.design_ir.specs.Needed.{needed, needed_whole, extended}
use Rattle.design_ir.specs.Circuits.{FitsSignals}
use Rattle.design_ir.proofs.NumbersFit.{element}
use Rattle.design_ir.proofs.Elements.{get_drop}
use Rattle.flat_design.specs.declared.sources.Source.{Source}
use Rattle.flat_design.specs.declared.writes.Write.{Write}
use Rattle.flat_design.specs.Growing.{IsMore, IsReadable}
use Rattle.flat_design.specs.Activity.{IsActive, IsActiveBit}
use Rattle.flat_design.specs.Sources.{IsSource, source_bit, source_needs, IsChosen, AreChosen, IsExtension, AreExtensions}
use Rattle.flat_design.specs.Written.{IsGuarded, AreGuarded, IsWritten, IsWrittenSlot, AreWrittenSlots, IsSlotOf}
use Rattle.flat_design.specs.Replaced.{replaced}
use Rattle.flat_design.proofs.Growing.{form_more, num_more, needed_more, needed_whole_more, source_more, source_bit_more, source_needs_more, fits_more}
use Rattle.flat_design.proofs.SlotLists.{replaced_length, replaced_below, replaced_at, replaced_above}

pub all_get : {A : Type 0} (P : A → Type 0) (xs : List A) (i : ℕ) (x : A) → All P xs → slice_get xs i ≡ Some x → P x
all_get P xs i x h e = subst P (get_or_from_slice_get xs i x x e) (h i x (slice_get_within xs i x e))

pub all_from_get : {A : Type 0} (P : A → Type 0) (xs : List A) → ((i : ℕ) (x : A) → slice_get xs i ≡ Some x → P x) → All P xs
all_from_get P xs h i d lt = h i (slice_index_or xs i d) (slice_get-get_or xs i d lt)

pub sources_more : (q r : Pooled) → IsPool q → IsMore q r → (xs : List Source) → All (IsSource q) xs → All (IsSource r) xs
sources_more q r rules more xs h = All-weaker (IsSource q) (IsSource r) (source_more q r rules more) xs h

pub extensions_sources : (p : Pooled) (value : ExprId) (from width : ℕ) (xs : List Source) → AreExtensions p value from width xs → All (IsSource p) xs
extensions_sources p value from width xs h = all_from_get (IsSource p) xs (λ i x e. (h.each i x e).source)

-- ---- a guard

chosen_length : (p : Pooled) (guard : ExprId) (news olds xs : List Source) → AreChosen p guard news olds xs → length xs ≡ length olds
chosen_length p guard [] [] [] h = refl
chosen_length p guard [] [] (x ∷ xs) h = absurd h
chosen_length p guard [] (o ∷ olds) xs h = absurd h
chosen_length p guard (n ∷ news) [] xs h = absurd h
chosen_length p guard (n ∷ news) (o ∷ olds) [] h = absurd h
chosen_length p guard (n ∷ news) (o ∷ olds) (x ∷ xs) h = ap suc (chosen_length p guard news olds xs h.1)

chosen_at : (p : Pooled) (guard : ExprId) (news olds xs : List Source) (i : ℕ) (n o x : Source) → AreChosen p guard news olds xs → slice_get news i ≡ Some n → slice_get olds i ≡ Some o → slice_get xs i ≡ Some x → IsChosen p guard n o x
chosen_at p guard [] olds xs i n o x h e f g = cc
chosen_at p guard (n' ∷ news) [] xs i n o x h e f g = cc
chosen_at p guard (n' ∷ news) (o' ∷ olds) [] i n o x h e f g = cc
chosen_at p guard (n' ∷ news) (o' ∷ olds) (x' ∷ xs) zero n o x h e f g =
    let a : n' ≡ n = cc in
    let b : o' ≡ o = cc in
    let c : x' ≡ x = cc in
    subst (λ y. IsChosen p guard n o y) c (subst (λ y. IsChosen p guard n y x') b (subst (λ y. IsChosen p guard y o' x') a h.0))
chosen_at p guard (n' ∷ news) (o' ∷ olds) (x' ∷ xs) (suc i) n o x h e f g = chosen_at p guard news olds xs i n o x h.1 e f g

turned : (z t : Bool) (a b : ℕ) → not z ≡ t → (if z then a else b) ≡ (if t then b else a)
turned true t a b e = ap (λ s. cond s b a) e
turned false t a b e = ap (λ s. cond s b a) e

module _ (q r : Pooled) (rules : IsPool q) (more : IsMore q r) (test : List ℤ → Bool) (bits : List Bit) where
  guarded_source : (guard : ExprId) (new old x : Source) → IsActiveBit q test bits guard → IsSource q new → IsSource q old → IsChosen r guard new old x → IsGuarded q r test bits new old x
  guarded_source guard new old x act n o h = record {
    source = h.source;
    bit = λ env fit.
        h.bit env
        ∙ ap (λ z. if is_zero z then source_bit r env old else source_bit r env new) (num_more q r rules more env guard.0 act.readable.there)
        ∙ turned (is_zero (num q env guard.0)) (test env) (source_bit r env old) (source_bit r env new) (act.value env fit)
        ∙ ap (λ b. if test env then b else source_bit r env old) (source_bit_more q r rules more env new n)
        ∙ ap (λ b. if test env then source_bit q env new else b) (source_bit_more q r rules more env old o);
    needs = λ c has.
        ⊎_elim
        (λ left.
        ⊎_elim
        (λ guards. Contains-append_left (bits ++ source_needs q new) (source_needs q old) c (Contains-append_left bits (source_needs q new) c (act.needs c (rw (needed_whole_more q r rules more guard act.readable.there) at guards))))
        (λ news. Contains-append_left (bits ++ source_needs q new) (source_needs q old) c (Contains-append_right bits (source_needs q new) c (rw (source_needs_more q r rules more new n) at news)))
        (Contains-append_cases (needed_whole r guard) (source_needs r new) c left))
        (λ olds. Contains-append_right (bits ++ source_needs q new) (source_needs q old) c (rw (source_needs_more q r rules more old o) at olds))
        (Contains-append_cases (needed_whole r guard ++ source_needs r new) (source_needs r old) c (h.needs c has));
  }

  pub guarded_sources : (guard : ExprId) (news olds xs : List Source) → IsActive q test bits (Some guard) → All (IsSource q) news → All (IsSource q) olds → AreChosen r guard news olds xs → AreGuarded q r test bits news olds xs
  guarded_sources guard news olds xs act n o h = record {
    size = chosen_length r guard news olds xs h;
    each = λ i new old x e f g. guarded_source guard new old x act (all_get (IsSource q) news i new n e) (all_get (IsSource q) olds i old o f) (chosen_at r guard news olds xs i new old x h e f g);
  }

always : (t : Bool) (a b : ℕ) → t ≡ true → a ≡ (if t then a else b)
always true a b e = refl
always false a b e = absurd (false≢true e)

-- where nothing guards, the new sources stand alone
pub unguarded_sources : (q : Pooled) (test : List ℤ → Bool) (bits : List Bit) (news olds : List Source) → IsActive q test bits None → All (IsSource q) news → length news ≡ length olds → AreGuarded q q test bits news olds news
unguarded_sources q test bits news olds act n size = record {
  size = size;
  each = λ i new old x e f g.
      let same : new ≡ x = cc in
      subst (λ y. IsGuarded q q test bits new old y) same (record {
        source = all_get (IsSource q) news i new n e;
        bit = λ env fit. always (test env) (source_bit q env new) (source_bit q env old) (act env fit);
        needs = λ c has. Contains-append_left (bits ++ source_needs q new) (source_needs q old) c (Contains-append_right bits (source_needs q new) c has);
      });
}

-- ---- a write

-- the part of a slot that a write replaces
get_taken : {A : Type 0} (n : ℕ) (xs : List A) (i : ℕ) → i < n → slice_get (take n xs) i ≡ slice_get xs i
get_taken zero xs i h = absurd (omega (arith, h))
get_taken (suc n) [] i h = refl
get_taken (suc n) (x ∷ xs) zero h = refl
get_taken (suc n) (x ∷ xs) (suc i) h = get_taken n xs i (omega (arith, h))

abbrev pub part : List Source → ℕ → ℕ → List Source
part slot low width = take ((low + width) - low) (drop low slot)

pub part_get : (slot : List Source) (low width i : ℕ) → i < width → slice_get (part slot low width) i ≡ slice_get slot (low + i)
part_get slot low width i lt = get_taken ((low + width) - low) (drop low slot) i (omega (arith, lt)) ∙ get_drop low slot i

pub part_length : (slot : List Source) (low width : ℕ) → low + width ≤ length slot → length (part slot low width) ≡ width
part_length slot low width h = simp (length-take, length-drop) (omega arith)

pub part_sources : (q r : Pooled) (slot : List Source) (low width : ℕ) → IsPool q → IsMore q r → All (IsSource q) slot → All (IsSource r) (part slot low width)
part_sources q r slot low width rules more h =
    All-take (IsSource r) ((low + width) - low) (drop low slot) (All-drop (IsSource r) low slot (sources_more q r rules more slot h))

-- a slot before an extension of the value (q), behind it (q1) and behind the guard (r)
module _ (q q1 r : Pooled) (rules : IsPool q) (first : IsMore q q1) (test : List ℤ → Bool) (bits : List Bit) (value : ExprId) (readable : IsReadable q value) where
  written_source : (k : ℕ) (new old x : Source) (from i : ℕ) → k ≡ from + i → IsSource q old → IsExtension q1 value from i new → IsGuarded q1 r test bits new old x → IsWritten q r test bits value k old x
  written_source k new old x from i place o ext h =
      let needs_value : extended (form q1 value.0) (needed q1 value.0) (from + i) ≡ extended (form q value.0) (needed q value.0) k =
      ap (λ (f : Form). extended f (needed q1 value.0) (from + i)) (form_more q q1 rules first value.0 readable.there)
      ∙ ap (λ (f : ℕ → List Bit). extended (form q value.0) f (from + i)) (needed_more q q1 rules first value.0 readable.there)
      ∙ ap (extended (form q value.0) (needed q value.0)) (sym place) in
      record {
        source = h.source;
        bit = λ env fit.
            let fits : FitsSignals q1 env = fits_more q q1 rules first env fit in
            h.bit env fits
            ∙ ap (λ b. if test env then b else source_bit q1 env old)
            (ext.bit env fits ∙ bit_pattern (num q1 env value.0) (from + suc i) (from + i) (omega arith) ∙ ap (λ z. int_bit z (from + i)) (num_more q q1 rules first env value.0 readable.there) ∙ ap (int_bit (num q env value.0)) (sym place))
            ∙ ap (λ b. if test env then int_bit (num q env value.0) k else b) (source_bit_more q q1 rules first env old o);
        needs = λ c has.
            let mine : List Bit = extended (form q value.0) (needed q value.0) k in
            ⊎_elim
            (λ left.
            ⊎_elim
            (λ guards. Contains-append_left (bits ++ mine) (source_needs q old) c (Contains-append_left bits mine c guards))
            (λ news. Contains-append_left (bits ++ mine) (source_needs q old) c (Contains-append_right bits mine c (subst (λ xs. Contains xs c) needs_value (ext.needs c news))))
            (Contains-append_cases bits (source_needs q1 new) c left))
            (λ olds. Contains-append_right (bits ++ mine) (source_needs q old) c (rw (source_needs_more q q1 rules first old o) at olds))
            (Contains-append_cases (bits ++ source_needs q1 new) (source_needs q1 old) c (h.needs c has));
      }

  -- the slot with the guarded sources in the place of the old
  pub written_slot_is : (w : Write) (slot news xs : List Source) → All (IsSource q) slot → w.low + w.width ≤ length slot
      → AreExtensions q1 value w.from w.width news → AreGuarded q1 r test bits news (part slot w.low w.width) xs → IsWrittenSlot q r test bits value w slot (replaced slot w.low xs)
  written_slot_is w slot news xs sources inside ext h =
      let size : length xs ≡ w.width = h.size ∙ part_length slot w.low w.width inside in
      let room : w.low + length xs ≤ length slot = omega (arith, inside, size) in
      record {
        size = replaced_length slot w.low xs room;
        below = λ i lt. replaced_below slot w.low xs i room lt;
        above = λ i ge. replaced_above slot w.low xs i room (omega (arith, ge, size));
        written = λ i x y lt e f.
            let new = element news i (omega (arith, lt, ext.size)) in
            written_source (w.from + i) new.0 x y w.from i refl (all_get (IsSource q) slot (w.low + i) x sources e) (ext.each i new.0 new.1)
            (h.each i new.0 x y new.1 (part_get slot w.low w.width i lt ∙ e) (sym (replaced_at slot w.low xs i room (omega (arith, lt, size))) ∙ f));
      }

-- ---- before the pool grew by a guard

module _ (q q1 r : Pooled) (rules : IsPool q) (more : IsMore q q1) (test : List ℤ → Bool) (bits : List Bit) (value : ExprId) (readable : IsReadable q value) where
  written_before : (k : ℕ) (old x : Source) → IsSource q old → IsWritten q1 r test bits value k old x → IsWritten q r test bits value k old x
  written_before k old x o h =
      let same : extended (form q1 value.0) (needed q1 value.0) k ≡ extended (form q value.0) (needed q value.0) k =
      ap (λ (f : Form). extended f (needed q1 value.0) k) (form_more q q1 rules more value.0 readable.there) ∙ ap (λ (f : ℕ → List Bit). extended (form q value.0) f k) (needed_more q q1 rules more value.0 readable.there) in
      record {
        source = h.source;
        bit = λ env fit.
            h.bit env (fits_more q q1 rules more env fit)
            ∙ ap (λ n. if test env then int_bit n k else source_bit q1 env old) (num_more q q1 rules more env value.0 readable.there)
            ∙ ap (λ b. if test env then int_bit (num q env value.0) k else b) (source_bit_more q q1 rules more env old o);
        needs = λ c has. subst (λ xs. Contains xs c) (λ i. bits ++ same i ++ source_needs_more q q1 rules more old o i) (h.needs c has);
      }

  slot_before : (w : Write) (old new : List Source) → All (IsSource q) old → IsWrittenSlot q1 r test bits value w old new → IsWrittenSlot q r test bits value w old new
  slot_before w old new sources h = record {
    size = h.size;
    below = h.below;
    above = h.above;
    written = λ i x y lt e f. written_before (w.from + i) x y (all_get (IsSource q) old (w.low + i) x sources e) (h.written i x y lt e f);
  }

  pub slots_before : (w : Write) (slots : List (List Source)) (new : List Source) → IsSlotOf q w slots → IsWrittenSlot q1 r test bits value w (slice_index_or slots w.sig.0 []) new → AreWrittenSlots q r test bits value w slots (slice_set slots w.sig.0 new)
  slots_before w slots new is h = record {
    size = length-set slots w.sig.0 new;
    others = λ s apart. get_or-set_other slots w.sig.0 s new [] apart;
    own = subst (IsWrittenSlot q r test bits value w (slice_index_or slots w.sig.0 [])) (sym (get_or-set_same slots w.sig.0 new [] is.there)) (slot_before w (slice_index_or slots w.sig.0 []) new is.sources h);
  }
