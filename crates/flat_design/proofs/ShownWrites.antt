-- Slots that stand for what a process has left stand for it behind one more write.
use Rattle.std.specs.Prelude.{◌≡◌, ◌≢◌, refl, ℕ, ◌+◌, ◌-◌, ◌<◌, ◌≤◌, ◌⊎◌, Bool, true, false, if◌then◌else◌, List, [], ◌++◌, length, slice_get, slice_index_or, ℤ, Some, Contains}
use Rattle.std.proofs.Common.{sym, ◌∙◌, ap, arith, subst, ⊎_elim, inl, inr}
use Rattle.std.proofs.lemmas.Bool.{cases_lt, cases_eq}
use Rattle.std.proofs.lemmas.Option.{slice_get_within}
use Rattle.std.proofs.lemmas.List.Elements.{Contains-append_cases}
use Rattle.amh_bits.specs.Patterns.{pattern, nat_bit, int_bit}
use Rattle.amh_bits.proofs.BitsOf.{bit_pattern}
use Rattle.design_ir.specs.declared.ids.ExprId.{ExprId}
use Rattle.design_ir.specs.Pools.{Pooled}
use Rattle.design_ir.specs.PoolRules.{IsPool}
use Rattle.design_ir.specs.Values.{form, num, signal_form}
use Rattle.design_ir.specs.Targets.{Bit}
use Rattle.design_ir.specs.Needed.{needed, extended}
use Rattle.design_ir.specs.Put.{put_bits}
use Rattle.design_ir.specs.Circuits.{at, is_among, FitsSignals}
use Rattle.design_ir.proofs.NumbersFit.{element}
use Rattle.flat_design.specs.declared.sources.Source.{Source}
use Rattle.flat_design.specs.declared.writes.Write.{Write}
use Rattle.flat_design.specs.Growing.{IsMore}
use Rattle.flat_design.specs.Sources.{IsSource, source_bit, source_needs}
use Rattle.flat_design.specs.Writes.{written_bits}
use Rattle.flat_design.specs.Shown.{SoFar, IsSlot, AreSlots, SomeNeeds, Starts}
use Rattle.flat_design.specs.Written.{IsWritten, IsWrittenSlot, AreWrittenSlots}
use Rattle.flat_design.proofs.Growing.{more_trans, source_more, source_bit_more, source_needs_more, fits_more}
use Rattle.flat_design.proofs.PlacedBits.{places_kept, places_other, places_length, places_taken}
use Rattle.flat_design.proofs.WrittenSources.{all_get, all_from_get, sources_more}

-- the bits of v from the write's place on, where the test holds
abbrev pub put_where : Pooled → Bool → Write → ℕ → List ℤ → List ℤ
put_where p holds w v cur = if holds then put_bits p (written_bits w) v w.from cur else cur

abbrev pub behind_write : SoFar → (List ℤ → Bool) → Write → (List ℤ → ℕ) → SoFar
behind_write t test w v = record t { behind = λ env cur. put_where t.pool (test env) w (v env) (t.behind env cur) }

-- ---- what a write leaves

module _ (p : Pooled) (w : Write) (v : ℕ) (cur : List ℤ) where
  where_length : (holds : Bool) → length (put_where p holds w v cur) ≡ length cur
  where_length true = places_length p w.sig.0 w.low w.width v w.from cur
  where_length false = refl

  where_other : (holds : Bool) (s : ℕ) → s ≢ w.sig.0 → at (put_where p holds w v cur) s ≡ at cur s
  where_other true s apart = places_other p w.sig.0 w.low w.width v w.from s cur apart
  where_other false s apart = refl

  module _ (inside : w.low + w.width ≤ (signal_form p.signals w.sig.0).width) (long : length cur ≡ length p.signals) where
    where_kept : (holds : Bool) (i : ℕ) → i < (signal_form p.signals w.sig.0).width → ((j : ℕ) → j < w.width → i ≢ w.low + j) → int_bit (at (put_where p holds w v cur) w.sig.0) i ≡ int_bit (at cur w.sig.0) i
    where_kept true i here apart = places_kept p w.sig.0 w.low w.width v w.from i cur inside long here apart
    where_kept false i here apart = refl

    where_taken : (holds : Bool) (j b : ℕ) → j < w.width → nat_bit v (w.from + j) ≡ b → (if holds then b else int_bit (at cur w.sig.0) (w.low + j)) ≡ int_bit (at (put_where p holds w v cur) w.sig.0) (w.low + j)
    where_taken true j b here same = sym (places_taken p w.sig.0 w.low w.width v w.from j (w.low + j) (w.from + j) cur here refl refl inside long ∙ same)
    where_taken false j b here same = refl

-- a place before or behind the write, or in it
record IsOutside (w : Write) (old new : List Source) (i : ℕ) : Type 0 where
  same : slice_get new i ≡ slice_get old i
  apart : (j : ℕ) → j < w.width → i ≢ w.low + j

IsInIt : Write → ℕ → Type 0
IsInIt w i = (j : ℕ) × (j < w.width) × (i ≡ w.low + j)

place_of : (q r : Pooled) (test : List ℤ → Bool) (bits : List Bit) (value : ExprId) (w : Write) (old new : List Source) (i : ℕ) → IsWrittenSlot q r test bits value w old new → IsOutside w old new i ⊎ IsInIt w i
unfolding IsInIt
place_of q r test bits value w old new i h =
    ⊎_elim
    (λ (lt : i < w.low). inl (record { same = h.below i lt; apart = λ j l e. omega (arith, e, lt) }))
    (λ (ge : w.low ≤ i).
    ⊎_elim
    (λ (inside : i < w.low + w.width). inr (i - w.low, omega (arith, inside, ge), omega (arith, ge)))
    (λ (over : w.low + w.width ≤ i). inl (record { same = h.above i over; apart = λ j l e. omega (arith, e, l, over) }))
    (cases_lt i (w.low + w.width)))
    (cases_lt i w.low)

-- what a write needs besides what was there, its assignments need
pub record NeedsItsOwn (t : SoFar) (q : Pooled) (bits : List Bit) (value : ExprId) (w : Write) : Type 0 where
  pub needs : t.clocked ≡ false → (i : ℕ) (c : Bit) → i < w.width → Contains (bits ++ extended (form q value.0) (needed q value.0) (w.from + i)) c → SomeNeeds t.pool t.done (record { sig = w.sig.0; index = w.low + i }) c

module _ (t : SoFar) (q r : Pooled) (base : IsPool t.pool) (rules : IsPool q) (more : IsMore q r) (test : List ℤ → Bool) (bits : List Bit) (value : ExprId) (w : Write) (slots new : List (List Source)) (shown : AreSlots t q slots) (written : AreWrittenSlots q r test bits value w slots new)
    (v : List ℤ → ℕ) (digits : (env : List ℤ) (i : ℕ) → FitsSignals t.pool env → i < w.width → nat_bit (v env) (w.from + i) ≡ int_bit (num q env value.0) (w.from + i))
    (inside : w.low + w.width ≤ (signal_form t.pool.signals w.sig.0).width) (among : is_among t.driven w.sig.0 ≡ true) (own : NeedsItsOwn t q bits value w) where
  mine : IsSlot t q w.sig.0 (slice_index_or slots w.sig.0 [])
  mine = shown.each w.sig.0 among

  -- the bit that a slot stands for, as one of the signal's number
  was : (env cur : List ℤ) (i : ℕ) (x : Source) → FitsSignals t.pool env → FitsSignals t.pool cur → length cur ≡ length t.pool.signals → Starts t.pool t.clocked t.driven env cur → slice_get (slice_index_or slots w.sig.0 []) i ≡ Some x
      → source_bit q env x ≡ int_bit (at (t.behind env cur) w.sig.0) i
  was env cur i x fit fits long starts e =
      let here : i < (signal_form t.pool.signals w.sig.0).width = omega (arith, slice_get_within (slice_index_or slots w.sig.0 []) i x e, mine.size) in
      mine.bits env cur i x fit fits long starts e ∙ bit_pattern (at (t.behind env cur) w.sig.0) (signal_form t.pool.signals w.sig.0).width i here

  old_at : (i : ℕ) (y : Source) → slice_get (slice_index_or new w.sig.0 []) i ≡ Some y → (x : Source) × (slice_get (slice_index_or slots w.sig.0 []) i ≡ Some x)
  old_at i y e = element (slice_index_or slots w.sig.0 []) i (omega (arith, slice_get_within (slice_index_or new w.sig.0 []) i y e, written.own.size))

  of_write : (i j : ℕ) (x y : Source) → j < w.width → i ≡ w.low + j → slice_get (slice_index_or slots w.sig.0 []) i ≡ Some x → slice_get (slice_index_or new w.sig.0 []) i ≡ Some y → IsWritten q r test bits value (w.from + j) x y
  of_write i j x y h place e f = written.own.written j x y h (ap (slice_get (slice_index_or slots w.sig.0 [])) (sym place) ∙ e) (ap (slice_get (slice_index_or new w.sig.0 [])) (sym place) ∙ f)

  source_is : (i : ℕ) (y : Source) → slice_get (slice_index_or new w.sig.0 []) i ≡ Some y → IsSource r y
  unfolding IsInIt
  source_is i y e =
      let old : List Source = slice_index_or slots w.sig.0 [] in
      ⊎_elim
      (λ (out : IsOutside w old (slice_index_or new w.sig.0 []) i). source_more q r rules more y (all_get (IsSource q) old i y mine.sources (sym out.same ∙ e)))
      (λ (in' : IsInIt w i). let x = old_at i y e in (of_write i in'.0 x.0 y in'.1 in'.2 x.1 e).source)
      (place_of q r test bits value w old (slice_index_or new w.sig.0 []) i written.own)

  bit_is : (env cur : List ℤ) (i : ℕ) (y : Source) → FitsSignals t.pool env → FitsSignals t.pool cur → length cur ≡ length t.pool.signals → Starts t.pool t.clocked t.driven env cur → slice_get (slice_index_or new w.sig.0 []) i ≡ Some y
      → source_bit r env y ≡ int_bit (at (put_where t.pool (test env) w (v env) (t.behind env cur)) w.sig.0) i
  unfolding IsInIt
  bit_is env cur i y fit fits long starts e =
      let s : ℕ = w.sig.0 in
      let old : List Source = slice_index_or slots s [] in
      let before : List ℤ = t.behind env cur in
      let all : length before ≡ length t.pool.signals = shown.long env cur fit ∙ long in
      let here : i < (signal_form t.pool.signals s).width = omega (arith, slice_get_within (slice_index_or new s []) i y e, written.own.size, mine.size) in
      ⊎_elim
      (λ (out : IsOutside w old (slice_index_or new s []) i).
      let f : slice_get old i ≡ Some y = sym out.same ∙ e in
      source_bit_more q r rules more env y (all_get (IsSource q) old i y mine.sources f) ∙ was env cur i y fit fits long starts f ∙ sym (where_kept t.pool w (v env) before inside all (test env) i here out.apart))
      (λ (in' : IsInIt w i).
      let x = old_at i y e in
      let j : ℕ = in'.0 in
      (of_write i j x.0 y in'.1 in'.2 x.1 e).bit env (fits_more t.pool q base shown.more env fit)
      ∙ ap (λ b. if test env then int_bit (num q env value.0) (w.from + j) else b) (was env cur i x.0 fit fits long starts x.1 ∙ ap (int_bit (at before s)) in'.2)
      ∙ where_taken t.pool w (v env) before inside all (test env) j (int_bit (num q env value.0) (w.from + j)) in'.1 (digits env j fit in'.1)
      ∙ ap (int_bit (at (put_where t.pool (test env) w (v env) before) s)) (sym in'.2))
      (place_of q r test bits value w old (slice_index_or new s []) i written.own)

  needs_are : t.clocked ≡ false → (i : ℕ) (y : Source) (c : Bit) → slice_get (slice_index_or new w.sig.0 []) i ≡ Some y → Contains (source_needs r y) c → SomeNeeds t.pool t.done (record { sig = w.sig.0; index = i }) c
  unfolding IsInIt
  needs_are comb i y c e has =
      let old : List Source = slice_index_or slots w.sig.0 [] in
      ⊎_elim
      (λ (out : IsOutside w old (slice_index_or new w.sig.0 []) i).
      let f : slice_get old i ≡ Some y = sym out.same ∙ e in
      mine.needs comb i y c f (rw (source_needs_more q r rules more y (all_get (IsSource q) old i y mine.sources f)) at has))
      (λ (in' : IsInIt w i).
      let x = old_at i y e in
      let is = of_write i in'.0 x.0 y in'.1 in'.2 x.1 e in
      ⊎_elim
      (λ left. subst (λ k. SomeNeeds t.pool t.done (record { sig = w.sig.0; index = k }) c) (sym in'.2) (own.needs comb in'.0 c in'.1 left))
      (λ olds. mine.needs comb i x.0 c x.1 olds)
      (Contains-append_cases (bits ++ extended (form q value.0) (needed q value.0) (w.from + in'.0)) (source_needs q x.0) c (is.needs c has)))
      (place_of q r test bits value w old (slice_index_or new w.sig.0 []) i written.own)

  own_slot : IsSlot (behind_write t test w v) r w.sig.0 (slice_index_or new w.sig.0 [])
  own_slot = record {
    size = written.own.size ∙ mine.size;
    sources = all_from_get (IsSource r) (slice_index_or new w.sig.0 []) source_is;
    bits = λ env cur i y fit fits long starts e.
        let here : i < (signal_form t.pool.signals w.sig.0).width = omega (arith, slice_get_within (slice_index_or new w.sig.0 []) i y e, written.own.size, mine.size) in
        bit_is env cur i y fit fits long starts e ∙ sym (bit_pattern (at (put_where t.pool (test env) w (v env) (t.behind env cur)) w.sig.0) (signal_form t.pool.signals w.sig.0).width i here);
    needs = needs_are;
  }

  other_slot : (s : ℕ) (xs : List Source) → s ≢ w.sig.0 → IsSlot t q s xs → IsSlot (behind_write t test w v) r s xs
  other_slot s xs apart h = record {
    size = h.size;
    sources = sources_more q r rules more xs h.sources;
    bits = λ env cur i x fit fits long starts e.
        source_bit_more q r rules more env x (all_get (IsSource q) xs i x h.sources e) ∙ h.bits env cur i x fit fits long starts e
        ∙ ap (λ n. nat_bit (pattern (signal_form t.pool.signals s).width n) i) (sym (where_other t.pool w (v env) (t.behind env cur) (test env) s apart));
    needs = λ comb i x c e has. h.needs comb i x c e (rw (source_needs_more q r rules more x (all_get (IsSource q) xs i x h.sources e)) at has);
  }

  pub one_write : AreSlots (behind_write t test w v) r new
  one_write = record {
    more = more_trans t.pool q r shown.more more;
    size = written.size ∙ shown.size;
    long = λ env cur fit. where_length t.pool w (v env) (t.behind env cur) (test env) ∙ shown.long env cur fit;
    each = λ s driven.
        ⊎_elim
        (λ (e : s ≡ w.sig.0). subst (λ u. IsSlot (behind_write t test w v) r u (slice_index_or new u [])) (sym e) own_slot)
        (λ (apart : s ≢ w.sig.0). subst (IsSlot (behind_write t test w v) r s) (sym (written.others s apart)) (other_slot s (slice_index_or slots s []) apart (shown.each s driven)))
        (cases_eq s w.sig.0);
  }
