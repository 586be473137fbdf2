-- The bits of a slice, one after the other.
use Rattle.std.specs.Prelude.{◌≡◌, refl, ℕ, zero, suc, ◌+◌, ◌-◌, ◌<◌, ◌≤◌, true, false, ℤ, pos, negsuc, ◌+ℤ◌, unsigned_abs, List, [], ◌∷◌, ◌++◌, length, slice_get, unwrap_or, Option, Some, None}
use Rattle.std.specs.List.{range_with_len, cons_option, AllByRecursion}
use Rattle.std.specs.Int.{int_gap, div_ceil}
use Rattle.std.proofs.Common.{sym, ap, ◌∙◌, arith}
use Rattle.std.proofs.lemmas.Option.{slice_get-get_or, slice_get_past, slice_get_within}
use Rattle.std.proofs.lemmas.List.FromFn.{length-range_with_len, get_or-range_with_len}
use Rattle.amh_bits.specs.Integers.{IsKept}
use Rattle.py_values.specs.Ranges.{comes_before}
use Rattle.py_operators.specs.Spans.{way, stepped, span_count, span_numbers, numbers_from}
use Rattle.py_builtins.specs.Indices.{picked, item_at}
use Rattle.std.proofs.Math.Nat.{mul-suc}
use Rattle.std.proofs.lemmas.Int.{ints}
use Rattle.py_operators.proofs.SpanLaws.{below_div_ceil}
use Rattle.py_operators.proofs.StepLaws.{before_counted, counted_before, before_kept}
use Rattle.py_operators.proofs.ElementLaws.{length-numbers_from}
use Rattle.py_builtins.proofs.SliceLaws.{picks_start, picks_turn, picks_end}
use Rattle.value_acts.specs.Indices.{bits_below, bits_between, IsPlace}

pub slice_get-bits : (width n : ℕ) → n < width → slice_get (bits_below width) n ≡ Some n
slice_get-bits width n h =
    slice_get-get_or (bits_below width) n 0 (omega (arith, h, length-range_with_len 0 width)) ∙ ap Some (get_or-range_with_len 0 width n 0 h ∙ omega arith)

pub slice_get-bits_past : (width n : ℕ) → width ≤ n → slice_get (bits_below width) n ≡ None
slice_get-bits_past width n h = slice_get_past (bits_below width) n (omega (arith, h, length-range_with_len 0 width))

-- ---- how many turns there are

gap_few : (width : ℕ) (step a b : ℤ) → IsPlace width step a → IsPlace width step b → int_gap a b ≤ width
gap_few width (pos s) (pos a) (pos b) ha hb = omega (arith, hb)
gap_few width (pos s) (pos a) (negsuc b) ha hb = absurd hb
gap_few width (pos s) (negsuc a) b ha hb = absurd ha
gap_few width (negsuc s) (pos a) (pos b) ha hb = omega (arith, hb)
gap_few width (negsuc s) (pos a) (negsuc b) ha hb = omega arith
gap_few width (negsuc s) (negsuc a) (pos b) ha hb = omega (arith, ha, hb)
gap_few width (negsuc s) (negsuc a) (negsuc b) ha hb = omega (arith, ha, hb)

way_few : (width : ℕ) (step a b : ℤ) → IsPlace width step a → IsPlace width step b → way step a b ≤ width
way_few width (pos zero) a b ha hb = omega arith
way_few width (pos (suc s)) a b ha hb = gap_few width (pos (suc s)) a b ha hb
way_few width (negsuc s) a b ha hb = gap_few width (negsuc s) b a hb ha

div_ceil_few : (d s : ℕ) → 0 < s → div_ceil d s ≤ d
div_ceil_few d zero h = absurd (omega (arith, h))
div_ceil_few d (suc s) h =
    let not_more : d < div_ceil d (suc s) → ⊥ = λ l. omega (arith, below_div_ceil d d (suc s) h l, mul-suc d s) in
    omega (arith, not_more)

pub at_start : (n step : ℤ) → n ≡ stepped n step 0
at_start n (pos s) = omega (arith, ints)
at_start n (negsuc k) = omega (arith, ints)

pub one_more : (n step : ℤ) (i : ℕ) → stepped n step i +ℤ step ≡ stepped n step (i + 1)
one_more n (pos s) i = omega (arith, ints)
one_more n (negsuc k) i = omega (arith, ints)

counts_few : (width : ℕ) (start stop step : ℤ) → way step start stop ≤ width → div_ceil (way step start stop) (unsigned_abs step) ≤ width
counts_few width start stop (pos zero) h = omega arith
counts_few width start stop (pos (suc s)) h = omega (arith, h, div_ceil_few (way (pos (suc s)) start stop) (suc s) (omega arith))
counts_few width start stop (negsuc s) h = omega (arith, h, div_ceil_few (way (negsuc s) start stop) (suc s) (omega arith))

module _ (width : ℕ) (start stop step : ℤ) where
  -- what is left of the bits where so many turns are done
  abbrev pub Rest : List ℕ → ℕ → Type 0
  Rest all i = all ++ picked (bits_below width) (numbers_from (span_count (record { start = start; stop = stop; step = step }) - i) i (record { start = start; stop = stop; step = step })) ≡ bits_between width start stop step

  pub rest_begins : (all : List ℕ) → all ≡ [] → Rest all 0
  rest_begins all h = picks_start all (bits_below width) (span_count (record { start = start; stop = stop; step = step })) (record { start = start; stop = stop; step = step }) h

  ends_at : (all : List ℕ) (i : ℕ) → div_ceil (way step start stop) (unsigned_abs step) ≤ i → Rest all i → all ≡ bits_between width start stop step
  ends_at all i past h = sym (picks_end all (bits_between width start stop step) (bits_below width) (span_count (record { start = start; stop = stop; step = step })) i (record { start = start; stop = stop; step = step }) past h)

  not_counted : (i : ℕ) → (i < div_ceil (way step start stop) (unsigned_abs step) → ⊥) → div_ceil (way step start stop) (unsigned_abs step) ≤ i
  not_counted i h = omega (arith, h)

  -- the turns end where the next place is not before the stop
  pub rest_ends : (all : List ℕ) (i : ℕ) (at : ℤ) → at ≡ stepped start step i → comes_before step at stop ≡ false → Rest all i → all ≡ bits_between width start stop step
  rest_ends all i at here past h =
      let gone : i < div_ceil (way step start stop) (unsigned_abs step) → ⊥ = λ l. let b = before_counted start step stop i l in let a = rw here at past in cc in
      ends_at all i (not_counted i gone) h

  -- one more
  pub rest_goes : (all new : List ℕ) (i : ℕ) (at : ℤ) (k : Option ℕ) → at ≡ stepped start step i → comes_before step at stop ≡ true → k ≡ item_at (bits_below width) at → new ≡ all ++ cons_option k [] → Rest all i → Rest new (i + 1)
  rest_goes all new i at k here before is more h =
      let counted = counted_before start step stop i (rw (← here) before) in
      picks_turn all new (bits_between width start stop step) (bits_below width) (span_count (record { start = start; stop = stop; step = step })) i (record { start = start; stop = stop; step = step }) at k counted here is more h

  -- the next place is not kept, so it is past the stop
  pub rest_stops : (all : List ℕ) (i : ℕ) (at : ℤ) → IsKept start → IsKept stop → at ≡ stepped start step i → (IsKept (at +ℤ step) → ⊥) → Rest all (i + 1) → all ≡ bits_between width start stop step
  rest_stops all i at ks kt here gone h =
      let next : at +ℤ step ≡ stepped start step (i + 1) = ap (λ z. z +ℤ step) here ∙ one_more start step i in
      let past : (i + 1) < div_ceil (way step start stop) (unsigned_abs step) → ⊥ = λ l. gone (rw next (before_kept start step stop (i + 1) ks kt (before_counted start step stop (i + 1) l))) in
      ends_at all (i + 1) (not_counted (i + 1) past) h

  pub rest_many : (all : List ℕ) (i : ℕ) → 256 ≤ i → width ≤ 255 → IsPlace width step start → IsPlace width step stop → Rest all i → all ≡ bits_between width start stop step
  rest_many all i many w a b h = ends_at all i (omega (arith, many, w, counts_few width start stop step (way_few width step start stop a b))) h

-- ---- how many bits a way has, and which

module _ (width : ℕ) where
  picked_few : (ns : List ℤ) → length (picked (bits_below width) ns) ≤ length ns
  picked_few [] = omega arith
  picked_few (n ∷ ns) = one_few (item_at (bits_below width) n) (picked_few ns)
    where
      one_few : (o : Option ℕ) → length (picked (bits_below width) ns) ≤ length ns → length (cons_option o (picked (bits_below width) ns)) ≤ suc (length ns)
      one_few None h = omega (arith, h)
      one_few (Some k) h = omega (arith, h)

  item_below : (n : ℤ) (k : ℕ) → item_at (bits_below width) n ≡ Some k → k < width
  item_below (pos n) k h =
      let within : n < width = omega (arith, slice_get_within (bits_below width) n k h, length-range_with_len 0 width) in
      let same : n ≡ k = let e = slice_get-bits width n within in cc in
      omega (arith, within, same)
  item_below (negsuc n) k h = cc

  picked_below : (ns : List ℤ) → AllByRecursion (λ k. k < width) (picked (bits_below width) ns)
  picked_below [] = tt
  picked_below (n ∷ ns) = one_below (item_at (bits_below width) n) (item_below n) (picked_below ns)
    where
      one_below : (o : Option ℕ) → ((k : ℕ) → o ≡ Some k → k < width) → AllByRecursion (λ k. k < width) (picked (bits_below width) ns) → AllByRecursion (λ k. k < width) (cons_option o (picked (bits_below width) ns))
      one_below None f h = h
      one_below (Some k) f h = (f k refl, h)

  module _ (start stop step : ℤ) where
    pub bits_few : IsPlace width step start → IsPlace width step stop → length (bits_between width start stop step) ≤ width
    bits_few a b =
        let count = counts_few width start stop step (way_few width step start stop a b) in
        let listed = length-numbers_from (span_count (record { start = start; stop = stop; step = step })) 0 (record { start = start; stop = stop; step = step }) in
        omega (arith, count, listed, picked_few (span_numbers (record { start = start; stop = stop; step = step })))

    pub bits_are_below : AllByRecursion (λ k. k < width) (bits_between width start stop step)
    bits_are_below = picked_below (span_numbers (record { start = start; stop = stop; step = step }))

-- ---- steps of 1: the bits are one run

stepped_one : (s i : ℕ) → stepped (pos s) (pos 1) i ≡ pos (s + i)
stepped_one s i = omega (arith, ints)

module _ (width s : ℕ) (stop : ℤ) where
  run_from : (n i : ℕ) → s + i + n ≤ width → picked (bits_below width) (numbers_from n i (record { start = pos s; stop = stop; step = pos 1 })) ≡ range_with_len (s + i) n
  unfolding numbers_from
  run_from zero i h = refl
  run_from (suc n) i h =
      let here : item_at (bits_below width) (stepped (pos s) (pos 1) i) ≡ Some (s + i) = ap (item_at (bits_below width)) (stepped_one s i) ∙ slice_get-bits width (s + i) (omega (arith, h)) in
      rw here (ap (λ r. (s + i) ∷ r) (run_from n (i + 1) (omega (arith, h)) ∙ ap (λ a. range_with_len a n) (omega arith)))

run_count : (s t width : ℕ) → s ≤ width → t ≤ width → s + 0 + div_ceil (t - s) 1 ≤ width
run_count s t width hs ht = omega (arith, div_ceil_few (t - s) 1 (omega arith), hs, ht)

first_low : (a n width : ℕ) → a + n ≤ width → unwrap_or (slice_get (range_with_len a n) 0) 0 + n ≤ width
first_low a zero width h = omega (arith, h)
first_low a (suc n) width h = omega (arith, h)

-- the run lies within the value
pub run_within : (width : ℕ) (start stop : ℤ) → IsPlace width (pos 1) start → IsPlace width (pos 1) stop → unwrap_or (slice_get (bits_between width start stop (pos 1)) 0) 0 + length (bits_between width start stop (pos 1)) ≤ width
run_within width (pos s) (pos t) hs ht =
    let count = run_count s t width hs ht in
    let run = run_from width s (pos t) (div_ceil (t - s) 1) 0 count in
    let low = first_low (s + 0) (div_ceil (t - s) 1) width count in
    rw run (rw (length-range_with_len (s + 0) (div_ceil (t - s) 1)) low)
run_within width (pos s) (negsuc t) hs ht = absurd ht
run_within width (negsuc s) stop hs ht = absurd hs
