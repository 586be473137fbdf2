-- The elements of a value are its elements by their number, and as many as are counted.
use Rattle.std.proofs.Common.{◌≡◌, ℕ, zero-add, inl, inr, true, false, List, length, map, Some, Result, Ok, Err, refl, arith, ap, sym, ◌∙◌}
use Rattle.std.specs.Prelude.{slice_get, nat_lt}
use Rattle.std.specs.Option.{option_map}
use Rattle.std.proofs.lemmas.Bool.{cases_lt, cases_Bool}
use Rattle.std.proofs.lemmas.List.{length-map}
use Rattle.std.proofs.lemmas.Option.{slice_get-map}
use Rattle.py_values.specs.declared.val.Val.{Val}
use Rattle.py_values.specs.declared.val.Val.TheVariants as val
use Rattle.py_values.specs.declared.range.Span.{Span}
use Rattle.py_values.specs.declared.val.ValueStop.{ValueStop}
use Rattle.py_values.specs.declared.val.ValueStop.TheVariants.{Limit}
use Rattle.py_heap.specs.Heaps.{Seen, row_at}
use Rattle.py_values.specs.Ranges.{span_of}
use Rattle.py_operators.specs.Spans.{stepped, span_count, span_element, span_numbers}
use Rattle.py_operators.specs.Elements.{elements, element, sized, keys_in, span_listed, span_sized}
use Rattle.py_heap.proofs.EqualityLaws.{ok_or_err}
use Rattle.py_operators.proofs.StepLaws.{element_there, element_past}
use Rattle.py_operators.proofs.ElementLaws.{slice_get_past, slice_get-numbers_from, length-numbers_from, length-keys_in}

-- a list that is answered
abbrev listed : List Val → Result (List Val) ValueStop
listed xs = Ok xs

same_list : (xs ys : List Val) → listed xs ≡ listed ys → ys ≡ xs
same_list xs ys e =
    let q : xs ≡ ys = cc in
    sym q

span_numbers_are : (r : Span) (i : ℕ) → slice_get (span_numbers r) i ≡ span_element r i
span_numbers_are r i =
    elim (cases_lt i (span_count r)) [
      | inl l ↦ slice_get-numbers_from (span_count r) 0 i r l ∙ ap (λ (j : ℕ). Some (stepped r.start r.step j)) (zero-add i) ∙ sym (element_there r i l)
      | inr g ↦ slice_get_past (span_numbers r) i (omega (arith, length-numbers_from (span_count r) 0 r)) ∙ sym (element_past r i g)
    ]

-- a range is listed where it is not too long
span_listed_is : (r : Span) → nat_lt 65536 (span_count r) ≡ false → span_listed r ≡ listed (map val.Int (span_numbers r))
span_listed_is r f = rw f refl

span_refused : (r : Span) (xs : List Val) → nat_lt 65536 (span_count r) ≡ true → span_listed r ≡ listed xs → ⊥
span_refused r xs t e =
    let q : span_listed r ≡ Err Limit = rw t refl in
    ok_or_err (span_listed r) xs Limit e q

span_list : (r : Span) (xs : List Val) → span_listed r ≡ listed xs → (nat_lt 65536 (span_count r) ≡ false) × (xs ≡ map val.Int (span_numbers r))
span_list r xs e =
    elim (cases_Bool (nat_lt 65536 (span_count r))) [
      | inl t ↦ absurd (span_refused r xs t e)
      | inr f ↦ (f, same_list (map val.Int (span_numbers r)) xs (sym (span_listed_is r f) ∙ e))
    ]

span_listed_are : (r : Span) (xs : List Val) (i : ℕ) → span_listed r ≡ listed xs → slice_get xs i ≡ option_map val.Int (span_element r i)
span_listed_are r xs i e =
    ap (λ ys. slice_get ys i) (span_list r xs e).1 ∙ slice_get-map val.Int (span_numbers r) i ∙ ap (option_map val.Int) (span_numbers_are r i)

-- what stands at a place of the elements is the element of that number, and where nothing stands there is none
pub elements_are : (s : Seen) (v : Val) (xs : List Val) (i : ℕ) → elements s v ≡ Ok xs → slice_get xs i ≡ element s v i
elements_are s (val.List o) xs i e = ap (λ ys. slice_get ys i) (same_list (row_at s o.0) xs e)
elements_are s (val.Tuple o) xs i e = ap (λ ys. slice_get ys i) (same_list (row_at s o.0) xs e)
elements_are s (val.Dict o) xs i e = ap (λ ys. slice_get ys i) (same_list (keys_in (row_at s o.0)) xs e)
elements_are s (val.Range o) xs i e = span_listed_are (span_of (row_at s o.0)) xs i e
elements_are s val.None xs i e = absurd cc
elements_are s (val.Bool b) xs i e = absurd cc
elements_are s (val.Int n) xs i e = absurd cc
elements_are s (val.Str x) xs i e = absurd cc
elements_are s (val.Time t) xs i e = absurd cc
elements_are s (val.Func f) xs i e = absurd cc
elements_are s (val.Class o) xs i e = absurd cc
elements_are s (val.Object o) xs i e = absurd cc
elements_are s (val.Hw h) xs i e = absurd cc

span_sized_is : (r : Span) (xs : List Val) → span_listed r ≡ listed xs → span_sized r ≡ Ok (length xs)
span_sized_is r xs e =
    let h = span_list r xs e in
    let n : length xs ≡ span_count r = ap length h.1 ∙ length-map (span_numbers r) val.Int ∙ length-numbers_from (span_count r) 0 r in
    rw (h.0, n) refl

-- there are as many elements as are counted
pub elements_are_counted : (s : Seen) (v : Val) (xs : List Val) → elements s v ≡ Ok xs → sized s v ≡ Ok (length xs)
elements_are_counted s (val.List o) xs e = ap (λ ys. Ok (length ys)) (sym (same_list (row_at s o.0) xs e))
elements_are_counted s (val.Tuple o) xs e = ap (λ ys. Ok (length ys)) (sym (same_list (row_at s o.0) xs e))
elements_are_counted s (val.Dict o) xs e = ap Ok (sym (length-keys_in (row_at s o.0)) ∙ ap length (sym (same_list (keys_in (row_at s o.0)) xs e)))
elements_are_counted s (val.Range o) xs e = span_sized_is (span_of (row_at s o.0)) xs e
elements_are_counted s val.None xs e = absurd cc
elements_are_counted s (val.Bool b) xs e = absurd cc
elements_are_counted s (val.Int n) xs e = absurd cc
elements_are_counted s (val.Str x) xs e = absurd cc
elements_are_counted s (val.Time t) xs e = absurd cc
elements_are_counted s (val.Func f) xs e = absurd cc
elements_are_counted s (val.Class o) xs e = absurd cc
elements_are_counted s (val.Object o) xs e = absurd cc
elements_are_counted s (val.Hw h) xs e = absurd cc
