-- An index of a value or an array, and a slice, the length and the bits of a value. Amaranth language guide 0.5, "Values", bit containers: the places are those that
-- Python takes of a list of all bits (Python reference, "Subscriptions" and "Slicings").
use Rattle.std.specs.Prelude.{ℕ, ◌≡◌, ◌<◌, ◌≤◌, ◌+◌, Bool, false, if◌then◌else◌, ℤ, pos, negsuc, List, [], ◌∷◌, length, map, slice_get, Option, Some, None, Result, Ok, Err}
use Rattle.std.specs.List.{range_with_len}
use Rattle.std.specs.Option.{option_and_then, option_map, unwrap_or}
use Rattle.std.specs.Ordering.{int_eq}
use Rattle.design_ir.specs.declared.ids.ExprId.{ExprId}
use Rattle.design_ir.specs.declared.expr.Expr.{Expr}
use Rattle.design_ir.specs.declared.expr.Expr.TheVariants.{Slice, Cat}
use Rattle.design_ir.specs.Pools.{Pooled}
use Rattle.design_ir.specs.Values.{form}
use Rattle.py_values.specs.declared.val.Val.{Val}
use Rattle.py_values.specs.declared.val.Val.TheVariants as val
use Rattle.py_values.specs.Numbers.{number_of}
use Rattle.py_heap.specs.Changes.{index_place}
use Rattle.py_builtins.specs.Indices.{part_of, step_of, cut_of, cut_span, picked}
use Rattle.py_operators.specs.Spans.{span_numbers}
use Rattle.py_frames.specs.declared.request.Answer.TheVariants as answer
use Rattle.py_frames.specs.declared.request.Cause.{Cause}
use Rattle.py_frames.specs.declared.request.Cause.TheVariants.{Raised}
use Rattle.amh_things.specs.declared.thing.Thing.{Thing}
use Rattle.amh_things.specs.declared.thing.Thing.TheVariants as thing
use Rattle.amh_things.specs.Ends.{Ends}
use Rattle.amh_things.specs.declared.plan.Plan.{Plan}
use Rattle.amh_things.specs.Things.{bare_expr}
use Rattle.value_acts.specs.Arrays.{array_indexed}
use Rattle.amh_things.specs.Plans.{ends_of, value_made, value_given}

-- the numbers of a value's bits
abbrev pub bits_below : ℕ → List ℕ
bits_below width = range_with_len 0 width

-- one bit
abbrev pub bit : ExprId → ℕ → Expr
bit e k = Slice e k 1

-- so many expressions from number n on
abbrev pub ids_from : ℕ → ℕ → List ExprId
ids_from n count = map (λ k. record { 0 = n + k }) (range_with_len 0 count)

-- ---- `v[i]`

abbrev pub bit_made : Ends → ExprId → Option ℕ → Result Plan Cause
bit_made ends e None = Err Raised
bit_made ends e (Some k) = Ok (value_made ends [] (bit e k))

-- ---- `v[i:j:k]`: of steps of 1 one run of bits, and of other steps a bit for each place

abbrev pub run_made : Ends → ExprId → List ℕ → Plan
run_made ends e places = value_made ends [] (Slice e (unwrap_or (slice_get places 0) 0) (length places))

abbrev pub bits_made : Ends → ExprId → List ℕ → Plan
bits_made ends e places = value_made ends (map (bit e) places) (Cat (ids_from ends.exprs (length places)))

abbrev pub is_by_one : Option ℤ → Bool
is_by_one None = false
is_by_one (Some n) = int_eq n (pos 1)

-- an absent step is 1, and 0 is none
abbrev pub step_in : Val → Option ℤ
step_in k = option_and_then step_of (part_of k)

-- the bits from a place on by steps, before another place
abbrev pub bits_between : ℕ → ℤ → ℤ → ℤ → List ℕ
bits_between width start stop step = picked (bits_below width) (span_numbers (record { start = start; stop = stop; step = step }))

-- the bits that a slice takes, in its order; none where a part is no number or the step is 0
abbrev pub places_of : ℕ → Val → Val → Val → Option (List ℕ)
places_of width i j k = option_map (λ c. picked (bits_below width) (span_numbers (cut_span width c))) (cut_of i j k)

abbrev pub cut_made : Ends → ExprId → Bool → Option (List ℕ) → Result Plan Cause
cut_made ends e by_one None = Err Raised
cut_made ends e by_one (Some places) = Ok (if by_one then run_made ends e places else bits_made ends e places)

abbrev pub value_indexed : Ends → ExprId → ℕ → List Val → Result Plan Cause
value_indexed ends e width (i ∷ []) = bit_made ends e (option_and_then (index_place width) (number_of i))
value_indexed ends e width (i ∷ j ∷ k ∷ []) = cut_made ends e (is_by_one (step_in k)) (places_of width i j k)
value_indexed ends e width vals = Err Raised

-- ---- things

abbrev pub thing_indexed : Pooled → List Thing → Option Thing → List Val → Result Plan Cause
thing_indexed p things (Some (thing.Value e)) vals = value_indexed (ends_of p things) e (form p e.0).width vals
thing_indexed p things (Some (thing.Numbered h e)) vals = value_indexed (ends_of p things) e (form p e.0).width vals
thing_indexed p things (Some (thing.Array items)) vals = array_indexed p things items vals
thing_indexed p things t vals = Err Raised

abbrev pub indexed : Pooled → List Thing → List Val → Result Plan Cause
indexed p things (val.Hw h ∷ vals) = thing_indexed p things (slice_get things h.0) vals
indexed p things vals = Err Raised

-- ---- `len(v)`

abbrev pub width_given : Pooled → Option ExprId → Result Plan Cause
width_given p None = Err Raised
width_given p (Some e) = Ok (value_given (val.Int (pos (form p e.0).width)))

abbrev pub measured : Pooled → List Thing → List Val → Result Plan Cause
measured p things (val.Hw h ∷ []) = width_given p (bare_expr (slice_get things h.0))
measured p things vals = Err Raised

-- ---- iteration over the bits of a value, the lowest first; an array has elements by index alone

-- values of expressions, as a tuple
abbrev pub values_made : Ends → List Expr → Plan
values_made ends es = record {
  exprs = es;
  things = map thing.Value (ids_from ends.exprs (length es));
  answer = answer.GiveList (map (λ k. val.Hw (record { 0 = ends.things + k })) (range_with_len 0 (length es)));
}

abbrev pub bits_given : Pooled → List Thing → Option ExprId → Result Plan Cause
bits_given p things None = Err Raised
bits_given p things (Some e) = Ok (values_made (ends_of p things) (map (bit e) (bits_below (form p e.0).width)))

abbrev pub iterated : Pooled → List Thing → List Val → Result Plan Cause
iterated p things (val.Hw h ∷ []) = bits_given p things (bare_expr (slice_get things h.0))
iterated p things vals = Err Raised

-- ---- where a slice of so many bits begins and ends: behind the last bit at most, or before the first one where it goes back

abbrev pub IsPlace : ℕ → ℤ → ℤ → Type 0
IsPlace width (pos s) (pos n) = n ≤ width
IsPlace width (pos s) (negsuc n) = ⊥
IsPlace width (negsuc s) (pos n) = n < width
IsPlace width (negsuc s) (negsuc n) = n ≡ 0
