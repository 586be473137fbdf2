-- Small values of sequences, worked out; each is what CPython answers.
use Rattle.std.specs.Prelude.{◌≡◌, refl, ℕ, ◌*◌, ◌-◌, ◌^◌, true, [], ◌∷◌, pos, negsuc, Ok, Err, Some, None, codes, encode_utf8, encode_utf8_all}
use Rattle.std.specs.Str.{chars}
use Rattle.py_values.specs.declared.val.Val.{Val}
use Rattle.py_values.specs.declared.val.Val.TheVariants as val
use Rattle.py_values.specs.declared.val.ValueStop.TheVariants as stop
use Rattle.py_heap.specs.declared.fresh.Fresh.TheVariants as fresh
use Rattle.py_values.specs.declared.range.Span.{Span}
use Rattle.py_heap.specs.Heaps.{Seen, seen, nothing}
use Rattle.py_operators.specs.Spans.{span_count, span_element, span_numbers, span_item, numbers_from}
use Rattle.py_operators.specs.Elements.{elements, count_of}
use Rattle.py_builtins.specs.Sequences.{span_given, reversed_of, numbered, columns, shortest}
use Rattle.py_builtins.specs.Indices.{index_of, slice_of}
use Rattle.py_heap.specs.Changes.{insert_place}

number : ℕ → Val
number n = val.Int (pos n)

below : ℕ → Val
below n = val.Int (negsuc n)

list : ℕ → Val
list n = val.List (record { 0 = n })

text : ℕ → Val
text n = val.Str (record { 0 = n })

-- rows [7, 8, 9], range(0, 10, 3), range(10, 0, -3), {"b": 7} and [4]; strings "b" and "añb"; nothing is frozen
some : Seen
some = seen nothing (record {
  texts = codes "b" ∷ (97 ∷ 195 ∷ 177 ∷ 98 ∷ []) ∷ [];
  rows = (number 7 ∷ number 8 ∷ number 9 ∷ []) ∷ (number 0 ∷ number 10 ∷ number 3 ∷ []) ∷ (number 10 ∷ number 0 ∷ below 2 ∷ []) ∷ (text 0 ∷ number 7 ∷ []) ∷ (number 4 ∷ []) ∷ [];
  funcs = [];
  scopes = [];
  chars = 0;
  items = 0;
})

up : Span
up = record { start = pos 0; stop = pos 10; step = pos 3 }

down : Span
down = record { start = pos 10; stop = pos 0; step = negsuc 2 }

widest : Span
widest = record { start = negsuc (2 ^ 127 - 1); stop = pos (2 ^ 128 - 1); step = pos 1 }

-- len(range(0, 10, 3)), its elements, its last one, range(10, 0, -3)[-1], and the range of all integers but one
spans : (span_count up ≡ 4) × (span_numbers up ≡ pos 0 ∷ pos 3 ∷ pos 6 ∷ pos 9 ∷ []) × (span_element up 4 ≡ None) × (span_item up (negsuc 0) ≡ Some (pos 9)) × (span_numbers down ≡ pos 10 ∷ pos 7 ∷ pos 4 ∷ pos 1 ∷ []) × (span_item down (negsuc 3) ≡ Some (pos 10)) × (span_item down (negsuc 4) ≡ None) × (span_count widest ≡ 3 * 2 ^ 127 - 1) × (span_item widest (negsuc 0) ≡ Some (pos (2 ^ 128 - 2)))
unfolding numbers_from up down widest
spans = (refl, refl, refl, refl, refl, refl, refl, refl, refl)

-- range(5), range(True, 5), a step of 0, and a list for a number
ranges : (span_given (number 5 ∷ []) ≡ Some (record { start = pos 0; stop = pos 5; step = pos 1 })) × (span_given (val.Bool true ∷ number 5 ∷ []) ≡ Some (record { start = pos 1; stop = pos 5; step = pos 1 })) × (span_given (number 1 ∷ number 5 ∷ number 0 ∷ []) ≡ None) × (span_given (list 0 ∷ []) ≡ None)
unfolding number list
ranges = (refl, refl, refl, refl)

-- len of a string, of a dict, and of a number
lengths : (count_of some (text 1) ≡ Some 3) × (count_of some (val.Dict (record { 0 = 3 })) ≡ Some 1) × (count_of some (number 1) ≡ None)
unfolding number text some chars
lengths = (refl, refl, refl)

-- the keys of a dict, a string, and reversed(range(0, 10, 3))
gone_over : (elements some (val.Dict (record { 0 = 3 })) ≡ Ok (text 0 ∷ [])) × (elements some (text 1) ≡ Err stop.Raised) × (reversed_of some (val.Range (record { 0 = 1 }) ∷ []) ≡ Ok (fresh.List (number 9 ∷ number 6 ∷ number 3 ∷ number 0 ∷ [])))
unfolding number text some numbers_from
gone_over = (refl, refl, refl)

-- "añb"[1], [7, 8, 9][-1], [7, 8, 9][3], {"b": 7}["b"], range(10, 0, -3)[True]
indices : (index_of some (text 1 ∷ number 1 ∷ []) ≡ Ok (fresh.Text (encode_utf8 241))) × (index_of some (list 0 ∷ below 0 ∷ []) ≡ Ok (fresh.Val (number 9))) × (index_of some (list 0 ∷ number 3 ∷ []) ≡ Err stop.Raised) × (index_of some (val.Dict (record { 0 = 3 }) ∷ text 0 ∷ []) ≡ Ok (fresh.Val (number 7))) × (index_of some (val.Range (record { 0 = 2 }) ∷ val.Bool true ∷ []) ≡ Ok (fresh.Val (number 7)))
unfolding number below list text some chars
indices = (refl, refl, refl, refl, refl)

-- [7, 8, 9][::-1], [7, 8, 9][-2:], [7, 8, 9][5:-9:-2], [7, 8, 9][::0], "añb"[1:]
slices : (slice_of some (list 0 ∷ val.None ∷ val.None ∷ below 0 ∷ []) ≡ Ok (fresh.List (number 9 ∷ number 8 ∷ number 7 ∷ []))) × (slice_of some (list 0 ∷ below 1 ∷ val.None ∷ val.None ∷ []) ≡ Ok (fresh.List (number 8 ∷ number 9 ∷ []))) × (slice_of some (list 0 ∷ number 5 ∷ below 8 ∷ below 1 ∷ []) ≡ Ok (fresh.List (number 9 ∷ number 7 ∷ []))) × (slice_of some (list 0 ∷ val.None ∷ val.None ∷ number 0 ∷ []) ≡ Err stop.Raised) × (slice_of some (text 1 ∷ number 1 ∷ val.None ∷ val.None ∷ []) ≡ Ok (fresh.Text (encode_utf8_all (241 ∷ 98 ∷ []))))
unfolding number below list text some numbers_from chars
slices = (refl, refl, refl, refl, refl)

-- enumerate([7, 8], 5), zip([7, 8, 9], {"b": 7}), and where insert puts a value into three
rows : (numbered (pos 5) (number 7 ∷ number 8 ∷ []) ≡ (number 5 ∷ number 7 ∷ []) ∷ (number 6 ∷ number 8 ∷ []) ∷ []) × (shortest some (list 0 ∷ val.Dict (record { 0 = 3 }) ∷ []) ≡ Ok 1) × (columns some (list 0 ∷ val.Dict (record { 0 = 3 }) ∷ []) 1 0 ≡ (number 7 ∷ text 0 ∷ []) ∷ []) × (insert_place 3 (pos 9) ≡ 3) × (insert_place 3 (negsuc 0) ≡ 2) × (insert_place 3 (negsuc 9) ≡ 0)
unfolding number list text some numbered columns
rows = (refl, refl, refl, refl, refl, refl)
