-- Small values of builtins, of attributes and of dicts, worked out; each is what CPython answers.
use Rattle.std.specs.Prelude.{◌≡◌, refl, ℕ, true, false, List, [], ◌∷◌, pos, negsuc, Ok, Err, Some, None, codes}
use Rattle.py_values.specs.declared.val.Val.{Val}
use Rattle.py_values.specs.declared.val.Val.TheVariants as val
use Rattle.py_values.specs.declared.val.ValueStop.TheVariants as stop
use Rattle.py_values.specs.declared.val.NumberStop.TheVariants.{Width}
use Rattle.py_heap.specs.declared.objects.Inherited.TheVariants.{Found, Thing, Nowhere}
use Rattle.py_heap.specs.Heaps.{Seen, seen, nothing}
use Rattle.py_heap.specs.Objects.{inherited, inherited_in, listed}
use Rattle.py_builtins.specs.Scalars.{bit_length, first_from, width_of, log_of, extreme, summed, text_made}
use Rattle.py_heap.specs.Dicts.{put_all, unpaired, new_dict, key_row, value_row}

number : ℕ → Val
number n = val.Int (pos n)

-- bits_for of 0, 1, 255, 256, -1, -2 and -128; ceil_log2 of 0, 1, 5, 8 and -1
widths : (width_of (pos 0) ≡ 1) × (width_of (pos 1) ≡ 1) × (width_of (pos 255) ≡ 8) × (width_of (pos 256) ≡ 9) × (width_of (negsuc 0) ≡ 1) × (width_of (negsuc 1) ≡ 2) × (width_of (negsuc 127) ≡ 8) × (log_of (pos 0) ≡ Some (number 0)) × (log_of (pos 1) ≡ Some (number 0)) × (log_of (pos 5) ≡ Some (number 3)) × (log_of (pos 8) ≡ Some (number 3)) × (log_of (negsuc 0) ≡ None)
unfolding first_from number
widths = (refl, refl, refl, refl, refl, refl, refl, refl, refl, refl, refl, refl)

-- min(1, True), max(True, 1), min() of nothing, max(1, None)
extremes : (extreme true (number 1 ∷ val.Bool true ∷ []) ≡ Ok (number 1)) × (extreme false (val.Bool true ∷ number 1 ∷ []) ≡ Ok (val.Bool true)) × (extreme true [] ≡ Err stop.Raised) × (extreme false (number 1 ∷ val.None ∷ []) ≡ Err stop.Raised)
unfolding number
extremes = (refl, refl, refl, refl)

-- sum([True, 2], 3), and a partial sum past the range
sums : (summed (number 3) (val.Bool true ∷ number 2 ∷ []) ≡ Ok (number 6)) × (summed (number 340282366920938463463374607431768211455) (number 1 ∷ val.Int (negsuc 0) ∷ []) ≡ Err Width)
unfolding number
sums = (refl, refl)

-- str(True) has no text here
texts : text_made (seen nothing nothing) (Some (val.Bool true)) ≡ Err stop.Raised
texts = refl

-- {1: 5, 2: 6, True: 7}; the keys and the values of a dict
dicts : (put_all (seen nothing nothing) [] (number 1 ∷ number 5 ∷ number 2 ∷ number 6 ∷ val.Bool true ∷ number 7 ∷ []) ≡ number 1 ∷ number 7 ∷ number 2 ∷ number 6 ∷ []) × (key_row (number 1 ∷ number 7 ∷ []) ≡ number 1 ∷ []) × (value_row (number 1 ∷ number 7 ∷ []) ≡ number 7 ∷ [])
unfolding number
dicts = (refl, refl, refl)

-- class A: x = 1; class B(A): y = 2; class C of a thing; names "x" and "y"
classes : Seen
classes = seen nothing (record {
  texts = codes "x" ∷ codes "y" ∷ [];
  rows =
      (val.None ∷ val.Str (record { 0 = 0 }) ∷ number 1 ∷ [])
      ∷ (val.Class (record { 0 = 0 }) ∷ val.Str (record { 0 = 1 }) ∷ number 2 ∷ [])
      ∷ (val.Hw (record { 0 = 9 }) ∷ [])
      ∷ [];
  funcs = [];
  scopes = [];
  chars = 0;
  items = 0;
})

-- B.x is A's, B.y its own, A.y nothing, and C.x is asked of the thing
bases : (inherited classes (codes "x") (record { 0 = 1 }) ≡ Found (number 1) (val.Class (record { 0 = 0 }))) × (inherited classes (codes "y") (record { 0 = 1 }) ≡ Found (number 2) (val.Class (record { 0 = 1 }))) × (inherited classes (codes "y") (record { 0 = 0 }) ≡ Nowhere) × (inherited classes (codes "x") (record { 0 = 2 }) ≡ Thing (record { 0 = 9 }))
unfolding inherited_in number classes
bases = (refl, refl, refl, refl)
