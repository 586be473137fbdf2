-- Equality: whether two are one thing, then their lengths, then their elements from the first one on.
-- Source: Python reference 6.10.1, Value comparisons; cost, depth, and what has no equality: own rules (docs/RULES.md).
use Rattle.std.specs.Prelude.{ℕ, zero, suc, ◌==◌, Bool, true, false, if◌then◌else◌, List, [], ◌∷◌, length, ℤ}
use Rattle.std.specs.Ordering.{int_eq}
use Rattle.lists.specs.Texts.{text_eq}
use Rattle.py_values.specs.declared.val.Val.{Val}
use Rattle.py_values.specs.declared.val.Val.TheVariants as val
use Rattle.py_values.specs.declared.val.StrId.{StrId}
use Rattle.py_values.specs.declared.val.ObjId.{ObjId}
use Rattle.py_values.specs.declared.val.FuncId.{FuncId}
use Rattle.py_values.specs.declared.val.Hw.{Hw}
use Rattle.py_values.specs.declared.val.ValueStop.TheVariants.{Raised}
use Rattle.py_heap.specs.declared.equality.Pair.{Pair}
use Rattle.py_heap.specs.declared.equality.Pair.TheVariants.{Known, Numbers, Texts, Rows, Refused}
use Rattle.py_heap.specs.Heaps.{Seen, text_at, row_at}
use Rattle.py_values.specs.Numbers.{bit_number}
use Rattle.py_values.specs.Runs.{Run, give, refuse, later, after}

-- ---- two values side by side

-- no equality is defined for times, dicts and ranges; one thing of the hardware equals itself alone, and beside
-- anything else its equality is a hardware value, which has no truth
abbrev pub beside_none : Val → Pair
beside_none val.None = Known true
beside_none (val.Time t) = Refused
beside_none (val.Dict o) = Refused
beside_none (val.Range o) = Refused
beside_none (val.Hw h) = Refused
beside_none _ = Known false

abbrev pub beside_number : ℤ → Val → Pair
beside_number m (val.Bool b) = Numbers m (bit_number b)
beside_number m (val.Int n) = Numbers m n
beside_number m (val.Time t) = Refused
beside_number m (val.Dict o) = Refused
beside_number m (val.Range o) = Refused
beside_number m (val.Hw h) = Refused
beside_number m _ = Known false

abbrev pub beside_text : StrId → Val → Pair
beside_text x (val.Str y) = Texts x y
beside_text x (val.Time t) = Refused
beside_text x (val.Dict o) = Refused
beside_text x (val.Range o) = Refused
beside_text x (val.Hw h) = Refused
beside_text x _ = Known false

abbrev pub beside_list : ObjId → Val → Pair
beside_list x (val.List y) = Rows x y
beside_list x (val.Time t) = Refused
beside_list x (val.Dict o) = Refused
beside_list x (val.Range o) = Refused
beside_list x (val.Hw h) = Refused
beside_list x _ = Known false

abbrev pub beside_tuple : ObjId → Val → Pair
beside_tuple x (val.Tuple y) = Rows x y
beside_tuple x (val.Time t) = Refused
beside_tuple x (val.Dict o) = Refused
beside_tuple x (val.Range o) = Refused
beside_tuple x (val.Hw h) = Refused
beside_tuple x _ = Known false

abbrev pub beside_func : FuncId → Val → Pair
beside_func x (val.Func y) = Known (x.0 == y.0)
beside_func x (val.Time t) = Refused
beside_func x (val.Dict o) = Refused
beside_func x (val.Range o) = Refused
beside_func x (val.Hw h) = Refused
beside_func x _ = Known false

abbrev pub beside_class : ObjId → Val → Pair
beside_class x (val.Class y) = Known (x.0 == y.0)
beside_class x (val.Time t) = Refused
beside_class x (val.Dict o) = Refused
beside_class x (val.Range o) = Refused
beside_class x (val.Hw h) = Refused
beside_class x _ = Known false

abbrev pub beside_object : ObjId → Val → Pair
beside_object x (val.Object y) = Known (x.0 == y.0)
beside_object x (val.Time t) = Refused
beside_object x (val.Dict o) = Refused
beside_object x (val.Range o) = Refused
beside_object x (val.Hw h) = Refused
beside_object x _ = Known false

abbrev pub beside_thing : Hw → Val → Pair
beside_thing x (val.Hw y) = if x.0 == y.0 then Known true else Refused
beside_thing x _ = Refused

abbrev pub pair_of : Val → Val → Pair
pair_of val.None b = beside_none b
pair_of (val.Bool x) b = beside_number (bit_number x) b
pair_of (val.Int m) b = beside_number m b
pair_of (val.Str x) b = beside_text x b
pair_of (val.Time x) b = Refused
pair_of (val.List x) b = beside_list x b
pair_of (val.Tuple x) b = beside_tuple x b
pair_of (val.Dict x) b = Refused
pair_of (val.Range x) b = Refused
pair_of (val.Func x) b = beside_func x b
pair_of (val.Class x) b = beside_class x b
pair_of (val.Object x) b = beside_object x b
pair_of (val.Hw x) b = beside_thing x b

-- ---- the rest

abbrev pub rows_equal : Seen → (List Val → List Val → Run Bool) → ℕ → ℕ → Run Bool
rows_equal s inner x y =
    if x == y then give true
    else (if length (row_at s x) == length (row_at s y) then inner (row_at s x) (row_at s y) else give false)

-- what two values are, by what their elements are
abbrev pub judged : Seen → (List Val → List Val → Run Bool) → Pair → Run Bool
judged s inner (Known b) = give b
judged s inner (Numbers m n) = give (int_eq m n)
judged s inner (Texts x y) = give (text_eq (text_at s x.0) (text_at s y.0))
judged s inner (Rows x y) = rows_equal s inner x.0 y.0
judged s inner Refused = refuse Raised

-- elements of two lists of one length; each pair costs one
abbrev pub all_equal : (Val → Val → Run Bool) → List Val → List Val → Run Bool
all_equal same [] ys = give true
all_equal same (x ∷ xs) [] = give true
all_equal same (x ∷ xs) (y ∷ ys) = after (later 1 (same x y)) (λ e. if e then all_equal same xs ys else give false)

abbrev pub too_deep : List Val → List Val → Run Bool
too_deep [] ys = give true
too_deep (x ∷ xs) ys = refuse Raised

-- elements of two lists of one length that may go so much deeper
unfoldable pub deeper : ℕ → Seen → List Val → List Val → Run Bool
deeper zero s xs ys = too_deep xs ys
deeper (suc n) s xs ys = all_equal (λ x y. judged s (deeper n s) (pair_of x y)) xs ys

abbrev pub equal_to : ℕ → Seen → Val → Val → Run Bool
equal_to n s a b = judged s (deeper n s) (pair_of a b)

-- lists may stand in one another 64 deep
abbrev pub equal : Seen → Val → Val → Run Bool
equal s a b = equal_to 64 s a b
