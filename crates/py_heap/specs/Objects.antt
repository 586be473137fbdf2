-- Classes and objects: their attributes.
-- Source: Python reference 3.2 (custom classes, class instances), 6.3.1, Attribute references; one base, counts: own rule (docs/RULES.md).
use Rattle.std.specs.Prelude.{ℕ, zero, suc, ◌+◌, ◌-◌, ◌||◌, nat_lt, Bool, false, if◌then◌else◌, List, [], ◌∷◌, ◌++◌, length, map, slice_get, slice_set, Option, Some, None, Result, Ok, Err}
use Rattle.std.specs.Str.{chars}
use Rattle.std.specs.List.{list_any}
use Rattle.lists.specs.Texts.{text_eq}
use Rattle.py_values.specs.declared.val.Val.{Val}
use Rattle.py_values.specs.declared.val.Val.TheVariants as val
use Rattle.py_values.specs.declared.val.ObjId.{ObjId}
use Rattle.py_values.specs.declared.val.ValueStop.{ValueStop}
use Rattle.py_values.specs.declared.val.ValueStop.TheVariants.{Limit, Raised}
use Rattle.py_values.specs.declared.func.Scope.{Scope}
use Rattle.py_heap.specs.declared.objects.Inherited.{Inherited}
use Rattle.py_heap.specs.declared.objects.Inherited.TheVariants.{Found, Thing, Nowhere}
use Rattle.py_heap.specs.Heaps.{Made, Seen, text_at, row_at, row_of}
use Rattle.py_heap.specs.Members.{value_place}
use Rattle.py_heap.specs.Places.{named, new_row}
use Rattle.py_values.specs.Bindings.{Binding}
use Rattle.py_heap.specs.Changes.{own_number, row_set}

-- behind its first item a class or an object has its attributes
abbrev pub attributes : List Val → List Val
attributes [] = []
attributes (x ∷ row) = row

abbrev pub is_named : Seen → List ℕ → Val → Bool
is_named s name (val.Str x) = text_eq (text_at s x.0) name
is_named s name _ = false

abbrev pub value_at : List Val → Option ℕ → Option Val
value_at row None = None
value_at row (Some i) = slice_get row i

-- the value of a name in a row of names and their values
abbrev pub attribute_in : Seen → List ℕ → List Val → Option Val
attribute_in s name row = value_at row (value_place (is_named s name) 0 row)

-- ---- new ones

-- a string of the program's text has at most 4,096 characters
abbrev pub is_long : List ℕ → Bool
is_long name = nat_lt 4096 (length (chars name))

-- an object of a class counts as one item
abbrev pub new_object : Seen → Val → Result (Val × Made) ValueStop
new_object s class = named (λ n. val.Object (record { 0 = n })) (new_row s (class ∷ []))

-- so many items more pass the count of all
abbrev pub attributes_pass : Seen → ℕ → Bool
attributes_pass s n = nat_lt 4194304 (s.frozen.items + s.own.items + n)

abbrev pub names_in : List Binding → List (List ℕ)
names_in bs = map (λ b. b.0) bs

-- names and values as items of a row, where the strings of the names have the numbers from n on
abbrev pub listed : ℕ → List Binding → List Val
listed n [] = []
listed n (b ∷ bs) = val.Str (record { 0 = n }) ∷ b.1 ∷ listed (suc n) bs

abbrev pub base_of : Option Val → Val
base_of None = val.None
base_of (Some base) = base

-- names and values behind the items of a row, and the strings of the names behind the others
abbrev pub name_listed : ℕ → List (List ℕ) → List Val → List ℕ → Val → Result (Unit {0} × (List (List ℕ) × List Val)) ValueStop
name_listed before texts row name v =
    if is_long name then Err Limit
    else Ok (tt, (texts ++ name ∷ [], row ++ val.Str (record { 0 = before + length texts }) ∷ v ∷ []))

abbrev pub names_listed : ℕ → List (List ℕ) → List Val → List Binding → Result (Unit {0} × (List (List ℕ) × List Val)) ValueStop
names_listed before texts row bs =
    if list_any is_long (names_in bs) then Err Limit
    else Ok (tt, (texts ++ names_in bs, row ++ listed (before + length texts) bs))

-- the row of a class, and the strings with those of its names
abbrev pub class_row : ℕ → List (List ℕ) → Option Val → List Binding → Result (List Val × List (List ℕ)) ValueStop
class_row before texts base bs =
    if list_any is_long (names_in bs) then Err Limit
    else Ok (base_of base ∷ listed (before + length texts) bs, texts ++ names_in bs)

abbrev pub class_with : Seen → ℕ → Result (List Val × List (List ℕ)) ValueStop → Result (Val × Made) ValueStop
class_with s n (Err stop) = Err stop
class_with s n (Ok x) =
    Ok (val.Class (record { 0 = length s.frozen.rows + length s.own.rows }), record s.own { texts = x.1; rows = s.own.rows ++ x.0 ∷ []; items = s.own.items + n })

-- a class counts as one item, and each of its names as one
abbrev pub class_of : Seen → Option Val → List Binding → Result (Val × Made) ValueStop
class_of s base bs =
    if attributes_pass s (1 + length bs) then Err Limit
    else class_with s (1 + length bs) (class_row (length s.frozen.texts) s.own.texts base bs)

-- of a scope of this heap; what was frozen makes none
abbrev pub class_at : Seen → Option Val → Option Scope → Result (Val × Made) ValueStop
class_at s base None = Err Raised
class_at s base (Some scope) = class_of s base scope.bindings

-- the class of what a scope binds
abbrev pub new_class : Seen → Option Val → ℕ → Result (Val × Made) ValueStop
new_class s base n =
    if nat_lt n (length s.frozen.scopes) then Err Raised else class_at s base (slice_get s.own.scopes (n - length s.frozen.scopes))

-- ---- assignment to an attribute: a name keeps its place, and a new one comes last

abbrev pub attribute_added : Seen → ℕ → List Val → List ℕ → Val → Result (Unit {0} × Made) ValueStop
attribute_added s i row name v =
    if is_long name || attributes_pass s 1 then Err Limit
    else Ok (
      tt,
      record s.own {
        texts = s.own.texts ++ name ∷ [];
        rows = slice_set s.own.rows i (row ++ val.Str (record { 0 = length s.frozen.texts + length s.own.texts }) ∷ v ∷ []);
        items = s.own.items + 1;
      },
    )

-- the place is counted behind the first item
abbrev pub attribute_set_in : Seen → ℕ → List Val → Option ℕ → List ℕ → Val → Result (Unit {0} × Made) ValueStop
attribute_set_in s i row (Some k) name v = row_set s.own i row (Some (k + 1)) v
attribute_set_in s i row None name v = attribute_added s i row name v

abbrev pub attribute_set_at : Seen → Option ℕ → List ℕ → Val → Result (Unit {0} × Made) ValueStop
attribute_set_at s None name v = Err Raised
attribute_set_at s (Some i) name v =
    attribute_set_in s i (row_of s.own.rows i) (value_place (is_named s name) 0 (attributes (row_of s.own.rows i))) name v

-- `o.name = v`, of an object or a class
abbrev pub attribute_set : Seen → ℕ → List ℕ → Val → Result (Unit {0} × Made) ValueStop
attribute_set s o name v = attribute_set_at s (own_number (length s.frozen.rows) (length s.own.rows) o) name v

-- ---- what a class has by itself or from its base

abbrev pub first_in : List Val → Val
first_in [] = val.None
first_in (x ∷ row) = x

-- of a class or of what is beyond it
abbrev pub inherited_or : ObjId → Option Val → Inherited → Inherited
inherited_or class (Some v) behind = Found v (val.Class class)
inherited_or class None behind = behind

abbrev pub of_base : (ObjId → Inherited) → Val → Inherited
of_base f (val.Class base) = f base
of_base f (val.Hw thing) = Thing thing
of_base f _ = Nowhere

-- in so many classes at most, each the base of the last
unfoldable pub inherited_in : ℕ → Seen → List ℕ → ObjId → Inherited
inherited_in zero s name class = Nowhere
inherited_in (suc n) s name class =
    inherited_or class (attribute_in s name (attributes (row_at s class.0))) (of_base (inherited_in n s name) (first_in (row_at s class.0)))

-- a base was made before its class, so there are no more classes than the number of the first one says
abbrev pub inherited : Seen → List ℕ → ObjId → Inherited
inherited s name class = inherited_in (class.0 + 1) s name class
