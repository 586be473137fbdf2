-- Fields lie within the width of their layout.
use Rattle.std.specs.Prelude.{◌≡◌, refl, ℕ, zero, suc, ◌+◌, ◌*◌, ◌≤◌, ◌||◌, nat_lt, Bool, false, List, [], ◌∷◌, length, map, slice_get, Option, Some, None}
use Rattle.std.specs.List.{list_any, range_with_len, AllByRecursion}
use Rattle.std.proofs.Common.{ap, ◌∙◌, arith}
use Rattle.std.proofs.lemmas.Bool.Decides.{nat_tests}
use Rattle.std.proofs.lemmas.List.FromFn.{length-map-range_with_len}
use Rattle.shape_rules.specs.Forms.{Form}
use Rattle.data_layouts.specs.declared.field.Field.{Field}
use Rattle.data_layouts.specs.Layouts.{IsWithin, array_of, item_at}
use Rattle.data_layouts.proofs.LayoutLaws.{within_array}
use Rattle.amh_things.specs.declared.thing.Reading.{Reading}
use Rattle.layout_acts.specs.declared.fields.FieldRead.{FieldRead}
use Rattle.layout_acts.specs.Views.{field_with, is_outside}
use Rattle.layout_acts.specs.Laws.{FieldsLieWithin, ItemsLieWithin}

-- what holds of all fields holds of one of them, as it is read
read_within : (width : ℕ) (xs : List Field) (i : ℕ) (r : Option Reading) (f : FieldRead) → AllByRecursion (IsWithin width) xs → field_with (slice_get xs i) r ≡ Some f → f.low + f.shape.width ≤ width
read_within width [] i r f all is = cc
read_within width (x ∷ xs) zero None f all is = cc
read_within width (x ∷ xs) zero (Some r) f all is = let same : record { low = x.low; shape = x.shape; reading = r } ≡ f = cc in rw (← same) all.0
read_within width (x ∷ xs) (suc i) r f all is = read_within width xs i r f all.1 is

pub fields_lie_within : FieldsLieWithin
fields_lie_within l i f laid is = read_within l.layout.width l.layout.fields i (slice_get l.readings i) f laid.within is

not_less : (n m : ℕ) → m ≤ n → nat_lt n m ≡ false
not_less n m h = grind (arith, nat_tests)

both_false : (a b : Bool) → a ≡ false → b ≡ false → (a || b) ≡ false
both_false a b e f = rw (e, f) refl

none_outside : (width : ℕ) (item : Form) (ks : List ℕ) → AllByRecursion (IsWithin width) (map (item_at item) ks) → list_any (is_outside width item.width) (map (item_at item) ks) ≡ false
none_outside width item [] all = refl
none_outside width item (k ∷ ks) all =
    both_false (nat_lt width (k * item.width + item.width)) (list_any (is_outside width item.width) (map (item_at item) ks)) (not_less width (k * item.width + item.width) all.0) (none_outside width item ks all.1)

pub items_lie_within : ItemsLieWithin
items_lie_within item count few =
    let number : length (map (item_at item) (range_with_len 0 count)) ≡ count = length-map-range_with_len (item_at item) 0 count in
    both_false (nat_lt 255 (length (array_of item count).fields)) (list_any (is_outside (array_of item count).width item.width) (array_of item count).fields)
    (ap (λ n. nat_lt 255 n) number ∙ not_less 255 count few) (none_outside (count * item.width) item (range_with_len 0 count) (within_array item count))
