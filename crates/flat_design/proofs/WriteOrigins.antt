-- From which writes the writes of a slice, a part or an item come.
use Rattle.std.specs.Prelude.{◌≡◌, refl, ℕ, zero, suc, ◌+◌, ◌-◌, ◌*◌, ◌<◌, ◌≤◌, ◌⊎◌, min, max, nat_le, nat_lt, ◌==◌, ◌&&◌, Bool, true, false, if◌then◌else◌, List, [], ◌∷◌, ◌++◌, map, length, slice_get, Some, None, Contains}
use Rattle.std.specs.List.{flat_map, filter_map, range_with_len, enumerate_from}
use Rattle.std.proofs.Common.{sym, ◌∙◌, ap, arith, subst, ⊎_elim, inl, inr}
use Rattle.std.proofs.lemmas.Bool.{and_parts, leb-true, ltb-true}
use Rattle.std.proofs.lemmas.List.Elements.{Contains-append_cases}
use Rattle.design_ir.specs.declared.ids.ExprId.{ExprId}
use Rattle.design_ir.specs.Targets.{Numbers}
use Rattle.design_ir.proofs.Elements.{some_is, contains_none, contains_cases, map_of, filter_of, flat_of, range_of}
use Rattle.flat_design.specs.declared.writes.Test.{Test}
use Rattle.flat_design.specs.declared.writes.Write.{Write}
use Rattle.flat_design.specs.Writes.{cut, tested, is_number, is_no_less, part_at, parts_at, item_at}
use Rattle.flat_design.proofs.WriteChoices.{strided}

-- ---- tests of lists

if_some : {A : Type 0} (t : Bool) (y x : A) → (if t then Some y else None) ≡ Some x → (t ≡ true) × (y ≡ x)
if_some true y x e = (refl, some_is y x e)
if_some false y x e = cc

pub if_has : {A : Type 0} (t : Bool) (xs : List A) (x : A) → Contains (if t then xs else []) x → (t ≡ true) × Contains xs x
if_has true xs x c = (refl, c)
if_has false xs x c = absurd (contains_none x c)

pub if_not : {A : Type 0} (t : Bool) (xs : List A) (x : A) → Contains (if t then [] else xs) x → (t ≡ false) × Contains xs x
if_not false xs x c = (refl, c)
if_not true xs x c = absurd (contains_none x c)

enumerate_of : (a : ℕ) (es : List ExprId) (x : ℕ × ExprId) → Contains (enumerate_from a es) x → (a ≤ x.0) × (slice_get es (x.0 - a) ≡ Some x.1)
enumerate_of a [] x c = absurd (contains_none x c)
enumerate_of a (e ∷ es) x c =
    ⊎_elim
    (λ (same : (a, e) ≡ x). (omega (arith, ap (λ (y : ℕ × ExprId). y.0) same), ap (slice_get (e ∷ es)) (let z : x.0 - a ≡ 0 = omega (arith, ap (λ (y : ℕ × ExprId). y.0) same) in z) ∙ ap (λ (y : ℕ × ExprId). Some y.1) same))
    (λ (more : Contains (enumerate_from (a + 1) es) x).
    let r = enumerate_of (a + 1) es x more in
    (omega (arith, r.0), ap (slice_get (e ∷ es)) (let z : x.0 - a ≡ suc (x.0 - (a + 1)) = omega (arith, r.0) in z) ∙ r.1))
    (contains_cases (a, e) x (enumerate_from (a + 1) es) c)

-- ---- what is cut off a write

pub record IsCut (low width : ℕ) (of w : Write) : Type 0 where
  pub sig : w.sig ≡ of.sig
  pub skip : ℕ
  pub bits : w.low ≡ of.low + skip
  pub place : low + w.from ≡ of.from + skip
  pub some : 0 < w.width
  pub rest : skip + w.width ≤ of.width
  pub upto : w.from + w.width ≤ width
  pub tests : w.tests ≡ of.tests

pub cut_origin : (low width : ℕ) (of w : Write) → cut low width of ≡ Some w → IsCut low width of w
cut_origin low width of w e =
    let from : ℕ = max of.from low in
    let end : ℕ = min (of.from + of.width) (low + width) in
    let piece : Write = record of { from = from - low; low = of.low + (from - of.from); width = end - from } in
    let r = if_some (nat_lt from end) piece w e in
    let less : from < end = ltb-true from end r.0 in
    subst (λ (x : Write). IsCut low width of x) r.1 (record {
      sig = refl;
      skip = from - of.from;
      bits = refl;
      place = omega arith;
      some = omega (arith, less);
      rest = omega (arith, less);
      upto = omega (arith, less);
      tests = refl;
    })

-- ---- one test more

-- the same bits, at most with a test of the index more
pub record IsTested (index : ExprId) (of w : Write) : Type 0 where
  pub sig : w.sig ≡ of.sig
  pub low : w.low ≡ of.low
  pub width : w.width ≡ of.width
  pub from : w.from ≡ of.from
  pub tests : (t : Test) → Contains w.tests t → Contains of.tests t ⊎ (t.index ≡ index)

untested : (index : ExprId) (w : Write) → IsTested index w w
untested index w = record { sig = refl; low = refl; width = refl; from = refl; tests = λ t c. inl c }

tested_if : (b : Bool) (t : Test) (w : Write) → IsTested t.index w (if b then w else record w { tests = w.tests ++ t ∷ [] })
tested_if true t w = untested t.index w
tested_if false t w = record {
  sig = refl;
  low = refl;
  width = refl;
  from = refl;
  tests = λ x c.
      ⊎_elim
      (λ own. inl own)
      (λ (more : Contains (t ∷ []) x). ⊎_elim (λ (same : t ≡ x). inr (ap (λ (y : Test). y.index) (sym same))) (λ none. absurd (contains_none x none)) (contains_cases t x [] more))
      (Contains-append_cases w.tests (t ∷ []) x c);
}

tested_origin : (n : Numbers) (t : Test) (w : Write) → IsTested t.index w (tested n t w)
tested_origin n t w = tested_if (n.least == n.greatest) t w

-- ---- parts

pub record PartOrigin (n : Numbers) (offset : ExprId) (width stride : ℕ) (whole : List Write) (w : Write) : Type 0 where
  pub number : ℕ
  pub above : n.least ≤ number
  pub below : number ≤ n.greatest
  pub of : Write
  pub among : Contains whole of
  pub piece : Write
  pub is_cut : IsCut (number * stride) width of piece
  pub is_tested : IsTested offset piece w

pub part_origin : (n : Numbers) (offset : ExprId) (wide width stride : ℕ) (whole : List Write) (w : Write) → n.least ≤ n.greatest → Contains (parts_at n offset wide width stride whole) w → PartOrigin n offset width stride whole w
part_origin n offset wide width zero whole w some c =
    let f = filter_of (cut 0 width) whole w c in
    let still : 0 ≡ n.least * zero = omega arith in
    record { number = n.least; above = omega arith; below = some; of = f.0; among = f.1; piece = w; is_cut = subst (λ low. IsCut low width f.0 w) still (cut_origin 0 width f.0 w f.2); is_tested = untested offset w }
part_origin n offset wide width (suc stride) whole w some c =
    let count : ℕ = min (n.greatest - n.least) wide + 1 in
    let o = flat_of (part_at n offset width (suc stride) whole) (range_with_len n.least count) w (subst (λ ws. Contains ws w) (strided n offset wide width stride whole) c) in
    let r = range_of n.least count o.0 o.1 in
    let m = map_of (tested n (is_number offset o.0)) (filter_map (cut (o.0 * suc stride) width) whole) w o.2 in
    let f = filter_of (cut (o.0 * suc stride) width) whole m.0 m.1 in
    record {
      number = o.0;
      above = r.0;
      below = omega (arith, r.1, some);
      of = f.0;
      among = f.1;
      piece = m.0;
      is_cut = cut_origin (o.0 * suc stride) width f.0 m.0 f.2;
      is_tested = subst (λ (x : Write). IsTested offset m.0 x) m.2 (tested_origin n (is_number offset o.0) m.0);
    }

-- ---- items

pub record ItemOrigin (n : Numbers) (index : ExprId) (writes : ℕ → List Write) (es : List ExprId) (w : Write) : Type 0 where
  pub place : ℕ
  pub item : ExprId
  pub there : slice_get es place ≡ Some item
  pub above : min n.least (length es - 1) ≤ place
  pub below : place ≤ n.greatest
  pub of : Write
  pub among : Contains (writes item.0) of
  pub is_tested : IsTested index of w

test_index : (b : Bool) (index : ExprId) (i : ℕ) → (if b then is_no_less index i else is_number index i).index ≡ index
test_index true index i = refl
test_index false index i = refl

pub item_origin : (n : Numbers) (index : ExprId) (writes : ℕ → List Write) (es : List ExprId) (w : Write) → Contains (flat_map (item_at n index (length es - 1) writes) (enumerate_from 0 es)) w → ItemOrigin n index writes es w
item_origin n index writes es w c =
    let last : ℕ = length es - 1 in
    let x = flat_of (item_at n index last writes) (enumerate_from 0 es) w c in
    let i : ℕ = (x.0).0 in
    let e : ExprId = (x.0).1 in
    let there = enumerate_of 0 es x.0 x.1 in
    let t : Test = if i == last then is_no_less index i else is_number index i in
    let r = if_has (nat_le (min n.least last) i && nat_le i n.greatest) (map (tested n t) (writes e.0)) w x.2 in
    let in_range = and_parts (nat_le (min n.least last) i) (nat_le i n.greatest) r.0 in
    let m = map_of (tested n t) (writes e.0) w r.1 in
    record {
      place = i;
      item = e;
      there = ap (slice_get es) (let z : i ≡ i - 0 = omega arith in z) ∙ there.1;
      above = leb-true (min n.least last) i in_range.0;
      below = leb-true i n.greatest in_range.1;
      of = m.0;
      among = m.1;
      is_tested = subst (λ (a : ExprId). IsTested a m.0 w) (test_index (i == last) index i) (subst (λ (y : Write). IsTested t.index m.0 y) m.2 (tested_origin n t m.0));
    }
