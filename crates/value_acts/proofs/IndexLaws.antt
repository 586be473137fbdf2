-- The expressions of indices and of all bits are such that a pool takes them.
use Rattle.std.specs.Prelude.{◌≡◌, refl, ℕ, zero, suc, ◌+◌, ◌-◌, ◌<◌, ◌≤◌, nat_lt, Bool, true, false, if◌then◌else◌, ℤ, pos, negsuc, List, [], ◌∷◌, ◌++◌, map, length, slice_index_or, slice_get, unwrap_or, Option, Some, None, Result, Ok, Err, IfOk}
use Rattle.std.specs.List.{range_with_len, AllByRecursion}
use Rattle.std.specs.Option.{option_and_then}
use Rattle.std.proofs.Common.{sym, ap, ◌∙◌, arith, length-append, append-nil, append_assoc}
use Rattle.std.proofs.Math.ListN.{get_or-append}
use Rattle.std.proofs.lemmas.Bool.Decides.{nat_tests, Decides-int_eq}
use Rattle.std.proofs.lemmas.List.{get_or-append-add}
use Rattle.std.proofs.lemmas.List.FromFn.{length-map-range_with_len, map-range_with_len_more}
use Rattle.shape_rules.specs.Forms.{Form, IsForm, unsigned}
use Rattle.design_ir.specs.declared.ids.ExprId.{ExprId}
use Rattle.design_ir.specs.declared.signal.Sig.{Sig}
use Rattle.design_ir.specs.declared.expr.Expr.{Expr}
use Rattle.design_ir.specs.declared.expr.Expr.TheVariants.{Slice, Cat}
use Rattle.design_ir.specs.Pools.{Pooled}
use Rattle.design_ir.specs.PoolRules.{AreExprs, IsExpr}
use Rattle.design_ir.specs.Named.{AllBelow}
use Rattle.design_ir.specs.Values.{form, total_width}
use Rattle.py_heap.specs.Changes.{index_place}
use Rattle.py_values.specs.Numbers.{number_of}
use Rattle.py_values.specs.declared.val.Val.{Val}
use Rattle.amh_things.specs.declared.thing.Thing.{Thing}
use Rattle.amh_things.specs.declared.thing.Thing.TheVariants as thing
use Rattle.amh_things.specs.declared.plan.Plan.{Plan}
use Rattle.amh_things.specs.declared.plan.PlanStop.{PlanStop}
use Rattle.amh_things.specs.Held.{AreHeld}
use Rattle.amh_things.specs.Plans.{forms, ends_of, value_made, IsPlanned, IsDrafted}
use Rattle.value_acts.specs.Indices.{bit, bits_below, ids_from, bit_made, run_made, bits_made, cut_made, is_by_one, bits_between, IsPlace, values_made, value_indexed, thing_indexed}
use Rattle.amh_things.specs.Things.{bare_expr}
use Rattle.value_acts.proofs.SliceLaws.{run_within, bits_few, bits_are_below}
use Rattle.std.specs.Ordering.{int_eq}
use Rattle.amh_things.proofs.Drafts.{forms_length, form_is, narrow, width_of_form, value_drafted}

-- ---- what is indexed

-- a value of whatever shape is indexed by its bits
pub indexed_value : (p : Pooled) (things : List Thing) (t : Option Thing) (e : ExprId) (vals : List Val) → bare_expr t ≡ Some e → thing_indexed p things t vals ≡ value_indexed (ends_of p things) e (form p e.0).width vals
indexed_value p things (Some (thing.Value x)) e vals is = let same : x ≡ e = cc in rw (← same) refl
indexed_value p things (Some (thing.Numbered h x)) e vals is = let same : x ≡ e = cc in rw (← same) refl
indexed_value p things (Some (thing.View h x)) e vals is = cc
indexed_value p things (Some (thing.Layout x)) e vals is = cc
indexed_value p things (Some (thing.Enumeration x)) e vals is = cc
indexed_value p things (Some (thing.Member x)) e vals is = cc
indexed_value p things (Some (thing.Name x)) e vals is = cc
indexed_value p things (Some (thing.Shape x)) e vals is = cc
indexed_value p things (Some (thing.Array x)) e vals is = cc
indexed_value p things (Some (thing.Method h x m)) e vals is = cc
indexed_value p things (Some (thing.Kept x)) e vals is = cc
indexed_value p things None e vals is = cc

-- ---- lists of numbers, from their begin and from their end

pub map_more : {A B : Type 0} (f : A → B) (xs : List A) (y : A) → map f (xs ++ y ∷ []) ≡ map f xs ++ f y ∷ []
map_more f [] y = refl
map_more f (x ∷ xs) y = ap (λ r. f x ∷ r) (map_more f xs y)

pub ids_more : (n count : ℕ) → ids_from n (count + 1) ≡ ids_from n count ++ (record { 0 = n + count }) ∷ []
ids_more n count = map-range_with_len_more (λ k. record { 0 = n + k }) 0 count count (omega arith)

pub values_more : (n count : ℕ) → map thing.Value (ids_from n (count + 1)) ≡ map thing.Value (ids_from n count) ++ thing.Value (record { 0 = n + count }) ∷ []
values_more n count = ap (map thing.Value) (ids_more n count) ∙ map_more thing.Value (ids_from n count) (record { 0 = n + count })

pub length_ids : (n count : ℕ) → length (ids_from n count) ≡ count
length_ids n count = length-map-range_with_len (λ k. record { 0 = n + k }) 0 count

less : (n m : ℕ) → nat_lt n m ≡ true → n < m
less n m h = grind (arith, nat_tests)

values_held : (n m a count : ℕ) → a + count ≤ m → AreHeld (n + m) (map thing.Value (map (λ k. record { 0 = n + k }) (range_with_len a count)))
values_held n m a zero h = tt
values_held n m a (suc count) h = (omega (arith, h), values_held n m (a + 1) count (omega (arith, h)))

-- ---- shapes of one bit

pub ones : ℕ → List Form
ones zero = []
ones (suc n) = unsigned 1 ∷ ones n

length-ones : (n : ℕ) → length (ones n) ≡ n
unfolding ones
length-ones zero = refl
length-ones (suc n) = ap suc (length-ones n)

get_or-ones : (n k : ℕ) → k < n → slice_index_or (ones n) k (unsigned 0) ≡ unsigned 1
unfolding ones
get_or-ones zero k h = absurd (omega (arith, h))
get_or-ones (suc n) zero h = refl
get_or-ones (suc n) (suc k) h = get_or-ones n k (omega (arith, h))

-- ---- slices of one expression, one after the other

module _ (sigs : List Sig) (e : ExprId) (f : Form) where
  -- the expression is among those that are known, and has this shape
  abbrev pub IsKnown : List Form → Type 0
  IsKnown known = (e.0 < length known) × (slice_index_or known e.0 (unsigned 0) ≡ f)

  known_more : (known : List Form) (g : Form) → IsKnown known → IsKnown (known ++ g ∷ [])
  known_more known g h = (omega (arith, h.0, length-append known (g ∷ [])), get_or-append known (g ∷ []) (unsigned 0) e.0 h.0 ∙ h.1)

  pub slice_taken : (known : List Form) (low width : ℕ) → IsKnown known → low + width ≤ f.width → width ≤ 128 → IsExpr sigs known (Slice e low width)
  slice_taken known low width h fits few =
      let wide : (slice_index_or known e.0 (unsigned 0)).width ≡ f.width = ap (λ (x : Form). x.width) h.1 in
      record { names = (h.0, tt); formed = tt; parts = omega (arith, fits, wide); accepted = narrow width few }

  pub bits_taken : (known : List Form) (ks : List ℕ) (es : List Expr) → IsKnown known → AllByRecursion (λ k. k < f.width) ks → AreExprs sigs (known ++ ones (length ks)) es → AreExprs sigs known (map (bit e) ks ++ es)
  unfolding ones
  bits_taken known [] es h all rest = rw append-nil at rest
  bits_taken known (k ∷ ks) es h all rest =
      let rest' : AreExprs sigs ((known ++ unsigned 1 ∷ []) ++ ones (length ks)) es = rw append_assoc rest in
      (slice_taken known k 1 h (omega (arith, all.0)) (omega arith), bits_taken (known ++ unsigned 1 ∷ []) ks es (known_more known (unsigned 1) h) all.1 rest')

-- ---- bits one above the other

module _ (known : List Form) (count : ℕ) where
  at_bit : (k : ℕ) → k < count → slice_index_or (known ++ ones count) (length known + k) (unsigned 0) ≡ unsigned 1
  at_bit k h = get_or-append-add known (ones count) k (unsigned 0) ∙ get_or-ones count k h

  ids_width : (a n : ℕ) → a + n ≤ count → total_width (λ k. slice_index_or (known ++ ones count) k (unsigned 0)) (map (λ k. record { 0 = length known + k }) (range_with_len a n)) ≡ n
  ids_width a zero h = refl
  ids_width a (suc n) h =
      let here : (slice_index_or (known ++ ones count) (length known + a) (unsigned 0)).width ≡ 1 = ap (λ (x : Form). x.width) (at_bit a (omega (arith, h))) in
      omega (arith, here, ids_width (a + 1) n (omega (arith, h)))

  ids_below : (a n : ℕ) → a + n ≤ count → AllBelow (length (known ++ ones count)) (map (λ k. record { 0 = length known + k }) (range_with_len a n))
  ids_below a zero h = tt
  ids_below a (suc n) h = (omega (arith, h, length-append known (ones count), length-ones count), ids_below (a + 1) n (omega (arith, h)))

  pub cat_taken : (sigs : List Sig) → count ≤ 128 → IsExpr sigs (known ++ ones count) (Cat (ids_from (length known) count))
  cat_taken sigs few =
      let width = ids_width 0 count (omega arith) in
      record { names = ids_below 0 count (omega arith); formed = tt; parts = tt; accepted = narrow (total_width (λ k. slice_index_or (known ++ ones count) k (unsigned 0)) (ids_from (length known) count)) (omega (arith, width, few)) }

pub range_below : (a count most : ℕ) → a + count ≤ most → AllByRecursion (λ k. k < most) (range_with_len a count)
range_below a zero most h = tt
range_below a (suc count) most h = (omega (arith, h), range_below (a + 1) count most (omega (arith, h)))

-- ---- one bit

module _ (p : Pooled) (things : List Thing) (e : ExprId) (f : Form) (there : e.0 < length p.exprs) (is : f ≡ form p e.0) (formed : IsForm f.width f.signed) where
  pub known : IsKnown p.signals e f (forms p)
  known = (omega (arith, there, forms_length p), sym (is ∙ form_is p e.0))

  bit_drafted : (k : ℕ) → k < f.width → IsDrafted p (value_made (ends_of p things) [] (bit e k))
  bit_drafted k h = value_drafted p things [] (bit e k) (slice_taken p.signals e f (forms p) k 1 known (omega (arith, h)) (omega arith), tt)

  below_width : (n k : ℕ) (b : Bool) (j : ℕ) → nat_lt n f.width ≡ b → (b ≡ true → j < f.width) → (if b then Some j else None) ≡ Some k → k < f.width
  below_width n k true j is_less h g = let same : j ≡ k = cc in omega (arith, same, h refl)
  below_width n k false j is_less h g = cc

  place_below : (n : ℤ) (k : ℕ) → index_place f.width n ≡ Some k → k < f.width
  place_below (pos n) k h = below_width n k (nat_lt n f.width) n refl (λ b. less n f.width b) h
  place_below (negsuc n) k h = below_width n k (nat_lt n f.width) (f.width - suc n) refl (λ b. omega (arith, less n f.width b)) h

  bit_made_drafted : (o : Option ℕ) (plan : Plan) → ((k : ℕ) → o ≡ Some k → k < f.width) → bit_made (ends_of p things) e o ≡ Ok plan → IsDrafted p plan
  bit_made_drafted None plan h made = cc
  bit_made_drafted (Some k) plan h made =
      let is_plan : value_made (ends_of p things) [] (bit e k) ≡ plan = cc in
      rw (← is_plan) (bit_drafted k (h k refl))

  place_of_below : (n : Option ℤ) (k : ℕ) → option_and_then (index_place f.width) n ≡ Some k → k < f.width
  place_of_below None k h = cc
  place_of_below (Some n) k h = place_below n k h

  pub index_drafted : (r : Result Plan PlanStop) (i : Val) → IsPlanned r (bit_made (ends_of p things) e (option_and_then (index_place f.width) (number_of i))) → IfOk r (IsDrafted p)
  index_drafted (Ok plan) i made = bit_made_drafted (option_and_then (index_place f.width) (number_of i)) plan (place_of_below (number_of i)) made
  index_drafted (Err stop) i made = tt

  -- ---- slices

  width_few : f.width ≤ 128
  width_few = width_of_form f.width f.signed formed

  run_drafted : (places : List ℕ) → unwrap_or (slice_get places 0) 0 + length places ≤ f.width → IsDrafted p (run_made (ends_of p things) e places)
  run_drafted places fits =
      value_drafted p things [] _ (slice_taken p.signals e f (forms p) (unwrap_or (slice_get places 0) 0) (length places) known fits (omega (arith, fits, width_few)), tt)

  bits_made_drafted : (places : List ℕ) → AllByRecursion (λ k. k < f.width) places → length places ≤ f.width → IsDrafted p (bits_made (ends_of p things) e places)
  bits_made_drafted places below few =
      value_drafted p things (map (bit e) places) _ (bits_taken p.signals e f (forms p) places _ known below (rw (forms_length p) at (cat_taken (forms p) (length places) p.signals (omega (arith, few, width_few))), tt))

  cut_made_drafted : (start stop step : ℤ) (b : Bool) (plan : Plan) → int_eq step (pos 1) ≡ b → IsPlace f.width step start → IsPlace f.width step stop
      → cut_made (ends_of p things) e b (Some (bits_between f.width start stop step)) ≡ Ok plan → IsDrafted p plan
  cut_made_drafted start stop step true plan one hs ht made =
      let decided = rw one at (Decides-int_eq step (pos 1)) in
      let is_one : step ≡ pos 1 = decided.0 refl in
      let is_plan : run_made (ends_of p things) e (bits_between f.width start stop step) ≡ plan = cc in
      rw (← is_plan) (run_drafted (bits_between f.width start stop step) (rw is_one (run_within f.width start stop (rw is_one at hs) (rw is_one at ht))))
  cut_made_drafted start stop step false plan one hs ht made =
      let is_plan : bits_made (ends_of p things) e (bits_between f.width start stop step) ≡ plan = cc in
      rw (← is_plan) (bits_made_drafted (bits_between f.width start stop step) (bits_are_below f.width start stop step) (bits_few f.width start stop step hs ht))

  pub slice_drafted : (r : Result Plan PlanStop) (start stop step : ℤ) → IsPlace f.width step start → IsPlace f.width step stop
      → IsPlanned r (cut_made (ends_of p things) e (is_by_one (Some step)) (Some (bits_between f.width start stop step))) → IfOk r (IsDrafted p)
  slice_drafted (Ok plan) start stop step hs ht made = cut_made_drafted start stop step (int_eq step (pos 1)) plan refl hs ht made
  slice_drafted (Err stop) start stop' step hs ht made = tt

  -- ---- all bits

  pub all_bits_drafted : IsDrafted p (values_made (ends_of p things) (map (bit e) (bits_below f.width)))
  all_bits_drafted =
      let taken = bits_taken p.signals e f (forms p) (bits_below f.width) [] known (range_below 0 f.width f.width (omega arith)) tt in
      let es = map (bit e) (bits_below f.width) in
      record { exprs = rw append-nil at taken; things = values_held (length p.exprs) (length es) 0 (length es) (omega arith) }

  pub bits_drafted : (r : Result Plan PlanStop) → IsPlanned r (Ok (values_made (ends_of p things) (map (bit e) (bits_below f.width)))) → IfOk r (IsDrafted p)
  bits_drafted (Ok plan) made = let is_plan : values_made (ends_of p things) (map (bit e) (bits_below f.width)) ≡ plan = cc in rw (← is_plan) all_bits_drafted
  bits_drafted (Err stop) made = tt
