-- The place of one bit of a target, by what the target is made of.
use Rattle.std.specs.Prelude.{◌≡◌, ⊤, refl, ℕ, zero, suc, ◌+◌, ◌-◌, ◌*◌, ◌<◌, ◌≤◌, nat_lt, pos, min, Bool, true, false, cond, List, [], ◌∷◌, ◌++◌, map, length, take, drop, replicate, slice_get, ℤ, unsigned_abs, Option, Some, None}
use Rattle.std.specs.List.{flat_map, list_all, range_with_len}
use Rattle.std.proofs.Common.{sym, ◌∙◌, ap, arith, subst, ⊎_elim, get_or}
use Rattle.std.proofs.lemmas.Bool.{cases_Bool, ltb-true, ltb-false, lt-ltb, le-ltb, cases_lt, false≢true}
use Rattle.std.proofs.lemmas.List.{get_or-take, get_or-drop, get_or_past, at_drop_more}
use Rattle.std.proofs.Math.ListN.{get_or-append}
use Rattle.shape_rules.specs.Forms.{Form}
use Rattle.design_ir.specs.declared.ids.ExprId.{ExprId}
use Rattle.design_ir.specs.declared.ids.SigId.{SigId}
use Rattle.design_ir.specs.declared.expr.Expr as expr
use Rattle.design_ir.specs.declared.expr.Expr.{Expr}
use Rattle.design_ir.specs.declared.expr.Expr.TheVariants.{Const, Unary, Binary, Mux, Slice, Cat, Part, Pick, Cast, Matches, Reset}
use Rattle.design_ir.specs.Circuits.{is_among}
use Rattle.design_ir.specs.Named.{named, AllBelow}
use Rattle.design_ir.specs.Pools.{Pooled}
use Rattle.design_ir.specs.PoolRules.{IsPool}
use Rattle.design_ir.specs.Targets.{Bit, padded, target_test, target_bits, is_target}
use Rattle.design_ir.specs.Values.{form, num, signal_form, picked, common_of_all}
use Rattle.design_ir.proofs.Equations.{standing, form_is}
use Rattle.design_ir.proofs.TargetLaws.{and_true, target_is, is_target_is, target_length, padded_length}
use Rattle.delta_sim.specs.declared.place.Walk.{Walk}
use Rattle.delta_sim.specs.declared.place.Walk.TheVariants.{Ends, GoesOn}
use Rattle.sim_plans.specs.Tasks.{IsRead, AreAmong, places_of}
use Rattle.delta_sim.specs.Walked.{signal_place, window, item_at, place_of, IsWalked}
use Rattle.sim_plans.proofs.Among.{among_index, all_first, there_at}
use Rattle.sim_plans.proofs.Items.{below_at, picked_is}
use Rattle.sim_plans.proofs.TargetsInside.{target_few}

-- ---- places in lists

take_past : {A : Type 0} (w : ℕ) (xs : List A) (i : ℕ) (d : A) → w ≤ i → get_or (take w xs) i d ≡ d
take_past zero [] i d h = refl
take_past zero (x ∷ xs) i d h = refl
take_past (suc w) [] i d h = refl
take_past (suc w) (x ∷ xs) zero d h = absurd (omega (arith, h))
take_past (suc w) (x ∷ xs) (suc i) d h = take_past w xs i d (omega (arith, h))

nones : {A : Type 0} (none : A) (w i : ℕ) → get_or (replicate w none) i none ≡ none
nones none zero i = refl
nones none (suc w) zero = refl
nones none (suc w) (suc i) = nones none w i

with_nones : (xs : List (Option Bit)) (w i : ℕ) → get_or (xs ++ replicate w None) i None ≡ get_or xs i None
with_nones [] w i = nones None w i
with_nones (x ∷ xs) w zero = refl
with_nones (x ∷ xs) w (suc i) = with_nones xs w i

padded_at : (w : ℕ) (xs : List (Option Bit)) (i : ℕ) → i < w → get_or (padded w xs) i None ≡ get_or xs i None
padded_at w xs i h = get_or-take w (xs ++ replicate w None) i None h ∙ with_nones xs w i

-- from here on or from where every target has ended
from_start : (xs : List (Option Bit)) (by i : ℕ) → length xs ≤ 128 → get_or xs (min by 128 + i) None ≡ get_or xs (by + i) None
from_start xs by i few =
    ⊎_elim
    (λ (h : by < 128). let e : min by 128 ≡ by = omega (arith, h) in ap (λ k. get_or xs (k + i) None) e)
    (λ (h : 128 ≤ by). get_or_past xs (min by 128 + i) None (omega (arith, h, few)) ∙ sym (get_or_past xs (by + i) None (omega (arith, h, few))))
    (cases_lt by 128)

abbrev bit_at : ℕ → ℕ → Bit
bit_at s j = record { sig = s; index = j }

bits_inside : (s a w i : ℕ) → i < w → get_or (map (λ b. Some b) (map (bit_at s) (range_with_len a w))) i None ≡ Some (bit_at s (a + i))
bits_inside s a zero i h = absurd (omega (arith, h))
bits_inside s a (suc w) zero h = let e : a ≡ a + 0 = omega arith in ap (λ k. Some (bit_at s k)) e
bits_inside s a (suc w) (suc i) h =
    let e : a + 1 + i ≡ a + suc i = omega arith in
    bits_inside s (a + 1) w i (omega (arith, h)) ∙ ap (λ k. Some (bit_at s k)) e

bits_past : (s a w i : ℕ) → w ≤ i → get_or (map (λ b. Some b) (map (bit_at s) (range_with_len a w))) i None ≡ None
bits_past s a zero i h = refl
bits_past s a (suc w) zero h = absurd (omega (arith, h))
bits_past s a (suc w) (suc i) h = bits_past s (a + 1) w i (omega (arith, h))

-- ---- steps

module _ (p : Pooled) (env nums : List ℤ) (list : List ExprId) (read : IsRead p env nums list) where
  rules : IsPool p
  rules = read.rules

  -- what is among those that are read is an expression whose integer is known
  pub among_below : (k : ℕ) → is_among (places_of list) k ≡ true → k < length nums
  among_below k h =
      let r = among_index list k h in
      subst (λ j. j < length nums) r.3 (there_at (length nums) list r.0 r.1 read.program.there r.2)

  pub among_there : (k : ℕ) → is_among (places_of list) k ≡ true → k < length p.exprs
  among_there k h = omega (arith, among_below k h, read.few)

  pub among_known : (k : ℕ) → is_among (places_of list) k ≡ true → get_or nums k (pos 0) ≡ num p env k
  among_known k h = read.numbers k h

  -- so is what it names
  pub among_named : (k : ℕ) (x : Expr) → slice_get p.exprs k ≡ Some x → is_among (places_of list) k ≡ true → AreAmong list (named x)
  among_named k x is h =
      let r = among_index list k h in
      all_first r.0 list (named x) (read.program.behind r.0 r.1 x r.2 (ap (slice_get p.exprs) r.3 ∙ is))

  pub all_there : (es : List ExprId) → AreAmong list es → AllBelow (length p.exprs) es
  all_there [] h = tt
  all_there (e ∷ es) h = (among_there e.0 h.0, all_there es h.1)

  module _ (e : ℕ) where
    walked_window : (width : ℕ) (a : ExprId) (from i : ℕ) → a.0 < e → is_among (places_of list) a.0 ≡ true → is_target p a.0 ≡ true
        → ((j : ℕ) → j < width → place_of p env a.0 (from + j) ≡ place_of p env e j) → ((j : ℕ) → width ≤ j → place_of p env e j ≡ None) → IsWalked p env list e i (window width a from i)
    walked_window width a from i below among target inside past =
        ⊎_elim
        (λ (t : nat_lt i width ≡ true). subst (IsWalked p env list e i) (sym (ap (λ b. cond b (GoesOn a (from + i)) (Ends None)) t)) (below, among, target, inside i (ltb-true i width t)))
        (λ (t : nat_lt i width ≡ false). subst (IsWalked p env list e i) (sym (ap (λ b. cond b (GoesOn a (from + i)) (Ends None)) t)) (sym (past i (ltb-false i width t))))
        (cases_Bool (nat_lt i width))

    module _ (here : is_among (places_of list) e ≡ true) (target : is_target p e ≡ true) where
      tested : (x : Expr) → slice_get p.exprs e ≡ Some x → target_test (is_target p) x ≡ true
      tested x is = sym (is_target_is p e x rules is) ∙ target

      below : (x : Expr) → slice_get p.exprs e ≡ Some x → AllBelow e (named x)
      below x is = (standing p e x rules is).names

      pub signal_walked : (s : SigId) (i : ℕ) → slice_get p.exprs e ≡ Some (expr.TheVariants.Sig s) → IsWalked p env list e i (Ends (signal_place s.0 (signal_form p.signals s.0).width i))
      signal_walked s i is =
          let w : ℕ = (signal_form p.signals s.0).width in
          let zero_more : 0 + i ≡ i = omega arith in
          let at : place_of p env e i ≡ get_or (map (λ b. Some b) (map (bit_at s.0) (range_with_len 0 w))) i None = ap (λ xs. get_or xs i None) (target_is p env e (expr.TheVariants.Sig s) rules is) in
          ⊎_elim
          (λ (t : nat_lt i w ≡ true). ap (λ b. cond b (Some (bit_at s.0 i)) None) t ∙ ap (λ k. Some (bit_at s.0 k)) (sym zero_more) ∙ sym (at ∙ bits_inside s.0 0 w i (ltb-true i w t)))
          (λ (t : nat_lt i w ≡ false). ap (λ b. cond b (Some (bit_at s.0 i)) None) t ∙ sym (at ∙ bits_past s.0 0 w i (ltb-false i w t)))
          (cases_Bool (nat_lt i w))

      pub slice_walked : (a : ExprId) (low width i : ℕ) → slice_get p.exprs e ≡ Some (Slice a low width) → IsWalked p env list e i (window width a low i)
      slice_walked a low width i is =
          let x : Expr = Slice a low width in
          let at : (j : ℕ) → place_of p env e j ≡ get_or (take width (drop low (target_bits p env a.0))) j None = λ j. ap (λ xs. get_or xs j None) (target_is p env e x rules is) in
          walked_window width a low i (below x is).0 (among_named e x is here).0 (tested x is)
          (λ j h. sym (at j ∙ get_or-take width (drop low (target_bits p env a.0)) j None h ∙ get_or-drop low (target_bits p env a.0) j None))
          (λ j h. at j ∙ take_past width (drop low (target_bits p env a.0)) j None h)

      pub cast_walked : (a : ExprId) (signed : Bool) (i : ℕ) → slice_get p.exprs e ≡ Some (Cast a signed) → IsWalked p env list e i (GoesOn a i)
      cast_walked a signed i is =
          let x : Expr = Cast a signed in
          ((below x is).0, (among_named e x is here).0, tested x is, sym (ap (λ xs. get_or xs i None) (target_is p env e x rules is)))

      pub part_walked : (a offset : ExprId) (width stride i : ℕ) (by : ℕ) → slice_get p.exprs e ≡ Some (Part a offset width stride) → by ≡ min (unsigned_abs (get_or nums offset.0 (pos 0)) * stride) 128 → IsWalked p env list e i (window width a by i)
      part_walked a offset width stride i by is start =
          let x : Expr = Part a offset width stride in
          let among = among_named e x is here in
          let from : ℕ = unsigned_abs (num p env offset.0) * stride in
          let begins : by ≡ min from 128 = start ∙ ap (λ n. min (unsigned_abs n * stride) 128) (among_known offset.0 among.1.0) in
          let places : List (Option Bit) = target_bits p env a.0 in
          let at : (j : ℕ) → place_of p env e j ≡ get_or (padded width (drop from places)) j None = λ j. ap (λ xs. get_or xs j None) (target_is p env e x rules is) in
          walked_window width a by i (below x is).0 among.0 (tested x is)
          (λ j h. ap (λ k. get_or places (k + j) None) begins ∙ from_start places from j (target_few p env a rules (among_there a.0 among.0)) ∙ sym (at j ∙ padded_at width (drop from places) j h ∙ get_or-drop from places j None))
          (λ j h. at j ∙ get_or_past (padded width (drop from places)) j None (omega (arith, h, padded_length width (drop from places))))

      pub pick_walked : (index : ExprId) (es : List ExprId) (a : ExprId) (width i : ℕ) → slice_get p.exprs e ≡ Some (Pick index es) → width ≡ (form p e).width → slice_get es (min (unsigned_abs (get_or nums index.0 (pos 0))) (length es - 1)) ≡ Some a → IsWalked p env list e i (window width a 0 i)
      pick_walked index es a width i is wide chosen =
          let x : Expr = Pick index es in
          let among = among_named e x is here in
          let w : ℕ = (common_of_all (form p) es).width in
          let same : width ≡ w = wide ∙ ap (λ (f : Form). f.width) (form_is p e x rules is) in
          let places : List (Option Bit) = target_bits p env a.0 in
          let k : ℕ = unsigned_abs (num p env index.0) in
          let item : picked [] (map (λ (y : ExprId). target_bits p env y.0) es) k ≡ places =
          picked_is (target_bits p env) [] es k (min (unsigned_abs (get_or nums index.0 (pos 0))) (length es - 1)) a (ap (λ n. min (unsigned_abs n) (length es - 1)) (among_known index.0 among.0)) chosen in
          let at : (j : ℕ) → place_of p env e j ≡ get_or (padded w places) j None = λ j. ap (λ xs. get_or xs j None) (target_is p env e x rules is) ∙ ap (λ ps. get_or (padded w ps) j None) item in
          walked_window width a 0 i (below_at e es _ a (below x is).1 chosen) (all_among es _ a among.1 chosen) (all_targets es _ a (tested x is) chosen)
          (λ j h. let none : 0 + j ≡ j = omega arith in ap (λ n. get_or places n None) none ∙ sym (at j ∙ padded_at w places j (omega (arith, h, same))))
          (λ j h. at j ∙ get_or_past (padded w places) j None (omega (arith, h, same, padded_length w places)))
        where
          all_among : (ys : List ExprId) (j : ℕ) (y : ExprId) → AreAmong list ys → slice_get ys j ≡ Some y → is_among (places_of list) y.0 ≡ true
          all_among [] j y h is = cc
          all_among (z ∷ ys) zero y h is = let same : z ≡ y = cc in subst (λ (u : ExprId). is_among (places_of list) u.0 ≡ true) same h.0
          all_among (z ∷ ys) (suc j) y h is = all_among ys j y h.1 is

          all_targets : (ys : List ExprId) (j : ℕ) (y : ExprId) → list_all (λ (u : ExprId). is_target p u.0) ys ≡ true → slice_get ys j ≡ Some y → is_target p y.0 ≡ true
          all_targets [] j y h is = cc
          all_targets (z ∷ ys) zero y h is = let same : z ≡ y = cc in subst (λ (u : ExprId). is_target p u.0 ≡ true) same (and_true (is_target p z.0) (list_all (λ (u : ExprId). is_target p u.0) ys) h).0
          all_targets (z ∷ ys) (suc j) y h is = all_targets ys j y (and_true (is_target p z.0) (list_all (λ (u : ExprId). is_target p u.0) ys) h).1 is

      -- bit i of all items is one of the item that is found, or there is none
      items_walked : (es : List ExprId) (i j : ℕ) → AllBelow e es → AreAmong list es → list_all (λ (u : ExprId). is_target p u.0) es ≡ true → get_or (flat_map (λ (u : ExprId). target_bits p env u.0) es) j None ≡ place_of p env e i → IsWalked p env list e i (item_at (form p) es j)
      items_walked [] i j h among targets at = at
      items_walked (y ∷ es) i j h among targets at =
          let t = and_true (is_target p y.0) (list_all (λ (u : ExprId). is_target p u.0) es) targets in
          let places : List (Option Bit) = target_bits p env y.0 in
          let rest : List (Option Bit) = flat_map (λ (u : ExprId). target_bits p env u.0) es in
          let long : length places ≡ (form p y.0).width = target_length p env rules y (among_there y.0 among.0) t.0 in
          let w : ℕ = (form p y.0).width in
          ⊎_elim
          (λ (c : nat_lt j w ≡ true). subst (IsWalked p env list e i) (sym (ap (λ b. cond b (GoesOn y j) (item_at (form p) es (j - w))) c))
          (h.0, among.0, t.0, sym (get_or-append places rest None j (omega (arith, ltb-true j w c, long))) ∙ at))
          (λ (c : nat_lt j w ≡ false). subst (IsWalked p env list e i) (sym (ap (λ b. cond b (GoesOn y j) (item_at (form p) es (j - w))) c))
          (items_walked es i (j - w) h.1 among.1 t.1 (ap (λ n. get_or rest (j - n) None) (sym long) ∙ sym (behind places rest j (omega (arith, ltb-false j w c, long))) ∙ at)))
          (cases_Bool (nat_lt j w))
        where
          behind : (xs ys : List (Option Bit)) (j : ℕ) → length xs ≤ j → get_or (xs ++ ys) j None ≡ get_or ys (j - length xs) None
          behind [] ys j l = let same : j ≡ j - 0 = omega arith in ap (λ n. get_or ys n None) same
          behind (x ∷ xs) ys zero l = absurd (omega (arith, l))
          behind (x ∷ xs) ys (suc j) l = let same : j - length xs ≡ suc j - suc (length xs) = omega arith in behind xs ys j (omega (arith, l)) ∙ ap (λ n. get_or ys n None) same

      pub cat_walked : (es : List ExprId) (i : ℕ) → slice_get p.exprs e ≡ Some (Cat es) → IsWalked p env list e i (item_at (form p) es i)
      cat_walked es i is =
          let x : Expr = Cat es in
          items_walked es i i (below x is) (among_named e x is here) (tested x is) (sym (ap (λ xs. get_or xs i None) (target_is p env e x rules is)))

      -- nothing else is a target
      abbrev IsOther : Expr → Type 0
      IsOther (Const n s) = ⊤
      IsOther (expr.TheVariants.Sig s) = ⊥
      IsOther (Unary op a) = ⊤
      IsOther (Binary op a b) = ⊤
      IsOther (Mux s a b) = ⊤
      IsOther (Slice a low width) = ⊥
      IsOther (Cat es) = ⊥
      IsOther (Part a offset width stride) = ⊥
      IsOther (Pick index es) = ⊥
      IsOther (Cast a signed) = ⊥
      IsOther (Matches a patterns) = ⊤
      IsOther (Reset domain place) = ⊤

      no_target : (x : Expr) → IsOther x → target_test (is_target p) x ≡ true → ⊥
      no_target (Const n s) h t = false≢true t
      no_target (expr.TheVariants.Sig s) h t = h
      no_target (Unary op a) h t = false≢true t
      no_target (Binary op a b) h t = false≢true t
      no_target (Mux s a b) h t = false≢true t
      no_target (Slice a low width) h t = h
      no_target (Cat es) h t = h
      no_target (Part a offset width stride) h t = h
      no_target (Pick index es) h t = h
      no_target (Cast a signed) h t = h
      no_target (Matches a patterns) h t = false≢true t
      no_target (Reset domain place) h t = false≢true t

      other : (x : Expr) → ((s : SigId) → x ≡ expr.TheVariants.Sig s → ⊥) → ((a : ExprId) (low width : ℕ) → x ≡ Slice a low width → ⊥) → ((es : List ExprId) → x ≡ Cat es → ⊥)
          → ((a offset : ExprId) (width stride : ℕ) → x ≡ Part a offset width stride → ⊥) → ((index : ExprId) (es : List ExprId) → x ≡ Pick index es → ⊥) → ((a : ExprId) (signed : Bool) → x ≡ Cast a signed → ⊥) → IsOther x
      other (Const n s) h1 h2 h3 h4 h5 h6 = tt
      other (expr.TheVariants.Sig s) h1 h2 h3 h4 h5 h6 = h1 s refl
      other (Unary op a) h1 h2 h3 h4 h5 h6 = tt
      other (Binary op a b) h1 h2 h3 h4 h5 h6 = tt
      other (Mux s a b) h1 h2 h3 h4 h5 h6 = tt
      other (Slice a low width) h1 h2 h3 h4 h5 h6 = h2 a low width refl
      other (Cat es) h1 h2 h3 h4 h5 h6 = h3 es refl
      other (Part a offset width stride) h1 h2 h3 h4 h5 h6 = h4 a offset width stride refl
      other (Pick index es) h1 h2 h3 h4 h5 h6 = h5 index es refl
      other (Cast a signed) h1 h2 h3 h4 h5 h6 = h6 a signed refl
      other (Matches a patterns) h1 h2 h3 h4 h5 h6 = tt
      other (Reset domain place) h1 h2 h3 h4 h5 h6 = tt

      pub other_walked : (x : Expr) (i : ℕ) → slice_get p.exprs e ≡ Some x → ((s : SigId) → x ≡ expr.TheVariants.Sig s → ⊥) → ((a : ExprId) (low width : ℕ) → x ≡ Slice a low width → ⊥) → ((es : List ExprId) → x ≡ Cat es → ⊥)
          → ((a offset : ExprId) (width stride : ℕ) → x ≡ Part a offset width stride → ⊥) → ((index : ExprId) (es : List ExprId) → x ≡ Pick index es → ⊥) → ((a : ExprId) (signed : Bool) → x ≡ Cast a signed → ⊥) → IsWalked p env list e i (Ends None)
      other_walked x i is h1 h2 h3 h4 h5 h6 = absurd (no_target x (other x h1 h2 h3 h4 h5 h6) (tested x is))

-- one item is passed
pub item_turn : (shape : ℕ → Form) (es : List ExprId) (k : ℕ) (e : ExprId) (i : ℕ) (all : Walk) → k < length es → e ≡ get_or es k e → (shape e.0).width ≤ i → item_at shape (drop k es) i ≡ all → item_at shape (drop (k + 1) es) (i - (shape e.0).width) ≡ all
item_turn shape es k e i all h is past known =
    sym (ap (λ b. cond b (GoesOn e i) (item_at shape (drop (k + 1) es) (i - (shape e.0).width))) (le-ltb i (shape e.0).width past))
    ∙ sym (at_drop_more (λ xs. item_at shape xs i) es k e h ∙ ap (λ y. item_at shape (y ∷ drop (k + 1) es) i) (sym is)) ∙ known

-- the item is found
pub item_found : (shape : ℕ → Form) (es : List ExprId) (k : ℕ) (e : ExprId) (i : ℕ) (all : Walk) → k < length es → e ≡ get_or es k e → i < (shape e.0).width → item_at shape (drop k es) i ≡ all → GoesOn e i ≡ all
item_found shape es k e i all h is inside known =
    sym (ap (λ b. cond b (GoesOn e i) (item_at shape (drop (k + 1) es) (i - (shape e.0).width))) (lt-ltb i (shape e.0).width inside))
    ∙ sym (at_drop_more (λ xs. item_at shape xs i) es k e h ∙ ap (λ y. item_at shape (y ∷ drop (k + 1) es) i) (sym is)) ∙ known
