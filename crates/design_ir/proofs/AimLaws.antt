-- Each aim of a target is its bit, wherever it stands, for some numbers of the offsets and indices.
use Rattle.std.specs.Prelude.{◌≡◌, refl, ℕ, zero, suc, ◌+◌, ◌-◌, ◌*◌, ◌<◌, ◌≤◌, min, nat_le, nat_lt, ◌&&◌, Bool, true, false, if◌then◌else◌, List, [], ◌∷◌, ◌++◌, map, length, take, drop, replicate, slice_get, slice_index_or, ℤ, unsigned_abs, Option, Some, None, Contains}
use Rattle.std.specs.List.{flat_map, list_all, list_any, range_with_len}
use Rattle.std.proofs.Common.{sym, ◌∙◌, ap, arith, subst, ⊎_elim}
use Rattle.std.proofs.lemmas.Bool.{cases_lt, false≢true, and_parts, leb-true, ltb-true, eqb-true, eq-eqb}
use Rattle.std.proofs.lemmas.List.{length-map}
use Rattle.std.proofs.lemmas.List.Elements.{Contains-append_cases}
use Rattle.std.proofs.lemmas.Option.{slice_get_within}
use Rattle.amh_bits.proofs.InShape.{of_zero}
use Rattle.design_ir.specs.declared.ids.ExprId.{ExprId}
use Rattle.design_ir.specs.declared.expr.Expr.{Expr}
use Rattle.design_ir.specs.declared.expr.Expr.TheVariants as expr
use Rattle.design_ir.specs.Named.{AllBelow}
use Rattle.design_ir.specs.Pools.{Pooled}
use Rattle.design_ir.specs.PoolRules.{IsPool}
use Rattle.design_ir.specs.Values.{form, num, signal_form, picked, common_of_all}
use Rattle.design_ir.specs.Targets.{Bit, bits_of, padded, target_step, target_bits, target_test, is_target, Numbers, numbers, some_number, chosen_items, Spot, fixed, chosen, Aim, stands_at, chosen_below, raised_spot, raised, within_at, within, shifted, loose, aims_of_all, aim_at, aim_step, aims}
use Rattle.design_ir.specs.Choices.{IsNumber, StandsFor, whole, sliced, joined, part, item, same, StandForAll, none, and, IsPlaced, SignalsChoose, AimsArePlaces}
use Rattle.design_ir.specs.Circuits.{FitsSignals}
use Rattle.design_ir.proofs.Answers.{answer_past}
use Rattle.design_ir.proofs.Elements.{some_is, contains_none, map_of, filter_of, flat_of, any_of, range_of, has_get, get_take_of, get_take, get_drop, get_append_left, get_append_right}
use Rattle.design_ir.proofs.Equations.{standing, place_below}
use Rattle.design_ir.proofs.NumbersFit.{element, accepted_is}
use Rattle.design_ir.proofs.TargetLaws.{target_is, is_target_is}
use Rattle.design_ir.proofs.AimSteps.{aims_is, number_is, least_is}
use Rattle.design_ir.proofs.ChoiceLaws.{stands_length}

-- ---- targets

target_past : (p : Pooled) (k : ℕ) → length p.exprs ≤ k → is_target p k ≡ false
unfolding is_target
target_past p k h = answer_past false target_test p.exprs k h

-- a target is an expression of the pool
pub target_there : (p : Pooled) (k : ℕ) → is_target p k ≡ true → k < length p.exprs
target_there p k t = ⊎_elim (λ lt. lt) (λ past. absurd (false≢true (sym (target_past p k past) ∙ t))) (cases_lt k (length p.exprs))

all_get : {A : Type 0} (test : A → Bool) (xs : List A) (i : ℕ) (x : A) → list_all test xs ≡ true → slice_get xs i ≡ Some x → test x ≡ true
all_get test [] i x t e = cc
all_get test (y ∷ xs) zero x t e = let same : y ≡ x = cc in ap test (sym same) ∙ (and_parts (test y) (list_all test xs) t).0
all_get test (y ∷ xs) (suc i) x t e = all_get test xs i x (and_parts (test y) (list_all test xs) t).1 e

pub below_get : (k : ℕ) (es : List ExprId) (i : ℕ) (e : ExprId) → AllBelow k es → slice_get es i ≡ Some e → e.0 < k
below_get k [] i e h at = cc
below_get k (x ∷ es) zero e h at = let same : x ≡ e = cc in subst (λ (y : ExprId). y.0 < k) same h.0
below_get k (x ∷ es) (suc i) e h at = below_get k es i e h.1 at

mapped_get : (f : ℕ → List (Option Bit)) (es : List ExprId) (i : ℕ) (e : ExprId) → slice_get es i ≡ Some e → slice_index_or (map (λ (a : ExprId). f a.0) es) i [] ≡ f e.0
mapped_get f [] i e at = cc
mapped_get f (x ∷ es) zero e at = let same : x ≡ e = cc in ap (λ (a : ExprId). f a.0) same
mapped_get f (x ∷ es) (suc i) e at = mapped_get f es i e at

some_items : (es : List ExprId) → (es ≡ [] → ⊥) → 0 < length es
some_items [] h = absurd (h refl)
some_items (x ∷ es) h = omega arith

module _ (p : Pooled) (rules : IsPool p) where
  -- ---- the numbers of signals choose places

  module _ (env : List ℤ) (fit : FitsSignals p env) where
    abbrev Chooses : ℕ → Type 0
    Chooses k = is_target p k ≡ true → StandsFor p k (target_bits p env k)

    all_choose : (k : ℕ) (es : List ExprId) → AllBelow k es → ((a : ℕ) → a < k → Chooses a) → list_all (λ (e : ExprId). is_target p e.0) es ≡ true → StandForAll p es (flat_map (λ (e : ExprId). target_bits p env e.0) es)
    all_choose k [] names each t = none
    all_choose k (e ∷ es) names each t =
        let s = and_parts (is_target p e.0) (list_all (λ (a : ExprId). is_target p a.0) es) t in
        and e es (target_bits p env e.0) (flat_map (λ (a : ExprId). target_bits p env a.0) es) (each e.0 names.0 s.0) (all_choose k es names.1 each s.1)

    step_chooses : (k : ℕ) (e : Expr) → slice_get p.exprs k ≡ Some e → ((a : ℕ) → a < k → Chooses a) → target_test (is_target p) e ≡ true → StandsFor p k (target_step (signal_form p.signals) (form p) (num p env) (target_bits p env) e)
    step_chooses k (expr.Sig s) is each t = whole k s is
    step_chooses k (expr.Slice a low width) is each t =
        let h = standing p k (expr.Slice a low width) rules is in
        sliced k a low width (target_bits p env a.0) is (each a.0 h.names.0 t)
    step_chooses k (expr.Cat es) is each t =
        let h = standing p k (expr.Cat es) rules is in
        joined k es (flat_map (λ (e : ExprId). target_bits p env e.0) es) is (all_choose k es h.names each t)
    step_chooses k (expr.Part a offset width stride) is each t =
        let h = standing p k (expr.Part a offset width stride) rules is in
        let there : offset.0 < length p.exprs = omega (arith, h.names.1.0, place_below p.exprs k (expr.Part a offset width stride) is) in
        let n = number_is p env offset rules fit there (accepted_is (form p offset.0).signed width h.accepted).0 in
        part k a offset width stride (unsigned_abs (num p env offset.0)) (target_bits p env a.0) is n (each a.0 h.names.0 t)
    step_chooses k (expr.Pick index es) is each t =
        let h = standing p k (expr.Pick index es) rules is in
        let there : index.0 < length p.exprs = omega (arith, h.names.0, place_below p.exprs k (expr.Pick index es) is) in
        let n = number_is p env index rules fit there (accepted_is (form p index.0).signed (common_of_all (form p) es).width h.accepted).0 in
        let width : ℕ = (common_of_all (form p) es).width in
        let i : ℕ = unsigned_abs (num p env index.0) in
        let x = element es (min i (length es - 1)) (omega (arith, some_items es h.askable.parts)) in
        let own = each (x.0).0 (below_get k es (min i (length es - 1)) x.0 h.names.1 x.1) (all_get (λ (a : ExprId). is_target p a.0) es (min i (length es - 1)) x.0 t x.1) in
        let is-own : picked [] (map (λ (a : ExprId). target_bits p env a.0) es) i ≡ target_bits p env (x.0).0 =
        ap (λ m. slice_index_or (map (λ (a : ExprId). target_bits p env a.0) es) (min i (m - 1)) []) (length-map es (λ (a : ExprId). target_bits p env a.0)) ∙ mapped_get (target_bits p env) es (min i (length es - 1)) x.0 x.1 in
        subst (λ places. StandsFor p k (padded width places)) (sym is-own) (item k index es i x.0 (target_bits p env (x.0).0) is n x.1 own)
    step_chooses k (expr.Cast a signed) is each t =
        let h = standing p k (expr.Cast a signed) rules is in same k a signed (target_bits p env a.0) is (each a.0 h.names.0 t)
    step_chooses k (expr.Const n s) is each t = absurd (false≢true t)
    step_chooses k (expr.Unary o a) is each t = absurd (false≢true t)
    step_chooses k (expr.Binary o a b) is each t = absurd (false≢true t)
    step_chooses k (expr.Mux s a b) is each t = absurd (false≢true t)
    step_chooses k (expr.Matches a patterns) is each t = absurd (false≢true t)
    step_chooses k (expr.Reset domain place) is each t = absurd (false≢true t)

    chooses_below : (n k : ℕ) → k < n → Chooses k
    chooses_below zero k below t = absurd (omega (arith, below))
    chooses_below (suc n) k below t =
        let x = element p.exprs k (target_there p k t) in
        subst (StandsFor p k) (sym (target_is p env k x.0 rules x.1))
        (step_chooses k x.0 x.1 (λ a lt. chooses_below n a (omega (arith, below, lt))) (sym (is_target_is p k x.0 rules x.1) ∙ t))

  pub signals_choose : SignalsChoose p
  signals_choose = λ env k fit t. chooses_below env fit (suc k) k (omega arith) t

  -- each target stands for some places
  pub some_places : (k : ℕ) → is_target p k ≡ true → (places : List (Option Bit)) × StandsFor p k places
  some_places k t =
      (target_bits p [] k, signals_choose [] k (λ s there. of_zero (signal_form p.signals s).signed (signal_form p.signals s).width) t)

-- ---- one step of an aim, backwards

chosen_from : (t : Bool) (width j : ℕ) (b : Bit) (set : ℕ → Bool) (x : Aim) → (if t then Some (record { bit = b; spot = chosen (λ k. nat_lt k width && set k) }) else None) ≡ Some x → stands_at x.spot j ≡ true → (x.bit ≡ b) × (j < width) × (set j ≡ true)
chosen_from false width j b set x e here = cc
chosen_from true width j b set x e here =
    let is : record { bit = b; spot = chosen (λ k. nat_lt k width && set k) } ≡ x = some_is (record { bit = b; spot = chosen (λ k. nat_lt k width && set k) }) x e in
    let h : (nat_lt j width && set j) ≡ true = ap (λ (y : Aim). stands_at y.spot j) is ∙ here in
    let r = and_parts (nat_lt j width) (set j) h in
    (sym (ap (λ (y : Aim). y.bit) is), ltb-true j width r.0, r.1)

pub chosen_back : (width j : ℕ) (b : Bit) (set : ℕ → Bool) (x : Aim) → chosen_below width b set ≡ Some x → stands_at x.spot j ≡ true → (x.bit ≡ b) × (j < width) × (set j ≡ true)
chosen_back width j b set x e here = chosen_from (list_any set (range_with_len 0 width)) width j b set x e here

fixed_from : (t : Bool) (b : Bit) (i : ℕ) (x : Aim) → (if t then Some (record { bit = b; spot = fixed i }) else None) ≡ Some x → (t ≡ true) × (record { bit = b; spot = fixed i } ≡ x)
fixed_from false b i x e = cc
fixed_from true b i x e = (refl, some_is (record { bit = b; spot = fixed i }) x e)

pub within_back : (low width j : ℕ) (b : Bit) (s : Spot) (x : Aim) → within_at low width b s ≡ Some x → stands_at x.spot j ≡ true → (x.bit ≡ b) × (j < width) × (stands_at s (low + j) ≡ true)
within_back low width j b (fixed i) x e here =
    let r = fixed_from (nat_le low i && nat_lt i (low + width)) b (i - low) x e in
    let t = and_parts (nat_le low i) (nat_lt i (low + width)) r.0 in
    let from : low ≤ i = leb-true low i t.0 in
    let upto : i < low + width = ltb-true i (low + width) t.1 in
    let at : i - low ≡ j = eqb-true (i - low) j (ap (λ (y : Aim). stands_at y.spot j) r.1 ∙ here) in
    (sym (ap (λ (y : Aim). y.bit) r.1), omega (arith, from, upto, at), eq-eqb i (low + j) (omega (arith, from, at)))
within_back low width j b (chosen set) x e here = chosen_back width j b (λ k. set (low + k)) x e here

pub raised_back : (by j : ℕ) (s : Spot) → stands_at (raised_spot by s) j ≡ true → (by ≤ j) × (stands_at s (j - by) ≡ true)
raised_back by j (fixed i) here = let e : by + i ≡ j = eqb-true (by + i) j here in (omega (arith, e), eq-eqb i (j - by) (omega (arith, e)))
raised_back by j (chosen set) here = let r = and_parts (nat_le by j) (set (j - by)) here in (leb-true by j r.0, r.1)

-- ---- places

abbrev pub bit_at : ℕ → ℕ → Bit
bit_at s i = record { sig = s; index = i }

pub signal_has : (s low n j : ℕ) → j < n → slice_get (map (λ (x : Bit). Some x) (map (bit_at s) (range_with_len low n))) j ≡ Some (Some (bit_at s (low + j)))
signal_has s low zero j h = absurd (omega (arith, h))
signal_has s low (suc n) zero h = let i : low ≡ low + 0 = omega arith in ap (λ k. Some (Some (bit_at s k))) i
signal_has s low (suc n) (suc j) h =
    let i : low + 1 + j ≡ low + suc j = omega arith in signal_has s (low + 1) n j (omega (arith, h)) ∙ ap (λ k. Some (Some (bit_at s k))) i

padded_has : (width j : ℕ) (places : List (Option Bit)) (b : Bit) → j < width → slice_get places j ≡ Some (Some b) → slice_get (padded width places) j ≡ Some (Some b)
padded_has width j places b below here = get_take width (places ++ replicate width None) j (Some b) below (get_append_left places (replicate width None) j (Some b) here)

module _ (p : Pooled) (rules : IsPool p) where
  -- an aim of targets one above the other, the first of them so high
  record ArePlaced (es : List ExprId) (low : ℕ) (b : Bit) (j : ℕ) : Type 0 where
    places : List (Option Bit)
    chosen : StandForAll p es places
    above : low ≤ j
    here : slice_get places (j - low) ≡ Some (Some b)

  abbrev Placed : ℕ → Type 0
  Placed k = is_target p k ≡ true → (x : Aim) (j : ℕ) → Contains (aims p k) x → stands_at x.spot j ≡ true → IsPlaced p k x.bit j

  some_all : (es : List ExprId) → list_all (λ (e : ExprId). is_target p e.0) es ≡ true → (places : List (Option Bit)) × StandForAll p es places
  some_all [] t = ([], none)
  some_all (e ∷ es) t =
      let s = and_parts (is_target p e.0) (list_all (λ (a : ExprId). is_target p a.0) es) t in
      let own = some_places p rules e.0 s.0 in
      let others = some_all es s.1 in
      (own.0 ++ others.0, and e es own.0 others.0 own.1 others.1)

  all_placed : (k : ℕ) (es : List ExprId) (low : ℕ) → AllBelow k es → ((a : ℕ) → a < k → Placed a) → list_all (λ (e : ExprId). is_target p e.0) es ≡ true → (x : Aim) (j : ℕ) → Contains (aims_of_all (form p) (aims p) low es) x → stands_at x.spot j ≡ true
      → ArePlaced es low x.bit j
  all_placed k [] low names each t x j c here = absurd (contains_none x c)
  all_placed k (e ∷ es) low names each t x j c here =
      let s = and_parts (is_target p e.0) (list_all (λ (a : ExprId). is_target p a.0) es) t in
      let w : ℕ = (form p e.0).width in
      ⊎_elim
      (λ (mine : Contains (map (raised low) (aims p e.0)) x).
      let m = map_of (raised low) (aims p e.0) x mine in
      let back = raised_back low j (m.0).spot (ap (λ (y : Aim). stands_at y.spot j) m.2 ∙ here) in
      let own = each e.0 names.0 s.0 m.0 (j - low) m.1 back.1 in
      let others = some_all es s.1 in
      let same-bit : (m.0).bit ≡ x.bit = ap (λ (y : Aim). y.bit) m.2 in
      record {
        places = own.places ++ others.0;
        chosen = and e es own.places others.0 own.chosen others.1;
        above = back.0;
        here = get_append_left own.places others.0 (j - low) (Some x.bit) (own.here ∙ ap (λ b. Some (Some b)) same-bit);
      })
      (λ (more : Contains (aims_of_all (form p) (aims p) (low + w) es) x).
      let rest = all_placed k es (low + w) names.1 each s.1 x j more here in
      let own = some_places p rules e.0 s.0 in
      let long : length own.0 ≡ w = stands_length p rules own.1 in
      let i : j - low ≡ length own.0 + (j - (low + w)) = omega (arith, rest.above, long) in
      record {
        places = own.0 ++ rest.places;
        chosen = and e es own.0 rest.places own.1 rest.chosen;
        above = omega (arith, rest.above);
        here = ap (slice_get (own.0 ++ rest.places)) i ∙ get_append_right own.0 rest.places (j - (low + w)) ∙ rest.here;
      })
      (Contains-append_cases (map (raised low) (aims p e.0)) (aims_of_all (form p) (aims p) (low + w) es) x c)

  -- some number of the index picks an item that is chosen
  picks : (index : ExprId) (es : List ExprId) (e : ExprId) → Contains (chosen_items (numbers p index.0) es) e → (i : ℕ) × IsNumber p index.0 i × (slice_get es (min i (length es - 1)) ≡ Some e)
  picks index es e c =
      let ns : Numbers = numbers p index.0 in
      let low : ℕ = min ns.least (length es - 1) in
      let m = has_get (chosen_items ns es) e c in
      let t = get_take_of (ns.greatest + 1) es (low + m.0) e (sym (get_drop low (take (ns.greatest + 1) es) m.0) ∙ m.1) in
      let inside : low + m.0 < length es = slice_get_within es (low + m.0) e t.1 in
      let least = least_is p index.0 in
      let most : ns.least ≤ ns.greatest = least.below in
      ⊎_elim
      (λ (less : ns.least < length es).
      let i : min (ns.least + m.0) (length es - 1) ≡ low + m.0 = omega (arith, less, inside) in
      (ns.least + m.0, record { above = omega arith; below = omega (arith, t.0, less) }, ap (slice_get es) i ∙ t.1))
      (λ (past : length es ≤ ns.least).
      let i : min ns.least (length es - 1) ≡ low + m.0 = omega (arith, past, inside) in
      (ns.least, least, ap (slice_get es) i ∙ t.1))
      (cases_lt ns.least (length es))

  step_placed : (k : ℕ) (e : Expr) → slice_get p.exprs k ≡ Some e → ((a : ℕ) → a < k → Placed a) → target_test (is_target p) e ≡ true → (x : Aim) (j : ℕ) → Contains (aim_step (signal_form p.signals) (form p) (numbers p) (aims p) e) x → stands_at x.spot j ≡ true → IsPlaced p k x.bit j
  step_placed k (expr.Sig s) is each t x j c here =
      let w : ℕ = (signal_form p.signals s.0).width in
      let m = map_of (aim_at s.0) (range_with_len 0 w) x c in
      let r = range_of 0 w m.0 m.1 in
      let at : m.0 ≡ j = eqb-true m.0 j (ap (λ (y : Aim). stands_at y.spot j) m.2 ∙ here) in
      let i : 0 + j ≡ m.0 = omega (arith, at) in
      record {
        places = map (λ b. Some b) (bits_of s.0 w);
        chosen = whole k s is;
        here = signal_has s.0 0 w j (omega (arith, r.1, at)) ∙ ap (λ n. Some (Some (bit_at s.0 n))) i ∙ ap (λ (y : Aim). Some (Some y.bit)) m.2;
      }
  step_placed k (expr.Slice a low width) is each t x j c here =
      let h = standing p k (expr.Slice a low width) rules is in
      let f = filter_of (within low width) (aims p a.0) x c in
      let back = within_back low width j (f.0).bit (f.0).spot x f.2 here in
      let own = each a.0 h.names.0 t f.0 (low + j) f.1 back.2 in
      record {
        places = take width (drop low own.places);
        chosen = sliced k a low width own.places is own.chosen;
        here = get_take width (drop low own.places) j (Some x.bit) back.1 (get_drop low own.places j ∙ own.here ∙ ap (λ b. Some (Some b)) (sym back.0));
      }
  step_placed k (expr.Cat es) is each t x j c here =
      let h = standing p k (expr.Cat es) rules is in
      let all = all_placed k es 0 h.names each t x j c here in
      let i : j ≡ j - 0 = omega arith in
      record { places = all.places; chosen = joined k es all.places is all.chosen; here = ap (slice_get all.places) i ∙ all.here }
  step_placed k (expr.Part a offset width stride) is each t x j c here =
      let h = standing p k (expr.Part a offset width stride) rules is in
      let ns : Numbers = numbers p offset.0 in
      let wide : ℕ = (form p a.0).width in
      let f = filter_of (shifted ns wide width stride) (aims p a.0) x c in
      let back = chosen_back width j (f.0).bit (λ m. some_number ns wide (λ o. stands_at (f.0).spot (o * stride + m))) x f.2 here in
      let o = any_of (λ o. stands_at (f.0).spot (o * stride + j)) (range_with_len ns.least (min (ns.greatest - ns.least) wide + 1)) back.2 in
      let r = range_of ns.least (min (ns.greatest - ns.least) wide + 1) o.0 o.1 in
      let own = each a.0 h.names.0 t f.0 (o.0 * stride + j) f.1 o.2 in
      let least = least_is p offset.0 in
      let most : ns.least ≤ ns.greatest = least.below in
      record {
        places = padded width (drop (o.0 * stride) own.places);
        chosen = part k a offset width stride o.0 own.places is (record { above = r.0; below = omega (arith, r.1, most) }) own.chosen;
        here = padded_has width j (drop (o.0 * stride) own.places) x.bit back.1 (get_drop (o.0 * stride) own.places j ∙ own.here ∙ ap (λ b. Some (Some b)) (sym back.0));
      }
  step_placed k (expr.Pick index es) is each t x j c here =
      let h = standing p k (expr.Pick index es) rules is in
      let width : ℕ = (common_of_all (form p) es).width in
      let items : List ExprId = chosen_items (numbers p index.0) es in
      let f = filter_of (loose width) (flat_map (λ (a : ExprId). aims p a.0) items) x c in
      let back = chosen_back width j (f.0).bit (stands_at (f.0).spot) x f.2 here in
      let y = flat_of (λ (a : ExprId). aims p a.0) items f.0 f.1 in
      let n = picks index es y.0 y.1 in
      let at : ℕ = min n.0 (length es - 1) in
      let own = each (y.0).0 (below_get k es at y.0 h.names.1 n.2) (all_get (λ (a : ExprId). is_target p a.0) es at y.0 t n.2) f.0 j y.2 back.2 in
      record {
        places = padded width own.places;
        chosen = item k index es n.0 y.0 own.places is n.1 n.2 own.chosen;
        here = padded_has width j own.places x.bit back.1 (own.here ∙ ap (λ b. Some (Some b)) (sym back.0));
      }
  step_placed k (expr.Cast a signed) is each t x j c here =
      let h = standing p k (expr.Cast a signed) rules is in
      let own = each a.0 h.names.0 t x j c here in
      record { places = own.places; chosen = same k a signed own.places is own.chosen; here = own.here }
  step_placed k (expr.Const n s) is each t x j c here = absurd (false≢true t)
  step_placed k (expr.Unary o a) is each t x j c here = absurd (false≢true t)
  step_placed k (expr.Binary o a b) is each t x j c here = absurd (false≢true t)
  step_placed k (expr.Mux s a b) is each t x j c here = absurd (false≢true t)
  step_placed k (expr.Matches a patterns) is each t x j c here = absurd (false≢true t)
  step_placed k (expr.Reset domain place) is each t x j c here = absurd (false≢true t)

  placed_below : (n k : ℕ) → k < n → Placed k
  placed_below zero k below t x j c here = absurd (omega (arith, below))
  placed_below (suc n) k below t x j c here =
      let y = element p.exprs k (target_there p k t) in
      step_placed k y.0 y.1 (λ a lt. placed_below n a (omega (arith, below, lt))) (sym (is_target_is p k y.0 rules y.1) ∙ t) x j (subst (λ xs. Contains xs x) (aims_is p k y.0 rules y.1) c) here

  pub aims_placed : AimsArePlaces p
  aims_placed = λ k x j t c here. placed_below (suc k) k (omega arith) t x j c here
