-- For some numbers of offsets and indices each bit of a write stands at the place of the target from which it comes.
use Rattle.std.specs.Prelude.{◌≡◌, ◌≢◌, ℕ, zero, suc, ◌+◌, ◌-◌, ◌*◌, ◌==◌, ◌<◌, ◌≤◌, min, max, true, List, [], ◌∷◌, ◌++◌, map, length, take, drop, replicate, slice_get, Option, Some, None, Contains}
use Rattle.std.specs.List.{list_all}
use Rattle.std.proofs.Common.{sym, ◌∙◌, ap, arith, subst, ⊎_elim}
use Rattle.std.proofs.lemmas.Bool.{false≢true, and_parts, eqb-false}
use Rattle.std.proofs.lemmas.List.Elements.{Contains-append_cases}
use Rattle.std.proofs.lemmas.Option.{slice_get_within}
use Rattle.design_ir.specs.declared.ids.ExprId.{ExprId}
use Rattle.design_ir.specs.declared.expr.Expr.{Expr}
use Rattle.design_ir.specs.declared.expr.Expr.TheVariants as expr
use Rattle.design_ir.specs.Named.{AllBelow}
use Rattle.design_ir.specs.Pools.{Pooled}
use Rattle.design_ir.specs.PoolRules.{IsPool}
use Rattle.design_ir.specs.Values.{form, signal_form, common_of_all}
use Rattle.design_ir.specs.Targets.{Bit, bits_of, padded, target_test, is_target, Numbers, numbers}
use Rattle.design_ir.specs.Choices.{IsNumber, whole, sliced, joined, part, item, same, StandForAll, none, and, IsPlaced}
use Rattle.design_ir.proofs.Elements.{contains_none, contains_cases, map_of, filter_of, get_take, get_drop, get_append_left, get_append_right}
use Rattle.design_ir.proofs.Equations.{standing}
use Rattle.design_ir.proofs.NumbersFit.{element}
use Rattle.design_ir.proofs.TargetLaws.{is_target_is}
use Rattle.design_ir.proofs.AimSteps.{least_is}
use Rattle.design_ir.proofs.AimLaws.{target_there, below_get, some_places, signal_has, bit_at}
use Rattle.design_ir.proofs.ChoiceLaws.{stands_length}
use Rattle.flat_design.specs.declared.writes.Write.{Write}
use Rattle.flat_design.specs.Writes.{cut, raised, writes_of_all, writes_step, writes}
use Rattle.flat_design.proofs.WriteSteps.{writes_is}
use Rattle.flat_design.proofs.WriteOrigins.{IsCut, cut_origin, IsTested, PartOrigin, part_origin, ItemOrigin, item_origin, if_not}
use Rattle.flat_design.proofs.TargetItems.{all_get, common_fits}

-- bit i of a write, and the place from which it comes
abbrev pub bit_of : Write → ℕ → Bit
bit_of w i = record { sig = w.sig.0; index = w.low + i }

padded_has : (width j : ℕ) (places : List (Option Bit)) (b : Bit) → j < width → slice_get places j ≡ Some (Some b) → slice_get (padded width places) j ≡ Some (Some b)
padded_has width j places b below here = get_take width (places ++ replicate width None) j (Some b) below (get_append_left places (replicate width None) j (Some b) here)

module _ (p : Pooled) (rules : IsPool p) where
  -- a write of some bits, each of which stands at its place for some numbers
  pub record IsWell (k : ℕ) (w : Write) : Type 0 where
    pub some : 0 < w.width
    pub placed : (i : ℕ) → i < w.width → IsPlaced p k (bit_of w i) (w.from + i)

  abbrev AreWell : ℕ → Type 0
  AreWell k = is_target p k ≡ true → (w : Write) → Contains (writes p k) w → IsWell k w

  moved : (k : ℕ) (b c : Bit) (i j : ℕ) → IsPlaced p k b i → b ≡ c → i ≡ j → IsPlaced p k c j
  moved k b c i j h e f = subst (λ x. IsPlaced p k x j) e (subst (IsPlaced p k b) f h)

  -- bit i of a piece that is cut off
  cut_placed : (k low width : ℕ) (of w : Write) → IsCut low width of w → IsWell k of → (i : ℕ) → i < w.width → IsPlaced p k (bit_of w i) (low + (w.from + i))
  cut_placed k low width of w c own i lt =
      moved k (bit_of of (c.skip + i)) (bit_of w i) (of.from + (c.skip + i)) (low + (w.from + i)) (own.placed (c.skip + i) (omega (arith, lt, c.rest)))
      (λ t. record { sig = (sym c.sig t).0; index = (let e : of.low + (c.skip + i) ≡ w.low + i = omega (arith, c.bits) in e) t })
      (omega (arith, c.place))

  tested_well : (k : ℕ) (index : ExprId) (of w : Write) → IsTested index of w → IsWell k of → IsWell k w
  tested_well k index of w t own = record {
    some = omega (arith, t.width, own.some);
    placed = λ i lt.
        moved k (bit_of of i) (bit_of w i) (of.from + i) (w.from + i) (own.placed i (omega (arith, t.width, lt)))
        (λ x. record { sig = (sym t.sig x).0; index = (let e : of.low + i ≡ w.low + i = omega (arith, t.low) in e) x })
        (omega (arith, t.from));
  }

  -- targets one above the other, the first of them so high
  record ArePlaced (es : List ExprId) (low : ℕ) (b : Bit) (j : ℕ) : Type 0 where
    places : List (Option Bit)
    chosen : StandForAll p es places
    above : low ≤ j
    here : slice_get places (j - low) ≡ Some (Some b)

  record AllWell (es : List ExprId) (low : ℕ) (w : Write) : Type 0 where
    some : 0 < w.width
    placed : (i : ℕ) → i < w.width → ArePlaced es low (bit_of w i) (w.from + i)

  some_all : (es : List ExprId) → list_all (λ (e : ExprId). is_target p e.0) es ≡ true → (places : List (Option Bit)) × StandForAll p es places
  some_all [] t = ([], none)
  some_all (e ∷ es) t =
      let s = and_parts (is_target p e.0) (list_all (λ (a : ExprId). is_target p a.0) es) t in
      let own = some_places p rules e.0 s.0 in
      let others = some_all es s.1 in
      (own.0 ++ others.0, and e es own.0 others.0 own.1 others.1)

  first_well : (e : ExprId) (es : List ExprId) (low : ℕ) (w : Write) → (places : List (Option Bit)) → StandForAll p es places → IsWell e.0 w → AllWell (e ∷ es) low (raised low w)
  first_well e es low w places others own = record {
    some = own.some;
    placed = λ i lt.
        let mine = own.placed i lt in
        record {
          places = mine.places ++ places;
          chosen = and e es mine.places places mine.chosen others;
          above = omega arith;
          here = ap (slice_get (mine.places ++ places)) (let z : low + w.from + i - low ≡ w.from + i = omega arith in z) ∙ get_append_left mine.places places (w.from + i) (Some (bit_of w i)) mine.here;
        };
  }

  more_well : (e : ExprId) (es : List ExprId) (low : ℕ) (w : Write) → is_target p e.0 ≡ true → AllWell es (low + (form p e.0).width) w → AllWell (e ∷ es) low w
  more_well e es low w t rest =
      let width : ℕ = (form p e.0).width in
      let own = some_places p rules e.0 t in
      let long : length own.0 ≡ width = stands_length p rules own.1 in
      record {
        some = rest.some;
        placed = λ i lt.
            let others = rest.placed i lt in
            let j : w.from + i - low ≡ length own.0 + (w.from + i - (low + width)) = omega (arith, others.above, long) in
            record {
              places = own.0 ++ others.places;
              chosen = and e es own.0 others.places own.1 others.chosen;
              above = omega (arith, others.above);
              here = ap (slice_get (own.0 ++ others.places)) j ∙ get_append_right own.0 others.places (w.from + i - (low + width)) ∙ others.here;
            };
      }

  all_well : (k : ℕ) (es : List ExprId) (low : ℕ) → AllBelow k es → ((a : ℕ) → a < k → AreWell a) → list_all (λ (e : ExprId). is_target p e.0) es ≡ true → (w : Write) → Contains (writes_of_all (form p) (writes p) low es) w → AllWell es low w
  all_well k [] low names each t w c = absurd (contains_none w c)
  all_well k (e ∷ es) low names each t w c =
      let s = and_parts (is_target p e.0) (list_all (λ (a : ExprId). is_target p a.0) es) t in
      ⊎_elim
      (λ (mine : Contains (map (raised low) (writes p e.0)) w).
      let m = map_of (raised low) (writes p e.0) w mine in
      let others = some_all es s.1 in
      subst (AllWell (e ∷ es) low) m.2 (first_well e es low m.0 others.0 others.1 (each e.0 names.0 s.0 m.0 m.1)))
      (λ (more : Contains (writes_of_all (form p) (writes p) (low + (form p e.0).width) es) w). more_well e es low w s.0 (all_well k es (low + (form p e.0).width) names.1 each s.1 w more))
      (Contains-append_cases (map (raised low) (writes p e.0)) (writes_of_all (form p) (writes p) (low + (form p e.0).width) es) w c)

  -- an index that picks this item
  picking : (index : ExprId) (es : List ExprId) (i : ℕ) → i ≤ length es - 1 → min (numbers p index.0).least (length es - 1) ≤ i → i ≤ (numbers p index.0).greatest → (m : ℕ) × IsNumber p index.0 m × (min m (length es - 1) ≡ i)
  picking index es i last above below =
      let n : Numbers = numbers p index.0 in
      let least = least_is p index.0 in
      let most : n.least ≤ n.greatest = least.below in
      (max i n.least, record { above = omega arith; below = omega (arith, below, most) }, omega (arith, last, above))

  step_well : (k : ℕ) (e : Expr) → slice_get p.exprs k ≡ Some e → ((a : ℕ) → a < k → AreWell a) → target_test (is_target p) e ≡ true → (w : Write) → Contains (writes_step (signal_form p.signals) (form p) (numbers p) (writes p) e) w → IsWell k w
  step_well k (expr.Sig s) is each t w c =
      let width : ℕ = (signal_form p.signals s.0).width in
      let own : Write = record { tests = []; sig = s; low = 0; width = width; from = 0 } in
      let r = if_not (width == 0) (own ∷ []) w c in
      let wide : width ≢ 0 = eqb-false width 0 r.0 in
      ⊎_elim
      (λ (e : own ≡ w).
      subst (IsWell k) e (record {
        some = omega (arith, wide);
        placed = λ i lt.
            let j : 0 + (0 + i) ≡ 0 + i = omega arith in
            record { places = map (λ b. Some b) (bits_of s.0 width); chosen = whole k s is; here = signal_has s.0 0 width (0 + i) (omega (arith, lt)) ∙ ap (λ n. Some (Some (bit_at s.0 n))) j };
      }))
      (λ none. absurd (contains_none w none)) (contains_cases own w [] r.1)
  step_well k (expr.Slice a low width) is each t w c =
      let h = standing p k (expr.Slice a low width) rules is in
      let f = filter_of (cut low width) (writes p a.0) w c in
      let is-cut : IsCut low width f.0 w = cut_origin low width f.0 w f.2 in
      let own : IsWell a.0 f.0 = each a.0 h.names.0 t f.0 f.1 in
      record {
        some = is-cut.some;
        placed = λ i lt.
            let here = cut_placed a.0 low width f.0 w is-cut own i lt in
            record {
              places = take width (drop low here.places);
              chosen = sliced k a low width here.places is here.chosen;
              here = get_take width (drop low here.places) (w.from + i) (Some (bit_of w i)) (omega (arith, lt, is-cut.upto)) (get_drop low here.places (w.from + i) ∙ here.here);
            };
      }
  step_well k (expr.Cat es) is each t w c =
      let h = standing p k (expr.Cat es) rules is in
      let all = all_well k es 0 h.names each t w c in
      record {
        some = all.some;
        placed = λ i lt.
            let here = all.placed i lt in
            record { places = here.places; chosen = joined k es here.places is here.chosen; here = ap (slice_get here.places) (let z : w.from + i ≡ w.from + i - 0 = omega arith in z) ∙ here.here };
      }
  step_well k (expr.Part a offset width stride) is each t w c =
      let h = standing p k (expr.Part a offset width stride) rules is in
      let n : Numbers = numbers p offset.0 in
      let least = least_is p offset.0 in
      let most : n.least ≤ n.greatest = least.below in
      let from : PartOrigin n offset width stride (writes p a.0) w = part_origin n offset (form p a.0).width width stride (writes p a.0) w most c in
      let own : IsWell a.0 from.of = each a.0 h.names.0 t from.of from.among in
      let low : ℕ = from.number * stride in
      let piece : Write = from.piece in
      tested_well k offset piece w from.is_tested (record {
        some = from.is_cut.some;
        placed = λ i lt.
            let here = cut_placed a.0 low width from.of piece from.is_cut own i lt in
            record {
              places = padded width (drop low here.places);
              chosen = part k a offset width stride from.number here.places is (record { above = from.above; below = from.below }) here.chosen;
              here = padded_has width (piece.from + i) (drop low here.places) (bit_of piece i) (omega (arith, lt, from.is_cut.upto)) (get_drop low here.places (piece.from + i) ∙ here.here);
            };
      })
  step_well k (expr.Pick index es) is each t w c =
      let h = standing p k (expr.Pick index es) rules is in
      let width : ℕ = (common_of_all (form p) es).width in
      let from : ItemOrigin (numbers p index.0) index (writes p) es w = item_origin (numbers p index.0) index (writes p) es w c in
      let x : ExprId = from.item in
      let inside : from.place < length es = slice_get_within es from.place x from.there in
      let own : IsWell x.0 from.of = each x.0 (below_get k es from.place x h.names.1 from.there) (all_get (λ (a : ExprId). is_target p a.0) es from.place x t from.there) from.of from.among in
      let m = picking index es from.place (omega (arith, inside)) from.above from.below in
      tested_well k index from.of w from.is_tested (record {
        some = own.some;
        placed = λ i lt.
            let here = own.placed i lt in
            let long : length here.places ≡ (form p x.0).width = stands_length p rules here.chosen in
            let there : from.of.from + i < width =
            omega (arith, slice_get_within here.places (from.of.from + i) (Some (bit_of from.of i)) here.here, long, common_fits (form p) es from.place x from.there) in
            record { places = padded width here.places; chosen = item k index es m.0 x here.places is m.1 (ap (slice_get es) m.2 ∙ from.there) here.chosen; here = padded_has width (from.of.from + i) here.places (bit_of from.of i) there here.here };
      })
  step_well k (expr.Cast a signed) is each t w c =
      let h = standing p k (expr.Cast a signed) rules is in
      let own : IsWell a.0 w = each a.0 h.names.0 t w c in
      record { some = own.some; placed = λ i lt. let here = own.placed i lt in record { places = here.places; chosen = same k a signed here.places is here.chosen; here = here.here } }
  step_well k (expr.Const n s) is each t w c = absurd (false≢true t)
  step_well k (expr.Unary o a) is each t w c = absurd (false≢true t)
  step_well k (expr.Binary o a b) is each t w c = absurd (false≢true t)
  step_well k (expr.Mux s a b) is each t w c = absurd (false≢true t)
  step_well k (expr.Matches a patterns) is each t w c = absurd (false≢true t)
  step_well k (expr.Reset domain place) is each t w c = absurd (false≢true t)

  well_below : (n k : ℕ) → k < n → AreWell k
  well_below zero k below t w c = absurd (omega (arith, below))
  well_below (suc n) k below t w c =
      let x = element p.exprs k (target_there p k t) in
      step_well k x.0 x.1 (λ a lt. well_below n a (omega (arith, below, lt))) (sym (is_target_is p k x.0 rules x.1) ∙ t) w (subst (λ ws. Contains ws w) (writes_is p k x.0 rules x.1) c)

  pub writes_placed : (k : ℕ) (w : Write) → is_target p k ≡ true → Contains (writes p k) w → IsWell k w
  writes_placed k w t c = well_below (suc k) k (omega arith) t w c
