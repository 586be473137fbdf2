-- What an assignment leaves at a bit is decided by the bits that it then reads, where it may write it, and by what was there.
use Rattle.std.specs.Prelude.{◌≡◌, refl, ℕ, ◌+◌, ◌<◌, cond, not, ◌&&◌, Bool, true, false, if◌then◌else◌, List, [], ◌∷◌, ◌++◌, length, slice_get, ℤ, Option, Some, Contains}
use Rattle.std.specs.List.{AllByRecursion, flat_map, list_all}
use Rattle.std.proofs.Common.{sym, ◌∙◌, ap, arith, subst, ⊎_elim}
use Rattle.std.proofs.lemmas.Bool.{eqb-true}
use Rattle.std.proofs.lemmas.Option.{slice_get_within}
use Rattle.amh_bits.specs.Patterns.{pattern, nat_bit, int_bit}
use Rattle.amh_bits.proofs.BitsOf.{bit_pattern}
use Rattle.shape_rules.specs.Operators.{is_zero}
use Rattle.design_ir.specs.declared.ids.ExprId.{ExprId}
use Rattle.design_ir.specs.Pools.{Pooled}
use Rattle.design_ir.specs.PoolRules.{IsPool}
use Rattle.design_ir.specs.Values.{num, signal_form}
use Rattle.design_ir.specs.Targets.{Bit, Spot, fixed, chosen, Aim, stands_at, fixed_place, aims, is_target, target_bits}
use Rattle.design_ir.specs.Choices.{HasAim}
use Rattle.design_ir.specs.Needed.{needed_whole, needed_indices}
use Rattle.design_ir.specs.Guards.{Guard, Guarded}
use Rattle.design_ir.specs.Put.{put_number}
use Rattle.design_ir.specs.Loops.{AssignmentNeeds, needed_value}
use Rattle.design_ir.specs.Circuits.{at}
use Rattle.design_ir.proofs.GuardLaws.{holds, put_guarded}
use Rattle.design_ir.proofs.NumbersFit.{FitsSignals}
use Rattle.comb_graph.proofs.Decided.{all_left, all_right}
use Rattle.comb_graph.proofs.PoolBits.{IsShared, num_shared, num_bit_shared}
use Rattle.comb_graph.proofs.SharedPlaces.{places_shared}
use Rattle.digraph.proofs.Members.{all_from_contains}
use Rattle.comb_graph.proofs.FoundAims.{places_aimed, cases_aim, places_inside}
use Rattle.comb_graph.proofs.PlaceWrites.{put_bits_length, put_bits_kept, put_bits_shared}

-- ---- choices

choice_length : (t : Bool) (xs ys : List ℤ) (n : ℕ) → length xs ≡ n → length ys ≡ n → length (cond t xs ys) ≡ n
choice_length true xs ys n h k = h
choice_length false xs ys n h k = k

choice_bit : (b : Bit) (t : Bool) (v w x y : List ℤ) → int_bit (at v b.sig) b.index ≡ int_bit (at x b.sig) b.index → int_bit (at w b.sig) b.index ≡ int_bit (at y b.sig) b.index
    → int_bit (at (cond t v w) b.sig) b.index ≡ int_bit (at (cond t x y) b.sig) b.index
choice_bit b true v w x y h k = h
choice_bit b false v w x y h k = k

choice_kept : (b : Bit) (t : Bool) (v w : List ℤ) → int_bit (at v b.sig) b.index ≡ int_bit (at w b.sig) b.index → int_bit (at (cond t v w) b.sig) b.index ≡ int_bit (at w b.sig) b.index
choice_kept b true v w h = h
choice_kept b false v w h = refl

-- ---- one assignment

module _ (p : Pooled) (env : List ℤ) where
  pub guarded_length : (g : Guarded) (cur : List ℤ) → length (put_guarded p env cur g) ≡ length cur
  guarded_length g cur =
      let places : List (Option Bit) = target_bits p env g.target.0 in
      choice_length (list_all (holds p env) g.guards) (put_number p places (num p env g.value.0) cur) cur (length cur) (put_bits_length p places (pattern (length places) (num p env g.value.0)) 0 cur) refl

module _ (p : Pooled) (E F : List ℤ) (rules : IsPool p) (left : FitsSignals p E) (right : FitsSignals p F) where
  guards_same : (gs : List Guard) → AllByRecursion (IsShared p E F) (flat_map (λ (x : Guard). needed_whole p x.condition) gs) → list_all (holds p E) gs ≡ list_all (holds p F) gs
  guards_same [] all = refl
  guards_same (x ∷ gs) all =
      let mine : List Bit = needed_whole p x.condition in
      let others : List Bit = flat_map (λ (y : Guard). needed_whole p y.condition) gs in
      let n = num_shared p E F rules left right x.condition (all_left (IsShared p E F) mine others all) in
      let rest = guards_same gs (all_right (IsShared p E F) mine others all) in
      λ i. (if x.taken then not (is_zero (n i)) else is_zero (n i)) && rest i

  value_bit : (e : ExprId) (j : ℕ) (s : Spot) → stands_at s j ≡ true → AllByRecursion (IsShared p E F) (needed_value p e (fixed_place s)) → int_bit (num p E e.0) j ≡ int_bit (num p F e.0) j
  value_bit e j (chosen set) here all = ap (λ n. int_bit n j) (num_shared p E F rules left right e all)
  value_bit e j (fixed k) here all = subst (λ i. int_bit (num p E e.0) i ≡ int_bit (num p F e.0) i) (eqb-true k j here) (num_bit_shared p E F rules left right e k all)

  module _ (g : Guarded) (b : Bit) (target : is_target p g.target.0 ≡ true) (shared : (x : Bit) → AssignmentNeeds p g b x → IsShared p E F x) where
    reads : Option ℕ → List Bit
    reads o = flat_map (λ (x : Guard). needed_whole p x.condition) g.guards ++ needed_indices p g.target.0 ++ needed_value p g.value o

    all_read : (a : Aim) → Contains (aims p g.target.0) a → a.bit ≡ b → AllByRecursion (IsShared p E F) (reads (fixed_place a.spot))
    unfolding reads
    all_read a may writes = all_from_contains (IsShared p E F) (reads (fixed_place a.spot)) (λ x c. shared x (record { aim = a; may = may; writes = writes; reads = c }))

    decisions : (o : Option ℕ) → AllByRecursion (IsShared p E F) (reads o) → AllByRecursion (IsShared p E F) (flat_map (λ (x : Guard). needed_whole p x.condition) g.guards ++ needed_indices p g.target.0)
    unfolding reads
    decisions o all = all_left (IsShared p E F) (flat_map (λ (x : Guard). needed_whole p x.condition) g.guards ++ needed_indices p g.target.0) (needed_value p g.value o) all

    bit_decided : (j : ℕ) → slice_get (target_bits p E g.target.0) j ≡ Some (Some b) → int_bit (num p E g.value.0) j ≡ int_bit (num p F g.value.0) j
    unfolding reads
    bit_decided j e =
        let found = places_aimed p E rules left g.target target j b e in
        let x : Aim = found.aim in
        let all = all_read x found.among found.bit in
        value_bit g.value j x.spot found.stands (all_right (IsShared p E F) (flat_map (λ (y : Guard). needed_whole p y.condition) g.guards ++ needed_indices p g.target.0) (needed_value p g.value (fixed_place x.spot)) all)

    module _ (cur other : List ℤ) (here : b.index < (signal_form p.signals b.sig).width) (long : length cur ≡ length p.signals) (long' : length other ≡ length p.signals) (was : int_bit (at cur b.sig) b.index ≡ int_bit (at other b.sig) b.index) where
      -- an assignment that may write the bit
      aimed : (o : Option ℕ) → AllByRecursion (IsShared p E F) (reads o) → int_bit (at (put_guarded p E cur g) b.sig) b.index ≡ int_bit (at (put_guarded p F other g) b.sig) b.index
      aimed o all =
          let conditions : List Bit = flat_map (λ (x : Guard). needed_whole p x.condition) g.guards in
          let indices : List Bit = needed_indices p g.target.0 in
          let guards = guards_same g.guards (all_left (IsShared p E F) conditions indices (decisions o all)) in
          let same = places_shared p E F rules left right g.target (all_right (IsShared p E F) conditions indices (decisions o all)) in
          let places : List (Option Bit) = target_bits p E g.target.0 in
          let n : ℤ = num p E g.value.0 in
          let m : ℤ = num p F g.value.0 in
          let value : (j : ℕ) → slice_get places j ≡ Some (Some b) → nat_bit (pattern (length places) n) (0 + j) ≡ nat_bit (pattern (length places) m) (0 + j) =
          λ j e.
          let k : 0 + j ≡ j = omega arith in
          let low : j < length places = slice_get_within places j (Some b) e in
          rw k (bit_pattern n (length places) j low ∙ bit_decided j e ∙ sym (bit_pattern m (length places) j low)) in
          let written = put_bits_shared p b here places (pattern (length places) n) (pattern (length places) m) 0 cur other (places_inside p E g.target.0) long long' value was in
          choice_bit b (list_all (holds p E) g.guards) (put_number p places n cur) cur (put_number p places m other) other written was
          ∙ (λ i. int_bit (at (cond (guards i) (put_number p (same i) m other) other) b.sig) b.index)

      kept : (env now : List ℤ) → FitsSignals p env → length now ≡ length p.signals → ((j : ℕ) → HasAim (aims p g.target.0) b j → ⊥) → int_bit (at (put_guarded p env now g) b.sig) b.index ≡ int_bit (at now b.sig) b.index
      kept env now fit fits none =
          let places : List (Option Bit) = target_bits p env g.target.0 in
          let n : ℤ = num p env g.value.0 in
          choice_kept b (list_all (holds p env) g.guards) (put_number p places n now) now
          (put_bits_kept p b here places (pattern (length places) n) 0 now (places_inside p env g.target.0) fits (λ j e. none j (places_aimed p env rules fit g.target target j b e)))

      pub guarded_shared : int_bit (at (put_guarded p E cur g) b.sig) b.index ≡ int_bit (at (put_guarded p F other g) b.sig) b.index
      guarded_shared =
          ⊎_elim
          (λ (found : (a : Aim) × Contains (aims p g.target.0) a × (a.bit ≡ b)). aimed (fixed_place (found.0).spot) (all_read found.0 found.1 found.2))
          (λ none. kept E cur left long none ∙ was ∙ sym (kept F other right long' none))
          (cases_aim b (aims p g.target.0))
