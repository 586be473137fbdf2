-- The writes of a target leave what the target leaves.
use Rattle.std.specs.Prelude.{◌≡◌, refl, ℕ, zero, suc, ◌+◌, ◌-◌, ◌==◌, ◌<◌, min, true, if◌then◌else◌, List, [], ◌∷◌, ◌++◌, map, length, slice_get, fold, ℤ, unsigned_abs, Some}
use Rattle.std.specs.List.{flat_map, filter_map, list_all, range_with_len}
use Rattle.std.proofs.Common.{sym, ◌∙◌, ap, arith, append-nil, take_all}
use Rattle.std.proofs.lemmas.Bool.{cond-false, false≢true, and_parts, ne_eqb}
use Rattle.std.proofs.lemmas.Grind.{flat_map-append}
use Rattle.design_ir.specs.declared.ids.ExprId.{ExprId}
use Rattle.design_ir.specs.declared.ids.SigId.{SigId}
use Rattle.design_ir.specs.declared.expr.Expr.{Expr}
use Rattle.design_ir.specs.declared.expr.Expr.TheVariants as expr
use Rattle.design_ir.specs.Named.{AllBelow}
use Rattle.design_ir.specs.Pools.{Pooled}
use Rattle.design_ir.specs.PoolRules.{IsPool}
use Rattle.design_ir.specs.Values.{form, num, signal_form, common_of_all}
use Rattle.design_ir.specs.Targets.{bits_of, padded, target_step, target_bits, target_test, is_target, numbers}
use Rattle.design_ir.specs.Choices.{IsNumber}
use Rattle.design_ir.specs.Circuits.{FitsSignals}
use Rattle.design_ir.proofs.Equations.{standing, place_below}
use Rattle.design_ir.proofs.NumbersFit.{element, accepted_is}
use Rattle.design_ir.proofs.TargetLaws.{target_is, is_target_is, target_length}
use Rattle.design_ir.proofs.AimSteps.{number_is}
use Rattle.design_ir.proofs.AimLaws.{target_there, below_get}
use Rattle.flat_design.specs.Writes.{raised, writes_of_all, writes_step, writes}
use Rattle.flat_design.specs.WriteLaws.{WritesPut}
use Rattle.flat_design.proofs.Placings.{occupied, run, lifted, window, put_placing, put_occupied, filter_window, occupied_padded, occupied_append, occupied_lifted}
use Rattle.flat_design.proofs.WriteSteps.{writes_is}
use Rattle.flat_design.proofs.WritePlaces.{filled, placed, put_placed, placed_cut, placed_raised}
use Rattle.flat_design.proofs.WriteChoices.{part_placed, items_placed}
use Rattle.flat_design.proofs.TargetItems.{all_get, some_items, picked_places, common_fits}

occupied_bits : (i sig low n : ℕ) → occupied i (map (λ b. Some b) (map (λ k. record { sig = sig; index = k }) (range_with_len low n))) ≡ run i sig low n
occupied_bits i sig low zero = refl
occupied_bits i sig low (suc n) = ap (λ xs. record { place = i; bit = record { sig = sig; index = low } } ∷ xs) (occupied_bits (i + 1) sig (low + 1) n)

module _ (p : Pooled) (rules : IsPool p) (env : List ℤ) (fit : FitsSignals p env) where
  -- the writes fill the places that the target stands for
  abbrev IsFilled : ℕ → Type 0
  IsFilled k = is_target p k ≡ true → placed p env (writes p k) ≡ occupied 0 (target_bits p env k)

  signal_filled : (s : SigId) (width : ℕ) → placed p env (if width == 0 then [] else record { tests = []; sig = s; low = 0; width = width; from = 0 } ∷ []) ≡ occupied 0 (map (λ b. Some b) (bits_of s.0 width))
  signal_filled s zero = refl
  signal_filled s (suc n) =
      ap (placed p env) (cond-false (suc n == 0) [] (record { tests = []; sig = s; low = 0; width = suc n; from = 0 } ∷ []) (ne_eqb (suc n) 0 (λ e. omega (arith, e)))) ∙ append-nil (run 0 s.0 0 (suc n)) ∙ sym (occupied_bits 0 s.0 0 (suc n))

  all_filled : (k low : ℕ) (es : List ExprId) → k < length p.exprs → AllBelow k es → ((a : ℕ) → a < k → IsFilled a) → list_all (λ (e : ExprId). is_target p e.0) es ≡ true → placed p env (writes_of_all (form p) (writes p) low es) ≡ occupied low (flat_map (λ (e : ExprId). target_bits p env e.0) es)
  all_filled k low [] there names each t = refl
  all_filled k low (e ∷ es) there names each t =
      let s = and_parts (is_target p e.0) (list_all (λ (a : ExprId). is_target p a.0) es) t in
      let w : ℕ = (form p e.0).width in
      let long : length (target_bits p env e.0) ≡ w = target_length p env rules e (omega (arith, names.0, there)) s.0 in
      flat_map-append (filled p env) (map (raised low) (writes p e.0)) (writes_of_all (form p) (writes p) (low + w) es)
      ∙ (λ i. (placed_raised p env low (writes p e.0) ∙ ap (map (lifted low)) (each e.0 names.0 s.0) ∙ sym (occupied_lifted low 0 low (target_bits p env e.0) (omega arith))) i ++ all_filled k (low + w) es there names.1 each s.1 i)
      ∙ sym (occupied_append low (low + w) (target_bits p env e.0) (flat_map (λ (a : ExprId). target_bits p env a.0) es) (omega (arith, long)))

  step_filled : (k : ℕ) (e : Expr) → slice_get p.exprs k ≡ Some e → ((a : ℕ) → a < k → IsFilled a) → target_test (is_target p) e ≡ true
      → placed p env (writes_step (signal_form p.signals) (form p) (numbers p) (writes p) e) ≡ occupied 0 (target_step (signal_form p.signals) (form p) (num p env) (target_bits p env) e)
  step_filled k (expr.Sig s) is each t = signal_filled s (signal_form p.signals s.0).width
  step_filled k (expr.Slice a low width) is each t =
      let h = standing p k (expr.Slice a low width) rules is in
      placed_cut p env low width (writes p a.0) ∙ ap (filter_map (window low width)) (each a.0 h.names.0 t) ∙ filter_window low width 0 low (target_bits p env a.0) (omega arith)
  step_filled k (expr.Cat es) is each t =
      let h = standing p k (expr.Cat es) rules is in
      all_filled k 0 es (place_below p.exprs k (expr.Cat es) is) h.names each t
  step_filled k (expr.Part a offset width stride) is each t =
      let h = standing p k (expr.Part a offset width stride) rules is in
      let here : k < length p.exprs = place_below p.exprs k (expr.Part a offset width stride) is in
      let n : IsNumber p offset.0 (unsigned_abs (num p env offset.0)) = number_is p env offset rules fit (omega (arith, h.names.1.0, here)) (accepted_is (form p offset.0).signed width h.accepted).0 in
      let long : length (target_bits p env a.0) ≡ (form p a.0).width = target_length p env rules a (omega (arith, h.names.0, here)) t in
      part_placed p env (numbers p offset.0) offset (form p a.0).width width stride (writes p a.0) (target_bits p env a.0) n.above n.below (omega (arith, long)) (each a.0 h.names.0 t)
  step_filled k (expr.Pick index es) is each t =
      let h = standing p k (expr.Pick index es) rules is in
      let here : k < length p.exprs = place_below p.exprs k (expr.Pick index es) is in
      let width : ℕ = (common_of_all (form p) es).width in
      let n : IsNumber p index.0 (unsigned_abs (num p env index.0)) = number_is p env index rules fit (omega (arith, h.names.0, here)) (accepted_is (form p index.0).signed width h.accepted).0 in
      let i : ℕ = unsigned_abs (num p env index.0) in
      let m : ℕ = min i (length es - 1) in
      let x = element es m (omega (arith, some_items es h.askable.parts)) in
      let below : (x.0).0 < k = below_get k es m x.0 h.names.1 x.1 in
      let is-target : is_target p (x.0).0 ≡ true = all_get (λ (a : ExprId). is_target p a.0) es m x.0 t x.1 in
      let long : length (target_bits p env (x.0).0) ≡ (form p (x.0).0).width = target_length p env rules x.0 (omega (arith, below, here)) is-target in
      items_placed p env (numbers p index.0) index (length es - 1) (writes p) n.above n.below es x.0 refl x.1
      ∙ each (x.0).0 below is-target
      ∙ sym (ap (λ places. occupied 0 (padded width places)) (picked_places (target_bits p env) es i x.0 x.1)
      ∙ occupied_padded width 0 (target_bits p env (x.0).0)
      ∙ ap (occupied 0) (take_all width (target_bits p env (x.0).0) (omega (arith, long, common_fits (form p) es m x.0 x.1))))
  step_filled k (expr.Cast a signed) is each t = let h = standing p k (expr.Cast a signed) rules is in each a.0 h.names.0 t
  step_filled k (expr.Const n s) is each t = absurd (false≢true t)
  step_filled k (expr.Unary o a) is each t = absurd (false≢true t)
  step_filled k (expr.Binary o a b) is each t = absurd (false≢true t)
  step_filled k (expr.Mux s a b) is each t = absurd (false≢true t)
  step_filled k (expr.Matches a patterns) is each t = absurd (false≢true t)
  step_filled k (expr.Reset domain place) is each t = absurd (false≢true t)

  filled_below : (n k : ℕ) → k < n → IsFilled k
  filled_below zero k below t = absurd (omega (arith, below))
  filled_below (suc n) k below t =
      let x = element p.exprs k (target_there p k t) in
      ap (placed p env) (writes_is p k x.0 rules x.1)
      ∙ step_filled k x.0 x.1 (λ a lt. filled_below n a (omega (arith, below, lt))) (sym (is_target_is p k x.0 rules x.1) ∙ t)
      ∙ ap (occupied 0) (sym (target_is p env k x.0 rules x.1))

pub writes_put : (p : Pooled) → IsPool p → WritesPut p
writes_put p rules = λ k env cur v t fit.
    put_occupied p v (target_bits p env k) 0 cur ∙ ap (fold (put_placing p v) cur) (sym (filled_below p rules env fit (suc k) k (omega arith) t)) ∙ sym (put_placed p env v (writes p k) cur)
