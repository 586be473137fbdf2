-- Where the bits are shared that a target's offsets and indices need, it stands for the same bits in both environments.
use Rattle.std.specs.Prelude.{◌≡◌, refl, ℕ, zero, suc, ◌*◌, ◌<◌, ◌≤◌, List, [], ◌∷◌, ◌++◌, map, length, take, drop, ℤ, unsigned_abs}
use Rattle.std.specs.List.{AllByRecursion, flat_map}
use Rattle.std.proofs.Common.{sym, ◌∙◌, ap, arith, ⊎_elim}
use Rattle.std.proofs.lemmas.Bool.{cases_lt}
use Rattle.design_ir.specs.declared.ids.ExprId.{ExprId}
use Rattle.design_ir.specs.declared.expr.Expr.{Expr}
use Rattle.design_ir.specs.declared.expr.Expr.TheVariants as expr
use Rattle.design_ir.specs.Named.{named, AllBelow}
use Rattle.design_ir.specs.Pools.{Pooled}
use Rattle.design_ir.specs.PoolRules.{IsPool}
use Rattle.design_ir.specs.Targets.{Bit, padded, target_step, target_bits}
use Rattle.design_ir.specs.Values.{form, num, signal_form, picked, common_of_all}
use Rattle.design_ir.specs.Needed.{needed_whole, index_step, needed_indices}
use Rattle.design_ir.proofs.Equations.{standing}
use Rattle.design_ir.proofs.NumbersFit.{FitsSignals, element}
use Rattle.design_ir.proofs.TargetLaws.{target_is}
use Rattle.comb_graph.proofs.Decided.{all_left, all_right}
use Rattle.comb_graph.proofs.NeededBits.{needed_indices_is}
use Rattle.comb_graph.proofs.PoolBits.{answer_past, IsShared, num_shared}

target_past : (p : Pooled) (env : List ℤ) (k : ℕ) → length p.exprs ≤ k → target_bits p env k ≡ []
unfolding target_bits
target_past p env k h = answer_past [] (target_step (signal_form p.signals) (form p) (num p env)) p.exprs k h

module _ (p : Pooled) (E F : List ℤ) (rules : IsPool p) (left : FitsSignals p E) (right : FitsSignals p F) where
  abbrev HasPlaces : ℕ → Type 0
  HasPlaces e = AllByRecursion (IsShared p E F) (needed_indices p e) → target_bits p E e ≡ target_bits p F e

  parts_same : (k : ℕ) (es : List ExprId) → AllBelow k es → ((e : ℕ) → e < k → HasPlaces e) → AllByRecursion (IsShared p E F) (flat_map (λ (e : ExprId). needed_indices p e.0) es)
      → flat_map (λ (e : ExprId). target_bits p E e.0) es ≡ flat_map (λ (e : ExprId). target_bits p F e.0) es
  parts_same k [] names each all = refl
  parts_same k (e ∷ es) names each all =
      let mine : List Bit = needed_indices p e.0 in
      let others : List Bit = flat_map (λ (a : ExprId). needed_indices p a.0) es in
      let first : target_bits p E e.0 ≡ target_bits p F e.0 = each e.0 names.0 (all_left (IsShared p E F) mine others all) in
      let rest = parts_same k es names.1 each (all_right (IsShared p E F) mine others all) in
      λ i. first i ++ rest i

  items_same : (k : ℕ) (es : List ExprId) → AllBelow k es → ((e : ℕ) → e < k → HasPlaces e) → AllByRecursion (IsShared p E F) (flat_map (λ (e : ExprId). needed_indices p e.0) es)
      → map (λ (e : ExprId). target_bits p E e.0) es ≡ map (λ (e : ExprId). target_bits p F e.0) es
  items_same k [] names each all = refl
  items_same k (e ∷ es) names each all =
      let mine : List Bit = needed_indices p e.0 in
      let others : List Bit = flat_map (λ (a : ExprId). needed_indices p a.0) es in
      let first : target_bits p E e.0 ≡ target_bits p F e.0 = each e.0 names.0 (all_left (IsShared p E F) mine others all) in
      let rest = items_same k es names.1 each (all_right (IsShared p E F) mine others all) in
      λ i. first i ∷ rest i

  step_same : (k : ℕ) (e : Expr) → AllBelow k (named e) → ((a : ℕ) → a < k → HasPlaces a) → AllByRecursion (IsShared p E F) (index_step p (needed_indices p) e)
      → target_step (signal_form p.signals) (form p) (num p E) (target_bits p E) e ≡ target_step (signal_form p.signals) (form p) (num p F) (target_bits p F) e
  step_same k (expr.Slice a low width) names each all = ap (λ bs. take width (drop low bs)) (each a.0 names.0 all)
  step_same k (expr.Cat es) names each all = parts_same k es names each all
  step_same k (expr.Part a offset width stride) names each all =
      let test : List Bit = needed_whole p offset in
      let places : target_bits p E a.0 ≡ target_bits p F a.0 = each a.0 names.0 (all_right (IsShared p E F) test (needed_indices p a.0) all) in
      let n = num_shared p E F rules left right offset (all_left (IsShared p E F) test (needed_indices p a.0) all) in
      λ i. padded width (drop (unsigned_abs (n i) * stride) (places i))
  step_same k (expr.Pick index es) names each all =
      let test : List Bit = needed_whole p index in
      let others : List Bit = flat_map (λ (a : ExprId). needed_indices p a.0) es in
      let items = items_same k es names.1 each (all_right (IsShared p E F) test others all) in
      let n = num_shared p E F rules left right index (all_left (IsShared p E F) test others all) in
      λ i. padded (common_of_all (form p) es).width (picked [] (items i) (unsigned_abs (n i)))
  step_same k (expr.Cast a signed) names each all = each a.0 names.0 all
  step_same k (expr.Const x s) names each all = refl
  step_same k (expr.Sig s) names each all = refl
  step_same k (expr.Unary o a) names each all = refl
  step_same k (expr.Binary o a b) names each all = refl
  step_same k (expr.Mux s a b) names each all = refl
  step_same k (expr.Matches a patterns) names each all = refl
  step_same k (expr.Reset domain place) names each all = refl

  up_to : (n e : ℕ) → e < n → HasPlaces e
  up_to zero e below all = absurd (omega (arith, below))
  up_to (suc n) e below all =
      ⊎_elim
      (λ (there : e < length p.exprs).
      let x = element p.exprs e there in
      target_is p E e x.0 rules x.1
      ∙ step_same e x.0 (standing p e x.0 rules x.1).names (λ a lt. up_to n a (omega (arith, below, lt))) (rw (needed_indices_is p e x.0 rules x.1) at all)
      ∙ sym (target_is p F e x.0 rules x.1))
      (λ (past : length p.exprs ≤ e). target_past p E e past ∙ sym (target_past p F e past))
      (cases_lt e (length p.exprs))

  pub places_shared : (e : ExprId) → AllByRecursion (IsShared p E F) (needed_indices p e.0) → target_bits p E e.0 ≡ target_bits p F e.0
  places_shared e all = up_to (suc e.0) e.0 (omega arith) all
