-- Drawings one behind the other.
use Rattle.std.specs.Prelude.{◌≡◌, ◌≤◌, ◌<◌, ◌+◌, ℕ, suc, List, [], ◌∷◌, ◌++◌, length, IsPermutation, Some, slice_get}
use Rattle.std.specs.List.{flat_map, range_with_len, AllByRecursion}
use Rattle.std.proofs.Common.{ap, ◌∙◌, arith, subst}
use Rattle.std.proofs.lemmas.List.Sorted.{IsPermutation-refl, IsPermutation-trans, IsPermutation-append}
use Rattle.design_ir.specs.declared.expr.Expr.{Expr}
use Rattle.design_ir.specs.PoolRules.{IsPool}
use Rattle.design_ir.specs.Circuits.{Circuit}
use Rattle.design_ir.proofs.Equations.{standing, form_is}
use Rattle.rtlil_text.specs.declared.module.RtlWire.{RtlWire}
use Rattle.rtlil_text.specs.Sources.{Source}
use Rattle.netlist_laws.specs.Ids.{part_id}
use Rattle.netlist_laws.specs.Operators.{Drawing}
use Rattle.netlist_laws.specs.Expressions.{part_count, part_total, drawn}
use Rattle.netlist_laws.specs.Module.{signal_value, expr_value, drawn_from}
use Rattle.netlist_laws.proofs.Permuted.{IsPermutation-inner_two}
use Rattle.rtlil_text.proofs.Among.{AllByRecursion-append}
use Rattle.netlist_laws.proofs.Fresh.{IsFresh, IsFresh-append}
use Rattle.netlist_laws.proofs.Drives.{value_bits, drawing_ids, drawn_bits, own_bits, IsBare, IsDrawn, fresh_none}
use Rattle.netlist_laws.proofs.ExpressionsDrawn.{expression_drawn}

abbrev pub drawing_wires : Drawing → List RtlWire
drawing_wires d = d.wires

pub record AreDrawn (id : ℕ → List ℕ) (low high : ℕ) (made : List Source) (ds : List Drawing) : Type 0 where
  pub fresh : IsFresh id low high (flat_map drawing_ids ds)
  pub bare : AllByRecursion IsBare (flat_map drawing_wires ds)
  pub drives : IsPermutation (flat_map drawn_bits ds) (made ++ flat_map own_bits ds)

pub AreDrawn-none : (id : ℕ → List ℕ) (low high : ℕ) → AreDrawn id low high [] []
AreDrawn-none id low high = record { fresh = fresh_none id low high; bare = tt; drives = IsPermutation-refl [] }

pub AreDrawn-cons : (id : ℕ → List ℕ) (low mid high : ℕ) (made more : List Source) (d : Drawing) (ds : List Drawing) → low ≤ mid → mid ≤ high → IsDrawn id low mid [] made d → AreDrawn id mid high more ds → AreDrawn id low high (made ++ more) (d ∷ ds)
AreDrawn-cons id low mid high made more d ds p q g h = record {
  fresh = IsFresh-append id low mid mid high (drawing_ids d) (flat_map drawing_ids ds) p (omega arith) q g.fresh h.fresh;
  bare = AllByRecursion-append IsBare d.wires (flat_map drawing_wires ds) g.bare h.bare;
  drives =
      IsPermutation-trans (drawn_bits d ++ flat_map drawn_bits ds) ((made ++ own_bits d) ++ (more ++ flat_map own_bits ds)) ((made ++ more) ++ (own_bits d ++ flat_map own_bits ds))
      (IsPermutation-append (drawn_bits d) (made ++ own_bits d) (flat_map drawn_bits ds) (more ++ flat_map own_bits ds) g.drives h.drives)
      (IsPermutation-inner_two made (own_bits d) more (flat_map own_bits ds));
}

-- ---- the expressions of a pool

abbrev pub expr_bits : Circuit → ℕ → List Source
expr_bits c k = value_bits (expr_value c k)

-- these are the expressions from number k on
abbrev AreFrom : Circuit → ℕ → List Expr → Type 0
AreFrom c k es = (i : ℕ) → i < length es → slice_get c.pool.exprs (k + i) ≡ slice_get es i

pub drawn_from_are : (c : Circuit) → IsPool c.pool → (k n high : ℕ) (es : List Expr) → AreFrom c k es → n + part_total es ≤ high → AreDrawn part_id n high (flat_map (expr_bits c) (range_with_len k (length es))) (drawn_from c k n es)
drawn_from_are c p k n high [] from h = AreDrawn-none part_id n high
drawn_from_are c p k n high (e ∷ es) from h =
    let here : slice_get c.pool.exprs k ≡ Some e = ap (slice_get c.pool.exprs) (omega arith) ∙ from 0 (omega arith) in
    let later : AreFrom c (suc k) es = λ i lt. ap (slice_get c.pool.exprs) (omega arith) ∙ from (suc i) (omega arith) in
    let next : suc k ≡ k + 1 = omega arith in
    let one = expression_drawn c.pool.signals (signal_value c) (expr_value c) n (expr_value c k) e (form_is c.pool k e p here) (standing c.pool k e p here).askable.parts in
    let rest = drawn_from_are c p (suc k) (n + part_count e) high es later (omega arith) in
    AreDrawn-cons part_id n (n + part_count e) high (expr_bits c k) (flat_map (expr_bits c) (range_with_len (k + 1) (length es))) (drawn (signal_value c) (expr_value c) n (expr_value c k) e) (drawn_from c (suc k) (n + part_count e) es) (omega arith) (omega arith) one
    (subst (λ j. AreDrawn part_id (n + part_count e) high (flat_map (expr_bits c) (range_with_len j (length es))) (drawn_from c (suc k) (n + part_count e) es)) next rest)
