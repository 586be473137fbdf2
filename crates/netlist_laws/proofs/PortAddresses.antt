-- The address of a memory's port behind its guard.
use Rattle.std.specs.Prelude.{◌≡◌, ◌≤◌, ◌<◌, ◌^◌, ◌*◌, ◌/◌, ◌==◌, ℕ, zero, suc, ◌+◌, nat_lt, nat_le, Bool, true, false, cond, if◌then◌else◌, max, List, slice_get, ℤ, pos, negsuc, unsigned_abs, Some, unwrap_or}
use Rattle.std.specs.List.{find, range_with_len}
use Rattle.std.proofs.Common.{refl, sym, ap, ◌∙◌, arith, subst, ⊎_elim}
use Rattle.std.proofs.lemmas.Bool.{cases_lt, eqb-true, eqb-false, lt-ltb, leb-true, leb-false}
use Rattle.std.proofs.Math.Nat.{mul-div_cancel, mul_comm}
use Rattle.amh_bits.specs.Patterns.{IsOf, pattern}
use Rattle.shape_rules.specs.Operators.{truth}
use Rattle.design_ir.specs.declared.ids.ExprId.{ExprId}
use Rattle.design_ir.specs.declared.memory.MemWrite.{MemWrite}
use Rattle.design_ir.specs.declared.memory.Memory.{Memory}
use Rattle.design_ir.specs.PoolRules.{IsPool}
use Rattle.design_ir.specs.Values.{form, num}
use Rattle.design_ir.specs.Circuits.{Circuit}
use Rattle.design_ir.specs.Rows.{address, granules}
use Rattle.design_ir.specs.Designs.{IsAddress, IsAddressWidth, IsGranularity}
use Rattle.design_ir.proofs.NumbersFit.{FitsSignals, num_fits}
use Rattle.rtlil_text.specs.Sources.{spec_bits}
use Rattle.rtlil_text.specs.Cells.{read, bit_at, number_bits}
use Rattle.rtlil_text.specs.Meaning.{source_value}
use Rattle.rtlil_text.specs.History.{Wires}
use Rattle.memory_cells.specs.Plans.{guarded}
use Rattle.netlist_laws.specs.Ids.{value_id, step_id}
use Rattle.netlist_laws.specs.Carried.{Carries, Obeys}
use Rattle.netlist_laws.specs.Module.{expr_value}
use Rattle.netlist_laws.specs.MemoryDrawings.{row_width, names_rows, port_address, address_guard, is_row, guarded_address}
use Rattle.netlist_laws.proofs.PortGuards.{guards_made, guard_bits}
use Rattle.netlist_laws.proofs.Reading.{HasBits}

-- ---- a number without a sign

pub unsigned_is : (s : Bool) (w : ℕ) (z : ℤ) → s ≡ false → IsOf s w z → (z ≡ pos (unsigned_abs z)) × (unsigned_abs z < 2 ^ w)
unsigned_is true w z e h = cc
unsigned_is false w (pos n) e h = (refl, h)
unsigned_is false w (negsuc n) e h = absurd h

module _ (c : Circuit) (env : List ℤ) (rules : IsPool c.pool) (fit : FitsSignals c.pool env) (m : Memory) (e : ExprId) (is : IsAddress c m e) where
  -- the address is below the power of its width
  pub address_is : (num c.pool env e.0 ≡ pos (address c.pool env e)) × (address c.pool env e < 2 ^ (form c.pool e.0).width)
  address_is = unsigned_is (form c.pool e.0).signed (form c.pool e.0).width (num c.pool env e.0) is.is_unsigned (num_fits c.pool env rules fit e is.usable.there)

  -- where each number names a row, the address is one of a row
  pub exact_row : names_rows c m e ≡ true → nat_lt (address c.pool env e) m.depth ≡ true
  exact_row t = lt-ltb (address c.pool env e) m.depth (subst (λ d. address c.pool env e < d) (sym (eqb-true m.depth (2 ^ (form c.pool e.0).width) t)) address_is.1)

  module _ (wires : Wires) (carried : Carries wires (expr_value c e.0) (num c.pool env e.0)) (n : ℕ) (some : 1 ≤ m.depth) (obeys : Obeys wires (address_guard c m n e)) where
    own : Carries wires (port_address c e) (pos (address c.pool env e))
    own i h =
        let w : ℕ = (form c.pool e.0).width in
        carried i h ∙ ap (λ z. slice_get (number_bits w (pattern w z)) i) address_is.0

    guard : (bit_at (source_value wires) (spec_bits (is_row c m n e)) 0 ≡ Some (nat_lt (address c.pool env e) m.depth))
        × (read (source_value wires) (spec_bits (guarded_address c m n e)) ≡ Some (number_bits (max 1 (form c.pool e.0).width) (guarded m.depth (address c.pool env e))))
    guard = guards_made wires step_id n m.depth (value_id e.0) (form c.pool e.0).width (address c.pool env e) address_is.1 some is.width.enough own obeys

    -- the wires of the guard have bits
    pub guard_has : names_rows c m e ≡ false
        → HasBits wires (step_id (n + 1)) 1 (truth (nat_lt (address c.pool env e) m.depth)) × HasBits wires (step_id (n + 3)) (form c.pool e.0).width (cond (nat_lt (address c.pool env e) m.depth) (pos (address c.pool env e)) (pos 0))
    guard_has behind = guard_bits wires step_id n m.depth (value_id e.0) (form c.pool e.0).width (address c.pool env e) address_is.1 some is.width.enough own obeys behind

    -- the one bit says whether the address is one of a row
    pub row_bit_is : bit_at (source_value wires) (spec_bits (is_row c m n e)) 0 ≡ Some (nat_lt (address c.pool env e) m.depth)
    row_bit_is = guard.0

    -- a cell reads the guarded address
    pub address_read : (width : ℕ) → width ≡ max 1 (form c.pool e.0).width → read (source_value wires) (spec_bits (guarded_address c m n e)) ≡ Some (number_bits width (guarded m.depth (address c.pool env e)))
    address_read width e' = guard.1 ∙ ap (λ v. Some (number_bits v (guarded m.depth (address c.pool env e)))) (sym e')

    -- which its bits can say
    pub guarded_fits : (width : ℕ) → width ≡ max 1 (form c.pool e.0).width → guarded m.depth (address c.pool env e) < 2 ^ width
    guarded_fits width e' = subst (λ v. guarded m.depth (address c.pool env e) < 2 ^ v) (sym e') (below (nat_lt (address c.pool env e) m.depth))
      where
        wider : (w a : ℕ) → a < 2 ^ w → a < 2 ^ max 1 w
        wider zero a h = omega (arith, h)
        wider (suc w) a h = subst (λ v. a < 2 ^ v) (let d : suc w ≡ max 1 (suc w) = omega arith in d) h

        low : (w : ℕ) → 0 < 2 ^ w → 0 < 2 ^ max 1 w
        low w h = wider w 0 h

        below : (b : Bool) → cond b (address c.pool env e) 0 < 2 ^ max 1 (form c.pool e.0).width
        below true = wider (form c.pool e.0).width (address c.pool env e) address_is.1
        below false = low (form c.pool e.0).width (omega (arith, address_is.1))

-- ---- how wide addresses are

find_least : (depth w k n : ℕ) → IsAddressWidth depth w → k ≤ w → w < k + n → find (λ v. nat_le depth (2 ^ v)) (range_with_len k n) ≡ Some w
find_least depth w k zero is low high = absurd (omega (arith, low, high))
find_least depth w k (suc n) is low high = by (λ h. find_least depth w (k + 1) n is h (omega (arith, high))) (nat_le depth (2 ^ k)) refl
  where
    by : (k + 1 ≤ w → find (λ v. nat_le depth (2 ^ v)) (range_with_len (k + 1) n) ≡ Some w) → (t : Bool) → nat_le depth (2 ^ k) ≡ t → cond t (Some k) (find (λ v. nat_le depth (2 ^ v)) (range_with_len (k + 1) n)) ≡ Some w
    by later true t = let same : k ≡ w = omega (arith, low, is.least k (leb-true depth (2 ^ k) t)) in ap Some same
    by later false t =
        later
        (⊎_elim (λ (below : k < w). omega (arith, below))
        (λ (past : w ≤ k). let same : k ≡ w = omega (arith, low, past) in absurd (omega (arith, leb-false depth (2 ^ k) t, subst (λ v. depth ≤ 2 ^ v) (sym same) is.enough))) (cases_lt k w))

-- every address of a memory has the width that its depth gives
pub row_width_is : (depth w : ℕ) → depth ≤ 65536 → IsAddressWidth depth w → row_width depth ≡ w
row_width_is depth w few is = ap (λ o. unwrap_or o 17) (find_least depth w 0 17 is (omega arith) (omega (arith, is.least 16 (omega (arith, few)))))

-- ---- granules

-- they fill a row
pub granules_fill : (m : Memory) (w : MemWrite) → IsGranularity m w.granularity → w.granularity * granules m w ≡ m.shape.width
granules_fill m w h = by (w.granularity == m.shape.width) refl
  where
    many : (w.granularity == m.shape.width) ≡ false → 0 < w.granularity → w.granularity * (m.shape.width / w.granularity) ≡ m.shape.width
    many t p = ap (λ x. w.granularity * (x / w.granularity)) h.divides ∙ ap (λ x. w.granularity * x) (mul-div_cancel h.count p) ∙ mul_comm w.granularity h.count ∙ sym h.divides

    by : (b : Bool) → (w.granularity == m.shape.width) ≡ b → w.granularity * (if b then 1 else m.shape.width / w.granularity) ≡ m.shape.width
    by true t = let e = eqb-true w.granularity m.shape.width t in omega (arith, e)
    by false t = ⊎_elim (λ e. absurd (eqb-false w.granularity m.shape.width t e)) (many t) h.some
