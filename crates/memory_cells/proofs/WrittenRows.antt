-- What write cells leave in the rows of a memory.
use Rattle.std.proofs.Common.{◌≡◌, ℕ, ◌+◌, ◌*◌, ◌<◌, ◌^◌, ◌/◌, ◌==◌, ◌&&◌, nat_lt, Bool, true, false, if◌then◌else◌, List, [], ◌∷◌, length, ℤ, pos, refl, sym, ◌∙◌, ap, subst, arith, ⊎_elim, bit_and}
use Rattle.std.specs.Prelude.{Option, Some, None, slice_set, option_and_then, codes, fold}
use Rattle.std.specs.List.{AllByRecursion}
use Rattle.std.proofs.lemmas.Bool.{eqb-true, eqb-false, ne_eqb, lt-ltb, ltb-false}
use Rattle.std.proofs.lemmas.List.{get_or-set_same, get_or-set_other, length-set}
use Rattle.std.proofs.Math.Nat.{mul-div_cancel, mul_comm}
use Rattle.amh_bits.specs.Integers.{bits_without}
use Rattle.amh_bits.specs.Patterns.{pattern, number, nat_bit}
use Rattle.amh_bits.proofs.BitsOf.{bit_pattern}
use Rattle.amh_bits.proofs.Wraps.{pattern_below, pattern_number}
use Rattle.design_ir.specs.declared.memory.MemWrite.{MemWrite}
use Rattle.design_ir.specs.declared.memory.Memory.{Memory}
use Rattle.design_ir.specs.Pools.{Pooled}
use Rattle.design_ir.specs.Values.{num}
use Rattle.design_ir.specs.Circuits.{at}
use Rattle.design_ir.specs.Rows.{granules, enabled_bits, written}
use Rattle.design_ir.specs.Designs.{IsGranularity}
use Rattle.design_ir.specs.Steps.{port_active, write_row}
use Rattle.rtlil_text.specs.declared.cell.RtlCell.{RtlCell}
use Rattle.rtlil_text.specs.Memories.{writes_of}
use Rattle.rtlil_text.specs.Meaning.{memory_size}
use Rattle.rtlil_text.specs.History.{enabled, after_write, end_bit}
use Rattle.memory_cells.specs.Bits.{bit_of, is_set}
use Rattle.memory_cells.specs.Plans.{guarded}
use Rattle.memory_cells.specs.Carried.{Moment, CarriesWrite, CarryWrites, address_at}
use Rattle.memory_cells.specs.Laws.{RowsFollow}
use Rattle.memory_cells.proofs.Disjoint.{merged_bit, merged_below}
use Rattle.memory_cells.proofs.Enables.{enabled_below}

-- ---- a row after a port

granules_fill : (m : Memory) (w : MemWrite) → IsGranularity m w.granularity → w.granularity * granules m w ≡ m.shape.width
granules_fill m w h = by (w.granularity == m.shape.width) refl
  where
    many : (w.granularity == m.shape.width) ≡ false → 0 < w.granularity → w.granularity * (m.shape.width / w.granularity) ≡ m.shape.width
    many t p = ap (λ x. w.granularity * (x / w.granularity)) h.divides ∙ ap (λ x. w.granularity * x) (mul-div_cancel h.count p) ∙ mul_comm w.granularity h.count ∙ sym h.divides

    by : (b : Bool) → (w.granularity == m.shape.width) ≡ b → w.granularity * (if b then 1 else m.shape.width / w.granularity) ≡ m.shape.width
    by true t = let e = eqb-true w.granularity m.shape.width t in omega (arith, e)
    by false t = ⊎_elim (λ e. absurd (eqb-false w.granularity m.shape.width t e)) (many t) h.some

module _ (pool : Pooled) (env : List ℤ) (m : Memory) (w : MemWrite) (h : IsGranularity m w.granularity) where
  mask_below : enabled_bits pool env m w < 2 ^ m.shape.width
  mask_below = subst (λ j. enabled_bits pool env m w < 2 ^ j) (granules_fill m w h) (enabled_below w.granularity (granules m w) (pattern (granules m w) (num pool env w.enable.0)))

  written_bit : (old : ℤ) (k : ℕ) → k < m.shape.width → bit_of (written pool env m old w) k ≡ (if is_set (enabled_bits pool env m w) k then bit_of (num pool env w.word.0) k else bit_of old k)
  written_bit old k lt =
      let width : ℕ = m.shape.width in
      let mask : ℕ = enabled_bits pool env m w in
      let word : ℕ = pattern width (num pool env w.word.0) in
      let whole : ℕ = bits_without (pattern width old) mask + bit_and word mask in
      let below : whole < 2 ^ width = merged_below width (pattern width old) mask word (pattern_below width old) mask_below (pattern_below width (num pool env w.word.0)) in
      ap (λ b. b == 1) (sym (bit_pattern (number m.shape.signed width whole) width k lt) ∙ ap (λ n. nat_bit n k) (pattern_number m.shape.signed width whole below))
      ∙ merged_bit (pattern width old) mask word k
      ∙ (λ i. if is_set mask k then bit_pattern (num pool env w.word.0) width k lt i == 1 else bit_pattern old width k lt i == 1)

-- ---- one write cell

-- what an enable, a word and a guarded address make of a bit
chosen : (active : Bool) (depth a row : ℕ) (s word old new : Bool) (en stored : Option Bool) → row < depth → en ≡ Some (nat_lt a depth && s) → stored ≡ Some word → new ≡ (if s then word else old)
    → (if active then option_and_then (λ (at : ℕ). if at == row then enabled en stored (Some old) else Some old) (Some (guarded depth a)) else Some old) ≡ Some (if active && (a == row) then new else old)
chosen false depth a row s word old new en stored h e f g = refl
chosen true depth a row s word old new en stored h e f g = by (nat_lt a depth) refl e
  where
    taken : (s : Bool) → new ≡ (if s then word else old) → enabled (Some s) (Some word) (Some old) ≡ Some new
    taken true g = ap Some (sym g)
    taken false g = ap Some (sym g)

    at_row : (q : Bool) → en ≡ Some s → (if q then enabled en stored (Some old) else Some old) ≡ Some (if q then new else old)
    at_row true e = (λ i. enabled (e i) (f i) (Some old)) ∙ taken s g
    at_row false e = refl

    past : (q : Bool) → en ≡ Some false → (if q then enabled en stored (Some old) else Some old) ≡ Some old
    past true e = ap (λ x. enabled x stored (Some old)) e
    past false e = refl

    by : (b : Bool) → nat_lt a depth ≡ b → en ≡ Some (b && s) → (if (if b then a else 0) == row then enabled en stored (Some old) else Some old) ≡ Some (if a == row then new else old)
    by true t e = at_row (a == row) e
    by false t e =
        let far = ltb-false a depth t in
        let other : (a == row) ≡ false = ne_eqb a row (λ same. omega (arith, far, h, same)) in
        past (0 == row) e ∙ ap (λ (q : Bool). Some (if q then new else old)) (sym other)

module _ (t : Moment) (m : Memory) where
  -- the row after the port, where it writes there
  abbrev pub after : MemWrite → ℕ → ℤ → ℤ
  after w row acc = if port_active t.design t.env t.listed (Some w.domain) && (address_at t w.addr == row) then written t.design.pool t.env m acc w else acc

  lifted : (b : Bool) (x acc : ℤ) (k : ℕ) → Some (if b then bit_of x k else bit_of acc k) ≡ Some (bit_of (if b then x else acc) k)
  lifted true x acc k = refl
  lifted false x acc k = refl

  pub one_write : (c : RtlCell) (w : MemWrite) (acc : ℤ) (row k : ℕ) → CarriesWrite t m c w → IsGranularity m w.granularity → row < m.depth → k < m.shape.width
      → after_write t.rtl t.st t.old t.new row k (Some (bit_of acc k)) c ≡ Some (bit_of (after w row acc) k)
  one_write c w acc row k h g there lt =
      let active : Bool = port_active t.design t.env t.listed (Some w.domain) in
      let a : ℕ = address_at t w.addr in
      let en = end_bit t.rtl t.st t.old c (codes "\\EN") k in
      let stored = end_bit t.rtl t.st t.old c (codes "\\DATA") k in
      let old : Bool = bit_of acc k in
      (λ i. if h.acts i then option_and_then (λ (at : ℕ). if at == row then enabled en stored (Some old) else Some old) (h.address i) else Some old)
      ∙ chosen active m.depth a row (is_set (enabled_bits t.design.pool t.env m w) k) (bit_of (num t.design.pool t.env w.word.0) k) old (bit_of (written t.design.pool t.env m acc w) k) en stored there (h.enable k lt) (h.word k lt)
      (written_bit t.design.pool t.env m w g acc k lt)
      ∙ lifted (active && (a == row)) (written t.design.pool t.env m acc w) acc k

  -- ---- all of them

  at-write_row : (w : MemWrite) (rows : List ℤ) (row : ℕ) → row < length rows → at (write_row t.design t.env t.listed m rows w) row ≡ after w row (at rows row)
  at-write_row w rows row there = by (port_active t.design t.env t.listed (Some w.domain))
    where
      a : ℕ
      a = address_at t w.addr

      new : ℤ → ℤ
      new old = written t.design.pool t.env m old w

      at_row : (q : Bool) → (address_at t w.addr == row) ≡ q → at (slice_set rows (address_at t w.addr) (written t.design.pool t.env m (at rows (address_at t w.addr)) w)) row ≡ (if q then written t.design.pool t.env m (at rows row) w else at rows row)
      at_row true e =
          let same = eqb-true (address_at t w.addr) row e in
          ap (λ (j : ℕ). at (slice_set rows j (written t.design.pool t.env m (at rows j) w)) row) same ∙ get_or-set_same rows row (written t.design.pool t.env m (at rows row) w) (pos 0) there
      at_row false e = get_or-set_other rows (address_at t w.addr) row (written t.design.pool t.env m (at rows (address_at t w.addr)) w) (pos 0) (λ same. eqb-false (address_at t w.addr) row e (sym same))

      by : (b : Bool) → at (if b then slice_set rows (address_at t w.addr) (written t.design.pool t.env m (at rows (address_at t w.addr)) w) else rows) row ≡ (if b && (address_at t w.addr == row) then written t.design.pool t.env m (at rows row) w else at rows row)
      by true = at_row (address_at t w.addr == row) refl
      by false = refl

  length-write_row : (w : MemWrite) (rows : List ℤ) → length (write_row t.design t.env t.listed m rows w) ≡ length rows
  length-write_row w rows = by (port_active t.design t.env t.listed (Some w.domain))
    where
      by : (b : Bool) → length (if b then slice_set rows (address_at t w.addr) (written t.design.pool t.env m (at rows (address_at t w.addr)) w) else rows) ≡ length rows
      by true = length-set rows (address_at t w.addr) (written t.design.pool t.env m (at rows (address_at t w.addr)) w)
      by false = refl

  all_writes : (cells : List RtlCell) (writes : List MemWrite) → CarryWrites t m cells writes → AllByRecursion (λ (w : MemWrite). IsGranularity m w.granularity) writes
      → (rows : List ℤ) (row k : ℕ) (before : Option Bool) → length rows ≡ m.depth → row < m.depth → k < m.shape.width → before ≡ Some (bit_of (at rows row) k)
      → fold (after_write t.rtl t.st t.old t.new row k) before cells ≡ Some (bit_of (at (fold (write_row t.design t.env t.listed m) rows writes) row) k)
  all_writes [] [] h g rows row k before long there lt e = e
  all_writes [] (w ∷ writes) h g rows row k before long there lt e = absurd h
  all_writes (c ∷ cells) [] h g rows row k before long there lt e = absurd h
  all_writes (c ∷ cells) (w ∷ writes) h g rows row k before long there lt e =
      all_writes cells writes h.1 g.1 (write_row t.design t.env t.listed m rows w) row k (after_write t.rtl t.st t.old t.new row k before c) (length-write_row w rows ∙ long) there lt
      (ap (λ x. after_write t.rtl t.st t.old t.new row k x c) e ∙ one_write c w (at rows row) row k h.0 g.0 there lt ∙ ap (λ z. Some (bit_of z k)) (sym (at-write_row w rows row (subst (λ n. row < n) (sym long) there))))

pub rows_follow : RowsFollow
rows_follow t m id rows stands long has row k there lt =
    let inside : nat_lt row (memory_size t.rtl id) ≡ true = ap (nat_lt row) stands.size ∙ lt-ltb row m.depth there in
    ap (λ (b : Bool). if b then fold (after_write t.rtl t.st t.old t.new row k) (t.st.rows id row k) (writes_of t.rtl id) else None) inside
    ∙ all_writes t m (writes_of t.rtl id) m.writes stands.writes stands.granules rows row k (t.st.rows id row k) long there lt (has row k there lt)
