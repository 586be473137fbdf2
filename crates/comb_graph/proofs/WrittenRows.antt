-- A row that is written stays of its memory's shape.
use Rattle.std.specs.Prelude.{◌≡◌, ℕ, zero, suc, ◌+◌, ◌-◌, ◌*◌, ◌^◌, ◌<◌, nat_lt, if◌then◌else◌, bit_and, List, [], ◌∷◌, length, slice_set, ℤ, pos, negsuc, Some, fold}
use Rattle.std.specs.List.{AllByRecursion}
use Rattle.std.proofs.Common.{sym, ◌∙◌, ap, arith}
use Rattle.std.proofs.lemmas.Bool.{cond_both}
use Rattle.std.proofs.lemmas.Nat.{and_le_l, or_lt, xor_lt, or_disjoint, pow_pos}
use Rattle.amh_bits.specs.Integers.{bits_without}
use Rattle.amh_bits.specs.Patterns.{IsOf, pattern, nat_bit}
use Rattle.amh_bits.proofs.BitsOf.{nat_bit_low, nat_bit_zero, int_bit_and}
use Rattle.amh_bits.proofs.InShape.{of_zero}
use Rattle.amh_bits.proofs.Same.{same_nat}
use Rattle.amh_bits.proofs.Wraps.{pattern_below, number_is_of}
use Rattle.design_ir.specs.declared.ids.DomainId.{DomainId}
use Rattle.design_ir.specs.declared.memory.MemRead.{MemRead}
use Rattle.design_ir.specs.declared.memory.MemWrite.{MemWrite}
use Rattle.design_ir.specs.declared.memory.Memory.{Memory}
use Rattle.design_ir.specs.Values.{num}
use Rattle.design_ir.specs.Circuits.{Circuit, at}
use Rattle.design_ir.specs.Rows.{address, row_at, enabled_bits, written}
use Rattle.design_ir.specs.Steps.{port_active, write_row, rows_after, writes_through, shown_through, read_word}
use Rattle.comb_graph.specs.Laws.{FitsRows}
use Rattle.comb_graph.proofs.ReadBits.{row_of}

-- ---- some bits of one number and the others of another

apart : (p w m : ℕ) → m < 2 → p * (1 - m) * (w * m) ≡ 0
apart p w zero h = let none : w * 0 ≡ 0 = omega arith in ap (λ x. p * (1 - 0) * x) none ∙ omega arith
apart p w (suc zero) h = let none : p * (1 - 1) ≡ 0 = omega arith in ap (λ x. x * (w * 1)) none ∙ omega arith
apart p w (suc (suc m)) h = absurd (omega arith)

-- what a mask holds back and what it lets through have no bit in common
none_shared : (width p w mask : ℕ) → p < 2 ^ width → bit_and (bits_without p mask) (bit_and w mask) ≡ 0
none_shared width p w mask h =
    let held : ℕ = bits_without p mask in
    let through : ℕ = bit_and w mask in
    let low : held < 2 ^ width = xor_lt width p (bit_and p mask) h (omega (arith, and_le_l p mask, h)) in
    same_nat width (bit_and held through) 0 (omega (arith, and_le_l held through, low)) (pow_pos width)
    (λ k lt. int_bit_and (pos held) (pos through) k
    ∙ ap (λ x. x * nat_bit through k) (int_bit_and (pos p) (negsuc mask) k)
    ∙ ap (λ x. nat_bit p k * (1 - nat_bit mask k) * x) (int_bit_and (pos w) (pos mask) k)
    ∙ apart (nat_bit p k) (nat_bit w k) (nat_bit mask k) (nat_bit_low mask k)
    ∙ sym (nat_bit_zero k))

merged_below : (width p w mask : ℕ) → p < 2 ^ width → w < 2 ^ width → bits_without p mask + bit_and w mask < 2 ^ width
merged_below width p w mask h k =
    let left : bits_without p mask < 2 ^ width = xor_lt width p (bit_and p mask) h (omega (arith, and_le_l p mask, h)) in
    let right : bit_and w mask < 2 ^ width = omega (arith, and_le_l w mask, k) in
    rw (← or_disjoint (bits_without p mask) (bit_and w mask) (none_shared width p w mask h)) (or_lt width (bits_without p mask) (bit_and w mask) left right)

-- ---- rows

module _ (c : Circuit) (env : List ℤ) (m : Memory) where
  abbrev OfRow : ℤ → Type 0
  OfRow n = IsOf m.shape.signed m.shape.width n

  written_of : (old : ℤ) (w : MemWrite) → OfRow (written c.pool env m old w)
  written_of old w =
      let width : ℕ = m.shape.width in
      number_is_of m.shape.signed width (bits_without (pattern width old) (enabled_bits c.pool env m w) + bit_and (pattern width (num c.pool env w.word.0)) (enabled_bits c.pool env m w))
      (merged_below width (pattern width old) (pattern width (num c.pool env w.word.0)) (enabled_bits c.pool env m w) (pattern_below width old) (pattern_below width (num c.pool env w.word.0)))

  all_set : (rows : List ℤ) (k : ℕ) (n : ℤ) → OfRow n → AllByRecursion OfRow rows → AllByRecursion OfRow (slice_set rows k n)
  all_set [] k n of h = tt
  all_set (x ∷ rows) zero n of h = (of, h.1)
  all_set (x ∷ rows) (suc k) n of h = (h.0, all_set rows k n of h.1)

  module _ (listed : List DomainId) where
    pub writes_of : (ws : List MemWrite) (rows : List ℤ) → AllByRecursion OfRow rows → AllByRecursion OfRow (fold (write_row c env listed m) rows ws)
    writes_of [] rows h = h
    writes_of (w ∷ ws) rows h =
        let row : ℤ = written c.pool env m (row_at c.pool env rows w.addr) w in
        writes_of ws (write_row c env listed m rows w)
        (cond_both (port_active c env listed (Some w.domain)) (slice_set rows (address c.pool env w.addr) row) rows (AllByRecursion OfRow) (λ t. all_set rows (address c.pool env w.addr) row (written_of (row_at c.pool env rows w.addr) w) h) (λ t. h))

    shown_of : (through : List ℕ) (addr i : ℕ) (ws : List MemWrite) (row : ℤ) → OfRow row → OfRow (shown_through c env listed m through addr i ws row)
    shown_of through addr i [] row h = h
    shown_of through addr i (w ∷ ws) row h =
        let t = writes_through c env listed through addr i w in
        shown_of through addr (suc i) ws (if t then written c.pool env m row w else row) (cond_both t (written c.pool env m row w) row OfRow (λ e. written_of row w) (λ e. h))

    -- what a clocked read port takes is of the memory's shape, too
    pub read_of : (rows : List ℤ) (r : MemRead) → AllByRecursion OfRow rows → OfRow (read_word c env listed m rows r)
    read_of rows r h =
        let addr : ℕ = address c.pool env r.addr in
        cond_both (nat_lt addr (length rows)) (shown_through c env listed m r.transparent addr 0 m.writes (at rows addr)) (pos 0) OfRow
        (λ e. shown_of r.transparent addr 0 m.writes (at rows addr) (row_of m.shape.signed m.shape.width rows addr h)) (λ e. of_zero m.shape.signed m.shape.width)

pub rows_fit : (c : Circuit) (env : List ℤ) (listed : List DomainId) (ms : List Memory) (all : List (List ℤ)) → FitsRows ms all → FitsRows ms (rows_after c env listed ms all)
rows_fit c env listed [] all h = tt
rows_fit c env listed (m ∷ ms) [] h = tt
rows_fit c env listed (m ∷ ms) (rows ∷ more) h = (writes_of c env m listed m.writes rows h.0, rows_fit c env listed ms more h.1)
