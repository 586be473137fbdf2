-- What read cells take of the rows of a memory.
use Rattle.std.proofs.Common.{◌≡◌, ℕ, zero, suc, ◌+◌, ◌≤◌, ◌<◌, ◌==◌, ◌&&◌, nat_lt, not, Bool, true, false, if◌then◌else◌, List, [], ◌∷◌, length, ℤ, pos, refl, sym, ◌∙◌, ap, subst, arith, add-one}
use Rattle.std.specs.Prelude.{Option, Some, None, option_and_then, codes, fold, max}
use Rattle.std.specs.List.{list_any, AllByRecursion}
use Rattle.std.proofs.lemmas.Bool.{lt-ltb, ltb-true, ltb-false}
use Rattle.std.proofs.lemmas.List.{get_or_past}
use Rattle.amh_bits.proofs.BitsOf.{nat_bit_zero}
use Rattle.shape_rules.specs.Operators.{is_zero}
use Rattle.shape_rules.specs.declared.cell.CellKind.TheVariants.{MemoryRead}
use Rattle.design_ir.specs.declared.ids.ExprId.{ExprId}
use Rattle.design_ir.specs.declared.memory.MemWrite.{MemWrite}
use Rattle.design_ir.specs.declared.memory.MemRead.{MemRead}
use Rattle.design_ir.specs.declared.memory.Memory.{Memory}
use Rattle.design_ir.specs.Values.{num}
use Rattle.design_ir.specs.Circuits.{at, option_test}
use Rattle.design_ir.specs.Rows.{written}
use Rattle.design_ir.specs.Designs.{IsGranularity}
use Rattle.design_ir.specs.Steps.{port_active, shown_through, read_word, reads_now}
use Rattle.rtlil_text.specs.declared.cell.RtlCell.{RtlCell}
use Rattle.rtlil_text.specs.Sources.{bits_at, memory_id}
use Rattle.rtlil_text.specs.Cells.{bits_number}
use Rattle.rtlil_text.specs.Memories.{writes_of, masked}
use Rattle.rtlil_text.specs.Meaning.{memory_size, row_bit}
use Rattle.rtlil_text.specs.History.{enabled, after_write, after_writes, taken_bit, next_bit}
use Rattle.memory_cells.specs.Bits.{bit_of}
use Rattle.memory_cells.specs.Plans.{guarded, through_from}
use Rattle.memory_cells.specs.Carried.{Moment, HasRows, CarryWrites, CarriesRead, address_at}
use Rattle.memory_cells.specs.Laws.{Stands, ReadsFollow, GuardsFollow, ClockedReadsFollow}
use Rattle.memory_cells.proofs.WrittenRows.{after, one_write}

-- ---- the guard

guarded_below : (depth a : ℕ) → 1 ≤ depth → guarded depth a < depth
guarded_below depth a some = by (nat_lt a depth) refl
  where
    by : (b : Bool) → nat_lt a depth ≡ b → (if b then a else 0) < depth
    by true t = ltb-true a depth t
    by false t = some

guarded_is : (depth a : ℕ) → a < depth → guarded depth a ≡ a
guarded_is depth a h = ap (λ (b : Bool). if b then a else 0) (lt-ltb a depth h)

pub guards_follow : GuardsFollow
guards_follow rows a k = by (nat_lt a (length rows)) refl
  where
    by : (b : Bool) → nat_lt a (length rows) ≡ b → (if b then bit_of (at rows (if b then a else 0)) k else false) ≡ bit_of (at rows a) k
    by true t = refl
    by false t = sym (ap (λ z. bit_of z k) (get_or_past rows a (pos 0) (ltb-false a (length rows) t)) ∙ ap (λ n. n == 1) (nat_bit_zero k))

-- ---- a read without a clock

pub reads_follow : ReadsFollow
reads_follow rtl st value c width depth a k bits rows has size some is number lt =
    let g = guarded_below depth a some in
    let inside : nat_lt (guarded depth a) (memory_size rtl (memory_id c)) ≡ true = ap (nat_lt (guarded depth a)) size ∙ lt-ltb (guarded depth a) depth g in
    ap (option_and_then (λ (x : List Bool). row_bit rtl st (memory_id c) (bits_number x) k)) is
    ∙ ap (λ row. row_bit rtl st (memory_id c) row k) number
    ∙ ap (λ (b : Bool). if b then st.rows (memory_id c) (guarded depth a) k else None) inside
    ∙ has (guarded depth a) k g lt

-- ---- a read at a clock, with the writes that it is transparent for

module _ (t : Moment) (m : Memory) (through : List ℕ) (row k : ℕ) (there : row < m.depth) (lt : k < m.shape.width) where
  abbrev by_cells : Bool → List RtlCell → Option Bool
  by_cells acc cells = fold (after_write t.rtl t.st t.old t.new row k) (Some acc) cells

  all_through : (cells : List RtlCell) (writes : List MemWrite) (i n : ℕ) (acc : ℤ) → CarryWrites t m cells writes → AllByRecursion (λ (w : MemWrite). IsGranularity m w.granularity) writes → length writes ≤ n
      → by_cells (bit_of acc k) (masked (through_from through i n) cells) ≡ Some (bit_of (shown_through t.design t.env t.listed m through row i writes acc) k)
  all_through [] [] i zero acc h g few = refl
  all_through [] [] i (suc n) acc h g few = refl
  all_through [] (w ∷ writes) i n acc h g few = absurd h
  all_through (c ∷ cells) [] i n acc h g few = absurd h
  all_through (c ∷ cells) (w ∷ writes) i zero acc h g few = absurd (omega (arith, few))
  all_through (c ∷ cells) (w ∷ writes) i (suc n) acc h g few =
      by (list_any (λ j. j == i) through) (all_through cells writes (suc i) n acc h.1 g.1 (omega (arith, few))) (all_through cells writes (suc i) n (after t m w row acc) h.1 g.1 (omega (arith, few)))
    where
      next : through_from through (i + 1) n ≡ through_from through (suc i) n
      next = ap (λ j. through_from through j n) (add-one i)

      by : (b : Bool) → by_cells (bit_of acc k) (masked (through_from through (suc i) n) cells) ≡ Some (bit_of (shown_through t.design t.env t.listed m through row (suc i) writes acc) k)
          → by_cells (bit_of (after t m w row acc) k) (masked (through_from through (suc i) n) cells) ≡ Some (bit_of (shown_through t.design t.env t.listed m through row (suc i) writes (after t m w row acc)) k)
          → by_cells (bit_of acc k) (if b then c ∷ masked (through_from through (i + 1) n) cells else masked (through_from through (i + 1) n) cells)
          ≡ Some (bit_of (shown_through t.design t.env t.listed m through row (suc i) writes (if b && (port_active t.design t.env t.listed (Some w.domain) && (address_at t w.addr == row)) then written t.design.pool t.env m acc w else acc)) k)
      by true same more =
          (λ j. fold (after_write t.rtl t.st t.old t.new row k) (one_write t m c w acc row k h.0 g.0 there lt j) (masked (next j) cells)) ∙ more
      by false same more = ap (λ (mask : List Bool). by_cells (bit_of acc k) (masked mask cells)) next ∙ same

few_writes : (n : ℕ) → n ≤ max 1 n
few_writes zero = omega arith
few_writes (suc n) = omega arith

module _ (t : Moment) (m : Memory) (c : RtlCell) (r : MemRead) (rows : List ℤ) (k : ℕ) (stands : Stands t m (memory_id c)) (carries : CarriesRead t m c r) (some : 1 ≤ m.depth)
    (has : HasRows m.shape.width m.depth (memory_id c) t.st rows) (mask : bits_at c (codes "\\TRANSPARENCY_MASK") ≡ through_from r.transparent 0 (max 1 (length m.writes))) (lt : k < m.shape.width) where
  -- the row at an address, with the transparent writes
  shown_at : ℕ → ℤ
  shown_at row = shown_through t.design t.env t.listed m r.transparent row 0 m.writes (at rows row)

  taken_is : taken_bit t.rtl t.st t.old t.new c k ≡ Some (bit_of (shown_at (guarded m.depth (address_at t r.addr))) k)
  unfolding shown_at
  taken_is =
      let id : List ℕ = memory_id c in
      let cells : List RtlCell = writes_of t.rtl id in
      let row : ℕ = guarded m.depth (address_at t r.addr) in
      let there : row < m.depth = guarded_below m.depth (address_at t r.addr) some in
      let inside : nat_lt row (memory_size t.rtl id) ≡ true = ap (nat_lt row) stands.size ∙ lt-ltb row m.depth there in
      let through : List Bool = through_from r.transparent 0 (max 1 (length m.writes)) in
      ap (option_and_then (λ (j : ℕ). after_writes t.rtl t.st t.old t.new (masked (bits_at c (codes "\\TRANSPARENCY_MASK")) cells) id j k)) carries.address
      ∙ ap (λ (bits : List Bool). after_writes t.rtl t.st t.old t.new (masked bits cells) id row k) mask
      ∙ ap (λ (b : Bool). if b then fold (after_write t.rtl t.st t.old t.new row k) (t.st.rows id row k) (masked through cells) else None) inside
      ∙ ap (λ x. fold (after_write t.rtl t.st t.old t.new row k) x (masked through cells)) (has row k there lt)
      ∙ all_through t m r.transparent row k there lt cells m.writes 0 (max 1 (length m.writes)) (at rows row) stands.writes stands.granules (few_writes (length m.writes))

  word_is : length rows ≡ m.depth → address_at t r.addr < m.depth → bit_of (shown_at (guarded m.depth (address_at t r.addr))) k ≡ bit_of (read_word t.design t.env t.listed m rows r) k
  unfolding shown_at
  word_is long inside =
      let a : ℕ = address_at t r.addr in
      let here : nat_lt a (length rows) ≡ true = lt-ltb a (length rows) (subst (λ n. a < n) (sym long) inside) in
      ap (λ j. bit_of (shown_at j) k) (guarded_is m.depth a inside) ∙ ap (λ (b : Bool). bit_of (if b then shown_at a else pos 0) k) (sym here)

  kept_or_taken : (active enabled_now x before : Bool) → (if active then enabled (Some enabled_now) (Some x) (Some before) else Some before) ≡ Some (if active && enabled_now then x else before)
  kept_or_taken true true x before = refl
  kept_or_taken true false x before = refl
  kept_or_taken false e x before = refl

  next_is : (before : Bool) → next_bit t.rtl t.st t.old t.new c k (Some before) MemoryRead ≡ Some (if reads_now t.design t.env t.listed r then bit_of (shown_at (guarded m.depth (address_at t r.addr))) k else before)
  next_is before =
      (λ i. if carries.acts i then enabled (carries.enable i) (taken_is i) (Some before) else Some before)
      ∙ kept_or_taken (port_active t.design t.env t.listed r.domain) (option_test (λ (e : ExprId). not (is_zero (num t.design.pool t.env e.0))) r.enable) (bit_of (shown_at (guarded m.depth (address_at t r.addr))) k) before

pub clocked_reads_follow : ClockedReadsFollow
clocked_reads_follow t m c r rows k before stands carries long some has mask lt =
    let x : Bool = bit_of (shown_at t m c r rows k stands carries some has mask lt (guarded m.depth (address_at t r.addr))) k in (
      if reads_now t.design t.env t.listed r then x else before,
      next_is t m c r rows k stands carries some has mask lt before,
      λ e. ap (λ (b : Bool). if b then x else before) e,
      λ e inside. ap (λ (b : Bool). if b then x else before) e ∙ word_is t m c r rows k stands carries some has mask lt long inside,
    )
