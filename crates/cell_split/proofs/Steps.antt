-- The wires, the first state and the steps of a module of which cells are cut.
use Rattle.std.proofs.Common.{◌≡◌, ◌∙◌, ℕ, zero, suc, Bool, true, false, cond, List, length, refl, sym, ap}
use Rattle.std.specs.Prelude.{◌==◌, Option, None, option_map, option_and_then, codes, nat_lt, fold, slice_get}
use Rattle.std.proofs.Math.Path.{fun_ext}
use Rattle.shape_rules.specs.declared.cell.CellKind.{CellKind}
use Rattle.shape_rules.specs.declared.cell.CellKind.TheVariants.{Dff, Adff, MemoryRead}
use Rattle.rtlil_text.specs.declared.cell.RtlCell.{RtlCell}
use Rattle.rtlil_text.specs.declared.module.RtlModule.{RtlModule}
use Rattle.rtlil_text.specs.Sources.{Source, end_bits, number_at, memory_id, bits_at}
use Rattle.rtlil_text.specs.Drivers.{Driver, ByInput, ByLink, ByCell, ByNone, driver}
use Rattle.rtlil_text.specs.Cells.{read, bit_at, bits_number}
use Rattle.rtlil_text.specs.Memories.{writes_of, masked}
use Rattle.rtlil_text.specs.Meaning.{Inputs, State, is_kept_kind, is_kept, source_value, comb_bit, driven_bit, bit, memory_size}
use Rattle.rtlil_text.specs.History.{depth, wire_bit, end_bit, address, first_bit, first_register, data_bit, first_state, acts, is_reset, after_write, after_writes, taken_bit, clocked_bit, next_bit, is_edge, is_level, enabled, next_register, step, Wires}
use Rattle.cell_split.specs.Pieces.{is_bitwise, piece}
use Rattle.cell_split.specs.Split.{split_of}
use Rattle.cell_split.proofs.PieceBits.{comb_bit-piece}
use Rattle.cell_split.proofs.PieceDrivers.{AreAlike, Same, Cut, driver-alike, driven_bits-split}
use Rattle.cell_split.proofs.Written.{writes_of-split, inits_of-split}

is_kept-bitwise : (clocked : ℕ) (kind : CellKind) → is_bitwise kind ≡ true → is_kept_kind clocked kind ≡ false
is_kept-bitwise clocked Dff h = cc
is_kept-bitwise clocked Adff h = cc
is_kept-bitwise clocked MemoryRead h = cc
is_kept-bitwise clocked kind h = refl

first_bit-bitwise : (m : RtlModule) (wire : List ℕ) (i : ℕ) (c : RtlCell) (k : ℕ) (kind : CellKind) → is_bitwise kind ≡ true → first_bit m wire i c k kind ≡ None
first_bit-bitwise m wire i c k Dff h = cc
first_bit-bitwise m wire i c k Adff h = cc
first_bit-bitwise m wire i c k MemoryRead h = cc
first_bit-bitwise m wire i c k kind h = refl

next_bit-bitwise : (m : RtlModule) (st : State) (old new : Inputs) (c : RtlCell) (k : ℕ) (before : Option Bool) (kind : CellKind) → is_bitwise kind ≡ true → next_bit m st old new c k before kind ≡ before
next_bit-bitwise m st old new c k before Dff h = cc
next_bit-bitwise m st old new c k before Adff h = cc
next_bit-bitwise m st old new c k before MemoryRead h = cc
next_bit-bitwise m st old new c k before kind h = refl

module _ (n : ℕ) (marks : List Bool) (m : RtlModule) where
  -- ---- wires

  comb_bit-split : (st : State) (value : Source → Option Bool) (c : RtlCell) (k : ℕ) (kind : CellKind) → comb_bit (split_of n marks m) st value c k kind ≡ comb_bit m st value c k kind
  comb_bit-split st value c k MemoryRead = refl
  comb_bit-split st value c k kind = refl

  driven_bit-alike : (st : State) (inputs : Inputs) (value : Source → Option Bool) (wire : List ℕ) (i : ℕ) (d d' : Driver) → AreAlike d d'
      → driven_bit (split_of n marks m) st inputs value wire i d' ≡ driven_bit m st inputs value wire i d
  driven_bit-alike st inputs value wire i d d' (Same ByInput) = refl
  driven_bit-alike st inputs value wire i d d' (Same (ByLink l k)) = refl
  driven_bit-alike st inputs value wire i d d' (Same (ByCell c k)) = ap (cond (is_kept c) (st.registers wire i)) (comb_bit-split st value c k c.kind)
  driven_bit-alike st inputs value wire i d d' (Same ByNone) = refl
  driven_bit-alike st inputs value wire i d d' (Cut j k c h) =
      ap (λ (b : Bool). cond b (st.registers wire i) (comb_bit (split_of n marks m) st value (piece j c k) 0 c.kind)) (is_kept-bitwise (number_at (piece j c k) (codes "\\CLK_ENABLE")) c.kind h)
      ∙ comb_bit-split st value (piece j c k) 0 c.kind ∙ comb_bit-piece m st value j k c c.kind h
      ∙ sym (ap (λ (b : Bool). cond b (st.registers wire i) (comb_bit m st value c k c.kind)) (is_kept-bitwise (number_at c (codes "\\CLK_ENABLE")) c.kind h))

  bit-split : (st : State) (inputs : Inputs) (d : ℕ) → bit (split_of n marks m) st inputs d ≡ bit m st inputs d
  bit-split st inputs zero = refl
  bit-split st inputs (suc d) =
      fun_ext λ wire. fun_ext λ i.
      ap (λ (v : Wires). driven_bit (split_of n marks m) st inputs (source_value v) wire i (driver (split_of n marks m) wire i)) (bit-split st inputs d)
      ∙ driven_bit-alike st inputs (source_value (bit m st inputs d)) wire i (driver m wire i) (driver (split_of n marks m) wire i) (driver-alike n marks m wire i)

  pub wire_bit-split : (st : State) (inputs : Inputs) → wire_bit (split_of n marks m) st inputs ≡ wire_bit m st inputs
  unfolding wire_bit
  wire_bit-split st inputs =
      fun_ext λ wire. fun_ext λ i.
      ap (λ (bits : List Source). bit (split_of n marks m) st inputs (suc (length bits)) wire i) (driven_bits-split n marks m)
      ∙ ap (λ (v : Wires). v wire i) (bit-split st inputs (depth m))

  -- ---- the first state

  first_bit-split : (wire : List ℕ) (i : ℕ) (c : RtlCell) (k : ℕ) (kind : CellKind) → first_bit (split_of n marks m) wire i c k kind ≡ first_bit m wire i c k kind
  first_bit-split wire i c k Dff = refl
  first_bit-split wire i c k Adff = refl
  first_bit-split wire i c k MemoryRead = refl
  first_bit-split wire i c k kind = refl

  first_register-alike : (wire : List ℕ) (i : ℕ) (d d' : Driver) → AreAlike d d' → first_register (split_of n marks m) wire i d' ≡ first_register m wire i d
  first_register-alike wire i d d' (Same ByInput) = refl
  first_register-alike wire i d d' (Same (ByLink l k)) = refl
  first_register-alike wire i d d' (Same (ByCell c k)) = first_bit-split wire i c k c.kind
  first_register-alike wire i d d' (Same ByNone) = refl
  first_register-alike wire i d d' (Cut j k c h) = first_bit-bitwise (split_of n marks m) wire i (piece j c k) 0 c.kind h ∙ sym (first_bit-bitwise m wire i c k c.kind h)

  abbrev state_of : (List ℕ → ℕ → Option Bool) → (List ℕ → ℕ → ℕ → Option Bool) → State
  state_of registers rows = record { registers = registers; rows = rows }

  pub first_state-split : first_state (split_of n marks m) ≡ first_state m
  first_state-split =
      let registers : (first_state (split_of n marks m)).registers ≡ (first_state m).registers =
      fun_ext λ wire. fun_ext λ i. first_register-alike wire i (driver m wire i) (driver (split_of n marks m) wire i) (driver-alike n marks m wire i) in
      let rows : (first_state (split_of n marks m)).rows ≡ (first_state m).rows =
      fun_ext λ id. fun_ext λ row. fun_ext λ k. ap (λ (cells : List RtlCell). data_bit cells row k) (inits_of-split n marks m id) in
      ap (λ (r : List ℕ → ℕ → Option Bool). state_of r (first_state (split_of n marks m)).rows) registers ∙ ap (state_of (first_state m).registers) rows

  -- ---- one event

  acts-split : (st : State) (old new : Inputs) (c : RtlCell) → acts (split_of n marks m) st old new c ≡ acts m st old new c
  acts-split st old new c =
      ap (λ (v : Wires). is_edge (number_at c (codes "\\CLK_POLARITY")) (bit_at (source_value v) (end_bits c (codes "\\CLK")) 0) (end_bit (split_of n marks m) st new c (codes "\\CLK") 0)) (wire_bit-split st old)
      ∙ ap (λ (v : Wires). is_edge (number_at c (codes "\\CLK_POLARITY")) (end_bit m st old c (codes "\\CLK") 0) (bit_at (source_value v) (end_bits c (codes "\\CLK")) 0)) (wire_bit-split st new)

  end_bit-split : (st : State) (inputs : Inputs) (c : RtlCell) (name : List ℕ) (k : ℕ) → end_bit (split_of n marks m) st inputs c name k ≡ end_bit m st inputs c name k
  end_bit-split st inputs c name k = ap (λ (v : Wires). bit_at (source_value v) (end_bits c name) k) (wire_bit-split st inputs)

  address-split : (st : State) (inputs : Inputs) (c : RtlCell) → address (split_of n marks m) st inputs c ≡ address m st inputs c
  address-split st inputs c = ap (λ (v : Wires). option_map bits_number (read (source_value v) (end_bits c (codes "\\ADDR")))) (wire_bit-split st inputs)

  is_reset-split : (st : State) (inputs : Inputs) (c : RtlCell) → is_reset (split_of n marks m) st inputs c ≡ is_reset m st inputs c
  is_reset-split st inputs c = ap (is_level (number_at c (codes "\\ARST_POLARITY"))) (end_bit-split st inputs c (codes "\\ARST") 0)

  -- a write by what its cell reads
  abbrev written_by : (row : ℕ) → Option Bool → Bool → (at : Option ℕ) (enable taken : Option Bool) → Option Bool
  written_by row before now at enable taken = cond now (option_and_then (λ a. cond (a == row) (enabled enable taken before) before) at) before

  after_write-split : (st : State) (old new : Inputs) (row k : ℕ) → after_write (split_of n marks m) st old new row k ≡ after_write m st old new row k
  after_write-split st old new row k =
      fun_ext λ before. fun_ext λ c.
      ap (λ (b : Bool). written_by row before b (address (split_of n marks m) st old c) (end_bit (split_of n marks m) st old c (codes "\\EN") k) (end_bit (split_of n marks m) st old c (codes "\\DATA") k)) (acts-split st old new c)
      ∙ ap (λ (a : Option ℕ). written_by row before (acts m st old new c) a (end_bit (split_of n marks m) st old c (codes "\\EN") k) (end_bit (split_of n marks m) st old c (codes "\\DATA") k)) (address-split st old c)
      ∙ ap (λ (e : Option Bool). written_by row before (acts m st old new c) (address m st old c) e (end_bit (split_of n marks m) st old c (codes "\\DATA") k)) (end_bit-split st old c (codes "\\EN") k)
      ∙ ap (written_by row before (acts m st old new c) (address m st old c) (end_bit m st old c (codes "\\EN") k)) (end_bit-split st old c (codes "\\DATA") k)

  after_writes-split : (st : State) (old new : Inputs) (writes others : List RtlCell) (id : List ℕ) (row k : ℕ) → writes ≡ others
      → after_writes (split_of n marks m) st old new writes id row k ≡ after_writes m st old new others id row k
  after_writes-split st old new writes others id row k e =
      ap (λ (f : Option Bool → RtlCell → Option Bool). cond (nat_lt row (memory_size m id)) (fold f (st.rows id row k) writes) None) (after_write-split st old new row k)
      ∙ ap (λ (cells : List RtlCell). after_writes m st old new cells id row k) e

  taken_bit-split : (st : State) (old new : Inputs) (c : RtlCell) (k : ℕ) → taken_bit (split_of n marks m) st old new c k ≡ taken_bit m st old new c k
  taken_bit-split st old new c k =
      let id = memory_id c in
      let mask = bits_at c (codes "\\TRANSPARENCY_MASK") in
      let here : (row : ℕ) → after_writes (split_of n marks m) st old new (masked mask (writes_of (split_of n marks m) id)) id row k ≡ after_writes m st old new (masked mask (writes_of m id)) id row k =
      λ row. after_writes-split st old new (masked mask (writes_of (split_of n marks m) id)) (masked mask (writes_of m id)) id row k (ap (masked mask) (writes_of-split n marks m id)) in
      ap (λ (f : ℕ → Option Bool). option_and_then f (address (split_of n marks m) st old c)) (fun_ext here)
      ∙ ap (option_and_then (λ row. after_writes m st old new (masked mask (writes_of m id)) id row k)) (address-split st old c)

  clocked_bit-split : (st : State) (old new : Inputs) (c : RtlCell) (k : ℕ) (before : Option Bool) → clocked_bit (split_of n marks m) st old new c k before ≡ clocked_bit m st old new c k before
  clocked_bit-split st old new c k before =
      ap (λ (b : Bool). cond b (end_bit (split_of n marks m) st old c (codes "\\D") k) before) (acts-split st old new c)
      ∙ ap (λ (x : Option Bool). cond (acts m st old new c) x before) (end_bit-split st old c (codes "\\D") k)

  next_bit-split : (st : State) (old new : Inputs) (c : RtlCell) (k : ℕ) (before : Option Bool) (kind : CellKind) → next_bit (split_of n marks m) st old new c k before kind ≡ next_bit m st old new c k before kind
  next_bit-split st old new c k before Dff = clocked_bit-split st old new c k before
  next_bit-split st old new c k before Adff =
      let reset = slice_get (bits_at c (codes "\\ARST_VALUE")) k in
      ap (λ (b : Bool). cond b reset (clocked_bit (split_of n marks m) st old new c k before)) (is_reset-split st new c)
      ∙ ap (cond (is_reset m st new c) reset) (clocked_bit-split st old new c k before)
  next_bit-split st old new c k before MemoryRead =
      ap (λ (b : Bool). cond b (enabled (end_bit (split_of n marks m) st old c (codes "\\EN") 0) (taken_bit (split_of n marks m) st old new c k) before) before) (acts-split st old new c)
      ∙ ap (λ (e : Option Bool). cond (acts m st old new c) (enabled e (taken_bit (split_of n marks m) st old new c k) before) before) (end_bit-split st old c (codes "\\EN") 0)
      ∙ ap (λ (x : Option Bool). cond (acts m st old new c) (enabled (end_bit m st old c (codes "\\EN") 0) x before) before) (taken_bit-split st old new c k)
  next_bit-split st old new c k before kind = refl

  next_register-alike : (st : State) (old new : Inputs) (before : Option Bool) (d d' : Driver) → AreAlike d d'
      → next_register (split_of n marks m) st old new before d' ≡ next_register m st old new before d
  next_register-alike st old new before d d' (Same ByInput) = refl
  next_register-alike st old new before d d' (Same (ByLink l k)) = refl
  next_register-alike st old new before d d' (Same (ByCell c k)) = next_bit-split st old new c k before c.kind
  next_register-alike st old new before d d' (Same ByNone) = refl
  next_register-alike st old new before d d' (Cut j k c h) = next_bit-bitwise (split_of n marks m) st old new (piece j c k) 0 before c.kind h ∙ sym (next_bit-bitwise m st old new c k before c.kind h)

  pub step-split : (old new : Inputs) (st : State) → step (split_of n marks m) old new st ≡ step m old new st
  step-split old new st =
      let registers : (step (split_of n marks m) old new st).registers ≡ (step m old new st).registers =
      fun_ext λ wire. fun_ext λ i. next_register-alike st old new (st.registers wire i) (driver m wire i) (driver (split_of n marks m) wire i) (driver-alike n marks m wire i) in
      let rows : (step (split_of n marks m) old new st).rows ≡ (step m old new st).rows =
      fun_ext λ id. fun_ext λ row. fun_ext λ k. after_writes-split st old new (writes_of (split_of n marks m) id) (writes_of m id) id row k (writes_of-split n marks m id) in
      ap (λ (r : List ℕ → ℕ → Option Bool). state_of r (step (split_of n marks m) old new st).rows) registers ∙ ap (state_of (step m old new st).registers) rows
