-- The drawings of a memory's parts: ids of their own, inner wires, one driver for each bit that they owe, and first values for what
-- their registers drive alone.
use Rattle.std.specs.Prelude.{◌≡◌, ◌≤◌, ◌^◌, ◌+◌, ◌*◌, ℕ, zero, suc, nat_lt, Bool, true, false, if◌then◌else◌, List, [], ◌∷◌, ◌++◌, map, length, pos, Option, Some, None, IsPermutation}
use Rattle.std.specs.List.{AllByRecursion, filter, flat_map}
use Rattle.std.proofs.Common.{refl, sym, ap, ◌∙◌, arith, subst, append-nil, inl, inr, ⊎_elim}
use Rattle.std.proofs.lemmas.Bool.{eqb-false, ltb-true, and_parts}
use Rattle.std.proofs.lemmas.List.{map-append}
use Rattle.std.proofs.lemmas.List.Concat.{flat_map-append}
use Rattle.std.proofs.lemmas.List.Sorted.{IsPermutation-refl, IsPermutation-trans, IsPermutation-append}
use Rattle.shape_rules.specs.declared.cell.CellKind.TheVariants as kind
use Rattle.design_ir.specs.declared.memory.MemWrite.{MemWrite}
use Rattle.design_ir.specs.declared.memory.MemRead.{MemRead}
use Rattle.design_ir.specs.declared.memory.Memory.{Memory}
use Rattle.design_ir.specs.declared.port.Column.{Column}
use Rattle.design_ir.specs.Circuits.{Circuit}
use Rattle.design_ir.specs.Designs.{IsDesign, IsMemory, IsWritePort, IsReadPort}
use Rattle.rtlil_text.specs.declared.cell.RtlCell.{RtlCell}
use Rattle.rtlil_text.specs.declared.module.RtlWire.{RtlWire}
use Rattle.rtlil_text.specs.Sources.{Source}
use Rattle.rtlil_text.specs.Drivers.{output_bits}
use Rattle.rtlil_text.specs.Inits.{registered_bits, begun_bits}
use Rattle.rtlil_text.proofs.Among.{Among, Among-append, AllByRecursion-append}
use Rattle.memory_cells.specs.declared.plan.Plan.{Plan}
use Rattle.new_names.specs.Fresh.{given_names}
use Rattle.netlist_laws.specs.Ids.{step_id}
use Rattle.netlist_laws.specs.Cells.{binary_cell, mux_cell}
use Rattle.netlist_laws.specs.Operands.{wire_part, const_spec, at_width, const_operand}
use Rattle.netlist_laws.specs.Operators.{Value, Drawing, nothing, inner_wire, whole, one_bit, one_cell, as_form}
use Rattle.netlist_laws.specs.Expressions.{and_also}
use Rattle.netlist_laws.specs.Module.{signal_value, register_cell, is_there}
use Rattle.netlist_laws.specs.PortGuards.{is_exact, guard_drawing}
use Rattle.netlist_laws.specs.MemoryDrawings.{Placed, Part, FirstRows, Writes, Reads, names_rows, port_address, port_clock, address_guard, is_row, zeros_unless, enable_spec, write_enable, writing, write_behind, read_enable, reading, flag_wire, guarded_read, read_behind, placed, memories_of, write_parts, parts_of, part_drawing, all_parts, drawn_parts, memory_drawings}
use Rattle.netlist_laws.proofs.Places.{spec_bits-wire_part}
use Rattle.netlist_laws.proofs.Permuted.{IsPermutation-same, IsPermutation-inner_two}
use Rattle.netlist_laws.proofs.Fresh.{IsFresh, IsFresh-append, IsFresh-permutation, IsFresh-wider}
use Rattle.netlist_laws.proofs.Drives.{block, value_bits, drawing_ids, drawn_bits, own_bits, owed_bits, IsBare-inner_wire, fresh_none, fresh_places, zero_more, output_bits-binary, output_bits-mux, drawing_ids-and_also, drawn_bits-and_also}
use Rattle.netlist_laws.proofs.ManyDrawn.{drawing_wires}
use Rattle.netlist_laws.proofs.DrawnCells.{fresh_from, last_first, all_of}
use Rattle.netlist_laws.proofs.HiddenWires.{IsHidden, hidden_bare}

-- what each register keeps
abbrev pub kept_in : Drawing → List Source
kept_in d = flat_map registered_bits d.cells

-- a drawing with ids from `low` up to `high`, that drives these bits and its own wires, once each
pub record IsPart (low high : ℕ) (made : List Source) (d : Drawing) : Type 0 where
  pub fresh : IsFresh step_id low high (drawing_ids d)
  pub hidden : AllByRecursion IsHidden d.wires
  pub drives : IsPermutation (drawn_bits d) (made ++ own_bits d)
  pub begins : kept_in d ≡ flat_map begun_bits d.wires

-- one drawing and another
IsPart-and_also : (low mid high : ℕ) (made : List Source) (d e : Drawing) → low ≤ mid → mid ≤ high → IsPart low mid [] d → IsPart mid high made e → IsPart low high made (and_also d e)
IsPart-and_also low mid high made d e p q g h = record {
  fresh = IsFresh-permutation step_id low high (drawing_ids d ++ drawing_ids e) (drawing_ids (and_also d e)) (drawing_ids-and_also d e) (IsFresh-append step_id low mid mid high (drawing_ids d) (drawing_ids e) p (omega arith) q g.fresh h.fresh);
  hidden = AllByRecursion-append IsHidden d.wires e.wires g.hidden h.hidden;
  drives =
      subst (λ u. IsPermutation (drawn_bits (and_also d e)) (made ++ u)) (sym (flat_map-append owed_bits d.wires e.wires))
      (IsPermutation-trans (drawn_bits (and_also d e)) (drawn_bits d ++ drawn_bits e) (made ++ (own_bits d ++ own_bits e)) (drawn_bits-and_also d e)
      (IsPermutation-trans (drawn_bits d ++ drawn_bits e) (([] ++ own_bits d) ++ (made ++ own_bits e)) (([] ++ made) ++ (own_bits d ++ own_bits e))
      (IsPermutation-append (drawn_bits d) ([] ++ own_bits d) (drawn_bits e) (made ++ own_bits e) g.drives h.drives) (IsPermutation-inner_two [] (own_bits d) made (own_bits e))));
  begins = flat_map-append registered_bits d.cells e.cells ∙ (λ i. g.begins i ++ h.begins i) ∙ sym (flat_map-append begun_bits d.wires e.wires);
}

-- cells that drive the wires of a drawing, and then the result
part_cells : (low high : ℕ) (ws : List RtlWire) (cs : List RtlCell) (blocks : List (List Source)) (y : List Source)
    → IsFresh step_id low high (drawing_ids (record { wires = ws; cells = cs; links = [] })) → AllByRecursion IsHidden ws → flat_map output_bits cs ≡ all_of (blocks ++ y ∷ []) → flat_map owed_bits ws ≡ all_of blocks
    → flat_map registered_bits cs ≡ flat_map begun_bits ws → IsPart low high y (record { wires = ws; cells = cs; links = [] })
part_cells low high ws cs blocks y fresh hidden outs owed begins = record {
  fresh = fresh;
  hidden = hidden;
  drives = subst (λ r. IsPermutation (r ++ []) (y ++ flat_map owed_bits ws)) (sym outs) (subst (λ r. IsPermutation (all_of (blocks ++ y ∷ []) ++ []) (y ++ r)) (sym owed) (last_first blocks y));
  begins = begins;
}

-- cells that drive the wires of a drawing, and nothing else
part_inner : (low high : ℕ) (ws : List RtlWire) (cs : List RtlCell) → IsFresh step_id low high (drawing_ids (record { wires = ws; cells = cs; links = [] })) → AllByRecursion IsHidden ws
    → flat_map output_bits cs ≡ flat_map owed_bits ws → flat_map registered_bits cs ≡ flat_map begun_bits ws → IsPart low high [] (record { wires = ws; cells = cs; links = [] })
part_inner low high ws cs fresh hidden same begins = record {
  fresh = fresh;
  hidden = hidden;
  drives = IsPermutation-same (flat_map output_bits cs ++ []) (flat_map owed_bits ws) (append-nil (flat_map output_bits cs) ∙ same);
  begins = begins;
}

hidden_inner : (id : List ℕ) (width : ℕ) → 1 ≤ width → IsHidden (inner_wire id width)
hidden_inner id width h = hidden_bare (inner_wire id width) (IsBare-inner_wire id width h)

-- ---- guards

module _ (n : ℕ) where
  guard_part : (depth : ℕ) (a : Value) → 1 ≤ depth → depth ≤ 2 ^ a.form.width → IsPart n (n + 4) [] (guard_drawing step_id n depth a)
  guard_part depth a some fits = by (is_exact depth a.form.width) refl
    where
      wide : (w : ℕ) → depth ≤ 2 ^ w → is_exact depth w ≡ false → 1 ≤ w
      wide zero le t = absurd (eqb-false depth 1 t (omega (arith, le, some)))
      wide (suc w) le t = omega arith

      by : (b : Bool) → is_exact depth a.form.width ≡ b → IsPart n (n + 4) [] (if b then nothing else record {
        wires = inner_wire (step_id (n + 1)) 1 ∷ inner_wire (step_id (n + 3)) a.form.width ∷ [];
        cells =
            binary_cell kind.Lt (step_id n) (as_form a a.form) (const_operand a.form (pos depth)) 1 (one_bit (step_id (n + 1)))
            ∷ mux_cell (step_id (n + 2)) a.form.width (const_spec a.form.width (pos 0)) (at_width a.id a.form a.form.width) (one_bit (step_id (n + 1))) (wire_part (step_id (n + 3)) 0 a.form.width) ∷ [];
        links = [];
      })
      by true t = record { fresh = fresh_none step_id n (n + 4); hidden = tt; drives = IsPermutation-refl []; begins = refl }
      by false t =
          let ids : List (List ℕ) = step_id (n + 1) ∷ step_id (n + 3) ∷ step_id n ∷ step_id (n + 2) ∷ [] in
          part_inner n (n + 4) (inner_wire (step_id (n + 1)) 1 ∷ inner_wire (step_id (n + 3)) a.form.width ∷ [])
          (binary_cell kind.Lt (step_id n) (as_form a a.form) (const_operand a.form (pos depth)) 1 (one_bit (step_id (n + 1)))
          ∷ mux_cell (step_id (n + 2)) a.form.width (const_spec a.form.width (pos 0)) (at_width a.id a.form a.form.width) (one_bit (step_id (n + 1))) (wire_part (step_id (n + 3)) 0 a.form.width) ∷ [])
          (fresh_from step_id n 4 ids (fresh_places step_id n 0 4 (1 ∷ 3 ∷ 0 ∷ 2 ∷ []) ids (λ i. step_id (n + 1) ∷ step_id (n + 3) ∷ step_id (zero_more n i) ∷ step_id (n + 2) ∷ []) refl refl))
          (hidden_inner (step_id (n + 1)) 1 (omega arith), (hidden_inner (step_id (n + 3)) a.form.width (wide a.form.width fits t), tt))
          (λ i. output_bits-binary kind.Lt (step_id n) (as_form a a.form) (const_operand a.form (pos depth)) 1 (step_id (n + 1)) 1 refl i
          ++ (output_bits-mux (step_id (n + 2)) a.form.width (const_spec a.form.width (pos 0)) (at_width a.id a.form a.form.width) (one_bit (step_id (n + 1))) (step_id (n + 3)) a.form.width i ++ []))
          refl

  -- ---- write ports

  module _ (c : Circuit) (p : Plan) (m : Memory) (wide : 1 ≤ m.shape.width) where
    write_part : (k : ℕ) (w : MemWrite) → IsPart (n + 4) (n + 11) [] (write_behind c p m k n w)
    write_part k w = by (names_rows c m w.addr)
      where
        by : (b : Bool) → IsPart (n + 4) (n + 11) [] (if b then one_cell (writing c p m k n w (write_enable c m n w)) else record {
          wires = inner_wire (step_id (n + 5)) m.shape.width ∷ [];
          cells =
              zeros_unless (step_id (n + 4)) m.shape.width (enable_spec m w) (is_row c m n w.addr) (wire_part (step_id (n + 5)) 0 m.shape.width)
              ∷ writing c p m k n w (write_enable c m n w) ∷ [];
          links = [];
        })
        by true = part_inner (n + 4) (n + 11) [] (writing c p m k n w (write_enable c m n w) ∷ []) (fresh_places step_id n 4 11 (6 ∷ []) (step_id (n + 6) ∷ []) refl refl refl) tt refl refl
        by false =
            part_inner (n + 4) (n + 11) (inner_wire (step_id (n + 5)) m.shape.width ∷ [])
            (zeros_unless (step_id (n + 4)) m.shape.width (enable_spec m w) (is_row c m n w.addr) (wire_part (step_id (n + 5)) 0 m.shape.width) ∷ writing c p m k n w (write_enable c m n w) ∷ [])
            (fresh_places step_id n 4 11 (5 ∷ 4 ∷ 6 ∷ []) (step_id (n + 5) ∷ step_id (n + 4) ∷ step_id (n + 6) ∷ []) refl refl refl)
            (hidden_inner (step_id (n + 5)) m.shape.width wide, tt)
            (λ i. output_bits-mux (step_id (n + 4)) m.shape.width (const_spec m.shape.width (pos 0)) (enable_spec m w) (is_row c m n w.addr) (step_id (n + 5)) m.shape.width i ++ [])
            refl

    -- ---- read ports

    module _ (r : MemRead) where
      abbrev word : Value
      word = signal_value c r.word.0

      exact_read : (d : Option (List ℕ)) → IsPart (n + 4) (n + 11) (value_bits word) (one_cell (reading c p m n r d (whole word)))
      exact_read None =
          part_cells (n + 4) (n + 11) [] (reading c p m n r None (whole word) ∷ []) [] (value_bits word) (fresh_places step_id n 4 11 (4 ∷ []) (step_id (n + 4) ∷ []) refl refl refl) tt
          (λ i. spec_bits-wire_part word.id 0 word.form.width i ++ []) refl refl
      exact_read (Some d) =
          part_cells (n + 4) (n + 11) [] (reading c p m n r (Some d) (whole word) ∷ []) [] (value_bits word) (fresh_places step_id n 4 11 (4 ∷ []) (step_id (n + 4) ∷ []) refl refl refl) tt
          (λ i. spec_bits-wire_part word.id 0 word.form.width i ++ []) refl refl

      guarded_part : (d : Option (List ℕ)) → IsPart (n + 4) (n + 11) (value_bits word) (guarded_read c p m n r d)
      guarded_part None =
          let raw : List ℕ = step_id (n + 5) in
          part_cells (n + 4) (n + 11) (inner_wire raw m.shape.width ∷ [])
          (reading c p m n r None (wire_part raw 0 m.shape.width) ∷ zeros_unless (step_id (n + 6)) m.shape.width (wire_part raw 0 m.shape.width) (is_row c m n r.addr) (whole word) ∷ [])
          (block raw m.shape.width ∷ []) (value_bits word)
          (fresh_places step_id n 4 11 (5 ∷ 4 ∷ 6 ∷ []) (step_id (n + 5) ∷ step_id (n + 4) ∷ step_id (n + 6) ∷ []) refl refl refl)
          (hidden_inner raw m.shape.width wide, tt)
          (λ i. spec_bits-wire_part raw 0 m.shape.width i ++ (spec_bits-wire_part word.id 0 word.form.width i ++ []))
          refl refl
      guarded_part (Some d) =
          let raw : List ℕ = step_id (n + 5) in
          let flag : List ℕ = step_id (n + 8) in
          let next : List ℕ = step_id (n + 10) in
          part_cells (n + 4) (n + 11) (inner_wire raw m.shape.width ∷ flag_wire n ∷ inner_wire next 1 ∷ [])
          (reading c p m n r (Some d) (wire_part raw 0 m.shape.width)
          ∷ register_cell (step_id (n + 7)) 1 (port_clock c d) (one_bit next) (one_bit flag)
          ∷ mux_cell (step_id (n + 9)) 1 (one_bit flag) (is_row c m n r.addr) (read_enable c r.enable) (one_bit next)
          ∷ zeros_unless (step_id (n + 6)) m.shape.width (wire_part raw 0 m.shape.width) (one_bit flag) (whole word) ∷ [])
          (block raw m.shape.width ∷ block flag 1 ∷ block next 1 ∷ []) (value_bits word)
          (fresh_places step_id n 4 11 (5 ∷ 8 ∷ 10 ∷ 4 ∷ 7 ∷ 9 ∷ 6 ∷ []) (step_id (n + 5) ∷ step_id (n + 8) ∷ step_id (n + 10) ∷ step_id (n + 4) ∷ step_id (n + 7) ∷ step_id (n + 9) ∷ step_id (n + 6) ∷ []) refl refl refl)
          (hidden_inner raw m.shape.width wide, (record { fits = record { wide = omega arith; init = refl }; inner = refl }, (hidden_inner next 1 (omega arith), tt)))
          (λ i. spec_bits-wire_part raw 0 m.shape.width i ++ (spec_bits-wire_part flag 0 1 i ++ (spec_bits-wire_part next 0 1 i ++ (spec_bits-wire_part word.id 0 word.form.width i ++ []))))
          refl refl

      read_part : IsPart (n + 4) (n + 11) (value_bits word) (read_behind c p m n r)
      read_part = by (names_rows c m r.addr)
        where
          by : (b : Bool) → IsPart (n + 4) (n + 11) (value_bits word) (if b then one_cell (reading c p m n r r.domain (whole word)) else guarded_read c p m n r r.domain)
          by true = exact_read r.domain
          by false = guarded_part r.domain

-- ---- each part

-- a port of the memory
abbrev pub IsPortOf : Circuit → Memory → Part → Type 0
IsPortOf c m FirstRows = Unit {0}
IsPortOf c m (Writes k w) = IsWritePort c m w
IsPortOf c m (Reads r) = IsReadPort c m r

-- the bits that it gives beside its own
abbrev pub given_bits : Circuit → Part → List Source
given_bits c FirstRows = []
given_bits c (Writes k w) = []
given_bits c (Reads r) = value_bits (signal_value c r.word.0)

pub part_drawn : (c : Circuit) (x : Placed) (n : ℕ) (q : Part) → 1 ≤ x.memory.depth → 1 ≤ x.memory.shape.width → IsPortOf c x.memory q → IsPart n (n + 11) (given_bits c q) (part_drawing c x n q)
part_drawn c x n FirstRows some wide port = record {
  fresh = IsFresh-wider step_id n (n + 1) (n + 11) (step_id n ∷ []) (omega arith) (fresh_from step_id n 1 (step_id n ∷ []) (fresh_places step_id n 0 1 (0 ∷ []) (step_id n ∷ []) (λ i. step_id (zero_more n i) ∷ []) refl refl));
  hidden = tt;
  drives = IsPermutation-refl [];
  begins = refl;
}
part_drawn c x n (Writes k w) some wide port =
    IsPart-and_also n (n + 4) (n + 11) [] (address_guard c x.memory n w.addr) (write_behind c x.plan x.memory k n w) (omega arith) (omega arith)
    (guard_part n x.memory.depth (port_address c w.addr) some port.addr.width.enough) (write_part n c x.plan x.memory wide k w)
part_drawn c x n (Reads r) some wide port =
    IsPart-and_also n (n + 4) (n + 11) (value_bits (signal_value c r.word.0)) (address_guard c x.memory n r.addr) (read_behind c x.plan x.memory n r) (omega arith) (omega arith)
    (guard_part n x.memory.depth (port_address c r.addr) some port.addr.width.enough) (read_part n c x.plan x.memory wide r)

-- ---- all parts

-- drawings one behind the other
pub record AreParts (low high : ℕ) (made : List Source) (ds : List Drawing) : Type 0 where
  pub fresh : IsFresh step_id low high (flat_map drawing_ids ds)
  pub hidden : AllByRecursion IsHidden (flat_map drawing_wires ds)
  pub drives : IsPermutation (flat_map drawn_bits ds) (made ++ flat_map own_bits ds)
  pub begins : flat_map kept_in ds ≡ flat_map begun_bits (flat_map drawing_wires ds)

-- a part of a memory with rows and bits
pub record IsPartOf (c : Circuit) (x : Placed) (q : Part) : Type 0 where
  pub some : 1 ≤ x.memory.depth
  pub wide : 1 ≤ x.memory.shape.width
  pub port : IsPortOf c x.memory q

abbrev pub ArePartsOf : Circuit → List (Placed × Part) → Type 0
ArePartsOf c xs = AllByRecursion (λ (y : Placed × Part). IsPartOf c y.0 y.1) xs

abbrev pub all_given : Circuit → List (Placed × Part) → List Source
all_given c xs = flat_map (λ (y : Placed × Part). given_bits c y.1) xs

pub parts_drawn : (c : Circuit) (n : ℕ) (xs : List (Placed × Part)) → ArePartsOf c xs → AreParts n (n + 11 * length xs) (all_given c xs) (drawn_parts c n xs)
parts_drawn c n [] h = record { fresh = fresh_none step_id n (n + 11 * 0); hidden = tt; drives = IsPermutation-refl []; begins = refl }
parts_drawn c n ((x, q) ∷ xs) h =
    let d : Drawing = part_drawing c x n q in
    let ds : List Drawing = drawn_parts c (n + 11) xs in
    let g = part_drawn c x n q h.0.some h.0.wide h.0.port in
    let r = parts_drawn c (n + 11) xs h.1 in
    let more : List Source = all_given c xs in
    let high : (n + 11) + 11 * length xs ≡ n + 11 * suc (length xs) = omega arith in
    record {
      fresh =
          subst (λ b. IsFresh step_id n b (drawing_ids d ++ flat_map drawing_ids ds)) high
          (IsFresh-append step_id n (n + 11) (n + 11) ((n + 11) + 11 * length xs) (drawing_ids d) (flat_map drawing_ids ds) (omega arith) (omega arith) (omega arith) g.fresh r.fresh);
      hidden = AllByRecursion-append IsHidden d.wires (flat_map drawing_wires ds) g.hidden r.hidden;
      drives =
          IsPermutation-trans (drawn_bits d ++ flat_map drawn_bits ds) ((given_bits c q ++ own_bits d) ++ (more ++ flat_map own_bits ds)) ((given_bits c q ++ more) ++ (own_bits d ++ flat_map own_bits ds))
          (IsPermutation-append (drawn_bits d) (given_bits c q ++ own_bits d) (flat_map drawn_bits ds) (more ++ flat_map own_bits ds) g.drives r.drives)
          (IsPermutation-inner_two (given_bits c q) (own_bits d) more (flat_map own_bits ds));
      begins = (λ i. g.begins i ++ r.begins i) ∙ sym (flat_map-append begun_bits d.wires (flat_map drawing_wires ds));
    }

-- ---- the parts of a design's memories

module _ (c : Circuit) where
  abbrev pub IsStored : Memory → Type 0
  IsStored m = IsMemory c m × (is_there m ≡ true)

  stored : (ms : List Memory) → AllByRecursion (IsMemory c) ms → AllByRecursion IsStored (filter is_there ms)
  stored [] h = tt
  stored (m ∷ ms) h = by (stored ms h.1) (is_there m) refl
    where
      by : AllByRecursion IsStored (filter is_there ms) → (b : Bool) → is_there m ≡ b → AllByRecursion IsStored (if b then m ∷ filter is_there ms else filter is_there ms)
      by later true t = ((h.0, t), later)
      by later false t = later

  pub all_placed : (P : Memory → Type 0) (names : List (List ℕ)) (ms : List Memory) → AllByRecursion P ms → AllByRecursion (λ (x : Placed). P x.memory) (placed names ms)
  all_placed P [] ms h = tt
  all_placed P (name ∷ names) [] h = tt
  all_placed P (name ∷ names) (m ∷ ms) h = (h.0, all_placed P names ms h.1)

  module _ (x : Placed) (some : 1 ≤ x.memory.depth) (wide : 1 ≤ x.memory.shape.width) where
    writes_are : (k : ℕ) (ws : List MemWrite) → AllByRecursion (IsWritePort c x.memory) ws → ArePartsOf c (map (λ q. (x, q)) (write_parts k ws))
    writes_are k [] h = tt
    writes_are k (w ∷ ws) h = (record { some = some; wide = wide; port = h.0 }, writes_are (suc k) ws h.1)

    reads_are : (rs : List MemRead) → AllByRecursion (IsReadPort c x.memory) rs → ArePartsOf c (map (λ q. (x, q)) (map Reads rs))
    reads_are [] h = tt
    reads_are (r ∷ rs) h = (record { some = some; wide = wide; port = h.0 }, reads_are rs h.1)

  parts_are : (x : Placed) → IsStored x.memory → ArePartsOf c (map (λ q. (x, q)) (parts_of x.memory))
  parts_are x h =
      let m : Memory = x.memory in
      let tests = and_parts (nat_lt 0 m.depth) (nat_lt 0 m.shape.width) h.1 in
      let some : 1 ≤ m.depth = omega (arith, ltb-true 0 m.depth tests.0) in
      let wide : 1 ≤ m.shape.width = omega (arith, ltb-true 0 m.shape.width tests.1) in (
        record { some = some; wide = wide; port = tt },
        subst (ArePartsOf c) (sym (map-append (λ q. (x, q)) (write_parts 0 m.writes) (map Reads m.reads)))
            (AllByRecursion-append (λ (y : Placed × Part). IsPartOf c y.0 y.1) (map (λ q. (x, q)) (write_parts 0 m.writes)) (map (λ q. (x, q)) (map Reads m.reads))
            (writes_are x some wide 0 m.writes h.0.writes) (reads_are x some wide m.reads h.0.reads)),
      )

  each_are : (xs : List Placed) → AllByRecursion (λ (x : Placed). IsStored x.memory) xs → ArePartsOf c (all_parts xs)
  each_are [] h = tt
  each_are (x ∷ xs) h =
      AllByRecursion-append (λ (y : Placed × Part). IsPartOf c y.0 y.1) (map (λ q. (x, q)) (parts_of x.memory)) (all_parts xs) (parts_are x h.0) (each_are xs h.1)

  -- each is a memory of the design, with rows and bits
  pub memories_stored : IsDesign c → AllByRecursion (λ (x : Placed). IsStored x.memory) (memories_of c)
  unfolding memories_of
  memories_stored design =
      let ms : List Memory = filter is_there c.memories in
      all_placed IsStored (given_names (map (λ (x : Column). x.name) c.columns) (map (λ (m : Memory). m.name) ms)) ms (stored c.memories design.memories)

  pub design_parts : IsDesign c → ArePartsOf c (all_parts (memories_of c))
  design_parts design = each_are (memories_of c) (memories_stored design)

  -- so they have all this together
  pub memories_drawn : IsDesign c → AreParts (3 * length c.pool.signals) (3 * length c.pool.signals + 11 * length (all_parts (memories_of c))) (all_given c (all_parts (memories_of c))) (memory_drawings c)
  unfolding memory_drawings
  memories_drawn design = parts_drawn c (3 * length c.pool.signals) (all_parts (memories_of c)) (design_parts design)

-- ---- a drawing among them

pub record IsPartAt (c : Circuit) (xs : List (Placed × Part)) (d : Drawing) : Type 0 where
  pub number : ℕ
  pub placed : Placed
  pub part : Part
  pub among : Among {A = Placed × Part} xs (placed, part)
  pub same : part_drawing c placed number part ≡ d

pub part_at : (c : Circuit) (n : ℕ) (xs : List (Placed × Part)) (d : Drawing) → Among (drawn_parts c n xs) d → IsPartAt c xs d
part_at c n [] d a = absurd a
part_at c n ((x, q) ∷ xs) d a = ⊎_elim
    (λ (here : part_drawing c x n q ≡ d). record { number = n; placed = x; part = q; among = inl refl; same = here })
    (λ (later : Among (drawn_parts c (n + 11) xs) d). let r = part_at c (n + 11) xs d later in record { number = r.number; placed = r.placed; part = r.part; among = inr r.among; same = r.same })
    a

-- its memory is one of the module
pub placed_among : (xs : List Placed) (x : Placed) (q : Part) → Among {A = Placed × Part} (all_parts xs) (x, q) → Among xs x
placed_among [] x q a = absurd a
placed_among (y ∷ xs) x q a = ⊎_elim
    (λ (here : Among {A = Placed × Part} (map (λ p. (y, p)) (parts_of y.memory)) (x, q)). inl (own (parts_of y.memory) here))
    (λ (later : Among {A = Placed × Part} (all_parts xs) (x, q)). inr (placed_among xs x q later))
    (Among-append (map (λ p. (y, p)) (parts_of y.memory)) (all_parts xs) (x, q) a)
  where
    own : (qs : List Part) → Among {A = Placed × Part} (map (λ p. (y, p)) qs) (x, q) → y ≡ x
    own [] a = absurd a
    own (p ∷ qs) a = ⊎_elim (λ e. ap (λ (z : Placed × Part). z.0) e) (λ more. own qs more) a
