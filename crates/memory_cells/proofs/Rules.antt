-- The cells of a memory keep the rules.
use Rattle.std.proofs.Common.{length-append, ◌≡◌, ℕ, zero, suc, ◌+◌, ◌*◌, ◌==◌, Bool, true, false, List, [], ◌∷◌, map, length, replicate, ℤ, refl, sym, ◌∙◌, ap, subst, arith, All}
use Rattle.std.specs.Prelude.{Some, slice_get, max}
use Rattle.std.specs.List.{list_any, range_with_len}
use Rattle.std.proofs.lemmas.List.Elements.{All-from_recursion, All-nil, All-cons}
use Rattle.std.proofs.lemmas.List.FromFn.{length-range_with_len}
use Rattle.std.proofs.Math.Nat.{suc-mul, mul_comm}
use Rattle.amh_bits.specs.Patterns.{pattern}
use Rattle.rtlil_text.specs.declared.cell.RtlParameter.{RtlParameter}
use Rattle.rtlil_text.specs.declared.cell.RtlEnd.{RtlEnd}
use Rattle.rtlil_text.specs.declared.module.RtlWire.{RtlWire}
use Rattle.rtlil_text.specs.Sources.{Constant}
use Rattle.rtlil_text.specs.MemoryRules.{IsConstant, AreNumbered, mask_width}
use Rattle.rtlil_text.specs.Rules.{ValueFits, PartFits, SpecFits}
use Rattle.rtlil_text.proofs.CellLaws.{length-number_bits}
use Rattle.memory_cells.specs.declared.plan.Plan.{Plan}
use Rattle.memory_cells.specs.Bits.{row_bits, rows_bits}
use Rattle.memory_cells.specs.Plans.{planned, mask_bits, through_from}
use Rattle.memory_cells.specs.Cells.{init_cell, write_cell, comb_read, clocked_read, WritePort, write_cells, constant}
use Rattle.memory_cells.proofs.Clocks.{polarity-flag}
use Rattle.memory_cells.specs.Fits.{InitsFit, WritesFit, CombReadsFit, ClockedReadsFit, MemoriesFit}

-- ---- lists

length-map : {A B : Type 0} (f : A → B) (xs : List A) → length (map f xs) ≡ length xs
length-map f [] = refl
length-map f (x ∷ xs) = ap suc (length-map f xs)

length-replicate : {A : Type 0} (n : ℕ) (a : A) → length (replicate n a) ≡ n
length-replicate zero a = refl
length-replicate (suc n) a = ap suc (length-replicate n a)

map-replicate : {A B : Type 0} (f : A → B) (n : ℕ) (a : A) → map f (replicate n a) ≡ replicate n (f a)
map-replicate f zero a = refl
map-replicate f (suc n) a = ap (λ r. f a ∷ r) (map-replicate f n a)

length-rows : (width : ℕ) (rows : List ℤ) → length (rows_bits width rows) ≡ width * length rows
length-rows width [] = omega arith
length-rows width (z ∷ rows) =
    let first = length-number_bits width (pattern width z) in
    let rest = length-rows width rows in
    let size = mul_comm width (suc (length rows)) ∙ suc-mul (length rows) width in
    let turned = mul_comm (length rows) width in
    let both = length-append (row_bits width z) (rows_bits width rows) in
    omega (arith, first, rest, size, turned, both)

all_constant : (bits : List Bool) → All IsConstant (map Constant bits)
all_constant [] = All-nil IsConstant
all_constant (b ∷ bits) = All-cons IsConstant (Constant b) (map Constant bits) tt (all_constant bits)

constant_fits : (wires : List RtlWire) (bits : List Bool) → SpecFits wires (constant bits)
constant_fits wires bits = All-from_recursion (PartFits wires) (constant bits) (tt, tt)

-- ---- masks

length-through : (through : List ℕ) (k n : ℕ) → length (through_from through k n) ≡ n
length-through through k n = length-map (λ j. list_any (λ i. i == j) through) (range_with_len k n) ∙ length-range_with_len k n

get-through : (through : List ℕ) (i n k : ℕ) → slice_get (through_from through i n) k ≡ Some true → list_any (λ j. j == i + k) through ≡ true
get-through through i zero k e = cc
get-through through i (suc n) zero e = let f : list_any (λ j. j == i) through ≡ true = cc in ap (λ x. list_any (λ j. j == x) through) (let z : i + 0 ≡ i = omega arith in z) ∙ f
get-through through i (suc n) (suc k) e = ap (λ x. list_any (λ j. j == x) through) (let z : i + suc k ≡ (i + 1) + k = omega arith in z) ∙ get-through through (i + 1) n k e

get-none : (n k : ℕ) → slice_get (replicate n false) k ≡ Some true → ⊥
get-none zero k e = cc
get-none (suc n) zero e = cc
get-none (suc n) (suc k) e = get-none n k e

-- ---- cells

pub inits_fit : InitsFit
inits_fit m p id rows h long = record {
  parameters = refl;
  values = All-from_recursion (λ (x : RtlParameter). ValueFits x.value) (init_cell p id rows).parameters (h.named, (tt, (tt, (tt, (tt, tt)))));
  ends = refl;
  specs = All-from_recursion (λ (e : RtlEnd). SpecFits m.wires e.spec) (init_cell p id rows).ends (constant_fits m.wires (replicate p.address false), (constant_fits m.wires (rows_bits p.width rows), (constant_fits m.wires (replicate p.width true), tt)));
  rules = record {
    memory = planned p;
    of_memory = record { among = h.among; named = refl; width = refl; address = sym (length-map Constant (replicate p.address false) ∙ length-replicate p.address false); wide = h.address };
    words = refl;
    rows = length-map Constant (rows_bits p.width rows) ∙ length-rows p.width rows ∙ ap (λ n. p.width * n) long;
    constant = all_constant (rows_bits p.width rows);
    enable = map-replicate Constant p.width true;
    from_zero = map-replicate Constant p.address false;
    only = refl;
  };
}

pub writes_fit : WritesFit
writes_fit m p id k clock enable address word h c e a w = record {
  parameters = refl;
  values = All-from_recursion (λ (x : RtlParameter). ValueFits x.value) (write_cell p id k clock enable address word).parameters (h.named, (tt, (tt, (tt, (tt, (tt, (tt, tt)))))));
  ends = refl;
  specs = All-from_recursion (λ (x : RtlEnd). SpecFits m.wires x.spec) (write_cell p id k clock enable address word).ends (c.fits, (e.fits, (a.fits, (w.fits, tt))));
  rules = record {
    memory = planned p;
    of_memory = record { among = h.among; named = refl; width = refl; address = sym a.wide; wide = h.address };
    row = sym w.wide;
    enable = sym e.wide;
    clocked = refl;
    edge = polarity-flag clock;
    clock = c.wide;
  };
}

pub comb_reads_fit : CombReadsFit
comb_reads_fit m p id address word h a w =
    let masks = ap (max 1) (sym h.writes) in record {
      parameters = refl;
      values = All-from_recursion (λ (x : RtlParameter). ValueFits x.value) (comb_read p id address word).parameters (h.named, (tt, (tt, (tt, (tt, (tt, (tt, (tt, (tt, (tt, (tt, tt)))))))))));
      ends = refl;
      specs = All-from_recursion (λ (x : RtlEnd). SpecFits m.wires x.spec) (comb_read p id address word).ends
          (constant_fits m.wires (false ∷ []), (constant_fits m.wires (true ∷ []), (constant_fits m.wires (false ∷ []), (constant_fits m.wires (false ∷ []), (a.fits, (w.fits, tt))))));
      rules = record {
        memory = planned p;
        of_memory = record { among = h.among; named = refl; width = refl; address = sym a.wide; wide = h.address };
        row = sym w.wide;
        clocked = omega arith;
        edge = omega arith;
        clock = refl;
        enable = refl;
        comb = λ e. record { clock = refl; enable = refl };
        transparency = length-replicate (mask_bits p) false ∙ masks;
        transparent = λ k e. absurd (get-none (mask_bits p) k e);
        collision = ap (λ n. replicate n false) masks;
        first = length-replicate p.width false;
        no_reset = refl;
        no_clocked_reset = refl;
        reset_value = refl;
        clocked_reset_value = refl;
        enable_first = refl;
      };
    }

pub clocked_reads_fit : ClockedReadsFit
clocked_reads_fit m p id through clock enable address word h c e a w transparent =
    let masks = ap (max 1) (sym h.writes) in record {
      parameters = refl;
      values = All-from_recursion (λ (x : RtlParameter). ValueFits x.value) (clocked_read p id through clock enable address word).parameters (h.named, (tt, (tt, (tt, (tt, (tt, (tt, (tt, (tt, (tt, (tt, tt)))))))))));
      ends = refl;
      specs = All-from_recursion (λ (x : RtlEnd). SpecFits m.wires x.spec) (clocked_read p id through clock enable address word).ends
          (c.fits, (e.fits, (constant_fits m.wires (false ∷ []), (constant_fits m.wires (false ∷ []), (a.fits, (w.fits, tt))))));
      rules = record {
        memory = planned p;
        of_memory = record { among = h.among; named = refl; width = refl; address = sym a.wide; wide = h.address };
        row = sym w.wide;
        clocked = omega arith;
        edge = polarity-flag clock;
        clock = c.wide;
        enable = e.wide;
        comb = λ z. cc;
        transparency = length-through through 0 (mask_bits p) ∙ masks;
        transparent = λ k t. transparent k (ap (λ x. list_any (λ j. j == x) through) (let z : k ≡ 0 + k = omega arith in z) ∙ get-through through 0 (mask_bits p) k t);
        collision = ap (λ n. replicate n false) masks;
        first = length-replicate p.width false;
        no_reset = refl;
        no_clocked_reset = refl;
        reset_value = refl;
        clocked_reset_value = refl;
        enable_first = refl;
      };
    }

-- ---- a memory

numbered : (p : Plan) (k : ℕ) (ports : List WritePort) → AreNumbered (mask_bits p) k (write_cells p k ports)
numbered p k [] = tt
numbered p k (w ∷ ports) = (refl, refl, numbered p (suc k) ports)

length-write_cells : (p : Plan) (k : ℕ) (ports : List WritePort) → length (write_cells p k ports) ≡ length ports
length-write_cells p k [] = refl
length-write_cells p k (w ∷ ports) = ap suc (length-write_cells p (suc k) ports)

pub memories_fit : MemoriesFit
memories_fit m p ports wide deep few first cells =
    let masks : mask_bits p ≡ mask_width m p.id = ap (max 1) (sym (ap length cells ∙ length-write_cells p 0 ports ∙ few)) in record {
      width = wide;
      size = deep;
      first = first;
      writes = subst (AreNumbered (mask_width m p.id) 0) (sym cells) (subst (λ n. AreNumbered n 0 (write_cells p 0 ports)) masks (numbered p 0 ports));
    }
