-- The rules on a piece, and on the other cells of a module of which cells are cut.
use Rattle.std.proofs.Common.{◌≡◌, ◌∙◌, ◌<◌, ℕ, Bool, true, false, cond, List, [], ◌∷◌, map, length, replicate, refl, sym, ap, arith, subst, All}
use Rattle.std.specs.Prelude.{Option, Some, None, option_map, slice_get, unwrap_or, codes, MatchOption, max}
use Rattle.std.specs.List.{find, range_with_len, AllByRecursion}
use Rattle.std.proofs.lemmas.List.Elements.{All-nil, All-cons, All-head, All-tail, All-append, All-map, All-weaker, All-contains}
use Rattle.lists.specs.Texts.{text_eq}
use Rattle.lists.proofs.TextLaws.{text_eq_true}
use Rattle.shape_rules.specs.declared.cell.CellKind.{CellKind}
use Rattle.shape_rules.specs.declared.cell.CellKind.TheVariants.{Not, And, Or, Xor, Mux, MemoryRead, MemoryWrite, MemoryInit}
use Rattle.rtlil_text.specs.declared.sig.SigPart.{SigPart}
use Rattle.rtlil_text.specs.declared.sig.SigPart.TheVariants as parts
use Rattle.rtlil_text.specs.declared.cell.RtlValue.{RtlValue}
use Rattle.rtlil_text.specs.declared.cell.RtlValue.TheVariants as values
use Rattle.rtlil_text.specs.declared.cell.RtlParameter.{RtlParameter}
use Rattle.rtlil_text.specs.declared.cell.RtlEnd.{RtlEnd}
use Rattle.rtlil_text.specs.declared.cell.RtlCell.{RtlCell}
use Rattle.rtlil_text.specs.declared.module.RtlWire.{RtlWire}
use Rattle.rtlil_text.specs.declared.module.RtlMemory.{RtlMemory}
use Rattle.rtlil_text.specs.declared.module.RtlModule.{RtlModule}
use Rattle.rtlil_text.specs.Sources.{Source, Constant, Net, spec_bits, part_bits, parameter_of, as_number, number_at, end_width, memory_id}
use Rattle.rtlil_text.specs.CellTables.{Named, ValueForm, IsNumber, value_form, parameters_of}
use Rattle.rtlil_text.specs.CellRules.{GivesWidth, FitsNot, FitsArithmetic, FitsMux}
use Rattle.rtlil_text.specs.MemoryRules.{FitsMemory, HaveOneClock, FitsRead, FitsWrite, FitsInit, MemoryFits, AreNumbered}
use Rattle.rtlil_text.specs.Rules.{IsSlice, PartFits, SpecFits, ValueFits, KindFits, CellFits}
use Rattle.rtlil_text.proofs.Among.{Contains-among, Among-slice_get}
use Rattle.cell_split.specs.Pieces.{is_bitwise, bit_part, bit_parts, bit_spec, is_shared, is_sign, piece_spec, piece_end, piece_value, piece_parameter, piece}
use Rattle.cell_split.specs.Split.{split_of}
use Rattle.cell_split.proofs.PieceBits.{end_bits-shared, end_width-piece}
use Rattle.cell_split.proofs.Written.{writes_of-split, inits_of-split, mask_width-split}
use Rattle.cell_split.proofs.Places.{All-range}

-- ---- the parameters of a piece

one_parameter : (name : List ℕ) (p : RtlParameter) (b : Bool) (rest more : Option RtlParameter)
    → text_eq p.name name ≡ b
    → option_map (λ (x : RtlParameter). x.value) rest ≡ option_map (piece_value name) (option_map (λ (x : RtlParameter). x.value) more)
    → option_map (λ (x : RtlParameter). x.value) (cond b (Some (piece_parameter p)) rest) ≡ option_map (piece_value name) (option_map (λ (x : RtlParameter). x.value) (cond b (Some p) more))
one_parameter name p true rest more t r = ap (λ (n : List ℕ). Some (piece_value n p.value)) (text_eq_true p.name name t)
one_parameter name p false rest more t r = r

parameter_among-pieces : (name : List ℕ) (ps : List RtlParameter)
    → option_map (λ (x : RtlParameter). x.value) (find (λ (p : RtlParameter). text_eq p.name name) (map piece_parameter ps))
    ≡ option_map (piece_value name) (option_map (λ (x : RtlParameter). x.value) (find (λ (p : RtlParameter). text_eq p.name name) ps))
parameter_among-pieces name [] = refl
parameter_among-pieces name (p ∷ ps) =
    one_parameter name p (text_eq p.name name) (find (λ (x : RtlParameter). text_eq x.name name) (map piece_parameter ps)) (find (λ (x : RtlParameter). text_eq x.name name) ps) refl (parameter_among-pieces name ps)

parameter_of-piece : (n k : ℕ) (c : RtlCell) (name : List ℕ) → parameter_of (piece n c k) name ≡ option_map (piece_value name) (parameter_of c name)
parameter_of-piece n k c name = parameter_among-pieces name c.parameters

width_value : (name : List ℕ) (v : Option RtlValue) → is_sign name ≡ false → 0 < unwrap_or (option_map as_number v) 0 → unwrap_or (option_map as_number (option_map (piece_value name) v)) 0 ≡ 1
width_value name None t h = absurd (omega arith)
width_value name (Some v) t h = ap (λ (b : Bool). as_number (cond b v (values.Number 1))) t

sign_value : (name : List ℕ) (v : Option RtlValue) → is_sign name ≡ true → unwrap_or (option_map as_number (option_map (piece_value name) v)) 0 ≡ unwrap_or (option_map as_number v) 0
sign_value name None t = refl
sign_value name (Some v) t = ap (λ (b : Bool). as_number (cond b v (values.Number 1))) t

number_at-width : (n k : ℕ) (c : RtlCell) (name : List ℕ) → is_sign name ≡ false → 0 < number_at c name → number_at (piece n c k) name ≡ 1
number_at-width n k c name t h = ap (λ (v : Option RtlValue). unwrap_or (option_map as_number v) 0) (parameter_of-piece n k c name) ∙ width_value name (parameter_of c name) t h

number_at-sign : (n k : ℕ) (c : RtlCell) (name : List ℕ) → is_sign name ≡ true → number_at (piece n c k) name ≡ number_at c name
number_at-sign n k c name t = ap (λ (v : Option RtlValue). unwrap_or (option_map as_number v) 0) (parameter_of-piece n k c name) ∙ sign_value name (parameter_of c name) t

-- each width is 1, and so is its parameter
gives_width : (n k : ℕ) (c : RtlCell) (parameter end : List ℕ) → is_sign parameter ≡ false → is_shared end ≡ false → GivesWidth c parameter end → k < end_width c end → GivesWidth (piece n c k) parameter end
gives_width n k c parameter end s t h within =
    let some : 0 < number_at c parameter = omega (arith, h, within) in
    number_at-width n k c parameter s some ∙ sym (end_width-piece n k c end t within)

-- ---- the names and the forms of parameters

abbrev AreNumbers : List Named → Type 0
AreNumbers named = AllByRecursion (λ (x : Named). x.1 ≡ IsNumber) named

abbrev named : RtlParameter → Named
named p = (p.name, value_form p.value)

numbers-bitwise : (kind : CellKind) → is_bitwise kind ≡ true → AreNumbers (parameters_of kind)
numbers-bitwise Not h = (refl, (refl, (refl, tt)))
numbers-bitwise And h = (refl, (refl, (refl, (refl, (refl, tt)))))
numbers-bitwise Or h = (refl, (refl, (refl, (refl, (refl, tt)))))
numbers-bitwise Xor h = (refl, (refl, (refl, (refl, (refl, tt)))))
numbers-bitwise Mux h = (refl, tt)
numbers-bitwise kind h = cc

piece_form : (b : Bool) (v : RtlValue) → value_form v ≡ IsNumber → value_form (cond b v (values.Number 1)) ≡ value_form v
piece_form true v e = refl
piece_form false v e = sym e

named-pieces : (ps : List RtlParameter) (names : List Named) → map named ps ≡ names → AreNumbers names → map named (map piece_parameter ps) ≡ names
named-pieces [] [] e h = refl
named-pieces [] (y ∷ ys) e h = cc
named-pieces (p ∷ ps) [] e h = cc
named-pieces (p ∷ ps) (y ∷ ys) e h =
    let first : named p ≡ y = cc in
    let others : map named ps ≡ ys = cc in
    let form : value_form p.value ≡ IsNumber = ap (λ (x : Named). x.1) first ∙ h.0 in
    let new : named (piece_parameter p) ≡ y = ap (λ (f : ValueForm). let x : Named = (p.name, f) in x) (piece_form (is_sign p.name) p.value form) ∙ first in
    ap (λ (x : Named). x ∷ map named (map piece_parameter ps)) new ∙ ap (λ (xs : List Named). y ∷ xs) (named-pieces ps ys others h.1)

value_fits : (b : Bool) (v : RtlValue) → ValueFits v → ValueFits (cond b v (values.Number 1))
value_fits true v h = h
value_fits false v h = tt

ends-named : (k : ℕ) (ends : List RtlEnd) → map (λ (e : RtlEnd). e.name) (map (piece_end k) ends) ≡ map (λ (e : RtlEnd). e.name) ends
ends-named k [] = refl
ends-named k (e ∷ ends) = ap (λ (names : List (List ℕ)). e.name ∷ names) (ends-named k ends)

-- ---- the specs of a piece

bits_fit-part : (wires : List RtlWire) (p : SigPart) → PartFits wires p → All (λ s. PartFits wires (bit_part s)) (part_bits p)
bits_fit-part wires (parts.Const bits) h = All-map (λ s. PartFits wires (bit_part s)) Constant bits (λ k d lt. tt)
bits_fit-part wires (parts.Wire id low width) h =
    All-map (λ s. PartFits wires (bit_part s)) (λ i. Net id i) (range_with_len low width)
    (All-range (λ i. IsSlice wires id i 1) low width (λ i from upto. record { wire = h.wire; among = h.among; named = h.named; some = omega arith; within = omega (arith, h.within, upto) }))

bits_fit : (wires : List RtlWire) (spec : List SigPart) → SpecFits wires spec → All (λ s. PartFits wires (bit_part s)) (spec_bits spec)
bits_fit wires [] h = All-nil (λ s. PartFits wires (bit_part s))
bits_fit wires (p ∷ ps) h =
    All-append (λ s. PartFits wires (bit_part s)) (spec_bits ps) (part_bits p) (bits_fit wires ps (All-tail (PartFits wires) p ps h)) (bits_fit-part wires p (All-head (PartFits wires) p ps h))

bit_fits : (wires : List RtlWire) (bits : List Source) (k : ℕ) (s : Option Source) → slice_get bits k ≡ s → All (λ x. PartFits wires (bit_part x)) bits → SpecFits wires (bit_parts s)
bit_fits wires bits k None e h = All-nil (PartFits wires)
bit_fits wires bits k (Some s) e h =
    All-cons (PartFits wires) (bit_part s) [] (All-contains (λ x. PartFits wires (bit_part x)) bits s h (Contains-among bits s (Among-slice_get bits k s e))) (All-nil (PartFits wires))

spec_fits : (wires : List RtlWire) (spec : List SigPart) (k : ℕ) (b : Bool) → SpecFits wires spec → SpecFits wires (cond b spec (bit_spec spec k))
spec_fits wires spec k true h = h
spec_fits wires spec k false h = bit_fits wires (spec_bits spec) k (slice_get (spec_bits spec) k) refl (bits_fit wires spec h)

-- ---- the rules of a kind

-- what is known of a piece
module _ (n k : ℕ) (c : RtlCell) (wide : 1 < end_width c (codes "\\Y")) (within : k < end_width c (codes "\\Y")) where
  fits-not : FitsNot c → FitsNot (piece n c k)
  fits-not h =
      let a : k < end_width c (codes "\\A") = omega (arith, h.equal, within) in
      record {
        widths = record {
          a = gives_width n k c (codes "\\A_WIDTH") (codes "\\A") refl refl h.widths.a a;
          y = gives_width n k c (codes "\\Y_WIDTH") (codes "\\Y") refl refl h.widths.y within;
          sign = omega (arith, number_at-sign n k c (codes "\\A_SIGNED") refl, h.widths.sign);
        };
        equal = end_width-piece n k c (codes "\\A") refl a ∙ sym (end_width-piece n k c (codes "\\Y") refl within);
      }

  fits-arithmetic : FitsArithmetic c → FitsArithmetic (piece n c k)
  fits-arithmetic h =
      let a : k < end_width c (codes "\\A") = omega (arith, h.equal_y, within) in
      let b : k < end_width c (codes "\\B") = omega (arith, h.equal_b, a) in
      record {
        widths = record {
          a = gives_width n k c (codes "\\A_WIDTH") (codes "\\A") refl refl h.widths.a a;
          b = gives_width n k c (codes "\\B_WIDTH") (codes "\\B") refl refl h.widths.b b;
          y = gives_width n k c (codes "\\Y_WIDTH") (codes "\\Y") refl refl h.widths.y within;
          sign_a = omega (arith, number_at-sign n k c (codes "\\A_SIGNED") refl, h.widths.sign_a);
          sign_b = omega (arith, number_at-sign n k c (codes "\\B_SIGNED") refl, h.widths.sign_b);
        };
        equal_b = end_width-piece n k c (codes "\\A") refl a ∙ sym (end_width-piece n k c (codes "\\B") refl b);
        equal_y = end_width-piece n k c (codes "\\A") refl a ∙ sym (end_width-piece n k c (codes "\\Y") refl within);
        same_sign = number_at-sign n k c (codes "\\A_SIGNED") refl ∙ h.same_sign ∙ sym (number_at-sign n k c (codes "\\B_SIGNED") refl);
      }

  fits-mux : FitsMux c → FitsMux (piece n c k)
  fits-mux h =
      let a : k < end_width c (codes "\\A") = omega (arith, h.a, h.y, within) in
      let b : k < end_width c (codes "\\B") = omega (arith, h.b, h.y, within) in
      record {
        a = gives_width n k c (codes "\\WIDTH") (codes "\\A") refl refl h.a a;
        b = gives_width n k c (codes "\\WIDTH") (codes "\\B") refl refl h.b b;
        y = gives_width n k c (codes "\\WIDTH") (codes "\\Y") refl refl h.y within;
        one = ap length (end_bits-shared n k c (codes "\\S") refl) ∙ h.one;
      }

  kind_fits : (m other : RtlModule) (kind : CellKind) → is_bitwise kind ≡ true → KindFits m c kind → KindFits other (piece n c k) kind
  kind_fits m other Not e h = fits-not h
  kind_fits m other And e h = fits-arithmetic h
  kind_fits m other Or e h = fits-arithmetic h
  kind_fits m other Xor e h = fits-arithmetic h
  kind_fits m other Mux e h = fits-mux h
  kind_fits m other kind e h = absurd (let no : ⊥ = cc in no)

  pub piece_fits : (m other : RtlModule) → m.wires ≡ other.wires → is_bitwise c.kind ≡ true → CellFits m c → CellFits other (piece n c k)
  piece_fits m other same e h = record {
    parameters = named-pieces c.parameters (parameters_of c.kind) h.parameters (numbers-bitwise c.kind e);
    values = All-map (λ (p : RtlParameter). ValueFits p.value) piece_parameter c.parameters (All-weaker (λ (p : RtlParameter). ValueFits p.value) (λ (p : RtlParameter). ValueFits (piece_value p.name p.value)) (λ p v. value_fits (is_sign p.name) p.value v) c.parameters h.values);
    ends = ends-named k c.ends ∙ h.ends;
    specs = subst (λ (wires : List RtlWire). All (λ (x : RtlEnd). SpecFits wires x.spec) (map (piece_end k) c.ends)) same
        (All-map (λ (x : RtlEnd). SpecFits m.wires x.spec) (piece_end k) c.ends (All-weaker (λ (x : RtlEnd). SpecFits m.wires x.spec) (λ (x : RtlEnd). SpecFits m.wires (piece_spec x.name x.spec k)) (λ x s. spec_fits m.wires x.spec k (is_shared x.name) s) c.ends h.specs));
    rules = kind_fits m other c.kind e h.rules;
  }

-- ---- the cells that stay, and memories

module _ (n : ℕ) (marks : List Bool) (m : RtlModule) where
  fits-memory : (c : RtlCell) (memory : RtlMemory) → FitsMemory m c memory → FitsMemory (split_of n marks m) c memory
  fits-memory c memory h = record { among = h.among; named = h.named; width = h.width; address = h.address; wide = h.wide }

  fits-read : (c : RtlCell) → FitsRead m c → FitsRead (split_of n marks m) c
  fits-read c h = record {
    memory = h.memory;
    of_memory = fits-memory c h.memory h.of_memory;
    row = h.row;
    clocked = h.clocked;
    edge = h.edge;
    clock = h.clock;
    enable = h.enable;
    comb = h.comb;
    transparency = h.transparency ∙ sym (mask_width-split n marks m (memory_id c));
    transparent = λ k e. subst (λ (writes : List RtlCell). MatchOption (slice_get writes k) ⊥ (HaveOneClock c)) (sym (writes_of-split n marks m (memory_id c))) (h.transparent k e);
    collision = h.collision ∙ ap (λ (w : ℕ). replicate w false) (sym (mask_width-split n marks m (memory_id c)));
    first = h.first;
    no_reset = h.no_reset;
    no_clocked_reset = h.no_clocked_reset;
    reset_value = h.reset_value;
    clocked_reset_value = h.clocked_reset_value;
    enable_first = h.enable_first;
  }

  fits-write : (c : RtlCell) → FitsWrite m c → FitsWrite (split_of n marks m) c
  fits-write c h = record {
    memory = h.memory;
    of_memory = fits-memory c h.memory h.of_memory;
    row = h.row;
    enable = h.enable;
    clocked = h.clocked;
    edge = h.edge;
    clock = h.clock;
  }

  fits-init : (c : RtlCell) → FitsInit m c → FitsInit (split_of n marks m) c
  fits-init c h = record {
    memory = h.memory;
    of_memory = fits-memory c h.memory h.of_memory;
    words = h.words;
    rows = h.rows;
    constant = h.constant;
    enable = h.enable;
    from_zero = h.from_zero;
    only = h.only;
  }

  kind_fits-split : (c : RtlCell) (kind : CellKind) → KindFits m c kind → KindFits (split_of n marks m) c kind
  kind_fits-split c MemoryRead h = fits-read c h
  kind_fits-split c MemoryWrite h = fits-write c h
  kind_fits-split c MemoryInit h = fits-init c h
  kind_fits-split c kind h = h

  pub cell_fits-split : (c : RtlCell) → CellFits m c → CellFits (split_of n marks m) c
  cell_fits-split c h = record { parameters = h.parameters; values = h.values; ends = h.ends; specs = h.specs; rules = kind_fits-split c c.kind h.rules }

  pub memory_fits-split : (memory : RtlMemory) → MemoryFits m memory → MemoryFits (split_of n marks m) memory
  memory_fits-split memory h = record {
    width = h.width;
    size = h.size;
    first = ap length (inits_of-split n marks m memory.id) ∙ h.first;
    writes = subst (λ (cells : List RtlCell). AreNumbered (max 1 (length cells)) 0 cells) (sym (writes_of-split n marks m memory.id)) h.writes;
  }
