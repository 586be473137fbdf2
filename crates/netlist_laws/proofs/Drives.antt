-- What a drawing has: ids of its own, inner wires with bits, and one driver for each bit that it owes.
use Rattle.std.specs.Prelude.{◌≡◌, ◌≤◌, ◌+◌, ◌==◌, ◌&&◌, not, if◌then◌else◌, nat_lt, nat_le, ℕ, Bool, true, List, [], ◌∷◌, ◌++◌, map, IsPermutation, None, codes}
use Rattle.std.specs.List.{flat_map, range_with_len, AllByRecursion}
use Rattle.std.proofs.Common.{refl, sym, ap, ◌∙◌, arith, subst, append_assoc, append-nil}
use Rattle.std.proofs.lemmas.Bool.{false≢true, eq-eqb, ltb-true, leb-true, and_parts}
use Rattle.std.proofs.lemmas.List.{map-append}
use Rattle.std.proofs.lemmas.List.Concat.{flat_map-append}
use Rattle.std.proofs.lemmas.List.Sorted.{IsPermutation-refl, IsPermutation-trans, IsPermutation-append_left, IsPermutation-append_right}
use Rattle.shape_rules.specs.declared.cell.CellKind.{CellKind}
use Rattle.rtlil_text.specs.declared.sig.SigPart.{SigPart}
use Rattle.rtlil_text.specs.declared.cell.RtlCell.{RtlCell}
use Rattle.rtlil_text.specs.declared.module.RtlWire.{RtlWire}
use Rattle.rtlil_text.specs.declared.module.RtlLink.{RtlLink}
use Rattle.rtlil_text.specs.declared.module.WirePort.TheVariants.{Inner}
use Rattle.rtlil_text.specs.Sources.{Source, Net, spec_bits, end_bits, is_input_port}
use Rattle.rtlil_text.specs.CellTables.{output_of}
use Rattle.rtlil_text.specs.Drivers.{output_bits, wire_bits}
use Rattle.rtlil_text.proofs.Among.{AllByRecursion-append}
use Rattle.netlist_laws.specs.Cells.{Operand, unary_cell, binary_cell, mux_cell}
use Rattle.netlist_laws.specs.Operands.{wire_part}
use Rattle.netlist_laws.specs.Operators.{Value, Drawing, nothing, inner_wire, whole, linked}
use Rattle.netlist_laws.specs.Expressions.{and_also}
use Rattle.netlist_laws.proofs.Places.{spec_bits-wire_part}
use Rattle.netlist_laws.proofs.Permuted.{IsPermutation-same, IsPermutation-first_two, IsPermutation-inner_two}
use Rattle.netlist_laws.proofs.Fresh.{Apart, Within, IsFresh, IsFresh-permutation, IsFresh-append, IsFresh-wider}

-- ---- the bits of a wire

abbrev pub block : List ℕ → ℕ → List Source
block id width = map (λ i. Net id i) (range_with_len 0 width)

abbrev pub value_bits : Value → List Source
value_bits v = block v.id v.form.width

-- those that must have a driver
abbrev pub owed_bits : RtlWire → List Source
owed_bits w = if is_input_port w.port then [] else wire_bits w

-- ---- what a drawing has

abbrev pub drawing_ids : Drawing → List (List ℕ)
drawing_ids d = map (λ (w : RtlWire). w.id) d.wires ++ map (λ (c : RtlCell). c.id) d.cells

abbrev pub left_bits : RtlLink → List Source
left_bits l = spec_bits l.left

-- the bits that a drawing drives, and those of its own wires
abbrev pub drawn_bits : Drawing → List Source
drawn_bits d = flat_map output_bits d.cells ++ flat_map left_bits d.links

abbrev pub own_bits : Drawing → List Source
own_bits d = flat_map owed_bits d.wires

-- an inner wire with bits
pub record IsBare (w : RtlWire) : Type 0 where
  pub inner : w.port ≡ Inner
  pub init : w.init ≡ None
  pub some : 1 ≤ w.width

-- Ids of one kind with numbers in a range. It drives its own wires, save those of `left`, and `made`: each bit once.
pub record IsDrawn (id : ℕ → List ℕ) (low high : ℕ) (left made : List Source) (d : Drawing) : Type 0 where
  pub fresh : IsFresh id low high (drawing_ids d)
  pub bare : AllByRecursion IsBare d.wires
  pub drives : IsPermutation (left ++ drawn_bits d) (made ++ own_bits d)

-- ---- ids at places from a number on

abbrev apart_from : ℕ → List ℕ → Bool
apart_from j [] = true
apart_from j (k ∷ ks) = not (j == k) && apart_from j ks

abbrev apart_test : List ℕ → Bool
apart_test [] = true
apart_test (j ∷ js) = apart_from j js && apart_test js

abbrev within_test : ℕ → ℕ → List ℕ → Bool
within_test a b [] = true
within_test a b (j ∷ js) = nat_le a j && (nat_lt j b && within_test a b js)

unequal : (j k : ℕ) → not (j == k) ≡ true → j ≡ k → ⊥
unequal j k t e = false≢true (ap not (sym (eq-eqb j k e)) ∙ t)

others : (n j : ℕ) (js : List ℕ) → apart_from j js ≡ true → AllByRecursion (λ m. n + j ≡ m → ⊥) (map (λ k. n + k) js)
others n j [] t = tt
others n j (k ∷ ks) t = let h = and_parts (not (j == k)) (apart_from j ks) t in (λ e. unequal j k h.0 (omega (arith, e)), others n j ks h.1)

Apart-places : (n : ℕ) (js : List ℕ) → apart_test js ≡ true → Apart (map (λ k. n + k) js)
Apart-places n [] t = tt
Apart-places n (j ∷ js) t = let h = and_parts (apart_from j js) (apart_test js) t in (others n j js h.0, Apart-places n js h.1)

Within-places : (n a b : ℕ) (js : List ℕ) → within_test a b js ≡ true → Within (n + a) (n + b) (map (λ k. n + k) js)
Within-places n a b [] t = tt
Within-places n a b (j ∷ js) t =
    let h = and_parts (nat_le a j) (nat_lt j b && within_test a b js) t in
    let g = and_parts (nat_lt j b) (within_test a b js) h.1 in
    ((omega (arith, leb-true a j h.0), omega (arith, ltb-true j b g.0)), Within-places n a b js g.1)

pub fresh_places : (id : ℕ → List ℕ) (n a b : ℕ) (js : List ℕ) (ids : List (List ℕ)) → ids ≡ map id (map (λ k. n + k) js) → apart_test js ≡ true → within_test a b js ≡ true → IsFresh id (n + a) (n + b) ids
fresh_places id n a b js ids e s t = record { numbers = map (λ k. n + k) js; same = IsPermutation-same ids (map id (map (λ k. n + k) js)) e; apart = Apart-places n js s; within = Within-places n a b js t }

pub fresh_none : (id : ℕ → List ℕ) (low high : ℕ) → IsFresh id low high []
fresh_none id low high = record { numbers = []; same = IsPermutation-refl []; apart = tt; within = tt }

pub zero_more : (n : ℕ) → n ≡ n + 0
zero_more n = omega arith

-- ---- one drawing and another

map-both : {A : Type 0} (f : RtlWire → A) (g : RtlCell → A) (ws vs : List RtlWire) (cs bs : List RtlCell) → IsPermutation (map f (ws ++ vs) ++ map g (cs ++ bs)) ((map f ws ++ map g cs) ++ (map f vs ++ map g bs))
map-both f g ws vs cs bs =
    subst (λ r. IsPermutation r ((map f ws ++ map g cs) ++ (map f vs ++ map g bs))) (sym (λ i. map-append f ws vs i ++ map-append g cs bs i))
    (IsPermutation-inner_two (map f ws) (map f vs) (map g cs) (map g bs))

pub drawing_ids-and_also : (d e : Drawing) → IsPermutation (drawing_ids (and_also d e)) (drawing_ids d ++ drawing_ids e)
drawing_ids-and_also d e = map-both (λ (w : RtlWire). w.id) (λ (c : RtlCell). c.id) d.wires e.wires d.cells e.cells

pub drawn_bits-and_also : (d e : Drawing) → IsPermutation (drawn_bits (and_also d e)) (drawn_bits d ++ drawn_bits e)
drawn_bits-and_also d e =
    let C = flat_map output_bits d.cells in
    let B = flat_map output_bits e.cells in
    let L = flat_map left_bits d.links in
    let K = flat_map left_bits e.links in
    subst (λ r. IsPermutation r ((C ++ L) ++ (B ++ K))) (sym (λ i. flat_map-append output_bits d.cells e.cells i ++ flat_map-append left_bits d.links e.links i))
    (IsPermutation-inner_two C B L K)

own_bits-and_also : (d e : Drawing) → own_bits (and_also d e) ≡ own_bits d ++ own_bits e
own_bits-and_also d e = flat_map-append owed_bits d.wires e.wires

-- what one leaves and the other makes is driven once
joined : {A : Type 0} (left made more D E V W : List A) → IsPermutation (left ++ D) (made ++ V) → IsPermutation E ((left ++ more) ++ W) → IsPermutation (D ++ E) ((made ++ more) ++ (V ++ W))
joined left made more D E V W p q =
    let a : IsPermutation (D ++ E) (D ++ (left ++ (more ++ W))) = subst (λ r. IsPermutation (D ++ E) (D ++ r)) (append_assoc left more W) (IsPermutation-append_right D E ((left ++ more) ++ W) q) in
    let b : IsPermutation (D ++ (left ++ (more ++ W))) ((left ++ D) ++ (more ++ W)) =
    subst (IsPermutation (D ++ (left ++ (more ++ W)))) (sym (append_assoc left D (more ++ W))) (IsPermutation-first_two D left (more ++ W)) in
    let c : IsPermutation ((left ++ D) ++ (more ++ W)) ((made ++ V) ++ (more ++ W)) = IsPermutation-append_left (more ++ W) (left ++ D) (made ++ V) p in
    let d : IsPermutation ((made ++ V) ++ (more ++ W)) ((made ++ more) ++ (V ++ W)) = IsPermutation-inner_two made V more W in
    IsPermutation-trans (D ++ E) (D ++ (left ++ (more ++ W))) ((made ++ more) ++ (V ++ W)) a
    (IsPermutation-trans (D ++ (left ++ (more ++ W))) ((left ++ D) ++ (more ++ W)) ((made ++ more) ++ (V ++ W)) b
    (IsPermutation-trans ((left ++ D) ++ (more ++ W)) ((made ++ V) ++ (more ++ W)) ((made ++ more) ++ (V ++ W)) c d))

pub IsDrawn-and_also : (id : ℕ → List ℕ) (low mid mid' high : ℕ) (left made more : List Source) (d e : Drawing) → low ≤ mid' → mid ≤ mid' → mid ≤ high
    → IsDrawn id low mid left made d → IsDrawn id mid' high [] (left ++ more) e → IsDrawn id low high [] (made ++ more) (and_also d e)
IsDrawn-and_also id low mid mid' high left made more d e p q r g h = record {
  fresh = IsFresh-permutation id low high (drawing_ids d ++ drawing_ids e) (drawing_ids (and_also d e)) (drawing_ids-and_also d e) (IsFresh-append id low mid mid' high (drawing_ids d) (drawing_ids e) p q r g.fresh h.fresh);
  bare = AllByRecursion-append IsBare d.wires e.wires g.bare h.bare;
  drives =
      subst (λ u. IsPermutation (drawn_bits (and_also d e)) ((made ++ more) ++ u)) (sym (own_bits-and_also d e))
      (IsPermutation-trans (drawn_bits (and_also d e)) (drawn_bits d ++ drawn_bits e) ((made ++ more) ++ (own_bits d ++ own_bits e)) (drawn_bits-and_also d e)
      (joined left made more (drawn_bits d) (drawn_bits e) (own_bits d) (own_bits e) g.drives h.drives));
}

-- the second makes just what the first leaves
pub IsDrawn-and_then : (id : ℕ → List ℕ) (low mid mid' high : ℕ) (left made : List Source) (d e : Drawing) → low ≤ mid' → mid ≤ mid' → mid ≤ high
    → IsDrawn id low mid left made d → IsDrawn id mid' high [] left e → IsDrawn id low high [] made (and_also d e)
IsDrawn-and_then id low mid mid' high left made d e p q r g h =
    subst (λ u. IsDrawn id low high [] u (and_also d e)) (append-nil made)
    (IsDrawn-and_also id low mid mid' high left made [] d e p q r g (subst (λ u. IsDrawn id mid' high [] u e) (sym (append-nil left)) h))

-- the second makes what is made
pub IsDrawn-before : (id : ℕ → List ℕ) (low mid mid' high : ℕ) (made : List Source) (d e : Drawing) → low ≤ mid' → mid ≤ mid' → mid ≤ high
    → IsDrawn id low mid [] [] d → IsDrawn id mid' high [] made e → IsDrawn id low high [] made (and_also d e)
IsDrawn-before id low mid mid' high made d e p q r g h = IsDrawn-and_also id low mid mid' high [] [] made d e p q r g h

-- ---- the simplest drawings

pub IsDrawn-nothing : (id : ℕ → List ℕ) (low high : ℕ) → IsDrawn id low high [] [] nothing
IsDrawn-nothing id low high = record { fresh = fresh_none id low high; bare = tt; drives = IsPermutation-refl [] }

pub IsDrawn-wider : (id : ℕ → List ℕ) (low high high' : ℕ) (left made : List Source) (d : Drawing) → high ≤ high' → IsDrawn id low high left made d → IsDrawn id low high' left made d
IsDrawn-wider id low high high' left made d le h = record { fresh = IsFresh-wider id low high high' (drawing_ids d) le h.fresh; bare = h.bare; drives = h.drives }

pub IsDrawn-linked : (id : ℕ → List ℕ) (low high : ℕ) (y : Value) (spec : List SigPart) → IsDrawn id low high [] (value_bits y) (linked y spec)
IsDrawn-linked id low high y spec = record {
  fresh = fresh_none id low high;
  bare = tt;
  drives = IsPermutation-same (spec_bits (whole y) ++ []) (value_bits y ++ []) (ap (λ r. r ++ []) (spec_bits-wire_part y.id 0 y.form.width));
}

-- ---- what each form of cell drives

pub output_bits-unary : (k : CellKind) (name : List ℕ) (a : Operand) (width : ℕ) (id : List ℕ) (v : ℕ) → output_of k ≡ codes "\\Y" → output_bits (unary_cell k name a width (wire_part id 0 v)) ≡ block id v
output_bits-unary k name a width id v e = ap (end_bits (unary_cell k name a width (wire_part id 0 v))) e ∙ spec_bits-wire_part id 0 v

pub output_bits-binary : (k : CellKind) (name : List ℕ) (a b : Operand) (width : ℕ) (id : List ℕ) (v : ℕ) → output_of k ≡ codes "\\Y" → output_bits (binary_cell k name a b width (wire_part id 0 v)) ≡ block id v
output_bits-binary k name a b width id v e = ap (end_bits (binary_cell k name a b width (wire_part id 0 v))) e ∙ spec_bits-wire_part id 0 v

pub output_bits-mux : (name : List ℕ) (width : ℕ) (a b s : List SigPart) (id : List ℕ) (v : ℕ) → output_bits (mux_cell name width a b s (wire_part id 0 v)) ≡ block id v
output_bits-mux name width a b s id v = spec_bits-wire_part id 0 v

pub IsBare-inner_wire : (id : List ℕ) (width : ℕ) → 1 ≤ width → IsBare (inner_wire id width)
IsBare-inner_wire id width h = record { inner = refl; init = refl; some = h }
