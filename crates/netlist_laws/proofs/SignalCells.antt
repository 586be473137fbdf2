-- What drives each signal keeps the rules of the design's module.
use Rattle.std.specs.Prelude.{◌≡◌, ◌≤◌, ◌<◌, ◌+◌, ◌-◌, ◌*◌, ◌==◌, ◌&&◌, nat_lt, ℕ, zero, suc, Bool, true, false, cond, if◌then◌else◌, List, [], ◌∷◌, map, length, All, Contains, Option, Some, None, option_map, option_and_then, unwrap_or, slice_get}
use Rattle.std.specs.List.{AllByRecursion, range_with_len, find}
use Rattle.std.proofs.Common.{refl, sym, ap, ◌∙◌, arith, subst, inl, inr}
use Rattle.std.proofs.lemmas.Bool.{cond_both, ltb-true}
use Rattle.std.proofs.lemmas.List.{length-map}
use Rattle.std.proofs.lemmas.List.Elements.{All-nil, All-cons, All-from_recursion}
use Rattle.std.proofs.lemmas.List.FromFn.{length-range_with_len}
use Rattle.shape_rules.specs.Forms.{Form, unsigned}
use Rattle.design_ir.specs.declared.ids.SigId.{SigId}
use Rattle.design_ir.specs.declared.ids.DomainId.{DomainId}
use Rattle.design_ir.specs.declared.signal.Sig.{Sig}
use Rattle.design_ir.specs.declared.domain.Domain.{Domain}
use Rattle.design_ir.specs.declared.process.DesignProcess.{DesignProcess}
use Rattle.design_ir.specs.Trees.{assign, choose, Block, done, next}
use Rattle.design_ir.specs.Targets.{Bit}
use Rattle.design_ir.specs.Guards.{block_exprs, choices_exprs}
use Rattle.design_ir.specs.Values.{form, signal_form}
use Rattle.design_ir.specs.PoolRules.{IsPool}
use Rattle.design_ir.specs.Circuits.{Circuit, is_input}
use Rattle.design_ir.specs.Designs.{IsUsable, IsDomain, IsProcess, IsSignalOf, IsReset, IsClockDomain, IsDesign}
use Rattle.design_ir.proofs.NumbersFit.{element}
use Rattle.rtlil_text.specs.declared.sig.SigPart.{SigPart}
use Rattle.rtlil_text.specs.declared.cell.RtlParameter.{RtlParameter}
use Rattle.rtlil_text.specs.declared.cell.RtlEnd.{RtlEnd}
use Rattle.rtlil_text.specs.declared.module.RtlModule.{RtlModule}
use Rattle.rtlil_text.specs.Sources.{Source, Constant, Net}
use Rattle.rtlil_text.specs.Rules.{WireFits, ValueFits, SpecFits, CellFits, LinkFits}
use Rattle.rtlil_text.proofs.Among.{Among, AllByRecursion-among, Among-slice_get}
use Rattle.memory_cells.specs.declared.clock.Clock.{Clock}
use Rattle.memory_cells.proofs.Clocks.{polarity-flag}
use Rattle.netlist_laws.specs.Ids.{step_id}
use Rattle.netlist_laws.specs.Cells.{mux_cell}
use Rattle.netlist_laws.specs.Operands.{wire_part}
use Rattle.netlist_laws.specs.Operators.{Value, Drawing, nothing, inner_wire, whole}
use Rattle.netlist_laws.specs.Latest.{Latest, source_at, with_source, given, latest_of}
use Rattle.netlist_laws.specs.Latest as latest_spec
use Rattle.netlist_laws.specs.Spelled.{spec_of}
use Rattle.netlist_laws.specs.Fits.{HasWire, HasValue, DrawingFits}
use Rattle.netlist_laws.specs.Module.{signal_value, expr_value, wire_id, Driving, ByEvents, ByComb, ByClock, ByRead, ByNothing, drives, driving_at, is_read, undriven, driving_by, driving, init_bits, at_first, at_last, bits_at_last, domain_of, reset_of, clock_of, register_cell, register_drawing, driving_drawing, signal_drawing, module_of, clock_at, no_clock, Heeding, NoReset, AtEdges, AtOnce, heeding, heeding_of, is_async, clear_cell}
use Rattle.netlist_laws.proofs.Drawn.{form_sign}
use Rattle.netlist_laws.proofs.NeededBits.{all_right}
use Rattle.netlist_laws.proofs.Reading.{HasSign}
use Rattle.netlist_laws.proofs.SpelledLaws.{SourceFits, spec_bits-spec_of, spec_of_fits}
use Rattle.netlist_laws.proofs.FittingCells.{SpecIs, whole_is, mux_fits, linked_fits, inner_fits}
use Rattle.netlist_laws.proofs.FittingDrawings.{nothing_fits, one_fits}
use Rattle.netlist_laws.proofs.FittingParts.{first_held, inner_is}
use Rattle.netlist_laws.proofs.ModuleWires.{length-init_bits}
use Rattle.netlist_laws.proofs.ModuleHeld.{signal_held}
use Rattle.netlist_laws.proofs.ExpressionCells.{has_wires}

-- ---- specs of sources

net_fits : (m : RtlModule) (id : List ℕ) (i width : ℕ) → i < width → (1 ≤ width → HasWire m.wires id width) → SourceFits m.wires (Net id i)
net_fits m id i width p h = let has = h (omega arith) in record { wire = has.wire; among = has.among; named = has.named; some = omega arith; within = omega (arith, has.wide) }

-- so many sources from number k on
all_sources : (m : RtlModule) (f : ℕ → Source) (k n : ℕ) → ((i : ℕ) → i < k + n → SourceFits m.wires (f i)) → AllByRecursion (SourceFits m.wires) (map f (range_with_len k n))
all_sources m f k zero h = tt
all_sources m f k (suc n) h = (h k (omega arith), all_sources m f (k + 1) n (λ i lt. h i (omega arith)))

sources_are : (m : RtlModule) (f : ℕ → Source) (n : ℕ) → ((i : ℕ) → i < n → SourceFits m.wires (f i)) → SpecIs m (spec_of (map f (range_with_len 0 n))) n
sources_are m f n h = record {
  wide = ap length (spec_bits-spec_of (map f (range_with_len 0 n))) ∙ length-map (range_with_len 0 n) f ∙ length-range_with_len 0 n;
  parts = spec_of_fits m.wires (map f (range_with_len 0 n)) (all_sources m f 0 n (λ i lt. h i (omega arith)));
}

all_constants : (m : RtlModule) (bits : List Bool) → AllByRecursion (SourceFits m.wires) (map Constant bits)
all_constants m [] = tt
all_constants m (b ∷ bits) = (tt, all_constants m bits)

constants_are : (m : RtlModule) (bits : List Bool) (width : ℕ) → length bits ≡ width → SpecIs m (spec_of (map Constant bits)) width
constants_are m bits width e = record { wide = ap length (spec_bits-spec_of (map Constant bits)) ∙ length-map bits Constant ∙ e; parts = spec_of_fits m.wires (map Constant bits) (all_constants m bits) }

source_fits : (m : RtlModule) (v : Value) (k : ℕ) → HasSign v.form → HasValue m.wires v → SourceFits m.wires (source_at v k)
source_fits m v k sign h =
    cond_both (nat_lt k v.form.width) (Net v.id k) (if v.form.signed then Net v.id (v.form.width - 1) else Constant false) (SourceFits m.wires)
    (λ t. net_fits m v.id k v.form.width (ltb-true k v.form.width t) h)
    (λ t. cond_both v.form.signed (Net v.id (v.form.width - 1)) (Constant false) (SourceFits m.wires) (λ s. let some : 1 ≤ v.form.width = sign s in net_fits m v.id (v.form.width - 1) v.form.width (omega arith) h) (λ s. tt))

-- ---- registers

pub register_fits : (m : RtlModule) (id : List ℕ) (width : ℕ) (clock : Clock) (after now : List SigPart) → SpecIs m clock.bit 1 → SpecIs m after width → SpecIs m now width → CellFits m (register_cell id width clock after now)
register_fits m id width clock after now p q r = record {
  parameters = refl;
  values = All-from_recursion (λ (p : RtlParameter). ValueFits p.value) (register_cell id width clock after now).parameters (tt, (tt, tt));
  ends = refl;
  specs = All-from_recursion (λ (e : RtlEnd). SpecFits m.wires e.spec) (register_cell id width clock after now).ends (p.parts, (q.parts, (r.parts, tt)));
  rules = record { d = sym q.wide; q = sym r.wide; clock = p.wide; edge = polarity-flag clock };
}

clear_fits : (m : RtlModule) (id : List ℕ) (width : ℕ) (clock : Clock) (reset : List SigPart) (first : List Bool) (after now : List SigPart) → SpecIs m clock.bit 1 → SpecIs m reset 1 → length first ≡ width → SpecIs m after width → SpecIs m now width
    → CellFits m (clear_cell id width clock reset first after now)
clear_fits m id width clock reset first after now p s long q r = record {
  parameters = refl;
  values = All-from_recursion (λ (p : RtlParameter). ValueFits p.value) (clear_cell id width clock reset first after now).parameters (tt, (tt, (tt, (tt, tt))));
  ends = refl;
  specs = All-from_recursion (λ (e : RtlEnd). SpecFits m.wires e.spec) (clear_cell id width clock reset first after now).ends (s.parts, (p.parts, (q.parts, (r.parts, tt))));
  rules = record { register = record { d = sym q.wide; q = sym r.wide; clock = p.wide; edge = polarity-flag clock }; reset = s.wide; level = omega arith; value = long };
}

found_process : (p : DesignProcess → Bool) (xs : List DesignProcess) (x : DesignProcess) → find p xs ≡ Some x → Among xs x
found_process p [] x e = cc
found_process p (y ∷ ys) x e = by (found_process p ys x) (p y) e
  where
    by : (find p ys ≡ Some x → Among ys x) → (b : Bool) → cond b (Some y) (find p ys) ≡ Some x → Among (y ∷ ys) x
    by later true e = let f : y ≡ x = cc in inl f
    by later false e = inr (later e)

module _ (c : Circuit) (pool : IsPool c.pool) (h : IsDesign c) where
  abbrev m : RtlModule
  m = module_of c

  -- ---- where bits come from

  -- each bit of each signal comes from a bit of the module
  LatestFits : Latest → Type 0
  LatestFits latest = (s i : ℕ) → s < length c.pool.signals → i < (signal_form c.pool.signals s).width → SourceFits (module_of c).wires (latest s i)

  first_fits : (clocked : Bool) → LatestFits (at_first c clocked)
  unfolding LatestFits
  first_fits true s i p q = net_fits (module_of c) (wire_id c s) i (signal_form c.pool.signals s).width q (signal_held c s p)
  first_fits false s i p q = tt

  given_fits : (v : Value) (bs : List Bit) (k : ℕ) (latest : Latest) → HasSign v.form → HasValue (module_of c).wires v → LatestFits latest → LatestFits (given v bs k latest)
  unfolding LatestFits
  given_fits v [] k latest sign held fits = fits
  given_fits v (b ∷ bs) k latest sign held fits =
      given_fits v bs (k + 1) (with_source b (source_at v k) latest) sign held
      (λ s i p q. cond_both ((s == b.sig) && (i == b.index)) (source_at v k) (latest s i) (SourceFits (module_of c).wires) (λ _. source_fits (module_of c) v k sign held) (λ _. fits s i p q))

  block_fits : (body : Block) (latest : Latest) → AllByRecursion (IsUsable c) (block_exprs body) → LatestFits latest → LatestFits (latest_of c.pool (expr_value c) body latest)
  block_fits done latest usable fits = fits
  block_fits (next (assign target source place) rest) latest usable fits =
      let known = has_wires c pool source usable.1.0.there in
      block_fits rest (given (expr_value c source.0) (latest_spec.places c.pool target.0) 0 latest) usable.1.1
      (given_fits (expr_value c source.0) (latest_spec.places c.pool target.0) 0 latest (form_sign (form c.pool source.0) known.shape) known.wire fits)
  block_fits (next (choose arms) rest) latest usable fits = block_fits rest latest (all_right (IsUsable c) (choices_exprs arms) (block_exprs rest) usable) fits

  last_is : (clocked : Bool) (p : DesignProcess) (s : ℕ) → IsProcess c p → s < length c.pool.signals → SpecIs (module_of c) (bits_at_last c clocked p s) (signal_form c.pool.signals s).width
  unfolding LatestFits
  last_is clocked p s q there =
      let fits = block_fits p.body (at_first c clocked) q.expressions (first_fits clocked) in
      sources_are (module_of c) (at_last c clocked p s) (signal_form c.pool.signals s).width (λ i lt. fits s i there lt)

  -- ---- clocks and resets

  bit_is : (s : SigId) → IsSignalOf c (unsigned 1) s → SpecIs (module_of c) (whole (signal_value c s.0)) 1
  bit_is s g = subst (λ (f : Form). SpecIs (module_of c) (whole (signal_value c s.0)) f.width) g.shape (whole_is (module_of c) (signal_value c s.0) (signal_held c s.0 g.there))

  pub clock_is : (d : DomainId) → d.0 < length c.domains → SpecIs (module_of c) (clock_of c d).bit 1
  clock_is d p =
      let x = element c.domains d.0 p in
      let domain : IsClockDomain c x.0 = AllByRecursion-among (IsClockDomain c) c.domains x.0 h.domains (Among-slice_get c.domains d.0 x.0 x.1) in
      subst (λ (o : Option Domain). SpecIs (module_of c) (unwrap_or (option_map (clock_at c) o) no_clock).bit 1) (sym x.1) (bit_is x.0.clk domain.clock)

  -- a reset, where there is one, is a signal of one bit
  abbrev ResetIs : Option ℕ → Type 0
  ResetIs None = Unit {0}
  ResetIs (Some r) = SpecIs (module_of c) (whole (signal_value c r)) 1

  reset_at : (o : Option SigId) → IsReset c o → ResetIs (option_map (λ (r : SigId). r.0) o)
  reset_at None g = tt
  reset_at (Some r) g = bit_is r g

  reset_by : (o : Option Domain) → ((x : Domain) → o ≡ Some x → IsClockDomain c x) → ResetIs (option_and_then (λ (x : Domain). option_map (λ (r : SigId). r.0) x.rst) o)
  reset_by None each = tt
  reset_by (Some x) each = reset_at x.rst (each x refl).reset

  reset_is : (s : ℕ) (d : DomainId) → ResetIs (reset_of c s d)
  reset_is s d =
      cond_both (unwrap_or (option_map (λ (x : Sig). x.reset_less) (slice_get c.pool.signals s)) true) None (option_and_then (λ (x : Domain). option_map (λ (r : SigId). r.0) x.rst) (domain_of c d)) ResetIs (λ _. tt)
      (λ _. reset_by (domain_of c d) (λ x e. AllByRecursion-among (IsClockDomain c) c.domains x h.domains (Among-slice_get c.domains d.0 x e)))

  abbrev HeedingIs : Heeding → Type 0
  HeedingIs NoReset = Unit {0}
  HeedingIs (AtEdges r) = SpecIs (module_of c) (whole (signal_value c r)) 1
  HeedingIs (AtOnce r) = SpecIs (module_of c) (whole (signal_value c r)) 1

  heeding_by : (async : Bool) (o : Option ℕ) → ResetIs o → HeedingIs (heeding_of async o)
  heeding_by async None g = tt
  heeding_by true (Some r) g = g
  heeding_by false (Some r) g = g

  heeding_is : (s : ℕ) (d : DomainId) → HeedingIs (heeding c s d)
  heeding_is s d = heeding_by (is_async c d) (reset_of c s d) (reset_is s d)

  -- ---- what drives a signal

  module _ (s : ℕ) (there : s < length c.pool.signals) where
    now_is : SpecIs (module_of c) (whole (signal_value c s)) (signal_form c.pool.signals s).width
    now_is = whole_is (module_of c) (signal_value c s) (signal_held c s there)

    register_drawing-fits : (p : DesignProcess) (d : DomainId) (x : Heeding) → 1 ≤ (signal_form c.pool.signals s).width → IsProcess c p → d.0 < length c.domains → HeedingIs x
        → All (Contains (module_of c).wires) (register_drawing c s p d x).wires → DrawingFits (module_of c) (register_drawing c s p d x)
    register_drawing-fits p d NoReset some q domain reset held =
        let w : ℕ = (signal_form c.pool.signals s).width in
        one_fits (module_of c) (register_cell (step_id (3 * s)) w (clock_of c d) (bits_at_last c true p s) (whole (signal_value c s)))
        (register_fits (module_of c) (step_id (3 * s)) w (clock_of c d) (bits_at_last c true p s) (whole (signal_value c s)) (clock_is d domain) (last_is true p s q there) now_is)
    register_drawing-fits p d (AtOnce r) some q domain reset held =
        let w : ℕ = (signal_form c.pool.signals s).width in
        one_fits (module_of c) (clear_cell (step_id (3 * s)) w (clock_of c d) (whole (signal_value c r)) (init_bits c s) (bits_at_last c true p s) (whole (signal_value c s)))
        (clear_fits (module_of c) (step_id (3 * s)) w (clock_of c d) (whole (signal_value c r)) (init_bits c s) (bits_at_last c true p s) (whole (signal_value c s)) (clock_is d domain) reset (length-init_bits c s) (last_is true p s q there) now_is)
    register_drawing-fits p d (AtEdges r) some q domain reset held =
        let n : ℕ = 3 * s in
        let w : ℕ = (signal_form c.pool.signals s).width in
        let begin : List SigPart = spec_of (map Constant (init_bits c s)) in
        let id : List ℕ = step_id (n + 1) in
        let next_is = inner_is (module_of c) id w (first_held (module_of c) id w [] held) in
        let choice = mux_cell (step_id (n + 2)) w (bits_at_last c true p s) begin (whole (signal_value c r)) (wire_part id 0 w) in
        let register = register_cell (step_id n) w (clock_of c d) (wire_part id 0 w) (whole (signal_value c s)) in
        record {
          wires = All-cons WireFits (inner_wire id w) [] (inner_fits id w some) (All-nil WireFits);
          cells =
              All-cons (CellFits (module_of c)) choice (register ∷ [])
              (mux_fits (module_of c) (step_id (n + 2)) w (bits_at_last c true p s) begin (whole (signal_value c r)) (wire_part id 0 w) (last_is true p s q there) (constants_are (module_of c) (init_bits c s) w (length-init_bits c s)) reset next_is)
              (All-cons (CellFits (module_of c)) register [] (register_fits (module_of c) (step_id n) w (clock_of c d) (wire_part id 0 w) (whole (signal_value c s)) (clock_is d domain) next_is now_is) (All-nil (CellFits (module_of c))));
          links = All-nil (LinkFits (module_of c));
        }

    -- the process is one of the design's, and its domain too
    abbrev IsDriving : Driving → Type 0
    IsDriving ByEvents = Unit {0}
    IsDriving (ByComb p) = IsProcess c p
    IsDriving (ByClock p d) = IsProcess c p × (d.0 < length c.domains)
    IsDriving ByRead = Unit {0}
    IsDriving ByNothing = Unit {0}

    is_driving-at : (p : DesignProcess) (d : Option DomainId) → IsProcess c p → IsDomain c d → IsDriving (driving_at p d)
    is_driving-at p None q g = q
    is_driving-at p (Some d) q g = (q, g)

    is_driving-by : (p : Option DesignProcess) → ((x : DesignProcess) → p ≡ Some x → IsProcess c x) → IsDriving (driving_by (undriven c s) p)
    is_driving-by None each = cond_both (is_read c s) ByRead ByNothing IsDriving (λ _. tt) (λ _. tt)
    is_driving-by (Some p) each = let q = each p refl in is_driving-at p p.domain q q.domain

    is_driving : IsDriving (driving c s)
    is_driving =
        let p = find (drives c s) c.processes in
        cond_both (is_input c s) ByEvents (driving_by (undriven c s) p) IsDriving (λ _. tt)
        (λ _. is_driving-by p (λ x e. AllByRecursion-among (IsProcess c) c.processes x h.processes (found_process (drives c s) c.processes x e)))

    driving_fits : (x : Driving) → IsDriving x → 1 ≤ (signal_form c.pool.signals s).width → All (Contains (module_of c).wires) (driving_drawing c s x).wires → DrawingFits (module_of c) (driving_drawing c s x)
    driving_fits ByEvents g some held = nothing_fits (module_of c)
    driving_fits (ByComb p) g some held = linked_fits (module_of c) (signal_value c s) (bits_at_last c false p s) (signal_held c s there) (last_is false p s g there)
    driving_fits (ByClock p d) g some held = register_drawing-fits p d (heeding c s d) some g.0 g.1 (heeding_is s d) held
    driving_fits ByRead g some held = nothing_fits (module_of c)
    driving_fits ByNothing g some held =
        linked_fits (module_of c) (signal_value c s) (spec_of (map Constant (init_bits c s))) (signal_held c s there) (constants_are (module_of c) (init_bits c s) (signal_form c.pool.signals s).width (length-init_bits c s))

    pub signal_fits : All (Contains (module_of c).wires) (signal_drawing c s).wires → DrawingFits (module_of c) (signal_drawing c s)
    signal_fits =
        let w : ℕ = (signal_form c.pool.signals s).width in
        cond_both (nat_lt 0 w) (driving_drawing c s (driving c s)) nothing (λ (d : Drawing). All (Contains (module_of c).wires) d.wires → DrawingFits (module_of c) d)
        (λ t held. driving_fits (driving c s) is_driving (omega (arith, ltb-true 0 w t)) held) (λ t held. nothing_fits (module_of c))
