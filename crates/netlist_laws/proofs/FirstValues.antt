-- The wires of columns begin as their signals do, and a module keeps that where its design is flat or its cells are cut.
use Rattle.std.specs.Prelude.{◌≡◌, ℕ, suc, ◌&&◌, Bool, true, false, cond, if◌then◌else◌, List, [], ◌∷◌, ◌++◌, map, take, length, Option, Some, None, is_some, IsPermutation}
use Rattle.std.specs.List.{find}
use Rattle.std.proofs.Common.{refl, sym, ap, ◌∙◌, subst}
use Rattle.std.proofs.lemmas.Bool.{cond_both}
use Rattle.design_ir.specs.declared.ids.DomainId.{DomainId}
use Rattle.design_ir.specs.declared.port.Column.{Column}
use Rattle.design_ir.specs.declared.expr.Expr.{Expr}
use Rattle.design_ir.specs.declared.process.DesignProcess.{DesignProcess}
use Rattle.design_ir.specs.PoolRules.{IsPool}
use Rattle.design_ir.specs.Guards.{driven}
use Rattle.design_ir.specs.Circuits.{Circuit, is_among, is_input}
use Rattle.design_ir.specs.Designs.{IsDesign}
use Rattle.rtlil_text.specs.declared.module.RtlWire.{RtlWire}
use Rattle.rtlil_text.specs.declared.module.RtlModule.{RtlModule}
use Rattle.rtlil_text.specs.Sources.{Source}
use Rattle.rtlil_text.specs.Inits.{register_bits, first_bits}
use Rattle.flat_design.specs.Flat.{IsFlat, AreFlatProcesses}
use Rattle.flat_design.proofs.FlatPairs.{with_exprs, with_parts, design_is, flat_is, any_flat}
use Rattle.netlist_laws.specs.Module.{Driving, ByEvents, ByRead, ByNothing, is_read, is_clocked, drives, driving_at, undriven, driving_by, driving, init_bits, first_value, column_wires, module_of}
use Rattle.netlist_laws.specs.FirstValues.{is_stated, begins_with, HasFirstValues}
use Rattle.netlist_laws.proofs.OneDriver.{find_none, find_only, none_clock, only_clock}
use Rattle.netlist_laws.proofs.Driven.{driven_by, distinct_processes, input_none, driving-found}
use Rattle.netlist_laws.proofs.ModuleWires.{other_wires, module_wires}
use Rattle.netlist_laws.proofs.FirstBits.{inits_are}

-- ---- what a clock drives is what statements of a domain drive

clocked_at : (p : DesignProcess) (d : Option DomainId) → is_clocked (driving_at p d) ≡ is_some d
clocked_at p None = refl
clocked_at p (Some d) = refl

module _ (c : Circuit) (design : IsDesign c) (s : ℕ) where
  by_found : is_input c s ≡ false → (o : Option DesignProcess) → find (drives c s) c.processes ≡ o → is_clocked (driving c s) ≡ is_stated c s
  by_found out None e = ap is_clocked (driving-found c s out None e) ∙ cond_both (is_read c s) ByRead ByNothing (λ (d : Driving). is_clocked d ≡ false) (λ _. refl) (λ _. refl) ∙ sym (none_clock (driven_by c) s c.processes (find_none (driven_by c) s c.processes e))
  by_found out (Some p) e =
      ap is_clocked (driving-found c s out (Some p) e) ∙ clocked_at p p.domain
      ∙ sym (only_clock (driven_by c) s c.processes p (find_only (driven_by c) s c.processes p (distinct_processes c design) e))

  clocked_is : is_clocked (driving c s) ≡ is_stated c s
  clocked_is = by (is_input c s) refl
    where
      by : (b : Bool) → is_input c s ≡ b → is_clocked (driving c s) ≡ is_stated c s
      by true e = ap (λ t. is_clocked (cond t ByEvents (driving_by (undriven c s) (find (drives c s) c.processes)))) e ∙ sym (none_clock (driven_by c) s c.processes (input_none c s design e))
      by false e = by_found e (find (drives c s) c.processes) refl

  first_is : first_value c s ≡ begins_with c s
  first_is = ap (λ (b : Bool). if b then Some (init_bits c s) else None) clocked_is

-- ---- the module of a design

columns_begin : (c : Circuit) → IsDesign c → (k : ℕ) (xs : List Column) (ys : List RtlWire)
    → map (λ (w : RtlWire). w.init) (take (length xs) (column_wires c k xs ++ ys)) ≡ map (λ (x : Column). begins_with c x.sig.0) xs
columns_begin c design k [] ys = refl
columns_begin c design k (x ∷ xs) ys = λ i. first_is c design x.sig.0 i ∷ columns_begin c design (suc k) xs ys i

pub module_begins : (c : Circuit) → IsPool c.pool → IsDesign c → HasFirstValues c (module_of c)
module_begins c pool design = record {
  columns = ap (λ (ws : List RtlWire). map (λ (w : RtlWire). w.init) (take (length c.columns) ws)) (module_wires c) ∙ columns_begin c design 0 c.columns (other_wires c);
  registers = inits_are c pool design;
}

-- ---- a flat design's, and one whose cells are cut

module _ (c : Circuit) (es : List Expr) (ps : List DesignProcess) (m : RtlModule) (are : AreFlatProcesses c.pool (with_exprs c.pool es) c.processes ps) where
  stated_same : (s : ℕ) → is_stated (with_parts c es ps) s ≡ is_stated c s
  stated_same s =
      any_flat c.pool (with_exprs c.pool es) (λ (p : DesignProcess). is_some p.domain && is_among (driven c.pool p.body) s) (λ (p : DesignProcess). is_some p.domain && is_among (driven (with_exprs c.pool es) p.body) s)
      (λ old new flat. ap (λ d. is_some d && is_among (driven (with_exprs c.pool es) new.body) s) flat.domain ∙ ap (λ b. is_some old.domain && b) (flat.body.drives s)) c.processes ps are

  begins_same : (xs : List Column) → map (λ (x : Column). begins_with (with_parts c es ps) x.sig.0) xs ≡ map (λ (x : Column). begins_with c x.sig.0) xs
  begins_same [] = refl
  begins_same (x ∷ xs) = λ i. (if stated_same x.sig.0 i then Some (init_bits c x.sig.0) else None) ∷ begins_same xs i

  begins_of : HasFirstValues (with_parts c es ps) m → HasFirstValues c m
  begins_of h = record { columns = h.columns ∙ begins_same c.columns; registers = h.registers }

pub HasFirstValues-flat : (c d : Circuit) (m : RtlModule) → IsFlat c d → HasFirstValues d m → HasFirstValues c m
HasFirstValues-flat c d m flat h = begins_of c d.pool.exprs d.processes m (flat_is c d flat) (subst (λ x. HasFirstValues x m) (design_is c d flat) h)

pub HasFirstValues-cut : (c : Circuit) (m other : RtlModule) → other.wires ≡ m.wires → register_bits other ≡ register_bits m → HasFirstValues c m → HasFirstValues c other
HasFirstValues-cut c m other wires registers h =
    let first : first_bits other ≡ first_bits m = ap (λ (ws : List RtlWire). first_bits (record m { wires = ws })) wires in
    record {
      columns = ap (λ (ws : List RtlWire). map (λ (w : RtlWire). w.init) (take (length c.columns) ws)) wires ∙ h.columns;
      registers = subst (λ (u : List Source). IsPermutation u (first_bits other)) (sym registers) (subst (IsPermutation (register_bits m)) (sym first) h.registers);
    }
