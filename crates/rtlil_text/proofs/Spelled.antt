-- What is written of a module is in the grammar.
use Rattle.std.proofs.Common.{◌≡◌, ◌∙◌, ℕ, ◌+◌, ◌-◌, ◌≤◌, ◌==◌, ◌&&◌, Bool, true, false, List, [], ◌∷◌, ◌++◌, refl, sym, ap, arith, All, append_assoc, codes, if◌then◌else◌}
use Rattle.std.specs.Prelude.{Option, Some, None}
use Rattle.std.specs.List.{flat_map}
use Rattle.rtlil_text.specs.Numerals.{numeral}
use Rattle.std.proofs.lemmas.Bool.{eqb-true, false≢true}
use Rattle.std.proofs.lemmas.List.Elements.{All-head, All-tail}
use Rattle.rtlil_text.specs.declared.sig.SigPart.{SigPart}
use Rattle.rtlil_text.specs.declared.sig.SigPart.TheVariants as parts
use Rattle.rtlil_text.specs.declared.cell.RtlEnd.{RtlEnd}
use Rattle.rtlil_text.specs.declared.cell.RtlCell.{RtlCell}
use Rattle.rtlil_text.specs.declared.module.RtlWire.{RtlWire}
use Rattle.rtlil_text.specs.declared.module.RtlLink.{RtlLink}
use Rattle.rtlil_text.specs.declared.module.RtlModule.{RtlModule}
use Rattle.rtlil_text.specs.Lines.{◌▸◌, memory_text, wire_text, head_text, module_end}
use Rattle.rtlil_text.specs.Grammar.{IsWhole, IsSpec, AreSpecs, Each, IsEnd, IsLink, IsCell}
use Rattle.rtlil_text.specs.Rules.{IsModule, PartFits, SpecFits, CellFits, LinkFits}
use Rattle.rtlil_text.specs.Reads.{Reads}
use Rattle.rtlil_text.specs.Written.{AreWidths, is_whole, part_text, spec_text, end_text, link_text, cell_text, module_text}

and-split : (a b : Bool) → (a && b) ≡ true → (a ≡ true) × (b ≡ true)
and-split true b e = (refl, e)
and-split false b e = absurd (false≢true e)

-- each text stands for its element
each : {A : Type 0} (Is : List ℕ → A → Type 0) (P : A → Type 0) (f : A → List ℕ) → ((x : A) → P x → Is (f x) x) → (xs : List A) → All P xs → Each Is (flat_map f xs) xs
each Is P f stands [] h = refl
each Is P f stands (x ∷ xs) h = (f x, flat_map f xs, stands x (All-head P x xs h), each Is P f stands xs (All-tail P x xs h), refl)

six : (a b c d e f : List ℕ) → (a ++ (b ++ c)) ++ (d ++ (e ++ f)) ≡ a ++ (b ++ (c ++ (d ++ (e ++ f))))
six a b c d e f = append_assoc a (b ++ c) (d ++ (e ++ f)) ∙ ap (λ x. a ++ x) (append_assoc b c (d ++ (e ++ f)))

module _ (wires : List RtlWire) (widths : List ℕ → Option ℕ) (are : AreWidths wires widths) where
  covered : (id : List ℕ) (low width : ℕ) (o : Option ℕ) → widths id ≡ o → is_whole o low width ≡ true → (low ≡ 0) × IsWhole wires id width
  covered id low width (Some all) o e =
      let h = and-split (low == 0) (width == all) e in
      (eqb-true low 0 h.0, are id width (o ∙ ap Some (sym (eqb-true width all h.1))))
  covered id low width None o e = absurd (false≢true e)

  slice : (id : List ℕ) (low width : ℕ) → 1 ≤ width → (b d : Bool) → is_whole (widths id) low width ≡ b → (width == 1) ≡ d
      → IsSpec wires (if b then id else if d then id ▸ codes " [" ▸ numeral low ▸ codes "]" else id ▸ codes " [" ▸ numeral (low + width - 1) ▸ codes ":" ▸ numeral low ▸ codes "]") (parts.Wire id low width ∷ [])
  slice id low width h true d e f = let w = covered id low width (widths id) refl e in IsSpec.whole id _ width w.1 (ap (λ l. parts.Wire id l width ∷ []) w.0)
  slice id low width h false true e f = IsSpec.one _ _ id low refl (ap (λ w. parts.Wire id low w ∷ []) (eqb-true width 1 f))
  slice id low width h false false e f =
      let size : width ≡ low + width - 1 - low + 1 = omega arith in
      IsSpec.range _ _ id (low + width - 1) low (omega arith) refl (ap (λ w. parts.Wire id low w ∷ []) size)

  part : (p : SigPart) → PartFits wires p → IsSpec wires (part_text widths p) (p ∷ [])
  part (parts.Const bits) h = IsSpec.const _ _ bits refl refl
  part (parts.Wire id low width) h = slice id low width h.some (is_whole (widths id) low width) (width == 1) refl refl

  some_parts : (ps : List SigPart) → All (PartFits wires) ps → AreSpecs wires (flat_map (λ p. codes " " ▸ part_text widths p) ps) ps
  some_parts [] h = AreSpecs.none _ _ refl refl
  some_parts (p ∷ ps) h =
      AreSpecs.more _ (part_text widths p) (flat_map (λ q. codes " " ▸ part_text widths q) ps) _ (p ∷ []) ps (part p (All-head (PartFits wires) p ps h)) (some_parts ps (All-tail (PartFits wires) p ps h)) refl refl

  pub IsSpec-spec_text : (ps : List SigPart) → SpecFits wires ps → IsSpec wires (spec_text widths ps) ps
  IsSpec-spec_text [] h = IsSpec.braces _ _ [] (some_parts [] h) refl
  IsSpec-spec_text (p ∷ []) h = part p (All-head (PartFits wires) p [] h)
  IsSpec-spec_text (p ∷ q ∷ ps) h = IsSpec.braces _ _ (p ∷ q ∷ ps) (some_parts (p ∷ q ∷ ps) h) refl

  an_end : (e : RtlEnd) → SpecFits wires e.spec → IsEnd wires (end_text widths e) e
  an_end e h = record { spec = spec_text widths e.spec; spells = IsSpec-spec_text e.spec h; whole = refl }

  a_link : (m : RtlModule) → m.wires ≡ wires → (l : RtlLink) → LinkFits m l → IsLink wires (link_text widths l) l
  a_link m e l h = record {
    left = spec_text widths l.left;
    right = spec_text widths l.right;
    spells_left = IsSpec-spec_text l.left (rw e at h.left);
    spells_right = IsSpec-spec_text l.right (rw e at h.right);
    whole = refl;
  }

  a_cell : (m : RtlModule) → m.wires ≡ wires → (c : RtlCell) → CellFits m c → IsCell wires (cell_text widths c) c
  a_cell m e c h = record {
    ends = flat_map (end_text widths) c.ends;
    spells = each (IsEnd wires) (λ (x : RtlEnd). SpecFits wires x.spec) (end_text widths) an_end c.ends (rw e at h.specs);
    whole = refl;
  }

-- the text that is written stands for the module
pub Reads-module_text : (m : RtlModule) (widths : List ℕ → Option ℕ) → AreWidths m.wires widths → IsModule m → Reads (module_text widths m) m
Reads-module_text m widths are rules = record {
  grammar = record {
    cells = flat_map (cell_text widths) m.cells;
    links = flat_map (link_text widths) m.links;
    spells_cells = each (IsCell m.wires) (CellFits m) (cell_text widths) (a_cell m.wires widths are m refl) m.cells rules.cells;
    spells_links = each (IsLink m.wires) (LinkFits m) (link_text widths) (a_link m.wires widths are m refl) m.links rules.links;
    whole = six head_text (flat_map memory_text m.memories) (flat_map wire_text m.wires) (flat_map (cell_text widths) m.cells) (flat_map (link_text widths) m.links) module_end;
  };
  rules = rules;
}

-- a text that needs no widths
pub AreWidths-none : (wires : List RtlWire) → AreWidths wires (λ id. None)
AreWidths-none wires id width e = cc
