-- A spec of bits of wires and constants has those bits, and is within its wires where each of them is.
use Rattle.std.proofs.Common.{◌≡◌, ℕ, suc, ◌+◌, ◌==◌, ◌&&◌, List, [], ◌∷◌, ◌++◌, map, refl, sym, ◌∙◌, ap, arith}
use Rattle.std.specs.List.{range_with_len, AllByRecursion}
use Rattle.std.proofs.lemmas.Bool.{cond_both, and_parts, eqb-true}
use Rattle.std.proofs.lemmas.List.Elements.{All-from_recursion}
use Rattle.lists.specs.Texts.{text_eq}
use Rattle.lists.proofs.TextLaws.{text_eq_true}
use Rattle.rtlil_text.specs.declared.sig.SigPart.{SigPart}
use Rattle.rtlil_text.specs.declared.sig.SigPart.TheVariants as parts
use Rattle.rtlil_text.specs.declared.module.RtlWire.{RtlWire}
use Rattle.rtlil_text.specs.Sources.{Source, Constant, Net, part_bits, spec_bits}
use Rattle.rtlil_text.specs.Rules.{IsSlice, PartFits, SpecFits}
use Rattle.netlist_laws.specs.Spelled.{one_part, below, added_below, spec_of}

-- ---- the bits of a spec

-- a wire's bit stands below those that follow it
joined_bits : (id wire : List ℕ) (i low width : ℕ) → id ≡ wire → suc i ≡ low → map (λ j. Net wire j) (range_with_len i (suc width)) ≡ Net id i ∷ map (λ j. Net wire j) (range_with_len low width)
joined_bits id wire i low width e f =
    ap (λ w. Net w i ∷ map (λ j. Net wire j) (range_with_len (i + 1) width)) (sym e)
    ∙ ap (λ l. Net id i ∷ map (λ j. Net wire j) (range_with_len l width)) (let d : i + 1 ≡ low = omega arith in d)

spec_bits-below : (x : Source) (p : SigPart) → spec_bits (below x p) ≡ x ∷ part_bits p
spec_bits-below (Constant b) (parts.Const bits) = refl
spec_bits-below (Constant b) (parts.Wire id low width) = refl
spec_bits-below (Net id i) (parts.Const bits) = refl
spec_bits-below (Net id i) (parts.Wire wire low width) =
    cond_both (text_eq id wire && (suc i == low)) (parts.Wire wire i (suc width) ∷ []) (parts.Wire wire low width ∷ parts.Wire id i 1 ∷ [])
    (λ ps. spec_bits ps ≡ Net id i ∷ map (λ j. Net wire j) (range_with_len low width))
    (λ e. let h = and_parts (text_eq id wire) (suc i == low) e in joined_bits id wire i low width (text_eq_true id wire h.0) (eqb-true (suc i) low h.1))
    (λ e. refl)

spec_bits-added_below : (x : Source) (ps : List SigPart) → spec_bits (added_below x ps) ≡ x ∷ spec_bits ps
spec_bits-added_below (Constant b) [] = refl
spec_bits-added_below (Net id i) [] = refl
spec_bits-added_below x (p ∷ []) = spec_bits-below x p
spec_bits-added_below x (p ∷ q ∷ ps) = ap (λ s. s ++ part_bits p) (spec_bits-added_below x (q ∷ ps))

pub spec_bits-spec_of : (xs : List Source) → spec_bits (spec_of xs) ≡ xs
unfolding spec_of
spec_bits-spec_of [] = refl
spec_bits-spec_of (x ∷ xs) = spec_bits-added_below x (spec_of xs) ∙ ap (λ ys. x ∷ ys) (spec_bits-spec_of xs)

-- ---- within wires

-- a constant, or a bit of one of these wires
abbrev pub SourceFits : List RtlWire → Source → Type 0
SourceFits wires (Constant b) = Unit {0}
SourceFits wires (Net id i) = IsSlice wires id i 1

abbrev PartsFit : List RtlWire → List SigPart → Type 0
PartsFit wires ps = AllByRecursion (PartFits wires) ps

module _ (wires : List RtlWire) where
  joined_fits : (id : List ℕ) (i low width : ℕ) → suc i ≡ low → IsSlice wires id low width → IsSlice wires id i (suc width)
  joined_fits id i low width e h = record { wire = h.wire; among = h.among; named = h.named; some = omega arith; within = omega (arith, h.within) }

  one_part_fits : (x : Source) → SourceFits wires x → PartsFit wires (one_part x ∷ [])
  one_part_fits (Constant b) h = (tt, tt)
  one_part_fits (Net id i) h = (h, tt)

  below_fits : (x : Source) (p : SigPart) → SourceFits wires x → PartFits wires p → PartsFit wires (below x p)
  below_fits (Constant b) (parts.Const bits) h k = (tt, tt)
  below_fits (Constant b) (parts.Wire id low width) h k = (k, (tt, tt))
  below_fits (Net id i) (parts.Const bits) h k = (tt, (h, tt))
  below_fits (Net id i) (parts.Wire wire low width) h k =
      cond_both (text_eq id wire && (suc i == low)) (parts.Wire wire i (suc width) ∷ []) (parts.Wire wire low width ∷ parts.Wire id i 1 ∷ []) (PartsFit wires)
      (λ e. (joined_fits wire i low width (eqb-true (suc i) low (and_parts (text_eq id wire) (suc i == low) e).1) k, tt))
      (λ e. (k, (h, tt)))

  added_fits : (x : Source) (ps : List SigPart) → SourceFits wires x → PartsFit wires ps → PartsFit wires (added_below x ps)
  added_fits x [] h k = one_part_fits x h
  added_fits x (p ∷ []) h k = below_fits x p h k.0
  added_fits x (p ∷ q ∷ ps) h k = (k.0, added_fits x (q ∷ ps) h k.1)

  parts_fit : (xs : List Source) → AllByRecursion (SourceFits wires) xs → PartsFit wires (spec_of xs)
  unfolding spec_of
  parts_fit [] h = tt
  parts_fit (x ∷ xs) h = added_fits x (spec_of xs) h.0 (parts_fit xs h.1)

  -- where each bit is within its wire, each part is
  pub spec_of_fits : (xs : List Source) → AllByRecursion (SourceFits wires) xs → SpecFits wires (spec_of xs)
  spec_of_fits xs h = All-from_recursion (PartFits wires) (spec_of xs) (parts_fit xs h)
