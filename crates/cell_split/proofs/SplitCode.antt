-- The cells of a module, one after the other.
use Rattle.std.proofs.Common.{◌≡◌, ◌∙◌, ◌<◌, ◌+◌, ◌^◌, ℕ, Bool, false, List, [], ◌∷◌, ◌++◌, length, get_or, take, sym, ap, arith, length-append, append_assoc}
use Rattle.std.specs.Prelude.{Some, slice_get, IsTrue, codes, min}
use Rattle.std.proofs.lemmas.List.{append-nil, take_more, length-take}
use Rattle.std.proofs.lemmas.List.Elements.{All-weaker, All-contains}
use Rattle.std.proofs.lemmas.Option.{get_or_from_slice_get}
use Rattle.shape_rules.specs.declared.cell.CellKind.{CellKind}
use Rattle.shape_rules.specs.declared.cell.CellKind.TheVariants.{Not, And, Or, Xor, Mux}
use Rattle.rtlil_text.specs.declared.sig.SigPart.{SigPart}
use Rattle.rtlil_text.specs.declared.sig.SigPart.TheVariants as parts
use Rattle.rtlil_text.specs.declared.cell.RtlEnd.{RtlEnd}
use Rattle.rtlil_text.specs.declared.cell.RtlCell.{RtlCell}
use Rattle.rtlil_text.specs.declared.module.RtlWire.{RtlWire}
use Rattle.rtlil_text.specs.declared.module.RtlModule.{RtlModule}
use Rattle.rtlil_text.specs.Sources.{end_width, number_at}
use Rattle.rtlil_text.specs.Rules.{IsModule, PartFits, SpecFits, KindFits, CellFits}
use Rattle.rtlil_text.proofs.Among.{Contains-among, Among-slice_get}
use Rattle.cell_split.specs.Pieces.{is_bitwise}
use Rattle.cell_split.specs.Split.{split_cell, split_cells}
use Rattle.cell_split.specs.Short.{PartIsShort, SpecIsShort, width_name, IsPlainCell, AreNarrow}

-- ---- one more cell

split_cells-more : (n : ℕ) (marks : List Bool) (cells : List RtlCell) (b : Bool) (c : RtlCell) → length marks ≡ length cells
    → split_cells n (marks ++ b ∷ []) (cells ++ c ∷ []) ≡ split_cells n marks cells ++ split_cell (n + length (split_cells n marks cells)) b c
split_cells-more n [] [] b c same = append-nil (split_cell n b c) ∙ ap (λ (j : ℕ). split_cell j b c) (let e : n ≡ n + 0 = omega arith in e)
split_cells-more n [] (d ∷ cells) b c same = absurd (omega arith)
split_cells-more n (a ∷ marks) [] b c same = absurd (omega arith)
split_cells-more n (a ∷ marks) (d ∷ cells) b c same =
    let front : List RtlCell = split_cell n a d in
    let rest : List RtlCell = split_cells (n + length front) marks cells in
    let count : n + length front + length rest ≡ n + length (front ++ rest) = omega (arith, length-append front rest) in
    ap (λ (others : List RtlCell). front ++ others) (split_cells-more (n + length front) marks cells b c (omega arith))
    ∙ sym (append_assoc front rest (split_cell (n + length front + length rest) b c))
    ∙ ap (λ (j : ℕ). (front ++ rest) ++ split_cell j b c) count

pub cells_more : (n : ℕ) (marks : List Bool) (cells now new : List RtlCell) (k : ℕ) (c : RtlCell) → k < length marks → length marks ≡ length cells → slice_get cells k ≡ Some c
    → now ≡ split_cells n (take k marks) (take k cells) → new ≡ now ++ split_cell (n + length now) (get_or marks k false) c → new ≡ split_cells n (take (k + 1) marks) (take (k + 1) cells)
cells_more n marks cells now new k c within same at was pushed =
    let more : take (k + 1) cells ≡ take k cells ++ c ∷ [] = take_more cells k c (omega (arith, within, same)) ∙ ap (λ (x : RtlCell). take k cells ++ x ∷ []) (get_or_from_slice_get cells k c c at) in
    let marked : take (k + 1) marks ≡ take k marks ++ get_or marks k false ∷ [] = take_more marks k false within in
    let counts : length (take k marks) ≡ length (take k cells) = length_taken k marks cells same in
    pushed ∙ ap (λ (x : List RtlCell). x ++ split_cell (n + length x) (get_or marks k false) c) was
    ∙ sym (split_cells-more n (take k marks) (take k cells) (get_or marks k false) c counts)
    ∙ ap (λ (x : List Bool). split_cells n x (take k cells ++ c ∷ [])) (sym marked)
    ∙ ap (split_cells n (take (k + 1) marks)) (sym more)
  where
    length_taken : {A B : Type 0} (i : ℕ) (xs : List A) (ys : List B) → length xs ≡ length ys → length (take i xs) ≡ length (take i ys)
    length_taken i xs ys e = length-take i xs ∙ ap (min i) e ∙ sym (length-take i ys)

-- ---- what the rules say of a cell

part_short : (wires : List RtlWire) → AreNarrow wires → (p : SigPart) → PartFits wires p → PartIsShort p
part_short wires narrow (parts.Const bits) h = tt
part_short wires narrow (parts.Wire id low width) h =
    let small : h.wire.width < 2 ^ 32 = All-contains (λ (w : RtlWire). w.width < 2 ^ 32) wires h.wire narrow h.among in
    omega (arith, h.within, small)

plain_width : (m : RtlModule) (c : RtlCell) (kind : CellKind) → IsTrue (is_bitwise kind) → KindFits m c kind → number_at c (width_name kind) ≡ end_width c (codes "\\Y")
plain_width m c Not e h = h.widths.y
plain_width m c And e h = h.widths.y
plain_width m c Or e h = h.widths.y
plain_width m c Xor e h = h.widths.y
plain_width m c Mux e h = h.y
plain_width m c kind e h = cc

pub plain_cell : (m : RtlModule) → IsModule m → AreNarrow m.wires → (k : ℕ) (c : RtlCell) → slice_get m.cells k ≡ Some c → IsPlainCell c
plain_cell m rules narrow k c at =
    let fits : CellFits m c = All-contains (CellFits m) m.cells c rules.cells (Contains-among m.cells c (Among-slice_get m.cells k c at)) in
    record {
      ends = All-weaker (λ (x : RtlEnd). SpecFits m.wires x.spec) (λ (x : RtlEnd). SpecIsShort x.spec) (λ x s. All-weaker (PartFits m.wires) PartIsShort (part_short m.wires narrow) x.spec s) c.ends fits.specs;
      width = λ e. plain_width m c c.kind e fits.rules;
    }
