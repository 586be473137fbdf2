-- Registers are never cut.
use Rattle.std.proofs.Common.{◌≡◌, ◌∙◌, ◌&&◌, ℕ, ◌+◌, Bool, true, false, cond, List, [], ◌∷◌, ◌++◌, map, length, refl, sym}
use Rattle.std.specs.Prelude.{codes}
use Rattle.std.specs.List.{flat_map, range_with_len}
use Rattle.std.proofs.lemmas.Bool.{and_parts, false≢true}
use Rattle.std.proofs.lemmas.List.{append-nil}
use Rattle.std.proofs.lemmas.Grind.{flat_map-append}
use Rattle.shape_rules.specs.declared.cell.CellKind.{CellKind}
use Rattle.shape_rules.specs.declared.cell.CellKind.TheVariants.{Dff, Adff}
use Rattle.rtlil_text.specs.declared.cell.RtlCell.{RtlCell}
use Rattle.rtlil_text.specs.Sources.{end_width}
use Rattle.rtlil_text.specs.Inits.{is_register_kind, registered_bits}
use Rattle.cell_split.specs.Pieces.{is_bitwise, piece, pieces}
use Rattle.cell_split.specs.Split.{can_split, split_cell, split_cells}
use Rattle.cell_split.specs.Laws.{SplitsKeepTheRegisters}

no_register : (k : CellKind) → is_bitwise k ≡ true → is_register_kind k ≡ false
no_register Dff h = absurd (false≢true h)
no_register Adff h = absurd (false≢true h)
no_register kind h = refl

none_registered : (c : RtlCell) → is_bitwise c.kind ≡ true → registered_bits c ≡ []
none_registered c h = rw (no_register c.kind h) refl

pieces_registered : (n : ℕ) (c : RtlCell) (ks : List ℕ) → is_bitwise c.kind ≡ true → flat_map registered_bits (map (λ k. piece (n + k) c k) ks) ≡ []
pieces_registered n c [] h = refl
pieces_registered n c (k ∷ ks) h = (λ i. none_registered (piece (n + k) c k) h i ++ pieces_registered n c ks h i)

cut_registered : (n : ℕ) (c : RtlCell) (cut : Bool) → (cut ≡ true → is_bitwise c.kind ≡ true) → flat_map registered_bits (cond cut (pieces n c) (c ∷ [])) ≡ registered_bits c
cut_registered n c true h = pieces_registered n c (range_with_len 0 (end_width c (codes "\\Y"))) (h refl) ∙ sym (none_registered c (h refl))
cut_registered n c false h = append-nil (registered_bits c)

cell_registered : (n : ℕ) (marked : Bool) (c : RtlCell) → flat_map registered_bits (split_cell n marked c) ≡ registered_bits c
cell_registered n marked c = cut_registered n c (marked && can_split c) (λ e. (and_parts (is_bitwise c.kind) _ ((and_parts marked (can_split c) e).1)).0)

cells_registered : (n : ℕ) (marks : List Bool) (cells : List RtlCell) → flat_map registered_bits (split_cells n marks cells) ≡ flat_map registered_bits cells
cells_registered n [] cells = refl
cells_registered n (b ∷ marks) [] = refl
cells_registered n (b ∷ marks) (c ∷ cells) =
    flat_map-append registered_bits (split_cell n b c) (split_cells (n + length (split_cell n b c)) marks cells)
    ∙ (λ i. cell_registered n b c i ++ cells_registered (n + length (split_cell n b c)) marks cells i)

pub registers_stay : SplitsKeepTheRegisters
registers_stay n marks m = cells_registered n marks m.cells
