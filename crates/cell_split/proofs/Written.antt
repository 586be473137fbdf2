-- The cells of memories, which are never cut.
use Rattle.std.proofs.Common.{◌≡◌, ◌∙◌, ◌+◌, ◌&&◌, ℕ, Bool, true, false, cond, List, [], ◌∷◌, ◌++◌, map, length, refl, sym, ap}
use Rattle.std.specs.Prelude.{max, codes}
use Rattle.std.specs.List.{filter, range_with_len}
use Rattle.std.proofs.lemmas.List.Elements.{filter-append}
use Rattle.lists.specs.Texts.{text_eq}
use Rattle.shape_rules.specs.declared.cell.CellKind.{CellKind}
use Rattle.shape_rules.specs.declared.cell.CellKind.TheVariants.{MemoryWrite, MemoryInit}
use Rattle.rtlil_text.specs.declared.cell.RtlCell.{RtlCell}
use Rattle.rtlil_text.specs.declared.module.RtlModule.{RtlModule}
use Rattle.rtlil_text.specs.Sources.{end_width, memory_id}
use Rattle.rtlil_text.specs.Memories.{is_write, is_init, writes_of, inits_of}
use Rattle.rtlil_text.specs.MemoryRules.{mask_width}
use Rattle.cell_split.specs.Pieces.{is_bitwise, piece, pieces}
use Rattle.cell_split.specs.Split.{can_split, split_cell, split_cells, split_of}
use Rattle.cell_split.proofs.PieceDrivers.{bitwise-cut}

filter-none : (p : RtlCell → Bool) (f : ℕ → RtlCell) (ks : List ℕ) → ((k : ℕ) → p (f k) ≡ false) → filter p (map f ks) ≡ []
filter-none p f [] h = refl
filter-none p f (k ∷ ks) h = ap (λ (b : Bool). cond b (f k ∷ filter p (map f ks)) (filter p (map f ks))) (h k) ∙ filter-none p f ks h

-- a test that no bitwise cell passes
module _ (p : RtlCell → Bool) (never : (c : RtlCell) → is_bitwise c.kind ≡ true → p c ≡ false) where
  cut_filtered : (n : ℕ) (c : RtlCell) (cut : Bool) → (cut ≡ true → is_bitwise c.kind ≡ true) → filter p (cond cut (pieces n c) (c ∷ [])) ≡ cond (p c) (c ∷ []) []
  cut_filtered n c true h =
      filter-none p (λ k. piece (n + k) c k) (range_with_len 0 (end_width c (codes "\\Y"))) (λ k. never (piece (n + k) c k) (h refl))
      ∙ sym (ap (λ (b : Bool). cond b (c ∷ []) []) (never c (h refl)))
  cut_filtered n c false h = refl

  cond_front : (b : Bool) (c : RtlCell) (cells : List RtlCell) → cond b (c ∷ []) [] ++ cells ≡ cond b (c ∷ cells) cells
  cond_front true c cells = refl
  cond_front false c cells = refl

  pub filter-split_cells : (n : ℕ) (marks : List Bool) (cells : List RtlCell) → filter p (split_cells n marks cells) ≡ filter p cells
  filter-split_cells n [] cells = refl
  filter-split_cells n (b ∷ marks) [] = refl
  filter-split_cells n (b ∷ marks) (c ∷ cells) =
      let rest : List RtlCell = split_cells (n + length (split_cell n b c)) marks cells in
      filter-append p (split_cell n b c) rest
      ∙ ap (λ (front : List RtlCell). front ++ filter p rest) (cut_filtered n c (b && can_split c) (bitwise-cut b c))
      ∙ ap (λ (others : List RtlCell). cond (p c) (c ∷ []) [] ++ others) (filter-split_cells (n + length (split_cell n b c)) marks cells)
      ∙ cond_front (p c) c (filter p cells)

is_write-bitwise : (kind : CellKind) → is_bitwise kind ≡ true → is_write kind ≡ false
is_write-bitwise MemoryWrite h = cc
is_write-bitwise kind h = refl

is_init-bitwise : (kind : CellKind) → is_bitwise kind ≡ true → is_init kind ≡ false
is_init-bitwise MemoryInit h = cc
is_init-bitwise kind h = refl

pub writes_of-split : (n : ℕ) (marks : List Bool) (m : RtlModule) (id : List ℕ) → writes_of (split_of n marks m) id ≡ writes_of m id
writes_of-split n marks m id =
    filter-split_cells (λ (c : RtlCell). is_write c.kind && text_eq (memory_id c) id) (λ c h. ap (λ (b : Bool). b && text_eq (memory_id c) id) (is_write-bitwise c.kind h)) n marks m.cells

pub inits_of-split : (n : ℕ) (marks : List Bool) (m : RtlModule) (id : List ℕ) → inits_of (split_of n marks m) id ≡ inits_of m id
inits_of-split n marks m id =
    filter-split_cells (λ (c : RtlCell). is_init c.kind && text_eq (memory_id c) id) (λ c h. ap (λ (b : Bool). b && text_eq (memory_id c) id) (is_init-bitwise c.kind h)) n marks m.cells

pub mask_width-split : (n : ℕ) (marks : List Bool) (m : RtlModule) (id : List ℕ) → mask_width (split_of n marks m) id ≡ mask_width m id
mask_width-split n marks m id = ap (λ (cells : List RtlCell). max 1 (length cells)) (writes_of-split n marks m id)
