-- The rules on a module of which cells are cut.
use Rattle.std.proofs.Common.{◌≡◌, ◌≢◌, ◌∙◌, ◌<◌, ◌≤◌, ◌+◌, ◌^◌, ◌&&◌, ℕ, zero, suc, Bool, true, false, cond, List, [], ◌∷◌, ◌++◌, map, length, slice_index_or, refl, sym, ap, arith, subst, All, inr, length-append}
use Rattle.std.specs.Prelude.{AllPairs, codes, IsPermutation}
use Rattle.std.specs.List.{range_with_len}
use Rattle.std.specs.Fmt.{decimal}
use Rattle.std.specs.Str.Parse.{digits_value}
use Rattle.std.proofs.lemmas.Fmt.{decimal_is_IsNumeral_wide}
use Rattle.std.proofs.lemmas.List.{map-append}
use Rattle.std.proofs.lemmas.List.Elements.{All-nil, All-cons, All-head, All-tail, All-append, All-map, All-weaker}
use Rattle.std.proofs.lemmas.List.Kept.{AllPairs-cons}
use Rattle.rtlil_text.specs.declared.cell.RtlCell.{RtlCell}
use Rattle.rtlil_text.specs.declared.module.RtlWire.{RtlWire}
use Rattle.rtlil_text.specs.declared.module.RtlMemory.{RtlMemory}
use Rattle.rtlil_text.specs.declared.module.RtlModule.{RtlModule}
use Rattle.rtlil_text.specs.Ids.{AreDistinct, IsId}
use Rattle.rtlil_text.specs.Sources.{Source, end_width}
use Rattle.rtlil_text.specs.Drivers.{inner_bits}
use Rattle.rtlil_text.specs.MemoryRules.{MemoryFits}
use Rattle.rtlil_text.specs.Rules.{IsModule, module_ids, CellFits}
use Rattle.rtlil_text.proofs.SpecOnce.{All-left, All-right}
use Rattle.rtlil_text.proofs.Numerals.{numeral_is_decimal}
use Rattle.cell_split.specs.Pieces.{numbered_id, piece, pieces}
use Rattle.cell_split.specs.Split.{can_split, split_cell, split_cells, split_of}
use Rattle.cell_split.specs.Kept.{AreFree}
use Rattle.cell_split.specs.Laws.{SplitsKeepTheRules}
use Rattle.cell_split.proofs.PieceDrivers.{driven_bits-split}
use Rattle.cell_split.proofs.Places.{All-unmap, All-range, AllPairs-tail, AllPairs-head, AllPairs-append, AllPairs-nil, AllPairs-left, AllPairs-right, AllPairs-across, length-pieces, All-split_cells}
use Rattle.cell_split.proofs.PieceRules.{piece_fits, cell_fits-split, memory_fits-split}

-- ---- ids

numbered_id-differ : (j k : ℕ) → j < 10 ^ 64 → k < 10 ^ 64 → j ≢ k → numbered_id j ≢ numbered_id k
numbered_id-differ j k p q apart e =
    let digits : decimal j ≡ decimal k = cc in
    apart (sym (decimal_is_IsNumeral_wide j p).1 ∙ ap (digits_value 10) digits ∙ (decimal_is_IsNumeral_wide k q).1)

abbrev ids : List RtlCell → List (List ℕ)
ids cells = map (λ (c : RtlCell). c.id) cells

abbrev Differ : List ℕ → List ℕ → Type 0
Differ a b = a ≢ b

-- what holds of the ids of before and of new numbers holds of all ids
ids_hold : (P : List ℕ → Type 0) (n high : ℕ) (marks : List Bool) (cells : List RtlCell) → n + length (split_cells n marks cells) ≤ high → All P (ids cells)
    → ((j : ℕ) → n ≤ j → j < high → P (numbered_id j)) → All P (ids (split_cells n marks cells))
ids_hold P n high marks cells few old new =
    All-map P (λ (c : RtlCell). c.id) (split_cells n marks cells)
    (All-split_cells (λ (c : RtlCell). P c.id) (λ (c : RtlCell). P c.id) (λ c p. p) n high marks cells few (All-unmap P (λ (c : RtlCell). c.id) cells old) (λ c j k p is. new j is.first is.last))

pieces_from-distinct : (n : ℕ) (c : RtlCell) (k width : ℕ) → n + k + width ≤ 10 ^ 64 → AllPairs Differ (ids (map (λ i. piece (n + i) c i) (range_with_len k width)))
pieces_from-distinct n c k zero few = AllPairs-nil Differ
pieces_from-distinct n c k (suc width) few =
    AllPairs-cons Differ (numbered_id (n + k)) (ids (map (λ i. piece (n + i) c i) (range_with_len (k + 1) width)))
    (All-map (Differ (numbered_id (n + k))) (λ (x : RtlCell). x.id) (map (λ i. piece (n + i) c i) (range_with_len (k + 1) width))
    (All-map (λ (x : RtlCell). Differ (numbered_id (n + k)) x.id) (λ i. piece (n + i) c i) (range_with_len (k + 1) width)
    (All-range (λ i. Differ (numbered_id (n + k)) (numbered_id (n + i))) (k + 1) width
    (λ i from upto. numbered_id-differ (n + k) (n + i) (omega arith) (omega arith) (λ e. omega arith)))))
    (pieces_from-distinct n c (k + 1) width (omega arith))

cut_distinct : (n : ℕ) (c : RtlCell) (cut : Bool) → n + length (cond cut (pieces n c) (c ∷ [])) ≤ 10 ^ 64 → AllPairs Differ (ids (cond cut (pieces n c) (c ∷ [])))
cut_distinct n c true few = pieces_from-distinct n c 0 (end_width c (codes "\\Y")) (omega (arith, length-pieces n c, few))
cut_distinct n c false few = AllPairs-cons Differ c.id [] (All-nil (Differ c.id)) (AllPairs-nil Differ)

cut_apart : (n high : ℕ) (c : RtlCell) (cut : Bool) (others : List (List ℕ)) → n + length (cond cut (pieces n c) (c ∷ [])) ≤ high → All (Differ c.id) others
    → ((j : ℕ) → n ≤ j → j < n + length (cond cut (pieces n c) (c ∷ [])) → All (Differ (numbered_id j)) others) → All (λ x. All (Differ x) others) (ids (cond cut (pieces n c) (c ∷ [])))
cut_apart n high c true others few old new =
    All-map (λ x. All (Differ x) others) (λ (x : RtlCell). x.id) (pieces n c)
    (All-map (λ (x : RtlCell). All (Differ x.id) others) (λ i. piece (n + i) c i) (range_with_len 0 (end_width c (codes "\\Y")))
    (All-range (λ i. All (Differ (numbered_id (n + i))) others) 0 (end_width c (codes "\\Y")) (λ i from upto. new (n + i) (omega arith) (omega (arith, length-pieces n c, upto)))))
cut_apart n high c false others few old new = All-cons (λ x. All (Differ x) others) c.id [] old (All-nil (λ x. All (Differ x) others))

cells_distinct : (n high : ℕ) (marks : List Bool) (cells : List RtlCell) → high ≤ 10 ^ 64 → n + length (split_cells n marks cells) ≤ high → AllPairs Differ (ids cells) → AreFree n high (ids cells) → AllPairs Differ (ids (split_cells n marks cells))
cells_distinct n high [] cells few fits apart free = apart
cells_distinct n high (b ∷ marks) [] few fits apart free = AllPairs-nil Differ
cells_distinct n high (b ∷ marks) (c ∷ cells) few fits apart free =
    let front : List RtlCell = split_cell n b c in
    let next : ℕ = n + length front in
    let rest : List RtlCell = split_cells next marks cells in
    let all : length (front ++ rest) ≡ length front + length rest = length-append front rest in
    let fits_here : n + length front ≤ 10 ^ 64 = omega (arith, all, fits, few) in
    let fits_more : next + length rest ≤ high = omega (arith, all, fits) in
    let Free : List ℕ → Type 0 = λ id. (k : ℕ) → n ≤ k → k < high → id ≢ numbered_id k in
    let here : (k : ℕ) → n ≤ k → k < high → c.id ≢ numbered_id k = All-head Free c.id (ids cells) free in
    let later : All Free (ids cells) = All-tail Free c.id (ids cells) free in
    subst (AllPairs Differ) (sym (map-append (λ (x : RtlCell). x.id) front rest))
    (AllPairs-append Differ (ids front) (ids rest) (cut_distinct n c (b && can_split c) fits_here)
    (cells_distinct next high marks cells few fits_more (AllPairs-tail Differ c.id (ids cells) apart) (λ i d h k from upto. later i d h k (omega arith) upto))
    (cut_apart n (10 ^ 64) c (b && can_split c) (ids rest) fits_here
    (ids_hold (Differ c.id) next high marks cells fits_more (AllPairs-head Differ c.id (ids cells) apart) (λ j from upto. here j (omega arith) upto))
    (λ i from upto.
    ids_hold (Differ (numbered_id i)) next high marks cells fits_more (λ k d h e. later k d h i from (omega (arith, all, fits, upto)) (sym e))
    (λ j low below. numbered_id-differ i j (omega (arith, all, fits, few, upto)) (omega (arith, below, few)) (λ e. omega arith)))))

module _ (n : ℕ) (marks : List Bool) (m : RtlModule) (rules : IsModule m) (free : AreFree n (n + length (split_cells n marks m.cells)) (module_ids m)) (few : n + length (split_cells n marks m.cells) ≤ 10 ^ 64) where
  abbrev others : List (List ℕ)
  others = map (λ (w : RtlWire). w.id) m.wires ++ map (λ (r : RtlMemory). r.id) m.memories

  abbrev high : ℕ
  high = n + length (split_cells n marks m.cells)

  abbrev Free : List ℕ → Type 0
  Free id = (k : ℕ) → n ≤ k → k < high → id ≢ numbered_id k

  were_distinct : AllPairs Differ (others ++ ids m.cells)
  were_distinct = rules.distinct

  were_free : All Free (others ++ ids m.cells)
  were_free = free

  fits : n + length (split_cells n marks m.cells) ≤ high
  fits = omega arith

  were_ids : All IsId (others ++ ids m.cells)
  were_ids = rules.ids

  distinct : AreDistinct (module_ids (split_of n marks m))
  distinct =
      let across = AllPairs-across Differ others (ids m.cells) were_distinct in
      let apart = All-left Free others (ids m.cells) were_free in
      AllPairs-append Differ others (ids (split_cells n marks m.cells)) (AllPairs-left Differ others (ids m.cells) were_distinct)
      (cells_distinct n high marks m.cells few fits (AllPairs-right Differ others (ids m.cells) were_distinct) (All-right Free others (ids m.cells) were_free))
      (λ i d h. ids_hold (Differ (slice_index_or others i d)) n high marks m.cells fits (across i d h) (apart i d h))

  all_ids : All IsId (module_ids (split_of n marks m))
  all_ids =
      All-append IsId others (ids (split_cells n marks m.cells)) (All-left IsId others (ids m.cells) were_ids)
      (ids_hold IsId n (10 ^ 64) marks m.cells few (All-right IsId others (ids m.cells) were_ids) (λ j from upto. inr (j, ap (λ ds. 36 ∷ ds) (sym (numeral_is_decimal j upto)))))

  cells_fit : All (CellFits (split_of n marks m)) (split_cells n marks m.cells)
  cells_fit =
      All-split_cells (CellFits m) (CellFits (split_of n marks m)) (cell_fits-split n marks m) n (10 ^ 64) marks m.cells few rules.cells
      (λ c j k h is. piece_fits j k c is.wide is.within m (split_of n marks m) refl is.bitwise h)

  pub split_is_module : IsModule (split_of n marks m)
  split_is_module = record {
    distinct = distinct;
    ids = all_ids;
    wires = rules.wires;
    memories = All-weaker (MemoryFits m) (MemoryFits (split_of n marks m)) (memory_fits-split n marks m) m.memories rules.memories;
    cells = cells_fit;
    links = λ k d h. let fits = rules.links k d h in record { left = fits.left; right = fits.right; equal = fits.equal };
    ports = rules.ports;
    drivers = subst (λ (bits : List Source). IsPermutation bits (inner_bits m)) (sym (driven_bits-split n marks m)) rules.drivers;
  }

pub splits_keep_rules : SplitsKeepTheRules
splits_keep_rules n marks m rules free few = split_is_module n marks m rules free few
