-- The drivers of a module of which cells are cut: each is that of before, or the piece of a bit of a cell.
use Rattle.std.proofs.Common.{◌≡◌, ◌∙◌, ◌+◌, ◌&&◌, ℕ, zero, suc, Bool, true, false, cond, List, [], ◌∷◌, ◌++◌, map, length, drop, refl, sym, ap, subst, add-one}
use Rattle.std.specs.Prelude.{Some, slice_get, nat_lt, codes}
use Rattle.std.specs.List.{flat_map, range_with_len, AllZip}
use Rattle.std.proofs.lemmas.Bool.{and_parts}
use Rattle.std.proofs.lemmas.List.{append-nil}
use Rattle.std.proofs.lemmas.Grind.{flat_map-append}
use Rattle.rtlil_text.specs.declared.cell.RtlCell.{RtlCell}
use Rattle.rtlil_text.specs.declared.module.RtlLink.{RtlLink}
use Rattle.rtlil_text.specs.declared.module.RtlModule.{RtlModule}
use Rattle.rtlil_text.specs.Sources.{Source, end_bits, end_width, spec_bits, is_input}
use Rattle.rtlil_text.specs.Drivers.{Driver, ByInput, ByLink, ByCell, ByNone, output_bits, numbered, drivers, driver, driver_in, is_bit, driven_bits}
use Rattle.cell_split.specs.Pieces.{is_bitwise, piece, pieces}
use Rattle.cell_split.specs.Split.{can_split, split_cell, split_cells, split_of}
use Rattle.cell_split.proofs.PieceBits.{output_of-bitwise, output_bits-piece}

-- two drivers that give a bit one value: the same one, or a bit of a cell and the piece of that bit
pub data AreAlike : Driver → Driver → Type 0 where
  Same : (d : Driver) → AreAlike d d
  Cut : (n k : ℕ) (c : RtlCell) → is_bitwise c.kind ≡ true → AreAlike (ByCell c k) (ByCell (piece n c k) 0)

abbrev pub Entry : Type 0
Entry = Source × Driver

abbrev pub AreAlikeAt : Entry → Entry → Type 0
AreAlikeAt x y = (x.0 ≡ y.0) × AreAlike x.1 y.1

abbrev pub AllAlike : List Entry → List Entry → Type 0
AllAlike xs ys = AllZip AreAlikeAt xs ys

AllAlike-same : (xs : List Entry) → AllAlike xs xs
AllAlike-same [] = tt
AllAlike-same (x ∷ xs) = ((refl, Same x.1), AllAlike-same xs)

AllAlike-append : (xs ys zs ws : List Entry) → AllAlike xs ys → AllAlike zs ws → AllAlike (xs ++ zs) (ys ++ ws)
AllAlike-append [] [] zs ws h k = k
AllAlike-append [] (y ∷ ys) zs ws h k = absurd h
AllAlike-append (x ∷ xs) [] zs ws h k = absurd h
AllAlike-append (x ∷ xs) (y ∷ ys) zs ws h k = (h.0, AllAlike-append xs ys zs ws h.1 k)

abbrev pub cell_drivers : RtlCell → List Entry
cell_drivers c = numbered (ByCell c) 0 (output_bits c)

-- ---- the bits of one cell

drop-first : (bits : List Source) (k : ℕ) (s : Source) (ss : List Source) → drop k bits ≡ s ∷ ss → slice_get bits k ≡ Some s
drop-first [] zero s ss e = cc
drop-first [] (suc k) s ss e = cc
drop-first (b ∷ bits) zero s ss e = cc
drop-first (b ∷ bits) (suc k) s ss e = drop-first bits k s ss e

drop-others : (bits : List Source) (k : ℕ) (s : Source) (ss : List Source) → drop k bits ≡ s ∷ ss → drop (suc k) bits ≡ ss
drop-others [] zero s ss e = cc
drop-others [] (suc k) s ss e = cc
drop-others (b ∷ bits) zero s ss e = cc
drop-others (b ∷ bits) (suc k) s ss e = drop-others bits k s ss e

-- the pieces of the bits from k on
abbrev pub pieces_from : (n : ℕ) → RtlCell → (k width : ℕ) → List RtlCell
pieces_from n c k width = map (λ j. piece (n + j) c j) (range_with_len k width)

pub pieces_from-alike : (n : ℕ) (c : RtlCell) (k : ℕ) (ss : List Source) → is_bitwise c.kind ≡ true → drop k (output_bits c) ≡ ss → AllAlike (numbered (ByCell c) k ss) (flat_map cell_drivers (pieces_from n c k (length ss)))
pieces_from-alike n c k [] h e = tt
pieces_from-alike n c k (s ∷ ss) h e =
    let out : output_bits (piece (n + k) c k) ≡ s ∷ [] = output_bits-piece (n + k) k c s (drop-first (output_bits c) k s ss e) in
    let more : AllAlike (numbered (ByCell c) (suc k) ss) (flat_map cell_drivers (pieces_from n c (suc k) (length ss))) = pieces_from-alike n c (suc k) ss h (drop-others (output_bits c) k s ss e) in
    let next : AllAlike (numbered (ByCell c) (suc k) ss) (flat_map cell_drivers (pieces_from n c (k + 1) (length ss))) = subst (λ (j : ℕ). AllAlike (numbered (ByCell c) (suc k) ss) (flat_map cell_drivers (pieces_from n c j (length ss)))) (sym (add-one k)) more in
    subst (λ (bits : List Source). AllAlike ((s, ByCell c k) ∷ numbered (ByCell c) (suc k) ss) (numbered (ByCell (piece (n + k) c k)) 0 bits ++ flat_map cell_drivers (pieces_from n c (k + 1) (length ss)))) (sym out)
    ((refl, Cut (n + k) k c h), next)

pub pieces_from-outputs : (n : ℕ) (c : RtlCell) (k : ℕ) (ss : List Source) → is_bitwise c.kind ≡ true → drop k (output_bits c) ≡ ss → flat_map output_bits (pieces_from n c k (length ss)) ≡ ss
pieces_from-outputs n c k [] h e = refl
pieces_from-outputs n c k (s ∷ ss) h e =
    let out : output_bits (piece (n + k) c k) ≡ s ∷ [] = output_bits-piece (n + k) k c s (drop-first (output_bits c) k s ss e) in
    ap (λ (bits : List Source). bits ++ flat_map output_bits (pieces_from n c (k + 1) (length ss))) out
    ∙ ap (λ (j : ℕ). s ∷ flat_map output_bits (pieces_from n c j (length ss))) (add-one k)
    ∙ ap (λ (bits : List Source). s ∷ bits) (pieces_from-outputs n c (suc k) ss h (drop-others (output_bits c) k s ss e))

pub width-outputs : (c : RtlCell) → is_bitwise c.kind ≡ true → end_width c (codes "\\Y") ≡ length (output_bits c)
width-outputs c h = ap (λ (name : List ℕ). length (end_bits c name)) (sym (output_of-bitwise c.kind h))

-- ---- one cell, cut or not

cut_alike : (n : ℕ) (c : RtlCell) (cut : Bool) → (cut ≡ true → is_bitwise c.kind ≡ true) → AllAlike (cell_drivers c) (flat_map cell_drivers (cond cut (pieces n c) (c ∷ [])))
cut_alike n c true h =
    subst (λ (w : ℕ). AllAlike (cell_drivers c) (flat_map cell_drivers (pieces_from n c 0 w))) (sym (width-outputs c (h refl))) (pieces_from-alike n c 0 (output_bits c) (h refl) refl)
cut_alike n c false h = subst (AllAlike (cell_drivers c)) (sym (append-nil (cell_drivers c))) (AllAlike-same (cell_drivers c))

cut_outputs : (n : ℕ) (c : RtlCell) (cut : Bool) → (cut ≡ true → is_bitwise c.kind ≡ true) → flat_map output_bits (cond cut (pieces n c) (c ∷ [])) ≡ output_bits c
cut_outputs n c true h =
    ap (λ (w : ℕ). flat_map output_bits (pieces_from n c 0 w)) (width-outputs c (h refl)) ∙ pieces_from-outputs n c 0 (output_bits c) (h refl) refl
cut_outputs n c false h = append-nil (output_bits c)

pub bitwise-cut : (b : Bool) (c : RtlCell) → (b && can_split c) ≡ true → is_bitwise c.kind ≡ true
bitwise-cut b c e = (and_parts (is_bitwise c.kind) (nat_lt 1 (end_width c (codes "\\Y"))) (and_parts b (can_split c) e).1).0

-- ---- all cells

cells_alike : (n : ℕ) (marks : List Bool) (cells : List RtlCell) → AllAlike (flat_map cell_drivers cells) (flat_map cell_drivers (split_cells n marks cells))
cells_alike n [] cells = AllAlike-same (flat_map cell_drivers cells)
cells_alike n (b ∷ marks) [] = tt
cells_alike n (b ∷ marks) (c ∷ cells) =
    let rest : List RtlCell = split_cells (n + length (split_cell n b c)) marks cells in
    subst (AllAlike (cell_drivers c ++ flat_map cell_drivers cells)) (sym (flat_map-append cell_drivers (split_cell n b c) rest))
    (AllAlike-append (cell_drivers c) (flat_map cell_drivers (split_cell n b c)) (flat_map cell_drivers cells) (flat_map cell_drivers rest)
    (cut_alike n c (b && can_split c) (bitwise-cut b c)) (cells_alike (n + length (split_cell n b c)) marks cells))

outputs-split_cells : (n : ℕ) (marks : List Bool) (cells : List RtlCell) → flat_map output_bits (split_cells n marks cells) ≡ flat_map output_bits cells
outputs-split_cells n [] cells = refl
outputs-split_cells n (b ∷ marks) [] = refl
outputs-split_cells n (b ∷ marks) (c ∷ cells) =
    let rest : List RtlCell = split_cells (n + length (split_cell n b c)) marks cells in
    flat_map-append output_bits (split_cell n b c) rest
    ∙ ap (λ (bits : List Source). bits ++ flat_map output_bits rest) (cut_outputs n c (b && can_split c) (bitwise-cut b c))
    ∙ ap (λ (bits : List Source). output_bits c ++ bits) (outputs-split_cells (n + length (split_cell n b c)) marks cells)

-- ---- the module

-- the bits that have drivers are the same, in the same order
pub driven_bits-split : (n : ℕ) (marks : List Bool) (m : RtlModule) → driven_bits (split_of n marks m) ≡ driven_bits m
driven_bits-split n marks m = ap (λ (bits : List Source). bits ++ flat_map (λ (l : RtlLink). spec_bits l.left) m.links) (outputs-split_cells n marks m.cells)

alike_cond : (a b : Bool) (d d' e e' : Driver) → a ≡ b → AreAlike d d' → AreAlike e e' → AreAlike (cond a d e) (cond b d' e')
alike_cond true true d d' e e' s h k = h
alike_cond false false d d' e e' s h k = k
alike_cond true false d d' e e' s h k = cc
alike_cond false true d d' e e' s h k = cc

driver_in-alike : (wire : List ℕ) (i : ℕ) (xs ys : List Entry) → AllAlike xs ys → AreAlike (driver_in wire i xs) (driver_in wire i ys)
driver_in-alike wire i [] [] h = Same ByNone
driver_in-alike wire i [] (y ∷ ys) h = absurd h
driver_in-alike wire i (x ∷ xs) [] h = absurd h
driver_in-alike wire i ((s, d) ∷ xs) ((t, e) ∷ ys) h =
    alike_cond (is_bit wire i s) (is_bit wire i t) d e (driver_in wire i xs) (driver_in wire i ys) (ap (is_bit wire i) h.0.0) h.0.1 (driver_in-alike wire i xs ys h.1)

drivers-alike : (n : ℕ) (marks : List Bool) (m : RtlModule) → AllAlike (drivers m) (drivers (split_of n marks m))
drivers-alike n marks m =
    let links : List Entry = flat_map (λ (l : RtlLink). numbered (ByLink l) 0 (spec_bits l.left)) m.links in
    AllAlike-append (flat_map cell_drivers m.cells) (flat_map cell_drivers (split_cells n marks m.cells)) links links (cells_alike n marks m.cells) (AllAlike-same links)

pub driver-alike : (n : ℕ) (marks : List Bool) (m : RtlModule) (wire : List ℕ) (i : ℕ) → AreAlike (driver m wire i) (driver (split_of n marks m) wire i)
driver-alike n marks m wire i =
    alike_cond (is_input m wire) (is_input m wire) ByInput ByInput (driver_in wire i (drivers m)) (driver_in wire i (drivers (split_of n marks m))) refl (Same ByInput)
    (driver_in-alike wire i (drivers m) (drivers (split_of n marks m)) (drivers-alike n marks m))
