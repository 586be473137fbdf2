-- Drawings that are a few cells, the last of which drives the result.
use Rattle.std.specs.Prelude.{◌≡◌, ◌+◌, ℕ, List, [], ◌∷◌, ◌++◌, IsPermutation}
use Rattle.std.specs.List.{flat_map, AllByRecursion}
use Rattle.std.proofs.Common.{refl, sym, ap, ◌∙◌, subst, append-nil}
use Rattle.std.proofs.lemmas.List.Concat.{flat_map-append}
use Rattle.std.proofs.lemmas.List.Sorted.{IsPermutation-append_comm}
use Rattle.rtlil_text.specs.declared.cell.RtlCell.{RtlCell}
use Rattle.rtlil_text.specs.declared.module.RtlWire.{RtlWire}
use Rattle.rtlil_text.specs.Sources.{Source}
use Rattle.rtlil_text.specs.Drivers.{output_bits}
use Rattle.netlist_laws.specs.Operators.{one_cell}
use Rattle.netlist_laws.proofs.Permuted.{IsPermutation-same}
use Rattle.netlist_laws.proofs.Fresh.{IsFresh}
use Rattle.netlist_laws.proofs.Drives.{owed_bits, drawing_ids, IsBare, IsDrawn, fresh_places, zero_more}

-- ids at places from n on itself
pub fresh_from : (id : ℕ → List ℕ) (n b : ℕ) (ids : List (List ℕ)) → IsFresh id (n + 0) (n + b) ids → IsFresh id n (n + b) ids
fresh_from id n b ids h = subst (λ l. IsFresh id l (n + b) ids) (sym (zero_more n)) h

abbrev pub all_of : List (List Source) → List Source
all_of blocks = flat_map (λ (b : List Source). b) blocks

-- the last of several parts comes first
pub last_first : (blocks : List (List Source)) (y : List Source) → IsPermutation (all_of (blocks ++ y ∷ []) ++ []) (y ++ all_of blocks)
last_first blocks y =
    let whole : all_of (blocks ++ y ∷ []) ++ [] ≡ all_of blocks ++ y =
    append-nil (all_of (blocks ++ y ∷ [])) ∙ flat_map-append (λ (b : List Source). b) blocks (y ∷ []) ∙ ap (λ r. all_of blocks ++ r) (append-nil y) in
    subst (λ r. IsPermutation r (y ++ all_of blocks)) (sym whole) (IsPermutation-append_comm (all_of blocks) y)

-- cells that drive the wires of a drawing, and then the result
pub IsDrawn-cells : (id : ℕ → List ℕ) (low high : ℕ) (ws : List RtlWire) (cs : List RtlCell) (blocks : List (List Source)) (y : List Source)
    → IsFresh id low high (drawing_ids (record { wires = ws; cells = cs; links = [] })) → AllByRecursion IsBare ws → flat_map output_bits cs ≡ all_of (blocks ++ y ∷ []) → flat_map owed_bits ws ≡ all_of blocks
    → IsDrawn id low high [] y (record { wires = ws; cells = cs; links = [] })
IsDrawn-cells id low high ws cs blocks y fresh bare outs owed = record {
  fresh = fresh;
  bare = bare;
  drives = subst (λ r. IsPermutation (r ++ []) (y ++ flat_map owed_bits ws)) (sym outs) (subst (λ r. IsPermutation (all_of (blocks ++ y ∷ []) ++ []) (y ++ r)) (sym owed) (last_first blocks y));
}

-- cells that drive the wires of a drawing, and nothing else
pub IsDrawn-inner : (id : ℕ → List ℕ) (low high : ℕ) (ws : List RtlWire) (cs : List RtlCell)
    → IsFresh id low high (drawing_ids (record { wires = ws; cells = cs; links = [] })) → AllByRecursion IsBare ws → flat_map output_bits cs ≡ flat_map owed_bits ws
    → IsDrawn id low high [] [] (record { wires = ws; cells = cs; links = [] })
IsDrawn-inner id low high ws cs fresh bare same = record {
  fresh = fresh;
  bare = bare;
  drives = IsPermutation-same (flat_map output_bits cs ++ []) (flat_map owed_bits ws) (append-nil (flat_map output_bits cs) ∙ same);
}

pub IsDrawn-one_cell : (id : ℕ → List ℕ) (n : ℕ) (c : RtlCell) (y : List Source) → c.id ≡ id n → output_bits c ≡ y → IsDrawn id n (n + 1) [] y (one_cell c)
IsDrawn-one_cell id n c y e o =
    IsDrawn-cells id n (n + 1) [] (c ∷ []) [] y
    (fresh_from id n 1 (c.id ∷ []) (fresh_places id n 0 1 (0 ∷ []) (c.id ∷ []) (λ i. (e ∙ ap id (zero_more n)) i ∷ []) refl refl)) tt (λ i. o i ++ []) refl
