-- The drawings of signals and of memories together: ids of their own, inner wires, and one driver for each bit that no event gives.
use Rattle.std.specs.Prelude.{◌≡◌, ◌+◌, ◌*◌, ℕ, List, ◌++◌, map, length, IsPermutation}
use Rattle.std.specs.List.{AllByRecursion, flat_map, range_with_len}
use Rattle.std.proofs.Common.{sym, arith, subst}
use Rattle.std.proofs.lemmas.List.Concat.{flat_map-append}
use Rattle.std.proofs.lemmas.List.Sorted.{IsPermutation-sym, IsPermutation-trans, IsPermutation-append, IsPermutation-append_left, IsPermutation-append_right}
use Rattle.design_ir.specs.Circuits.{Circuit}
use Rattle.design_ir.specs.Designs.{IsDesign}
use Rattle.rtlil_text.specs.Sources.{Source}
use Rattle.rtlil_text.proofs.Among.{AllByRecursion-append}
use Rattle.netlist_laws.specs.Ids.{step_id}
use Rattle.netlist_laws.specs.Module.{driving, signal_drawing, other_drawings}
use Rattle.netlist_laws.specs.MemoryDrawings.{memories_of, all_parts, memory_drawings}
use Rattle.netlist_laws.proofs.Permuted.{IsPermutation-inner_two, IsPermutation-flat_map}
use Rattle.netlist_laws.proofs.Fresh.{AllByRecursion-weaker, IsFresh, IsFresh-append}
use Rattle.netlist_laws.proofs.Drives.{drawing_ids, drawn_bits, own_bits, IsBare}
use Rattle.netlist_laws.proofs.ManyDrawn.{drawing_wires}
use Rattle.netlist_laws.proofs.HiddenWires.{IsHidden, hidden_bare}
use Rattle.netlist_laws.proofs.SignalsDrawn.{read_bits, drawn_signal, signal_bits, signal_bits-parts, signals_drawn}
use Rattle.netlist_laws.proofs.PartsDrawn.{all_given, memories_drawn}
use Rattle.netlist_laws.proofs.ReadWires.{reads_gathered}

-- the first number behind those of all steps
abbrev pub step_total : Circuit → ℕ
step_total c = 3 * length c.pool.signals + 11 * length (all_parts (memories_of c))

pub record AreOthers (c : Circuit) : Type 0 where
  pub fresh : IsFresh step_id 0 (step_total c) (flat_map drawing_ids (other_drawings c))
  pub hidden : AllByRecursion IsHidden (flat_map drawing_wires (other_drawings c))
  pub drives : IsPermutation (flat_map drawn_bits (other_drawings c)) (flat_map (signal_bits c) (range_with_len 0 (length c.pool.signals)) ++ flat_map own_bits (other_drawings c))

-- what signals draw, and what ports give, are the bits of all signals that no event gives
drawn_and_given : (c : Circuit) → IsDesign c
    → IsPermutation (flat_map (drawn_signal c) (range_with_len 0 (length c.pool.signals)) ++ all_given c (all_parts (memories_of c))) (flat_map (signal_bits c) (range_with_len 0 (length c.pool.signals)))
drawn_and_given c design =
    let R = range_with_len 0 (length c.pool.signals) in
    let reads : ℕ → List Source = λ s. read_bits c s (driving c s) in
    let given = all_given c (all_parts (memories_of c)) in
    let all : flat_map (λ s. drawn_signal c s ++ reads s) R ≡ flat_map (signal_bits c) R = λ i. flat_map (λ s. sym (signal_bits-parts c s) i) R in
    IsPermutation-trans (flat_map (drawn_signal c) R ++ given) (flat_map (drawn_signal c) R ++ flat_map reads R) (flat_map (signal_bits c) R)
    (IsPermutation-append_right (flat_map (drawn_signal c) R) given (flat_map reads R) (IsPermutation-sym (flat_map reads R) given (reads_gathered c design)))
    (subst (IsPermutation (flat_map (drawn_signal c) R ++ flat_map reads R)) all (IsPermutation-flat_map (drawn_signal c) reads R))

pub others_drawn : (c : Circuit) → IsDesign c → AreOthers c
others_drawn c design =
    let n = length c.pool.signals in
    let G = map (signal_drawing c) (range_with_len 0 n) in
    let M = memory_drawings c in
    let signals = signals_drawn c 0 n in
    let parts = memories_drawn c design in
    let made = flat_map (drawn_signal c) (range_with_len 0 n) in
    let given = all_given c (all_parts (memories_of c)) in
    let all = flat_map (signal_bits c) (range_with_len 0 n) in
    let high : 3 * (0 + n) ≡ 3 * n = omega arith in
    let first : IsFresh step_id 0 (3 * n) (flat_map drawing_ids G) = subst (λ b. IsFresh step_id 0 b (flat_map drawing_ids G)) high (subst (λ a. IsFresh step_id a (3 * (0 + n)) (flat_map drawing_ids G)) (let z : 3 * 0 ≡ 0 = omega arith in z) signals.fresh) in
    record {
      fresh =
          subst (IsFresh step_id 0 (step_total c)) (sym (flat_map-append drawing_ids G M))
          (IsFresh-append step_id 0 (3 * n) (3 * n) (step_total c) (flat_map drawing_ids G) (flat_map drawing_ids M) (omega arith) (omega arith) (omega arith) first parts.fresh);
      hidden =
          subst (AllByRecursion IsHidden) (sym (flat_map-append drawing_wires G M))
          (AllByRecursion-append IsHidden (flat_map drawing_wires G) (flat_map drawing_wires M) (AllByRecursion-weaker IsBare IsHidden hidden_bare (flat_map drawing_wires G) signals.bare) parts.hidden);
      drives =
          subst (λ u. IsPermutation u (all ++ flat_map own_bits (other_drawings c))) (sym (flat_map-append drawn_bits G M))
          (subst (λ u. IsPermutation (flat_map drawn_bits G ++ flat_map drawn_bits M) (all ++ u)) (sym (flat_map-append own_bits G M))
          (IsPermutation-trans (flat_map drawn_bits G ++ flat_map drawn_bits M) ((made ++ flat_map own_bits G) ++ (given ++ flat_map own_bits M)) (all ++ (flat_map own_bits G ++ flat_map own_bits M))
          (IsPermutation-append (flat_map drawn_bits G) (made ++ flat_map own_bits G) (flat_map drawn_bits M) (given ++ flat_map own_bits M) signals.drives parts.drives)
          (IsPermutation-trans ((made ++ flat_map own_bits G) ++ (given ++ flat_map own_bits M)) ((made ++ given) ++ (flat_map own_bits G ++ flat_map own_bits M)) (all ++ (flat_map own_bits G ++ flat_map own_bits M))
          (IsPermutation-inner_two made (flat_map own_bits G) given (flat_map own_bits M)) (IsPermutation-append_left (flat_map own_bits G ++ flat_map own_bits M) (made ++ given) all (drawn_and_given c design)))));
    }
