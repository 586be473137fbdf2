-- The bits of an enable at the end of a write cell.
use Rattle.std.proofs.Common.{◌≡◌, ◌≤◌, ◌<◌, ◌+◌, ◌-◌, ◌*◌, ◌/◌, ◌%◌, ◌==◌, ℕ, zero, suc, List, [], ◌∷◌, ◌++◌, length, replicate, refl, sym, ap, ◌∙◌, arith, ⊎_elim, append_assoc, append-nil}
use Rattle.std.specs.Prelude.{Some, slice_get, option_and_then}
use Rattle.std.specs.List.{flat_map}
use Rattle.std.proofs.lemmas.Bool.{cases_lt}
use Rattle.std.proofs.Math.Nat.{mul-suc}
use Rattle.design_ir.proofs.Elements.{get_append_left, get_append_right}
use Rattle.rtlil_text.specs.declared.sig.SigPart.{SigPart}
use Rattle.rtlil_text.specs.declared.sig.SigPart.TheVariants as parts
use Rattle.rtlil_text.specs.Sources.{Source, Net, part_bits, spec_bits}
use Rattle.rtlil_text.specs.Cells.{bit_at, number_bits}
use Rattle.rtlil_text.specs.Meaning.{source_value}
use Rattle.rtlil_text.specs.History.{Wires}
use Rattle.memory_cells.specs.Bits.{is_set}
use Rattle.memory_cells.specs.Cells.{spread_spec}
use Rattle.memory_cells.specs.Laws.{SpreadsCarry}
use Rattle.memory_cells.proofs.Disjoint.{half_bit, first_bit}
use Rattle.memory_cells.proofs.Enables.{length-replicate, get-replicate, spread}

-- ---- bits of specs

spec_bits-append : (high low : List SigPart) → spec_bits (high ++ low) ≡ spec_bits low ++ spec_bits high
spec_bits-append [] low = sym (append-nil (spec_bits low))
spec_bits-append (p ∷ high) low = ap (λ b. b ++ part_bits p) (spec_bits-append high low) ∙ append_assoc (spec_bits low) (spec_bits high) (part_bits p)

replicate-snoc : {A : Type 0} (a : A) (n : ℕ) → replicate n a ++ (a ∷ []) ≡ a ∷ replicate n a
replicate-snoc a zero = refl
replicate-snoc a (suc n) = ap (λ s. a ∷ s) (replicate-snoc a n)

spec_bits-replicate : (id : List ℕ) (place n : ℕ) → spec_bits (replicate n (parts.Wire id place 1)) ≡ replicate n (Net id place)
spec_bits-replicate id place zero = refl
spec_bits-replicate id place (suc n) = ap (λ s. s ++ (Net id place ∷ [])) (spec_bits-replicate id place n) ∙ replicate-snoc (Net id place) n

-- the bits of an enable from place i on, the lowest first
nets_from : List ℕ → (g i n : ℕ) → List Source
nets_from id g i zero = []
nets_from id g i (suc n) = replicate g (Net id i) ++ nets_from id g (i + 1) n

nets-last : (id : List ℕ) (g i n : ℕ) → nets_from id g i (suc n) ≡ nets_from id g i n ++ replicate g (Net id (i + n))
unfolding nets_from
nets-last id g i zero = append-nil (replicate g (Net id i)) ∙ ap (λ j. replicate g (Net id j)) (let e : i ≡ i + 0 = omega arith in e)
nets-last id g i (suc n) =
    ap (λ r. replicate g (Net id i) ++ r) (nets-last id g (i + 1) n ∙ ap (λ j. nets_from id g (i + 1) n ++ replicate g (Net id j)) (let e : (i + 1) + n ≡ i + suc n = omega arith in e))
    ∙ sym (append_assoc (replicate g (Net id i)) (nets_from id g (i + 1) n) (replicate g (Net id (i + suc n))))

spread-nets : (id : List ℕ) (g n : ℕ) → spec_bits (spread_spec id g n) ≡ nets_from id g 0 n
unfolding nets_from
spread-nets id g zero = refl
spread-nets id g (suc n) =
    spec_bits-append (replicate g (parts.Wire id n 1)) (spread_spec id g n)
    ∙ (λ i. spread-nets id g n i ++ spec_bits-replicate id n g i)
    ∙ ap (λ j. nets_from id g 0 n ++ replicate g (Net id j)) (let e : n ≡ 0 + n = omega arith in e)
    ∙ sym (nets-last id g 0 n)

-- ---- their values

HasFrom : Wires → List ℕ → (i n e : ℕ) → Type 0
HasFrom wires id i n e = (j : ℕ) → j < n → wires id (i + j) ≡ Some (is_set e j)

value_at : (wires : Wires) (id : List ℕ) (g i n e k : ℕ) → HasFrom wires id i (suc n) e → k < g * suc n
    → ((j : ℕ) → j < g * n → bit_at (source_value wires) (nets_from id g (i + 1) n) j ≡ slice_get (flat_map (λ b. replicate g b) (number_bits n (e / 2))) j)
    → bit_at (source_value wires) (replicate g (Net id i) ++ nets_from id g (i + 1) n) k ≡ slice_get (replicate g (e % 2 == 1) ++ flat_map (λ b. replicate g b) (number_bits n (e / 2))) k
unfolding HasFrom
value_at wires id g i n e k has h more = ⊎_elim low high (cases_lt k g)
  where
    low : k < g → bit_at (source_value wires) (replicate g (Net id i) ++ nets_from id g (i + 1) n) k ≡ slice_get (replicate g (e % 2 == 1) ++ flat_map (λ b. replicate g b) (number_bits n (e / 2))) k
    low l =
        ap (option_and_then (source_value wires)) (get_append_left (replicate g (Net id i)) (nets_from id g (i + 1) n) k (Net id i) (get-replicate g k (Net id i) l))
        ∙ ap (wires id) (let z : i ≡ i + 0 = omega arith in z)
        ∙ has 0 (omega arith)
        ∙ ap (λ b. Some (b == 1)) (first_bit e)
        ∙ sym (get_append_left (replicate g (e % 2 == 1)) (flat_map (λ b. replicate g b) (number_bits n (e / 2))) k (e % 2 == 1) (get-replicate g k (e % 2 == 1) l))

    high : g ≤ k → bit_at (source_value wires) (replicate g (Net id i) ++ nets_from id g (i + 1) n) k ≡ slice_get (replicate g (e % 2 == 1) ++ flat_map (λ b. replicate g b) (number_bits n (e / 2))) k
    high l =
        let j : ℕ = k - g in
        let xs = replicate g (Net id i) in
        let ys = nets_from id g (i + 1) n in
        let us = replicate g (e % 2 == 1) in
        let vs = flat_map (λ b. replicate g b) (number_bits n (e / 2)) in
        let long = length-replicate g (Net id i) in
        let wide = length-replicate g (e % 2 == 1) in
        let size = mul-suc g n in
        let behind : k ≡ length xs + j = omega (arith, l, long) in
        let beside : length us + j ≡ k = omega (arith, l, wide) in
        ap (bit_at (source_value wires) (xs ++ ys)) behind
        ∙ ap (option_and_then (source_value wires)) (get_append_right xs ys j)
        ∙ more j (omega (arith, h, l, size))
        ∙ sym (get_append_right us vs j)
        ∙ ap (slice_get (us ++ vs)) beside

values_from : (wires : Wires) (id : List ℕ) (g i n e : ℕ) → HasFrom wires id i n e → (k : ℕ) → k < g * n → bit_at (source_value wires) (nets_from id g i n) k ≡ slice_get (flat_map (λ b. replicate g b) (number_bits n e)) k
unfolding HasFrom nets_from
values_from wires id g i zero e has k h = absurd (omega (arith, h))
values_from wires id g i (suc n) e has k h =
    value_at wires id g i n e k has h
    (values_from wires id g (i + 1) n (e / 2) (λ j q. ap (wires id) (let z : (i + 1) + j ≡ i + suc j = omega arith in z) ∙ has (suc j) (omega (arith, q)) ∙ ap (λ b. Some (b == 1)) (sym (half_bit e j))))

pub spreads_carry : SpreadsCarry
unfolding HasFrom
spreads_carry wires id g count e k has h =
    ap (λ bits. bit_at (source_value wires) bits k) (spread-nets id g count)
    ∙ values_from wires id g 0 count e (λ j q. ap (wires id) (let z : 0 + j ≡ j = omega arith in z) ∙ has j q) k h
    ∙ spread g count e k h
