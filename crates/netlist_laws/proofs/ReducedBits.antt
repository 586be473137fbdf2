-- One bit from all bits of a number, by the number: whether one is set, whether all are, and how many are.
use Rattle.std.proofs.Common.{◌≡◌, ℕ, zero, suc, ◌+◌, ◌-◌, ◌*◌, ◌^◌, ◌%◌, ◌==◌, Bool, true, false, cond, not, List, [], ◌∷◌, length, refl, sym, ◌∙◌, ap, arith, ℤ, pos, negsuc, count_ones, ⊎_elim}
use lib.Count.{ones}
use Rattle.std.specs.List.{list_any, list_all}
use Rattle.std.proofs.lemmas.Bool.{ne_eqb, eq-eqb, cases_eq}
use Rattle.std.proofs.lemmas.Nat.{pow_pos, pow-add, ones_cat, mod_below}
use Rattle.std.proofs.Math.Nat.{mod-eq_of_lt}
use Rattle.amh_bits.specs.Patterns.{pattern, IsOf}
use Rattle.amh_bits.proofs.Reductions.{zero_pattern}
use Rattle.amh_bits.proofs.Wraps.{pattern_below}
use Rattle.shape_rules.specs.Operators.{is_zero}
use Rattle.rtlil_text.specs.Cells.{bits_number, number_bits, parity, xor}
use Rattle.rtlil_text.proofs.CellLaws.{bits_number-number_bits, length-number_bits}

-- two tests of numbers that hold together
pub same_tests : (a b c d : ℕ) → (a ≡ b → c ≡ d) → (c ≡ d → a ≡ b) → (a == b) ≡ (c == d)
same_tests a b c d f g =
    ⊎_elim (λ (e : a ≡ b). eq-eqb a b e ∙ sym (eq-eqb c d (f e))) (λ (n : a ≡ b → ⊥). ne_eqb a b n ∙ sym (ne_eqb c d (λ e. n (g e)))) (cases_eq a b)

any-bits : (bits : List Bool) → list_any (λ b. b) bits ≡ not (bits_number bits == 0)
any-bits [] = refl
any-bits (true ∷ bits) = ap not (sym (ne_eqb (1 + 2 * bits_number bits) 0 (λ e. omega arith)))
any-bits (false ∷ bits) = any-bits bits ∙ ap not (same_tests (bits_number bits) 0 (0 + 2 * bits_number bits) 0 (λ e. omega arith) (λ e. omega arith))

all-bits : (bits : List Bool) → list_all (λ b. b) bits ≡ (bits_number bits == 2 ^ length bits - 1)
all-bits [] = refl
all-bits (true ∷ bits) =
    let p : 2 ^ suc (length bits) ≡ 2 * 2 ^ length bits = omega (arith, pow-add 2 1 (length bits)) in
    all-bits bits ∙ same_tests (bits_number bits) (2 ^ length bits - 1) (1 + 2 * bits_number bits) (2 ^ suc (length bits) - 1) (λ e. omega (arith, pow_pos (length bits))) (λ e. omega (arith, pow_pos (length bits)))
all-bits (false ∷ bits) =
    let p : 2 ^ suc (length bits) ≡ 2 * 2 ^ length bits = omega (arith, pow-add 2 1 (length bits)) in
    sym (ne_eqb (0 + 2 * bits_number bits) (2 ^ suc (length bits) - 1) (λ e. omega (arith, pow_pos (length bits))))

ones_one : (b : Bool) (m : ℕ) → count_ones (cond b 1 0 + 2 * m) ≡ count_ones m + cond b 1 0
unfolding ones
ones_one true m = ap count_ones (let e : 1 + 2 * m ≡ m * 2 ^ 1 + 1 = omega arith in e) ∙ ones_cat 1 m 1 (omega arith)
ones_one false m = ap count_ones (let e : 0 + 2 * m ≡ m * 2 ^ 1 + 0 = omega arith in e) ∙ ones_cat 1 m 0 (omega arith)

odd_next : (n : ℕ) → (n % 2 ≡ 1 → ⊥) → (n + 1) % 2 ≡ 1
odd_next n ne = omega (arith, ne, mod_below n 2 (omega arith))

odd_more : (b : Bool) (n : ℕ) → xor b (n % 2 == 1) ≡ ((n + cond b 1 0) % 2 == 1)
odd_more true n =
    ⊎_elim (λ (e : n % 2 ≡ 1). ap not (eq-eqb (n % 2) 1 e) ∙ sym (ne_eqb ((n + 1) % 2) 1 (λ d. omega arith))) (λ (ne : n % 2 ≡ 1 → ⊥). ap not (ne_eqb (n % 2) 1 ne) ∙ sym (eq-eqb ((n + 1) % 2) 1 (odd_next n ne))) (cases_eq (n % 2) 1)
odd_more false n = ap (λ m. m % 2 == 1) (let e : n ≡ n + 0 = omega arith in e)

parity-bits : (bits : List Bool) → parity bits ≡ (count_ones (bits_number bits) % 2 == 1)
unfolding ones
parity-bits [] = refl
parity-bits (b ∷ bits) = ap (xor b) (parity-bits bits) ∙ odd_more b (count_ones (bits_number bits)) ∙ ap (λ m. m % 2 == 1) (sym (ones_one b (bits_number bits)))

-- ---- of the bits of an integer

number_of_pattern : (width : ℕ) (x : ℤ) → bits_number (number_bits width (pattern width x)) ≡ pattern width x
number_of_pattern width x = bits_number-number_bits width (pattern width x) ∙ mod-eq_of_lt (pattern_below width x)

pub pattern-is_zero : (s : Bool) (width : ℕ) (x : ℤ) → IsOf s width x → (pattern width x == 0) ≡ is_zero x
pattern-is_zero s width (pos zero) f = eq-eqb (0 % 2 ^ width) 0 (mod-eq_of_lt (pow_pos width))
pattern-is_zero s width (pos (suc n)) f = ne_eqb (pattern width (pos (suc n))) 0 (λ e. let d = zero_pattern s width (pos (suc n)) f e in cc)
pattern-is_zero s width (negsuc n) f = ne_eqb (pattern width (negsuc n)) 0 (λ e. let d = zero_pattern s width (negsuc n) f e in cc)

pub any-pattern : (s : Bool) (width : ℕ) (x : ℤ) → IsOf s width x → list_any (λ b. b) (number_bits width (pattern width x)) ≡ not (is_zero x)
any-pattern s width x f = any-bits (number_bits width (pattern width x)) ∙ ap (λ n. not (n == 0)) (number_of_pattern width x) ∙ ap not (pattern-is_zero s width x f)

pub all-pattern : (width : ℕ) (x : ℤ) → list_all (λ b. b) (number_bits width (pattern width x)) ≡ (pattern width x == 2 ^ width - 1)
all-pattern width x =
    all-bits (number_bits width (pattern width x)) ∙ ap (λ n. n == 2 ^ length (number_bits width (pattern width x)) - 1) (number_of_pattern width x)
    ∙ ap (λ w. pattern width x == 2 ^ w - 1) (length-number_bits width (pattern width x))

pub parity-pattern : (width : ℕ) (x : ℤ) → parity (number_bits width (pattern width x)) ≡ (count_ones (pattern width x) % 2 == 1)
parity-pattern width x = parity-bits (number_bits width (pattern width x)) ∙ ap (λ n. count_ones n % 2 == 1) (number_of_pattern width x)
