-- What a write port leaves of a row, granule by granule.
use Rattle.std.specs.Prelude.{◌≡◌, ℕ, zero, suc, ◌+◌, ◌-◌, ◌*◌, ◌/◌, ◌%◌, ◌^◌, ◌<◌, ◌≤◌, ◌==◌, if◌then◌else◌, bit_and, bit_or, bit_xor, Bool, true, false, IsTrue, pos, negsuc}
use Rattle.std.proofs.Common.{sym, ◌∙◌, ap, arith, subst, ⊎_elim}
use Rattle.std.proofs.lemmas.Bool.{cases_Bool, eqb-true, eq-eqb, false≢true}
use Rattle.std.proofs.lemmas.Nat.{and_le_l, or_lt, xor_lt, or_disjoint, pow_pos, mod_below}
use Rattle.std.proofs.Math.Nat.{mul_comm, mul-div_cancel, div-div-eq-div-mul, div-one, zero-mod}
use Rattle.amh_bits.specs.Integers.{bits_without}
use Rattle.amh_bits.specs.Patterns.{nat_bit, pattern}
use Rattle.amh_bits.proofs.BitsOf.{nat_bit_low, nat_bit_zero, int_bit_and}
use Rattle.amh_bits.proofs.Same.{same_nat}
use Rattle.shape_rules.specs.Forms.{Form, IsForm}
use Rattle.design_ir.specs.declared.ids.ExprId.{ExprId}
use Rattle.design_ir.specs.declared.memory.MemWrite.{MemWrite}
use Rattle.design_ir.specs.declared.memory.Memory.{Memory}
use Rattle.design_ir.specs.Circuits.{Circuit}
use Rattle.design_ir.specs.Designs.{IsGranularity, IsUsableOf}
use Rattle.design_ir.specs.PoolRules.{IsPool}
use Rattle.design_ir.specs.Rows.{granules, enabled}
use Rattle.design_ir.proofs.NumbersFit.{has_shape}
use Rattle.sim_plans.proofs.TargetsInside.{inits, inits_fit}

-- ---- how many there are

module _ (m : Memory) (w : MemWrite) (is : IsGranularity m w.granularity) where
  -- a granule that is not the whole row has bits
  pub some_bits : (w.granularity == m.shape.width) ≡ false → 0 < w.granularity
  some_bits e =
      ⊎_elim
      (λ (same : w.granularity ≡ m.shape.width). absurd (false≢true (sym e ∙ eq-eqb w.granularity m.shape.width same)))
      (λ (h : 0 < w.granularity). h)
      is.some

  -- all of them are the row
  pub fill : w.granularity * granules m w ≡ m.shape.width
  fill =
      ⊎_elim
      (λ (t : (w.granularity == m.shape.width) ≡ true).
      ap (λ b. w.granularity * (if b then 1 else m.shape.width / w.granularity)) t ∙ omega (arith, eqb-true w.granularity m.shape.width t))
      (λ (t : (w.granularity == m.shape.width) ≡ false).
      let many : m.shape.width / w.granularity ≡ is.count = ap (λ n. n / w.granularity) is.divides ∙ mul-div_cancel is.count (some_bits t) in
      ap (λ b. w.granularity * (if b then 1 else m.shape.width / w.granularity)) t ∙ ap (λ n. w.granularity * n) many ∙ mul_comm w.granularity is.count ∙ sym is.divides)
      (cases_Bool (w.granularity == m.shape.width))

-- ---- shapes

narrow : (w : ℕ) (s : Bool) → IsForm w s → w ≤ 128
narrow w false h = h
narrow w true h = h.1

some : (w : ℕ) (s : Bool) → IsForm w s → IsTrue s → 1 ≤ w
some w false h t = absurd (false≢true t)
some w true h t = h.0

module _ (c : Circuit) (rules : IsPool c.pool) where
  form_of : (f : Form) (e : ExprId) → IsUsableOf c f e → IsForm f.width f.signed
  form_of f e is = subst (λ (g : Form). IsForm g.width g.signed) is.shape (has_shape c.pool (inits c.pool.signals) rules (inits_fit c.pool rules) e is.usable.there)

  pub narrow_of : (f : Form) (e : ExprId) → IsUsableOf c f e → f.width ≤ 128
  narrow_of f e is = narrow f.width f.signed (form_of f e is)

  pub some_of : (f : Form) (e : ExprId) → IsUsableOf c f e → IsTrue f.signed → 1 ≤ f.width
  some_of f e is = some f.width f.signed (form_of f e is)

-- ---- the mask

-- all bits
pub ones : (g : ℕ) → pattern g (negsuc 0) ≡ 2 ^ g - 1
ones g = ap (λ n. 2 ^ g - suc n) (zero-mod (2 ^ g))

one_bit : (n k : ℕ) → n < 2 → (if n == 1 then k else 0) ≡ n * k
one_bit zero k h = omega arith
one_bit (suc zero) k h = omega arith
one_bit (suc (suc n)) k h = absurd (omega (arith, h))

halved : (e i : ℕ) → e / 2 ^ i / 2 ≡ e / 2 ^ (suc i)
halved e i =
    let p : 2 ^ i * 2 ≡ 2 ^ (suc i) = omega arith in
    div-div-eq-div-mul e (2 ^ i) 2 ∙ ap (λ n. e / n) p

-- a granule more below those above it
pub enabled_turn : (g count left low bits e : ℕ) → 0 < left → left ≤ count → low ≡ (if e / 2 ^ (left - 1) % 2 == 1 then 2 ^ g - 1 else 0) → bits ≡ enabled g (count - left) (e / 2 ^ left)
    → bits * 2 ^ g + low ≡ enabled g (count - (left - 1)) (e / 2 ^ (left - 1))
enabled_turn g count zero low bits e some le first rest = absurd (omega (arith, some))
enabled_turn g count (suc i) low bits e some le first rest =
    let down : suc i - 1 ≡ i = omega arith in
    let x : ℕ = e / 2 ^ i in
    let at : suc (count - suc i) ≡ count - i = omega (arith, le) in
    let here : low ≡ x % 2 * (2 ^ g - 1) = first ∙ ap (λ n. if e / 2 ^ n % 2 == 1 then 2 ^ g - 1 else 0) down ∙ one_bit (x % 2) (2 ^ g - 1) (mod_below x 2 (omega arith)) in
    let above : bits ≡ enabled g (count - suc i) (x / 2) = rest ∙ ap (enabled g (count - suc i)) (sym (halved e i)) in
    ap (λ n. bits * 2 ^ g + n) here
    ∙ omega (arith, mul_comm bits (2 ^ g))
    ∙ ap (λ b. x % 2 * (2 ^ g - 1) + 2 ^ g * b) above
    ∙ ap (λ n. enabled g n x) at
    ∙ ap (λ n. enabled g (count - n) (e / 2 ^ n)) (sym down)

pub enabled_end : (g count e bits : ℕ) → bits ≡ enabled g (count - 0) (e / 2 ^ 0) → bits ≡ enabled g count e
enabled_end g count e bits h = h ∙ ap (λ n. enabled g n (e / 1)) (let z : count - 0 ≡ count = omega arith in z) ∙ ap (enabled g count) (div-one e)

-- so many granules are no more bits than there are
pub wide_turn : (g count left width : ℕ) → 0 < left → left ≤ count → width ≡ g * (count - left) → g + width ≡ g * (count - (left - 1))
wide_turn g count zero width some le is = absurd (omega (arith, some))
wide_turn g count (suc i) width some le is =
    let at : count - (suc i - 1) ≡ suc (count - suc i) = omega (arith, le) in
    ap (λ n. g + n) is ∙ sym (mul_more g (count - suc i)) ∙ ap (λ n. g * n) (sym at)
  where
    mul_more : (a b : ℕ) → a * suc b ≡ a + a * b
    mul_more a b = mul_comm a (suc b) ∙ omega (arith, mul_comm b a)

pub mul_most : (g a b : ℕ) → a ≤ b → g * a ≤ g * b
mul_most g a b h = omega (arith, mul_comm g a, mul_comm g b, mul_right g a b h)
  where
    mul_right : (g a b : ℕ) → a ≤ b → a * g ≤ b * g
    mul_right g zero b h = omega arith
    mul_right g (suc a) zero h = absurd (omega (arith, h))
    mul_right g (suc a) (suc b) h = omega (arith, mul_right g a b (omega (arith, h)))

-- ---- some bits of a row and the others of a word

apart : (p w m : ℕ) → m < 2 → p * (1 - m) * (w * m) ≡ 0
apart p w zero h = let none : w * 0 ≡ 0 = omega arith in ap (λ x. p * (1 - 0) * x) none ∙ omega arith
apart p w (suc zero) h = let none : p * (1 - 1) ≡ 0 = omega arith in ap (λ x. x * (w * 1)) none ∙ omega arith
apart p w (suc (suc m)) h = absurd (omega arith)

module _ (width p w mask : ℕ) (below : p < 2 ^ width) where
  held_below : bits_without p mask < 2 ^ width
  held_below = xor_lt width p (bit_and p mask) below (omega (arith, and_le_l p mask, below))

  -- what a mask holds back and what it lets through have no bit in common
  none_shared : bit_and (bits_without p mask) (bit_and w mask) ≡ 0
  none_shared =
      let held : ℕ = bits_without p mask in
      let through : ℕ = bit_and w mask in
      same_nat width (bit_and held through) 0 (omega (arith, and_le_l held through, held_below)) (pow_pos width)
      (λ k lt. int_bit_and (pos held) (pos through) k
      ∙ ap (λ x. x * nat_bit through k) (int_bit_and (pos p) (negsuc mask) k)
      ∙ ap (λ x. nat_bit p k * (1 - nat_bit mask k) * x) (int_bit_and (pos w) (pos mask) k)
      ∙ apart (nat_bit p k) (nat_bit w k) (nat_bit mask k) (nat_bit_low mask k)
      ∙ sym (nat_bit_zero k))

  pub merged_is : bit_or (bit_xor p (bit_and p mask)) (bit_and w mask) ≡ bits_without p mask + bit_and w mask
  merged_is = or_disjoint (bits_without p mask) (bit_and w mask) none_shared

  pub merged_below : w < 2 ^ width → bit_or (bit_xor p (bit_and p mask)) (bit_and w mask) < 2 ^ width
  merged_below word = or_lt width (bits_without p mask) (bit_and w mask) held_below (omega (arith, and_le_l w mask, word))
