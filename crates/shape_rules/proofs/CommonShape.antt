-- The common shape is the least one that holds the numbers of both.
use Rattle.std.proofs.Common.{◌≡◌, ℕ, zero, suc, ◌+◌, ◌-◌, ◌*◌, ◌≤◌, ◌<◌, ◌^◌, max, ℤ, pos, negsuc, Bool, true, false, ◌||◌, arith, ⊎_elim}
use Rattle.std.proofs.lemmas.Bool.{cases_lt}
use Rattle.std.proofs.lemmas.Nat.{pow_pos, pow_below, pow-add}
use Rattle.std.proofs.Math.Nat.{pow-le-pow_right}
use Rattle.amh_bits.specs.Patterns.{IsOf}
use Rattle.amh_bits.proofs.InShape.{of_wider, of_signed}
use Rattle.shape_rules.specs.Forms.{Form, Holds, IsForm, common, common_width}

pub common_left : (s t : Bool) (w v : ℕ) (x : ℤ) → IsOf s w x → IsOf (s || t) (common_width s t w v) x
common_left false false w v x f = of_wider false w (max w v) x (omega arith) f
common_left true true w v x f = of_wider true w (max w v) x (omega arith) f
common_left true false w v x f = of_wider true w (max w (v + 1)) x (omega arith) f
common_left false true w v x f = of_signed w (max (w + 1) v) x (omega arith) f

pub common_right : (s t : Bool) (w v : ℕ) (y : ℤ) → IsOf t v y → IsOf (s || t) (common_width s t w v) y
common_right false false w v y f = of_wider false v (max w v) y (omega arith) f
common_right true true w v y f = of_wider true v (max w v) y (omega arith) f
common_right true false w v y f = of_signed v (max w (v + 1)) y (omega arith) f
common_right false true w v y f = of_wider true v (max (w + 1) v) y (omega arith) f

-- a signed common shape has a bit
pub common_some : (s t : Bool) (w v : ℕ) → IsForm w s → IsForm v t → (s || t) ≡ true → 1 ≤ common_width s t w v
common_some false false w v p q e = cc
common_some true true w v p q e = omega (arith, p.0)
common_some true false w v p q e = omega (arith, p.0)
common_some false true w v p q e = omega (arith, q.0)

pub common_holds_left : (a b : Form) → Holds (common a b) a
common_holds_left a b z f = common_left a.signed b.signed a.width b.width z f

pub common_holds_right : (a b : Form) → Holds (common a b) b
common_holds_right a b z f = common_right a.signed b.signed a.width b.width z f

-- ---- no narrower shape holds both: the ends of a shape tell how wide a shape must be that holds it

exponent_le : (w u : ℕ) → 2 ^ w ≤ 2 ^ u → w ≤ u
exponent_le w u h = ⊎_elim (λ below. absurd (omega (arith, pow_below u w below))) (λ le. le) (cases_lt u w)

greatest_unsigned : (w : ℕ) → IsOf false w (pos (2 ^ w - 1))
greatest_unsigned w = omega (arith, pow_pos w)

least_signed : (w : ℕ) → IsOf true (suc w) (negsuc (2 ^ w - 1))
least_signed w = omega (arith, pow_pos w, pow-add 2 1 w)

unsigned_in_unsigned : (w u : ℕ) → ((z : ℤ) → IsOf false w z → IsOf false u z) → w ≤ u
unsigned_in_unsigned w u h = exponent_le w u (omega (arith, h (pos (2 ^ w - 1)) (greatest_unsigned w), pow_pos w))

narrow_absurd : (w u : ℕ) → u < suc (suc w) → 2 * (2 ^ suc w - 1) < 2 ^ u → suc (suc w) ≤ u
narrow_absurd w u below top =
    let p : 2 ^ u ≤ 2 ^ suc w = pow-le-pow_right {n = 2} (omega arith) (omega arith) in
    absurd (omega (arith, pow-add 2 1 w, pow_pos w))

unsigned_in_signed : (w u : ℕ) → 1 ≤ u → ((z : ℤ) → IsOf false w z → IsOf true u z) → suc w ≤ u
unsigned_in_signed zero u some h = some
unsigned_in_signed (suc w) u some h =
    let top : 2 * (2 ^ suc w - 1) < 2 ^ u = h (pos (2 ^ suc w - 1)) (greatest_unsigned (suc w)) in
    ⊎_elim (λ (below : u < suc (suc w)). narrow_absurd w u below top) (λ le. le) (cases_lt u (suc (suc w)))

signed_in_unsigned : (w u : ℕ) → 1 ≤ w → ((z : ℤ) → IsOf true w z → IsOf false u z) → ⊥
signed_in_unsigned zero u some h = absurd (omega arith)
signed_in_unsigned (suc w) u some h = h (negsuc (2 ^ w - 1)) (least_signed w)

signed_in_signed : (w u : ℕ) → 1 ≤ w → ((z : ℤ) → IsOf true w z → IsOf true u z) → w ≤ u
signed_in_signed zero u some h = omega arith
signed_in_signed (suc w) u some h =
    let bottom : 2 * (2 ^ w - 1) + 1 < 2 ^ u = h (negsuc (2 ^ w - 1)) (least_signed w) in
    exponent_le (suc w) u (omega (arith, bottom, pow-add 2 1 w, pow_pos w))

within : (r s t : Bool) (u w v : ℕ) → IsForm u r → IsForm w s → IsForm v t → ((z : ℤ) → IsOf s w z → IsOf r u z) → ((z : ℤ) → IsOf t v z → IsOf r u z) → (z : ℤ) → IsOf (s || t) (common_width s t w v) z → IsOf r u z
within false false false u w v o p q f g z h = of_wider false (max w v) u z (omega (arith, unsigned_in_unsigned w u f, unsigned_in_unsigned v u g)) h
within false true t u w v o p q f g z h = absurd (signed_in_unsigned w u p.0 f)
within false false true u w v o p q f g z h = absurd (signed_in_unsigned v u q.0 g)
within true false false u w v o p q f g z h = of_signed (max w v) u z (omega (arith, unsigned_in_signed w u o.0 f, unsigned_in_signed v u o.0 g)) h
within true true true u w v o p q f g z h = of_wider true (max w v) u z (omega (arith, signed_in_signed w u p.0 f, signed_in_signed v u q.0 g)) h
within true true false u w v o p q f g z h = of_wider true (max w (v + 1)) u z (omega (arith, signed_in_signed w u p.0 f, unsigned_in_signed v u o.0 g)) h
within true false true u w v o p q f g z h = of_wider true (max (w + 1) v) u z (omega (arith, unsigned_in_signed w u o.0 f, signed_in_signed v u q.0 g)) h

pub common_least : (f a b : Form) → IsForm f.width f.signed → IsForm a.width a.signed → IsForm b.width b.signed → Holds f a → Holds f b → Holds f (common a b)
common_least f a b o p q left right = within f.signed a.signed b.signed f.width a.width b.width o p q left right
