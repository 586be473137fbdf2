-- The least width that has a number for each of so many rows.
use Rattle.std.specs.Prelude.{◌≡◌, refl, ℕ, zero, suc, ◌-◌, ◌<◌, ◌≤◌, ◌^◌, Bool, true, false}
use Rattle.std.proofs.Common.{arith, ltb}
use Rattle.std.proofs.lemmas.Bool.{ltb-true, ltb-false}
use Rattle.std.proofs.Math.Nat.{pow-le-pow_right}
use Rattle.design_ir.specs.Designs.{IsAddressWidth}

pub no_width : (depth width : ℕ) → width ≡ 0 → depth ≤ 1 → IsAddressWidth depth width
no_width depth zero e h = record { enough = h; least = λ w k. omega arith }
no_width depth (suc width) e h = absurd (omega (arith, e))

not_narrower : (depth width w : ℕ) → 2 ^ (width - 1) < depth → depth ≤ 2 ^ w → w ≤ width - 1 → ⊥
not_narrower depth width w more h narrow =
    let power : 2 ^ w ≤ 2 ^ (width - 1) = pow-le-pow_right {n = 2} (omega arith) narrow in
    absurd (omega (arith, more, h, power))

pub some_width : (depth width : ℕ) → 1 ≤ width → 2 ^ (width - 1) < depth → depth ≤ 2 ^ width → IsAddressWidth depth width
some_width depth width some more enough = record { enough = enough; least = λ w h. least w h (ltb w width) refl }
  where
    least : (w : ℕ) → depth ≤ 2 ^ w → (b : Bool) → ltb w width ≡ b → width ≤ w
    least w h true e = absurd (not_narrower depth width w more h (let below : w < width = ltb-true w width e in omega (arith, below, some)))
    least w h false e = ltb-false w width e
