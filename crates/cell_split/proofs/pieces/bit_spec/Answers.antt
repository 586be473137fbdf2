use Rattle.std.proofs.Common.{◌≡◌, ◌<◌, ◌+◌, ◌-◌, ℕ, length, drop, subst, arith}
use Rattle.rtlil_text.specs.Sources.{spec_bits}
use Rattle.cell_split.proofs.PieceCode.{bit_found, bit_nowhere}
use Rattle.cell_split.proofs.pieces.bit_spec.Goals as goal

pub returns-then-left-width : goal.returns-then-left-width
returns-then-left-width c =
    let spec = c.args.spec.now in
    let k : ℕ = c.loop-above.above - 1 in
    let next : c.loop-above.above ≡ k + 1 = omega (arith, c.loop-above-test.true) in
    let within : k < length spec = omega (arith, c.loop-above-test.true, c.loop-above.invariant.within) in
    let passed : length (spec_bits (drop (k + 1) spec)) + c.loop-above.left ≡ c.args.place =
    subst (λ (j : ℕ). length (spec_bits (drop j spec)) + c.loop-above.left ≡ c.args.place) next c.loop-above.invariant.passed in
    bit_found spec k c.args.place c.loop-above.left c.get-part.result.now c.in_ok-bit_part.field-0 c.loop-above.bit c.push.new.self within c.get-part.ensures.lookup passed
    (omega (arith, c.if-left-width.true, c.part_width-width.ensures)) c.in_ok-bit_part.ensures c.loop-above.invariant.empty c.in_ok-push.ensures.ok

pub returns : goal.returns
returns c =
    let none : c.loop-above.above ≡ 0 = omega (arith, c.loop-above-test.false) in
    bit_nowhere c.args.spec.now c.loop-above.above c.args.place c.loop-above.left c.loop-above.bit none c.loop-above.invariant.passed c.loop-above.invariant.empty
