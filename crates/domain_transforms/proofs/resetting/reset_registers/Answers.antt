use Rattle.std.proofs.Common.{◌≡◌, ◌<◌, ◌++◌, Bool, false, cond, Some, None, slice_get, length, refl, arith, ◌∙◌, ap, sym, subst}
use Rattle.std.specs.Prelude.{option_to_list}
use Rattle.std.specs.List.{AllByRecursion, range_with_len}
use Rattle.std.proofs.lemmas.Option.{slice_get_read, get_or_from_slice_get}
use Rattle.design_ir.specs.Circuits.{is_among}
use Rattle.design_ir.specs.Guards.{driven}
use Rattle.domain_transforms.specs.Placed.{IsInitial}
use Rattle.domain_transforms.specs.Resetting.{place_from, register_of, reset_register}
use Rattle.domain_transforms.proofs.RegisterLaws.{all_initial, registers_turn, registers_whole}
use Rattle.domain_transforms.proofs.resetting.reset_registers.Goals as goal

pub loop-s-preserved : goal.loop-s-preserved
loop-s-preserved c =
    let q = c.args.pool.now in
    let body = c.args.body.now in
    let s = c.loop-s.s in
    let marks = c.in_ok-marks.marks.items in
    let inside : s < length marks = omega (arith, c.loop-s-test.true, c.in_ok-marks.ensures.size) in
    let at : slice_get marks s ≡ Some c.index.result.now = slice_get_read marks (length marks) s c.index.result.now refl inside c.index.ensures in
    let is : c.index.result.now ≡ is_among (driven q body) s = sym (get_or_from_slice_get marks s c.index.result.now false at) ∙ c.in_ok-marks.ensures.each s in
    let register = c.reset_register-register.ensures ∙ ap (λ (b : Bool). cond b (register_of (place_from s 0 q.exprs) (slice_get q.signals s)) None) is in
    registers_turn (reset_register q body) s c.loop-s.registers.items c.add_register.new.registers.items c.loop-s.invariant (c.in_ok-add_register.ensures ∙ ap (λ o. c.loop-s.registers.items ++ option_to_list o) register)

pub returns-clause-registers : goal.returns-clause-registers
returns-clause-registers c = c.loop-s.invariant ∙ registers_whole c.args.pool.now c.args.body.now c.loop-s.s c.count.ensures.rules (omega (arith, c.loop-s-test.false))

pub returns-clause-initial : goal.returns-clause-initial
returns-clause-initial c = subst (AllByRecursion IsInitial) (sym c.loop-s.invariant) (all_initial c.args.pool.now c.args.body.now (range_with_len 0 c.loop-s.s) c.count.ensures.rules)
