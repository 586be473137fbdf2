use Rattle.std.proofs.Common.{sym, ap, ◌∙◌, subst, arith}
use Rattle.std.specs.List.{list_all}
use Rattle.std.proofs.lemmas.List.{take_all}
use Rattle.design_ir.specs.declared.ids.ExprId.{ExprId}
use Rattle.design_ir.specs.Named.{named, AllBelow}
use Rattle.design_ir.specs.Fixed.{is_fixed, fixed_step}
use Rattle.design_ir.proofs.Equations.{standing}
use Rattle.flat_design.proofs.FoundLaws.{below_get}
use Rattle.flat_design.proofs.FixedLaws.{is_fixed_is, read_fixed, read_of_below, other_fixed, one_not_fixed}
use Rattle.flat_design.proofs.plain.+is_fixed.Goals as goal

pub is_fixed-requires : goal.is_fixed-requires
is_fixed-requires t c =
    let p = c.args.design.now.pool in
    let names : AllBelow c.args.target.0 c.in-Cat.items = subst (λ e. AllBelow c.args.target.0 (named e)) c.in-Cat.is (standing p c.args.target.0 c.at.result.now c.count.ensures.rules c.at.ensures).names in
    let items : AllBelow c.args.target.0 c.as_slice-e-items.result.now = subst (AllBelow c.args.target.0) (sym c.as_slice-e-items.ensures) names in
    let h = below_get c.args.target.0 c.as_slice-e-items.result.now c.loop-e.e-index (record { 0 = 0 }) items c.loop-e-test.true in
    (omega (arith, h, c.decreases), omega (arith, h, c.requires))

pub is_fixed-requires-in-Slice : goal.is_fixed-requires-in-Slice
is_fixed-requires-in-Slice t c =
    let e = c.at.result.now in
    let h = read_of_below c.args.target.0 e c.in-Slice.a c.in-Slice.is (standing c.args.design.now.pool c.args.target.0 e c.count.ensures.rules c.at.ensures).names in
    (omega (arith, h, c.decreases), omega (arith, h, c.requires))

pub returns-in-Sig : goal.returns-in-Sig
returns-in-Sig t c =
    let p = c.args.design.now.pool in
    sym (is_fixed_is p c.args.target.0 c.at.result.now c.count.ensures.rules c.at.ensures ∙ ap (fixed_step (is_fixed p)) c.in-Sig.is)

pub returns-in-Slice : goal.returns-in-Slice
returns-in-Slice t c =
    let p = c.args.design.now.pool in
    c.is_fixed-in-Slice.ensures ∙ sym (is_fixed_is p c.args.target.0 c.at.result.now c.count.ensures.rules c.at.ensures ∙ read_fixed (is_fixed p) c.at.result.now c.in-Slice.a c.in-Slice.is)

pub returns-then-not-is_fixed : goal.returns-then-not-is_fixed
returns-then-not-is_fixed t c =
    let p = c.args.design.now.pool in
    let items = c.as_slice-e-items.result.now in
    let none = one_not_fixed (is_fixed p) items c.loop-e.e-index (record { 0 = 0 }) c.loop-e-test.true (sym c.if-not-is_fixed.ensures) in
    sym (is_fixed_is p c.args.target.0 c.at.result.now c.count.ensures.rules c.at.ensures ∙ ap (fixed_step (is_fixed p)) c.in-Cat.is ∙ ap (list_all (λ (e : ExprId). is_fixed p e.0)) (sym c.as_slice-e-items.ensures) ∙ none)

pub returns-after-loop-e : goal.returns-after-loop-e
returns-after-loop-e t c =
    let p = c.args.design.now.pool in
    let items = c.as_slice-e-items.result.now in
    let all = take_all c.loop-e.e-index items c.loop-e-test.false ∙ c.as_slice-e-items.ensures in
    sym (is_fixed_is p c.args.target.0 c.at.result.now c.count.ensures.rules c.at.ensures ∙ ap (fixed_step (is_fixed p)) c.in-Cat.is ∙ ap (list_all (λ (e : ExprId). is_fixed p e.0)) (sym all) ∙ c.loop-e.invariant)

pub returns-in_default : goal.returns-in_default
returns-in_default t c =
    let p = c.args.design.now.pool in
    let d = c.in_default in
    sym (is_fixed_is p c.args.target.0 c.at.result.now c.count.ensures.rules c.at.ensures ∙ other_fixed (is_fixed p) c.at.result.now d.not-Sig d.not-Slice d.not-Cat d.not-Cast)
