use Rattle.std.proofs.Common.{◌≡◌, ◌<◌, ◌∷◌, [], ℕ, List, length, take, Some, slice_get, slice_index_or, sym, ap, ◌∙◌, subst, arith}
use Rattle.std.specs.List.{flat_map}
use Rattle.std.proofs.lemmas.List.{take_all}
use Rattle.std.proofs.lemmas.Option.{slice_get-get_or}
use Rattle.design_ir.specs.declared.ids.ExprId.{ExprId}
use Rattle.design_ir.specs.Named.{AllBelow}
use Rattle.design_ir.specs.Targets.{signals_step, target_signals}
use Rattle.design_ir.proofs.Equations.{standing}
use Rattle.fragment_walks.specs.Marks.{marked}
use Rattle.fragment_walks.proofs.Lists.{below_at}
use Rattle.fragment_walks.proofs.Outs.{target_signals_is}
use Rattle.domain_transforms.proofs.DrivenLaws.{items_turn, joined_below, joined_signals, other_signals, read_below, read_signals, size_after}
use Rattle.domain_transforms.proofs.driven.+mark_target.Goals as goal

pub index_mut-requires : goal.index_mut-requires
index_mut-requires t c =
    let p = c.args.pool.now in
    let there = (standing p c.args.target.0 c.at.result.now c.count.ensures.rules c.at.ensures).askable.parts in
    let h : c.in-Sig.s.0 < length p.signals = rw c.in-Sig.is at there in
    omega (arith, h, c.count.ensures.rules.few_signals, c.requires.size)

pub mark_target-requires : goal.mark_target-requires
mark_target-requires t c =
    let p = c.args.pool.now in
    let e = c.at.result.now in
    let items = c.as_slice-e-items.result.now in
    let names = (standing p c.args.target.0 e c.count.ensures.rules c.at.ensures).names in
    let below : AllBelow c.args.target.0 items = subst (AllBelow c.args.target.0) (sym c.as_slice-e-items.ensures) (joined_below c.args.target.0 e c.in-Cat.items c.in-Cat.is names) in
    let h = below_at c.args.target.0 items c.loop-e.e-index (record { 0 = 0 }) below c.loop-e-test.true in (
      omega (arith, h, c.decreases),
      (size_after (flat_map (λ (x : ExprId). target_signals p x.0) (take c.loop-e.e-index items)) c.args.marks.now.items c.loop-e.marks.items c.loop-e.invariant c.requires.size, omega (arith, h, c.requires.there)),
    )

pub mark_target-requires-in-Slice : goal.mark_target-requires-in-Slice
mark_target-requires-in-Slice t c =
    let e = c.at.result.now in
    let h = read_below c.args.target.0 e c.in-Slice.a c.in-Slice.is (standing c.args.pool.now c.args.target.0 e c.count.ensures.rules c.at.ensures).names in
    (omega (arith, h, c.decreases), (c.requires.size, omega (arith, h, c.requires.there)))

pub loop-e-preserved : goal.loop-e-preserved
loop-e-preserved t c =
    let p = c.args.pool.now in
    let items = c.as_slice-e-items.result.now in
    let i = c.loop-e.e-index in
    let x : ExprId = slice_index_or items i (record { 0 = 0 }) in
    let at : slice_get items i ≡ Some x = slice_get-get_or items i (record { 0 = 0 }) c.loop-e-test.true in
    items_turn p items i x c.args.marks.now.items c.loop-e.marks.items c.mark_target.new.marks.items at c.loop-e.invariant c.mark_target.ensures

pub returns-in-Sig : goal.returns-in-Sig
returns-in-Sig t c =
    let p = c.args.pool.now in
    let step : target_signals p c.args.target.0 ≡ c.in-Sig.s.0 ∷ [] = target_signals_is p c.args.target.0 c.at.result.now c.count.ensures.rules c.at.ensures ∙ ap (signals_step (target_signals p)) c.in-Sig.is in
    ap (λ (ns : List ℕ). marked ns c.args.marks.now.items) (sym step)

pub returns-in-Slice : goal.returns-in-Slice
returns-in-Slice t c =
    let p = c.args.pool.now in
    let step = target_signals_is p c.args.target.0 c.at.result.now c.count.ensures.rules c.at.ensures ∙ read_signals (target_signals p) c.at.result.now c.in-Slice.a c.in-Slice.is in
    c.mark_target-in-Slice.ensures ∙ ap (λ (ns : List ℕ). marked ns c.args.marks.now.items) (sym step)

pub returns-after-loop-e : goal.returns-after-loop-e
returns-after-loop-e t c =
    let p = c.args.pool.now in
    let items = c.as_slice-e-items.result.now in
    let step = target_signals_is p c.args.target.0 c.at.result.now c.count.ensures.rules c.at.ensures ∙ joined_signals (target_signals p) c.at.result.now c.in-Cat.items c.in-Cat.is in
    let all = ap (flat_map (λ (x : ExprId). target_signals p x.0)) (take_all c.loop-e.e-index items c.loop-e-test.false ∙ c.as_slice-e-items.ensures) in
    c.loop-e.invariant ∙ ap (λ (ns : List ℕ). marked ns c.args.marks.now.items) (all ∙ sym step)

pub returns-in_default : goal.returns-in_default
returns-in_default t c =
    let p = c.args.pool.now in
    let d = c.in_default in
    let step = target_signals_is p c.args.target.0 c.at.result.now c.count.ensures.rules c.at.ensures ∙ other_signals (target_signals p) c.at.result.now d.not-Sig d.not-Slice d.not-Cat d.not-Part d.not-Pick d.not-Cast in
    ap (λ (ns : List ℕ). marked ns c.args.marks.now.items) (sym step)
