use Rattle.std.proofs.Common.{◌≡◌, ◌<◌, ◌+◌, ◌++◌, ◌∷◌, [], ℕ, List, length, take, sym, ap, ◌∙◌, subst, arith, append_assoc, append-nil}
use Rattle.std.specs.Prelude.{IfOk, slice_index_or}
use Rattle.std.specs.List.{flat_map}
use Rattle.std.proofs.lemmas.List.{take_all}
use Rattle.design_ir.specs.declared.ids.ExprId.{ExprId}
use Rattle.design_ir.specs.Named.{AllBelow}
use Rattle.design_ir.specs.Targets.{signals_step, target_signals}
use Rattle.design_ir.proofs.Equations.{standing}
use Rattle.flat_design.specs.Found.{AreFound}
use Rattle.flat_design.proofs.FoundLaws.{target_signals_is, items_more, joined_signals, joined_below, below_get, read_signals, read_below, other_signals, found_as}
use Rattle.flat_design.proofs.found.+add_target.Goals as goal

pub add_signal-requires : goal.add_signal-requires
add_signal-requires t c =
    let p = c.args.design.now.pool in
    let there = (standing p c.args.target.0 c.at.result.now c.count.ensures.rules c.at.ensures).askable.parts in
    let h : c.in-Sig.s.0 < length p.signals = rw c.in-Sig.is at there in
    omega (arith, h, c.requires.found.1.size)

pub add_target-requires : goal.add_target-requires
add_target-requires t c =
    let p = c.args.design.now.pool in
    let e = c.at.result.now in
    let names = (standing p c.args.target.0 e c.count.ensures.rules c.at.ensures).names in
    let items : AllBelow c.args.target.0 c.as_slice-e-items.result.now = subst (AllBelow c.args.target.0) (sym c.as_slice-e-items.ensures) (joined_below c.args.target.0 e c.in-Cat.items c.in-Cat.is names) in
    let h = below_get c.args.target.0 c.as_slice-e-items.result.now c.loop-e.e-index (record { 0 = 0 }) items c.loop-e-test.true in
    (omega (arith, h, c.decreases), (omega (arith, h, c.requires.there), (c.requires.found.0 ++ flat_map (λ (x : ExprId). target_signals p x.0) (take c.loop-e.e-index c.as_slice-e-items.result.now), c.loop-e.invariant c.requires.found.0 c.requires.found.1)))

pub add_target-requires-in-Slice : goal.add_target-requires-in-Slice
add_target-requires-in-Slice t c =
    let e = c.at.result.now in
    let h = read_below c.args.target.0 e c.in-Slice.a c.in-Slice.is (standing c.args.design.now.pool c.args.target.0 e c.count.ensures.rules c.at.ensures).names in
    (omega (arith, h, c.decreases), (omega (arith, h, c.requires.there), (c.requires.found.0, c.requires.found.1)))

pub loop-e-preserved : goal.loop-e-preserved
loop-e-preserved t c = λ ss h.
    let p = c.args.design.now.pool in
    let items = c.as_slice-e-items.result.now in
    let i = c.loop-e.e-index in
    let before : List ℕ = flat_map (λ (x : ExprId). target_signals p x.0) (take i items) in
    let own : List ℕ = target_signals p (slice_index_or items i (record { 0 = 0 })).0 in
    found_as (length p.signals) ((ss ++ before) ++ own) (ss ++ flat_map (λ (x : ExprId). target_signals p x.0) (take (i + 1) items)) c.add_target.new.found.marks.items c.add_target.new.found.signals
    (append_assoc ss before own ∙ ap (λ xs. ss ++ xs) (sym (items_more (target_signals p) items i (record { 0 = 0 }) c.loop-e-test.true)))
    (c.in_ok-add_target-in-Cat.ensures (ss ++ before) (c.loop-e.invariant ss h))

pub returns-in-Sig : goal.returns-in-Sig
returns-in-Sig t c = λ ss h.
    let p = c.args.design.now.pool in
    let new = c.add_signal.new.found in
    let step : target_signals p c.args.target.0 ≡ c.in-Sig.s.0 ∷ [] = target_signals_is p c.args.target.0 c.at.result.now c.count.ensures.rules c.at.ensures ∙ ap (signals_step (target_signals p)) c.in-Sig.is in
    subst (λ xs. IfOk c.add_signal.result (λ x. AreFound (length p.signals) (ss ++ xs) new.marks.items new.signals)) (sym step) (c.add_signal.ensures (length p.signals) ss h)

pub returns-in-Slice : goal.returns-in-Slice
returns-in-Slice t c = λ ss h.
    let p = c.args.design.now.pool in
    let new = c.add_target-in-Slice.new.found in
    let step = target_signals_is p c.args.target.0 c.at.result.now c.count.ensures.rules c.at.ensures ∙ read_signals (target_signals p) c.at.result.now c.in-Slice.a c.in-Slice.is in
    subst (λ xs. IfOk c.add_target-in-Slice.result (λ x. AreFound (length p.signals) (ss ++ xs) new.marks.items new.signals)) (sym step) (c.add_target-in-Slice.ensures ss h)

pub returns-after-loop-e : goal.returns-after-loop-e
returns-after-loop-e t c = λ ss h.
    let p = c.args.design.now.pool in
    let items = c.as_slice-e-items.result.now in
    let step = target_signals_is p c.args.target.0 c.at.result.now c.count.ensures.rules c.at.ensures ∙ joined_signals (target_signals p) c.at.result.now c.in-Cat.items c.in-Cat.is in
    let all = ap (flat_map (λ (x : ExprId). target_signals p x.0)) (take_all c.loop-e.e-index items c.loop-e-test.false ∙ c.as_slice-e-items.ensures) in
    subst (λ xs. AreFound (length p.signals) (ss ++ xs) c.loop-e.found.marks.items c.loop-e.found.signals) (all ∙ sym step) (c.loop-e.invariant ss h)

pub returns-in_default : goal.returns-in_default
returns-in_default t c = λ ss h.
    let p = c.args.design.now.pool in
    let d = c.in_default in
    let step = target_signals_is p c.args.target.0 c.at.result.now c.count.ensures.rules c.at.ensures ∙ other_signals (target_signals p) c.at.result.now d.not-Sig d.not-Slice d.not-Cat d.not-Part d.not-Pick d.not-Cast in
    found_as (length p.signals) ss (ss ++ target_signals p c.args.target.0) c.args.found.now.marks.items c.args.found.now.signals (sym (append-nil ss) ∙ ap (λ xs. ss ++ xs) (sym step)) h
