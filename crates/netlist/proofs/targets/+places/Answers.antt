use Rattle.std.proofs.Common.{take, drop, sym, ap, ◌∙◌, subst, arith}
use Rattle.std.specs.List.{flat_map}
use Rattle.std.proofs.lemmas.List.{take_all}
use Rattle.std.proofs.lemmas.Result.{IfOk-weaker}
use Rattle.design_ir.specs.declared.ids.ExprId.{ExprId}
use Rattle.design_ir.specs.Named.{AllBelow}
use Rattle.design_ir.specs.Values.{signal_form}
use Rattle.design_ir.specs.Targets.{bits_of}
use Rattle.design_ir.proofs.Equations.{standing}
use Rattle.netlist_laws.specs.Latest.{places, places_step}
use Rattle.netlist_cells.proofs.LowerJoined.{below_get}
use Rattle.netlist.proofs.LowerTargets.{places_is, bare_is}
use Rattle.netlist.proofs.targets.+places.Goals as goal

pub signal_width-requires : goal.signal_width-requires
signal_width-requires t c =
    let there = (standing c.args.design.now.pool c.args.target.0 c.at.result.now c.requires.pool c.at.ensures).askable.parts in
    rw c.in-Sig.is at there

pub places-requires : goal.places-requires
places-requires t c =
    let names = (standing c.args.design.now.pool c.args.target.0 c.at.result.now c.requires.pool c.at.ensures).names in
    let h = (rw c.in-Slice.is at names).0 in
    (omega (arith, h, c.decreases), (c.requires.pool, omega (arith, h, c.requires.there)))

pub places-requires-in-Cast : goal.places-requires-in-Cast
places-requires-in-Cast t c =
    let names = (standing c.args.design.now.pool c.args.target.0 c.at.result.now c.requires.pool c.at.ensures).names in
    let h = (rw c.in-Cast.is at names).0 in
    (omega (arith, h, c.decreases), (c.requires.pool, omega (arith, h, c.requires.there)))

pub places-requires-in-loop-e : goal.places-requires-in-loop-e
places-requires-in-loop-e t c =
    let names = (standing c.args.design.now.pool c.args.target.0 c.at.result.now c.requires.pool c.at.ensures).names in
    let items : AllBelow c.args.target.0 c.as_slice-e-items.result.now = subst (AllBelow c.args.target.0) (sym c.as_slice-e-items.ensures) (rw c.in-Cat.is at names) in
    let h = below_get c.args.target.0 c.as_slice-e-items.result.now c.loop-e.e-index (record { 0 = 0 }) items c.loop-e-test.true in
    (omega (arith, h, c.decreases), (c.requires.pool, omega (arith, h, c.requires.there)))

pub returns-in-Sig : goal.returns-in-Sig
returns-in-Sig t c =
    let pool = c.args.design.now.pool in
    let s = c.in-Sig.s.0 in
    let is = places_is pool c.args.target.0 c.at.result.now c.requires.pool c.at.ensures ∙ ap (places_step (signal_form pool.signals) (places pool)) c.in-Sig.is in
    IfOk-weaker c.bits_of.result _ _ (λ bits e. e ∙ ap (λ w. bits_of s w) c.signal_width.ensures ∙ sym is) c.bits_of.ensures

pub returns-in_ok-bits-in-Slice : goal.returns-in_ok-bits-in-Slice
returns-in_ok-bits-in-Slice t c =
    let pool = c.args.design.now.pool in
    let is = places_is pool c.args.target.0 c.at.result.now c.requires.pool c.at.ensures ∙ ap (places_step (signal_form pool.signals) (places pool)) c.in-Slice.is in
    IfOk-weaker c.sliced.result _ _ (λ bits e. e ∙ ap (λ xs. take c.in-Slice.width (drop c.in-Slice.low xs)) (c.as_slice.ensures.value ∙ c.in_ok-bits-in-Slice.ensures) ∙ sym is) c.sliced.ensures

pub returns-in-Cast : goal.returns-in-Cast
returns-in-Cast t c =
    let pool = c.args.design.now.pool in
    let is = places_is pool c.args.target.0 c.at.result.now c.requires.pool c.at.ensures ∙ ap (places_step (signal_form pool.signals) (places pool)) c.in-Cast.is in
    IfOk-weaker c.places-in-Cast.result _ _ (λ bits e. e ∙ sym is) c.places-in-Cast.ensures

pub returns-after-loop-e : goal.returns-after-loop-e
returns-after-loop-e t c =
    let pool = c.args.design.now.pool in
    let items = c.as_slice-e-items.result.now in
    let is = places_is pool c.args.target.0 c.at.result.now c.requires.pool c.at.ensures ∙ ap (places_step (signal_form pool.signals) (places pool)) c.in-Cat.is in
    c.loop-e.invariant ∙ ap (λ es. flat_map (λ (e : ExprId). places pool e.0) es) (take_all c.loop-e.e-index items c.loop-e-test.false ∙ c.as_slice-e-items.ensures) ∙ sym is

pub returns-in-Const : goal.returns-in-Const
returns-in-Const t c = c.new.ensures.items ∙ sym (bare_is c.args.design.now.pool c.args.target.0 c.at.result.now c.requires.pool c.at.ensures c.in-Const.is)
