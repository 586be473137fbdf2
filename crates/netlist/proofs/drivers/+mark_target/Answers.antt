use Rattle.std.proofs.Common.{◌<◌, length, sym, ap, ◌∙◌, subst, arith}
use Rattle.std.specs.List.{flat_map}
use Rattle.std.proofs.lemmas.List.{take_all}
use Rattle.design_ir.specs.declared.ids.ExprId.{ExprId}
use Rattle.design_ir.specs.Named.{AllBelow}
use Rattle.design_ir.specs.Targets.{signals_step, target_signals}
use Rattle.design_ir.proofs.Equations.{standing}
use Rattle.netlist_cells.proofs.LowerJoined.{below_get}
use Rattle.netlist.proofs.LowerDrivers.{target_signals_is, marked_one, marked_as, joined_signals, joined_below, leaf_marked, read_signals, read_below}
use Rattle.netlist.proofs.drivers.+mark_target.Goals as goal

pub index_mut-requires : goal.index_mut-requires
index_mut-requires t c =
    let d = c.args.design.now in
    let there = (standing d.pool c.args.target.0 c.at.result.now c.requires.pool c.at.ensures).askable.parts in
    let h : c.in-Sig.s.0 < length d.pool.signals = rw c.in-Sig.is at there in
    omega (arith, h, c.requires.long, c.args.places.now.ok.0)

pub mark_target-requires : goal.mark_target-requires
mark_target-requires t c =
    let d = c.args.design.now in
    let e = c.at.result.now in
    let names = (standing d.pool c.args.target.0 e c.requires.pool c.at.ensures).names in
    let items : AllBelow c.args.target.0 c.as_slice-e-items.result.now = subst (AllBelow c.args.target.0) (sym c.as_slice-e-items.ensures) (joined_below c.args.target.0 e c.in-Cat.items c.in-Cat.is names) in
    let h = below_get c.args.target.0 c.as_slice-e-items.result.now c.loop-e.e-index (record { 0 = 0 }) items c.loop-e-test.true in
    (omega (arith, h, c.decreases), (c.requires.pool, (omega (arith, h, c.requires.there), c.loop-e.invariant.long ∙ c.requires.long)))

pub mark_target-requires-in-Slice : goal.mark_target-requires-in-Slice
mark_target-requires-in-Slice t c =
    let e = c.at.result.now in
    let h = read_below c.args.target.0 e c.in-Slice.a c.in-Slice.is (standing c.args.design.now.pool c.args.target.0 e c.requires.pool c.at.ensures).names in
    (omega (arith, h, c.decreases), (c.requires.pool, (omega (arith, h, c.requires.there), c.requires.long)))

pub returns-in-Sig : goal.returns-in-Sig
returns-in-Sig t c =
    let pool = c.args.design.now.pool in
    let there = (standing pool c.args.target.0 c.at.result.now c.requires.pool c.at.ensures).askable.parts in
    let h : c.in-Sig.s.0 < length pool.signals = rw c.in-Sig.is at there in
    let step = target_signals_is pool c.args.target.0 c.at.result.now c.requires.pool c.at.ensures ∙ ap (signals_step (target_signals pool)) c.in-Sig.is in
    marked_as _ _ c.args.k c.args.places.now.items _ step (marked_one c.in-Sig.s.0 c.args.k c.args.places.now.items (omega (arith, h, c.requires.long)))

pub returns-in-Const : goal.returns-in-Const
returns-in-Const t c = leaf_marked c.args.design.now.pool c.args.target.0 c.args.k c.at.result.now c.args.places.now.items c.requires.pool c.at.ensures c.in-Const.is

pub returns-in-Const-2 : goal.returns-in-Const-2
returns-in-Const-2 t c = leaf_marked c.args.design.now.pool c.args.target.0 c.args.k c.at.result.now c.args.places.now.items c.requires.pool c.at.ensures c.in-Const.is

pub returns-in-Const-3 : goal.returns-in-Const-3
returns-in-Const-3 t c = leaf_marked c.args.design.now.pool c.args.target.0 c.args.k c.at.result.now c.args.places.now.items c.requires.pool c.at.ensures c.in-Const.is

pub returns-in-Const-4 : goal.returns-in-Const-4
returns-in-Const-4 t c = leaf_marked c.args.design.now.pool c.args.target.0 c.args.k c.at.result.now c.args.places.now.items c.requires.pool c.at.ensures c.in-Const.is

pub returns-in-Const-5 : goal.returns-in-Const-5
returns-in-Const-5 t c = leaf_marked c.args.design.now.pool c.args.target.0 c.args.k c.at.result.now c.args.places.now.items c.requires.pool c.at.ensures c.in-Const.is

pub returns-in-Const-6 : goal.returns-in-Const-6
returns-in-Const-6 t c = leaf_marked c.args.design.now.pool c.args.target.0 c.args.k c.at.result.now c.args.places.now.items c.requires.pool c.at.ensures c.in-Const.is

pub returns-after-loop-e : goal.returns-after-loop-e
returns-after-loop-e t c =
    let pool = c.args.design.now.pool in
    let items = c.as_slice-e-items.result.now in
    let step = target_signals_is pool c.args.target.0 c.at.result.now c.requires.pool c.at.ensures ∙ joined_signals (target_signals pool) c.at.result.now c.in-Cat.items c.in-Cat.is in
    marked_as _ _ c.args.k c.args.places.now.items c.loop-e.places.items
    (step ∙ ap (λ es. flat_map (λ (e : ExprId). target_signals pool e.0) es) (sym c.as_slice-e-items.ensures ∙ sym (take_all c.loop-e.e-index items c.loop-e-test.false))) c.loop-e.invariant

pub returns-in-Slice : goal.returns-in-Slice
returns-in-Slice t c =
    let pool = c.args.design.now.pool in
    marked_as _ _ c.args.k c.args.places.now.items c.mark_target-in-Slice.new.places.items
    (target_signals_is pool c.args.target.0 c.at.result.now c.requires.pool c.at.ensures ∙ read_signals (target_signals pool) c.at.result.now c.in-Slice.a c.in-Slice.is) c.mark_target-in-Slice.ensures
