use Rattle.std.proofs.Common.{◌∙◌, ◌<◌, length, refl, sym, ap, rules}
use Rattle.std.specs.Prelude.{option_and_then}
use Rattle.std.specs.BTreeMap.{get_by_text}
use Rattle.lib_wiring.specs.Wiring.{is_at, link_between, meets}
use Rattle.lib_wiring.proofs.PlaceLaws.{placed_nowhere}
use Rattle.lib_wiring.proofs.LinkSteps.{looked_up, place_within, leaf_placed, signal_at}
use Rattle.lib_wiring.proofs.wires.meet.Goals as goal
use Rattle.lib_wiring.proofs.wires.meet.Goals.{After-place_of, In-Some, After-index-second-place}

pub returns-in-None : goal.returns-in-None
returns-in-None c =
    let e = looked_up c.args.second.now (get_by_text c.args.seconds.now) c.args.leaf.now.path c.as_str.result.now c.place_of.result c.requires.seconds c.place_of.ensures c.as_str.ensures in
    (refl, ap (meets c.args.pool.now.signals c.args.leaf.now) (placed_nowhere (is_at c.args.leaf.now.path) c.args.second.now 0 (sym e ∙ c.in-None.is)))

pub bounds-second-place : goal.bounds-second-place
bounds-second-place c =
    let e = looked_up c.args.second.now (get_by_text c.args.seconds.now) c.args.leaf.now.path c.as_str.result.now c.place_of.result c.requires.seconds c.place_of.ensures c.as_str.ensures in
    place_within c.args.second.now c.args.leaf.now.path c.in-Some.place (sym e ∙ c.in-Some.is)

pub offset_bounds-second-place : goal.offset_bounds-second-place
offset_bounds-second-place c =
    let e = looked_up c.args.second.now (get_by_text c.args.seconds.now) c.args.leaf.now.path c.as_str.result.now c.place_of.result c.requires.seconds c.place_of.ensures c.as_str.ensures in
    let within : c.in-Some.place < length c.args.second.now = place_within c.args.second.now c.args.leaf.now.path c.in-Some.place (sym e ∙ c.in-Some.is) in
    search rules

pub may_meet-requires-clause-other : goal.may_meet-requires-clause-other
may_meet-requires-clause-other c =
    let e = looked_up c.args.second.now (get_by_text c.args.seconds.now) c.args.leaf.now.path c.as_str.result.now c.place_of.result c.requires.seconds c.place_of.ensures c.as_str.ensures in
    signal_at c.args.pool.now.signals c.args.second.now c.in-Some.place c.index-second-place.result c.requires.second (place_within c.args.second.now c.args.leaf.now.path c.in-Some.place (sym e ∙ c.in-Some.is)) c.index-second-place.is

pub returns-then-may_meet : goal.returns-then-may_meet
returns-then-may_meet c =
    let e = looked_up c.args.second.now (get_by_text c.args.seconds.now) c.args.leaf.now.path c.as_str.result.now c.place_of.result c.requires.seconds c.place_of.ensures c.as_str.ensures in
    let there = leaf_placed c.args.second.now c.args.leaf.now.path c.in-Some.place c.index-second-place.result (sym e ∙ c.in-Some.is) c.index-second-place.is in
    (ap (meets c.args.pool.now.signals c.args.leaf.now) there ∙ sym c.may_meet.ensures ∙ c.if-may_meet.true, c.link_between.ensures ∙ ap (option_and_then (link_between c.args.leaf.now)) (sym there))

pub returns-else-may_meet : goal.returns-else-may_meet
returns-else-may_meet c =
    let e = looked_up c.args.second.now (get_by_text c.args.seconds.now) c.args.leaf.now.path c.as_str.result.now c.place_of.result c.requires.seconds c.place_of.ensures c.as_str.ensures in
    let there = leaf_placed c.args.second.now c.args.leaf.now.path c.in-Some.place c.index-second-place.result (sym e ∙ c.in-Some.is) c.index-second-place.is in
    (refl, ap (meets c.args.pool.now.signals c.args.leaf.now) there ∙ sym c.may_meet.ensures ∙ c.if-may_meet.false)
