use Rattle.std.specs.BTreeMap.{get_by_text}
use Rattle.lib_wiring.proofs.LinkSteps.{first_looked_up, apart_more, apart_not}
use Rattle.lib_wiring.proofs.places.are_first.Goals as goal

pub returns-then-not-is_first : goal.returns-then-not-is_first
returns-then-not-is_first c =
    let ls = c.args.leaves.now in
    let i = c.loop-i.i in
    let x = c.index-leaves-i.result in
    let counts = first_looked_up ls (get_by_text c.args.places.now) c.as_str.result.now i x c.is_first.result c.requires c.is_first.ensures c.as_str.ensures c.loop-i-test.true c.index-leaves-i.is in
    apart_not ls i x c.is_first.result c.loop-i-test.true c.index-leaves-i.is counts c.if-not-is_first.true c.loop-i.invariant

pub loop-i-preserved : goal.loop-i-preserved
loop-i-preserved c =
    let ls = c.args.leaves.now in
    let i = c.loop-i.i in
    let x = c.index-leaves-i.result in
    let counts = first_looked_up ls (get_by_text c.args.places.now) c.as_str.result.now i x c.is_first.result c.requires c.is_first.ensures c.as_str.ensures c.loop-i-test.true c.index-leaves-i.is in
    apart_more ls i x c.is_first.result c.loop-i-test.true c.index-leaves-i.is counts c.if-not-is_first.false c.loop-i.invariant
