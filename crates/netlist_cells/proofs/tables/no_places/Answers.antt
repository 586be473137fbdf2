use Rattle.std.proofs.Common.{ℕ, ◌+◌, ◌-◌, replicate, None}
use Rattle.std.specs.Prelude.{Option}
use Rattle.netlist_cells.proofs.LowerParts.{one_more, no_more, replicate_next, replicate_end}
use Rattle.netlist_cells.proofs.tables.no_places.Goals as goal

abbrev no_place : Option ℕ
no_place = None

pub loop-i-preserved : goal.loop-i-preserved
loop-i-preserved c =
    let n = c.args.count in
    one_more c.loop-i.places.items c.push.new.self.items (replicate n no_place) (replicate (n - c.loop-i.i) no_place) (replicate (n - (c.loop-i.i + 1)) no_place) no_place
    (replicate_next n c.loop-i.i no_place c.loop-i-test.true) c.in_ok-push.ensures.items c.loop-i.invariant

pub returns : goal.returns
returns c =
    let n = c.args.count in
    no_more c.loop-i.places.items (replicate n no_place) (replicate (n - c.loop-i.i) no_place) (replicate_end n c.loop-i.i no_place c.loop-i-test.false) c.loop-i.invariant
