use Rattle.std.proofs.Common.{◌≡◌, ◌++◌, map, take, drop}
use Rattle.std.specs.List.{flat_map}
use Rattle.play_text.specs.Lanes.{lane_text, moved}
use Rattle.play_text.proofs.trace_columns.push_changes.Given as goal

abbrev pub invariant-loop-x : goal.invariant-loop-x
invariant-loop-x l = record {
  lanes : take l.x-index l.lanes ++ map (moved l.now) (drop l.x-index l.lanes) ≡ map (moved l.now) l.fn.lanes;
  rest : drop l.x-index l.lanes ≡ drop l.x-index l.fn.lanes;
  text : l.text.items ++ flat_map (lane_text l.now) (drop l.x-index l.fn.lanes) ≡ l.fn.text.items ++ flat_map (lane_text l.now) l.fn.lanes;
}
