use Rattle.std.proofs.Common.{◌≡◌, ◌++◌, map, take, drop}
use Rattle.std.specs.List.{flat_map}
use Rattle.play_text.specs.Lanes.{lane_text, moved}
use Rattle.play_text.specs.Stripes.{AreStill, grid}
use Rattle.play_text.proofs.trace_stripes.push_stripes.Given as goal

abbrev pub invariant-loop-x : goal.invariant-loop-x
invariant-loop-x l = record {
  lanes : grid (take l.x-index l.x-items) ++ map (map (moved l.now)) (grid (drop l.x-index l.x-items)) ≡ map (map (moved l.now)) (grid l.fn.stripes.items);
  rest : drop l.x-index l.x-items ≡ drop l.x-index l.fn.stripes.items;
  still : AreStill l.now (drop l.x-index l.x-items);
  text : l.text.items ++ flat_map (λ x. flat_map (lane_text l.now) x.lanes.items) (drop l.x-index l.fn.stripes.items) ≡ l.fn.text.items ++ flat_map (λ x. flat_map (lane_text l.now) x.lanes.items) l.fn.stripes.items;
}
