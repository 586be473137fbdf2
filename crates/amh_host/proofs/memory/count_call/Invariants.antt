use Rattle.std.proofs.Common.{◌≡◌, ◌++◌, take, drop}
use Rattle.std.specs.Prelude.{map, ◌||◌}
use Rattle.amh_host.specs.Planned.{comes_due, counted}
use Rattle.amh_host.proofs.memory.count_call.Given as goal

abbrev pub invariant-loop-i : goal.invariant-loop-i
invariant-loop-i l = record {
  due : (l.due || comes_due l.call l.name (drop l.i l.initial.plan)) ≡ comes_due l.call l.name l.initial.plan;
  plan : l.plan ≡ map (counted l.call l.name) (take l.i l.initial.plan) ++ drop l.i l.initial.plan;
}
