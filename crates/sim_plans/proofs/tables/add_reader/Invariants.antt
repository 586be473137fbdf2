use Rattle.sim_plans.proofs.PlanTables.{AddsUp}
use Rattle.sim_plans.proofs.tables.add_reader.Given as goal

abbrev pub invariant-loop-s : goal.invariant-loop-s
invariant-loop-s l = AddsUp l.reads l.s-index l.n l.fn.lists.items l.lists.items
