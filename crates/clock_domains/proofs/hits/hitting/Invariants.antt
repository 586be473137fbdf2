use Rattle.std.proofs.Common.{◌≡◌, false, [], drop, vec_len}
use Rattle.design_ir.specs.Pools.{answers}
use Rattle.fragment_walks.specs.Marks.{is_marked, hit_step}
use Rattle.clock_domains.proofs.hits.hitting.Given as goal

abbrev pub invariant-loop-k : goal.invariant-loop-k
invariant-loop-k l = record {
  count : vec_len l.hits ≡ l.k;
  rest : answers false (hit_step (is_marked l.bad)) l.hits.items (drop l.k l.pool.exprs) ≡ answers false (hit_step (is_marked l.bad)) [] l.pool.exprs;
}
