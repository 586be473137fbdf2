use Rattle.std.proofs.Common.{◌≡◌, ℕ, false, [], drop, vec_len}
use Rattle.design_ir.specs.Pools.{answers}
use Rattle.fragment_walks.specs.Marks.{is_marked, hit_step}
use Rattle.fragment_walks.specs.Numbers.{bounded}
use Rattle.clock_domains.proofs.leasts.leasts_of.Given as goal

abbrev pub invariant-loop-k : goal.invariant-loop-k
invariant-loop-k l = record {
  count : vec_len l.leasts ≡ l.k;
  rest : (i : ℕ) → answers false (hit_step (is_marked (bounded i l.firsts))) (bounded i l.leasts.items) (drop l.k l.pool.exprs) ≡ answers false (hit_step (is_marked (bounded i l.firsts))) [] l.pool.exprs;
}
