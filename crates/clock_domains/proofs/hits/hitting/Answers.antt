use Rattle.std.proofs.Common.{◌≡◌, ◌∙◌, ◌<◌, ◌+◌, [], Bool, List, length, false, sym, ap, arith, slice_index_or}
use Rattle.std.proofs.lemmas.Option.{get_or_from_slice_get}
use Rattle.std.proofs.lemmas.List.{at_drop_all}
use Rattle.design_ir.specs.declared.expr.Expr.{Expr}
use Rattle.design_ir.specs.Pools.{answers}
use Rattle.design_ir.proofs.Answers.{turn}
use Rattle.design_ir.proofs.Equations.{standing}
use Rattle.fragment_walks.specs.Marks.{is_marked, hit_step}
use Rattle.fragment_walks.specs.Reads.{own_signals}
use Rattle.fragment_walks.proofs.Lists.{all_index, below_wider}
use Rattle.fragment_walks.proofs.Outs.{own_inside, hits_is}
use Rattle.clock_domains.proofs.hits.hitting.Goals as goal

pub is_hit-hit-requires-clause-names : goal.is_hit-hit-requires-clause-names
is_hit-hit-requires-clause-names c =
    let size : length c.as_slice.result.now ≡ c.loop-k.k = c.as_slice.ensures.len ∙ c.loop-k.invariant.count in
    below_wider c.loop-k.k (length c.as_slice.result.now) _ (omega (arith, size)) (standing c.args.pool.now c.loop-k.k c.at.result.now c.count-k-end.ensures.rules c.at.ensures).names

pub is_hit-hit-requires-clause-own : goal.is_hit-hit-requires-clause-own
is_hit-hit-requires-clause-own c = all_index (λ s. s < length c.args.bad.now) (own_signals c.at.result.now) (own_inside c.args.pool.now c.loop-k.k c.at.result.now (length c.args.bad.now) c.count-k-end.ensures.rules c.at.ensures c.requires)

pub loop-k-preserved : goal.loop-k-preserved
loop-k-preserved c =
    let step = hit_step (is_marked c.args.bad.now) in
    let exprs = c.args.pool.now.exprs in
    let k = c.loop-k.k in
    let e : Expr = c.at.result.now in
    let inside : k < length exprs = omega (arith, c.loop-k-test.true, c.count-k-end.ensures.value) in
    let is : e ≡ slice_index_or exprs k e = sym (get_or_from_slice_get exprs k e e c.at.ensures) in
    let hit : c.is_hit-hit.result ≡ step (λ j. slice_index_or c.loop-k.hits.items j false) e = c.is_hit-hit.ensures ∙ ap (λ (hs : List Bool). step (is_marked hs) e) c.as_slice.ensures.value in
    record {
      count = c.in_ok-push.ensures.len ∙ ap (λ n. n + 1) c.loop-k.invariant.count;
      rest = turn false step c.loop-k.hits.items c.push.new.self.items exprs k e c.is_hit-hit.result (answers false step [] exprs) inside is hit c.in_ok-push.ensures.items c.loop-k.invariant.rest;
    }

pub returns-clause-value : goal.returns-clause-value
returns-clause-value c k =
    let step = hit_step (is_marked c.args.bad.now) in
    let exprs = c.args.pool.now.exprs in
    let past : length exprs ≡ c.loop-k.k = omega (arith, c.loop-k-test.false, c.count-k-end.ensures.value, c.loop-k.auto.k-end) in
    let all : c.loop-k.hits.items ≡ answers false step [] exprs = sym (at_drop_all (answers false step c.loop-k.hits.items) exprs c.loop-k.k (omega (arith, past))) ∙ c.loop-k.invariant.rest in
    ap (λ hs. is_marked hs k) all ∙ hits_is c.args.pool.now (is_marked c.args.bad.now) k

pub returns-clause-len : goal.returns-clause-len
returns-clause-len c = omega (arith, c.loop-k.invariant.count, c.loop-k-test.false, c.count-k-end.ensures.value, c.loop-k.auto.k-end, c.loop-k.hits.ok.0)
