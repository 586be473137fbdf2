use Rattle.std.proofs.Common.{◌≡◌, ◌∙◌, ◌<◌, ◌+◌, [], ℕ, List, Option, length, false, sym, ap, arith, slice_index_or}
use Rattle.std.proofs.lemmas.Option.{get_or_from_slice_get}
use Rattle.std.proofs.lemmas.List.{at_drop_all}
use Rattle.design_ir.specs.declared.expr.Expr.{Expr}
use Rattle.design_ir.specs.Pools.{answers}
use Rattle.design_ir.proofs.Answers.{turn}
use Rattle.design_ir.proofs.Equations.{standing}
use Rattle.fragment_walks.specs.Marks.{is_marked, hit_step}
use Rattle.fragment_walks.specs.Numbers.{bounded, is_below}
use Rattle.fragment_walks.specs.Reads.{own_signals}
use Rattle.fragment_walks.proofs.Lists.{all_index, below_wider, map-push}
use Rattle.fragment_walks.proofs.Outs.{own_inside, hits_is}
use Rattle.clock_domains.proofs.leasts.leasts_of.Goals as goal

pub least_in-least-requires-clause-names : goal.least_in-least-requires-clause-names
least_in-least-requires-clause-names c =
    let size : length c.as_slice.result.now ≡ c.loop-k.k = c.as_slice.ensures.len ∙ c.loop-k.invariant.count in
    below_wider c.loop-k.k (length c.as_slice.result.now) _ (omega (arith, size)) (standing c.args.pool.now c.loop-k.k c.at.result.now c.count-k-end.ensures.rules c.at.ensures).names

pub least_in-least-requires-clause-own : goal.least_in-least-requires-clause-own
least_in-least-requires-clause-own c =
    all_index (λ s. s < length c.args.firsts.now) (own_signals c.at.result.now) (own_inside c.args.pool.now c.loop-k.k c.at.result.now (length c.args.firsts.now) c.count-k-end.ensures.rules c.at.ensures c.requires)

pub loop-k-preserved : goal.loop-k-preserved
loop-k-preserved c =
    let step = λ (i : ℕ). hit_step (is_marked (bounded i c.args.firsts.now)) in
    let exprs = c.args.pool.now.exprs in
    let k = c.loop-k.k in
    let e : Expr = c.at.result.now in
    let cur = c.loop-k.leasts.items in
    let inside : k < length exprs = omega (arith, c.loop-k-test.true, c.count-k-end.ensures.value) in
    let is : e ≡ slice_index_or exprs k e = sym (get_or_from_slice_get exprs k e e c.at.ensures) in
    record {
      count = c.in_ok-push.ensures.len ∙ ap (λ n. n + 1) c.loop-k.invariant.count;
      rest = λ i.
          turn false (step i) (bounded i cur) (bounded i c.push.new.self.items) exprs k e (is_below i c.least_in-least.result) (answers false (step i) [] exprs) inside is
          (c.least_in-least.ensures i ∙ ap (λ (ls : List (Option ℕ)). step i (is_marked (bounded i ls)) e) c.as_slice.ensures.value)
          (ap (bounded i) c.in_ok-push.ensures.items ∙ map-push (is_below i) cur c.least_in-least.result) (c.loop-k.invariant.rest i);
    }

pub returns-clause-value : goal.returns-clause-value
returns-clause-value c i k =
    let step = hit_step (is_marked (bounded i c.args.firsts.now)) in
    let exprs = c.args.pool.now.exprs in
    let past : length exprs ≡ c.loop-k.k = omega (arith, c.loop-k-test.false, c.count-k-end.ensures.value, c.loop-k.auto.k-end) in
    let all : bounded i c.loop-k.leasts.items ≡ answers false step [] exprs = sym (at_drop_all (answers false step (bounded i c.loop-k.leasts.items)) exprs c.loop-k.k (omega (arith, past))) ∙ c.loop-k.invariant.rest i in
    ap (λ hs. is_marked hs k) all ∙ hits_is c.args.pool.now (is_marked (bounded i c.args.firsts.now)) k

pub returns-clause-len : goal.returns-clause-len
returns-clause-len c = omega (arith, c.loop-k.invariant.count, c.loop-k-test.false, c.count-k-end.ensures.value, c.loop-k.auto.k-end, c.loop-k.leasts.ok.0)
