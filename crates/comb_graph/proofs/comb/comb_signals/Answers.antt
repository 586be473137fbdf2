use Rattle.std.proofs.Common.{◌≡◌, ◌∙◌, false, length, replicate, subst, ap}
use Rattle.std.specs.List.{flat_map}
use Rattle.comb_graph.specs.CombTargets.{IsMarked, FindsSame, comb_targets}
use Rattle.comb_graph.proofs.CombFinds.{all_comb}
use Rattle.comb_graph.proofs.comb.comb_signals.Goals as goal

pub returns : goal.returns
returns c =
    let design = c.args.design.now in
    let count = length design.pool.exprs in
    let e1 = c.mark_processes.new.exprs.items in
    let e2 = c.spread_all.new.exprs.items in
    let s2 = c.spread_all.new.signals.items in
    let exprs : c.in_ok-exprs.exprs.items ≡ replicate count false = c.in_ok-exprs.ensures.items_if_clones_equal (λ y h. h) ∙ ap (λ n. replicate n false) c.count.ensures.value in
    let signals : c.in_ok-signals.signals.items ≡ replicate (length design.pool.signals) false = c.in_ok-signals.ensures.items_if_clones_equal (λ y h. h) ∙ ap (λ n. replicate n false) c.signals.ensures in
    let marked = subst (λ xs. IsMarked (flat_map comb_targets design.processes) xs e1) exprs c.mark_processes.ensures in
    let finds = subst (λ xs. FindsSame design.pool e1 xs count e2 s2 0) signals c.spread_all.ensures in
    all_comb design e1 e2 s2 c.mark_memories.new.signals.items marked finds c.mark_memories.ensures
