use Rattle.std.proofs.Common.{◌≡◌, ◌∙◌, ◌+◌, ◌==◌, ◌&&◌, ℕ, Bool, true, List, [], ◌∷◌, ◌++◌, length, sym, subst, ap}
use Rattle.std.proofs.lemmas.List.{length-append}
use Rattle.digraph.specs.Cuts.{turn_of, is_left}
use Rattle.digraph.proofs.CutLaws.{left_of, left_more}
use Rattle.digraph.proofs.cut.left.Goals as goal

pub loop-node-preserved : goal.loop-node-preserved
loop-node-preserved c =
    let g = c.args.graph.now in
    let node = c.loop-node.node in
    let left = c.loop-node.left.items in
    let b = c.is_left.result in
    let items : c.push.new.self.items ≡ left ++ b ∷ [] = c.in_ok-push.ensures.items in
    let firsts = c.in_ok-firsts.firsts.items in
    let lasts = c.in_ok-lasts.lasts.items in
    let is : b ≡ ((turn_of firsts node == 0) && (turn_of lasts node == 0)) =
    c.is_left.ensures
    ∙ ap (λ (xs : List ℕ). (turn_of xs node == 0) && (turn_of c.deref-in-loop-node.result.now node == 0)) c.deref.ensures.value
    ∙ ap (λ (xs : List ℕ). (turn_of firsts node == 0) && (turn_of xs node == 0)) c.deref-in-loop-node.ensures.value in
    let here = left_of g c.in_ok-back.back firsts lasts node c.in_ok-back.ensures c.in_ok-firsts.ensures c.in_ok-lasts.ensures in
    record {
      size = ap length items ∙ length-append left (b ∷ []) ∙ ap (λ n. n + 1) c.loop-node.invariant.size;
      loops = λ n below loops. subst (λ (xs : List Bool). is_left xs n ≡ true) (sym items)
          (left_more g left node b c.loop-node.invariant.size c.loop-node.invariant.loops (λ r. is ∙ here r) n below loops);
    }
