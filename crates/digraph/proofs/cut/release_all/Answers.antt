use Rattle.std.proofs.Common.{◌∙◌, ◌<◌, ℕ, All, subst}
use Rattle.digraph.proofs.cut.release_all.Goals as goal

pub loop-rest-smaller : goal.loop-rest-smaller
loop-rest-smaller c = (c.next-next.ensures.next c.args.from c.loop-rest.invariant.is_rest).less

pub loop-rest-preserved : goal.loop-rest-preserved
loop-rest-preserved c = record {
  is_rest = (c.next-next.ensures.next c.args.from c.loop-rest.invariant.is_rest).is_rest;
  size = c.release.ensures.size ∙ c.loop-rest.invariant.size;
  free = subst (λ (size : ℕ). All (λ n. n < size) c.release.new.free.items) c.loop-rest.invariant.size c.release.ensures.free;
}
