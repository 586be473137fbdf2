use Rattle.std.specs.Prelude.{◌≡◌, ℕ, List, [], ◌∷◌, ◌++◌, ◌+◌, ◌-◌, take, drop}
use Rattle.std.proofs.Common.{sym, ◌∙◌, ap, arith, subst, length-drop, length-take}
use Rattle.std.proofs.Math.Seq.{take-add}
use Rattle.flat_design.specs.declared.sources.Source.{Source}
use Rattle.flat_design.specs.Sources.{IsSource}
use Rattle.flat_design.specs.Adding.{AreParts}
use Rattle.flat_design.proofs.Growing.{more_trans}
use Rattle.flat_design.proofs.SourceLists.{all_take, all_drop, sources_more}
use Rattle.flat_design.proofs.Joining.{parts_more, parts_push, parts_width, parts_below, parts_resolved}
use Rattle.flat_design.proofs.sources.joined.Goals as goal

pub part-requires-clause-sources : goal.part-requires-clause-sources
part-requires-clause-sources c =
    let xs : List Source = c.args.sources.now in
    let done : ℕ = c.loop-done.done in
    let n : ℕ = done + c.run_length-n.result - done in
    all_take (IsSource c.loop-done.pool) n (drop done xs)
    (all_drop (IsSource c.loop-done.pool) done xs
    (sources_more c.args.pool.now c.loop-done.pool xs c.known.ensures c.loop-done.invariant.more c.requires.sources))

pub loop-done-preserved : goal.loop-done-preserved
loop-done-preserved c =
    let xs : List Source = c.args.sources.now in
    let done : ℕ = c.loop-done.done in
    let n : ℕ = c.run_length-n.result in
    let m : ℕ = done + n - done in
    let same : done + n ≡ done + m = omega arith in
    let kept : AreParts c.part.new.pool (take done xs) c.loop-done.parts =
    parts_more c.loop-done.pool c.part.new.pool c.loop-done.invariant.rules c.in_ok-part.ensures.more (take done xs) c.loop-done.parts c.loop-done.invariant.parts in
    record {
      more = more_trans c.args.pool.now c.loop-done.pool c.part.new.pool c.loop-done.invariant.more c.in_ok-part.ensures.more;
      rules = c.in_ok-part.ensures.rules;
      within = omega (arith, length-drop done xs);
      parts =
          subst (AreParts c.part.new.pool (take (done + n) xs)) (sym c.in_ok-push.ensures.ok)
          (subst (λ ys. AreParts c.part.new.pool ys (c.loop-done.parts ++ c.in_ok-part.field-0 ∷ [])) (sym (ap (λ k. take k xs) same ∙ take-add done m xs))
          (parts_push c.part.new.pool (take done xs) (take m (drop done xs)) c.loop-done.parts c.in_ok-part.field-0 kept c.in_ok-part.ensures.part));
    }

pub together-requires-clause-few : goal.together-requires-clause-few
together-requires-clause-few c =
    let w = parts_width c.loop-done.pool (take c.loop-done.done c.args.sources.now) c.loop-done.parts c.loop-done.invariant.parts in
    omega (arith, w, length-take c.loop-done.done c.args.sources.now)

pub together-requires-clause-there : goal.together-requires-clause-there
together-requires-clause-there c =
    parts_below c.loop-done.pool (take c.loop-done.done c.args.sources.now) c.loop-done.parts c.loop-done.invariant.parts

pub together-requires-clause-resolved : goal.together-requires-clause-resolved
together-requires-clause-resolved c =
    parts_resolved c.loop-done.pool (take c.loop-done.done c.args.sources.now) c.loop-done.parts c.loop-done.invariant.parts
