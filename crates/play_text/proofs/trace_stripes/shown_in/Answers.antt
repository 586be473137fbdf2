use Rattle.std.proofs.Common.{◌∙◌, subst}
use Rattle.std.specs.List.{AllByRecursion}
use Rattle.play_text.specs.Stripes.{IsFound}
use Rattle.play_text.proofs.StripeLaws.{found_turn}
use Rattle.play_text.proofs.trace_stripes.shown_in.Goals as goal

pub loop-b-preserved : goal.loop-b-preserved
loop-b-preserved c =
    let here = subst (λ xs. AllByRecursion (IsFound c.note_all.new.shown.items c.loop-b.b) xs) c.as_slice.ensures.value c.in_ok-note_all.ensures.found in
    record {
      found = λ later grows found. found_turn c.loop-b.shown.items c.note_all.new.shown.items later c.args.stripes.now c.loop-b.b c.index-stripes-b.result c.loop-b-test.true c.loop-b.invariant.found c.in_ok-note_all.ensures.grows here grows found;
      count = c.in_ok-note_all.ensures.grows.count ∙ c.loop-b.invariant.count;
    }
