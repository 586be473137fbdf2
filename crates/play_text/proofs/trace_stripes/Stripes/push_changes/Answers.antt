use Rattle.std.proofs.Common.{◌≡◌, ap, sym, ◌∙◌, ◌++◌, map, subst, List, ℕ}
use Rattle.std.specs.List.{flat_map}
use Rattle.std.proofs.lemmas.Result.{on_ok_weaker}
use Rattle.play_text.specs.Lanes.{lane_text, moved}
use Rattle.play_text.specs.Stripes.{AreFound, AreStill, grid, joined, marked_all}
use Rattle.play_text.proofs.StripeLaws.{marked_all-still, grid-marked_all, flat_map-joined, map-joined, are_found_moved}
use Rattle.play_text.proofs.trace_stripes.Stripes.push_changes.Goals as goal

pub push_stripes-requires : goal.push_stripes-requires
push_stripes-requires c =
    subst (AreStill c.args.now.now) (sym (c.mark_all.ensures ∙ ap (λ shown. marked_all shown c.args.signals.now c.args.self.now.stripes.items) c.as_slice.ensures.value))
    (marked_all-still c.args.self.now.shown.items c.args.signals.now c.args.now.now c.args.self.now.stripes.items c.requires.found c.requires.noted)

pub returns-clause-text : goal.returns-clause-text
returns-clause-text c =
    let now = c.args.now.now in
    let all = c.args.self.now.stripes.items in
    let same : grid c.mark_all.new.stripes.items ≡ grid all = ap grid c.mark_all.ensures ∙ grid-marked_all c.as_slice.result.now c.args.signals.now all in
    on_ok_weaker c.push_stripes.result
    (λ e. e ∙ ap (λ (t : List ℕ). c.args.text.now.items ++ t) (flat_map-joined now c.mark_all.new.stripes.items ∙ ap (λ g. flat_map (lane_text now) (joined g)) same))
    c.push_stripes.ensures.text

pub returns-clause-lanes : goal.returns-clause-lanes
returns-clause-lanes c =
    let now = c.args.now.now in
    let all = c.args.self.now.stripes.items in
    let same : grid c.mark_all.new.stripes.items ≡ grid all = ap grid c.mark_all.ensures ∙ grid-marked_all c.as_slice.result.now c.args.signals.now all in
    on_ok_weaker c.push_stripes.result
    (λ e. ap joined (e ∙ ap (map (map (moved now))) same) ∙ map-joined (moved now) (grid all))
    c.push_stripes.ensures.lanes

pub returns-clause-found : goal.returns-clause-found
returns-clause-found c =
    let now = c.args.now.now in
    let all = c.args.self.now.stripes.items in
    let shown = c.args.self.now.shown.items in
    let same : grid c.mark_all.new.stripes.items ≡ grid all = ap grid c.mark_all.ensures ∙ grid-marked_all c.as_slice.result.now c.args.signals.now all in
    on_ok_weaker c.push_stripes.result
    (λ e. subst (λ g. AreFound shown 0 g) (sym (e ∙ ap (map (map (moved now))) same)) (are_found_moved shown 0 now (grid all) c.requires.found))
    c.push_stripes.ensures.lanes
