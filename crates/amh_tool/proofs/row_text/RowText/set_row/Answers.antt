use Rattle.std.proofs.Common.{◌≡◌, ◌<◌, ◌∙◌, ◌++◌, ap, sym, subst, map, length}
use Rattle.std.specs.List.{AllByRecursion, flat_map}
use Rattle.play_text.specs.Lanes.{lane_text, moved, row_head}
use Rattle.play_text.specs.Stripes.{IsNoted}
use Rattle.play_text.specs.Trace.{Row, line_feed, row_line}
use Rattle.play_text.proofs.StripeLaws.{noted_by}
use Rattle.amh_tool.proofs.LaneLaws.{lanes_moved, row_line-parts}
use Rattle.amh_tool.proofs.row_text.RowText.set_row.Goals as goal

pub push_rest-requires-clause-found : goal.push_rest-requires-clause-found
push_rest-requires-clause-found c = c.requires.shows.found

pub push_rest-requires-clause-noted : goal.push_rest-requires-clause-noted
push_rest-requires-clause-noted c =
    let t = c.args.self.now in
    let signals = c.args.moved.now in
    let now = c.args.now.now in
    let count = length t.stripes.shown.items in
    let many : count ≡ length now = c.requires.shows.count ∙ c.requires.count in
    let few = subst (λ n. AllByRecursion (λ s. s < n) signals) (sym many) c.requires.signals in
    subst (λ xs. AllByRecursion (IsNoted count signals now) xs) (sym c.requires.shows.lanes) (noted_by count signals t.before.items now c.args.board.now.columns few c.requires.all)

pub returns-clause-line : goal.returns-clause-line
returns-clause-line c =
    let t = c.args.self.now in
    let b = c.args.board.now in
    let now = c.args.now.now in
    let row : Row = record { time = c.args.time; event = c.args.event.now } in
    let front : c.push_front.new.text.items ≡ row_head b row t.before.items = c.in_ok-push_front.ensures ∙ (λ j. c.clear.ensures.items j ++ row_head b row (c.as_slice.ensures.value j)) in
    c.in_ok-push_rest.ensures.text ∙ (λ j. front j ++ (flat_map (lane_text now) (c.requires.shows.lanes j) ++ line_feed)) ∙ row_line-parts b row t.before.items now

pub returns-clause-shows : goal.returns-clause-shows
returns-clause-shows c =
    let t = c.args.self.now in
    let b = c.args.board.now in
    let now = c.args.now.now in
    record {
      before = c.follow.ensures;
      lanes = c.in_ok-push_rest.ensures.lanes ∙ ap (map (moved now)) c.requires.shows.lanes ∙ lanes_moved b.columns t.before.items now;
      found = c.in_ok-push_rest.ensures.found;
      count = c.push_rest.ensures.count ∙ c.requires.shows.count ∙ c.requires.count;
    }
