use Rattle.std.proofs.Common.{◌≡◌, ap, sym, ◌∙◌, ◌++◌, arith, length, take, drop}
use Rattle.play_text.specs.Lanes.{lanes_at}
use Rattle.play_text.specs.Stripes.{grid, joined}
use Rattle.play_text.proofs.StripeLaws.{joined_turn, lanes_cut, not_empty}
use Rattle.play_text.proofs.trace_stripes.stripes_of.Goals as goal

pub loop-preserved : goal.loop-preserved
loop-preserved c =
    let env = c.args.first.now in
    let rest = c.loop.rest.now in
    let n = c.min.result in
    let x = c.in_ok-stripe_of.field-0 in
    let is : x.lanes.items ≡ lanes_at (take n rest) env = c.in_ok-stripe_of.ensures ∙ ap (λ xs. lanes_at xs env) c.split_at.ensures.front in
    record {
      lanes =
          (λ i. joined (grid (c.in_ok-push.ensures.items i)) ++ lanes_at (c.split_at.ensures.back i) env)
          ∙ joined_turn c.loop.stripes.items x (lanes_at (drop n rest) env)
          ∙ ap (λ xs. joined (grid c.loop.stripes.items) ++ (xs ++ lanes_at (drop n rest) env)) is
          ∙ ap (λ xs. joined (grid c.loop.stripes.items) ++ xs) (lanes_cut rest n env)
          ∙ c.loop.invariant.lanes;
      few = omega (arith, c.loop.invariant.few, c.split_at.ensures.back_len, c.split_at.ensures.front_len, not_empty (length c.split_at.result.0.now) (sym c.is_empty.ensures ∙ c.if-is_empty.false));
    }
