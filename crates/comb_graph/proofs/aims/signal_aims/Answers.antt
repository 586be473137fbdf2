use Rattle.std.proofs.Common.{◌∙◌, ◌<◌, ◌+◌, ◌*◌, sym, ap, arith, map}
use Rattle.std.specs.List.{range_with_len}
use Rattle.std.proofs.lemmas.List.FromFn.{map-range_with_len_more}
use Rattle.design_ir.specs.Targets.{aim_at}
use Rattle.comb_graph.specs.declared.aimed.At.TheVariants.{Fixed}
use Rattle.comb_graph.specs.declared.aimed.Aimed.{Aimed}
use Rattle.comb_graph.specs.Seen.{seen}
use Rattle.comb_graph.proofs.AimTables.{seen_at, seen_push}
use Rattle.comb_graph.proofs.aims.signal_aims.Goals as goal

pub loop-i-preserved : goal.loop-i-preserved
loop-i-preserved c =
    let s = c.args.s.0 in
    let i = c.loop-i.i in
    let low : i < 128 = omega (arith, c.loop-i-test.true, c.loop-i.auto.i-end, c.requires) in
    let a : Aimed = record { node = 128 * s + i; at = Fixed i } in
    ap (map seen) c.in_ok-push.ensures.ok ∙ seen_push c.loop-i.row a (map (aim_at s) (range_with_len 0 i)) (aim_at s i) c.loop-i.invariant (seen_at s i low)
    ∙ sym (map-range_with_len_more (aim_at s) 0 i i (omega arith))
