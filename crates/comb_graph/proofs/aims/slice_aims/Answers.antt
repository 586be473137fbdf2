use Rattle.std.proofs.Common.{◌∙◌, sym, ap, map, take, slice_index_or}
use Rattle.std.specs.List.{filter_map}
use Rattle.std.proofs.lemmas.Option.{slice_get-get_or}
use Rattle.design_ir.specs.Targets.{within}
use Rattle.comb_graph.specs.declared.aimed.At.TheVariants.{Fixed}
use Rattle.comb_graph.specs.declared.aimed.Aimed.{Aimed}
use Rattle.comb_graph.specs.Seen.{seen}
use Rattle.comb_graph.proofs.AimTables.{filtered_more, seen_push_some}
use Rattle.comb_graph.proofs.aims.slice_aims.Goals as goal

pub loop-aim-preserved : goal.loop-aim-preserved
loop-aim-preserved c =
    let i = c.loop-aim.aim-index in
    let f = within c.args.low c.args.width in
    let d : Aimed = record { node = 0; at = Fixed 0 } in
    let a : Aimed = slice_index_or c.args.aims.now i d in
    ap (map seen) c.in_ok-push_some.ensures
    ∙ seen_push_some c.loop-aim.row c.cut.result (filter_map f (map seen (take i c.args.aims.now))) (f (seen a)) c.loop-aim.invariant c.cut.ensures
    ∙ sym (filtered_more f c.args.aims.now i a (slice_get-get_or c.args.aims.now i d c.loop-aim-test.true))
