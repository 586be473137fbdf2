use Rattle.std.proofs.Common.{◌∙◌, ◌++◌, [], sym, ap, map, take, append_assoc, slice_index_or}
use Rattle.std.specs.List.{filter_map, cons_option}
use Rattle.std.proofs.lemmas.Option.{slice_get-get_or}
use Rattle.design_ir.specs.Targets.{loose}
use Rattle.comb_graph.specs.declared.aimed.At.TheVariants.{Fixed}
use Rattle.comb_graph.specs.declared.aimed.Aimed.{Aimed}
use Rattle.comb_graph.specs.Seen.{seen}
use Rattle.comb_graph.proofs.AimTables.{filtered_more, seen_push_some}
use Rattle.comb_graph.proofs.aims.push_loose.Goals as goal

pub loosen-requires : goal.loosen-requires
loosen-requires c = c.requires c.loop-aim.aim-index (record { node = 0; at = Fixed 0 }) c.loop-aim-test.true

pub loop-aim-preserved : goal.loop-aim-preserved
loop-aim-preserved c =
    let i = c.loop-aim.aim-index in
    let f = loose c.args.width in
    let d : Aimed = record { node = 0; at = Fixed 0 } in
    let a : Aimed = slice_index_or c.args.aims.now i d in
    let was = map seen c.args.row.now in
    let own = filter_map f (map seen (take i c.args.aims.now)) in
    ap (map seen) c.in_ok-push_some.ensures ∙ seen_push_some c.loop-aim.row c.loosen.result (was ++ own) (f (seen a)) c.loop-aim.invariant c.loosen.ensures
    ∙ append_assoc was own (cons_option (f (seen a)) [])
    ∙ ap (λ xs. was ++ xs) (sym (filtered_more f c.args.aims.now i a (slice_get-get_or c.args.aims.now i d c.loop-aim-test.true)))
