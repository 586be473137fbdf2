use Rattle.std.proofs.Common.{◌∙◌, ◌++◌, ◌∷◌, [], sym, ap, arith, map, take, append_assoc, slice_index_or}
use Rattle.std.proofs.lemmas.Option.{slice_get-get_or}
use Rattle.design_ir.specs.Targets.{raised}
use Rattle.comb_graph.specs.declared.aimed.At.TheVariants.{Fixed}
use Rattle.comb_graph.specs.declared.aimed.Aimed.{Aimed}
use Rattle.comb_graph.specs.Seen.{seen}
use Rattle.comb_graph.proofs.AimTables.{raised_more, seen_push}
use Rattle.comb_graph.proofs.aims.push_lifted.Goals as goal

pub lift-requires : goal.lift-requires
lift-requires c = λ k here. let inside = c.requires.below c.loop-aim.aim-index (record { node = 0; at = Fixed 0 }) c.loop-aim-test.true k here in omega (arith, inside, c.requires.narrow)

pub loop-aim-preserved : goal.loop-aim-preserved
loop-aim-preserved c =
    let i = c.loop-aim.aim-index in
    let by = c.args.by in
    let d : Aimed = record { node = 0; at = Fixed 0 } in
    let a : Aimed = slice_index_or c.args.aims.now i d in
    let was = map seen c.args.row.now in
    let own = map (raised by) (map seen (take i c.args.aims.now)) in
    ap (map seen) c.in_ok-push.ensures.ok ∙ seen_push c.loop-aim.row c.lift.result (was ++ own) (raised by (seen a)) c.loop-aim.invariant c.lift.ensures
    ∙ append_assoc was own (raised by (seen a) ∷ [])
    ∙ ap (λ xs. was ++ xs) (sym (raised_more by c.args.aims.now i a (slice_get-get_or c.args.aims.now i d c.loop-aim-test.true)))
