use Rattle.std.proofs.Common.{◌≡◌, ◌∷◌, [], length, take, Some, slice_get, refl}
use Rattle.std.specs.List.{filter_map}
use Rattle.std.proofs.lemmas.Option.{slice_get_read}
use Rattle.std.proofs.lemmas.List.Elements.{filter_map-append}
use Rattle.design_ir.specs.declared.process.Process.{Process}
use Rattle.fragment_walks.specs.Walks.{side_name}
use Rattle.fragment_walks.proofs.ExprLists.{added_turn}
use Rattle.fragment_walks.proofs.walk.add_sides.Goals as goal

pub loop-process-preserved : goal.loop-process-preserved
loop-process-preserved c =
    let ps = c.args.processes.now in
    let i = c.loop-process.process-index in
    let p = c.process-item.result in
    let at : slice_get ps i ≡ Some p = slice_get_read ps (length ps) i p refl c.loop-process-test.true c.process-item.is in
    added_turn (filter_map (λ (x : Process). side_name x.side)) ps i p (filter_map side_name (p.side ∷ [])) c.args.names.now c.loop-process.names c.add_side.new.names at
    (filter_map-append (λ (x : Process). side_name x.side) (take i ps) (p ∷ [])) c.loop-process.invariant c.in_ok-add_side.ensures
