use Rattle.std.proofs.Common.{◌∙◌, ap, sym, refl, [], false, length, slice_index_or}
use Rattle.sim_plans.specs.Waiting.{Waiting}
use Rattle.delta_sim.proofs.SameRows.{no_change}
use Rattle.sim_plans.proofs.Waits.{none_marked}
use Rattle.delta_sim.proofs.event.change.Goals as goal

pub returns-then-s-len-clause-changed : goal.returns-then-s-len-clause-changed
returns-then-s-len-clause-changed c = λ k lt.
    let rows = slice_index_or c.args.rows.now.items k [] in
    ap (λ (w : Waiting). slice_index_or w.marks k false) c.requires.changed ∙ none_marked (length c.args.design.now.memories) k ∙ sym (no_change rows rows refl)

pub returns-else-s-len-clause-changed : goal.returns-else-s-len-clause-changed
returns-else-s-len-clause-changed c = λ k lt.
    let rows = slice_index_or c.args.rows.now.items k [] in
    ap (λ (w : Waiting). slice_index_or w.marks k false) c.requires.changed ∙ none_marked (length c.args.design.now.memories) k ∙ sym (no_change rows rows refl)
