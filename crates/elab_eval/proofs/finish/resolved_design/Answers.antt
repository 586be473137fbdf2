use Rattle.std.proofs.Common.{refl, sym, ◌∙◌, ap, Some, None}
use Rattle.py_heap.specs.Heaps.{seen, nothing}
use Rattle.clock_domains.specs.Resolved.{resolved}
use Rattle.elab_store.specs.Simulations.{Simulation}
use Rattle.elab_store.specs.Stores.{Held}
use Rattle.elab_eval.specs.Elaborates.{held_of_modules, design_of, design_stop, root_module}
use Rattle.elab_eval.proofs.ClockLaws.{checked_design, told_as, no_stop}
use Rattle.elab_eval.proofs.DesignLaws.{design_refused, tree_made, tree_resolvable, refused_design, made_design, unresolved_design}
use Rattle.elab_eval.proofs.NamedResets.{resets_named}
use Rattle.elab_eval.proofs.PlacedSound.{resolved_sound}
use Rattle.elab_eval.proofs.StandingLaws.{tree_more}
use Rattle.elab_eval.proofs.finish.resolved_design.Goals as goal

pub tree-requires : goal.tree-requires
tree-requires c = (refl, (c.requires.sound, resets_named c.args.pool c.requires.named))

pub resolve-requires : goal.resolve-requires
resolve-requires c =
    let h : Held = held_of_modules c.args.pool c.args.store.now c.args.modules.items in
    let pool = c.tree.new.pool in
    tree_resolvable (seen nothing c.args._heap.now) h pool c.in-Ok.root c.in-Some.ports c.requires.sound c.known.ensures c.in-Ok.ensures.stands c.in-Ok.ensures.tree (sym c.requires.ports ∙ c.in-Some.is)

pub returns-in-Err-clause-found : goal.returns-in-Err-clause-found
returns-in-Err-clause-found c =
    let h : Held = held_of_modules c.args.pool c.args.store.now c.args.modules.items in
    let heap = c.args._heap.now in
    design_refused h heap c.in-Err.stop (design_of h heap) (refused_design h heap c.tree.new.pool c.in-Err.stop c.requires.named c.in-Err.ensures.tree)

pub returns-in-Err-resolve-clause-found : goal.returns-in-Err-resolve-clause-found
returns-in-Err-resolve-clause-found c =
    let h : Held = held_of_modules c.args.pool c.args.store.now c.args.modules.items in
    let heap = c.args._heap.now in
    let pool = c.tree.new.pool in
    let owed = made_design h heap pool c.in-Ok.root (Some c.in-Some.ports) c.requires.named c.in-Ok.ensures.tree (sym c.in-Some.is ∙ c.requires.ports) in
    design_refused h heap c.unresolved_stop.result (design_of h heap) (unresolved_design h heap (resolved pool c.in-Ok.root c.in-Some.ports) c.in-Err-resolve.stop c.unresolved_stop.result owed c.in-Err-resolve.ensures.refused c.unresolved_stop.ensures)

pub returns-in-Some-design_stop-clause-found : goal.returns-in-Some-design_stop-clause-found
returns-in-Some-design_stop-clause-found c =
    let h : Held = held_of_modules c.args.pool c.args.store.now c.args.modules.items in
    let heap = c.args._heap.now in
    let pool = c.tree.new.pool in
    let owed = made_design h heap pool c.in-Ok.root (Some c.in-Some.ports) c.requires.named c.in-Ok.ensures.tree (sym c.in-Some.is ∙ c.requires.ports) in
    design_refused h heap c.in-Some-design_stop.stop (design_of h heap) (told_as c.in-Some-design_stop.stop (design_of h heap)
    (checked_design h heap (resolved pool c.in-Ok.root c.in-Some.ports) c.in-Ok-resolve.design (Some c.in-Some-design_stop.stop) c.clocks.result.now owed c.in-Ok-resolve.ensures.design c.in-Some-design_stop.ensures
    (c.clocks.ensures ∙ ap (λ (x : Simulation). x.clocks) c.simulation.ensures)))

pub returns-in-None-clause-found : goal.returns-in-None-clause-found
returns-in-None-clause-found c =
    let h : Held = held_of_modules c.args.pool c.args.store.now c.args.modules.items in
    let heap = c.args._heap.now in
    let pool = c.tree.new.pool in
    let owed = made_design h heap pool c.in-Ok.root (Some c.in-Some.ports) c.requires.named c.in-Ok.ensures.tree (sym c.in-Some.is ∙ c.requires.ports) in
    checked_design h heap (resolved pool c.in-Ok.root c.in-Some.ports) c.in-Ok-resolve.design None c.clocks.result.now owed c.in-Ok-resolve.ensures.design c.in-None.ensures
    (c.clocks.ensures ∙ ap (λ (x : Simulation). x.clocks) c.simulation.ensures)

pub returns-in-None-clause-fit : goal.returns-in-None-clause-fit
returns-in-None-clause-fit c =
    let q = c.args.pool in
    let s = c.args.store.now in
    let bs = c.args.modules.items in
    let pool = c.tree.new.pool in
    let h : Held = held_of_modules q s bs in
    let made = tree_made h.store (root_module h.store) q pool c.in-Ok.root c.in-Ok.ensures.tree in
    let more = tree_more h.store made.built q (c.in-Ok.root, pool) made.tree in
    let fine = no_stop c.in-Ok-resolve.design h.store.simulation.clocks (c.in-None.ensures ∙ ap (design_stop c.in-Ok-resolve.design) (c.clocks.ensures ∙ ap (λ (x : Simulation). x.clocks) c.simulation.ensures)) in
    record {
      few = fine.few;
      sound = resolved_sound q pool s bs c.in-Ok.root c.in-Some.ports c.in-Ok-resolve.design c.requires.sound c.known.ensures c.requires.apart more c.in-Ok.ensures.stands c.in-Ok-resolve.ensures.design;
      clocks = fine.clocks;
    }
