use Rattle.std.proofs.Common.{◌≡◌, ◌∙◌, ◌++◌, ◌∷◌, [], List, length, map, take, Some, slice_get, refl, ap}
use Rattle.std.proofs.lemmas.Option.{slice_get_read}
use Rattle.design_ir.specs.declared.process.Process.{Process}
use Rattle.design_ir.specs.Fragments.{leaf_of}
use Rattle.fragment_walks.specs.Walks.{naming_path}
use Rattle.fragment_walks.proofs.ExprLists.{added_turn}
use Rattle.fragment_walks.proofs.Lists.{map-push}
use Rattle.fragment_walks.proofs.walk.Walk.add_processes.Goals as goal

pub loop-process-preserved : goal.loop-process-preserved
loop-process-preserved c =
    let ps = c.as_slice-process-items.result.now in
    let i = c.loop-process.process-index in
    let p = c.process-item.result in
    let at : slice_get ps i ≡ Some p = slice_get_read ps (length ps) i p refl c.loop-process-test.true c.process-item.is in
    let path = naming_path (leaf_of c.args.«module».now) c.args.path.now in
    let old = c.args.self.now in
    let cur = c.loop-process.self in
    let before = c.loop-process.invariant in
    record {
      processes =
          added_turn (λ (xs : List Process). xs) ps i p (p ∷ []) old.processes.items cur.processes.items c.push.new.self.items at refl before.processes
          (◌∙◌ {A = List Process} c.in_ok-push.ensures.items (ap (λ (x : Process). cur.processes.items ++ x ∷ []) c.in_ok-copied_process.ensures));
      paths =
          added_turn (map (λ (x : Process). path)) ps i p (path ∷ []) old.paths cur.paths c.push-in-loop-process.new.self at (map-push (λ (x : Process). path) (take i ps) p) before.paths
          (c.in_ok-push-2.ensures.ok ∙ ap (λ x. cur.paths ++ x ∷ []) c.in_ok-naming_path.ensures);
      rest = before.rest;
    }
