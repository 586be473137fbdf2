use Rattle.std.proofs.Common.{◌≡◌, ◌∙◌, ◌++◌, length, map, Some, slice_get, refl, ap}
use Rattle.std.proofs.lemmas.Option.{slice_get_read}
use Rattle.design_ir.specs.declared.memory.Memory.{Memory}
use Rattle.design_ir.specs.declared.process.Process.{Process}
use Rattle.design_ir.specs.Forests.{Leaf}
use Rattle.design_ir.specs.Fragments.{leaf_of}
use Rattle.fragment_walks.specs.Held.{leaf_exprs}
use Rattle.fragment_walks.specs.Walks.{memory_named, memory_paths, memory_paths_of, memories_of, named_memories, naming_path, path_under, paths_of, plain_names, process_paths}
use Rattle.fragment_walks.proofs.WalkLaws.{gathered_turn, leaves_turn, under_turn}
use Rattle.fragment_walks.proofs.walk.Walk.+walk.Goals as goal

pub loop-module-preserved : goal.loop-module-preserved
loop-module-preserved t c =
    let items = c.as_slice-module-items.result.now in
    let i = c.loop-module.module-index in
    let item = c.module-item.result in
    let at : slice_get items i ≡ Some item = slice_get_read items (length items) i item refl c.loop-module-test.true c.module-item.is in
    let path = c.args.path.now in
    let old = c.args.self.now in
    let cur = c.loop-module.self in
    let mid = c.add.new.self in
    let new = c.add_all.new.self in
    let site = c.in_ok-site.site in
    let name : site.name ≡ path ++ item.name = c.in_ok-site.ensures.name ∙ ap (λ n. path ++ n) c.as_str.ensures in
    let inner : site.path ≡ path_under path item.name = c.in_ok-site.ensures.path ∙ ap (path_under path) c.as_str.ensures in
    let under : c.as_str-in-loop-module.result.now ≡ path_under path item.name = c.as_str-in-loop-module.ensures ∙ inner in
    let leaf = leaf_of item in
    let one = c.in_ok-add.ensures in
    let below = c.in_ok-add_all.ensures in
    let before = c.loop-module.invariant in
    record {
      processes = gathered_turn (λ (l : Leaf). l.processes) items i item old.processes.items cur.processes.items mid.processes.items new.processes.items at before.processes one.processes below.processes;
      paths =
          under_turn process_paths path items i item old.paths cur.paths mid.paths new.paths at before.paths
          (one.paths ∙ ap (λ x. cur.paths ++ map (λ (p : Process). naming_path leaf x) item.processes) inner)
          (below.paths ∙ ap (λ x. mid.paths ++ paths_of x item.submodules) under);
      memories =
          under_turn named_memories path items i item old.memories cur.memories mid.memories new.memories at before.memories
          (one.memories ∙ ap (λ x. cur.memories ++ map (memory_named x) item.memories) name)
          (below.memories ∙ ap (λ x. mid.memories ++ memories_of x item.submodules) under);
      memory_paths =
          under_turn memory_paths path items i item old.memory_paths cur.memory_paths mid.memory_paths new.memory_paths at before.memory_paths
          (one.memory_paths ∙ ap (λ x. cur.memory_paths ++ map (λ (m : Memory). naming_path leaf x) item.memories) inner)
          (below.memory_paths ∙ ap (λ x. mid.memory_paths ++ memory_paths_of x item.submodules) under);
      definitions = gathered_turn (λ (l : Leaf). l.domains) items i item old.definitions cur.definitions mid.definitions new.definitions at before.definitions one.definitions below.definitions;
      names = leaves_turn plain_names items i item old.names.items cur.names.items mid.names.items new.names.items at before.names one.names below.names;
      roots = leaves_turn leaf_exprs items i item old.roots cur.roots mid.roots new.roots at before.roots one.roots below.roots;
    }
