use Rattle.std.proofs.Common.{◌∙◌, sym, ap}
use Rattle.elab_store.specs.Stores.{Stored}
use Rattle.elab_eval.specs.Elaborates.{is_open_in}
use Rattle.elab_eval.proofs.TreeLaws.{module_put, memory_put, wrapper_put}
use Rattle.elab_eval.proofs.trees.put_node.Goals as goal

pub put_module-requires : goal.put_module-requires
put_module-requires g c =
    let s : Stored = record c.args.store.now { modules = g.built } in
    (c.requires.0, ap (is_open_in s) (sym c.in-Module.is) ∙ c.requires.1.0)

pub put_memory-requires : goal.put_memory-requires
put_memory-requires g c =
    let s : Stored = record c.args.store.now { modules = g.built } in
    ap (is_open_in s) (sym c.in-Memory.is) ∙ c.requires.1.0

pub returns-in-Ok : goal.returns-in-Ok
returns-in-Ok g c =
    let s : Stored = record c.args.store.now { modules = g.built } in
    module_put s c.args.node c.in-Module.m c.args.behind c.in-Ok.trees c.args.pool.now c.in-Module.is c.in-Ok.ensures

pub returns-in-Ok-put_memory : goal.returns-in-Ok-put_memory
returns-in-Ok-put_memory g c =
    let s : Stored = record c.args.store.now { modules = g.built } in
    memory_put s c.args.node c.in-Memory.k c.args.behind c.in-Ok-put_memory.trees c.args.pool.now c.in-Memory.is c.in-Ok-put_memory.ensures

pub returns-in-Wrapper : goal.returns-in-Wrapper
returns-in-Wrapper g c =
    let s : Stored = record c.args.store.now { modules = g.built } in
    wrapper_put s c.args.node c.in-Wrapper.k c.args.behind c.args.pool.now c.wrap_first.new.pool c.wrap_first.result c.in-Wrapper.is c.wrap_first.ensures
