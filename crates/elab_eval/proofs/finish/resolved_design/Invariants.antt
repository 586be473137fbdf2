use Rattle.elab_eval.proofs.finish.resolved_design.Given as goal

abbrev pub ghost-tree : goal.ghost-tree
ghost-tree a = a.modules.items
