use Rattle.elab_eval.proofs.trees.tree.Given as goal

abbrev pub ghost-is_root_open : goal.ghost-is_root_open
ghost-is_root_open g a = g.built

abbrev pub ghost-is_any_open : goal.ghost-is_any_open
ghost-is_any_open g a = g.built

abbrev pub ghost-trees_of : goal.ghost-trees_of
ghost-trees_of g a = g.built

abbrev pub ghost-module_in : goal.ghost-module_in
ghost-module_in g a = g.built
