use Rattle.elab_eval.proofs.trees.is_any_open.Given as goal

abbrev pub ghost-is_node_open : goal.ghost-is_node_open
ghost-is_node_open g a = g.built
