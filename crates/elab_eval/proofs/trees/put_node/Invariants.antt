use Rattle.elab_eval.proofs.trees.put_node.Given as goal

abbrev pub ghost-put_module : goal.ghost-put_module
ghost-put_module g a = g.built
