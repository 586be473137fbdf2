use Rattle.clock_domains.proofs.resolving.placed_domains.Given as goal

abbrev pub ghost-no_missing_reset : goal.ghost-no_missing_reset
ghost-no_missing_reset g a = g.roots
