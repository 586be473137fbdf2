use Rattle.fragment_walks.specs.Walks.{all_contents}
use Rattle.clock_domains.proofs.resolving.design_in.Given as goal

abbrev pub ghost-parts_of : goal.ghost-parts_of
ghost-parts_of a = all_contents a.root.now
