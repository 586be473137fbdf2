use Rattle.comb_graph.proofs.SetLaws.{only_one}
use Rattle.comb_graph.proofs.sets.only.Goals as goal

pub returns : goal.returns
returns c = λ k. only_one c.args.place k c.requires
