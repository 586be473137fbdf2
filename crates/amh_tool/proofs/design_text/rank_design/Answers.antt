use Rattle.std.specs.Prelude.{map}
use Rattle.comb_graph.specs.Rankings.{bit_of}
use Rattle.amh_tool.specs.DesignGives.{given_of}
use Rattle.amh_tool.proofs.DesignLaws.{IsRanked-order}
use Rattle.amh_tool.proofs.design_text.rank_design.Goals as goal

pub returns-in-Ok-clause-given : goal.returns-in-Ok-clause-given
returns-in-Ok-clause-given c = IsRanked-order (given_of c.args.design c.args.rest) (map bit_of c.in-Ok.ranks.order) c.ordered_have_no_loop.ensures c.in-Ok.ensures.ranks.order

pub returns-in-Ok-clause-ready : goal.returns-in-Ok-clause-ready
returns-in-Ok-clause-ready c = record { ranking = c.in-Ok.ensures.ranks; fit = c.requires.fit; units = c.requires.units }
