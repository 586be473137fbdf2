use Rattle.cell_split.specs.Needs.{node_of}
use Rattle.cell_split.proofs.NeedLaws.{end_tied}
use Rattle.cell_split.proofs.needs.add_end.Goals as goal

pub returns-clause-end : goal.returns-clause-end
returns-clause-end c =
    end_tied c.tie_all.new.graph (node_of c.args.nodes.now) c.args.place c.args.output.now c.args.end.now c.is.result c.deref.result.now c.in_ok-bits.bits.items c.is.ensures c.deref.ensures.value c.in_ok-bits.ensures.nodes c.in_ok-tie_all.ensures.tied
