use Rattle.std.proofs.Common.{ap, length}
use Rattle.elab_eval.proofs.TreeLaws.{all_taken}
use Rattle.elab_eval.proofs.trees.Trees.all.Goals as goal

pub returns : goal.returns
returns c = all_taken c.take.result c.trees.inside.items.items c.args.self c.take.new.self _ c.trees.view_is (ap length c.as_slice-count.ensures.value) c.take.ensures
