use Rattle.std.proofs.Common.{arith}
use Rattle.std.proofs.lemmas.Grind.{common_steps}
use Rattle.data_layouts.proofs.LayoutLaws.{one_above-push}
use Rattle.data_layouts.proofs.layout.one_above.Goals as goal

pub loop-m-preserved : goal.loop-m-preserved
loop-m-preserved c = record { so_far = grind (arith, common_steps, one_above-push); low = grind (arith, common_steps) }
