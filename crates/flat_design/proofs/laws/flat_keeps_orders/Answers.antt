use Rattle.flat_design.proofs.FlatOrders.{flat_keeps_orders}
use Rattle.flat_design.proofs.laws.flat_keeps_orders.Goals as goal

pub returns : goal.returns
returns c = flat_keeps_orders
