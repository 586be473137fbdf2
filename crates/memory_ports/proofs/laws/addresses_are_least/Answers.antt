use Rattle.memory_ports.proofs.Widths.{address_width-least}
use Rattle.memory_ports.proofs.laws.addresses_are_least.Goals as goal

pub returns : goal.returns
returns c = address_width-least
