use Rattle.netlist_laws.proofs.PortGuards.{guards_made}
use Rattle.netlist_laws.proofs.laws.guards_are_made.Goals as goal

pub returns : goal.returns
returns c = guards_made
