use Rattle.std.proofs.Common.{refl, sym, ◌∙◌}
use Rattle.std.proofs.lemmas.Result.{IfOk-weaker}
use Rattle.netlist.proofs.LowerPorts.{named_there, named_clock, unnamed_clock}
use Rattle.netlist.proofs.ports.port_clock.Goals as goal

pub clock_of-requires-clause-domain : goal.clock_of-requires-clause-domain
clock_of-requires-clause-domain c = named_there c.args.design.now c.args.name.now c.in-Some.d.0 (sym c.in-Some.ensures)

pub returns-in-Some : goal.returns-in-Some
returns-in-Some c = IfOk-weaker c.clock_of.result _ _ (λ spec e. e ∙ sym (named_clock c.args.design.now c.args.name.now c.in-Some.d (sym c.in-Some.ensures))) c.clock_of.ensures

pub returns-in-None : goal.returns-in-None
returns-in-None c = unnamed_clock c.args.design.now c.args.name.now _ c.new.ensures refl (sym c.in-None.ensures)
