use Rattle.netlist_laws.specs.Module.{wire_id}
use Rattle.netlist.specs.Tables.{source_of}
use Rattle.netlist.proofs.LowerRuns.{run_constant}
use Rattle.netlist.proofs.spelling.part.Goals as goal

pub returns-in_ok-constants-in-None : goal.returns-in_ok-constants-in-None
returns-in_ok-constants-in-None c =
    let ids = wire_id c.args.design.now in
    run_constant (source_of ids) c.args.run.now _ c.in_ok-constants-in-None.field-0 c.requires.some (c.in-None.ensures ids) (c.in_ok-constants-in-None.ensures ids)
