use Rattle.amh_tool.specs.Headline.{StandsFor}
use Rattle.amh_tool.proofs.ClosingLaws.{rtlil_whole, rtlil_part}
use Rattle.amh_tool.specs.Views.{plan_seen}
use Rattle.amh_tool.proofs.perform.put_rtlil.Goals as goal

pub returns-clause-done : goal.returns-clause-done
returns-clause-done g c =
    let d = c.args.design.now in
    let stands : StandsFor c.write.ensures.text.0 d = record { netlist = c.in_ok-module.module; reads = c.write.ensures.text.1; corresponds = c.in_ok-module.ensures.corresponds; same_history = c.in_ok-module.ensures.history } in
    rtlil_whole (plan_seen c.args.plan.now) d c.write.ensures.text.0 _ _ c.write.result stands c.write.ensures.text.2

pub returns-clause-err : goal.returns-clause-err
returns-clause-err g c =
    let d = c.args.design.now in
    let stands : StandsFor c.write.ensures.text.0 d = record { netlist = c.in_ok-module.module; reads = c.write.ensures.text.1; corresponds = c.in_ok-module.ensures.corresponds; same_history = c.in_ok-module.ensures.history } in
    rtlil_part (plan_seen c.args.plan.now) d c.write.ensures.text.0 _ _ c.write.result stands c.write.ensures.text.2
