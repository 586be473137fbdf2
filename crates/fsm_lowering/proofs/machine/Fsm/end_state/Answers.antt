use Rattle.std.proofs.Common.{rules, ◌≡◌, ◌∙◌, sym, true, Some}
use Rattle.module_dsl.specs.Builders.{built_blocks}
use Rattle.fsm_lowering.specs.Machines.{open_case}
use Rattle.fsm_lowering.proofs.InPlace.{open_switch-left}
use Rattle.fsm_lowering.proofs.machine.Fsm.end_state.Goals as goal

pub returns-clause-in_place : goal.returns-clause-in_place
returns-clause-in_place c =
    let within : c.is_within.result ≡ true = search rules in
    let here : open_case (built_blocks c.args.b.now).around ≡ Some c.self.inside.register =
    (rw (← c.self.view_is) at c.requires.in_place) (sym c.is_within.ensures ∙ within) in
    rw c.in_ok-leave.ensures.left.1 (open_switch-left c.args.b.now c.self.inside.register here)
