use Rattle.std.proofs.Common.{sym, ◌∙◌, rules, ◌≡◌, true}
use Rattle.elab_machines.proofs.MachineLaws.{unsettled_is}
use Rattle.elab_machines.proofs.machine_moves.end_machine.Goals as goal

pub finish-requires-clause-unsettled : goal.finish-requires-clause-unsettled
finish-requires-clause-unsettled c =
    let passed : c.is_unsettled.result ≡ true = search rules in
    unsettled_is c.args.pool.now c.args.machine.now c.is_unsettled.ensures.rules c.requires.register c.requires.front (sym c.is_unsettled.ensures.value ∙ passed)
