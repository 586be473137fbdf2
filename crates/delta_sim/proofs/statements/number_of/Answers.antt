use Rattle.std.proofs.Common.{◌∙◌, pos}
use Rattle.delta_sim.proofs.PlaceWalks.{among_below, among_known}
use Rattle.sim_plans.proofs.Turns.{any_default}
use Rattle.delta_sim.proofs.statements.number_of.Goals as goal

pub bounds-nums-e : goal.bounds-nums-e
bounds-nums-e c = among_below c.args.design.now.pool c.args.env.now c.args.nums.now c.args.task.now.exprs c.requires.read c.args.e.0 c.requires.among

pub returns : goal.returns
returns c =
    c.index-nums-e.is
    ∙ any_default c.args.nums.now c.args.e.0 c.index-nums-e.result (pos 0) (among_below c.args.design.now.pool c.args.env.now c.args.nums.now c.args.task.now.exprs c.requires.read c.args.e.0 c.requires.among)
    ∙ among_known c.args.design.now.pool c.args.env.now c.args.nums.now c.args.task.now.exprs c.requires.read c.args.e.0 c.requires.among
