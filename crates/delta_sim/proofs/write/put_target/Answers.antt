use Rattle.std.proofs.Common.{◌∙◌, ◌<◌, ap, sym, subst, Some, length}
use Rattle.design_ir.specs.declared.expr.Expr as expr
use Rattle.design_ir.specs.Put.{put_number}
use Rattle.design_ir.proofs.Equations.{standing}
use Rattle.design_ir.proofs.TargetLaws.{target_is}
use Rattle.design_ir.proofs.Whole.{put_whole}
use Rattle.delta_sim.proofs.PlaceWalks.{among_there}
use Rattle.delta_sim.proofs.write.put_target.Goals as goal

pub at-requires : goal.at-requires
at-requires c = among_there c.args.design.now.pool c.args.env.now c.args.nums.now c.args.task.now.exprs c.requires.read c.args.target.0 c.requires.among

pub put_whole-requires-clause-there : goal.put_whole-requires-clause-there
put_whole-requires-clause-there c =
    (standing c.args.design.now.pool c.args.target.0 (expr.TheVariants.Sig c.in-Sig.s) c.requires.read.rules (c.at.ensures ∙ ap Some c.in-Sig.is)).askable.parts

pub returns-in-Sig : goal.returns-in-Sig
returns-in-Sig c =
    let p = c.args.design.now.pool in
    let s = c.in-Sig.s in
    let there = (standing p c.args.target.0 (expr.TheVariants.Sig s) c.requires.read.rules (c.at.ensures ∙ ap Some c.in-Sig.is)).askable.parts in
    let bits = target_is p c.args.env.now c.args.target.0 (expr.TheVariants.Sig s) c.requires.read.rules (c.at.ensures ∙ ap Some c.in-Sig.is) in
    let inside : s.0 < length c.args.cur.now = subst (λ n. s.0 < n) (sym c.requires.signals) there in
    c.put_whole.ensures
    ∙ sym (ap (λ xs. put_number p xs c.args.n c.args.cur.now) bits ∙ put_whole p s.0 c.args.cur.now c.args.n inside (c.requires.fits s.0 there))
