use Rattle.std.proofs.Common.{◌∙◌, length, length-set, slice_index_or, ℤ, List}
use Rattle.design_ir.specs.declared.ids.ExprId.{ExprId}
use Rattle.sim_plans.proofs.Programs.{get_at, known_next, fitting_next, read_all}
use Rattle.sim_plans.proofs.compute.compute.Goals as goal

pub loop-e-preserved : goal.loop-e-preserved
loop-e-preserved c =
    let p = c.args.design.now.pool in
    let list = c.args.exprs.now in
    let i = c.loop-e.e-index in
    let nums : List ℤ = c.loop-e.nums.items in
    let e : ExprId = slice_index_or list i (record { 0 = 0 }) in
    let is = get_at list i (record { 0 = 0 }) c.loop-e-test.true in
    let number = rw c.as_slice.ensures.value at c.number-n.ensures in
    record {
      long = length-set nums e.0 _ ∙ c.loop-e.invariant.long;
      fitting = fitting_next p c.args.env.now c.count.ensures.rules c.requires.fits (length c.args.nums.now.items) list c.requires.program nums c.loop-e.invariant.fitting c.loop-e.invariant.long i e is c.loop-e.invariant.known c.overwrite.new.place (λ x there. c.overwrite.ensures ∙ number x there);
      known = known_next p c.args.env.now c.count.ensures.rules c.requires.fits (length c.args.nums.now.items) list c.requires.program nums c.loop-e.invariant.fitting c.loop-e.invariant.long i e is c.loop-e.invariant.known c.overwrite.new.place (λ x there. c.overwrite.ensures ∙ number x there);
    }

pub returns-clause-read : goal.returns-clause-read
returns-clause-read c =
    read_all c.args.design.now.pool c.args.env.now c.count.ensures.rules c.requires.fits (length c.args.nums.now.items) c.args.exprs.now c.requires.program c.loop-e.nums.items c.loop-e.e-index c.loop-e.invariant.fitting c.loop-e.invariant.long c.loop-e-test.false c.loop-e.invariant.known
