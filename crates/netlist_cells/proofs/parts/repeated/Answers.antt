use Rattle.std.proofs.Common.{replicate, ◌+◌, ◌-◌, ◌++◌, ◌∷◌, [], ◌∙◌, ap}
use Rattle.rtlil_text.specs.declared.sig.SigPart.TheVariants as parts
use Rattle.netlist_cells.proofs.LowerParts.{one_more, no_more, replicate_next, replicate_end}
use Rattle.netlist_cells.proofs.parts.repeated.Goals as goal

pub loop-i-preserved : goal.loop-i-preserved
loop-i-preserved c =
    let n = c.args.count in
    let x = parts.Wire c.args.id.now c.args.low 1 in
    one_more c.loop-i.spec c.push.new.self (replicate n x) (replicate (n - c.loop-i.i) x) (replicate (n - (c.loop-i.i + 1)) x) x
    (replicate_next n c.loop-i.i x c.loop-i-test.true) (c.in_ok-push.ensures.ok ∙ ap (λ id. c.loop-i.spec ++ parts.Wire id c.args.low 1 ∷ []) c.in_ok-id.ensures) c.loop-i.invariant

pub returns : goal.returns
returns c =
    let n = c.args.count in
    let x = parts.Wire c.args.id.now c.args.low 1 in
    no_more c.loop-i.spec (replicate n x) (replicate (n - c.loop-i.i) x) (replicate_end n c.loop-i.i x c.loop-i-test.false) c.loop-i.invariant
