use Rattle.std.proofs.Common.{◌≡◌, suc, ◌+◌, ◌-◌, sym, ◌∙◌, refl, ap, arith, Some, None}
use Rattle.py_values.specs.declared.val.Val.TheVariants as val
use Rattle.py_heap.specs.Heaps.{seen}
use Rattle.elab_store.specs.Calls.{first_or}
use Rattle.elab_wiring.specs.SignatureClasses.{root_in}
use Rattle.elab_wiring.proofs.RootLaws.{root_next, root_out, root_other}
use Rattle.elab_wiring.proofs.signature_classes.root_of.Goals as goal

pub returns-in-Hw : goal.returns-in-Hw
returns-in-Hw c =
    let one_more : c.args.class.0 + 1 - c.loop-turn._turn ≡ suc (c.args.class.0 + 1 - (c.loop-turn._turn + 1)) = omega arith in
    sym (root_next (seen c.args.frozen.now c.args.heap.now) (c.args.class.0 + 1 - c.loop-turn._turn) (c.args.class.0 + 1 - (c.loop-turn._turn + 1)) c.loop-turn.at _ (Some c.in-Hw.thing) one_more (c.in-Hw.ensures ∙ ap (first_or val.None) c.row.ensures) refl) ∙ c.loop-turn.invariant

pub returns-in_default : goal.returns-in_default
returns-in_default c =
    let one_more : c.args.class.0 + 1 - c.loop-turn._turn ≡ suc (c.args.class.0 + 1 - (c.loop-turn._turn + 1)) = omega arith in
    sym (root_next (seen c.args.frozen.now c.args.heap.now) (c.args.class.0 + 1 - c.loop-turn._turn) (c.args.class.0 + 1 - (c.loop-turn._turn + 1)) c.loop-turn.at c.first_val.result None one_more (c.first_val.ensures ∙ ap (first_or val.None) c.row.ensures) (root_other _ c.first_val.result c.in_default.not-Class c.in_default.not-Hw)) ∙ c.loop-turn.invariant

pub loop-turn-preserved : goal.loop-turn-preserved
loop-turn-preserved c =
    let one_more : c.args.class.0 + 1 - c.loop-turn._turn ≡ suc (c.args.class.0 + 1 - (c.loop-turn._turn + 1)) = omega arith in
    sym (root_next (seen c.args.frozen.now c.args.heap.now) (c.args.class.0 + 1 - c.loop-turn._turn) (c.args.class.0 + 1 - (c.loop-turn._turn + 1)) c.loop-turn.at _ (root_in (c.args.class.0 + 1 - (c.loop-turn._turn + 1)) (seen c.args.frozen.now c.args.heap.now) c.in-Class.base) one_more (c.in-Class.ensures ∙ ap (first_or val.None) c.row.ensures) refl) ∙ c.loop-turn.invariant

pub returns : goal.returns
returns c =
    let none : c.args.class.0 + 1 - c.loop-turn._turn ≡ 0 = omega arith in
    sym (root_out (seen c.args.frozen.now c.args.heap.now) (c.args.class.0 + 1 - c.loop-turn._turn) c.loop-turn.at none) ∙ c.loop-turn.invariant
