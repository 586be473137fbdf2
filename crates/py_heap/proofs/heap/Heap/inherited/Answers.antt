use Rattle.std.proofs.Common.{◌≡◌, suc, ◌+◌, ◌-◌, sym, ◌∙◌, refl, ap, arith}
use Rattle.py_heap.specs.declared.objects.Inherited.TheVariants.{Thing, Nowhere}
use Rattle.py_heap.specs.Heaps.{seen}
use Rattle.py_heap.specs.Objects.{first_in, inherited_in}
use Rattle.py_heap.proofs.ObjectLaws.{inherits_own, inherits_base, inherits_none, of_base-other}
use Rattle.py_heap.proofs.heap.Heap.inherited.Goals as goal

pub returns-in-Some : goal.returns-in-Some
returns-in-Some c =
    let one_more : c.args.class.0 + 1 - c.loop-turn._turn ≡ suc (c.args.class.0 + 1 - (c.loop-turn._turn + 1)) = omega arith in
    sym (inherits_own (seen c.args.frozen.now c.args.self.now) c.args.name.now (c.args.class.0 + 1 - c.loop-turn._turn) (c.args.class.0 + 1 - (c.loop-turn._turn + 1)) c.loop-turn.at c.in-Some.v one_more c.in-Some.ensures) ∙ c.loop-turn.invariant

pub returns-in-Hw : goal.returns-in-Hw
returns-in-Hw c =
    let one_more : c.args.class.0 + 1 - c.loop-turn._turn ≡ suc (c.args.class.0 + 1 - (c.loop-turn._turn + 1)) = omega arith in
    sym (inherits_base (seen c.args.frozen.now c.args.self.now) c.args.name.now (c.args.class.0 + 1 - c.loop-turn._turn) (c.args.class.0 + 1 - (c.loop-turn._turn + 1)) c.loop-turn.at _ (Thing c.in-Hw.thing) one_more c.in_default.ensures (c.in-Hw.ensures ∙ ap first_in c.row.ensures) refl) ∙ c.loop-turn.invariant

pub returns-in_default-first_in : goal.returns-in_default-first_in
returns-in_default-first_in c =
    let one_more : c.args.class.0 + 1 - c.loop-turn._turn ≡ suc (c.args.class.0 + 1 - (c.loop-turn._turn + 1)) = omega arith in
    sym (inherits_base (seen c.args.frozen.now c.args.self.now) c.args.name.now (c.args.class.0 + 1 - c.loop-turn._turn) (c.args.class.0 + 1 - (c.loop-turn._turn + 1)) c.loop-turn.at c.first_in.result Nowhere one_more c.in_default.ensures (c.first_in.ensures ∙ ap first_in c.row.ensures) (of_base-other _ c.first_in.result c.in_default-first_in.not-Class c.in_default-first_in.not-Hw)) ∙ c.loop-turn.invariant

pub loop-turn-preserved : goal.loop-turn-preserved
loop-turn-preserved c =
    let one_more : c.args.class.0 + 1 - c.loop-turn._turn ≡ suc (c.args.class.0 + 1 - (c.loop-turn._turn + 1)) = omega arith in
    sym (inherits_base (seen c.args.frozen.now c.args.self.now) c.args.name.now (c.args.class.0 + 1 - c.loop-turn._turn) (c.args.class.0 + 1 - (c.loop-turn._turn + 1)) c.loop-turn.at _ (inherited_in (c.args.class.0 + 1 - (c.loop-turn._turn + 1)) (seen c.args.frozen.now c.args.self.now) c.args.name.now c.in-Class.base) one_more c.in_default.ensures (c.in-Class.ensures ∙ ap first_in c.row.ensures) refl) ∙ c.loop-turn.invariant

pub returns : goal.returns
returns c =
    let none : c.args.class.0 + 1 - c.loop-turn._turn ≡ 0 = omega arith in
    sym (inherits_none (seen c.args.frozen.now c.args.self.now) c.args.name.now (c.args.class.0 + 1 - c.loop-turn._turn) c.loop-turn.at none) ∙ c.loop-turn.invariant
