use Rattle.std.proofs.Common.{◌≡◌, ◌∙◌, ◌++◌, ◌+◌, ◌-◌, suc, ap, sym, arith, List, Option, reverse}
use Rattle.py_values.specs.declared.val.ObjId.{ObjId}
use Rattle.elab_store.specs.declared.members.NamedMember.{NamedMember}
use Rattle.elab_store.specs.Components.{base_members, members_in}
use Rattle.elab_store.proofs.ClassWalks.{walk_absent, walk_ended, walk_more}
use Rattle.elab_store.proofs.components.Components.push_class.Goals as goal

pub returns-in_default-class : goal.returns-in_default-class
returns-in_default-class c =
    let classes = c.args.self.now.classes in
    let k = c.from-most.result + 1 - c.loop-i.i in
    let so_far = ap (λ (o : Option ObjId). c.loop-i.all.items ++ reverse (base_members (members_in k classes) o)) (sym c.in-Some.is) ∙ c.loop-i.invariant in
    walk_absent classes k c.in-Some.number c.loop-i.all.items _ (sym c.in_default-class.ensures) so_far

pub loop-i-preserved : goal.loop-i-preserved
loop-i-preserved c =
    let classes = c.args.self.now.classes in
    let j = c.from-most.result + 1 - c.loop-i.i in
    let k = c.from-most.result + 1 - (c.loop-i.i + 1) in
    let all = c.loop-i.all.items in
    let known = c.in-Some-class.known.now in
    let so_far = ap (λ (o : Option ObjId). all ++ reverse (base_members (members_in j classes) o)) (sym c.in-Some.is) ∙ c.loop-i.invariant in
    let step : j ≡ suc k = omega (arith, c.loop-i-test.true) in
    let pushed = c.in_ok-push_back.ensures ∙ ap (λ (ms : List NamedMember). all ++ reverse ms) c.as_slice.ensures in
    ap (λ (ms : List NamedMember). ms ++ reverse (base_members (members_in k classes) known.base)) pushed
    ∙ walk_more classes j k c.in-Some.number known all _ step (sym c.in-Some-class.ensures) so_far

pub returns : goal.returns
returns c =
    let k = c.from-most.result + 1 - c.loop-i.i in
    walk_ended c.args.self.now.classes k c.loop-i.next c.loop-i.all.items _ (omega (arith, c.loop-i-test.false)) c.loop-i.invariant
