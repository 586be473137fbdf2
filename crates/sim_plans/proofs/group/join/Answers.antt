use Rattle.std.proofs.Common.{◌<◌, ◌≤◌, length, ◌∙◌, sym, arith}
use Rattle.sim_plans.proofs.Forests.{keeps_both, joined_keeps, linked_forest, linked_keeps, linked_joined}
use Rattle.sim_plans.proofs.group.join.Goals as goal

pub returns-then-x-y-clause-forest : goal.returns-then-x-y-clause-forest
returns-then-x-y-clause-forest c =
    let ps = c.root-y.new.parents in
    let below : c.root-x.result ≤ c.root-y.result = omega (arith, c.if-x-y.true) in
    linked_forest ps c.root-x.result c.root-y.result c.root-y.ensures.there c.root-y.ensures.forest below c.root-y.ensures.root

pub returns-then-x-y-clause-keeps : goal.returns-then-x-y-clause-keeps
returns-then-x-y-clause-keeps c =
    let ps = c.root-y.new.parents in
    let below : c.root-x.result ≤ c.root-y.result = omega (arith, c.if-x-y.true) in
    let last = linked_keeps ps c.root-x.result c.root-y.result c.root-y.ensures.there c.root-y.ensures.forest below c.root-y.ensures.root in
    keeps_both c.args.parents.now c.root-x.new.parents _ c.root-x.ensures.keeps (keeps_both c.root-x.new.parents ps _ c.root-y.ensures.keeps last)

pub returns-then-x-y-clause-joined : goal.returns-then-x-y-clause-joined
returns-then-x-y-clause-joined c = λ f r.
    let x = c.root-x.result in
    let y = c.root-y.result in
    let ps = c.root-y.new.parents in
    let below : x ≤ y = omega (arith, c.if-x-y.true) in
    let last = linked_keeps ps x y c.root-y.ensures.there c.root-y.ensures.forest below c.root-y.ensures.root in
    let first = joined_keeps c.root-x.new.parents _ c.args.a x (keeps_both c.root-x.new.parents ps _ c.root-y.ensures.keeps last) c.root-x.ensures.joined f r in
    let second = joined_keeps ps _ c.args.b y last c.root-y.ensures.joined f r in
    first ∙ sym (linked_joined ps x y c.root-y.ensures.there c.root-y.ensures.forest below c.root-y.ensures.root f r) ∙ sym second

pub returns-else-x-y-clause-forest : goal.returns-else-x-y-clause-forest
returns-else-x-y-clause-forest c =
    let x = c.root-x.result in
    let y = c.root-y.result in
    let ps = c.root-y.new.parents in
    linked_forest ps y x (omega (arith, c.root-x.ensures.there, c.root-y.ensures.count)) c.root-y.ensures.forest c.if-x-y.false (c.root-y.ensures.roots x c.root-x.ensures.root)

pub returns-else-x-y-clause-keeps : goal.returns-else-x-y-clause-keeps
returns-else-x-y-clause-keeps c =
    let x = c.root-x.result in
    let y = c.root-y.result in
    let ps = c.root-y.new.parents in
    let last = linked_keeps ps y x (omega (arith, c.root-x.ensures.there, c.root-y.ensures.count)) c.root-y.ensures.forest c.if-x-y.false (c.root-y.ensures.roots x c.root-x.ensures.root) in
    keeps_both c.args.parents.now c.root-x.new.parents _ c.root-x.ensures.keeps (keeps_both c.root-x.new.parents ps _ c.root-y.ensures.keeps last)

pub returns-else-x-y-clause-joined : goal.returns-else-x-y-clause-joined
returns-else-x-y-clause-joined c = λ f r.
    let x = c.root-x.result in
    let y = c.root-y.result in
    let ps = c.root-y.new.parents in
    let there : x < length ps = omega (arith, c.root-x.ensures.there, c.root-y.ensures.count) in
    let root = c.root-y.ensures.roots x c.root-x.ensures.root in
    let last = linked_keeps ps y x there c.root-y.ensures.forest c.if-x-y.false root in
    let first = joined_keeps c.root-x.new.parents _ c.args.a x (keeps_both c.root-x.new.parents ps _ c.root-y.ensures.keeps last) c.root-x.ensures.joined f r in
    let second = joined_keeps ps _ c.args.b y last c.root-y.ensures.joined f r in
    first ∙ linked_joined ps y x there c.root-y.ensures.forest c.if-x-y.false root f r ∙ sym second
