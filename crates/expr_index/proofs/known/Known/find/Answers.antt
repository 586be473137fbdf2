use Rattle.std.proofs.Common.{◌∙◌, ap, arith}
use Rattle.std.specs.List.{find}
use Rattle.expr_index.specs.Knows.{Index}
use Rattle.expr_index.proofs.NumberLaws.{is_at, found}
use Rattle.expr_index.proofs.KnowsLaws.{listed, number_within}
use Rattle.expr_index.proofs.known.Known.find.Goals as goal

pub loop-number-init : goal.loop-number-init
loop-number-init g c =
    let es = (g.P.Exprs.pooled c.args.pool.now).exprs in
    let x : Index = record { lists = c.self.inside.lists.items; resets = c.self.inside.resets.items } in
    let is = c.as_slice-number-items.ensures ∙ listed x c.args.self.now es c.args.e.now c.list_of.result c.index.result.now c.self.view_is c.requires c.list_of.ensures.value c.list_of.ensures.room c.self.invariant c.index.ensures in
    ap (find (is_at es c.args.e.now)) is ∙ found es c.args.e.now

pub at-requires : goal.at-requires
at-requires g c =
    let es = (g.P.Exprs.pooled c.args.pool.now).exprs in
    let x : Index = record { lists = c.self.inside.lists.items; resets = c.self.inside.resets.items } in
    let is = c.as_slice-number-items.ensures ∙ listed x c.args.self.now es c.args.e.now c.list_of.result c.index.result.now c.self.view_is c.requires c.list_of.ensures.value c.list_of.ensures.room c.self.invariant c.index.ensures in
    number_within es c.args.e.now c.as_slice-number-items.result.now c.loop-number.number-index 0 is c.loop-number-test.true

pub overflow_cast-id : goal.overflow_cast-id
overflow_cast-id g c =
    let es = (g.P.Exprs.pooled c.args.pool.now).exprs in
    let x : Index = record { lists = c.self.inside.lists.items; resets = c.self.inside.resets.items } in
    let is = c.as_slice-number-items.ensures ∙ listed x c.args.self.now es c.args.e.now c.list_of.result c.index.result.now c.self.view_is c.requires c.list_of.ensures.value c.list_of.ensures.room c.self.invariant c.index.ensures in
    omega (arith, number_within es c.args.e.now c.as_slice-number-items.result.now c.loop-number.number-index 0 is c.loop-number-test.true, c.count.ensures.rules.few_exprs)
