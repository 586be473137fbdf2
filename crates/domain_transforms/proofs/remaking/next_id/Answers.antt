use Rattle.std.proofs.Common.{◌≡◌, ◌∙◌, ℕ, Bool, None, Some, slice_get, sym, ap, subst}
use Rattle.design_ir.specs.declared.expr.Expr.{Expr}
use Rattle.design_ir.specs.Named.{AllBelow, named}
use Rattle.design_ir.specs.Pools.{Pooled}
use Rattle.design_ir.specs.PoolRules.{IsAskable, bad_operand, expr_added, greatest_width, shape_stop}
use Rattle.design_ir.specs.Values.{form}
use Rattle.design_ir.proofs.Equations.{standing}
use Rattle.domain_transforms.proofs.AnewLaws.{anew_accepted, anew_askable, at_kept, turn_new, turn_same}
use Rattle.domain_transforms.proofs.remaking.next_id.Goals as goal

pub returns-then-not-anew : goal.returns-then-not-anew
returns-then-not-anew c = λ q test h. turn_same c.args.names.now q test c.args.e.0 c.args.ids.now c.args.pool.now h.so_far h.here (sym h.test_is ∙ c.if-not-anew.true)

pub renamed_expr-requires : goal.renamed_expr-requires
renamed_expr-requires c =
    let q : Pooled = c.requires.0 in
    let test : ℕ → Bool = c.requires.1 in
    let h = c.requires.2 in
    let k = c.args.e.0 in
    let at : slice_get q.exprs k ≡ Some c.at.result.now = sym (at_kept c.args.names.now q test k c.args.ids.now c.args.pool.now h.so_far h.here) ∙ c.at.ensures in
    subst (λ n. AllBelow n (named c.at.result.now)) (sym h.so_far.size) (standing q k c.at.result.now h.so_far.rules at).names

pub more-requires-clause-askable : goal.more-requires-clause-askable
more-requires-clause-askable c =
    let q : Pooled = c.requires.0 in
    let test : ℕ → Bool = c.requires.1 in
    let h = c.requires.2 in
    let k = c.args.e.0 in
    let p = c.args.pool.now in
    let at : slice_get q.exprs k ≡ Some c.at.result.now = sym (at_kept c.args.names.now q test k c.args.ids.now p h.so_far h.here) ∙ c.at.ensures in
    subst (IsAskable p) (sym c.in_ok-new.ensures) (anew_askable c.args.names.now q test k c.args.ids.now p h.so_far h.here c.at.result.now at)

pub more-requires-clause-accepted : goal.more-requires-clause-accepted
more-requires-clause-accepted c =
    let q : Pooled = c.requires.0 in
    let test : ℕ → Bool = c.requires.1 in
    let h = c.requires.2 in
    let k = c.args.e.0 in
    let p = c.args.pool.now in
    let at : slice_get q.exprs k ≡ Some c.at.result.now = sym (at_kept c.args.names.now q test k c.args.ids.now p h.so_far h.here) ∙ c.at.ensures in
    subst (λ (e : Expr). shape_stop (bad_operand (form p) e) (greatest_width p.signals (form p) e) ≡ None) (sym c.in_ok-new.ensures) (anew_accepted c.args.names.now q test k c.args.ids.now p h.so_far h.here c.at.result.now at)

pub returns : goal.returns
returns c = λ q test h.
    let k = c.args.e.0 in
    let p = c.args.pool.now in
    let at : slice_get q.exprs k ≡ Some c.at.result.now = sym (at_kept c.args.names.now q test k c.args.ids.now p h.so_far h.here) ∙ c.at.ensures in
    turn_new c.args.names.now q test k c.args.ids.now p h.so_far h.here c.at.result.now at c.more.new.self c.in_ok-id.id c.known.ensures c.known-2.ensures (sym h.test_is ∙ c.if-not-anew.false) (c.in_ok-id.ensures.added.1 ∙ ap (expr_added p) c.in_ok-new.ensures)
    c.in_ok-id.ensures.added.0
