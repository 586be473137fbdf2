use Rattle.std.proofs.Common.{◌≡◌, Some, slice_get, length, refl, arith, ◌∙◌, ap}
use Rattle.std.proofs.lemmas.Option.{slice_get_read}
use Rattle.design_ir.specs.Statements.{statement_of}
use Rattle.domain_transforms.proofs.RegisterLaws.{inits_turn}
use Rattle.domain_transforms.proofs.resetting.init_statements.Goals as goal

pub loop-register-preserved : goal.loop-register-preserved
loop-register-preserved c =
    let items = c.args.registers.now in
    let i = c.loop-register.register-index in
    let item = c.register-item.result in
    let at : slice_get items i ≡ Some item = slice_get_read items (length items) i item refl c.loop-register-test.true c.register-item.is in
    let new = c.init_statement.new.pool in
    record {
      more = omega (arith, c.loop-register.invariant.more, c.in_ok-init_statement.ensures.more);
      places = λ places h. c.in_ok-init_statement.ensures.places places (c.loop-register.invariant.places places h);
      made =
          ap (λ body. (body, new)) c.in_ok-push.ensures.ok
          ∙ inits_turn c.args.pool.now items i item c.loop-register.body c.loop-register.pool new (statement_of c.in_ok-init_statement.field-0) at c.loop-register.invariant.made c.in_ok-init_statement.ensures.made;
    }
