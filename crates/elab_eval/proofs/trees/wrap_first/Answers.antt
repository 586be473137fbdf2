use Rattle.std.proofs.Common.{length}
use Rattle.std.specs.Prelude.{slice_get}
use Rattle.elab_eval.proofs.TreeLaws.{first_none, first_got, first_refused}
use Rattle.elab_eval.proofs.StandingLaws.{first_below}
use Rattle.elab_eval.proofs.trees.wrap_first.Goals as goal

pub returns-in_default : goal.returns-in_default
returns-in_default c = first_none (slice_get c.args.store.now.wrappings c.args.k) c.args.behind c.pop.new.self c.args.pool.now c.in_default.ensures.0 c.in_default.ensures.1

pub wrapped-requires-clause-there : goal.wrapped-requires-clause-there
wrapped-requires-clause-there c = first_below (length c.args.pool.now.exprs) c.args.behind c.pop.new.self c.in-Some.first c.in-Some.ensures c.requires.there

pub returns-in-Err : goal.returns-in-Err
returns-in-Err c = first_refused (slice_get c.args.store.now.wrappings c.args.k) c.args.behind c.pop.new.self c.in-Some.first c.args.pool.now c.wrapped.new.pool c.wrapped.new.pool c.in-Err.stop c.in-Some.ensures c.in-Err.ensures

pub returns-in-Ok-push : goal.returns-in-Ok-push
returns-in-Ok-push c =
    first_got (slice_get c.args.store.now.wrappings c.args.k) c.args.behind c.pop.new.self c.push.new.self c.in-Some.first c.in-Ok.made c.args.pool.now c.wrapped.new.pool c.in-Some.ensures c.in-Ok.ensures c.in-Ok-push.ensures
