use Rattle.std.proofs.Common.{◌≡◌, [], ap, ◌∙◌, arith}
use Rattle.module_dsl.specs.Builders.{Built, built_count}
use Rattle.elab_store.specs.Counts.{statement_count}
use Rattle.elab_store.proofs.CountLaws.{count_and, count_none}
use Rattle.elab_store.proofs.store.Store.add_module.Goals as goal

pub invariant_of-self-2 : goal.invariant_of-self-2
invariant_of-self-2 c =
    let b : Built = c.in_ok-builder.builder in
    let none : built_count b ≡ 0 = ap built_count c.in_ok-builder.ensures ∙ count_none [] in
    record {
      count = omega (arith, c.self.invariant.count, count_and c.self.inside.modules.items b, none, ap statement_count c.in_ok-push.ensures.items);
      within = c.self.invariant.within;
    }
