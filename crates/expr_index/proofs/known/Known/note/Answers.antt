use Rattle.std.proofs.Common.{◌∙◌, ap, sym, subst, false}
use Rattle.std.specs.Prelude.{slice_get, slice_index_or}
use Rattle.std.proofs.lemmas.Option.{slice_get_read}
use Rattle.expr_index.specs.First.{reset_step}
use Rattle.expr_index.specs.Knows.{Index, Knows}
use Rattle.expr_index.specs.Lists.{list_count}
use Rattle.expr_index.proofs.KnowsLaws.{noted}
use Rattle.expr_index.proofs.known.Known.note.Goals as goal

pub returns-in-Ok-clause-noted : goal.returns-in-Ok-clause-noted
returns-in-Ok-clause-noted c = λ es known.
    let x : Index = record { lists = c.self.inside.lists.items; resets = c.self.inside.resets.items } in
    rw (c.list_of.ensures.value, c.in-Ok.ensures.ok, c.in_ok-push.ensures.items)
    (noted x es c.args.e.now (subst (λ y. Knows y es) (sym c.self.view_is) known) c.index_mut.result.now c.len-number.result c.has_reset-is_reset.result
    (ap (slice_get x.lists) (sym c.list_of.ensures.value) ∙ slice_get_read x.lists list_count c.list_of.result c.index_mut.result.now (sym c.self.invariant) c.list_of.ensures.room c.index_mut.ensures.value)
    (c.len-number.ensures ∙ c.self.inside.resets.ok.0)
    (c.has_reset-is_reset.ensures ∙ ap (λ (y : Index). reset_step (λ k. slice_index_or y.resets k false) c.args.e.now) (sym c.self.view_is)))
