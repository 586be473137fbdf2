use Rattle.std.proofs.Common.{◌≡◌, ◌+◌, sym, ◌∙◌, ap, subst, [], drop}
use Rattle.elab_components.specs.Imports.{star_names, all_bound}
use Rattle.elab_store.specs.Stores.{Answered}
use Rattle.elab_store.specs.Held.{held_of}
use Rattle.elab_components.proofs.ListLaws.{bound_next, bound_ends, not_bound}
use Rattle.elab_components.proofs.imports.import_all.Goals as goal

pub loop-i-preserved : goal.loop-i-preserved
loop-i-preserved c =
    let all : Answered = all_bound [] star_names (held_of c.args.elaboration.now) in
    subst (λ ns. all_bound ns (drop (c.loop-i.i + 1) star_names) (held_of c.import_hdl.new.elaboration) ≡ all) (sym c.in_ok-push-in-Give.ensures.ok)
    (bound_next c.loop-i.names star_names c.loop-i.i c.star_name-name.result.now c.in-Give.val (held_of c.loop-i.elaboration) (held_of c.import_hdl.new.elaboration) c.in_ok-named_val-in-Give.field-0 all
    c.star_name-name.ensures (c.in_ok-answer.ensures ∙ ap (λ a. record { answer = a; held = held_of c.import_hdl.new.elaboration }) c.in-Give.is) c.in_ok-named_val-in-Give.ensures c.loop-i.invariant)

pub returns-in_default : goal.returns-in_default
returns-in_default c =
    let a = c.in_ok-answer.answer in
    let all : Answered = all_bound [] star_names (held_of c.args.elaboration.now) in
    bound_ends c.loop-i.names star_names c.loop-i.i c.star_name-name.result.now a (held_of c.loop-i.elaboration) (held_of c.import_hdl.new.elaboration) all c.star_name-name.ensures c.in_ok-answer.ensures
    (λ k. not_bound c.loop-i.names c.star_name-name.result.now (held_of c.import_hdl.new.elaboration) k a c.in_default.not-Give)
    c.loop-i.invariant
