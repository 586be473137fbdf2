use Rattle.std.proofs.Common.{◌∙◌, sym, ap, refl, length, Some}
use Rattle.std.proofs.lemmas.Bool.{ltb-true, ltb-false}
use Rattle.std.proofs.lemmas.Option.{slice_get_read}
use Rattle.elab_eval.specs.Trees.{is_missing}
use Rattle.elab_eval.proofs.TreeLaws.{none_past}
use Rattle.elab_eval.proofs.trees.is_missing.Goals as goal

pub returns-in-Some-Some : goal.returns-in-Some-Some
returns-in-Some-Some c =
    let ms = c.args.modules.now in
    let looked = c.in-Some-Some.ensures.lookup in
    sym (ap is_missing (slice_get_read ms (length ms) c.args.m c.in-Some-Some.field-0.now refl (ltb-true c.args.m (length ms) (sym looked.0)) looked.1 ∙ ap Some c.in-Some-Some.field-0-is))

pub returns-in-Some-None : goal.returns-in-Some-None
returns-in-Some-None c =
    let ms = c.args.modules.now in
    let looked = c.in-Some-None.ensures.lookup in
    sym (ap is_missing (slice_get_read ms (length ms) c.args.m c.in-Some-None.field-0.now refl (ltb-true c.args.m (length ms) (sym looked.0)) looked.1 ∙ ap Some c.in-Some-None.field-0-is))

pub returns-in-None : goal.returns-in-None
returns-in-None c =
    let ms = c.args.modules.now in
    sym (ap is_missing (none_past ms c.args.m (ltb-false c.args.m (length ms) (sym c.in-None.ensures.lookup.0))))
