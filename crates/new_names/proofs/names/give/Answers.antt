use Rattle.std.proofs.Common.{◌≡◌, ◌∙◌, false, is_some, sym, ap, subst}
use Rattle.std.specs.BTreeMap.{get_by_text}
use Rattle.std.specs.Prelude.{OnOk, Result, Ok, Err}
use Rattle.new_names.specs.Fresh.{has_name}
use Rattle.new_names.specs.Tracked.{Tracks}
use Rattle.new_names.proofs.NameLaws.{tracks_new}
use Rattle.new_names.proofs.names.give.Goals as goal

pub give_numbered-requires-clause-last : goal.give_numbered-requires-clause-last
give_numbered-requires-clause-last c = sym c.last_number.ensures ∙ c.in-Some.is

always : {A E : Type 0} {P : Type 0} (r : Result A E) → P → OnOk r P
always (Ok x) p = p
always (Err e) p = tt

pub returns-in-None-clause-tracked : goal.returns-in-None-clause-tracked
returns-in-None-clause-tracked c =
    let names = c.args.names.now in
    let name = c.args.name.now in
    let none : has_name names name ≡ false = sym (c.requires.tracked.has name) ∙ ap is_some (sym c.last_number.ensures ∙ c.in-None.is) in
    always c.copied.result
    (subst (Tracks (get_by_text c.add_new.new.numbers)) (sym c.in_ok-add_new-in-None.ensures.names)
    (tracks_new (get_by_text c.args.numbers.now) (get_by_text c.add_new.new.numbers) names name c.requires.tracked none c.in_ok-add_new-in-None.ensures.numbers))
