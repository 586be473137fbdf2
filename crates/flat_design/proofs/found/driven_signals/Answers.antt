use Rattle.std.proofs.Common.{◌∙◌, [], length, sym, subst}
use Rattle.flat_design.specs.Found.{AreFound}
use Rattle.flat_design.proofs.FoundLaws.{found_none}
use Rattle.flat_design.proofs.found.driven_signals.Goals as goal

pub add_block-requires-clause-found : goal.add_block-requires-clause-found
add_block-requires-clause-found c =
    let n = length c.args.design.now.pool.signals in
    let marks = c.in_ok-no_marks.field-0.items in
    ([], subst (AreFound n [] marks) (sym c.new.ensures) (found_none n marks (c.in_ok-no_marks.ensures.size ∙ c.signals.ensures) c.in_ok-no_marks.ensures.unset))

pub returns-clause-driven : goal.returns-clause-driven
returns-clause-driven c =
    let n = length c.args.design.now.pool.signals in
    let marks = c.in_ok-no_marks.field-0.items in
    let begun : AreFound n [] marks c.new.result = subst (AreFound n [] marks) (sym c.new.ensures) (found_none n marks (c.in_ok-no_marks.ensures.size ∙ c.signals.ensures) c.in_ok-no_marks.ensures.unset) in
    (c.in_ok-add_block.ensures [] [] begun).listed

pub returns-clause-there : goal.returns-clause-there
returns-clause-there c =
    let n = length c.args.design.now.pool.signals in
    let marks = c.in_ok-no_marks.field-0.items in
    let begun : AreFound n [] marks c.new.result = subst (AreFound n [] marks) (sym c.new.ensures) (found_none n marks (c.in_ok-no_marks.ensures.size ∙ c.signals.ensures) c.in_ok-no_marks.ensures.unset) in
    (c.in_ok-add_block.ensures [] [] begun).there
