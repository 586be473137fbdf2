use Rattle.layout_acts.proofs.EnumerationLaws.{enumeration_held}
use Rattle.layout_acts.proofs.enumerations.shaped.Goals as goal

pub returns-in-Ok-put_members-clause-things : goal.returns-in-Ok-put_members-clause-things
returns-in-Ok-put_members-clause-things c = record {
  exprs = c.new-in-Ok-put_members.ensures;
  things =
      enumeration_held c.args.ends c.args.is_integer c.in-Ok.shape c.args.members.now c.as_slice.result.now c.in-Ok-new.enumeration c.new-things.result c.push.new.self c.put_members.new.things
      c.note_form.ensures c.note_numbers.ensures c.in-Ok-new.ensures.made.1 c.as_slice.ensures c.new-things.ensures c.in-Ok-push.ensures c.in-Ok-put_members.ensures;
}
