use Rattle.std.proofs.Common.{sym, ◌∙◌}
use Rattle.elab_store.specs.Held.{held_of}
use Rattle.elab_acts.proofs.EnterLaws.{case_subject_there}
use Rattle.elab_acts.proofs.blocks.call_case.Goals as goal

pub give_case-requires : goal.give_case-requires
give_case-requires c = case_subject_there (held_of c.args.elaboration.now) c.args.of c.in-Some.subject c.requires (sym c.case_subject.ensures ∙ c.in-Some.is)
