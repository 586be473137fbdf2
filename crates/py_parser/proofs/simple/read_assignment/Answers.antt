use Rattle.std.proofs.Common.{rules, map, ◌∙◌}
use Rattle.py_tree.specs.Seen.{tree}
use Rattle.py_grammar.specs.Reading.{inner}
use Rattle.py_words.specs.Phrases.{seen_of}
use Rattle.py_words.proofs.Lists.{is_empty_map}
use Rattle.py_parser.proofs.Assigned.{assignment_made, assigned_alone, assigned_to, assigned_to_none}
use Rattle.py_parser.proofs.simple.read_assignment.Goals as goal

pub returns-in_err-targets-clause-reads : goal.returns-in_err-targets-clause-reads
returns-in_err-targets-clause-reads c = rw assignment_made (search rules)

pub returns-then-none_there-clause-reads : goal.returns-then-none_there-clause-reads
returns-then-none_there-clause-reads c = assigned_alone (inner c.args.room) (seen_of c.args.first) c.args.words.now (map tree c.in_ok-targets.targets.items) (tree c.in_ok-targets.value) c.in_ok-targets.rest.now _ c.in_ok-targets.ensures.reads (is_empty_map tree c.in_ok-targets.targets.items ∙ (search rules)) c.in_ok-evaluate.ensures

pub returns-then-not-are_targets-clause-reads : goal.returns-then-not-are_targets-clause-reads
returns-then-not-are_targets-clause-reads c = assigned_to_none (inner c.args.room) (seen_of c.args.first) c.args.words.now (map tree c.in_ok-targets.targets.items) (tree c.in_ok-targets.value) c.in_ok-targets.rest.now c.in_ok-targets.ensures.reads (is_empty_map tree c.in_ok-targets.targets.items ∙ (search rules)) (search rules)

pub returns-clause-reads : goal.returns-clause-reads
returns-clause-reads c = assigned_to (inner c.args.room) (seen_of c.args.first) c.args.words.now (map tree c.in_ok-targets.targets.items) (tree c.in_ok-targets.value) c.in_ok-targets.rest.now _ c.in_ok-targets.ensures.reads (is_empty_map tree c.in_ok-targets.targets.items ∙ (search rules)) (search rules) c.in_ok-assign.ensures
