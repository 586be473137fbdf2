-- An element is made, or its condition is waited for.
use Rattle.std.proofs.Common.{ap}
use Rattle.std.specs.Option.{option_map}
use Rattle.py_tree.specs.Seen.{tree}
use Rattle.py_tree.specs.Tree.{perhaps}
use Rattle.py_walks.specs.Walk_parts.{comp_seen, where_made}
use Rattle.py_walks.proofs.CompLaws.{comp_lacks, where_always, where_tests}
use Rattle.py_walks.proofs.comprehensions.element_bound.Goals as goal

pub returns-in-Past-clause-moves : goal.returns-in-Past-clause-moves
returns-in-Past-clause-moves c = comp_lacks c.args.functions.now c.args.frozen.now c.args.going.now c.args.budget c.args.comp (λ k x. where_made k x c.args.walk c.args.outer c.args.done) c.in-Past.ensures

pub returns-in-None-clause-moves : goal.returns-in-None-clause-moves
returns-in-None-clause-moves c = where_always c.args.functions.now c.args.frozen.now c.element_begun.result c.args.going.now c.element_begun.new.going c.args.budget c.args.comp (comp_seen c.in-Part.parts) c.args.walk c.args.outer c.args.done c.in-Part.ensures (ap (λ o. perhaps (option_map tree o)) c.in-None.is) c.element_begun.ensures.moves

pub returns-clause-moves : goal.returns-clause-moves
returns-clause-moves c = where_tests c.args.functions.now c.args.frozen.now c.wait_for.result c.args.going.now c.wait_for.new.going c.args.budget c.args.comp (comp_seen c.in-Part.parts) c.args.walk c.args.outer c.args.done _ c.in-Part.ensures (ap (λ o. perhaps (option_map tree o)) c.in-Some.is) c.wait_for.ensures.moves
