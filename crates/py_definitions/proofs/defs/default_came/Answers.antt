use Rattle.std.proofs.Common.{◌≡◌, rules}
use Rattle.py_tree.specs.declared.stmt.Stmt.{the_lemmas as stmt_lemmas}
use Rattle.py_tree.specs.declared.stmt.StmtKind.{the_lemmas}
use Rattle.py_tree.specs.Programs.{step_of, body_of}
use Rattle.py_tree.specs.Steps.{Def}
use Rattle.py_definitions.proofs.DefLaws.{default_on}
use Rattle.py_definitions.proofs.defs.default_came.Goals as goal

pub returns-in-Def-clause-moves : goal.returns-in-Def-clause-moves
returns-in-Def-clause-moves c =
    let e1 : step_of c.args.s.now ≡ Def c.args.s.now.place (body_of c.deref-in-Def.result.now) = search (rules, stmt_lemmas, the_lemmas) in
    default_on c.args.functions.now c.args.frozen.now c.defaults_turn.result c.args.going.now c.defaults_turn.new.going c.args.budget c.args.at c.in-Ok.next c.args.s.now.place (body_of c.deref-in-Def.result.now) (step_of c.args.s.now) c.args.vals e1 c.in-Ok.ensures c.defaults_turn.ensures.moves
