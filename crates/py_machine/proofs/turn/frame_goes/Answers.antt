use Rattle.py_machine.proofs.TurnLaws.{frame_expr, frame_walk, frame_stmt, frame_def}
use Rattle.py_machine.proofs.turn.frame_goes.Goals as goal

pub returns-in-Expr-clause-moves : goal.returns-in-Expr-clause-moves
returns-in-Expr-clause-moves c = frame_expr c.args.functions.now c.args.frozen.now c.expr_came.result c.args.going.now c.expr_came.new.going c.args.budget c.args.frame c.in-Expr.f c.args.got c.in-Expr.is c.expr_came.ensures.moves

pub returns-in-Walk-clause-moves : goal.returns-in-Walk-clause-moves
returns-in-Walk-clause-moves c = frame_walk c.args.functions.now c.args.frozen.now c.walk_goes.result c.args.going.now c.walk_goes.new.going c.args.budget c.args.frame c.in-Walk.f c.args.got c.in-Walk.is c.walk_goes.ensures.moves

pub returns-in-Stmt-clause-moves : goal.returns-in-Stmt-clause-moves
returns-in-Stmt-clause-moves c = frame_stmt c.args.functions.now c.args.frozen.now c.stmt_goes.result c.args.going.now c.stmt_goes.new.going c.args.budget c.args.frame c.in-Stmt.f c.args.got c.in-Stmt.is c.stmt_goes.ensures.moves

pub returns-in-Def-clause-moves : goal.returns-in-Def-clause-moves
returns-in-Def-clause-moves c = frame_def c.args.functions.now c.args.frozen.now c.def_goes.result c.args.going.now c.def_goes.new.going c.args.budget c.args.frame c.in-Def.f c.args.got c.in-Def.is c.def_goes.ensures.moves
