-- The tree of a node is that of its kind at its place.
use Rattle.std.proofs.Common.{◌≡◌, map, Vec, Global, rules}
use Rattle.py_tree.specs.declared.expr.Expr.{Expr, the_lemmas as expr_lemmas}
use Rattle.py_tree.specs.declared.expr.ExprKind.{the_lemmas}
use Rattle.std.specs.declared.rc.Rc.{Rc}
use Rattle.py_tree.specs.declared.stmt.Block.{Block, out-Block, roll-Block, the_lemmas as block_lemmas}
use Rattle.py_tree.specs.declared.stmt.Stmt.{Stmt, the_lemmas as stmt_lemmas}
use Rattle.py_tree.specs.declared.stmt.StmtKind.{the_lemmas as kind_lemmas}
use Rattle.py_tree.specs.Seen.{tree, kind_tree}
use Rattle.py_tree.specs.Steps.{steps}
use Rattle.py_tree.specs.Programs.{step_of, kind_step, steps_of}

pub tree_of_kind : (e : Expr) → kind_tree e.kind.value e.place ≡ tree e
tree_of_kind e = search (rules, expr_lemmas, the_lemmas)

pub step_of_kind : (s : Stmt) → kind_step s.kind.value s.place ≡ step_of s
step_of_kind s = search (rules, stmt_lemmas, kind_lemmas)

pub steps_of_block : (b : Block) → steps (map step_of (out-Block b).stmts.value.items) ≡ steps_of b
steps_of_block b = search (rules, block_lemmas, stmt_lemmas, kind_lemmas)

pub block_of_steps : (rc : Rc (Vec Stmt Global) Global) → steps_of (roll-Block (record { stmts = rc })) ≡ steps (map step_of rc.value.items)
block_of_steps rc = search (rules, block_lemmas, stmt_lemmas, kind_lemmas)
