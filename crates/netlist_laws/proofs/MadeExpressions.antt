-- The drawing of each expression makes the expression.
use Rattle.design_ir.specs.declared.expr.Expr.{Expr}
use Rattle.design_ir.specs.declared.expr.Expr.TheVariants.{Const, Sig, Unary, Binary, Mux, Slice, Cat, Part, Pick, Cast, Matches, Reset}
use Rattle.netlist_laws.specs.Made.{MakesExpression}
use Rattle.netlist_laws.proofs.Linked.{makes_const, makes_sig, makes_slice, makes_cat, makes_cast, makes_reset}
use Rattle.netlist_laws.proofs.OperatorExpressions.{makes_unary, makes_binary}
use Rattle.netlist_laws.proofs.Choices.{makes_mux}
use Rattle.netlist_laws.proofs.Selections.{makes_part}
use Rattle.netlist_laws.proofs.Items.{makes_pick}
use Rattle.netlist_laws.proofs.Patterns.{makes_matches}

pub makes_expression : (e : Expr) → MakesExpression e
makes_expression (Const x s) = makes_const x s
makes_expression (Sig s) = makes_sig s
makes_expression (Unary o a) = makes_unary o a
makes_expression (Binary o a b) = makes_binary o a b
makes_expression (Mux s a b) = makes_mux s a b
makes_expression (Slice a low width) = makes_slice a low width
makes_expression (Cat es) = makes_cat es
makes_expression (Part a offset width stride) = makes_part a offset width stride
makes_expression (Pick index es) = makes_pick index es
makes_expression (Cast a signed) = makes_cast a signed
makes_expression (Matches a ps) = makes_matches a ps
makes_expression (Reset domain place) = makes_reset domain place
