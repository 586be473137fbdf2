-- Operators with a value among their operands. Amaranth language guide 0.5, "Operators"; an augmented sign is the plain operator, as in
-- the Python reference, "Augmented assignment statements".
use Rattle.std.specs.Prelude.{ℕ, ◌+◌, ◌||◌, ◌++◌, Bool, if◌then◌else◌, List, [], ◌∷◌, length, Option, Some, None, Result, Err, codes}
use Rattle.lists.specs.Texts.{text_eq}
use Rattle.shape_rules.specs.Forms.{unsigned}
use Rattle.shape_rules.specs.Stops.{is_bad_operand, widest}
use Rattle.shape_rules.specs.declared.op.Op.{Op}
use Rattle.shape_rules.specs.declared.op.Op.TheVariants as op
use Rattle.design_ir.specs.declared.expr.Expr.TheVariants.{Unary, Binary}
use Rattle.design_ir.specs.Pools.{Pooled}
use Rattle.py_values.specs.declared.val.Val.{Val}
use Rattle.py_frames.specs.declared.request.Cause.{Cause}
use Rattle.py_frames.specs.declared.request.Cause.TheVariants.{Raised}
use Rattle.amh_things.specs.declared.thing.Thing.{Thing}
use Rattle.amh_things.specs.declared.operand.Operand.{Operand}
use Rattle.amh_things.specs.Ends.{Ends}
use Rattle.amh_things.specs.declared.plan.Plan.{Plan}
use Rattle.amh_things.specs.Members.{compared, unless_compared}
use Rattle.amh_things.specs.Operands.{operand_of, operand_form, operand_constants, operand_id, constants}
use Rattle.amh_things.specs.Plans.{ends_of, value_made, refusal_of, unless}

-- ---- signs

-- a sign, or its augmented form
abbrev pub is_sign : List ℕ → List ℕ → Bool
is_sign plain sign = text_eq sign plain || text_eq sign (plain ++ codes "=")

abbrev pub comparison : List ℕ → Option Op
comparison sign =
    if text_eq sign (codes "==") then Some op.Eq
    else (if text_eq sign (codes "!=") then Some op.Ne
    else (if text_eq sign (codes "<") then Some op.Lt
    else (if text_eq sign (codes "<=") then Some op.Le
    else (if text_eq sign (codes ">") then Some op.Gt
    else (if text_eq sign (codes ">=") then Some op.Ge else None)))))

abbrev pub bitwise_or_shift : List ℕ → Option Op
bitwise_or_shift sign =
    if is_sign (codes "&") sign then Some op.And
    else (if is_sign (codes "|") sign then Some op.Or
    else (if is_sign (codes "^") sign then Some op.Xor
    else (if is_sign (codes "<<") sign then Some op.Shl
    else (if is_sign (codes ">>") sign then Some op.Shr else comparison sign))))

-- the operators of two operands
abbrev pub binary_operator : List ℕ → Option Op
binary_operator sign =
    if is_sign (codes "+") sign then Some op.Add
    else (if is_sign (codes "-") sign then Some op.Sub
    else (if is_sign (codes "*") sign then Some op.Mul
    else (if is_sign (codes "//") sign then Some op.Div
    else (if is_sign (codes "%") sign then Some op.Mod else bitwise_or_shift sign))))

-- the operators of one operand; `+x` is none
abbrev pub unary_operator : List ℕ → Option Op
unary_operator sign =
    if text_eq sign (codes "-") then Some op.Neg
    else (if text_eq sign (codes "~") then Some op.Not
    else (if text_eq sign (codes "abs") then Some op.Abs else None))

-- ---- values

abbrev pub unary_made : Ends → Op → Operand → Result Plan Cause
unary_made ends o x =
    unless (refusal_of (is_bad_operand o (unsigned 0)) (widest o (operand_form x) (unsigned 0)))
    (value_made ends (constants (x ∷ [])) (Unary o (operand_id ends.exprs x)))

abbrev pub binary_made : Ends → Op → Operand → Operand → Result Plan Cause
binary_made ends o x y =
    unless (refusal_of (is_bad_operand o (operand_form y)) (widest o (operand_form x) (operand_form y)))
    (value_made ends (constants (x ∷ y ∷ [])) (Binary o (operand_id ends.exprs x) (operand_id (ends.exprs + length (operand_constants x)) y)))

abbrev pub unary_where : Ends → Option Op → Option Operand → Result Plan Cause
unary_where ends (Some o) (Some x) = unary_made ends o x
unary_where ends None x = Err Raised
unary_where ends (Some o) None = Err Raised

abbrev pub binary_where : Ends → Option Op → Option Operand → Option Operand → Result Plan Cause
binary_where ends (Some o) (Some x) (Some y) = binary_made ends o x y
binary_where ends None x y = Err Raised
binary_where ends (Some o) None y = Err Raised
binary_where ends (Some o) (Some x) None = Err Raised

-- what Python alone compares is a boolean
abbrev pub both_operated : Pooled → List Thing → Val → Val → List ℕ → Result Plan Cause
both_operated p things a b sign =
    unless_compared (compared things a b sign)
    (binary_where (ends_of p things) (binary_operator sign) (operand_of p things a) (operand_of p things b))

-- what an operator gives: one operand or two, and its sign
abbrev pub operated : Pooled → List Thing → List Val → List ℕ → Result Plan Cause
operated p things (a ∷ []) sign = unary_where (ends_of p things) (unary_operator sign) (operand_of p things a)
operated p things (a ∷ b ∷ []) sign = both_operated p things a b sign
operated p things vals sign = Err Raised
