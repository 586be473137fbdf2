-- Methods of a value with arguments: `replicate(count)`, `bit_select(offset, width)` and `word_select(offset, width)`. Amaranth language
-- guide 0.5, "Values", bit containers and "Operators", part select.
use Rattle.std.specs.Prelude.{ℕ, ◌*◌, min, if◌then◌else◌, Bool, false, ℤ, pos, negsuc, List, [], ◌∷◌, replicate, Option, Some, None, Result, Err, codes}
use Rattle.design_ir.specs.declared.ids.ExprId.{ExprId}
use Rattle.design_ir.specs.declared.expr.Expr.TheVariants.{Cat, Part}
use Rattle.design_ir.specs.Pools.{Pooled}
use Rattle.py_frames.specs.declared.request.Cause.{Cause}
use Rattle.py_frames.specs.declared.request.Cause.TheVariants.{Raised}
use Rattle.amh_things.specs.declared.thing.Thing.{Thing}
use Rattle.amh_things.specs.declared.operand.Operand.{Operand}
use Rattle.amh_things.specs.Ends.{Ends}
use Rattle.amh_things.specs.declared.plan.Plan.{Plan}
use Rattle.amh_things.specs.Operands.{operand_form, operand_id, constants}
use Rattle.amh_things.specs.Plans.{ends_of, value_made, refusal_of, unless}
use Rattle.amh_things.specs.Arguments.{Arguments, argument, fits}
use Rattle.value_acts.specs.Names.{number_in, operand_in}

-- ---- `v.replicate(count)`: copies one above the other; of a value without bits more than 128 copies are not kept, since they have no bits

abbrev pub replicated : Ends → ExprId → ℕ → Option ℤ → Result Plan Cause
replicated ends e width (Some (pos n)) = unless (refusal_of false (n * width)) (value_made ends [] (Cat (replicate (min n 128) e)))
replicated ends e width (Some (negsuc n)) = Err Raised
replicated ends e width None = Err Raised

abbrev pub count_parameters : List (List ℕ)
count_parameters = codes "count" ∷ []

abbrev pub replicate_called : Ends → ExprId → ℕ → Arguments → Result Plan Cause
replicate_called ends e width a =
    if fits count_parameters a then replicated ends e width (number_in (argument a 0 (codes "count"))) else Err Raised

-- ---- `v.bit_select(offset, width)` goes by bits, and `v.word_select(offset, width)` by words of the width; a signed offset raises

abbrev pub selected : Ends → ExprId → Bool → Option Operand → Option ℤ → Result Plan Cause
selected ends e by_words (Some x) (Some (pos w)) =
    unless (refusal_of (operand_form x).signed w)
    (value_made ends (constants (x ∷ [])) (Part e (operand_id ends.exprs x) w (if by_words then w else 1)))
selected ends e by_words None w = Err Raised
selected ends e by_words (Some x) None = Err Raised
selected ends e by_words (Some x) (Some (negsuc w)) = Err Raised

abbrev pub select_parameters : List (List ℕ)
select_parameters = codes "offset" ∷ codes "width" ∷ []

abbrev pub select_called : Pooled → List Thing → ExprId → Bool → Arguments → Result Plan Cause
select_called p things e by_words a =
    if fits select_parameters a
    then selected (ends_of p things) e by_words (operand_in p things (argument a 0 (codes "offset"))) (number_in (argument a 1 (codes "width")))
    else Err Raised
