-- The machine's own block is the innermost one.
use Rattle.std.proofs.Common.{◌≡◌, Bool, true, false, List, [], ◌∷◌, Some, None, refl, ap, not, if◌then◌else◌}
use Rattle.design_ir.specs.declared.ids.ExprId.{ExprId}
use Rattle.design_ir.specs.declared.expr.Pattern.{Pattern}
use Rattle.design_ir.specs.declared.expr.Expr.TheVariants.{Matches}
use Rattle.design_ir.specs.Pools.{Pooled}
use Rattle.design_ir.specs.PoolRules.{expr_added}
use Rattle.module_dsl.specs.declared.refusal.BuildStop.TheVariants.{Limit}
use Rattle.module_dsl.specs.declared.step.Step.TheVariants as step
use Rattle.module_dsl.specs.declared.step.OpenBlock.{OpenBlock}
use Rattle.module_dsl.specs.declared.step.OpenBlock.TheVariants as inside
use Rattle.module_dsl.specs.declared.step.Block.TheVariants as block
use Rattle.module_dsl.specs.Blocks.{Entries, Branches, Open, Blocks, left_in, left_from, branches_with, content, case_opened, case_in, in_switch, is_switch, is_outermost}
use Rattle.module_dsl.specs.Builders.{Built, built_blocks, and_entered, and_left, subject_of, subject_in, enter_refusal, order_where, pool_with, condition_made}
use Rattle.module_dsl.proofs.BuilderLaws.{blocks_of-push}
use Rattle.fsm_lowering.specs.Calls.{is_full}
use Rattle.fsm_lowering.specs.Machines.{open_switch, switch_block, open_case, case_block}

-- ---- what is known of the innermost block

switch_within : (x : OpenBlock) (r : ExprId) → switch_block x ≡ Some r → is_switch x ≡ true
switch_within (inside.Branch c) r e = cc
switch_within (inside.Last c) r e = cc
switch_within (inside.Switch v) r e = refl
switch_within (inside.Case v c) r e = cc

pub open_switch-within : (around : List Open) (r : ExprId) → open_switch around ≡ Some r → in_switch around ≡ true
open_switch-within [] r e = cc
open_switch-within (o ∷ around) r e = switch_within o.block r e

switch_subject : (x : OpenBlock) (r : ExprId) → switch_block x ≡ Some r → subject_in x ≡ r
switch_subject (inside.Branch c) r e = cc
switch_subject (inside.Last c) r e = cc
switch_subject (inside.Switch v) r e = cc
switch_subject (inside.Case v c) r e = cc

pub open_switch-subject : (around : List Open) (r : ExprId) → open_switch around ≡ Some r → subject_of around ≡ r
open_switch-subject [] r e = cc
open_switch-subject (o ∷ around) r e = switch_subject o.block r e

pub open_case-inner : (around : List Open) (r : ExprId) → open_case around ≡ Some r → is_outermost around ≡ false
open_case-inner [] r e = cc
open_case-inner (o ∷ around) r e = refl

pub open_switch-inner : (around : List Open) (r : ExprId) → open_switch around ≡ Some r → is_outermost around ≡ false
open_switch-inner [] r e = cc
open_switch-inner (o ∷ around) r e = refl

-- ---- how it changes

case_ends : (x : OpenBlock) (before : Entries) (bs : Branches) (around : List Open) (r : ExprId) → case_block x ≡ Some r → open_switch (left_from x before bs around).around ≡ Some r
case_ends (inside.Branch c) before bs around r e = cc
case_ends (inside.Last c) before bs around r e = cc
case_ends (inside.Switch v) before bs around r e = cc
case_ends (inside.Case v c) before bs around r e = e

left_case : (around : List Open) (es : Entries) (b : Blocks) (r : ExprId) → open_case around ≡ Some r → open_switch (left_in around es b).around ≡ Some r
left_case [] es b r e = cc
left_case (o ∷ around) es b r e = case_ends o.block o.before (branches_with o es) around r e

pub open_switch-left : (b : Built) (r : ExprId) → open_case (built_blocks b).around ≡ Some r → open_switch (built_blocks (and_left b)).around ≡ Some r
open_switch-left b r e = rw (blocks_of-push b.steps step.Leave) (left_case (built_blocks b).around (content (built_blocks b)) (built_blocks b) r e)

case_begins : (x : OpenBlock) (o : Open) (around : List Open) (b : Blocks) (c r : ExprId) → switch_block x ≡ Some r → open_case (case_in c x o around b).around ≡ Some r
case_begins (inside.Branch d) o around b c r e = cc
case_begins (inside.Last d) o around b c r e = cc
case_begins (inside.Switch v) o around b c r e = e
case_begins (inside.Case v d) o around b c r e = cc

entered_case : (around : List Open) (b : Blocks) (c r : ExprId) → open_switch around ≡ Some r → open_case (case_opened c around b).around ≡ Some r
entered_case [] b c r e = cc
entered_case (o ∷ around) b c r e = case_begins o.block o around b c r e

pub open_case-entered : (q : Pooled) (b : Built) (ps : List Pattern) (r : ExprId) → open_switch (built_blocks b).around ≡ Some r → open_case (built_blocks (and_entered q b (block.Case ps))).around ≡ Some r
open_case-entered q b ps r e = rw (blocks_of-push b.steps _) (entered_case (built_blocks b).around (built_blocks b) _ r e)

pub open_switch-entered : (q : Pooled) (b : Built) (r : ExprId) → open_switch (built_blocks (and_entered q b (block.Switch r))).around ≡ Some r
open_switch-entered q b r = rw (blocks_of-push b.steps _) refl

-- ---- what a builder takes there

taken_switch : (x : Bool) → order_where (not (not x)) None ≡ None → x ≡ false
taken_switch true e = cc
taken_switch false e = refl

pub enter_refusal-switch : (q : Pooled) (b : Built) (r : ExprId) → enter_refusal q b (block.Switch r) ≡ None → in_switch (built_blocks b).around ≡ false
enter_refusal-switch q b r e = taken_switch (in_switch (built_blocks b).around) e

taken_case : (x full : Bool) → x ≡ true → order_where (not x) (if full then Some Limit else None) ≡ None → full ≡ false
taken_case false full h e = cc
taken_case true true h e = cc
taken_case true false h e = refl

pub enter_refusal-case : (q : Pooled) (b : Built) (ps : List Pattern) (r : ExprId) → open_switch (built_blocks b).around ≡ Some r → enter_refusal q b (block.Case ps) ≡ None → is_full q ≡ false
enter_refusal-case q b ps r here e = taken_case (in_switch (built_blocks b).around) (is_full q) (open_switch-within (built_blocks b).around r here) e

pub condition_made-case : (q : Pooled) (b : Built) (ps : List Pattern) (r : ExprId) → open_switch (built_blocks b).around ≡ Some r → pool_with q (condition_made (built_blocks b) (block.Case ps)) ≡ expr_added q (Matches r ps)
condition_made-case q b ps r here = ap (λ (s : ExprId). expr_added q (Matches s ps)) (open_switch-subject (built_blocks b).around r here)
