-- The choice over the register, block by block.
use Rattle.std.proofs.Common.{◌≡◌, false, List, [], ◌∷◌, ◌++◌, length, ap, ◌∙◌}
use Rattle.design_ir.specs.declared.ids.ExprId.{ExprId}
use Rattle.design_ir.specs.Pools.{Pooled}
use Rattle.module_dsl.specs.declared.step.Step.TheVariants as step
use Rattle.module_dsl.specs.declared.step.Opening.TheVariants as opening
use Rattle.module_dsl.specs.declared.step.OpenBlock.TheVariants.{Switch, Case}
use Rattle.module_dsl.specs.Blocks.{Entries, nothing, Branches, none, and_branch, Open, Blocks, blocks_of, content, ended, case_opened, left_in}
use Rattle.module_dsl.specs.Builders.{Built, built_blocks, and_left}
use Rattle.module_dsl.proofs.BuilderLaws.{blocks_of-push}
use Rattle.fsm_lowering.specs.Machines.{Machine}
use Rattle.fsm_lowering.specs.Calls.{is_begun, with_choice}
use Rattle.fsm_lowering.specs.Laws.{MakesOneChoice}

begins : (q : Pooled) (m : Machine) (b : Built) → is_begun m ≡ false → (built_blocks (with_choice q m b)).around ≡ record { before = content (built_blocks b); branches = none; block = Switch m.register } ∷ (built_blocks b).around
begins q m b e = rw e (ap (λ (bs : Blocks). bs.around) (blocks_of-push b.steps (step.Enter (opening.Switch m.register))))

left_switch : (m : Machine) (b : Built) (before : Entries) (branches : Branches) (around : List Open) → (built_blocks b).around ≡ record { before = before; branches = branches; block = Switch m.register } ∷ around → built_blocks (and_left b) ≡ record { entries = ended before branches; chain = none; around = around }
left_switch m b before branches around at = blocks_of-push b.steps step.Leave ∙ ap (λ os. left_in os (content (built_blocks b)) (built_blocks b)) at

left_case : (m : Machine) (b : Built) (condition : ExprId) (before : Entries) (branches : Branches) (around : List Open) → (built_blocks b).around ≡ record { before = before; branches = branches; block = Case m.register condition } ∷ around → built_blocks (and_left b) ≡ record { entries = nothing; chain = none; around = record { before = before; branches = and_branch branches condition (content (built_blocks b)); block = Switch m.register } ∷ around }
left_case m b condition before branches around at = blocks_of-push b.steps step.Leave ∙ ap (λ os. left_in os (content (built_blocks b)) (built_blocks b)) at

entered_case : (m : Machine) (b : Built) (condition : ExprId) (before : Entries) (branches : Branches) (around : List Open) → (built_blocks b).around ≡ record { before = before; branches = branches; block = Switch m.register } ∷ around → blocks_of (b.steps ++ step.Enter (opening.Case condition) ∷ []) ≡ record { entries = nothing; chain = none; around = record { before = before; branches = branches; block = Case m.register condition } ∷ around }
entered_case m b condition before branches around at = blocks_of-push b.steps (step.Enter (opening.Case condition)) ∙ ap (λ os. case_opened condition os (built_blocks b)) at

pub makes_one_choice : (q : Pooled) (m : Machine) (b : Built) → MakesOneChoice q m b
makes_one_choice q m b = record {
  begins = begins q m b;
  case_begins = λ name before branches around at. entered_case m (with_choice q m b) (record { 0 = length q.exprs }) before branches around at;
  case_ends = left_case m b;
  ends = λ before branches around begun at. rw begun (left_switch m b before branches around at);
}
