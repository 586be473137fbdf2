-- How the statements of one side are taken out of what a builder was told, step by step.
use Rattle.std.specs.Prelude.{Bool, true, false, if◌then◌else◌, List, [], ◌∷◌, fold}
use Rattle.design_ir.specs.declared.ids.ExprId.{ExprId}
use Rattle.design_ir.specs.declared.process.Side.{Side}
use Rattle.design_ir.specs.Trees.{Statement, assign, choose, Choices, none, arm, choices_and, Block, done, next, block_and}
use Rattle.module_dsl.specs.declared.step.Step.{Step}
use Rattle.module_dsl.specs.declared.step.Step.TheVariants.{Assign, Enter, Leave}
use Rattle.module_dsl.specs.declared.step.Opening.{Opening}
use Rattle.module_dsl.specs.declared.step.Opening.TheVariants as opening
use Rattle.module_dsl.specs.declared.step.OpenBlock.{OpenBlock}
use Rattle.module_dsl.specs.declared.step.OpenBlock.TheVariants as block
use Rattle.design_ir.specs.declared.process.Process.{Process}
use Rattle.module_dsl.specs.declared.parting.Frame.{Frame}
use Rattle.module_dsl.specs.declared.progress.SideSoFar.{SideSoFar}
use Rattle.module_dsl.specs.declared.parting.Parts.{Parts}
use Rattle.module_dsl.specs.Sided.{same_side}

-- the statements of one side: those of the innermost block, the branches that may go on, and what the open choices have
pub record Parted : Type 0 where
  pub body : Block
  pub chain : Choices
  pub around : List Frame

-- some branch has statements
abbrev pub is_left : Choices → Bool
is_left none = false
is_left (arm c done others) = is_left others
is_left (arm c (next s rest) others) = true

-- a choice at the end, where something is left of it
abbrev pub with_choice : Block → Choices → Block
with_choice body arms = if is_left arms then block_and body (choose arms) else body

abbrev pub arms_with : OpenBlock → Choices → Block → Choices
arms_with (block.Branch c) arms body = choices_and arms c body
arms_with (block.Last c) arms body = choices_and arms c body
arms_with (block.Switch v) arms body = arms
arms_with (block.Case v c) arms body = choices_and arms c body

abbrev pub part_content : Parted → Block
part_content p = with_choice p.body p.chain

-- nothing stands yet in the innermost block
abbrev pub part_inside : List Frame → Parted
part_inside around = record { body = done; chain = none; around = around }

abbrev pub part_opened : Block → Choices → OpenBlock → List Frame → Parted
part_opened before arms x around = part_inside (record { before = before; arms = arms; block = x } ∷ around)

abbrev pub part_case_in : ExprId → OpenBlock → Frame → List Frame → Parted → Parted
part_case_in c (block.Branch d) f around p = p
part_case_in c (block.Last d) f around p = p
part_case_in c (block.Switch v) f around p = part_opened f.before f.arms (block.Case v c) around
part_case_in c (block.Case v d) f around p = p

abbrev pub part_case_opened : ExprId → List Frame → Parted → Parted
part_case_opened c [] p = p
part_case_opened c (f ∷ around) p = part_case_in c f.block f around p

abbrev pub part_entered : Opening → Parted → Parted
part_entered (opening.If c) p = part_opened (part_content p) none (block.Branch c) p.around
part_entered (opening.Elif c) p = part_opened p.body p.chain (block.Branch c) p.around
part_entered (opening.Else c) p = part_opened p.body p.chain (block.Last c) p.around
part_entered (opening.Switch v) p = part_opened (part_content p) none (block.Switch v) p.around
part_entered (opening.Case c) p = part_case_opened c p.around p

abbrev pub part_left_from : OpenBlock → Block → Choices → List Frame → Parted
part_left_from (block.Branch c) before arms around = record { body = before; chain = arms; around = around }
part_left_from (block.Last c) before arms around = record { body = with_choice before arms; chain = none; around = around }
part_left_from (block.Switch v) before arms around = record { body = with_choice before arms; chain = none; around = around }
part_left_from (block.Case v c) before arms around = part_opened before arms (block.Switch v) around

abbrev pub part_left_in : List Frame → Block → Parted → Parted
part_left_in [] body p = p
part_left_in (f ∷ around) body p = part_left_from f.block f.before (arms_with f.block f.arms body) around

abbrev pub part_left : Parted → Parted
part_left p = part_left_in p.around (part_content p) p

-- the chain goes on no more
abbrev pub part_closed : Parted → Parted
part_closed p = record { body = part_content p; chain = none; around = p.around }

abbrev pub part_given : Statement → Parted → Parted
part_given s p = record { body = block_and (part_content p) s; chain = none; around = p.around }

abbrev pub part_after : Side → Parted → Step → Parted
part_after side p (Assign other target value place) = if same_side side other then part_given (assign target value place) p else part_closed p
part_after side p (Enter o) = part_entered o p
part_after side p Leave = part_left p

abbrev pub parts_begun : Parted
parts_begun = record { body = done; chain = none; around = [] }

-- the statements of a side, in the blocks that all steps make
unfoldable pub parts_from : Side → Parted → List Step → Parted
parts_from side p steps = fold (part_after side) p steps

abbrev pub part_of : Side → List Step → Block
part_of side steps = part_content (parts_from side parts_begun steps)

-- ---- the parts that the code holds

abbrev pub parted : Parts → Parted
parted p = record { body = p.body; chain = p.chain; around = p.around.items }

abbrev pub process_from : List Step → SideSoFar → Process
process_from steps x = record { side = x.side; body = part_of x.side steps }
