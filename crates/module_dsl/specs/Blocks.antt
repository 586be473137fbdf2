-- What a builder is told, as a tree in which the statements of all sides stand together. (Amaranth guide, Control flow:
-- `If`, `Elif` and `Else`, and `Switch` with `Case` and `Default`, hold statements of any domain.)
use Rattle.std.specs.Prelude.{Bool, true, false, not, List, [], ◌∷◌, fold}
use Rattle.design_ir.specs.declared.ids.ExprId.{ExprId}
use Rattle.design_ir.specs.declared.process.Side.{Side}
use Rattle.design_ir.specs.Trees.{Statement, assign}
use Rattle.module_dsl.specs.declared.step.Step.{Step}
use Rattle.module_dsl.specs.declared.step.Step.TheVariants.{Assign, Enter, Leave}
use Rattle.module_dsl.specs.declared.step.Opening.{Opening}
use Rattle.module_dsl.specs.declared.step.Opening.TheVariants as opening
use Rattle.module_dsl.specs.declared.step.OpenBlock.{OpenBlock}
use Rattle.module_dsl.specs.declared.step.OpenBlock.TheVariants as block

-- a statement, and the side for which it was given
pub record Given : Type 0 where
  pub side : Side
  pub statement : Statement

mutual
  -- what stands in a block: statements, and choices
  pub data Entries : Type 0 where
    nothing : Entries
    given : Given → Entries → Entries
    choice : Branches → Entries → Entries

  -- the branches of a choice, each a condition and what stands in it
  pub data Branches : Type 0 where
    none : Branches
    branch : (condition : ExprId) → Entries → Branches → Branches

-- entries, and others after them
abbrev pub joined : Entries → Entries → Entries
joined nothing more = more
joined (given g rest) more = given g (joined rest more)
joined (choice bs rest) more = choice bs (joined rest more)

-- a branch more at the end
abbrev pub and_branch : Branches → ExprId → Entries → Branches
and_branch none c es = branch c es none
and_branch (branch d other bs) c es = branch d other (and_branch bs c es)

-- a choice with these branches at the end, where there are any
abbrev pub ended : Entries → Branches → Entries
ended es none = es
ended es (branch c body bs) = joined es (choice (branch c body bs) nothing)

abbrev pub is_none : Branches → Bool
is_none none = true
is_none (branch c es bs) = false

-- ---- blocks that are open

-- a choice that is open: what stands before it, its branches so far, and the block that is open in it
pub record Open : Type 0 where
  pub before : Entries
  pub branches : Branches
  pub block : OpenBlock

pub record Blocks : Type 0 where
  -- what stands in the innermost block, but for the chain
  pub entries : Entries
  -- the `If` and the `Elif`s directly before, which an `Elif` or an `Else` may continue: none elsewhere
  pub chain : Branches
  -- the choices that are open, the innermost first
  pub around : List Open

-- all that stands in the innermost block
abbrev pub content : Blocks → Entries
content b = ended b.entries b.chain

-- the branches of a choice where these entries stand in its open block; in a `Switch` nothing stands but its cases
abbrev pub with_content : OpenBlock → Branches → Entries → Branches
with_content (block.Branch c) bs es = and_branch bs c es
with_content (block.Last c) bs es = and_branch bs c es
with_content (block.Switch v) bs es = bs
with_content (block.Case v c) bs es = and_branch bs c es

abbrev pub branches_with : Open → Entries → Branches
branches_with o es = with_content o.block o.branches es

-- everything, as if all blocks ended here
abbrev pub whole : List Open → Entries → Entries
whole [] es = es
whole (o ∷ around) es = whole around (ended o.before (branches_with o es))

abbrev pub entries_of : Blocks → Entries
entries_of b = whole b.around (content b)

-- ---- what one step makes of blocks

-- nothing stands yet in this block
abbrev pub opened : Entries → Branches → OpenBlock → List Open → Blocks
opened before bs x around = record { entries = nothing; chain = none; around = record { before = before; branches = bs; block = x } ∷ around }

-- a case begins directly in its `Switch`
abbrev pub case_in : ExprId → OpenBlock → Open → List Open → Blocks → Blocks
case_in c (block.Branch d) o around b = b
case_in c (block.Last d) o around b = b
case_in c (block.Switch v) o around b = opened o.before o.branches (block.Case v c) around
case_in c (block.Case v d) o around b = b

abbrev pub case_opened : ExprId → List Open → Blocks → Blocks
case_opened c [] b = b
case_opened c (o ∷ around) b = case_in c o.block o around b

-- a block begins
abbrev pub entered : Opening → Blocks → Blocks
entered (opening.If c) b = opened (content b) none (block.Branch c) b.around
entered (opening.Elif c) b = opened b.entries b.chain (block.Branch c) b.around
entered (opening.Else c) b = opened b.entries b.chain (block.Last c) b.around
entered (opening.Switch v) b = opened (content b) none (block.Switch v) b.around
entered (opening.Case c) b = case_opened c b.around b

-- the block of this choice, with these branches, ends
abbrev pub left_from : OpenBlock → Entries → Branches → List Open → Blocks
left_from (block.Branch c) before bs around = record { entries = before; chain = bs; around = around }
left_from (block.Last c) before bs around = record { entries = ended before bs; chain = none; around = around }
left_from (block.Switch v) before bs around = record { entries = ended before bs; chain = none; around = around }
left_from (block.Case v c) before bs around = opened before bs (block.Switch v) around

-- the innermost block ends
abbrev pub left_in : List Open → Entries → Blocks → Blocks
left_in [] es b = b
left_in (o ∷ around) es b = left_from o.block o.before (branches_with o es) around

abbrev pub left : Blocks → Blocks
left b = left_in b.around (content b) b

-- a statement is given
abbrev pub and_statement : Given → Blocks → Blocks
and_statement g b = record { entries = joined (content b) (given g nothing); chain = none; around = b.around }

abbrev pub after : Blocks → Step → Blocks
after b (Assign side target value place) = and_statement (record { side = side; statement = assign target value place }) b
after b (Enter o) = entered o b
after b Leave = left b

-- no block is open, and nothing stands there
abbrev pub begun : Blocks
begun = record { entries = nothing; chain = none; around = [] }

-- what all steps make, one after the other
unfoldable pub blocks_of : List Step → Blocks
blocks_of steps = fold after begun steps

-- ---- the order of blocks

-- no block is open
abbrev pub is_outermost : List Open → Bool
is_outermost [] = true
is_outermost (o ∷ around) = false

abbrev pub is_switch : OpenBlock → Bool
is_switch (block.Branch c) = false
is_switch (block.Last c) = false
is_switch (block.Switch v) = true
is_switch (block.Case v c) = false

-- the innermost block is a `Switch`
abbrev pub in_switch : List Open → Bool
in_switch [] = false
in_switch (o ∷ around) = is_switch o.block

-- a block may begin here: an `Elif` and an `Else` directly after an `If` or an `Elif`, a case directly in a `Switch`, and
-- nothing else there
abbrev pub may_begin : Opening → Blocks → Bool
may_begin (opening.If c) b = not (in_switch b.around)
may_begin (opening.Elif c) b = not (is_none b.chain)
may_begin (opening.Else c) b = not (is_none b.chain)
may_begin (opening.Switch v) b = not (in_switch b.around)
may_begin (opening.Case c) b = in_switch b.around
