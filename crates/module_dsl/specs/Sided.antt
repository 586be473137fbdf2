-- The statements of one side among blocks, and what they mean.
use Rattle.std.specs.Prelude.{ℕ, suc, ◌+◌, Bool, true, false, not, if◌then◌else◌, List, [], ◌∷◌, ◌++◌, map, length, ℤ}
use Rattle.std.specs.List.{filter, list_any}
use Rattle.lists.specs.Texts.{text_eq}
use Rattle.shape_rules.specs.Operators.{is_zero}
use Rattle.design_ir.specs.declared.process.Side.{Side}
use Rattle.design_ir.specs.declared.process.Side.TheVariants.{Comb, Clocked}
use Rattle.design_ir.specs.declared.process.Process.{Process}
use Rattle.design_ir.specs.Trees as tree
use Rattle.design_ir.specs.Trees.{choose, Choices, arm, Block, done, next}
use Rattle.design_ir.specs.Pools.{Pooled}
use Rattle.design_ir.specs.Values.{num}
use Rattle.design_ir.specs.Put.{put_statement}
use Rattle.module_dsl.specs.Blocks.{Given, Entries, nothing, given, choice, Branches, none, branch}

-- ---- sides

-- both combinational, or of domains with one name
abbrev pub same_side : Side → Side → Bool
same_side Comb Comb = true
same_side Comb (Clocked n) = false
same_side (Clocked m) Comb = false
same_side (Clocked m) (Clocked n) = text_eq m n

-- the statements of all blocks, in the order of their giving
abbrev mutual
  pub givens : Entries → List Given
  givens nothing = []
  givens (given g rest) = g ∷ givens rest
  givens (choice bs rest) = givens_in bs ++ givens rest

  pub givens_in : Branches → List Given
  givens_in none = []
  givens_in (branch c es bs) = givens es ++ givens_in bs

-- the sides that statements have, each once, in the order of their first statements
abbrev pub sides_of : List Given → List Side
sides_of [] = []
sides_of (g ∷ more) = g.side ∷ filter (λ s. not (same_side g.side s)) (sides_of more)

-- some statement is of this side
abbrev pub has_side : Side → List Given → Bool
has_side side gs = list_any (λ (g : Given). same_side side g.side) gs

-- ---- the statements of one side

-- The statements of the other sides fall away, and so do the choices in which none of this side stands. Of any other
-- choice all branches stay, those without statements too: they hide the later ones.
abbrev mutual
  pub block_for : Side → Entries → Block
  block_for side nothing = done
  block_for side (given g rest) = if same_side side g.side then next g.statement (block_for side rest) else block_for side rest
  block_for side (choice bs rest) =
      if has_side side (givens_in bs) then next (choose (choices_for side bs)) (block_for side rest) else block_for side rest

  pub choices_for : Side → Branches → Choices
  choices_for side none = tree.none
  choices_for side (branch c es bs) = arm c (block_for side es) (choices_for side bs)

abbrev pub process_of : Entries → Side → Process
process_of es side = record { side = side; body = block_for side es }

-- one process for each side
abbrev pub processes_of : Entries → List Process
processes_of es = map (process_of es) (sides_of (givens es))

-- ---- what the blocks mean for one side, where all else is read in an environment: one entry after the other; of the
-- branches of a choice the first whose condition is not 0
abbrev mutual
  pub carried_out : Pooled → List ℤ → Side → Entries → List ℤ → List ℤ
  carried_out pool env side nothing cur = cur
  carried_out pool env side (given g rest) cur =
      carried_out pool env side rest (if same_side side g.side then put_statement pool env g.statement cur else cur)
  carried_out pool env side (choice bs rest) cur = carried_out pool env side rest (first_active pool env side bs cur)

  pub first_active : Pooled → List ℤ → Side → Branches → List ℤ → List ℤ
  first_active pool env side none cur = cur
  first_active pool env side (branch c es bs) cur =
      if is_zero (num pool env c.0) then first_active pool env side bs cur else carried_out pool env side es cur

-- ---- how many statements there are: a choice is one for each side that stands in it
abbrev mutual
  pub statement_count : Entries → ℕ
  statement_count nothing = 0
  statement_count (given g rest) = suc (statement_count rest)
  statement_count (choice bs rest) = length (sides_of (givens_in bs)) + branch_count bs + statement_count rest

  -- those in the branches
  pub branch_count : Branches → ℕ
  branch_count none = 0
  branch_count (branch c es bs) = statement_count es + branch_count bs
