-- What a builder keeps beside what it was told: sides, open blocks and a count.
use Rattle.std.specs.Prelude.{◌≡◌, ℕ, ◌+◌, min, Bool, true, false, not, if◌then◌else◌, List, [], ◌∷◌, ◌++◌, map, Option, Some, None}
use Rattle.std.specs.List.{AllByRecursion, list_any}
use Rattle.design_ir.specs.declared.process.Side.{Side}
use Rattle.module_dsl.specs.declared.step.OpenBlock.{OpenBlock}
use Rattle.module_dsl.specs.declared.progress.SideSoFar.{SideSoFar}
use Rattle.module_dsl.specs.declared.progress.Progress.{Progress}
use Rattle.module_dsl.specs.Blocks.{Entries, nothing, none, Open, Blocks, branches_with, ended, content, entries_of, is_switch, in_switch, is_none}
use Rattle.module_dsl.specs.Sided.{same_side, givens, givens_in, sides_of, has_side, statement_count}

abbrev pub one_where : Bool → ℕ
one_where b = if b then 1 else 0

-- in how many of these choices a side stands, where these entries stand in the innermost block
abbrev pub reach_in : Side → List Open → Entries → ℕ
reach_in side [] es = 0
reach_in side (o ∷ around) es = one_where (has_side side (givens_in (branches_with o es))) + reach_in side around (ended o.before (branches_with o es))

-- in how many of the open choices a side stands; a chain that may go on counts as open
abbrev pub reach : Blocks → Side → ℕ
reach b side = one_where (has_side side (givens_in b.chain)) + reach_in side b.around (content b)

abbrev pub so_far : Blocks → Side → SideSoFar
so_far b side = record { side = side; reach = reach b side }

-- blocks as they may stand: a `Switch` is open only as the innermost block, and nothing stands in it but its cases
abbrev pub AreBranches : List Open → Type 0
AreBranches around = AllByRecursion (λ (o : Open). is_switch o.block ≡ false) around

abbrev pub IsOuter : List Open → Type 0
IsOuter [] = Unit {0}
IsOuter (o ∷ around) = AreBranches around

pub record IsProper (b : Blocks) : Type 0 where
  pub outer : IsOuter b.around
  pub bare : in_switch b.around ≡ true → (b.entries ≡ nothing) × (b.chain ≡ none)

pub record IsProgress (b : Blocks) (p : Progress) : Type 0 where
  pub proper : IsProper b
  pub sides : p.sides.items ≡ map (so_far b) (sides_of (givens (entries_of b)))
  pub open_blocks : p.blocks.items ≡ map (λ (o : Open). o.block) b.around
  pub goes_on : p.goes_on ≡ not (is_none b.chain)
  pub statements : p.statements ≡ statement_count (entries_of b)

-- ---- single moves

-- no further than this many choices
abbrev pub clipped : ℕ → SideSoFar → SideSoFar
clipped level x = record x { reach = min x.reach level }

-- a statement of a side is given where this many choices are open
abbrev pub touched : Side → ℕ → SideSoFar → SideSoFar
touched side level x = if same_side side x.side then record x { reach = level } else clipped level x

abbrev pub has_kept : Side → List SideSoFar → Bool
has_kept side xs = list_any (λ (x : SideSoFar). same_side side x.side) xs

-- a side that is there, or one more, which stands nowhere yet
abbrev pub with_side : Side → List SideSoFar → List SideSoFar
with_side side xs = if has_kept side xs then xs else xs ++ record { side = side; reach = 0 } ∷ []

-- how far a side goes, and 0 where it is not there
abbrev pub kept_reach : Side → List SideSoFar → ℕ
kept_reach side [] = 0
kept_reach side (x ∷ xs) = if same_side side x.side then x.reach else kept_reach side xs

-- the sides go as far as this says, these blocks are open, and nothing else has changed but whether the chain goes on
pub record IsMoved (reaches : SideSoFar → SideSoFar) (open_now : List OpenBlock) (goes_on : Bool) (old new : Progress) : Type 0 where
  pub sides : new.sides.items ≡ map reaches old.sides.items
  pub open_blocks : new.blocks.items ≡ open_now
  pub goes_on_is : new.goes_on ≡ goes_on
  pub statements : new.statements ≡ old.statements

pub record IsAsBefore (old new : Progress) : Type 0 where
  pub sides : new.sides.items ≡ old.sides.items
  pub open_blocks : new.blocks.items ≡ old.blocks.items
  pub goes_on_is : new.goes_on ≡ old.goes_on
  pub statements : new.statements ≡ old.statements

-- the innermost block
abbrev pub first_of : List OpenBlock → Option OpenBlock
first_of [] = None
first_of (x ∷ xs) = Some x
