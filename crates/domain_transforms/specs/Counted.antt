-- The counts of a design that a fragment and its pool may not pass: 65,536 statements and 262,144 expressions. (This project's own
-- rule: assignments and choices are statements.)
use Rattle.std.specs.Prelude.{ℕ, suc, ◌+◌, nat_lt, ◌||◌, Bool, List, [], ◌∷◌, length}
use Rattle.design_ir.specs.declared.process.Process.{Process}
use Rattle.design_ir.specs.declared.fragment.Fragment.{Fragment}
use Rattle.design_ir.specs.Trees.{Statement, assign, choose, Choices, none, arm, Block, done, next}
use Rattle.design_ir.specs.Forests.{Forest, bare, grown}
use Rattle.design_ir.specs.Pools.{Pooled}

abbrev mutual
  pub statement_count : Statement → ℕ
  statement_count (assign t v p) = 1
  statement_count (choose arms) = suc (choices_count arms)

  pub choices_count : Choices → ℕ
  choices_count none = 0
  choices_count (arm c body others) = block_count body + choices_count others

  pub block_count : Block → ℕ
  block_count done = 0
  block_count (next s rest) = statement_count s + block_count rest

abbrev pub processes_count : List Process → ℕ
processes_count [] = 0
processes_count (p ∷ ps) = block_count p.body + processes_count ps

abbrev pub forest_count : Forest → ℕ
forest_count bare = 0
forest_count (grown l below rest) = processes_count l.processes + (forest_count below + forest_count rest)

abbrev pub fragment_count : Fragment → ℕ
fragment_count f = processes_count f.processes + forest_count f.submodules

-- one of the two counts is passed
abbrev pub is_past : Pooled → Fragment → Bool
is_past q f = nat_lt 262144 (length q.exprs) || nat_lt 65536 (fragment_count f)
