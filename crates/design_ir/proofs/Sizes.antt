-- Each part of a list is smaller than the tree of the list.
use Rattle.std.proofs.Common.{zero, suc, ◌<◌, List, [], ◌∷◌, arith, All}
use Rattle.design_ir.specs.Trees.{block_size, choices_size, statement_size}
use Rattle.design_ir.specs.Statements.{statement_of, block_of, choices_of}
use Rattle.design_ir.specs.Forests.{forest_size}
use Rattle.design_ir.specs.Fragments.{forest_of}
use Rattle.design_ir.specs.declared.stmt.Stmt.{Stmt}
use Rattle.design_ir.specs.declared.stmt.Arm.{Arm}
use Rattle.design_ir.specs.declared.fragment.Fragment.{Fragment}

pub each_smaller : (ss : List Stmt) → All (λ s. statement_size (statement_of s) < block_size (block_of ss)) ss
each_smaller [] zero d h = absurd (omega arith)
each_smaller [] (suc k) d h = absurd (omega arith)
each_smaller (s ∷ ss) zero d h = omega arith
each_smaller (s ∷ ss) (suc k) d h = omega (arith, each_smaller ss k d (omega arith))

pub each_body_smaller : (arms : List Arm) → All (λ a. block_size a.body < choices_size (choices_of arms)) arms
each_body_smaller [] zero d h = absurd (omega arith)
each_body_smaller [] (suc k) d h = absurd (omega arith)
each_body_smaller (a ∷ arms) zero d h = omega arith
each_body_smaller (a ∷ arms) (suc k) d h = omega (arith, each_body_smaller arms k d (omega arith))

pub each_below_smaller : (fs : List Fragment) → All (λ f. forest_size f.submodules < forest_size (forest_of fs)) fs
each_below_smaller [] zero d h = absurd (omega arith)
each_below_smaller [] (suc k) d h = absurd (omega arith)
each_below_smaller (f ∷ fs) zero d h = omega arith
each_below_smaller (f ∷ fs) (suc k) d h = omega (arith, each_below_smaller fs k d (omega arith))
