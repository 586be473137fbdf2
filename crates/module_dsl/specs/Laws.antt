-- What holds of the processes of every fragment that a builder makes.
use Rattle.std.specs.Prelude.{◌≡◌, ◌≢◌, List, map, ℤ}
use Rattle.std.specs.List.{IsDistinct, AllByRecursion}
use Rattle.design_ir.specs.declared.process.Process.{Process}
use Rattle.design_ir.specs.declared.process.Side.{Side}
use Rattle.design_ir.specs.Pools.{Pooled}
use Rattle.design_ir.specs.Put.{put}
use Rattle.design_ir.specs.Trees.{done}
use Rattle.module_dsl.specs.Blocks.{Entries}
use Rattle.module_dsl.specs.Sided.{same_side, block_for, carried_out, processes_of}

-- there is one process for each side
abbrev pub OneProcessEach : Type 0
OneProcessEach = (es : Entries) → IsDistinct same_side (map (λ (p : Process). p.side) (processes_of es))

-- and none without statements
abbrev pub NoProcessIsEmpty : Type 0
NoProcessIsEmpty = (es : Entries) → AllByRecursion (λ (p : Process). p.body ≢ done) (processes_of es)

-- the statements of a side leave what the blocks mean for it
abbrev pub BlocksAreMeant : Type 0
BlocksAreMeant = (pool : Pooled) (env : List ℤ) (side : Side) (es : Entries) (cur : List ℤ) → put pool env (block_for side es) cur ≡ carried_out pool env side es cur
