use Rattle.std.proofs.Common.{◌≡◌, ◌-◌, drop, length, Ok}
use Rattle.std.specs.List.{AllByRecursion}
use Rattle.design_ir.specs.PoolRules.{IsPool}
use Rattle.elab_store.specs.Sound.{IsWrapping}
use Rattle.elab_eval.specs.Elaborates.{root_wrapped}
use Rattle.elab_eval.specs.Standing.{StandsFor}
use Rattle.elab_eval.proofs.trees.root_wrapped.Given as goal

-- what the wrappings behind made, which stands for the whole
abbrev pub invariant-loop-i : goal.invariant-loop-i
invariant-loop-i l =
    IsPool l.pool × ((root_wrapped l.store.wrappings (drop (length l.wraps - l.i) l.wraps) (l.initial.root, l.initial.pool) ≡ Ok (l.root, l.pool)) × (StandsFor l.store l.pool l.root × AllByRecursion (IsWrapping l.pool) l.store.wrappings))
