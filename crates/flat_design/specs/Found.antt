-- The signals that statements drive, as a list.
use Rattle.std.specs.Prelude.{◌≡◌, ℕ, ◌<◌, Bool, false, List, map, length, slice_index_or, All}
use Rattle.std.specs.List.{flat_map}
use Rattle.design_ir.specs.declared.ids.SigId.{SigId}
use Rattle.design_ir.specs.Pools.{Pooled}
use Rattle.design_ir.specs.Targets.{target_signals}
use Rattle.design_ir.specs.Guards.{Guarded}
use Rattle.design_ir.specs.Circuits.{is_among}

abbrev pub numbers_of : List SigId → List ℕ
numbers_of xs = map (λ (x : SigId). x.0) xs

-- the signals that assignments drive
abbrev pub targets_of : Pooled → List Guarded → List ℕ
targets_of p gs = flat_map (λ (g : Guarded). target_signals p g.target.0) gs

-- of so many signals just these are listed, and marked
pub record AreFound (n : ℕ) (ss : List ℕ) (marks : List Bool) (signals : List SigId) : Type 0 where
  pub size : length marks ≡ n
  pub marked : (s : ℕ) → slice_index_or marks s false ≡ is_among ss s
  pub listed : (s : ℕ) → is_among (numbers_of signals) s ≡ is_among ss s
  pub there : All (λ (x : SigId). x.0 < n) signals
