-- The first clocked process that drives a signal, and the first memory whose clocked read port gives it, by their numbers. (Internal:
-- no rule of the language.)
use Rattle.std.specs.Prelude.{◌≡◌, ℕ, suc, ◌+◌, ◌<◌, ◌&&◌, ◌++◌, ⊤, true, if◌then◌else◌, List, [], ◌∷◌, length, slice_index_or, Option, Some, None, is_some, option_map, unwrap_or}
use Rattle.design_ir.specs.declared.domain.Domain.{Domain}
use Rattle.design_ir.specs.declared.memory.Memory.{Memory}
use Rattle.design_ir.specs.declared.process.Process.{Process}
use Rattle.design_ir.specs.declared.port.Column.{Column}
use Rattle.design_ir.specs.Pools.{Pooled}
use Rattle.design_ir.specs.Guards.{driven}
use Rattle.design_ir.specs.Circuits.{is_among}
use Rattle.fragment_walks.specs.Numbers.{first_at, lesser}
use Rattle.clock_domains.specs.Resolved.{clocked_data, is_clocked, shown_name}

abbrev pub first_clocked : Pooled → List Process → ℕ → Option ℕ
first_clocked q [] s = None
first_clocked q (p ∷ ps) s = if is_clocked p && is_among (driven q p.body) s then Some 0 else option_map (λ (k : ℕ). suc k) (first_clocked q ps s)

-- as many signals as a pool may have: each with the first clocked process that drives it
pub record AreFirsts (q : Pooled) (ps : List Process) (firsts : List (Option ℕ)) : Type 0 where
  pub size : length firsts ≡ 16384
  pub each : (s : ℕ) → s < 16384 → first_at firsts s ≡ first_clocked q ps s

-- only signals of the pool have numbers
pub record AreNumbersThere (q : Pooled) (firsts : List (Option ℕ)) : Type 0 where
  pub size : length firsts ≡ 16384
  pub there : (s : ℕ) → is_some (first_at firsts s) ≡ true → s < length q.signals

-- ---- the paths of numbered processes

-- no number, or one below this one
abbrev pub IsPlace : ℕ → Option ℕ → Type 0
IsPlace n None = ⊤
IsPlace n (Some k) = k < n

abbrev pub path_at : List (Option (List ℕ)) → Option ℕ → Option (List ℕ)
path_at paths None = None
path_at paths (Some k) = slice_index_or paths k None

-- ---- processes and then memories, by their numbers

-- the first memory of which a signal is the data of a clocked read port
abbrev pub first_memory : List Memory → ℕ → Option ℕ
first_memory [] s = None
first_memory (m ∷ ms) s = if is_among (clocked_data m) s then Some 0 else option_map (λ (k : ℕ). suc k) (first_memory ms s)

-- memories are numbered behind so many processes
abbrev pub first_site : Pooled → List Process → List Memory → ℕ → Option ℕ
first_site q ps ms s = lesser (first_clocked q ps s) (option_map (λ (k : ℕ). length ps + k) (first_memory ms s))

-- as many signals as a pool may have: each with the first of them that names it
pub record AreSites (q : Pooled) (ps : List Process) (ms : List Memory) (sites : List (Option ℕ)) : Type 0 where
  pub size : length sites ≡ 16384
  pub each : (s : ℕ) → s < 16384 → first_at sites s ≡ first_site q ps ms s

abbrev pub column_under : Pooled → List Domain → Option (List ℕ) → ℕ → Column
column_under q domains path s = record { name = unwrap_or path [] ++ shown_name q domains s; sig = record { 0 = s } }

abbrev pub known_column : Pooled → List Domain → List (Option (List ℕ)) → List (Option ℕ) → ℕ → Column
known_column q domains paths sites s = column_under q domains (path_at paths (first_at sites s)) s
