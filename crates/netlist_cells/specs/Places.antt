-- Where the column and the port of each signal stand.
use Rattle.std.specs.Prelude.{◌≡◌, ◌<◌, ◌==◌, ℕ, Bool, List, length, drop, slice_get, slice_index_or, Option, Some, None, option_and_then}
use Rattle.std.specs.List.{find}
use Rattle.design_ir.specs.declared.port.Port.{Port}
use Rattle.design_ir.specs.declared.port.Column.{Column}
use Rattle.design_ir.specs.Circuits.{Circuit}

-- for each of n signals the place of the first of these, from one place on, that passes the signal's test
pub record ArePlaces (X : Type 0) (test : ℕ → X → Bool) (xs : List X) (from n : ℕ) (places : List (Option ℕ)) : Type 0 where
  pub long : length places ≡ n
  pub inside : (s k : ℕ) → slice_index_or places s None ≡ Some k → k < length xs
  pub each : (s : ℕ) → s < n → option_and_then (slice_get xs) (slice_index_or places s None) ≡ find (test s) (drop from xs)

abbrev pub shows_signal : ℕ → Column → Bool
shows_signal s x = x.sig.0 == s

abbrev pub AreColumnPlaces : Circuit → List (Option ℕ) → Type 0
AreColumnPlaces c places = ArePlaces Column shows_signal c.columns 0 (length c.pool.signals) places

abbrev pub is_port_of : ℕ → Port → Bool
is_port_of s p = p.sig.0 == s

abbrev pub ArePortPlaces : Circuit → List (Option ℕ) → Type 0
ArePortPlaces c places = ArePlaces Port is_port_of c.ports 0 (length c.pool.signals) places
