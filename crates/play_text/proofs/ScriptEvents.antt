-- The events that a script's lines ask for.
use Rattle.std.proofs.Common.{ℕ, List, ◌++◌}
use Rattle.std.specs.Prelude.{Result, Ok, Err}
use Rattle.design_ir.specs.declared.event.Event.{Event}

-- events before those of the lines behind them
abbrev pub behind_events : List Event → Result (List Event) ℕ → Result (List Event) ℕ
behind_events es (Ok more) = Ok (es ++ more)
behind_events es (Err n) = Err n
