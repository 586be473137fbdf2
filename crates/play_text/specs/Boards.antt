-- What the trace and the script see of a design: its columns with their shapes, and its domains.
-- Source: this project's own rule (docs/RULES.md).
use Rattle.std.specs.Prelude.{ℕ, Bool, not, ◌&&◌, ◌==◌, map}
use Rattle.std.specs.List.{list_any}
use Rattle.design_ir.specs.declared.domain.Domain.{Domain}
use Rattle.design_ir.specs.declared.port.Column.{Column}
use Rattle.design_ir.specs.Values.{signal_form}
use Rattle.design_ir.specs.Circuits.{Circuit, is_input}
use Rattle.play_text.specs.declared.board.Shown.{Shown}
use Rattle.play_text.specs.declared.board.Board.{Board}

-- the signal is a domain's clock
abbrev pub is_clock : Circuit → ℕ → Bool
is_clock c s = list_any (λ (d : Domain). d.clk.0 == s) c.domains

abbrev pub shown_of : Circuit → Column → Shown
shown_of c x = record { name = x.name; sig = x.sig; shape = signal_form c.pool.signals x.sig.0; is_settable = is_input c x.sig.0 && not (is_clock c x.sig.0) }

abbrev pub board_of : Circuit → Board
board_of c = record { columns = map (shown_of c) c.columns; domains = c.domains }
