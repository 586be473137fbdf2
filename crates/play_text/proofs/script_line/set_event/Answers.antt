use Rattle.std.proofs.Common.{◌∙◌, sym}
use Rattle.std.specs.Prelude.{Some, None}
use Rattle.play_text.specs.Script.{words_in}
use Rattle.play_text.proofs.ScriptSetLaws.{set_event-value}
use Rattle.play_text.proofs.script_line.set_event.Goals as goal

pub returns-in_err-value : goal.returns-in_err-value
returns-in_err-value c =
    c.from_residual-in_err-value.ensures
    ∙ set_event-value c.args.board.now (words_in c.args.words.now) c.in_ok-name.name.now c.in_ok-name.text.now c.in_ok-column.column.now None
    (sym c.in_ok-name.ensures) (sym c.in_ok-column.ensures) c.in_err-value.ensures.value

pub returns : goal.returns
returns c =
    set_event-value c.args.board.now (words_in c.args.words.now) c.in_ok-name.name.now c.in_ok-name.text.now c.in_ok-column.column.now (Some c.in_ok-value.value)
    (sym c.in_ok-name.ensures) (sym c.in_ok-column.ensures) c.in_ok-value.ensures.value
