use Rattle.std.proofs.Common.{◌≡◌, ◌∙◌, ap, sym, subst}
use Rattle.std.specs.Prelude.{Ok, Err}
use Rattle.play_text.specs.declared.board.Board.{Board}
use Rattle.play_text.specs.declared.script.ScriptStop.{ScriptStop}
use Rattle.play_text.specs.ScriptGives.{ScriptGives}
use Rattle.play_text.specs.Boards.{board_of}
use Rattle.play_text.specs.Script.{script_events}
use Rattle.amh_tool.proofs.accept.read_events.Goals as goal

pub returns-in-Ok-clause-script : goal.returns-in-Ok-clause-script
returns-in-Ok-clause-script g c =
    let d = c.args.design.now in
    let e : script_events (board_of d) c.in_ok-text.text.items ≡ Ok c.in-Ok.events =
    (λ i. script_events ((sym c.in_ok-board.ensures) i) ((sym c.deref.ensures.value) i)) ∙ c.in-Ok.ensures in
    (c.in_ok-board.ensures, (c.in_ok-text.text.items, c.in_ok-text.ensures.bytes, e))

pub returns-in-Err-Line-clause-script : goal.returns-in-Err-Line-clause-script
returns-in-Err-Line-clause-script g c =
    let d = c.args.design.now in
    let line = c.in-Err-Line.line in
    let given : ScriptGives (Err c.in-Err-Line.field-0) (script_events c.in_ok-board.board c.deref.result.now) = c.in-Err-Line.ensures in
    let said = subst (λ (x : ScriptStop). ScriptGives (Err x) (script_events c.in_ok-board.board c.deref.result.now)) c.in-Err-Line.field-0-is given in
    let e : script_events (board_of d) c.in_ok-text.text.items ≡ Err line =
    (λ i. script_events ((sym c.in_ok-board.ensures) i) ((sym c.deref.ensures.value) i)) ∙ said in
    (c.in_ok-text.text.items, c.in_ok-text.ensures.bytes, e)
