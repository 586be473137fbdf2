use Rattle.digraph.proofs.Members.{all_at}
use Rattle.std.proofs.Common.{◌∙◌, ◌++◌, ◌∷◌, [], ◌<◌, length, ap}
use Rattle.design_ir.specs.declared.port.Column.{Column}
use Rattle.play_text.specs.Boards.{shown_of}
use Rattle.play_text.proofs.BoardLaws.{map_turn}
use Rattle.play_text.proofs.board.all_columns.Goals as goal

pub shown_column-requires-clause-there : goal.shown_column-requires-clause-there
shown_column-requires-clause-there c =
    let d = c.args.design.now in
    all_at (λ (x : Column). x.sig.0 < length d.pool.signals) d.columns c.loop-i.i c.column.result.now c.processes.ensures.rules.columns.there c.column.ensures

pub loop-i-preserved : goal.loop-i-preserved
loop-i-preserved c =
    let d = c.args.design.now in
    let grown = c.in_ok-push.ensures.ok ∙ ap (λ x. c.loop-i.columns ++ x ∷ []) c.in_ok-shown_column.ensures in
    map_turn (shown_of d) d.columns c.loop-i.i c.column.result.now c.loop-i.columns c.push.new.self _ c.column.ensures grown c.loop-i.invariant
