use Rattle.std.proofs.Common.{◌≡◌, ◌∙◌, ap, subst, arith, length, List, Result, Ok, Err, IfOk}
use Rattle.std.specs.Prelude.{All}
use Rattle.std.specs.Str.{chars}
use Rattle.amh_host.specs.declared.place.Place.{Place}
use Rattle.py_lexer.specs.declared.line.Line.{Line}
use Rattle.py_lexer.specs.declared.line.LexStop.{LexStop}
use Rattle.py_lexer.specs.Characters.{start}
use Rattle.py_lexer.specs.Lines.{logical_lines}
use Rattle.py_lexer.specs.Gives.{Cuts}
use Rattle.py_lexer.specs.Tiles.{Tiles, tokens_in}
use Rattle.py_lexer.specs.Spans.{IsLineOf, IsInOrder}
use Rattle.py_lexer.specs.Walks.{begun, owed}
use Rattle.py_lexer.proofs.WalkLaws.{owed_begun, length-chars}
use Rattle.py_lexer.proofs.TileLaws.{lines_tile}
use Rattle.py_lexer.proofs.SpanLaws.{lines_kept}
use Rattle.py_lexer.proofs.walk.cut_lines.Goals as goal

pub cut_chars-requires : goal.cut_chars-requires
cut_chars-requires c =
    let all : c.as_slice.result.now ≡ chars c.args.text.now = c.as_slice.ensures.value ∙ c.in_ok-all.ensures in
    omega (arith, ap length all, length-chars c.args.text.now c.utf8.text)

-- what holds of the lines of the definition holds of those that are cut
told : (P : List Line → Type 0) (result : Result (List Line) LexStop) (lines : Result (List Line) Place) → Cuts result lines → ((ls : List Line) → lines ≡ Ok ls → P ls) → IfOk result P
told P (Ok ls) lines c h = h ls c
told P (Err stop) lines c h = tt

pub returns-clause-cut : goal.returns-clause-cut
returns-clause-cut c =
    let all : c.as_slice.result.now ≡ chars c.args.text.now = c.as_slice.ensures.value ∙ c.in_ok-all.ensures in
    subst (λ told. Cuts c.cut_chars.result told) (ap (owed begun) all ∙ owed_begun _) c.cut_chars.ensures

pub returns-clause-tiles : goal.returns-clause-tiles
returns-clause-tiles c =
    let cs = chars c.args.text.now in
    let all : c.as_slice.result.now ≡ cs = c.as_slice.ensures.value ∙ c.in_ok-all.ensures in
    let cut = subst (λ told. Cuts c.cut_chars.result told) (ap (owed begun) all ∙ owed_begun _) c.cut_chars.ensures in
    told (λ ls. Tiles start cs (tokens_in ls)) c.cut_chars.result (logical_lines cs) cut (λ ls e. lines_tile cs ls e)

pub returns-clause-lines : goal.returns-clause-lines
returns-clause-lines c =
    let text = c.args.text.now in
    let all : c.as_slice.result.now ≡ chars text = c.as_slice.ensures.value ∙ c.in_ok-all.ensures in
    let cut = subst (λ told. Cuts c.cut_chars.result told) (ap (owed begun) all ∙ owed_begun _) c.cut_chars.ensures in
    told (All (IsLineOf text)) c.cut_chars.result (logical_lines (chars text)) cut (λ ls e. (lines_kept text ls c.utf8.text e).0)

pub returns-clause-order : goal.returns-clause-order
returns-clause-order c =
    let text = c.args.text.now in
    let all : c.as_slice.result.now ≡ chars text = c.as_slice.ensures.value ∙ c.in_ok-all.ensures in
    let cut = subst (λ told. Cuts c.cut_chars.result told) (ap (owed begun) all ∙ owed_begun _) c.cut_chars.ensures in
    told (λ ls. IsInOrder 0 (tokens_in ls)) c.cut_chars.result (logical_lines (chars text)) cut (λ ls e. (lines_kept text ls c.utf8.text e).1)
