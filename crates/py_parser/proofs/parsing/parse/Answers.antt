use Rattle.std.specs.Prelude.{◌≡◌, length, map, Err}
use Rattle.std.proofs.Common.{refl, subst, ap, ◌∙◌, arith}
use Rattle.py_grammar.specs.Blocks.{IsRefusedLine}
use Rattle.py_parser.specs.Files.{line_seen, IsAt, Judges}
use Rattle.py_parser.specs.Parsing.{words_line, file_lines}
use Rattle.py_parser.proofs.Mapped.{length-mapped, seen_alike}
use Rattle.py_parser.proofs.parsing.parse.Goals as goal

pub overflow_cast-number : goal.overflow_cast-number
overflow_cast-number c =
    let at : IsAt c.deref.result.now (λ l. IsRefusedLine (map line_seen c.deref.result.now) l) c.in-Err-Line.number = subst (λ e. Judges c.deref.result.now (Err e)) c.in-Err-Line.field-0-is c.in-Err-Line.ensures.judges in
    let long : length c.deref.result.now ≡ length c.args.lines.now = ap length c.deref.ensures.value ∙ length-mapped line_seen (words_line c.args.text.now) c.in_ok-all.all.items c.args.lines.now c.in_ok-all.ensures in
    omega (arith, at.within, long, c.count.ensures, c.count.type_inv)

pub returns-in-Err-Line : goal.returns-in-Err-Line
returns-in-Err-Line c =
    let at : IsAt c.deref.result.now (λ l. IsRefusedLine (map line_seen c.deref.result.now) l) c.in-Err-Line.number = subst (λ e. Judges c.deref.result.now (Err e)) c.in-Err-Line.field-0-is c.in-Err-Line.ensures.judges in
    let same : map line_seen c.deref.result.now ≡ file_lines c.args.text.now c.args.lines.now = ap (map line_seen) c.deref.ensures.value ∙ c.in_ok-all.ensures in
    let line_is : line_seen at.line ≡ words_line c.args.text.now c.line.result.now = seen_alike line_seen (words_line c.args.text.now) c.deref.result.now c.args.lines.now c.in-Err-Line.number at.line c.line.result.now same at.there c.line.ensures in
    record {
      number = c.in-Err-Line.number;
      line = c.line.result.now;
      there = c.line.ensures;
      begins = refl;
      refused = subst (λ ls. IsRefusedLine ls (words_line c.args.text.now c.line.result.now)) same (subst (λ l. IsRefusedLine (map line_seen c.deref.result.now) l) line_is at.is);
    }
