use Rattle.std.proofs.Common.{◌≡◌, ◌∙◌, sym, ap, arith, true, false, ◌<◌, ◌≤◌, length, drop, take, length-drop, length-take, ◌+◌}
use Rattle.py_lexer.specs.Characters.{past}
use Rattle.py_lexer.specs.Lines.{ends_logical}
use Rattle.py_lexer.specs.Pieces.{placed}
use Rattle.py_lexer.proofs.WalkLaws.{turn_ends_owed, turn_meets_owed, turn_tells_owed, meets_begins, ends_begins}
use Rattle.py_lexer.proofs.walk.Walk.turn.Goals as goal

pub returns-then-is_ended_by-clause-told : goal.returns-then-is_ended_by-clause-told
returns-then-is_ended_by-clause-told c =
    let w = c.args.self.now in
    let cs = c.args.cs.now in
    let f = c.in_ok-found.found in
    let mark : c.past-upto.result ≡ past w.mark (take f.width cs) = c.past-upto.ensures.value ∙ ap (past w.mark) c.front.ensures in
    let ends : ends_logical (placed w.mark f cs) w.going ≡ true = sym c.is_ended_by.ensures ∙ c.if-is_ended_by.true in
    turn_ends_owed w cs f c.end_line.new.lines c.end_line.new.self c.past-upto.result c.in_ok-found.ensures.value
    (ends_begins f w.going w.mark cs c.in_ok-found.ensures.within.begins ends) c.in_ok-found.ensures.within.within ends c.in_ok-end_line.ensures.line c.in_ok-end_line.ensures.begins mark

pub returns-in-Err-clause-err : goal.returns-in-Err-clause-err
returns-in-Err-clause-err c =
    let w = c.args.self.now in
    let cs = c.args.cs.now in
    let f = c.in_ok-found.found in
    let mark : c.past-upto.result ≡ past w.mark (take f.width cs) = c.past-upto.ensures.value ∙ ap (past w.mark) c.front.ensures in
    let ends : ends_logical (placed w.mark f cs) w.going ≡ false = sym c.is_ended_by.ensures ∙ c.if-is_ended_by.false in
    turn_tells_owed w cs f c.past-upto.result c.in-Err.stop c.in_ok-found.ensures.value c.requires.some ends mark c.in-Err.ensures.err

pub returns-clause-begins : goal.returns-clause-begins
returns-clause-begins c =
    meets_begins c.in_ok-found.found c.args.self.now.mark c.past-upto.result c.args.self.now.going _ c.in_ok-found.ensures.within.begins c.in_default.ensures.ok

pub returns-clause-told : goal.returns-clause-told
returns-clause-told c =
    let w = c.args.self.now in
    let cs = c.args.cs.now in
    let f = c.in_ok-found.found in
    let mark : c.past-upto.result ≡ past w.mark (take f.width cs) = c.past-upto.ensures.value ∙ ap (past w.mark) c.front.ensures in
    let ends : ends_logical (placed w.mark f cs) w.going ≡ false = sym c.is_ended_by.ensures ∙ c.if-is_ended_by.false in
    let begins : 0 < f.width = meets_begins f w.mark c.past-upto.result w.going _ c.in_ok-found.ensures.within.begins c.in_default.ensures.ok in
    turn_meets_owed w cs f c.meet.new.self c.past-upto.result c.in_ok-found.ensures.value begins c.in_ok-found.ensures.within.within ends mark c.in_default.ensures.ok

pub returns-clause-room : goal.returns-clause-room
returns-clause-room c =
    let w = c.args.self.now in
    let cs = c.args.cs.now in
    let f = c.in_ok-found.found in
    let width = f.width in
    let front : length c.front.result.now ≡ width = ap length c.front.ensures ∙ (length-take width cs ∙ omega (arith, c.in_ok-found.ensures.within.within)) in
    let begins : 0 < width = meets_begins f w.mark c.past-upto.result w.going _ c.in_ok-found.ensures.within.begins c.in_default.ensures.ok in
    let within : width ≤ length cs = c.in_ok-found.ensures.within.within in
    let rest : length (drop width cs) + width ≡ length cs = omega (arith, length-drop width cs) in
    record {
      byte = omega (arith, c.past-upto.ensures.byte);
      line = omega (arith, c.past-upto.ensures.line);
      col = omega (arith, c.past-upto.ensures.col);
      indent = omega (arith, c.in_default.ensures.indent);
      lines = omega arith;
    }
