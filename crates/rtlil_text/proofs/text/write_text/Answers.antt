use Rattle.std.proofs.Common.{◌∙◌, ap, subst, refl, inl, inr, append_assoc, ℕ, List, [], ◌++◌}
use Rattle.std.specs.Prelude.{Option}
use Rattle.std.specs.List.{flat_map}
use Rattle.std.proofs.lemmas.Result.{err_from_is_err_and}
use Rattle.amh_host.specs.Seen.{written}
use Rattle.amh_host.specs.Calls.{Adds, AddsFront}
use Rattle.amh_host.specs.Written.{Writes, WritesFront}
use Rattle.amh_host.proofs.SeenLaws.{IsAt, IsAt-put, IsAt-refused}
use Rattle.rtlil_text.specs.Widths.{width_in}
use Rattle.rtlil_text.specs.Written.{opening_text, closing_text, cell_text, module_text, text_of}
use Rattle.rtlil_text.proofs.WriteLaws.{WritesFront-start, Writes-last}
use Rattle.rtlil_text.proofs.text.write_text.Goals as goal

pub returns-in_err-widths-clause-text : goal.returns-in_err-widths-clause-text
returns-in_err-widths-clause-text g c =
    let p = err_from_is_err_and c.from_residual.result c.from_residual.ensures.1 in
    rw p.1 (inl refl)

pub returns-in_err-opening-clause-text : goal.returns-in_err-opening-clause-text
returns-in_err-opening-clause-text g c =
    let p = err_from_is_err_and c.from_residual-in_err-opening.result c.from_residual-in_err-opening.ensures.1 in
    rw p.1 (inl refl)

pub returns-in_err-start-clause-text : goal.returns-in_err-start-clause-text
returns-in_err-start-clause-text g c =
    let p = err_from_is_err_and c.from_residual-in_err-start.result c.from_residual-in_err-start.ensures.1 in
    rw p.1 (WritesFront-start c.args.name.now (text_of c.args.m.now) (g.H.Host.seen c.args.host.now) (g.H.Host.seen c.start.new.self) c.in_err-start.ensures.done)

pub returns-in_err-put-clause-text : goal.returns-in_err-put-clause-text
returns-in_err-put-clause-text g c =
    let p = err_from_is_err_and c.from_residual-in_err-put.result c.from_residual-in_err-put.ensures.1 in
    let m = c.args.m.now in
    let w = width_in c.in_ok-widths.widths in
    let name = c.args.name.now in
    let old = g.H.Host.seen c.args.host.now in
    let s1 = g.H.Host.seen c.start.new.self in
    let s2 = g.H.Host.seen c.put.new.host in
    let cells = flat_map (cell_text w) m.cells in
    let at1 : IsAt name [] old s1 = record { seen = c.in_ok-start.ensures.done } in
    let front : AddsFront (written name) (opening_text m) s1 s2 = subst (λ (b : List ℕ). AddsFront (written name) b s1 s2) c.in_ok-opening.ensures c.in_err-put.ensures.done in
    let part : WritesFront name (module_text w m) old s2 = inr (IsAt-refused name [] (opening_text m) (cells ++ closing_text w m) (module_text w m) old s1 s2 at1 refl front) in
    rw p.1 (subst (λ (v : List ℕ → Option ℕ). WritesFront name (module_text v m) old s2) c.in_ok-widths.ensures part)

pub returns-in_err-put_cells-clause-text : goal.returns-in_err-put_cells-clause-text
returns-in_err-put_cells-clause-text g c =
    let p = err_from_is_err_and c.from_residual-in_err-put_cells.result c.from_residual-in_err-put_cells.ensures.1 in
    let m = c.args.m.now in
    let w = width_in c.in_ok-widths.widths in
    let name = c.args.name.now in
    let old = g.H.Host.seen c.args.host.now in
    let s1 = g.H.Host.seen c.start.new.self in
    let s2 = g.H.Host.seen c.put.new.host in
    let s3 = g.H.Host.seen c.put_cells.new.host in
    let cells = flat_map (cell_text w) m.cells in
    let at1 : IsAt name [] old s1 = record { seen = c.in_ok-start.ensures.done } in
    let at2 : IsAt name (opening_text m) old s2 = IsAt-put name [] (opening_text m) old s1 s2 at1 (c.in_ok-put.ensures.done ∙ ap (λ (b : List ℕ). written name b s1) c.in_ok-opening.ensures) in
    let part : WritesFront name (module_text w m) old s3 = inr (IsAt-refused name (opening_text m) cells (closing_text w m) (module_text w m) old s2 s3 at2 (append_assoc (opening_text m) cells (closing_text w m)) c.in_err-put_cells.ensures.done) in
    rw p.1 (subst (λ (v : List ℕ → Option ℕ). WritesFront name (module_text v m) old s3) c.in_ok-widths.ensures part)

pub returns-in_err-closing-clause-text : goal.returns-in_err-closing-clause-text
returns-in_err-closing-clause-text g c =
    let p = err_from_is_err_and c.from_residual-in_err-closing.result c.from_residual-in_err-closing.ensures.1 in
    let m = c.args.m.now in
    let w = width_in c.in_ok-widths.widths in
    let name = c.args.name.now in
    let old = g.H.Host.seen c.args.host.now in
    let s1 = g.H.Host.seen c.start.new.self in
    let s2 = g.H.Host.seen c.put.new.host in
    let s3 = g.H.Host.seen c.put_cells.new.host in
    let cells = flat_map (cell_text w) m.cells in
    let at1 : IsAt name [] old s1 = record { seen = c.in_ok-start.ensures.done } in
    let at2 : IsAt name (opening_text m) old s2 = IsAt-put name [] (opening_text m) old s1 s2 at1 (c.in_ok-put.ensures.done ∙ ap (λ (b : List ℕ). written name b s1) c.in_ok-opening.ensures) in
    let at3 : IsAt name (opening_text m ++ cells) old s3 = IsAt-put name (opening_text m) cells old s2 s3 at2 c.in_ok-put_cells.ensures.done in
    let part : WritesFront name (module_text w m) old s3 =
    inr (record { front = opening_text m ++ cells; rest = closing_text w m; whole = append_assoc (opening_text m) cells (closing_text w m); changed = at3.seen }) in
    rw p.1 (subst (λ (v : List ℕ → Option ℕ). WritesFront name (module_text v m) old s3) c.in_ok-widths.ensures part)

pub returns-clause-text : goal.returns-clause-text
returns-clause-text g c =
    let m = c.args.m.now in
    let w = width_in c.in_ok-widths.widths in
    let name = c.args.name.now in
    let old = g.H.Host.seen c.args.host.now in
    let s1 = g.H.Host.seen c.start.new.self in
    let s2 = g.H.Host.seen c.put.new.host in
    let s3 = g.H.Host.seen c.put_cells.new.host in
    let s4 = g.H.Host.seen c.put-3.new.host in
    let cells = flat_map (cell_text w) m.cells in
    let at1 : IsAt name [] old s1 = record { seen = c.in_ok-start.ensures.done } in
    let at2 : IsAt name (opening_text m) old s2 = IsAt-put name [] (opening_text m) old s1 s2 at1 (c.in_ok-put.ensures.done ∙ ap (λ (b : List ℕ). written name b s1) c.in_ok-opening.ensures) in
    let at3 : IsAt name (opening_text m ++ cells) old s3 = IsAt-put name (opening_text m) cells old s2 s3 at2 c.in_ok-put_cells.ensures.done in
    let last : Adds (written name) (closing_text w m) c.put-3.result s3 s4 = subst (λ (b : List ℕ). Adds (written name) b c.put-3.result s3 s4) c.in_ok-closing.ensures c.put-3.ensures.done in
    let whole : Writes name (module_text w m) c.put-3.result old s4 = Writes-last c.put-3.result name (opening_text m ++ cells) (closing_text w m) (module_text w m) old s3 s4 at3 (append_assoc (opening_text m) cells (closing_text w m)) last in
    subst (λ (v : List ℕ → Option ℕ). Writes name (module_text v m) c.put-3.result old s4) c.in_ok-widths.ensures whole
