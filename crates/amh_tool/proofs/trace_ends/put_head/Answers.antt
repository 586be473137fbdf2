use Rattle.std.proofs.Common.{◌≡◌, ◌∙◌, ◌++◌, ◌∷◌, [], ap, sym, subst, refl, inl, inr, ℕ, List, append_assoc}
use Rattle.std.specs.List.{flat_map}
use Rattle.std.proofs.lemmas.List.{append-nil}
use Rattle.std.proofs.lemmas.Result.{err_from_is_err_and}
use Rattle.amh_host.specs.Seen.{written}
use Rattle.amh_host.specs.Calls.{Adds, AddsFront}
use Rattle.amh_host.proofs.SeenLaws.{IsAt, IsAt-put, IsAt-refused}
use Rattle.rtlil_text.proofs.WriteLaws.{WritesFront-start, Writes-last}
use Rattle.play_text.specs.Trace.{head_line, column_line, first_line, front_text}
use Rattle.amh_tool.proofs.Refused.{HasCause-memory, HasCause-handed}
use Rattle.amh_tool.proofs.TraceLaws.{front_text-order}
use Rattle.amh_tool.proofs.trace_ends.put_head.Goals as goal

pub returns-in_err-push_first-clause-text : goal.returns-in_err-push_first-clause-text
returns-in_err-push_first-clause-text g c =
    let p = err_from_is_err_and c.from_residual.result c.from_residual.ensures.1 in
    rw p.1 (inl refl)

pub returns-in_err-start-clause-text : goal.returns-in_err-start-clause-text
returns-in_err-start-clause-text g c =
    let p = err_from_is_err_and c.from_residual-in_err-start.result c.from_residual-in_err-start.ensures.1 in
    let all = front_text c.args.board.now [] (c.args.first.now ∷ []) in
    rw p.1 (WritesFront-start c.args.name.now all (g.H.Host.seen c.args.host.now) (g.H.Host.seen c.start.new.self) c.in_err-start.ensures.done)

pub returns-in_err-put-clause-text : goal.returns-in_err-put-clause-text
returns-in_err-put-clause-text g c =
    let p = err_from_is_err_and c.from_residual-in_err-put.result c.from_residual-in_err-put.ensures.1 in
    let b = c.args.board.now in
    let all = front_text b [] (c.args.first.now ∷ []) in
    let name = c.args.name.now in
    let old = g.H.Host.seen c.args.host.now in
    let columns = flat_map column_line b.columns in
    let first = first_line b c.args.first.now in
    let order : head_line ++ (columns ++ (first ++ [])) ≡ all = front_text-order b c.args.first.now in
    let s1 = g.H.Host.seen c.start.new.self in
    let at1 : IsAt name [] old s1 = record { seen = c.in_ok-start.ensures.done } in
    let s2 = g.H.Host.seen c.put.new.self in
    let front : AddsFront (written name) head_line s1 s2 = subst (λ (t : List ℕ). AddsFront (written name) t s1 s2) c.head_line.ensures c.in_err-put.ensures.done in
    rw p.1 (inr (IsAt-refused name [] head_line (columns ++ (first ++ [])) all old s1 s2 at1 order front))

pub returns-in_err-put_columns-clause-text : goal.returns-in_err-put_columns-clause-text
returns-in_err-put_columns-clause-text g c =
    let p = err_from_is_err_and c.from_residual-in_err-put_columns.result c.from_residual-in_err-put_columns.ensures.1 in
    let b = c.args.board.now in
    let all = front_text b [] (c.args.first.now ∷ []) in
    let name = c.args.name.now in
    let old = g.H.Host.seen c.args.host.now in
    let columns = flat_map column_line b.columns in
    let first = first_line b c.args.first.now in
    let order : head_line ++ (columns ++ (first ++ [])) ≡ all = front_text-order b c.args.first.now in
    let s1 = g.H.Host.seen c.start.new.self in
    let at1 : IsAt name [] old s1 = record { seen = c.in_ok-start.ensures.done } in
    let s2 = g.H.Host.seen c.put.new.self in
    let at2 : IsAt name head_line old s2 = IsAt-put name [] head_line old s1 s2 at1 (c.in_ok-put.ensures.done ∙ ap (λ (t : List ℕ). written name t s1) c.head_line.ensures) in
    let columns_is : flat_map column_line c.as_slice.result.now ≡ columns = ap (flat_map column_line) c.as_slice.ensures in
    let order2 : (head_line ++ columns) ++ (first ++ []) ≡ all = append_assoc head_line columns (first ++ []) ∙ order in
    let s3 = g.H.Host.seen c.put_columns.new.host in
    let front : AddsFront (written name) columns s2 s3 = subst (λ (t : List ℕ). AddsFront (written name) t s2 s3) columns_is c.in_err-put_columns.ensures.done in
    rw p.1 (inr (IsAt-refused name head_line columns (first ++ []) all old s2 s3 at2 order2 front))

pub returns-clause-text : goal.returns-clause-text
returns-clause-text g c =
    let b = c.args.board.now in
    let all = front_text b [] (c.args.first.now ∷ []) in
    let name = c.args.name.now in
    let old = g.H.Host.seen c.args.host.now in
    let columns = flat_map column_line b.columns in
    let first = first_line b c.args.first.now in
    let order : head_line ++ (columns ++ (first ++ [])) ≡ all = front_text-order b c.args.first.now in
    let s1 = g.H.Host.seen c.start.new.self in
    let at1 : IsAt name [] old s1 = record { seen = c.in_ok-start.ensures.done } in
    let s2 = g.H.Host.seen c.put.new.self in
    let at2 : IsAt name head_line old s2 = IsAt-put name [] head_line old s1 s2 at1 (c.in_ok-put.ensures.done ∙ ap (λ (t : List ℕ). written name t s1) c.head_line.ensures) in
    let columns_is : flat_map column_line c.as_slice.result.now ≡ columns = ap (flat_map column_line) c.as_slice.ensures in
    let s3 = g.H.Host.seen c.put_columns.new.host in
    let at3 : IsAt name (head_line ++ columns) old s3 = IsAt-put name head_line columns old s2 s3 at2 (c.in_ok-put_columns.ensures.done ∙ ap (λ (t : List ℕ). written name t s2) columns_is) in
    let first_is : c.as_slice-2.result.now ≡ first = c.as_slice-2.ensures.value ∙ c.in_ok-push_first.ensures ∙ ap (λ (t : List ℕ). t ++ first) c.new-line.ensures.items in
    let order3 : (head_line ++ columns) ++ first ≡ all = append_assoc head_line columns first ∙ ap (λ (t : List ℕ). head_line ++ (columns ++ t)) (sym (append-nil first)) ∙ order in
    let s4 = g.H.Host.seen c.put-2.new.self in
    let last : Adds (written name) first c.put-2.result s3 s4 = subst (λ (t : List ℕ). Adds (written name) t c.put-2.result s3 s4) first_is c.put-2.ensures.done in
    Writes-last c.put-2.result name (head_line ++ columns) first all old s3 s4 at3 order3 last

pub returns-in_err-push_first-clause-cause : goal.returns-in_err-push_first-clause-cause
returns-in_err-push_first-clause-cause g c = HasCause-memory (g.H.Host.faults c.args.host.now) c.from_residual.result c.from_residual.ensures.1

pub returns-in_err-start-clause-cause : goal.returns-in_err-start-clause-cause
returns-in_err-start-clause-cause g c =
    HasCause-handed (g.H.Host.faults c.args.host.now) (g.H.Host.faults c.args.host.now) (g.H.Host.faults c.start.new.self) c.in_err-start.field-0.0 c.start.result c.from_residual-in_err-start.result c.in_err-start.was refl c.start.ensures.cause c.from_residual-in_err-start.ensures.1

pub returns-in_err-put-clause-cause : goal.returns-in_err-put-clause-cause
returns-in_err-put-clause-cause g c =
    HasCause-handed (g.H.Host.faults c.args.host.now) (g.H.Host.faults c.start.new.self) (g.H.Host.faults c.put.new.self) c.in_err-put.field-0.0 c.put.result c.from_residual-in_err-put.result c.in_err-put.was c.in_ok-start.ensures.cause.ok c.put.ensures.cause c.from_residual-in_err-put.ensures.1

pub returns-in_err-put_columns-clause-cause : goal.returns-in_err-put_columns-clause-cause
returns-in_err-put_columns-clause-cause g c =
    HasCause-handed (g.H.Host.faults c.args.host.now) (g.H.Host.faults c.put.new.self) (g.H.Host.faults c.put_columns.new.host) c.in_err-put_columns.field-0.0 c.put_columns.result c.from_residual-in_err-put_columns.result c.in_err-put_columns.was (c.in_ok-put.ensures.cause.ok ∙ c.in_ok-start.ensures.cause.ok) c.put_columns.ensures.cause c.from_residual-in_err-put_columns.ensures.1
