-- The file of a run's trace: its head, its rows and its end.
use Rattle.std.specs.Prelude.{◌≡◌, ℕ, List, [], ◌∷◌, ◌++◌, ℤ}
use Rattle.std.proofs.Common.{refl, sym, ap, ◌∙◌, subst, inl, inr}
use Rattle.std.proofs.lemmas.List.{append-nil}
use Rattle.amh_host.specs.Seen.{Seen, with_file, written}
use Rattle.amh_host.specs.Calls.{AddsFront}
use Rattle.amh_host.specs.Written.{WritesFront}
use Rattle.amh_host.proofs.SeenLaws.{IsAt, IsAt-put, IsAt-refused, AddsFront-in_file}
use Rattle.play_text.specs.declared.board.Board.{Board}
use Rattle.play_text.specs.Boards.{board_of}
use Rattle.play_text.specs.Trace.{End, end_line, row_lines, front_text, trace_text}
use Rattle.amh_tool.specs.Designs.{Given, circuit_of}
use Rattle.amh_tool.specs.Headline.{IsTrace}
use Rattle.amh_tool.specs.Outcome.{end_of, end_told}
use Rattle.amh_tool.specs.RunParts.{RowsAddedFront, RunEnds, RunWritten, RunPart}
use Rattle.amh_tool.specs.Verdicts.{IsRunFitting}
use Rattle.amh_tool.specs.declared.accept.Runs.{Runs as CodeRuns}
use Rattle.amh_tool.specs.declared.run_rows.Ending.{Ending}
use Rattle.amh_tool.proofs.RowLaws.{at_before, front_at, history_none}
use Rattle.amh_tool.proofs.TraceLaws.{front_text-rows, front_text-end}

-- the head of the trace of a run
abbrev pub head_text : CodeRuns → List ℕ
head_text r = front_text r.board [] (r.run.point.sim.env ∷ [])

head_is : (g : Given) (r : CodeRuns) → IsRunFitting g r → head_text r ≡ front_text (board_of (circuit_of g)) [] (r.run.point.sim.env ∷ [])
head_is g r fits = ap (λ (b : Board). front_text b [] (r.run.point.sim.env ∷ [])) fits.board

-- a front of it
pub head_front : (g : Given) (name : List ℕ) (r : CodeRuns) (old new : Seen) → IsRunFitting g r → WritesFront name (head_text r) old new → RunPart g name old new
head_front g name r old new fits h =
    let at = at_before g r.run fits.before fits.stands in
    inl (record {
      rows = [];
      is_front = front_at g r.run [] at;
      envs = r.run.point.sim.env ∷ [];
      is_history = history_none (circuit_of g) _ r.run.point.sim.env at.linked.reached (at.linked.one [] tt);
      part = subst (λ t. WritesFront name t old new) (head_is g r fits) h;
    })

-- all of it, and a front of the rows
pub rows_front : (g : Given) (name : List ℕ) (r : CodeRuns) (old mid new : Seen) → IsRunFitting g r → mid ≡ with_file name (head_text r) old → RowsAddedFront g name r.run.point.sim.env mid new → RunPart g name old new
rows_front g name r old mid new fits is h =
    let first = r.run.point.sim.env in
    let b = board_of (circuit_of g) in
    let whole : head_text r ++ row_lines b h.rows first h.envs ≡ front_text b h.rows (first ∷ h.envs) = ap (λ t. t ++ row_lines b h.rows first h.envs) (head_is g r fits) ∙ front_text-rows b h.rows first h.envs in
    inl (record {
      rows = h.rows;
      is_front = h.is_front;
      envs = first ∷ h.envs;
      is_history = h.is_history;
      part =
          inr (subst (λ t. AddsFront (with_file name) t old new) whole
          (AddsFront-in_file name (head_text r) old (subst (λ s. AddsFront (written name) (row_lines b h.rows first h.envs) s new) is h.part)));
    })

-- ---- all rows

-- the file is at its end, where the last line is to come
at_end : (g : Given) (name : List ℕ) (r : CodeRuns) (e : Ending) (old mid later : Seen) → IsRunFitting g r → mid ≡ with_file name (head_text r) old → (h : RunEnds g name r.run.point.sim.env e mid later)
    → IsAt name (front_text (board_of (circuit_of g)) h.rows (r.run.point.sim.env ∷ h.added.envs)) old later
at_end g name r e old mid later fits is h =
    let first = r.run.point.sim.env in
    let b = board_of (circuit_of g) in
    let lines = row_lines b h.rows first h.added.envs in
    let whole : head_text r ++ lines ≡ front_text b h.rows (first ∷ h.added.envs) = ap (λ t. t ++ lines) (head_is g r fits) ∙ front_text-rows b h.rows first h.added.envs in
    subst (λ t. IsAt name t old later) whole (IsAt-put name (head_text r) lines old mid later (record { seen = is }) h.added.added)

-- the trace of the whole run
run_trace : (g : Given) (name : List ℕ) (first : List ℤ) (e : Ending) (mid later : Seen) (h : RunEnds g name first e mid later) → IsTrace (trace_text (board_of (circuit_of g)) h.rows (first ∷ h.added.envs) (end_of h.end)) (circuit_of g) h.rows (end_of h.end)
run_trace g name first e mid later h = record { envs = first ∷ h.added.envs; is_history = h.added.is_history; is_text = refl }

last_line : (g : Given) (name : List ℕ) (first : List ℤ) (e : Ending) (mid later : Seen) (h : RunEnds g name first e mid later)
    → front_text (board_of (circuit_of g)) h.rows (first ∷ h.added.envs) ++ end_line (end_told e.stop) ≡ trace_text (board_of (circuit_of g)) h.rows (first ∷ h.added.envs) (end_of h.end)
last_line g name first e mid later h =
    ap (λ (x : End). front_text (board_of (circuit_of g)) h.rows (first ∷ h.added.envs) ++ end_line x) (sym h.ends)
    ∙ front_text-end (board_of (circuit_of g)) h.rows first h.added.envs (end_of h.end)

-- the last line was added
pub ended_written : (g : Given) (name : List ℕ) (r : CodeRuns) (e : Ending) (old mid later new : Seen) → IsRunFitting g r → mid ≡ with_file name (head_text r) old → RunEnds g name r.run.point.sim.env e mid later → new ≡ written name (end_line (end_told e.stop)) later
    → RunWritten g name e old new
ended_written g name r e old mid later new fits is h k =
    let first = r.run.point.sim.env in
    record {
      rows = h.rows;
      end = h.end;
      runs = h.runs;
      events = h.events;
      ends = h.ends;
      text = trace_text (board_of (circuit_of g)) h.rows (first ∷ h.added.envs) (end_of h.end);
      is_trace = run_trace g name first e mid later h;
      whole = (IsAt-put name _ (end_line (end_told e.stop)) old later new (at_end g name r e old mid later fits is h) k).seen ∙ ap (λ (t : List ℕ). with_file name t old) (last_line g name first e mid later h);
    }

-- a front of it was
pub ended_front : (g : Given) (name : List ℕ) (r : CodeRuns) (e : Ending) (old mid later new : Seen) → IsRunFitting g r → mid ≡ with_file name (head_text r) old → RunEnds g name r.run.point.sim.env e mid later
    → AddsFront (written name) (end_line (end_told e.stop)) later new → RunPart g name old new
ended_front g name r e old mid later new fits is h k =
    let first = r.run.point.sim.env in
    let all = trace_text (board_of (circuit_of g)) h.rows (first ∷ h.added.envs) (end_of h.end) in
    inr (record {
      rows = h.rows;
      end = h.end;
      runs = h.runs;
      text = all;
      is_trace = run_trace g name first e mid later h;
      part =
          inr (IsAt-refused name _ (end_line (end_told e.stop)) [] all old later new (at_end g name r e old mid later fits is h)
          (append-nil _ ∙ last_line g name first e mid later h) k);
    })
