-- Words and files have one outcome.
use Rattle.std.specs.Prelude.{◌≡◌, List, [], ℕ, Option, None, Some, MatchOption}
use Rattle.std.proofs.Common.{subst, sym, ◌∙◌}
use Rattle.amh_host.specs.Seen.{Files}
use Rattle.py_grammar.specs.Block_laws.{OneProgram, FrontOfFront}
use Rattle.amh_tool.specs.Plan.{Plan, plan_of}
use Rattle.play_text.specs.Trace.{Done as EndDone}
use Rattle.play_text.specs.Boards.{board_of}
use Rattle.play_text.specs.Script.{script_events}
use Rattle.elab_eval.specs.Elaborates.{OneOutcome as One_elaboration}
use Rattle.bench_run.specs.Runs.{run_of, first_point}
use Rattle.bench_run.specs.Laws.{OneRun}
use Rattle.amh_tool.specs.Designs.{Given, circuit_of, Designed, gives, refuses, spends}
use Rattle.amh_tool.specs.Outcome.{Rejects, Unread, BadWords, Refuses, Spends, Accepts, Verdict, Rejected, Takes, Plays, Runs, played, Follows, IsAsked, IsJudged, FromDesign, IsPlanned, IsVerdict, IsRunTo, ComesOf, end_of}
use Rattle.amh_tool.specs.Headline.{OneOutcome}
use Rattle.amh_tool.proofs.OneDesign.{Once, once_equal, designed_once}

match_once : {A : Type 0} (o : Option A) (none : Verdict) (P : A → Verdict → Type 0) → ((a : A) → Once (P a)) → Once (λ (v : Verdict). MatchOption o (v ≡ none) (λ a. P a v))
match_once None none P h = once_equal none
match_once (Some a) none P h = h a

follows_once : (files : Files) (name : List ℕ) (from : List ℕ → Verdict → Type 0) → ((bytes : List ℕ) → Once (from bytes)) → Once (Follows files name from)
follows_once files name from h = match_once (files name) (Rejected Unread) from h

asked_once : (script top : Option (List ℕ)) (files : Files) (g : Given) → Once (IsAsked script top files g)
asked_once (Some name) top files g =
    follows_once files name (λ script v. v ≡ played g (script_events (board_of (circuit_of g)) script)) (λ script. once_equal (played g (script_events (board_of (circuit_of g)) script)))
asked_once None (Some top) files g = once_equal (Takes g (Plays [] EndDone))
asked_once None None files g = once_equal (Takes g Runs)

judged_once : (p : Plan) (files : Files) (d : Designed) → Once (IsJudged p files d)
judged_once p files (gives g) = asked_once p.script p.top files g
judged_once p files (refuses r) = once_equal (Rejected (Refuses r))
judged_once p files (spends place) = once_equal (Rejected (Spends place))

-- ---- what comes of a verdict

runs_once : OneRun → (g : Given) → Once (IsRunTo g)
runs_once one g a b h k =
    let same = one (run_of g.program g.found) (first_point g.found g.left) h.rows k.rows h.end k.end h.runs k.runs in
    h.is ∙ (λ i. Accepts (circuit_of g) (same.0 i) (end_of (same.1 i))) ∙ sym k.is

comes_once : OneRun → (v : Verdict) → Once (ComesOf v)
comes_once one (Rejected r) = once_equal (Rejects r)
comes_once one (Takes g (Plays rows end)) = once_equal (Accepts (circuit_of g) rows end)
comes_once one (Takes g Runs) = runs_once one g

module _ (one_elaboration : One_elaboration) (one_program : OneProgram) (front_of_front : FrontOfFront) (one_run : OneRun) where
  from_design_once : (p : Plan) (files : Files) (bytes : List ℕ) → Once (FromDesign p files bytes)
  from_design_once p files bytes x y h k =
      judged_once p files k.found x y (subst (λ (d : Designed). IsJudged p files d x) (designed_once one_elaboration one_program front_of_front p bytes h.found k.found h.designed k.designed) h.judged) k.judged

  planned_once : (p : Plan) (files : Files) → Once (IsPlanned p files)
  planned_once p files = follows_once files p.design (FromDesign p files) (from_design_once p files)

  verdict_once : (words : List (List ℕ)) (files : Files) → Once (IsVerdict words files)
  verdict_once words files = match_once (plan_of words) (Rejected BadWords) (λ p. IsPlanned p files) (λ p. planned_once p files)

  pub outcome_once : OneOutcome
  outcome_once words files a b h k =
      comes_once one_run k.verdict a b (subst (λ (v : Verdict). ComesOf v a) (verdict_once words files h.verdict k.verdict h.is_verdict k.is_verdict) h.comes) k.comes
