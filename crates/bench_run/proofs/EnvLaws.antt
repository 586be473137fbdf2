-- The one environment of a design behind its events, also where the design has grown by expressions.
use Rattle.std.proofs.Common.{◌≡◌, refl, sym, ◌∙◌, ap, subst, List, [], ◌∷◌, ◌++◌}
use Rattle.std.specs.Prelude.{ℤ}
use Rattle.design_ir.specs.declared.event.Event.{Event}
use Rattle.design_ir.specs.Circuits.{Circuit, State}
use Rattle.design_ir.specs.Histories.{Reaches, start, after}
use Rattle.design_ir.specs.Legal.{AllLegal, IsLegal}
use Rattle.design_ir.specs.Settled.{Settled}
use Rattle.design_ir.specs.Steps.{step, first_state}
use Rattle.design_ir.proofs.Runs.{Ends, history_of}
use Rattle.comb_graph.specs.Laws.{HasOneHistory}
use Rattle.fragment_laws.specs.Growth.{MeansTheSame}
use Rattle.play_text.specs.Trace.{Row, events_in}
use Rattle.bench_run.specs.Runs.{HasEnv}

-- a history comes to one environment
ends_once : (c : Circuit) (st : State) (es : List Event) (envs : List (List ℤ)) (s t : State) (m n : List ℤ) → Ends c st es envs s m → Ends c st es envs t n → m ≡ n
ends_once c st [] [] s t m n h k = absurd h
ends_once c st [] (env ∷ []) s t m n h k = h.1 ∙ sym k.1
ends_once c st [] (env ∷ more ∷ envs) s t m n h k = absurd h
ends_once c st (e ∷ es) [] s t m n h k = absurd h
ends_once c st (e ∷ es) (env ∷ envs) s t m n h k = ends_once c (step c st env e) es envs s t m n h k

pub one_env : (c : Circuit) (es : List Event) (st : State) (env : List ℤ) → HasOneHistory c es → Reaches c es st env → HasEnv c es env
one_env c es st env one r = record {
  state = st;
  reached = r;
  only = λ other others k.
      let a = history_of c es st env r in
      let b = history_of c es other others k in
      let same : b.0 ≡ a.0 = one.only b.0 b.1 ∙ sym (one.only a.0 a.1) in
      ends_once c (first_state c) es a.0 other st others env (subst (λ envs. Ends c (first_state c) es envs other others) same b.2) a.2;
}

-- what one design reaches the other one does
module _ (c d : Circuit) (same : MeansTheSame c d) where
  pub reaches_more : (es : List Event) (st : State) (env : List ℤ) → Reaches c es st env → Reaches d es st env
  reaches_more es st env (start env' s) =
      subst (λ (x : State). Reaches d [] x env') same.first
      (start env' (subst (λ (x : State). Settled d x env') (sym same.first) ((same.settled (first_state c) env').1 s)))
  reaches_more es st env (after es' st' env' e env'' r s) =
      subst (λ (x : State). Reaches d (es' ++ e ∷ []) x env'') (same.steps st' env' e)
      (after es' st' env' e env'' (reaches_more es' st' env' r) (subst (λ (x : State). Settled d x env'') (sym (same.steps st' env' e)) ((same.settled (step c st' env' e) env'').1 s)))

  pub reaches_before : (es : List Event) (st : State) (env : List ℤ) → Reaches d es st env → Reaches c es st env
  reaches_before es st env (start env' s) =
      subst (λ (x : State). Reaches c [] x env') (sym same.first)
      (start env' ((same.settled (first_state c) env').0 (subst (λ (x : State). Settled d x env') same.first s)))
  reaches_before es st env (after es' st' env' e env'' r s) =
      subst (λ (x : State). Reaches c (es' ++ e ∷ []) x env'') (sym (same.steps st' env' e))
      (after es' st' env' e env'' (reaches_before es' st' env' r) ((same.settled (step c st' env' e) env'').0 (subst (λ (x : State). Settled d x env'') (same.steps st' env' e) s)))

-- ---- events and rows

pub legal_more : (c : Circuit) (es : List Event) (e : Event) → AllLegal c es → IsLegal c e → AllLegal c (es ++ e ∷ [])
legal_more c [] e all is = (is, tt)
legal_more c (d ∷ es) e all is = (all.0, legal_more c es e all.1 is)

pub events_more : (rows : List Row) (r : Row) → events_in (rows ++ r ∷ []) ≡ events_in rows ++ r.event ∷ []
events_more [] r = refl
events_more (x ∷ rows) r = ap (λ es. x.event ∷ es) (events_more rows r)
