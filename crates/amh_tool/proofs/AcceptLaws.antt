-- From what was read to the outcome of a plan.
use Rattle.std.proofs.Common.{◌≡◌, ◌∙◌, ◌<◌, ◌-◌, ℕ, zero, suc, min, Bool, true, false, List, [], ◌∷◌, length, length-append, take, refl, ap, sym, subst, arith}
use Rattle.std.specs.Prelude.{Option, None, Some, IfSome, MatchOption, Vec, Ok, nat_lt, if◌then◌else◌}
use Rattle.std.proofs.lemmas.Bool.{ltb-true, ltb-false}
use Rattle.std.proofs.lemmas.List.{take_min}
use Rattle.std.specs.declared.alloc.Global.{Global}
use Rattle.amh_host.specs.Seen.{Files}
use Rattle.amh_host.specs.Whole.{ReadsWhole, IsWhole}
use Rattle.amh_host.specs.declared.whole.Whole.TheVariants.{Bytes, TooLong}
use Rattle.amh_host.specs.declared.place.Place.{Place}
use Rattle.amh_host.specs.declared.place.Kind.TheVariants.{Limit}
use Rattle.amh_tool.specs.declared.refusal.Refusal.{Refusal}
use Rattle.amh_tool.specs.Plan.{Plan}
use Rattle.amh_tool.specs.Designs.{Given, circuit_of, Designed, gives, refuses, spends, IsDesigned, refusal, line_start}
use Rattle.play_text.specs.Boards.{board_of}
use Rattle.play_text.specs.Trace.{Done as EndDone, Spends as EndSpends, timed}
use Rattle.play_text.specs.Script.{script_events}
use Rattle.play_text.specs.ScriptGives.{SaysAs, ReadsScript}
use Rattle.amh_tool.proofs.ScriptFronts.{script_events-front}
use Rattle.amh_tool.proofs.DesignLaws.{IsDesigned-long}
use Rattle.amh_tool.specs.Outcome.{Unread, Refuses, Spends, BadLine, Verdict, Rejected, Takes, Plays, Runs, FromDesign, IsAsked, IsJudged, IsPlanned, rows_within, end_within, played}
use Rattle.amh_tool.specs.DesignGives.{given_seen}
use Rattle.amh_tool.specs.Verdicts.{IsFitting, IsFoundAs, IsRunFitting, ending_of, rejection_seen, rows_of}
use Rattle.amh_tool.specs.declared.accept.Accepted.{Accepted}
use Rattle.amh_tool.specs.declared.accept.Runs.{Runs as CodeRuns}
use Rattle.amh_tool.specs.declared.accept.Verdict.{Verdict as CodeVerdict}
use Rattle.amh_tool.specs.declared.accept.Verdict.TheVariants as verdict
use Rattle.amh_tool.specs.declared.design_text.Ranked.{Ranked}
use Rattle.amh_tool.proofs.RunLaws.{length-timed}
use Rattle.design_ir.specs.Circuits.{Circuit}
use Rattle.design_ir.specs.Legal.{AllLegal}
use Rattle.design_ir.specs.declared.event.Event.{Event}

-- what follows from the verdict
pub found_as : (P Q : Verdict → Type 0) (v : CodeVerdict) → ((x : Verdict) → P x → Q x) → IsFoundAs P v → IsFoundAs Q v
found_as P Q (verdict.Rejected r) f h = f (Rejected (rejection_seen r)) h
found_as P Q (verdict.Accepted a) f h = (h.0, f (Takes (given_seen a.ranked) (Plays (rows_of a) (ending_of a))) h.1)
found_as P Q (verdict.Runs r) f h = (h.0, h.1, f (Takes h.0 Runs) h.2)

-- a front that is too long is of a file that is
past_limit : (file : List ℕ) (limit : ℕ) (v : Vec ℕ Global) → IsWhole file limit (TooLong v) → limit < length file
past_limit file limit v h = omega (arith, ap length h.0.whole, length-append v.items h.0.rest, h.1)

long_at : (p : Plan) (files : Files) (v : Vec ℕ Global) (o : Option (List ℕ)) → MatchOption o ⊥ (λ file. IsWhole file 1_048_576 (TooLong v))
    → MatchOption o (Rejected (Refuses (refusal Limit (line_start 1))) ≡ Rejected Unread) (λ file. FromDesign p files file (Rejected (Refuses (refusal Limit (line_start 1)))))
long_at p files v None h = absurd h
long_at p files v (Some file) h =
    record { found = refuses (refusal Limit (line_start 1)); designed = IsDesigned-long p file (past_limit file 1_048_576 v h); judged = refl }

-- a design file that is too long is refused
pub too_long : (p : Plan) (told : Option Files) (v : Vec ℕ Global) → ReadsWhole told p.design 1_048_576 (TooLong v) → IfSome told (λ files. IsPlanned p files (Rejected (Refuses (refusal Limit (line_start 1)))))
too_long p None v h = tt
too_long p (Some files) v h = long_at p files v (files p.design) h

short_at : (p : Plan) (files : Files) (v : Vec ℕ Global) (found : Designed) (x : Verdict) (o : Option (List ℕ)) → MatchOption o ⊥ (λ file. IsWhole file 1_048_576 (Bytes v)) → IsDesigned p v.items found → IsJudged p files found x
    → MatchOption o (x ≡ Rejected Unread) (λ file. FromDesign p files file x)
short_at p files v found x None h d j = absurd h
short_at p files v found x (Some file) h d j = record { found = found; designed = subst (λ (bytes : List ℕ). IsDesigned p bytes found) h.0 d; judged = j }

-- what the design leads to is what the plan leads to
pub read_design_of : (p : Plan) (told : Option Files) (v : Vec ℕ Global) (found : Designed) (x : Verdict) → ReadsWhole told p.design 1_048_576 (Bytes v) → IsDesigned p v.items found → IfSome told (λ files. IsJudged p files found x)
    → IfSome told (λ files. IsPlanned p files x)
read_design_of p None v found x h d j = tt
read_design_of p (Some files) v found x h d j = short_at p files v found x (files p.design) h d j

-- a refused design needs no script
pub refused_at_once : (p : Plan) (told : Option Files) (why : Refusal) → IfSome told (λ files. IsJudged p files (refuses why) (Rejected (Refuses why)))
refused_at_once p None why = tt
refused_at_once p (Some files) why = refl

-- nor does one whose budget is spent
pub spent_at_once : (p : Plan) (told : Option Files) (place : Place) → IfSome told (λ files. IsJudged p files (spends place) (Rejected (Spends place)))
spent_at_once p None place = tt
spent_at_once p (Some files) place = refl

-- what the script leads to is what the design leads to
pub read_script_of : (name : List ℕ) (top : Option (List ℕ)) (told : Option Files) (g : Given) (bytes : List ℕ) (x : Verdict) → ReadsScript told name bytes → x ≡ played g (script_events (board_of (circuit_of g)) bytes)
    → IfSome told (λ files. IsAsked (Some name) top files g x)
read_script_of name top None g bytes x h e = tt
read_script_of name top (Some files) g bytes x h e = held (files name) h
  where
    held : (o : Option (List ℕ)) → MatchOption o ⊥ (λ file. SaysAs file bytes) → MatchOption o (x ≡ Rejected Unread) (λ script. x ≡ played g (script_events (board_of (circuit_of g)) script))
    held None h = absurd h
    held (Some file) h = e ∙ ap (played g) (sym (h (board_of (circuit_of g))))

-- without a script it is known from the words what is asked
pub unplayed_found : (p : Plan) (told : Option Files) (g : Given) (v : CodeVerdict) → p.script ≡ None → ((files : Files) → IsFoundAs (IsAsked None p.top files g) v) → IsFoundAs (λ x. IfSome told (λ files. IsJudged p files (gives g) x)) v
unplayed_found p None g v e h = found_as (IsAsked None p.top (λ name. None) g) (λ x. Unit {0}) v (λ x k. tt) (h (λ name. None))
unplayed_found p (Some files) g v e h = found_as (IsAsked None p.top files g) (λ x. IsJudged p files (gives g) x) v (λ x k. subst (λ s. IsAsked s p.top files g x) (sym e) k) (h files)

-- under a top that the words name there are no events
pub events_found : (top : Option (List ℕ)) (name : List ℕ) (files : Files) (r : Ranked) (a : Accepted) → top ≡ Some name → IsFitting a → a.ranked ≡ r → a.events ≡ [] → a.within ≡ 0
    → IsFoundAs (IsAsked None top files (given_seen r)) (verdict.Accepted a)
events_found top name files r a e fits ranked events within = (
  fits,
  subst (λ t. IsAsked None t files (given_seen r) (Takes (given_seen a.ranked) (Plays (rows_of a) (ending_of a)))) (sym e)
      (λ i. Takes (given_seen (ranked i)) (Plays (timed 1 (take (within i) (events i))) (if nat_lt (within i) (length (events i)) then EndSpends else EndDone))),
)

-- under none the file's simulator runs
pub runs_found : (top : Option (List ℕ)) (files : Files) (g : Given) (r : CodeRuns) → top ≡ None → IsRunFitting g r → IsFoundAs (IsAsked None top files g) (verdict.Runs r)
runs_found top files g r e fits = (g, fits, subst (λ t. IsAsked None t files g (Takes g Runs)) (sym e) refl)

-- the script of the plan
pub played_of : (p : Plan) (told : Option Files) (name : List ℕ) (g : Given) (x : Verdict) → p.script ≡ Some name → IfSome told (λ files. IsAsked (Some name) p.top files g x) → IfSome told (λ files. IsJudged p files (gives g) x)
played_of p None name g x e h = tt
played_of p (Some files) name g x e h = subst (λ s. IsAsked s p.top files g x) (sym e) h

-- a whole script says what it says
pub whole_script : (told : Option Files) (name : List ℕ) (limit : ℕ) (v : Vec ℕ Global) → ReadsWhole told name limit (Bytes v) → ReadsScript told name v.items
whole_script None name limit v h = tt
whole_script (Some files) name limit v h = held (files name) h
  where
    held : (o : Option (List ℕ)) → MatchOption o ⊥ (λ file. IsWhole file limit (Bytes v)) → MatchOption o ⊥ (λ file. SaysAs file v.items)
    held None h = h
    held (Some file) h = λ b. ap (script_events b) (sym h.0)

-- a front that passes the most bytes says what the script says
pub front_of_script : (told : Option Files) (name : List ℕ) (v : Vec ℕ Global) → ReadsWhole told name 16_777_216 (TooLong v) → ReadsScript told name v.items
front_of_script None name v h = tt
front_of_script (Some files) name v h = held (files name) h
  where
    held : (o : Option (List ℕ)) → MatchOption o ⊥ (λ file. IsWhole file 16_777_216 (TooLong v)) → MatchOption o ⊥ (λ file. SaysAs file v.items)
    held None h = h
    held (Some file) h = λ b. ap (script_events b) (sym h.0.whole) ∙ script_events-front b v.items h.0.rest h.1

-- ---- the events of a script for which units are left

timed-take : (n k : ℕ) (es : List Event) → timed n (take k es) ≡ take k (timed n es)
timed-take n zero [] = refl
timed-take n zero (e ∷ es) = refl
timed-take n (suc k) [] = refl
timed-take n (suc k) (e ∷ es) = ap (λ rs. record { time = n; event = e } ∷ rs) (timed-take (suc n) k es)

rows_taken : (left within : ℕ) (es : List Event) → within ≡ min (left - 1) (length es) → timed 1 (take within es) ≡ rows_within left (timed 1 es)
rows_taken left within es is =
    timed-take 1 within es ∙ ap (λ n. take n (timed 1 es)) (is ∙ ap (λ n. min (left - 1) n) (sym (length-timed 1 es))) ∙ take_min (left - 1) (timed 1 es)

end_taken : (left within : ℕ) (es : List Event) → 0 < left → within ≡ min (left - 1) (length es) → (if nat_lt within (length es) then EndSpends else EndDone) ≡ end_within left (timed 1 es)
end_taken left within es some is =
    here (nat_lt within (length es)) (nat_lt (length (timed 1 es)) left) refl refl
  where
    here : (a b : Bool) → nat_lt within (length es) ≡ a → nat_lt (length (timed 1 es)) left ≡ b → (if a then EndSpends else EndDone) ≡ (if b then EndDone else EndSpends)
    here true true p q = absurd (omega (arith, some, is, length-timed 1 es, ltb-true within (length es) p, ltb-true (length (timed 1 es)) left q))
    here true false p q = refl
    here false true p q = refl
    here false false p q = absurd (omega (arith, some, is, length-timed 1 es, ltb-false within (length es) p, ltb-false (length (timed 1 es)) left q))

-- what the script asks for
pub played_within : (g : Given) (es : List Event) (within : ℕ) → 0 < g.left → within ≡ min (g.left - 1) (length es)
    → Takes g (Plays (timed 1 (take within es)) (if nat_lt within (length es) then EndSpends else EndDone)) ≡ played g (Ok es)
played_within g es within some is = λ i. Takes g (Plays (rows_taken g.left within es is i) (end_taken g.left within es some is i))

pub legal-take : (c : Circuit) (k : ℕ) (es : List Event) → AllLegal c es → AllLegal c (take k es)
legal-take c zero [] h = tt
legal-take c zero (e ∷ es) h = tt
legal-take c (suc k) [] h = tt
legal-take c (suc k) (e ∷ es) h = (h.0, legal-take c k es h.1)
