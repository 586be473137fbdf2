-- From what the parts of a run did to the clauses of the whole.
use Rattle.std.proofs.Common.{◌≡◌, ◌≢◌, ◌∙◌, ◌⊎◌, ℕ, suc, length, Bool, true, false, cond, not, ◌&&◌, ◌||◌, List, [], ◌∷◌, refl, ap, sym, subst, inl, inr}
use Rattle.std.specs.Prelude.{Option, None, Some, MatchOption, Result, Ok, Err, IfOk, OnErr}
use Rattle.std.specs.Option.{option_map, option_map_or}
use Rattle.std.specs.Str.{bytes_eq}
use Rattle.std.proofs.lemmas.Slice.Eq.{bytes_eq-Decides}
use Rattle.std.proofs.lemmas.List.{append-nil}
use Rattle.amh_host.specs.Seen.{Files, Seen, file_of, holding, with_file, with_said, with_warned}
use Rattle.amh_host.specs.Calls.{AddsFront, Adds}
use Rattle.amh_host.proofs.SeenLaws.{file_of-with_file_here, file_of-with_file_apart}
use Rattle.amh_host.specs.Written.{WritesFront, Writes}
use Rattle.design_ir.specs.declared.event.Event.{Event}
use Rattle.design_ir.specs.Circuits.{Circuit}
use Rattle.clap.specs.Words.{matches_of}
use Rattle.command_words.specs.Command.{command}
use Rattle.command_words.specs.Request.{Request, are_apart, asked, is_of_command, names_of, request_of, with_names_apart}
use Rattle.play_text.specs.Trace.{Row, End, Done as EndDone, Asserts as EndAsserts, Raises as EndRaises, PassesWidth as EndPassesWidth, PassesLimit as EndPassesLimit, Spends as EndSpends, timed}
use Rattle.amh_tool.specs.Designs.{Given, circuit_of}
use Rattle.amh_tool.specs.Plan.{Plan, plan_in, is_planned, planned, plan_of}
use Rattle.amh_tool.specs.Outcome.{Rejection, Unread, BadWords, Refuses, Spends, BadLine, Outcome, Rejects, Accepts, Verdict, Rejected, Takes, Plays, Runs, IsOutcome, IsVerdict, IsPlanned, ComesOf, end_status, rejection_status, status_of, end_said, end_warned, rejection_warned, said_of, warned_of, names, no_plan, usage_text}
use Rattle.amh_tool.specs.Headline.{Tells, IfAccepted, IsAccepted, HoldsRtlil, HoldsTrace, IsWritten, grown}
use Rattle.amh_tool.specs.Work.{Owed, Performs, Works, WorksFor, WorksUsage, Fails, FailsFor, Carries, CarriesPart, CarriesRejection, RejectionPart, AcceptedPart, CarriesRun, VerdictPart, IsFor, with_files, with_closing, ClosesFront}
use Rattle.amh_tool.specs.declared.running.Status.{Status}
use Rattle.amh_tool.specs.declared.running.Status.TheVariants.{Fault, NoMemory}

nothing_more : (o : Option (List ℕ)) → o ≡ grown [] o
nothing_more None = refl
nothing_more (Some x) = ap Some (sym (append-nil x))

-- the verdict where the files are told
found_told : (p : Plan) (v : Verdict) (told : Option Files) (files : Files) → told ≡ Some files → IsFor p v told → IsPlanned p files v
found_told p v told files e h = subst (λ (t : Option Files). IsFor p v t) e h

-- ---- the closing text

closing_files : (p : Plan) (c : Circuit) (rows : List Row) (end : End) (s : Seen) → (with_closing p c rows end s).files ≡ s.files
closing_files p c rows EndDone s = refl
closing_files p c rows (EndAsserts q) s = refl
closing_files p c rows (EndRaises q) s = refl
closing_files p c rows (EndPassesWidth q) s = refl
closing_files p c rows (EndPassesLimit q) s = refl
closing_files p c rows EndSpends s = refl

closing_said : (p : Plan) (c : Circuit) (rows : List Row) (end : End) (s : Seen) → (with_closing p c rows end s).said ≡ grown (end_said c rows end) s.said
closing_said p c rows EndDone s = refl
closing_said p c rows (EndAsserts q) s = nothing_more s.said
closing_said p c rows (EndRaises q) s = nothing_more s.said
closing_said p c rows (EndPassesWidth q) s = nothing_more s.said
closing_said p c rows (EndPassesLimit q) s = nothing_more s.said
closing_said p c rows EndSpends s = nothing_more s.said

closing_warned : (p : Plan) (c : Circuit) (rows : List Row) (end : End) (s : Seen) → (with_closing p c rows end s).warned ≡ grown (end_warned p end) s.warned
closing_warned p c rows EndDone s = nothing_more s.warned
closing_warned p c rows (EndAsserts q) s = refl
closing_warned p c rows (EndRaises q) s = refl
closing_warned p c rows (EndPassesWidth q) s = refl
closing_warned p c rows (EndPassesLimit q) s = refl
closing_warned p c rows EndSpends s = refl

closing_front : (p : Plan) (c : Circuit) (rows : List Row) (end : End) (old new : Seen) → ClosesFront p c rows end old new → new.files ≡ old.files
closing_front p c rows EndDone old new h = ap (λ x. x.files) h.changed
closing_front p c rows (EndAsserts q) old new h = ap (λ x. x.files) h.changed
closing_front p c rows (EndRaises q) old new h = ap (λ x. x.files) h.changed
closing_front p c rows (EndPassesWidth q) old new h = ap (λ x. x.files) h.changed
closing_front p c rows (EndPassesLimit q) old new h = ap (λ x. x.files) h.changed
closing_front p c rows EndSpends old new h = ap (λ x. x.files) h.changed

file_by : (q : List ℕ) (old new : Seen) → new.files ≡ old.files → file_of new q ≡ file_of old q
file_by q old new e = ap (option_map (λ f. f q)) e

-- for a plan

rejection_tells : (words : List (List ℕ)) (p : Plan) (r : Rejection) (answer : Status) (old new : Seen) → names words ≡ p → rejection_status r ≡ Some answer → new ≡ with_warned (rejection_warned p r) old → Tells words (Rejects r) answer old new
rejection_tells words p r answer old new n s h = record { status = s; said = ap (λ x. x.said) h ∙ nothing_more old.said; warned = ap (λ x. x.warned) h ∙ ap (λ q. grown (rejection_warned q r) old.warned) (sym n) }

tells_for : (words : List (List ℕ)) (p : Plan) (o : Outcome) (answer : Status) (old new : Seen) → names words ≡ p → status_of o ≡ Some answer → Carries p o old new → Tells words o answer old new
tells_for words p (Rejects Unread) answer old new n s h = absurd h
tells_for words p (Rejects BadWords) answer old new n s h = rejection_tells words p BadWords answer old new n s h
tells_for words p (Rejects (Refuses why)) answer old new n s h = rejection_tells words p (Refuses why) answer old new n s h
tells_for words p (Rejects (Spends place)) answer old new n s h = rejection_tells words p (Spends place) answer old new n s h
tells_for words p (Rejects (BadLine line)) answer old new n s h = rejection_tells words p (BadLine line) answer old new n s h
tells_for words p (Accepts c rows end) answer old new n s h = record {
  status = s;
  said = ap (λ x. x.said) h.1 ∙ closing_said p c rows end (with_files p h.0.il h.0.trace old);
  warned = ap (λ x. x.warned) h.1 ∙ closing_warned p c rows end (with_files p h.0.il h.0.trace old) ∙ ap (λ q. grown (end_warned q end) old.warned) (sym n);
}

rtlil_for : (p : Plan) (o : Outcome) (old new : Seen) (files : Files) → old.files ≡ Some files → p.il ≢ p.trace → Carries p o old new → IfAccepted o (λ c rows end. HoldsRtlil new p.il c)
rtlil_for p (Rejects r) old new files e apart h = tt
rtlil_for p (Accepts c rows end) old new files e apart h =
    let owed = h.0 in
    (owed.il, ap (λ s. file_of s p.il) h.1 ∙ file_by p.il (with_files p owed.il owed.trace old) (with_closing p c rows end (with_files p owed.il owed.trace old)) (closing_files p c rows end (with_files p owed.il owed.trace old)) ∙ file_of-with_file_apart p.trace owed.trace p.il (with_file p.il owed.il old) apart ∙ file_of-with_file_here p.il owed.il old files e, owed.stands)

trace_for : (p : Plan) (o : Outcome) (old new : Seen) (files : Files) → old.files ≡ Some files → Carries p o old new → IfAccepted o (λ c rows end. HoldsTrace new p.trace c rows end)
trace_for p (Rejects r) old new files e h = tt
trace_for p (Accepts c rows end) old new files e h =
    let owed = h.0 in
    (owed.trace, ap (λ s. file_of s p.trace) h.1 ∙ file_by p.trace (with_files p owed.il owed.trace old) (with_closing p c rows end (with_files p owed.il owed.trace old)) (closing_files p c rows end (with_files p owed.il owed.trace old)) ∙ file_of-with_file_here p.trace owed.trace (with_file p.il owed.il old) (holding p.il owed.il files) (ap (λ (o : Option Files). option_map (holding p.il owed.il) o) e), owed.is_trace)

-- where nothing is accepted no file changes
rejection_files : (p : Plan) (r : Rejection) (old new : Seen) → CarriesRejection p r old new → new.files ≡ old.files
rejection_files p Unread old new h = absurd h
rejection_files p BadWords old new h = ap (λ x. x.files) h
rejection_files p (Refuses why) old new h = ap (λ x. x.files) h
rejection_files p (Spends place) old new h = ap (λ x. x.files) h
rejection_files p (BadLine line) old new h = ap (λ x. x.files) h

rejection_part : (p : Plan) (r : Rejection) (old new : Seen) → RejectionPart p r old new → new.files ≡ old.files
rejection_part p Unread old new h = ap (λ x. x.files) h
rejection_part p BadWords old new h = ap (λ x. x.files) h.changed
rejection_part p (Refuses why) old new h = ap (λ x. x.files) h.changed
rejection_part p (Spends place) old new h = ap (λ x. x.files) h.changed
rejection_part p (BadLine line) old new h = ap (λ x. x.files) h.changed

untouched_for : (p : Plan) (v : Verdict) (o : Outcome) (old new : Seen) → (IsAccepted v → ⊥) → ComesOf v o → Carries p o old new → new.files ≡ old.files
untouched_for p (Rejected r) o old new not comes h = rejection_files p r old new (subst (λ z. Carries p z old new) comes h)
untouched_for p (Takes g task) o old new not comes h = absurd (not tt)

untouched_part : (p : Plan) (v : Verdict) (old new : Seen) → (IsAccepted v → ⊥) → VerdictPart p v old new → new.files ≡ old.files
untouched_part p (Rejected r) old new not h = rejection_part p r old new h
untouched_part p (Takes g task) old new not h = absurd (not tt)

-- a name that is neither of the two files
both_written : (p : Plan) (il trace q : List ℕ) (s : Seen) → q ≢ p.il → q ≢ p.trace → file_of (with_file p.trace trace (with_file p.il il s)) q ≡ file_of s q
both_written p il trace q s a b = file_of-with_file_apart p.trace trace q (with_file p.il il s) b ∙ file_of-with_file_apart p.il il q s a

others_for : (p : Plan) (o : Outcome) (old new : Seen) (q : List ℕ) → q ≢ p.il → q ≢ p.trace → Carries p o old new → file_of new q ≡ file_of old q
others_for p (Rejects r) old new q a b h = file_by q old new (rejection_files p r old new h)
others_for p (Accepts c rows end) old new q a b h =
    ap (λ s. file_of s q) h.1 ∙ file_by q (with_files p h.0.il h.0.trace old) (with_closing p c rows end (with_files p h.0.il h.0.trace old)) (closing_files p c rows end (with_files p h.0.il h.0.trace old)) ∙ both_written p h.0.il h.0.trace q old a b

front_apart : (name bytes q : List ℕ) (old new : Seen) → q ≢ name → WritesFront name bytes old new → file_of new q ≡ file_of old q
front_apart name bytes q old new a (inl h) = ap (λ s. file_of s q) h
front_apart name bytes q old new a (inr h) = ap (λ s. file_of s q) h.changed ∙ file_of-with_file_apart name h.front q old a

others_trace : (p : Plan) (c : Circuit) (rows : List Row) (end : End) (q : List ℕ) (old new : Seen) → q ≢ p.il → q ≢ p.trace → (owed : Owed c rows end)
    → WritesFront p.trace owed.trace (with_file p.il owed.il old) new ⊎ ClosesFront p c rows end (with_files p owed.il owed.trace old) new
    → file_of new q ≡ file_of old q
others_trace p c rows end q old new a b owed (inl h) = front_apart p.trace owed.trace q (with_file p.il owed.il old) new b h ∙ file_of-with_file_apart p.il owed.il q old a
others_trace p c rows end q old new a b owed (inr h) = file_by q (with_files p owed.il owed.trace old) new (closing_front p c rows end (with_files p owed.il owed.trace old) new h) ∙ both_written p owed.il owed.trace q old a b

others_accepted : (p : Plan) (c : Circuit) (rows : List Row) (end : End) (old new : Seen) (q : List ℕ) → q ≢ p.il → q ≢ p.trace → AcceptedPart p c rows end old new → file_of new q ≡ file_of old q
others_accepted p c rows end old new q a b (inl h) = ap (λ s. file_of s q) h
others_accepted p c rows end old new q a b (inr (inl h)) = front_apart p.il h.il q old new a h.part
others_accepted p c rows end old new q a b (inr (inr h)) = others_trace p c rows end q old new a b h.owed h.part

others_outcome : (p : Plan) (o : Outcome) (old new : Seen) (q : List ℕ) → q ≢ p.il → q ≢ p.trace → CarriesPart p o old new → file_of new q ≡ file_of old q
others_outcome p (Rejects r) old new q a b h = file_by q old new (rejection_part p r old new h)
others_outcome p (Accepts c rows end) old new q a b h = others_accepted p c rows end old new q a b h

others_run : (p : Plan) (g : Given) (old new : Seen) (q : List ℕ) → q ≢ p.il → q ≢ p.trace → CarriesRun p g old new → file_of new q ≡ file_of old q
others_run p g old new q a b (inl h) = ap (λ s. file_of s q) h
others_run p g old new q a b (inr (inl h)) = front_apart p.il h.il q old new a h.part
others_run p g old new q a b (inr (inr (inl h))) = front_apart p.trace _ q (with_file p.il h.il old) new b h.part ∙ file_of-with_file_apart p.il h.il q old a
others_run p g old new q a b (inr (inr (inr h))) = others_outcome p h.0 old new q a b h.2

others_part : (p : Plan) (v : Verdict) (old new : Seen) (q : List ℕ) → q ≢ p.il → q ≢ p.trace → VerdictPart p v old new → file_of new q ≡ file_of old q
others_part p (Rejected r) old new q a b h = file_by q old new (rejection_part p r old new h)
others_part p (Takes g (Plays rows end)) old new q a b h = others_accepted p (circuit_of g) rows end old new q a b h
others_part p (Takes g Runs) old new q a b h = others_run p g old new q a b h

-- for the words

chosen : {A : Type 0} (b : Bool) (x y : A) → cond b (Some x) None ≡ Some y → (b ≡ true) × (x ≡ y)
chosen true x y e = (refl, (cc))
chosen false x y e = absurd ((cc))

left : (a b : Bool) → (a && b) ≡ true → a ≡ true
left true b e = refl
left false b e = e

right : (a b : Bool) → (a && b) ≡ true → b ≡ true
right true b e = e
right false b e = absurd ((cc))

turned_not : (b : Bool) → not b ≡ true → b ≡ false
turned_not true e = absurd ((cc))
turned_not false e = refl

neither_first : (a b : Bool) → not (a || b) ≡ true → a ≡ false
neither_first true b e = absurd ((cc))
neither_first false b e = refl

-- of the names that a request has, the second is not the third
outputs_apart : (r : Request) → are_apart (names_of r) ≡ true → r.il ≢ r.trace
outputs_apart r h e =
    let f : bytes_eq r.il r.trace ≡ false = neither_first (bytes_eq r.il r.trace) _ (left _ _ (right _ _ h)) in
    let t : bytes_eq r.il r.trace ≡ true = (bytes_eq-Decides r.il r.trace).1 e in
    absurd (cc)

with_names_is : (b : Bool) (q r : Request) → cond b (with_names_apart q) None ≡ Some r → are_apart (names_of r) ≡ true
with_names_is true q r e = let k = chosen (are_apart (names_of q)) q r e in subst (λ (x : Request). are_apart (names_of x) ≡ true) k.1 k.0
with_names_is false q r e = absurd ((cc))

asked_apart : (words : List (List ℕ)) (r : Request) → asked words ≡ Some r → r.il ≢ r.trace
unfolding asked
asked_apart words r e = outputs_apart r (with_names_is (is_of_command words) (request_of (matches_of command words)) r e)

planned_apart : (o : Option Request) (p : Plan) → ((r : Request) → o ≡ Some r → r.il ≢ r.trace) → planned o ≡ Some p → p.il ≢ p.trace
planned_apart None p h e = absurd ((cc))
planned_apart (Some r) p h e = let k = chosen (is_planned r) (plan_in r) p e in subst (λ (q : Plan). q.il ≢ q.trace) k.1 (h r refl)

plan-apart : (words : List (List ℕ)) (p : Plan) → plan_of words ≡ Some p → p.il ≢ p.trace
plan-apart words p e = planned_apart (asked words) p (asked_apart words) e

-- what the words ask for, by their plan
abbrev IsVerdict_at : Option Plan → Files → Verdict → Type 0
IsVerdict_at op files v = MatchOption op (v ≡ Rejected BadWords) (λ p. IsPlanned p files v)

abbrev names_at : Option Plan → Plan
names_at op = option_map_or (λ p. p) op no_plan

-- the outcome that the work carried out
record OutcomeAt (op : Option Plan) (files : Files) (P : Outcome → Type 0) : Type 0 where
  found : Outcome
  verdict : Verdict
  is_verdict : IsVerdict_at op files verdict
  comes : ComesOf verdict found
  holds : P found

outcome_at : (op : Option Plan) (P : Outcome → Type 0) (answer : Status) (old new : Seen) (files : Files) → old.files ≡ Some files
    → (op ≡ None → WorksUsage answer old new → P (Rejects BadWords)) → ((p : Plan) → op ≡ Some p → (w : WorksFor p answer old new) → P w.found)
    → Works op answer old new → OutcomeAt op files P
outcome_at None P answer old new files e bad good w = record { found = Rejects BadWords; verdict = Rejected BadWords; is_verdict = refl; comes = refl; holds = bad refl w }
outcome_at (Some p) P answer old new files e bad good w = record { found = w.found; verdict = w.verdict; is_verdict = found_told p w.verdict old.files files e w.is_for; comes = w.comes; holds = good p refl w }

-- the words and the files have an outcome, of which this holds
pub record SomeOutcome (words : List (List ℕ)) (files : Files) (P : Outcome → Type 0) : Type 0 where
  pub found : Outcome
  pub is_outcome : IsOutcome words files found
  pub holds : P found

has_outcome : (words : List (List ℕ)) (P : Outcome → Type 0) (answer : Status) (old new : Seen) (files : Files) → old.files ≡ Some files
    → (plan_of words ≡ None → WorksUsage answer old new → P (Rejects BadWords)) → ((p : Plan) → plan_of words ≡ Some p → (w : WorksFor p answer old new) → P w.found)
    → Works (plan_of words) answer old new → SomeOutcome words files P
has_outcome words P answer old new files e bad good w =
    let x = outcome_at (plan_of words) P answer old new files e bad good w in
    record { found = x.found; is_outcome = record { verdict = x.verdict; is_verdict = x.is_verdict; comes = x.comes }; holds = x.holds }

pub texts : (words : List (List ℕ)) (answer : Status) (old new : Seen) (files : Files) → old.files ≡ Some files → Works (plan_of words) answer old new → SomeOutcome words files (λ o. Tells words o answer old new)
texts words answer old new files e =
    has_outcome words (λ o. Tells words o answer old new) answer old new files e
    (λ n w. record { status = ap Some (sym w.usage); said = ap (λ x. x.said) w.warned ∙ nothing_more old.said; warned = ap (λ x. x.warned) w.warned })
    (λ p n w. tells_for words p w.found answer old new (ap names_at n) w.status w.carries)

pub rtlil : (words : List (List ℕ)) (answer : Status) (old new : Seen) (files : Files) → old.files ≡ Some files → Works (plan_of words) answer old new
    → SomeOutcome words files (λ o. IfAccepted o (λ c rows end. HoldsRtlil new (names words).il c))
rtlil words answer old new files e =
    has_outcome words (λ o. IfAccepted o (λ c rows end. HoldsRtlil new (names words).il c)) answer old new files e (λ n w. tt)
    (λ p n w. subst (λ (q : Plan). IfAccepted w.found (λ c rows end. HoldsRtlil new q.il c)) (sym (ap names_at n)) (rtlil_for p w.found old new files e (plan-apart words p n) w.carries))

pub trace : (words : List (List ℕ)) (answer : Status) (old new : Seen) (files : Files) → old.files ≡ Some files → Works (plan_of words) answer old new
    → SomeOutcome words files (λ o. IfAccepted o (λ c rows end. HoldsTrace new (names words).trace c rows end))
trace words answer old new files e =
    has_outcome words (λ o. IfAccepted o (λ c rows end. HoldsTrace new (names words).trace c rows end)) answer old new files e (λ n w. tt)
    (λ p n w. subst (λ (q : Plan). IfAccepted w.found (λ c rows end. HoldsTrace new q.trace c rows end)) (sym (ap names_at n)) (trace_for p w.found old new files e w.carries))

untouched_at : (op : Option Plan) (answer : Status) (old new : Seen) (files : Files) → old.files ≡ Some files → ((v : Verdict) → IsVerdict_at op files v → IsAccepted v → ⊥) → Works op answer old new → new.files ≡ old.files
untouched_at None answer old new files e not w = ap (λ x. x.files) w.warned
untouched_at (Some p) answer old new files e not w = untouched_for p w.verdict w.found old new (not w.verdict (found_told p w.verdict old.files files e w.is_for)) w.comes w.carries

pub untouched : (words : List (List ℕ)) (answer : Status) (old new : Seen) (files : Files) → old.files ≡ Some files → ((v : Verdict) → IsVerdict words files v → IsAccepted v → ⊥) → Works (plan_of words) answer old new → new.files ≡ old.files
untouched words answer old new files e not w = untouched_at (plan_of words) answer old new files e not w

untouched_fails_at : (op : Option Plan) (old new : Seen) (files : Files) → old.files ≡ Some files → ((v : Verdict) → IsVerdict_at op files v → IsAccepted v → ⊥) → Fails op old new → new.files ≡ old.files
untouched_fails_at op old new files e not (inl h) = ap (λ x. x.files) h
untouched_fails_at None old new files e not (inr h) = ap (λ x. x.files) h.changed
untouched_fails_at (Some p) old new files e not (inr h) = untouched_part p h.0 old new (not h.0 (found_told p h.0 old.files files e h.1)) h.2

pub untouched_fails : (words : List (List ℕ)) (old new : Seen) (files : Files) → old.files ≡ Some files → ((v : Verdict) → IsVerdict words files v → IsAccepted v → ⊥) → Fails (plan_of words) old new → new.files ≡ old.files
untouched_fails words old new files e not w = untouched_fails_at (plan_of words) old new files e not w

abbrev IsWritten_at : Option Plan → List ℕ → Type 0
IsWritten_at op name = MatchOption op ⊥ (λ p. (name ≡ p.il) ⊎ (name ≡ p.trace))

others_at : (op : Option Plan) (answer : Status) (old new : Seen) (q : List ℕ) → (IsWritten_at op q → ⊥) → Works op answer old new → file_of new q ≡ file_of old q
others_at None answer old new q not w = ap (λ s. file_of s q) w.warned
others_at (Some p) answer old new q not w = others_for p w.found old new q (λ e. not (inl e)) (λ e. not (inr e)) w.carries

pub others : (words : List (List ℕ)) (answer : Status) (old new : Seen) (q : List ℕ) → (IsWritten words q → ⊥) → Works (plan_of words) answer old new → file_of new q ≡ file_of old q
others words answer old new q not w = others_at (plan_of words) answer old new q not w

others_fails_at : (op : Option Plan) (old new : Seen) (q : List ℕ) → (IsWritten_at op q → ⊥) → Fails op old new → file_of new q ≡ file_of old q
others_fails_at op old new q not (inl h) = ap (λ s. file_of s q) h
others_fails_at None old new q not (inr h) = ap (λ s. file_of s q) h.changed
others_fails_at (Some p) old new q not (inr h) = others_part p h.0 old new q (λ e. not (inl e)) (λ e. not (inr e)) h.2

pub others_fails : (words : List (List ℕ)) (old new : Seen) (q : List ℕ) → (IsWritten words q → ⊥) → Fails (plan_of words) old new → file_of new q ≡ file_of old q
others_fails words old new q not w = others_fails_at (plan_of words) old new q not w

-- a last warning changes no file
pub files_after_warning : {E : Type 0} (r : Result (Unit {0}) E) (text : List ℕ) (old new : Seen) → Adds with_warned text r old new → new.files ≡ old.files
files_after_warning (Ok x) text old new h = ap (λ s. s.files) h
files_after_warning (Err e) text old new h = ap (λ s. s.files) h.changed

pub file_of_by_files : (q : List ℕ) (old new : Seen) → new.files ≡ old.files → file_of new q ≡ file_of old q
file_of_by_files q old new e = ap (option_map (λ f. f q)) e

-- for the parts of the work

pub on_err : {T E P : Type 0} (r : Result T E) → P → OnErr r P
on_err (Ok x) p = tt
on_err (Err e) p = p

-- the plan of the code is the plan of the words
pub plan_is : {A : Type 0} (view : A → Plan) (o : Option A) (a : A) (op : Option Plan) → o ≡ Some a → option_map view o ≡ op → op ≡ Some (view a)
plan_is view o a op e h = sym h ∙ ap (option_map view) e

pub works_for : (op : Option Plan) (p : Plan) (answer : Status) (old new : Seen) → op ≡ Some p → WorksFor p answer old new → Works op answer old new
works_for op p answer old new e w = subst (λ (o : Option Plan). Works o answer old new) (sym e) w

pub fails_for : (op : Option Plan) (p : Plan) (old new : Seen) → op ≡ Some p → FailsFor p old new → Fails op old new
fails_for op p old new e w = inr (subst (λ (o : Option Plan). MatchOption o (AddsFront with_warned usage_text old new) (λ q. FailsFor q old new)) (sym e) w)

-- of a call that may be refused
pub works_if : {E : Type 0} (op : Option Plan) (p : Plan) (old new : Seen) (r : Result Status E) (P : Status → Type 0) → op ≡ Some p → ((answer : Status) → P answer → WorksFor p answer old new) → IfOk r P → IfOk r (λ answer. Works op answer old new)
works_if op p old new (Ok answer) P e f h = works_for op p answer old new e (f answer h)
works_if op p old new (Err x) P e f h = tt

pub fails_if : {T E P : Type 0} (op : Option Plan) (p : Plan) (old new : Seen) (r : Result T E) → op ≡ Some p → (P → FailsFor p old new) → OnErr r P → OnErr r (Fails op old new)
fails_if op p old new (Ok x) e f h = tt
fails_if op p old new (Err x) e f h = fails_for op p old new e (f h)

-- a verdict whose outcome was carried out
pub works_performed : (p : Plan) (v : Verdict) (o : Outcome) (answer : Status) (old mid new : Seen) → IsFor p v old.files → ComesOf v o → mid ≡ old → Performs p o answer mid new → WorksFor p answer old new
works_performed p v o answer old mid new is_for comes same h = record {
  verdict = v;
  is_for = is_for;
  found = o;
  comes = comes;
  status = h.0;
  carries = subst (λ (s : Seen). Carries p o s new) same h.1;
}

-- no outcome has these two answers

end_no_fault : (end : End) (answer : Status) → Some (end_status end) ≡ Some answer → (answer ≡ Fault) ⊎ (answer ≡ NoMemory) → ⊥
end_no_fault EndDone answer e (inl f) = cc
end_no_fault EndDone answer e (inr f) = cc
end_no_fault (EndAsserts p) answer e (inl f) = cc
end_no_fault (EndAsserts p) answer e (inr f) = cc
end_no_fault (EndRaises p) answer e (inl f) = cc
end_no_fault (EndRaises p) answer e (inr f) = cc
end_no_fault (EndPassesWidth p) answer e (inl f) = cc
end_no_fault (EndPassesWidth p) answer e (inr f) = cc
end_no_fault (EndPassesLimit p) answer e (inl f) = cc
end_no_fault (EndPassesLimit p) answer e (inr f) = cc
end_no_fault EndSpends answer e (inl f) = cc
end_no_fault EndSpends answer e (inr f) = cc

not_fault : (o : Outcome) (answer : Status) → status_of o ≡ Some answer → (answer ≡ Fault) ⊎ (answer ≡ NoMemory) → ⊥
not_fault (Rejects Unread) answer e (inl f) = cc
not_fault (Rejects Unread) answer e (inr f) = cc
not_fault (Rejects BadWords) answer e (inl f) = cc
not_fault (Rejects BadWords) answer e (inr f) = cc
not_fault (Rejects (Refuses why)) answer e (inl f) = cc
not_fault (Rejects (Refuses why)) answer e (inr f) = cc
not_fault (Rejects (Spends place)) answer e (inl f) = cc
not_fault (Rejects (Spends place)) answer e (inr f) = cc
not_fault (Rejects (BadLine line)) answer e (inl f) = cc
not_fault (Rejects (BadLine line)) answer e (inr f) = cc
not_fault (Accepts c rows end) answer e f = end_no_fault end answer e f

pub works_plain : (op : Option Plan) (answer : Status) (old new : Seen) → Works op answer old new → (answer ≡ Fault) ⊎ (answer ≡ NoMemory) → ⊥
works_plain None answer old new w f = not_fault (Rejects BadWords) answer (ap Some (sym w.usage)) f
works_plain (Some p) answer old new w f = not_fault w.found answer w.status f

-- a warning, whole or in part, is a front of its text
pub front_of_warning : {E : Type 0} (r : Result (Unit {0}) E) (text : List ℕ) (old new : Seen) → Adds with_warned text r old new → AddsFront with_warned text old new
front_of_warning (Ok x) text old new h = record { front = text; rest = []; whole = append-nil text; changed = h }
front_of_warning (Err e) text old new h = h

-- ---- counts

pub length-timed : (n : ℕ) (es : List Event) → length (timed n es) ≡ length es
length-timed n [] = refl
length-timed n (e ∷ es) = ap suc (length-timed (suc n) es)

-- ---- a file that was written

-- where the call succeeded, the file is whole
pub written_whole : {E : Type 0} (r : Result (Unit {0}) E) (name text : List ℕ) (old new : Seen) → {x : Unit {0}} → r ≡ Ok x → Writes name text r old new → new ≡ with_file name text old
written_whole {E} r name text old new e h = subst (λ (q : Result (Unit {0}) E). Writes name text q old new) e h

-- where it was refused, the file is as before or has a front
pub written_part : {E : Type 0} (r : Result (Unit {0}) E) (name text : List ℕ) (old new : Seen) → {x : E} → r ≡ Err x → Writes name text r old new → WritesFront name text old new
written_part {E} r name text old new e h = subst (λ (q : Result (Unit {0}) E). Writes name text q old new) e h

-- so was one that a call may refuse
pub works_so : {E : Type 0} (p : Plan) (v : Verdict) (o : Outcome) (old mid new : Seen) (r : Result Status E) → IsFor p v old.files → ComesOf v o → mid ≡ old → IfOk r (λ answer. Performs p o answer mid new) → IfOk r (λ answer. WorksFor p answer old new)
works_so p v o old mid new (Ok answer) is_for comes same h = works_performed p v o answer old mid new is_for comes same h
works_so p v o old mid new (Err x) is_for comes same h = tt

-- and where it was, a part of what the verdict asks for
pub fails_so : {T E : Type 0} (p : Plan) (v : Verdict) (old mid new : Seen) (r : Result T E) → IsFor p v old.files → mid ≡ old → OnErr r (VerdictPart p v mid new) → OnErr r ((new ≡ old) ⊎ FailsFor p old new)
fails_so p v old mid new (Ok x) is_for same h = tt
fails_so p v old mid new (Err x) is_for same h = inr (v, is_for, subst (λ (s : Seen). VerdictPart p v s new) same h)

-- what a plan leads to is what its words do
pub fails_of : {T E : Type 0} (op : Option Plan) (p : Plan) (old new : Seen) (r : Result T E) → op ≡ Some p → OnErr r ((new ≡ old) ⊎ FailsFor p old new) → OnErr r (Fails op old new)
fails_of op p old new (Ok x) e h = tt
fails_of op p old new (Err x) e (inl same) = inl same
fails_of op p old new (Err x) e (inr w) = fails_for op p old new e w
