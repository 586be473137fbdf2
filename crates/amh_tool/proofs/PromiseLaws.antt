-- How a run ends, and what it then promises.
use Rattle.std.proofs.Common.{◌≡◌, ◌∙◌, ◌≤◌, ℕ, List, refl, subst, inl, inr, arith}
use Rattle.std.specs.Prelude.{Result}
use Rattle.amh_host.specs.Seen.{Files, Seen, with_warned}
use Rattle.amh_host.specs.Calls.{Adds}
use Rattle.amh_host.specs.Causes.{Rose, Stood}
use Rattle.amh_tool.specs.Plan.{plan_of}
use Rattle.amh_tool.specs.Outcome.{Outcome, IsOutcome, fault_text}
use Rattle.amh_tool.specs.Headline.{OneOutcome, HasOutcome}
use Rattle.amh_tool.specs.Promises.{Promises}
use Rattle.amh_tool.specs.Work.{Works, Fails}
use Rattle.amh_tool.specs.declared.running.Status.{Status}
use Rattle.amh_tool.specs.declared.running.Status.TheVariants.{Fault, NoMemory}
use Rattle.amh_tool.proofs.RunLaws.{SomeOutcome, texts, rtlil, trace, untouched, untouched_fails, others, others_fails, files_after_warning, file_of_by_files, works_plain, front_of_warning}

-- what holds of an outcome that was found holds of every one
of_each : OneOutcome → (words : List (List ℕ)) (files : Files) (P : Outcome → Type 0) → SomeOutcome words files P → (o : Outcome) → IsOutcome words files o → P o
of_each one words files P s o is = subst P (one words files s.found o s.is_outcome is) s.holds

has_one : OneOutcome → (words : List (List ℕ)) (files : Files) (P : Outcome → Type 0) → SomeOutcome words files P → HasOutcome words files
has_one one words files P s = record { found = s.found; is_outcome = s.is_outcome; only = λ o is. one words files o s.found is s.is_outcome }

-- all that was asked for was done
pub works_promised : OneOutcome → (words : List (List ℕ)) (answer : Status) (old new : Seen) (before now : ℕ) → Works (plan_of words) answer old new → now ≡ before → Promises words answer old new before now
works_promised one words answer old new before now w stood = record {
  has = λ files e plain. has_one one words files _ (texts words answer old new files e w);
  texts = λ files e plain. of_each one words files _ (texts words answer old new files e w);
  rtlil = λ files e plain. of_each one words files _ (rtlil words answer old new files e w);
  trace = λ files e plain. of_each one words files _ (trace words answer old new files e w);
  untouched = λ files e not. untouched words answer old new files e not w;
  others = λ q not. others words answer old new q not w;
  part = λ f. absurd (works_plain (plan_of words) answer old new w (inl f));
  memory = λ f. absurd (works_plain (plan_of words) answer old new w (inr f));
  fault = λ f. absurd (works_plain (plan_of words) answer old new w (inl f));
  told = λ rose. absurd (omega (arith, rose, stood));
}

-- memory was wanting
pub memory_promised : (words : List (List ℕ)) (old new : Seen) (before now : ℕ) → Fails (plan_of words) old new → now ≡ before → Promises words NoMemory old new before now
memory_promised words old new before now f stood = record {
  has = λ files e plain. absurd (plain.memory refl);
  texts = λ files e plain. absurd (plain.memory refl);
  rtlil = λ files e plain. absurd (plain.memory refl);
  trace = λ files e plain. absurd (plain.memory refl);
  untouched = λ files e not. untouched_fails words old new files e not f;
  others = λ q not. others_fails words old new q not f;
  part = λ e. absurd (cc);
  memory = λ e. f;
  fault = λ e. absurd (cc);
  told = λ rose. absurd (omega (arith, rose, stood));
}

-- a count that rose did not stand
not_stood : (before now : ℕ) → Rose before now → Stood before now → ⊥
not_stood before now rose stood = omega (arith, rose, stood.same, stood.below)

rose_later : (before between now : ℕ) → Rose before between → between ≤ now → Rose before now
rose_later before between now rose later = omega (arith, rose, later)

-- the host failed, and then a warning was tried
pub fault_promised : {E : Type 0} (words : List (List ℕ)) (old between new : Seen) (before then now : ℕ) (r : Result (Unit {0}) E) → Fails (plan_of words) old between → Adds with_warned fault_text r between new → Rose before then → then ≤ now
    → Promises words Fault old new before now
fault_promised words old between new before then now r f warned rose later =
    let risen = rose_later before then now rose later in
    record {
      has = λ files e plain. absurd (not_stood before now risen plain.stood);
      texts = λ files e plain. absurd (not_stood before now risen plain.stood);
      rtlil = λ files e plain. absurd (not_stood before now risen plain.stood);
      trace = λ files e plain. absurd (not_stood before now risen plain.stood);
      untouched = λ files e not. files_after_warning r fault_text between new warned ∙ untouched_fails words old between files e not f;
      others = λ q not. file_of_by_files q between new (files_after_warning r fault_text between new warned) ∙ others_fails words old between q not f;
      part = λ e. record { between = between; fails = f; told = front_of_warning r fault_text between new warned };
      memory = λ e. absurd (cc);
      fault = λ e. risen;
      told = λ e. refl;
    }
