-- Which signals have other numbers, step by step.
use Rattle.std.specs.Prelude.{◌≡◌, ◌≢◌, refl, ℕ, ◌<◌, Bool, true, false, List, length, slice_set, slice_index_or, ℤ, pos}
use Rattle.std.specs.List.{AllByRecursion}
use Rattle.std.proofs.Common.{sym, ◌∙◌, ap, subst, ⊎_elim}
use Rattle.std.proofs.lemmas.Bool.{cases_eq}
use Rattle.std.proofs.lemmas.List.{length-set, get_or-set_same, get_or-set_other}
use Rattle.design_ir.specs.Circuits.{Circuit, at}
use Rattle.sim_plans.specs.Plans.{Notes}
use Rattle.sim_plans.specs.Settling.{nobody}
use Rattle.delta_sim.specs.Standing.{Simulated, AreSignals, Tells}
use Rattle.sim_plans.specs.Waiting.{Waiting, IsWaiting}
use Rattle.sim_plans.proofs.Waits.{none_waiting, replicate_length}
use Rattle.delta_sim.proofs.Waking.{cases_int}

pub notes_none : (env : List ℤ) (was : List Bool) → Notes env env was was
notes_none env was = record { count = refl; stays = λ s h. h; notes = λ s h. absurd (h refl) }

-- one step after another
pub notes_more : (old mid new : List ℤ) (was then is : List Bool) → Notes old mid was then → Notes mid new then is → Notes old new was is
notes_more old mid new was then is first more = record {
  count = more.count ∙ first.count;
  stays = λ s h. more.stays s (first.stays s h);
  notes = λ s h. ⊎_elim (λ (e : at old s ≡ at mid s). more.notes s (λ f. h (e ∙ f))) (λ (e : at old s ≢ at mid s). more.stays s (first.notes s e)) (cases_int (at old s) (at mid s));
}

-- one signal takes another number
pub notes_one : (env : List ℤ) (s : ℕ) (v : ℤ) (was is : List Bool) → length was ≡ length env → s < length env → is ≡ slice_set was s true → Notes env (slice_set env s v) was is
notes_one env s v was is long there marks = record {
  count = ap length marks ∙ length-set was s true;
  stays = λ t h. ⊎_elim (λ (e : t ≡ s). here t e) (λ (e : t ≢ s). ap (λ xs. slice_index_or xs t false) marks ∙ get_or-set_other was s t true false e ∙ h) (cases_eq t s);
  notes = λ t h. ⊎_elim (λ (e : t ≡ s). here t e) (λ (e : t ≢ s). absurd (h (sym (get_or-set_other env s t v (pos 0) e)))) (cases_eq t s);
}
  where
    here : (t : ℕ) → t ≡ s → slice_index_or is t false ≡ true
    here t e =
        ap (λ xs. slice_index_or xs t false) marks ∙ ap (λ k. slice_index_or (slice_set was s true) k false) e
        ∙ get_or-set_same was s true false (subst (λ n. s < n) (sym long) there)

-- ---- what is told

pub signals_below : (c : Circuit) (w : Waiting) → AreSignals c w → AllByRecursion (λ s. s < length c.pool.signals) w.list
signals_below c w h = subst (λ n. AllByRecursion (λ s. s < n) w.list) h.count h.once.below

pub no_signals : (c : Circuit) (w : Waiting) (n : ℕ) → w ≡ nobody n → n ≡ length c.pool.signals → AreSignals c w
no_signals c w n e long = subst (AreSignals c) (sym e) (record { count = replicate_length false n ∙ long; once = none_waiting n })

pub tells : (c : Circuit) (old new : Simulated) (was : List Bool) → AreSignals c new.moved → Notes old.env new.env was new.moved.marks → Tells c old new
tells c old new was are notes = record {
  all = λ s h. sym (are.once.listed s) ∙ notes.notes s h;
  signals = signals_below c new.moved are;
  once = are.once;
}
