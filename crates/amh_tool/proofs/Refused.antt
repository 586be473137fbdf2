-- The cause of a refusal that a call hands on.
use Rattle.std.specs.Prelude.{◌≡◌, ◌≤◌, ℕ, Result, Err, OnOk}
use Rattle.std.proofs.Common.{refl, sym, ap, ◌∙◌, subst, arith}
use Rattle.std.specs.Result.{IsErrAnd}
use Rattle.std.proofs.lemmas.Result.{err_from_is_err_and}
use Rattle.amh_host.specs.Causes.{HasCause, Rose}
use Rattle.amh_host.specs.declared.host.HostStop.{HostStop}
use Rattle.amh_host.specs.declared.host.HostStop.TheVariants.{NoMemory}

module _ {T : Type 0} where
  -- a refusal for want of memory, where nothing has failed
  pub HasCause-memory : (faults : ℕ) (r : Result T HostStop) → IsErrAnd r (λ e. e ≡ NoMemory) → HasCause faults faults r
  HasCause-memory faults r h =
      let p = err_from_is_err_and r h in
      let is : r ≡ Err NoMemory = p.1 ∙ ap Err p.2 in
      record {
        later = omega arith;
        failed = λ f. grind arith;
        ok = subst (λ x. OnOk x (faults ≡ faults)) (sym is) tt;
        memory = λ m. refl;
      }

  -- the refusal of a call, before which nothing had failed
  pub HasCause-handed : {U : Type 0} (before at now : ℕ) (e : HostStop) (s : Result U HostStop) (r : Result T HostStop) → s ≡ Err e → at ≡ before → HasCause at now s → IsErrAnd r (λ x. x ≡ e) → HasCause before now r
  HasCause-handed before at now e s r was same cause h =
      let p = err_from_is_err_and r h in
      let is : r ≡ Err e = p.1 ∙ ap Err p.2 in
      record {
        later = subst (λ n. n ≤ now) same cause.later;
        failed = λ f. subst (λ n. Rose n now) same (cause.failed (grind arith));
        ok = subst (λ x. OnOk x (now ≡ before)) (sym is) tt;
        memory = λ m. cause.memory (grind arith) ∙ same;
      }
