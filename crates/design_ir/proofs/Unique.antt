-- A design has one history for its events where each state settles in one way.
use Rattle.std.specs.Prelude.{◌≡◌, List, [], ◌∷◌, ℤ}
use Rattle.std.proofs.Common.{◌∙◌, ap}
use Rattle.design_ir.specs.declared.event.Event.{Event}
use Rattle.design_ir.specs.Circuits.{Circuit, State}
use Rattle.design_ir.specs.Settled.{Settled}
use Rattle.design_ir.specs.Steps.{step, first_state}
use Rattle.design_ir.specs.Histories.{HistoryFrom, History}

-- no state settles in two ways
abbrev pub SettlesOnce : Circuit → Type 0
SettlesOnce c = (st : State) (env env' : List ℤ) → Settled c st env → Settled c st env' → env ≡ env'

pub history_from_unique : (c : Circuit) → SettlesOnce c → (st : State) (es : List Event) (envs envs' : List (List ℤ)) → HistoryFrom c st es envs → HistoryFrom c st es envs' → envs ≡ envs'
history_from_unique c once st [] [] envs' h k = absurd h
history_from_unique c once st [] (env ∷ more ∷ envs) envs' h k = absurd h
history_from_unique c once st [] (env ∷ []) [] h k = absurd k
history_from_unique c once st [] (env ∷ []) (env' ∷ more ∷ envs') h k = absurd k
history_from_unique c once st [] (env ∷ []) (env' ∷ []) h k = ap (λ x. x ∷ []) (once st env env' h k)
history_from_unique c once st (e ∷ es) [] envs' h k = absurd h
history_from_unique c once st (e ∷ es) (env ∷ envs) [] h k = absurd k
history_from_unique c once st (e ∷ es) (env ∷ envs) (env' ∷ envs') h k =
    let same = once st env env' h.0 k.0 in
    let rest = history_from_unique c once (step c st env e) es envs envs' h.1 (rw (← same) at k.1) in
    ap (λ x. x ∷ envs) same ∙ ap (λ x. env' ∷ x) rest

pub history_unique : (c : Circuit) → SettlesOnce c → (es : List Event) (envs envs' : List (List ℤ)) → History c es envs → History c es envs' → envs ≡ envs'
history_unique c once es envs envs' h k = history_from_unique c once (first_state c) es envs envs' h k
