-- A history goes on at its end.
use Rattle.std.specs.Prelude.{◌≡◌, refl, List, [], ◌∷◌, ◌++◌, ℤ}
use Rattle.std.proofs.Common.{◌∙◌, ap}
use Rattle.design_ir.specs.declared.event.Event.{Event}
use Rattle.design_ir.specs.Circuits.{Circuit, State}
use Rattle.design_ir.specs.Settled.{Settled}
use Rattle.design_ir.specs.Steps.{step, first_state}
use Rattle.design_ir.specs.Histories.{HistoryFrom, History, Reaches, start, after}

-- the state and the numbers that a history from st has come to
abbrev pub Ends : Circuit → State → List Event → List (List ℤ) → State → List ℤ → Type 0
Ends c st [] (env ∷ []) last now = (last ≡ st) × (now ≡ env)
Ends c st (e ∷ es) (env ∷ envs) last now = Ends c (step c st env e) es envs last now
Ends c st [] [] last now = ⊥
Ends c st [] (env ∷ more ∷ envs) last now = ⊥
Ends c st (e ∷ es) [] last now = ⊥

pub extend : (c : Circuit) (st : State) (es : List Event) (envs : List (List ℤ)) (last : State) (now : List ℤ) (e : Event) (new : List ℤ) → HistoryFrom c st es envs → Ends c st es envs last now → Settled c (step c last now e) new → HistoryFrom c st (es ++ e ∷ []) (envs ++ new ∷ []) × Ends c st (es ++ e ∷ []) (envs ++ new ∷ []) (step c last now e) new
extend c st [] (env ∷ []) last now e new h ends s =
    let t : Settled c (step c st env e) new = rw (← ends.0, ← ends.1) s in
    ((h, t), (ap (λ x. step c x now e) ends.0 ∙ ap (λ x. step c st x e) ends.1, refl))
extend c st (d ∷ es) (env ∷ envs) last now e new h ends s =
    let r = extend c (step c st env d) es envs last now e new h.1 ends s in ((h.0, r.0), r.1)
extend c st [] [] last now e new h ends s = absurd h
extend c st [] (env ∷ more ∷ envs) last now e new h ends s = absurd h
extend c st (d ∷ es) [] last now e new h ends s = absurd h

pub history_of : (c : Circuit) (es : List Event) (last : State) (now : List ℤ) → Reaches c es last now → (envs : List (List ℤ)) × History c es envs × Ends c (first_state c) es envs last now
history_of c es last now (start env s) = (env ∷ [], s, (refl, refl))
history_of c es last now (after es' st env e env' r s) =
    let h = history_of c es' st env r in
    let x = extend c (first_state c) es' h.0 st env e env' h.1 h.2 s in
    (h.0 ++ env' ∷ [], x.0, x.1)
