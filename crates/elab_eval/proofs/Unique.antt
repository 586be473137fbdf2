-- A program has one outcome: which answers it gets is decided, one after the other.
use Rattle.std.proofs.Common.{◌≡◌, ℕ, zero, suc, ◌+◌, ◌-◌, ◌<◌, refl, ap, ◌∙◌, sym, subst, List, [], ◌∷◌, ◌++◌, Option, Some, None, Result, Err, inl, inr, arith, is_some, true≢false}
use Rattle.std.proofs.lemmas.Bool.{cases_order}
use Rattle.py_tree.specs.Steps.{Steps}
use Rattle.py_frames.specs.declared.request.Answer.{Answer}
use Rattle.py_frames.specs.declared.request.Answer.TheVariants as answer
use Rattle.py_frames.specs.declared.request.Stop.{Stop}
use Rattle.py_frames.specs.declared.state.State.{State}
use Rattle.py_frames.specs.declared.state.Got.{Got}
use Rattle.py_frames.specs.declared.state.Halt.{Halt}
use Rattle.py_frames.specs.declared.state.Halt.TheVariants as halt
use Rattle.py_frames.specs.Doing.{Outcome, Done, Halts}
use Rattle.py_frames.specs.Frames.{stops_as}
use Rattle.py_frames.specs.Whole.{ask_program}
use Rattle.elab_eval.specs.declared.refusal.ElabStop.{ElabStop}
use Rattle.elab_store.specs.Stores.{Held, nothing_held}
use Rattle.elab_eval.specs.Reaches.{Reaches, begins, goes_on, world, answered}
use Rattle.elab_eval.specs.Elaborates.{Found, Ends, Stops, OneOutcome, design_of, without_simulation, stop_of, told_at}

-- ---- what is reached behind so many answers more than the first

Reached : Type 0
Reached = Option (List Answer × Held)

after_halt : Option (List ℕ) → Held → List Answer → Halt → State → Option (List Answer × Held)
after_halt top h given (halt.Asks r) s = Some (given ++ (answered top h r s).answer ∷ [], (answered top h r s).held)
after_halt top h given (halt.Stopped stop) s = None
after_halt top h given halt.NoMemory s = None

after : Option (List ℕ) → Held → List Answer → Outcome → Option (List Answer × Held)
after top h given (Halts x s) = after_halt top h given x s
after top h given (Done got s) = None

next : Steps → Option (List ℕ) → ℕ → Option (List Answer × Held) → Option (List Answer × Held)
next program top budget None = None
next program top budget (Some x) = after top x.1 x.0 (ask_program program (world budget x.0))

reached : Steps → Option (List ℕ) → ℕ → ℕ → Option (List Answer × Held)
reached program top budget zero = Some (answer.Begin ∷ [], nothing_held)
reached program top budget (suc n) = next program top budget (reached program top budget n)

counted : (program : Steps) (top : Option (List ℕ)) (budget : ℕ) (given : List Answer) (h : Held) → Reaches program top budget given h → (n : ℕ) × (reached program top budget n ≡ Some (given, h))
unfolding reached next after after_halt
counted program top budget given h begins = (0, refl)
counted program top budget given h (goes_on before k r s so_far asks) =
    let c = counted program top budget before k so_far in
    (suc c.0, ap (next program top budget) c.1 ∙ ap (after top k before) asks)

-- ---- nothing is reached behind an end or a stop

later : ℕ → ℕ → ℕ
later zero n = n
later (suc k) n = suc (later k n)

later_is : (k n : ℕ) → later k n ≡ k + n
unfolding later
later_is zero n = omega arith
later_is (suc k) n = let e = later_is k n in omega arith

none_later : (program : Steps) (top : Option (List ℕ)) (budget k n : ℕ) → reached program top budget n ≡ None → reached program top budget (later k n) ≡ None
unfolding later reached next
none_later program top budget zero n e = e
none_later program top budget (suc k) n e = ap (next program top budget) (none_later program top budget k n e)

none_past : (program : Steps) (top : Option (List ℕ)) (budget m n : ℕ) → n < m → reached program top budget (suc n) ≡ None → reached program top budget m ≡ None
none_past program top budget m n lt e =
    let same : later (m - suc n) (suc n) ≡ m = omega (arith, lt, later_is (m - suc n) (suc n)) in
    subst (λ i. reached program top budget i ≡ None) same (none_later program top budget (m - suc n) (suc n) e)

absurd_some : {A : Type 0} (o : Option A) (x : A) → o ≡ Some x → o ≡ None → ⊥
absurd_some o x e1 e2 = true≢false (ap is_some (sym e1 ∙ e2))

-- the answers and what is held, where nothing comes behind them
last_reached : (program : Steps) (top : Option (List ℕ)) (budget n m : ℕ) (x y : List Answer × Held) → reached program top budget n ≡ Some x → reached program top budget m ≡ Some y → reached program top budget (suc n) ≡ None → reached program top budget (suc m) ≡ None → x ≡ y
last_reached program top budget n m x y e1 e2 last1 last2 =
    elim (cases_order n m) [
      | inl same ↦ some_same x y (sym e1 ∙ ap (reached program top budget) same ∙ e2)
      | inr apart ↦ elim apart [
        | inl less ↦ absurd (absurd_some (reached program top budget m) y e2 (none_past program top budget m n less last1))
        | inr more ↦ absurd (absurd_some (reached program top budget n) x e1 (none_past program top budget n m more last2))
      ]
    ]
  where
    some_same : {A : Type 0} (a b : A) → Some a ≡ Some b → a ≡ b
    some_same a b e = cc

none_behind : (program : Steps) (top : Option (List ℕ)) (budget n : ℕ) (given : List Answer) (h : Held) (o : Outcome) → reached program top budget n ≡ Some (given, h) → ask_program program (world budget given) ≡ o → after top h given o ≡ None → reached program top budget (suc n) ≡ None
unfolding reached next
none_behind program top budget n given h o e asks none = ap (next program top budget) e ∙ ap (after top h given) asks ∙ none

-- ---- ends and stops

-- a stop is no request
none_stopped : (top : Option (List ℕ)) (h : Held) (given : List Answer) (o : Outcome) (x : Stop × ℕ) → stops_as o ≡ Some x → after top h given o ≡ None
unfolding after after_halt
none_stopped top h given (Halts (halt.Stopped stop) s) x e = refl
none_stopped top h given (Halts (halt.Asks r) s) x e = absurd (absurd_some None x e refl)
none_stopped top h given (Halts halt.NoMemory s) x e = absurd (absurd_some None x e refl)
none_stopped top h given (Done got s) x e = absurd (absurd_some None x e refl)

none_ended : (top : Option (List ℕ)) (h : Held) (given : List Answer) (got : Got) (s : State) → after top h given (Done got s) ≡ None
unfolding after
none_ended top h given got s = refl

-- an outcome is that of the last answers
two_ends : (program : Steps) (top : Option (List ℕ)) (budget : ℕ) (f g : Result Found ElabStop) (used spent : ℕ) → Ends program top budget f used → Ends program top budget g spent → (f ≡ g) × (used ≡ spent)
two_ends program top budget f g used spent a b =
    let c = counted program top budget a.given a.held a.reached in
    let d = counted program top budget b.given b.held b.reached in
    let same = last_reached program top budget c.0 d.0 (a.given, a.held) (b.given, b.held) c.1 d.1
    (none_behind program top budget c.0 a.given a.held (Done a.got a.state) c.1 a.ends (none_ended top a.held a.given a.got a.state))
    (none_behind program top budget d.0 b.given b.held (Done b.got b.state) d.1 b.ends (none_ended top b.held b.given b.got b.state)) in
    let done : Done a.got a.state ≡ Done b.got b.state = sym a.ends ∙ ap (λ (x : List Answer × Held). ask_program program (world budget x.0)) same ∙ b.ends in
    let state : a.state ≡ b.state = done_state a.got b.got a.state b.state done in
    let held : a.held ≡ b.held = ap (λ (x : List Answer × Held). x.1) same in (
      a.found_is ∙ ap (λ h. design_of (without_simulation top h) a.state.heap) held ∙ ap (λ (s : State). design_of (without_simulation top b.held) s.heap) state ∙ sym b.found_is,
      a.used_is ∙ ap (λ (s : State). s.used) state ∙ sym b.used_is,
    )
  where
    done_state : (x y : Got) (s t : State) → Done x s ≡ Done y t → s ≡ t
    done_state x y s t e = cc

two_stops : (program : Steps) (top : Option (List ℕ)) (budget : ℕ) (f g : Result Found ElabStop) (used spent : ℕ) → Stops program top budget f used → Stops program top budget g spent → (f ≡ g) × (used ≡ spent)
two_stops program top budget f g used spent a b =
    let c = counted program top budget a.given a.held a.reached in
    let d = counted program top budget b.given b.held b.reached in
    let same = last_reached program top budget c.0 d.0 (a.given, a.held) (b.given, b.held) c.1 d.1
    (none_behind program top budget c.0 a.given a.held _ c.1 refl (none_stopped top a.held a.given _ (a.stop, used) a.stops))
    (none_behind program top budget d.0 b.given b.held _ d.1 refl (none_stopped top b.held b.given _ (b.stop, spent) b.stops)) in
    let stop : (a.stop, used) ≡ (b.stop, spent) = some_pair (a.stop, used) (b.stop, spent) (sym a.stops ∙ ap (λ (x : List Answer × Held). stops_as (ask_program program (world budget x.0))) same ∙ b.stops) in
    let held : a.held ≡ b.held = ap (λ (x : List Answer × Held). x.1) same in (
      a.found_is ∙ ap (λ (x : Stop × ℕ). Err (stop_of (told_at a.held.store.told x.0))) stop ∙ ap (λ (h : Held). Err (stop_of (told_at h.store.told b.stop))) held ∙ sym b.found_is,
      ap (λ (x : Stop × ℕ). x.1) stop,
    )
  where
    some_pair : (a b : Stop × ℕ) → Some a ≡ Some b → a ≡ b
    some_pair a b e = cc

-- no program both ends and stops
end_or_stop : (program : Steps) (top : Option (List ℕ)) (budget : ℕ) (f g : Result Found ElabStop) (used spent : ℕ) → Ends program top budget f used → Stops program top budget g spent → ⊥
end_or_stop program top budget f g used spent a b =
    let c = counted program top budget a.given a.held a.reached in
    let d = counted program top budget b.given b.held b.reached in
    let same = last_reached program top budget c.0 d.0 (a.given, a.held) (b.given, b.held) c.1 d.1
    (none_behind program top budget c.0 a.given a.held (Done a.got a.state) c.1 a.ends (none_ended top a.held a.given a.got a.state))
    (none_behind program top budget d.0 b.given b.held _ d.1 refl (none_stopped top b.held b.given _ (b.stop, spent) b.stops)) in
    absurd_some (stops_as (ask_program program (world budget b.given))) (b.stop, spent) b.stops
    (ap (λ (x : List Answer × Held). stops_as (ask_program program (world budget x.0))) (sym same) ∙ ap stops_as a.ends)

pub one_outcome : OneOutcome
one_outcome program top budget f g used spent (inl a) (inl b) = two_ends program top budget f g used spent a b
one_outcome program top budget f g used spent (inr a) (inr b) = two_stops program top budget f g used spent a b
one_outcome program top budget f g used spent (inl a) (inr b) = absurd (end_or_stop program top budget f g used spent a b)
one_outcome program top budget f g used spent (inr a) (inl b) = absurd (end_or_stop program top budget g f spent used b a)
