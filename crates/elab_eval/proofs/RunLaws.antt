-- One answer more: what it brings, by what the machine promises and what the table answers.
use Rattle.std.proofs.Common.{◌≡◌, ℕ, ◌+◌, ◌-◌, ◌<◌, refl, ap, ◌∙◌, sym, subst, List, [], ◌∷◌, ◌++◌, length, Option, Some, Result, Ok, Err, inl, inr, arith, IfOk}
use Rattle.py_tree.specs.Steps.{Steps}
use Rattle.py_values.specs.declared.val.Val.{Val}
use Rattle.py_heap.specs.Heaps.{seen, nothing}
use Rattle.py_frames.specs.declared.request.Answer.{Answer}
use Rattle.py_frames.specs.declared.request.Answer.TheVariants as answer
use Rattle.py_frames.specs.declared.request.Request.{Request}
use Rattle.amh_host.specs.declared.place.Place.{Place}
use Rattle.py_frames.specs.declared.request.Cause.{Cause}
use Rattle.py_frames.specs.declared.request.Cause.TheVariants as cause
use Rattle.py_frames.specs.declared.request.Stop.{Stop}
use Rattle.py_frames.specs.declared.request.Turn.TheVariants as turn
use Rattle.py_frames.specs.declared.state.State.{State}
use Rattle.py_frames.specs.declared.state.Halt.TheVariants as halt
use Rattle.py_frames.specs.Doing.{Halts, Done}
use Rattle.py_frames.specs.Frames.{stops_as}
use Rattle.py_frames.specs.Whole.{ask_program}
use Rattle.py_machine.specs.declared.machine.Machine.{Machine}
use Rattle.py_machine.specs.declared.machine.Stage.TheVariants as stage
use Rattle.py_machine.specs.Lives.{Stands, StandsAs, IsAsked, IsEnded, IsStopped, Resumed, KeepsBudget, again}
use Rattle.elab_eval.specs.declared.running.Elaborated.{Elaborated}
use Rattle.elab_eval.specs.declared.refusal.ElabStop.{ElabStop}
use Rattle.elab_eval.specs.declared.refusal.ElabStop.TheVariants as stop
use Rattle.elab_store.specs.Stores.{Held, Answered, nothing_held}
use Rattle.elab_store.specs.Sound.{IsSound}
use Rattle.elab_eval.specs.Table.{prim}
use Rattle.elab_eval.specs.Reaches.{Reaches, begins, goes_on, world}
use Rattle.elab_eval.specs.Elaborates.{Found, Comes, design_of, without_simulation, cause_stop, stop_of, told_at, found_of, IsFound, IsElaborated}
use Rattle.elab_eval.specs.Running.{IsRunning, HasEnded, Steps_to}

nothing_sound : IsSound nothing_held
nothing_sound = record { names = tt; things = tt; kept = tt; modules = tt; components = record { names = tt; ends = tt; objects = tt }; machines = tt; domains = tt; additions = tt; clock_domains = record { each = tt; order = tt }; memories = tt; registers = tt; wrappings = tt; waits = tt }

-- before the first answer
pub begun : (program : Steps) (top : Option (List ℕ)) (budget : ℕ) (m : Machine) (h : Held) → Stands program nothing [] m → m.stage ≡ stage.Before → m.going.state.used ≡ 0 → h ≡ nothing_held → 0 < budget → IsRunning program top budget m h answer.Begin budget
begun program top budget m h stands before unused held room =
    let first : StandsAs program nothing [] m stage.Before = subst (λ st. StandsAs program nothing [] m st) before stands in record {
      given = [];
      stands = stands;
      waits = ap again before;
      taken = ap (λ (s : State). s.taken) first.3;
      reached = subst (λ k. Reaches program top budget (answer.Begin ∷ []) k) (sym held) begins;
      sound = subst IsSound (sym held) nothing_sound;
      below = omega (arith, unused, room);
      units = omega (arith, unused);
    }

-- a request is answered
pub next : (program : Steps) (top : Option (List ℕ)) (budget left rest : ℕ) (before behind : Machine) (h k : Held) (a b : Answer) (r : Request)
    → IsRunning program top budget before h a left → Resumed (again before.stage) program nothing a (turn.Asks r) before behind left
    → KeepsBudget (turn.Asks r) (before.going.state.used + left) (behind.going.state.used + rest)
    → prim top (seen nothing behind.going.state.heap) h r ≡ record { answer = b; held = k } → IsSound k
    → IsRunning program top budget behind k b rest × (behind.going.state.taken ≡ before.going.state.taken + 1)
next program top budget left rest before behind h k a b r run resumed units table sound =
    let brings : IsAsked program nothing run.given a r behind (before.going.state.used + left) =
    subst (λ o. Resumed o program nothing a (turn.Asks r) before behind left) run.waits resumed run.given run.stands in
    let asks : ask_program program (world budget (run.given ++ a ∷ [])) ≡ Halts (halt.Asks r) behind.going.state =
    subst (λ n. ask_program program (world n (run.given ++ a ∷ [])) ≡ Halts (halt.Asks r) behind.going.state) run.units brings.asks in (
      record {
        given = run.given ++ a ∷ [];
        stands = brings.stands;
        waits = brings.waits;
        taken = brings.taken;
        reached = subst (λ (x : Answered). Reaches program top budget ((run.given ++ a ∷ []) ++ x.answer ∷ []) x.held) table (goes_on (run.given ++ a ∷ []) h r behind.going.state run.reached asks);
        sound = sound;
        below = omega (arith, brings.below, run.units);
        units = omega (arith, units, run.units);
      },
      brings.taken ∙ length_more run.given a ∙ sym (ap (λ n. n + 1) run.taken),
    )
  where
    length_more : (xs : List Answer) (x : Answer) → length (xs ++ x ∷ []) ≡ length xs + 1
    length_more [] x = refl
    length_more (y ∷ xs) x = let e = length_more xs x in omega arith

-- the program ended
pub ended : (program : Steps) (top : Option (List ℕ)) (budget left rest : ℕ) (before behind : Machine) (h : Held) (a : Answer) (v : Val)
    → IsRunning program top budget before h a left → Resumed (again before.stage) program nothing a (turn.Ended v) before behind left
    → KeepsBudget (turn.Ended v) (before.going.state.used + left) (behind.going.state.used + rest)
    → HasEnded program top budget behind h rest
ended program top budget left rest before behind h a v run resumed units =
    let brings : IsEnded program nothing run.given a v behind (before.going.state.used + left) =
    subst (λ o. Resumed o program nothing a (turn.Ended v) before behind left) run.waits resumed run.given run.stands in
    record {
      given = run.given ++ a ∷ [];
      reached = run.reached;
      got = brings.ends.0;
      ends = subst (λ n. ask_program program (world n (run.given ++ a ∷ [])) ≡ Done brings.ends.0 behind.going.state) run.units brings.ends.1;
      sound = run.sound;
      below = omega (arith, brings.below, run.units);
      units = omega (arith, units, run.units);
    }

-- it stopped
pub stopped : (program : Steps) (top : Option (List ℕ)) (budget left rest : ℕ) (before behind : Machine) (h : Held) (a : Answer) (x : Stop)
    → IsRunning program top budget before h a left → Resumed (again before.stage) program nothing a (turn.Stopped x) before behind left
    → rest ≡ before.going.state.used + left - behind.going.state.used
    → Comes program top budget rest (Err (stop_of (told_at h.store.told x)))
stopped program top budget left rest before behind h a x run resumed units =
    let brings : IsStopped program run.given a x behind (before.going.state.used + left) =
    subst (λ o. Resumed o program nothing a (turn.Stopped x) before behind left) run.waits resumed run.given run.stands in
    record {
      used = behind.going.state.used;
      outcome = inr record {
        given = run.given ++ a ∷ [];
        held = h;
        reached = run.reached;
        stop = x;
        stops = subst (λ n. stops_as (ask_program program (world n (run.given ++ a ∷ []))) ≡ Some (x, behind.going.state.used)) run.units brings.stops;
        found_is = refl;
      };
      rest = units ∙ ap (λ n. n - behind.going.state.used) run.units;
    }

-- behind its end there is a design, or none
pub found : (program : Steps) (top : Option (List ℕ)) (budget left : ℕ) (m : Machine) (h : Held) (x : Result Found ElabStop) → HasEnded program top budget m h left → x ≡ design_of (without_simulation top h) m.going.state.heap → Comes program top budget left x
found program top budget left m h x e is = record {
  used = m.going.state.used;
  outcome = inl record { given = e.given; held = h; reached = e.reached; got = e.got; state = m.going.state; ends = e.ends; found_is = is; used_is = refl };
  rest = omega (arith, e.units);
}

-- how it is told where it stopped
pub told_stop : (program : Steps) (top : Option (List ℕ)) (budget rest : ℕ) (before behind : Machine) (h : Held) (x : Stop) → Comes program top budget rest (Err (stop_of x)) → Steps_to program top budget (Err (stop_of x)) before behind h rest
told_stop program top budget rest before behind h x e = by_cause x.cause x.place e
  where
    by_cause : (c : Cause) (p : Place) → Comes program top budget rest (Err (cause_stop c p)) → Steps_to program top budget (Err (cause_stop c p)) before behind h rest
    by_cause cause.Raised p e = e
    by_cause cause.Width p e = e
    by_cause cause.Limit p e = e
    by_cause cause.Assert p e = e
    by_cause cause.Spent p e = e

-- the design behind the end, or why there is none, is what the program is elaborated to
pub elaborated : (program : Steps) (top : Option (List ℕ)) (budget left : ℕ) (m : Machine) (h : Held) (r : Result Elaborated ElabStop) → HasEnded program top budget m h left → IsFound r (design_of (without_simulation top h) m.going.state.heap) → IsElaborated program top budget left r
elaborated program top budget left m h (Ok e) ended is = found program top budget left m h (Ok (found_of e)) ended (sym is)
elaborated program top budget left m h (Err (stop.Refused k p)) ended is = found program top budget left m h (Err (stop.Refused k p)) ended (sym is)
elaborated program top budget left m h (Err (stop.Spent p)) ended is = found program top budget left m h (Err (stop.Spent p)) ended (sym is)
elaborated program top budget left m h (Err stop.NoMemory) ended is = tt

-- and units are left where there is a design
pub units_left : (program : Steps) (top : Option (List ℕ)) (budget left : ℕ) (m : Machine) (h : Held) (r : Result Elaborated ElabStop) → HasEnded program top budget m h left → IfOk r (λ (e : Elaborated). 0 < left)
units_left program top budget left m h (Ok e) ended = let some : m.going.state.used < budget = ended.below in omega (arith, some, ended.units)
units_left program top budget left m h (Err stop) ended = tt
