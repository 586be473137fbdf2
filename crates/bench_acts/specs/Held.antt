-- What the code of this crate holds, as the definitions see it.
use Rattle.std.specs.Prelude.{◌≡◌, ◌≤◌, length, Bool, true, false, Result, Ok, Err, Option, Some, None, ⊤}
use Rattle.py_frames.specs.declared.request.Answer.{Answer}
use Rattle.py_frames.specs.declared.request.Answer.TheVariants as answer
use Rattle.lists.specs.declared.items.NoMemory.{NoMemory}
use Rattle.design_ir.specs.declared.expr.Expr.{Expr}
use Rattle.design_ir.specs.Pools.{Pooled}
use Rattle.design_ir.specs.PoolRules.{IsAskable, shape_stop, bad_operand, greatest_width}
use Rattle.design_ir.specs.Values.{form}
use Rattle.elab_store.specs.Held.{held_of}
use Rattle.elab_store.specs.Stores.{Held, Answered}
use Rattle.elab_store.specs.Sound.{IsSound}
use Rattle.expr_index.specs.Knows.{Knows}
use Rattle.bench_acts.specs.declared.serving.Bench.{Bench}
use Rattle.bench_acts.specs.declared.serving.Served.{Served}
use Rattle.bench_acts.specs.declared.serving.Served.TheVariants as served
use Rattle.bench_acts.specs.declared.sharing.ShareStop.{ShareStop}
use Rattle.bench_acts.specs.declared.sharing.ShareStop.TheVariants as stop
use Rattle.bench_acts.specs.Context.{Serving}
use Rattle.bench_acts.specs.Sharing.{IsBehind, held_shared}

-- the design has the pool of what is held, which is sound, and its expressions are known and not too many
pub record IsBench (b : Bench) : Type 0 where
  pub pool : b.held.pool ≡ b.design.pool
  pub few : length b.design.pool.exprs ≤ 262144
  pub sound : IsSound (held_of b.held)
  pub known : Knows b.known b.design.pool.exprs

-- an act gives what it owes, and the design gets no more than what is held; want of memory may come at any time
abbrev pub Serves : Result Served NoMemory → Bench → Bench → Serving → Type 0
Serves (Ok s) before behind owed = (owed.served ≡ s) × (owed.held ≡ held_of behind.held) × (behind.design ≡ record (before.design) { pool = owed.held.pool })
Serves (Err e) before behind owed = ⊤

-- a refusal ends the run, and nothing looks at what is held behind it
abbrev pub GoesOn : Served → Type 0 → Type 0
GoesOn (served.Answer (answer.Refuse why)) t = ⊤
GoesOn s t = t

-- an act gives what it owes; where the run goes on, the design gets no more than what is held, which is still sound
abbrev pub ServesOn : Result Served NoMemory → Bench → Bench → Serving → Type 0
ServesOn (Ok s) before behind owed = (owed.served ≡ s) × GoesOn s ((owed.held ≡ held_of behind.held) × (behind.design ≡ record (before.design) { pool = owed.held.pool }) × IsBench behind)
ServesOn (Err e) before behind owed = ⊤

-- too many expressions exactly where there are; want of memory may come at any time
abbrev pub IsShareStop : ShareStop → Type 0 → Type 0
IsShareStop stop.Limit many = many
IsShareStop stop.NoMemory many = ⊤

-- an expression that may stand behind those of a pool, but for their count
pub record MayCome (p : Pooled) (e : Expr) : Type 0 where
  pub askable : IsAskable p e
  pub shaped : shape_stop (bad_operand (form p) e) (greatest_width p.signals (form p) e) ≡ None

-- an answer, with what is then held, which stays sound where its expressions are shared; or none
abbrev pub IsActed : Bool → Option Answer → Held → Held → Answered → Type 0
IsActed on (Some a) before behind owed = (on ≡ true) × (owed ≡ record { answer = a; held = behind }) × IsBehind before.pool behind × IsSound (held_shared before behind)
IsActed on None before behind owed = on ≡ false
