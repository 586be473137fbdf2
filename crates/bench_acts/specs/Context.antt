-- `ctx` of a testbench, and what comes of its calls. (Amaranth user guide 0.5, "Simulator", testbenches; reference, `TestbenchContext` and
-- `TickTrigger`. Which expressions may be read and which inputs set is this project's own rule.)
use Rattle.std.specs.Prelude.{ℕ, nat_lt, ◌&&◌, Bool, true, false, if◌then◌else◌, ℤ, pos, negsuc, List, [], ◌∷◌, ◌++◌, length, slice_get, Option, Some, None, option_map, option_and_then, codes}
use Rattle.lists.specs.Texts.{text_eq}
use Rattle.design_ir.specs.declared.ids.DomainId.{DomainId}
use Rattle.design_ir.specs.declared.ids.ExprId.{ExprId}
use Rattle.design_ir.specs.declared.expr.Expr.{Expr}
use Rattle.design_ir.specs.declared.expr.Expr.TheVariants as expr
use Rattle.design_ir.specs.Circuits.{Circuit, domain_named}
use Rattle.py_values.specs.declared.val.Val.{Val}
use Rattle.py_values.specs.declared.val.Val.TheVariants as val
use Rattle.py_heap.specs.Heaps.{Seen, text_at}
use Rattle.py_frames.specs.declared.request.Act.{Act}
use Rattle.py_frames.specs.declared.request.Act.TheVariants as act
use Rattle.py_frames.specs.declared.request.Answer.{Answer}
use Rattle.py_frames.specs.declared.request.Answer.TheVariants as answer
use Rattle.py_frames.specs.declared.request.Request.{Request}
use Rattle.py_frames.specs.declared.request.Cause.TheVariants.{Raised}
use Rattle.amh_things.specs.declared.operand.Operand.{Operand}
use Rattle.amh_things.specs.declared.operand.Operand.TheVariants as operand
use Rattle.amh_things.specs.declared.thing.Reading.{Reading}
use Rattle.amh_things.specs.declared.thing.Reading.TheVariants as reading
use Rattle.amh_things.specs.declared.thing.Thing.{Thing}
use Rattle.amh_things.specs.declared.thing.Thing.TheVariants as thing
use Rattle.amh_things.specs.Things.{thing_of, held_expr}
use Rattle.amh_things.specs.Members.{counted, member_of}
use Rattle.amh_things.specs.Operands.{operand_of}
use Rattle.elab_acts.specs.Simulators.{time_meant}
use Rattle.elab_store.specs.declared.kept.BenchPart.{BenchPart}
use Rattle.elab_store.specs.declared.kept.BenchPart.TheVariants as part
use Rattle.elab_store.specs.declared.kept.Kept.TheVariants as kept
use Rattle.elab_store.specs.declared.simulation.Sample.{Sample}
use Rattle.elab_store.specs.declared.simulation.Sample.TheVariants as sample
use Rattle.elab_store.specs.declared.simulation.Tick.{Tick}
use Rattle.elab_store.specs.declared.simulation.TickEnd.{TickEnd}
use Rattle.elab_store.specs.declared.simulation.TickEnd.TheVariants as end
use Rattle.elab_store.specs.declared.simulation.Wait.{Wait}
use Rattle.elab_store.specs.declared.simulation.Wait.TheVariants as wait
use Rattle.elab_store.specs.Calls.{Called, called}
use Rattle.elab_store.specs.Simulations.{with_wait}
use Rattle.elab_store.specs.Stores.{Held, kept_given}
use Rattle.expr_index.specs.First.{has_reset}
use Rattle.bench_acts.specs.declared.targets.InputBits.{InputBits}
use Rattle.bench_acts.specs.declared.serving.Served.{Served}
use Rattle.bench_acts.specs.declared.serving.Served.TheVariants as served
use Rattle.bench_acts.specs.Targets.{input_bits}

-- what a request comes to, and what is then held
pub record Serving : Type 0 where
  pub served : Served
  pub held : Held

abbrev pub serving : Served → Held → Serving
serving x h = record { served = x; held = h }

abbrev pub raises : Held → Serving
raises h = serving (served.Answer (answer.Refuse Raised)) h

-- a new part of `ctx`
abbrev pub part_given : BenchPart → Held → Serving
part_given p h = serving (served.Answer (kept_given (kept.OfBench p) h).answer) (kept_given (kept.OfBench p) h).held

-- ---- arguments

-- the one argument of a call, which stands by its place
abbrev pub only_of : List Val → List (List ℕ) → Option Val
only_of (v ∷ []) [] = Some v
only_of vs ns = None

abbrev pub only_placed : Called → Option Val
only_placed c = only_of c.placed c.keywords

-- ---- what may be read

abbrev pub reading_of : Option Thing → Reading
reading_of (Some (thing.Numbered of e)) = reading.Numbered of
reading_of (Some (thing.View of e)) = reading.Viewed of
reading_of t = reading.Plain

-- a value by what its bits are read as, but for a view; and a number
abbrev pub value_read : Reading → ExprId → Option Sample
value_read (reading.Viewed of) e = None
value_read r e = Some (sample.Value e r)

abbrev pub operand_read : Reading → Option Operand → Option Sample
operand_read r None = None
operand_read r (Some (operand.Held e shape)) = value_read r e
operand_read r (Some (operand.Number n shape)) = Some (sample.Number n)

-- no reset may stand in it that no module holds
abbrev pub usable : Held → Option Sample → Option Sample
usable h None = None
usable h (Some (sample.Number n)) = Some (sample.Number n)
usable h (Some (sample.Value e r)) = if has_reset h.pool.exprs e.0 then None else Some (sample.Value e r)

abbrev pub read_of : Held → Val → Option Sample
read_of h v = usable h (operand_read (reading_of (thing_of h.store.things v)) (operand_of h.pool h.store.things v))

-- what a number is shown as where bits are read so: the member that has it, where there is one
abbrev pub member_or_int : Option Val → ℤ → Val
member_or_int (Some v) n = v
member_or_int None n = val.Int n

abbrev pub shown : Held → Reading → ℤ → Val
shown h (reading.Numbered of) n = member_or_int (option_map val.Hw (member_of h.store.things of n)) n
shown h r n = val.Int n

-- ---- `ctx.get(e)` and `ctx.set(x, v)`

abbrev pub got_from : Option Sample → Held → Serving
got_from (Some x) h = serving (served.Get x) h
got_from None h = raises h

abbrev pub get_called : Called → Held → Serving
get_called c h = got_from (option_and_then (read_of h) (only_placed c)) h

-- a number, a member, or a constant
abbrev pub constant_at : Option Expr → Option ℤ
constant_at (Some (expr.Const n shape)) = Some n
constant_at e = None

abbrev pub number_set : Held → Option Operand → Option ℤ
number_set h None = None
number_set h (Some (operand.Held e shape)) = constant_at (slice_get h.pool.exprs e.0)
number_set h (Some (operand.Number n shape)) = Some n

abbrev pub set_from : Option InputBits → Option ℤ → Held → Serving
set_from (Some bits) (Some n) h = serving (served.Set bits n) h
set_from bits n h = raises h

-- the value that a thing stands for
abbrev pub target_of : Held → Val → Option ExprId
target_of h (val.Hw hw) = held_expr (slice_get h.store.things hw.0)
target_of h v = None

abbrev pub set_placed : Circuit → List Val → List (List ℕ) → Held → Serving
set_placed d (x ∷ v ∷ []) [] h = set_from (option_and_then (input_bits d) (target_of h x)) (number_set h (operand_of h.pool h.store.things v)) h
set_placed d vs ns h = raises h

abbrev pub set_called : Circuit → Called → Held → Serving
set_called d c h = set_placed d c.placed c.keywords h

-- ---- what may be waited for

abbrev pub wait_given : Wait → Held → Serving
wait_given w h =
    part_given (part.Wait (length h.store.simulation.waits)) (record h { store = record h.store { simulation = with_wait w h.store.simulation } })

-- `ctx.tick(domain="sync")`, of a domain of the design
abbrev pub one_tick : ℕ → Tick
one_tick d = record { domain = record { 0 = d }; samples = []; end = end.Once }

abbrev pub tick_of : Option ℕ → Held → Serving
tick_of (Some d) h = wait_given (wait.Tick (one_tick d)) h
tick_of None h = raises h

abbrev pub domain_given : Seen → Option Val → Option (List ℕ)
domain_given s None = Some (codes "sync")
domain_given s (Some (val.Str x)) = Some (text_at s x.0)
domain_given s (Some v) = None

-- the one argument, which may be given under a name or be left out
abbrev pub one_of : List ℕ → List Val → List Val → List (List ℕ) → Option (Option Val)
one_of name [] [] ns = Some None
one_of name (v ∷ []) [] ns = Some (Some v)
one_of name [] (v ∷ []) (n ∷ []) = if text_eq n name then Some (Some v) else None
one_of name vs ws ns = None

abbrev pub one_or_none : List ℕ → Called → Option (Option Val)
one_or_none name c = one_of name c.placed c.keyword_vals c.keywords

abbrev pub tick_called : Seen → Circuit → Called → Held → Serving
tick_called s d c h = tick_of (option_and_then (domain_named d) (option_and_then (domain_given s) (one_or_none (codes "domain") c))) h

-- `ctx.delay(t)`
abbrev pub delay_of : Option ℕ → Held → Serving
delay_of (Some t) h = wait_given (wait.Delay t) h
delay_of None h = raises h

abbrev pub delay_called : Called → Held → Serving
delay_called c h = delay_of (option_and_then time_meant (only_placed c)) h

-- ---- methods of a tick that is waited for once: it stays, and a new one is made

abbrev pub ticks_at : Held → ℕ → Option Wait
ticks_at h k = slice_get h.store.simulation.waits k

abbrev pub tick_with : Option Wait → List Sample → TickEnd → Held → Serving
tick_with (Some (wait.Tick t)) more e h = wait_given (wait.Tick (record t { samples = t.samples ++ more; end = e })) h
tick_with w more e h = raises h

-- all of these, where each may be read
abbrev pub all_read : Held → List Val → Option (List Sample)
all_read h [] = Some []
all_read h (v ∷ vs) = option_and_then (λ x. option_map (λ xs. x ∷ xs) (all_read h vs)) (read_of h v)

abbrev pub sampled_more : ℕ → Option (List Sample) → Held → Serving
sampled_more k (Some more) h = tick_with (ticks_at h k) more end.Once h
sampled_more k None h = raises h

abbrev pub sample_placed : ℕ → List Val → List (List ℕ) → Held → Serving
sample_placed k vs [] h = sampled_more k (all_read h vs) h
sample_placed k vs (n ∷ ns) h = raises h

abbrev pub sample_called : ℕ → Called → Held → Serving
sample_called k c h = sample_placed k c.placed c.keywords h

abbrev pub until_from : ℕ → Option Sample → Held → Serving
until_from k (Some x) h = tick_with (ticks_at h k) [] (end.Until x) h
until_from k None h = raises h

abbrev pub until_called : ℕ → Called → Held → Serving
until_called k c h = until_from k (option_and_then (read_of h) (only_placed c)) h

-- so many ticks, at least one
abbrev pub repeat_from : ℕ → Option ℤ → Held → Serving
repeat_from k (Some (pos n)) h = if nat_lt 0 n then tick_with (ticks_at h k) [] (end.Times n) h else raises h
repeat_from k n h = raises h

abbrev pub repeat_called : ℕ → Called → Held → Serving
repeat_called k c h = repeat_from k (option_and_then (counted h.store.things) (only_placed c)) h

-- ---- calls

abbrev pub part_called : Seen → Circuit → BenchPart → Called → Held → Serving
part_called s d part.Get c h = get_called c h
part_called s d part.Set c h = set_called d c h
part_called s d part.Tick c h = tick_called s d c h
part_called s d part.Delay c h = delay_called c h
part_called s d (part.Sample k) c h = sample_called k c h
part_called s d (part.Until k) c h = until_called k c h
part_called s d (part.Repeat k) c h = repeat_called k c h
part_called s d p c h = raises h

-- ---- attributes, which are there to be called

abbrev pub call_named : List ℕ → Option BenchPart
call_named n =
    if text_eq n (codes "get") then Some part.Get
    else (if text_eq n (codes "set") then Some part.Set
    else (if text_eq n (codes "tick") then Some part.Tick
    else (if text_eq n (codes "delay") then Some part.Delay else None)))

abbrev pub method_named : ℕ → List ℕ → Option BenchPart
method_named k n =
    if text_eq n (codes "sample") then Some (part.Sample k)
    else (if text_eq n (codes "until") then Some (part.Until k)
    else (if text_eq n (codes "repeat") then Some (part.Repeat k) else None))

-- a tick that is waited for once
abbrev pub is_open_end : TickEnd → Bool
is_open_end end.Once = true
is_open_end (end.Times n) = false
is_open_end (end.Until x) = false

abbrev pub is_open_tick : Option Wait → Bool
is_open_tick (Some (wait.Tick t)) = is_open_end t.end
is_open_tick w = false

abbrev pub attribute_named : BenchPart → List ℕ → Held → Option BenchPart
attribute_named part.Context n h = call_named n
attribute_named (part.Wait k) n h = if is_open_tick (ticks_at h k) then method_named k n else None
attribute_named p n h = None

abbrev pub named_given : Option BenchPart → Held → Serving
named_given (Some p) h = part_given p h
named_given None h = raises h

abbrev pub part_attribute : BenchPart → List (List ℕ) → Held → Serving
part_attribute p (n ∷ []) h = named_given (attribute_named p n h) h
part_attribute p ns h = raises h

-- ---- `await`

abbrev pub part_awaited : BenchPart → Held → Serving
part_awaited (part.Wait k) h = serving (served.Wait k) h
part_awaited p h = raises h

-- ---- all acts

abbrev pub part_asked : Seen → Circuit → BenchPart → Request → Act → Held → Serving
part_asked s d p r act.Attribute h = part_attribute p r.names h
part_asked s d p r act.CallThing h = part_called s d p (called r.vals r.names) h
part_asked s d p r act.Await h = part_awaited p h
part_asked s d p r a h = raises h
