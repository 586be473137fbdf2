-- What a request of a testbench comes to: `ctx` first; then what the table of shapes and values plans, of which expressions that are there are not
-- made again, and what is read by elaboration's table. Whatever else makes hardware or changes it, and raises.
-- Source: Amaranth user guide 0.5, "Simulator", testbenches; that they make and change no hardware is this project's own rule (docs/RULES.md).
use Rattle.std.specs.Prelude.{Bool, true, false, if◌then◌else◌, List, [], ◌∷◌, Option, Some, None, Result}
use Rattle.py_values.specs.declared.val.Val.{Val}
use Rattle.py_heap.specs.Heaps.{Seen}
use Rattle.py_frames.specs.declared.request.Act.{Act}
use Rattle.py_frames.specs.declared.request.Act.TheVariants as act
use Rattle.py_frames.specs.declared.request.Answer.TheVariants as answer
use Rattle.py_frames.specs.declared.request.Request.{Request}
use Rattle.py_frames.specs.declared.request.Cause.{Cause}
use Rattle.py_frames.specs.declared.request.Cause.TheVariants.{Limit}
use Rattle.design_ir.specs.Circuits.{Circuit}
use Rattle.amh_things.specs.declared.plan.Plan.{Plan}
use Rattle.amh_values.specs.Acts.{acted}
use Rattle.elab_store.specs.declared.kept.BenchPart.{BenchPart}
use Rattle.elab_store.specs.declared.kept.Kept.{Kept}
use Rattle.elab_store.specs.declared.kept.Kept.TheVariants as kept
use Rattle.elab_store.specs.Stores.{Held, Answered, kept_of}
use Rattle.elab_eval.specs.Table.{prim}
use Rattle.bench_acts.specs.declared.serving.Served.TheVariants as served
use Rattle.bench_acts.specs.Context.{Serving, serving, raises, part_asked}
use Rattle.bench_acts.specs.Sharing.{held_shared, too_many}

-- names that are imported, attributes and indices are read
abbrev pub is_read : Act → Bool
is_read act.Import = true
is_read act.Attribute = true
is_read act.Index = true
is_read a = false

-- a plan, or what is read
abbrev pub is_served : Act → Option (Result Plan Cause) → Bool
is_served a (Some plan) = true
is_served a None = is_read a

-- the answer of the table, with what is shared, unless a count is passed
abbrev pub within_count : Held → Held → Answered → Serving
within_count h shared a =
    if too_many h.pool shared.pool.exprs then serving (served.Answer (answer.Refuse Limit)) h else serving (served.Answer a.answer) shared

abbrev pub table_served : Bool → Held → Answered → Serving
table_served true h a = within_count h (held_shared h a.held) a
table_served false h a = raises h

-- the part of `ctx` that is asked
abbrev pub part_of : Option Kept → Option BenchPart
part_of (Some (kept.OfBench p)) = Some p
part_of k = None

abbrev pub asked_part : Held → List Val → Option BenchPart
asked_part h [] = None
asked_part h (v ∷ vs) = part_of (kept_of h.store v)

abbrev pub served_by : Option BenchPart → Seen → Circuit → Request → Held → Serving
served_by (Some p) s d r h = part_asked s d p r r.act h
served_by None s d r h = table_served (is_served r.act (acted s h.pool h.store.things r)) h (prim None s h r)

abbrev pub bench_served : Seen → Circuit → Request → Held → Serving
bench_served s d r h = served_by (asked_part h r.vals) s d r h
