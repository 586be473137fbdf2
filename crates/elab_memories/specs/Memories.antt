-- `Memory(*, shape, depth, init=())`. (Amaranth standard library reference 0.5, "Memory arrays": the rows are of a shape, there are `depth` of them, and
-- the first ones are given. That a row is an integer or a member of an enumeration, which is wrapped to the shape, and which refusal is told, is this
-- project's own rule.)
use Rattle.std.specs.Prelude.{ℕ, nat_le, nat_lt, if◌then◌else◌, List, [], ◌∷◌, length, map, ℤ, pos, negsuc, Option, Some, None, option_and_then, Result, Ok, Err, codes}
use Rattle.lists.specs.Texts.{text_eq}
use Rattle.amh_bits.specs.Patterns.{wrap}
use Rattle.shape_rules.specs.Forms.{Form}
use Rattle.py_values.specs.declared.val.Val.{Val}
use Rattle.py_values.specs.declared.val.Val.TheVariants as val
use Rattle.py_values.specs.declared.val.ValueStop.{ValueStop}
use Rattle.py_values.specs.declared.val.ValueStop.TheVariants as stop
use Rattle.py_heap.specs.Heaps.{Seen}
use Rattle.py_operators.specs.Elements.{elements}
use Rattle.py_frames.specs.declared.request.Cause.{Cause}
use Rattle.py_frames.specs.declared.request.Cause.TheVariants.{Raised, Limit}
use Rattle.amh_things.specs.declared.thing.Thing.{Thing}
use Rattle.amh_things.specs.Members.{counted}
use Rattle.design_ir.specs.declared.memory.Memory.{Memory}
use Rattle.memory_ports.specs.declared.refusal.MemStop.{MemStop}
use Rattle.memory_ports.specs.Calls.{new_refusal, new_memory}
use Rattle.elab_store.specs.declared.kept.Kept.TheVariants as kept
use Rattle.elab_store.specs.declared.memories.OwnMemory.{OwnMemory}
use Rattle.elab_store.specs.declared.shapes.Shaped.{Shaped}
use Rattle.elab_store.specs.Calls.{Called}
use Rattle.elab_store.specs.Shapes.{shaped_meant}
use Rattle.elab_store.specs.Stores.{Held, Answered, refused, kept_given, store_with_memory}
use Rattle.elab_memories.specs.declared.memories.MemoryArguments.{MemoryArguments}

-- ---- the arguments

abbrev pub no_arguments : MemoryArguments
no_arguments = record { shape = None; depth = None; init = None }

-- an argument is given once
abbrev pub once : Option Val → MemoryArguments → Option MemoryArguments
once None args = Some args
once (Some v) args = None

abbrev pub with_keyword : List ℕ → Val → MemoryArguments → Option MemoryArguments
with_keyword n v args =
    if text_eq n (codes "shape") then once args.shape (record args { shape = Some v })
    else (if text_eq n (codes "depth") then once args.depth (record args { depth = Some v })
    else (if text_eq n (codes "init") then once args.init (record args { init = Some v }) else None))

abbrev pub with_keywords : List (List ℕ) → List Val → MemoryArguments → Option MemoryArguments
with_keywords [] vs args = Some args
with_keywords (n ∷ ns) [] args = None
with_keywords (n ∷ ns) (v ∷ vs) args = option_and_then (with_keywords ns vs) (with_keyword n v args)

-- nothing is given by its place
abbrev pub arguments_behind : List Val → List (List ℕ) → List Val → Option MemoryArguments
arguments_behind [] ns vs = with_keywords ns vs no_arguments
arguments_behind (v ∷ placed) ns vs = None

abbrev pub memory_arguments : Called → Option MemoryArguments
memory_arguments c = arguments_behind c.placed c.keywords c.keyword_vals

-- ---- what they say

abbrev pub size_given : ℤ → Option ℕ
size_given (pos n) = Some n
size_given (negsuc n) = None

abbrev pub int_given : Val → Option ℤ
int_given (val.Int n) = Some n
int_given v = None

-- an integer from 0, which no boolean is
abbrev pub depth_given : Option Val → Option ℕ
depth_given None = None
depth_given (Some v) = option_and_then size_given (int_given v)

abbrev pub shape_given : Seen → Held → Option Val → Result Shaped Cause
shape_given s h None = Err Raised
shape_given s h (Some v) = shaped_meant s h.store.things v

abbrev pub and_item : {A : Type 0} → Option A → Option (List A) → Option (List A)
and_item (Some x) (Some xs) = Some (x ∷ xs)
and_item None xs = None
and_item (Some x) None = None

-- what each of them stands for, where all stand for something
abbrev pub all_given : {A B : Type 0} → (A → Option B) → List A → Option (List B)
all_given f [] = Some []
all_given f (x ∷ xs) = and_item (f x) (all_given f xs)

-- the integers of all rows
abbrev pub all_counted : List Thing → List Val → Option (List ℤ)
all_counted things vs = all_given (counted things) vs

abbrev pub counted_rows : Option (List ℤ) → Result (List ℤ) Cause
counted_rows (Some ns) = Ok ns
counted_rows None = Err Raised

-- a range that stands for no list has too many elements for one
abbrev pub listed_rows : List Thing → Result (List Val) ValueStop → Result (List ℤ) Cause
listed_rows things (Ok vs) = counted_rows (all_counted things vs)
listed_rows things (Err stop.Limit) = Err Limit
listed_rows things (Err why) = Err Raised

-- those of a list, a tuple or a range; without them there are none
abbrev pub rows_given : Seen → List Thing → Option Val → Result (List ℤ) Cause
rows_given s things None = Ok []
rows_given s things (Some (val.List o)) = listed_rows things (elements s (val.List o))
rows_given s things (Some (val.Tuple o)) = listed_rows things (elements s (val.Tuple o))
rows_given s things (Some (val.Range o)) = listed_rows things (elements s (val.Range o))
rows_given s things (Some v) = Err Raised

-- ---- the memory

abbrev pub with_memory : OwnMemory → Held → Held
with_memory x h = record h { store = store_with_memory x h.store }

abbrev pub wrapped_rows : Form → List ℤ → List ℤ
wrapped_rows f ns = map (wrap f.signed f.width) ns

-- the rows that are given, wrapped to the shape
abbrev pub memory_of_rows : Shaped → ℕ → List ℤ → OwnMemory
memory_of_rows x depth ns = record { spec = new_memory x.form depth (wrapped_rows x.form ns); reading = x.reading }

-- for the code: the memory, where no count is passed
abbrev pub spec_where : Option MemStop → Form → ℕ → List ℤ → Option Memory
spec_where None f depth ns = Some (new_memory f depth (wrapped_rows f ns))
spec_where (Some why) f depth ns = None

abbrev pub memory_made : Option MemStop → OwnMemory → Held → Answered
memory_made None x h = kept_given (kept.Memory (length h.store.memories)) (with_memory x h)
memory_made (Some why) x h = refused Limit h

abbrev pub memory_shaped : ℕ → List ℤ → Result Shaped Cause → Held → Answered
memory_shaped depth ns (Err why) h = refused why h
memory_shaped depth ns (Ok x) h = memory_made (new_refusal x.form depth (length ns)) (memory_of_rows x depth ns) h

-- what raises is told before a shape that is too wide, and that before a count
abbrev pub count_refusal : Result Shaped Cause → Cause
count_refusal (Ok x) = Limit
count_refusal (Err why) = why

-- more rows than the depth raise; past 65,536 rows there are more of them, or the depth is too great
abbrev pub memory_said : Option ℕ → Result (List ℤ) Cause → Result Shaped Cause → Held → Answered
memory_said None rows shape h = refused Raised h
memory_said (Some depth) (Ok ns) shape h = if nat_lt depth (length ns) then refused Raised h else memory_shaped depth ns shape h
memory_said (Some depth) (Err Limit) shape h = if nat_le depth 65536 then refused Raised h else refused (count_refusal shape) h
memory_said (Some depth) (Err why) shape h = refused Raised h

abbrev pub memory_from : Seen → Option MemoryArguments → Held → Answered
memory_from s None h = refused Raised h
memory_from s (Some args) h = memory_said (depth_given args.depth) (rows_given s h.store.things args.init) (shape_given s h args.shape) h

abbrev pub memory_called : Seen → Called → Held → Answered
memory_called s c h = memory_from s (memory_arguments c) h
