-- `mem.write_port(*, domain="sync", granularity=None)` and `mem.read_port(*, domain="sync", transparent_for=())`. (Amaranth standard library reference
-- 0.5, "Memory arrays". That a granularity is no other thing than an integer, and of which refusals the first is told, is this project's own rule.)
use Rattle.std.specs.Prelude.{ℕ, ◌+◌, ◌==◌, ◌&&◌, nat_le, if◌then◌else◌, Bool, List, [], ◌∷◌, length, slice_get, slice_set, ℤ, pos, negsuc, true, false, Option, Some, None, option_and_then, Result, Ok, Err, codes}
use Rattle.lists.specs.Texts.{text_eq}
use Rattle.identifiers.specs.Identifiers.{is_identifier}
use Rattle.py_values.specs.declared.val.Val.{Val}
use Rattle.py_values.specs.declared.val.Val.TheVariants as val
use Rattle.py_heap.specs.Heaps.{Seen, text_at, row_at}
use Rattle.py_values.specs.Numbers.{number_of}
use Rattle.py_frames.specs.declared.request.Cause.{Cause}
use Rattle.py_frames.specs.declared.request.Cause.TheVariants.{Raised, Limit}
use Rattle.amh_things.specs.declared.thing.Reading.{Reading}
use Rattle.design_ir.specs.declared.memory.Memory.{Memory}
use Rattle.design_ir.specs.Pools.{Pooled}
use Rattle.memory_ports.specs.declared.refusal.MemStop.{MemStop}
use Rattle.memory_ports.specs.declared.refusal.MemStop.TheVariants as stop
use Rattle.memory_ports.specs.Ports.{with_signals}
use Rattle.memory_ports.specs.Calls.{write_signals, write_refusal, and_write, read_signals, read_refusal, and_read, left_behind, where_clocked}
use Rattle.elab_store.specs.declared.kept.Kept.{Kept}
use Rattle.elab_store.specs.declared.kept.Kept.TheVariants as kept
use Rattle.elab_store.specs.declared.kept.MemoryPort.{MemoryPort}
use Rattle.elab_store.specs.declared.kept.MemoryMethod.{MemoryMethod}
use Rattle.elab_store.specs.declared.kept.MemoryMethod.TheVariants.{WritePort, ReadPort}
use Rattle.elab_store.specs.declared.memories.OwnMemory.{OwnMemory}
use Rattle.elab_store.specs.Calls.{Called}
use Rattle.elab_store.specs.Stores.{Stored, Held, Answered, refused, kept_given, kept_of}
use Rattle.elab_memories.specs.Memories.{all_given}
use Rattle.elab_memories.specs.declared.ports.PortArguments.{PortArguments}

-- ---- the arguments: the domain, and what the other one is called

abbrev pub no_arguments : PortArguments
no_arguments = record { domain = None; other = None }

-- an argument is given once
abbrev pub once : Option Val → PortArguments → Option PortArguments
once None args = Some args
once (Some v) args = None

abbrev pub with_keyword : (other n : List ℕ) → Val → PortArguments → Option PortArguments
with_keyword other n v args =
    if text_eq n (codes "domain") then once args.domain (record args { domain = Some v })
    else (if text_eq n other then once args.other (record args { other = Some v }) else None)

abbrev pub with_keywords : List ℕ → List (List ℕ) → List Val → PortArguments → Option PortArguments
with_keywords other [] vs args = Some args
with_keywords other (n ∷ ns) [] args = None
with_keywords other (n ∷ ns) (v ∷ vs) args = option_and_then (with_keywords other ns vs) (with_keyword other n v args)

-- nothing is given by its place
abbrev pub arguments_behind : List ℕ → List Val → List (List ℕ) → List Val → Option PortArguments
arguments_behind other [] ns vs = with_keywords other ns vs no_arguments
arguments_behind other (v ∷ placed) ns vs = None

abbrev pub port_arguments : List ℕ → Called → Option PortArguments
port_arguments other c = arguments_behind other c.placed c.keywords c.keyword_vals

-- ---- what they say

abbrev pub domain_formed : List ℕ → Option (List ℕ)
domain_formed name = if is_identifier name then Some name else None

-- an identifier
abbrev pub domain_given : Seen → Option Val → Option (List ℕ)
domain_given s None = Some (codes "sync")
domain_given s (Some (val.Str x)) = domain_formed (text_at s x.0)
domain_given s (Some v) = None

-- A row has 128 bits at most: more than 255 bits divide none but the row without bits, whose granules are no bits, however many stand for one.
abbrev pub granule_bits : ℕ → ℕ
granule_bits n = if nat_le n 255 then n else 255

abbrev pub granule_in : Option ℤ → Option (Option ℕ)
granule_in (Some (pos n)) = Some (Some (granule_bits n))
granule_in (Some (negsuc n)) = None
granule_in None = None

abbrev pub is_none : Val → Bool
is_none val.None = true
is_none v = false

-- an integer, or the whole row
abbrev pub granule_given : Option Val → Option (Option ℕ)
granule_given None = Some None
granule_given (Some v) = if is_none v then Some None else granule_in (number_of v)

-- the number of a write port of memory k
abbrev pub write_number : ℕ → Option Kept → Option ℕ
write_number k (Some (kept.MemoryPort p)) = if p.is_write && (p.of == k) then Some p.number else None
write_number k x = None

-- the numbers of all of them
abbrev pub write_numbers : Stored → ℕ → List Val → Option (List ℕ)
write_numbers s k vs = all_given (λ v. write_number k (kept_of s v)) vs

-- a list or a tuple of write ports of this memory
abbrev pub transparent_given : Seen → Stored → ℕ → Option Val → Option (List ℕ)
transparent_given s store k None = Some []
transparent_given s store k (Some (val.List o)) = write_numbers store k (row_at s o.0)
transparent_given s store k (Some (val.Tuple o)) = write_numbers store k (row_at s o.0)
transparent_given s store k (Some v) = None

-- ---- ports

-- what comes of a port that is asked for: the port, or why there is none, and what then are the pool and the memory
pub record Ported : Type 0 where
  pub made : Result MemoryPort Cause
  pub pool : Pooled
  pub spec : Memory

abbrev pub cause_of : MemStop → Cause
cause_of stop.BadDomain = Raised
cause_of stop.BadGranularity = Raised
cause_of stop.BadTransparent = Raised
cause_of stop.TooManyRows = Raised
cause_of stop.Limit = Limit
cause_of stop.NoMemory = Limit

-- what was made before a count is passed stays
abbrev pub pool_where : MemStop → (before left : Pooled) → Pooled
pool_where stop.BadDomain before left = before
pool_where stop.BadGranularity before left = before
pool_where stop.BadTransparent before left = before
pool_where stop.TooManyRows before left = before
pool_where stop.Limit before left = left
pool_where stop.NoMemory before left = before

abbrev pub ported : Option MemStop → Ported → (before left : Pooled) → Memory → Ported
ported None made before left m = made
ported (Some why) made before left m = record { made = Err (cause_of why); pool = pool_where why before left; spec = m }

abbrev pub made_given : Result MemoryPort Cause → Held → Answered
made_given (Ok p) h = kept_given (kept.MemoryPort p) h
made_given (Err why) h = refused why h

abbrev pub store_with_spec : ℕ → OwnMemory → Memory → Stored → Stored
store_with_spec k x m s = record s { memories = slice_set s.memories k (record { spec = m; reading = x.reading }) }

abbrev pub ported_given : ℕ → OwnMemory → Ported → Stored → Answered
ported_given k x p s = made_given p.made (record { pool = p.pool; store = store_with_spec k x p.spec s })

-- ---- a write port

abbrev pub write_kept : ℕ → Memory → Reading → Pooled → MemoryPort
write_kept k m r q = record {
  of = k;
  is_write = true;
  number = length m.writes;
  addr = record { 0 = length q.exprs };
  word = record { 0 = length q.exprs + 1 };
  enable = Some (record { 0 = length q.exprs + 2 });
  reading = r;
}

abbrev pub write_made : ℕ → Memory → Reading → List ℕ → Option ℕ → Pooled → Ported
write_made k m r domain granule q = record { made = Ok (write_kept k m r q); pool = with_signals q (write_signals m granule); spec = and_write q m domain granule }

abbrev pub write_ported : ℕ → Memory → Reading → List ℕ → Option ℕ → Pooled → Ported
write_ported k m r domain granule q = ported (write_refusal q m domain granule) (write_made k m r domain granule q) q (left_behind q m (write_signals m granule)) m

abbrev pub write_put : ℕ → Option OwnMemory → Option (List ℕ) → Option (Option ℕ) → Held → Answered
write_put k (Some x) (Some domain) (Some granule) h = ported_given k x (write_ported k x.spec x.reading domain granule h.pool) h.store
write_put k None domain granule h = refused Raised h
write_put k (Some x) None granule h = refused Raised h
write_put k (Some x) (Some domain) None h = refused Raised h

abbrev pub write_from : Seen → ℕ → Option PortArguments → Held → Answered
write_from s k None h = refused Raised h
write_from s k (Some args) h = write_put k (slice_get h.store.memories k) (domain_given s args.domain) (granule_given args.other) h

-- ---- a read port

-- `comb` reads at once
abbrev pub read_domain : List ℕ → Option (List ℕ)
read_domain domain = if text_eq domain (codes "comb") then None else Some domain

abbrev pub read_kept : ℕ → Memory → Reading → Option (List ℕ) → Pooled → MemoryPort
read_kept k m r domain q = record {
  of = k;
  is_write = false;
  number = length m.reads;
  addr = record { 0 = length q.exprs };
  word = record { 0 = length q.exprs + 1 };
  enable = where_clocked domain (record { 0 = length q.exprs + 2 });
  reading = r;
}

abbrev pub read_made : ℕ → Memory → Reading → Option (List ℕ) → List ℕ → Pooled → Ported
read_made k m r domain through q = record { made = Ok (read_kept k m r domain q); pool = with_signals q (read_signals m domain); spec = and_read q m domain through }

abbrev pub read_ported : ℕ → Memory → Reading → Option (List ℕ) → List ℕ → Pooled → Ported
read_ported k m r domain through q = ported (read_refusal q m domain through) (read_made k m r domain through q) q (left_behind q m (read_signals m domain)) m

abbrev pub read_put : ℕ → Option OwnMemory → Option (List ℕ) → Option (List ℕ) → Held → Answered
read_put k (Some x) (Some domain) (Some through) h = ported_given k x (read_ported k x.spec x.reading (read_domain domain) through h.pool) h.store
read_put k None domain through h = refused Raised h
read_put k (Some x) None through h = refused Raised h
read_put k (Some x) (Some domain) None h = refused Raised h

abbrev pub read_from : Seen → ℕ → Option PortArguments → Held → Answered
read_from s k None h = refused Raised h
read_from s k (Some args) h = read_put k (slice_get h.store.memories k) (domain_given s args.domain) (transparent_given s h.store k args.other) h

-- ---- the calls

abbrev pub port_called : Seen → ℕ → MemoryMethod → Called → Held → Answered
port_called s k WritePort c h = write_from s k (port_arguments (codes "granularity") c) h
port_called s k ReadPort c h = read_from s k (port_arguments (codes "transparent_for") c) h
