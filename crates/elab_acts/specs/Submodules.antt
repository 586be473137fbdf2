-- `m.submodules`, and what is added to it. (Amaranth language guide 0.5, "Submodules".)
use Rattle.std.specs.Prelude.{ℕ, nat_lt, ◌==◌, ◌||◌, not, Bool, false, if◌then◌else◌, List, Option, Some, None, is_some, length}
use Rattle.std.specs.Option.{option_map_or}
use Rattle.identifiers.specs.Identifiers.{is_identifier}
use Rattle.py_values.specs.declared.val.Val.{Val}
use Rattle.py_values.specs.declared.val.Val.TheVariants as val
use Rattle.py_heap.specs.Heaps.{Seen}
use Rattle.py_frames.specs.declared.request.Cause.{Cause}
use Rattle.py_frames.specs.declared.request.Cause.TheVariants.{Raised, Limit}
use Rattle.elab_store.specs.declared.kept.Kept.{Kept}
use Rattle.elab_store.specs.declared.kept.Kept.TheVariants as kept
use Rattle.elab_store.specs.Hierarchies.{Hierarchy, added_as, with_addition, is_node}
use Rattle.elab_store.specs.Stores.{Stored, Held, Answered, refused, given, kept_of, node_in, inner_of}
use Rattle.elab_acts.specs.Tops.{elaborate_of, most_submodules}

-- a module, a memory, or an object with `elaborate`, and each of them where it is wrapped
abbrev pub is_elaboratable : Seen → Val → Stored → Bool
is_elaboratable s v store = let w = inner_of store v in is_some (node_in (kept_of store w)) || is_some (elaborate_of s w)

-- module m is elaborated already
abbrev pub is_elaborated : ℕ → Stored → Bool
is_elaborated m store = option_map_or (λ n. n == m) store.top.root false || is_node m store.hierarchy

-- a name is an identifier under which nothing was added to the module before
abbrev pub is_no_name : ℕ → Option (List ℕ) → Hierarchy → Bool
is_no_name m None t = false
is_no_name m (Some name) t = not (is_identifier name) || is_some (added_as m name t)

abbrev pub addition_refusal : Seen → ℕ → Option (List ℕ) → Val → Stored → Option Cause
addition_refusal s m name v store =
    if not (is_elaboratable s v store) || (is_no_name m name store.hierarchy || is_elaborated m store) then Some Raised
    else (if nat_lt (length store.hierarchy.additions) most_submodules then None else Some Limit)

abbrev pub addition_put : Option Cause → ℕ → Option (List ℕ) → Val → Val → Held → Answered
addition_put (Some why) m name v gives h = refused why h
addition_put None m name v gives h = given gives (record h { store = record h.store { hierarchy = with_addition m name v h.store.hierarchy } })

-- `m.submodules += v`, which gives `m.submodules` again, and `m.submodules.name = v`
abbrev pub submodule_added : Seen → ℕ → Option (List ℕ) → Val → Val → Held → Answered
submodule_added s m name v gives h = addition_put (addition_refusal s m name v h.store) m name v gives h

-- `m.submodules.name = v` and `m.submodules["name"] = v`; another index is no name
abbrev pub submodule_stored : Seen → ℕ → Option (List ℕ) → Val → Held → Answered
submodule_stored s m None v h = refused Raised h
submodule_stored s m (Some name) v h = submodule_added s m (Some name) v val.None h

-- `m.submodules.name` and `m.submodules["name"]`
abbrev pub found_given : Option Val → Held → Answered
found_given (Some v) h = given v h
found_given None h = refused Raised h

abbrev pub submodule_given : ℕ → Option (List ℕ) → Held → Answered
submodule_given m None h = refused Raised h
submodule_given m (Some name) h = found_given (added_as m name h.store.hierarchy) h

-- ---- assignment to `m.submodules`: that of what `+=` gave

abbrev pub is_submodules_of : ℕ → Option Kept → Bool
is_submodules_of m (Some (kept.Submodules n)) = n == m
is_submodules_of m k = false

abbrev pub submodules_stored : ℕ → Val → Held → Answered
submodules_stored m v h = if is_submodules_of m (kept_of h.store v) then given val.None h else refused Raised h
