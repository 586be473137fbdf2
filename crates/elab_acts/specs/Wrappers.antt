-- Calls of what `DomainRenamer(..)`, `ResetInserter(..)` and `EnableInserter(..)` give, and attributes of what such a call gives.
-- (Amaranth language guide 0.5, "Renaming domains", "Control flow modifiers".)
use Rattle.std.specs.Prelude.{ℕ, if◌then◌else◌, List, [], ◌∷◌, Option, Some, None, slice_get}
use Rattle.py_values.specs.declared.val.Val.{Val}
use Rattle.py_heap.specs.Heaps.{Seen}
use Rattle.py_frames.specs.declared.request.Answer.TheVariants as answer
use Rattle.py_frames.specs.declared.request.Cause.TheVariants.{Raised}
use Rattle.elab_store.specs.declared.wrappings.Wrapped.{Wrapped}
use Rattle.elab_store.specs.Calls.{Called}
use Rattle.elab_store.specs.Stores.{Stored, Held, Answered, refused, given, next_thing, wrapped_of, inner_of, store_with_wrapped}
use Rattle.elab_acts.specs.Submodules.{is_elaboratable}

-- what wrapping k makes of a value, which may itself be wrapped
abbrev pub wrapped_by : ℕ → Val → Stored → Wrapped
wrapped_by k v store = record { by = k; over = wrapped_of store v; inner = inner_of store v }

-- it is a new thing
abbrev pub wrapped_given : Wrapped → Held → Answered
wrapped_given w h = given (next_thing h) (record h { store = store_with_wrapped w h.store })

abbrev pub argument_wrapped : Seen → ℕ → Val → Held → Answered
argument_wrapped s k v h = if is_elaboratable s v h.store then wrapped_given (wrapped_by k v h.store) h else refused Raised h

-- exactly one argument, and no keyword
abbrev pub arguments_wrapped : Seen → ℕ → List Val → List (List ℕ) → Held → Answered
arguments_wrapped s k (v ∷ []) [] h = argument_wrapped s k v h
arguments_wrapped s k vs ns h = refused Raised h

-- a call of wrapping k
abbrev pub wrapping_called : Seen → ℕ → Called → Held → Answered
wrapping_called s k c h = arguments_wrapped s k c.placed c.keywords h

-- ---- attributes are those of what stands within

abbrev pub within_asked : Option Wrapped → Held → Answered
within_asked (Some w) h = record { answer = answer.Through w.inner; held = h }
within_asked None h = refused Raised h

-- an attribute of the wrapped thing with number j
abbrev pub wrapped_attribute : ℕ → Held → Answered
wrapped_attribute j h = within_asked (slice_get h.store.wrapped j) h
