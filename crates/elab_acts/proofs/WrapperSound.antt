-- What is held stays sound by what wrappers do, and by what they make.
use Rattle.std.proofs.Common.{ℕ, Bool, true, false, List, [], ◌∷◌, ◌++◌, length, Option, Some, None}
use Rattle.std.specs.Prelude.{slice_get, if◌then◌else◌}
use Rattle.py_values.specs.declared.val.Val.{Val}
use Rattle.py_heap.specs.Heaps.{Seen}
use Rattle.elab_store.specs.declared.kept.Kept.TheVariants as kept_as
use Rattle.elab_store.specs.declared.wrappings.Wrapping.{Wrapping}
use Rattle.elab_store.specs.declared.wrappings.Wrapped.{Wrapped}
use Rattle.elab_store.specs.Calls.{Called}
use Rattle.elab_store.specs.Stores.{Held, Answered, store_with_wrapping, store_with_wrapped}
use Rattle.elab_store.specs.Sound.{IsWrapping, IsSound}
use Rattle.elab_acts.specs.Submodules.{is_elaboratable}
use Rattle.elab_acts.specs.Wrappers.{wrapped_by, wrapped_given, argument_wrapped, arguments_wrapped, wrapping_called, within_asked, wrapped_attribute}
use Rattle.elab_acts.proofs.GrownLaws.{all_and, keeping_sound}

if_sound : (b : Bool) (x y : Answered) → IsSound x.held → IsSound y.held → IsSound (if b then x else y).held
if_sound true x y h g = h
if_sound false x y h g = g

-- what a wrapper does is kept
pub with_wrapping_sound : (w : Wrapping) (h : Held) → IsSound h → IsWrapping h.pool w → IsSound (record h { store = store_with_wrapping w h.store })
with_wrapping_sound w h t own = record {
  names = t.names;
  things = t.things;
  kept = t.kept;
  modules = t.modules;
  components = t.components;
  machines = t.machines;
  domains = t.domains;
  additions = t.additions;
  clock_domains = t.clock_domains;
  memories = t.memories;
  registers = t.registers;
  wrappings = all_and (IsWrapping h.pool) h.store.wrappings (w ∷ []) t.wrappings (own, tt);
  waits = t.waits;
}

with_wrapped_sound : (w : Wrapped) (h : Held) → IsSound h → IsSound (wrapped_given w h).held
with_wrapped_sound w h t =
    keeping_sound (record h { store = record h.store { wrapped = h.store.wrapped ++ w ∷ [] } }) (kept_as.Wrapped (length h.store.wrapped)) (record {
      names = t.names;
      things = t.things;
      kept = t.kept;
      modules = t.modules;
      components = t.components;
      machines = t.machines;
      domains = t.domains;
      additions = t.additions;
      clock_domains = t.clock_domains;
      memories = t.memories;
      registers = t.registers;
      wrappings = t.wrappings;
      waits = t.waits;
    }) tt

argument_sound : (s : Seen) (k : ℕ) (v : Val) (h : Held) → IsSound h → IsSound (argument_wrapped s k v h).held
argument_sound s k v h t = if_sound (is_elaboratable s v h.store) _ _ (with_wrapped_sound (wrapped_by k v h.store) h t) t

arguments_sound : (s : Seen) (k : ℕ) (vs : List Val) (ns : List (List ℕ)) (h : Held) → IsSound h → IsSound (arguments_wrapped s k vs ns h).held
arguments_sound s k [] ns h t = t
arguments_sound s k (v ∷ []) [] h t = argument_sound s k v h t
arguments_sound s k (v ∷ []) (n ∷ ns) h t = t
arguments_sound s k (v ∷ u ∷ vs) ns h t = t

pub wrapping_called_sound : (s : Seen) (k : ℕ) (c : Called) (h : Held) → IsSound h → IsSound (wrapping_called s k c h).held
wrapping_called_sound s k c h t = arguments_sound s k c.placed c.keywords h t

within_sound : (o : Option Wrapped) (h : Held) → IsSound h → IsSound (within_asked o h).held
within_sound None h t = t
within_sound (Some w) h t = t

pub wrapped_attribute_sound : (j : ℕ) (h : Held) → IsSound h → IsSound (wrapped_attribute j h).held
wrapped_attribute_sound j h t = within_sound (slice_get h.store.wrapped j) h t
