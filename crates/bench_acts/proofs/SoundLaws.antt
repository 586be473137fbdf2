-- What is held stays sound where a part of `ctx` or something to wait for comes.
use Rattle.std.proofs.Common.{◌≡◌, List, [], ◌∷◌, ◌++◌, length}
use Rattle.std.specs.List.{AllByRecursion}
use Rattle.amh_things.specs.declared.thing.Thing.TheVariants as thing
use Rattle.amh_things.specs.Held.{IsHeld}
use Rattle.elab_store.specs.declared.kept.BenchPart.{BenchPart}
use Rattle.elab_store.specs.declared.kept.Kept.TheVariants as kept
use Rattle.elab_store.specs.declared.simulation.Wait.{Wait}
use Rattle.elab_store.specs.Simulations.{with_wait}
use Rattle.elab_store.specs.Sound.{IsKept, IsWait, IsSound}
use Rattle.elab_store.specs.Stores.{Held, store_keeping}

all_and : {A : Type 0} (P : A → Type 0) (xs ys : List A) → AllByRecursion P xs → AllByRecursion P ys → AllByRecursion P (xs ++ ys)
all_and P [] ys h g = g
all_and P (x ∷ xs) ys h g = (h.0, all_and P xs ys h.1 g)

pub part_sound : (h : Held) (p : BenchPart) → IsSound h → IsSound (record h { store = store_keeping (kept.OfBench p) h.store })
part_sound h p s = record {
  names = s.names;
  modules = s.modules;
  components = s.components;
  machines = s.machines;
  domains = s.domains;
  additions = s.additions;
  clock_domains = s.clock_domains;
  memories = s.memories;
  registers = s.registers;
  wrappings = s.wrappings;
  waits = s.waits;
  things = all_and (IsHeld (length h.pool.exprs)) h.store.things (thing.Kept (length h.store.kept) ∷ []) s.things (tt, tt);
  kept = all_and (IsKept h.pool h.store.components.signatures h.store.components.ends) h.store.kept (kept.OfBench p ∷ []) s.kept (tt, tt);
}

pub wait_sound : (h : Held) (w : Wait) → IsSound h → IsWait h.pool w → IsSound (record h { store = record h.store { simulation = with_wait w h.store.simulation } })
wait_sound h w s is = record {
  names = s.names;
  things = s.things;
  kept = s.kept;
  modules = s.modules;
  components = s.components;
  machines = s.machines;
  domains = s.domains;
  additions = s.additions;
  clock_domains = s.clock_domains;
  memories = s.memories;
  registers = s.registers;
  wrappings = s.wrappings;
  waits = all_and (IsWait h.pool) h.store.simulation.waits (w ∷ []) s.waits (is, tt);
}
