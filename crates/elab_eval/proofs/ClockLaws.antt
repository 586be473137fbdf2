-- A design that was resolved, and what it is refused for.
use Rattle.std.proofs.Common.{◌≡◌, ◌≤◌, ap, ◌∙◌, sym, ℕ, Bool, true, false, refl, List, length, nat_lt, Option, Some, None, option_map, if◌then◌else◌, Result, Ok, Err, arith}
use Rattle.std.proofs.lemmas.Bool.Decides.{nat_tests}
use Rattle.amh_host.specs.declared.place.Place.{Place}
use Rattle.amh_host.specs.declared.place.Kind.TheVariants as kind
use Rattle.py_heap.specs.Heaps.{Made}
use Rattle.design_ir.specs.Circuits.{Circuit}
use Rattle.clock_domains.specs.declared.stop.ResolveStop.{ResolveStop}
use Rattle.clock_domains.specs.Resolved.{file_start}
use Rattle.elab_store.specs.declared.simulation.ClockCall.{ClockCall}
use Rattle.elab_store.specs.Stores.{Held}
use Rattle.elab_eval.specs.declared.refusal.ElabStop.{ElabStop}
use Rattle.elab_eval.specs.declared.refusal.ElabStop.TheVariants as stops
use Rattle.elab_eval.specs.Clocks.{clock_refused}
use Rattle.elab_eval.specs.Elaborates.{Found, IsFound, design_of, design_stop, found_with, found_unless, without_modules}

-- a design, by what it is refused for
pub checked_design : (h : Held) (heap : Made) (r : Result Circuit ResolveStop) (d : Circuit) (o : Option ElabStop) (clocks : List ClockCall) → design_of h heap ≡ found_with h heap r → r ≡ Ok d → o ≡ design_stop d clocks → clocks ≡ h.store.simulation.clocks
    → design_of h heap ≡ found_unless o (record { circuit = d; store = without_modules h.store; frozen = heap })
checked_design h heap r d o clocks owed is same all =
    owed ∙ ap (found_with h heap) is ∙ ap (λ x. found_unless x (record { circuit = d; store = without_modules h.store; frozen = heap })) (sym (same ∙ ap (design_stop d) all))

-- it is refused as is told
pub told_as : (stop : ElabStop) (owed : Result Found ElabStop) → owed ≡ Err stop → IsFound (Err stop) owed
told_as stops.NoMemory owed e = tt
told_as (stops.Spent p) owed e = e
told_as (stops.Refused k p) owed e = e

-- where it is refused for nothing
pub record HasNoStop (d : Circuit) (calls : List ClockCall) : Type 0 where
  pub few : length d.pool.exprs ≤ 262144
  pub clocks : clock_refused d calls ≡ None

at_most : (n : ℕ) → nat_lt 262144 n ≡ false → n ≤ 262144
at_most n e = grind (arith, nat_tests)

pub no_stop : (d : Circuit) (calls : List ClockCall) → None ≡ design_stop d calls → HasNoStop d calls
no_stop d calls e = by_count (nat_lt 262144 (length d.pool.exprs)) refl (sym e)
  where
    none : (o : Option Place) → option_map (stops.Refused kind.Raised) o ≡ None → o ≡ None
    none None e = refl
    none (Some p) e = cc

    by_count : (b : Bool) → nat_lt 262144 (length d.pool.exprs) ≡ b → (if b then Some (stops.Refused kind.Limit file_start) else option_map (stops.Refused kind.Raised) (clock_refused d calls)) ≡ None → HasNoStop d calls
    by_count true passed e = cc
    by_count false passed e = record { few = at_most (length d.pool.exprs) passed; clocks = none (clock_refused d calls) e }
