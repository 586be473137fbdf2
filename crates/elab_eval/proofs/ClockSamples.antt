-- Which clocks may not be, worked out beside a design with the domain `sync` alone, and what such a design is refused for.
use Rattle.std.specs.Prelude.{◌≡◌, refl, ℕ, false, List, [], ◌∷◌, length, nat_lt, if◌then◌else◌, Option, Some, None, codes}
use Rattle.std.proofs.Common.{ap}
use Rattle.amh_host.specs.declared.place.Place.{Place}
use Rattle.amh_host.specs.declared.place.Kind.TheVariants.{Limit, Raised}
use Rattle.design_ir.specs.declared.expr.Expr.{Expr}
use Rattle.design_ir.specs.declared.domain.Domain.{Domain}
use Rattle.design_ir.specs.Circuits.{Circuit}
use Rattle.elab_store.specs.declared.simulation.ClockCall.{ClockCall}
use Rattle.elab_eval.specs.declared.refusal.ElabStop.{ElabStop}
use Rattle.elab_eval.specs.declared.refusal.ElabStop.TheVariants.{Refused}
use Rattle.elab_eval.specs.Clocks.{clock_refused}
use Rattle.elab_eval.specs.Elaborates.{design_stop}

domain : Domain
domain = record { name = codes "sync"; clk = record { 0 = 0 }; rst = None; falling = false; async_reset = false }

design_over : List Expr → Circuit
unfolding domain
design_over es = record { pool = record { signals = []; exprs = es }; processes = []; memories = []; domains = domain ∷ []; ports = []; columns = [] }

design : Circuit
unfolding design_over
design = design_over []

at : ℕ → Place
at n = record { line = n; col = 1 }

clock : List ℕ → ℕ → ℕ → ClockCall
unfolding at
clock name period n = record { domain = name; period = period; phase = 0; place = at n }

clocks_taken : (clock_refused design [] ≡ None) × (clock_refused design (clock (codes "sync") 2 7 ∷ []) ≡ None)
unfolding domain design_over design at clock
clocks_taken = (refl, refl)

-- another domain, a period of 1, and a second clock of a domain
clocks_refused : (clock_refused design (clock (codes "fast") 2 7 ∷ []) ≡ Some (at 7)) × (clock_refused design (clock (codes "sync") 1 7 ∷ []) ≡ Some (at 7))
    × (clock_refused design (clock (codes "sync") 2 7 ∷ clock (codes "sync") 4 8 ∷ []) ≡ Some (at 8))
unfolding domain design_over design at clock
clocks_refused = (refl, refl, refl)

-- the first of them in order
first_refused : clock_refused design (clock (codes "sync") 2 7 ∷ clock (codes "fast") 0 8 ∷ clock (codes "sync") 0 9 ∷ []) ≡ Some (at 8)
unfolding domain design_over design at clock
first_refused = refl

-- ---- what a design is refused for

nothing_refused : (design_stop design [] ≡ None) × (design_stop design (clock (codes "sync") 2 7 ∷ []) ≡ None)
unfolding domain design_over design at clock
nothing_refused = (refl, refl)

-- at the call of its clock
call_refused : design_stop design (clock (codes "fast") 2 7 ∷ []) ≡ Some (Refused Raised (at 7))
unfolding domain design_over design at clock
call_refused = refl

by_count : Option ElabStop → ℕ → Option ElabStop
by_count others n = if nat_lt 262144 n then Some (Refused Limit (record { line = 1; col = 1 })) else others

-- of expressions one too many is told before a clock, and one less is not
count_refused : (es : List Expr) → length es ≡ 262145 → design_stop (design_over es) (clock (codes "fast") 2 7 ∷ []) ≡ Some (Refused Limit (record { line = 1; col = 1 }))
unfolding domain design_over at clock by_count
count_refused es e = ap (by_count (Some (Refused Raised (at 7)))) e

count_taken : (es : List Expr) → length es ≡ 262144 → design_stop (design_over es) (clock (codes "sync") 2 7 ∷ []) ≡ None
unfolding domain design_over at clock by_count
count_taken es e = ap (by_count None) e
