-- Falling edges and asynchronous resets of small designs.
use Rattle.std.specs.Prelude.{◌≡◌, refl, ℕ, true, List, [], ◌∷◌, ℤ, pos, codes}
use Rattle.shape_rules.specs.Forms.{unsigned}
use Rattle.shape_rules.specs.declared.op.Op.TheVariants.{Add}
use Rattle.design_ir.specs.declared.domain.Domain.{Domain}
use Rattle.design_ir.specs.declared.expr.Expr.TheVariants.{Const, Binary}
use Rattle.design_ir.specs.declared.event.Event.{Event}
use Rattle.design_ir.specs.declared.event.Event.TheVariants.{Edge}
use Rattle.design_ir.specs.Trees.{done, next}
use Rattle.design_ir.specs.Values.{form, num}
use Rattle.design_ir.specs.Targets.{target_bits, target_signals}
use Rattle.design_ir.specs.Circuits.{Circuit, State}
use Rattle.design_ir.specs.Steps.{step}
use Rattle.design_ir.specs.Histories.{History}
use Rattle.design_ir.proofs.SanityParts.{signal, e, s, set, clocked_by, input, domain, falling_domain, async_domain, gives, toggles}

-- ---- two counters of one domain: signals clk, rst, n that begins at 5, and r that begins at 2 and no reset touches

counting : Domain → Circuit
counting d = record {
  pool = record {
    signals =
        signal (unsigned 1) (pos 0) ∷ signal (unsigned 1) (pos 0) ∷ signal (unsigned 4) (pos 5) ∷ record (signal (unsigned 4) (pos 2)) { reset_less = true } ∷ [];
    exprs = s 2 ∷ s 3 ∷ Const (pos 1) (unsigned 1) ∷ Binary Add (e 0) (e 2) ∷ Binary Add (e 1) (e 2) ∷ [];
  };
  processes = clocked_by 0 (next (set 0 3) (next (set 1 4) done)) ∷ [];
  memories = [];
  domains = d ∷ [];
  ports = input 0 ∷ input 1 ∷ [];
  columns = [];
}

edge : Event
edge = Edge (toggles 0 ∷ [])

counted : ℕ → ℕ → ℕ → ℕ → List ℤ
counted clk rst n r = pos clk ∷ pos rst ∷ pos n ∷ pos r ∷ []

-- the clock begins at 0, and its first rise changes nothing
falling_domain_counts_at_falls : History (counting (falling_domain (codes "sync") 0 1)) (edge ∷ edge ∷ edge ∷ edge ∷ []) (counted 0 0 5 2 ∷ counted 1 0 5 2 ∷ counted 0 0 6 3 ∷ counted 1 0 6 3 ∷ counted 0 0 7 4 ∷ [])
unfolding counting edge counted form num target_bits target_signals
falling_domain_counts_at_falls = (refl, (refl, (refl, (refl, refl))))

-- a reset that is not asynchronous waits for the fall
falling_domain_resets_at_falls : History (counting (falling_domain (codes "sync") 0 1)) (edge ∷ edge ∷ gives 1 (pos 1) ∷ edge ∷ edge ∷ []) (counted 0 0 5 2 ∷ counted 1 0 5 2 ∷ counted 0 0 6 3 ∷ counted 0 1 6 3 ∷ counted 1 1 6 3 ∷ counted 0 1 5 4 ∷ [])
unfolding counting edge counted form num target_bits target_signals
falling_domain_resets_at_falls = (refl, (refl, (refl, (refl, (refl, refl)))))

-- an asynchronous reset that rises by a `Set` acts at once, and holds the register until it falls; r goes on at edges
async_reset_rises_by_a_set : History (counting (async_domain (codes "sync") 0 1)) (edge ∷ gives 1 (pos 1) ∷ edge ∷ edge ∷ gives 1 (pos 0) ∷ edge ∷ edge ∷ [])
    (counted 0 0 5 2 ∷ counted 1 0 6 3 ∷ counted 1 1 5 3 ∷ counted 0 1 5 3 ∷ counted 1 1 5 4 ∷ counted 1 0 5 4 ∷ counted 0 0 5 4 ∷ counted 1 0 6 5 ∷ [])
unfolding counting edge counted form num target_bits target_signals
async_reset_rises_by_a_set = (refl, (refl, (refl, (refl, (refl, (refl, (refl, refl)))))))

-- the same reset that acts at edges leaves the register as it is until the next one
other_reset_waits_for_the_edge : History (counting (domain (codes "sync") 0 1)) (edge ∷ gives 1 (pos 1) ∷ edge ∷ edge ∷ []) (counted 0 0 5 2 ∷ counted 1 0 6 3 ∷ counted 1 1 6 3 ∷ counted 0 1 6 3 ∷ counted 1 1 5 4 ∷ [])
unfolding counting edge counted form num target_bits target_signals
other_reset_waits_for_the_edge = (refl, (refl, (refl, (refl, refl))))

state : List ℤ → State
state held = record { held = held; rows = [] }

-- both at one event: at an active edge under an asynchronous reset of 1 the init wins over what the statements leave
init_wins_at_an_edge_under_async_reset : step (counting (async_domain (codes "sync") 0 1)) (state (counted 0 1 9 9)) (counted 0 1 9 9) edge ≡ state (counted 1 1 5 10)
unfolding counting edge counted state form num target_bits target_signals
init_wins_at_an_edge_under_async_reset = refl

-- and at an edge that is not the active one it is the init, too
init_comes_at_any_event_under_async_reset : step (counting (async_domain (codes "sync") 0 1)) (state (counted 1 1 9 9)) (counted 1 1 9 9) edge ≡ state (counted 0 1 5 9)
unfolding counting edge counted state form num target_bits target_signals
init_comes_at_any_event_under_async_reset = refl

-- what counts is the reset after the event: one that a `Set` takes away lets the register be
async_reset_that_falls_lets_go : step (counting (async_domain (codes "sync") 0 1)) (state (counted 1 1 9 9)) (counted 1 1 9 9) (gives 1 (pos 0)) ≡ state (counted 1 0 9 9)
unfolding counting edge counted state form num target_bits target_signals
async_reset_that_falls_lets_go = refl

-- falling and asynchronous at once
falling_and_async : History (counting (record (falling_domain (codes "sync") 0 1) { async_reset = true })) (edge ∷ edge ∷ gives 1 (pos 1) ∷ gives 1 (pos 0) ∷ edge ∷ edge ∷ [])
    (counted 0 0 5 2 ∷ counted 1 0 5 2 ∷ counted 0 0 6 3 ∷ counted 0 1 5 3 ∷ counted 0 0 5 3 ∷ counted 1 0 5 3 ∷ counted 0 0 6 4 ∷ [])
unfolding counting edge counted form num target_bits target_signals
falling_and_async = (refl, (refl, (refl, (refl, (refl, (refl, refl))))))

-- ---- two registers that swap where one domain rises and the other falls at one event: two clocks, two resets, a and b

swap : Circuit
swap = record {
  pool = record {
    signals = signal (unsigned 1) (pos 0) ∷ signal (unsigned 1) (pos 0) ∷ signal (unsigned 1) (pos 0) ∷ signal (unsigned 1) (pos 0) ∷ signal (unsigned 8) (pos 3) ∷ signal (unsigned 8) (pos 5) ∷ [];
    exprs = s 4 ∷ s 5 ∷ [];
  };
  processes = clocked_by 0 (next (set 0 1) done) ∷ clocked_by 1 (next (set 1 0) done) ∷ [];
  memories = [];
  domains = domain (codes "sync") 0 2 ∷ falling_domain (codes "late") 1 3 ∷ [];
  ports = input 0 ∷ input 1 ∷ input 2 ∷ input 3 ∷ [];
  columns = [];
}

both : Event
both = Edge (toggles 0 ∷ toggles 1 ∷ [])

late : Event
late = Edge (toggles 1 ∷ [])

swapped : ℕ → ℕ → ℕ → ℕ → List ℤ
swapped clk late_clk a b = pos clk ∷ pos late_clk ∷ pos 0 ∷ pos 0 ∷ pos a ∷ pos b ∷ []

-- the second event is a rise of one clock and a fall of the other: both registers read what was before
rise_and_fall_at_one_event : History swap (late ∷ both ∷ both ∷ []) (swapped 0 0 3 5 ∷ swapped 0 1 3 5 ∷ swapped 1 0 5 3 ∷ swapped 0 1 5 3 ∷ [])
unfolding swap both late swapped form num target_bits target_signals
rise_and_fall_at_one_event = (refl, (refl, (refl, refl)))
