-- The place of one bit of a target, by a walk through what it is made of.
use Rattle.std.specs.Prelude.{◌≡◌, ℕ, ◌+◌, ◌-◌, ◌<◌, nat_lt, if◌then◌else◌, true, List, [], ◌∷◌, ℤ, Option, Some, None, slice_index_or}
use Rattle.shape_rules.specs.Forms.{Form}
use Rattle.design_ir.specs.declared.ids.ExprId.{ExprId}
use Rattle.design_ir.specs.Circuits.{is_among}
use Rattle.design_ir.specs.Pools.{Pooled}
use Rattle.design_ir.specs.Targets.{Bit, is_target, target_bits}
use Rattle.delta_sim.specs.declared.place.Walk.{Walk}
use Rattle.delta_sim.specs.declared.place.Walk.TheVariants.{Ends, GoesOn}
use Rattle.sim_plans.specs.Tasks.{places_of}

-- ---- single steps

-- bit i of a signal
abbrev pub signal_place : ℕ → ℕ → ℕ → Option Bit
signal_place s width i = if nat_lt i width then Some (record { sig = s; index = i }) else None

-- bit i of so many, which are those of a target from a place on
abbrev pub window : ℕ → ExprId → ℕ → ℕ → Walk
window width a from i = if nat_lt i width then GoesOn a (from + i) else Ends None

-- the item in which bit i of all of them stands, one above the other
abbrev pub item_at : (ℕ → Form) → List ExprId → ℕ → Walk
item_at form [] i = Ends None
item_at form (e ∷ es) i = if nat_lt i (form e.0).width then GoesOn e i else item_at form es (i - (form e.0).width)

-- ---- walks

-- the place of bit i of a target, none past its end
abbrev pub place_of : Pooled → List ℤ → ℕ → ℕ → Option Bit
place_of p env e i = slice_index_or (target_bits p env e) i None

-- the place of bit i of target e is this one, or that of a bit of an earlier target, which is among these
abbrev pub IsWalked : Pooled → List ℤ → List ExprId → ℕ → ℕ → Walk → Type 0
IsWalked p env list e i (Ends place) = place ≡ place_of p env e i
IsWalked p env list e i (GoesOn a k) = (a.0 < e) × (is_among (places_of list) a.0 ≡ true) × (is_target p a.0 ≡ true) × (place_of p env a.0 k ≡ place_of p env e i)
