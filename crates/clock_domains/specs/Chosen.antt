-- Ports as they are chosen, by marks.
use Rattle.std.specs.Prelude.{◌≡◌, ℕ, ◌<◌, ◌&&◌, not, Bool, true, false, ⊤, if◌then◌else◌, List, map, length, Option, Some, None}
use Rattle.std.specs.List.{filter_map, range_with_len}
use Rattle.design_ir.specs.declared.ids.SigId.{SigId}
use Rattle.design_ir.specs.declared.port.Port.{Port}
use Rattle.design_ir.specs.declared.domain.Domain.{Domain}
use Rattle.design_ir.specs.Pools.{Pooled}
use Rattle.fragment_walks.specs.Marks.{is_marked}
use Rattle.clock_domains.specs.declared.top.TopPorts.{TopPorts}
use Rattle.clock_domains.specs.declared.top.TopPorts.TheVariants.{Members, Held, Loose}
use Rattle.clock_domains.specs.Resolved.{has_width, held_port, port_of}

-- a signal that is not taken, and that has bits
abbrev pub is_new : Pooled → (ℕ → Bool) → Port → Bool
is_new q taken p = not (taken p.sig.0) && has_width q p.sig.0

-- whether it is an input: what the top's own statements drive is an output, and what is read and driven nowhere an input
abbrev pub known_side : (own driven read : ℕ → Bool) → ℕ → Option Bool
known_side own driven read s = if own s then Some false else (if read s && not (driven s) then Some true else None)

abbrev pub known_port : Pooled → List Domain → (own driven read : ℕ → Bool) → ℕ → Option Port
known_port q domains own driven read s = if own s then Some (port_of q domains false s) else (if read s && not (driven s) then Some (port_of q domains true s) else None)

abbrev pub AreThere : Pooled → Port → Type 0
AreThere q p = p.sig.0 < length q.signals

abbrev pub IsResetThere : Pooled → Option SigId → Type 0
IsResetThere q None = ⊤
IsResetThere q (Some s) = s.0 < length q.signals

-- the clock and the reset are signals
pub record IsSignal (q : Pooled) (d : Domain) : Type 0 where
  pub clock : d.clk.0 < length q.signals
  pub reset : IsResetThere q d.rst

-- only signals of the pool are driven or read
pub record IsKnown (q : Pooled) (own driven read : List Bool) : Type 0 where
  pub own_size : length own ≡ 16384
  pub driven_size : length driven ≡ 16384
  pub read_size : length read ≡ 16384
  pub own_there : (s : ℕ) → is_marked own s ≡ true → s < length q.signals
  pub read_there : (s : ℕ) → is_marked read s ≡ true → s < length q.signals

-- the ports of the top, by marks
abbrev pub known_ports : Pooled → List Domain → (own driven read : List Bool) → TopPorts → List Port
known_ports q domains own driven read (Members given) = given
known_ports q domains own driven read (Held given) = map (held_port domains (is_marked driven)) given
known_ports q domains own driven read Loose = filter_map (known_port q domains (is_marked own) (is_marked driven) (is_marked read)) (range_with_len 0 (length own))
