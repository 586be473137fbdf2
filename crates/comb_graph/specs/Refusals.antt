-- Which loop is refused, and where.
use Rattle.std.specs.Prelude.{◌≡◌, ◌<◌, ◌≤◌, ◌⊎◌, Bool, List, [], option_map, unwrap_or}
use Rattle.std.specs.List.{find, flat_map, list_any}
use Rattle.amh_host.specs.declared.place.Place.{Place}
use Rattle.design_ir.specs.declared.process.DesignProcess.{DesignProcess}
use Rattle.design_ir.specs.Targets.{Bit, Aim, aims}
use Rattle.design_ir.specs.Guards.{Guarded, guarded}
use Rattle.design_ir.specs.Circuits.{Circuit}
use Rattle.design_ir.specs.Loops.{Loop}
use Rattle.comb_graph.specs.declared.stop.GraphStop.{GraphStop}
use Rattle.comb_graph.specs.declared.stop.GraphStop.TheVariants as stop
use Rattle.comb_graph.specs.Orders.{same_bit}

-- bits by the making of signals, and then by number
abbrev pub IsUpTo : Bit → Bit → Type 0
IsUpTo a b = (a.sig < b.sig) ⊎ ((a.sig ≡ b.sig) × (a.index ≤ b.index))

-- a bit that needs itself, and the least of those
pub record IsLeastLoop (c : Circuit) (b : Bit) : Type 0 where
  pub loops : Loop c b
  pub least : (x : Bit) → Loop c x → IsUpTo b x

-- all assignments of a design, in order
abbrev pub assignments : Circuit → List Guarded
assignments c = flat_map (λ (p : DesignProcess). guarded [] p.body) c.processes

abbrev pub may_assign : Circuit → Bit → Guarded → Bool
may_assign c b g = list_any (λ (a : Aim). same_bit a.bit b) (aims c.pool g.target.0)

-- where the first of them that may assign the bit stands, and the file's first place where none does
abbrev pub loop_place : Circuit → Bit → Place
loop_place c b = unwrap_or (option_map (λ (g : Guarded). g.place) (find (may_assign c b) (assignments c))) (record { line = 1; col = 1 })

pub record IsTold (c : Circuit) (b : Bit) (p : Place) : Type 0 where
  pub is_least : IsLeastLoop c b
  pub place : p ≡ loop_place c b

-- a design is refused for its least loop, or memory ran out
abbrev pub IsRefused : Circuit → GraphStop → Type 0
IsRefused c (stop.Loop sig bit place) = IsTold c (record { sig = sig.0; index = bit }) place
IsRefused c stop.NoMemory = Unit {0}
