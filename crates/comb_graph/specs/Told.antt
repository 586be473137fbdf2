-- Where the first assignment stands that may write a bit, by the table of aims.
use Rattle.std.specs.Prelude.{◌==◌, ◌&&◌, nat_lt, Bool, List, Option, option_map}
use Rattle.std.specs.List.{find, list_any}
use Rattle.amh_host.specs.declared.place.Place.{Place}
use Rattle.design_ir.specs.Guards.{Guarded}
use Rattle.design_ir.specs.Targets.{Bit}
use Rattle.comb_graph.specs.declared.aimed.Aimed.{Aimed}
use Rattle.comb_graph.specs.Meanings.{node_of}
use Rattle.comb_graph.specs.Seen.{row_at}

-- one of these aims is at the bit
abbrev pub aims_at : List Aimed → Bit → Bool
aims_at row b = nat_lt b.index 128 && list_any (λ (a : Aimed). a.node == node_of b) row

-- the place of the first assignment that may write the bit, where there is one
abbrev pub first_place : List (List Aimed) → Bit → List Guarded → Option Place
first_place table b gs = option_map (λ (g : Guarded). g.place) (find (λ (g : Guarded). aims_at (row_at table g.target.0) b) gs)
