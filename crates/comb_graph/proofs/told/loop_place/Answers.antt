use Rattle.std.proofs.Common.{◌∙◌, Option, sym, ap, unwrap_or}
use Rattle.amh_host.specs.declared.place.Place.{Place}
use Rattle.comb_graph.specs.Rankings.{bit_of}
use Rattle.comb_graph.proofs.ToldAims.{place_is}
use Rattle.comb_graph.proofs.told.loop_place.Goals as goal

abbrev start : Place
start = record { line = 1; col = 1 }

abbrev place_or_start : Option Place → Place
place_or_start o = unwrap_or o start

pub returns-in-Some : goal.returns-in-Some
returns-in-Some c =
    let is = place_is c.args.design.now c.in_ok-table.table (bit_of c.args.bit) c.count.ensures.rules c.in_ok-table.ensures in
    ap place_or_start (sym c.in-Some.is ∙ c.in_processes.ensures) ∙ is

pub returns : goal.returns
returns c =
    let is = place_is c.args.design.now c.in_ok-table.table (bit_of c.args.bit) c.count.ensures.rules c.in_ok-table.ensures in
    ap place_or_start (sym c.in-None.is ∙ c.in_processes.ensures) ∙ is
