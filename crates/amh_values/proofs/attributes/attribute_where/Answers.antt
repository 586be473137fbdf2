use Rattle.std.proofs.Common.{sym}
use Rattle.std.specs.Prelude.{slice_get}
use Rattle.amh_things.specs.Things.{shown_enumeration}
use Rattle.amh_values.proofs.CallLaws.{attribute_drafted, view_below}
use Rattle.amh_values.proofs.attributes.attribute_where.Goals as goal

pub attributed-requires-clause-there : goal.attributed-requires-clause-there
attributed-requires-clause-there g c = view_below _ c.args.values.now c.args.of.0 _ c.requires.held (sym c.in-Some.ensures)

pub returns-in-None-clause-drafted : goal.returns-in-None-clause-drafted
returns-in-None-clause-drafted g c =
    attribute_drafted (g.P.Exprs.pooled c.args.pool.now) c.args.ends c.args.values.now c.requires.held c.thing_attribute.result c.args.of (shown_enumeration (slice_get c.args.values.now c.args.of.0)) c.args.name.now c.thing_attribute.ensures
