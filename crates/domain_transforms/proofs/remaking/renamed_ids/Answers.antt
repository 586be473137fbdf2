use Rattle.std.proofs.Common.{length, sym, subst}
use Rattle.design_ir.specs.Named.{AllBelow}
use Rattle.fragment_walks.proofs.Lists.{below_at}
use Rattle.domain_transforms.proofs.remaking.renamed_ids.Goals as goal

pub id_of-requires : goal.id_of-requires
id_of-requires c = below_at (length c.args.ids.now) c.as_slice-e-items.result.now c.loop-e.e-index (record { 0 = 0 }) (subst (AllBelow (length c.args.ids.now)) (sym c.as_slice-e-items.ensures) c.requires) c.loop-e-test.true
