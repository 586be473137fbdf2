use Rattle.std.proofs.Common.{◌≡◌, true, length}
use Rattle.std.specs.Prelude.{nat_le}
use Rattle.std.proofs.lemmas.List.{drop-map}
use Rattle.amh_things.proofs.ArgumentLaws.{at_most}
use Rattle.amh_things.proofs.arguments.fits_from.Goals as goal

pub returns : goal.returns
returns c =
    let few : nat_le c.args.count (length c.args.parameters.now) ≡ true = at_most _ _ c.if-count-parameters.false in
    rw (few, drop-map, ← c.split_at.ensures.back) c.are_among.ensures
