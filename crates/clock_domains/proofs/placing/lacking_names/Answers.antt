use Rattle.std.proofs.Common.{◌≡◌, Some, length, slice_get, refl}
use Rattle.std.specs.BTreeMap.{get_by_text}
use Rattle.std.proofs.lemmas.Option.{slice_get_read}
use Rattle.clock_domains.proofs.PlacingLaws.{lacking_turn}
use Rattle.clock_domains.proofs.placing.lacking_names.Goals as goal

pub loop-definition-preserved : goal.loop-definition-preserved
loop-definition-preserved c =
    let ds = c.args.definitions.now in
    let i = c.loop-definition.definition-index in
    let d = c.definition-item.result in
    let at : slice_get ds i ≡ Some d = slice_get_read ds (length ds) i d refl c.loop-definition-test.true c.definition-item.is in
    lacking_turn ds i d (get_by_text c.loop-definition.lacking) (get_by_text c.add_lacking.new.lacking) at c.requires c.loop-definition.invariant c.in_ok-add_lacking.ensures
