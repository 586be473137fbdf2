use Rattle.std.proofs.Common.{◌≡◌, length, map, refl}
use Rattle.std.proofs.lemmas.List.FromFn.{length-map-range_with_len}
use Rattle.value_acts.specs.Indices.{bit, bits_below}
use Rattle.value_acts.proofs.indices.bits_given.Goals as goal

pub returns-in-Ok-all_things : goal.returns-in-Ok-all_things
returns-in-Ok-all_things c =
    let count : length (map (bit c.args.e) (bits_below c.args.shape.width)) ≡ c.args.shape.width = length-map-range_with_len (bit c.args.e) 0 c.args.shape.width in
    rw (count, c.in-Ok.ensures, c.in-Ok-all_values.ensures, c.exprs.ensures.value, c.in-Ok-all_things.ensures, c.things.ensures.value, c.width_of-width.ensures) refl
