use Rattle.std.proofs.Common.{◌∙◌, ap, map}
use Rattle.design_table.specs.Tests.{column_of}
use Rattle.design_table.proofs.DesignSound.{design_sound}
use Rattle.design_table.proofs.sound.made.Goals as goal

pub new-requires : goal.new-requires
new-requires c =
    let s = c.args.signals in
    let columns = c.in_ok-columns.ensures ∙ ap (map column_of) c.as_slice.ensures in
    rw columns
    (design_sound s.sheet.pool s.ports s.sides.items s.domains c.args.processes c.args.memories s.sheet.clear c.requires.signals c.requires.domains c.requires.there c.requires.sides c.requires.few c.requires.memories)
