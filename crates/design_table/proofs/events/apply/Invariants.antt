use Rattle.design_table.proofs.events.apply.Given as goal

abbrev pub ghosts-counted_apply : goal.ghosts-counted_apply
ghosts-counted_apply a = record { name = a.blank.name; parts = a.blank.parts }
