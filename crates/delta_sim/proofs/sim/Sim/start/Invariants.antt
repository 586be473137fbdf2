use Rattle.delta_sim.proofs.sim.Sim.start.Given as goal

abbrev pub ghosts-first_settled : goal.ghosts-first_settled
ghosts-first_settled a = record { name = a.blank.name; parts = a.blank.parts }
