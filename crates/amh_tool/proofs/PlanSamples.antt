-- What is done of what the words ask for, at literal requests.
use Rattle.std.specs.Prelude.{◌≡◌, refl, Some, None, codes}
use Rattle.command_words.specs.Request.{Request}
use Rattle.command_words.specs.Laws.{plain_request}
use Rattle.amh_tool.specs.Plan.{planned}

-- three names, and the budget of words without one
names_alone : Request
names_alone = plain_request (codes "a") (codes "b") (codes "c") None

-- a script is played
plays : planned (Some (record names_alone { play = Some (codes "s") })) ≡ Some (record { design = codes "a"; il = codes "b"; trace = codes "c"; script = Some (codes "s"); top = None; budget = 10000000 })
unfolding names_alone
plays = refl

-- the top by its name, without a script
names_top : planned (Some (record names_alone { top = Some (codes "t"); budget = 7 })) ≡ Some (record { design = codes "a"; il = codes "b"; trace = codes "c"; script = None; top = Some (codes "t"); budget = 7 })
unfolding names_alone
names_top = refl

-- neither: the file's simulator runs
runs : planned (Some names_alone) ≡ Some (record { design = codes "a"; il = codes "b"; trace = codes "c"; script = None; top = None; budget = 10000000 })
unfolding names_alone
runs = refl

-- no design is made
refused : (planned (Some (record names_alone { play = Some (codes "s"); top = Some (codes "t"); make = Some 3 })) ≡ None) × (planned None ≡ None)
unfolding names_alone
refused = (refl, refl)
