use Rattle.memory_cells.proofs.Guards.{guards_show_the_word}
use Rattle.memory_cells.proofs.laws.guards_show_the_word.Goals as goal

pub returns : goal.returns
returns c = guards_show_the_word
