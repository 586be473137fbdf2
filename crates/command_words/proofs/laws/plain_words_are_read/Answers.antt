use Rattle.command_words.proofs.PlainLaws.{plain_are_read}
use Rattle.command_words.proofs.laws.plain_words_are_read.Goals as goal

pub returns : goal.returns
returns c = plain_are_read
