use Rattle.py_phrases.proofs.Wholes.{answers}
use Rattle.py_phrases.proofs.whole.read_whole.Goals as goal

pub returns : goal.returns
returns c = answers c.lists_are_exact.ensures.read_is_derived c.lists_are_exact.ensures.derived_is_read c.args.room c.args.words.now c.in_ok-phrase.phrase c.in_ok-phrase.rest.now c.if_none_left.result c.in_ok-phrase.ensures.reads c.if_none_left.ensures
