-- What contracts see of the parts that readers make.
-- Internal: no rule of the language.
use Rattle.std.specs.Prelude.{map}
use Rattle.py_tree.specs.Seen.{tree, each_of}
use Rattle.py_words.specs.declared.phrase.Phrase.{Phrase}
use Rattle.py_words.specs.declared.phrase.Deep.{Deep as DeepOf}
use Rattle.py_words.specs.declared.phrase.Listed.{Listed as ListedOf}
use Rattle.py_words.specs.declared.phrase.Rest.{Rest as RestOf}
use Rattle.py_words.specs.declared.phrase.Rest.TheVariants as following
use Rattle.py_grammar.specs.Seen.{Seen, seen, Deep, Listed, Rest, over, more}

abbrev pub seen_of : Phrase → Seen
seen_of p = seen p.place (tree p.expr) p.depth

abbrev pub deep_of : {T A : Type 0} → (T → A) → DeepOf T → Deep A
deep_of f d = (f d.item, d.depth)

abbrev pub listed_of : {T A : Type 0} → (T → A) → ListedOf T → Listed A
listed_of f l = ((map f l.items.items, l.depth), l.comma)

abbrev pub rest_of : {T A : Type 0} → (T → A) → RestOf T → Rest A
rest_of f (following.Over c) = over (deep_of each_of c)
rest_of f (following.More l) = more (listed_of f l)
