use Rattle.std.proofs.Common.{sym, ◌∙◌, map, drop, string_bytes, arith, length-drop}
use Rattle.std.proofs.lemmas.List.{length-map}
use Rattle.elab_acts.proofs.DomainKeywords.{keywords_none}
use Rattle.elab_acts.proofs.domain_arguments.with_domain_keywords.Goals as goal

pub returns-then-i-vals : goal.returns-then-i-vals
returns-then-i-vals c =
    sym (keywords_none (map string_bytes (drop c.loop-i.i c.args.keywords.now)) (drop c.loop-i.i c.args.vals.now) c.loop-i.args (simp (length-map, length-drop) (omega arith)) (simp length-drop (omega arith)))
    ∙ c.loop-i.invariant
