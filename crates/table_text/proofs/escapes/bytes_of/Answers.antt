use Rattle.std.proofs.Common.{[], ◌∷◌, ◌++◌, sym, subst, arith}
use Rattle.std.proofs.lemmas.Grind.{common_steps}
use Rattle.table_text.proofs.Spellings.{SpellsFrom, Refuted, spells_one_more, spells_all, none_behind}
use Rattle.table_text.proofs.escapes.bytes_of.Goals as goal

pub loop-rest-preserved : goal.loop-rest-preserved
loop-rest-preserved c =
    let pushed : SpellsFrom (c.loop-rest.bytes.items ++ c.in-Some.byte ∷ []) c.in-Some.behind.now c.args.line.now =
    spells_one_more c.loop-rest.bytes.items c.in-Some.byte c.in-Some.behind.now c.loop-rest.rest.now c.args.line.now c.loop-rest.invariant.0 c.in-Some.ensures.some
    in let from : SpellsFrom c.push.new.self.items c.in-Some.behind.now c.args.line.now =
    subst (λ items. SpellsFrom items c.in-Some.behind.now c.args.line.now) (sym c.in_ok-push.ensures.items) pushed
    in let refuted : Refuted c.in-Some.behind.now c.args.line.now =
    λ none. c.loop-rest.invariant.1 (λ bs. none_behind c.in-Some.byte c.in-Some.behind.now bs c.loop-rest.rest.now c.in-Some.ensures.some none)
    in (from, refuted)

pub returns-clause-some : goal.returns-clause-some
returns-clause-some c = spells_all c.loop-rest.bytes.items c.loop-rest.rest.now c.args.line.now (grind (arith, common_steps)) c.loop-rest.invariant.0
