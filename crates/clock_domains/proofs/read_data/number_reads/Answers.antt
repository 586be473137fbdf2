use Rattle.std.proofs.Common.{◌≡◌, ◌∙◌, ◌∷◌, [], length, take, Some, slice_get, refl, sym, ap}
use Rattle.std.proofs.lemmas.Option.{slice_get_read}
use Rattle.fragment_walks.specs.Numbers.{lowered}
use Rattle.fragment_walks.proofs.NumberLaws.{lowered_turn}
use Rattle.clock_domains.proofs.DataLaws.{clocked-append, clocked_no, clocked_words, clocked_yes}
use Rattle.clock_domains.proofs.read_data.number_reads.Goals as goal
use Rattle.clock_domains.proofs.read_data.number_reads.Goals.{then-is_some, else-is_some}

pub loop-read-preserved : goal.loop-read-preserved
loop-read-preserved c =
    let rs = c.args.reads.now in
    let i = c.loop-read.read-index in
    let r = c.read-item.result in
    let n = c.args.number in
    let cur = c.loop-read.sites.items in
    let at : slice_get rs i ≡ Some r = slice_get_read rs (length rs) i r refl c.loop-read-test.true c.read-item.is in
    lowered_turn clocked_words n rs i r (clocked_words (r ∷ [])) c.args.sites.now.items cur c.if-is_some.sites.items at (clocked-append (take i rs) (r ∷ [])) c.loop-read.invariant
    (elim c.if-is_some.branch [
      | then-is_some w ↦ ap (λ v. v.items) w.sites-is ∙ w.lower.ensures ∙ ap (λ ks. lowered ks n cur) (sym (clocked_yes r (sym c.is_some.ensures ∙ w.if-is_some.true)))
      | else-is_some w ↦ ap (λ v. v.items) w.sites-is ∙ ap (λ ks. lowered ks n cur) (sym (clocked_no r (sym c.is_some.ensures ∙ w.if-is_some.false)))
    ])
