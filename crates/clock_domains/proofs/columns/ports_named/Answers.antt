use Rattle.std.proofs.Common.{◌≡◌, ◌∙◌, ◌++◌, ◌∷◌, [], ℕ, List, length, Some, slice_get, refl, ap, arith}
use Rattle.std.proofs.lemmas.Option.{slice_get_read}
use Rattle.clock_domains.proofs.NameLaws.{named_turn, named_end}
use Rattle.clock_domains.proofs.columns.ports_named.Goals as goal

pub loop-n-preserved : goal.loop-n-preserved
loop-n-preserved c =
    let ps = c.args.ports.now in
    let cs = c.args.columns.now in
    let i = c.loop-n.n in
    let p = c.index-ports-n.result in
    let x = c.index-columns-n.result in
    let at : slice_get ps i ≡ Some p = slice_get_read ps (length ps) i p refl c.loop-n-test.true c.index-ports-n.is in
    let at' : slice_get cs i ≡ Some x = slice_get_read cs (length cs) i x refl (omega (arith, c.loop-n-test.true, c.requires)) c.index-columns-n.is in
    named_turn ps cs i p x c.loop-n.named c.push.new.self at at' c.loop-n.invariant
    (c.in_ok-push.ensures.ok ∙ ap (λ (n : List ℕ). c.loop-n.named ++ record { name = n; sig = p.sig; is_input = p.is_input } ∷ []) (c.in_ok-copied.ensures ∙ c.as_str.ensures))

pub returns : goal.returns
returns c = c.loop-n.invariant ∙ named_end c.args.ports.now c.args.columns.now c.loop-n.n (omega (arith, c.loop-n-test.false))
