use Rattle.std.proofs.Common.{◌≡◌, ◌∙◌, ◌<◌, ◌+◌, List, ℕ, [], ◌∷◌, ◌++◌, refl, sym, subst, ap, length, Some, slice_get, slice_set}
use Rattle.std.proofs.lemmas.Option.{slice_get_read}
use Rattle.std.proofs.lemmas.List.{length-append}
use Rattle.digraph.specs.declared.graph.Link.{Link}
use Rattle.digraph.specs.Graphs.{edge}
use Rattle.digraph.specs.Links.{IsLinked}
use Rattle.digraph.proofs.GraphLinks.{linked_more}
use Rattle.digraph.proofs.graph.Graph.add.Goals as goal

pub invariant_of-self-2 : goal.invariant_of-self-2
invariant_of-self-2 c =
    let lasts = c.self.inside.lasts.items in
    let links = c.self.inside.links.items in
    let link : Link = record { edge = edge c.args.from c.args.upto; others = c.index.result.now } in
    let size : c.args.self.now.size ≡ length lasts = ap (λ g. g.size) (sym c.self.view_is) in
    let from : c.args.from < length lasts = subst (λ n. c.args.from < n) size c.requires.from in
    let upto : c.args.upto < length lasts = subst (λ n. c.args.upto < n) size c.requires.upto in
    let at : slice_get lasts c.args.from ≡ Some c.index.result.now = slice_get_read lasts (length lasts) c.args.from c.index.result.now refl from c.index.ensures in
    let items : c.push.new.self.items ≡ links ++ link ∷ [] = c.in_ok-push.ensures.items in
    let len : c.len.result ≡ length links + 1 = c.len.ensures ∙ c.push.new.self.ok.0 ∙ ap length items ∙ length-append links (link ∷ []) in
    let P : ℕ → List Link → Type 0 = λ n ls. IsLinked (slice_set lasts c.args.from n) ls in
    subst (λ ls. P c.len.result ls) (sym items) (subst (λ n. P n (links ++ link ∷ [])) (sym len) (linked_more lasts links c.args.from c.args.upto c.index.result.now c.self.invariant from upto at))
