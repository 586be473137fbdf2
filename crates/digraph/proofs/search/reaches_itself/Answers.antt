use Rattle.std.proofs.Common.{◌≡◌, ◌∙◌, ◌<◌, ℕ, Bool, false, List, [], ◌∷◌, ◌++◌, refl, sym, subst, ap, arith, length, slice_index_or}
use Rattle.std.proofs.lemmas.List.{append-nil}
use Rattle.std.proofs.lemmas.List.Elements.{Contains-push}
use Rattle.std.specs.List.{Contains}
use Rattle.std.proofs.lemmas.Option.{slice_get_read, get_or_from_slice_get}
use Rattle.digraph.specs.Searches.{Searching, IsSearch, is_reached}
use Rattle.digraph.proofs.GraphLists.{nil_of_length}
use Rattle.digraph.proofs.SearchLaws.{search_ends}
use Rattle.digraph.proofs.search.reaches_itself.Goals as goal

pub spread-requires-clause-from : goal.spread-requires-clause-from
spread-requires-clause-from c =
    let items : c.search.inside.todo.items ≡ c.pop.new.self.items ++ c.in-Some.from ∷ [] = c.in-Some.ensures.items in
    let split : c.loop-from.search.todo ≡ c.pop.new.self.items ++ c.in-Some.from ∷ [] = sym (ap (λ (v : Searching). v.todo) c.search.view_is) ∙ items in
    c.loop-from.invariant.search.inside c.in-Some.from (subst (λ ns. Contains ns c.in-Some.from) (sym split) (Contains-push c.pop.new.self.items c.in-Some.from))

read : (rs : List Bool) (n : ℕ) (b : Bool) → n < length rs → b ≡ slice_index_or rs n b → b ≡ is_reached rs n
read rs n b inside at = sym (get_or_from_slice_get rs n b false (slice_get_read rs (length rs) n b refl inside at))

pub returns : goal.returns
returns c =
    let g = c.args.graph.now in
    let s = c.loop-from.search in
    let n = c.args.node in
    let items : c.search.inside.todo.items ≡ c.pop.new.self.items ++ [] = c.in_default.ensures.items in
    let none : c.pop.new.self.items ≡ [] = nil_of_length c.pop.new.self.items (sym c.pop.new.self.ok.0 ∙ c.in_default.ensures.cases.1) in
    let todo : s.todo ≡ [] = sym (ap (λ (v : Searching). v.todo) c.search.view_is) ∙ items ∙ append-nil c.pop.new.self.items ∙ none in
    let h = subst (λ (root : ℕ). IsSearch g root s.reached s.todo) c.loop-from.invariant.root c.loop-from.invariant.search in
    let h' = subst (λ (ns : List ℕ). IsSearch g n s.reached ns) todo h in
    let ends = search_ends g n s.reached n h' in
    let same = ap (λ (v : Searching). v.reached) c.search.view_is in
    let inside : n < length s.reached = omega (arith, h.size, c.requires) in
    let is : c.index.result.now ≡ is_reached s.reached n = read s.reached n c.index.result.now inside (subst (λ rs. c.index.result.now ≡ slice_index_or rs n c.index.result.now) same c.index.ensures) in
    ((λ yes. ends.0 (sym is ∙ yes)), (λ loops. is ∙ ends.1 loops))
