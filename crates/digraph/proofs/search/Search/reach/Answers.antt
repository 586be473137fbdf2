use Rattle.std.proofs.Common.{◌≡◌, ◌∙◌, ◌<◌, ℕ, Bool, true, false, List, [], ◌∷◌, ◌++◌, refl, sym, subst, ap, length, slice_set, slice_index_or}
use Rattle.std.proofs.lemmas.Option.{slice_get_read, get_or_from_slice_get}
use Rattle.digraph.specs.Searches.{Searching, Reached, is_reached}
use Rattle.digraph.proofs.SearchLaws.{reached_push}
use Rattle.digraph.proofs.search.Search.reach.Goals as goal

-- what is read at a place inside says whether the node was reached
read : (rs : List Bool) (n : ℕ) (b : Bool) → n < length rs → b ≡ slice_index_or rs n b → b ≡ false → is_reached rs n ≡ false
read rs n b inside at is = get_or_from_slice_get rs n b false (slice_get_read rs (length rs) n b refl inside at) ∙ is

pub returns-in_ok-push : goal.returns-in_ok-push
returns-in_ok-push c =
    let s = c.args.self.now in
    let n = c.args.node in
    let same = ap (λ (v : Searching). v.reached) c.self.view_is in
    let is : is_reached s.reached n ≡ false = read s.reached n c.index.result.now c.requires (subst (λ rs. c.index.result.now ≡ slice_index_or rs n c.index.result.now) same c.index.ensures) c.if-not-index.true in
    let items : c.push.new.self.items ≡ c.self.inside.todo.items ++ n ∷ [] = c.in_ok-push.ensures.items in
    let after = ap (λ (ns : List ℕ). record { root = c.self.inside.root; reached = slice_set c.self.inside.reached.items n true; todo = ns }) items
    ∙ ap (λ (v : Searching). record { root = v.root; reached = slice_set v.reached n true; todo = v.todo ++ n ∷ [] }) c.self.view_is in
    subst (Reached s n) (sym after) (reached_push s n c.requires is)
