-- The parts of a node by their number, as the code and as the meaning come to them.
use Rattle.std.proofs.Common.{◌≡◌, ℕ, zero, suc, ◌+◌, ◌≤◌, refl, ap, ◌∙◌, sym, subst, List, [], ◌∷◌, length, Some, None, map, option_map, arith}
use Rattle.std.specs.List.{slice_get}
use Rattle.std.proofs.lemmas.Option.{slice_get_past}
use Rattle.amh_host.specs.declared.place.Place.{Place}
use Rattle.py_tree.specs.declared.expr.Operator.{Operator}
use Rattle.py_tree.specs.declared.expr.Expr.{Expr}
use Rattle.py_tree.specs.declared.expr.Link.{Link}
use Rattle.py_tree.specs.declared.expr.Pair.{Pair}
use Rattle.py_tree.specs.declared.expr.Trailer.{Trailer as Trailing}
use Rattle.py_tree.specs.Seen.{tree, link_tree, pair_tree, trailer_of}
use Rattle.py_tree.specs.Tree.{Tree, Trees, none, some, Links, no_link, link, Pairs, no_pair, pair, trees, links, pairs, trailers}
use Rattle.py_frames.specs.Parts.{place_of, trees_from, links_from, pairs_from, link_count, trailer_count}
use Rattle.py_frames.specs.Expr_parts.{tree_at, link_at, pair_at}
use Rattle.py_frames.specs.Expr_frames.{operand_place}

pub link_count_links : (ls : List Link) → link_count (links (map link_tree ls)) ≡ length ls
link_count_links [] = refl
link_count_links (l ∷ ls) = ap (λ (n : ℕ). suc n) (link_count_links ls)

pub trailer_count_trailers : (ts : List Trailing) → trailer_count (trailers (map trailer_of ts)) ≡ length ts
trailer_count_trailers [] = refl
trailer_count_trailers (t ∷ ts) = ap (λ (n : ℕ). suc n) (trailer_count_trailers ts)

pub tree_at_trees : (n : ℕ) (es : List Expr) → tree_at n (trees (map tree es)) ≡ option_map tree (slice_get es n)
tree_at_trees n [] = refl
tree_at_trees zero (e ∷ es) = refl
tree_at_trees (suc n) (e ∷ es) = tree_at_trees n es

pub link_at_links : (n : ℕ) (ls : List Link) → link_at n (links (map link_tree ls)) ≡ option_map link_tree (slice_get ls n)
link_at_links n [] = refl
link_at_links zero (l ∷ ls) = refl
link_at_links (suc n) (l ∷ ls) = link_at_links n ls

pub pair_at_pairs : (n : ℕ) (ps : List Pair) → pair_at n (pairs (map pair_tree ps)) ≡ option_map pair_tree (slice_get ps n)
pair_at_pairs n [] = refl
pair_at_pairs zero (p ∷ ps) = refl
pair_at_pairs (suc n) (p ∷ ps) = pair_at_pairs n ps

pub tree_at_past : (n : ℕ) (xs : List Expr) → length xs ≤ n → None ≡ tree_at n (trees (map tree xs))
tree_at_past n xs h = sym (tree_at_trees n xs ∙ ap (option_map tree) (slice_get_past xs n h))

pub tree_at_some : (n : ℕ) (xs : List Expr) (x : Expr) (t : Tree) → slice_get xs n ≡ Some x → t ≡ tree x → Some t ≡ tree_at n (trees (map tree xs))
tree_at_some n xs x t h e = ap (λ (z : Tree). Some z) e ∙ sym (tree_at_trees n xs ∙ ap (option_map tree) h)

pub link_at_past : (n : ℕ) (xs : List Link) → length xs ≤ n → None ≡ link_at n (links (map link_tree xs))
link_at_past n xs h = sym (link_at_links n xs ∙ ap (option_map link_tree) (slice_get_past xs n h))

pub link_at_some : (n : ℕ) (xs : List Link) (x : Link) (t : Operator × Tree) → slice_get xs n ≡ Some x → t ≡ link_tree x → Some t ≡ link_at n (links (map link_tree xs))
link_at_some n xs x t h e = ap (λ (z : Operator × Tree). Some z) e ∙ sym (link_at_links n xs ∙ ap (option_map link_tree) h)

pub pair_at_past : (n : ℕ) (xs : List Pair) → length xs ≤ n → None ≡ pair_at n (pairs (map pair_tree xs))
pair_at_past n xs h = sym (pair_at_pairs n xs ∙ ap (option_map pair_tree) (slice_get_past xs n h))

pub pair_at_some : (n : ℕ) (xs : List Pair) (x : Pair) (t : Tree × Tree) → slice_get xs n ≡ Some x → t ≡ pair_tree x → Some t ≡ pair_at n (pairs (map pair_tree xs))
pair_at_some n xs x t h e = ap (λ (z : Tree × Tree). Some z) e ∙ sym (pair_at_pairs n xs ∙ ap (option_map pair_tree) h)

-- ---- what is left from a part on

pub trees_from_some : (n : ℕ) (ts : Trees) (t : Tree) → Some t ≡ tree_at n ts → trees_from n ts ≡ some t (trees_from (suc n) ts)
trees_from_some n none t h = cc
trees_from_some zero (some u us) t h = cc
trees_from_some (suc n) (some u us) t h = trees_from_some n us t h

pub trees_from_none : (n : ℕ) (ts : Trees) → None ≡ tree_at n ts → trees_from n ts ≡ none
trees_from_none zero none h = refl
trees_from_none (suc n) none h = refl
trees_from_none zero (some u us) h = cc
trees_from_none (suc n) (some u us) h = trees_from_none n us h

pub links_from_some : (n : ℕ) (ls : Links) (o : Operator) (t : Tree) → Some (o, t) ≡ link_at n ls → links_from n ls ≡ link o t (links_from (suc n) ls)
links_from_some n no_link o t h = cc
links_from_some zero (link q u ls) o t h =
    let p : ◌≡◌ {A = Operator × Tree} (q, u) (o, t) = cc in
    let e1 : q ≡ o = ap (λ (z : Operator × Tree). z.0) p in
    let e2 : u ≡ t = ap (λ (z : Operator × Tree). z.1) p in
    cc
links_from_some (suc n) (link q u ls) o t h = links_from_some n ls o t h

pub links_from_none : (n : ℕ) (ls : Links) → None ≡ link_at n ls → links_from n ls ≡ no_link
links_from_none zero no_link h = refl
links_from_none (suc n) no_link h = refl
links_from_none zero (link q u ls) h = cc
links_from_none (suc n) (link q u ls) h = links_from_none n ls h

pub pairs_from_some : (n : ℕ) (ps : Pairs) (a b : Tree) → Some (a, b) ≡ pair_at n ps → pairs_from n ps ≡ pair a b (pairs_from (suc n) ps)
pairs_from_some n no_pair a b h = cc
pairs_from_some zero (pair c d ps) a b h =
    let p : ◌≡◌ {A = Tree × Tree} (c, d) (a, b) = cc in
    let e1 : c ≡ a = ap (λ (z : Tree × Tree). z.0) p in
    let e2 : d ≡ b = ap (λ (z : Tree × Tree). z.1) p in
    cc
pairs_from_some (suc n) (pair c d ps) a b h = pairs_from_some n ps a b h

pub pairs_from_none : (n : ℕ) (ps : Pairs) → None ≡ pair_at n ps → pairs_from n ps ≡ no_pair
pairs_from_none zero no_pair h = refl
pairs_from_none (suc n) no_pair h = refl
pairs_from_none zero (pair c d ps) h = cc
pairs_from_none (suc n) (pair c d ps) h = pairs_from_none n ps h

-- the place of the operand behind a link
pub operand_place_behind : (n : ℕ) (p : Place) (ls : Links) (o : Operator) (t : Tree) → Some (o, t) ≡ link_at n ls → operand_place (suc n) p ls ≡ place_of t
operand_place_behind n p no_link o t h = cc
operand_place_behind zero p (link q u ls) o t h =
    let e : ◌≡◌ {A = Operator × Tree} (q, u) (o, t) = cc in
    ap (λ (z : Operator × Tree). place_of z.1) e
operand_place_behind (suc n) p (link q u ls) o t h = operand_place_behind n (place_of u) ls o t h

pub operand_place_first : (n : ℕ) (p q : Place) (ls : Links) → n ≡ 0 → q ≡ p → q ≡ operand_place n p ls
operand_place_first n p q ls e f = let Q : ℕ → Type 0 = λ m. q ≡ operand_place m p ls in subst Q (sym e) f

pub operand_place_after : (n m : ℕ) (p q : Place) (ls : Links) (o : Operator) (t : Tree) → Some (o, t) ≡ link_at m ls → n ≡ m + 1 → q ≡ place_of t → q ≡ operand_place n p ls
operand_place_after n m p q ls o t h e f =
    let e2 : n ≡ suc m = omega arith in
    let Q : ℕ → Type 0 = λ a. q ≡ operand_place a p ls in
    subst Q (sym e2) (f ∙ sym (operand_place_behind m p ls o t h))
