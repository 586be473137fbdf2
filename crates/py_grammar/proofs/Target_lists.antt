-- Targets with a comma between each two are expressions whose tree is that of a target.
use Rattle.std.proofs.Common.{◌≡◌, ℕ, suc, refl, sym, ap, ◌∙◌, List, [], ◌∷◌, Option, Some, None}
use Rattle.std.specs.Prelude.{Bool, true, false, ◌&&◌, map}
use Rattle.amh_host.specs.declared.place.Place.{Place}
use Rattle.py_tree.specs.Tree.{Tree, trees}
use Rattle.py_grammar.specs.declared.word.Word.{Word}
use Rattle.py_grammar.specs.declared.word.Kind.{Kind}
use Rattle.py_grammar.specs.declared.word.Kind.TheVariants.{Target as a_target, Expr as an_expr}
use Rattle.py_grammar.specs.Forms.{Made, Many, no_more, one_more}
use Rattle.py_grammar.specs.Seen.{Seen, Deep, Listed, is_target, are_targets, all_of, tuple_tree, tuple_seen}
use Rattle.py_grammar.specs.Grammar.{Within, Plain}
use Rattle.py_grammar.specs.Statements.{Exprs, Targets}
use Rattle.py_grammar.proofs.Exact.{true_is, is_true}
use Rattle.py_grammar.proofs.Ends.{and_first, and_second}
use Rattle.py_grammar.proofs.Lists.{Item}
use Rattle.py_grammar.proofs.Targets.{expr_target, all_first}
use Rattle.py_grammar.proofs.Alone.{primary_expr}

-- what is known of targets and expressions of one kind of brackets
pub record Knows_targets (I : Kind → List Word → Seen → Type 0) : Type 0 where
  pub as_expr : (ws : List Word) (e : Seen) → I a_target ws e → I an_expr ws e
  pub is_one : (ws : List Word) (e : Seen) → I a_target ws e → is_target e.tree ≡ true
  pub as_target : (ws : List Word) (e : Seen) → I an_expr ws e → is_target e.tree ≡ true → I a_target ws e

pub targets_within : (room : ℕ) → Knows_targets (Within (suc room))
targets_within room = record {
  as_expr = λ ws e d. primary_expr (Within room) room ws e d.derived;
  is_one = λ ws e d. true_is (is_target e.tree) d.passes;
  as_target = λ ws e d t. record { derived = expr_target (Within room) room ws e d t; passes = is_true (is_target e.tree) t };
}

-- ---- the items behind the first

item_expr : (I : Kind → List Word → Seen → Type 0) → Knows_targets I → (ws : List Word) (x : Deep Tree) → Item (Plain (I a_target)) ws x → Item (Plain (I an_expr)) ws x
item_expr I kt ws x d = let th = d.derived in let s = th.second in record { from = d.from; derived = record { front = th.front; back = th.back; whole = th.whole; first = th.first; second = record { from = s.from; derived = kt.as_expr th.back s.from s.derived; is = s.is } }; is = d.is }

item_is_one : (I : Kind → List Word → Seen → Type 0) → Knows_targets I → (ws : List Word) (x : Deep Tree) → Item (Plain (I a_target)) ws x → is_target x.0 ≡ true
item_is_one I kt ws x d = let s = d.derived.second in ap (λ (z : Deep Tree). is_target z.0) (d.is ∙ s.is) ∙ kt.is_one d.derived.back s.from s.derived

item_target : (I : Kind → List Word → Seen → Type 0) → Knows_targets I → (ws : List Word) (x : Deep Tree) → Item (Plain (I an_expr)) ws x → is_target x.0 ≡ true → Item (Plain (I a_target)) ws x
item_target I kt ws x d t = let th = d.derived in let s = th.second in
    let one : is_target s.from.tree ≡ true = ap (λ (z : Deep Tree). is_target z.0) (sym (d.is ∙ s.is)) ∙ t in
    record { from = d.from; derived = record { front = th.front; back = th.back; whole = th.whole; first = th.first; second = record { from = s.from; derived = kt.as_target th.back s.from s.derived one; is = s.is } }; is = d.is }

abbrev trees_of : List (Deep Tree) → List Tree
trees_of xs = map (λ (x : Deep Tree). x.0) xs

items_expr : (I : Kind → List Word → Seen → Type 0) → Knows_targets I → (us : List Word) (xs : List (Deep Tree)) → Many (Item (Plain (I a_target))) us xs → Many (Item (Plain (I an_expr))) us xs
items_expr I kt us xs no_more = no_more
items_expr I kt us xs (one_more {ws = vs} {us = ys} {x = x} {xs = zs} d m) = one_more (item_expr I kt vs x d) (items_expr I kt ys zs m)

items_are : (I : Kind → List Word → Seen → Type 0) → Knows_targets I → (us : List Word) (xs : List (Deep Tree)) → Many (Item (Plain (I a_target))) us xs → are_targets (trees (trees_of xs)) ≡ true
items_are I kt us xs no_more = refl
items_are I kt us xs (one_more {ws = vs} {us = ys} {x = x} {xs = zs} d m) = let a = item_is_one I kt vs x d in let b = items_are I kt ys zs m in ap (λ z. z && are_targets (trees (trees_of zs))) a ∙ b

items_target : (I : Kind → List Word → Seen → Type 0) → Knows_targets I → (us : List Word) (xs : List (Deep Tree)) → Many (Item (Plain (I an_expr))) us xs → are_targets (trees (trees_of xs)) ≡ true → Many (Item (Plain (I a_target))) us xs
items_target I kt us xs no_more t = no_more
items_target I kt us xs (one_more {ws = vs} {us = ys} {x = x} {xs = zs} d m) t = one_more (item_target I kt vs x d (and_first (is_target x.0) (are_targets (trees (trees_of zs))) t)) (items_target I kt ys zs m (and_second (is_target x.0) (are_targets (trees (trees_of zs))) t))

-- ---- the whole list

tuple_by : (p : Place) (e : Tree) (ts : List Tree) (n : ℕ) (o : Option Place) → is_target (tuple_tree p e ((ts, n), o)) ≡ (is_target e && are_targets (trees ts))
tuple_by p e [] n None = sym (and_true (is_target e))
  where
    and_true : (b : Bool) → (b && true) ≡ b
    and_true true = refl
    and_true false = refl
tuple_by p e [] n (Some q) = refl
tuple_by p e (t ∷ ts) n o = refl

-- a tuple is a target where each of its parts is one
tuple_is : (x : Seen × Listed Tree) → is_target (tuple_seen x).tree ≡ (is_target x.0.tree && are_targets (trees x.1.0.0))
tuple_is x = tuple_by x.0.place x.0.tree x.1.0.0 x.1.0.1 x.1.1

-- the trees of a list, from how it was derived
trees_are : (D : List Word → Seen → Type 0) (us : List Word) (l : Deep (List Tree)) (m : Made all_of (Many (Item (Plain D))) us l) → l.0 ≡ trees_of m.from
trees_are D us l m = ap (λ (z : Deep (List Tree)). z.0) m.is ∙ all_first ([], 0) m.from

pub targets_exprs : (I : Kind → List Word → Seen → Type 0) → Knows_targets I → (ws : List Word) (e : Seen) → Targets I ws e → Exprs I ws e
targets_exprs I kt ws e d = let th = d.derived in let l = th.second in let m = l.first in record {
  from = d.from;
  derived = record { front = th.front; back = th.back; whole = th.whole; first = kt.as_expr th.front d.from.0 th.first; second = record { front = l.front; back = l.back; whole = l.whole; first = record { from = m.from; derived = items_expr I kt l.front m.from m.derived; is = m.is }; second = l.second } };
  is = d.is;
}

pub targets_are : (I : Kind → List Word → Seen → Type 0) → Knows_targets I → (ws : List Word) (e : Seen) → Targets I ws e → is_target e.tree ≡ true
targets_are I kt ws e d = let th = d.derived in let m = th.second.first in
    ap (λ (z : Seen). is_target z.tree) d.is
    ∙ (tuple_is d.from
    ∙ (ap (λ z. z && are_targets (trees d.from.1.0.0)) (kt.is_one th.front d.from.0 th.first)
    ∙ (ap (λ z. are_targets (trees z)) (trees_are (I a_target) th.second.front d.from.1.0 m)
    ∙ items_are I kt th.second.front m.from m.derived)))

pub exprs_targets : (I : Kind → List Word → Seen → Type 0) → Knows_targets I → (ws : List Word) (e : Seen) → Exprs I ws e → is_target e.tree ≡ true → Targets I ws e
exprs_targets I kt ws e d t = let th = d.derived in let l = th.second in let m = l.first in
    let both : (is_target d.from.0.tree && are_targets (trees d.from.1.0.0)) ≡ true = sym (tuple_is d.from) ∙ (ap (λ (z : Seen). is_target z.tree) (sym d.is) ∙ t) in
    let one = and_first (is_target d.from.0.tree) (are_targets (trees d.from.1.0.0)) both in
    let others : are_targets (trees (trees_of m.from)) ≡ true = ap (λ z. are_targets (trees z)) (sym (trees_are (I an_expr) l.front d.from.1.0 m)) ∙ and_second (is_target d.from.0.tree) (are_targets (trees d.from.1.0.0)) both in
    record {
      from = d.from;
      derived = record { front = th.front; back = th.back; whole = th.whole; first = kt.as_target th.front d.from.0 th.first one; second = record { front = l.front; back = l.back; whole = l.whole; first = record { from = m.from; derived = items_target I kt l.front m.from m.derived others; is = m.is }; second = l.second } };
      is = d.is;
    }
