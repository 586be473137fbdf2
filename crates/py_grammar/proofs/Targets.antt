-- A target is an expression whose tree is that of a target; and so of targets with a comma between each two.
use Rattle.std.proofs.Common.{◌≡◌, ℕ, suc, zero, refl, sym, ap, subst, ◌∙◌, List, [], ◌∷◌, ◌++◌, append_assoc, Option, Some, None, inl, inr}
use Rattle.std.proofs.lemmas.List.{append-nil}
use Rattle.std.specs.Prelude.{Bool, true, false, nat_lt, if◌then◌else◌, fold, map, max, codes}
use Rattle.amh_host.specs.declared.place.Place.{Place}
use Rattle.py_tree.specs.Tree.{Tree, Links, links, Binary, Boolean, Compare}
use Rattle.py_tree.specs.declared.expr.Operator.{Operator}
use Rattle.py_grammar.specs.declared.word.Word.{Word}
use Rattle.py_grammar.specs.declared.word.Kind.{Kind}
use Rattle.py_grammar.specs.declared.word.Kind.TheVariants.{Unary as a_unary, Or as an_or, Expr as an_expr}
use Rattle.py_grammar.specs.Forms.{Signed, Keyed, ◌▸◌, Made, Maybe, not_there, there, Many, no_more, one_more}
use Rattle.py_grammar.specs.Seen.{Seen, seen, Deep, is_target, all_of, and_one, is_empty, await_seen, power_seen, unary_seen, not_seen, chain_tree, chain_seen, link_seen, choice_seen}
use Rattle.py_grammar.specs.Grammar.{Primary, Awaited, PowerRule, UnaryRule, Op, Chain, Level, NotRule, OrRule, ExprRule}

pub none_there : {A : Type 0} (D : List Word → A → Type 0) (ws : List Word) (o : Option A) → Maybe D ws o → o ≡ None → ws ≡ []
none_there D ws o (not_there) h = refl
none_there D ws o (there d) h = cc

-- ---- an expression with the tree of a target is a primary

no_chain_target : (k : ℕ) (p : Place) (t : Tree) (ls : Links) → is_target (chain_tree k p t ls) ≡ true → ⊥
no_chain_target k p t ls h = by_tests (nat_lt k 6) (nat_lt 6 k) h
  where
    by_tests : (a b : Bool) → is_target (if a then Binary p t ls else if b then Boolean p t ls else Compare p t ls) ≡ true → ⊥
    by_tests true b h = cc
    by_tests false true h = cc
    by_tests false false h = cc

-- the tree of e is that of c, so it is no target where that of c is none
tree_no_target : (e c : Seen) → e ≡ c → is_target c.tree ≡ false → is_target e.tree ≡ true → ⊥
tree_no_target e c h n t = let q : is_target e.tree ≡ is_target c.tree = ap (λ (z : Seen). is_target z.tree) h in cc

pub all_first : {A : Type 0} (b : Deep (List A)) (xs : List (Deep A)) → (fold and_one b xs).0 ≡ b.0 ++ map (λ (x : Deep A). x.0) xs
all_first b [] = sym (append-nil b.0)
all_first b (x ∷ xs) = all_first (and_one b x) xs ∙ append_assoc b.0 (x.0 ∷ []) (map (λ y. y.0) xs)

chain_by : (k : ℕ) (D : List Word → Seen → Type 0) (front back : List Word) (c e : Seen) (ls : Deep (List (Operator × Tree))) (xs : List (Deep (Operator × Tree))) → Many (Made link_seen (Op k ▸ D)) back xs → ls ≡ all_of xs → e ≡ chain_seen k (c, ls) → is_target e.tree ≡ true → D front c → D (front ++ back) e
chain_by k D front back c e ls xs (no_more) m is t d =
    let same : e ≡ c = is ∙ ap (λ (z : Deep (List (Operator × Tree))). chain_seen k (c, z)) m in
    subst (D (front ++ [])) (sym same) (subst (λ z. D z c) (sym (append-nil front)) d)
chain_by k D front back c e ls xs (one_more {x = y} {xs = ys} f g) m is t d =
    let some_links : is_empty ls.0 ≡ false = ap (λ (z : Deep (List (Operator × Tree))). is_empty z.0) m ∙ ap is_empty (all_first ([], 0) (y ∷ ys)) in
    let linked : is_target (chain_seen k (c, ls)).tree ≡ is_target (chain_tree k c.place c.tree (links ls.0)) = ap (λ (b : Bool). is_target (if b then c else seen c.place (chain_tree k c.place c.tree (links ls.0)) (max c.depth ls.1)).tree) some_links in
    absurd (no_chain_target k c.place c.tree (links ls.0) (sym linked ∙ (ap (λ (z : Seen). is_target z.tree) (sym is) ∙ t)))

chain_target : (k : ℕ) (D : List Word → Seen → Type 0) (ws : List Word) (e : Seen) → Chain k D ws e → is_target e.tree ≡ true → D ws e
chain_target k D ws e d t = let th = d.derived in subst (λ z. D z e) (sym th.whole) (chain_by k D th.front th.back d.from.0 e d.from.1 th.second.from th.second.derived th.second.is d.is t th.first)

awaited_target : (I : Kind → List Word → Seen → Type 0) (ws : List Word) (e : Seen) → Awaited I ws e → is_target e.tree ≡ true → Primary I ws e
awaited_target I ws e (inl d) t = absurd (tree_no_target e (await_seen d.from) d.is refl t)
awaited_target I ws e (inr d) t = d

power_by : (I : Kind → List Word → Seen → Type 0) (front back : List Word) (c e : Seen) (o : Option (Place × Seen)) → Maybe (Signed (codes "**") ▸ I a_unary) back o → e ≡ power_seen (c, o) → is_target e.tree ≡ true → Awaited I front c → Primary I (front ++ back) e
power_by I front back c e o (not_there) is t d = subst (λ z. Primary I z e) (sym (append-nil front)) (awaited_target I front e (subst (Awaited I front) (sym is) d) t)
power_by I front back c e o (there {x = x} f) is t d = absurd (tree_no_target e (power_seen (c, Some x)) is refl t)

power_target : (I : Kind → List Word → Seen → Type 0) (room : ℕ) (ws : List Word) (e : Seen) → PowerRule I room ws e → is_target e.tree ≡ true → Primary I ws e
power_target I room ws e d t = let th = d.derived.derived in subst (λ z. Primary I z e) (sym th.whole) (power_by I th.front th.back d.from.0 e d.from.1 th.second d.is t th.first)

unary_target : (I : Kind → List Word → Seen → Type 0) (room : ℕ) (ws : List Word) (e : Seen) → UnaryRule I room ws e → is_target e.tree ≡ true → Primary I ws e
unary_target I room ws e (inl d) t = absurd (tree_no_target e (unary_seen d.from) d.is refl t)
unary_target I room ws e (inr d) t = power_target I room ws e d t

level_target : (I : Kind → List Word → Seen → Type 0) (room k : ℕ) (ws : List Word) (e : Seen) → Level I room k ws e → is_target e.tree ≡ true → Primary I ws e
level_target I room zero ws e d t = unary_target I room ws e d t
level_target I room (suc k) ws e d t = level_target I room k ws e (chain_target k (Level I room k) ws e d t) t

not_target : (I : Kind → List Word → Seen → Type 0) (room : ℕ) (ws : List Word) (e : Seen) → NotRule I room ws e → is_target e.tree ≡ true → Primary I ws e
not_target I room ws e (inl d) t = absurd (tree_no_target e (not_seen d.from) d.is refl t)
not_target I room ws e (inr d) t = level_target I room 7 ws e d t

or_target : (I : Kind → List Word → Seen → Type 0) (room : ℕ) (ws : List Word) (e : Seen) → OrRule I room ws e → is_target e.tree ≡ true → Primary I ws e
or_target I room ws e d t = not_target I room ws e (chain_target 7 (NotRule I room) ws e (chain_target 8 (Chain 7 (NotRule I room)) ws e d t) t) t

choice_by : (I : Kind → List Word → Seen → Type 0) (room : ℕ) (front back : List Word) (c e : Seen) (o : Option (Place × (Seen × (Place × Seen)))) → Maybe (Keyed (codes "if") ▸ (I an_or ▸ (Keyed (codes "else") ▸ I an_expr))) back o → e ≡ choice_seen (c, o) → is_target e.tree ≡ true → OrRule I room front c → Primary I (front ++ back) e
choice_by I room front back c e o (not_there) is t d = subst (λ z. Primary I z e) (sym (append-nil front)) (or_target I room front e (subst (OrRule I room front) (sym is) d) t)
choice_by I room front back c e o (there {x = x} f) is t d = absurd (tree_no_target e (choice_seen (c, Some x)) is refl t)

pub expr_target : (I : Kind → List Word → Seen → Type 0) (room : ℕ) (ws : List Word) (e : Seen) → ExprRule I room ws e → is_target e.tree ≡ true → Primary I ws e
expr_target I room ws e d t = let th = d.derived.derived in subst (λ z. Primary I z e) (sym th.whole) (choice_by I room th.front th.back d.from.0 e d.from.1 th.second d.is t th.first)
