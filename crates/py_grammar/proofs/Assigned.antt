-- Expressions with `=` between each two, all but the last targets, are an assignment, or one that is evaluated.
use Rattle.std.proofs.Common.{◌≡◌, refl, sym, ap, subst, ◌∙◌, List, [], ◌∷◌, ◌++◌, append_assoc, inl, inr}
use Rattle.std.proofs.lemmas.List.{append-nil}
use Rattle.std.specs.Prelude.{true, false, ◌&&◌, if◌then◌else◌, map, codes}
use Rattle.amh_host.specs.declared.place.Place.{Place}
use Rattle.py_tree.specs.Tree.{Tree, trees}
use Rattle.py_tree.specs.Steps.{Step, Assign}
use Rattle.py_grammar.specs.declared.word.Word.{Word}
use Rattle.py_grammar.specs.declared.word.Kind.{Kind}
use Rattle.py_grammar.specs.Forms.{Signed, Then, ◌▸◌, ◌∣◌, Made, Many, no_more, one_more}
use Rattle.py_grammar.specs.Seen.{Seen, is_target, seen_is_target, is_empty}
use Rattle.py_grammar.specs.Shapes.{evaluate_seen}
use Rattle.py_grammar.specs.Statements.{Exprs, Targets, Assignment}
use Rattle.py_grammar.specs.Line_reading.{are_assigned, front_trees, last_tree, assigned_seen}
use Rattle.py_grammar.proofs.Ends.{and_first, and_second}
use Rattle.py_grammar.proofs.Target_lists.{Knows_targets, targets_exprs, targets_are, exprs_targets}

abbrev pub Values : (Kind → List Word → Seen → Type 0) → List Word → List (Place × Seen) → Type 0
Values I = Many (Signed (codes "=") ▸ Exprs I)

abbrev pub Receivers : (Kind → List Word → Seen → Type 0) → List Word → List (Seen × Place) → Type 0
Receivers I = Many (Targets I ▸ Signed (codes "="))

abbrev receiver_trees : List (Seen × Place) → List Tree
receiver_trees ys = map (λ (y : Seen × Place). y.0.tree) ys

-- ---- a sign before each as a sign behind each

record Regrouped (I : Kind → List Word → Seen → Type 0) (ws : List Word) (t : Tree) (xs : List (Place × Seen)) : Type 0 where
  receivers : List (Seen × Place)
  value : Seen
  derived : Then (Receivers I) (Exprs I) ws (receivers, value)
  fronts : front_trees t xs ≡ receiver_trees receivers
  last : last_tree t xs ≡ value.tree

seam : (a b c d f g : List Word) → b ≡ c ++ d → d ++ f ≡ g → a ++ (b ++ f) ≡ (a ++ c) ++ g
seam a b c d f g h k = ap (λ z. a ++ (z ++ f)) h ∙ (ap (λ z. a ++ z) (append_assoc c d f ∙ ap (λ z. c ++ z) k) ∙ sym (append_assoc a c g))

regroup : (I : Kind → List Word → Seen → Type 0) → Knows_targets I → (ws vs : List Word) (e : Seen) (xs : List (Place × Seen)) → Exprs I ws e → Values I vs xs → are_assigned e xs ≡ true → Regrouped I (ws ++ vs) e.tree xs
regroup I kt ws vs e xs d (no_more) t = record { receivers = []; value = e; derived = record { front = []; back = ws ++ []; whole = refl; first = no_more; second = subst (λ z. Exprs I z e) (sym (append-nil ws)) d }; fronts = refl; last = refl }
regroup I kt ws vs e xs d (one_more {ws = us} {us = ys} {x = x} {xs = zs} f m) t =
    let r = regroup I kt f.back ys x.1 zs f.second m (and_second (seen_is_target e) (are_assigned x.1 zs) t) in
    let one : Targets I ws e = exprs_targets I kt ws e d (and_first (seen_is_target e) (are_assigned x.1 zs) t) in
    let pair : Then (Targets I) (Signed (codes "=")) (ws ++ f.front) (e, x.0) = record { front = ws; back = f.front; whole = refl; first = one; second = f.first } in
    record {
      receivers = (e, x.0) ∷ r.receivers;
      value = r.value;
      derived = record { front = (ws ++ f.front) ++ r.derived.front; back = r.derived.back; whole = seam ws us f.front f.back ys (r.derived.front ++ r.derived.back) f.whole r.derived.whole ∙ sym (append_assoc (ws ++ f.front) r.derived.front r.derived.back); first = one_more pair r.derived.first; second = r.derived.second };
      fronts = ap (λ z. e.tree ∷ z) r.fronts;
      last = r.last;
    }

pub assignment_of : (I : Kind → List Word → Seen → Type 0) → Knows_targets I → (front back : List Word) (e : Seen) (xs : List (Place × Seen)) (s : Step) → Exprs I front e → Values I back xs → are_assigned e xs ≡ true → s ≡ assigned_seen (e, xs) → (Assignment I ∣ Made evaluate_seen (Exprs I)) (front ++ back) s
assignment_of I kt front back e xs s d (no_more) t is = inr record { from = e; derived = subst (λ z. Exprs I z e) (sym (append-nil front)) d; is = is }
assignment_of I kt front back e xs s d (one_more {ws = us} {us = ys} {x = x} {xs = zs} f m) t is =
    let r = regroup I kt f.back ys x.1 zs f.second m (and_second (seen_is_target e) (are_assigned x.1 zs) t) in
    let one : Targets I front e = exprs_targets I kt front e d (and_first (seen_is_target e) (are_assigned x.1 zs) t) in
    let whole : us ++ ys ≡ f.front ++ (f.back ++ ys) = ap (λ z. z ++ ys) f.whole ∙ append_assoc f.front f.back ys in
    inl record {
      from = (e, (x.0, (r.receivers, r.value)));
      derived = record { front = front; back = us ++ ys; whole = refl; first = one; second = record { front = f.front; back = f.back ++ ys; whole = whole; first = f.first; second = r.derived } };
      is = is ∙ (ap (λ z. Assign e.place (trees (e.tree ∷ z)) (last_tree x.1.tree zs)) r.fronts ∙ ap (λ z. Assign e.place (trees (e.tree ∷ receiver_trees r.receivers)) z) r.last);
    }

-- ---- a sign behind each as a sign before each

chained : Place → List (Seen × Place) → Seen → List (Place × Seen)
chained p [] v = (p, v) ∷ []
chained p (y ∷ ys) v = (p, y.0) ∷ chained y.1 ys v

chained_some : (p : Place) (ys : List (Seen × Place)) (v : Seen) → is_empty (chained p ys v) ≡ false
unfolding chained
chained_some p [] v = refl
chained_some p (y ∷ ys) v = refl

chained_front : (t : Tree) (p : Place) (ys : List (Seen × Place)) (v : Seen) → front_trees t (chained p ys v) ≡ t ∷ receiver_trees ys
unfolding chained
chained_front t p [] v = refl
chained_front t p (y ∷ ys) v = ap (λ z. t ∷ z) (chained_front y.0.tree y.1 ys v)

chained_last : (t : Tree) (p : Place) (ys : List (Seen × Place)) (v : Seen) → last_tree t (chained p ys v) ≡ v.tree
unfolding chained
chained_last t p [] v = refl
chained_last t p (y ∷ ys) v = chained_last y.0.tree y.1 ys v

chained_fits : (I : Kind → List Word → Seen → Type 0) → Knows_targets I → (us : List Word) (e : Seen) (p : Place) (ys : List (Seen × Place)) (v : Seen) → is_target e.tree ≡ true → Receivers I us ys → are_assigned e (chained p ys v) ≡ true
unfolding chained
chained_fits I kt us e p ys v t (no_more) = ap (λ z. z && true) t
chained_fits I kt us e p ys v t (one_more {us = bs} {x = x} {xs = zs} f m) = ap (λ z. z && are_assigned x.0 (chained x.1 zs v)) t ∙ chained_fits I kt bs x.0 x.1 zs v (targets_are I kt f.front x.0 f.first) m

ungroup : (I : Kind → List Word → Seen → Type 0) → Knows_targets I → (ws us vs : List Word) (p : Place) (ys : List (Seen × Place)) (v : Seen) → Signed (codes "=") ws p → Receivers I us ys → Exprs I vs v → Values I (ws ++ (us ++ vs)) (chained p ys v)
unfolding chained
ungroup I kt ws us vs p ys v s (no_more) d = subst (λ z. Values I z ((p, v) ∷ [])) (append-nil (ws ++ vs)) (one_more (record { front = ws; back = vs; whole = refl; first = s; second = d }) no_more)
ungroup I kt ws us vs p ys v s (one_more {ws = qs} {us = bs} {x = x} {xs = zs} f m) d =
    let rest = ungroup I kt f.back bs vs x.1 zs v f.second m d in
    let pair : Then (Signed (codes "=")) (Exprs I) (ws ++ f.front) (p, x.0) = record { front = ws; back = f.front; whole = refl; first = s; second = targets_exprs I kt f.front x.0 f.first } in
    let whole : ws ++ ((qs ++ bs) ++ vs) ≡ (ws ++ f.front) ++ (f.back ++ (bs ++ vs)) = ap (λ z. ws ++ z) (append_assoc qs bs vs) ∙ seam ws qs f.front f.back (bs ++ vs) (f.back ++ (bs ++ vs)) f.whole refl in
    subst (λ z. Values I z ((p, x.0) ∷ chained x.1 zs v)) (sym whole) (one_more pair rest)

-- what stands behind the first expressions of an assignment
pub record Values_of (I : Kind → List Word → Seen → Type 0) (ws : List Word) (s : Step) : Type 0 where
  pub first : Seen
  pub others : List (Place × Seen)
  pub front : List Word
  pub back : List Word
  pub whole : ws ≡ front ++ back
  pub begun : Exprs I front first
  pub derived : Values I back others
  pub fits : are_assigned first others ≡ true
  pub is : s ≡ assigned_seen (first, others)

pub values_of : (I : Kind → List Word → Seen → Type 0) → Knows_targets I → (ws : List Word) (s : Step) → (Assignment I ∣ Made evaluate_seen (Exprs I)) ws s → Values_of I ws s
values_of I kt ws s (inr d) = record { first = d.from; others = []; front = ws; back = []; whole = sym (append-nil ws); begun = d.derived; derived = no_more; fits = refl; is = d.is }
values_of I kt ws s (inl d) =
    let e = d.from.0 in
    let p = d.from.1.0 in
    let ys = d.from.1.1.0 in
    let v = d.from.1.1.1 in
    let a = d.derived in
    let b = a.second in
    let c = b.second in
    let xs : List (Place × Seen) = chained p ys v in
    let whole : ws ≡ a.front ++ (b.front ++ (c.front ++ c.back)) = a.whole ∙ ap (λ z. a.front ++ z) (b.whole ∙ ap (λ z. b.front ++ z) c.whole) in
    let many_values : assigned_seen (e, xs) ≡ Assign e.place (trees (front_trees e.tree xs)) (last_tree e.tree xs) = ap (λ z. if z then evaluate_seen e else Assign e.place (trees (front_trees e.tree xs)) (last_tree e.tree xs)) (chained_some p ys v) in
    let same : Assign e.place (trees (front_trees e.tree xs)) (last_tree e.tree xs) ≡ Assign e.place (trees (e.tree ∷ receiver_trees ys)) v.tree = ap (λ z. Assign e.place (trees z) (last_tree e.tree xs)) (chained_front e.tree p ys v) ∙ ap (λ z. Assign e.place (trees (e.tree ∷ receiver_trees ys)) z) (chained_last e.tree p ys v) in
    record {
      first = e;
      others = xs;
      front = a.front;
      back = b.front ++ (c.front ++ c.back);
      whole = whole;
      begun = targets_exprs I kt a.front e a.first;
      derived = ungroup I kt b.front c.front c.back p ys v b.first c.first c.second;
      fits = chained_fits I kt c.front e p ys v (targets_are I kt a.front e a.first) c.first;
      is = d.is ∙ sym (many_values ∙ same);
    }
