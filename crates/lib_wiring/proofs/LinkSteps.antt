-- The steps of looking leaves up and of linking them.
use Rattle.std.proofs.Common.{◌≡◌, ℕ, zero, suc, ◌+◌, ◌-◌, ◌<◌, Bool, true, false, not, cond, List, [], ◌∷◌, ◌++◌, length, take, drop, get_or, Option, Some, None, refl, sym, ap, ◌∙◌, subst, arith, append-nil, drop-cons}
use Rattle.std.specs.Prelude.{◌&&◌, is_some, bytes_eq, option_to_list, Contains}
use Rattle.std.specs.List.{filter_map, cons_option, position_from}
use Rattle.std.proofs.lemmas.Bool.{false≢true}
use Rattle.std.proofs.lemmas.List.{take_more, take-append-drop}
use Rattle.std.proofs.lemmas.List.Folds.{list_all-append}
use Rattle.std.proofs.lemmas.Slice.Eq.{bytes_eq-Decides}
use Rattle.lists.specs.Texts.{text_eq}
use Rattle.lists.proofs.TextLaws.{text_eq_true, text_eq_same}
use Rattle.design_ir.specs.declared.signal.Sig.{Sig}
use Rattle.lib_wiring.specs.declared.leaf.Leaf.{Leaf}
use Rattle.lib_wiring.specs.declared.leaf.Link.{Link}
use Rattle.lib_wiring.specs.Wiring.{is_at, has_path, are_apart, first_leaves, leaf_at, meets, all_meet, link_to, AreSignals}
use Rattle.lib_wiring.specs.Places.{is_place, AreLinked}
use Rattle.lib_wiring.proofs.PlaceLaws.{are_apart-push, are_apart-front, bool_same, placed, placed_where, is_place_first, filter_map-append, first_leaves-push}
use Rattle.lib_wiring.proofs.LeafLaws.{all_at, counting}

-- ---- look-ups

pub looked_up : (ls : List Leaf) (look : List ℕ → Option ℕ) (path q : List ℕ) (o : Option ℕ) → ((p : List ℕ) → look p ≡ position_from (is_at p) 0 ls) → o ≡ look q → q ≡ path → o ≡ position_from (is_at path) 0 ls
looked_up ls look path q o places e same = e ∙ places q ∙ ap (λ p. position_from (is_at p) 0 ls) same

pub place_within : (ls : List Leaf) (path : List ℕ) (place : ℕ) → position_from (is_at path) 0 ls ≡ Some place → place < length ls
place_within ls path place e = omega (arith, (placed (is_at path) ls 0 place e).within)

pub leaf_placed : (ls : List Leaf) (path : List ℕ) (place : ℕ) (x : Leaf) → position_from (is_at path) 0 ls ≡ Some place → x ≡ get_or ls place x → leaf_at path ls ≡ Some x
leaf_placed ls path place x e is = (placed (is_at path) ls 0 place e).found x ∙ ap (λ i. Some (get_or ls i x)) (let same : place - 0 ≡ place = omega arith in same) ∙ ap Some (sym is)

each_at : (sigs : List Sig) (ls : List Leaf) (i : ℕ) (d : Leaf) → AreSignals sigs ls → i < length ls → (get_or ls i d).sig.0 < length sigs
each_at sigs [] i d h lt = absurd (omega (arith, lt))
each_at sigs (l ∷ ls) zero d h lt = h.0
each_at sigs (l ∷ ls) (suc i) d h lt = each_at sigs ls i d h.1 (omega (arith, lt))

pub signal_at : (sigs : List Sig) (ls : List Leaf) (i : ℕ) (x : Leaf) → AreSignals sigs ls → i < length ls → x ≡ get_or ls i x → x.sig.0 < length sigs
signal_at sigs ls i x h lt is = subst (λ (l : Leaf). l.sig.0 < length sigs) (sym is) (each_at sigs ls i x h lt)

-- one leaf more, in front
pub placed_more : (ls : List Leaf) (look look' : List ℕ → Option ℕ) (i : ℕ) (x : Leaf) (key : List ℕ) → i < length ls → x ≡ get_or ls i x → key ≡ x.path → ((p : List ℕ) → look p ≡ position_from (is_at p) (suc i) (drop (suc i) ls))
    → ((p : List ℕ) → look' p ≡ cond (bytes_eq key p) (Some i) (look p)) → (p : List ℕ) → look' p ≡ position_from (is_at p) i (drop i ls)
placed_more ls look look' i x key lt is same known put p =
    put p ∙ ap (λ b. cond b (Some i) (look p)) (bytes_text key p ∙ ap (λ k. text_eq k p) same) ∙ ap (λ o. cond (is_at p x) (Some i) o) (known p ∙ ap (λ n. position_from (is_at p) n (drop (suc i) ls)) (let e : suc i ≡ i + 1 = omega arith in e))
    ∙ ap (position_from (is_at p) i) (sym (drop-cons ls i x lt ∙ ap (λ l. l ∷ drop (suc i) ls) (sym is)))
  where
    bytes_text : (a b : List ℕ) → bytes_eq a b ≡ text_eq a b
    bytes_text a b = bool_same (bytes_eq a b) (text_eq a b) (λ h. subst (λ x. text_eq a x ≡ true) ((bytes_eq-Decides a b).0 h) (text_eq_same a)) (λ h. (bytes_eq-Decides a b).1 (text_eq_true a b h))

-- whether a path is one of an interface
pub path_looked_up : (ls : List Leaf) (look : List ℕ → Option ℕ) (path q : List ℕ) (o : Option ℕ) → ((p : List ℕ) → look p ≡ position_from (is_at p) 0 ls) → o ≡ look q → q ≡ path → is_some o ≡ has_path path ls
path_looked_up ls look path q o places e same = ap is_some (looked_up ls look path q o places e same) ∙ placed_where (is_at path) ls 0

-- whether a leaf counts
pub first_looked_up : (ls : List Leaf) (look : List ℕ → Option ℕ) (q : List ℕ) (i : ℕ) (x : Leaf) (b : Bool) → ((p : List ℕ) → look p ≡ position_from (is_at p) 0 ls) → b ≡ is_place i (look q) → q ≡ x.path → i < length ls → x ≡ get_or ls i x → b ≡ not (has_path x.path (take i ls))
first_looked_up ls look q i x b places e same lt is =
    e ∙ ap (is_place i) (looked_up ls look x.path q (look q) places refl same) ∙ ap (λ n. is_place n (position_from (is_at x.path) 0 ls)) (let z : i ≡ 0 + i = omega arith in z)
    ∙ is_place_first (is_at x.path) ls 0 i x lt (ap (is_at x.path) (sym is) ∙ text_eq_same x.path)

-- ---- links so far

not_true : (b : Bool) → true ≡ not b → b ≡ false
not_true true e = absurd (false≢true (sym e))
not_true false e = refl

not_false : (b : Bool) → false ≡ not b → b ≡ true
not_false true e = refl
not_false false e = absurd (false≢true e)

first_leaves-more : (ls : List Leaf) (i : ℕ) (x : Leaf) → i < length ls → x ≡ get_or ls i x → first_leaves (take (i + 1) ls) ≡ first_leaves (take i ls) ++ cond (has_path x.path (take i ls)) [] (x ∷ [])
first_leaves-more ls i x lt is = ap first_leaves (take_more ls i x lt ∙ ap (λ l. take i ls ++ l ∷ []) (sym is)) ∙ first_leaves-push (take i ls) x

-- a leaf that does not count changes nothing
pub linked_past : (sigs : List Sig) (first second : List Leaf) (links : List Link) (i : ℕ) (x : Leaf) → i < length first → x ≡ get_or first i x → false ≡ not (has_path x.path (take i first)) → AreLinked sigs (first_leaves (take i first)) second links → AreLinked sigs (first_leaves (take (i + 1) first)) second links
linked_past sigs first second links i x lt is seen h =
    subst (λ ls. AreLinked sigs ls second links) (sym (first_leaves-more first i x lt is ∙ ap (λ b. first_leaves (take i first) ++ cond b [] (x ∷ [])) (not_false (has_path x.path (take i first)) seen) ∙ append-nil (first_leaves (take i first)))) h

-- a leaf that counts and meets another
pub linked_more : (sigs : List Sig) (first second : List Leaf) (links : List Link) (i : ℕ) (x : Leaf) (o : Option Link) → i < length first → x ≡ get_or first i x → true ≡ not (has_path x.path (take i first)) → (meets sigs x (leaf_at x.path second) ≡ true) × (o ≡ link_to second x)
    → AreLinked sigs (first_leaves (take i first)) second links → AreLinked sigs (first_leaves (take (i + 1) first)) second (links ++ option_to_list o)
linked_more sigs first second links i x o lt is new met h =
    subst (λ ls. AreLinked sigs ls second (links ++ option_to_list o)) (sym (first_leaves-more first i x lt is ∙ ap (λ b. first_leaves (take i first) ++ cond b [] (x ∷ [])) (not_true (has_path x.path (take i first)) new)))
    record {
      met = list_all-append (λ l. meets sigs l (leaf_at l.path second)) (first_leaves (take i first)) (x ∷ []) ∙ ap (λ b. b && (meets sigs x (leaf_at x.path second) && true)) h.met ∙ ap (λ b. b && true) met.0;
      are =
          ap (λ ls. ls ++ option_to_list o) h.are ∙ ap (λ p. filter_map (link_to second) (first_leaves (take i first)) ++ option_to_list p) met.1
          ∙ sym (filter_map-append (link_to second) (first_leaves (take i first)) (x ∷ []) ∙ ap (λ ls. filter_map (link_to second) (first_leaves (take i first)) ++ ls) (one (link_to second x)));
    }
  where
    one : (p : Option Link) → cons_option p [] ≡ option_to_list p
    one None = refl
    one (Some z) = refl

-- a leaf that counts and meets none that it may meet
pub apart : (sigs : List Sig) (first second : List Leaf) (look : List ℕ → Option ℕ) (q : List ℕ) (i : ℕ) (x : Leaf) → ((p : List ℕ) → look p ≡ position_from (is_at p) 0 first) → true ≡ is_place i (look q) → q ≡ x.path → x ≡ get_or first i x → meets sigs x (leaf_at x.path second) ≡ false
    → all_meet sigs (first_leaves first) second ≡ false
apart sigs first second look q i x places here same is met = never (all_meet sigs (first_leaves first) second) (λ all. false≢true (sym met ∙ all_at (λ l. meets sigs l (leaf_at l.path second)) (first_leaves first) all x counts))
  where
    place_is : (o : Option ℕ) → true ≡ is_place i o → o ≡ Some i
    place_is None e = absurd (false≢true (sym e))
    place_is (Some j) e = grind arith

    never : (b : Bool) → (b ≡ true → ⊥) → b ≡ false
    never true f = absurd (f refl)
    never false f = refl

    counts : Contains (first_leaves first) x
    counts = counting x.path first x (leaf_placed first x.path i x (sym (looked_up first look x.path q (look q) places refl same) ∙ place_is (look q) here) is)

-- ---- paths that stand once

apart_at : (ls : List Leaf) (i : ℕ) (x : Leaf) (b : Bool) → i < length ls → x ≡ get_or ls i x → b ≡ not (has_path x.path (take i ls)) → are_apart (take i ls) ≡ true → are_apart (take (i + 1) ls) ≡ b
apart_at ls i x b lt is counts so_far =
    ap are_apart (take_more ls i x lt ∙ ap (λ l. take i ls ++ l ∷ []) (sym is)) ∙ are_apart-push (take i ls) x ∙ ap (λ c. c && not (has_path x.path (take i ls))) so_far ∙ sym counts

pub apart_more : (ls : List Leaf) (i : ℕ) (x : Leaf) (b : Bool) → i < length ls → x ≡ get_or ls i x → b ≡ not (has_path x.path (take i ls)) → b ≡ true → are_apart (take i ls) ≡ true → are_apart (take (i + 1) ls) ≡ true
apart_more ls i x b lt is counts e so_far = apart_at ls i x b lt is counts so_far ∙ e

pub apart_not : (ls : List Leaf) (i : ℕ) (x : Leaf) (b : Bool) → i < length ls → x ≡ get_or ls i x → b ≡ not (has_path x.path (take i ls)) → b ≡ false → are_apart (take i ls) ≡ true → false ≡ are_apart ls
apart_not ls i x b lt is counts e so_far =
    sym (ap are_apart (sym (take-append-drop (i + 1) ls)) ∙ are_apart-front (take (i + 1) ls) (drop (i + 1) ls) (apart_at ls i x b lt is counts so_far ∙ e))
