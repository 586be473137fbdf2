-- Bindings as a list and a map keep them, and as clauses see them.
use Rattle.std.proofs.Common.{◌≡◌, ℕ, zero, suc, ◌<◌, ◌+◌, Bool, true, false, cond, List, [], ◌∷◌, ◌++◌, map, length, position, nat_lt, slice_get, slice_set, get_or, not, arith, ◌≤◌, ◌-◌, Some, None, refl, ap, sym, ◌∙◌}
use Rattle.std.specs.Prelude.{String, string_bytes}
use Rattle.std.specs.Str.{bytes_eq}
use Rattle.std.specs.String.{string_eq}
use Rattle.std.specs.List.{list_any, position_or_len}
use Rattle.std.specs.Map.{lookup}
use Rattle.std.proofs.lemmas.Bool.{false≢true}
use Rattle.std.proofs.lemmas.Bool.Decides.{nat_tests}
use Rattle.std.proofs.lemmas.List.{append-nil}
use Rattle.std.proofs.lemmas.List.Quantifiers.{position-Some}
use Rattle.indexmap.specs.IndexMap.{insert_entry}
use Rattle.lists.specs.Texts.{text_eq}
use Rattle.py_values.specs.declared.val.Val.{Val}
use Rattle.py_values.specs.Bindings.{by_bytes, bound_in, bound_to, is_among}

-- the two tests of texts agree
pub bytes_eq-text_eq : (xs ys : List ℕ) → bytes_eq xs ys ≡ text_eq xs ys
bytes_eq-text_eq [] [] = refl
bytes_eq-text_eq [] (y ∷ ys) = refl
bytes_eq-text_eq (x ∷ xs) [] = refl
bytes_eq-text_eq (x ∷ xs) (y ∷ ys) = rw (bytes_eq-text_eq xs ys) refl

-- ---- in a map

pub lookup-by_bytes : {Y : Type 0} (name : List ℕ) (es : List (String Y × Val)) → lookup (λ k. bytes_eq name (string_bytes k)) es ≡ bound_in name (by_bytes es)
lookup-by_bytes name [] = refl
lookup-by_bytes name (e ∷ es) = rw (bytes_eq-text_eq name (string_bytes e.0), lookup-by_bytes name es) refl

by_bytes-if : {Y : Type 0} (b : Bool) (xs ys : List (String Y × Val)) → by_bytes (cond b xs ys) ≡ cond b (by_bytes xs) (by_bytes ys)
by_bytes-if true xs ys = refl
by_bytes-if false xs ys = refl

pub by_bytes-insert_entry : {Y : Type 0} (k : String Y) (v : Val) (es : List (String Y × Val)) → by_bytes (insert_entry string_eq es k v) ≡ bound_to (string_bytes k) v (by_bytes es)
by_bytes-insert_entry k v [] = refl
by_bytes-insert_entry k v (e ∷ es) =
    by_bytes-if (string_eq k e.0) ((e.0, v) ∷ es) (e ∷ insert_entry string_eq es k v) ∙ rw (bytes_eq-text_eq (string_bytes k) (string_bytes e.0), by_bytes-insert_entry k v es) refl

pub bound_entries : {Y : Type 0} (k : String Y) (v : Val) (old new : List (String Y × Val)) (name : List ℕ) → new ≡ insert_entry string_eq old k v → string_bytes k ≡ name → by_bytes new ≡ bound_to name v (by_bytes old)
bound_entries k v old new name e n = ap by_bytes e ∙ by_bytes-insert_entry k v old ∙ (λ i. bound_to (n i) v (by_bytes old))

-- ---- in a list, with others behind it

pub by_bytes-append : {Y : Type 0} (es fs : List (String Y × Val)) → by_bytes (es ++ fs) ≡ by_bytes es ++ by_bytes fs
by_bytes-append [] fs = refl
by_bytes-append (e ∷ es) fs = ap (λ bs. (string_bytes e.0, e.1) ∷ bs) (by_bytes-append es fs)

later : (k n : ℕ) → nat_lt (1 + k) (suc n) ≡ false → nat_lt k n ≡ false
later k n e = grind (arith, nat_tests)

at_first : (n : ℕ) → nat_lt 0 (suc n) ≡ true
at_first n = grind (arith, nat_tests)

some_not_none : (b : Bool) (x : ℕ) → cond b (Some x) None ≡ None → b ≡ false
some_not_none true x e = cc
some_not_none false x e = refl

module _ {Y : Type 0} (name : List ℕ) where
  -- whether an entry has the name
  abbrev pub has_name : String Y × Val → Bool
  has_name e = bytes_eq name (string_bytes e.0)

  -- the name stands at a place, and not before it
  abbrev StandsAt : List (String Y × Val) → ℕ → Type 0
  StandsAt [] i = ⊥
  StandsAt (e ∷ es) zero = has_name e ≡ true
  StandsAt (e ∷ es) (suc i) = (has_name e ≡ false) × StandsAt es i

  standing : (es : List (String Y × Val)) (i : ℕ) (d : String Y × Val) → i < length es → has_name (get_or es i d) ≡ true → ((k : ℕ) → k < i → has_name (get_or es k d) ≡ false) → StandsAt es i
  standing [] i d within here before = absurd (omega (arith, within))
  standing (e ∷ es) zero d within here before = here
  standing (e ∷ es) (suc i) d within here before = (before 0 (omega arith), standing es i d (omega (arith, within)) here (λ k lt. before (suc k) (omega (arith, lt))))

  stands : (es : List (String Y × Val)) (i : ℕ) (d : String Y × Val) → position has_name es ≡ Some i → StandsAt es i
  stands es i d at =
      let found = position-Some has_name es i d at in
      standing es i d found.0 found.1 found.2

  -- the name stands nowhere
  abbrev IsNowhere : List (String Y × Val) → Type 0
  IsNowhere [] = Unit {0}
  IsNowhere (e ∷ es) = (has_name e ≡ false) × IsNowhere es

  nowhere_step : (e : String Y × Val) (es : List (String Y × Val)) (b : Bool) → has_name e ≡ b → nat_lt (cond (not b) (1 + position_or_len has_name es) 0) (suc (length es)) ≡ false
      → (nat_lt (position_or_len has_name es) (length es) ≡ false → IsNowhere es) → IsNowhere (e ∷ es)
  nowhere_step e es true is none more = absurd (false≢true (sym none ∙ at_first (length es)))
  nowhere_step e es false is none more = (is, more (later (position_or_len has_name es) (length es) none))

  nowhere_in : (es : List (String Y × Val)) → nat_lt (position_or_len has_name es) (length es) ≡ false → IsNowhere es
  nowhere_in [] none = tt
  nowhere_in (e ∷ es) none = nowhere_step e es (has_name e) refl none (nowhere_in es)

  nowhere : (es : List (String Y × Val)) → position has_name es ≡ None → IsNowhere es
  nowhere es none = nowhere_in es (some_not_none (nat_lt (position_or_len has_name es) (length es)) (position_or_len has_name es) none)

  front_value : (es fs : List (String Y × Val)) (i : ℕ) (d : String Y × Val) → StandsAt es i → bound_in name (by_bytes (es ++ fs)) ≡ Some (get_or es i d).1
  front_value [] fs i d h = absurd h
  front_value (e ∷ es) fs zero d h = rw (← bytes_eq-text_eq name (string_bytes e.0), h) refl
  front_value (e ∷ es) fs (suc i) d h = rw (← bytes_eq-text_eq name (string_bytes e.0), h.0) (front_value es fs i d h.1)

  pub bound_in-front : (es fs : List (String Y × Val)) (i : ℕ) (d : String Y × Val) → position has_name es ≡ Some i → bound_in name (by_bytes (es ++ fs)) ≡ Some (get_or es i d).1
  bound_in-front es fs i d at = front_value es fs i d (stands es i d at)

  behind_value : (es fs : List (String Y × Val)) → IsNowhere es → bound_in name (by_bytes (es ++ fs)) ≡ bound_in name (by_bytes fs)
  behind_value [] fs h = refl
  behind_value (e ∷ es) fs h = rw (← bytes_eq-text_eq name (string_bytes e.0), h.0) (behind_value es fs h.1)

  pub bound_in-behind : (es fs : List (String Y × Val)) → position has_name es ≡ None → bound_in name (by_bytes (es ++ fs)) ≡ bound_in name (by_bytes fs)
  bound_in-behind es fs none = behind_value es fs (nowhere es none)

  front_put : (v : Val) (es fs : List (String Y × Val)) (i : ℕ) (d : String Y × Val) → StandsAt es i → by_bytes (slice_set es i ((get_or es i d).0, v) ++ fs) ≡ bound_to name v (by_bytes (es ++ fs))
  front_put v [] fs i d h = absurd h
  front_put v (e ∷ es) fs zero d h = rw (← bytes_eq-text_eq name (string_bytes e.0), h) refl
  front_put v (e ∷ es) fs (suc i) d h = rw (← bytes_eq-text_eq name (string_bytes e.0), h.0) (ap (λ bs. (string_bytes e.0, e.1) ∷ bs) (front_put v es fs i d h.1))

  pub bound_to-front : (v : Val) (es fs : List (String Y × Val)) (i : ℕ) (d : String Y × Val) → position has_name es ≡ Some i → by_bytes (slice_set es i ((get_or es i d).0, v) ++ fs) ≡ bound_to name v (by_bytes (es ++ fs))
  bound_to-front v es fs i d at = front_put v es fs i d (stands es i d at)

  behind_put : (v : Val) (es fs : List (String Y × Val)) → IsNowhere es → bound_to name v (by_bytes (es ++ fs)) ≡ by_bytes es ++ bound_to name v (by_bytes fs)
  behind_put v [] fs h = refl
  behind_put v (e ∷ es) fs h = rw (← bytes_eq-text_eq name (string_bytes e.0), h.0) (ap (λ bs. (string_bytes e.0, e.1) ∷ bs) (behind_put v es fs h.1))

  -- bound behind the front
  pub bound_to-behind : (v : Val) (es fs gs : List (String Y × Val)) → position has_name es ≡ None → by_bytes gs ≡ bound_to name v (by_bytes fs) → by_bytes (es ++ gs) ≡ bound_to name v (by_bytes (es ++ fs))
  bound_to-behind v es fs gs none e = by_bytes-append es gs ∙ ap (λ bs. by_bytes es ++ bs) e ∙ sym (behind_put v es fs (nowhere es none))

  -- added to the front, where nothing is behind it
  pub bound_to-end : (v : Val) (es fs gs : List (String Y × Val)) → position has_name es ≡ None → fs ≡ [] → by_bytes gs ≡ by_bytes es ++ (name, v) ∷ [] → by_bytes (gs ++ fs) ≡ bound_to name v (by_bytes (es ++ fs))
  bound_to-end v es fs gs none empty e =
      by_bytes-append gs fs ∙ (λ i. e i ++ by_bytes (empty i)) ∙ append-nil (by_bytes es ++ (name, v) ∷ []) ∙ ap (λ (fs : List (String Y × Val)). by_bytes es ++ bound_to name v (by_bytes fs)) (sym empty)
      ∙ sym (behind_put v es fs (nowhere es none))

pub slice_get-behind : {Y : Type 0} (es fs : List (String Y × Val)) (i : ℕ) → length es ≤ i → slice_get (by_bytes (es ++ fs)) i ≡ slice_get (by_bytes fs) (i - length es)
slice_get-behind [] fs i h = ap (slice_get (by_bytes fs)) (omega arith)
slice_get-behind (e ∷ es) fs zero h = absurd (omega (arith, h))
slice_get-behind (e ∷ es) fs (suc i) h = slice_get-behind es fs i (omega (arith, h)) ∙ ap (slice_get (by_bytes fs)) (omega arith)

pub is_among-map : {Y : Type 0} (name : List ℕ) (names : List (String Y)) → list_any (λ own. bytes_eq name (string_bytes own)) names ≡ is_among name (map string_bytes names)
is_among-map name [] = refl
is_among-map name (own ∷ names) = rw (bytes_eq-text_eq name (string_bytes own), is_among-map name names) refl
