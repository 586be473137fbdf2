-- Laws of the names of a script.
use Rattle.std.proofs.Common.{◌≡◌, refl, ℕ, ◌+◌, ◌<◌, Bool, true, false, cond, List, [], ◌∷◌, ◌++◌, length, take, get_or, ltb, sym, ap, ◌∙◌, subst, arith}
use Rattle.std.specs.Prelude.{Option, Some, None, option_and_then}
use Rattle.std.proofs.lemmas.Bool.Decides.{nat_tests}
use Rattle.std.specs.List.{position_or_len, find}
use Rattle.std.specs.Option.{option_map}
use Rattle.std.specs.Prelude.{position, is_some, not, slice_get, bytes_eq, IfSome}
use denote.Ref.{Bor}
use Rattle.std.proofs.lemmas.Option.{slice_get_past, slice_get_read}
use Rattle.std.proofs.lemmas.Slice.Eq.{bytes_eq-Decides}
use Rattle.play_text.specs.declared.board.Shown.{Shown}
use Rattle.std.proofs.lemmas.List.{length-append, take_more, length-take-le}
use Rattle.std.proofs.lemmas.List.Folds.{prefix_len-append, find_at}
use Rattle.std.proofs.lemmas.Bool.{false≢true}
use Rattle.std.proofs.lemmas.List.Sums.{prefix_len-le-length}
use Rattle.play_text.specs.ScriptParts.{is_settable_as}
use Rattle.std.proofs.lemmas.Bool.{and_parts, and_left}

none_from_absent : {X : Type 0} (o : Option X) → is_some o ≡ false → o ≡ None
none_from_absent None h = refl
none_from_absent (Some x) h = absurd (false≢true (sym h))

-- one more element at the end
position-push : {X : Type 0} (p : X → Bool) (xs : List X) (x : X) → position p (xs ++ x ∷ []) ≡ cond (is_some (position p xs)) (position p xs) (cond (p x) (Some (length xs)) None)
position-push p xs x =
    let a = prefix_len-append (λ y. not (p y)) xs (x ∷ []) in
    let l = length-append xs (x ∷ []) in
    let b = prefix_len-le-length (λ y. not (p y)) xs in
    grind (arith, nat_tests)

-- one that has no name, or whose name an earlier one has, changes nothing
pub position_kept : {X : Type 0} (p : X → Bool) (xs : List X) (x : X) → (p x ≡ true → is_some (position p xs) ≡ true) → position p (xs ++ x ∷ []) ≡ position p xs
position_kept p xs x h = position-push p xs x ∙ here (position p xs) (p x) h
  where
    here : (o : Option ℕ) (t : Bool) → (t ≡ true → is_some o ≡ true) → cond (is_some o) o (cond t (Some (length xs)) None) ≡ o
    here (Some n) t k = refl
    here None true k = absurd (false≢true (k refl))
    here None false k = refl

-- the first one of a name
pub position_first : {X : Type 0} (p : X → Bool) (xs : List X) (x : X) → p x ≡ true → position p xs ≡ None → position p (xs ++ x ∷ []) ≡ Some (length xs)
position_first p xs x here none = position-push p xs x ∙ rw (none, here) refl

-- what is found stands at its position
pub find_position : {X : Type 0} (p : X → Bool) (xs : List X) → find p xs ≡ option_and_then (slice_get xs) (position p xs)
find_position p xs = find_at p xs ∙ within (position_or_len p xs) (ltb (position_or_len p xs) (length xs)) refl
  where
    within : (n : ℕ) (t : Bool) → ltb n (length xs) ≡ t → slice_get xs n ≡ option_and_then (slice_get xs) (cond t (Some n) None)
    within n true h = refl
    within n false h = slice_get_past xs n (grind (arith, nat_tests))

-- what `get` of a slice gives
pub got_is : {X : Type 0} (xs : List X) (i : ℕ) (r : Option (Bor X)) → is_some r ≡ ltb i (length xs) → IfSome r (λ x. x.now ≡ get_or xs i x.now) → option_map (λ x. x.now) r ≡ slice_get xs i
got_is xs i None within is = sym (slice_get_past xs i (grind (arith, nat_tests)))
got_is xs i (Some x) within is = sym (slice_get_read xs (length xs) i x.now refl (grind (arith, nat_tests)) is)

-- the elements up to one more
take_push : {X : Type 0} (xs : List X) (i : ℕ) (x : X) → i < length xs → x ≡ get_or xs i x → take (i + 1) xs ≡ take i xs ++ x ∷ []
take_push xs i x held is = take_more xs i x held ∙ ap (λ y. take i xs ++ y ∷ []) (sym is)

-- a column that no script may set, or whose name an earlier one has, gets no number
pub numbered_same : (xs : List Shown) (i : ℕ) (x : Shown) (old : List ℕ → Option ℕ) → i < length xs → x ≡ get_or xs i x
    → ((q : List ℕ) → old q ≡ position (is_settable_as q) (take i xs)) → ((q : List ℕ) → is_settable_as q x ≡ true → is_some (old q) ≡ true)
    → (q : List ℕ) → old q ≡ position (is_settable_as q) (take (i + 1) xs)
numbered_same xs i x old held is had known q =
    rw (take_push xs i x held is)
    (had q ∙ sym (position_kept (is_settable_as q) (take i xs) x (λ t. ap (λ (o : Option ℕ). is_some o) (sym (had q)) ∙ known q t)))

-- a column of a new name gets its number
pub numbered_new : (xs : List Shown) (i : ℕ) (x : Shown) (old new : List ℕ → Option ℕ) → i < length xs → x ≡ get_or xs i x
    → ((q : List ℕ) → old q ≡ position (is_settable_as q) (take i xs)) → x.is_settable ≡ true → is_some (old x.name) ≡ false
    → ((q : List ℕ) → new q ≡ cond (bytes_eq x.name q) (Some i) (old q))
    → (q : List ℕ) → new q ≡ position (is_settable_as q) (take (i + 1) xs)
numbered_new xs i x old new held is had may absent made q =
    rw (take_push xs i x held is) (made q ∙ here (bytes_eq x.name q) refl)
  where
    here : (t : Bool) → bytes_eq x.name q ≡ t → cond t (Some i) (old q) ≡ position (is_settable_as q) (take i xs ++ x ∷ [])
    here true e =
        let same : x.name ≡ q = (bytes_eq-Decides x.name q).0 e in
        let none : position (is_settable_as q) (take i xs) ≡ None = sym (had q) ∙ ap old (sym same) ∙ none_from_absent (old x.name) absent in
        let len : i ≡ length (take i xs) = omega (arith, length-take-le i xs (omega arith)) in
        ap (λ (n : ℕ). Some n) len ∙ sym (position_first (is_settable_as q) (take i xs) x (rw (may, e) refl) none)
    here false e =
        let no : is_settable_as q x ≡ false = rw (may, e) refl in
        had q ∙ sym (position_kept (is_settable_as q) (take i xs) x (λ t. absurd (false≢true (sym no ∙ t))))

-- a name of a column that none may set is not looked for
pub not_settable : (x : Shown) (q : List ℕ) (P : Type 0) → x.is_settable ≡ false → is_settable_as q x ≡ true → P
not_settable x q P never named = absurd (false≢true (sym (and_left x.is_settable (bytes_eq x.name q) never) ∙ named))

-- of columns of one name the map knows the first
pub known_twin : (x : Shown) (q : List ℕ) (old : List ℕ → Option ℕ) → is_some (old x.name) ≡ true → is_settable_as q x ≡ true → is_some (old q) ≡ true
known_twin x q old known named =
    subst (λ (n : List ℕ). is_some (old n) ≡ true) ((bytes_eq-Decides x.name q).0 (and_parts x.is_settable (bytes_eq x.name q) named).1) known
