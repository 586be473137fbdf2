-- Names and values, one after the other, and lists that are put together.
use Rattle.std.proofs.Common.{◌≡◌, ℕ, ◌+◌, ◌<◌, ◌≤◌, refl, ap, ◌∙◌, sym, List, [], ◌∷◌, ◌++◌, length, get_or, drop, Some, codes}
use Rattle.std.specs.List.{slice_get}
use Rattle.std.proofs.lemmas.List.{append_assoc, append-nil, drop_all, drop_more}
use Rattle.std.proofs.lemmas.Option.{slice_get_within, get_or_from_slice_get}
use Rattle.py_values.specs.declared.val.Val.{Val}
use Rattle.py_values.specs.Bindings.{Binding}
use Rattle.py_frames.specs.declared.request.NamedVal.{NamedVal}
use Rattle.py_frames.specs.Functions.{named_val}
use Rattle.py_frames.specs.Values.{named_vals, named_names}
use Rattle.py_frames.specs.Statements.{bound_names, with_mark}

-- one more, and then the others
one_more : {A : Type 0} → (xs ys : List A) (x : A) → (xs ++ x ∷ []) ++ ys ≡ xs ++ x ∷ ys
one_more xs ys x = append_assoc xs (x ∷ []) ys

-- the element of a number begins what is left from there
bound_at : (xs : List Binding) (i : ℕ) (b : Binding) → slice_get xs i ≡ Some b → drop i xs ≡ b ∷ drop (i + 1) xs
bound_at xs i b h = drop_more xs i b (slice_get_within xs i b h) ∙ ap (λ z. z ∷ drop (i + 1) xs) (get_or_from_slice_get xs i b b h)

left_at : (xs : List NamedVal) (i : ℕ) (x : NamedVal) → i < length xs → x ≡ get_or xs i x → drop i xs ≡ x ∷ drop (i + 1) xs
left_at xs i x h e = drop_more xs i x h ∙ ap (λ z. z ∷ drop (i + 1) xs) (sym e)

pub listed_step : (xs : List Binding) (i : ℕ) (n : List ℕ) (v : Val) (names out : List NamedVal) (y : NamedVal) → slice_get xs i ≡ Some (n, v) → y ≡ named_val n v → out ≡ names ++ y ∷ [] → names ++ bound_names (drop i xs) ≡ bound_names xs → out ++ bound_names (drop (i + 1) xs) ≡ bound_names xs
listed_step xs i n v names out y e1 e2 e3 h =
    ap (λ o. o ++ bound_names (drop (i + 1) xs)) (e3 ∙ ap (λ z. names ++ z ∷ []) e2)
    ∙ (one_more names (bound_names (drop (i + 1) xs)) (named_val n v)
    ∙ (ap (λ z. names ++ bound_names z) (sym (bound_at xs i (n, v) e1)) ∙ h))

pub listed_end : (xs : List Binding) (i : ℕ) (names : List NamedVal) → length xs ≤ i → names ++ bound_names (drop i xs) ≡ bound_names xs → names ≡ bound_names xs
listed_end xs i names l h = sym (append-nil names) ∙ (ap (λ z. names ++ bound_names z) (sym (drop_all i xs l)) ∙ h)

pub vals_step : (xs : List NamedVal) (i : ℕ) (x : NamedVal) (vs out all : List Val) → i < length xs → x ≡ get_or xs i x → out ≡ vs ++ x.val ∷ [] → vs ++ named_vals (drop i xs) ≡ all → out ++ named_vals (drop (i + 1) xs) ≡ all
vals_step xs i x vs out all l e1 e2 h =
    ap (λ o. o ++ named_vals (drop (i + 1) xs)) e2
    ∙ (one_more vs (named_vals (drop (i + 1) xs)) x.val
    ∙ (ap (λ z. vs ++ named_vals z) (sym (left_at xs i x l e1)) ∙ h))

pub vals_end : (xs : List NamedVal) (i : ℕ) (vs all : List Val) → length xs ≤ i → vs ++ named_vals (drop i xs) ≡ all → vs ≡ all
vals_end xs i vs all l h = sym (append-nil vs) ∙ (ap (λ z. vs ++ named_vals z) (sym (drop_all i xs l)) ∙ h)

pub marked_step : (mark : List ℕ) (xs : List NamedVal) (i : ℕ) (x : NamedVal) (text : List ℕ) (ns out all : List (List ℕ)) → i < length xs → x ≡ get_or xs i x → text ≡ mark ++ x.name → out ≡ ns ++ text ∷ [] → ns ++ with_mark mark (drop i xs) ≡ all → out ++ with_mark mark (drop (i + 1) xs) ≡ all
marked_step mark xs i x text ns out all l e1 e2 e3 h =
    ap (λ o. o ++ with_mark mark (drop (i + 1) xs)) (e3 ∙ ap (λ z. ns ++ z ∷ []) e2)
    ∙ (one_more ns (with_mark mark (drop (i + 1) xs)) (mark ++ x.name)
    ∙ (ap (λ z. ns ++ with_mark mark z) (sym (left_at xs i x l e1)) ∙ h))

pub marked_end : (mark : List ℕ) (xs : List NamedVal) (i : ℕ) (ns all : List (List ℕ)) → length xs ≤ i → ns ++ with_mark mark (drop i xs) ≡ all → ns ≡ all
marked_end mark xs i ns all l h = sym (append-nil ns) ∙ (ap (λ z. ns ++ with_mark mark z) (sym (drop_all i xs l)) ∙ h)

-- three lists behind another
three_joined : {A : Type 0} → (os ps qs rs : List A) → ((os ++ ps) ++ qs) ++ rs ≡ os ++ (ps ++ (qs ++ rs))
three_joined os ps qs rs = append_assoc (os ++ ps) qs rs ∙ append_assoc os ps (qs ++ rs)

pub vals_joined : (x y : Val) (ps qs rs v1 v2 v3 v4 : List Val) → v1 ≡ x ∷ y ∷ [] → v2 ≡ v1 ++ ps → v3 ≡ v2 ++ qs → v4 ≡ v3 ++ rs → v4 ≡ x ∷ y ∷ (ps ++ (qs ++ rs))
vals_joined x y ps qs rs v1 v2 v3 v4 e1 e2 e3 e4 =
    e4 ∙ (ap (λ z. z ++ rs) (e3 ∙ ap (λ z. z ++ qs) (e2 ∙ ap (λ z. z ++ ps) e1)) ∙ three_joined (x ∷ y ∷ []) ps qs rs)

pub names_joined : (x : List ℕ) (ps qs rs v1 v2 v3 v4 : List (List ℕ)) → v1 ≡ x ∷ [] → v2 ≡ v1 ++ ps → v3 ≡ v2 ++ qs → v4 ≡ v3 ++ rs → v4 ≡ x ∷ (ps ++ (qs ++ rs))
names_joined x ps qs rs v1 v2 v3 v4 e1 e2 e3 e4 =
    e4 ∙ (ap (λ z. z ++ rs) (e3 ∙ ap (λ z. z ++ qs) (e2 ∙ ap (λ z. z ++ ps) e1)) ∙ three_joined (x ∷ []) ps qs rs)

-- without a mark
pub unmarked : (xs : List NamedVal) → with_mark (codes "") xs ≡ named_names xs
unmarked xs = refl

pub ruleset listed_rules = (listed_step, listed_end)

pub ruleset vals_rules = (vals_step, vals_end)

pub ruleset marked_rules = (marked_step, marked_end)

pub ruleset joined_rules = (vals_joined, names_joined)

pub ruleset end_rules = (unmarked)
