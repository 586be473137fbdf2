-- Lists that are gone through side by side: keywords, and the names of a star.
use Rattle.std.proofs.Common.{◌≡◌, ℕ, ◌+◌, ◌-◌, ◌<◌, ◌≤◌, refl, ap, ◌∙◌, sym, List, [], ◌∷◌, ◌++◌, length, map, take, drop, Some, None, arith}
use Rattle.std.specs.Prelude.{slice_get, slice_index_or}
use Rattle.std.proofs.lemmas.List.{take_all}
use Rattle.py_values.specs.declared.val.Val.{Val}
use Rattle.py_heap.proofs.ObjectLaws.{drop_at}
use Rattle.py_frames.specs.declared.request.Answer.{Answer}
use Rattle.py_frames.specs.declared.request.Answer.TheVariants as answer
use Rattle.py_frames.specs.declared.request.NamedVal.{NamedVal}
use Rattle.elab_components.specs.declared.signals.SignalArguments.{SignalArguments}
use Rattle.py_frames.specs.declared.request.Cause.TheVariants.{Raised}
use Rattle.elab_store.specs.Stores.{Held, Answered, refused}
use Rattle.elab_components.specs.Imports.{hdl_imported, all_bound, bound_answer, import_answered}
use Rattle.elab_components.specs.Signals.{with_keywords}

-- ---- keywords

pub keywords_none : (ns : List (List ℕ)) (vs : List Val) (args : SignalArguments) → 0 < length ns → length vs ≡ 0 → with_keywords ns vs args ≡ None
keywords_none [] vs args h1 h2 = absurd (omega arith)
keywords_none (n ∷ ns) [] args h1 h2 = refl
keywords_none (n ∷ ns) (v ∷ vs) args h1 h2 = absurd (omega arith)

-- ---- a star

pub bound_next : (names : List NamedVal) (ns : List (List ℕ)) (i : ℕ) (n : List ℕ) (v : Val) (h g : Held) (x : NamedVal) (all : Answered) → slice_get ns i ≡ Some n → hdl_imported n h ≡ record { answer = answer.Give v; held = g } → x ≡ record { name = n; val = v }
    → all_bound names (drop i ns) h ≡ all → all_bound (names ++ x ∷ []) (drop (i + 1) ns) g ≡ all
bound_next names ns i n v h g x all e1 e2 e3 e4 =
    let after = λ (a : Answered). bound_answer names n a.held (λ more k. all_bound more (drop (i + 1) ns) k) a.answer in
    ap (λ y. all_bound (names ++ y ∷ []) (drop (i + 1) ns) g) e3 ∙ sym (ap (λ xs. all_bound names xs h) (drop_at ns i n e1) ∙ ap after e2) ∙ e4

-- what is no value ends it
pub bound_ends : (names : List NamedVal) (ns : List (List ℕ)) (i : ℕ) (n : List ℕ) (a : Answer) (h g : Held) (all : Answered) → slice_get ns i ≡ Some n → hdl_imported n h ≡ record { answer = a; held = g }
    → ((k : List NamedVal → Held → Answered) → bound_answer names n g k a ≡ record { answer = a; held = g }) → all_bound names (drop i ns) h ≡ all → all ≡ record { answer = a; held = g }
bound_ends names ns i n a h g all e1 e2 other e4 =
    let after = λ (b : Answered). bound_answer names n b.held (λ more k. all_bound more (drop (i + 1) ns) k) b.answer in
    sym e4 ∙ ap (λ xs. all_bound names xs h) (drop_at ns i n e1) ∙ ap after e2 ∙ other (λ more k. all_bound more (drop (i + 1) ns) k)

-- an answer that gives nothing binds nothing
pub not_bound : (names : List NamedVal) (n : List ℕ) (g : Held) (k : List NamedVal → Held → Answered) (a : Answer) → ((x : Val) → a ≡ answer.Give x → ⊥) → bound_answer names n g k a ≡ record { answer = a; held = g }
not_bound names n g k (answer.Give v) f = absurd (f v refl)
not_bound names n g k answer.Begin f = refl
not_bound names n g k (answer.GiveText t) f = refl
not_bound names n g k (answer.GiveList t) f = refl
not_bound names n g k (answer.Bind t) f = refl
not_bound names n g k (answer.Call c t) f = refl
not_bound names n g k (answer.Through t) f = refl
not_bound names n g k (answer.Refuse t) f = refl

-- ---- two names

-- the first two items and those behind them
pub two_first : {A : Type 0} (xs : List A) (a b : A) → 2 ≤ length xs → a ≡ slice_index_or xs 0 a → b ≡ slice_index_or xs 1 b → xs ≡ a ∷ b ∷ take (length xs - 2) (drop 2 xs)
two_first [] a b h e1 e2 = absurd (omega arith)
two_first (x ∷ []) a b h e1 e2 = absurd (omega arith)
two_first (x ∷ y ∷ xs) a b h e1 e2 =
    let rest : take (length (x ∷ y ∷ xs) - 2) xs ≡ xs = take_all (length (x ∷ y ∷ xs) - 2) xs (omega arith) in
    ap (λ (z : _). z ∷ y ∷ xs) (sym e1) ∙ ap (λ (z : _). a ∷ z ∷ xs) (sym e2) ∙ ap (λ (zs : _). a ∷ b ∷ zs) (sym rest)

pub two_names : {A : Type 0} (f : A → List ℕ) (xs : List A) (a b : A) → length xs ≡ 2 → a ≡ slice_index_or xs 0 a → b ≡ slice_index_or xs 1 b → map f xs ≡ f a ∷ f b ∷ []
two_names f [] a b h e1 e2 = absurd (omega arith)
two_names f (x ∷ []) a b h e1 e2 = absurd (omega arith)
two_names f (x ∷ y ∷ []) a b h e1 e2 = ap (λ (z : List ℕ). z ∷ f y ∷ []) (ap f (sym e1)) ∙ ap (λ (z : List ℕ). f a ∷ z ∷ []) (ap f (sym e2))
two_names f (x ∷ y ∷ z ∷ xs) a b h e1 e2 = absurd (omega arith)

-- fewer of them or more import nothing
pub import_few : {A : Type 0} (f : A → List ℕ) (xs : List A) (h : Held) → length xs < 2 → import_answered (map f xs) h ≡ refused Raised h
import_few f [] h few = refl
import_few f (x ∷ []) h few = refl
import_few f (x ∷ y ∷ xs) h few = absurd (omega (arith, few))

pub import_many : {A : Type 0} (f : A → List ℕ) (xs : List A) (h : Held) → 2 < length xs → import_answered (map f xs) h ≡ refused Raised h
import_many f [] h many = absurd (omega (arith, many))
import_many f (x ∷ []) h many = absurd (omega (arith, many))
import_many f (x ∷ y ∷ []) h many = absurd (omega (arith, many))
import_many f (x ∷ y ∷ z ∷ xs) h many = refl
