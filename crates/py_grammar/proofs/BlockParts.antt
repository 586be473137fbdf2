-- What a reader of lines takes is derived; and it looks no further than the first line that it leaves.
use Rattle.std.proofs.Common.{◌≡◌, refl, ap, ◌∙◌, List, [], ◌∷◌, ◌++◌, Option, Some, None, inl}
use Rattle.std.specs.Prelude.{◌⊎◌, Bool, true, false, if◌then◌else◌}
use Rattle.py_grammar.specs.Blocks.{Line}
use Rattle.py_grammar.specs.Block_reading.{Part, Taken, Stuck, Takes, ◌>>=◌, next_line}

-- ---- lines and what is left of them

abbrev pub first : List Line → Option Line
first [] = None
first (l ∷ ls) = Some l

abbrev pub left : {A : Type 0} → Part A → List Line
left (Taken a r) = r
left (Stuck r) = r

pub first_none : (q : List Line) → None ≡ first q → [] ≡ q
first_none [] h = refl
first_none (l ∷ q) h = cc

-- lines that go on with one first line begin with one
pub first_front : (f r q : List Line) → first r ≡ first q → first (f ++ r) ≡ first (f ++ q)
first_front [] r q h = h
first_front (l ∷ f) r q h = refl

pub first_split : (ls f r q : List Line) → ls ≡ f ++ r → first r ≡ first q → first ls ≡ first (f ++ q)
first_split ls f r q e h = ap first e ∙ first_front f r q h

pub next_first : (test : Line → Bool) (r q : List Line) → first r ≡ first q → next_line test r ≡ next_line test q
next_first test [] [] h = refl
next_first test [] (l ∷ q) h = cc
next_first test (l ∷ r) [] h = cc
next_first test (l ∷ r) (m ∷ q) h = let e : l ≡ m = cc in ap test e

pub append_nothing : {A : Type 0} (xs : List A) → xs ++ [] ≡ xs
append_nothing [] = refl
append_nothing (x ∷ xs) = ap (λ z. x ∷ z) (append_nothing xs)

-- ---- tests

pub by_test : {A : Type 0} (P : A → Type 0) (b : Bool) (x y : A) → (b ≡ true → P x) → (b ≡ false → P y) → P (if b then x else y)
by_test P true x y f g = f refl
by_test P false x y f g = g refl

-- ---- what is read

-- no lines, or lines with which something begins
abbrev pub Begun : {A : Type 0} → (Bool → List Line → A → Type 0) → List Line → Type 0
Begun {A = A} D front = (front ≡ []) ⊎ ((a : A) × D true front a)

pub record Taking {A : Type 0} (D : Bool → List Line → A → Type 0) (rd : List Line → Part A) (ls : List Line) (a : A) (r : List Line) : Type 0 where
  pub front : List Line
  pub split : ls ≡ front ++ r
  pub derived : (cut : Bool) → D cut front a
  pub again : (q : List Line) → first r ≡ first q → rd (front ++ q) ≡ Taken a q

pub record Sticking {A : Type 0} (D : Bool → List Line → A → Type 0) (rd : List Line → Part A) (ls r : List Line) : Type 0 where
  pub front : List Line
  pub split : ls ≡ front ++ r
  pub begun : Begun D front
  pub again : (q : List Line) → first r ≡ first q → rd (front ++ q) ≡ Stuck q

abbrev pub Found : {A : Type 0} → (Bool → List Line → A → Type 0) → Takes A → List Line → Part A → Type 0
Found D rd ls (Taken a r) = Taking D rd ls a r
Found D rd ls (Stuck r) = Sticking D rd ls r

-- what is read of lines has a derivation, and what has one is read, where such lines follow; with lines that may be cut
-- off, all of them are read
pub record Knows {A : Type 0} (Ends : List Line → Type 0) (D : Bool → List Line → A → Type 0) (rd : List Line → Part A) : Type 0 where
  pub found : (ls : List Line) → Found D rd ls (rd ls)
  pub complete : (ls : List Line) (a : A) (r : List Line) → D false ls a → Ends r → rd (ls ++ r) ≡ Taken a r
  pub cut : (ls : List Line) (a : A) → D true ls a → left (rd ls) ≡ []

-- where nothing is read, as the first line tells
pub stuck_here : {A : Type 0} (D : Bool → List Line → A → Type 0) (rd : Takes A) (ls : List Line) → ((q : List Line) → first ls ≡ first q → rd q ≡ Stuck q) → Sticking D rd ls ls
stuck_here D rd ls h = record { front = []; split = refl; begun = inl refl; again = h }

pub left_bind : {A B : Type 0} (p : Part A) (g : A → List Line → Part B) → left p ≡ [] → ((a : A) → left (g a []) ≡ []) → left (p >>= g) ≡ []
left_bind (Taken a r) g h k = ap (λ z. left (g a z)) h ∙ k a
left_bind (Stuck r) g h k = h

pub bind_taken : {A B : Type 0} (p : Part A) (g : A → List Line → Part B) (a : A) (r : List Line) → p ≡ Taken a r → (p >>= g) ≡ g a r
bind_taken p g a r h = ap (λ z. z >>= g) h

pub bind_stuck : {A B : Type 0} (p : Part A) (g : A → List Line → Part B) (r : List Line) → p ≡ Stuck r → (p >>= g) ≡ Stuck r
bind_stuck p g r h = ap (λ z. z >>= g) h
