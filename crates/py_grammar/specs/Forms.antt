-- The words of which a grammar is made: what it is to be one thing after another, one thing or another, and so on.
-- Each is a relation between the words of a text and what they stand for.
-- Source: Python reference 1.2, Notation.
use Rattle.std.specs.Prelude.{◌≡◌, ◌⊎◌, ℕ, Bool, List, [], ◌∷◌, ◌++◌, Option, Some, None, IsTrue}
use Rattle.amh_host.specs.declared.place.Place.{Place}
use Rattle.py_grammar.specs.declared.word.Word.{Word}
use Rattle.py_grammar.specs.declared.word.Mark.{Mark}
use Rattle.py_grammar.specs.declared.word.Mark.TheVariants as mark
use Rattle.py_grammar.specs.Words.{word}

-- which words stand for which value
abbrev pub Means : Type 0 → Type 1
Means A = List Word → A → Type 0

-- this sign or this keyword, which stands for its place
pub record Signed (this : List ℕ) (ws : List Word) (p : Place) : Type 0 where
  pub whole : ws ≡ word (mark.Sign this) p ∷ []

pub record Keyed (this : List ℕ) (ws : List Word) (p : Place) : Type 0 where
  pub whole : ws ≡ word (mark.Keyword this) p ∷ []

-- one word of some kind, which stands for its place and its value
pub record One {A : Type 0} (value : Mark → Option A) (ws : List Word) (x : Place × A) : Type 0 where
  pub mark_is : Mark
  pub whole : ws ≡ word mark_is x.0 ∷ []
  pub valued : value mark_is ≡ Some x.1

-- one thing and then another
infixr 7 ◌▸◌
pub record Then {A B : Type 0} (D : List Word → A → Type 0) (E : List Word → B → Type 0) (ws : List Word) (x : A × B) : Type 0 where
  pub front : List Word
  pub back : List Word
  pub whole : ws ≡ front ++ back
  pub first : D front x.0
  pub second : E back x.1

abbrev pub ◌▸◌ : {A B : Type 0} → Means A → Means B → Means (A × B)
D ▸ E = Then D E

-- one thing or another
infixr 5 ◌∣◌
abbrev pub ◌∣◌ : {A : Type 0} → Means A → Means A → Means A
D ∣ E = λ ws x. D ws x ⊎ E ws x

-- a thing, seen as what f makes of it
pub record Made {A B : Type 0} (f : A → B) (D : List Word → A → Type 0) (ws : List Word) (y : B) : Type 0 where
  pub from : A
  pub derived : D ws from
  pub is : y ≡ f from

-- a thing that passes a test
pub record Such {A : Type 0} (test : A → Bool) (D : List Word → A → Type 0) (ws : List Word) (x : A) : Type 0 where
  pub derived : D ws x
  pub passes : IsTrue (test x)

-- a thing or nothing
pub data Maybe {A : Type 0} (D : List Word → A → Type 0) : List Word → Option A → Type 0 where
  not_there : Maybe D [] None
  there : {ws : List Word} {x : A} → D ws x → Maybe D ws (Some x)

-- any number of things
pub data Many {A : Type 0} (D : List Word → A → Type 0) : List Word → List A → Type 0 where
  no_more : Many D [] []
  one_more : {ws us : List Word} {x : A} {xs : List A} → D ws x → Many D us xs → Many D (ws ++ us) (x ∷ xs)
