-- What readers are made of: each takes what it reads off the front of some words and leaves the rest.
-- Internal: no rule of the language.
use Rattle.std.specs.Prelude.{◌≡◌, ℕ, zero, suc, Bool, true, false, if◌then◌else◌, length, List, [], ◌∷◌, ◌++◌, Option, Some, None, Result, Ok, Err}
use Rattle.amh_host.specs.declared.place.Place.{Place}
use Rattle.py_grammar.specs.declared.word.Word.{Word}
use Rattle.py_grammar.specs.declared.word.Mark.{Mark}
use Rattle.py_grammar.specs.declared.word.Stop.{Stop}
use Rattle.py_grammar.specs.declared.word.Stop.TheVariants.{Unread, NoMemory}
use Rattle.py_grammar.specs.Words.{sign_of, keyword_of, is_text}

abbrev pub Read : Type 0 → Type 0
Read A = List Word → Option (A × List Word)

infixl 10 ◌>>=◌
abbrev pub ◌>>=◌ : {A B : Type 0} → Option A → (A → Option B) → Option B
None >>= f = None
(Some x) >>= f = f x

-- a word whose mark has a value, which is read with its place
abbrev pub one_placed : {A : Type 0} → Place → List Word → Option A → Option ((Place × A) × List Word)
one_placed p r None = None
one_placed p r (Some a) = Some ((p, a), r)

abbrev pub one : {A : Type 0} → (Mark → Option A) → Read (Place × A)
one value [] = None
one value (w ∷ r) = one_placed w.place r (value w.mark)

-- a sign or a keyword, which is read as its place
abbrev pub sign : List ℕ → Read Place
sign this [] = None
sign this (w ∷ r) = if is_text this (sign_of w.mark) then Some (w.place, r) else None

abbrev pub key : List ℕ → Read Place
key this [] = None
key this (w ∷ r) = if is_text this (keyword_of w.mark) then Some (w.place, r) else None

-- one thing and then another
infixr 7 ◌▹◌
abbrev pub ◌▹◌ : {A B : Type 0} → Read A → Read B → Read (A × B)
r ▹ q = λ ws. r ws >>= λ x. q x.1 >>= λ y. Some ((x.0, y.0), y.1)

abbrev pub made : {A B : Type 0} → (A → B) → Read A → Read B
made f r = λ ws. r ws >>= λ x. Some (f x.0, x.1)

-- which reader reads is told by the words that come next
abbrev pub choose : {A : Type 0} → (List Word → Bool) → Read A → Read A → Read A
choose test r q = λ ws. if test ws then r ws else q ws

abbrev pub maybe : {A : Type 0} → (List Word → Bool) → Read A → Read (Option A)
maybe test r = λ ws. if test ws then (r ws >>= λ x. Some (Some x.0, x.1)) else Some (None, ws)

abbrev pub such : {A : Type 0} → (A → Bool) → Read A → Read A
such test r = λ ws. r ws >>= λ x. if test x.0 then Some x else None

-- things as long as the words that come next tell so, at most n, each added to what was read before
unfoldable pub repeat : {A B : Type 0} → (List Word → Bool) → Read A → (B → A → B) → ℕ → B → Read B
repeat goes r add zero b ws = Some (b, ws)
repeat goes r add (suc n) b ws = if goes ws then (r ws >>= λ x. repeat goes r add n (add b x.0) x.1) else Some (b, ws)

abbrev pub many : {A B : Type 0} → (List Word → Bool) → Read A → (B → A → B) → B → Read B
many goes r add b ws = repeat goes r add (length ws) b ws

abbrev pub fails : {A : Type 0} → Read A
fails ws = None

-- What the code returned is what is read, unless memory ran out.
abbrev pub Fails : {Y : Type 0} → Stop → Option Y → Type 0
Fails Unread read = read ≡ None
Fails NoMemory read = Unit {0}

abbrev pub Reads : {X Y : Type 0} → (X → Y) → Result X Stop → Option Y → Type 0
Reads view (Ok x) read = read ≡ Some (view x)
Reads view (Err e) read = Fails e read
