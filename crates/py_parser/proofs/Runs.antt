-- Things that are read one after another, each seen through a function: it may be seen where it is read.
use Rattle.std.proofs.Common.{◌≡◌, ℕ, ◌<◌, ◌-◌, ◌+◌, suc, zero, refl, ap, sym, ◌∙◌, List, [], ◌∷◌, ◌++◌, map, length, Option, Some, None}
use Rattle.std.specs.Prelude.{Bool, true, false, if◌then◌else◌, codes}
use Rattle.py_grammar.specs.declared.word.Word.{Word}
use Rattle.py_grammar.specs.Words.{name_of, next_sign}
use Rattle.py_grammar.specs.Readers.{Read, ◌>>=◌, repeat, many, ◌▹◌, made, sign, one}
use Rattle.py_grammar.specs.Line_reading.{and_then, dotted, names, import_name, name_next, commas, bases_read}
use Rattle.py_grammar.specs.Reading.{Inner, comma_then, call}
use Rattle.py_parser.specs.Line_forms.{second, name_behind}
use Rattle.py_words.proofs.Lists.{map_one_more}
use Rattle.py_phrases.proofs.Loops.{repeat_step}

-- what was read, seen through a function
abbrev pub seen_by : {A B : Type 0} → (A → B) → Option (A × List Word) → Option (B × List Word)
seen_by f o = o >>= λ x. Some (f x.0, x.1)

-- what was read, behind a first thing
abbrev behind : {A B : Type 0} → A → Option (B × List Word) → Option ((A × B) × List Word)
behind a o = o >>= λ y. Some ((a, y.0), y.1)

abbrev turn_of : {A B : Type 0} → Bool → Option (A × List Word) → (A × List Word → Option (B × List Word)) → B → List Word → Option (B × List Word)
turn_of b o next so_far ws = if b then (o >>= next) else Some (so_far, ws)

one_turn : {A B : Type 0} (f : A → B) (ws : List Word) (xs : List A) (b : Bool) (o : Option (A × List Word)) (next : A × List Word → Option (List A × List Word)) (next_seen : B × List Word → Option (List B × List Word)) → ((x : A × List Word) → next_seen (f x.0, x.1) ≡ seen_by (map f) (next x)) → turn_of b (seen_by f o) next_seen (map f xs) ws ≡ seen_by (map f) (turn_of b o next xs ws)
one_turn f ws xs false o next next_seen ih = refl
one_turn f ws xs true None next next_seen ih = refl
one_turn f ws xs true (Some x) next next_seen ih = ih x

any_turn : {A B C : Type 0} (h : B → C) (ws : List Word) (b : B) (goes : Bool) (o : Option (A × List Word)) (next : A × List Word → Option (B × List Word)) (next_seen : A × List Word → Option (C × List Word)) → ((x : A × List Word) → next_seen x ≡ seen_by h (next x)) → turn_of goes o next_seen (h b) ws ≡ seen_by h (turn_of goes o next b ws)
any_turn h ws b false o next next_seen ih = refl
any_turn h ws b true None next next_seen ih = refl
any_turn h ws b true (Some x) next next_seen ih = ih x

repeat_made : {A B : Type 0} (f : A → B) (goes : List Word → Bool) (r : Read A) (n : ℕ) (xs : List A) (ws : List Word) → repeat goes (made f r) and_then n (map f xs) ws ≡ seen_by (map f) (repeat goes r and_then n xs ws)
unfolding repeat
repeat_made f goes r zero xs ws = refl
repeat_made {A = A} {B = B} f goes r (suc n) xs ws =
    one_turn f ws xs (goes ws) (r ws)
    (λ (x : A × List Word). repeat goes r and_then n (xs ++ x.0 ∷ []) x.1)
    (λ (y : B × List Word). repeat goes (made f r) and_then n (map f xs ++ y.0 ∷ []) y.1)
    (λ (x : A × List Word). ap (λ (m : List B). repeat goes (made f r) and_then n m x.1) (sym (map_one_more f xs x.0)) ∙ repeat_made f goes r n (xs ++ x.0 ∷ []) x.1)

-- all of them seen through a function that sees each one that is added
repeat_seen : {A B C : Type 0} (h : B → C) (goes : List Word → Bool) (r : Read A) (add : B → A → B) (plus : C → A → C) → ((b : B) (x : A) → h (add b x) ≡ plus (h b) x) → (n : ℕ) (b : B) (ws : List Word) → repeat goes r plus n (h b) ws ≡ seen_by h (repeat goes r add n b ws)
unfolding repeat
repeat_seen h goes r add plus keeps zero b ws = refl
repeat_seen {A = A} {B = B} {C = C} h goes r add plus keeps (suc n) b ws =
    any_turn h ws b (goes ws) (r ws)
    (λ (x : A × List Word). repeat goes r add n (add b x.0) x.1)
    (λ (x : A × List Word). repeat goes r plus n (plus (h b) x.0) x.1)
    (λ (x : A × List Word). ap (λ (c : C). repeat goes r plus n c x.1) (sym (keeps b x.0)) ∙ repeat_seen h goes r add plus keeps n (add b x.0) x.1)

pub many_seen : {A B C : Type 0} (h : B → C) (goes : List Word → Bool) (r : Read A) (add : B → A → B) (plus : C → A → C) → ((b : B) (x : A) → h (add b x) ≡ plus (h b) x) → (b : B) (ws : List Word) → many goes r plus (h b) ws ≡ seen_by h (many goes r add b ws)
many_seen h goes r add plus keeps b ws = repeat_seen h goes r add plus keeps (length ws) b ws

pub many_made : {A B : Type 0} (f : A → B) (goes : List Word → Bool) (r : Read A) (ws : List Word) → many goes (made f r) and_then [] ws ≡ seen_by (map f) (many goes r and_then [] ws)
many_made f goes r ws = repeat_made f goes r (length ws) [] ws

abbrev joined : {A B C D : Type 0} → (A → B) → (C → B → D) → C → Option (A × List Word) → Option (D × List Word)
joined f h c m = seen_by (λ z. h z.0 z.1) (behind c (seen_by f m))

mapped_last : {A B C D : Type 0} (f : A → B) (h : C → B → D) (c : C) (m : Option (A × List Word)) → seen_by (λ z. h z.0 (f z.1)) (behind c m) ≡ joined f h c m
mapped_last f h c None = refl
mapped_last f h c (Some x) = refl

behind_one : {A B C D : Type 0} (f : A → B) (h : C → List B → D) (goes : List Word → Bool) (r : Read A) (o : Option (C × List Word)) → seen_by (λ z. h z.0 (map f z.1)) (o >>= λ x. behind x.0 (many goes r and_then [] x.1)) ≡ seen_by (λ z. h z.0 z.1) (o >>= λ x. behind x.0 (many goes (made f r) and_then [] x.1))
behind_one f h goes r None = refl
behind_one {B = B} f h goes r (Some x) =
    mapped_last (map f) h x.0 (many goes r and_then [] x.1)
    ∙ ap (λ (m : Option (List B × List Word)). seen_by (λ z. h z.0 z.1) (behind x.0 m)) (sym (many_made f goes r x.1))

-- a first thing, and others behind it that are seen through a function
pub then_many_made : {A B C D : Type 0} (f : A → B) (h : C → List B → D) (q : Read C) (goes : List Word → Bool) (r : Read A) (ws : List Word) → made (λ (z : C × List A). h z.0 (map f z.1)) (q ▹ many goes r and_then []) ws ≡ made (λ (z : C × List B). h z.0 z.1) (q ▹ many goes (made f r) and_then []) ws
then_many_made f h q goes r ws = behind_one f h goes r (q ws)

pub dotted_made : (ws : List Word) → dotted ws ≡ made (λ z. z.0.1 ∷ z.1) (one name_of ▹ many (next_sign (codes ".")) (made name_behind (sign (codes ".") ▹ one name_of)) and_then []) ws
unfolding dotted
dotted_made ws = then_many_made name_behind (λ x ns. x.1 ∷ ns) (one name_of) (next_sign (codes ".")) (sign (codes ".") ▹ one name_of) ws

pub commas_made : {A : Type 0} (test : List Word → Bool) (r : Read A) (ws : List Word) → commas test r ws ≡ made (λ z. z.0 ∷ z.1) (r ▹ many (comma_then test) (made second (sign (codes ",") ▹ r)) and_then []) ws
commas_made test r ws = then_many_made second (λ x ns. x ∷ ns) r (comma_then test) (sign (codes ",") ▹ r) ws

-- the arguments of a class are those of a call
pub bases_call : (j : Inner) (ws : List Word) → bases_read j ws ≡ call j ws
unfolding bases_read call
bases_call j ws = refl

pub names_made : (ws : List Word) → names ws ≡ made (λ z. z.0 ∷ z.1) (import_name ▹ many (comma_then name_next) (made second (sign (codes ",") ▹ import_name)) and_then []) ws
unfolding names
names_made ws = commas_made name_next import_name ws

-- one more turn of a loop that pushes what it reads
pub add_turn : {A B : Type 0} (goes : List Word → Bool) (r : Read A) (add : B → A → B) (most turn : ℕ) (so_far more : B) (x : A) (ws after : List Word) (whole : Option (B × List Word)) → repeat goes r add (most - turn) so_far ws ≡ whole → turn < most → more ≡ add so_far x → goes ws ≡ true → r ws ≡ Some (x, after) → repeat goes r add (most - (turn + 1)) more after ≡ whole
add_turn {A = A} {B = B} goes r add most turn so_far more x ws after whole was less m g h =
    let next = λ (y : A × List Word). repeat goes r add (most - (turn + 1)) (add so_far y.0) y.1 in
    ap (λ (z : B). repeat goes r add (most - (turn + 1)) z after) m
    ∙ (sym (ap (λ o. o >>= next) h)
    ∙ (sym (ap (λ b. turn_of b (r ws) next so_far ws) g)
    ∙ (sym (repeat_step goes r add most turn so_far ws less) ∙ was)))

pub push_turn : {A : Type 0} (goes : List Word → Bool) (r : Read A) (most turn : ℕ) (items more : List A) (x : A) (ws after : List Word) (whole : Option (List A × List Word)) → repeat goes r and_then (most - turn) items ws ≡ whole → turn < most → more ≡ items ++ x ∷ [] → goes ws ≡ true → r ws ≡ Some (x, after) → repeat goes r and_then (most - (turn + 1)) more after ≡ whole
push_turn goes r most turn items more x ws after whole was less m g h = add_turn goes r and_then most turn items more x ws after whole was less m g h
