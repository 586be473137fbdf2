-- The turns of the loops that pick items.
use Rattle.std.proofs.Common.{◌≡◌, ℕ, ◌+◌, ◌-◌, ◌≤◌, ◌<◌, List, [], ◌++◌, Option, Some, None, refl, arith, ap, sym, ◌∙◌, append_assoc, append-nil}
use Rattle.std.specs.Prelude.{ℤ, encode_utf8_all}
use Rattle.std.specs.List.{cons_option}
use Rattle.std.proofs.lemmas.Str.{encodes-append}
use Rattle.py_values.specs.declared.range.Span.{Span}
use Rattle.py_operators.specs.Spans.{stepped, numbers_from}
use Rattle.py_builtins.specs.Indices.{picked, item_at}
use Rattle.py_operators.proofs.ElementLaws.{numbers_turn, numbers_end}

cons_option-append : {A : Type 0} (o : Option A) (xs : List A) → cons_option o xs ≡ cons_option o [] ++ xs
cons_option-append None xs = refl
cons_option-append (Some x) xs = refl

picked_turn : {A : Type 0} (xs : List A) (count i : ℕ) (r : Span) (n : ℤ) (o : Option A) → i < count → n ≡ stepped r.start r.step i → o ≡ item_at xs n → picked xs (numbers_from (count - i) i r) ≡ cons_option o [] ++ picked xs (numbers_from (count - (i + 1)) (i + 1) r)
picked_turn xs count i r n o l e f =
    ap (picked xs) (numbers_turn count i r l) ∙ rw (f, e) (cons_option-append (item_at xs (stepped r.start r.step i)) (picked xs (numbers_from (count - (i + 1)) (i + 1) r)))

pub picks_start : {A : Type 0} (all xs : List A) (count : ℕ) (r : Span) → all ≡ [] → all ++ picked xs (numbers_from (count - 0) 0 r) ≡ picked xs (numbers_from count 0 r)
picks_start all xs count r h =
    let e : count - 0 ≡ count = omega arith in
    rw (h, e) refl

pub picks_turn : {A : Type 0} (all new whole xs : List A) (count i : ℕ) (r : Span) (n : ℤ) (o : Option A) → i < count → n ≡ stepped r.start r.step i → o ≡ item_at xs n → new ≡ all ++ cons_option o [] → all ++ picked xs (numbers_from (count - i) i r) ≡ whole → new ++ picked xs (numbers_from (count - (i + 1)) (i + 1) r) ≡ whole
picks_turn all new whole xs count i r n o l e f g h =
    rw g (append_assoc all (cons_option o []) (picked xs (numbers_from (count - (i + 1)) (i + 1) r)) ∙ ap (λ ys. all ++ ys) (sym (picked_turn xs count i r n o l e f)) ∙ h)

pub picks_end : {A : Type 0} (all whole xs : List A) (count i : ℕ) (r : Span) → count ≤ i → all ++ picked xs (numbers_from (count - i) i r) ≡ whole → whole ≡ all
picks_end all whole xs count i r l h = sym h ∙ ap (λ ys. all ++ picked xs ys) (numbers_end count i r l) ∙ append-nil all

-- ---- the same, of characters that are spelled

pub spelled_start : (all : List ℕ) (xs : List ℕ) (count : ℕ) (r : Span) → all ≡ [] → all ++ encode_utf8_all (picked xs (numbers_from (count - 0) 0 r)) ≡ encode_utf8_all (picked xs (numbers_from count 0 r))
spelled_start all xs count r h =
    let e : count - 0 ≡ count = omega arith in
    rw (h, e) refl

pub spelled_turn : (all new whole xs : List ℕ) (count i : ℕ) (r : Span) (n : ℤ) (o : Option ℕ) → i < count → n ≡ stepped r.start r.step i → o ≡ item_at xs n → new ≡ all ++ encode_utf8_all (cons_option o []) → all ++ encode_utf8_all (picked xs (numbers_from (count - i) i r)) ≡ whole → new ++ encode_utf8_all (picked xs (numbers_from (count - (i + 1)) (i + 1) r)) ≡ whole
spelled_turn all new whole xs count i r n o l e f g h =
    let more = picked xs (numbers_from (count - (i + 1)) (i + 1) r) in
    rw g (append_assoc all (encode_utf8_all (cons_option o [])) (encode_utf8_all more) ∙ ap (λ ys. all ++ ys) (sym (encodes-append (cons_option o []) more) ∙ sym (ap encode_utf8_all (picked_turn xs count i r n o l e f))) ∙ h)

pub spelled_end : (all whole xs : List ℕ) (count i : ℕ) (r : Span) → count ≤ i → all ++ encode_utf8_all (picked xs (numbers_from (count - i) i r)) ≡ whole → whole ≡ all
spelled_end all whole xs count i r l h = sym h ∙ ap (λ ys. all ++ encode_utf8_all (picked xs ys)) (numbers_end count i r l) ∙ append-nil all
