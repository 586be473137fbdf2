use Rattle.std.proofs.Common.{◌≡◌, ◌∙◌, ◌<◌, ◌^◌, ℕ, [], Option, Some, None, Result, Ok, Err, refl, sym, ap, arith, codes}
use Rattle.std.specs.Prelude.{option_map, unwrap_or}
use Rattle.std.specs.Borrow.{Bor}
use Rattle.std.specs.Str.Parse.{ExplainsUnsignedError, HasUnsignedDigitsIfOk, ParsesUnsigned, digits_value, without_leading_plus}
use Rattle.clap.specs.Words.{IsUnsignedIn, ReadsOne, Text, first_value, found_of, one_of, one_text, rows_of}
use Rattle.clap.specs.declared.parser.matches.Found.{Found}
use Rattle.clap.proofs.WalkLemmas.{first_value-rows, one_text-rows}
use Rattle.std.specs.declared.num.ParseIntError.{ParseIntError}
use Rattle.command_words.specs.Request.{Request, number_at, place_at, request_of}
use Rattle.command_words.proofs.request.asked_in.Goals as goal

abbrev request : Text → Text → Text → Option Text → Option Text → ℕ → Option ℕ → Request
request d i t p o b m = record { design = d; il = i; trace = t; play = p; top = o; budget = b; make = m }

-- the value of a word that has to be given
place_is : (f : Found) (id : Text) (o : Option (Bor Text)) (none r : Bor Text) → option_map (λ s. s.now) o ≡ first_value f id → r ≡ unwrap_or o none → none.now ≡ [] → r.now ≡ place_at id (rows_of f)
place_is f id o none r has is empty = ap (λ (s : Bor Text). s.now) is ∙ (by_case o ∙ ap (λ (v : Option Text). unwrap_or v []) (has ∙ first_value-rows f id))
  where
    by_case : (o : Option (Bor Text)) → (unwrap_or o none).now ≡ unwrap_or (option_map (λ s. s.now) o) []
    by_case None = empty
    by_case (Some s) = refl

-- the number that is read of a value
module _ {E : Type 0} (G : Text → Result ℕ E → Type 0) (k most : ℕ) (parses : (t : Text) (x : Result ℕ E) → G t x → ParsesUnsigned k 10 t x) (fits : most < 2 ^ k) where
  number_read : (t : Text) (r : Option ℕ) → ReadsOne G t r → IsUnsignedIn 1 most t → r ≡ Some (digits_value 10 (without_leading_plus t))
  number_read t (Some n) read inside = ap (λ v. Some v) (parses t (Ok n) read).1
  number_read t None read inside =
      let low : digits_value 10 (without_leading_plus t) < 2 ^ k = omega (arith, inside.3) in
      absurd (parses t (Err read.0) read.1 (inside.0, low))

  number_is : (f : Found) (id : Text) (r : Option ℕ) → (one_text f id ≡ None → r ≡ None) → ((t : Text) → one_text f id ≡ Some t → ReadsOne G t r)
      → ((t : Text) → one_of id (rows_of f) ≡ Some t → IsUnsignedIn 1 most t) → r ≡ number_at id (rows_of f)
  number_is f id r none some inside = by_case (one_of id (rows_of f)) refl
    where
      by_case : (o : Option Text) → one_of id (rows_of f) ≡ o → r ≡ number_at id (rows_of f)
      by_case None e = none (one_text-rows f id ∙ e) ∙ ap (option_map (λ (t : Text). digits_value 10 (without_leading_plus t))) (sym e)
      by_case (Some t) e = number_read t r (some t (one_text-rows f id ∙ e)) (inside t e) ∙ ap (option_map (λ (u : Text). digits_value 10 (without_leading_plus u))) (sym e)

-- the equal parts of equal requests
same_request : (d d2 i i2 t t2 : Text) (p p2 o o2 : Option Text) (b b2 : ℕ) (m m2 : Option ℕ) → d ≡ d2 → i ≡ i2 → t ≡ t2 → p ≡ p2 → o ≡ o2 → b ≡ b2 → m ≡ m2
    → request d i t p o b m ≡ request d2 i2 t2 p2 o2 b2 m2
same_request d d2 i i2 t t2 p p2 o o2 b b2 m m2 e f g h j k l = rw (e, f, g, h, j, k, l) refl

pub returns : goal.returns
unfolding request_of
returns c =
    let f = found_of c.args.matches.now in
    let reads = λ (k : ℕ) (t : Text) (x : Result ℕ ParseIntError). ParsesUnsigned k 10 t x × ExplainsUnsignedError 10 t x × HasUnsignedDigitsIfOk t x in
    let budget = number_is (reads 64) 64 1000000000 (λ t x g. g.0) (omega arith) f (codes "budget") c.get_one.result c.get_one.ensures.none c.get_one.ensures.value c.requires.numbers.budget in
    let make = number_is (reads 16) 16 1000 (λ t x g. g.0) (omega arith) f (codes "make") c.get_one-2.result c.get_one-2.ensures.none c.get_one-2.ensures.value c.requires.numbers.make in
    same_request _ _ _ _ _ _ _ _ _ _ _ _ _ _
    (place_is f (codes "DESIGN") c.get_str.result _ _ c.get_str.ensures c.unwrap_or.ensures refl)
    (place_is f (codes "IL") c.get_str-2.result _ _ c.get_str-2.ensures c.unwrap_or-2.ensures refl)
    (place_is f (codes "TRACE") c.get_str-3.result _ _ c.get_str-3.ensures c.unwrap_or-3.ensures refl)
    (c.get_str-4.ensures ∙ first_value-rows f (codes "play"))
    (c.get_str-5.ensures ∙ first_value-rows f (codes "top"))
    (c.unwrap_or-4.ensures ∙ ap (λ (o : Option ℕ). unwrap_or o 10000000) budget)
    make
