-- The name of an addition without one, `u` and a number, is a name.
use Rattle.std.proofs.Common.{◌≡◌, ◌<◌, ◌/◌, ◌%◌, ◌==◌, ◌&&◌, ℕ, zero, suc, Bool, true, false, if◌then◌else◌, List, [], ◌∷◌, ◌++◌, refl, ap, ◌∙◌, arith}
use Rattle.std.specs.Prelude.{codes}
use Rattle.std.specs.Fmt.{decimal, digits, digits_onto, digit_glyph}
use Rattle.std.specs.List.{list_all}
use Rattle.std.proofs.lemmas.Nat.{mod_below}
use Rattle.std.proofs.lemmas.List.Sums.{AllPass-from_list_all}
use Rattle.lists.specs.Names.{IsName, continues_name}

digit_continues : (d : ℕ) → d < 10 → continues_name (digit_glyph false d) ≡ true
digit_continues zero h = refl
digit_continues (suc zero) h = refl
digit_continues (suc (suc zero)) h = refl
digit_continues (suc (suc (suc zero))) h = refl
digit_continues (suc (suc (suc (suc zero)))) h = refl
digit_continues (suc (suc (suc (suc (suc zero))))) h = refl
digit_continues (suc (suc (suc (suc (suc (suc zero)))))) h = refl
digit_continues (suc (suc (suc (suc (suc (suc (suc zero))))))) h = refl
digit_continues (suc (suc (suc (suc (suc (suc (suc (suc zero)))))))) h = refl
digit_continues (suc (suc (suc (suc (suc (suc (suc (suc (suc zero))))))))) h = refl
digit_continues (suc (suc (suc (suc (suc (suc (suc (suc (suc (suc d)))))))))) h = absurd (omega (arith, h))

-- one digit before others
digit_before : (n : ℕ) (ds : List ℕ) → list_all continues_name ds ≡ true → list_all continues_name (digit_glyph false (n % 10) ∷ ds) ≡ true
digit_before n ds h = ap (λ b. b && list_all continues_name ds) (digit_continues (n % 10) (mod_below n 10 (omega arith))) ∙ h

onto_continues : (k n : ℕ) (ds : List ℕ) → list_all continues_name ds ≡ true → list_all continues_name (digits_onto k 10 false n ds) ≡ true
onto_continues zero n ds h = h
onto_continues (suc k) n ds h = by_test (n / 10 == 0) (digit_before n ds h) (onto_continues k (n / 10) (digit_glyph false (n % 10) ∷ ds) (digit_before n ds h))
  where
    by_test : (b : Bool) → list_all continues_name (digit_glyph false (n % 10) ∷ ds) ≡ true → list_all continues_name (digits_onto k 10 false (n / 10) (digit_glyph false (n % 10) ∷ ds)) ≡ true
        → list_all continues_name (if b then digit_glyph false (n % 10) ∷ ds else digits_onto k 10 false (n / 10) (digit_glyph false (n % 10) ∷ ds)) ≡ true
    by_test true here more = here
    by_test false here more = more

pub decimal_continues : (n : ℕ) → list_all continues_name (decimal n) ≡ true
unfolding digits
decimal_continues n = onto_continues 64 n [] refl

pub numbered_is_name : (n : ℕ) → IsName (codes "u" ++ decimal n)
numbered_is_name n = record {
  first = 117;
  rest = decimal n;
  whole = refl;
  starts = refl;
  continues = AllPass-from_list_all continues_name (decimal n) (decimal_continues n);
}
