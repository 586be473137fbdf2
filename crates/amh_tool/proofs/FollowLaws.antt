-- Numbers of which those that moved are replaced.
use Rattle.std.specs.Prelude.{◌≡◌, ◌≢◌, ◌<◌, ◌≤◌, ◌==◌, ◌||◌, ℕ, zero, suc, Bool, true, false, List, [], ◌∷◌, length, slice_set, ℤ, pos}
use Rattle.std.proofs.Common.{refl, sym, ◌∙◌, subst, arith}
use Rattle.std.specs.Ordering.{int_eq}
use Rattle.std.proofs.lemmas.Bool.Decides.{Decides-int_eq, Decides-eqb}
use Rattle.std.proofs.lemmas.Bool.{false≢true}
use Rattle.std.proofs.lemmas.List.{get_or-set_same, get_or-set_other, ext_get_or}
use Rattle.design_ir.specs.Circuits.{at, is_among}

-- each number that is another one than now is that of one of these signals
abbrev pub AreMoving : List ℤ → List ℤ → List ℕ → Type 0
AreMoving before now signals = (s : ℕ) → at before s ≢ at now s → is_among signals s ≡ true

at-beyond : (xs : List ℤ) (s : ℕ) → length xs ≤ s → at xs s ≡ pos 0
at-beyond [] s le = refl
at-beyond (x ∷ xs) zero le = absurd (omega (arith, le))
at-beyond (x ∷ xs) (suc s) le = at-beyond xs s (omega (arith, le))

-- of the other signals that are still to come, where the first is not among them any more
turn : (t : ℕ) (rest : List ℕ) (before later now : List ℤ) → AreMoving before now (t ∷ rest) → ((s : ℕ) → s ≢ t → at later s ≡ at before s) → at later t ≡ at now t → AreMoving later now rest
turn t rest before later now h others here = λ s apart. by_test s apart (t == s) refl (h s)
  where
    by_test : (s : ℕ) → at later s ≢ at now s → (b : Bool) → (t == s) ≡ b → (at before s ≢ at now s → (b || is_among rest s) ≡ true) → is_among rest s ≡ true
    by_test s apart true e k = absurd (apart (subst (λ n. at later n ≡ at now n) ((Decides-eqb t s).0 e) here))
    by_test s apart false e k =
        let not_t : s ≢ t = λ same. false≢true (sym e ∙ (Decides-eqb t s).1 (sym same)) in
        k (λ q. apart (others s not_t ∙ q))

-- the signal has its new number
pub followed : (t : ℕ) (rest : List ℕ) (before now : List ℤ) → t < length before → AreMoving before now (t ∷ rest) → AreMoving (slice_set before t (at now t)) now rest
followed t rest before now lt h =
    turn t rest before (slice_set before t (at now t)) now h (λ s apart. get_or-set_other before t s (at now t) (pos 0) apart) (get_or-set_same before t (at now t) (pos 0) lt)

-- there is no such signal
pub passed : (t : ℕ) (rest : List ℕ) (before now : List ℤ) → length before ≡ length now → length before ≤ t → AreMoving before now (t ∷ rest) → AreMoving before now rest
passed t rest before now same le h =
    turn t rest before before now h (λ s apart. refl) (at-beyond before t le ∙ sym (at-beyond now t (omega (arith, same, le))))

stable : (a b : ℤ) → (a ≢ b → ⊥) → a ≡ b
stable a b h = here (int_eq a b) refl
  where
    here : (t : Bool) → int_eq a b ≡ t → a ≡ b
    here true e = (Decides-int_eq a b).0 e
    here false e = absurd (h (λ q. false≢true (sym e ∙ (Decides-int_eq a b).1 q)))

-- where none is to come, all numbers are the new ones
pub all_followed : (before now : List ℤ) → length before ≡ length now → AreMoving before now [] → before ≡ now
all_followed before now same h = ext_get_or (pos 0) before now same (λ s lt. stable (at before s) (at now s) (λ apart. false≢true (h s apart)))
