-- Which call of a host in memory fails.
use Rattle.std.proofs.Common.{◌≡◌, ℕ, zero, suc, ◌+◌, ◌-◌, ◌<◌, Bool, true, false, ◌||◌, ◌==◌, ltb, List, [], ◌∷◌, ◌++◌, length, get_or, take, drop, refl, sym, ap, ◌∙◌, arith}
use Rattle.std.specs.Prelude.{map}
use Rattle.std.proofs.lemmas.Bool.Decides.{nat_tests}
use Rattle.std.proofs.lemmas.List.{at_drop_more}
use Rattle.lists.proofs.TextLaws.{text_eq_same}
use Rattle.amh_host.specs.declared.host.HostCall.{HostCall}
use Rattle.amh_host.specs.declared.host.HostCall.TheVariants.{Read, Start, Put, Say, Warn}
use Rattle.amh_host.specs.declared.memory.Planned.{Planned}
use Rattle.amh_host.specs.Planned.{same_call, comes_due, counted, planned, after_calls}

-- an entry that was not reached is as it was
pub mapped_here : {X : Type 0} (f : X → X) (xs : List X) (i : ℕ) (x : X) → i < length xs → x ≡ get_or (map f (take i xs) ++ drop i xs) i x → x ≡ get_or xs i x
mapped_here f [] i x h e = absurd (omega (arith, h))
mapped_here f (y ∷ ys) zero x h e = e
mapped_here f (y ∷ ys) (suc i) x h e = mapped_here f ys i x (omega arith) e

or_assoc : (a b c : Bool) → ((a || b) || c) ≡ (a || (b || c))
or_assoc true b c = refl
or_assoc false b c = refl

or_false : (a : Bool) → (a || false) ≡ a
or_false true = refl
or_false false = refl

-- a turn of the walk over the entries
pub due_turn : (call : HostCall) (name : List ℕ) (xs : List Planned) (i : ℕ) (x : Planned) (due hit all : Bool) → i < length xs → x ≡ get_or xs i x → hit ≡ comes_due call name (x ∷ []) → (due || comes_due call name (drop i xs)) ≡ all → ((due || hit) || comes_due call name (drop (i + 1) xs)) ≡ all
due_turn call name xs i x due hit all h is found inv =
    let rest = comes_due call name (drop (i + 1) xs) in
    let here = at_drop_more (comes_due call name) xs i x h ∙ ap (λ y. comes_due call name (y ∷ drop (i + 1) xs)) (sym is) in
    or_assoc due hit rest ∙ ap (λ b. due || (b || rest)) (found ∙ or_false _) ∙ ap (λ b. due || b) (sym here) ∙ inv

-- ---- the nth such call from now on fails, and no other

call_same : (call : HostCall) → same_call call call ≡ true
call_same Read = refl
call_same Start = refl
call_same Put = refl
call_same Say = refl
call_same Warn = refl

lt_suc : (n : ℕ) → ltb 0 (suc n) ≡ true
lt_suc n = grind (arith, nat_tests)

sub_one : (n : ℕ) → suc n - 1 ≡ n
sub_one n = omega arith

-- one such call brings the entry one call nearer
one_call : (call : HostCall) (name : List ℕ) (n : ℕ) → counted call name (planned call name (suc n)) ≡ planned call name n
one_call call name n =
    rw (call_same call, text_eq_same name, lt_suc n, sub_one n) refl

none_left : (call : HostCall) (name : List ℕ) → counted call name (planned call name 0) ≡ planned call name 0
none_left call name = rw (call_same call, text_eq_same name) refl

one_more : (n m : ℕ) → (n == m) ≡ (suc n == suc m)
one_more n m = grind (arith, nat_tests)

never : (m : ℕ) → (0 == suc m) ≡ (0 == suc (suc m))
never m = grind (arith, nat_tests)

-- after k such calls the next one fails exactly where it is the nth
pub comes_due-after_calls : (k n : ℕ) (call : HostCall) (name : List ℕ) → comes_due call name (after_calls k call name (planned call name n ∷ [])) ≡ (n == suc k)
comes_due-after_calls zero n call name = first n
  where
    first : (n : ℕ) → comes_due call name (planned call name n ∷ []) ≡ (n == 1)
    first zero = rw (call_same call, text_eq_same name) refl
    first (suc n) = rw (call_same call, text_eq_same name, lt_suc n) (or_false _)
comes_due-after_calls (suc k) zero call name = ap (λ p. comes_due call name (after_calls k call name (p ∷ []))) (none_left call name) ∙ comes_due-after_calls k zero call name ∙ never k
comes_due-after_calls (suc k) (suc n) call name = ap (λ p. comes_due call name (after_calls k call name (p ∷ []))) (one_call call name n) ∙ comes_due-after_calls k n call name ∙ one_more n (suc k)

-- a call of another kind or on another name does not count
pub counted-apart : (call other : HostCall) (name : List ℕ) (p : Planned) → same_call p.call other ≡ false → counted other name p ≡ p
counted-apart call other name p apart = rw apart refl
