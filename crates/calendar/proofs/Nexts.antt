-- The next moment of several clocks, and moments one after another.
use Rattle.std.proofs.Common.{◌≡◌, refl, sym, ap, ◌∙◌, subst, ◌⊎◌, inl, inr, ℕ, suc, zero, ◌+◌, ◌*◌, ◌<◌, ◌^◌, List, [], ◌∷◌, ◌++◌, length, take, get_or, Option, Some, None, arith}
use Rattle.std.specs.Prelude.{slice_get, IfSome}
use Rattle.std.proofs.lemmas.Bool.{cases_lt, cases_order}
use Rattle.std.proofs.lemmas.Option.{same_Some, none-some}
use Rattle.std.proofs.lemmas.List.{take_more}
use Rattle.std.proofs.lemmas.List.Elements.{Contains-append_right}
use Rattle.std.proofs.Math.Nat.{min-eq_left, min-eq_right}
use Rattle.calendar.specs.declared.clock.Clock.{Clock}
use Rattle.calendar.specs.Moments.{IsClock, Toggles, IsMoment, IsLeast, IsNext}
use Rattle.calendar.specs.Steps.{earlier}
use Rattle.calendar.specs.Laws.{NextIsOne, Follow, NoneIsPassed, TurnsAreInOrder}
use Rattle.calendar.proofs.Turns.{toggles_of, phases_are_first, next_is_a_half_away, last_is_last}

-- ---- the clocks of two lists

moment_left : (xs ys : List Clock) (m : ℕ) → IsMoment xs m → IsMoment (xs ++ ys) m
moment_left [] ys m h = absurd h
moment_left (c ∷ cs) ys m h = elim h [ inl t ↦ inl t | inr k ↦ inr (moment_left cs ys m k) ]

moment_right : (xs ys : List Clock) (m : ℕ) → IsMoment ys m → IsMoment (xs ++ ys) m
moment_right [] ys m h = h
moment_right (c ∷ cs) ys m h = inr (moment_right cs ys m h)

moment_cases : (xs ys : List Clock) (m : ℕ) → IsMoment (xs ++ ys) m → IsMoment xs m ⊎ IsMoment ys m
moment_cases [] ys m h = inr h
moment_cases (c ∷ cs) ys m h = elim h [
  | inl t ↦ inl (inl t)
  | inr k ↦ elim (moment_cases cs ys m k) [ inl i ↦ inl (inr i) | inr j ↦ inr j ]
]

moment_below : (clocks : List Clock) (m : ℕ) → IsMoment clocks m → m < 2 ^ 63
moment_below [] m h = absurd h
moment_below (c ∷ cs) m h = elim h [ inl t ↦ t.below | inr k ↦ moment_below cs m k ]

pub next_is_below : (clocks : List Clock) (after next : Option ℕ) → IsNext clocks after next → IfSome next (λ m. m < 2 ^ 63)
next_is_below clocks after None n = tt
next_is_below clocks after (Some m) n = moment_below clocks m n.moment

-- the earlier one is the next of both
pub next_both : (xs ys : List Clock) (after a b : Option ℕ) → IsNext xs after a → IsNext ys after b → IsNext (xs ++ ys) after (earlier a b)
next_both xs ys after None None p q = λ m h k. elim (moment_cases xs ys m k) [ inl i ↦ p m h i | inr j ↦ q m h j ]
next_both xs ys after None (Some b) p q =
    record { moment = moment_right xs ys b q.moment; behind = q.behind; none = λ m h e k. elim (moment_cases xs ys m k) [ inl i ↦ p m h i | inr j ↦ q.none m h e j ] }
next_both xs ys after (Some a) None p q =
    record { moment = moment_left xs ys a p.moment; behind = p.behind; none = λ m h e k. elim (moment_cases xs ys m k) [ inl i ↦ p.none m h e i | inr j ↦ q m h j ] }
next_both xs ys after (Some a) (Some b) p q = elim (cases_lt b a) [
  | inl less ↦ subst (λ (n : ℕ). IsLeast (xs ++ ys) after n) (sym (min-eq_right (omega (arith, less))))
      (record { moment = moment_right xs ys b q.moment; behind = q.behind; none = λ m h e k. elim (moment_cases xs ys m k) [ inl i ↦ p.none m h (omega (arith, e, less)) i | inr j ↦ q.none m h e j ] })
  | inr more ↦ subst (λ (n : ℕ). IsLeast (xs ++ ys) after n) (sym (min-eq_left more))
      (record { moment = moment_left xs ys a p.moment; behind = p.behind; none = λ m h e k. elim (moment_cases xs ys m k) [ inl i ↦ p.none m h e i | inr j ↦ q.none m h (omega (arith, e, more)) j ] })
]

-- one clock more
pub next_more : (clocks : List Clock) (i : ℕ) (d : Clock) (after a b least : Option ℕ) → i < length clocks → IsNext (take i clocks) after a → IsNext (get_or clocks i d ∷ []) after b → least ≡ earlier a b → IsNext (take (i + 1) clocks) after least
next_more clocks i d after a b least held p q e =
    rw (take_more clocks i d held, e) (next_both (take i clocks) (get_or clocks i d ∷ []) after a b p q)

-- ---- moments one after another

pub next_is_one : NextIsOne
next_is_one clocks after None None p q = refl
next_is_one clocks after None (Some b) p q = absurd (p b q.behind q.moment)
next_is_one clocks after (Some a) None p q = absurd (q a p.behind p.moment)
next_is_one clocks after (Some a) (Some b) p q = elim (cases_order a b) [
  | inl same ↦ ap (λ n. Some n) same
  | inr other ↦ elim other [
    | inl less ↦ absurd (q.none a p.behind less p.moment)
    | inr more ↦ absurd (p.none b q.behind more q.moment)
  ]
]

pub none_is_passed : NoneIsPassed
none_is_passed clocks after [] m f h k = inr h
none_is_passed clocks after (n ∷ ms) m f h k = elim (cases_order m n) [
  | inl same ↦ inl (0, omega arith, sym same)
  | inr other ↦ elim other [
    | inl less ↦ absurd (f.0.none m h less k)
    | inr more ↦ elim (none_is_passed clocks (Some n) ms m f.1 more k) [ inl i ↦ inl (Contains-append_right (n ∷ []) ms m i) | inr j ↦ inr j ]
  ]
]

-- ---- the moments of one clock

first_is_phase : (c : Clock) (m : ℕ) → IsNext (c ∷ []) None (Some m) → m ≡ c.phase
first_is_phase c m n =
    let t = toggles_of c m n.moment in
    let is = t.is in
    let below = t.below in
    same_Some m c.phase (next_is_one (c ∷ []) None (Some m) (Some c.phase) n (phases_are_first c (omega (arith, is, below))))

next_is_behind : (c : Clock) (m n : ℕ) → IsClock c → Toggles c m → IsNext (c ∷ []) (Some m) (Some n) → n ≡ m + c.half
next_is_behind c m n is_clock t next = elim (cases_lt (m + c.half) (2 ^ 63)) [
  | inl below ↦ same_Some n (m + c.half) (next_is_one (c ∷ []) (Some m) (Some n) (Some (m + c.half)) next (next_is_a_half_away c m is_clock t below))
  | inr past ↦ absurd (last_is_last c m is_clock t past n next.behind next.moment)
]

turns_from : (c : Clock) (after : Option ℕ) (ms : List ℕ) (j k m : ℕ) → IsClock c → ((n : ℕ) → IsNext (c ∷ []) after (Some n) → n ≡ c.phase + j * c.half) → Follow (c ∷ []) after ms → slice_get ms k ≡ Some m → m ≡ c.phase + (j + k) * c.half
turns_from c after [] j k m is_clock first f at = absurd (none-some m at)
turns_from c after (n ∷ ms) j zero m is_clock first f at =
    let here : n ≡ m = same_Some n m at in
    sym here ∙ first n f.0 ∙ ap (λ (i : ℕ). c.phase + i * c.half) (omega arith)
turns_from c after (n ∷ ms) j (suc k) m is_clock first f at =
    let t = toggles_of c n f.0.moment in
    let is = first n f.0 in
    turns_from c (Some n) ms (suc j) k m is_clock (λ p next. (let behind = next_is_behind c n p is_clock t next in omega (arith, behind, is))) f.1 at
    ∙ ap (λ (i : ℕ). c.phase + i * c.half) (omega arith)

pub turns_are_in_order : TurnsAreInOrder
turns_are_in_order c ms k m is_clock f at =
    turns_from c None ms 0 k m is_clock (λ n next. (let first = first_is_phase c n next in omega (arith, first))) f at
    ∙ ap (λ (i : ℕ). c.phase + i * c.half) (omega arith)
