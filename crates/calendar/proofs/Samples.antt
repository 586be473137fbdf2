-- Moments, worked out. A microsecond is 1,000,000,000 femtoseconds.
use Rattle.std.proofs.Common.{◌≡◌, refl, ℕ, ◌+◌, ◌-◌, ◌<◌, ◌^◌, true, false, [], ◌∷◌, map, Some, None, arith}
use Rattle.calendar.specs.declared.clock.Clock.{Clock}
use Rattle.calendar.specs.Moments.{IsClock, IsNext}
use Rattle.calendar.specs.Due.{toggles, domain, due_domains}
use Rattle.calendar.specs.Laws.{Follow}
use Rattle.calendar.proofs.Turns.{tests_are_toggles, past_of_moment, next_below, phases_are_first, next_is_a_half_away, last_is_last}
use Rattle.calendar.proofs.Nexts.{next_both}

abbrev clock : ℕ → ℕ → ℕ → Clock
clock number half phase = record { domain = domain number; half = half; phase = phase }

-- of a period of one microsecond and of two, each with half a period before its first toggle
abbrev one : Clock
one = clock 0 500000000 500000000

abbrev two : Clock
two = clock 1 1000000000 1000000000

-- low at first: it rises after half a period
of_one : map (λ m. toggles m one) (0 ∷ 499999999 ∷ 500000000 ∷ 500000001 ∷ 999999999 ∷ 1000000000 ∷ 1500000000 ∷ 54500000000 ∷ 54500000001 ∷ []) ≡ false ∷ false ∷ true ∷ false ∷ false ∷ true ∷ true ∷ true ∷ false ∷ []
of_one = refl

-- one that begins at once, and one whose first half is longer than the others
at_once : map (λ m. toggles m (clock 0 3 0)) (0 ∷ 1 ∷ 2 ∷ 3 ∷ 4 ∷ 5 ∷ 6 ∷ []) ≡ true ∷ false ∷ false ∷ true ∷ false ∷ false ∷ true ∷ []
at_once = refl

later : map (λ m. toggles m (clock 0 2 5)) (0 ∷ 1 ∷ 3 ∷ 4 ∷ 5 ∷ 6 ∷ 7 ∷ 8 ∷ 9 ∷ []) ≡ false ∷ false ∷ false ∷ false ∷ true ∷ false ∷ true ∷ false ∷ true ∷ []
later = refl

-- near the limit a clock stops: at 2 ^ 63 nothing toggles, also where it would be a turn
late : map (λ m. toggles m (clock 0 2 (2 ^ 63 - 3))) ((2 ^ 63 - 3) ∷ (2 ^ 63 - 2) ∷ (2 ^ 63 - 1) ∷ (2 ^ 63) ∷ []) ≡ true ∷ false ∷ true ∷ false ∷ []
late = refl

past : map (λ m. toggles m (clock 0 1 (2 ^ 63 - 1))) ((2 ^ 63 - 1) ∷ (2 ^ 63) ∷ []) ≡ true ∷ false ∷ []
past = refl

never : map (λ m. toggles m (clock 0 1 (2 ^ 63))) ((2 ^ 63 - 1) ∷ (2 ^ 63) ∷ []) ≡ false ∷ false ∷ []
never = refl

-- ---- several clocks

alone : due_domains (one ∷ two ∷ []) 2 500000000 ≡ domain 0 ∷ []
alone = refl

together : due_domains (one ∷ two ∷ []) 2 1000000000 ≡ domain 0 ∷ domain 1 ∷ []
together = refl

-- in the order of the domains, whatever that of the clocks
ordered : due_domains (two ∷ one ∷ []) 2 1000000000 ≡ domain 0 ∷ domain 1 ∷ []
ordered = refl

-- each domain once
once : due_domains (clock 1 2 0 ∷ clock 1 3 0 ∷ []) 3 6 ≡ domain 1 ∷ []
once = refl

nothing : due_domains (one ∷ two ∷ []) 2 750000000 ≡ []
nothing = refl

no_clocks : due_domains [] 2 0 ≡ []
no_clocks = refl

-- ---- the next moment

one_is_clock : IsClock one
one_is_clock = record { some = omega arith; below = omega arith }

two_is_clock : IsClock two
two_is_clock = record { some = omega arith; below = omega arith }

next_of_one : (m : ℕ) → toggles m one ≡ true → m + 500000000 < 2 ^ 63 → IsNext (one ∷ []) (Some m) (Some (m + 500000000))
next_of_one m e below = next_is_a_half_away one m one_is_clock ((tests_are_toggles one m).0 e) below

moments_of_one : Follow (one ∷ []) None (500000000 ∷ 1000000000 ∷ 1500000000 ∷ [])
moments_of_one = (phases_are_first one (omega arith), (next_of_one 500000000 refl (omega arith), (next_of_one 1000000000 refl (omega arith), tt)))

-- the phase is next from before it
first_of_two : IsNext (two ∷ []) (Some 500000000) (Some 1000000000)
first_of_two = next_below two 500000000 1000000000 (record { turn = 0; is = refl; behind = omega arith; least = λ k h. omega arith }) (omega arith)

second_of_two : IsNext (two ∷ []) (Some 1000000000) (Some 2000000000)
second_of_two = next_is_a_half_away two 1000000000 two_is_clock ((tests_are_toggles two 1000000000).0 refl) (omega arith)

second_from_between : IsNext (two ∷ []) (Some 1500000000) (Some 2000000000)
second_from_between = next_below two 1500000000 2000000000 (past_of_moment two 1500000000 two_is_clock (omega arith)) (omega arith)

-- of both each second moment is one of both
moments_of_both : Follow (one ∷ two ∷ []) None (500000000 ∷ 1000000000 ∷ 1500000000 ∷ 2000000000 ∷ [])
moments_of_both = (first, (second, (third, (fourth, tt))))
  where
    first : IsNext (one ∷ two ∷ []) None (Some 500000000)
    first = next_both (one ∷ []) (two ∷ []) None (Some 500000000) (Some 1000000000) (phases_are_first one (omega arith)) (phases_are_first two (omega arith))

    second : IsNext (one ∷ two ∷ []) (Some 500000000) (Some 1000000000)
    second = next_both (one ∷ []) (two ∷ []) (Some 500000000) (Some 1000000000) (Some 1000000000) (next_of_one 500000000 refl (omega arith)) first_of_two

    third : IsNext (one ∷ two ∷ []) (Some 1000000000) (Some 1500000000)
    third = next_both (one ∷ []) (two ∷ []) (Some 1000000000) (Some 1500000000) (Some 2000000000) (next_of_one 1000000000 refl (omega arith)) second_of_two

    fourth : IsNext (one ∷ two ∷ []) (Some 1500000000) (Some 2000000000)
    fourth = next_both (one ∷ []) (two ∷ []) (Some 1500000000) (Some 2000000000) (Some 2000000000) (next_of_one 1500000000 refl (omega arith)) second_from_between

-- a clock near the limit has a last moment, after which there is none
late_stops : IsNext (clock 0 2 (2 ^ 63 - 3) ∷ []) (Some (2 ^ 63 - 1)) None
late_stops = last_is_last (clock 0 2 (2 ^ 63 - 3)) (2 ^ 63 - 1) (record { some = omega arith; below = omega arith }) ((tests_are_toggles (clock 0 2 (2 ^ 63 - 3)) (2 ^ 63 - 1)).0 refl) (omega arith)
