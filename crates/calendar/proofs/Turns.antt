-- The turns of one clock.
use Rattle.std.proofs.Common.{◌≡◌, sym, ap, ◌∙◌, subst, inl, inr, ℕ, suc, ◌+◌, ◌-◌, ◌*◌, ◌/◌, ◌%◌, ◌<◌, ◌≤◌, ◌^◌, true, [], ◌∷◌, Some, None, arith}
use Rattle.std.specs.Prelude.{nat_lt, nat_le, ◌==◌, ◌&&◌}
use Rattle.std.proofs.lemmas.Bool.{and_parts, and_from, cases_lt, ltb-true, leb-true, eqb-true, lt-ltb, le-leb, eq-eqb}
use Rattle.std.proofs.lemmas.Nat.{div-add-mod', mod_below, mul-le}
use Rattle.std.proofs.Math.Nat.{mul-mod_left}
use Rattle.calendar.specs.declared.clock.Clock.{Clock}
use Rattle.calendar.specs.Moments.{IsClock, Toggles, IsMoment, IsNext}
use Rattle.calendar.specs.Due.{toggles}
use Rattle.calendar.specs.Steps.{IsPast}
use Rattle.calendar.specs.Laws.{TestsAreToggles, PhasesAreFirst, NextIsAHalfAway, LastIsLast}

-- ---- the test

quotient : (phase half m : ℕ) → phase ≤ m → (m - phase) % half ≡ 0 → m ≡ phase + (m - phase) / half * half
quotient phase half m low none = let whole = div-add-mod' (m - phase) half in omega (arith, whole, none, low)

pub tests_are_toggles : TestsAreToggles
tests_are_toggles c m = (there, back)
  where
    there : toggles m c ≡ true → Toggles c m
    there h =
        let below = and_parts (nat_lt m (2 ^ 63)) (nat_le c.phase m && ((m - c.phase) % c.half == 0)) h in
        let behind = and_parts (nat_le c.phase m) ((m - c.phase) % c.half == 0) below.1 in
        record {
          turn = (m - c.phase) / c.half;
          is = quotient c.phase c.half m (leb-true c.phase m behind.0) (eqb-true ((m - c.phase) % c.half) 0 behind.1);
          below = ltb-true m (2 ^ 63) below.0;
        }

    back : Toggles c m → toggles m c ≡ true
    back t =
        let is = t.is in
        let rest : m - c.phase ≡ t.turn * c.half = omega (arith, is) in
        let none : (m - c.phase) % c.half ≡ 0 = ap (λ (n : ℕ). n % c.half) rest ∙ mul-mod_left t.turn c.half in
        and_from (nat_lt m (2 ^ 63)) (nat_le c.phase m && ((m - c.phase) % c.half == 0)) (lt-ltb m (2 ^ 63) t.below)
        (and_from (nat_le c.phase m) ((m - c.phase) % c.half == 0) (le-leb c.phase m (omega (arith, is))) (eq-eqb ((m - c.phase) % c.half) 0 none))

-- ---- the turn behind a moment

-- a turn behind another one is a half behind it
turn_behind : (phase half q k : ℕ) → phase + q * half < phase + k * half → phase + suc q * half ≤ phase + k * half
turn_behind phase half q k h = elim (cases_lt q k) [
  | inl more ↦ (let far = mul-le (suc q) half k half (omega (arith, more)) (omega arith) in omega (arith, far))
  | inr less ↦ (let near = mul-le k half q half less (omega arith) in absurd (omega (arith, near, h)))
]

-- what is behind a moment is behind its turn
pub turn_past : (phase half after : ℕ) → 0 < half → phase ≤ after → after + half - (after - phase) % half ≡ phase + suc ((after - phase) / half) * half
turn_past phase half after some low = let whole = div-add-mod' (after - phase) half in let less = mod_below (after - phase) half some in omega (arith, whole, less, low)

-- a clock's next turn, where the moment is not before its phase
pub past_of_moment : (c : Clock) (after : ℕ) → IsClock c → c.phase ≤ after → IsPast c after (after + c.half - (after - c.phase) % c.half)
past_of_moment c after is_clock low =
    let q = (after - c.phase) / c.half in
    let is = turn_past c.phase c.half after is_clock.some low in
    let whole = div-add-mod' (after - c.phase) c.half in
    let less = mod_below (after - c.phase) c.half is_clock.some in
    record {
      turn = suc q;
      is = is;
      behind = omega (arith, less, is_clock.some);
      least = λ k h. subst (λ (n : ℕ). n ≤ c.phase + k * c.half) (sym is) (turn_behind c.phase c.half q k (omega (arith, h, whole, low)));
    }

-- behind a turn the next one is a half away
past_of_turn : (c : Clock) (m : ℕ) → IsClock c → Toggles c m → IsPast c m (m + c.half)
past_of_turn c m is_clock t =
    let is = t.is in
    let next : m + c.half ≡ c.phase + suc t.turn * c.half = omega (arith, is) in
    record {
      turn = suc t.turn;
      is = next;
      behind = omega (arith, is_clock.some);
      least = λ k h. subst (λ (n : ℕ). n ≤ c.phase + k * c.half) (sym next) (turn_behind c.phase c.half t.turn k (subst (λ (n : ℕ). n < c.phase + k * c.half) is h));
    }

-- ---- one clock

pub toggles_of : (c : Clock) (m : ℕ) → IsMoment (c ∷ []) m → Toggles c m
toggles_of c m h = elim h [ inl t ↦ t | inr never ↦ absurd never ]

pub next_below : (c : Clock) (after next : ℕ) → IsPast c after next → next < 2 ^ 63 → IsNext (c ∷ []) (Some after) (Some next)
next_below c after next p below =
    record {
      moment = inl (record { turn = p.turn; is = p.is; below = below });
      behind = p.behind;
      none = λ m h early k. let t = toggles_of c m k in let is = t.is in let least = p.least t.turn (subst (λ (n : ℕ). after < n) is h) in omega (arith, least, is, early);
    }

pub none_past : (c : Clock) (after next : ℕ) → IsPast c after next → 2 ^ 63 ≤ next → IsNext (c ∷ []) (Some after) None
none_past c after next p past m h k =
    let t = toggles_of c m k in
    let is = t.is in
    let below = t.below in
    let least = p.least t.turn (subst (λ (n : ℕ). after < n) is h) in
    omega (arith, least, is, below, past)

pub phases_are_first : PhasesAreFirst
phases_are_first c below =
    record {
      moment = inl (record { turn = 0; is = omega arith; below = below });
      behind = tt;
      none = λ m h early k. let is = (toggles_of c m k).is in omega (arith, is, early);
    }

pub next_is_a_half_away : NextIsAHalfAway
next_is_a_half_away c m is_clock t below = next_below c m (m + c.half) (past_of_turn c m is_clock t) below

pub last_is_last : LastIsLast
last_is_last c m is_clock t past = none_past c m (m + c.half) (past_of_turn c m is_clock t) past
