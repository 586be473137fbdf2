-- A run stays safe where a moment comes and where an event takes place, and comes closer to its next row.
use Rattle.std.proofs.Common.{◌≡◌, refl, sym, ◌∙◌, ap, subst, length, Some, None, ℕ, ◌-◌, ◌*◌, ◌+◌, ◌<◌, ◌==◌, List, [], ◌∷◌, map, Option, arith, Bool, true, false, inl, inr}
use Rattle.std.specs.Prelude.{Ok, ◌^◌, nat_lt, if◌then◌else◌, IsSome, IfSome, ℤ}
use Rattle.std.specs.List.{AllByRecursion, list_any}
use Rattle.std.proofs.lemmas.Bool.{ltb-true}
use Rattle.shape_rules.specs.Operators.{is_zero}
use Rattle.amh_host.specs.declared.place.Place.{Place}
use Rattle.design_ir.specs.declared.ids.DomainId.{DomainId}
use Rattle.design_ir.specs.declared.event.Event.{Event}
use Rattle.design_ir.specs.declared.event.Event.TheVariants.{Edge}
use Rattle.design_ir.specs.Circuits.{Circuit}
use Rattle.design_ir.specs.Legal.{IsLegal}
use Rattle.design_ir.specs.Steps.{is_active, is_reset}
use Rattle.delta_sim.specs.Standing.{Simulated, IsSimOf}
use Rattle.calendar.specs.declared.clock.Clock.{Clock}
use Rattle.calendar.specs.Due.{AreWithin, due_domains}
use Rattle.calendar.specs.Laws.{DueAreSome, DueAreAnEvent}
use Rattle.py_frames.specs.declared.request.Answer.TheVariants as answer
use Rattle.py_values.specs.declared.val.Val.TheVariants as val
use Rattle.elab_store.specs.declared.simulation.Tick.{Tick}
use Rattle.elab_store.specs.declared.simulation.TickEnd.{TickEnd}
use Rattle.elab_store.specs.declared.simulation.TickEnd.TheVariants as end
use Rattle.elab_store.specs.declared.simulation.Wait.{Wait}
use Rattle.elab_store.specs.declared.simulation.Wait.TheVariants as wait
use Rattle.elab_store.specs.Held.{held_of}
use Rattle.elab_store.specs.Stores.{Held}
use Rattle.bench_acts.specs.Context.{ticks_at}
use Rattle.bench_acts.specs.Held.{IsBench}
use Rattle.bench_run.specs.declared.point.Point.{Point as CodePoint}
use Rattle.bench_run.specs.declared.setting.Setting.{Setting}
use Rattle.bench_run.specs.declared.testbench.Running.{Running}
use Rattle.bench_run.specs.declared.testbench.Stand.{Stand}
use Rattle.bench_run.specs.declared.testbench.Stand.TheVariants as stand
use Rattle.bench_run.specs.declared.turns.Step.{Step}
use Rattle.bench_run.specs.declared.turns.Step.TheVariants as step
use Rattle.bench_run.specs.Runs.{first_ready, next_ready, has_ended, is_due, moment_of, number_at, samples_of, spent_at, woken, stand_ticked, tick_stand, wait_ticked}
use Rattle.bench_run.specs.Standing.{IsLive, IsBelow, IsSafe, IsBehind, IsDue, StaysSafe, all_left, happened, round_left, stands_in, ticked_in, woken_in}
use Rattle.bench_run.proofs.SafeLaws.{all_left-woken}
use Rattle.bench_run.proofs.MomentLaws.{HasWoken, HasTicked, any_ready, stands_woken}

-- ---- testbenches that stand elsewhere

live_with : (s : Setting) (y : Running) (w : Stand) → IsLive s y → (has_ended w ≡ false → has_ended y.stand ≡ false) → IsLive s (record y { stand = w })
live_with s y w h same = record { of = h.of; callee = h.callee; ctx = h.ctx; given = h.given; stands = h.stands; waits = λ e. h.waits (same e) }

-- ---- who is woken

woken_lasts : (t : ℕ) (x : Stand) → has_ended (woken t x) ≡ false → has_ended x ≡ false
woken_lasts t (stand.Until m) e = refl
woken_lasts t (stand.Ready a) e = e
woken_lasts t (stand.Ticks k n) e = e
woken_lasts t stand.Ended e = e

live_woken : (s : Setting) (t : ℕ) (ys : List Running) → AllByRecursion (IsLive s) ys → AllByRecursion (IsLive s) (map (woken_in t) ys)
live_woken s t [] h = tt
live_woken s t (y ∷ ys) h = (live_with s y (woken t y.stand) h.0 (woken_lasts t y.stand), live_woken s t ys h.1)

woken_below : (t : ℕ) (x : Stand) → IfSome (moment_of x) (λ m. m < 2 ^ 63) → IfSome (moment_of (woken t x)) (λ m. m < 2 ^ 63)
woken_below t (stand.Until m) h = by_test (m == t)
  where
    by_test : (b : Bool) → IfSome (moment_of (if b then stand.Ready (answer.Give val.None) else stand.Until m)) (λ n. n < 2 ^ 63)
    by_test true = tt
    by_test false = h
woken_below t (stand.Ready a) h = tt
woken_below t (stand.Ticks k n) h = tt
woken_below t stand.Ended h = tt

below_woken : (t : ℕ) (ys : List Running) → AllByRecursion IsBelow ys → AllByRecursion IsBelow (map (woken_in t) ys)
below_woken t [] h = tt
below_woken t (y ∷ ys) h = (woken_below t y.stand h.0, below_woken t ys h.1)

pub safe_woken : (s : Setting) (c d : CodePoint) (t : ℕ) (now : Option ℕ) → IfSome now (λ m. m < 2 ^ 63) → IsSafe s c → HasWoken c d t now → IsSafe s d
safe_woken s c d t now early k h = record {
  bench = subst IsBench (sym h.bench) k.bench;
  sim = subst (λ b. IsSimOf b.design d.sim) (sym h.bench) (subst (λ (w : Simulated). IsSimOf c.bench.design w) (sym h.sim) k.sim);
  live = subst (AllByRecursion (IsLive s)) (sym h.benches) (live_woken s t c.testbenches.items k.live);
  below = subst (AllByRecursion IsBelow) (sym h.benches) (below_woken t c.testbenches.items k.below);
  clocks = k.clocks;
  within = subst (λ b. AreWithin (length b.design.domains) s.clocks.items) (sym h.bench) k.within;
  now = subst (λ n. IfSome n (λ m. m < 2 ^ 63)) (sym h.now_is) early;
  units = subst (λ w. 0 < w.left) (sym h.left) k.units;
}

-- ---- who ticks

module _ (c : Circuit) (h : Held) (env : List ℤ) (toggled : List DomainId) where
  none_tick : (k left : ℕ) (t : Tick) (reset : Bool) (e : TickEnd) → moment_of (tick_stand h env k left t reset e) ≡ None
  none_tick k left t reset end.Once = refl
  none_tick k left t true (end.Times n) = refl
  none_tick k left t false (end.Times n) = by_test (nat_lt 1 left)
    where
      by_test : (b : Bool) → moment_of (if b then stand.Ticks k (left - 1) else stand.Ready (answer.GiveList (samples_of h env t))) ≡ None
      by_test true = refl
      by_test false = refl
  none_tick k left t true (end.Until y) = refl
  none_tick k left t false (end.Until y) = by_test (is_zero (number_at h env y))
    where
      by_test : (b : Bool) → moment_of (if b then stand.Ticks k left else stand.Ready (answer.GiveList (samples_of h env t))) ≡ None
      by_test true = refl
      by_test false = refl

  none_waited : (k left : ℕ) (w : Option Wait) → moment_of (wait_ticked c h env toggled k left w) ≡ None
  none_waited k left None = refl
  none_waited k left (Some (wait.Delay n)) = refl
  none_waited k left (Some (wait.Tick t)) = by_test (is_active c env toggled t.domain.0)
    where
      by_test : (b : Bool) → moment_of (if b then tick_stand h env k left t (is_reset c env t.domain.0) t.end else stand.Ticks k left) ≡ None
      by_test true = none_tick k left t (is_reset c env t.domain.0) t.end
      by_test false = refl

  ticked_below : (x : Stand) → IfSome (moment_of x) (λ m. m < 2 ^ 63) → IfSome (moment_of (stand_ticked c h env toggled x)) (λ m. m < 2 ^ 63)
  ticked_below (stand.Ticks k left) is = subst (λ o. IfSome o (λ m. m < 2 ^ 63)) (sym (none_waited k left (ticks_at h k))) tt
  ticked_below (stand.Until m) is = is
  ticked_below (stand.Ready a) is = tt
  ticked_below stand.Ended is = tt

  ticked_lasts : (x : Stand) → has_ended (stand_ticked c h env toggled x) ≡ false → has_ended x ≡ false
  ticked_lasts (stand.Ticks k left) e = refl
  ticked_lasts (stand.Until m) e = refl
  ticked_lasts (stand.Ready a) e = refl
  ticked_lasts stand.Ended e = e

  live_ticked : (s : Setting) (ys : List Running) → AllByRecursion (IsLive s) ys → AllByRecursion (IsLive s) (map (ticked_in c h env toggled) ys)
  live_ticked s [] all = tt
  live_ticked s (y ∷ ys) all = (live_with s y (stand_ticked c h env toggled y.stand) all.0 (ticked_lasts y.stand), live_ticked s ys all.1)

  below_ticked : (ys : List Running) → AllByRecursion IsBelow ys → AllByRecursion IsBelow (map (ticked_in c h env toggled) ys)
  below_ticked [] all = tt
  below_ticked (y ∷ ys) all = (ticked_below y.stand all.0, below_ticked ys all.1)

pub safe_ticked : (s : Setting) (d f : CodePoint) (toggled : List DomainId) → IsSafe s d → HasTicked d f toggled → IsSafe s f
safe_ticked s d f toggled k h = record {
  bench = subst IsBench (sym h.bench) k.bench;
  sim = subst (λ b. IsSimOf b.design f.sim) (sym h.bench) (subst (λ (w : Simulated). IsSimOf d.bench.design w) (sym h.sim) k.sim);
  live = subst (AllByRecursion (IsLive s)) (sym h.benches) (live_ticked d.bench.design (held_of d.bench.held) d.sim.env toggled s d.testbenches.items k.live);
  below = subst (AllByRecursion IsBelow) (sym h.benches) (below_ticked d.bench.design (held_of d.bench.held) d.sim.env toggled d.testbenches.items k.below);
  clocks = k.clocks;
  within = subst (λ b. AreWithin (length b.design.domains) s.clocks.items) (sym h.bench) k.within;
  now = subst (λ n. IfSome n (λ m. m < 2 ^ 63)) (sym h.now) k.now;
  units = subst (λ w. 0 < w.left) (sym h.left) k.units;
}

-- ---- an event

pub safe_happened : (s : Setting) (c d : CodePoint) (place : Place) (e : Event) (z : Step) → IsSafe s c → z ≡ happened c.left.left place e → IsBehind z e c d → StaysSafe (Ok z) s d
safe_happened s c d place e z k is behind = by_test (nat_lt 1 c.left.left) refl
  where
    by_test : (b : Bool) → nat_lt 1 c.left.left ≡ b → StaysSafe (Ok z) s d
    by_test true lt =
        let happens_is : z ≡ step.Happens e = is ∙ ap (λ b. if b then step.Happens e else step.Stops (spent_at place)) lt in
        let h = subst (λ w. IsBehind w e c d) happens_is behind in
        subst (λ w. StaysSafe (Ok w) s d) (sym happens_is)
        (subst (IsSafe s) (sym h.0)
        (record { bench = k.bench; sim = h.1; live = k.live; below = k.below; clocks = k.clocks; within = k.within; now = k.now; units = omega (arith, ltb-true 1 c.left.left lt) }))
    by_test false lt =
        let stops_is : z ≡ step.Stops (spent_at place) = is ∙ ap (λ b. if b then step.Happens e else step.Stops (spent_at place)) lt in
        subst (λ w. StaysSafe (Ok w) s d) (sym stops_is) tt

-- ---- closer to the next row

-- where a delay is due, a testbench is ready behind it
pub ready_woken : (t : ℕ) (ys : List Running) → list_any (is_due t) (stands_in ys) ≡ true → IsSome (next_ready 0 (stands_in (map (woken_in t) ys)))
ready_woken t ys due = subst (λ ss. IsSome (first_ready 0 ss)) (sym (stands_woken t ys)) (any_ready t 0 (stands_in ys) due)

no_round : (o : Option ℕ) → IsSome o → round_left o ≡ 0
no_round (Some i) is = refl
no_round None is = absurd ((cc))

pub closer_woken : (t turn : ℕ) (ys zs : List Running) → zs ≡ map (woken_in t) ys → next_ready turn (stands_in ys) ≡ None → list_any (is_due t) (stands_in ys) ≡ true
    → 2 * all_left zs + round_left (next_ready 0 (stands_in zs)) < 2 * all_left ys + round_left (next_ready turn (stands_in ys))
closer_woken t turn ys zs is over due =
    let none : round_left (next_ready 0 (stands_in zs)) ≡ 0 = no_round (next_ready 0 (stands_in zs)) (subst (λ ws. IsSome (next_ready 0 (stands_in ws))) (sym is) (ready_woken t ys due)) in
    let left : all_left zs ≡ all_left ys = ap all_left is ∙ all_left-woken t ys in
    let one : round_left (next_ready turn (stands_in ys)) ≡ 1 = ap round_left over in
    omega (arith, none, left, one)

-- ---- what is due at a moment is an event

none_long : {A : Type 0} (xs : List A) → length xs ≡ 0 → xs ≡ []
none_long [] e = refl
none_long (x ∷ xs) e = absurd (omega (arith, e))

-- domains that were found due are those of the definition
pub none_due : (xs ys : List DomainId) (n : ℕ) → xs ≡ ys → n ≡ length xs → n ≡ 0 → ys ≡ []
none_due xs ys n is len zero_is = sym is ∙ none_long xs (sym len ∙ zero_is)

-- where no clock toggles, a delay is due
pub ready_moment : DueAreSome → (clocks : List Clock) (domains t : ℕ) (ys : List Running) → AreWithin domains clocks → due_domains clocks domains t ≡ [] → IsDue t clocks ys → IsSome (next_ready 0 (stands_in (map (woken_in t) ys)))
ready_moment law clocks domains t ys within none (inl moment) = absurd ((law clocks domains t within).1 moment none)
ready_moment law clocks domains t ys within none (inr due) = ready_woken t ys due

pub toggled_legal : DueAreAnEvent → (clocks : List Clock) (c : Circuit) (t : ℕ) (xs : List DomainId) → xs ≡ due_domains clocks (length c.domains) t → (length xs ≡ 0 → ⊥) → IsLegal c (Edge xs)
toggled_legal law clocks c t xs is some =
    subst (λ ds. IsLegal c (Edge ds)) (sym is) (law clocks (length c.domains) t (λ e. some (ap length (is ∙ e))) c refl)
