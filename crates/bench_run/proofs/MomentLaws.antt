-- What a run comes to behind a round, and at a moment.
use Rattle.std.proofs.Common.{◌≡◌, refl, sym, ◌∙◌, ap, subst, length, Some, None, ℕ, suc, ◌==◌, List, [], ◌∷◌, map, Option, arith, Bool, true, false, inl, inr}
use Rattle.std.specs.Prelude.{Ok, ◌⊎◌, ◌||◌, min, nat_lt, if◌then◌else◌, IsSome, ℤ}
use Rattle.std.specs.List.{list_any}
use Rattle.std.specs.Option.{option_map_or}
use Rattle.std.proofs.lemmas.Bool.{eq-eqb, ltb-true, ltb-false}
use Rattle.design_ir.specs.declared.ids.DomainId.{DomainId}
use Rattle.design_ir.specs.declared.event.Event.TheVariants.{Edge}
use Rattle.design_ir.specs.Circuits.{Circuit}
use Rattle.design_ir.specs.Histories.{Reaches}
use Rattle.design_ir.specs.Legal.{IsLegal}
use Rattle.fragment_laws.specs.Growth.{IsGrown, GrowthKeepsMeaning}
use Rattle.delta_sim.specs.Standing.{Simulated, IsSimOf, state_of}
use Rattle.calendar.specs.declared.clock.Clock.{Clock}
use Rattle.calendar.specs.Due.{due_domains}
use Rattle.calendar.specs.Moments.{IsNext}
use Rattle.py_frames.specs.declared.request.Answer.TheVariants as answer
use Rattle.py_values.specs.declared.val.Val.TheVariants as val
use Rattle.elab_store.specs.declared.simulation.RunEnd.{RunEnd}
use Rattle.elab_store.specs.Held.{held_of}
use Rattle.play_text.specs.Trace.{Row, events_in}
use Rattle.bench_run.specs.declared.point.Point.{Point as CodePoint}
use Rattle.bench_run.specs.declared.setting.Setting.{Setting}
use Rattle.bench_run.specs.declared.testbench.Running.{Running}
use Rattle.bench_run.specs.declared.testbench.Stand.{Stand}
use Rattle.bench_run.specs.declared.testbench.Stand.TheVariants as stand
use Rattle.bench_run.specs.declared.turns.Step.{Step}
use Rattle.bench_run.specs.Runs
use Rattle.bench_run.specs.Runs.{Testbench, Run, Point, Next, Goes, Happens, Ends, Over, Comes, moves, IsRun, design_at, time_of, file_start, happens, is_ready, is_due, is_due_again, is_behind_end, may_end, earlier, earliest, moment_of, first_ready, next_ready, stands_of, toggles, woken, woken_at, ticked}
use Rattle.bench_run.specs.Standing.{AreBenches, IsLinked, IsAt, IsMoving, IsDue, IsBehind, Owed, all_over, happened, stands_in, ticked_in, woken_in}
use Rattle.bench_run.proofs.BenchLists.{stands_same, over_same, benches_woken, benches_ticked}
use Rattle.bench_run.proofs.LinkLaws.{comes_over, env_now, happens_owed}

-- ---- the earliest moment

earlier_is : (m : Option ℕ) (x : Stand) (t : ℕ) → earlier m (moment_of x) ≡ Some t → (m ≡ Some t) ⊎ (is_due t x ≡ true)
earlier_is None (stand.Until a) t e = inr (eq-eqb a t (cc))
earlier_is None (stand.Ready y) t e = absurd ((cc))
earlier_is None (stand.Ticks k n) t e = absurd ((cc))
earlier_is None stand.Ended t e = absurd ((cc))
earlier_is (Some a) (stand.Until b) t e = least a b t (cc)
  where
    least : (a b t : ℕ) → min a b ≡ t → (Some a ≡ Some t) ⊎ ((b == t) ≡ true)
    least a b t e = by_test a b t (nat_lt a b) refl e
      where
        by_test : (a b t : ℕ) (k : Bool) → nat_lt a b ≡ k → min a b ≡ t → (Some a ≡ Some t) ⊎ ((b == t) ≡ true)
        by_test a b t true lt e = inl (ap Some (omega (arith, ltb-true a b lt, e)))
        by_test a b t false lt e = inr (eq-eqb b t (omega (arith, ltb-false a b lt, e)))
earlier_is (Some a) (stand.Ready y) t e = inl e
earlier_is (Some a) (stand.Ticks k n) t e = inl e
earlier_is (Some a) stand.Ended t e = inl e

or_right : (a b : Bool) → b ≡ true → (a || b) ≡ true
or_right true b e = refl
or_right false b e = e

or_left : (a b : Bool) → a ≡ true → (a || b) ≡ true
or_left a b e = ap (λ k. k || b) e

pub earliest_is : (m : Option ℕ) (xs : List Stand) (t : ℕ) → earliest m xs ≡ Some t → (m ≡ Some t) ⊎ (list_any (is_due t) xs ≡ true)
earliest_is m [] t e = inl e
earliest_is m (x ∷ xs) t e = behind (earliest_is (earlier m (moment_of x)) xs t e)
  where
    first : (m ≡ Some t) ⊎ (is_due t x ≡ true) → (m ≡ Some t) ⊎ (list_any (is_due t) (x ∷ xs) ≡ true)
    first (inl is) = inl is
    first (inr is) = inr (or_left (is_due t x) (list_any (is_due t) xs) is)

    behind : (earlier m (moment_of x) ≡ Some t) ⊎ (list_any (is_due t) xs ≡ true) → (m ≡ Some t) ⊎ (list_any (is_due t) (x ∷ xs) ≡ true)
    behind (inl is) = first (earlier_is m x t is)
    behind (inr is) = inr (or_right (is_due t x) (list_any (is_due t) xs) is)

pub due_is : (clocks : List Clock) (now toggle : Option ℕ) (ys : List Running) (t : ℕ) → IsNext clocks now toggle → earliest toggle (stands_in ys) ≡ Some t → IsDue t clocks ys
due_is clocks now toggle ys t next e = from (earliest_is toggle (stands_in ys) t e)
  where
    from : (toggle ≡ Some t) ⊎ (list_any (is_due t) (stands_in ys) ≡ true) → IsDue t clocks ys
    from (inl is) = inl (subst (IsNext clocks now) is next).moment
    from (inr is) = inr is

-- ---- who is woken

pub stands_woken : (t : ℕ) (ys : List Running) → stands_in (map (woken_in t) ys) ≡ map (woken t) (stands_in ys)
stands_woken t [] = refl
stands_woken t (y ∷ ys) = ap (λ ss. woken t y.stand ∷ ss) (stands_woken t ys)

woken_due : (t : ℕ) (x : Stand) → is_due t x ≡ true → is_ready (woken t x) ≡ true
woken_due t (stand.Until m) e = ap (λ b. is_ready (if b then stand.Ready (answer.Give val.None) else stand.Until m)) e
woken_due t (stand.Ready a) e = refl
woken_due t (stand.Ticks k n) e = absurd ((cc))
woken_due t stand.Ended e = absurd ((cc))

pub any_ready : (t n : ℕ) (xs : List Stand) → list_any (is_due t) xs ≡ true → IsSome (first_ready n (map (woken t) xs))
any_ready t n [] e = absurd ((cc))
any_ready t n (x ∷ xs) e = by_ready (is_ready (woken t x)) refl (any_ready t (suc n) xs)
  where
    apart : true ≡ false → ⊥
    apart e = cc

    later : is_ready (woken t x) ≡ false → (k : Bool) → is_due t x ≡ k → list_any (is_due t) xs ≡ true
    later is true due = absurd (apart (sym (woken_due t x due) ∙ is))
    later is false due = sym (ap (λ k. k || list_any (is_due t) xs) due) ∙ e

    by_ready : (b : Bool) → is_ready (woken t x) ≡ b → (list_any (is_due t) xs ≡ true → IsSome (first_ready (suc n) (map (woken t) xs))) → IsSome (if b then Some n else first_ready (suc n) (map (woken t) xs))
    by_ready true is others = some_is n
      where
        some_is : (k : ℕ) → IsSome (Some k)
        some_is k = refl
    by_ready false is others = others (later is (is_due t x) refl)

-- ---- behind a round

-- what the definition says of it, by what the code knows
pub record RoundOver (s : Setting) (c : CodePoint) (how : RunEnd) (toggle : Option ℕ) : Type 0 where
  pub end : s.end ≡ Some how
  pub over : next_ready c.turn (stands_in c.testbenches.items) ≡ None
  pub is_next : IsNext s.clocks.items c.now toggle

round_comes : (s : Setting) (c : CodePoint) (how : RunEnd) (toggle : Option ℕ) → RoundOver s c how toggle → (x : Run) (rows : List Row) (p : Point) → IsLinked s c x rows p → (next : Next) → next ≡ Runs.round_over x c.sim.env how toggle p → Comes x rows p next
round_comes s c how toggle k x rows p l next is =
    comes_over x rows c.sim.env p how toggle next (env_now s c x rows p l) (sym l.setting.end ∙ k.end)
    (ap (next_ready p.turn) (sym (stands_same x c.testbenches.items p.benches l.benches)) ∙ ap (λ n. next_ready n (stands_in c.testbenches.items)) (sym l.turn) ∙ k.over)
    (subst (λ cs. IsNext cs p.now toggle) l.setting.clocks (subst (λ n. IsNext s.clocks.items n toggle) l.now k.is_next)) is

pub over_ends : (s : Setting) (c : CodePoint) (how : RunEnd) (toggle : Option ℕ) → RoundOver s c how toggle → all_over how c.testbenches.items ≡ true → (x : Run) (first : Point) (rows : List Row) → IsAt s c x first rows → IsRun x first rows Over
over_ends s c how toggle k may x first rows at =
    let p = at.point in
    let l = at.linked in
    let b : may_end how p.benches ≡ true = sym (over_same x how c.testbenches.items p.benches l.benches) ∙ may in
    record { last = p; follows = at.follows; ends = round_comes s c how toggle k x rows p l (Ends Over) (sym (ap (λ k. if k then Ends Over else behind x c.sim.env how toggle p) b)) }
  where
    behind : (x : Run) (env : List ℤ) (how : RunEnd) (toggle : Option ℕ) (p : Point) → Next
    behind x env how toggle p =
        if is_due_again p.now (stands_of p.benches) then Goes (record p { turn = 0; benches = map (woken_at (time_of p)) p.benches })
        else Runs.moved_on x env how (earliest toggle (stands_of p.benches)) p

-- where the run does not end yet
pub record GoesOver (s : Setting) (c : CodePoint) (how : RunEnd) (toggle : Option ℕ) : Type 0 where
  pub round : RoundOver s c how toggle
  pub lasts : all_over how c.testbenches.items ≡ false

lasts_comes : (s : Setting) (c : CodePoint) (how : RunEnd) (toggle : Option ℕ) → GoesOver s c how toggle → (x : Run) (rows : List Row) (p : Point) → IsLinked s c x rows p → (b : Bool) → is_due_again p.now (stands_of p.benches) ≡ b
    → Comes x rows p (if b then Goes (record p { turn = 0; benches = map (woken_at (time_of p)) p.benches }) else Runs.moved_on x c.sim.env how (earliest toggle (stands_of p.benches)) p)
lasts_comes s c how toggle k x rows p l b due =
    let m : may_end how p.benches ≡ false = sym (over_same x how c.testbenches.items p.benches l.benches) ∙ k.lasts in
    round_comes s c how toggle k.round x rows p l _
    (ap (λ z. if z then Goes (record p { turn = 0; benches = map (woken_at (time_of p)) p.benches }) else Runs.moved_on x c.sim.env how (earliest toggle (stands_of p.benches)) p) (sym due)
    ∙ sym (ap (λ z. if z then Ends Over else (if is_due_again p.now (stands_of p.benches) then Goes (record p { turn = 0; benches = map (woken_at (time_of p)) p.benches }) else Runs.moved_on x c.sim.env how (earliest toggle (stands_of p.benches)) p)) m))

due_same : (x : Run) (c : CodePoint) (p : Point) (s : Setting) (rows : List Row) → IsLinked s c x rows p → is_due_again c.now (stands_in c.testbenches.items) ≡ is_due_again p.now (stands_of p.benches)
due_same x c p s rows l = ap (λ n. is_due_again n (stands_in c.testbenches.items)) l.now ∙ ap (is_due_again p.now) (stands_same x c.testbenches.items p.benches l.benches)

-- the point of the code where testbenches were woken
pub record HasWoken (c d : CodePoint) (t : ℕ) (now : Option ℕ) : Type 0 where
  pub bench : d.bench ≡ c.bench
  pub sim : d.sim ≡ c.sim
  pub benches : d.testbenches.items ≡ map (woken_in t) c.testbenches.items
  pub turn : d.turn ≡ 0
  pub now_is : d.now ≡ now
  pub left : d.left ≡ c.left

linked_woken : (s : Setting) (c d : CodePoint) (x : Run) (rows : List Row) (p : Point) (t : ℕ) (now : Option ℕ) → IsLinked s c x rows p → HasWoken c d t now → IsLinked s d x rows (record p { now = now; turn = 0; benches = map (woken_at t) p.benches })
linked_woken s c d x rows p t now l h = record {
  setting = l.setting;
  pool = l.pool;
  is_design = l.is_design;
  one = l.one;
  held = ap (λ w. held_of w.held) h.bench ∙ l.held;
  design = ap (λ w. w.design) h.bench ∙ l.design;
  grown = subst (λ w. IsGrown x.design w) (sym (ap (λ w. w.design) h.bench)) l.grown;
  reached = subst (λ (w : Simulated). Reaches x.design (events_in rows) (state_of w.held w.rows) w.env) (sym h.sim) l.reached;
  legal = l.legal;
  benches = subst (λ ys. AreBenches x ys (map (woken_at t) p.benches)) (sym h.benches) (benches_woken x t c.testbenches.items p.benches l.benches);
  turn = h.turn;
  now = h.now_is;
  left = ap (λ w. w.left) h.left ∙ l.left;
}

-- a delay is due now: another round
pub woken_owed : (s : Setting) (c d : CodePoint) (how : RunEnd) (toggle : Option ℕ) (t : ℕ) → GoesOver s c how toggle → c.now ≡ Some t → list_any (is_due t) (stands_in c.testbenches.items) ≡ true → HasWoken c d t (Some t)
    → (x : Run) (first : Point) (rows : List Row) → IsAt s c x first rows → IsAt s d x first rows
woken_owed s c d how toggle t k now due h x first rows at =
    let p = at.point in
    let l = at.linked in
    let pnow : p.now ≡ Some t = sym l.now ∙ now in
    let again : is_due_again p.now (stands_of p.benches) ≡ true = sym (due_same x c p s rows l) ∙ ap (λ n. is_due_again n (stands_in c.testbenches.items)) now ∙ due in
    let q = record p { now = Some t; turn = 0; benches = map (woken_at t) p.benches } in
    let comes = lasts_comes s c how toggle k x rows p l true again in
    let same : record p { turn = 0; benches = map (woken_at (time_of p)) p.benches } ≡ q =
    ap (λ (n : Option ℕ). record p { turn = 0; benches = map (woken_at (option_map_or (λ z. z) n 0)) p.benches }) pnow ∙ ap (λ (n : Option ℕ). record p { now = n; turn = 0; benches = map (woken_at t) p.benches }) pnow in
    record { point = q; follows = moves rows p q at.follows (subst (λ w. Comes x rows p (Goes w)) same comes); linked = linked_woken s c d x rows p t (Some t) l h }

-- nothing is due any more, or what is due is behind the end
pub nothing_owed : (s : Setting) (c : CodePoint) (how : RunEnd) (toggle : Option ℕ) → GoesOver s c how toggle → is_due_again c.now (stands_in c.testbenches.items) ≡ false → earliest toggle (stands_in c.testbenches.items) ≡ None
    → (x : Run) (first : Point) (rows : List Row) → IsAt s c x first rows → IsRun x first rows Over
nothing_owed s c how toggle k due none x first rows at =
    let p = at.point in
    let l = at.linked in
    let comes = lasts_comes s c how toggle k x rows p l false (sym (due_same x c p s rows l) ∙ due) in
    let e : earliest toggle (stands_of p.benches) ≡ None = ap (earliest toggle) (sym (stands_same x c.testbenches.items p.benches l.benches)) ∙ none in
    record { last = p; follows = at.follows; ends = subst (λ w. Comes x rows p (Runs.moved_on x c.sim.env how w p)) e comes }

pub past_owed : (s : Setting) (c : CodePoint) (how : RunEnd) (toggle : Option ℕ) (t : ℕ) → GoesOver s c how toggle → is_due_again c.now (stands_in c.testbenches.items) ≡ false → earliest toggle (stands_in c.testbenches.items) ≡ Some t → is_behind_end how t ≡ true
    → (x : Run) (first : Point) (rows : List Row) → IsAt s c x first rows → IsRun x first rows Over
past_owed s c how toggle t k due some past x first rows at =
    let p = at.point in
    let l = at.linked in
    let comes = lasts_comes s c how toggle k x rows p l false (sym (due_same x c p s rows l) ∙ due) in
    let e : earliest toggle (stands_of p.benches) ≡ Some t = ap (earliest toggle) (sym (stands_same x c.testbenches.items p.benches l.benches)) ∙ some in
    let next : Runs.moved_on x c.sim.env how (earliest toggle (stands_of p.benches)) p ≡ Ends Over =
    ap (λ w. Runs.moved_on x c.sim.env how w p) e ∙ ap (λ b. if b then Ends Over else Runs.at_moment x c.sim.env t p) past in
    record { last = p; follows = at.follows; ends = subst (Comes x rows p) next comes }

-- the next moment comes
pub moving_owed : (s : Setting) (c : CodePoint) (how : RunEnd) (toggle : Option ℕ) (t : ℕ) → GoesOver s c how toggle → is_due_again c.now (stands_in c.testbenches.items) ≡ false → earliest toggle (stands_in c.testbenches.items) ≡ Some t → is_behind_end how t ≡ false
    → (x : Run) (first : Point) (rows : List Row) → IsAt s c x first rows → IsMoving s c t x first rows
moving_owed s c how toggle t k due some within x first rows at =
    let p = at.point in
    let l = at.linked in
    let comes = lasts_comes s c how toggle k x rows p l false (sym (due_same x c p s rows l) ∙ due) in
    let e : earliest toggle (stands_of p.benches) ≡ Some t = ap (earliest toggle) (sym (stands_same x c.testbenches.items p.benches l.benches)) ∙ some in
    let next : Runs.moved_on x c.sim.env how (earliest toggle (stands_of p.benches)) p ≡ Runs.at_moment x c.sim.env t p =
    ap (λ w. Runs.moved_on x c.sim.env how w p) e ∙ ap (λ b. if b then Ends Over else Runs.at_moment x c.sim.env t p) within in
    record { point = p; follows = at.follows; linked = l; comes = subst (Comes x rows p) next comes }

-- ---- at a moment

due_by : (s : Setting) (c : CodePoint) (x : Run) (rows : List Row) (p : Point) (t : ℕ) → IsLinked s c x rows p → due_domains s.clocks.items (length c.bench.design.domains) t ≡ due_domains x.clocks (length x.design.domains) t
due_by s c x rows p t l = ap (λ cs. due_domains cs (length c.bench.design.domains) t) l.setting.clocks ∙ ap (λ (d : Circuit). due_domains x.clocks (length d.domains) t) l.design

-- no clock toggles
pub quiet_owed : (s : Setting) (c d : CodePoint) (t : ℕ) → due_domains s.clocks.items (length c.bench.design.domains) t ≡ [] → HasWoken c d t (Some t) → (x : Run) (first : Point) (rows : List Row) → IsMoving s c t x first rows → IsAt s d x first rows
quiet_owed s c d t none h x first rows k =
    let p = k.point in
    let q = record p { now = Some t; turn = 0; benches = map (woken_at t) p.benches } in
    let next : Runs.at_moment x c.sim.env t p ≡ Goes q = ap (λ ds. toggles x c.sim.env ds q) (sym (due_by s c x rows p t k.linked) ∙ none) in
    record { point = q; follows = moves rows p q k.follows (subst (Comes x rows p) next k.comes); linked = linked_woken s c d x rows p t (Some t) k.linked h }

-- the point of the code where ticks were answered
pub record HasTicked (d f : CodePoint) (toggled : List DomainId) : Type 0 where
  pub bench : f.bench ≡ d.bench
  pub sim : f.sim ≡ d.sim
  pub benches : f.testbenches.items ≡ map (ticked_in d.bench.design (held_of d.bench.held) d.sim.env toggled) d.testbenches.items
  pub turn : f.turn ≡ d.turn
  pub now : f.now ≡ d.now
  pub left : f.left ≡ d.left

linked_ticked : (s : Setting) (d f : CodePoint) (x : Run) (rows : List Row) (q : Point) (env : List ℤ) (toggled : List DomainId) → d.sim.env ≡ env → IsLinked s d x rows q → HasTicked d f toggled
    → IsLinked s f x rows (record q { benches = map (ticked (design_at x q) q.held env toggled) q.benches })
linked_ticked s d f x rows q env toggled same l h = record {
  setting = l.setting;
  pool = l.pool;
  is_design = l.is_design;
  one = l.one;
  held = ap (λ w. held_of w.held) h.bench ∙ l.held;
  design = ap (λ w. w.design) h.bench ∙ l.design;
  grown = subst (λ w. IsGrown x.design w) (sym (ap (λ w. w.design) h.bench)) l.grown;
  reached = subst (λ (w : Simulated). Reaches x.design (events_in rows) (state_of w.held w.rows) w.env) (sym h.sim) l.reached;
  legal = l.legal;
  benches =
      subst (λ ys. AreBenches x ys (map (ticked (design_at x q) q.held env toggled) q.benches)) (sym h.benches)
      (subst (λ e. AreBenches x (map (ticked_in d.bench.design (held_of d.bench.held) d.sim.env toggled) d.testbenches.items) (map (ticked (design_at x q) q.held e toggled) q.benches)) same
      (subst (λ k. AreBenches x (map (ticked_in d.bench.design (held_of d.bench.held) d.sim.env toggled) d.testbenches.items) (map (ticked (design_at x q) k d.sim.env toggled) q.benches)) l.held
      (subst (λ k. AreBenches x (map (ticked_in d.bench.design (held_of d.bench.held) d.sim.env toggled) d.testbenches.items) (map (ticked k (held_of d.bench.held) d.sim.env toggled) q.benches)) l.design
      (benches_ticked x d.bench.design (held_of d.bench.held) d.sim.env toggled d.testbenches.items q.benches l.benches))));
  turn = h.turn ∙ l.turn;
  now = h.now ∙ l.now;
  left = ap (λ w. w.left) h.left ∙ l.left;
}

-- clocks toggle
pub toggled_owed : GrowthKeepsMeaning → (s : Setting) (c d f g : CodePoint) (t : ℕ) (first_domain : DomainId) (others : List DomainId) (z : Step)
    → due_domains s.clocks.items (length c.bench.design.domains) t ≡ first_domain ∷ others → HasWoken c d t (Some t) → HasTicked d f (first_domain ∷ others)
    → IsSimOf f.bench.design f.sim → IsLegal f.bench.design (Edge (first_domain ∷ others)) → z ≡ happened f.left.left file_start (Edge (first_domain ∷ others)) → IsBehind z (Edge (first_domain ∷ others)) f g
    → (x : Run) (first : Point) (rows : List Row) → IsMoving s c t x first rows → Owed (Ok z) s g x first rows
toggled_owed law s c d f g t first_domain others z due h k sim legal is behind x first rows m =
    let p = m.point in
    let q = record p { now = Some t; turn = 0; benches = map (woken_at t) p.benches } in
    let toggled = first_domain ∷ others in
    let r = record q { benches = map (ticked (design_at x q) q.held c.sim.env toggled) q.benches } in
    let next : Runs.at_moment x c.sim.env t p ≡ happens file_start (Edge toggled) r = ap (λ ds. toggles x c.sim.env ds q) (sym (due_by s c x rows p t m.linked) ∙ due) in
    let woken = linked_woken s c d x rows p t (Some t) m.linked h in
    let linked : IsLinked s f x rows r = linked_ticked s d f x rows q c.sim.env toggled (ap (λ (w : Simulated). w.env) h.sim) woken k in
    happens_owed law s f g x first rows p r file_start (Edge toggled) z m.follows (subst (Comes x rows p) next m.comes) linked sim legal is behind

-- some clocks toggle
pub toggled_all_owed : GrowthKeepsMeaning → (s : Setting) (c d f g : CodePoint) (t : ℕ) (toggled : List DomainId) (z : Step)
    → due_domains s.clocks.items (length c.bench.design.domains) t ≡ toggled → (length toggled ≡ 0 → ⊥) → HasWoken c d t (Some t) → HasTicked d f toggled
    → IsSimOf f.bench.design f.sim → IsLegal f.bench.design (Edge toggled) → z ≡ happened f.left.left file_start (Edge toggled) → IsBehind z (Edge toggled) f g
    → (x : Run) (first : Point) (rows : List Row) → IsMoving s c t x first rows → Owed (Ok z) s g x first rows
toggled_all_owed law s c d f g t [] z due some h k sim legal is behind = absurd (some refl)
toggled_all_owed law s c d f g t (e ∷ es) z due some h k sim legal is behind = toggled_owed law s c d f g t e es z due h k sim legal is behind
