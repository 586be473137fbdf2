-- A run before its first row.
use Rattle.std.proofs.Common.{◌≡◌, refl, sym, ◌∙◌, ap, subst, length, get_or, Some, None, ℕ, zero, suc, ◌+◌, ◌<◌, ◌≤◌, List, [], ◌∷◌, ◌++◌, map, drop, arith, append_assoc}
use Rattle.std.proofs.lemmas.List.{append-nil, drop_all}
use Rattle.std.specs.Prelude.{◌^◌, IfSome, slice_get}
use Rattle.std.specs.List.{AllByRecursion}
use Rattle.design_ir.specs.Circuits.{Circuit}
use Rattle.design_ir.specs.Designs.{IsDesign}
use Rattle.design_ir.specs.PoolRules.{IsPool}
use Rattle.comb_graph.specs.Laws.{OrderedHaveOneHistory}
use Rattle.comb_graph.specs.Rankings.{Ranking, IsRanking, bit_of}
use Rattle.fragment_laws.specs.Growth.{IsGrown, GrowsOn}
use Rattle.delta_sim.specs.Standing.{Simulated, Stands, IsSimOf}
use Rattle.calendar.specs.Due.{AreWithin}
use Rattle.calendar.specs.Moments.{AreClocks}
use Rattle.py_tree.specs.Programs.{program_of}
use Rattle.py_tree.specs.Steps.{Steps}
use Rattle.py_heap.specs.Heaps.{Made}
use Rattle.py_heap.proofs.ObjectLaws.{drop_at}
use Rattle.py_values.specs.declared.val.Hw.{Hw}
use Rattle.py_values.specs.declared.val.Val.TheVariants as val
use Rattle.py_machine.specs.declared.machine.Stage.{Stage}
use Rattle.py_machine.specs.Lives.{StandsForBench, again}
use Rattle.elab_store.specs.declared.simulation.Testbench.{Testbench as CodeTestbench}
use Rattle.elab_store.specs.Held.{held_of}
use Rattle.elab_eval.specs.Elaborates.{Found}
use Rattle.bench_acts.specs.Held.{IsBench}
use Rattle.bench_run.specs.declared.begin.Begun.{Begun}
use Rattle.bench_run.specs.declared.point.Point.{Point as CodePoint}
use Rattle.bench_run.specs.declared.setting.Setting.{Setting}
use Rattle.bench_run.specs.declared.testbench.Running.{Running}
use Rattle.bench_run.specs.declared.testbench.Stand.{Stand}
use Rattle.bench_run.specs.Runs.{Run, here, bench_of, clocks_of, first_held, first_point, held_before, moment_of, run_of}
use Rattle.bench_run.specs.Standing.{AreAnew, IsAnew, HasBegun, AreBenches, IsAt, IsBelow, IsLive, IsSafe}

-- what is known of the parts of a run before its first row
pub record Begins (s : Setting) (c : CodePoint) (program : Steps) (f : Found) (left : ℕ) : Type 0 where
  pub named : program_of s.program ≡ program
  pub frozen : s.frozen ≡ f.frozen
  pub clocks : s.clocks.items ≡ clocks_of f.circuit f.store.simulation.clocks
  pub end : s.end ≡ f.store.simulation.run_end
  pub pool : IsPool f.circuit.pool
  pub is_design : IsDesign f.circuit
  pub ranking : Ranking
  pub ranked : IsRanking f.circuit ranking
  pub held : held_of c.bench.held ≡ first_held (held_before f)
  pub design : c.bench.design ≡ f.circuit
  pub stands : Stands f.circuit [] c.sim
  pub anew : AreAnew f.frozen (record { 0 = length f.store.things }) f.store.simulation.testbenches c.testbenches.items
  pub turn : c.turn ≡ 0
  pub now : c.now ≡ None
  pub units : c.left.left ≡ left

-- ---- testbenches

benches_anew : (x : Run) (ts : List CodeTestbench) (ys : List Running) → AreAnew x.frozen x.ctx ts ys → AreBenches x ys (map bench_of ts)
benches_anew x [] [] are = tt
benches_anew x [] (y ∷ ys) are = absurd are
benches_anew x (t ∷ ts) [] are = absurd are
benches_anew x (t ∷ ts) (y ∷ ys) are =
    (record { stands = (are.0).stands x.program; used = (are.0).unused; background = (are.0).background; stand = (are.0).stand }, benches_anew x ts ys are.1)

none_before : (s t : Stage) → s ≡ t → again t ≡ None → again s ≡ None
none_before s t same none = subst (λ w. again w ≡ None) (sym same) none

live_anew : (s : Setting) (frozen : Made) (ctx : Hw) (ts : List CodeTestbench) (ys : List Running) → s.frozen ≡ frozen → AreAnew frozen ctx ts ys → AllByRecursion (IsLive s) ys
live_anew s frozen ctx [] [] same are = tt
live_anew s frozen ctx [] (y ∷ ys) same are = absurd are
live_anew s frozen ctx (t ∷ ts) [] same are = absurd are
live_anew s frozen ctx (t ∷ ts) (y ∷ ys) same are = (
  record {
    of = (are.0).of (program_of s.program);
    callee = val.Func t.function;
    ctx = ctx;
    given = [];
    stands = subst (λ f. StandsForBench (program_of s.program) f (val.Func t.function) ctx [] y.machine) (sym same) ((are.0).stands (program_of s.program));
    waits = λ e. none_before y.machine.stage _ (are.0).before refl;
  },
  live_anew s frozen ctx ts ys same are.1,
)

below_anew : (frozen : Made) (ctx : Hw) (ts : List CodeTestbench) (ys : List Running) → AreAnew frozen ctx ts ys → AllByRecursion IsBelow ys
below_anew frozen ctx [] [] are = tt
below_anew frozen ctx [] (y ∷ ys) are = absurd are
below_anew frozen ctx (t ∷ ts) [] are = absurd are
below_anew frozen ctx (t ∷ ts) (y ∷ ys) are = (subst (λ (w : Stand). IfSome (moment_of w) (λ m. m < 2 ^ 63)) (sym (are.0).stand) tt, below_anew frozen ctx ts ys are.1)

-- ---- the point

pub at_first : GrowsOn → OrderedHaveOneHistory → (s : Setting) (c : CodePoint) (program : Steps) (f : Found) (left : ℕ) → Begins s c program f left → IsAt s c (run_of program f) (first_point f left) []
at_first grow law s c program f left k = record {
  point = first_point f left;
  follows = here;
  linked = record {
    setting = record { program = k.named; frozen = k.frozen; clocks = k.clocks; end = k.end };
    pool = k.pool;
    is_design = k.is_design;
    one = λ es legal. law f.circuit (map bit_of (k.ranking).order) k.pool k.is_design (k.ranked).order es legal;
    held = k.held;
    design = k.design;
    grown = subst (λ (d : Circuit). IsGrown f.circuit d) (sym k.design) (grow.itself f.circuit);
    reached = (k.stands).reaches;
    legal = tt;
    benches = benches_anew (run_of program f) f.store.simulation.testbenches c.testbenches.items k.anew;
    turn = k.turn;
    now = k.now;
    left = k.units;
  };
}

pub safe_first : (s : Setting) (c : CodePoint) (program : Steps) (f : Found) (left : ℕ) → Begins s c program f left → IsBench c.bench → AreClocks s.clocks.items → AreWithin (length f.circuit.domains) s.clocks.items → 0 < left → IsSafe s c
safe_first s c program f left k bench clocks within some = record {
  bench = bench;
  sim = subst (λ (d : Circuit). IsSimOf d c.sim) (sym k.design) (k.stands).of_design;
  live = live_anew s f.frozen (record { 0 = length f.store.things }) f.store.simulation.testbenches c.testbenches.items k.frozen k.anew;
  below = below_anew f.frozen (record { 0 = length f.store.things }) f.store.simulation.testbenches c.testbenches.items k.anew;
  clocks = clocks;
  within = subst (λ (d : Circuit). AreWithin (length d.domains) s.clocks.items) (sym k.design) within;
  now = subst (λ n. IfSome n (λ t. t < 2 ^ 63)) (sym k.now) tt;
  units = subst (λ n. 0 < n) (sym k.units) some;
}

-- ---- one testbench more

anew_more : (frozen : Made) (ctx : Hw) (ts : List CodeTestbench) (t : CodeTestbench) (ys : List Running) (y : Running) → AreAnew frozen ctx ts ys → IsAnew frozen ctx t y → AreAnew frozen ctx (ts ++ t ∷ []) (ys ++ y ∷ [])
anew_more frozen ctx [] t [] y are is = (is, tt)
anew_more frozen ctx [] t (z ∷ ys) y are is = absurd are
anew_more frozen ctx (u ∷ ts) t [] y are is = absurd are
anew_more frozen ctx (u ∷ ts) t (z ∷ ys) y are is = (are.0, anew_more frozen ctx ts t ys y are.1 is)

got_there : {A : Type 0} (xs : List A) (i : ℕ) (d : A) → i < length xs → slice_get xs i ≡ Some (get_or xs i d)
got_there [] i d h = absurd (omega (arith, h))
got_there (x ∷ xs) zero d h = refl
got_there (x ∷ xs) (suc i) d h = got_there xs i d (omega (arith, h))

pub anew_step : (frozen : Made) (ctx : Hw) (added done : List CodeTestbench) (i : ℕ) (d : CodeTestbench) (ys zs : List Running) (y : Running) → AreAnew frozen ctx done ys → done ++ drop i added ≡ added → i < length added
    → IsAnew frozen ctx (get_or added i d) y → zs ≡ ys ++ y ∷ [] → (more : List CodeTestbench) × AreAnew frozen ctx more zs × (more ++ drop (i + 1) added ≡ added)
anew_step frozen ctx added done i d ys zs y are whole lt is same =
    let x = get_or added i d in (
      done ++ x ∷ [],
      subst (AreAnew frozen ctx (done ++ x ∷ [])) (sym same) (anew_more frozen ctx done x ys y are is),
      append_assoc done (x ∷ []) (drop (i + 1) added) ∙ ap (λ r. done ++ r) (sym (drop_at added i x (got_there added i d lt))) ∙ whole,
    )

pub anew_all : (frozen : Made) (ctx : Hw) (added done : List CodeTestbench) (i : ℕ) (ys : List Running) → AreAnew frozen ctx done ys → done ++ drop i added ≡ added → length added ≤ i → AreAnew frozen ctx added ys
anew_all frozen ctx added done i ys are whole past =
    subst (λ ts. AreAnew frozen ctx ts ys) (sym (append-nil done) ∙ ap (λ r. done ++ r) (sym (drop_all i added past)) ∙ whole) are

-- a run begins so
pub begins : (s : Setting) (c : CodePoint) (program : Steps) (f : Found) (left : ℕ) (b : Begun) (ranking : Ranking) → HasBegun f.circuit f.store f.frozen b → IsPool f.circuit.pool → IsDesign f.circuit → IsRanking f.circuit ranking
    → program_of s.program ≡ program → s.frozen ≡ f.frozen → s.clocks ≡ b.clocks → s.end ≡ b.end → c.bench ≡ b.bench → c.sim ≡ b.sim → c.testbenches ≡ b.testbenches → c.turn ≡ 0 → c.now ≡ None → c.left.left ≡ left
    → Begins s c program f left
begins s c program f left b ranking h pool design ranked named frozen clocks end bench sim benches turn now units = record {
  named = named;
  frozen = frozen;
  clocks = ap (λ v. v.items) clocks ∙ (h.simulated).clocks;
  end = end ∙ (h.simulated).end;
  pool = pool;
  is_design = design;
  ranking = ranking;
  ranked = ranked;
  held = ap (λ w. held_of w.held) bench ∙ (h.benches).held;
  design = ap (λ w. w.design) bench ∙ (h.benches).design;
  stands = subst (λ (w : Simulated). Stands f.circuit [] w) (sym sim) (h.simulated).sim;
  anew = subst (λ v. AreAnew f.frozen (record { 0 = length f.store.things }) f.store.simulation.testbenches v.items) (sym benches) (h.benches).testbenches;
  turn = turn;
  now = now;
  units = units;
}
