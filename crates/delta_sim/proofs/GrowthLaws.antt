-- A simulator of a design stays one where the design grows by expressions.
use Rattle.std.specs.Prelude.{◌≡◌, refl, ℕ, ◌<◌, ◌≤◌, ◌&&◌, ◌||◌, Bool, false, List, [], ◌∷◌, ◌++◌, length, slice_get, is_none, ℤ, pos, slice_index_or, Some}
use Rattle.std.specs.List.{AllByRecursion, list_any}
use Rattle.std.proofs.Common.{sym, ◌∙◌, ap, arith, subst, length-append}
use Rattle.design_ir.specs.declared.event.Event.{Event}
use Rattle.design_ir.specs.declared.ids.ExprId.{ExprId}
use Rattle.design_ir.specs.declared.expr.Expr as expr
use Rattle.design_ir.specs.declared.expr.Expr.{Expr}
use Rattle.design_ir.specs.declared.expr.Expr.TheVariants.{Const, Unary, Binary, Mux, Slice, Cat, Part, Pick, Cast, Matches, Reset}
use Rattle.design_ir.specs.declared.memory.MemRead.{MemRead}
use Rattle.design_ir.specs.declared.process.DesignProcess.{DesignProcess}
use Rattle.design_ir.specs.declared.signal.Sig.{Sig}
use Rattle.amh_bits.specs.Patterns.{IsOf}
use Rattle.design_ir.specs.Circuits.{Circuit, State, at, is_among, is_held, is_input}
use Rattle.design_ir.specs.Designs.{IsDesign, IsProcess}
use Rattle.design_ir.specs.Guards.{block_exprs, statement_exprs, choices_exprs, driven}
use Rattle.design_ir.specs.Histories.{Reaches, start, after}
use Rattle.design_ir.specs.Named.{named, AllBelow}
use Rattle.design_ir.specs.Pools.{Pooled}
use Rattle.design_ir.specs.PoolRules.{IsPool}
use Rattle.design_ir.specs.Put.{put}
use Rattle.design_ir.specs.Settled.{Settled}
use Rattle.design_ir.specs.Steps.{step, first_state}
use Rattle.design_ir.specs.Trees.{Statement, assign, choose, Choices, none, arm, Block, done, next}
use Rattle.design_ir.proofs.AimLaws.{target_there}
use Rattle.flat_design.specs.Growing.{IsMore}
use Rattle.flat_design.proofs.Growing.{answer_kept, get_kept, form_more, num_more, bits_more, signals_more, target_more, fits_more}
use Rattle.fragment_laws.specs.Growth.{MeansTheSame, NeedsTheSame}
use Rattle.fragment_laws.specs.SamePools.{AllSame}
use Rattle.fragment_laws.proofs.GrowthLaws.{growth_keeps_meaning, pools_same}
use Rattle.fragment_laws.proofs.GrowthNeeds.{growth_keeps_needs}
use Rattle.fragment_laws.proofs.Twins.{all_left, all_right, driven_same, put_same, register_same}
use Rattle.sim_plans.specs.declared.plan.Plan.{Plan}
use Rattle.sim_plans.specs.declared.task.Task.{Task}
use Rattle.sim_plans.specs.Driven.{numbers_of}
use Rattle.delta_sim.specs.Growth.{GoesOnWith, GrowthKeepsSimulators}
use Rattle.sim_plans.specs.Plans.{IsPlan, IsClockedTask, IsCombTask, IsTable}
use Rattle.sim_plans.specs.Reading.{AreThere}
use Rattle.sim_plans.specs.Reads.{stands_in, stands_step, places, placing_step, statement_reads, choices_read, block_reads}
use Rattle.delta_sim.specs.Standing.{Simulated, AreNumbersOf, IsSimOf, state_of}
use Rattle.sim_plans.specs.Tasks.{AreFitting, AreTargetsOf, IsProgram, IsTask, block_targets, picked}
use Rattle.sim_plans.proofs.CombPorts.{all_ports, port_rules}
use Rattle.sim_plans.proofs.EdgesFit.{all_get}
use Rattle.sim_plans.proofs.Marks.{usable_there}
use Rattle.sim_plans.proofs.Picking.{picked_all}
use Rattle.sim_plans.proofs.Among.{there_at}

-- ---- statements over a pool that grew

module _ (p q : Pooled) (rules : IsPool p) (more : IsMore p q) where
  same_there : (es : List ExprId) → AreThere p es → AllSame q p es
  same_there [] h = tt
  same_there (e ∷ es) h = (
    record { value = λ env. num_more p q rules more env e.0 h.0; places = λ env. bits_more p q rules more env e.0 h.0; signals = signals_more p q rules more e.0 h.0 },
    same_there es h.1,
  )

  pub driven_more : (b : Block) → AreThere p (block_exprs b) → driven q b ≡ driven p b
  driven_more b h = driven_same q p more.signals b (same_there (block_exprs b) h)

  pub drives_more : (b : Block) (s : ℕ) → AreThere p (block_exprs b) → is_among (driven q b) s ≡ is_among (driven p b) s
  drives_more b s h = ap (λ ss. is_among ss s) (driven_more b h)

  pub put_more : (env : List ℤ) (b : Block) (cur : List ℤ) → AreThere p (block_exprs b) → put q env b cur ≡ put p env b cur
  put_more env b cur h = put_same q p more.signals env b cur (same_there (block_exprs b) h)

  targets_more : (es : List ExprId) → AreTargetsOf p es → AreTargetsOf q es
  targets_more [] h = tt
  targets_more (e ∷ es) h = (target_more p q rules more e.0 (target_there p e.0 h.0) ∙ h.0, targets_more es h.1)

  -- ---- what statements read

  stands_more : (s k : ℕ) → k < length p.exprs → stands_in q s k ≡ stands_in p s k
  unfolding stands_in
  stands_more s k there = answer_kept false (stands_step s) (stands_step s) p q rules more (λ e names f. refl) k there

  placing_same : (s : ℕ) (f : ℕ → Bool) (e : Expr) → AllBelow (length p.exprs) (named e) → placing_step q s f e ≡ placing_step p s f e
  placing_same s f (Const n x) h = refl
  placing_same s f (expr.TheVariants.Sig x) h = refl
  placing_same s f (Unary op a) h = refl
  placing_same s f (Binary op a b) h = refl
  placing_same s f (Mux i a b) h = refl
  placing_same s f (Slice a low width) h = refl
  placing_same s f (Cat es) h = refl
  placing_same s f (Part a offset width stride) h = ap (λ b. b || f a.0) (stands_more s offset.0 h.1.0)
  placing_same s f (Pick index es) h = ap (λ b. b || list_any (λ (e : ExprId). f e.0) es) (stands_more s index.0 h.0)
  placing_same s f (Cast a signed) h = refl
  placing_same s f (Matches a patterns) h = refl
  placing_same s f (Reset domain place) h = refl

  places_more : (s k : ℕ) → k < length p.exprs → places q s k ≡ places p s k
  unfolding places
  places_more s k there = answer_kept false (placing_step p s) (placing_step q s) p q rules more (λ e names f. placing_same s f e names) k there

  abbrev IsHere : ExprId → Type 0
  IsHere e = e.0 < length p.exprs

  module _ (s : ℕ) where
    mutual
      statement_more : (x : Statement) → AreThere p (statement_exprs x) → statement_reads q s x ≡ statement_reads p s x
      statement_more (assign target value place) h = let a = places_more s target.0 h.0 in let b = stands_more s value.0 h.1.0 in cc
      statement_more (choose arms) h = choices_more arms h

      choices_more : (arms : Choices) → AreThere p (choices_exprs arms) → choices_read q s arms ≡ choices_read p s arms
      choices_more none h = refl
      choices_more (arm condition body others) h =
          let a = stands_more s condition.0 h.0 in
          let b = reads_more body (all_left IsHere (block_exprs body) (choices_exprs others) h.1) in
          let o = choices_more others (all_right IsHere (block_exprs body) (choices_exprs others) h.1) in
          cc

      pub reads_more : (b : Block) → AreThere p (block_exprs b) → block_reads q s b ≡ block_reads p s b
      reads_more done h = refl
      reads_more (next x rest) h =
          let a = statement_more x (all_left IsHere (statement_exprs x) (block_exprs rest) h) in
          let b = reads_more rest (all_right IsHere (statement_exprs x) (block_exprs rest) h) in
          cc

-- ---- what is worked out of a design that grew

module _ (c : Circuit) (q : Pooled) (rules : IsPool c.pool) (design : IsDesign c) (more : IsMore c.pool q) where
  abbrev d : Circuit
  d = record c { pool = q }

  body_there : (k : ℕ) (p : DesignProcess) → slice_get c.processes k ≡ Some p → AreThere c.pool (block_exprs p.body)
  body_there k p at =
      let process : IsProcess c p = all_get (IsProcess c) c.processes k p design.processes at in
      usable_there c (block_exprs p.body) process.expressions

  picked_there : (b : Block) (is : List ℕ) → AreThere c.pool (block_exprs b) → AreThere c.pool (block_exprs (picked b is))
  picked_there b is h = picked_all (IsHere c.pool q rules more) block_exprs statement_exprs (λ s r. refl) b is h tt

  address_there : (i : ℕ) (x : ℕ × MemRead) → slice_get (all_ports c design) i ≡ Some x → x.1.addr.0 < length c.pool.exprs
  address_there i x at = (port_rules c design i x at).addr.usable.there

  held_more : (s : ℕ) → is_held d s ≡ is_held c s
  held_more s = ap (λ b. is_input c s || b) (register_same c q (pools_same c q rules design more) s)

  module _ (count : ℕ) (few : count ≤ length c.pool.exprs) where
    program_more : (list : List ExprId) → IsProgram c.pool count list → IsProgram q count list
    program_more list h = record {
      there = h.there;
      behind = λ i e x at is.
          let below = there_at count list i e h.there at in
          let kept = ap (λ es. slice_get es e.0) more.exprs ∙ get_kept c.pool.exprs more.more e.0 (omega (arith, below, few)) in
          h.behind i e x at (sym kept ∙ is);
    }

    task_more : (t : Task) (p : DesignProcess) → IsTask c count t p → IsTask d count t p
    task_more t p h =
        let whole = body_there t.process p h.process in
        let part = picked_there p.body t.statements whole in
        record {
          process = h.process;
          inside = h.inside;
          outs = λ s. h.outs s ∙ sym (drives_more c.pool q rules more (picked p.body t.statements) s part);
          drives = λ s out. drives_more c.pool q rules more p.body s whole ∙ h.drives s out;
          same = λ env cur s out.
              ap (λ xs. at xs s) (put_more c.pool q rules more env p.body cur whole) ∙ h.same env cur s out ∙ ap (λ xs. at xs s) (sym (put_more c.pool q rules more env (picked p.body t.statements) cur part));
          program = program_more t.exprs h.program;
          computed = h.computed;
          targets = targets_more c.pool q rules more (block_targets (picked p.body t.statements)) h.targets;
        }

    comb_more : (t : Task) → IsCombTask c count t → IsCombTask d count t
    comb_more t h = record {
      p = h.p;
      task = task_more t h.p h.task;
      comb = h.comb;
      below = subst (λ (sigs : List Sig). AllByRecursion (λ s. s < length sigs) (numbers_of t.outs)) (sym more.signals) h.below;
    }

    clocked_more : (t : Task) (p : DesignProcess) → IsClockedTask c count t p → IsClockedTask d count t p
    clocked_more t p h = record {
      task = task_more t p h.task;
      whole = h.whole;
      outs = λ s. h.outs s ∙ sym (drives_more c.pool q rules more p.body s (body_there t.process p h.task.process));
    }

    pub plan_more : (plan : Plan) → IsPlan c count plan → IsPlan d count plan
    plan_more plan h =
        let inside : (s : ℕ) → s < length q.signals → s < length c.pool.signals = λ s. subst (λ (sigs : List Sig). s < length sigs) more.signals in
        record {
          clearable = h.clearable;
          given = λ s below. h.given s (inside s below) ∙ sym (held_more s);
          given_below = subst (λ (sigs : List Sig). AllByRecursion (λ s. s < length sigs) (numbers_of plan.given)) (sym more.signals) h.given_below;
          clocked = λ k p domain at is. let x = h.clocked k p domain at is in record { t = x.t; stands = x.stands; is_task = clocked_more x.t p x.is_task };
          tasks = λ j t at. comb_more t (h.tasks j t at);
          covered = λ k p s at is drives. h.covered k p s at is (sym (drives_more c.pool q rules more p.body s (body_there k p at)) ∙ drives);
          apart = h.apart;
          ports = λ k m at. let x = h.ports k m at in record { list = x.list; stands = x.stands; program = program_more x.list x.program; computed = x.computed };
          readers = subst (λ (sigs : List Sig). IsTable (length sigs) plan.jobs plan.readers) (sym more.signals) h.readers;
          awake = λ s j t p at process reads. h.awake s j t p at process (sym (reads_more c.pool q rules more s (picked p.body t.statements) (picked_there p.body t.statements (body_there t.process p process))) ∙ reads);
          processes = subst (λ (sigs : List Sig). IsTable (length sigs) plan.agents plan.processes) (sym more.signals) h.processes;
          exact = λ s k p below at. h.exact s k p (inside s below) at ∙ ap (λ b. is_none p.domain && b) (sym (reads_more c.pool q rules more s p.body (body_there k p at)));
          reads = record {
            many = h.reads.many;
            each = λ i t x at port. let y = h.reads.each i t x at port in record { memory = y.memory; addr = y.addr; outs = y.outs; program = program_more t.exprs y.program; computed = y.computed };
            awake = λ s i x port stands. h.reads.awake s i x port (sym (stands_more c.pool q rules more s x.1.addr.0 (address_there i x port)) ∙ stands);
            exact = λ s i x below port. h.reads.exact s i x (inside s below) port ∙ sym (stands_more c.pool q rules more s x.1.addr.0 (address_there i x port));
          };
          jobs = h.jobs;
          agents = h.agents;
        }

  fitting_more : (numbers : List ℤ) → AreFitting c.pool numbers → AreFitting q numbers
  fitting_more numbers h = record {
    few = omega (arith, h.few, ap length more.exprs, length-append c.pool.exprs more.more);
    fits = λ k low.
        subst (λ f. IsOf f.signed f.width (slice_index_or numbers k (pos 0))) (sym (form_more c.pool q rules more k (omega (arith, low, h.few)))) (h.fits k low);
  }

  numbers_more : (numbers : List ℤ) → AreNumbersOf c numbers → AreNumbersOf d numbers
  numbers_more numbers h = record { count = h.count ∙ sym (ap length more.signals); fits = fits_more c.pool q rules more numbers h.fits }

  module _ (means : MeansTheSame c d) (needs : NeedsTheSame c d) where
    sim_more : (s : Simulated) → IsSimOf c s → IsSimOf d s
    sim_more s h = record {
      held = numbers_more s.held h.held;
      env = numbers_more s.env h.env;
      rows = record { count = h.rows.count; fits = h.rows.fits };
      settled = (means.settled (state_of s.held s.rows) s.env).1 h.settled;
      longest = (needs.longest s.longest).1 h.longest;
      few_bits = h.few_bits;
      plan = plan_more (length s.numbers) h.numbers.few s.plan h.plan;
      numbers = fitting_more s.numbers h.numbers;
      next = numbers_more s.next h.next;
      waits = h.waits;
      then = h.then;
      woken = h.woken;
      noted = h.noted;
      changed = h.changed;
      moved = record { count = h.moved.count ∙ sym (ap length more.signals); once = h.moved.once };
    }

    reaches_more : (es : List Event) (st : State) (env : List ℤ) → Reaches c es st env → Reaches d es st env
    reaches_more es st env (start env' h) =
        subst (λ x. Reaches d [] x env') means.first (start env' (subst (λ x. Settled d x env') (sym means.first) ((means.settled (first_state c) env').1 h)))
    reaches_more es st env (after es' st' env' e env'' before h) =
        subst (λ x. Reaches d (es' ++ e ∷ []) x env'') (means.steps st' env' e)
        (after es' st' env' e env'' (reaches_more es' st' env' before) (subst (λ x. Settled d x env'') (sym (means.steps st' env' e)) ((means.settled (step c st' env' e) env'').1 h)))

    pub goes_on : (s : Simulated) → GoesOnWith c d s
    goes_on s = record {
      of_design = sim_more s;
      stands = λ events h. record { of_design = sim_more s h.of_design; reaches = reaches_more events (state_of s.held s.rows) s.env h.reaches };
    }

pub growth_keeps_simulators : GrowthKeepsSimulators
growth_keeps_simulators c d rules design grown s =
    let means = growth_keeps_meaning c d rules design grown in
    let needs = growth_keeps_needs c d rules design grown in
    subst (λ (x : Circuit). GoesOnWith c x s) (sym grown.rest)
    (goes_on c d.pool rules design grown.more (subst (MeansTheSame c) grown.rest means) (subst (NeedsTheSame c) grown.rest needs) s)
