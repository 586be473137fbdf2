-- What a run of a task leaves, and which signals the next delta leaves as they are: those that no waiting task drives.
use Rattle.std.specs.Prelude.{◌≡◌, ◌≢◌, refl, ℕ, ◌+◌, ◌-◌, ◌<◌, ◌≤◌, ◌||◌, ◌==◌, Bool, true, false, not, List, [], ◌∷◌, length, slice_get, slice_set, slice_index_or, ℤ, pos, unsigned_abs, Option, Some, None}
use Rattle.std.specs.List.{AllByRecursion}
use Rattle.std.proofs.Common.{sym, ◌∙◌, ap, arith, subst, ⊎_elim}
use Rattle.std.proofs.lemmas.Bool.{cases_Bool, cases_lt, eqb-true, eq-eqb, false≢true}
use Rattle.std.proofs.lemmas.List.{get_or_past, get_or-set_same, get_or-set_other, length-set}
use Rattle.design_ir.specs.declared.ids.ExprId.{ExprId}
use Rattle.design_ir.specs.declared.ids.SigId.{SigId}
use Rattle.design_ir.specs.declared.signal.Sig.{Sig}
use Rattle.design_ir.specs.Circuits.{Circuit, State, at, is_among, is_held}
use Rattle.design_ir.specs.Designs.{IsDesign}
use Rattle.design_ir.specs.Guards.{driven, block_exprs}
use Rattle.design_ir.specs.PoolRules.{IsPool}
use Rattle.design_ir.specs.Put.{put}
use Rattle.design_ir.specs.Rows.{row_at}
use Rattle.design_ir.specs.Settled.{starts, delta, Settled}
use Rattle.design_ir.specs.Trees.{Block}
use Rattle.design_ir.proofs.NumbersFit.{FitsSignals, element}
use Rattle.design_ir.proofs.PutLaws.{put_other}
use Rattle.comb_graph.specs.Orders.{is_comb}
use Rattle.comb_graph.proofs.DeltaLaws.{delta_other, starts_length}
use Rattle.sim_plans.specs.declared.plan.Plan.{Plan}
use Rattle.sim_plans.specs.declared.task.PortTask.{PortTask}
use Rattle.sim_plans.specs.declared.task.Task.{Task}
use Rattle.sim_plans.specs.Driven.{numbers_of}
use Rattle.sim_plans.specs.Plans.{IsPlan, IsCombTask, Wakes, WakesPorts, IsUntouched, Rests, init_at, begun, readers_of}
use Rattle.sim_plans.specs.Reads.{block_reads, stands_in}
use Rattle.delta_sim.specs.Standing.{AreRowsOf}
use Rattle.sim_plans.specs.Tasks.{AreAmong, picked}
use Rattle.sim_plans.specs.Woken.{AreChanged, same_rows}
use Rattle.sim_plans.proofs.Agrees.{num_agrees, put_agrees}
use Rattle.sim_plans.proofs.CombPorts.{memory_there, port_at, port_fits, word_there}
use Rattle.sim_plans.proofs.Jobs.{TaskOut, PortOut, PortAt, out_cases, port_of, port_word, driven_by}
use Rattle.delta_sim.proofs.SameRows.{same_rows_is}
use Rattle.sim_plans.proofs.Frames.{put_frame}
use Rattle.sim_plans.proofs.Among.{among_index, there_at}
use Rattle.sim_plans.proofs.TaskValues.{delta_at, not_held, starts_init}
use Rattle.delta_sim.proofs.Waking.{cases_int}
use Rattle.sim_plans.proofs.WritesFit.{OfSignal, set_fits}

all_below : (count n : ℕ) (list es : List ExprId) → AllByRecursion (λ (e : ExprId). e.0 < count) list → count ≤ n → AreAmong list es → AllByRecursion (λ (e : ExprId). e.0 < n) es
all_below count n list [] there few h = tt
all_below count n list (e ∷ es) there few h =
    let r = among_index list e.0 h.0 in
    let below : r.1.0 < count = there_at count list r.0 r.1 there r.2 in
    (omega (arith, below, r.3, few), all_below count n list es there few h.1)

-- ---- where a task begins

init_other : (o : Option Sig) (s t : ℕ) (cur : List ℤ) → s ≢ t → at (init_at s cur o) t ≡ at cur t
init_other None s t cur e = refl
init_other (Some x) s t cur e = get_or-set_other cur s t x.init (pos 0) (λ f. e (sym f))

init_length : (o : Option Sig) (s : ℕ) (cur : List ℤ) → length (init_at s cur o) ≡ length cur
init_length None s cur = refl
init_length (Some x) s cur = length-set cur s x.init

pub begun_length : (sigs : List Sig) (cur : List ℤ) (ss : List ℕ) → length (begun sigs cur ss) ≡ length cur
begun_length sigs cur [] = refl
begun_length sigs cur (s ∷ ss) = begun_length sigs (init_at s cur (slice_get sigs s)) ss ∙ init_length (slice_get sigs s) s cur

pub begun_other : (sigs : List Sig) (ss : List ℕ) (cur : List ℤ) (t : ℕ) → is_among ss t ≡ false → at (begun sigs cur ss) t ≡ at cur t
begun_other sigs [] cur t e = refl
begun_other sigs (s ∷ ss) cur t e =
    ⊎_elim
    (λ (h : (s == t) ≡ true). absurd (false≢true (sym e ∙ ap (λ b. b || is_among ss t) h)))
    (λ (h : (s == t) ≡ false). begun_other sigs ss (init_at s cur (slice_get sigs s)) t (sym (ap (λ b. b || is_among ss t) h) ∙ e) ∙ init_other (slice_get sigs s) s t cur (λ f. false≢true (sym h ∙ eq-eqb s t f)))
    (cases_Bool (s == t))

pub begun_at : (sigs : List Sig) (ss : List ℕ) (cur : List ℤ) (t : ℕ) (x : Sig) → slice_get sigs t ≡ Some x → is_among ss t ≡ true → t < length cur → at (begun sigs cur ss) t ≡ x.init
begun_at sigs [] cur t x is e there = absurd (false≢true e)
begun_at sigs (s ∷ ss) cur t x is e there =
    let there' : t < length (init_at s cur (slice_get sigs s)) = subst (λ n. t < n) (sym (init_length (slice_get sigs s) s cur)) there in
    ⊎_elim
    (λ (later : is_among ss t ≡ true). begun_at sigs ss (init_at s cur (slice_get sigs s)) t x is later there')
    (λ (none : is_among ss t ≡ false).
    let here : s ≡ t = ⊎_elim (λ (h : (s == t) ≡ true). eqb-true s t h) (λ (h : (s == t) ≡ false). absurd (false≢true (sym none ∙ sym (ap (λ b. b || is_among ss t) h) ∙ e))) (cases_Bool (s == t)) in
    begun_other sigs ss (init_at s cur (slice_get sigs s)) t none
    ∙ ap (λ k. at (init_at k cur (slice_get sigs k)) t) here ∙ ap (λ o. at (init_at t cur o) t) is ∙ get_or-set_same cur t x.init (pos 0) there)
    (cases_Bool (is_among ss t))

module _ (c : Circuit) (rules : IsPool c.pool) (design : IsDesign c) (count : ℕ) (few : count ≤ length c.pool.exprs) (plan : Plan) (is : IsPlan c count plan) where
  -- ---- what a delta leaves in a signal of a task

  begun_long : (st : State) → length (starts c st 0 c.pool.signals) ≡ length c.pool.signals
  begun_long st = starts_length c st 0 c.pool.signals

  module _ (j : ℕ) (t : Task) (stands : slice_get plan.tasks j ≡ Some t) (s : ℕ) (out : is_among (numbers_of t.outs) s ≡ true) where
    abbrev pub task : IsCombTask c count t
    task = is.tasks j t stands

    abbrev pub body : Block
    body = picked task.p.body t.statements

    drives : is_among (driven c.pool task.p.body) s ≡ true
    drives = task.task.drives s out

    free : is_held c s ≡ false
    free = not_held c design t.process task.p s task.task.process task.comb drives

    -- a delta leaves in it what the task does
    pub task_at : (st : State) (env : List ℤ) → at (delta c st env) s ≡ at (put c.pool env body (starts c st 0 c.pool.signals)) s
    task_at st env =
        delta_at c design st env t.process task.p s task.task.process task.comb drives
        ∙ task.task.same env (starts c st 0 c.pool.signals) s out

    there : AllByRecursion (λ (e : ExprId). e.0 < length c.pool.exprs) (block_exprs body)
    there = all_below count (length c.pool.exprs) t.exprs (block_exprs body) task.task.program.there few task.task.computed

    -- whatever state there is, a delta begins with its init
    same_start : (st other : State) → s < length c.pool.signals → at (starts c st 0 c.pool.signals) s ≡ at (starts c other 0 c.pool.signals) s
    same_start st other inside =
        let x = element c.pool.signals s inside in
        starts_init c design st s x.0 x.1 free ∙ sym (starts_init c design other s x.0 x.1 free)

    -- where nothing that it reads has another number, a delta leaves the same in it
    pub task_kept : (st other : State) (old new : List ℤ) → s < length c.pool.signals → ((x : ℕ) → is_among (readers_of plan.readers x) j ≡ true → at old x ≡ at new x) → at (delta c other new) s ≡ at (delta c st old) s
    task_kept st other old new inside same =
        let unread : (x : ℕ) → block_reads c.pool x body ≡ true → at new x ≡ at old x =
        λ x reads. sym (same x (is.awake x j t task.p stands task.task.process reads)) in
        task_at other new
        ∙ ap (λ xs. at xs s) (put_agrees c.pool new old rules body (starts c other 0 c.pool.signals) there unread)
        ∙ put_frame c.pool s old body (starts c other 0 c.pool.signals) (starts c st 0 c.pool.signals) (begun_long other ∙ sym (begun_long st), same_start other st inside)
        ∙ sym (task_at st old)

    -- a run of the task gives what a delta leaves in it
    pub run_gives : (st : State) (env cur next : List ℤ) → s < length c.pool.signals → length cur ≡ length c.pool.signals → next ≡ put c.pool env body (begun c.pool.signals cur (numbers_of t.outs)) → at next s ≡ at (delta c st env) s
    run_gives st env cur next inside long e =
        let x = element c.pool.signals s inside in
        ap (λ xs. at xs s) e
        ∙ put_frame c.pool s env body (begun c.pool.signals cur (numbers_of t.outs)) (starts c st 0 c.pool.signals)
        (begun_length c.pool.signals cur (numbers_of t.outs) ∙ long ∙ sym (begun_long st), begun_at c.pool.signals (numbers_of t.outs) cur s x.0 x.1 out (subst (λ n. s < n) (sym long) inside) ∙ sym (starts_init c design st s x.0 x.1 free))
        ∙ sym (task_at st env)

  -- a run of a task changes nothing else
  pub run_keeps : (j : ℕ) (t : Task) (stands : slice_get plan.tasks j ≡ Some t) (s : ℕ) → is_among (numbers_of t.outs) s ≡ false → (env cur next : List ℤ) → next ≡ put c.pool env (picked (is.tasks j t stands).p.body t.statements) (begun c.pool.signals cur (numbers_of t.outs)) → at next s ≡ at cur s
  run_keeps j t stands s none env cur next e =
      let task = is.tasks j t stands in
      let b : Block = picked task.p.body t.statements in
      ap (λ xs. at xs s) e ∙ put_other c.pool env b (begun c.pool.signals cur (numbers_of t.outs)) s (sym (task.task.outs s) ∙ none) ∙ begun_other c.pool.signals (numbers_of t.outs) cur s none

  -- ---- read ports

  module _ (i : ℕ) (t : PortTask) (stands : slice_get plan.reads i ≡ Some t) (s : ℕ) (out : is_among (numbers_of t.outs) s ≡ true) where
    abbrev at_port : PortAt c design count plan is i t
    at_port = port_of c design count plan is i t stands

    word_is : at_port.x.1.word.0 ≡ s
    word_is = port_word c design count plan is i t s at_port out

    -- a delta leaves in its data the row at its address
    pub row_left : (st : State) (env : List ℤ) → length st.rows ≡ length c.memories → at (delta c st env) s ≡ row_at c.pool env (slice_index_or st.rows t.memory []) t.addr
    row_left st env many =
        ap (at (delta c st env)) (sym word_is)
        ∙ port_at c design i at_port.x at_port.port st env many
        ∙ ap (λ n. row_at c.pool env (slice_index_or st.rows n []) at_port.x.1.addr) (sym at_port.task.memory)
        ∙ ap (row_at c.pool env (slice_index_or st.rows t.memory [])) (sym at_port.task.addr)

    address_there : t.addr.0 < length c.pool.exprs
    address_there = (all_below count (length c.pool.exprs) t.exprs (t.addr ∷ []) at_port.task.program.there few at_port.task.computed).0

    -- where neither its address nor its memory changed, a delta leaves the same in it
    pub port_kept : (st other : State) (old new : List ℤ) → length st.rows ≡ length c.memories → length other.rows ≡ length c.memories → ((x : ℕ) → is_among (readers_of plan.readers x) (length plan.tasks + i) ≡ true → at old x ≡ at new x)
        → slice_index_or st.rows t.memory [] ≡ slice_index_or other.rows t.memory [] → at (delta c other new) s ≡ at (delta c st old) s
    port_kept st other old new many many' same rows =
        let unread : (x : ℕ) → stands_in c.pool x t.addr.0 ≡ true → at new x ≡ at old x =
        λ x stands. sym (same x (is.reads.awake x i at_port.x at_port.port (ap (λ (e : ExprId). stands_in c.pool x e.0) (sym at_port.task.addr) ∙ stands))) in
        row_left other new many'
        ∙ ap (λ n. at (slice_index_or other.rows t.memory []) (unsigned_abs n)) (num_agrees c.pool new old rules t.addr.0 address_there unread)
        ∙ ap (λ xs. row_at c.pool old xs t.addr) (sym rows)
        ∙ sym (row_left st old many)

    -- a run of the port gives it
    pub port_gives : (st : State) (env cur next : List ℤ) → length st.rows ≡ length c.memories → length cur ≡ length c.pool.signals → ((w : SigId) → t.outs ≡ w ∷ [] → next ≡ slice_set cur w.0 (row_at c.pool env (slice_index_or st.rows t.memory []) t.addr)) → at next s ≡ at (delta c st env) s
    port_gives st env cur next many long ran =
        let row : ℤ = row_at c.pool env (slice_index_or st.rows t.memory []) t.addr in
        let there : s < length cur = omega (arith, long, word_is, word_there c design i at_port.x at_port.port) in
        ap (λ xs. at xs s) (ran at_port.x.1.word at_port.task.outs) ∙ ap (λ n. at (slice_set cur n row) s) word_is ∙ get_or-set_same cur s row (pos 0) there ∙ sym (row_left st env many)

  -- a run of a port changes nothing else
  pub port_keeps : (i : ℕ) (t : PortTask) (stands : slice_get plan.reads i ≡ Some t) (s : ℕ) → is_among (numbers_of t.outs) s ≡ false → (cur next : List ℤ) (row : ℤ) → ((w : SigId) → t.outs ≡ w ∷ [] → next ≡ slice_set cur w.0 row) → at next s ≡ at cur s
  port_keeps i t stands s none cur next row ran =
      let p = port_of c design count plan is i t stands in
      let other : is_among (p.x.1.word.0 ∷ []) s ≡ false = ap (λ (ws : List SigId). is_among (numbers_of ws) s) (sym p.task.outs) ∙ none in
      ap (λ xs. at xs s) (ran p.x.1.word p.task.outs) ∙ get_or-set_other cur p.x.1.word.0 s row (pos 0) (λ f. false≢true (sym other ∙ ap (λ b. b || false) (eq-eqb p.x.1.word.0 s (sym f))))

  -- what it leaves is of the signals' shapes
  pub port_next_fits : (i : ℕ) (t : PortTask) (stands : slice_get plan.reads i ≡ Some t) (env cur next : List ℤ) (rows : List (List ℤ)) → AreRowsOf c rows → FitsSignals c.pool cur → ((w : SigId) → t.outs ≡ w ∷ [] → next ≡ slice_set cur w.0 (row_at c.pool env (slice_index_or rows t.memory []) t.addr)) → FitsSignals c.pool next
  port_next_fits i t stands env cur next rows of fit ran =
      let p = port_of c design count plan is i t stands in
      let own = port_fits c design i p.x p.port rows env of.fits of.count in
      let row = subst (λ n. OfSignal c.pool p.x.1.word.0 (row_at c.pool env (slice_index_or rows n []) p.x.1.addr)) (sym p.task.memory) own in
      let row' = subst (λ (e : ExprId). OfSignal c.pool p.x.1.word.0 (row_at c.pool env (slice_index_or rows t.memory []) e)) (sym p.task.addr) row in
      subst (FitsSignals c.pool) (sym (ran p.x.1.word p.task.outs)) (set_fits c.pool cur p.x.1.word.0 (row_at c.pool env (slice_index_or rows t.memory []) t.addr) row' fit)

  pub port_next_long : (i : ℕ) (t : PortTask) (stands : slice_get plan.reads i ≡ Some t) (cur next : List ℤ) (row : ℤ) → ((w : SigId) → t.outs ≡ w ∷ [] → next ≡ slice_set cur w.0 row) → length next ≡ length cur
  port_next_long i t stands cur next row ran =
      let p = port_of c design count plan is i t stands in
      ap length (ran p.x.1.word p.task.outs) ∙ length-set cur p.x.1.word.0 row

  -- ---- the next environment

  inside_or_past : (s : ℕ) (E F : List ℤ) → length E ≡ length c.pool.signals → length F ≡ length c.pool.signals → (s < length c.pool.signals → at E s ≡ at F s) → at E s ≡ at F s
  inside_or_past s E F long long' h =
      ⊎_elim h (λ (past : length c.pool.signals ≤ s). get_or_past E s (pos 0) (omega (arith, past, long)) ∙ sym (get_or_past F s (pos 0) (omega (arith, past, long')))) (cases_lt s (length c.pool.signals))

  -- nothing that the task reads changed
  pub record Sleeps (st other : State) (old new : List ℤ) (j : ℕ) : Type 0 where
    pub same : (s : ℕ) → is_among (readers_of plan.readers s) j ≡ true → at old s ≡ at new s
    pub rows : (i : ℕ) (t : PortTask) → slice_get plan.reads i ≡ Some t → j ≡ length plan.tasks + i → slice_index_or st.rows t.memory [] ≡ slice_index_or other.rows t.memory []

  -- what the next delta leaves in a combinational signal whose task sleeps, where another state may have come
  kept_comb : (st other : State) (old new : List ℤ) (marks : List Bool) → length st.rows ≡ length c.memories → length other.rows ≡ length c.memories → ((j : ℕ) → j < plan.jobs → slice_index_or marks j false ≡ false → Sleeps st other old new j)
      → (s : ℕ) → s < length c.pool.signals → is_comb c s ≡ true → IsUntouched plan marks s → at (delta c other new) s ≡ at (delta c st old) s
  kept_comb st other old new marks many many' sleeps s inside comb untouched =
      let v = driven_by c design count plan is s comb in
      ⊎_elim
      (λ (w : slice_index_or marks v.j false ≡ true). absurd (false≢true (sym (untouched v.j w) ∙ v.drives)))
      (λ (w : slice_index_or marks v.j false ≡ false).
      let z = sleeps v.j v.there w in
      ⊎_elim
      (λ (o : TaskOut plan v.j s). task_kept v.j o.t o.stands s o.out st other old new inside z.same)
      (λ (o : PortOut plan v.j s).
      port_kept o.i o.t o.stands s o.out st other old new many many' (λ x h. z.same x (ap (is_among (readers_of plan.readers x)) o.place ∙ h)) (z.rows o.i o.t o.stands o.place))
      (out_cases plan v.j s v.drives))
      (cases_Bool (slice_index_or marks v.j false))

  -- what was not woken saw no signal change
  unread : (old new : List ℤ) (was marks : List Bool) (j : ℕ) → Wakes plan.readers old new was marks → slice_index_or marks j false ≡ false → (s : ℕ) → is_among (readers_of plan.readers s) j ≡ true → at old s ≡ at new s
  unread old new was marks j wakes asleep s reads = ⊎_elim (λ e. e) (λ (e : at old s ≢ at new s). absurd (false≢true (sym asleep ∙ wakes.wakes s j e reads))) (cases_int (at old s) (at new s))

  -- behind a delta, what no waiting task drives rests
  pub rests_next : (st : State) (E F : List ℤ) (was marks : List Bool) → length st.rows ≡ length c.memories → F ≡ delta c st E → length F ≡ length c.pool.signals → length (delta c st F) ≡ length c.pool.signals → Wakes plan.readers E F was marks → Rests c st plan marks F
  rests_next st E F was marks many e long long' wakes s untouched =
      inside_or_past s (delta c st F) F long' long (λ inside.
      ⊎_elim
      (λ (comb : is_comb c s ≡ true).
      kept_comb st st E F marks many many (λ j lt w. record { same = unread E F was marks j wakes w; rows = λ i t at e. refl }) s inside comb untouched ∙ ap (λ xs. at xs s) (sym e))
      (λ (comb : is_comb c s ≡ false). delta_other c st rules design F E s comb ∙ ap (λ xs. at xs s) (sym e))
      (cases_Bool (is_comb c s)))

  -- ---- the first environment of an event

  module _ (st other : State) (E F : List ℤ) (was between marks changed : List Bool) (many : length st.rows ≡ length c.memories) (many' : length other.rows ≡ length c.memories)
      (wakes : Wakes plan.readers E F was between) (ports : WakesPorts (length plan.tasks) plan.reads changed between marks) (are : AreChanged c st.rows other.rows changed) where
    or_none : (a b : Bool) → (a || b) ≡ false → (a ≡ false) × (b ≡ false)
    or_none true b e = absurd (false≢true (sym e))
    or_none false b e = (refl, e)

    not_false : (b : Bool) → not b ≡ false → b ≡ true
    not_false true e = refl
    not_false false e = absurd (false≢true (sym e))

    parts : (i : ℕ) (t : PortTask) → slice_get plan.reads i ≡ Some t → slice_index_or marks (length plan.tasks + i) false ≡ false → (slice_index_or between (length plan.tasks + i) false ≡ false) × (slice_index_or changed t.memory false ≡ false)
    parts i t e w = or_none (slice_index_or between (length plan.tasks + i) false) (slice_index_or changed t.memory false) (sym (ports.ports i t e) ∙ w)

    -- a task that sleeps saw neither signals nor rows change
    asleep : (j : ℕ) → j < plan.jobs → slice_index_or marks j false ≡ false → Sleeps st other E F j
    asleep j lt w =
        ⊎_elim
        (λ (before : j < length plan.tasks).
        record { same = unread E F was between j wakes (sym (ports.others j before) ∙ w); rows = λ i t at e. absurd (omega (arith, before, e)) })
        (λ (behind : length plan.tasks ≤ j).
        let n : ℕ = j - length plan.tasks in
        let place : j ≡ length plan.tasks + n = omega (arith, behind) in
        let there : n < length plan.reads = omega (arith, lt, is.jobs, place) in
        let u = element plan.reads n there in
        let p = parts n u.0 u.1 (ap (λ k. slice_index_or marks k false) (sym place) ∙ w) in
        record {
          same = unread E F was between j wakes (ap (λ k. slice_index_or between k false) place ∙ p.0);
          rows = λ i t at e.
              let q = port_of c design count plan is i t at in
              let there' : t.memory < length c.memories = subst (λ k. k < length c.memories) (sym q.task.memory) (memory_there c design i q.x q.port) in
              let r = parts i t at (ap (λ k. slice_index_or marks k false) (sym e) ∙ w) in
              same_rows_is (slice_index_or st.rows t.memory []) (slice_index_or other.rows t.memory []) (not_false (same_rows (slice_index_or st.rows t.memory []) (slice_index_or other.rows t.memory [])) (sym (are t.memory there') ∙ r.1));
        })
        (cases_lt j (length plan.tasks))

    -- behind an event, what no waiting task drives rests
    pub rests_first : Settled c st E → ((s : ℕ) → is_comb c s ≡ false → at F s ≡ at (delta c other F) s) → ((s : ℕ) → is_comb c s ≡ true → at F s ≡ at E s)
        → length F ≡ length c.pool.signals → length (delta c other F) ≡ length c.pool.signals → Rests c other plan marks F
    rests_first settled ready kept long long' s untouched =
        inside_or_past s (delta c other F) F long' long (λ inside.
        ⊎_elim
        (λ (comb : is_comb c s ≡ true). kept_comb st other E F marks many many' asleep s inside comb untouched ∙ ap (λ xs. at xs s) settled ∙ sym (kept s comb))
        (λ (comb : is_comb c s ≡ false). sym (ready s comb))
        (cases_Bool (is_comb c s)))
