-- What the tasks of processes and of read ports drive.
use Rattle.std.specs.Prelude.{◌≡◌, ◌≢◌, refl, ℕ, zero, suc, ◌+◌, ◌<◌, ◌⊎◌, ◌==◌, ◌||◌, ◌&&◌, Bool, true, false, is_none, List, [], ◌∷◌, map, length, slice_get, slice_index_or, Option, Some, None}
use Rattle.std.specs.List.{AllByRecursion, list_any}
use Rattle.std.proofs.Common.{sym, ◌∙◌, ap, arith, subst, inl, inr, ⊎_elim}
use Rattle.std.proofs.lemmas.Bool.{cases_Bool, eq-eqb, eqb-true, false≢true}
use Rattle.design_ir.specs.declared.ids.SigId.{SigId}
use Rattle.design_ir.specs.declared.memory.MemRead.{MemRead}
use Rattle.design_ir.specs.declared.process.DesignProcess.{DesignProcess}
use Rattle.design_ir.specs.Circuits.{Circuit, is_among}
use Rattle.design_ir.specs.Designs.{IsDesign}
use Rattle.design_ir.specs.Guards.{driven}
use Rattle.design_ir.proofs.Equations.{place_below}
use Rattle.design_ir.proofs.NumbersFit.{element}
use Rattle.comb_graph.specs.Orders.{is_comb}
use Rattle.sim_plans.specs.declared.plan.Plan.{Plan}
use Rattle.sim_plans.specs.declared.task.PortTask.{PortTask}
use Rattle.sim_plans.specs.declared.task.Task.{Task}
use Rattle.sim_plans.specs.Driven.{numbers_of}
use Rattle.sim_plans.specs.Plans.{IsPlan, IsCombTask, outs_at, all_outs}
use Rattle.sim_plans.specs.Ports.{IsPortTask, comb_ports}
use Rattle.sim_plans.proofs.Agrees.{left, right}
use Rattle.sim_plans.proofs.CombPorts.{all_ports, get_front, get_behind, get_parts, port_alone, port_comb, ports_found, same_port, word_there}
use Rattle.sim_plans.proofs.SignalsInside.{all_of}

-- ---- lists

at_get : {A : Type 0} (xs : List A) (j : ℕ) (d x : A) → slice_get xs j ≡ Some x → slice_index_or xs j d ≡ x
at_get [] j d x e = cc
at_get (y ∷ xs) zero d x e = cc
at_get (y ∷ xs) (suc j) d x e = at_get xs j d x e

get_map : {A B : Type 0} (f : A → B) (xs : List A) (j : ℕ) (x : A) → slice_get xs j ≡ Some x → slice_get (map f xs) j ≡ Some (f x)
get_map f [] j x e = cc
get_map f (y ∷ xs) zero x e = let same : y ≡ x = cc in ap (λ z. Some (f z)) same
get_map f (y ∷ xs) (suc j) x e = get_map f xs j x e

map_get : {A B : Type 0} (f : A → B) (xs : List A) (j : ℕ) (y : B) → slice_get (map f xs) j ≡ Some y → (x : A) × (slice_get xs j ≡ Some x) × (f x ≡ y)
map_get f [] j y e = cc
map_get f (x ∷ xs) zero y e = (x, refl, cc)
map_get f (x ∷ xs) (suc j) y e = map_get f xs j y e

map_length : {A B : Type 0} (f : A → B) (xs : List A) → length (map f xs) ≡ length xs
map_length f [] = refl
map_length f (x ∷ xs) = ap suc (map_length f xs)

some_at : (xs : List (List ℕ)) (j s : ℕ) → is_among (slice_index_or xs j []) s ≡ true → slice_get xs j ≡ Some (slice_index_or xs j [])
some_at [] j s h = absurd (false≢true h)
some_at (x ∷ xs) zero s h = refl
some_at (x ∷ xs) (suc j) s h = some_at xs j s h

-- ---- the tasks

abbrev task_outs : Task → List ℕ
task_outs t = numbers_of t.outs

abbrev port_outs : PortTask → List ℕ
port_outs t = numbers_of t.outs

module _ (plan : Plan) where
  -- a task of a process drives the signal
  pub record TaskOut (j s : ℕ) : Type 0 where
    pub t : Task
    pub stands : slice_get plan.tasks j ≡ Some t
    pub out : is_among (numbers_of t.outs) s ≡ true

  -- a read port's does
  pub record PortOut (j s : ℕ) : Type 0 where
    pub i : ℕ
    pub t : PortTask
    pub place : j ≡ length plan.tasks + i
    pub stands : slice_get plan.reads i ≡ Some t
    pub out : is_among (numbers_of t.outs) s ≡ true

  pub outs_task : (j : ℕ) (t : Task) → slice_get plan.tasks j ≡ Some t → outs_at plan j ≡ numbers_of t.outs
  outs_task j t e = at_get (all_outs plan) j [] (numbers_of t.outs) (get_front (map task_outs plan.tasks) (map port_outs plan.reads) j (numbers_of t.outs) (get_map task_outs plan.tasks j t e))

  pub outs_port : (i : ℕ) (t : PortTask) → slice_get plan.reads i ≡ Some t → outs_at plan (length plan.tasks + i) ≡ numbers_of t.outs
  outs_port i t e =
      at_get (all_outs plan) (length plan.tasks + i) [] (numbers_of t.outs)
      (ap (λ n. slice_get (all_outs plan) (n + i)) (sym (map_length task_outs plan.tasks)) ∙ get_behind (map task_outs plan.tasks) (map port_outs plan.reads) i ∙ get_map port_outs plan.reads i t e)

  pub out_cases : (j s : ℕ) → is_among (outs_at plan j) s ≡ true → TaskOut j s ⊎ PortOut j s
  out_cases j s h =
      let outs = outs_at plan j in
      ⊎_elim
      (λ (e : slice_get (map task_outs plan.tasks) j ≡ Some outs).
      let r = map_get task_outs plan.tasks j outs e in
      inl (record { t = r.0; stands = r.1; out = ap (λ xs. is_among xs s) r.2 ∙ h }))
      (λ (e : (i : ℕ) × (j ≡ length (map task_outs plan.tasks) + i) × (slice_get (map port_outs plan.reads) i ≡ Some outs)).
      let r = map_get port_outs plan.reads e.0 outs e.2 in
      inr (record { i = e.0; t = r.0; place = omega (arith, e.1, map_length task_outs plan.tasks); stands = r.1; out = ap (λ xs. is_among xs s) r.2 ∙ h }))
      (get_parts (map task_outs plan.tasks) (map port_outs plan.reads) j outs (some_at (all_outs plan) j s h))

module _ (c : Circuit) (design : IsDesign c) (count : ℕ) (plan : Plan) (is : IsPlan c count plan) where
  -- a read port's task, with its port
  pub record PortAt (i : ℕ) (t : PortTask) : Type 0 where
    pub x : ℕ × MemRead
    pub port : slice_get (all_ports c design) i ≡ Some x
    pub task : IsPortTask c count t x

  pub port_of : (i : ℕ) (t : PortTask) → slice_get plan.reads i ≡ Some t → PortAt i t
  port_of i t e =
      let x = element (comb_ports 0 c.memories) i (let r = place_below plan.reads i t e in omega (arith, r, is.reads.many)) in
      record { x = x.0; port = x.1; task = is.reads.each i t x.0 e x.1 }

  -- the one signal that it drives
  pub port_word : (i : ℕ) (t : PortTask) (s : ℕ) (p : PortAt i t) → is_among (numbers_of t.outs) s ≡ true → p.x.1.word.0 ≡ s
  port_word i t s p h = eqb-true p.x.1.word.0 s (or_none (p.x.1.word.0 == s) (ap (λ (xs : List SigId). is_among (numbers_of xs) s) (sym p.task.outs) ∙ h))
    where
      or_none : (a : Bool) → (a || false) ≡ true → a ≡ true
      or_none true e = refl
      or_none false e = e

  any_get : (P : DesignProcess → Bool) (ps : List DesignProcess) (k : ℕ) (q : DesignProcess) → slice_get ps k ≡ Some q → P q ≡ true → list_any P ps ≡ true
  any_get P [] k q e h = cc
  any_get P (p ∷ ps) zero q e h = let same : p ≡ q = cc in left (P p) (list_any P ps) (ap P same ∙ h)
  any_get P (p ∷ ps) (suc k) q e h = right (P p) (list_any P ps) (any_get P ps k q e h)

  both_true : (a b : Bool) → a ≡ true → b ≡ true → (a && b) ≡ true
  both_true true b e h = h
  both_true false b e h = absurd (false≢true e)

  task_comb : (t : Task) → IsCombTask c count t → (s : ℕ) → is_among (numbers_of t.outs) s ≡ true → is_comb c s ≡ true
  task_comb t of s h =
      left _ _ (any_get (λ (p : DesignProcess). is_none p.domain && is_among (driven c.pool p.body) s) c.processes t.process of.p of.task.process (both_true (is_none of.p.domain) (is_among (driven c.pool of.p.body) s) (ap is_none of.comb) (of.task.drives s h)))

  -- what tasks drive is combinational
  pub out_comb : (j s : ℕ) → is_among (outs_at plan j) s ≡ true → is_comb c s ≡ true
  out_comb j s h =
      ⊎_elim
      (λ (v : TaskOut plan j s). task_comb v.t (is.tasks j v.t v.stands) s v.out)
      (λ (v : PortOut plan j s). let p = port_of v.i v.t v.stands in subst (λ n. is_comb c n ≡ true) (port_word v.i v.t s p v.out) (port_comb c design v.i p.x p.port))
      (out_cases plan j s h)

  pub outs_below : (j : ℕ) → AllByRecursion (λ s. s < length c.pool.signals) (outs_at plan j)
  outs_below j = all_of (λ s. s < length c.pool.signals) (outs_at plan j) (λ s h.
      ⊎_elim
      (λ (v : TaskOut plan j s). below_of (numbers_of v.t.outs) s (is.tasks j v.t v.stands).below v.out)
      (λ (v : PortOut plan j s). let p = port_of v.i v.t v.stands in subst (λ n. n < length c.pool.signals) (port_word v.i v.t s p v.out) (word_there c design v.i p.x p.port))
      (out_cases plan j s h))
    where
      below_of : (xs : List ℕ) (s : ℕ) → AllByRecursion (λ k. k < length c.pool.signals) xs → is_among xs s ≡ true → s < length c.pool.signals
      below_of [] s h e = absurd (false≢true e)
      below_of (x ∷ xs) s h e =
          ⊎_elim (λ (t : (x == s) ≡ true). subst (λ k. k < length c.pool.signals) (eqb-true x s t) h.0) (λ (t : (x == s) ≡ false). below_of xs s h.1 (sym (ap (λ b. b || is_among xs s) t) ∙ e)) (cases_Bool (x == s))

  none_of : (b : Bool) → (b ≡ true → ⊥) → b ≡ false
  none_of b f = ⊎_elim (λ (t : b ≡ true). absurd (f t)) (λ (t : b ≡ false). t) (cases_Bool b)

  -- a port's data is not driven by a task of a process
  port_task : (j : ℕ) (t : Task) (s i : ℕ) (u : PortTask) → slice_get plan.tasks j ≡ Some t → is_among (numbers_of t.outs) s ≡ true → slice_get plan.reads i ≡ Some u → is_among (numbers_of u.outs) s ≡ true → ⊥
  port_task j t s i u jt h iu g =
      let p = port_of i u iu in
      let of = is.tasks j t jt in
      let free = port_alone c design i p.x p.port t.process of.p of.task.process in
      false≢true (sym free ∙ ap (is_among (driven c.pool of.p.body)) (port_word i u s p g) ∙ of.task.drives s h)

  -- no signal is driven by two tasks
  pub outs_apart : (i j s : ℕ) → i ≢ j → is_among (outs_at plan i) s ≡ true → is_among (outs_at plan j) s ≡ false
  outs_apart i j s ne h = none_of (is_among (outs_at plan j) s) (λ g.
      ⊎_elim
      (λ (v : TaskOut plan i s).
      ⊎_elim
      (λ (w : TaskOut plan j s). false≢true (sym (is.apart i j v.t w.t s v.stands w.stands ne v.out) ∙ w.out))
      (λ (w : PortOut plan j s). port_task i v.t s w.i w.t v.stands v.out w.stands w.out)
      (out_cases plan j s g))
      (λ (v : PortOut plan i s).
      ⊎_elim
      (λ (w : TaskOut plan j s). port_task j w.t s v.i v.t w.stands w.out v.stands v.out)
      (λ (w : PortOut plan j s).
      let p = port_of v.i v.t v.stands in
      let q = port_of w.i w.t w.stands in
      let same = same_port c design v.i w.i p.x q.x p.port q.port (port_word v.i v.t s p v.out ∙ sym (port_word w.i w.t s q w.out)) in
      ne (v.place ∙ ap (λ k. length plan.tasks + k) same ∙ sym w.place))
      (out_cases plan j s g))
      (out_cases plan i s h))

  none_is : {A : Type 0} (o : Option A) → is_none o ≡ true → o ≡ None
  none_is None e = refl
  none_is (Some x) e = absurd (false≢true e)

  and_left : (a b : Bool) → (a && b) ≡ true → a ≡ true
  and_left true b e = refl
  and_left false b e = e

  and_right : (a b : Bool) → (a && b) ≡ true → b ≡ true
  and_right true b e = e
  and_right false b e = absurd (false≢true e)

  or_cases : (a b : Bool) → (a || b) ≡ true → (a ≡ true) ⊎ (b ≡ true)
  or_cases true b e = inl refl
  or_cases false b e = inr e

  any_place : {A : Type 0} (P : A → Bool) (xs : List A) → list_any P xs ≡ true → (k : ℕ) × (x : A) × (slice_get xs k ≡ Some x) × (P x ≡ true)
  any_place P [] h = absurd (false≢true h)
  any_place P (x ∷ xs) h =
      ⊎_elim
      (λ (t : P x ≡ true). (0, x, refl, t))
      (λ (t : P x ≡ false). let r = any_place P xs (sym (ap (λ b. b || list_any P xs) t) ∙ h) in (suc r.0, r.1, r.2, r.3))
      (cases_Bool (P x))

  -- each combinational signal is driven by a task
  pub record IsDriven (s : ℕ) : Type 0 where
    pub j : ℕ
    pub there : j < plan.jobs
    pub drives : is_among (outs_at plan j) s ≡ true

  pub driven_by : (s : ℕ) → is_comb c s ≡ true → IsDriven s
  driven_by s comb =
      let P : DesignProcess → Bool = λ p. is_none p.domain && is_among (driven c.pool p.body) s in
      ⊎_elim
      (λ (h : list_any P c.processes ≡ true).
      let r = any_place P c.processes h in
      let v = is.covered r.0 r.1 s r.2 (none_is r.1.domain (and_left (is_none r.1.domain) (is_among (driven c.pool r.1.body) s) r.3)) (and_right (is_none r.1.domain) (is_among (driven c.pool r.1.body) s) r.3) in
      record { j = v.j; there = (let l = place_below plan.tasks v.j v.t v.stands in omega (arith, l, is.jobs)); drives = ap (λ xs. is_among xs s) (outs_task plan v.j v.t v.stands) ∙ v.drives })
      (λ h.
      let r = ports_found s 0 c.memories h in
      let inside : r.0 < length plan.reads = (let l = place_below (comb_ports 0 c.memories) r.0 r.1 r.2 in omega (arith, l, is.reads.many)) in
      let t = element plan.reads r.0 inside in
      let task = is.reads.each r.0 t.0 r.1 t.1 r.2 in
      record {
        j = length plan.tasks + r.0;
        there = omega (arith, inside, is.jobs);
        drives = ap (λ xs. is_among xs s) (outs_port plan r.0 t.0 t.1) ∙ ap (λ (xs : List SigId). is_among (numbers_of xs) s) task.outs ∙ left (r.1.1.word.0 == s) false (eq-eqb r.1.1.word.0 s r.3);
      })
      (or_cases (list_any P c.processes) _ comb)
