-- One process more, while a plan grows.
use Rattle.std.specs.Prelude.{◌≡◌, ◌≢◌, refl, ℕ, zero, suc, ◌+◌, ◌<◌, ◌≤◌, ◌⊎◌, ◌==◌, ◌&&◌, ◌||◌, Bool, true, false, List, [], ◌∷◌, ◌++◌, drop, length, replicate, is_none, is_some, slice_get, slice_set, slice_index_or, Option, Some, None, Result, Ok, Err, OnOk}
use Rattle.std.proofs.Common.{sym, ◌∙◌, ap, arith, subst, inl, inr, ⊎_elim, get_or, append-nil}
use Rattle.std.proofs.lemmas.Bool.{cases_Bool, cases_eq, cases_lt, eqb-true, eq-eqb, false≢true}
use Rattle.std.proofs.lemmas.List.{get_or_past, get_or-set_same, get_or-set_other, length-set, at_drop_all}
use Rattle.std.proofs.Math.ListN.{length-append}
use Rattle.design_ir.specs.declared.ids.DomainId.{DomainId}
use Rattle.design_ir.specs.declared.ids.SigId.{SigId}
use Rattle.design_ir.specs.declared.memory.Memory.{Memory}
use Rattle.design_ir.specs.declared.process.DesignProcess.{DesignProcess}
use Rattle.design_ir.specs.Circuits.{Circuit, is_among, is_held}
use Rattle.design_ir.specs.Designs.{IsDesign}
use Rattle.design_ir.specs.Guards.{driven}
use Rattle.design_ir.specs.Trees.{statements}
use Rattle.design_ir.proofs.Equations.{place_below}
use Rattle.sim_plans.specs.declared.compile.Compiled.{Compiled}
use Rattle.sim_plans.specs.declared.plan.Plan.{Plan}
use Rattle.sim_plans.specs.declared.task.Task.{Task}
use Rattle.sim_plans.specs.Compiled.{IsCompiled}
use Rattle.sim_plans.specs.Driven.{numbers_of}
use Rattle.sim_plans.specs.Groups.{AreOthers, IsApart}
use Rattle.sim_plans.specs.Marks.{is_marked}
use Rattle.sim_plans.specs.Plans.{IsPlan, IsTable, IsClockedTask, IsCombTask, IsCovered, clearable_processes, readers_of}
use Rattle.sim_plans.specs.Ports.{HasPorts, comb_ports}
use Rattle.sim_plans.specs.Reads.{block_reads}
use Rattle.sim_plans.specs.Reading.{AreFirst}
use Rattle.sim_plans.specs.Tables.{IsAdded, AreTables, ArePartial, ArePorted}
use Rattle.sim_plans.specs.Tasks.{picked}
use Rattle.sim_plans.proofs.Agrees.{left, right}
use Rattle.sim_plans.proofs.CompiledTasks.{task_group}
use Rattle.sim_plans.proofs.DeltaSteps.{below_of}
use Rattle.sim_plans.proofs.Likes.{among_append, numbers_at}
use Rattle.sim_plans.proofs.Marks.{or_false}
use Rattle.sim_plans.proofs.Picking.{drives_both, drives_part, drives_some, drives_there, drives_whole, reads_both, reads_whole}
use Rattle.sim_plans.proofs.SignalsInside.{all_of}
use Rattle.sim_plans.proofs.TaskValues.{no_other}

-- ---- readers

or_assoc : (a b c : Bool) → ((a || b) || c) ≡ (a || (b || c))
or_assoc true b c = refl
or_assoc false b c = refl

and_or : (a b c : Bool) → ((a && c) || (b && c)) ≡ ((a || b) && c)
and_or true b true = refl
and_or true true false = refl
and_or true false false = refl
and_or false b c = refl

-- one signal has one reader more
pub added_one : (old : List (List ℕ)) (i n : ℕ) → i < length old → IsAdded (i ∷ []) n old (slice_set old i (slice_index_or old i [] ++ n ∷ []))
added_one old i n there = record { count = length-set old i (slice_index_or old i [] ++ n ∷ []); each = each }
  where
    new : List (List ℕ)
    new = slice_set old i (slice_index_or old i [] ++ n ∷ [])

    each : (s k : ℕ) → s < length old → is_among (readers_of new s) k ≡ (is_among (readers_of old s) k || (((i == s) || false) && (n == k)))
    each s k inside =
        ⊎_elim
        (λ (e : i ≡ s).
        ap (λ j. is_among (readers_of new j) k) (sym e)
        ∙ ap (λ xs. is_among xs k) (get_or-set_same old i (slice_index_or old i [] ++ n ∷ []) [] there)
        ∙ among_append (slice_index_or old i []) (n ∷ []) k
        ∙ ap (λ b. is_among (slice_index_or old i []) k || b) (or_false (n == k))
        ∙ ap (λ j. is_among (slice_index_or old j []) k || (n == k)) e
        ∙ ap (λ b. is_among (slice_index_or old s []) k || ((b || false) && (n == k))) (sym (eq-eqb i s e)))
        (λ (e : i ≢ s).
        ap (λ xs. is_among xs k) (get_or-set_other old i s (slice_index_or old i [] ++ n ∷ []) [] (λ f. e (sym f)))
        ∙ sym (or_false (is_among (slice_index_or old s []) k))
        ∙ ap (λ b. is_among (slice_index_or old s []) k || ((b || false) && (n == k))) (sym (apart e)))
        (cases_eq i s)
      where
        apart : i ≢ s → (i == s) ≡ false
        apart e = ⊎_elim (λ (t : (i == s) ≡ true). absurd (e (eqb-true i s t))) (λ (t : (i == s) ≡ false). t) (cases_Bool (i == s))

-- past the signals there is none to be added to
pub added_none : (old : List (List ℕ)) (i n : ℕ) → length old ≤ i → IsAdded (i ∷ []) n old old
added_none old i n past = record { count = refl; each = λ s k inside. sym (or_false (is_among (readers_of old s) k)) ∙ ap (λ b. is_among (readers_of old s) k || ((b || false) && (n == k))) (sym (other s inside)) }
  where
    other : (s : ℕ) → s < length old → (i == s) ≡ false
    other s inside = ⊎_elim (λ (t : (i == s) ≡ true). absurd (omega (arith, inside, past, eqb-true i s t))) (λ (t : (i == s) ≡ false). t) (cases_Bool (i == s))

-- so many signals have the reader, and the others do not yet
pub record AddsUp (reads : List SigId) (i n : ℕ) (old now : List (List ℕ)) : Type 0 where
  pub count : length now ≡ length old
  pub each : (s k : ℕ) → s < length old → (is_among (readers_of now s) k || (is_among (numbers_of (drop i reads)) s && (n == k))) ≡ (is_among (readers_of old s) k || (is_among (numbers_of reads) s && (n == k)))

pub adds_first : (reads : List SigId) (n : ℕ) (old : List (List ℕ)) → AddsUp reads 0 n old old
adds_first reads n old = record { count = refl; each = λ s k inside. ap (λ xs. is_among (readers_of old s) k || (is_among (numbers_of xs) s && (n == k))) (whole reads) }
  where
    whole : (xs : List SigId) → drop 0 xs ≡ xs
    whole [] = refl
    whole (x ∷ xs) = refl

pub adds_turn : (reads : List SigId) (i n : ℕ) (x : SigId) (old now new : List (List ℕ)) → i < length reads → x ≡ get_or reads i x → IsAdded (x.0 ∷ []) n now new → AddsUp reads i n old now → AddsUp reads (i + 1) n old new
adds_turn reads i n x old now new h is added was = record {
  count = added.count ∙ was.count;
  each = λ s k inside.
      let rest : Bool = is_among (numbers_of (drop (i + 1) reads)) s in
      let have : Bool = is_among (readers_of now s) k in
      ap (λ b. b || (rest && (n == k))) (added.each s k (subst (λ m. s < m) (sym was.count) inside))
      ∙ or_assoc have (((x.0 == s) || false) && (n == k)) (rest && (n == k))
      ∙ ap (λ b. have || ((b && (n == k)) || (rest && (n == k)))) (or_false (x.0 == s))
      ∙ ap (λ b. have || b) (and_or (x.0 == s) rest (n == k))
      ∙ ap (λ xs. have || (is_among xs s && (n == k))) (sym (numbers_at reads i x h is))
      ∙ was.each s k inside;
}

pub adds_end : (reads : List SigId) (i n : ℕ) (old now : List (List ℕ)) → length reads ≤ i → AddsUp reads i n old now → IsAdded (numbers_of reads) n old now
adds_end reads i n old now h was = record {
  count = was.count;
  each = λ s k inside.
      sym (ap (λ xs. is_among (readers_of now s) k || (is_among xs s && (n == k))) (at_drop_all numbers_of reads i h) ∙ or_false (is_among (readers_of now s) k)) ∙ was.each s k inside;
}

pub past_none : (table : List (List ℕ)) (s k : ℕ) → length table ≤ s → is_among (readers_of table s) k ≡ false
past_none table s k past = ap (λ xs. is_among xs k) (get_or_past table s [] past)

none_read : (n s : ℕ) (k : ℕ) → is_among (readers_of (replicate n []) s) k ≡ false
none_read zero s k = refl
none_read (suc n) zero k = refl
none_read (suc n) (suc s) k = none_read n s k

none_long : (n : ℕ) → length (replicate {A = List ℕ} n []) ≡ n
none_long zero = refl
none_long (suc n) = ap suc (none_long n)

and_true : (a b : Bool) → (a && b) ≡ true → b ≡ true
and_true true b e = e
and_true false b e = absurd (false≢true e)

pub or_cases : (a b : Bool) → (a || b) ≡ true → (a ≡ true) ⊎ (b ≡ true)
or_cases true b e = inl refl
or_cases false b e = inr e

-- a table with one reader more
pub table_more : (n bound more k : ℕ) (reads : List ℕ) (old new : List (List ℕ)) → IsTable n bound old → IsAdded reads k old new → bound ≤ more → k < more → IsTable n more new
table_more n bound more k reads old new was added le lt = record {
  count = added.count ∙ was.count;
  below = λ s j h.
      ⊎_elim
      (λ (inside : s < length old).
      ⊎_elim
      (λ (t : is_among (readers_of old s) j ≡ true). omega (arith, was.below s j t, le))
      (λ (t : (is_among reads s && (k == j)) ≡ true). omega (arith, lt, eqb-true k j (and_true (is_among reads s) (k == j) t)))
      (or_cases (is_among (readers_of old s) j) (is_among reads s && (k == j)) (sym (added.each s j inside) ∙ h)))
      (λ (past : length old ≤ s). absurd (false≢true (sym (past_none new s j (subst (λ m. m ≤ s) (sym added.count) past)) ∙ h)))
      (cases_lt s (length old));
}

-- what reads still does
pub still_reads : (k : ℕ) (reads : List ℕ) (old new : List (List ℕ)) → IsAdded reads k old new → (s j : ℕ) → is_among (readers_of old s) j ≡ true → is_among (readers_of new s) j ≡ true
still_reads k reads old new added s j h =
    ⊎_elim
    (λ (inside : s < length old). added.each s j inside ∙ left (is_among (readers_of old s) j) (is_among reads s && (k == j)) h)
    (λ (past : length old ≤ s). absurd (false≢true (sym (past_none old s j past) ∙ h)))
    (cases_lt s (length old))

-- ---- lists that grow

pub get_more : {A : Type 0} (xs : List A) (x y : A) (i : ℕ) → slice_get (xs ++ x ∷ []) i ≡ Some y → (slice_get xs i ≡ Some y) ⊎ ((i ≡ length xs) × (x ≡ y))
get_more [] x y zero e = inr (refl, cc)
get_more [] x y (suc i) e = cc
get_more (z ∷ xs) x y zero e = inl e
get_more (z ∷ xs) x y (suc i) e = ⊎_elim (λ h. inl h) (λ (h : (i ≡ length xs) × (x ≡ y)). inr (ap suc h.0, h.1)) (get_more xs x y i e)

pub get_old : {A : Type 0} (xs : List A) (x y : A) (i : ℕ) → slice_get xs i ≡ Some y → slice_get (xs ++ x ∷ []) i ≡ Some y
get_old [] x y i e = cc
get_old (z ∷ xs) x y zero e = e
get_old (z ∷ xs) x y (suc i) e = get_old xs x y i e

pub get_last : {A : Type 0} (xs : List A) (x : A) → slice_get (xs ++ x ∷ []) (length xs) ≡ Some x
get_last [] x = refl
get_last (y ∷ xs) x = get_last xs x

pub same_some : {A : Type 0} (o : Option A) (x y : A) → o ≡ Some x → o ≡ Some y → x ≡ y
same_some o x y e f = let g : Some x ≡ Some y = sym e ∙ f in cc

-- ---- no process

module _ (c : Circuit) where
  pub no_tables : (readers processes : List (List ℕ)) → readers ≡ replicate (length c.pool.signals) [] → processes ≡ replicate (length c.pool.signals) [] → AreTables c 0 [] [] readers processes
  no_tables readers processes er ep = record {
    clocked_count = refl;
    clocked = λ k p d lt is dom. absurd (omega (arith, lt));
    tasks = λ j t is. cc;
    covered = λ k p s lt is dom h. absurd (omega (arith, lt));
    apart = λ i j a b s ia ib ne h. cc;
    readers = empty readers er;
    awake = λ s j t p is stands h. cc;
    processes = empty processes ep;
    exact = λ s k p inside lt is. absurd (omega (arith, lt));
  }
    where
      empty : (table : List (List ℕ)) → table ≡ replicate (length c.pool.signals) [] → IsTable (length c.pool.signals) 0 table
      empty table e = record {
        count = ap length e ∙ none_long (length c.pool.signals);
        below = λ s k h. absurd (false≢true (sym (ap (λ t. is_among (readers_of t s) k) e ∙ none_read (length c.pool.signals) s k) ∙ h));
      }

module _ (c : Circuit) (design : IsDesign c) (n : ℕ) (p : DesignProcess) (stands : slice_get c.processes n ≡ Some p)
    (clocked tasks : List Task) (readers processes : List (List ℕ)) (was : AreTables c n clocked tasks readers processes) where
  older : (k : ℕ) → k < n + 1 → (k < n) ⊎ (k ≡ n)
  older k lt = ⊎_elim (λ h. inl h) (λ (h : n ≤ k). inr (omega (arith, h, lt))) (cases_lt k n)

  same_process : (k : ℕ) (q : DesignProcess) → k ≡ n → slice_get c.processes k ≡ Some q → q ≡ p
  same_process k q e is = same_some (slice_get c.processes n) q p (ap (slice_get c.processes) (sym e) ∙ is) stands

  none_of_clocked : (o : Option DomainId) (b : Bool) → is_some o ≡ true → false ≡ (is_none o && b)
  none_of_clocked None b e = absurd (false≢true e)
  none_of_clocked (Some d) b e = refl

  is_some_of : (o : Option DomainId) → o ≡ None → is_some o ≡ true → ⊥
  is_some_of o e t = false≢true (sym (ap is_some e) ∙ t)

  none_new : (s : ℕ) → is_among (readers_of processes s) n ≡ false
  none_new s = ⊎_elim (λ (t : is_among (readers_of processes s) n ≡ true). absurd (omega (arith, was.processes.below s n t))) (λ (t : is_among (readers_of processes s) n ≡ false). t) (cases_Bool (is_among (readers_of processes s) n))

  wider : (table : List (List ℕ)) (a b : ℕ) → a ≤ b → IsTable (length c.pool.signals) a table → IsTable (length c.pool.signals) b table
  wider table a b le t = record { count = t.count; below = λ s k h. omega (arith, t.below s k h, le) }

  longer : (t : Task) → length (clocked ++ t ∷ []) ≡ n + 1
  longer t = length-append clocked (t ∷ []) ∙ ap (λ k. k + 1) was.clocked_count

  -- a clocked process more
  pub clocked_more : (t : Task) → is_some p.domain ≡ true → IsClockedTask c (length c.pool.exprs) t p → AreTables c (n + 1) (clocked ++ t ∷ []) tasks readers processes
  clocked_more t some task = record {
    clocked_count = longer t;
    clocked = λ k q d lt is dom.
        ⊎_elim
        (λ (old : k < n). let h = was.clocked k q d old is dom in record { t = h.t; stands = get_old clocked t h.t k h.stands; is_task = h.is_task })
        (λ (e : k ≡ n).
        let place : k ≡ length clocked = e ∙ sym was.clocked_count in
        record { t = t; stands = ap (slice_get (clocked ++ t ∷ [])) place ∙ get_last clocked t; is_task = subst (IsClockedTask c (length c.pool.exprs) t) (sym (same_process k q e is)) task })
        (older k lt);
    tasks = λ j x is. let r = was.tasks j x is in (r.0, omega (arith, r.1));
    covered = λ k q s lt is dom h.
        ⊎_elim
        (λ (old : k < n). was.covered k q s old is dom h)
        (λ (e : k ≡ n). absurd (is_some_of q.domain dom (ap (λ (x : DesignProcess). is_some x.domain) (same_process k q e is) ∙ some)))
        (older k lt);
    apart = was.apart;
    readers = was.readers;
    awake = was.awake;
    processes = wider processes n (n + 1) (omega arith) was.processes;
    exact = λ s k q inside lt is.
        ⊎_elim
        (λ (old : k < n). was.exact s k q inside old is)
        (λ (e : k ≡ n).
        ap (is_among (readers_of processes s)) e ∙ none_new s
        ∙ none_of_clocked q.domain (block_reads c.pool s q.body) (ap (λ (x : DesignProcess). is_some x.domain) (same_process k q e is) ∙ some))
        (older k lt);
  }

  -- none of its statements yet
  pub partial_first : ArePartial c n p [] tasks readers processes
  partial_first = record {
    tasks = λ j t is. let r = was.tasks j t is in (r.0, omega (arith, r.1));
    now = λ j t s is e h. absurd (omega (arith, e, (was.tasks j t is).1));
    covered = was.covered;
    covered_now = λ s h. absurd (false≢true h);
    apart = was.apart;
    readers = was.readers;
    awake = was.awake;
    processes = wider processes n (n + 1) (omega arith) was.processes;
    exact = was.exact;
    exact_now = λ s inside. none_new s;
  }

  -- all of its statements
  pub partial_last : (comb : p.domain ≡ None) (t : Task) (gone : List ℕ) (tasks' : List Task) (readers' processes' : List (List ℕ)) → ((i : ℕ) → i < length (statements p.body) → is_among gone i ≡ true) → ArePartial c n p gone tasks' readers' processes' → AreTables c (n + 1) (clocked ++ t ∷ []) tasks' readers' processes'
  partial_last comb t gone tasks' readers' processes' all now = record {
    clocked_count = longer t;
    clocked = λ k q d lt is dom.
        ⊎_elim
        (λ (old : k < n). let h = was.clocked k q d old is dom in record { t = h.t; stands = get_old clocked t h.t k h.stands; is_task = h.is_task })
        (λ (e : k ≡ n). let f : Some d ≡ None = sym dom ∙ ap (λ (y : DesignProcess). y.domain) (same_process k q e is) ∙ comb in cc)
        (older k lt);
    tasks = λ j x is. let r = now.tasks j x is in (r.0, omega (arith, r.1));
    covered = λ k q s lt is dom h.
        ⊎_elim
        (λ (old : k < n). now.covered k q s old is dom h)
        (λ (e : k ≡ n).
        let here : is_among (driven c.pool p.body) s ≡ true = ap (λ (y : DesignProcess). is_among (driven c.pool y.body) s) (sym (same_process k q e is)) ∙ h in
        subst (λ m. IsCovered tasks' m s) (sym e) (now.covered_now s (drives_whole c.pool s p.body gone all ∙ here)))
        (older k lt);
    apart = now.apart;
    readers = now.readers;
    awake = now.awake;
    processes = now.processes;
    exact = λ s k q inside lt is.
        ⊎_elim
        (λ (old : k < n). now.exact s k q inside old is)
        (λ (e : k ≡ n).
        let here = ap (λ (y : DesignProcess). is_none y.domain && block_reads c.pool s y.body) (same_process k q e is) ∙ ap (λ (o : Option DomainId). is_none o && block_reads c.pool s p.body) comb in
        ap (is_among (readers_of processes' s)) e ∙ now.exact_now s inside ∙ reads_whole c.pool s p.body gone all ∙ sym here)
        (older k lt);
  }

-- ---- a group of its statements more

module _ (c : Circuit) (design : IsDesign c) (n : ℕ) (p : DesignProcess) (stands : slice_get c.processes n ≡ Some p) (comb : p.domain ≡ None)
    (gone group : List ℕ) (tasks : List Task) (readers processes : List (List ℕ)) (was : ArePartial c n p gone tasks readers processes) (other : AreOthers gone group) (apart : IsApart c.pool p.body group)
    (x : Compiled) (compiled : IsCompiled c n p group x) (readers' processes' : List (List ℕ))
    (added : IsAdded (numbers_of x.reads) (length tasks) readers readers') (added' : IsAdded (numbers_of x.reads) n processes processes') where
  is_comb_task : IsCombTask c (length c.pool.exprs) x.task
  is_comb_task = record { p = p; task = task_group c n p stands x group apart compiled; comb = comb; below = compiled.outs_below }

  process_is : (k : ℕ) (q : DesignProcess) → k ≡ n → slice_get c.processes k ≡ Some q → q ≡ p
  process_is k q e is = same_some (slice_get c.processes n) q p (ap (slice_get c.processes) (sym e) ∙ is) stands

  none_of : (b : Bool) → (b ≡ true → ⊥) → b ≡ false
  none_of b f = ⊎_elim (λ (t : b ≡ true). absurd (f t)) (λ (t : b ≡ false). t) (cases_Bool b)

  -- what earlier statements of the process drive, those of the group do not
  gone_apart : (s : ℕ) → is_among (driven c.pool (picked p.body gone)) s ≡ true → is_among (numbers_of x.task.outs) s ≡ false
  gone_apart s h = none_of (is_among (numbers_of x.task.outs) s) (λ t.
      let r = drives_some c.pool s p.body gone h in
      let mine = apart.alone r.0 s (drives_there c.pool s p.body r.0 r.2) r.2 (sym (compiled.outs s) ∙ t) in
      false≢true (sym (other r.0 r.1) ∙ mine))

  -- nothing that an earlier task drives is driven by this one
  apart_old : (j : ℕ) (b : Task) (s : ℕ) → slice_get tasks j ≡ Some b → is_among (numbers_of b.outs) s ≡ true → is_among (numbers_of x.task.outs) s ≡ false
  apart_old j b s is h =
      let old = was.tasks j b is in
      ⊎_elim
      (λ (e : b.process ≡ n). gone_apart s (was.now j b s is e h))
      (λ (e : b.process ≢ n).
      none_of (is_among (numbers_of x.task.outs) s) (λ t.
      let free = no_other c design b.process old.0.p s old.0.task.process (old.0.task.drives s h) n p stands (λ f. e (sym f)) in
      false≢true (sym free ∙ drives_part c.pool s p.body group (sym (compiled.outs s) ∙ t))))
      (cases_eq b.process n)

  back : (a b : Bool) → (b ≡ true → a ≡ false) → a ≡ true → b ≡ false
  back a true f e = absurd (false≢true (sym (f refl) ∙ e))
  back a false f e = refl

  reads_new : (s j : ℕ) (q : DesignProcess) → j ≡ length tasks → q ≡ p → block_reads c.pool s (picked q.body x.task.statements) ≡ true → is_among (readers_of readers' s) j ≡ true
  reads_new s j q e same h =
      let read : is_among (numbers_of x.reads) s ≡ true = compiled.reads s ∙ ap (λ is. block_reads c.pool s (picked p.body is)) (sym compiled.statements) ∙ ap (λ (y : DesignProcess). block_reads c.pool s (picked y.body x.task.statements)) (sym same) ∙ h in
      let inside : s < length readers = subst (λ m. s < m) (sym was.readers.count) (below_of (length c.pool.signals) (numbers_of x.reads) s compiled.reads_below read) in
      added.each s j inside
      ∙ right (is_among (readers_of readers s) j) (is_among (numbers_of x.reads) s && (length tasks == j)) (ap (λ b. b && (length tasks == j)) read ∙ eq-eqb (length tasks) j (sym e))

  exact_now : (s : ℕ) → s < length c.pool.signals → is_among (readers_of processes' s) n ≡ block_reads c.pool s (picked p.body (gone ++ group))
  exact_now s inside =
      added'.each s n (subst (λ m. s < m) (sym was.processes.count) inside)
      ∙ ap (λ b. b || (is_among (numbers_of x.reads) s && (n == n))) (was.exact_now s inside)
      ∙ ap (λ b. block_reads c.pool s (picked p.body gone) || (is_among (numbers_of x.reads) s && b)) (eq-eqb n n refl)
      ∙ ap (λ b. block_reads c.pool s (picked p.body gone) || b) (and_same (is_among (numbers_of x.reads) s) ∙ compiled.reads s)
      ∙ sym (reads_both c.pool s p.body gone group)
    where
      and_same : (b : Bool) → (b && true) ≡ b
      and_same true = refl
      and_same false = refl

  exact_old : (s k : ℕ) (q : DesignProcess) → s < length c.pool.signals → k < n → slice_get c.processes k ≡ Some q → is_among (readers_of processes' s) k ≡ (is_none q.domain && block_reads c.pool s q.body)
  exact_old s k q inside lt is =
      let other_place : (n == k) ≡ false = none_of (n == k) (λ t. omega (arith, lt, eqb-true n k t)) in
      added'.each s k (subst (λ m. s < m) (sym was.processes.count) inside)
      ∙ ap (λ b. is_among (readers_of processes s) k || (is_among (numbers_of x.reads) s && b)) other_place
      ∙ none_or (is_among (readers_of processes s) k) (is_among (numbers_of x.reads) s)
      ∙ was.exact s k q inside lt is
    where
      none_or : (a b : Bool) → (a || (b && false)) ≡ a
      none_or true b = refl
      none_or false true = refl
      none_or false false = refl

  pub partial_turn : ArePartial c n p (gone ++ group) (tasks ++ x.task ∷ []) readers' processes'
  partial_turn = record {
    tasks = λ j t is.
        ⊎_elim
        (λ (old : slice_get tasks j ≡ Some t). was.tasks j t old)
        (λ (h : (j ≡ length tasks) × (x.task ≡ t)). subst (λ (y : Task). IsCombTask c (length c.pool.exprs) y × (y.process ≤ n)) h.1 (is_comb_task, omega (arith, compiled.process)))
        (get_more tasks x.task t j is);
    now = λ j t s is e h.
        drives_both c.pool s p.body gone group
        ∙ ⊎_elim
        (λ (old : slice_get tasks j ≡ Some t). left (is_among (driven c.pool (picked p.body gone)) s) (is_among (driven c.pool (picked p.body group)) s) (was.now j t s old e h))
        (λ (m : (j ≡ length tasks) × (x.task ≡ t)).
        right (is_among (driven c.pool (picked p.body gone)) s) (is_among (driven c.pool (picked p.body group)) s) (sym (compiled.outs s) ∙ ap (λ (y : Task). is_among (numbers_of y.outs) s) m.1 ∙ h))
        (get_more tasks x.task t j is);
    covered = λ k q s lt is dom h.
        let v = was.covered k q s lt is dom h in
        record { j = v.j; t = v.t; stands = get_old tasks x.task v.t v.j v.stands; process = v.process; drives = v.drives };
    covered_now = λ s h.
        ⊎_elim
        (λ (old : is_among (driven c.pool (picked p.body gone)) s ≡ true).
        let v = was.covered_now s old in
        record { j = v.j; t = v.t; stands = get_old tasks x.task v.t v.j v.stands; process = v.process; drives = v.drives })
        (λ (new : is_among (driven c.pool (picked p.body group)) s ≡ true).
        record { j = length tasks; t = x.task; stands = get_last tasks x.task; process = compiled.process; drives = compiled.outs s ∙ new })
        (or_cases (is_among (driven c.pool (picked p.body gone)) s) (is_among (driven c.pool (picked p.body group)) s) (sym (drives_both c.pool s p.body gone group) ∙ h));
    apart = λ i j a b s ia ib ne h.
        ⊎_elim
        (λ (oa : slice_get tasks i ≡ Some a).
        ⊎_elim
        (λ (ob : slice_get tasks j ≡ Some b). was.apart i j a b s oa ob ne h)
        (λ (nb : (j ≡ length tasks) × (x.task ≡ b)). subst (λ (y : Task). is_among (numbers_of y.outs) s ≡ false) nb.1 (apart_old i a s oa h))
        (get_more tasks x.task b j ib))
        (λ (na : (i ≡ length tasks) × (x.task ≡ a)).
        ⊎_elim
        (λ (ob : slice_get tasks j ≡ Some b). back (is_among (numbers_of a.outs) s) (is_among (numbers_of b.outs) s) (λ t. subst (λ (y : Task). is_among (numbers_of y.outs) s ≡ false) na.1 (apart_old j b s ob t)) h)
        (λ (nb : (j ≡ length tasks) × (x.task ≡ b)). absurd (ne (na.0 ∙ sym nb.0)))
        (get_more tasks x.task b j ib))
        (get_more tasks x.task a i ia);
    readers = table_more (length c.pool.signals) (length tasks) (length (tasks ++ x.task ∷ [])) (length tasks) (numbers_of x.reads) readers readers' was.readers added (omega (arith, length-append tasks (x.task ∷ []))) (omega (arith, length-append tasks (x.task ∷ [])));
    awake = λ s j t q is there h.
        ⊎_elim
        (λ (old : slice_get tasks j ≡ Some t). still_reads (length tasks) (numbers_of x.reads) readers readers' added s j (was.awake s j t q old there h))
        (λ (e : (j ≡ length tasks) × (x.task ≡ t)).
        let same : q ≡ p = process_is t.process q (ap (λ (y : Task). y.process) (sym e.1) ∙ compiled.process) there in
        reads_new s j q e.0 same (ap (λ (y : Task). block_reads c.pool s (picked q.body y.statements)) e.1 ∙ h))
        (get_more tasks x.task t j is);
    processes = table_more (length c.pool.signals) (n + 1) (n + 1) n (numbers_of x.reads) processes processes' was.processes added' (omega arith) (omega arith);
    exact = exact_old;
    exact_now = exact_now;
  }

-- no statement more
pub partial_none : (c : Circuit) (n : ℕ) (p : DesignProcess) (gone group : List ℕ) (tasks : List Task) (readers processes : List (List ℕ)) → length group ≡ 0 → ArePartial c n p gone tasks readers processes → ArePartial c n p (gone ++ group) tasks readers processes
partial_none c n p gone [] tasks readers processes e was = subst (λ xs. ArePartial c n p xs tasks readers processes) (sym (append-nil gone)) was
partial_none c n p gone (i ∷ is) tasks readers processes e was = absurd (omega (arith, e))

-- ---- results

pub no_domain : (o : Option DomainId) → is_some o ≡ false → o ≡ None
no_domain None e = refl
no_domain (Some d) e = absurd (false≢true (sym e))

pub on_ok : {A E : Type 0} {P Q : Type 0} (r : Result A E) → (P → Q) → OnOk r P → OnOk r Q
on_ok (Ok a) f p = f p
on_ok (Err e) f p = tt

-- what holds whatever the answer
pub if_ok : {A E : Type 0} {Q : Type 0} (r : Result A E) → Q → OnOk r Q
if_ok (Ok a) q = q
if_ok (Err e) q = tt

-- ---- all processes

pub planned : (c : Circuit) (design : IsDesign c) (plan : Plan) (marks : List Bool) (readers processes : List (List ℕ)) → AreFirst false (is_held c) (length c.pool.signals) marks → ((s : ℕ) → is_among (numbers_of plan.given) s ≡ is_marked marks s)
    → AreTables c (length c.processes) plan.clocked plan.tasks readers processes → ArePorted c (length plan.tasks) plan.reads (comb_ports 0 c.memories) readers processes plan.readers plan.processes
    → plan.jobs ≡ length plan.tasks + length plan.reads → plan.agents ≡ length c.processes + length plan.reads → ((k : ℕ) (m : Memory) → slice_get c.memories k ≡ Some m → HasPorts c (length c.pool.exprs) plan.ports k m) → plan.clearable ≡ clearable_processes c → IsPlan c (length c.pool.exprs) plan
planned c design plan marks readers processes first given all ported jobs agents ports clearable = record {
  given = λ s inside. given s ∙ first.each s inside;
  given_below = all_of (λ s. s < length c.pool.signals) (numbers_of plan.given) (λ s h.
      ⊎_elim
      (λ (inside : s < length c.pool.signals). inside)
      (λ (past : length c.pool.signals ≤ s). absurd (false≢true (sym (given s ∙ get_or_past marks s false (subst (λ n. n ≤ s) (sym first.count) past)) ∙ h)))
      (cases_lt s (length c.pool.signals)));
  clocked = λ k p d is dom. all.clocked k p d (place_below c.processes k p is) is dom;
  tasks = λ j t is. (all.tasks j t is).0;
  covered = λ k p s is dom h. all.covered k p s (place_below c.processes k p is) is dom h;
  apart = all.apart;
  ports = ports;
  readers = subst (λ n. IsTable (length c.pool.signals) n plan.readers) (sym jobs) ported.readers;
  awake = λ s j t p is at h. ported.same_readers s j (place_below plan.tasks j t is) ∙ all.awake s j t p is at h;
  processes = subst (λ n. IsTable (length c.pool.signals) n plan.processes) (sym agents) ported.processes;
  exact = λ s k p inside is. ported.same_processes s k (place_below c.processes k p is) ∙ all.exact s k p inside (place_below c.processes k p is) is;
  reads = ported.tasks;
  jobs = jobs;
  agents = agents;
  clearable = clearable;
}
