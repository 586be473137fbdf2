-- One combinational read port more, while a plan grows.
use Rattle.std.specs.Prelude.{◌≡◌, ◌≢◌, refl, ℕ, zero, suc, ◌+◌, ◌<◌, ◌≤◌, ◌==◌, ◌&&◌, ◌||◌, if◌then◌else◌, Bool, true, false, is_none, is_some, List, [], ◌∷◌, ◌++◌, take, length, slice_get, slice_index_or, Option, Some, None}
use Rattle.std.proofs.Common.{sym, ◌∙◌, ap, arith, subst, ⊎_elim, append-nil, append_assoc, add-one}
use Rattle.std.proofs.lemmas.Bool.{cases_Bool, cases_lt, eqb-true, eq-eqb, false≢true}
use Rattle.std.proofs.Math.ListN.{length-append}
use Rattle.std.specs.List.{AllByRecursion}
use Rattle.design_ir.specs.declared.ids.SigId.{SigId}
use Rattle.design_ir.specs.declared.memory.MemRead.{MemRead}
use Rattle.design_ir.specs.declared.memory.Memory.{Memory}
use Rattle.design_ir.specs.Circuits.{Circuit, is_among}
use Rattle.design_ir.proofs.Equations.{place_below}
use Rattle.sim_plans.specs.declared.task.PortTask.{PortTask}
use Rattle.sim_plans.specs.Driven.{numbers_of}
use Rattle.sim_plans.specs.Plans.{IsTable, readers_of}
use Rattle.sim_plans.specs.Ports.{IsPortTask, comb_ports, unclocked}
use Rattle.sim_plans.specs.Reads.{stands_in}
use Rattle.sim_plans.specs.Tables.{IsAdded, ArePorted}
use Rattle.sim_plans.proofs.DeltaSteps.{below_of}
use Rattle.sim_plans.proofs.Marks.{or_false}
use Rattle.sim_plans.proofs.PlanTables.{get_more, past_none, still_reads, table_more}

-- no port yet
pub ported_first : (c : Circuit) (first : ℕ) (readers processes : List (List ℕ)) → IsTable (length c.pool.signals) first readers → IsTable (length c.pool.signals) (length c.processes) processes → ArePorted c first [] [] readers processes readers processes
ported_first c first readers processes r p = record {
  tasks = record { many = refl; each = λ i t x a b. cc; awake = λ s i x a h. cc; exact = λ s i x lt a. cc };
  readers = let e : first ≡ first + 0 = omega arith in subst (λ n. IsTable (length c.pool.signals) n readers) e r;
  processes = let e : length c.processes ≡ length c.processes + 0 = omega arith in subst (λ n. IsTable (length c.pool.signals) n processes) e p;
  same_readers = λ s j lt. refl;
  same_processes = λ s k lt. refl;
}

none_of : (b : Bool) → (b ≡ true → ⊥) → b ≡ false
none_of b f = ⊎_elim (λ (t : b ≡ true). absurd (f t)) (λ (t : b ≡ false). t) (cases_Bool b)

and_none : (a b : Bool) → b ≡ false → (a && b) ≡ false
and_none true b e = e
and_none false b e = refl

-- other numbers read what they did
same_others : (k : ℕ) (reads : List ℕ) (old new : List (List ℕ)) → IsAdded reads k old new → (s j : ℕ) → j ≢ k → is_among (readers_of new s) j ≡ is_among (readers_of old s) j
same_others k reads old new added s j ne =
    ⊎_elim
    (λ (inside : s < length old).
    let other : (k == j) ≡ false = none_of (k == j) (λ t. ne (sym (eqb-true k j t))) in
    added.each s j inside ∙ ap (λ b. is_among (readers_of old s) j || b) (and_none (is_among reads s) (k == j) other) ∙ or_false (is_among (readers_of old s) j))
    (λ (past : length old ≤ s). past_none new s j (omega (arith, past, added.count)) ∙ sym (past_none old s j past))
    (cases_lt s (length old))

-- a number that read nothing yet reads what is added
own_reads : (k : ℕ) (reads : List ℕ) (old new : List (List ℕ)) (s : ℕ) → s < length old → IsAdded reads k old new → is_among (readers_of old s) k ≡ false → is_among (readers_of new s) k ≡ is_among reads s
own_reads k reads old new s inside added none =
    added.each s k inside ∙ ap (λ b. b || (is_among reads s && (k == k))) none ∙ ap (λ b. is_among reads s && b) (eq-eqb k k refl) ∙ and_true (is_among reads s)
  where
    and_true : (b : Bool) → (b && true) ≡ b
    and_true true = refl
    and_true false = refl

module _ (c : Circuit) (first : ℕ) (own : List PortTask) (done : List (ℕ × MemRead)) (old old' readers processes : List (List ℕ)) (was : ArePorted c first own done old old' readers processes)
    (t : PortTask) (x : ℕ × MemRead) (task : IsPortTask c (length c.pool.exprs) t x) (reads : List SigId) (are : (s : ℕ) → is_among (numbers_of reads) s ≡ stands_in c.pool s x.1.addr.0) (below : AllByRecursion (λ s. s < length c.pool.signals) (numbers_of reads))
    (readers' processes' : List (List ℕ)) (added : IsAdded (numbers_of reads) (first + length own) readers readers') (added' : IsAdded (numbers_of reads) (length c.processes + length own) processes processes') where
  abbrev grown : List PortTask
  grown = own ++ t ∷ []

  longer : length grown ≡ length own + 1
  longer = length-append own (t ∷ [])

  none_new : (n s : ℕ) (table : List (List ℕ)) → IsTable (length c.pool.signals) n table → is_among (readers_of table s) n ≡ false
  none_new n s table is = none_of (is_among (readers_of table s) n) (λ h. omega (arith, is.below s n h))

  pub ported_turn : ArePorted c first grown (done ++ x ∷ []) old old' readers' processes'
  ported_turn = record {
    tasks = record {
      many = longer ∙ ap (λ n. n + 1) was.tasks.many ∙ sym (length-append done (x ∷ []));
      each = λ i u y a b.
          ⊎_elim
          (λ (oa : slice_get own i ≡ Some u).
          ⊎_elim (λ (ob : slice_get done i ≡ Some y). was.tasks.each i u y oa ob) (λ (nb : (i ≡ length done) × (x ≡ y)). absurd (let l = place_below own i u oa in omega (arith, l, nb.0, was.tasks.many))) (get_more done x y i b))
          (λ (na : (i ≡ length own) × (t ≡ u)).
          ⊎_elim (λ (ob : slice_get done i ≡ Some y). absurd (let l = place_below done i y ob in omega (arith, l, na.0, was.tasks.many)))
          (λ (nb : (i ≡ length done) × (x ≡ y)). subst (λ (v : PortTask). IsPortTask c (length c.pool.exprs) v y) na.1 (subst (λ (z : ℕ × MemRead). IsPortTask c (length c.pool.exprs) t z) nb.1 task)) (get_more done x y i b))
          (get_more own t u i a);
      awake = λ s i y b h.
          ⊎_elim
          (λ (ob : slice_get done i ≡ Some y). still_reads (first + length own) (numbers_of reads) readers readers' added s (first + i) (was.tasks.awake s i y ob h))
          (λ (nb : (i ≡ length done) × (x ≡ y)).
          let read : is_among (numbers_of reads) s ≡ true = are s ∙ ap (λ (z : ℕ × MemRead). stands_in c.pool s z.1.addr.0) nb.1 ∙ h in
          let inside : s < length readers = (let l = below_of (length c.pool.signals) (numbers_of reads) s below read in omega (arith, l, was.readers.count)) in
          let place : first + i ≡ first + length own = omega (arith, nb.0, was.tasks.many) in
          ap (is_among (readers_of readers' s)) place ∙ own_reads (first + length own) (numbers_of reads) readers readers' s inside added (none_new (first + length own) s readers was.readers) ∙ read)
          (get_more done x y i b);
      exact = λ s i y lt b.
          ⊎_elim
          (λ (ob : slice_get done i ≡ Some y).
          let l = place_below done i y ob in
          same_others (length c.processes + length own) (numbers_of reads) processes processes' added' s (length c.processes + i) (λ e. omega (arith, e, l, was.tasks.many)) ∙ was.tasks.exact s i y lt ob)
          (λ (nb : (i ≡ length done) × (x ≡ y)).
          let inside : s < length processes = omega (arith, lt, was.processes.count) in
          let place : length c.processes + i ≡ length c.processes + length own = omega (arith, nb.0, was.tasks.many) in
          ap (is_among (readers_of processes' s)) place ∙ own_reads (length c.processes + length own) (numbers_of reads) processes processes' s inside added' (none_new (length c.processes + length own) s processes was.processes)
          ∙ are s ∙ ap (λ (z : ℕ × MemRead). stands_in c.pool s z.1.addr.0) nb.1)
          (get_more done x y i b);
    };
    readers = table_more (length c.pool.signals) (first + length own) (first + length grown) (first + length own) (numbers_of reads) readers readers' was.readers added (omega (arith, longer)) (omega (arith, longer));
    processes = table_more (length c.pool.signals) (length c.processes + length own) (length c.processes + length grown) (length c.processes + length own) (numbers_of reads) processes processes' was.processes added' (omega (arith, longer)) (omega (arith, longer));
    same_readers = λ s j lt. same_others (first + length own) (numbers_of reads) readers readers' added s j (λ e. omega (arith, e, lt)) ∙ was.same_readers s j lt;
    same_processes = λ s k lt. same_others (length c.processes + length own) (numbers_of reads) processes processes' added' s k (λ e. omega (arith, e, lt)) ∙ was.same_processes s k lt;
  }

-- ---- ports one after another

pub unclocked_parts : (k : ℕ) (xs ys : List MemRead) → unclocked k (xs ++ ys) ≡ unclocked k xs ++ unclocked k ys
unclocked_parts k [] ys = refl
unclocked_parts k (x ∷ xs) ys = either (is_none x.domain) (unclocked_parts k xs ys)
  where
    either : (t : Bool) → unclocked k (xs ++ ys) ≡ unclocked k xs ++ unclocked k ys → (if t then (k, x) ∷ unclocked k (xs ++ ys) else unclocked k (xs ++ ys)) ≡ (if t then (k, x) ∷ unclocked k xs else unclocked k xs) ++ unclocked k ys
    either true e = ap (λ zs. (k, x) ∷ zs) e
    either false e = e

pub take_none : {A : Type 0} (xs : List A) → take 0 xs ≡ []
take_none [] = refl
take_none (x ∷ xs) = refl

take_next : {A : Type 0} (xs : List A) (i : ℕ) (x : A) → slice_get xs i ≡ Some x → take (suc i) xs ≡ take i xs ++ x ∷ []
take_next [] i x e = cc
take_next (y ∷ xs) zero x e = let same : y ≡ x = cc in ap (λ zs. y ∷ zs) (take_none xs) ∙ ap (λ z. z ∷ []) same
take_next (y ∷ xs) (suc i) x e = ap (λ zs. y ∷ zs) (take_next xs i x e)

pub unclocked_next : (k : ℕ) (rs : List MemRead) (i : ℕ) (r : MemRead) (done : List (ℕ × MemRead)) → slice_get rs i ≡ Some r → (done ++ unclocked k (take i rs)) ++ unclocked k (r ∷ []) ≡ done ++ unclocked k (take (i + 1) rs)
unclocked_next k rs i r done e =
    append_assoc done (unclocked k (take i rs)) (unclocked k (r ∷ []))
    ∙ ap (λ zs. done ++ zs) (sym (unclocked_parts k (take i rs) (r ∷ [])) ∙ ap (unclocked k) (sym (take_next rs i r e)) ∙ ap (λ n. unclocked k (take n rs)) (sym (add-one i)))

ports_parts : (a : ℕ) (xs : List Memory) (m : Memory) → comb_ports a (xs ++ m ∷ []) ≡ comb_ports a xs ++ unclocked (a + length xs) m.reads
ports_parts a [] m = let e : a ≡ a + 0 = omega arith in append-nil (unclocked a m.reads) ∙ ap (λ n. unclocked n m.reads) e
ports_parts a (x ∷ xs) m =
    let e : suc a + length xs ≡ a + suc (length xs) = omega arith in
    ap (λ zs. unclocked a x.reads ++ zs) (ports_parts (suc a) xs m) ∙ sym (append_assoc (unclocked a x.reads) (comb_ports (suc a) xs) (unclocked (suc a + length xs) m.reads))
    ∙ ap (λ n. (unclocked a x.reads ++ comb_ports (suc a) xs) ++ unclocked n m.reads) e

take_length : {A : Type 0} (xs : List A) (i : ℕ) → i ≤ length xs → length (take i xs) ≡ i
take_length [] zero h = refl
take_length [] (suc i) h = absurd (omega (arith, h))
take_length (x ∷ xs) zero h = refl
take_length (x ∷ xs) (suc i) h = ap suc (take_length xs i (omega (arith, h)))

pub ports_next : (ms : List Memory) (k : ℕ) (m : Memory) → slice_get ms k ≡ Some m → comb_ports 0 (take k ms) ++ unclocked k m.reads ≡ comb_ports 0 (take (k + 1) ms)
ports_next ms k m e =
    let l = place_below ms k m e in
    let n : k ≡ 0 + length (take k ms) = omega (arith, take_length ms k (omega (arith, l))) in
    ap (λ j. comb_ports 0 (take k ms) ++ unclocked j m.reads) n ∙ sym (ports_parts 0 (take k ms) m) ∙ ap (comb_ports 0) (sym (take_next ms k m e)) ∙ ap (λ j. comb_ports 0 (take j ms)) (sym (add-one k))

pub take_whole : {A : Type 0} (xs : List A) (i : ℕ) → length xs ≤ i → take i xs ≡ xs
take_whole [] zero h = refl
take_whole [] (suc i) h = refl
take_whole (x ∷ xs) zero h = absurd (omega (arith, h))
take_whole (x ∷ xs) (suc i) h = ap (λ zs. x ∷ zs) (take_whole xs i (omega (arith, h)))

pub item_get : {A : Type 0} (xs : List A) (i : ℕ) (x : A) → i < length xs → x ≡ slice_index_or xs i x → slice_get xs i ≡ Some x
item_get [] i x h e = absurd (omega (arith, h))
item_get (y ∷ xs) zero x h e = ap (λ z. Some z) (sym e)
item_get (y ∷ xs) (suc i) x h e = item_get xs i x (omega (arith, h)) e

abbrev alone : ℕ → MemRead → List (ℕ × MemRead)
alone k r = (k, r) ∷ []

-- a port with a clock adds nothing
pub unclocked_none : (k : ℕ) (r : MemRead) → is_some r.domain ≡ true → unclocked k (r ∷ []) ≡ []
unclocked_none k r e = either r.domain e
  where
    either : (o : Option (List ℕ)) → is_some o ≡ true → (if is_none o then alone k r else []) ≡ []
    either None h = absurd (false≢true h)
    either (Some d) h = refl

pub unclocked_one : (k : ℕ) (r : MemRead) → is_some r.domain ≡ false → unclocked k (r ∷ []) ≡ (k, r) ∷ []
unclocked_one k r e = either r.domain e
  where
    either : (o : Option (List ℕ)) → is_some o ≡ false → (if is_none o then alone k r else []) ≡ alone k r
    either None h = refl
    either (Some d) h = absurd (false≢true (sym h))
