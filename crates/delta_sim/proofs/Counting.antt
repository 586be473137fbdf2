-- How many processes and read ports are woken.
use Rattle.std.specs.Prelude.{◌≡◌, ◌≢◌, refl, ℕ, zero, suc, ◌+◌, ◌^◌, ◌<◌, ◌≤◌, ◌⊎◌, ◌&&◌, ◌||◌, if◌then◌else◌, Bool, true, false, not, cond, is_none, List, [], ◌∷◌, length, replicate, slice_get, slice_index_or, ℤ, Some}
use Rattle.std.specs.List.{count_by, list_any, range_with_len}
use Rattle.std.specs.Ordering.{int_eq}
use Rattle.std.proofs.Common.{sym, ◌∙◌, ap, arith, inl, inr, ⊎_elim}
use Rattle.std.proofs.lemmas.Bool.{cases_Bool, cases_lt, false≢true}
use Rattle.std.proofs.lemmas.Bool.Decides.{Decides-int_eq}
use Rattle.std.proofs.lemmas.List.{get_or_past}
use Rattle.std.proofs.lemmas.List.Sums.{sum_by-append, sum_by-cons}
use Rattle.design_ir.specs.declared.memory.MemRead.{MemRead}
use Rattle.design_ir.specs.declared.memory.Memory.{Memory}
use Rattle.design_ir.specs.declared.process.DesignProcess.{DesignProcess}
use Rattle.design_ir.specs.Circuits.{Circuit, at, is_among}
use Rattle.design_ir.specs.Designs.{IsDesign}
use Rattle.design_ir.specs.PoolRules.{IsPool}
use Rattle.design_ir.proofs.Equations.{place_below}
use Rattle.design_ir.proofs.NumbersFit.{element}
use Rattle.sim_plans.specs.declared.plan.Plan.{Plan}
use Rattle.sim_plans.specs.Plans.{IsPlan, Wakes, readers_of}
use Rattle.sim_plans.specs.Ports.{comb_ports, unclocked}
use Rattle.sim_plans.specs.Reads.{block_reads, stands_in}
use Rattle.sim_plans.specs.Settling.{IsWoken}
use Rattle.sim_plans.specs.Woken.{changed, is_woken, is_port_woken, ports_woken, same_rows, woken}
use Rattle.sim_plans.proofs.CombPorts.{few_ports, memory_there}
use Rattle.delta_sim.proofs.SameRows.{same_rows_self}
use Rattle.sim_plans.proofs.Waits.{none_marked}

-- ---- tests

pub same_tests : (a b : Bool) → (a ≡ true → b ≡ true) → (b ≡ true → a ≡ true) → a ≡ b
same_tests true b f g = sym (f refl)
same_tests false true f g = g refl
same_tests false false f g = refl

and_left : (a b : Bool) → (a && b) ≡ true → a ≡ true
and_left true b e = refl
and_left false b e = e

and_right : (a b : Bool) → (a && b) ≡ true → b ≡ true
and_right true b e = e
and_right false b e = absurd (false≢true e)

and_both : (a b : Bool) → a ≡ true → b ≡ true → (a && b) ≡ true
and_both true b e h = h
and_both false b e h = absurd (false≢true e)

is_changed : (old new : List ℤ) (s : ℕ) → at old s ≢ at new s → changed old new s ≡ true
is_changed old new s h = tested (int_eq (at old s) (at new s)) refl
  where
    tested : (t : Bool) → int_eq (at old s) (at new s) ≡ t → not (int_eq (at old s) (at new s)) ≡ true
    tested true e = absurd (h ((Decides-int_eq (at old s) (at new s)).0 e))
    tested false e = ap not e

was_changed : (old new : List ℤ) (s : ℕ) → changed old new s ≡ true → at old s ≢ at new s
was_changed old new s h e = false≢true (sym (ap not ((Decides-int_eq (at old s) (at new s)).1 e)) ∙ h)

-- ---- places of a range

range_place : (P : ℕ → Bool) (a n s : ℕ) → a ≤ s → s < a + n → P s ≡ true → list_any P (range_with_len a n) ≡ true
range_place P a zero s low high h = absurd (omega (arith, low, high))
range_place P a (suc n) s low high h =
    ⊎_elim
    (λ (l : a < s). or_right (P a) _ (range_place P (a + 1) n s (omega (arith, l)) (omega (arith, high)) h))
    (λ (l : s ≤ a). let same : a ≡ s = omega (arith, low, l) in or_left (P a) _ (ap P same ∙ h))
    (cases_lt a s)
  where
    or_left : (x y : Bool) → x ≡ true → (x || y) ≡ true
    or_left true y e = refl
    or_left false y e = absurd (false≢true e)

    or_right : (x y : Bool) → y ≡ true → (x || y) ≡ true
    or_right true y e = refl
    or_right false y e = e

range_some : (P : ℕ → Bool) (a n : ℕ) → list_any P (range_with_len a n) ≡ true → (s : ℕ) × (s < a + n) × (P s ≡ true)
range_some P a zero h = absurd (false≢true h)
range_some P a (suc n) h =
    ⊎_elim
    (λ (t : P a ≡ true). (a, omega arith, t))
    (λ (t : P a ≡ false). let r = range_some P (a + 1) n (sym (ap (λ b. b || list_any P (range_with_len (a + 1) n)) t) ∙ h) in (r.0, omega (arith, r.1), r.2))
    (cases_Bool (P a))

-- ---- counts

count_here : {A : Type 0} (f : A → Bool) (marks : List Bool) (xs : List A) → length marks ≡ length xs → ((k : ℕ) (x : A) → slice_get xs k ≡ Some x → slice_index_or marks k false ≡ f x) → count_by (λ b. b) marks ≡ count_by f xs
count_here f [] [] long h = refl
count_here f [] (x ∷ xs) long h = absurd (omega (arith, long))
count_here f (b ∷ marks) [] long h = absurd (omega (arith, long))
count_here f (b ∷ marks) (x ∷ xs) long h =
    let first : b ≡ f x = h 0 x refl in
    let rest = count_here f marks xs (omega (arith, long)) (λ k y is. h (suc k) y is) in
    sum_by-cons (λ y. cond y 1 0) b marks ∙ ap (λ y. cond y 1 0 + count_by (λ z. z) marks) first ∙ ap (λ n. cond (f x) 1 0 + n) rest ∙ sym (sum_by-cons (λ y. cond (f y) 1 0) x xs)

-- marks of two lists, one behind the other
count_both : {A B : Type 0} (f : A → Bool) (g : B → Bool) (marks : List Bool) (xs : List A) (ys : List B) → length marks ≡ length xs + length ys → ((k : ℕ) (x : A) → slice_get xs k ≡ Some x → slice_index_or marks k false ≡ f x)
    → ((i : ℕ) (y : B) → slice_get ys i ≡ Some y → slice_index_or marks (length xs + i) false ≡ g y) → count_by (λ b. b) marks ≡ count_by f xs + count_by g ys
count_both f g marks [] ys long h k =
    count_here g marks ys (omega (arith, long)) (λ i y is. (let e : i ≡ 0 + i = omega arith in ap (λ n. slice_index_or marks n false) e) ∙ k i y is)
    ∙ (let e : count_by g ys ≡ 0 + count_by g ys = omega arith in e)
count_both f g [] (x ∷ xs) ys long h k = absurd (omega (arith, long))
count_both f g (b ∷ marks) (x ∷ xs) ys long h k =
    let first : b ≡ f x = h 0 x refl in
    let rest = count_both f g marks xs ys (omega (arith, long)) (λ n y is. h (suc n) y is)
    (λ i y is. (let e : suc (length xs + i) ≡ suc (length xs) + i = omega arith in ap (λ n. slice_index_or (b ∷ marks) n false) e) ∙ k i y is) in
    let own = sum_by-cons (λ y. cond (f y) 1 0) x xs in
    sum_by-cons (λ y. cond y 1 0) b marks ∙ ap (λ y. cond y 1 0 + count_by (λ z. z) marks) first ∙ omega (arith, rest, own)

none_count : {A : Type 0} (f : A → Bool) (xs : List A) → ((x : A) → f x ≡ false) → count_by f xs ≡ 0
none_count f [] h = refl
none_count f (x ∷ xs) h = sum_by-cons (λ y. cond (f y) 1 0) x xs ∙ ap (λ b. cond b 1 0 + count_by f xs) (h x) ∙ omega (arith, none_count f xs h)

-- ---- read ports

module _ (c : Circuit) (old new : List ℤ) where
  -- a signal in the address has another number
  abbrev pub moves : MemRead → Bool
  moves r = list_any (λ s. changed old new s && stands_in c.pool s r.addr.0) (range_with_len 0 (length c.pool.signals))

  -- a combinational read port is woken
  abbrev pub is_called : (ℕ → List ℤ) → (ℕ → List ℤ) → (ℕ × MemRead) → Bool
  is_called rows after x = not (same_rows (rows x.0) (after x.0)) || moves x.1

  module _ (rows after : ℕ → List ℤ) where
    unclocked_count : (k : ℕ) (rs : List MemRead) → count_by (is_port_woken c old new (rows k) (after k)) rs ≡ count_by (is_called rows after) (unclocked k rs)
    unclocked_count k [] = refl
    unclocked_count k (r ∷ rs) =
        let f = is_port_woken c old new (rows k) (after k) in
        let g = is_called rows after in
        let rest = unclocked_count k rs in
        sum_by-cons (λ x. cond (f x) 1 0) r rs
        ∙ cases (is_none r.domain) refl rest
      where
        cases : (t : Bool) → is_none r.domain ≡ t → count_by (is_port_woken c old new (rows k) (after k)) rs ≡ count_by (is_called rows after) (unclocked k rs)
            → cond (is_none r.domain && is_called rows after (k, r)) 1 0 + count_by (is_port_woken c old new (rows k) (after k)) rs ≡ count_by (is_called rows after) (if is_none r.domain then (k, r) ∷ unclocked k rs else unclocked k rs)
        cases true t rest =
            ap (λ b. cond (b && is_called rows after (k, r)) 1 0 + count_by (is_port_woken c old new (rows k) (after k)) rs) t
            ∙ ap (λ n. cond (is_called rows after (k, r)) 1 0 + n) rest
            ∙ sym (sum_by-cons (λ x. cond (is_called rows after x) 1 0) (k, r) (unclocked k rs))
            ∙ ap (λ b. count_by (is_called rows after) (if b then (k, r) ∷ unclocked k rs else unclocked k rs)) (sym t)
        cases false t rest =
            ap (λ b. cond (b && is_called rows after (k, r)) 1 0 + count_by (is_port_woken c old new (rows k) (after k)) rs) t
            ∙ omega (arith, rest)
            ∙ ap (λ b. count_by (is_called rows after) (if b then (k, r) ∷ unclocked k rs else unclocked k rs)) (sym t)

    ports_count : (a : ℕ) (ms : List Memory) (xs ys : List (List ℤ)) → length xs ≡ length ms → length ys ≡ length ms → ((k : ℕ) → rows (a + k) ≡ slice_index_or xs k []) → ((k : ℕ) → after (a + k) ≡ slice_index_or ys k [])
        → ports_woken c old new ms xs ys ≡ count_by (is_called rows after) (comb_ports a ms)
    ports_count a [] xs ys ex ey hx hy = refl
    ports_count a (m ∷ ms) [] ys ex ey hx hy = absurd (omega (arith, ex))
    ports_count a (m ∷ ms) (x ∷ xs) [] ex ey hx hy = absurd (omega (arith, ey))
    ports_count a (m ∷ ms) (x ∷ xs) (y ∷ ys) ex ey hx hy =
        let here : a + 0 ≡ a = omega arith in
        let px : x ≡ rows a = sym (hx 0) ∙ ap rows here in
        let py : y ≡ after a = sym (hy 0) ∙ ap after here in
        let first = ap (λ z. count_by (is_port_woken c old new z y) m.reads) px ∙ ap (λ z. count_by (is_port_woken c old new (rows a) z) m.reads) py ∙ unclocked_count a m.reads in
        let rest = ports_count (suc a) ms xs ys (omega (arith, ex)) (omega (arith, ey)) (λ k. (let e : suc a + k ≡ a + suc k = omega arith in ap rows e) ∙ hx (suc k)) (λ k. (let e : suc a + k ≡ a + suc k = omega arith in ap after e) ∙ hy (suc k)) in
        omega (arith, first, rest, sum_by-append (λ z. cond (is_called rows after z) 1 0) (unclocked a m.reads) (comb_ports (suc a) ms))

module _ (c : Circuit) where
  none_moved : (env : List ℤ) (P : ℕ → Bool) → list_any (λ s. changed env env s && P s) (range_with_len 0 (length c.pool.signals)) ≡ false
  none_moved env P =
      ⊎_elim
      (λ (t : list_any (λ s. changed env env s && P s) (range_with_len 0 (length c.pool.signals)) ≡ true).
      let r = range_some (λ s. changed env env s && P s) 0 (length c.pool.signals) t in
      absurd (was_changed env env r.0 (and_left (changed env env r.0) (P r.0) r.2) refl))
      (λ (t : list_any (λ s. changed env env s && P s) (range_with_len 0 (length c.pool.signals)) ≡ false). t)
      (cases_Bool (list_any (λ s. changed env env s && P s) (range_with_len 0 (length c.pool.signals))))

  and_none : (a b : Bool) → b ≡ false → (a && b) ≡ false
  and_none true b e = e
  and_none false b e = refl

  -- no process is woken where nothing changed, and no read port
  pub woken_same : (rows : List (List ℤ)) (env : List ℤ) → woken c rows rows env env ≡ 0
  woken_same rows env =
      let own = none_count (is_woken c env env) c.processes (λ p. and_none (is_none p.domain) _ (none_moved env (λ s. block_reads c.pool s p.body))) in
      let more = ports c.memories rows in
      omega (arith, own, more)
    where
      port : (x : List ℤ) (r : MemRead) → is_port_woken c env env x x r ≡ false
      port x r = and_none (is_none r.domain) _ (ap (λ b. not b || moves c env env r) (same_rows_self x) ∙ none_moved env (λ s. stands_in c.pool s r.addr.0))

      ports : (ms : List Memory) (rows : List (List ℤ)) → ports_woken c env env ms rows rows ≡ 0
      ports [] rows = refl
      ports (m ∷ ms) [] = refl
      ports (m ∷ ms) (x ∷ rows) = omega (arith, none_count (is_port_woken c env env x x) m.reads (port x), ports ms rows)

  module _ (design : IsDesign c) (count : ℕ) (plan : Plan) (is : IsPlan c count plan) where
    inside : (s k : ℕ) → is_among (readers_of plan.processes s) k ≡ true → s < length c.pool.signals
    inside s k h =
        ⊎_elim (λ l. l)
        (λ (past : length c.pool.signals ≤ s). absurd (false≢true (sym (ap (λ xs. is_among xs k) (get_or_past plan.processes s [] (omega (arith, past, is.processes.count)))) ∙ h)))
        (cases_lt s (length c.pool.signals))

    or_left : (a b : Bool) → a ≡ true → (a || b) ≡ true
    or_left true b e = refl
    or_left false b e = absurd (false≢true e)

    or_right : (a b : Bool) → b ≡ true → (a || b) ≡ true
    or_right true b e = refl
    or_right false b e = e

    or_cases : (a b : Bool) → (a || b) ≡ true → (a ≡ true) ⊎ (b ≡ true)
    or_cases true b e = inl refl
    or_cases false b e = inr e

    module _ (old new : List ℤ) (rows after : List (List ℤ)) (marks : List Bool) (woken_by : IsWoken c plan old new rows after marks) (long : length marks ≡ plan.agents) where
      abbrev between : List Bool
      between = woken_by.between

      wakes : Wakes plan.processes old new (replicate plan.agents false) between
      wakes = woken_by.signals

      -- what was woken by signals reads one with another number
      by_signal : (k : ℕ) → slice_index_or between k false ≡ true → (s : ℕ) × (at old s ≢ at new s) × (is_among (readers_of plan.processes s) k ≡ true)
      by_signal k h =
          ⊎_elim
          (λ (was : slice_index_or (replicate plan.agents false) k false ≡ true). absurd (false≢true (sym (none_marked plan.agents k) ∙ was)))
          (λ x. x)
          (wakes.sound k h)

      process_mark : (k : ℕ) (p : DesignProcess) → slice_get c.processes k ≡ Some p → slice_index_or marks k false ≡ is_woken c old new p
      process_mark k p stands =
          woken_by.ports.others k (place_below c.processes k p stands)
          ∙ same_tests (slice_index_or between k false) (is_woken c old new p)
          (λ h.
          let x = by_signal k h in
          let within = inside x.0 k x.2 in
          let reads = sym (is.exact x.0 k p within stands) ∙ x.2 in
          and_both (is_none p.domain) _ (and_left (is_none p.domain) (block_reads c.pool x.0 p.body) reads)
          (range_place (λ s. changed old new s && block_reads c.pool s p.body) 0 (length c.pool.signals) x.0 (omega arith) (omega (arith, within)) (and_both (changed old new x.0) (block_reads c.pool x.0 p.body) (is_changed old new x.0 x.1) (and_right (is_none p.domain) (block_reads c.pool x.0 p.body) reads))))
          (λ h.
          let r = range_some (λ s. changed old new s && block_reads c.pool s p.body) 0 (length c.pool.signals) (and_right (is_none p.domain) _ h) in
          wakes.wakes r.0 k (was_changed old new r.0 (and_left (changed old new r.0) (block_reads c.pool r.0 p.body) r.2))
          (is.exact r.0 k p (omega (arith, r.1)) stands ∙ and_both (is_none p.domain) (block_reads c.pool r.0 p.body) (and_left (is_none p.domain) _ h) (and_right (changed old new r.0) (block_reads c.pool r.0 p.body) r.2)))

      abbrev row_of : List (List ℤ) → ℕ → List ℤ
      row_of all k = slice_index_or all k []

      -- the address of a port is marked where one of its signals has another number
      address_mark : (i : ℕ) (x : ℕ × MemRead) → slice_get (comb_ports 0 c.memories) i ≡ Some x → slice_index_or between (length c.processes + i) false ≡ moves c old new x.1
      address_mark i x stands =
          same_tests (slice_index_or between (length c.processes + i) false) (moves c old new x.1)
          (λ h.
          let y = by_signal (length c.processes + i) h in
          let within = inside y.0 (length c.processes + i) y.2 in
          range_place (λ s. changed old new s && stands_in c.pool s x.1.addr.0) 0 (length c.pool.signals) y.0 (omega arith) (omega (arith, within)) (and_both (changed old new y.0) (stands_in c.pool y.0 x.1.addr.0) (is_changed old new y.0 y.1) (sym (is.reads.exact y.0 i x within stands) ∙ y.2)))
          (λ h.
          let r = range_some (λ s. changed old new s && stands_in c.pool s x.1.addr.0) 0 (length c.pool.signals) h in
          wakes.wakes r.0 (length c.processes + i) (was_changed old new r.0 (and_left (changed old new r.0) (stands_in c.pool r.0 x.1.addr.0) r.2))
          (is.reads.exact r.0 i x (omega (arith, r.1)) stands ∙ and_right (changed old new r.0) (stands_in c.pool r.0 x.1.addr.0) r.2))

      swapped : (a b : Bool) → (a || b) ≡ (b || a)
      swapped true true = refl
      swapped true false = refl
      swapped false true = refl
      swapped false false = refl

      port_mark : (i : ℕ) (x : ℕ × MemRead) → slice_get (comb_ports 0 c.memories) i ≡ Some x → slice_index_or marks (length c.processes + i) false ≡ is_called c old new (row_of rows) (row_of after) x
      port_mark i x stands =
          let there : i < length plan.reads = (let l = place_below (comb_ports 0 c.memories) i x stands in omega (arith, l, is.reads.many)) in
          let t = element plan.reads i there in
          let task = is.reads.each i t.0 x t.1 stands in
          let number : x.0 < length c.memories = memory_there c design i x stands in
          woken_by.ports.ports i t.0 t.1
          ∙ swapped (slice_index_or between (length c.processes + i) false) (slice_index_or woken_by.changed t.0.memory false)
          ∙ ap (λ k. slice_index_or woken_by.changed k false || slice_index_or between (length c.processes + i) false) task.memory
          ∙ ap (λ b. b || slice_index_or between (length c.processes + i) false) (woken_by.are_changed x.0 number)
          ∙ ap (λ b. not (same_rows (row_of rows x.0) (row_of after x.0)) || b) (address_mark i x stands)

      -- those that were woken are marked, and no others are
      pub woken_count : length after ≡ length c.memories → count_by (λ b. b) marks ≡ woken c rows after old new
      woken_count many =
          let ports = ports_count c old new (row_of rows) (row_of after) 0 c.memories rows after woken_by.many many (λ k. let e : 0 + k ≡ k = omega arith in ap (row_of rows) e) (λ k. let e : 0 + k ≡ k = omega arith in ap (row_of after) e) in
          let both = count_both (is_woken c old new) (is_called c old new (row_of rows) (row_of after)) marks c.processes (comb_ports 0 c.memories) (omega (arith, long, is.agents, is.reads.many)) process_mark port_mark in
          omega (arith, both, ports)

    -- how many processes and read ports there are
    pub few_agents : IsPool c.pool → plan.agents < 2 ^ 32 + 16385
    few_agents rules = omega (arith, is.agents, is.reads.many, few_ports c design, design.few_processes, rules.few_signals)
