-- The combinational read ports of all memories in one list.
use Rattle.std.specs.Prelude.{◌≡◌, refl, ℕ, zero, suc, ◌+◌, ◌<◌, ◌≤◌, ◌⊎◌, ◌==◌, ◌||◌, ◌&&◌, if◌then◌else◌, nat_eq, Bool, true, false, is_none, List, [], ◌∷◌, ◌++◌, map, length, slice_get, ℤ, Option, Some, None}
use Rattle.std.specs.List.{AllByRecursion, flat_map, list_any, IsDistinct}
use Rattle.std.proofs.Common.{sym, ◌∙◌, ap, arith, subst, inl, inr, ⊎_elim, get_or}
use Rattle.std.proofs.lemmas.Bool.{cases_Bool, cond_both, eq-eqb, eqb-true, false≢true, or_parts}
use Rattle.std.proofs.lemmas.Map.Keys.{IsDistinct-tail, IsDistinct-head}
use Rattle.std.proofs.lemmas.Map.Steps.{length-le_from_distinct_below}
use Rattle.amh_bits.specs.Patterns.{IsOf}
use Rattle.shape_rules.specs.Forms.{Form}
use Rattle.comb_graph.specs.Laws.{FitsRows}
use Rattle.comb_graph.specs.Orders.{is_comb}
use Rattle.comb_graph.proofs.ReadBits.{row_of}
use Rattle.design_ir.specs.declared.memory.MemRead.{MemRead}
use Rattle.design_ir.specs.declared.memory.Memory.{Memory}
use Rattle.design_ir.specs.declared.process.DesignProcess.{DesignProcess}
use Rattle.design_ir.specs.Circuits.{Circuit, State, at, is_among}
use Rattle.design_ir.specs.Designs.{IsDesign, IsMemory, IsReadPort, share}
use Rattle.design_ir.specs.Guards.{driven}
use Rattle.design_ir.specs.Rows.{address, row_at}
use Rattle.design_ir.specs.Settled.{delta}
use Rattle.sim_plans.specs.Ports.{comb_ports, unclocked}
use Rattle.sim_plans.proofs.Agrees.{left, right}
use Rattle.sim_plans.proofs.EdgesFit.{all_get}
use Rattle.sim_plans.proofs.PortValues.{word_at, distinct_rest}
use Rattle.sim_plans.proofs.TaskValues.{no_word}
use Rattle.sim_plans.proofs.WritesFit.{OfSignal}

abbrev pub Ports : Type 0
Ports = List (ℕ × MemRead)

-- ---- places in lists

pub get_front : {A : Type 0} (xs ys : List A) (i : ℕ) (x : A) → slice_get xs i ≡ Some x → slice_get (xs ++ ys) i ≡ Some x
get_front [] ys i x e = cc
get_front (y ∷ xs) ys zero x e = e
get_front (y ∷ xs) ys (suc i) x e = get_front xs ys i x e

pub get_behind : {A : Type 0} (xs ys : List A) (i : ℕ) → slice_get (xs ++ ys) (length xs + i) ≡ slice_get ys i
get_behind [] ys i = let e : 0 + i ≡ i = omega arith in ap (slice_get ys) e
get_behind (x ∷ xs) ys i = let e : suc (length xs) + i ≡ suc (length xs + i) = omega arith in ap (slice_get (x ∷ (xs ++ ys))) e ∙ get_behind xs ys i

pub get_parts : {A : Type 0} (xs ys : List A) (j : ℕ) (x : A) → slice_get (xs ++ ys) j ≡ Some x → (slice_get xs j ≡ Some x) ⊎ ((i : ℕ) × (j ≡ length xs + i) × (slice_get ys i ≡ Some x))
get_parts [] ys j x e = inr (j, omega arith, e)
get_parts (y ∷ xs) ys zero x e = inl e
get_parts (y ∷ xs) ys (suc j) x e =
    ⊎_elim (λ h. inl h) (λ (h : (i : ℕ) × (j ≡ length xs + i) × (slice_get ys i ≡ Some x)). inr (h.0, omega (arith, h.1), h.2)) (get_parts xs ys j x e)

none_is : {A : Type 0} (o : Option A) → is_none o ≡ true → o ≡ None
none_is None e = refl
none_is (Some x) e = absurd (false≢true e)

-- ---- where a port of the list stands

pub record StandsIn (ms : List Memory) (a : ℕ) (x : ℕ × MemRead) : Type 0 where
  pub k : ℕ
  pub i : ℕ
  pub m : Memory
  pub memory : slice_get ms k ≡ Some m
  pub port : slice_get m.reads i ≡ Some x.1
  pub number : x.0 ≡ a + k
  pub comb : x.1.domain ≡ None

abbrev IsUnclocked : ℕ → List MemRead → (ℕ × MemRead) → Type 0
IsUnclocked k rs x = (i : ℕ) × (slice_get rs i ≡ Some x.1) × (x.0 ≡ k) × (x.1.domain ≡ None)

unclocked_turn : (k : ℕ) (r : MemRead) (rs : List MemRead) (x : ℕ × MemRead) → ((i : ℕ) → slice_get (unclocked k rs) i ≡ Some x → IsUnclocked k rs x) → (j : ℕ) → slice_get (unclocked k (r ∷ rs)) j ≡ Some x → IsUnclocked k (r ∷ rs) x
unclocked_turn k r rs x more j e = either (is_none r.domain) refl
  where
    later : (i : ℕ) → slice_get (unclocked k rs) i ≡ Some x → IsUnclocked k (r ∷ rs) x
    later i h = let q = more i h in (suc q.0, q.1, q.2, q.3)

    first : (i : ℕ) → is_none r.domain ≡ true → slice_get ((k, r) ∷ unclocked k rs) i ≡ Some x → IsUnclocked k (r ∷ rs) x
    first zero t h =
        let same : (k, r) ≡ x = cc in
        (0, ap (λ (y : ℕ × MemRead). Some y.1) same, sym (ap (λ (y : ℕ × MemRead). y.0) same), ap (λ (y : ℕ × MemRead). y.1.domain) (sym same) ∙ none_is r.domain t)
    first (suc i) t h = later i h

    either : (t : Bool) → is_none r.domain ≡ t → IsUnclocked k (r ∷ rs) x
    either true t = first j t (sym (ap (λ b. slice_get (if b then (k, r) ∷ unclocked k rs else unclocked k rs) j) t) ∙ e)
    either false t = later j (sym (ap (λ b. slice_get (if b then (k, r) ∷ unclocked k rs else unclocked k rs) j) t) ∙ e)

unclocked_get : (k : ℕ) (rs : List MemRead) (j : ℕ) (x : ℕ × MemRead) → slice_get (unclocked k rs) j ≡ Some x → IsUnclocked k rs x
unclocked_get k [] j x e = cc
unclocked_get k (r ∷ rs) j x e = unclocked_turn k r rs x (λ i h. unclocked_get k rs i x h) j e

pub ports_get : (ms : List Memory) (a j : ℕ) (x : ℕ × MemRead) → slice_get (comb_ports a ms) j ≡ Some x → StandsIn ms a x
ports_get [] a j x e = cc
ports_get (m ∷ ms) a j x e =
    ⊎_elim
    (λ (h : slice_get (unclocked a m.reads) j ≡ Some x).
    let q = unclocked_get a m.reads j x h in
    record { k = 0; i = q.0; m = m; memory = refl; port = q.1; number = omega (arith, q.2); comb = q.3 })
    (λ (h : (i : ℕ) × (j ≡ length (unclocked a m.reads) + i) × (slice_get (comb_ports (suc a) ms) i ≡ Some x)).
    let q = ports_get ms (suc a) h.0 x h.2 in
    record { k = suc q.k; i = q.i; m = q.m; memory = q.memory; port = q.port; number = omega (arith, q.number); comb = q.comb })
    (get_parts (unclocked a m.reads) (comb_ports (suc a) ms) j x e)

-- ---- a port whose data is a signal is in the list

abbrev pub Found : Ports → ℕ → Type 0
Found ports s = (j : ℕ) × (x : ℕ × MemRead) × (slice_get ports j ≡ Some x) × (x.1.word.0 ≡ s)

and_left : (a b : Bool) → (a && b) ≡ true → a ≡ true
and_left true b e = refl
and_left false b e = e

and_right : (a b : Bool) → (a && b) ≡ true → b ≡ true
and_right true b e = e
and_right false b e = absurd (false≢true e)

or_cases : (a b : Bool) → (a || b) ≡ true → (a ≡ true) ⊎ (b ≡ true)
or_cases true b e = inl refl
or_cases false b e = inr e

abbrev pub is_word : ℕ → MemRead → Bool
is_word s r = is_none r.domain && (r.word.0 == s)

unclocked_found : (s k : ℕ) (rs : List MemRead) → list_any (is_word s) rs ≡ true → Found (unclocked k rs) s
unclocked_found s k [] h = absurd (false≢true h)
unclocked_found s k (r ∷ rs) h =
    ⊎_elim
    (λ (t : is_word s r ≡ true).
    subst (λ b. Found (if b then (k, r) ∷ unclocked k rs else unclocked k rs) s) (sym (and_left (is_none r.domain) (r.word.0 == s) t)) (0, (k, r), refl, eqb-true r.word.0 s (and_right (is_none r.domain) (r.word.0 == s) t)))
    (λ (t : list_any (is_word s) rs ≡ true).
    let q = unclocked_found s k rs t in
    cond_both (is_none r.domain) ((k, r) ∷ unclocked k rs) (unclocked k rs) (λ ps. Found ps s) (λ u. (suc q.0, q.1, q.2, q.3)) (λ u. q))
    (or_cases (is_word s r) (list_any (is_word s) rs) h)

pub ports_found : (s a : ℕ) (ms : List Memory) → list_any (λ (m : Memory). list_any (is_word s) m.reads) ms ≡ true → Found (comb_ports a ms) s
ports_found s a [] h = absurd (false≢true h)
ports_found s a (m ∷ ms) h =
    ⊎_elim
    (λ (t : list_any (is_word s) m.reads ≡ true).
    let q = unclocked_found s a m.reads t in
    (q.0, q.1, get_front (unclocked a m.reads) (comb_ports (suc a) ms) q.0 q.1 q.2, q.3))
    (λ (t : list_any (λ (x : Memory). list_any (is_word s) x.reads) ms ≡ true).
    let q = ports_found s (suc a) ms t in
    (length (unclocked a m.reads) + q.0, q.1, get_behind (unclocked a m.reads) (comb_ports (suc a) ms) q.0 ∙ q.2, q.3))
    (or_cases (list_any (is_word s) m.reads) (list_any (λ (x : Memory). list_any (is_word s) x.reads) ms) h)

-- ---- no two ports have the same data

abbrev words_in : List MemRead → List (List ℕ)
words_in rs = map (λ (r : MemRead). r.word.0 ∷ []) rs

abbrev words : List Memory → List (List ℕ)
words ms = flat_map (λ (m : Memory). words_in m.reads) ms

abbrev pub data_of : Ports → List ℕ
data_of [] = []
data_of (x ∷ xs) = x.1.word.0 ∷ data_of xs

abbrev Apart : ℕ → List (List ℕ) → Type 0
Apart s ws = AllByRecursion (λ w. share (s ∷ []) w ≡ false) ws

abbrev Other : ℕ → Ports → Type 0
Other s ps = AllByRecursion (λ n. nat_eq s n ≡ false) (data_of ps)

other_word : (s n : ℕ) → share (s ∷ []) (n ∷ []) ≡ false → nat_eq s n ≡ false
other_word s n e =
    let apart : (n == s) ≡ false = (or_parts (n == s) false (or_parts ((n == s) || false) false e).0).0 in
    ⊎_elim (λ (t : nat_eq s n ≡ true). absurd (false≢true (sym apart ∙ eq-eqb n s (sym (eqb-true s n t))))) (λ (t : nat_eq s n ≡ false). t) (cases_Bool (nat_eq s n))

others_in : (s k : ℕ) (rs : List MemRead) (more : List (List ℕ)) (tail : Ports) → Apart s (words_in rs ++ more) → (Apart s more → Other s tail) → Other s (unclocked k rs ++ tail)
others_in s k [] more tail h f = f h
others_in s k (r ∷ rs) more tail h f =
    let rest = others_in s k rs more tail h.1 f in
    cond_both (is_none r.domain) ((k, r) ∷ unclocked k rs) (unclocked k rs) (λ ps. Other s (ps ++ tail)) (λ t. (other_word s r.word.0 h.0, rest)) (λ t. rest)

others : (s a : ℕ) (ms : List Memory) → Apart s (words ms) → Other s (comb_ports a ms)
others s a [] h = tt
others s a (m ∷ ms) h = others_in s a m.reads (words ms) (comb_ports (suc a) ms) h (others s (suc a) ms)

distinct_in : (k : ℕ) (rs : List MemRead) (more : List (List ℕ)) (tail : Ports) → IsDistinct share (words_in rs ++ more) → ((s : ℕ) → Apart s more → Other s tail) → (IsDistinct share more → IsDistinct nat_eq (data_of tail))
    → IsDistinct nat_eq (data_of (unclocked k rs ++ tail))
unfolding IsDistinct
distinct_in k [] more tail d f g = g d
distinct_in k (r ∷ rs) more tail d f g =
    let rest = distinct_in k rs more tail d.1 f g in
    cond_both (is_none r.domain) ((k, r) ∷ unclocked k rs) (unclocked k rs) (λ ps. IsDistinct nat_eq (data_of (ps ++ tail))) (λ t. (others_in r.word.0 k rs more tail d.0 (f r.word.0), rest)) (λ t. rest)

distinct : (a : ℕ) (ms : List Memory) → IsDistinct share (words ms) → IsDistinct nat_eq (data_of (comb_ports a ms))
unfolding IsDistinct
distinct a [] d = tt
distinct a (m ∷ ms) d = distinct_in a m.reads (words ms) (comb_ports (suc a) ms) d (λ s. others s (suc a) ms) (distinct (suc a) ms)

data_among : (s : ℕ) (qs : Ports) (j : ℕ) (y : ℕ × MemRead) → AllByRecursion (λ n. nat_eq s n ≡ false) (data_of qs) → slice_get qs j ≡ Some y → nat_eq s y.1.word.0 ≡ false
data_among s [] j y h e = cc
data_among s (q ∷ qs) zero y h e = let same : q ≡ y = cc in subst (λ (z : ℕ × MemRead). nat_eq s z.1.word.0 ≡ false) same h.0
data_among s (q ∷ qs) (suc j) y h e = data_among s qs j y h.1 e

-- places with the same data are one place
data_apart : (ps : Ports) (i j : ℕ) (x y : ℕ × MemRead) → IsDistinct nat_eq (data_of ps) → slice_get ps i ≡ Some x → slice_get ps j ≡ Some y → x.1.word.0 ≡ y.1.word.0 → i ≡ j
data_apart [] i j x y d ix jy e = cc
data_apart (p ∷ ps) zero zero x y d ix jy e = refl
data_apart (p ∷ ps) zero (suc j) x y d ix jy e =
    let same : p ≡ x = cc in
    absurd (false≢true (sym (data_among p.1.word.0 ps j y (IsDistinct-head nat_eq p.1.word.0 (data_of ps) d) jy) ∙ eq-eqb p.1.word.0 y.1.word.0 (ap (λ (z : ℕ × MemRead). z.1.word.0) same ∙ e)))
data_apart (p ∷ ps) (suc i) zero x y d ix jy e =
    let same : p ≡ y = cc in
    absurd (false≢true (sym (data_among p.1.word.0 ps i x (IsDistinct-head nat_eq p.1.word.0 (data_of ps) d) ix) ∙ eq-eqb p.1.word.0 x.1.word.0 (ap (λ (z : ℕ × MemRead). z.1.word.0) same ∙ sym e)))
data_apart (p ∷ ps) (suc i) (suc j) x y d ix jy e = ap suc (data_apart ps i j x y (IsDistinct-tail nat_eq p.1.word.0 (data_of ps) d) ix jy e)

data_place : (ps : Ports) (n : ℕ) → list_any (λ m. nat_eq n m) (data_of ps) ≡ true → (j : ℕ) × (x : ℕ × MemRead) × (slice_get ps j ≡ Some x) × (x.1.word.0 ≡ n)
data_place [] n h = absurd (false≢true h)
data_place (p ∷ ps) n h =
    ⊎_elim (λ (t : nat_eq n p.1.word.0 ≡ true). (0, p, refl, sym (eqb-true n p.1.word.0 t))) (λ (t : list_any (λ m. nat_eq n m) (data_of ps) ≡ true). let r = data_place ps n t in (suc r.0, r.1, r.2, r.3))
    (or_cases (nat_eq n p.1.word.0) (list_any (λ m. nat_eq n m) (data_of ps)) h)

data_length : (ps : Ports) → length (data_of ps) ≡ length ps
data_length [] = refl
data_length (p ∷ ps) = ap suc (data_length ps)

module _ (c : Circuit) (design : IsDesign c) where
  abbrev pub all_ports : Ports
  all_ports = comb_ports 0 c.memories

  once : IsDistinct nat_eq (data_of all_ports)
  once = distinct 0 c.memories (distinct_rest (map (λ (p : DesignProcess). driven c.pool p.body) c.processes) (words c.memories) design.one_driver)

  pub same_port : (i j : ℕ) (x y : ℕ × MemRead) → slice_get all_ports i ≡ Some x → slice_get all_ports j ≡ Some y → x.1.word.0 ≡ y.1.word.0 → i ≡ j
  same_port i j x y ix jy e = data_apart all_ports i j x y once ix jy e

  module _ (i : ℕ) (x : ℕ × MemRead) (is : slice_get all_ports i ≡ Some x) where
    pub stands : StandsIn c.memories 0 x
    stands = ports_get c.memories 0 i x is

    memory : IsMemory c stands.m
    memory = all_get (IsMemory c) c.memories stands.k stands.m design.memories stands.memory

    pub port_rules : IsReadPort c stands.m x.1
    port_rules = all_get (IsReadPort c stands.m) stands.m.reads stands.i x.1 memory.reads stands.port

    pub word_there : x.1.word.0 < length c.pool.signals
    word_there = port_rules.word.there

    pub memory_number : x.0 ≡ stands.k
    memory_number = omega (arith, stands.number)

    pub memory_there : x.0 < length c.memories
    memory_there = omega (arith, memory_number, place stands.k c.memories stands.m stands.memory)
      where
        place : (k : ℕ) (ms : List Memory) (m : Memory) → slice_get ms k ≡ Some m → k < length ms
        place k [] m e = cc
        place zero (y ∷ ms) m e = omega arith
        place (suc k) (y ∷ ms) m e = let r = place k ms m e in omega (arith, r)

    -- what a delta leaves in its data
    pub port_at : (st : State) (env : List ℤ) → length st.rows ≡ length c.memories → at (delta c st env) x.1.word.0 ≡ row_at c.pool env (get_or st.rows x.0 []) x.1.addr
    port_at st env many =
        word_at c design st env stands.k stands.i stands.m x.1 stands.memory stands.port stands.comb many word_there
        ∙ ap (λ n. row_at c.pool env (get_or st.rows n []) x.1.addr) (sym memory_number)

    -- it is of the data's shape
    pub port_fits : (rows : List (List ℤ)) (env : List ℤ) → FitsRows c.memories rows → length rows ≡ length c.memories → OfSignal c.pool x.1.word.0 (row_at c.pool env (get_or rows x.0 []) x.1.addr)
    port_fits rows env fit many =
        let of = rows_fit c.memories rows stands.k fit many stands.memory in
        let word = row_of stands.m.shape.signed stands.m.shape.width (get_or rows stands.k []) (address c.pool env x.1.addr) of in
        let here = subst (λ (f : Form). IsOf f.signed f.width (row_at c.pool env (get_or rows stands.k []) x.1.addr)) (sym port_rules.word.shape) word in
        subst (λ n. OfSignal c.pool x.1.word.0 (row_at c.pool env (get_or rows n []) x.1.addr)) (sym memory_number) here
      where
        rows_fit : (ms : List Memory) (all : List (List ℤ)) (k : ℕ) → FitsRows ms all → length all ≡ length ms → slice_get ms k ≡ Some stands.m → AllByRecursion (IsOf stands.m.shape.signed stands.m.shape.width) (get_or all k [])
        rows_fit [] all k f many e = cc
        rows_fit (m ∷ ms) [] k f many e = absurd (omega (arith, many))
        rows_fit (m ∷ ms) (rows ∷ all) zero f many e = let same : m ≡ stands.m = cc in subst (λ (y : Memory). AllByRecursion (IsOf y.shape.signed y.shape.width) rows) same f.0
        rows_fit (m ∷ ms) (rows ∷ all) (suc k) f many e = rows_fit ms all k f.1 (omega (arith, many)) e

    test : is_word x.1.word.0 x.1 ≡ true
    test = ap (λ (o : Option (List ℕ)). is_none o && (x.1.word.0 == x.1.word.0)) stands.comb ∙ eq-eqb x.1.word.0 x.1.word.0 refl

    any_read : (rs : List MemRead) (i : ℕ) → slice_get rs i ≡ Some x.1 → list_any (is_word x.1.word.0) rs ≡ true
    any_read [] i e = cc
    any_read (r ∷ rs) zero e = let same : r ≡ x.1 = cc in left (is_word x.1.word.0 r) _ (ap (is_word x.1.word.0) same ∙ test)
    any_read (r ∷ rs) (suc i) e = right (is_word x.1.word.0 r) _ (any_read rs i e)

    any_memory : (ms : List Memory) (k : ℕ) (m : Memory) → slice_get ms k ≡ Some m → list_any (is_word x.1.word.0) m.reads ≡ true → list_any (λ (y : Memory). list_any (is_word x.1.word.0) y.reads) ms ≡ true
    any_memory [] k m e h = cc
    any_memory (y ∷ ms) zero m e h = let same : y ≡ m = cc in left (list_any (is_word x.1.word.0) y.reads) _ (ap (λ (z : Memory). list_any (is_word x.1.word.0) z.reads) same ∙ h)
    any_memory (y ∷ ms) (suc k) m e h = right (list_any (is_word x.1.word.0) y.reads) _ (any_memory ms k m e h)

    -- it is the data of a port
    port_any : list_any (λ (y : Memory). list_any (is_word x.1.word.0) y.reads) c.memories ≡ true
    port_any = any_memory c.memories stands.k stands.m stands.memory (any_read stands.m.reads stands.i stands.port)

    -- it is combinational
    pub port_comb : is_comb c x.1.word.0 ≡ true
    port_comb = right _ _ port_any

    -- no process drives its data
    pub port_alone : (k : ℕ) (q : DesignProcess) → slice_get c.processes k ≡ Some q → is_among (driven c.pool q.body) x.1.word.0 ≡ false
    port_alone k q at =
        ⊎_elim
        (λ (t : is_among (driven c.pool q.body) x.1.word.0 ≡ true). absurd (false≢true (sym (no_word c design k q x.1.word.0 (λ (r : MemRead). is_none r.domain) at t) ∙ port_any)))
        (λ (t : is_among (driven c.pool q.body) x.1.word.0 ≡ false). t)
        (cases_Bool (is_among (driven c.pool q.body) x.1.word.0))

  -- there are no more of them than signals
  pub few_ports : length all_ports ≤ length c.pool.signals
  few_ports =
      let most = length-le_from_distinct_below (data_of all_ports) (length c.pool.signals) once (λ n h.
      let r = data_place all_ports n h in
      subst (λ k. k < length c.pool.signals) r.3 (word_there r.0 r.1 r.2)) in
      omega (arith, most, data_length all_ports)
