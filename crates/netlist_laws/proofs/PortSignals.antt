-- The port that gives a signal, and where the module of a design has it.
use Rattle.std.specs.Prelude.{◌≡◌, refl, ℕ, ◌≤◌, nat_lt, ◌+◌, ◌*◌, ◌==◌, ◌&&◌, ◌||◌, Bool, true, false, cond, List, [], ◌∷◌, ◌++◌, map, length, Option, Some, None, is_none, is_some}
use Rattle.std.specs.List.{IsDistinct, filter, find, list_any}
use Rattle.std.proofs.Common.{arith, sym, ◌∙◌, ap, subst, inl, inr, ⊎_elim}
use Rattle.std.proofs.lemmas.Bool.{false≢true, cond_both, and_parts, or_cases, or_left, or_right, or_parts, or_from, eqb-true, eq-eqb, lt-ltb, ltb-false}
use Rattle.std.proofs.lemmas.List.Folds.{list_any-append}
use Rattle.design_ir.specs.declared.memory.MemRead.{MemRead}
use Rattle.design_ir.specs.declared.memory.Memory.{Memory}
use Rattle.design_ir.specs.declared.process.DesignProcess.{DesignProcess}
use Rattle.design_ir.specs.Circuits.{Circuit, is_among, is_input}
use Rattle.design_ir.specs.Designs.{IsDesign, share}
use Rattle.rtlil_text.proofs.Among.{Among, Among-left, Among-right, Among-map}
use Rattle.netlist_laws.specs.Module.{ByRead, ByNothing, driving, drives, is_there}
use Rattle.netlist_laws.specs.MemoryDrawings.{Placed, Part, Reads, write_parts, parts_of, all_parts, memories_of}
use Rattle.netlist_laws.proofs.OneDriver.{find_only}
use Rattle.netlist_laws.proofs.Driven.{driven_by, distinct_processes, process_unread, input_unread, driving-found, kinds_none}
use Rattle.netlist_laws.proofs.ReadOnce.{word_of, words_of, has_it, kind_none, none_behind, distinct_right}
use Rattle.netlist_laws.proofs.ReadData.{unread_before}
use Rattle.netlist_laws.proofs.ReadWires.{memories_are}
use Rattle.netlist_laws.proofs.KeptMemories.{IsNumbered, IsReadAt}
use Rattle.std.proofs.lemmas.Map.Keys.{IsDistinct-head, IsDistinct-tail}

-- ---- the port

-- a port of this kind gives the signal
pub record HasPort (c : Circuit) (s : ℕ) (kind : MemRead → Bool) : Type 0 where
  pub memory : Memory
  pub stored : Among c.memories memory
  pub port : MemRead
  pub among : Among memory.reads port
  pub is : kind port ≡ true
  pub word : port.word.0 ≡ s

-- a port without a clock, and one with a clock
abbrev pub is_comb_port : MemRead → Bool
is_comb_port r = is_none r.domain

abbrev pub is_clocked_port : MemRead → Bool
is_clocked_port r = is_some r.domain

pub none_is : {A : Type 0} (o : Option A) → is_none o ≡ true → o ≡ None
none_is None e = refl
none_is (Some x) e = absurd (false≢true e)

-- what makes a test true
any_one : {A : Type 0} (f : A → Bool) (xs : List A) → list_any f xs ≡ true → (x : A) × Among xs x × (f x ≡ true)
any_one f [] e = absurd (false≢true e)
any_one f (x ∷ xs) e = ⊎_elim
    (λ (here : f x ≡ true). (x, inl refl, here))
    (λ (later : list_any f xs ≡ true). let r = any_one f xs later in (r.0, inr r.1, r.2))
    (or_cases (f x) (list_any f xs) e)

pub port_of : (c : Circuit) (s : ℕ) (kind : MemRead → Bool) → list_any (λ (m : Memory). list_any (λ (r : MemRead). kind r && (r.word.0 == s)) m.reads) c.memories ≡ true → HasPort c s kind
port_of c s kind e =
    let m = any_one (λ (m : Memory). list_any (λ (r : MemRead). kind r && (r.word.0 == s)) m.reads) c.memories e in
    let r = any_one (λ (r : MemRead). kind r && (r.word.0 == s)) m.0.reads m.2 in
    let tests = and_parts (kind r.0) (r.0.word.0 == s) r.2 in
    record { memory = m.0; stored = m.1; port = r.0; among = r.1; is = tests.0; word = eqb-true r.0.word.0 s tests.1 }

-- ---- where the module has it

-- a port of a memory of the module, and the number of its ids
pub record IsDrawn (c : Circuit) (m : Memory) (r : MemRead) : Type 0 where
  pub placed : Placed
  pub number : ℕ
  pub among : Among (memories_of c) placed
  pub memory : placed.memory ≡ m
  pub here : IsReadAt c number placed r

among_filter : (ms : List Memory) (m : Memory) → Among ms m → is_there m ≡ true → Among (filter is_there ms) m
among_filter [] m a t = absurd a
among_filter (x ∷ ms) m a t = ⊎_elim
    (λ (here : x ≡ m). subst (λ (b : Bool). Among (cond b (x ∷ filter is_there ms) (filter is_there ms)) m) (sym (ap is_there here ∙ t)) (inl here))
    (λ (later : Among ms m). cond_both (is_there x) (x ∷ filter is_there ms) (filter is_there ms) (λ ys. Among ys m) (λ e. inr (among_filter ms m later t)) (λ e. among_filter ms m later t))
    a

of_mapped : (xs : List Placed) (m : Memory) → Among (map (λ (x : Placed). x.memory) xs) m → (x : Placed) × Among xs x × (x.memory ≡ m)
of_mapped [] m a = absurd a
of_mapped (x ∷ xs) m a = ⊎_elim
    (λ (here : x.memory ≡ m). (x, inl refl, here))
    (λ (later : Among (map (λ (y : Placed). y.memory) xs) m). let r = of_mapped xs m later in (r.0, inr r.1, r.2))
    a

pub all_numbered : (n : ℕ) (xs : List (Placed × Part)) (y : Placed) (q : Part) → Among {A = Placed × Part} xs (y, q) → (k : ℕ) × IsNumbered n xs k y q
all_numbered n [] y q a = absurd a
all_numbered n ((x, p) ∷ xs) y q a = ⊎_elim
    (λ here. (n, inl (refl, ap (λ (z : Placed × Part). z.0) here, ap (λ (z : Placed × Part). z.1) here)))
    (λ (later : Among {A = Placed × Part} xs (y, q)). let r = all_numbered (n + 11) xs y q later in (r.0, inr r.1))
    a

part_listed : (xs : List Placed) (x : Placed) (q : Part) → Among xs x → Among (parts_of x.memory) q → Among {A = Placed × Part} (all_parts xs) (x, q)
part_listed [] x q a b = absurd a
part_listed (y ∷ xs) x q a b =
    let own : List (Placed × Part) = map (λ p. (y, p)) (parts_of y.memory) in
    ⊎_elim
    (λ (here : y ≡ x).
    Among-left own (all_parts xs) (x, q)
    (subst (λ (z : Placed). Among {A = Placed × Part} (map (λ p. (z, p)) (parts_of z.memory)) (x, q)) (sym here) (Among-map {A = Part} {B = Placed × Part} (λ p. (x, p)) (parts_of x.memory) q b)))
    (λ (later : Among xs x). Among-right own (all_parts xs) (x, q) (part_listed xs x q later b))
    a

pub drawn_at : (c : Circuit) (m : Memory) (r : MemRead) → Among c.memories m → is_there m ≡ true → Among m.reads r → IsDrawn c m r
drawn_at c m r a t b =
    let x = of_mapped (memories_of c) m (subst (λ ms. Among ms m) (sym (memories_are c)) (among_filter c.memories m a t)) in
    let own : Among x.0.memory.reads r = subst (λ (y : Memory). Among y.reads r) (sym x.2) b in
    let part : Among (parts_of x.0.memory) (Reads r) = inr (Among-right (write_parts 0 x.0.memory.writes) (map Reads x.0.memory.reads) (Reads r) (Among-map Reads x.0.memory.reads r own)) in
    let number = all_numbered (3 * length c.pool.signals) (all_parts (memories_of c)) x.0 (Reads r) (part_listed (memories_of c) x.0 (Reads r) x.1 part) in
    record { placed = x.0; number = number.0; among = x.1; memory = x.2; here = number.1 }

-- ---- a port of a memory without rows or bits

any_word : (s : ℕ) (rs : List MemRead) (r : MemRead) → Among rs r → r.word.0 ≡ s → list_any (has_it s) (map word_of rs) ≡ true
any_word s [] r a e = absurd a
any_word s (x ∷ rs) r a e = ⊎_elim
    (λ (here : x ≡ r). or_left (is_among (word_of x) s) (list_any (has_it s) (map word_of rs)) (or_left (x.word.0 == s) false (eq-eqb x.word.0 s (ap (λ (y : MemRead). y.word.0) here ∙ e))))
    (λ (later : Among rs r). or_right (is_among (word_of x) s) (list_any (has_it s) (map word_of rs)) (any_word s rs r later e))
    a

word_of_all : (s : ℕ) (ms : List Memory) (m : Memory) (r : MemRead) → Among ms m → Among m.reads r → r.word.0 ≡ s → list_any (has_it s) (words_of ms) ≡ true
word_of_all s [] m r a b e = absurd a
word_of_all s (x ∷ ms) m r a b e =
    list_any-append (has_it s) (map word_of x.reads) (words_of ms)
    ∙ ⊎_elim
    (λ (here : x ≡ m). or_left (list_any (has_it s) (map word_of x.reads)) (list_any (has_it s) (words_of ms)) (any_word s x.reads r (subst (λ (y : Memory). Among y.reads r) (sym here) b) e))
    (λ (later : Among ms m). or_right (list_any (has_it s) (map word_of x.reads)) (list_any (has_it s) (words_of ms)) (word_of_all s ms m r later b e))
    a

abbrev gives : ℕ → Memory → Bool
gives s m = is_there m && list_any (λ (r : MemRead). r.word.0 == s) m.reads

unread_gives : (s : ℕ) (ms : List Memory) → list_any (has_it s) (words_of ms) ≡ false → list_any (gives s) ms ≡ false
unread_gives s ms e = kinds_none s ms (kind_none s (λ (r : MemRead). is_none r.domain) ms e) (kind_none s (λ (r : MemRead). is_some r.domain) ms e)

no_reads : (s : ℕ) (b : Bool) (rs : List MemRead) → list_any (has_it s) (map word_of rs) ≡ false → (b && list_any (λ (r : MemRead). r.word.0 == s) rs) ≡ false
no_reads s false rs e = refl
no_reads s true [] e = refl
no_reads s true (r ∷ rs) e =
    let parts = or_parts ((r.word.0 == s) || false) (list_any (has_it s) (map word_of rs)) e in
    or_from (r.word.0 == s) (list_any (λ (x : MemRead). x.word.0 == s) rs) (or_parts (r.word.0 == s) false parts.0).0 (no_reads s true rs parts.1)

-- behind the words of a memory of which one is the signal, no other is
none_other : (s : ℕ) (rs : List MemRead) (others : List (List ℕ)) (r : MemRead) → IsDistinct share (map word_of rs ++ others) → Among rs r → r.word.0 ≡ s → list_any (has_it s) others ≡ false
none_other s [] others r d a e = absurd a
none_other s (x ∷ rs) others r d a e = ⊎_elim
    (λ (here : x ≡ r).
    none_behind s (word_of x) (map word_of rs) others (or_left (x.word.0 == s) false (eq-eqb x.word.0 s (ap (λ (y : MemRead). y.word.0) here ∙ e))) (IsDistinct-head share (word_of x) (map word_of rs ++ others) d))
    (λ (later : Among rs r). none_other s rs others r (IsDistinct-tail share (word_of x) (map word_of rs ++ others) d) later e)
    a

-- no memory of the module gives it
unread : (s : ℕ) (ms : List Memory) (m : Memory) (r : MemRead) → IsDistinct share (words_of ms) → Among ms m → is_there m ≡ false → Among m.reads r → r.word.0 ≡ s → list_any (gives s) ms ≡ false
unread s [] m r d a t b e = refl
unread s (x ∷ ms) m r d a t b e = ⊎_elim
    (λ (here : x ≡ m).
    or_from (gives s x) (list_any (gives s) ms) (ap (λ f. f && list_any (λ (q : MemRead). q.word.0 == s) x.reads) (ap is_there here ∙ t))
    (unread_gives s ms (none_other s x.reads (words_of ms) r d (subst (λ (y : Memory). Among y.reads r) (sym here) b) e)))
    (λ (later : Among ms m).
    or_from (gives s x) (list_any (gives s) ms) (no_reads s (is_there x) x.reads (unread_before s x.reads (words_of ms) d (word_of_all s ms m r later b e)))
    (unread s ms m r (distinct_right (map word_of x.reads) (words_of ms) d) later t b e))
    a

-- a memory with bits that the module does not have has no rows
pub no_rows : (m : Memory) → is_there m ≡ false → 1 ≤ m.shape.width → m.depth ≡ 0
no_rows m away some = by (nat_lt 0 m.depth) refl away
  where
    by : (b : Bool) → nat_lt 0 m.depth ≡ b → (b && nat_lt 0 m.shape.width) ≡ false → m.depth ≡ 0
    by true e f = absurd (false≢true (sym f ∙ lt-ltb 0 m.shape.width (omega (arith, some))))
    by false e f = omega (arith, ltb-false 0 m.depth e)

-- nothing drives its signal
pub driving-away : (c : Circuit) → IsDesign c → (s : ℕ) (kind : MemRead → Bool) (h : HasPort c s kind) → is_there h.memory ≡ false → driving c s ≡ ByNothing
driving-away c design s kind h away =
    driving-found c s (input (is_input c s) refl) None (none (find (drives c s) c.processes) refl)
    ∙ ap (λ b. cond b ByRead ByNothing) (unread s c.memories h.memory h.port (distinct_right (map (driven_by c) c.processes) (words_of c.memories) design.one_driver) h.stored away h.among h.word)
  where
    given : list_any (has_it s) (words_of c.memories) ≡ true
    given = word_of_all s c.memories h.memory h.port h.stored h.among h.word

    input : (t : Bool) → is_input c s ≡ t → t ≡ false
    input false e = refl
    input true e = absurd (false≢true (sym (input_unread c s design e) ∙ given))

    none : (o : Option DesignProcess) → find (drives c s) c.processes ≡ o → find (drives c s) c.processes ≡ None
    none None e = e
    none (Some p) e = absurd (false≢true (sym (process_unread c design s p (find_only (driven_by c) s c.processes p (distinct_processes c design) e)) ∙ given))
