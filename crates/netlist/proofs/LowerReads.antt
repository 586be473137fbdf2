-- Which signals ports of the module's memories give, found one after another.
use Rattle.std.specs.Prelude.{◌≡◌, ◌<◌, ◌≤◌, ◌+◌, ◌==◌, ◌&&◌, ◌||◌, ℕ, zero, suc, Bool, true, false, if◌then◌else◌, List, [], ◌∷◌, length, drop, get_or, set, slice_get, replicate, Some}
use Rattle.std.specs.List.{AllByRecursion, list_any}
use Rattle.std.proofs.Common.{refl, sym, ap, ◌∙◌, subst}
use Rattle.std.proofs.lemmas.Bool.{eqb-true, eqb-false}
use Rattle.std.proofs.lemmas.List.{drop_more, drop_all, get_or-set_same, get_or-set_other}
use Rattle.design_ir.specs.declared.memory.MemRead.{MemRead}
use Rattle.design_ir.specs.declared.memory.Memory.{Memory}
use Rattle.design_ir.specs.Circuits.{Circuit}
use Rattle.design_ir.specs.Designs.{IsDesign, IsMemory, IsReadPort}
use Rattle.netlist_laws.specs.Module.{is_there, undriven, ByRead, ByNothing}
use Rattle.netlist.specs.Tables.{AreMarked, AreReads}
use Rattle.netlist.proofs.LowerDomains.{at_place}

-- ---- one after another

or_swap : (a b x : Bool) → ((a || b) || x) ≡ (b || (a || x))
or_swap true true x = refl
or_swap true false x = refl
or_swap false true x = refl
or_swap false false x = refl

or_none : (b : Bool) → (b || false) ≡ b
or_none true = refl
or_none false = refl

abbrev pub gives : ℕ → MemRead → Bool
gives s r = r.word.0 == s

abbrev pub stored_gives : ℕ → Memory → Bool
stored_gives s m = is_there m && list_any (gives s) m.reads

-- what some of these give, or is marked
abbrev pub rest_or : {A : Type 0} → (A → Bool) → List A → Bool → Bool
rest_or f xs marked = list_any f xs || marked

pub rest_turn : {A : Type 0} (f : A → Bool) (xs : List A) (k : ℕ) (x : A) (before after all : Bool) → k < length xs → get_or xs k x ≡ x → after ≡ (f x || before) → rest_or f (drop k xs) before ≡ all → rest_or f (drop (k + 1) xs) after ≡ all
rest_turn f xs k x before after all h is marked whole =
    ap (λ b. list_any f (drop (k + 1) xs) || b) marked ∙ sym (or_swap (f x) (list_any f (drop (k + 1) xs)) before)
    ∙ ap (λ ys. rest_or f ys before) (sym (drop_more xs k x h ∙ ap (λ y. y ∷ drop (k + 1) xs) is)) ∙ whole

pub rest_end : {A : Type 0} (f : A → Bool) (xs : List A) (k : ℕ) (marked : Bool) → length xs ≤ k → rest_or f (drop k xs) marked ≡ marked
rest_end f xs k marked h = ap (λ ys. rest_or f ys marked) (drop_all k xs h)

pub rest_begin : {A : Type 0} (f : A → Bool) (xs : List A) (marked : Bool) → marked ≡ false → rest_or f xs marked ≡ list_any f xs
rest_begin f xs marked none = ap (λ b. list_any f xs || b) none ∙ or_none (list_any f xs)

-- at first no signal is marked
pub none_marked : (n s : ℕ) → get_or (replicate n false) s false ≡ false
none_marked zero s = refl
none_marked (suc n) zero = refl
none_marked (suc n) (suc s) = none_marked n s

-- a signal is marked
pub one_mark : (reads : List Bool) (t s : ℕ) → t < length reads → get_or (set reads t true) s false ≡ ((t == s) || get_or reads s false)
one_mark reads t s h = by (t == s) refl
  where
    by : (b : Bool) → (t == s) ≡ b → get_or (set reads t true) s false ≡ (b || get_or reads s false)
    by true e = ap (λ k. get_or (set reads t true) k false) (sym (eqb-true t s e)) ∙ get_or-set_same reads t true false h
    by false e = get_or-set_other reads t s true false (λ q. eqb-false t s e (sym q))

-- ---- the ports of one memory

pub marked_away : (m : Memory) (reads : List Bool) → is_there m ≡ false → AreMarked m reads reads
marked_away m reads away = record { long = refl; each = λ s. sym (ap (λ b. (b && list_any (gives s) m.reads) || get_or reads s false) away) }

pub marked_there : (m : Memory) (before after : List Bool) (k : ℕ) → is_there m ≡ true → length m.reads ≤ k → length after ≡ length before
    → ((s : ℕ) → rest_or (gives s) (drop k m.reads) (get_or after s false) ≡ rest_or (gives s) m.reads (get_or before s false)) → AreMarked m before after
marked_there m before after k there end long each = record {
  long = long;
  each = λ s. sym (rest_end (gives s) m.reads k (get_or after s false) end) ∙ each s ∙ ap (λ b. (b && list_any (gives s) m.reads) || get_or before s false) (sym there);
}

-- ---- the ports of a memory are there

reads_there : (c : Circuit) (m : Memory) (rs : List MemRead) (n : ℕ) → n ≡ length c.pool.signals → AllByRecursion (IsReadPort c m) rs → AllByRecursion (λ (r : MemRead). r.word.0 < n) rs
reads_there c m [] n e h = tt
reads_there c m (r ∷ rs) n e h = (subst (λ k. r.word.0 < k) (sym e) h.0.word.there, reads_there c m rs n e h.1)

pub memory_reads : (c : Circuit) (k : ℕ) (m : Memory) (n : ℕ) → IsDesign c → slice_get c.memories k ≡ Some m → n ≡ length c.pool.signals → AllByRecursion (λ (r : MemRead). r.word.0 < n) m.reads
memory_reads c k m n design is e = reads_there c m m.reads n e (at_place (IsMemory c) c.memories k m design.memories is).reads

pub port_marked : (rs : List MemRead) (k : ℕ) (r : MemRead) (n : ℕ) → AllByRecursion (λ (x : MemRead). x.word.0 < n) rs → slice_get rs k ≡ Some r → r.word.0 < n
port_marked rs k r n h is = at_place (λ (x : MemRead). x.word.0 < n) rs k r h is

-- ---- a signal that neither events nor statements drive

pub undriven_read : (c : Circuit) (s : ℕ) (reads : List Bool) → AreReads c reads → get_or reads s false ≡ true → undriven c s ≡ ByRead
undriven_read c s reads h e = ap (λ b. if b then ByRead else ByNothing) (sym (h.each s) ∙ e)

pub undriven_free : (c : Circuit) (s : ℕ) (reads : List Bool) → AreReads c reads → get_or reads s false ≡ false → undriven c s ≡ ByNothing
undriven_free c s reads h e = ap (λ b. if b then ByRead else ByNothing) (sym (h.each s) ∙ e)
