-- The signals that ports of the module's memories give are those that neither events nor statements drive: each of them once.
use Rattle.std.specs.Prelude.{◌≡◌, ℕ, suc, ◌<◌, ◌==◌, ◌||◌, ◌&&◌, nat_eq, Bool, true, false, cond, if◌then◌else◌, List, [], ◌∷◌, ◌++◌, map, length, Option, Some, None, IsPermutation}
use Rattle.std.specs.List.{AllByRecursion, IsDistinct, filter, find, flat_map, list_any, range_with_len}
use Rattle.std.proofs.Common.{refl, sym, ap, ◌∙◌, subst}
use Rattle.std.proofs.lemmas.Bool.{cond_both, or_parts, eqb-true, eqb-false, ne_eqb}
use Rattle.std.proofs.lemmas.List.{map-append, length-map}
use Rattle.std.proofs.lemmas.List.Concat.{flat_map-append}
use Rattle.std.proofs.lemmas.List.Folds.{list_any-append}
use Rattle.std.proofs.lemmas.List.Sorted.{IsPermutation-sym}
use Rattle.std.proofs.lemmas.Map.Keys.{IsDistinct-head, IsDistinct-tail}
use Rattle.design_ir.specs.declared.memory.MemWrite.{MemWrite}
use Rattle.design_ir.specs.declared.memory.MemRead.{MemRead}
use Rattle.design_ir.specs.declared.memory.Memory.{Memory}
use Rattle.design_ir.specs.declared.port.Column.{Column}
use Rattle.design_ir.specs.declared.ids.DomainId.{DomainId}
use Rattle.design_ir.specs.declared.process.DesignProcess.{DesignProcess}
use Rattle.design_ir.specs.Circuits.{Circuit, is_input}
use Rattle.design_ir.specs.Designs.{IsDesign, IsMemory, IsReadPort, share}
use Rattle.rtlil_text.specs.Sources.{Source}
use Rattle.rtlil_text.proofs.Among.{AllByRecursion-append}
use Rattle.new_names.specs.Fresh.{given_names, fresh_name}
use Rattle.netlist_laws.specs.Module.{signal_value, ByEvents, ByRead, ByNothing, drives, driving_at, driving_by, driving, is_there, is_read}
use Rattle.netlist_laws.specs.MemoryDrawings.{Placed, Part, Reads, placed, memories_of, write_parts, parts_of, all_parts}
use Rattle.netlist_laws.proofs.Drives.{value_bits}
use Rattle.netlist_laws.proofs.ColumnSignals.{column_at, column_signals, of_column, gathered}
use Rattle.netlist_laws.proofs.SignalsDrawn.{read_bits}
use Rattle.netlist_laws.proofs.PartsDrawn.{given_bits, all_given}
use Rattle.netlist_laws.proofs.ReadOnce.{word_of, words_of, all_reads, words_are, distinct_right}
use Rattle.netlist_laws.proofs.Driven.{driven_by, read_driving}

-- ---- the ports of the memories that the module has

abbrev pub stored_reads : Circuit → List MemRead
stored_reads c = all_reads (filter is_there c.memories)

-- the bits of a port's signal
abbrev pub port_bits : Circuit → MemRead → List Source
port_bits c r = value_bits (signal_value c r.word.0)

pub length-given : (names more : List (List ℕ)) → length (given_names names more) ≡ length more
length-given names [] = refl
length-given names (name ∷ more) = ap suc (length-given (names ++ fresh_name names name ∷ []) more)

pub placed_memories : (names : List (List ℕ)) (ms : List Memory) → length names ≡ length ms → map (λ (x : Placed). x.memory) (placed names ms) ≡ ms
placed_memories [] [] e = refl
placed_memories [] (m ∷ ms) e = cc
placed_memories (name ∷ names) [] e = cc
placed_memories (name ∷ names) (m ∷ ms) e = let less : length names ≡ length ms = cc in ap (λ xs. m ∷ xs) (placed_memories names ms less)

pub memories_are : (c : Circuit) → map (λ (x : Placed). x.memory) (memories_of c) ≡ filter is_there c.memories
unfolding memories_of
memories_are c =
    let ms : List Memory = filter is_there c.memories in
    let names = map (λ (x : Column). x.name) c.columns in
    let paths = map (λ (m : Memory). m.name) ms in
    placed_memories (given_names names paths) ms (length-given names paths ∙ length-map ms (λ (m : Memory). m.name))

module _ (c : Circuit) where
  writes_give : (k : ℕ) (ws : List MemWrite) → flat_map (given_bits c) (write_parts k ws) ≡ []
  writes_give k [] = refl
  writes_give k (w ∷ ws) = writes_give (suc k) ws

  reads_give : (rs : List MemRead) → flat_map (given_bits c) (map Reads rs) ≡ flat_map (port_bits c) rs
  reads_give [] = refl
  reads_give (r ∷ rs) = ap (λ xs. port_bits c r ++ xs) (reads_give rs)

  paired : (x : Placed) (qs : List Part) → all_given c (map (λ q. (x, q)) qs) ≡ flat_map (given_bits c) qs
  paired x [] = refl
  paired x (q ∷ qs) = ap (λ xs. given_bits c q ++ xs) (paired x qs)

  memory_gives : (x : Placed) → all_given c (map (λ q. (x, q)) (parts_of x.memory)) ≡ flat_map (port_bits c) x.memory.reads
  memory_gives x =
      paired x (parts_of x.memory) ∙ flat_map-append (given_bits c) (write_parts 0 x.memory.writes) (map Reads x.memory.reads)
      ∙ (λ i. writes_give 0 x.memory.writes i ++ reads_give x.memory.reads i)

  parts_give : (xs : List Placed) → all_given c (all_parts xs) ≡ flat_map (port_bits c) (all_reads (map (λ (x : Placed). x.memory) xs))
  parts_give [] = refl
  parts_give (x ∷ xs) =
      flat_map-append (λ (y : Placed × Part). given_bits c y.1) (map (λ q. (x, q)) (parts_of x.memory)) (all_parts xs)
      ∙ (λ i. memory_gives x i ++ parts_give xs i)
      ∙ sym (flat_map-append (port_bits c) x.memory.reads (all_reads (map (λ (y : Placed). y.memory) xs)))

  -- what all parts give
  pub given_are : all_given c (all_parts (memories_of c)) ≡ flat_map (port_bits c) (stored_reads c)
  given_are = parts_give (memories_of c) ∙ ap (λ ms. flat_map (port_bits c) (all_reads ms)) (memories_are c)

-- ---- each signal once

kept_all : (Q : List ℕ → Type 0) (ms : List Memory) → AllByRecursion Q (words_of ms) → AllByRecursion Q (words_of (filter is_there ms))
kept_all Q [] h = tt
kept_all Q (m ∷ ms) h = cond_both (is_there m) (m ∷ filter is_there ms) (filter is_there ms) (λ xs. AllByRecursion Q (words_of xs))
    (λ t. AllByRecursion-append Q (map word_of m.reads) (words_of (filter is_there ms)) (left (map word_of m.reads) (words_of ms) h) (kept_all Q ms (right (map word_of m.reads) (words_of ms) h)))
    (λ t. kept_all Q ms (right (map word_of m.reads) (words_of ms) h))
  where
    left : (xs ys : List (List ℕ)) → AllByRecursion Q (xs ++ ys) → AllByRecursion Q xs
    left [] ys h = tt
    left (x ∷ xs) ys h = (h.0, left xs ys h.1)

    right : (xs ys : List (List ℕ)) → AllByRecursion Q (xs ++ ys) → AllByRecursion Q ys
    right [] ys h = h
    right (x ∷ xs) ys h = right xs ys h.1

-- fewer behind others
fewer : (xs ys zs : List (List ℕ)) → ((Q : List ℕ → Type 0) → AllByRecursion Q ys → AllByRecursion Q zs) → IsDistinct share (xs ++ ys) → IsDistinct share zs → IsDistinct share (xs ++ zs)
unfolding IsDistinct
fewer [] ys zs f d e = e
fewer (x ∷ xs) ys zs f d e = (heads xs d.0, fewer xs ys zs f d.1 e)
  where
    heads : (us : List (List ℕ)) → AllByRecursion (λ u. share x u ≡ false) (us ++ ys) → AllByRecursion (λ u. share x u ≡ false) (us ++ zs)
    heads [] h = f (λ u. share x u ≡ false) h
    heads (u ∷ us) h = (h.0, heads us h.1)

kept_distinct : (ms : List Memory) → IsDistinct share (words_of ms) → IsDistinct share (words_of (filter is_there ms))
kept_distinct [] d = d
kept_distinct (m ∷ ms) d =
    let rest = kept_distinct ms (distinct_right (map word_of m.reads) (words_of ms) d) in
    cond_both (is_there m) (m ∷ filter is_there ms) (filter is_there ms) (λ xs. IsDistinct share (words_of xs))
    (λ t. fewer (map word_of m.reads) (words_of ms) (words_of (filter is_there ms)) (λ Q h. kept_all Q ms h) d rest) (λ t. rest)

-- ---- a column for each

abbrev as_column : MemRead → Column
as_column r = record { name = []; sig = r.word }

columns_apart : (rs : List MemRead) → IsDistinct share (map word_of rs) → IsDistinct nat_eq (column_signals (map as_column rs))
unfolding IsDistinct
columns_apart [] d = tt
columns_apart (r ∷ rs) d = (heads rs (IsDistinct-head share (word_of r) (map word_of rs) d), columns_apart rs (IsDistinct-tail share (word_of r) (map word_of rs) d))
  where
    heads : (qs : List MemRead) → AllByRecursion (λ w. share (word_of r) w ≡ false) (map word_of qs) → AllByRecursion (λ n. nat_eq r.word.0 n ≡ false) (column_signals (map as_column qs))
    heads [] h = tt
    heads (q ∷ qs) h =
        let apart : (q.word.0 == r.word.0) ≡ false = (or_parts (q.word.0 == r.word.0) false (or_parts ((q.word.0 == r.word.0) || false) false h.0).0).0 in
        (ne_eqb r.word.0 q.word.0 (λ e. eqb-false q.word.0 r.word.0 apart (sym e)), heads qs h.1)

module _ (c : Circuit) where
  abbrev bits : Column → List Source
  bits x = value_bits (signal_value c x.sig.0)

  of_port : (rs : List MemRead) (s : ℕ) → of_column bits (column_at s (map as_column rs)) ≡ (if list_any (λ (r : MemRead). r.word.0 == s) rs then value_bits (signal_value c s) else [])
  of_port [] s = refl
  of_port (r ∷ rs) s = by (of_port rs s) (r.word.0 == s) refl
    where
      by : of_column bits (column_at s (map as_column rs)) ≡ (if list_any (λ (q : MemRead). q.word.0 == s) rs then value_bits (signal_value c s) else []) → (b : Bool) → (r.word.0 == s) ≡ b
          → of_column bits (cond b (Some (as_column r)) (column_at s (map as_column rs))) ≡ (if b || list_any (λ (q : MemRead). q.word.0 == s) rs then value_bits (signal_value c s) else [])
      by later true e = ap (λ n. value_bits (signal_value c n)) (eqb-true r.word.0 s e)
      by later false e = later

  flat_bits : (rs : List MemRead) → flat_map bits (map as_column rs) ≡ flat_map (port_bits c) rs
  flat_bits [] = refl
  flat_bits (r ∷ rs) = ap (λ xs. port_bits c r ++ xs) (flat_bits rs)

stored_is : (s : ℕ) (ms : List Memory) → list_any (λ (m : Memory). is_there m && list_any (λ (r : MemRead). r.word.0 == s) m.reads) ms ≡ list_any (λ (r : MemRead). r.word.0 == s) (all_reads (filter is_there ms))
stored_is s [] = refl
stored_is s (m ∷ ms) = by (is_there m) (stored_is s ms)
  where
    rest : List MemRead
    rest = all_reads (filter is_there ms)

    by : (b : Bool) → list_any (λ (x : Memory). is_there x && list_any (λ (r : MemRead). r.word.0 == s) x.reads) ms ≡ list_any (λ (r : MemRead). r.word.0 == s) (all_reads (filter is_there ms))
        → ((b && list_any (λ (r : MemRead). r.word.0 == s) m.reads) || list_any (λ (x : Memory). is_there x && list_any (λ (r : MemRead). r.word.0 == s) x.reads) ms) ≡ list_any (λ (r : MemRead). r.word.0 == s) (all_reads (if b then m ∷ filter is_there ms else filter is_there ms))
    by true e = ap (λ t. list_any (λ (r : MemRead). r.word.0 == s) m.reads || t) e ∙ sym (list_any-append (λ (r : MemRead). r.word.0 == s) m.reads (all_reads (filter is_there ms)))
    by false e = e

-- ---- together

module _ (c : Circuit) (design : IsDesign c) where
  reads_there : (rs : List MemRead) (m : Memory) → AllByRecursion (IsReadPort c m) rs → AllByRecursion (λ (x : Column). x.sig.0 < length c.pool.signals) (map as_column rs)
  reads_there [] m h = tt
  reads_there (r ∷ rs) m h = (h.0.word.there, reads_there rs m h.1)

  all_there : (ms : List Memory) → AllByRecursion (IsMemory c) ms → AllByRecursion (λ (x : Column). x.sig.0 < length c.pool.signals) (map as_column (all_reads (filter is_there ms)))
  all_there [] h = tt
  all_there (m ∷ ms) h = cond_both (is_there m) (m ∷ filter is_there ms) (filter is_there ms) (λ xs. AllByRecursion (λ (x : Column). x.sig.0 < length c.pool.signals) (map as_column (all_reads xs)))
      (λ t. subst (AllByRecursion (λ (x : Column). x.sig.0 < length c.pool.signals)) (sym (map-append as_column m.reads (all_reads (filter is_there ms))))
      (AllByRecursion-append (λ (x : Column). x.sig.0 < length c.pool.signals) (map as_column m.reads) (map as_column (all_reads (filter is_there ms))) (reads_there m.reads m h.0.reads) (all_there ms h.1)))
      (λ t. all_there ms h.1)

  -- of a signal, by what drives it
  by_read : (s : ℕ) → (if is_read c s then value_bits (signal_value c s) else []) ≡ read_bits c s (driving c s)
  by_read s = by (is_read c s) refl
    where
      at_process : (p : DesignProcess) (d : Option DomainId) → [] ≡ read_bits c s (driving_at p d)
      at_process p None = refl
      at_process p (Some d) = refl

      none : (t : Bool) (o : Option DesignProcess) → [] ≡ read_bits c s (cond t ByEvents (driving_by ByNothing o))
      none true o = refl
      none false None = refl
      none false (Some p) = at_process p p.domain

      by : (b : Bool) → is_read c s ≡ b → (if b then value_bits (signal_value c s) else []) ≡ read_bits c s (driving c s)
      by true e = ap (read_bits c s) (sym (read_driving c design s e))
      by false e =
          none (is_input c s) (find (drives c s) c.processes)
          ∙ ap (λ b. read_bits c s (cond (is_input c s) ByEvents (driving_by (cond b ByRead ByNothing) (find (drives c s) c.processes)))) (sym e)

  pub reads_gathered : IsPermutation (flat_map (λ s. read_bits c s (driving c s)) (range_with_len 0 (length c.pool.signals))) (all_given c (all_parts (memories_of c)))
  reads_gathered =
      let R = range_with_len 0 (length c.pool.signals) in
      let rs = stored_reads c in
      let ms = filter is_there c.memories in
      let words : IsDistinct share (words_of c.memories) = distinct_right (map (driven_by c) c.processes) (words_of c.memories) design.one_driver in
      let apart = columns_apart rs (subst (IsDistinct share) (words_are ms) (kept_distinct c.memories words)) in
      let all : IsPermutation (flat_map (bits c) (map as_column rs)) (flat_map (λ s. of_column (bits c) (column_at s (map as_column rs))) R) = gathered (bits c) (length c.pool.signals) (map as_column rs) apart (all_there c.memories design.memories) in
      let each : flat_map (λ s. of_column (bits c) (column_at s (map as_column rs))) R ≡ flat_map (λ s. read_bits c s (driving c s)) R =
      λ i. flat_map (λ s. (of_port c rs s ∙ ap (λ b. if b then value_bits (signal_value c s) else []) (sym (stored_is s c.memories)) ∙ by_read s) i) R in
      let given : flat_map (bits c) (map as_column rs) ≡ all_given c (all_parts (memories_of c)) = flat_bits c rs ∙ sym (given_are c) in
      IsPermutation-sym (all_given c (all_parts (memories_of c))) (flat_map (λ s. read_bits c s (driving c s)) R)
      (subst (λ u. IsPermutation u (flat_map (λ s. read_bits c s (driving c s)) R)) given (subst (IsPermutation (flat_map (bits c) (map as_column rs))) each all))
