-- What the comb read ports leave at a bit is decided by their addresses, by the rows and by what was there.
use Rattle.std.specs.Prelude.{◌≡◌, ◌≢◌, refl, ℕ, zero, suc, ◌<◌, ◌==◌, ◌&&◌, cond, Bool, true, false, is_none, List, [], ◌∷◌, length, slice_set, ℤ, pos, unsigned_abs, Option, Some, None, Contains, fold}
use Rattle.std.specs.List.{AllByRecursion, list_any}
use Rattle.std.proofs.Common.{sym, ◌∙◌, ap, arith, subst, ⊎_elim}
use Rattle.std.proofs.lemmas.Bool.{cond_both, cases_eq, eqb-false, or_parts, false≢true}
use Rattle.std.proofs.lemmas.List.{length-set, get_or-set_same, get_or-set_other}
use Rattle.amh_bits.specs.Patterns.{IsOf, int_bit}
use Rattle.amh_bits.proofs.InShape.{of_zero}
use Rattle.shape_rules.specs.Forms.{Form}
use Rattle.design_ir.specs.declared.memory.MemRead.{MemRead}
use Rattle.design_ir.specs.declared.memory.Memory.{Memory}
use Rattle.design_ir.specs.Pools.{Pooled}
use Rattle.design_ir.specs.PoolRules.{IsPool}
use Rattle.design_ir.specs.Designs.{IsMemory, IsReadPort}
use Rattle.design_ir.specs.Values.{num, signal_form}
use Rattle.design_ir.specs.Targets.{Bit}
use Rattle.design_ir.specs.Needed.{needed_whole}
use Rattle.design_ir.specs.Settled.{comb_read, comb_reads}
use Rattle.design_ir.specs.Rows.{row_at}
use Rattle.design_ir.specs.Circuits.{Circuit, at}
use Rattle.design_ir.proofs.NumbersFit.{FitsSignals}
use Rattle.comb_graph.specs.Laws.{FitsRows}
use Rattle.comb_graph.proofs.BitWrites.{some_signal}
use Rattle.digraph.proofs.Members.{contains_first, contains_more, all_from_contains}
use Rattle.comb_graph.proofs.PoolBits.{IsShared, num_shared}
use Rattle.comb_graph.proofs.PutFits.{set_fits}

-- the row at an address is of the rows' shape, also past the depth
pub row_of : (s : Bool) (w : ℕ) (rows : List ℤ) (k : ℕ) → AllByRecursion (IsOf s w) rows → IsOf s w (at rows k)
row_of s w [] k h = of_zero s w
row_of s w (x ∷ rows) zero h = h.0
row_of s w (x ∷ rows) (suc k) h = row_of s w rows k h.1

module _ (p : Pooled) (env : List ℤ) where
  -- ---- lengths

  read_length : (rows : List ℤ) (r : MemRead) (cur : List ℤ) → length (comb_read p env rows cur r) ≡ length cur
  read_length rows r cur = cond_both (is_none r.domain) (slice_set cur r.word.0 (row_at p env rows r.addr)) cur (λ x. length x ≡ length cur) (λ t. length-set cur r.word.0 (row_at p env rows r.addr)) (λ t. refl)

  ports_length : (rows : List ℤ) (rs : List MemRead) (cur : List ℤ) → length (fold (comb_read p env rows) cur rs) ≡ length cur
  ports_length rows [] cur = refl
  ports_length rows (r ∷ rs) cur = ports_length rows rs (comb_read p env rows cur r) ∙ read_length rows r cur

  pub reads_length : (ms : List Memory) (all : List (List ℤ)) (cur : List ℤ) → length (comb_reads p env ms all cur) ≡ length cur
  reads_length [] all cur = refl
  reads_length (m ∷ ms) [] cur = refl
  reads_length (m ∷ ms) (rows ∷ more) cur = reads_length ms more (fold (comb_read p env rows) cur m.reads) ∙ ports_length rows m.reads cur

  -- ---- a signal that no comb port reads into keeps its number

  abbrev reads_into : ℕ → MemRead → Bool
  reads_into s r = is_none r.domain && (r.word.0 == s)

  other_word : (t a : Bool) → t ≡ true → (t && a) ≡ false → a ≡ false
  other_word true a e h = h
  other_word false a e h = absurd (false≢true e)

  ports_other : (s : ℕ) (rows : List ℤ) (rs : List MemRead) (cur : List ℤ) → list_any (reads_into s) rs ≡ false → at (fold (comb_read p env rows) cur rs) s ≡ at cur s
  ports_other s rows [] cur e = refl
  ports_other s rows (r ∷ rs) cur e =
      let parts = or_parts (reads_into s r) (list_any (reads_into s) rs) e in
      ports_other s rows rs (comb_read p env rows cur r) parts.1
      ∙ cond_both (is_none r.domain) (slice_set cur r.word.0 (row_at p env rows r.addr)) cur (λ x. at x s ≡ at cur s)
      (λ t. get_or-set_other cur r.word.0 s (row_at p env rows r.addr) (pos 0) (λ same. eqb-false r.word.0 s (other_word (is_none r.domain) (r.word.0 == s) t parts.0) (sym same))) (λ t. refl)

  pub reads_other : (s : ℕ) (ms : List Memory) (all : List (List ℤ)) (cur : List ℤ) → list_any (λ (m : Memory). list_any (λ (r : MemRead). is_none r.domain && (r.word.0 == s)) m.reads) ms ≡ false
      → at (comb_reads p env ms all cur) s ≡ at cur s
  reads_other s [] all cur e = refl
  reads_other s (m ∷ ms) [] cur e = refl
  reads_other s (m ∷ ms) (rows ∷ more) cur e =
      let parts = or_parts (list_any (reads_into s) m.reads) (list_any (λ (x : Memory). list_any (reads_into s) x.reads) ms) e in
      reads_other s ms more (fold (comb_read p env rows) cur m.reads) parts.1 ∙ ports_other s rows m.reads cur parts.0

  -- ---- numbers stay of their signals' shapes

  ports_fit : (c : Circuit) (m : Memory) (rows : List ℤ) (rs : List MemRead) (cur : List ℤ) → c.pool ≡ p → AllByRecursion (IsReadPort c m) rs → AllByRecursion (IsOf m.shape.signed m.shape.width) rows
      → FitsSignals p cur → FitsSignals p (fold (comb_read p env rows) cur rs)
  ports_fit c m rows [] cur same are of fit = fit
  ports_fit c m rows (r ∷ rs) cur same are of fit =
      let shape : signal_form p.signals r.word.0 ≡ m.shape = rw same at are.0.word.shape in
      let row : IsOf (signal_form p.signals r.word.0).signed (signal_form p.signals r.word.0).width (row_at p env rows r.addr) =
      subst (λ (f : Form). IsOf f.signed f.width (row_at p env rows r.addr)) (sym shape) (row_of m.shape.signed m.shape.width rows (unsigned_abs (num p env r.addr.0)) of) in
      ports_fit c m rows rs (comb_read p env rows cur r) same are.1 of
      (cond_both (is_none r.domain) (slice_set cur r.word.0 (row_at p env rows r.addr)) cur (FitsSignals p) (λ t. set_fits p cur r.word.0 (row_at p env rows r.addr) row fit) (λ t. fit))

  pub reads_fit : (c : Circuit) (ms : List Memory) (all : List (List ℤ)) (cur : List ℤ) → c.pool ≡ p → AllByRecursion (IsMemory c) ms → FitsRows ms all → FitsSignals p cur → FitsSignals p (comb_reads p env ms all cur)
  reads_fit c [] all cur same are of fit = fit
  reads_fit c (m ∷ ms) [] cur same are of fit = fit
  reads_fit c (m ∷ ms) (rows ∷ more) cur same are of fit =
      reads_fit c ms more (fold (comb_read p env rows) cur m.reads) same are.1 of.1 (ports_fit c m rows m.reads cur same are.0.reads of.0 fit)

-- ---- one bit

module _ (p : Pooled) (E F : List ℤ) (rules : IsPool p) (left : FitsSignals p E) (right : FitsSignals p F) (b : Bit) (here : b.index < (signal_form p.signals b.sig).width) where
  abbrev bit : List ℤ → ℕ
  bit cur = int_bit (at cur b.sig) b.index

  -- the bits that the addresses need of ports that read into the bit's signal are shared
  abbrev AreShared : List MemRead → Type 0
  AreShared rs = (r : MemRead) (x : Bit) → Contains rs r → r.domain ≡ None → b.sig ≡ r.word.0 → Contains (needed_whole p r.addr) x → IsShared p E F x

  set_shared : (s : ℕ) (n m : ℤ) (cur other : List ℤ) → length cur ≡ length p.signals → length other ≡ length p.signals → (b.sig ≡ s → n ≡ m) → bit cur ≡ bit other → bit (slice_set cur s n) ≡ bit (slice_set other s m)
  set_shared s n m cur other long long' same was =
      let there : b.sig < length p.signals = some_signal p.signals b.sig (omega (arith, here)) in
      ⊎_elim
      (λ (e : b.sig ≡ s).
      let first : at (slice_set cur s n) s ≡ n = get_or-set_same cur s n (pos 0) (omega (arith, there, long, e)) in
      let second : at (slice_set other s m) s ≡ m = get_or-set_same other s m (pos 0) (omega (arith, there, long', e)) in
      ap (λ t. int_bit (at (slice_set cur s n) t) b.index) e ∙ ap (λ z. int_bit z b.index) (first ∙ same e ∙ sym second) ∙ sym (ap (λ t. int_bit (at (slice_set other s m) t) b.index) e))
      (λ (e : b.sig ≢ s).
      ap (λ z. int_bit z b.index) (get_or-set_other cur s b.sig n (pos 0) e) ∙ was ∙ sym (ap (λ z. int_bit z b.index) (get_or-set_other other s b.sig m (pos 0) e)))
      (cases_eq b.sig s)

  port_shared : (d : Option (List ℕ)) (v w x y : List ℤ) → (d ≡ None → bit v ≡ bit x) → bit w ≡ bit y → bit (cond (is_none d) v w) ≡ bit (cond (is_none d) x y)
  port_shared None v w x y h k = h refl
  port_shared (Some d) v w x y h k = k

  ports_shared : (rows : List ℤ) (rs : List MemRead) (cur other : List ℤ) → AreShared rs → length cur ≡ length p.signals → length other ≡ length p.signals → bit cur ≡ bit other
      → bit (fold (comb_read p E rows) cur rs) ≡ bit (fold (comb_read p F rows) other rs)
  ports_shared rows [] cur other shared long long' was = was
  ports_shared rows (r ∷ rs) cur other shared long long' was =
      ports_shared rows rs (comb_read p E rows cur r) (comb_read p F rows other r) (λ q x among. shared q x (contains_more r rs q among)) (read_length p E rows r cur ∙ long) (read_length p F rows r other ∙ long')
      (port_shared r.domain (slice_set cur r.word.0 (row_at p E rows r.addr)) cur (slice_set other r.word.0 (row_at p F rows r.addr)) other
      (λ none. set_shared r.word.0 (row_at p E rows r.addr) (row_at p F rows r.addr) cur other long long'
      (λ e. ap (λ n. at rows (unsigned_abs n)) (num_shared p E F rules left right r.addr (all_from_contains (IsShared p E F) (needed_whole p r.addr) (λ x needs. shared r x (contains_first r rs) none e needs)))) was) was)

  pub reads_shared : (ms : List Memory) (all : List (List ℤ)) (cur other : List ℤ) → ((m : Memory) → Contains ms m → AreShared m.reads) → length cur ≡ length p.signals → length other ≡ length p.signals → bit cur ≡ bit other
      → bit (comb_reads p E ms all cur) ≡ bit (comb_reads p F ms all other)
  reads_shared [] all cur other shared long long' was = was
  reads_shared (m ∷ ms) [] cur other shared long long' was = was
  reads_shared (m ∷ ms) (rows ∷ more) cur other shared long long' was =
      reads_shared ms more (fold (comb_read p E rows) cur m.reads) (fold (comb_read p F rows) other m.reads) (λ q among. shared q (contains_more m ms q among))
      (ports_length p E rows m.reads cur ∙ long) (ports_length p F rows m.reads other ∙ long') (ports_shared rows m.reads cur other (shared m (contains_first m ms)) long long' was)
