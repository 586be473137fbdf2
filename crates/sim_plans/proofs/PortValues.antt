-- What a delta leaves in the data of a combinational read port.
use Rattle.std.specs.Prelude.{◌≡◌, refl, ℕ, zero, suc, ◌+◌, ◌<◌, ◌==◌, ◌||◌, if◌then◌else◌, false, is_none, List, [], ◌∷◌, ◌++◌, map, length, slice_get, slice_set, ℤ, pos, Option, Some, None, fold}
use Rattle.std.specs.List.{AllByRecursion, flat_map, IsDistinct}
use Rattle.std.proofs.Common.{sym, ◌∙◌, ap, arith, subst, get_or}
use Rattle.std.proofs.lemmas.Bool.{cond_both, or_parts, eq-eqb, false≢true}
use Rattle.std.proofs.lemmas.List.{length-set, get_or-set_same, get_or-set_other}
use Rattle.std.proofs.lemmas.Map.Keys.{IsDistinct-tail, IsDistinct-head}
use Rattle.design_ir.specs.declared.memory.MemRead.{MemRead}
use Rattle.design_ir.specs.declared.memory.Memory.{Memory}
use Rattle.design_ir.specs.declared.process.DesignProcess.{DesignProcess}
use Rattle.design_ir.specs.Circuits.{at}
use Rattle.design_ir.specs.Designs.{share}
use Rattle.design_ir.specs.Guards.{driven}
use Rattle.design_ir.specs.Pools.{Pooled}
use Rattle.design_ir.specs.Rows.{row_at}
use Rattle.design_ir.specs.Settled.{starts, comb_process, comb_read, comb_reads}
use Rattle.comb_graph.proofs.DeltaBits.{processes_length}
use Rattle.comb_graph.proofs.DeltaLaws.{starts_length}
use Rattle.sim_plans.specs.PortValues.{WordsAreRows}

-- the read ports of all memories, each with the rows of its own
abbrev Reads : Type 0
Reads = List (List ℤ × MemRead)

abbrev beside : List ℤ → List MemRead → Reads → Reads
beside rows [] more = more
beside rows (r ∷ rs) more = (rows, r) ∷ beside rows rs more

abbrev all_reads : List Memory → List (List ℤ) → Reads
all_reads [] all = []
all_reads (m ∷ ms) [] = []
all_reads (m ∷ ms) (rows ∷ more) = beside rows m.reads (all_reads ms more)

abbrev words_of : Reads → List (List ℕ)
words_of [] = []
words_of (x ∷ xs) = (x.1.word.0 ∷ []) ∷ words_of xs

module _ (p : Pooled) (env : List ℤ) where
  abbrev one : List ℤ → (List ℤ × MemRead) → List ℤ
  one cur x = comb_read p env x.0 cur x.1

  abbrev run_all : List ℤ → Reads → List ℤ
  run_all cur [] = cur
  run_all cur (x ∷ xs) = run_all (one cur x) xs

  beside_is : (rows : List ℤ) (rs : List MemRead) (more : Reads) (cur : List ℤ) → run_all cur (beside rows rs more) ≡ run_all (fold (comb_read p env rows) cur rs) more
  beside_is rows [] more cur = refl
  beside_is rows (r ∷ rs) more cur = beside_is rows rs more (comb_read p env rows cur r)

  reads_are : (ms : List Memory) (all : List (List ℤ)) (cur : List ℤ) → comb_reads p env ms all cur ≡ run_all cur (all_reads ms all)
  reads_are [] all cur = refl
  reads_are (m ∷ ms) [] cur = refl
  reads_are (m ∷ ms) (rows ∷ more) cur = reads_are ms more (fold (comb_read p env rows) cur m.reads) ∙ sym (beside_is rows m.reads (all_reads ms more) cur)

  one_length : (x : List ℤ × MemRead) (cur : List ℤ) → length (one cur x) ≡ length cur
  one_length x cur = cond_both (is_none x.1.domain) (slice_set cur x.1.word.0 (row_at p env x.0 x.1.addr)) cur (λ xs. length xs ≡ length cur) (λ t. length-set cur x.1.word.0 (row_at p env x.0 x.1.addr)) (λ t. refl)

  one_other : (s : ℕ) (x : List ℤ × MemRead) (cur : List ℤ) → share (s ∷ []) (x.1.word.0 ∷ []) ≡ false → at (one cur x) s ≡ at cur s
  one_other s x cur e =
      let apart : (x.1.word.0 == s) ≡ false = (or_parts (x.1.word.0 == s) false (or_parts ((x.1.word.0 == s) || false) false e).0).0 in
      cond_both (is_none x.1.domain) (slice_set cur x.1.word.0 (row_at p env x.0 x.1.addr)) cur (λ xs. at xs s ≡ at cur s)
      (λ t. get_or-set_other cur x.1.word.0 s (row_at p env x.0 x.1.addr) (pos 0) (λ same. false≢true (sym apart ∙ eq-eqb x.1.word.0 s (sym same)))) (λ t. refl)

  others : (s : ℕ) (xs : Reads) (cur : List ℤ) → AllByRecursion (λ w. share (s ∷ []) w ≡ false) (words_of xs) → at (run_all cur xs) s ≡ at cur s
  others s [] cur h = refl
  others s (x ∷ xs) cur h = others s xs (one cur x) h.1 ∙ one_other s x cur h.0

  read_at : (x : List ℤ × MemRead) (cur : List ℤ) → x.1.domain ≡ None → x.1.word.0 < length cur → at (one cur x) x.1.word.0 ≡ row_at p env x.0 x.1.addr
  read_at x cur e there =
      ap (λ (d : Option (List ℕ)). at (if is_none d then slice_set cur x.1.word.0 (row_at p env x.0 x.1.addr) else cur) x.1.word.0) e ∙ get_or-set_same cur x.1.word.0 (row_at p env x.0 x.1.addr) (pos 0) there

  here_at : (xs : Reads) (j : ℕ) (x : List ℤ × MemRead) (cur : List ℤ) → slice_get xs j ≡ Some x → IsDistinct share (words_of xs) → x.1.domain ≡ None → x.1.word.0 < length cur → at (run_all cur xs) x.1.word.0 ≡ row_at p env x.0 x.1.addr
  here_at [] j x cur is apart e there = cc
  here_at (y ∷ ys) zero x cur is apart e there =
      let same : y ≡ x = cc in
      let none = subst (λ (z : List ℤ × MemRead). AllByRecursion (λ w. share (z.1.word.0 ∷ []) w ≡ false) (words_of ys)) same (IsDistinct-head share (y.1.word.0 ∷ []) (words_of ys) apart) in
      others x.1.word.0 ys (one cur y) none ∙ ap (λ (z : List ℤ × MemRead). at (one cur z) x.1.word.0) same ∙ read_at x cur e there
  here_at (y ∷ ys) (suc j) x cur is apart e there =
      here_at ys j x (one cur y) is (IsDistinct-tail share (y.1.word.0 ∷ []) (words_of ys) apart) e (subst (λ n. x.1.word.0 < n) (sym (one_length y cur)) there)

-- ---- where a port stands among all

beside_get : (rows : List ℤ) (rs : List MemRead) (more : Reads) (i : ℕ) (r : MemRead) → slice_get rs i ≡ Some r → slice_get (beside rows rs more) i ≡ Some (rows, r)
beside_get rows [] more i r is = cc
beside_get rows (x ∷ rs) more zero r is = let same : x ≡ r = cc in ap (λ y. Some (rows, y)) same
beside_get rows (x ∷ rs) more (suc i) r is = beside_get rows rs more i r is

beside_more : (rows : List ℤ) (rs : List MemRead) (more : Reads) (j : ℕ) → slice_get (beside rows rs more) (length rs + j) ≡ slice_get more j
beside_more rows [] more j = let e : 0 + j ≡ j = omega arith in ap (slice_get more) e
beside_more rows (r ∷ rs) more j = let e : suc (length rs) + j ≡ suc (length rs + j) = omega arith in ap (slice_get (beside rows (r ∷ rs) more)) e ∙ beside_more rows rs more j

place : (ms : List Memory) (all : List (List ℤ)) (k i : ℕ) (m : Memory) (r : MemRead) → slice_get ms k ≡ Some m → slice_get m.reads i ≡ Some r → length all ≡ length ms → (j : ℕ) × (slice_get (all_reads ms all) j ≡ Some (get_or all k [], r))
place [] all k i m r is at many = cc
place (x ∷ ms) [] k i m r is at many = absurd (omega (arith, many))
place (x ∷ ms) (rows ∷ more) zero i m r is at many =
    let same : x ≡ m = cc in
    (i, beside_get rows x.reads (all_reads ms more) i r (ap (λ (y : Memory). slice_get y.reads i) same ∙ at))
place (x ∷ ms) (rows ∷ more) (suc k) i m r is at many =
    let q = place ms more k i m r is at (omega (arith, many)) in
    (length x.reads + q.0, beside_more rows x.reads (all_reads ms more) q.0 ∙ q.1)

words_beside : (rows : List ℤ) (rs : List MemRead) (more : Reads) → words_of (beside rows rs more) ≡ map (λ (r : MemRead). r.word.0 ∷ []) rs ++ words_of more
words_beside rows [] more = refl
words_beside rows (r ∷ rs) more = ap (λ ws. (r.word.0 ∷ []) ∷ ws) (words_beside rows rs more)

words_are : (ms : List Memory) (all : List (List ℤ)) → length all ≡ length ms → words_of (all_reads ms all) ≡ flat_map (λ (m : Memory). map (λ (r : MemRead). r.word.0 ∷ []) m.reads) ms
words_are [] all many = refl
words_are (m ∷ ms) [] many = absurd (omega (arith, many))
words_are (m ∷ ms) (rows ∷ more) many =
    words_beside rows m.reads (all_reads ms more) ∙ ap (λ ws. map (λ (r : MemRead). r.word.0 ∷ []) m.reads ++ ws) (words_are ms more (omega (arith, many)))

pub distinct_rest : (xs ys : List (List ℕ)) → IsDistinct share (xs ++ ys) → IsDistinct share ys
distinct_rest [] ys h = h
distinct_rest (x ∷ xs) ys h = distinct_rest xs ys (IsDistinct-tail share x (xs ++ ys) h)

pub word_at : WordsAreRows
word_at c design st env k i m r is at_i comb many there =
    let begun = starts c st 0 c.pool.signals in
    let cur = fold (comb_process c.pool env) begun c.processes in
    let long : length cur ≡ length c.pool.signals = processes_length c.pool env c.processes begun ∙ starts_length c st 0 c.pool.signals in
    let q = place c.memories st.rows k i m r is at_i many in
    let own = map (λ (p : DesignProcess). driven c.pool p.body) c.processes in
    let apart = subst (IsDistinct share) (sym (words_are c.memories st.rows many)) (distinct_rest own (flat_map (λ (x : Memory). map (λ (y : MemRead). y.word.0 ∷ []) x.reads) c.memories) design.one_driver) in
    ap (λ xs. at xs r.word.0) (reads_are c.pool env c.memories st.rows cur)
    ∙ here_at c.pool env (all_reads c.memories st.rows) q.0 (get_or st.rows k [], r) cur q.1 apart comb (subst (λ n. r.word.0 < n) (sym long) there)
