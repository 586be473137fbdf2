-- What ports give: the data of a port without a clock in a settled environment, and that of a clocked port after an edge.
use Rattle.std.specs.Prelude.{◌≡◌, ◌≢◌, refl, ℕ, ◌<◌, ◌==◌, ◌||◌, ◌⊎◌, Bool, true, false, if◌then◌else◌, List, [], ◌∷◌, ◌++◌, map, length, slice_set, ℤ, pos, None, is_none, fold}
use Rattle.std.specs.List.{AllByRecursion, IsDistinct, list_any}
use Rattle.std.proofs.Common.{sym, ◌∙◌, ap, subst, ⊎_elim}
use Rattle.std.proofs.lemmas.Bool.{cond_both, false≢true, or_left, or_right, or_parts, or_from, eqb-false, eq-eqb}
use Rattle.std.proofs.lemmas.List.Folds.{list_any-append}
use Rattle.std.proofs.lemmas.List.{length-set, get_or-set_same, get_or-set_other}
use Rattle.std.proofs.lemmas.Map.Keys.{IsDistinct-head, IsDistinct-tail}
use Rattle.design_ir.specs.declared.ids.DomainId.{DomainId}
use Rattle.design_ir.specs.declared.memory.MemRead.{MemRead}
use Rattle.design_ir.specs.declared.memory.Memory.{Memory}
use Rattle.design_ir.specs.Pools.{Pooled}
use Rattle.design_ir.specs.Circuits.{Circuit, at, is_among}
use Rattle.design_ir.specs.Designs.{share}
use Rattle.design_ir.specs.Rows.{row_at}
use Rattle.design_ir.specs.Settled.{comb_read, comb_reads}
use Rattle.design_ir.specs.Steps.{reads_now, read_word, clocked_read, clocked_reads}
use Rattle.rtlil_text.proofs.Among.{Among}
use Rattle.comb_graph.proofs.ReadBits.{reads_other}
use Rattle.netlist_laws.proofs.ReadOnce.{word_of, words_of, has_it, kind_none, none_behind, distinct_right, clocked_reads-other}

-- this port of this memory stands beside these rows
abbrev pub Located : List Memory → List (List ℤ) → Memory → List ℤ → MemRead → Type 0
Located [] all m rows r = ⊥
Located (x ∷ ms) [] m rows r = ⊥
Located (x ∷ ms) (own ∷ more) m rows r = ((x ≡ m) × (own ≡ rows) × Among x.reads r) ⊎ Located ms more m rows r

-- the signal of a port is given by no port behind those of its memory
unread_others : (rs : List MemRead) (others : List (List ℕ)) (r : MemRead) → IsDistinct share (map word_of rs ++ others) → Among rs r → list_any (has_it r.word.0) others ≡ false
unread_others [] others r d a = absurd a
unread_others (x ∷ rs) others r d a = ⊎_elim
    (λ (here : x ≡ r).
    let own : is_among (word_of x) r.word.0 ≡ true = or_left (x.word.0 == r.word.0) false (eq-eqb x.word.0 r.word.0 (ap (λ (y : MemRead). y.word.0) here)) in
    none_behind r.word.0 (word_of x) (map word_of rs) others own (IsDistinct-head share (word_of x) (map word_of rs ++ others) d))
    (λ (later : Among rs r). unread_others rs others r (IsDistinct-tail share (word_of x) (map word_of rs ++ others) d) later)
    a

distinct_left : (xs ys : List (List ℕ)) → IsDistinct share (xs ++ ys) → IsDistinct share xs
unfolding IsDistinct
distinct_left [] ys d = tt
distinct_left (x ∷ xs) ys d = (left xs (IsDistinct-head share x (xs ++ ys) d), distinct_left xs ys (IsDistinct-tail share x (xs ++ ys) d))
  where
    left : (zs : List (List ℕ)) → AllByRecursion (λ z. share x z ≡ false) (zs ++ ys) → AllByRecursion (λ z. share x z ≡ false) zs
    left [] h = tt
    left (z ∷ zs) h = (h.0, left zs h.1)

-- a signal that is given behind these ports is given by none of them
pub unread_before : (s : ℕ) (rs : List MemRead) (others : List (List ℕ)) → IsDistinct share (map word_of rs ++ others) → list_any (has_it s) others ≡ true → list_any (has_it s) (map word_of rs) ≡ false
unread_before s [] others d h = refl
unread_before s (x ∷ rs) others d h =
    or_from (is_among (word_of x) s) (list_any (has_it s) (map word_of rs)) (own (is_among (word_of x) s) refl) (unread_before s rs others (IsDistinct-tail share (word_of x) (map word_of rs ++ others) d) h)
  where
    own : (t : Bool) → is_among (word_of x) s ≡ t → t ≡ false
    own false e = refl
    own true e = absurd (false≢true (sym (none_behind s (word_of x) (map word_of rs) others e (IsDistinct-head share (word_of x) (map word_of rs ++ others) d)) ∙ h))

any_among : (rs : List MemRead) (r : MemRead) → Among rs r → list_any (has_it r.word.0) (map word_of rs) ≡ true
any_among [] r a = absurd a
any_among (x ∷ rs) r a = ⊎_elim
    (λ (here : x ≡ r). or_left (is_among (word_of x) r.word.0) (list_any (has_it r.word.0) (map word_of rs)) (or_left (x.word.0 == r.word.0) false (eq-eqb x.word.0 r.word.0 (ap (λ (y : MemRead). y.word.0) here))))
    (λ (later : Among rs r). or_right (is_among (word_of x) r.word.0) (list_any (has_it r.word.0) (map word_of rs)) (any_among rs r later))
    a

pub located_has : (ms : List Memory) (all : List (List ℤ)) (m : Memory) (rows : List ℤ) (r : MemRead) → Located ms all m rows r → list_any (has_it r.word.0) (words_of ms) ≡ true
located_has [] all m rows r l = absurd l
located_has (x ∷ ms) [] m rows r l = absurd l
located_has (x ∷ ms) (own ∷ more) m rows r l =
    list_any-append (has_it r.word.0) (map word_of x.reads) (words_of ms)
    ∙ ⊎_elim
    (λ (here : (x ≡ m) × (own ≡ rows) × Among x.reads r). or_left (list_any (has_it r.word.0) (map word_of x.reads)) (list_any (has_it r.word.0) (words_of ms)) (any_among x.reads r here.2))
    (λ (later : Located ms more m rows r). or_right (list_any (has_it r.word.0) (map word_of x.reads)) (list_any (has_it r.word.0) (words_of ms)) (located_has ms more m rows r later))
    l

-- ---- ports one after another, each of which may give its signal a number

module _ (test : MemRead → Bool) (value : MemRead → ℤ) where
  abbrev turn : List ℤ → MemRead → List ℤ
  turn cur r = if test r then slice_set cur r.word.0 (value r) else cur

  length-turns : (rs : List MemRead) (cur : List ℤ) → length (fold turn cur rs) ≡ length cur
  length-turns [] cur = refl
  length-turns (r ∷ rs) cur = length-turns rs (turn cur r) ∙ cond_both (test r) (slice_set cur r.word.0 (value r)) cur (λ xs. length xs ≡ length cur) (λ t. length-set cur r.word.0 (value r)) (λ t. refl)

  turns-other : (s : ℕ) (rs : List MemRead) (cur : List ℤ) → list_any (has_it s) (map word_of rs) ≡ false → at (fold turn cur rs) s ≡ at cur s
  turns-other s [] cur e = refl
  turns-other s (r ∷ rs) cur e =
      let parts = or_parts ((r.word.0 == s) || false) (list_any (has_it s) (map word_of rs)) e in
      let apart : r.word.0 ≢ s = eqb-false r.word.0 s (or_parts (r.word.0 == s) false parts.0).0 in
      turns-other s rs (turn cur r) parts.1
      ∙ cond_both (test r) (slice_set cur r.word.0 (value r)) cur (λ xs. at xs s ≡ at cur s) (λ t. get_or-set_other cur r.word.0 s (value r) (pos 0) (λ same. apart (sym same))) (λ t. refl)

  -- the port itself
  own_turn : (r : MemRead) (cur : List ℤ) → r.word.0 < length cur → at (turn cur r) r.word.0 ≡ (if test r then value r else at cur r.word.0)
  own_turn r cur there = by (test r)
    where
      by : (b : Bool) → at (if b then slice_set cur r.word.0 (value r) else cur) r.word.0 ≡ (if b then value r else at cur r.word.0)
      by true = get_or-set_same cur r.word.0 (value r) (pos 0) there
      by false = refl

  turns-at : (rs : List MemRead) (r : MemRead) (cur : List ℤ) → IsDistinct share (map word_of rs) → Among rs r → r.word.0 < length cur → at (fold turn cur rs) r.word.0 ≡ (if test r then value r else at cur r.word.0)
  turns-at [] r cur d a there = absurd a
  turns-at (x ∷ rs) r cur d a there = ⊎_elim
      (λ (here : x ≡ r).
      let own : is_among (word_of x) r.word.0 ≡ true = or_left (x.word.0 == r.word.0) false (eq-eqb x.word.0 r.word.0 (ap (λ (y : MemRead). y.word.0) here)) in
      turns-other r.word.0 rs (turn cur x) (none_behind r.word.0 (word_of x) [] (map word_of rs) own (IsDistinct-head share (word_of x) (map word_of rs) d))
      ∙ ap (λ (y : MemRead). at (turn cur y) r.word.0) here ∙ own_turn r cur there)
      (λ (later : Among rs r).
      let apart : r.word.0 ≢ x.word.0 = λ same.
      let own : is_among (word_of x) r.word.0 ≡ true = or_left (x.word.0 == r.word.0) false (eq-eqb x.word.0 r.word.0 (sym same)) in
      false≢true (sym (none_behind r.word.0 (word_of x) [] (map word_of rs) own (IsDistinct-head share (word_of x) (map word_of rs) d)) ∙ any_among rs r later) in
      turns-at rs r (turn cur x) (IsDistinct-tail share (word_of x) (map word_of rs) d) later
      (subst (λ n. r.word.0 < n) (sym (cond_both (test x) (slice_set cur x.word.0 (value x)) cur (λ xs. length xs ≡ length cur) (λ t. length-set cur x.word.0 (value x)) (λ t. refl))) there)
      ∙ ap (λ z. if test r then value r else z)
      (cond_both (test x) (slice_set cur x.word.0 (value x)) cur (λ xs. at xs r.word.0 ≡ at cur r.word.0) (λ t. get_or-set_other cur x.word.0 r.word.0 (value x) (pos 0) apart) (λ t. refl)))
      a

-- ---- without a clock

module _ (pool : Pooled) (env : List ℤ) where
  -- a port gives the row at its address
  pub comb_reads-at : (ms : List Memory) (all : List (List ℤ)) (m : Memory) (rows : List ℤ) (r : MemRead) (cur : List ℤ) → IsDistinct share (words_of ms) → Located ms all m rows r → r.domain ≡ None → r.word.0 < length cur
      → at (comb_reads pool env ms all cur) r.word.0 ≡ row_at pool env rows r.addr
  comb_reads-at [] all m rows r cur d l none there = absurd l
  comb_reads-at (x ∷ ms) [] m rows r cur d l none there = absurd l
  comb_reads-at (x ∷ ms) (own ∷ more) m rows r cur d l none there =
      let test : MemRead → Bool = λ (q : MemRead). is_none q.domain in
      let value : MemRead → ℤ = λ (q : MemRead). row_at pool env own q.addr in
      let mid : List ℤ = fold (comb_read pool env own) cur x.reads in
      ⊎_elim
      (λ (here : (x ≡ m) × (own ≡ rows) × Among x.reads r).
      reads_other pool env r.word.0 ms more mid (kind_none r.word.0 test ms (unread_others x.reads (words_of ms) r d here.2))
      ∙ turns-at test value x.reads r cur (distinct_left (map word_of x.reads) (words_of ms) d) here.2 there
      ∙ ap (λ o. if is_none o then row_at pool env own r.addr else at cur r.word.0) none
      ∙ ap (λ ys. row_at pool env ys r.addr) here.1)
      (λ (later : Located ms more m rows r).
      comb_reads-at ms more m rows r mid (distinct_right (map word_of x.reads) (words_of ms) d) later none (subst (λ n. r.word.0 < n) (sym (length-turns test value x.reads cur)) there))
      l

-- ---- at a clock

module _ (c : Circuit) (env : List ℤ) (listed : List DomainId) where
  -- a port gives what it takes where it reads, and else what it gave
  pub clocked_reads-at : (ms : List Memory) (all : List (List ℤ)) (m : Memory) (rows : List ℤ) (r : MemRead) (cur : List ℤ) → IsDistinct share (words_of ms) → Located ms all m rows r → r.word.0 < length cur
      → at (clocked_reads c env listed ms all cur) r.word.0 ≡ (if reads_now c env listed r then read_word c env listed m rows r else at cur r.word.0)
  clocked_reads-at [] all m rows r cur d l there = absurd l
  clocked_reads-at (x ∷ ms) [] m rows r cur d l there = absurd l
  clocked_reads-at (x ∷ ms) (own ∷ more) m rows r cur d l there =
      let test : MemRead → Bool = reads_now c env listed in
      let value : MemRead → ℤ = read_word c env listed x own in
      let mid : List ℤ = fold (clocked_read c env listed x own) cur x.reads in
      ⊎_elim
      (λ (here : (x ≡ m) × (own ≡ rows) × Among x.reads r).
      clocked_reads-other c env listed r.word.0 ms more mid (unread_others x.reads (words_of ms) r d here.2)
      ∙ turns-at test value x.reads r cur (distinct_left (map word_of x.reads) (words_of ms) d) here.2 there
      ∙ (λ i. if reads_now c env listed r then read_word c env listed (here.0 i) (here.1 i) r else at cur r.word.0))
      (λ (later : Located ms more m rows r).
      clocked_reads-at ms more m rows r mid (distinct_right (map word_of x.reads) (words_of ms) d) later (subst (λ n. r.word.0 < n) (sym (length-turns test value x.reads cur)) there)
      ∙ ap (λ z. if reads_now c env listed r then read_word c env listed m rows r else z) (turns-other test value r.word.0 x.reads cur (unread_before r.word.0 x.reads (words_of ms) d (located_has ms more m rows r later))))
      l
