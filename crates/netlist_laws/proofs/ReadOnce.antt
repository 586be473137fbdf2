-- The data of read ports: each port has a signal of its own, which no process drives and no input is.
use Rattle.std.specs.Prelude.{◌≡◌, ◌≢◌, refl, ℕ, ◌==◌, ◌&&◌, ◌||◌, Bool, true, false, List, [], ◌∷◌, ◌++◌, map, length, slice_set, ℤ, pos, fold}
use Rattle.std.specs.List.{AllByRecursion, IsDistinct, list_any, flat_map}
use Rattle.std.proofs.Common.{sym, ◌∙◌, ap, subst}
use Rattle.std.proofs.lemmas.Bool.{cond_both, false≢true, or_left, or_parts, or_from, and_parts, and_right, eqb-false}
use Rattle.std.proofs.lemmas.List.{map-append, length-set, get_or-set_other}
use Rattle.std.proofs.lemmas.List.Folds.{list_any-append}
use Rattle.std.proofs.lemmas.Map.Keys.{IsDistinct-head, IsDistinct-tail}
use Rattle.design_ir.specs.declared.ids.DomainId.{DomainId}
use Rattle.design_ir.specs.declared.memory.MemRead.{MemRead}
use Rattle.design_ir.specs.declared.memory.Memory.{Memory}
use Rattle.design_ir.specs.declared.process.DesignProcess.{DesignProcess}
use Rattle.design_ir.specs.Circuits.{Circuit, at, is_among}
use Rattle.design_ir.specs.Designs.{share}
use Rattle.design_ir.specs.Steps.{reads_now, read_word, clocked_read, clocked_reads}
use Rattle.flat_design.proofs.FlatRounds.{not_shared}
use Rattle.netlist_laws.proofs.OneDriver.{IsOnly}

abbrev pub word_of : MemRead → List ℕ
word_of r = r.word.0 ∷ []

-- the signals that read ports give, each alone
abbrev pub words_of : List Memory → List (List ℕ)
words_of ms = flat_map (λ (m : Memory). map word_of m.reads) ms

abbrev pub has_it : ℕ → List ℕ → Bool
has_it s ss = is_among ss s

-- no port of these gives the signal
abbrev pub AreUnread : ℕ → List Memory → Type 0
AreUnread s ms = list_any (has_it s) (words_of ms) ≡ false

-- ---- what no port gives, no port of a kind gives

module _ (s : ℕ) (kind : MemRead → Bool) where
  ports_none : (rs : List MemRead) → list_any (has_it s) (map word_of rs) ≡ false → list_any (λ (r : MemRead). kind r && (r.word.0 == s)) rs ≡ false
  ports_none [] e = refl
  ports_none (r ∷ rs) e =
      let parts = or_parts ((r.word.0 == s) || false) (list_any (has_it s) (map word_of rs)) e in
      or_from (kind r && (r.word.0 == s)) (list_any (λ (x : MemRead). kind x && (x.word.0 == s)) rs) (and_right (kind r) (r.word.0 == s) (or_parts (r.word.0 == s) false parts.0).0) (ports_none rs parts.1)

  pub kind_none : (ms : List Memory) → AreUnread s ms → list_any (λ (m : Memory). list_any (λ (r : MemRead). kind r && (r.word.0 == s)) m.reads) ms ≡ false
  kind_none [] e = refl
  kind_none (m ∷ ms) e =
      let parts = or_parts (list_any (has_it s) (map word_of m.reads)) (list_any (has_it s) (words_of ms)) (sym (list_any-append (has_it s) (map word_of m.reads) (words_of ms)) ∙ e) in
      or_from (list_any (λ (r : MemRead). kind r && (r.word.0 == s)) m.reads) (list_any (λ (x : Memory). list_any (λ (r : MemRead). kind r && (r.word.0 == s)) x.reads) ms) (ports_none m.reads parts.0) (kind_none ms parts.1)

-- ---- no port gives what a process drives

module _ (s : ℕ) where
  pub none_behind : (xs : List ℕ) (ys zs : List (List ℕ)) → is_among xs s ≡ true → AllByRecursion (λ y. share xs y ≡ false) (ys ++ zs) → list_any (has_it s) zs ≡ false
  none_behind xs [] [] here h = refl
  none_behind xs [] (z ∷ zs) here h = or_from (is_among z s) (list_any (has_it s) zs) (not_shared s xs z h.0 here) (none_behind xs [] zs here h.1)
  none_behind xs (y ∷ ys) zs here h = none_behind xs ys zs here h.1

module _ (f : DesignProcess → List ℕ) (s : ℕ) where
  unread_behind : (before after : List DesignProcess) (p : DesignProcess) (others : List (List ℕ)) → IsDistinct share (map f (before ++ p ∷ after) ++ others) → is_among (f p) s ≡ true → list_any (has_it s) others ≡ false
  unread_behind [] after p others d here = none_behind s (f p) (map f after) others here (IsDistinct-head share (f p) (map f after ++ others) d)
  unread_behind (q ∷ before) after p others d here = unread_behind before after p others (IsDistinct-tail share (f q) (map f (before ++ p ∷ after) ++ others) d) here

  pub only_unread : (ps : List DesignProcess) (p : DesignProcess) (others : List (List ℕ)) → IsDistinct share (map f ps ++ others) → IsOnly f s ps p → list_any (has_it s) others ≡ false
  only_unread ps p others d o = unread_behind o.before o.after p others (subst (λ qs. IsDistinct share (map f qs ++ others)) o.split d) o.here

-- ---- ports of two kinds

-- the ports of all memories
abbrev pub all_reads : List Memory → List MemRead
all_reads ms = flat_map (λ (m : Memory). m.reads) ms

pub words_are : (ms : List Memory) → words_of ms ≡ map word_of (all_reads ms)
words_are [] = refl
words_are (m ∷ ms) = ap (λ ws. map word_of m.reads ++ ws) (words_are ms) ∙ sym (map-append word_of m.reads (all_reads ms))

pub any_read : (g : MemRead → Bool) (ms : List Memory) → list_any (λ (m : Memory). list_any g m.reads) ms ≡ list_any g (all_reads ms)
any_read g [] = refl
any_read g (m ∷ ms) = ap (λ t. list_any g m.reads || t) (any_read g ms) ∙ sym (list_any-append g m.reads (all_reads ms))

pub distinct_right : (xs ys : List (List ℕ)) → IsDistinct share (xs ++ ys) → IsDistinct share ys
distinct_right [] ys d = d
distinct_right (x ∷ xs) ys d = distinct_right xs ys (IsDistinct-tail share x (xs ++ ys) d)

module _ (s : ℕ) (one other : MemRead → Bool) (apart : (r : MemRead) → one r ≡ true → other r ≡ false) where
  abbrev gives : (MemRead → Bool) → MemRead → Bool
  gives kind r = kind r && (r.word.0 == s)

  behind : (r : MemRead) (rs : List MemRead) → IsDistinct share (map word_of (r ∷ rs)) → (r.word.0 == s) ≡ true → list_any (has_it s) (map word_of rs) ≡ false
  behind r rs d e = none_behind s (word_of r) [] (map word_of rs) (or_left (r.word.0 == s) false e) (IsDistinct-head share (word_of r) (map word_of rs) d)

  flat_kind : (rs : List MemRead) → IsDistinct share (map word_of rs) → list_any (gives one) rs ≡ true → list_any (gives other) rs ≡ false
  flat_kind [] d e = refl
  flat_kind (r ∷ rs) d e = by (flat_kind rs (IsDistinct-tail share (word_of r) (map word_of rs) d)) (gives one r) refl e
    where
      by : (list_any (gives one) rs ≡ true → list_any (gives other) rs ≡ false) → (t : Bool) → gives one r ≡ t → (t || list_any (gives one) rs) ≡ true → list_any (gives other) (r ∷ rs) ≡ false
      by later true h e =
          let parts = and_parts (one r) (r.word.0 == s) h in
          or_from (gives other r) (list_any (gives other) rs) (ap (λ t. t && (r.word.0 == s)) (apart r parts.0)) (ports_none s other rs (behind r rs d parts.1))
      by later false h e = or_from (gives other r) (list_any (gives other) rs) (here (gives other r) refl) (later e)
        where
          here : (t : Bool) → gives other r ≡ t → t ≡ false
          here false k = refl
          here true k = absurd (false≢true (sym (ports_none s one rs (behind r rs d (and_parts (other r) (r.word.0 == s) k).1)) ∙ e))

  -- where a port of one kind gives the signal, none of the other does
  pub one_kind : (ms : List Memory) → IsDistinct share (words_of ms) → list_any (λ (m : Memory). list_any (gives one) m.reads) ms ≡ true → list_any (λ (m : Memory). list_any (gives other) m.reads) ms ≡ false
  one_kind ms d e = any_read (gives other) ms ∙ flat_kind (all_reads ms) (subst (IsDistinct share) (words_are ms) d) (sym (any_read (gives one) ms) ∙ e)

-- ---- clocked reads at an edge

module _ (c : Circuit) (env : List ℤ) (listed : List DomainId) where
  length-ports : (m : Memory) (rows : List ℤ) (rs : List MemRead) (cur : List ℤ) → length (fold (clocked_read c env listed m rows) cur rs) ≡ length cur
  length-ports m rows [] cur = refl
  length-ports m rows (r ∷ rs) cur =
      length-ports m rows rs (clocked_read c env listed m rows cur r)
      ∙ cond_both (reads_now c env listed r) (slice_set cur r.word.0 (read_word c env listed m rows r)) cur (λ xs. length xs ≡ length cur) (λ t. length-set cur r.word.0 (read_word c env listed m rows r)) (λ t. refl)

  -- there are as many numbers as before
  pub length-clocked_reads : (ms : List Memory) (all : List (List ℤ)) (cur : List ℤ) → length (clocked_reads c env listed ms all cur) ≡ length cur
  length-clocked_reads [] all cur = refl
  length-clocked_reads (m ∷ ms) [] cur = refl
  length-clocked_reads (m ∷ ms) (rows ∷ more) cur = length-clocked_reads ms more (fold (clocked_read c env listed m rows) cur m.reads) ∙ length-ports m rows m.reads cur

  module _ (s : ℕ) where
    ports_other : (m : Memory) (rows : List ℤ) (rs : List MemRead) (cur : List ℤ) → list_any (has_it s) (map word_of rs) ≡ false → at (fold (clocked_read c env listed m rows) cur rs) s ≡ at cur s
    ports_other m rows [] cur e = refl
    ports_other m rows (r ∷ rs) cur e =
        let parts = or_parts ((r.word.0 == s) || false) (list_any (has_it s) (map word_of rs)) e in
        let apart : r.word.0 ≢ s = eqb-false r.word.0 s (or_parts (r.word.0 == s) false parts.0).0 in
        let word : ℤ = read_word c env listed m rows r in
        ports_other m rows rs (clocked_read c env listed m rows cur r) parts.1
        ∙ cond_both (reads_now c env listed r) (slice_set cur r.word.0 word) cur (λ xs. at xs s ≡ at cur s) (λ t. get_or-set_other cur r.word.0 s word (pos 0) (λ same. apart (sym same))) (λ t. refl)

    -- a signal that no port gives keeps its number
    pub clocked_reads-other : (ms : List Memory) (all : List (List ℤ)) (cur : List ℤ) → AreUnread s ms → at (clocked_reads c env listed ms all cur) s ≡ at cur s
    clocked_reads-other [] all cur e = refl
    clocked_reads-other (m ∷ ms) [] cur e = refl
    clocked_reads-other (m ∷ ms) (rows ∷ more) cur e =
        let parts = or_parts (list_any (has_it s) (map word_of m.reads)) (list_any (has_it s) (words_of ms)) (sym (list_any-append (has_it s) (map word_of m.reads) (words_of ms)) ∙ e) in
        clocked_reads-other ms more (fold (clocked_read c env listed m rows) cur m.reads) parts.1 ∙ ports_other m rows m.reads cur parts.0
