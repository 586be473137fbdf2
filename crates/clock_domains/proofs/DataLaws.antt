-- The data of read ports: marks of those that were seen, and the numbers of their memories.
use Rattle.std.proofs.Common.{◌≡◌, ℕ, zero, suc, ◌+◌, ◌<◌, ◌==◌, Bool, true, false, not, ◌||◌, cond, List, [], ◌∷◌, ◌++◌, map, length, take, drop, Option, Some, None, slice_get, slice_set, is_some, refl, sym, ap, ◌∙◌, subst, arith, append-nil}
use Rattle.std.specs.Prelude.{option_map}
use Rattle.std.specs.List.{AllByRecursion, filter}
use Rattle.std.proofs.lemmas.Bool.{false≢true}
use Rattle.std.proofs.lemmas.Bool.Decides.{nat_tests}
use Rattle.std.proofs.lemmas.List.{length-set}
use Rattle.std.proofs.lemmas.List.Concat.{flat_map-append}
use Rattle.std.proofs.lemmas.List.Elements.{filter-append}
use Rattle.design_ir.specs.declared.memory.MemRead.{MemRead}
use Rattle.design_ir.specs.declared.memory.Memory.{Memory}
use Rattle.design_ir.specs.Circuits.{is_among}
use Rattle.fragment_walks.specs.Marks.{is_marked, marked}
use Rattle.fragment_walks.specs.Numbers.{lowered, first_at, lesser}
use Rattle.fragment_walks.specs.Reads.{data_signals}
use Rattle.fragment_walks.proofs.Lists.{all_filtered, all_left, all_mapped, all_right, all_unmapped, map-append, or_assoc, take-push, take_and_drop, take_length}
use Rattle.fragment_walks.proofs.Markings.{length_marked, marked-append, marked_set}
use Rattle.fragment_walks.proofs.NumberLaws.{lesser_again, lowered_at}
use Rattle.clock_domains.specs.Data.{is_taken, words}
use Rattle.clock_domains.specs.Firsts.{IsPlace, first_memory}
use Rattle.clock_domains.specs.Resolved.{clocked_data, first_of, has_twice}
use Rattle.clock_domains.proofs.FirstLaws.{place_wider}

-- ---- what is marked, or stands twice

either_way : (s t : ℕ) → (s == t) ≡ (t == s)
either_way s t = grind (arith, nat_tests)

shuffle : (a b c d e : Bool) → ((a || b) || (c || (d || e))) ≡ ((b || d) || (a || (c || e)))
shuffle true true c d e = refl
shuffle true false c true e = refl
shuffle true false c false e = refl
shuffle false true c d e = refl
shuffle false false true true e = refl
shuffle false false true false e = refl
shuffle false false false true e = refl
shuffle false false false false e = refl

taken_set : (marks : List Bool) (s : ℕ) (ts : List ℕ) → s < length marks → is_taken (slice_set marks s true) ts ≡ (is_among ts s || is_taken marks ts)
taken_set marks s [] h = refl
taken_set marks s (t ∷ ts) h =
    ap (λ b. b || (is_among ts t || is_taken (slice_set marks s true) ts)) (marked_set marks s t h)
    ∙ ap (λ b. (is_marked marks t || (s == t)) || (is_among ts t || b)) (taken_set marks s ts h)
    ∙ ap (λ b. (is_marked marks t || b) || (is_among ts t || (is_among ts s || is_taken marks ts))) (either_way s t)
    ∙ shuffle (is_marked marks t) (t == s) (is_among ts t) (is_among ts s) (is_taken marks ts)

taken-append : (xs ys : List ℕ) (marks : List Bool) → AllByRecursion (λ s. s < length marks) xs → is_taken marks (xs ++ ys) ≡ (is_taken marks xs || is_taken (marked xs marks) ys)
taken-append [] ys marks h = refl
taken-append (x ∷ xs) ys marks h =
    let next = slice_set marks x true in
    ap (λ b. is_marked marks x || b)
    (sym (taken_set marks x (xs ++ ys) h.0)
    ∙ taken-append xs ys next (subst (λ n. AllByRecursion (λ s. s < n) xs) (sym (length-set marks x true)) h.1)
    ∙ ap (λ b. b || is_taken (marked xs next) ys) (taken_set marks x xs h.0))
    ∙ sym (or_assoc (is_marked marks x) (is_among xs x || is_taken marks xs) (is_taken (marked xs next) ys))

-- where nothing is marked
pub taken_twice : (marks : List Bool) (ss : List ℕ) → ((s : ℕ) → is_marked marks s ≡ false) → is_taken marks ss ≡ has_twice ss
taken_twice marks [] h = refl
taken_twice marks (s ∷ ss) h = ap (λ b. b || (is_among ss s || is_taken marks ss)) (h s) ∙ ap (λ b. is_among ss s || b) (taken_twice marks ss h)

-- ---- items with numbers, one after another

module _ {X : Type 0} (f : List X → List ℕ) (join : (xs ys : List X) → f (xs ++ ys) ≡ f xs ++ f ys) (items : List X) (i : ℕ) (x : X) (old cur : List Bool) (at : slice_get items i ≡ Some x) (inside : AllByRecursion (λ s. s < length old) (f items)) (before : cur ≡ marked (f (take i items)) old) (free : is_taken old (f (take i items)) ≡ false) where
  inside_first : (j : ℕ) → AllByRecursion (λ s. s < length old) (f (take j items))
  inside_first j = all_left (λ s. s < length old) (f (take j items)) (f (drop j items)) (subst (AllByRecursion (λ s. s < length old)) (ap f (take_and_drop items j) ∙ join (take j items) (drop j items)) inside)

  next : f (take (i + 1) items) ≡ f (take i items) ++ f (x ∷ [])
  next = ap f (take-push items i x at) ∙ join (take i items) (x ∷ [])

  -- those of the item are of the vector
  pub item_inside : AllByRecursion (λ s. s < length cur) (f (x ∷ []))
  item_inside =
      subst (λ n. AllByRecursion (λ s. s < n) (f (x ∷ []))) (sym (ap length before ∙ length_marked (f (take i items)) old))
      (all_right (λ s. s < length old) (f (take i items)) (f (x ∷ [])) (subst (AllByRecursion (λ s. s < length old)) next (inside_first (i + 1))))

  -- and those that it has decide
  pub taken_next : is_taken old (f (take (i + 1) items)) ≡ is_taken cur (f (x ∷ []))
  taken_next =
      ap (is_taken old) next
      ∙ taken-append (f (take i items)) (f (x ∷ [])) old (inside_first i)
      ∙ ap (λ b. b || is_taken (marked (f (take i items)) old) (f (x ∷ []))) free
      ∙ ap (λ ms. is_taken ms (f (x ∷ []))) (sym before)

  pub taken_told : is_taken cur (f (x ∷ [])) ≡ true → is_taken old (f items) ≡ true
  taken_told e =
      let rest = f (drop (i + 1) items) in
      ap (is_taken old) (ap f (take_and_drop items (i + 1)) ∙ join (take (i + 1) items) (drop (i + 1) items))
      ∙ taken-append (f (take (i + 1) items)) rest old (inside_first (i + 1))
      ∙ ap (λ b. b || is_taken (marked (f (take (i + 1) items)) old) rest) (taken_next ∙ e)

  pub marked_next : (new : List Bool) → new ≡ marked (f (x ∷ [])) cur → new ≡ marked (f (take (i + 1) items)) old
  marked_next new k = k ∙ ap (marked (f (x ∷ []))) before ∙ sym (marked-append (f (take i items)) (f (x ∷ [])) old) ∙ ap (λ ss. marked ss old) (sym next)

pub words-append : (xs ys : List MemRead) → words (xs ++ ys) ≡ words xs ++ words ys
words-append xs ys = map-append (λ (r : MemRead). r.word.0) xs ys

pub data-append : (xs ys : List Memory) → data_signals (xs ++ ys) ≡ data_signals xs ++ data_signals ys
data-append xs ys = flat_map-append (λ (m : Memory). map (λ (r : MemRead). r.word.0) m.reads) xs ys

pub told_not : (told taken : Bool) → told ≡ not taken → told ≡ false → taken ≡ true
told_not told true h e = refl
told_not told false h e = absurd (false≢true (sym e ∙ h))

pub told_free : (told taken : Bool) → told ≡ not taken → told ≡ true → taken ≡ false
told_free told true h e = absurd (false≢true (sym h ∙ e))
told_free told false h e = refl

-- the data of one memory's read ports
pub data_one : (m : Memory) → data_signals (m ∷ []) ≡ words m.reads
data_one m = append-nil (words m.reads)

-- ---- the first memory

first_memory-push : (ms : List Memory) (m : Memory) (s : ℕ) → first_memory (ms ++ m ∷ []) s ≡ first_of (first_memory ms s) (cond (is_among (clocked_data m) s) (Some (length ms)) None)
first_memory-push [] m s = refl
first_memory-push (x ∷ ms) m s = split (is_among (clocked_data x) s) (first_memory ms s) (is_among (clocked_data m) s) (first_memory-push ms m s)
  where
    split : (b : Bool) (o : Option ℕ) (c : Bool) → first_memory (ms ++ m ∷ []) s ≡ first_of o (cond c (Some (length ms)) None)
        → cond b (Some 0) (option_map (λ (k : ℕ). suc k) (first_memory (ms ++ m ∷ []) s)) ≡ first_of (cond b (Some 0) (option_map (λ (k : ℕ). suc k) o)) (cond c (Some (suc (length ms))) None)
    split true o c h = refl
    split false None true h = ap (option_map (λ (k : ℕ). suc k)) h
    split false None false h = ap (option_map (λ (k : ℕ). suc k)) h
    split false (Some k) c h = ap (option_map (λ (k : ℕ). suc k)) h

memory_place : (ms : List Memory) (s : ℕ) → IsPlace (length ms) (first_memory ms s)
memory_place [] s = tt
memory_place (m ∷ ms) s = split (is_among (clocked_data m) s) (place_wider (length ms) (first_memory ms s) (memory_place ms s))
  where
    split : (b : Bool) → IsPlace (suc (length ms)) (option_map (λ (k : ℕ). suc k) (first_memory ms s)) → IsPlace (suc (length ms)) (cond b (Some 0) (option_map (λ (k : ℕ). suc k) (first_memory ms s)))
    split true h = omega arith
    split false h = h

-- one memory more
pub memory_turn : (n : ℕ) (ms : List Memory) (i : ℕ) (m : Memory) (old cur new : List (Option ℕ)) (s : ℕ) → slice_get ms i ≡ Some m → AllByRecursion (λ s. s < length cur) (clocked_data m) → first_at cur s ≡ lesser (first_at old s) (option_map (λ (k : ℕ). n + k) (first_memory (take i ms) s))
    → new ≡ lowered (clocked_data m) (n + i) cur → first_at new s ≡ lesser (first_at old s) (option_map (λ (k : ℕ). n + k) (first_memory (take (i + 1) ms) s))
memory_turn n ms i m old cur new s at inside h k =
    ap (λ (xs : List (Option ℕ)). first_at xs s) k
    ∙ lowered_at (clocked_data m) (n + i) cur s inside
    ∙ split (is_among (clocked_data m) s) (first_memory (take i ms) s) h (subst (λ l. IsPlace l (first_memory (take i ms) s)) size (memory_place (take i ms) s))
    ∙ ap (λ o. lesser (first_at old s) (option_map (λ (k : ℕ). n + k) o)) (sym whole)
  where
    size : length (take i ms) ≡ i
    size = take_length ms i m at

    whole : first_memory (take (i + 1) ms) s ≡ first_of (first_memory (take i ms) s) (cond (is_among (clocked_data m) s) (Some i) None)
    whole =
        ap (λ (xs : List Memory). first_memory xs s) (take-push ms i m at)
        ∙ first_memory-push (take i ms) m s
        ∙ ap (λ j. first_of (first_memory (take i ms) s) (cond (is_among (clocked_data m) s) (Some j) None)) size

    just : (o : Option ℕ) → lesser o None ≡ o
    just None = refl
    just (Some x) = refl

    split : (c : Bool) (o : Option ℕ) → first_at cur s ≡ lesser (first_at old s) (option_map (λ (k : ℕ). n + k) o) → IsPlace i o
        → cond c (lesser (first_at cur s) (Some (n + i))) (first_at cur s) ≡ lesser (first_at old s) (option_map (λ (k : ℕ). n + k) (first_of o (cond c (Some i) None)))
    split true None e p = ap (λ o. lesser o (Some (n + i))) (e ∙ just (first_at old s))
    split false None e p = e
    split true (Some j) e p = ap (λ o. lesser o (Some (n + i))) e ∙ lesser_again (first_at old s) (n + j) (n + i) (omega (arith, p))
    split false (Some j) e p = e

-- the clocked ones of some read ports

abbrev pub clocked_words : List MemRead → List ℕ
clocked_words reads = map (λ (r : MemRead). r.word.0) (filter (λ (r : MemRead). is_some r.domain) reads)

pub clocked-append : (xs ys : List MemRead) → clocked_words (xs ++ ys) ≡ clocked_words xs ++ clocked_words ys
clocked-append xs ys =
    ap (map (λ (r : MemRead). r.word.0)) (filter-append (λ (r : MemRead). is_some r.domain) xs ys)
    ∙ map-append (λ (r : MemRead). r.word.0) (filter (λ (r : MemRead). is_some r.domain) xs) (filter (λ (r : MemRead). is_some r.domain) ys)

pub clocked_yes : (r : MemRead) → is_some r.domain ≡ true → clocked_words (r ∷ []) ≡ r.word.0 ∷ []
clocked_yes r e = ap (λ b. map (λ (r : MemRead). r.word.0) (cond b (r ∷ []) [])) e

pub clocked_no : (r : MemRead) → is_some r.domain ≡ false → clocked_words (r ∷ []) ≡ []
clocked_no r e = ap (λ b. map (λ (r : MemRead). r.word.0) (cond b (r ∷ []) [])) e

-- the data of each memory's read ports are signals
pub data_at : (P : ℕ → Type 0) (ms : List Memory) (i : ℕ) (m : Memory) → AllByRecursion P (data_signals ms) → slice_get ms i ≡ Some m → AllByRecursion (λ (r : MemRead). P r.word.0) m.reads
data_at P [] i m h e = cc
data_at P (x ∷ ms) zero m h e =
    let same : x ≡ m = cc in
    subst (λ (m : Memory). AllByRecursion (λ (r : MemRead). P r.word.0) m.reads) same (all_unmapped P (λ (r : MemRead). r.word.0) x.reads (all_left P (words x.reads) (data_signals ms) h))
data_at P (x ∷ ms) (suc i) m h e = data_at P ms i m (all_right P (words x.reads) (data_signals ms) h) e

pub clocked_inside : (P : ℕ → Type 0) (reads : List MemRead) → AllByRecursion (λ (r : MemRead). P r.word.0) reads → AllByRecursion P (clocked_words reads)
clocked_inside P reads h = all_mapped P (λ (r : MemRead). r.word.0) (filter (λ (r : MemRead). is_some r.domain) reads) (all_filtered (λ (r : MemRead). P r.word.0) (λ (r : MemRead). is_some r.domain) reads h)
