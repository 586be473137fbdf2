-- The data of a combinational read port is nothing that a state gives.
use Rattle.std.specs.Prelude.{◌≡◌, refl, ℕ, zero, suc, ◌==◌, ◌&&◌, ◌||◌, Bool, true, false, IsTrue, is_none, is_some, List, [], ◌∷◌, ◌++◌, map, slice_get, Option, Some, None}
use Rattle.std.specs.List.{AllByRecursion, list_any, flat_map, IsDistinct}
use Rattle.std.proofs.Common.{sym, ◌∙◌, ap, subst, ⊎_elim}
use Rattle.std.proofs.lemmas.Bool.{cases_Bool, eq-eqb, eqb-true, false≢true, or_parts}
use Rattle.std.proofs.lemmas.Map.Keys.{IsDistinct-tail, IsDistinct-head}
use Rattle.design_ir.specs.declared.memory.MemRead.{MemRead}
use Rattle.design_ir.specs.declared.memory.Memory.{Memory}
use Rattle.design_ir.specs.declared.port.Port.{Port}
use Rattle.design_ir.specs.declared.process.DesignProcess.{DesignProcess}
use Rattle.design_ir.specs.Circuits.{Circuit, is_among, is_input, is_held}
use Rattle.design_ir.specs.Designs.{IsDesign, share, drivers}
use Rattle.design_ir.specs.Guards.{driven}
use Rattle.comb_graph.specs.Orders.{is_comb}
use Rattle.sim_plans.proofs.Agrees.{left, right}
use Rattle.sim_plans.proofs.CombPorts.{all_ports, stands, port_alone, ports_found}
use Rattle.sim_plans.proofs.PortValues.{distinct_rest}
use Rattle.sim_plans.proofs.TaskValues.{not_held}
use Rattle.sim_plans.proofs.Walks.{all_parts}

none_or : (a b : Bool) → a ≡ false → b ≡ false → (a || b) ≡ false
none_or true b e h = e
none_or false b e h = h

and_none : (a b : Bool) → b ≡ false → (a && b) ≡ false
and_none true b e = e
and_none false b e = refl

none_and : (a b : Bool) → a ≡ false → (a && b) ≡ false
none_and true b e = absurd (false≢true (sym e))
none_and false b e = refl

and_left : (a b : Bool) → (a && b) ≡ true → a ≡ true
and_left true b e = refl
and_left false b e = e

and_right : (a b : Bool) → (a && b) ≡ true → b ≡ true
and_right true b e = e
and_right false b e = absurd (false≢true e)

or_cases : {A : Type 0} (a b : Bool) → (a || b) ≡ true → (a ≡ true → A) → (b ≡ true → A) → A
or_cases true b e f g = f refl
or_cases false b e f g = g e

abbrev words_in : List MemRead → List (List ℕ)
words_in rs = map (λ (r : MemRead). r.word.0 ∷ []) rs

abbrev words : List Memory → List (List ℕ)
words ms = flat_map (λ (m : Memory). map (λ (r : MemRead). r.word.0 ∷ []) m.reads) ms

abbrev Apart : ℕ → List (List ℕ) → Type 0
Apart s ws = AllByRecursion (λ w. share (s ∷ []) w ≡ false) ws

apart_word : (s n : ℕ) → share (s ∷ []) (n ∷ []) ≡ false → (n == s) ≡ false
apart_word s n e = (or_parts (n == s) false (or_parts ((n == s) || false) false e).0).0

-- the word of a port is among the words
word_in : (P : List ℕ → Type 0) (rs : List MemRead) (i : ℕ) (r : MemRead) → AllByRecursion P (words_in rs) → slice_get rs i ≡ Some r → P (r.word.0 ∷ [])
word_in P [] i r h e = cc
word_in P (x ∷ rs) zero r h e = let same : x ≡ r = cc in subst (λ (y : MemRead). P (y.word.0 ∷ [])) same h.0
word_in P (x ∷ rs) (suc i) r h e = word_in P rs i r h.1 e

word_of : (P : List ℕ → Type 0) (ms : List Memory) (k i : ℕ) (m : Memory) (r : MemRead) → AllByRecursion P (words ms) → slice_get ms k ≡ Some m → slice_get m.reads i ≡ Some r → P (r.word.0 ∷ [])
word_of P [] k i m r h e at = cc
word_of P (y ∷ ms) zero i m r h e at =
    let same : y ≡ m = cc in
    word_in P y.reads i r (all_parts P (words_in y.reads) (words ms) h).0 (ap (λ (z : Memory). slice_get z.reads i) same ∙ at)
word_of P (y ∷ ms) (suc k) i m r h e at = word_of P ms k i m r (all_parts P (words_in y.reads) (words ms) h).1 e at

module _ (s : ℕ) where
  abbrev is_clocked : MemRead → Bool
  is_clocked r = is_some r.domain && (r.word.0 == s)

  none_in : (rs : List MemRead) → Apart s (words_in rs) → list_any is_clocked rs ≡ false
  none_in [] h = refl
  none_in (r ∷ rs) h = none_or (is_clocked r) (list_any is_clocked rs) (and_none (is_some r.domain) (r.word.0 == s) (apart_word s r.word.0 h.0)) (none_in rs h.1)

  none_of : (ms : List Memory) → Apart s (words ms) → list_any (λ (m : Memory). list_any is_clocked m.reads) ms ≡ false
  none_of [] h = refl
  none_of (m ∷ ms) h =
      let p = all_parts (λ w. share (s ∷ []) w ≡ false) (words_in m.reads) (words ms) h in
      none_or (list_any is_clocked m.reads) (list_any (λ (x : Memory). list_any is_clocked x.reads) ms) (none_in m.reads p.0) (none_of ms p.1)

  -- no other port of its memory has the data, and no port of a later one
  in_reads : (rs : List MemRead) (more : List (List ℕ)) (i : ℕ) (r : MemRead) → IsDistinct share (words_in rs ++ more) → slice_get rs i ≡ Some r → r.domain ≡ None → r.word.0 ≡ s → (list_any is_clocked rs ≡ false) × Apart s more
  in_reads [] more i r d e comb is = cc
  in_reads (x ∷ rs) more zero r d e comb is =
      let same : x ≡ r = cc in
      let head = subst (λ n. Apart n (words_in rs ++ more)) (ap (λ (y : MemRead). y.word.0) same ∙ is) (IsDistinct-head share (x.word.0 ∷ []) (words_in rs ++ more) d) in
      let p = all_parts (λ w. share (s ∷ []) w ≡ false) (words_in rs) more head in
      (none_or (is_clocked x) (list_any is_clocked rs) (none_and (is_some x.domain) (x.word.0 == s) (ap (λ (y : MemRead). is_some y.domain) same ∙ ap is_some comb)) (none_in rs p.0), p.1)
  in_reads (x ∷ rs) more (suc i) r d e comb is =
      let q = in_reads rs more i r (IsDistinct-tail share (x.word.0 ∷ []) (words_in rs ++ more) d) e comb is in
      let head = (all_parts (λ w. share (x.word.0 ∷ []) w ≡ false) (words_in rs) more (IsDistinct-head share (x.word.0 ∷ []) (words_in rs ++ more) d)).0 in
      (none_or (is_clocked x) (list_any is_clocked rs) (and_none (is_some x.domain) (x.word.0 == s) (before x.word.0 r.word.0 is (word_in (λ w. share (x.word.0 ∷ []) w ≡ false) rs i r head e))) q.0, q.1)
    where
      before : (n m : ℕ) → m ≡ s → share (n ∷ []) (m ∷ []) ≡ false → (n == s) ≡ false
      before n m f h =
          let apart = apart_word n m h in
          ⊎_elim (λ (t : (n == s) ≡ true). absurd (false≢true (sym apart ∙ eq-eqb m n (f ∙ sym (eqb-true n s t))))) (λ (t : (n == s) ≡ false). t) (cases_Bool (n == s))

  -- a port of a later memory has other data
  before_reads : (rs : List MemRead) (ms : List Memory) (k i : ℕ) (m : Memory) (r : MemRead) → IsDistinct share (words_in rs ++ words ms) → slice_get ms k ≡ Some m → slice_get m.reads i ≡ Some r → r.word.0 ≡ s → list_any is_clocked rs ≡ false
  before_reads [] ms k i m r d e at is = refl
  before_reads (x ∷ rs) ms k i m r d e at is =
      let head = (all_parts (λ w. share (x.word.0 ∷ []) w ≡ false) (words_in rs) (words ms) (IsDistinct-head share (x.word.0 ∷ []) (words_in rs ++ words ms) d)).1 in
      let apart = apart_word x.word.0 r.word.0 (word_of (λ w. share (x.word.0 ∷ []) w ≡ false) ms k i m r head e at) in
      let other : (x.word.0 == s) ≡ false = ⊎_elim (λ (t : (x.word.0 == s) ≡ true). absurd (false≢true (sym apart ∙ eq-eqb r.word.0 x.word.0 (is ∙ sym (eqb-true x.word.0 s t))))) (λ (t : (x.word.0 == s) ≡ false). t) (cases_Bool (x.word.0 == s)) in
      none_or (is_clocked x) (list_any is_clocked rs) (and_none (is_some x.domain) (x.word.0 == s) other) (before_reads rs ms k i m r (IsDistinct-tail share (x.word.0 ∷ []) (words_in rs ++ words ms) d) e at is)

  none_clocked : (ms : List Memory) (k i : ℕ) (m : Memory) (r : MemRead) → IsDistinct share (words ms) → slice_get ms k ≡ Some m → slice_get m.reads i ≡ Some r → r.domain ≡ None → r.word.0 ≡ s → list_any (λ (x : Memory). list_any is_clocked x.reads) ms ≡ false
  none_clocked [] k i m r d e at comb is = cc
  none_clocked (y ∷ ms) zero i m r d e at comb is =
      let same : y ≡ m = cc in
      let q = in_reads y.reads (words ms) i r d (ap (λ (z : Memory). slice_get z.reads i) same ∙ at) comb is in
      none_or (list_any is_clocked y.reads) (list_any (λ (x : Memory). list_any is_clocked x.reads) ms) q.0 (none_of ms q.1)
  none_clocked (y ∷ ms) (suc k) i m r d e at comb is =
      none_or (list_any is_clocked y.reads) (list_any (λ (x : Memory). list_any is_clocked x.reads) ms) (before_reads y.reads ms k i m r d e at is) (none_clocked ms k i m r (distinct_rest (words_in y.reads) (words ms) d) e at comb is)

any_back : (P : List ℕ → Bool) (xs ys : List (List ℕ)) → list_any P ys ≡ true → list_any P (xs ++ ys) ≡ true
any_back P [] ys h = h
any_back P (x ∷ xs) ys h = right (P x) (list_any P (xs ++ ys)) (any_back P xs ys h)

any_front : (P : List ℕ → Bool) (xs ys : List (List ℕ)) → list_any P xs ≡ true → list_any P (xs ++ ys) ≡ true
any_front P [] ys h = absurd (false≢true h)
any_front P (x ∷ xs) ys h = or_cases (P x) (list_any P xs) h (λ t. left (P x) (list_any P (xs ++ ys)) t) (λ t. right (P x) (list_any P (xs ++ ys)) (any_front P xs ys t))

any_word : (P : List ℕ → Bool) (rs : List MemRead) (i : ℕ) (r : MemRead) → slice_get rs i ≡ Some r → P (r.word.0 ∷ []) ≡ true → list_any P (words_in rs) ≡ true
any_word P [] i r e h = cc
any_word P (x ∷ rs) zero r e h = let same : x ≡ r = cc in left (P (x.word.0 ∷ [])) (list_any P (words_in rs)) (ap (λ (y : MemRead). P (y.word.0 ∷ [])) same ∙ h)
any_word P (x ∷ rs) (suc i) r e h = right (P (x.word.0 ∷ [])) (list_any P (words_in rs)) (any_word P rs i r e h)

any_words : (P : List ℕ → Bool) (ms : List Memory) (k i : ℕ) (m : Memory) (r : MemRead) → slice_get ms k ≡ Some m → slice_get m.reads i ≡ Some r → P (r.word.0 ∷ []) ≡ true → list_any P (words ms) ≡ true
any_words P [] k i m r e at h = cc
any_words P (y ∷ ms) zero i m r e at h =
    let same : y ≡ m = cc in
    any_front P (words_in y.reads) (words ms) (any_word P y.reads i r (ap (λ (z : Memory). slice_get z.reads i) same ∙ at) h)
any_words P (y ∷ ms) (suc k) i m r e at h = any_back P (words_in y.reads) (words ms) (any_words P ms k i m r e at h)

module _ (c : Circuit) (design : IsDesign c) where
  abbrev own : List (List ℕ)
  own = map (λ (p : DesignProcess). driven c.pool p.body) c.processes

  port_held : (i : ℕ) (x : ℕ × MemRead) → slice_get (all_ports c design) i ≡ Some x → is_held c x.1.word.0 ≡ false
  port_held i x is =
      let v = stands c design i x is in
      let s : ℕ = x.1.word.0 in
      none_or (is_input c s) _ (no_input c.ports design.no_driven_input)
      (none_or _ _ (no_process c.processes (λ k q at. port_alone c design i x is k q at))
      (none_clocked s c.memories v.k v.i v.m x.1 (distinct_rest own (words c.memories) design.one_driver) v.memory v.port v.comb refl))
    where
      is_driver : list_any (λ ss. is_among ss x.1.word.0) (drivers c) ≡ true
      is_driver =
          let v = stands c design i x is in
          any_back (λ ss. is_among ss x.1.word.0) own (words c.memories) (any_words (λ ss. is_among ss x.1.word.0) c.memories v.k v.i v.m x.1 v.memory v.port (left (x.1.word.0 == x.1.word.0) false (eq-eqb x.1.word.0 x.1.word.0 refl)))

      one : (p : Port) → (IsTrue p.is_input → list_any (λ ss. is_among ss p.sig.0) (drivers c) ≡ false) → (p.is_input && (p.sig.0 == x.1.word.0)) ≡ false
      one p free =
          ⊎_elim
          (λ (t : (p.is_input && (p.sig.0 == x.1.word.0)) ≡ true).
          let e = eqb-true p.sig.0 x.1.word.0 (and_right p.is_input (p.sig.0 == x.1.word.0) t) in
          absurd (false≢true (sym (free (and_left p.is_input (p.sig.0 == x.1.word.0) t)) ∙ ap (λ n. list_any (λ ss. is_among ss n) (drivers c)) e ∙ is_driver)))
          (λ (t : (p.is_input && (p.sig.0 == x.1.word.0)) ≡ false). t)
          (cases_Bool (p.is_input && (p.sig.0 == x.1.word.0)))

      no_input : (ps : List Port) → AllByRecursion (λ (p : Port). IsTrue p.is_input → list_any (λ ss. is_among ss p.sig.0) (drivers c) ≡ false) ps → list_any (λ (p : Port). p.is_input && (p.sig.0 == x.1.word.0)) ps ≡ false
      no_input [] h = refl
      no_input (p ∷ ps) h = none_or (p.is_input && (p.sig.0 == x.1.word.0)) _ (one p h.0) (no_input ps h.1)

      no_process : (ps : List DesignProcess) → ((k : ℕ) (q : DesignProcess) → slice_get ps k ≡ Some q → is_among (driven c.pool q.body) x.1.word.0 ≡ false) → list_any (λ (p : DesignProcess). is_some p.domain && is_among (driven c.pool p.body) x.1.word.0) ps ≡ false
      no_process [] h = refl
      no_process (p ∷ ps) h = none_or (is_some p.domain && is_among (driven c.pool p.body) x.1.word.0) _ (and_none (is_some p.domain) (is_among (driven c.pool p.body) x.1.word.0) (h 0 p refl)) (no_process ps (λ k q at. h (suc k) q at))

  -- a combinational signal is not held
  pub comb_free : (s : ℕ) → is_comb c s ≡ true → is_held c s ≡ false
  comb_free s comb =
      or_cases (list_any (is_drive s) c.processes) _ comb
      (λ h. let r = any_place (is_drive s) c.processes h in
      not_held c design r.0 r.1 s r.2 (comb_of r.1.domain (and_left _ (is_among (driven c.pool r.1.body) s) r.3)) (and_right _ (is_among (driven c.pool r.1.body) s) r.3))
      (λ h. let r = ports_found s 0 c.memories h in subst (λ n. is_held c n ≡ false) r.3 (port_held r.0 r.1 r.2))
    where
      is_drive : ℕ → DesignProcess → Bool
      is_drive s p = is_none p.domain && is_among (driven c.pool p.body) s

      comb_of : {A : Type 0} (o : Option A) → is_none o ≡ true → o ≡ None
      comb_of None e = refl
      comb_of (Some x) e = absurd (false≢true e)

      any_place : (P : DesignProcess → Bool) (ps : List DesignProcess) → list_any P ps ≡ true → (k : ℕ) × (p : DesignProcess) × (slice_get ps k ≡ Some p) × (P p ≡ true)
      any_place P [] h = absurd (false≢true h)
      any_place P (p ∷ ps) h = or_cases (P p) (list_any P ps) h (λ t. (0, p, refl, t)) (λ t. let r = any_place P ps t in (suc r.0, r.1, r.2, r.3))
