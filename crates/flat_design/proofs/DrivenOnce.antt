-- A signal that a process drives is driven by nothing else: it is held where the process is clocked, and comb where not.
use Rattle.std.specs.Prelude.{◌≡◌, refl, ℕ, suc, zero, ◌+◌, ◌<◌, ◌&&◌, ◌||◌, ◌==◌, Bool, true, false, if◌then◌else◌, is_some, is_none, IsTrue, List, [], ◌∷◌, ◌++◌, map, length, slice_get, pos, Option, Some, None, option_map, unwrap_or, Contains}
use Rattle.std.specs.List.{list_any, flat_map, AllByRecursion, IsDistinct}
use Rattle.std.proofs.Common.{sym, ◌∙◌, ap, arith, subst, ⊎_elim}
use Rattle.std.proofs.lemmas.Bool.{false≢true, or_parts, eqb-true, cases_Bool}
use Rattle.std.proofs.lemmas.List.Elements.{Contains-append_left}
use Rattle.std.proofs.lemmas.Map.Keys.{IsDistinct-tail, IsDistinct-head}
use Rattle.design_ir.specs.declared.memory.MemRead.{MemRead}
use Rattle.design_ir.specs.declared.memory.Memory.{Memory}
use Rattle.design_ir.specs.declared.port.Port.{Port}
use Rattle.design_ir.specs.declared.process.DesignProcess.{DesignProcess}
use Rattle.design_ir.specs.declared.signal.Sig.{Sig}
use Rattle.design_ir.specs.Guards.{driven}
use Rattle.design_ir.specs.Designs.{IsDesign, share, drivers}
use Rattle.design_ir.specs.Circuits.{Circuit, State, at, is_among, is_input, is_register, is_held}
use Rattle.design_ir.specs.Settled.{starts}
use Rattle.design_ir.proofs.Elements.{any_has, any_of, map_has}
use Rattle.comb_graph.specs.Orders.{is_comb}
use Rattle.flat_design.proofs.FlatOrders.{all_of}
use Rattle.flat_design.proofs.FlatRounds.{has_it, IsAlone, alone}

-- ---- tests

or_none : (a b : Bool) → a ≡ false → b ≡ false → (a || b) ≡ false
or_none true b e h = e
or_none false b e h = h

or_second : (a b : Bool) → b ≡ true → (a || b) ≡ true
or_second true b e = refl
or_second false b e = e

or_first : (a b : Bool) → a ≡ true → (a || b) ≡ true
or_first true b e = refl
or_first false b e = absurd (false≢true e)

and_first : (a b : Bool) → (a && b) ≡ true → a ≡ true
and_first true b e = refl
and_first false b e = e

and_second : (a b : Bool) → (a && b) ≡ true → b ≡ true
and_second true b e = e
and_second false b e = absurd (false≢true e)

and_both : (a b : Bool) → a ≡ true → b ≡ true → (a && b) ≡ true
and_both true b e h = h
and_both false b e h = e

pub none_is : {A : Type 0} (o : Option A) → is_none o ≡ true → is_some o ≡ false
none_is None e = refl
none_is (Some x) e = absurd (false≢true e)

pub some_is : {A : Type 0} (o : Option A) → is_some o ≡ true → is_none o ≡ false
some_is None e = absurd (false≢true e)
some_is (Some x) e = refl

-- ---- lists that are distinct

distinct_left : (xs ys : List (List ℕ)) → IsDistinct share (xs ++ ys) → IsDistinct share xs
unfolding IsDistinct
distinct_left [] ys d = tt
distinct_left (x ∷ xs) ys d = (left xs (IsDistinct-head share x (xs ++ ys) d), distinct_left xs ys (IsDistinct-tail share x (xs ++ ys) d))
  where
    left : (zs : List (List ℕ)) → AllByRecursion (λ z. share x z ≡ false) (zs ++ ys) → AllByRecursion (λ z. share x z ≡ false) zs
    left [] h = tt
    left (z ∷ zs) h = (h.0, left zs h.1)

module _ (s : ℕ) (kind : MemRead → Bool) where
  ports_none : (rs : List MemRead) → list_any (has_it s) (map (λ (r : MemRead). r.word.0 ∷ []) rs) ≡ false → list_any (λ (r : MemRead). kind r && (r.word.0 == s)) rs ≡ false
  ports_none [] e = refl
  ports_none (r ∷ rs) e =
      let parts = or_parts ((r.word.0 == s) || false) (list_any (has_it s) (map (λ (x : MemRead). x.word.0 ∷ []) rs)) e in
      let here = or_parts (r.word.0 == s) false parts.0 in
      or_none (kind r && (r.word.0 == s)) (list_any (λ (x : MemRead). kind x && (x.word.0 == s)) rs) (ap (λ b. kind r && b) here.0 ∙ and_false (kind r)) (ports_none rs parts.1)
    where
      and_false : (b : Bool) → (b && false) ≡ false
      and_false true = refl
      and_false false = refl

  any_split : (xs ys : List (List ℕ)) → list_any (has_it s) (xs ++ ys) ≡ false → (list_any (has_it s) xs ≡ false) × (list_any (has_it s) ys ≡ false)
  any_split [] ys e = (refl, e)
  any_split (x ∷ xs) ys e =
      let parts = or_parts (has_it s x) (list_any (has_it s) (xs ++ ys)) e in
      let r = any_split xs ys parts.1 in
      (or_none (has_it s x) (list_any (has_it s) xs) parts.0 r.0, r.1)

  words_none : (ms : List Memory) → list_any (has_it s) (flat_map (λ (m : Memory). map (λ (r : MemRead). r.word.0 ∷ []) m.reads) ms) ≡ false → list_any (λ (m : Memory). list_any (λ (r : MemRead). kind r && (r.word.0 == s)) m.reads) ms ≡ false
  words_none [] e = refl
  words_none (m ∷ ms) e =
      let parts = any_split (map (λ (r : MemRead). r.word.0 ∷ []) m.reads) (flat_map (λ (x : Memory). map (λ (r : MemRead). r.word.0 ∷ []) x.reads) ms) e in
      or_none (list_any (λ (r : MemRead). kind r && (r.word.0 == s)) m.reads) (list_any (λ (x : Memory). list_any (λ (r : MemRead). kind r && (r.word.0 == s)) x.reads) ms) (ports_none m.reads parts.0) (words_none ms parts.1)

-- ---- a process and a signal that it drives

module _ (c : Circuit) (design : IsDesign c) where
  abbrev own : DesignProcess → List ℕ
  own p = driven c.pool p.body

  abbrev words : List (List ℕ)
  words = flat_map (λ (m : Memory). map (λ (r : MemRead). r.word.0 ∷ []) m.reads) c.memories

  pub processes_distinct : IsDistinct share (map (λ (p : DesignProcess). driven c.pool p.body) c.processes)
  processes_distinct = distinct_left (map own c.processes) words design.one_driver

  module _ (o : DesignProcess) (among : Contains c.processes o) (s : ℕ) (here : is_among (driven c.pool o.body) s ≡ true) where
    no_input : is_input c s ≡ false
    no_input = ⊎_elim
        (λ (e : is_input c s ≡ true).
        let r = any_of (λ (p : Port). p.is_input && (p.sig.0 == s)) c.ports e in
        let free = all_of (λ (p : Port). IsTrue p.is_input → list_any (λ ss. is_among ss p.sig.0) (drivers c) ≡ false) c.ports r.0 design.no_driven_input r.1 (and_first r.0.is_input (r.0.sig.0 == s) r.2) in
        let none : list_any (has_it s) (drivers c) ≡ false = subst (λ t. list_any (λ ss. is_among ss t) (drivers c) ≡ false) (eqb-true r.0.sig.0 s (and_second r.0.is_input (r.0.sig.0 == s) r.2)) free in
        absurd (false≢true (sym none ∙ any_has (has_it s) (drivers c) (own o) (Contains-append_left (map own c.processes) words (own o) (map_has own c.processes o among)) here)))
        (λ (e : is_input c s ≡ false). e) (cases_Bool (is_input c s))

    alone_kind : (kind : DesignProcess → Bool) → kind o ≡ false → IsAlone s own kind c.processes words
    alone_kind kind e = alone s own kind c.processes words o design.one_driver among here e

    pub unheld : is_none o.domain ≡ true → is_held c s ≡ false
    unheld comb =
        let a = alone_kind (λ p. is_some p.domain) (none_is o.domain comb) in
        or_none (is_input c s) (is_register c s) no_input (or_none _ _ a.kinds (words_none s (λ r. is_some r.domain) c.memories a.rest))

    pub uncomb : is_some o.domain ≡ true → is_comb c s ≡ false
    uncomb clocked =
        let a = alone_kind (λ p. is_none p.domain) (some_is o.domain clocked) in
        or_none _ _ a.kinds (words_none s (λ r. is_none r.domain) c.memories a.rest)

    pub held : is_some o.domain ≡ true → is_held c s ≡ true
    held clocked =
        or_second (is_input c s) (is_register c s)
        (or_first _ _ (any_has (λ (p : DesignProcess). is_some p.domain && is_among (driven c.pool p.body) s) c.processes o among (and_both (is_some o.domain) (is_among (driven c.pool o.body) s) clocked here)))

-- ---- where a round starts

module _ (c : Circuit) (st : State) where
  pub starts_free : (a : ℕ) (xs : List Sig) (k : ℕ) → is_held c (a + k) ≡ false → at (starts c st a xs) k ≡ unwrap_or (option_map (λ (x : Sig). x.init) (slice_get xs k)) (pos 0)
  starts_free a [] k e = refl
  starts_free a (x ∷ xs) zero e = let i : a + 0 ≡ a = omega arith in ap (λ b. if b then at st.held a else x.init) (subst (λ n. is_held c n ≡ false) i e)
  starts_free a (x ∷ xs) (suc k) e = let i : a + suc k ≡ suc a + k = omega arith in starts_free (suc a) xs k (subst (λ n. is_held c n ≡ false) i e)

  pub starts_held : (a : ℕ) (xs : List Sig) (k : ℕ) → k < length xs → is_held c (a + k) ≡ true → at (starts c st a xs) k ≡ at st.held (a + k)
  starts_held a [] k there e = absurd (omega (arith, there))
  starts_held a (x ∷ xs) zero there e =
      let i : a + 0 ≡ a = omega arith in ap (λ b. if b then at st.held a else x.init) (subst (λ n. is_held c n ≡ true) i e) ∙ ap (λ n. at st.held n) (sym i)
  starts_held a (x ∷ xs) (suc k) there e =
      let i : a + suc k ≡ suc a + k = omega arith in starts_held (suc a) xs k (omega (arith, there)) (subst (λ n. is_held c n ≡ true) i e) ∙ ap (λ n. at st.held n) (sym i)
