-- What a delta leaves in a signal that a combinational process drives: what its process leaves from the signal's init.
use Rattle.std.specs.Prelude.{◌≡◌, ◌≢◌, refl, ℕ, zero, suc, ◌+◌, ◌||◌, ◌&&◌, ◌==◌, cond, if◌then◌else◌, Bool, true, false, IsTrue, is_none, is_some, List, [], ◌∷◌, ◌++◌, map, length, slice_get, ℤ, Option, Some, None, fold}
use Rattle.std.specs.List.{AllByRecursion, list_any, flat_map, IsDistinct}
use Rattle.std.proofs.Common.{sym, ◌∙◌, ap, arith, subst, ⊎_elim}
use Rattle.std.proofs.lemmas.Bool.{false≢true, or_parts, cases_Bool, eqb-true, cases_eq}
use Rattle.std.proofs.lemmas.Map.Keys.{IsDistinct-tail, IsDistinct-head}
use Rattle.design_ir.specs.declared.ids.DomainId.{DomainId}
use Rattle.design_ir.specs.declared.memory.MemRead.{MemRead}
use Rattle.design_ir.specs.declared.memory.Memory.{Memory}
use Rattle.design_ir.specs.declared.port.Port.{Port}
use Rattle.design_ir.specs.declared.process.DesignProcess.{DesignProcess}
use Rattle.design_ir.specs.declared.signal.Sig.{Sig}
use Rattle.design_ir.specs.Circuits.{Circuit, State, at, is_among, is_input, is_register, is_held}
use Rattle.design_ir.specs.Designs.{IsDesign, share, drivers}
use Rattle.design_ir.specs.Guards.{driven}
use Rattle.design_ir.specs.Pools.{Pooled}
use Rattle.design_ir.specs.Put.{put}
use Rattle.design_ir.specs.Settled.{starts, comb_process, delta}
use Rattle.design_ir.proofs.PutLaws.{put_length, put_other}
use Rattle.comb_graph.proofs.DeltaBits.{processes_other}
use Rattle.comb_graph.proofs.ReadBits.{reads_other}
use Rattle.sim_plans.proofs.Frames.{put_frame}
use Rattle.sim_plans.proofs.Walks.{all_parts}

-- ---- tests

none_or : (a b : Bool) → a ≡ false → b ≡ false → (a || b) ≡ false
none_or true b e h = e
none_or false b e h = h

and_none : (a b : Bool) → b ≡ false → (a && b) ≡ false
and_none true b e = e
and_none false b e = refl

none_and : (a b : Bool) → a ≡ false → (a && b) ≡ false
none_and true b e = absurd (false≢true (sym e))
none_and false b e = refl

-- what is in no list of those that it shares nothing with
share_none : (xs ys : List ℕ) (s : ℕ) → share xs ys ≡ false → is_among xs s ≡ true → is_among ys s ≡ false
share_none [] ys s e h = absurd (false≢true h)
share_none (x ∷ xs) ys s e h =
    let parts = or_parts (is_among ys x) (share xs ys) e in
    ⊎_elim
    (λ (is : (x == s) ≡ true). subst (λ k. is_among ys k ≡ false) (eqb-true x s is) parts.0)
    (λ (is : (x == s) ≡ false). share_none xs ys s parts.1 (sym (ap (λ b. b || is_among xs s) is) ∙ h))
    (cases_Bool (x == s))

share_back : (xs ys : List ℕ) (s : ℕ) → share xs ys ≡ false → is_among ys s ≡ true → is_among xs s ≡ false
share_back xs ys s e h = other (is_among xs s) refl
  where
    other : (t : Bool) → is_among xs s ≡ t → t ≡ false
    other true is = absurd (false≢true (sym (share_none xs ys s e is) ∙ h))
    other false is = refl

-- ---- processes that share nothing

module _ (own : DesignProcess → List ℕ) (s : ℕ) where
  -- no other process has the signal
  abbrev Others : List DesignProcess → ℕ → Type 0
  Others ps k = (j : ℕ) (r : DesignProcess) → slice_get ps j ≡ Some r → j ≢ k → is_among (own r) s ≡ false

  all_at : (P : List ℕ → Type 0) (ps : List DesignProcess) (more : List (List ℕ)) (j : ℕ) (r : DesignProcess) → AllByRecursion P (map own ps ++ more) → slice_get ps j ≡ Some r → P (own r)
  all_at P [] more j r h is = cc
  all_at P (p ∷ ps) more zero r h is = let same : p ≡ r = cc in subst (λ x. P (own x)) same h.0
  all_at P (p ∷ ps) more (suc j) r h is = all_at P ps more j r h.1 is

  others : (ps : List DesignProcess) (more : List (List ℕ)) (k : ℕ) (q : DesignProcess) → IsDistinct share (map own ps ++ more) → slice_get ps k ≡ Some q → is_among (own q) s ≡ true → Others ps k
  others [] more k q d is here j r there apart = cc
  others (p ∷ ps) more zero q d is here zero r there apart = absurd (apart refl)
  others (p ∷ ps) more zero q d is here (suc j) r there apart =
      let same : p ≡ q = cc in
      let none = all_at (λ y. share (own p) y ≡ false) ps more j r (IsDistinct-head share (own p) (map own ps ++ more) d) there in
      share_none (own p) (own r) s none (subst (λ x. is_among (own x) s ≡ true) (sym same) here)
  others (p ∷ ps) more (suc k) q d is here zero r there apart =
      let same : p ≡ r = cc in
      let none = all_at (λ y. share (own p) y ≡ false) ps more k q (IsDistinct-head share (own p) (map own ps ++ more) d) is in
      subst (λ x. is_among (own x) s ≡ false) same (share_back (own p) (own q) s none here)
  others (p ∷ ps) more (suc k) q d is here (suc j) r there apart =
      others ps more k q (IsDistinct-tail share (own p) (map own ps ++ more) d) is here j r there (λ e. apart (ap suc e))

  none_among : (P : DesignProcess → Bool) (ps : List DesignProcess) → ((j : ℕ) (r : DesignProcess) → slice_get ps j ≡ Some r → P r ≡ false) → list_any P ps ≡ false
  none_among P [] h = refl
  none_among P (p ∷ ps) h = none_or (P p) (list_any P ps) (h 0 p refl) (none_among P ps (λ j r is. h (suc j) r is))

-- ---- what all combinational processes leave in a signal of one

module _ (pool : Pooled) (env : List ℤ) (s : ℕ) where
  comb_other : (cur : List ℤ) (r : DesignProcess) → is_among (driven pool r.body) s ≡ false → at (comb_process pool env cur r) s ≡ at cur s
  comb_other cur r e = either (is_none r.domain) (put_other pool env r.body cur s e)
    where
      either : (t : Bool) → at (put pool env r.body cur) s ≡ at cur s → at (cond t (put pool env r.body cur) cur) s ≡ at cur s
      either true h = h
      either false h = refl

  comb_long : (cur : List ℤ) (r : DesignProcess) → length (comb_process pool env cur r) ≡ length cur
  comb_long cur r = either (is_none r.domain)
    where
      either : (t : Bool) → length (cond t (put pool env r.body cur) cur) ≡ length cur
      either true = put_length pool env r.body cur
      either false = refl

  comb_here : (cur : List ℤ) (r : DesignProcess) → r.domain ≡ None → comb_process pool env cur r ≡ put pool env r.body cur
  comb_here cur r e = ap (λ (d : Option DomainId). cond (is_none d) (put pool env r.body cur) cur) e

  combs_at : (ps : List DesignProcess) (k : ℕ) (q : DesignProcess) (cur : List ℤ) → slice_get ps k ≡ Some q → q.domain ≡ None → Others (λ (r : DesignProcess). driven pool r.body) s ps k
      → at (fold (comb_process pool env) cur ps) s ≡ at (put pool env q.body cur) s
  combs_at [] k q cur is comb apart = cc
  combs_at (p ∷ ps) zero q cur is comb apart =
      let same : p ≡ q = cc in
      let none = none_among (λ (r : DesignProcess). driven pool r.body) s (λ (r : DesignProcess). is_none r.domain && is_among (driven pool r.body) s) ps
      (λ j r there. and_none (is_none r.domain) (is_among (driven pool r.body) s) (apart (suc j) r there (λ e. cc))) in
      processes_other pool env s ps (comb_process pool env cur p) none ∙ ap (λ x. at (comb_process pool env cur x) s) same ∙ ap (λ xs. at xs s) (comb_here cur q comb)
  combs_at (p ∷ ps) (suc k) q cur is comb apart =
      combs_at ps k q (comb_process pool env cur p) is comb (λ j r there e. apart (suc j) r there (λ f. e (omega (arith, f))))
      ∙ put_frame pool s env q.body (comb_process pool env cur p) cur (comb_long cur p, comb_other cur p (apart 0 p refl (λ f. cc)))

-- ---- a signal that a combinational process drives

module _ (c : Circuit) (design : IsDesign c) where
  abbrev own : DesignProcess → List ℕ
  own p = driven c.pool p.body

  abbrev words : List (List ℕ)
  words = flat_map (λ (m : Memory). map (λ (r : MemRead). r.word.0 ∷ []) m.reads) c.memories

  pub no_other : (k : ℕ) (q : DesignProcess) (s : ℕ) → slice_get c.processes k ≡ Some q → is_among (driven c.pool q.body) s ≡ true → (j : ℕ) (r : DesignProcess) → slice_get c.processes j ≡ Some r → j ≢ k → is_among (driven c.pool r.body) s ≡ false
  no_other k q s is here = others own s c.processes words k q design.one_driver is here

  any_at : (P : DesignProcess → Bool) (ps : List DesignProcess) (k : ℕ) (q : DesignProcess) → slice_get ps k ≡ Some q → P q ≡ true → list_any P ps ≡ true
  any_at P [] k q is h = cc
  any_at P (p ∷ ps) zero q is h = let same : p ≡ q = cc in left (P p) (list_any P ps) (ap P same ∙ h)
    where
      left : (a b : Bool) → a ≡ true → (a || b) ≡ true
      left true b e = refl
      left false b e = absurd (false≢true e)
  any_at P (p ∷ ps) (suc k) q is h = right (P p) (list_any P ps) (any_at P ps k q is h)
    where
      right : (a b : Bool) → b ≡ true → (a || b) ≡ true
      right true b e = refl
      right false b e = e

  -- it is no data of a read port
  no_port : (q : DesignProcess) (s : ℕ) (f : MemRead → Bool) → is_among (own q) s ≡ true → (rs : List MemRead) → AllByRecursion (λ y. share (own q) y ≡ false) (map (λ (r : MemRead). r.word.0 ∷ []) rs) → list_any (λ (r : MemRead). f r && (r.word.0 == s)) rs ≡ false
  no_port q s f here [] h = refl
  no_port q s f here (r ∷ rs) h =
      let other = (or_parts (r.word.0 == s) false (share_none (own q) (r.word.0 ∷ []) s h.0 here)).0 in
      none_or (f r && (r.word.0 == s)) _ (and_none (f r) (r.word.0 == s) other) (no_port q s f here rs h.1)

  no_ports : (q : DesignProcess) (s : ℕ) (f : MemRead → Bool) → is_among (own q) s ≡ true → (ms : List Memory) → AllByRecursion (λ y. share (own q) y ≡ false) (flat_map (λ (m : Memory). map (λ (r : MemRead). r.word.0 ∷ []) m.reads) ms)
      → list_any (λ (m : Memory). list_any (λ (r : MemRead). f r && (r.word.0 == s)) m.reads) ms ≡ false
  no_ports q s f here [] h = refl
  no_ports q s f here (m ∷ ms) h =
      let parts = all_parts (λ y. share (own q) y ≡ false) (map (λ (r : MemRead). r.word.0 ∷ []) m.reads) (flat_map (λ (x : Memory). map (λ (r : MemRead). r.word.0 ∷ []) x.reads) ms) h in
      none_or (list_any (λ (r : MemRead). f r && (r.word.0 == s)) m.reads) _ (no_port q s f here m.reads parts.0) (no_ports q s f here ms parts.1)

  shared_none : (ps : List DesignProcess) (more : List (List ℕ)) (k : ℕ) (q : DesignProcess) → IsDistinct share (map own ps ++ more) → slice_get ps k ≡ Some q → AllByRecursion (λ y. share (own q) y ≡ false) more
  shared_none [] more k q d is = cc
  shared_none (p ∷ ps) more zero q d is =
      let same : p ≡ q = cc in
      subst (λ x. AllByRecursion (λ y. share (own x) y ≡ false) more) same (all_parts (λ y. share (own p) y ≡ false) (map own ps) more (IsDistinct-head share (own p) (map own ps ++ more) d)).1
  shared_none (p ∷ ps) more (suc k) q d is = shared_none ps more k q (IsDistinct-tail share (own p) (map own ps ++ more) d) is

  pub no_word : (k : ℕ) (q : DesignProcess) (s : ℕ) (f : MemRead → Bool) → slice_get c.processes k ≡ Some q → is_among (driven c.pool q.body) s ≡ true → list_any (λ (m : Memory). list_any (λ (r : MemRead). f r && (r.word.0 == s)) m.reads) c.memories ≡ false
  no_word k q s f is here = no_ports q s f here c.memories (shared_none c.processes words k q design.one_driver is)

  -- it is no input
  not_input : (k : ℕ) (q : DesignProcess) (s : ℕ) → slice_get c.processes k ≡ Some q → is_among (driven c.pool q.body) s ≡ true → is_input c s ≡ false
  not_input k q s is here = none c.ports design.no_driven_input
    where
      among : (ps : List DesignProcess) (more : List (List ℕ)) (k : ℕ) → slice_get ps k ≡ Some q → list_any (λ ss. is_among ss s) (map own ps ++ more) ≡ true
      among [] more k is = cc
      among (p ∷ ps) more zero is = let same : p ≡ q = cc in here_or (is_among (own p) s) (ap (λ x. is_among (own x) s) same ∙ here)
        where
          here_or : (a : Bool) → a ≡ true → (a || list_any (λ ss. is_among ss s) (map own ps ++ more)) ≡ true
          here_or true e = refl
          here_or false e = absurd (false≢true e)
      among (p ∷ ps) more (suc k) is = or_there (is_among (own p) s) (among ps more k is)
        where
          or_there : (a : Bool) → list_any (λ ss. is_among ss s) (map own ps ++ more) ≡ true → (a || list_any (λ ss. is_among ss s) (map own ps ++ more)) ≡ true
          or_there true e = refl
          or_there false e = e

      one : (p : Port) (t u : Bool) → p.is_input ≡ t → (p.sig.0 == s) ≡ u → (IsTrue p.is_input → list_any (λ ss. is_among ss p.sig.0) (drivers c) ≡ false) → (t && u) ≡ false
      one p true true e f free = absurd (false≢true (sym (free e) ∙ ap (λ k. list_any (λ ss. is_among ss k) (drivers c)) (eqb-true p.sig.0 s f) ∙ among c.processes words k is))
      one p true false e f free = refl
      one p false u e f free = refl

      none : (ps : List Port) → AllByRecursion (λ (p : Port). IsTrue p.is_input → list_any (λ ss. is_among ss p.sig.0) (drivers c) ≡ false) ps → list_any (λ (p : Port). p.is_input && (p.sig.0 == s)) ps ≡ false
      none [] h = refl
      none (p ∷ ps) h = none_or (p.is_input && (p.sig.0 == s)) _ (one p p.is_input (p.sig.0 == s) refl refl h.0) (none ps h.1)

  not_register : (k : ℕ) (q : DesignProcess) (s : ℕ) → slice_get c.processes k ≡ Some q → q.domain ≡ None → is_among (driven c.pool q.body) s ≡ true → is_register c s ≡ false
  not_register k q s is comb here =
      none_or (list_any (λ (p : DesignProcess). is_some p.domain && is_among (driven c.pool p.body) s) c.processes) _
      (none_among own s (λ (p : DesignProcess). is_some p.domain && is_among (driven c.pool p.body) s) c.processes (λ j r there.
      ⊎_elim
      (λ (e : j ≡ k).
      let same : r ≡ q = let f : Some r ≡ Some q = sym there ∙ ap (slice_get c.processes) e ∙ is in cc in
      none_and (is_some r.domain) (is_among (driven c.pool r.body) s) (ap (λ (x : DesignProcess). is_some x.domain) same ∙ ap is_some comb))
      (λ (e : j ≢ k). and_none (is_some r.domain) (is_among (driven c.pool r.body) s) (no_other k q s is here j r there e))
      (cases_eq j k)))
      (no_word k q s (λ (r : MemRead). is_some r.domain) is here)

  pub not_held : (k : ℕ) (q : DesignProcess) (s : ℕ) → slice_get c.processes k ≡ Some q → q.domain ≡ None → is_among (driven c.pool q.body) s ≡ true → is_held c s ≡ false
  not_held k q s is comb here = none_or (is_input c s) (is_register c s) (not_input k q s is here) (not_register k q s is comb here)

  pub starts_get : (st : State) (a s : ℕ) (xs : List Sig) (x : Sig) → slice_get xs s ≡ Some x → at (starts c st a xs) s ≡ (if is_held c (a + s) then at st.held (a + s) else x.init)
  starts_get st a s [] x is = cc
  starts_get st a zero (y ∷ xs) x is =
      let same : y ≡ x = cc in
      let here : a ≡ a + 0 = omega arith in
      ap (λ (z : Sig). if is_held c a then at st.held a else z.init) same ∙ ap (λ k. if is_held c k then at st.held k else x.init) here
  starts_get st a (suc s) (y ∷ xs) x is =
      let next : suc a + s ≡ a + suc s = omega arith in
      starts_get st (suc a) s xs x is ∙ ap (λ k. if is_held c k then at st.held k else x.init) next

  -- where a delta begins, such a signal has its init
  pub starts_init : (st : State) (s : ℕ) (x : Sig) → slice_get c.pool.signals s ≡ Some x → is_held c s ≡ false → at (starts c st 0 c.pool.signals) s ≡ x.init
  starts_init st s x is free =
      let here : 0 + s ≡ s = omega arith in
      starts_get st 0 s c.pool.signals x is ∙ ap (λ k. if is_held c k then at st.held k else x.init) here ∙ ap (λ b. if b then at st.held s else x.init) free

  -- what a delta leaves in it
  pub delta_at : (st : State) (env : List ℤ) (k : ℕ) (q : DesignProcess) (s : ℕ) → slice_get c.processes k ≡ Some q → q.domain ≡ None → is_among (driven c.pool q.body) s ≡ true
      → at (delta c st env) s ≡ at (put c.pool env q.body (starts c st 0 c.pool.signals)) s
  delta_at st env k q s is comb here =
      reads_other c.pool env s c.memories st.rows (fold (comb_process c.pool env) (starts c st 0 c.pool.signals) c.processes) (no_word k q s (λ (r : MemRead). is_none r.domain) is here)
      ∙ combs_at c.pool env s c.processes k q (starts c st 0 c.pool.signals) is comb (no_other k q s is here)
