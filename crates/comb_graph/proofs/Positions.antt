-- Along a chain of needs the position in an order falls.
use Rattle.std.specs.Prelude.{◌≡◌, ℕ, zero, suc, ◌<◌, ◌==◌, ◌&&◌, Bool, true, is_none, List, [], ◌∷◌, ◌++◌, length, slice_get, slice_index_or, Some, Contains}
use Rattle.std.specs.List.{flat_map, list_any}
use Rattle.std.proofs.Common.{sym, ◌∙◌, ap, arith, ⊎_elim, subst}
use Rattle.std.proofs.lemmas.Bool.{and_from, or_left, or_right, eq-eqb}
use Rattle.std.proofs.lemmas.List.Folds.{list_any-append, list_any_at}
use Rattle.std.proofs.lemmas.Option.{slice_get-get_or}
use Rattle.design_ir.specs.declared.memory.Memory.{Memory}
use Rattle.design_ir.specs.declared.memory.MemRead.{MemRead}
use Rattle.design_ir.specs.declared.process.DesignProcess.{DesignProcess}
use Rattle.design_ir.specs.Values.{signal_form}
use Rattle.design_ir.specs.Targets.{Bit, target_signals}
use Rattle.design_ir.specs.Guards.{Guarded, guarded, driven}
use Rattle.design_ir.specs.Loops.{ProcessNeeds, ReadNeeds, Needs, Chain}
use Rattle.design_ir.specs.Circuits.{Circuit, is_among}
use Rattle.design_ir.proofs.Equations.{split_at}
use Rattle.comb_graph.specs.Orders.{IsCombBit, IsOrder}
use Rattle.comb_graph.proofs.AimBits.{IsAimOf, aims_of_signals}
use Rattle.comb_graph.proofs.CombFinds.{among_has}

-- ---- what needs a bit is a bit of a comb signal

among_parts : {A : Type 0} (f : A → List ℕ) (s : ℕ) (x : A) (xs : List A) (k : ℕ) → k < length xs → slice_index_or xs k x ≡ x → is_among (f x) s ≡ true → is_among (flat_map f xs) s ≡ true
among_parts f s x [] k lt e h = absurd (omega (arith, lt))
among_parts f s x (y ∷ xs) zero lt e h =
    list_any-append (λ t. t == s) (f y) (flat_map f xs) ∙ or_left (is_among (f y) s) (is_among (flat_map f xs) s) (ap (λ z. is_among (f z) s) e ∙ h)
among_parts f s x (y ∷ xs) (suc k) lt e h =
    list_any-append (λ t. t == s) (f y) (flat_map f xs) ∙ or_right (is_among (f y) s) (is_among (flat_map f xs) s) (among_parts f s x xs k (omega (arith, lt)) e h)

any_contains : {A : Type 0} (p : A → Bool) (xs : List A) (x : A) → Contains xs x → p x ≡ true → list_any p xs ≡ true
any_contains p xs x c h = list_any_at p xs c.0 x c.1 (ap p c.2 ∙ h)

module _ (c : Circuit) where
  process_needs_comb : (b x : Bit) → ProcessNeeds c b x → IsCombBit c b
  process_needs_comb b x n =
      let g : Guarded = n.assignment in
      let ss : List ℕ = target_signals c.pool g.target.0 in
      let found : IsAimOf (signal_form c.pool.signals) ss n.needs.aim = aims_of_signals c.pool g.target.0 n.needs.aim n.needs.may in
      let among : is_among ss b.sig ≡ true = subst (λ (y : Bit). is_among ss y.sig ≡ true) n.needs.writes (among_has ss n.needs.aim.bit.sig found.of) in
      let drives : is_among (driven c.pool n.process.body) b.sig ≡ true =
      among_parts (λ (h : Guarded). target_signals c.pool h.target.0) b.sig g (guarded [] n.process.body) n.stands.0 n.stands.1 n.stands.2 among in
      record {
        comb = or_left _ _ (any_contains (λ (q : DesignProcess). is_none q.domain && is_among (driven c.pool q.body) b.sig) c.processes n.process n.among (and_from _ _ (ap is_none n.comb) drives));
        inside = subst (λ (y : Bit). y.index < (signal_form c.pool.signals y.sig).width) n.needs.writes found.index;
      }

  read_needs_comb : (b x : Bit) → ReadNeeds c b x → IsCombBit c b
  read_needs_comb b x n = record {
    comb = or_right _ _ (any_contains (λ (m : Memory). list_any (λ (r : MemRead). is_none r.domain && (r.word.0 == b.sig)) m.reads) c.memories n.memory n.among
        (any_contains (λ (r : MemRead). is_none r.domain && (r.word.0 == b.sig)) n.memory.reads n.read n.stands (and_from _ _ (ap is_none n.comb) (eq-eqb n.read.word.0 b.sig (sym n.word)))));
    inside = n.inside;
  }

  pub needs_comb : (b x : Bit) → Needs c b x → IsCombBit c b
  needs_comb b x n = ⊎_elim (process_needs_comb b x) (read_needs_comb b x) n

-- ---- positions

pub position_of : {A : Type 0} (xs : List A) (x : A) → Contains xs x → (i : ℕ) × (i < length xs) × (slice_get xs i ≡ Some x)
position_of xs x c = (c.0, c.1, slice_get-get_or xs c.0 x c.1 ∙ ap (λ y. Some y) c.2)

position_kept : {A : Type 0} (xs ys : List A) (i : ℕ) (x : A) → slice_get xs i ≡ Some x → slice_get (xs ++ ys) i ≡ Some x
position_kept [] ys i x e = cc
position_kept (y ∷ xs) ys zero x e = e
position_kept (y ∷ xs) ys (suc i) x e = position_kept xs ys i x e

module _ (c : Circuit) (order : List Bit) (ordered : IsOrder c order) where
  -- a bit that is needed stands before
  pub behind_at : (i : ℕ) (b x : Bit) → slice_get order i ≡ Some b → IsCombBit c x → Needs c b x → (j : ℕ) × (j < i) × (slice_get order j ≡ Some x)
  behind_at i b x e comb needs =
      let r = split_at order i b e in
      let found = position_of r.0 x (ordered.behind r.0 r.1 b x r.2 comb needs) in
      (found.0, omega (arith, found.1, r.3), ap (λ xs. slice_get xs found.0) r.2 ∙ position_kept r.0 (b ∷ r.1) found.0 x found.2)

  chain_comb : (b : Bit) (between : List Bit) (end : Bit) → Chain c b between end → IsCombBit c b
  chain_comb b [] end chain = needs_comb c b end chain
  chain_comb b (x ∷ xs) end chain = needs_comb c b x chain.0

  chain_falls : (b : Bit) (between : List Bit) (end : Bit) (i : ℕ) → IsCombBit c end → Chain c b between end → slice_get order i ≡ Some b → (j : ℕ) × (j < i) × (slice_get order j ≡ Some end)
  chain_falls b [] end i comb chain e = behind_at i b end e comb chain
  chain_falls b (x ∷ xs) end i comb chain e =
      let next = behind_at i b x e (chain_comb x xs end chain.1) chain.0 in
      let last = chain_falls x xs end next.0 comb chain.1 next.2 in
      (last.0, omega (arith, last.1, next.1), last.2)

  no_loop_below : (n i : ℕ) (b : Bit) (between : List Bit) → i < n → Chain c b between b → slice_get order i ≡ Some b → ⊥
  no_loop_below zero i b between below chain e = absurd (omega (arith, below))
  no_loop_below (suc n) i b between below chain e =
      let next = chain_falls b between b i (chain_comb b between b chain) chain e in
      no_loop_below n next.0 b between (omega (arith, next.1, below)) chain next.2

  pub no_loop : (b : Bit) (between : List Bit) → Chain c b between b → ⊥
  no_loop b between chain =
      let first = position_of order b (ordered.all b (chain_comb b between b chain)) in
      no_loop_below (suc first.0) first.0 b between (omega arith) chain first.2
