-- Where the deltas of an event begin: a number for each signal, of its shape, and all but the comb ones are settled.
use Rattle.std.specs.Prelude.{◌≡◌, refl, ℕ, zero, suc, ◌+◌, ◌<◌, ◌≤◌, Bool, true, false, cond, if◌then◌else◌, List, [], ◌∷◌, map, length, ℤ, pos}
use Rattle.std.proofs.Common.{sym, ◌∙◌, ap, arith, subst, ⊎_elim}
use Rattle.std.proofs.lemmas.Bool.{cond_both, cases_lt}
use Rattle.std.proofs.lemmas.List.{get_or_past}
use Rattle.design_ir.specs.declared.signal.Sig.{Sig}
use Rattle.design_ir.specs.PoolRules.{IsPool}
use Rattle.design_ir.specs.Designs.{IsDesign}
use Rattle.design_ir.specs.Settled.{starts, Settled}
use Rattle.design_ir.specs.Histories.{with_held}
use Rattle.design_ir.specs.Circuits.{Circuit, State, at, is_held}
use Rattle.comb_graph.specs.Orders.{is_comb}
use Rattle.comb_graph.specs.Laws.{FitsState}
use Rattle.comb_graph.proofs.DeltaLaws.{delta_length, delta_fits, delta_start, starts_length}
use Rattle.comb_graph.proofs.PutFits.{OfSignal}
use Rattle.comb_graph.proofs.SameNumbers.{IsWhole}
use Rattle.comb_graph.proofs.ChainRounds.{IsReady}

module _ (c : Circuit) (st : State) where
  with_length : (a : ℕ) (env : List ℤ) → length (with_held c st a env) ≡ length env
  with_length a [] = refl
  with_length a (n ∷ env) = ap suc (with_length (suc a) env)

  -- the number of a held signal from the state, each other one
  abbrev chosen : ℕ → ℤ → ℤ
  chosen s n = if is_held c s then at st.held s else n

  with_at : (a : ℕ) (env : List ℤ) (k : ℕ) → k < length env → at (with_held c st a env) k ≡ chosen (a + k) (at env k)
  with_at a [] k h = absurd (omega (arith, h))
  with_at a (n ∷ env) zero h = let e : a ≡ a + 0 = omega arith in ap (λ s. chosen s n) e
  with_at a (n ∷ env) (suc k) h = let e : suc a + k ≡ a + suc k = omega arith in with_at (suc a) env k (omega (arith, h)) ∙ ap (λ s. chosen s (at env k)) e

  starts_at : (a : ℕ) (xs : List Sig) (k : ℕ) → k < length xs → at (starts c st a xs) k ≡ chosen (a + k) (at (map (λ (x : Sig). x.init) xs) k)
  starts_at a [] k h = absurd (omega (arith, h))
  starts_at a (x ∷ xs) zero h = let e : a ≡ a + 0 = omega arith in ap (λ s. chosen s x.init) e
  starts_at a (x ∷ xs) (suc k) h = let e : suc a + k ≡ a + suc k = omega arith in starts_at (suc a) xs k (omega (arith, h)) ∙ ap (λ s. chosen s (at (map (λ (y : Sig). y.init) xs) k)) e

same_choice : (t : Bool) (n m x y z : ℤ) → x ≡ cond t m z → y ≡ x → cond t n y ≡ cond t n z
same_choice true n m x y z e f = refl
same_choice false n m x y z e f = f ∙ e

module _ (c : Circuit) (rules : IsPool c.pool) (design : IsDesign c) (old new : State) (was : FitsState c old) (fit : FitsState c new) (env : List ℤ) (settled : Settled c old env) where
  env_length : length env ≡ length c.pool.signals
  env_length = ap length (sym settled) ∙ delta_length c old rules design env

  begin_at : (s : ℕ) → s < length c.pool.signals → at (with_held c new 0 env) s ≡ chosen c new s (at env s)
  begin_at s there = let e : 0 + s ≡ s = omega arith in with_at c new 0 env s (omega (arith, there, env_length)) ∙ ap (λ t. chosen c new t (at env s)) e

  begin_whole : IsWhole c (with_held c new 0 env)
  begin_whole = record {
    fits = λ s there.
        let of : OfSignal c.pool s (at env s) = subst (λ x. OfSignal c.pool s (at x s)) settled (delta_fits c old rules design was env s there) in
        subst (OfSignal c.pool s) (sym (begin_at s there)) (cond_both (is_held c s) (at new.held s) (at env s) (OfSignal c.pool s) (λ t. fit.held s there) (λ t. of));
    long = with_length c new 0 env ∙ env_length;
  }

  begin_held : (s : ℕ) → is_comb c s ≡ false → at (with_held c new 0 env) s ≡ at (starts c new 0 c.pool.signals) s
  begin_held s e =
      ⊎_elim
      (λ (there : s < length c.pool.signals).
      let i : 0 + s ≡ s = omega arith in
      let init : ℤ = at (map (λ (x : Sig). x.init) c.pool.signals) s in
      let begun : (st : State) → at (starts c st 0 c.pool.signals) s ≡ chosen c st s init = λ st. starts_at c st 0 c.pool.signals s there ∙ ap (λ t. chosen c st t init) i in
      let same : at env s ≡ at (starts c old 0 c.pool.signals) s = ap (λ x. at x s) (sym settled) ∙ delta_start c old rules design env s e in
      begin_at s there ∙ same_choice (is_held c s) (at new.held s) (at old.held s) (at (starts c old 0 c.pool.signals) s) (at env s) init (begun old) same ∙ sym (begun new))
      (λ (past : length c.pool.signals ≤ s).
      get_or_past (with_held c new 0 env) s (pos 0) (omega (arith, past, begin_whole.long)) ∙ sym (get_or_past (starts c new 0 c.pool.signals) s (pos 0) (omega (arith, past, starts_length c new 0 c.pool.signals))))
      (cases_lt s (length c.pool.signals))

  pub begin_ready : IsReady c rules design new fit (with_held c new 0 env)
  begin_ready = record { whole = begin_whole; held = λ s e. begin_held s e ∙ sym (delta_start c new rules design (with_held c new 0 env) s e) }
