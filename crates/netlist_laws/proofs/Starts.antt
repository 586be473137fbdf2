-- The numbers that comb processes begin with: those of a state, or each signal's first.
use Rattle.std.specs.Prelude.{◌≡◌, refl, ℕ, zero, suc, ◌+◌, true, false, cond, List, [], ◌∷◌, length, slice_get, Some}
use Rattle.std.proofs.Common.{◌∙◌, ap, arith}
use Rattle.design_ir.specs.declared.signal.Sig.{Sig}
use Rattle.design_ir.specs.Circuits.{Circuit, State, at, is_held}
use Rattle.design_ir.specs.Settled.{starts}

starts_at : (c : Circuit) (st : State) (k : ℕ) (sigs : List Sig) (s : ℕ) (x : Sig) → slice_get sigs s ≡ Some x → at (starts c st k sigs) s ≡ cond (is_held c (k + s)) (at st.held (k + s)) x.init
starts_at c st k [] s x e = cc
starts_at c st k (y ∷ sigs) zero x e =
    let same : y ≡ x = cc in
    ap (λ (z : Sig). cond (is_held c k) (at st.held k) z.init) same ∙ ap (λ j. cond (is_held c j) (at st.held j) x.init) (let d : k ≡ k + 0 = omega arith in d)
starts_at c st k (y ∷ sigs) (suc s) x e =
    starts_at c st (suc k) sigs s x e ∙ ap (λ j. cond (is_held c j) (at st.held j) x.init) (let d : suc k + s ≡ k + suc s = omega arith in d)

pub length-starts : (c : Circuit) (st : State) (k : ℕ) (sigs : List Sig) → length (starts c st k sigs) ≡ length sigs
length-starts c st k [] = refl
length-starts c st k (y ∷ sigs) = ap suc (length-starts c st (suc k) sigs)

-- a signal that is not held begins at its init
pub at-starts : (c : Circuit) (st : State) (s : ℕ) (x : Sig) → slice_get c.pool.signals s ≡ Some x → is_held c s ≡ false → at (starts c st 0 c.pool.signals) s ≡ x.init
at-starts c st s x e h =
    starts_at c st 0 c.pool.signals s x e
    ∙ ap (λ j. cond (is_held c j) (at st.held j) x.init) (let d : 0 + s ≡ s = omega arith in d)
    ∙ ap (λ t. cond t (at st.held s) x.init) h

-- one that is held begins as it is
pub at-starts_held : (c : Circuit) (st : State) (s : ℕ) (x : Sig) → slice_get c.pool.signals s ≡ Some x → is_held c s ≡ true → at (starts c st 0 c.pool.signals) s ≡ at st.held s
at-starts_held c st s x e h =
    starts_at c st 0 c.pool.signals s x e
    ∙ ap (λ j. cond (is_held c j) (at st.held j) x.init) (let d : 0 + s ≡ s = omega arith in d)
    ∙ ap (λ t. cond t (at st.held s) x.init) h
