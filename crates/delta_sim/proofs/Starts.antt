-- The numbers with which a sweep begins, one signal after another.
use Rattle.std.specs.Prelude.{◌≡◌, ℕ, zero, suc, ◌+◌, ◌<◌, List, [], ◌∷◌, ◌++◌, drop, length, slice_get, ℤ, Some, if◌then◌else◌}
use Rattle.std.proofs.Common.{sym, ◌∙◌, ap, append_assoc, add-one}
use Rattle.design_ir.specs.declared.signal.Sig.{Sig}
use Rattle.design_ir.specs.Circuits.{Circuit, State, at, is_held}
use Rattle.design_ir.specs.Settled.{starts}
use Rattle.design_ir.proofs.NumbersFit.{element}

pub drop_get : {A : Type 0} (xs : List A) (i : ℕ) (x : A) → slice_get xs i ≡ Some x → drop i xs ≡ x ∷ drop (suc i) xs
drop_get [] i x is = cc
drop_get (y ∷ xs) zero x is = let same : y ≡ x = cc in ap (λ z. z ∷ drop 0 xs) same
drop_get (y ∷ xs) (suc i) x is = drop_get xs i x is

pub starts_turn : (c : Circuit) (st : State) (now more all : List ℤ) (s : ℕ) (n : ℤ) → s < length c.pool.signals → ((x : Sig) → slice_get c.pool.signals s ≡ Some x → n ≡ (if is_held c s then at st.held s else x.init)) → more ≡ now ++ n ∷ [] → now ++ starts c st s (drop s c.pool.signals) ≡ all → more ++ starts c st (s + 1) (drop (s + 1) c.pool.signals) ≡ all
starts_turn c st now more all s n there is grown known =
    let x = element c.pool.signals s there in
    let here : starts c st s (drop s c.pool.signals) ≡ n ∷ starts c st (suc s) (drop (suc s) c.pool.signals) = ap (starts c st s) (drop_get c.pool.signals s x.0 x.1) ∙ ap (λ z. z ∷ starts c st (suc s) (drop (suc s) c.pool.signals)) (sym (is x.0 x.1)) in
    ap (λ xs. xs ++ starts c st (s + 1) (drop (s + 1) c.pool.signals)) grown
    ∙ append_assoc now (n ∷ []) (starts c st (s + 1) (drop (s + 1) c.pool.signals))
    ∙ ap (λ k. now ++ n ∷ starts c st k (drop k c.pool.signals)) (add-one s)
    ∙ ap (λ xs. now ++ xs) (sym here) ∙ known
