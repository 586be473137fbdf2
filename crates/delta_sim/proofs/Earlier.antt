-- The integers of a pool's expressions, one after another.
use Rattle.std.specs.Prelude.{◌≡◌, ℕ, suc, ◌+◌, ◌<◌, ◌⊎◌, List, [], ◌∷◌, ◌++◌, length, slice_get, slice_index_or, ℤ, pos, Some}
use Rattle.std.proofs.Common.{sym, ◌∙◌, ap, subst, arith, inl, inr, ⊎_elim}
use Rattle.std.proofs.lemmas.Bool.{cases_lt}
use Rattle.std.proofs.Math.ListN.{get_or-append, length-append}
use Rattle.std.proofs.Math.Seq.{get_or-append_seam}
use Rattle.amh_bits.specs.Patterns.{IsOf}
use Rattle.design_ir.specs.declared.expr.Expr.{Expr}
use Rattle.design_ir.specs.Named.{named, AllBelow}
use Rattle.design_ir.specs.Pools.{Pooled}
use Rattle.design_ir.specs.PoolRules.{IsPool}
use Rattle.design_ir.specs.Values.{form, num, value_step}
use Rattle.design_ir.proofs.Equations.{standing, num_is}
use Rattle.design_ir.proofs.Looks.{value_looks}
use Rattle.design_ir.proofs.NumbersFit.{FitsSignals, num_fits}
use Rattle.sim_plans.specs.Reading.{AreFirst, AreNumbers, IsReady}

pub ready : (p : Pooled) (env nums : List ℤ) (k : ℕ) (e : Expr) → IsPool p → length env ≡ length p.signals → FitsSignals p env → k < length p.exprs → AreNumbers p env k nums → slice_get p.exprs k ≡ Some e → IsReady p env nums e
ready p env nums k e rules signals fit there known is =
    let s = standing p k e rules is in
    record {
      names = subst (λ n. AllBelow n (named e)) (sym known.count) s.names;
      askable = s.askable;
      accepted = s.accepted;
      pool = omega (arith, known.count, there);
      signals = signals;
      fits = λ j h.
          let below : j < k = omega (arith, h, known.count) in
          subst (IsOf (form p j).signed (form p j).width) (sym (known.each j below)) (num_fits p env rules fit (record { 0 = j }) (omega (arith, below, there)));
    }

-- the integer by those before it is that of the whole pool
pub value_is : (p : Pooled) (env nums : List ℤ) (k : ℕ) (e : Expr) → IsPool p → AreNumbers p env k nums → slice_get p.exprs k ≡ Some e → value_step (form p) env (λ j. slice_index_or nums j (pos 0)) e ≡ num p env k
value_is p env nums k e rules known is =
    value_looks (form p) env k e (standing p k e rules is).names (λ j. slice_index_or nums j (pos 0)) (num p env) (λ j h. known.each j h)
    ∙ sym (num_is p env k e rules is)

-- one more at the end
pub first_next : {A : Type 0} (d : A) (f : ℕ → A) (xs more : List A) (k : ℕ) (x : A) → AreFirst d f k xs → x ≡ f k → more ≡ xs ++ x ∷ [] → AreFirst d f (k + 1) more
first_next d f xs more k x known is grown =
    record {
      count = ap length grown ∙ omega (arith, length-append xs (x ∷ []), known.count);
      each = λ j h. ap (λ ys. slice_index_or ys j d) grown ∙ each j (split j k (omega (arith, h)));
    }
  where
    split : (j k : ℕ) → j < suc k → (j < k) ⊎ (j ≡ k)
    split j k h = ⊎_elim (λ lt. inl lt) (λ ge. inr (omega (arith, h, ge))) (cases_lt j k)

    each : (j : ℕ) → (j < k) ⊎ (j ≡ k) → slice_index_or (xs ++ x ∷ []) j d ≡ f j
    each j (inl h) = get_or-append xs (x ∷ []) d j (omega (arith, h, known.count)) ∙ known.each j h
    each j (inr e) =
        ap (λ i. slice_index_or (xs ++ x ∷ []) i d) (e ∙ sym known.count)
        ∙ get_or-append_seam xs x [] d ∙ is ∙ ap f (sym e)

pub none_first : {A : Type 0} (d : A) (f : ℕ → A) (xs : List A) → xs ≡ [] → AreFirst d f 0 xs
none_first d f xs e = record { count = ap length e; each = λ k h. absurd (omega (arith, h)) }
