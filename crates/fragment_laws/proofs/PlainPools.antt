-- An expression in which no reset stands means the same whichever resets the domains have.
use Rattle.std.specs.Prelude.{◌≡◌, refl, ℕ, zero, suc, ◌<◌, Bool, false, List, [], ◌∷◌, map, length, slice_get, ℤ, pos, unsigned_abs, Option, Some, option_map}
use Rattle.std.specs.List.{AllByRecursion, flat_map, list_any}
use Rattle.std.proofs.Common.{sym, ◌∙◌, ap, arith}
use Rattle.std.proofs.lemmas.Bool.{false≢true, or_parts}
use Rattle.std.proofs.lemmas.Option.{slice_get-map}
use Rattle.shape_rules.specs.Forms.{Form, unsigned}
use Rattle.design_ir.specs.declared.ids.ExprId.{ExprId}
use Rattle.design_ir.specs.declared.domain.Domain.{Domain}
use Rattle.design_ir.specs.declared.expr.Expr as expr
use Rattle.design_ir.specs.declared.expr.Expr.{Expr}
use Rattle.design_ir.specs.declared.expr.Expr.TheVariants.{Const, Unary, Binary, Mux, Slice, Cat, Part, Pick, Cast, Matches, Reset}
use Rattle.design_ir.specs.Named.{named, AllBelow}
use Rattle.design_ir.specs.Pools.{Pooled}
use Rattle.design_ir.specs.PoolRules.{IsPool}
use Rattle.design_ir.specs.Values.{form, form_step, num, value_step, signal_form, joined, picked, common_of_all}
use Rattle.design_ir.specs.Targets.{Bit, target_bits, target_step, target_signals, signals_step, padded}
use Rattle.design_ir.specs.Designs.{holds_reset, reset_test}
use Rattle.design_ir.proofs.Answers.{LooksBelow}
use Rattle.design_ir.proofs.Equations.{answer_at, standing}
use Rattle.design_ir.proofs.Congruence.{AreSame, same_below, form_same}
use Rattle.fragment_laws.specs.Surroundings.{read_in, pool_in}
use Rattle.fragment_laws.specs.SamePools.{IsSame}
use Rattle.fragment_laws.proofs.Twins.{all_imp}

-- ---- what an expression means is decided by what those that it names mean

flat_same : {A : Type 0} (f g : ℕ → List A) (es : List ExprId) → AreSame f g es → flat_map (λ (e : ExprId). f e.0) es ≡ flat_map (λ (e : ExprId). g e.0) es
flat_same f g [] h = refl
flat_same f g (e ∷ es) h = let a = h.0 in let b = flat_same f g es h.1 in cc

items_same : {A : Type 0} (f g : ℕ → A) (es : List ExprId) → AreSame f g es → map (λ (e : ExprId). f e.0) es ≡ map (λ (e : ExprId). g e.0) es
items_same f g [] h = refl
items_same f g (e ∷ es) h = let a = h.0 in let b = items_same f g es h.1 in cc

any_same : (f g : ℕ → Bool) (es : List ExprId) → AreSame f g es → list_any (λ (e : ExprId). f e.0) es ≡ list_any (λ (e : ExprId). g e.0) es
any_same f g [] h = refl
any_same f g (e ∷ es) h = let a = h.0 in let b = any_same f g es h.1 in cc

reset_same : (f g : ℕ → Bool) (e : Expr) → AreSame f g (named e) → reset_test f e ≡ reset_test g e
reset_same f g (Const n s) h = refl
reset_same f g (expr.TheVariants.Sig s) h = refl
reset_same f g (Unary op a) h = any_same f g (a ∷ []) h
reset_same f g (Binary op a b) h = any_same f g (a ∷ b ∷ []) h
reset_same f g (Mux s a b) h = any_same f g (s ∷ a ∷ b ∷ []) h
reset_same f g (Slice a low width) h = any_same f g (a ∷ []) h
reset_same f g (Cat es) h = any_same f g es h
reset_same f g (Part a offset width stride) h = any_same f g (a ∷ offset ∷ []) h
reset_same f g (Pick index es) h = any_same f g (index ∷ es) h
reset_same f g (Cast a signed) h = any_same f g (a ∷ []) h
reset_same f g (Matches a patterns) h = any_same f g (a ∷ []) h
reset_same f g (Reset domain place) h = refl

signals_same : (f g : ℕ → List ℕ) (e : Expr) → AreSame f g (named e) → signals_step f e ≡ signals_step g e
signals_same f g (Const n s) h = refl
signals_same f g (expr.TheVariants.Sig s) h = refl
signals_same f g (Unary op a) h = refl
signals_same f g (Binary op a b) h = refl
signals_same f g (Mux s a b) h = refl
signals_same f g (Slice a low width) h = h.0
signals_same f g (Cat es) h = flat_same f g es h
signals_same f g (Part a offset width stride) h = h.0
signals_same f g (Pick index es) h = flat_same f g es h.1
signals_same f g (Cast a signed) h = h.0
signals_same f g (Matches a patterns) h = refl
signals_same f g (Reset domain place) h = refl

module _ (forms forms' : ℕ → Form) (nums nums' : ℕ → ℤ) where
  joined_same : (es : List ExprId) → AreSame forms forms' es → AreSame nums nums' es → joined forms nums es ≡ joined forms' nums' es
  joined_same [] h k = refl
  joined_same (e ∷ es) h k = let a = h.0 in let b = k.0 in let c = joined_same es h.1 k.1 in cc

  value_same : (env : List ℤ) (e : Expr) → AreSame forms forms' (named e) → AreSame nums nums' (named e) → value_step forms env nums e ≡ value_step forms' env nums' e
  value_same env (Const n s) h k = refl
  value_same env (expr.TheVariants.Sig s) h k = refl
  value_same env (Unary op a) h k = let x = h.0 in let y = k.0 in cc
  value_same env (Binary op a b) h k = let x = h.0 in let y = k.0 in let z = h.1.0 in let u = k.1.0 in cc
  value_same env (Mux s a b) h k = let x = k.0 in let y = k.1.0 in let z = k.1.1.0 in cc
  value_same env (Slice a low width) h k = let x = k.0 in cc
  value_same env (Cat es) h k = ap pos (joined_same es h k)
  value_same env (Part a offset width stride) h k = let x = k.0 in let y = k.1.0 in cc
  value_same env (Pick index es) h k =
      ap (λ xs. picked (pos 0) xs (unsigned_abs (nums index.0))) (items_same nums nums' es k.1) ∙ ap (λ n. picked (pos 0) (map (λ (e : ExprId). nums' e.0) es) (unsigned_abs n)) k.0
  value_same env (Cast a signed) h k = let x = h.0 in let y = k.0 in cc
  value_same env (Matches a patterns) h k = rw (h.0, k.0) refl
  value_same env (Reset domain place) h k = refl

  places_same : (sig_form : ℕ → Form) (f g : ℕ → List (Option Bit)) (e : Expr) → AreSame forms forms' (named e) → AreSame nums nums' (named e) → AreSame f g (named e) → target_step sig_form forms nums f e ≡ target_step sig_form forms' nums' g e
  places_same sig_form f g (Const n s) h k l = refl
  places_same sig_form f g (expr.TheVariants.Sig s) h k l = refl
  places_same sig_form f g (Unary op a) h k l = refl
  places_same sig_form f g (Binary op a b) h k l = refl
  places_same sig_form f g (Mux s a b) h k l = refl
  places_same sig_form f g (Slice a low width) h k l = let x = l.0 in cc
  places_same sig_form f g (Cat es) h k l = flat_same f g es l
  places_same sig_form f g (Part a offset width stride) h k l = let x = k.1.0 in let y = l.0 in cc
  places_same sig_form f g (Pick index es) h k l =
      ap (λ (x : Form). padded x.width (picked [] (map (λ (e : ExprId). f e.0) es) (unsigned_abs (nums index.0)))) (form_same forms forms' [] (Pick index es) h)
      ∙ ap (λ xs. padded (common_of_all forms' es).width (picked [] xs (unsigned_abs (nums index.0)))) (items_same f g es l.1)
      ∙ ap (λ n. padded (common_of_all forms' es).width (picked [] (map (λ (e : ExprId). g e.0) es) (unsigned_abs n))) k.0
  places_same sig_form f g (Cast a signed) h k l = l.0
  places_same sig_form f g (Matches a patterns) h k l = refl
  places_same sig_form f g (Reset domain place) h k l = refl

same_refl : {A : Type 0} (f : ℕ → A) (es : List ExprId) → AreSame f f es
same_refl f [] = tt
same_refl f (e ∷ es) = (refl, same_refl f es)

-- ---- an expression that is no reset

none_named : (g : ℕ → Bool) (e : Expr) → reset_test g e ≡ false → list_any (λ (k : ExprId). g k.0) (named e) ≡ false
none_named g (Const n s) h = h
none_named g (expr.TheVariants.Sig s) h = h
none_named g (Unary op a) h = h
none_named g (Binary op a b) h = h
none_named g (Mux s a b) h = h
none_named g (Slice a low width) h = h
none_named g (Cat es) h = h
none_named g (Part a offset width stride) h = h
none_named g (Pick index es) h = h
none_named g (Cast a signed) h = h
none_named g (Matches a patterns) h = h
none_named g (Reset domain place) h = absurd (false≢true (sym h))

module _ (ds : List Domain) where
  read_plain : (g : ℕ → Bool) (e : Expr) → reset_test g e ≡ false → read_in ds e ≡ e
  read_plain g (Const n s) h = refl
  read_plain g (expr.TheVariants.Sig s) h = refl
  read_plain g (Unary op a) h = refl
  read_plain g (Binary op a b) h = refl
  read_plain g (Mux s a b) h = refl
  read_plain g (Slice a low width) h = refl
  read_plain g (Cat es) h = refl
  read_plain g (Part a offset width stride) h = refl
  read_plain g (Pick index es) h = refl
  read_plain g (Cast a signed) h = refl
  read_plain g (Matches a patterns) h = refl
  read_plain g (Reset domain place) h = absurd (false≢true (sym h))

  -- ---- the pool

  module _ (q : Pooled) (rules : IsPool q) where
    abbrev p : Pooled
    p = pool_in ds q

    record IsAlike (k : ℕ) : Type 0 where
      shape : form p k ≡ form q k
      meaning : IsSame p q k

    module _ (k : ℕ) (e : Expr) (is : slice_get q.exprs k ≡ Some e) (plain : holds_reset q k ≡ false) where
      below : AllBelow k (named e)
      below = (standing q k e rules is).names

      reset_is : reset_test (holds_reset q) e ≡ false
      unfolding holds_reset
      reset_is = sym (answer_at false reset_test q.exprs k e is (λ f g same. reset_same f g e (same_below f g k (named e) same below))) ∙ plain

      stays : slice_get p.exprs k ≡ Some e
      stays = slice_get-map (read_in ds) q.exprs k ∙ ap (option_map (read_in ds)) is ∙ ap (λ x. Some x) (read_plain (holds_reset q) e reset_is)

      module _ (before : AllByRecursion (λ (j : ExprId). IsAlike j.0) (named e)) where
        forms : AreSame (form p) (form q) (named e)
        forms = all_imp (λ (j : ExprId) (h : IsAlike j.0). h.shape) (named e) before

        nums : (env : List ℤ) → AreSame (num p env) (num q env) (named e)
        nums env = all_imp (λ (j : ExprId) (h : IsAlike j.0). h.meaning.value env) (named e) before

        shape_is : form p k ≡ form q k
        unfolding form
        shape_is =
            let looks : LooksBelow (form_step q.signals) k e = λ f g same. form_same f g q.signals e (same_below f g k (named e) same below) in
            answer_at (unsigned 0) (form_step q.signals) p.exprs k e stays looks
            ∙ form_same (form p) (form q) q.signals e forms
            ∙ sym (answer_at (unsigned 0) (form_step q.signals) q.exprs k e is looks)

        value_is : (env : List ℤ) → num p env k ≡ num q env k
        unfolding num
        value_is env =
            answer_at (pos 0) (value_step (form p) env) p.exprs k e stays (λ f g same. value_same (form p) (form p) f g env e (same_refl (form p) (named e)) (same_below f g k (named e) same below))
            ∙ value_same (form p) (form q) (num p env) (num q env) env e forms (nums env)
            ∙ sym (answer_at (pos 0) (value_step (form q) env) q.exprs k e is (λ f g same. value_same (form q) (form q) f g env e (same_refl (form q) (named e)) (same_below f g k (named e) same below)))

        places_are : (env : List ℤ) → target_bits p env k ≡ target_bits q env k
        unfolding target_bits
        places_are env =
            let step : Pooled → (ℕ → List (Option Bit)) → Expr → List (Option Bit) = λ x. target_step (signal_form q.signals) (form x) (num x env) in
            let looks : (x : Pooled) → LooksBelow (step x) k e =
            λ x f g same. places_same (form x) (form x) (num x env) (num x env) (signal_form q.signals) f g e (same_refl (form x) (named e)) (same_refl (num x env) (named e)) (same_below f g k (named e) same below) in
            answer_at [] (step p) p.exprs k e stays (looks p)
            ∙ places_same (form p) (form q) (num p env) (num q env) (signal_form q.signals) (target_bits p env) (target_bits q env) e forms (nums env)
            (all_imp (λ (j : ExprId) (h : IsAlike j.0). h.meaning.places env) (named e) before)
            ∙ sym (answer_at [] (step q) q.exprs k e is (looks q))

        signals_are : target_signals p k ≡ target_signals q k
        unfolding target_signals
        signals_are =
            let looks : LooksBelow signals_step k e = λ f g same. signals_same f g e (same_below f g k (named e) same below) in
            answer_at [] signals_step p.exprs k e stays looks
            ∙ signals_same (target_signals p) (target_signals q) e (all_imp (λ (j : ExprId) (h : IsAlike j.0). h.meaning.signals) (named e) before)
            ∙ sym (answer_at [] signals_step q.exprs k e is looks)

        alike_here : IsAlike k
        alike_here = record { shape = shape_is; meaning = record { value = value_is; places = places_are; signals = signals_are } }

    element : (k : ℕ) → k < length q.exprs → (e : Expr) × (slice_get q.exprs k ≡ Some e)
    element k there = get q.exprs k there
      where
        get : (es : List Expr) (k : ℕ) → k < length es → (e : Expr) × (slice_get es k ≡ Some e)
        get [] k there = absurd (omega (arith, there))
        get (e ∷ es) zero there = (e, refl)
        get (e ∷ es) (suc k) there = get es k (omega (arith, there))

    alike : (n k : ℕ) → k < n → k < length q.exprs → holds_reset q k ≡ false → IsAlike k
    alike zero k few there plain = absurd (omega (arith, few))
    alike (suc n) k few there plain =
        let r = element k there in
        alike_here k r.0 r.1 plain (each (named r.0) (below k r.0 r.1 plain) (none_named (holds_reset q) r.0 (reset_is k r.0 r.1 plain)) (λ j l h. alike n j (omega (arith, few, l)) (omega (arith, there, l)) h))
      where
        each : (es : List ExprId) → AllBelow k es → list_any (λ (j : ExprId). holds_reset q j.0) es ≡ false → ((j : ℕ) → j < k → holds_reset q j ≡ false → IsAlike j) → AllByRecursion (λ (j : ExprId). IsAlike j.0) es
        each [] low none more = tt
        each (j ∷ es) low none more =
            let parts = or_parts (holds_reset q j.0) (list_any (λ (j : ExprId). holds_reset q j.0) es) none in
            (more j.0 low.0 parts.0, each es low.1 parts.1 more)

    -- it means the same
    pub plain_same : (k : ℕ) → k < length q.exprs → holds_reset q k ≡ false → IsSame p q k
    plain_same k there plain = (alike (suc k) k (omega arith) there plain).meaning
