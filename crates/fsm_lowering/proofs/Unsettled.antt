-- The register while it has no shape.
use Rattle.std.proofs.Common.{◌≡◌, ◌≢◌, ℕ, zero, suc, ◌<◌, ◌≤◌, Bool, true, false, List, [], ◌∷◌, ◌++◌, length, Some, slice_get, ℤ, refl, sym, ap, ◌∙◌, arith, inl, inr, ◌⊎◌, length-append, ◌==◌, ◌||◌, lt_irrefl}
use Rattle.std.specs.List.{list_any}
use Rattle.std.proofs.lemmas.Bool.{false≢true, eqb-true}
use Rattle.shape_rules.specs.Forms.{Form}
use Rattle.design_ir.specs.declared.signal.Sig.{Sig}
use Rattle.design_ir.specs.declared.expr.Expr.{Expr}
use Rattle.design_ir.specs.declared.expr.Expr.TheVariants as expr
use Rattle.design_ir.specs.Pools.{Pooled}
use Rattle.design_ir.specs.declared.ids.ExprId.{ExprId}
use Rattle.design_ir.specs.Named.{named, AllBelow}
use Rattle.design_ir.specs.PoolRules.{IsPool, IsInRange, signal_added, expr_added}
use Rattle.design_ir.specs.Settling.{IsUnsettled, is_signal, is_match, names_place, settled_at, signal_settled}
use Rattle.design_ir.specs.Values.{signal_form, form}
use Rattle.design_ir.proofs.Elements.{some_is}
use Rattle.design_ir.proofs.Equations.{standing}
use Rattle.fsm_lowering.specs.Machines.{Machine, in_state, state_number, no_bits}
use Rattle.fsm_lowering.specs.Laws.{IsApart}

-- ---- signals

form_more : (xs : List Sig) (y : Sig) (s : ℕ) → s < length xs → signal_form (xs ++ y ∷ []) s ≡ signal_form xs s
form_more [] y s h = absurd (omega (arith, h))
form_more (x ∷ xs) y zero h = refl
form_more (x ∷ xs) y (suc s) h = form_more xs y s (omega (arith, h))

pub unsettled_signal : (q : Pooled) (s : ℕ) (x : Sig) → IsUnsettled q s → IsUnsettled (signal_added q x) s
unsettled_signal q s x is = record {
  there = simp length-append (let h = is.there in omega (arith, h));
  empty = ap (λ (f : Form). f.width) (form_more q.signals x s is.there) ∙ is.empty;
  over = is.over;
}

form_apart : (xs : List Sig) (t s : ℕ) (f : Form) (n : ℤ) → t ≢ s → signal_form (settled_at xs t f n) s ≡ signal_form xs s
form_apart [] t s f n apart = refl
form_apart (x ∷ xs) zero zero f n apart = absurd (apart refl)
form_apart (x ∷ xs) zero (suc s) f n apart = refl
form_apart (x ∷ xs) (suc t) zero f n apart = refl
form_apart (x ∷ xs) (suc t) (suc s) f n apart = form_apart xs t s f n (λ e. apart (ap suc e))

length_settled : (xs : List Sig) (t : ℕ) (f : Form) (n : ℤ) → length (settled_at xs t f n) ≡ length xs
length_settled [] t f n = refl
length_settled (x ∷ xs) zero f n = refl
length_settled (x ∷ xs) (suc t) f n = ap suc (length_settled xs t f n)

pub unsettled_others : (q : Pooled) (s t : ℕ) (f : Form) (n : ℤ) → t ≢ s → IsUnsettled q s → IsUnsettled (signal_settled q t f n) s
unsettled_others q s t f n apart is = record {
  there = rw (length_settled q.signals t f n) is.there;
  empty = ap (λ (g : Form). g.width) (form_apart q.signals t s f n apart) ∙ is.empty;
  over = is.over;
}

-- ---- expressions

-- an element of a longer list is of the list, or the last
last_or : {A : Type 0} (xs : List A) (y : A) (k : ℕ) (x : A) → slice_get (xs ++ y ∷ []) k ≡ Some x → (slice_get xs k ≡ Some x) ⊎ ((y ≡ x) × (length xs ≤ k))
last_or [] y zero x e = inr (some_is y x e, omega arith)
last_or [] y (suc k) x e = cc
last_or (z ∷ xs) y zero x e = inl e
last_or (z ∷ xs) y (suc k) x e = elim (last_or xs y k x e) [ inl there ↦ inl there | inr last ↦ inr (last.0, omega (arith, last.1)) ]

pub unsettled_expr : (q : Pooled) (s : ℕ) (e : Expr) → IsUnsettled q s → IsApart q s e → IsUnsettled (expr_added q e) s
unsettled_expr q s e is apart = record { there = is.there; empty = is.empty; over = over }
  where
    over : (k j : ℕ) (f x : Expr) → slice_get (q.exprs ++ e ∷ []) k ≡ Some f → slice_get (q.exprs ++ e ∷ []) j ≡ Some x → is_signal s x ≡ true → names_place f j ≡ true → is_match f ≡ true
    over k j f x at from signal names =
        elim (last_or q.exprs e j x from) [
          | inr last ↦ absurd (false≢true (sym apart.other ∙ ap (is_signal s) last.0 ∙ signal))
          | inl known ↦
              elim (last_or q.exprs e k f at) [
                | inl there ↦ is.over k j f x there known signal names
                | inr last ↦ ap is_match (sym last.0) ∙ apart.over j x known signal (ap (λ (g : Expr). names_place g j) last.0 ∙ names)
              ]
        ]

pub in_state-apart : (q : Pooled) (s : ℕ) (m : Machine) (n : ℕ) → IsApart q s (in_state m n)
in_state-apart q s m n = record { other = refl; over = λ j x at signal names. refl }

pub state_number-apart : (q : Pooled) (s : ℕ) (n : ℕ) → IsApart q s (state_number n)
state_number-apart q s n = record { other = refl; over = λ j x at signal names. absurd (false≢true names) }

-- ---- the register as it is made

named_below : (n j : ℕ) (es : List ExprId) → AllBelow n es → list_any (λ (a : ExprId). a.0 == j) es ≡ true → j < n
named_below n j [] below h = absurd (false≢true h)
named_below n j (e ∷ es) below h = go (e.0 == j) refl h (named_below n j es below.1)
  where
    go : (b : Bool) → (e.0 == j) ≡ b → (b || list_any (λ (a : ExprId). a.0 == j) es) ≡ true → (list_any (λ (a : ExprId). a.0 == j) es ≡ true → j < n) → j < n
    go true same h more = let is : e.0 ≡ j = eqb-true e.0 j same in omega (arith, is, below.0)
    go false other h more = more h

signal_there : (xs : List Sig) (f : ℕ → Form) (s : ℕ) (e : Expr) → is_signal s e ≡ true → IsInRange xs f e → s < length xs
signal_there xs f s (expr.Const n g) h range = absurd (false≢true h)
signal_there xs f s (expr.Sig t) h range = let is : t.0 ≡ s = eqb-true t.0 s h in omega (arith, is, range)
signal_there xs f s (expr.Unary op a) h range = absurd (false≢true h)
signal_there xs f s (expr.Binary op a b) h range = absurd (false≢true h)
signal_there xs f s (expr.Mux c a b) h range = absurd (false≢true h)
signal_there xs f s (expr.Slice a low width) h range = absurd (false≢true h)
signal_there xs f s (expr.Cat es) h range = absurd (false≢true h)
signal_there xs f s (expr.Part a offset width stride) h range = absurd (false≢true h)
signal_there xs f s (expr.Pick index es) h range = absurd (false≢true h)
signal_there xs f s (expr.Cast a signed) h range = absurd (false≢true h)
signal_there xs f s (expr.Matches a patterns) h range = absurd (false≢true h)
signal_there xs f s (expr.Reset domain place) h range = absurd (false≢true h)

pub last_there : {A : Type 0} (xs : List A) (y : A) → slice_get (xs ++ y ∷ []) (length xs) ≡ Some y
last_there [] y = refl
last_there (x ∷ xs) y = last_there xs y

last_form : (xs : List Sig) (y : Sig) → signal_form (xs ++ y ∷ []) (length xs) ≡ y.shape
last_form [] y = refl
last_form (x ∷ xs) y = last_form xs y

pub unsettled_new : (q : Pooled) (name : List ℕ) → IsPool q → IsUnsettled (expr_added (signal_added q (no_bits name)) (expr.Sig (record { 0 = length q.signals }))) (length q.signals)
unsettled_new q name pool = record {
  there = simp length-append (omega arith);
  empty = ap (λ (f : Form). f.width) (last_form q.signals (no_bits name));
  over = over;
}
  where
    over : (k j : ℕ) (f x : Expr) → slice_get (q.exprs ++ expr.Sig (record { 0 = length q.signals }) ∷ []) k ≡ Some f → slice_get (q.exprs ++ expr.Sig (record { 0 = length q.signals }) ∷ []) j ≡ Some x → is_signal (length q.signals) x ≡ true → names_place f j ≡ true → is_match f ≡ true
    over k j f x at from signal names =
        elim (last_or q.exprs (expr.Sig (record { 0 = length q.signals })) j x from) [
          | inl known ↦ absurd (lt_irrefl (length q.signals) (signal_there q.signals (form q) (length q.signals) x signal (standing q j x pool known).askable.parts))
          | inr last ↦
              elim (last_or q.exprs (expr.Sig (record { 0 = length q.signals })) k f at) [
                | inl there ↦ absurd (let below = named_below (length q.exprs) j (named f) (standing q k f pool there).askable.names names in omega (arith, below, last.1))
                | inr own ↦ absurd (false≢true (ap (λ (g : Expr). names_place g j) own.0 ∙ names))
              ]
        ]
