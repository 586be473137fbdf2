-- A pool that gets the signals of a port.
use Rattle.std.specs.Prelude.{◌≡◌, refl, ℕ, zero, suc, ◌+◌, ◌≤◌, nat_le, nat_lt, ◌||◌, Bool, true, false, List, [], ◌∷◌, ◌++◌, length, if◌then◌else◌, Some, None, Result, Ok, Err, IfErr}
use Rattle.std.specs.List.{AllByRecursion}
use Rattle.std.proofs.Common.{sym, ◌∙◌, ap, arith, append_assoc, append-nil}
use Rattle.std.proofs.lemmas.Bool.{lt-ltb, le-ltb, leb-true, leb-false}
use Rattle.std.proofs.Math.Dec.{leb}
use Rattle.shape_rules.specs.Forms.{IsForm}
use Rattle.design_ir.specs.declared.ids.SigId.{SigId}
use Rattle.design_ir.specs.declared.signal.Sig.{Sig}
use Rattle.design_ir.specs.declared.expr.Expr.{Expr}
use Rattle.design_ir.specs.declared.expr.Expr.TheVariants as expr
use Rattle.design_ir.specs.declared.refusal.PoolStop.{PoolStop}
use Rattle.design_ir.specs.declared.refusal.PoolStop.TheVariants.{Width, BadOperand, Limit, NoMemory}
use Rattle.design_ir.specs.Pools.{Pooled}
use Rattle.design_ir.specs.PoolRules.{IsPool, IsRefusal, signal_bits, signal_added, limit_where, expr_refusal}
use Rattle.design_ir.specs.Values.{signal_form}
use Rattle.design_ir.proofs.Growth.{length_more, signal_bits_more}
use Rattle.memory_ports.specs.declared.refusal.MemStop.TheVariants as stop
use Rattle.memory_ports.specs.declared.refusal.MemStop.{MemStop}
use Rattle.memory_ports.specs.Ports.{with_signal, with_signals, is_over, filled, IsGrown}
use Rattle.memory_ports.specs.Calls.{IsOwed, IsCount, WhereLimit, told, stop_where}

-- ---- growth

pub grown_not : (q : Pooled) → IsGrown q q
grown_not q = record { more_signals = []; more_exprs = []; signals = sym (append-nil q.signals); exprs = sym (append-nil q.exprs) }

pub grown_signal : (q : Pooled) (x : Sig) → IsGrown q (signal_added q x)
grown_signal q x = record { more_signals = x ∷ []; more_exprs = []; signals = refl; exprs = sym (append-nil q.exprs) }

pub grown_one : (q : Pooled) (x : Sig) → IsGrown q (with_signal q x)
grown_one q x = record { more_signals = x ∷ []; more_exprs = expr.Sig (record { 0 = length q.signals }) ∷ []; signals = refl; exprs = refl }

pub grown_more : (p q r : Pooled) → IsGrown p q → IsGrown q r → IsGrown p r
grown_more p q r g h = record {
  more_signals = g.more_signals ++ h.more_signals;
  more_exprs = g.more_exprs ++ h.more_exprs;
  signals = h.signals ∙ ap (λ xs. xs ++ h.more_signals) g.signals ∙ append_assoc p.signals g.more_signals h.more_signals;
  exprs = h.exprs ∙ ap (λ es. es ++ h.more_exprs) g.exprs ∙ append_assoc p.exprs g.more_exprs h.more_exprs;
}

pub grown_all : (q : Pooled) (xs : List Sig) → IsGrown q (with_signals q xs)
grown_all q [] = grown_not q
grown_all q (x ∷ xs) = grown_more q (with_signal q x) (with_signals q (x ∷ xs)) (grown_one q x) (grown_all (with_signal q x) xs)

-- what holds anyway holds where a call refuses
pub anyway : {A E : Type 0} {P : Type 0} (r : Result A E) → P → IfErr r (λ _. P)
anyway (Ok x) p = tt
anyway (Err e) p = p

-- ---- counts

same_test : (a a' b b' c c' : ℕ) → a ≡ a' → b ≡ b' → c ≡ c' → (nat_lt 16384 a || (nat_lt 262144 b || nat_lt 262144 c)) ≡ (nat_lt 16384 a' || (nat_lt 262144 b' || nat_lt 262144 c'))
same_test a a' b b' c c' e f g = cc

-- a signal counts the same where it is there and where it comes first
pub over_next : (q : Pooled) (x : Sig) (xs : List Sig) → is_over (with_signal q x) xs ≡ is_over q (x ∷ xs)
over_next q x xs =
    let e : Expr = expr.Sig (record { 0 = length q.signals }) in
    let signals : length (q.signals ++ x ∷ []) + length xs ≡ length q.signals + length (x ∷ xs) = omega (arith, length_more q.signals x) in
    let bits : signal_bits (q.signals ++ x ∷ []) + signal_bits xs ≡ signal_bits q.signals + signal_bits (x ∷ xs) = omega (arith, signal_bits_more q.signals x) in
    let exprs : length (q.exprs ++ e ∷ []) + length xs ≡ length q.exprs + length (x ∷ xs) = omega (arith, length_more q.exprs e) in
    same_test _ _ _ _ _ _ signals bits exprs

-- one more is past a bound exactly where the bound is reached
reached : (n a : ℕ) → nat_lt n (a + 1) ≡ nat_le n a
reached n a = go (leb n a) refl
  where
    go : (b : Bool) → leb n a ≡ b → nat_lt n (a + 1) ≡ b
    go true e = let h = leb-true n a e in lt-ltb n (a + 1) (omega (arith, h))
    go false e = let h = leb-false n a e in le-ltb n (a + 1) (omega (arith, h))

or_assoc : (a b c : Bool) → (a || (b || c)) ≡ ((a || b) || c)
or_assoc true b c = refl
or_assoc false b c = refl

-- whether there is no room for one signal, and whether there is none for its expression
abbrev no_signal : Pooled → Sig → Bool
no_signal q x = nat_le 16384 (length q.signals) || nat_lt 262144 (signal_bits q.signals + x.shape.width)

over_one : (q : Pooled) (x : Sig) → is_over q (x ∷ []) ≡ (no_signal q x || nat_le 262144 (length q.exprs))
over_one q x =
    let signals : length q.signals + length (x ∷ []) ≡ length q.signals + 1 = omega arith in
    let bits : signal_bits q.signals + signal_bits (x ∷ []) ≡ signal_bits q.signals + x.shape.width = omega arith in
    let exprs : length q.exprs + length (x ∷ []) ≡ length q.exprs + 1 = omega arith in
    same_test _ _ _ _ _ _ signals bits exprs
    ∙ rw (reached 16384 (length q.signals), reached 262144 (length q.exprs)) (or_assoc (nat_le 16384 (length q.signals)) (nat_lt 262144 (signal_bits q.signals + x.shape.width)) (nat_le 262144 (length q.exprs)))

-- ---- what a pool refuses

pub counted : (b : Bool) (s : PoolStop) → IsRefusal (limit_where b) s → IsCount s
counted true Width h = cc
counted false Width h = cc
counted true BadOperand h = cc
counted false BadOperand h = cc
counted b Limit h = tt
counted b NoMemory h = tt

pub owed_where : (b b' : Bool) (s : PoolStop) → (b ≡ true → b' ≡ true) → IsRefusal (limit_where b) s → IsOwed (stop_where stop.Limit b' None) (told s)
owed_where b b' Width more h = tt
owed_where b b' BadOperand more h = tt
owed_where b b' NoMemory more h = tt
owed_where true b' Limit more h = rw (more refl) refl
owed_where false b' Limit more h = cc

form_narrow : (w : ℕ) (signed : Bool) → IsForm w signed → w ≤ 128
form_narrow w true h = h.1
form_narrow w false h = h

signal_narrow : (xs : List Sig) (s : ℕ) → AllByRecursion (λ (x : Sig). IsForm x.shape.width x.shape.signed) xs → (signal_form xs s).width ≤ 128
signal_narrow [] s h = omega arith
signal_narrow (x ∷ xs) zero h = form_narrow x.shape.width x.shape.signed h.0
signal_narrow (x ∷ xs) (suc s) h = signal_narrow xs s h.1

-- the expression of a signal is refused for its count alone
pub signal_expr : (q : Pooled) (s : SigId) → IsPool q → expr_refusal q (expr.Sig s) ≡ limit_where (nat_le 262144 (length q.exprs))
signal_expr q s h = rw (le-ltb 128 (signal_form q.signals s.0).width (signal_narrow q.signals s.0 h.shapes)) refl

or_left : (a b : Bool) → a ≡ true → (a || b) ≡ true
or_left true b e = refl
or_left false b e = cc

or_right : (a b : Bool) → b ≡ true → (a || b) ≡ true
or_right true b e = refl
or_right false b e = e

limit_none : (b : Bool) → limit_where b ≡ None → b ≡ false
limit_none true e = cc
limit_none false e = refl

-- a signal that is refused would be too many, so would one whose expression is
pub over_signal : (q : Pooled) (x : Sig) → no_signal q x ≡ true → is_over q (x ∷ []) ≡ true
over_signal q x e = over_one q x ∙ or_left (no_signal q x) (nat_le 262144 (length q.exprs)) e

pub over_expr : (q : Pooled) (x : Sig) → nat_le 262144 (length q.exprs) ≡ true → is_over q (x ∷ []) ≡ true
over_expr q x e = over_one q x ∙ or_right (no_signal q x) (nat_le 262144 (length q.exprs)) e

-- and one that is taken is none too many
pub over_none : (q : Pooled) (x : Sig) → limit_where (no_signal q x) ≡ None → limit_where (nat_le 262144 (length q.exprs)) ≡ None → is_over q (x ∷ []) ≡ false
over_none q x signal expr = over_one q x ∙ rw (limit_none (no_signal q x) signal, limit_none (nat_le 262144 (length q.exprs)) expr) refl

-- ---- a count that is passed

-- the first signal does not fit: nothing has come
pub filled_first : (q r : Pooled) (x : Sig) (xs : List Sig) (why : MemStop) → IsOwed (stop_where stop.Limit (is_over q (x ∷ [])) None) why → WhereLimit why (r ≡ q) → WhereLimit why (r ≡ filled q (x ∷ xs))
filled_first q r x xs stop.BadDomain owed h = tt
filled_first q r x xs stop.BadGranularity owed h = tt
filled_first q r x xs stop.BadTransparent owed h = tt
filled_first q r x xs stop.TooManyRows owed h = tt
filled_first q r x xs stop.NoMemory owed h = tt
filled_first q r x xs stop.Limit owed h = by_test (is_over q (x ∷ [])) owed
  where
    by_test : (b : Bool) → stop_where stop.Limit b None ≡ Some stop.Limit → r ≡ (if b then q else filled (with_signal q x) xs)
    by_test true e = h
    by_test false e = cc

-- it fits, and one behind it does not
pub filled_next : (q r : Pooled) (x : Sig) (xs : List Sig) (why : MemStop) → is_over q (x ∷ []) ≡ false → WhereLimit why (r ≡ filled (with_signal q x) xs) → WhereLimit why (r ≡ filled q (x ∷ xs))
filled_next q r x xs stop.BadDomain fits h = tt
filled_next q r x xs stop.BadGranularity fits h = tt
filled_next q r x xs stop.BadTransparent fits h = tt
filled_next q r x xs stop.TooManyRows fits h = tt
filled_next q r x xs stop.NoMemory fits h = tt
filled_next q r x xs stop.Limit fits h = h ∙ ap (λ b. if b then q else filled (with_signal q x) xs) (sym fits)

-- where there is room, memory alone is wanted
pub not_full : (b : Bool) (s : PoolStop) (P : Type 0) → b ≡ false → IsRefusal (limit_where b) s → WhereLimit (told s) P
not_full b Width P none h = tt
not_full b BadOperand P none h = tt
not_full b NoMemory P none h = tt
not_full true Limit P none h = cc
not_full false Limit P none h = cc
