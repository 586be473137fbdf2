-- The registers that a process resets, and their assignments, one after another.
use Rattle.std.proofs.Common.{◌≡◌, ℕ, zero, suc, ◌+◌, ◌-◌, ◌<◌, ◌≤◌, Bool, true, false, cond, List, [], ◌∷◌, ◌++◌, length, take, Some, None, slice_get, refl, sym, ap, ◌∙◌, subst, arith, append-nil}
use Rattle.std.specs.Prelude.{Option, option_to_list}
use Rattle.std.specs.List.{AllByRecursion, cons_option, filter_map, range_with_len}
use Rattle.std.proofs.lemmas.Option.{slice_get_past}
use Rattle.shape_rules.specs.Forms.{IsForm}
use Rattle.design_ir.specs.declared.ids.ExprId.{ExprId}
use Rattle.design_ir.specs.declared.signal.Sig.{Sig}
use Rattle.std.proofs.lemmas.Bool.{false≢true, eqb-true}
use Rattle.design_ir.specs.declared.expr.Expr.{Expr}
use Rattle.design_ir.specs.declared.expr.Expr.TheVariants as expr
use Rattle.design_ir.specs.Settling.{is_signal}
use Rattle.design_ir.proofs.Equations.{standing}
use Rattle.design_ir.specs.Trees.{Statement, Block, next, block_and}
use Rattle.design_ir.specs.Pools.{Pooled}
use Rattle.design_ir.specs.PoolRules.{IsPool, HasInit}
use Rattle.design_ir.specs.Guards.{driven}
use Rattle.design_ir.specs.Circuits.{is_among}
use Rattle.fragment_walks.proofs.Lists.{take-push, all_at}
use Rattle.clock_domains.proofs.PortLaws.{range-push}
use Rattle.domain_transforms.specs.declared.resetting.Register.{Register}
use Rattle.domain_transforms.specs.Making.{each_in}
use Rattle.domain_transforms.specs.Placed.{IsInitial}
use Rattle.domain_transforms.specs.Resetting.{block_in_order, init_block, init_statement, place_from, register_of, reset_register, reset_registers}
use Rattle.domain_transforms.proofs.MakingLaws.{each_in-push}
use Rattle.domain_transforms.proofs.PlaceLaws.{filter_map-push, place_stands}

-- ---- numbers in order

pub registers_turn : {B : Type 0} (f : ℕ → Option B) (n : ℕ) (old new : List B) → old ≡ filter_map f (range_with_len 0 n) → new ≡ old ++ option_to_list (f n) → new ≡ filter_map f (range_with_len 0 (n + 1))
registers_turn f n old new h k =
    k ∙ ap (λ xs. xs ++ option_to_list (f n)) h ∙ sym (filter_map-push f (range_with_len 0 n) n) ∙ ap (λ m. filter_map f (range_with_len 0 n ++ m ∷ [])) (let e : n ≡ 0 + n = omega arith in e) ∙ ap (filter_map f) (sym (range-push 0 n))

-- past the last number with which there is something
range_more : {B : Type 0} (f : ℕ → Option B) (m d : ℕ) → ((s : ℕ) → m ≤ s → f s ≡ None) → filter_map f (range_with_len 0 (m + d)) ≡ filter_map f (range_with_len 0 m)
range_more f m zero none = ap (λ n. filter_map f (range_with_len 0 n)) (let e : m + 0 ≡ m = omega arith in e)
range_more f m (suc d) none =
    ap (λ n. filter_map f (range_with_len 0 n)) (let e : m + suc d ≡ (m + d) + 1 = omega arith in e)
    ∙ sym (registers_turn f (m + d) (filter_map f (range_with_len 0 (m + d))) (filter_map f (range_with_len 0 (m + d)) ++ option_to_list (f (m + d))) refl refl)
    ∙ ap (λ o. filter_map f (range_with_len 0 (m + d)) ++ option_to_list o) (none (m + d) (omega arith))
    ∙ append-nil (filter_map f (range_with_len 0 (m + d)))
    ∙ range_more f m d none

-- ---- registers

without_signal : (o : Option ExprId) → register_of o None ≡ None
without_signal None = refl
without_signal (Some t) = refl

register_past : (q : Pooled) (body : Block) (s : ℕ) → length q.signals ≤ s → reset_register q body s ≡ None
register_past q body s past = by (is_among (driven q body) s)
  where
    by : (b : Bool) → cond b (register_of (place_from s 0 q.exprs) (slice_get q.signals s)) None ≡ None
    by true = ap (register_of (place_from s 0 q.exprs)) (slice_get_past q.signals s past) ∙ without_signal (place_from s 0 q.exprs)
    by false = refl

-- as many numbers as a pool may have signals are enough
pub registers_whole : (q : Pooled) (body : Block) (n : ℕ) → IsPool q → 16384 ≤ n → filter_map (reset_register q body) (range_with_len 0 n) ≡ reset_registers q body
unfolding reset_registers
registers_whole q body n rules enough =
    let m = length q.signals in
    let few : m ≤ n = omega (arith, enough, rules.few_signals) in
    ap (λ k. filter_map (reset_register q body) (range_with_len 0 k)) (let e : n ≡ m + (n - m) = omega (arith, few) in e) ∙ range_more (reset_register q body) m (n - m) (register_past q body)

-- a register is a signal of the pool
initial_of : (q : Pooled) (s : ℕ) (o : Option ExprId) (x : Option Sig) (r : Register) → IsPool q → slice_get q.signals s ≡ x → register_of o x ≡ Some r → IsInitial r
initial_of q s None x r rules at h = absurd cc
initial_of q s (Some t) None r rules at h = absurd cc
initial_of q s (Some t) (Some x) r rules at h = by x.reset_less h
  where
    by : (b : Bool) → cond b None (Some (record { target = t; init = x.init; shape = x.shape })) ≡ Some r → IsInitial r
    by true h = absurd cc
    by false h =
        let same : record { target = t; init = x.init; shape = x.shape } ≡ r = cc in
        subst IsInitial same record { shape = all_at (λ (y : Sig). IsForm y.shape.width y.shape.signed) q.signals s x rules.shapes at; init = all_at HasInit q.signals s x rules.inits at }

initial_where : (q : Pooled) (body : Block) (s : ℕ) (r : Register) → IsPool q → reset_register q body s ≡ Some r → IsInitial r
initial_where q body s r rules h = by (is_among (driven q body) s) h
  where
    by : (b : Bool) → cond b (register_of (place_from s 0 q.exprs) (slice_get q.signals s)) None ≡ Some r → IsInitial r
    by true h = initial_of q s (place_from s 0 q.exprs) (slice_get q.signals s) r rules refl h
    by false h = absurd cc

pub all_initial : (q : Pooled) (body : Block) (ns : List ℕ) → IsPool q → AllByRecursion IsInitial (filter_map (reset_register q body) ns)
all_initial q body [] rules = tt
all_initial q body (n ∷ ns) rules = by (all_initial q body ns rules) (reset_register q body n) refl
  where
    by : AllByRecursion IsInitial (filter_map (reset_register q body) ns) → (o : Option Register) → reset_register q body n ≡ o → AllByRecursion IsInitial (cons_option o (filter_map (reset_register q body) ns))
    by rest None e = rest
    by rest (Some r) e = (initial_where q body n r rules e, rest)

-- ---- assignments

in_order-push : (ss : List Statement) (s : Statement) → block_in_order (ss ++ s ∷ []) ≡ block_and (block_in_order ss) s
in_order-push [] s = refl
in_order-push (t ∷ ss) s = ap (next t) (in_order-push ss s)

pub inits_turn : (q : Pooled) (xs : List Register) (i : ℕ) (x : Register) (body : Block) (cur new : Pooled) (s : Statement) → slice_get xs i ≡ Some x → (body, cur) ≡ init_block (each_in init_statement q (take i xs)) → (s, new) ≡ init_statement cur x
    → (block_and body s, new) ≡ init_block (each_in init_statement q (take (i + 1) xs))
inits_turn q xs i x body cur new s at h one =
    let before : List Statement × Pooled = each_in init_statement q (take i xs) in
    ap (λ (r : Statement × Pooled). (block_and body r.0, r.1)) one
    ∙ ap (λ (r : Block × Pooled). (block_and r.0 (init_statement r.1 x).0, (init_statement r.1 x).1)) h
    ∙ ap (λ b. (b, (init_statement before.1 x).1)) (sym (in_order-push before.0 (init_statement before.1 x).0))
    ∙ ap init_block (sym (each_in-push init_statement q (take i xs) x))
    ∙ ap (λ ys. init_block (each_in init_statement q ys)) (sym (take-push xs i x at))

-- ---- a signal that an expression is

pub signal_there : (q : Pooled) (s : ℕ) (t : ExprId) → IsPool q → place_from s 0 q.exprs ≡ Some t → s < length q.signals
signal_there q s t rules h = let r = place_stands s 0 q.exprs t h in by r.1 r.2 r.3
  where
    by : (e : Expr) → slice_get q.exprs (place_stands s 0 q.exprs t h).0 ≡ Some e → is_signal s e ≡ true → s < length q.signals
    by (expr.Sig u) at is = omega (arith, eqb-true u.0 s is, (standing q (place_stands s 0 q.exprs t h).0 (expr.Sig u) rules at).askable.parts)
    by (expr.Const n k) at is = absurd (false≢true is)
    by (expr.Unary op a) at is = absurd (false≢true is)
    by (expr.Binary op a b) at is = absurd (false≢true is)
    by (expr.Mux c a b) at is = absurd (false≢true is)
    by (expr.Slice a low width) at is = absurd (false≢true is)
    by (expr.Cat es) at is = absurd (false≢true is)
    by (expr.Part a offset width stride) at is = absurd (false≢true is)
    by (expr.Pick index es) at is = absurd (false≢true is)
    by (expr.Cast a signed) at is = absurd (false≢true is)
    by (expr.Matches a patterns) at is = absurd (false≢true is)
    by (expr.Reset domain place) at is = absurd (false≢true is)
