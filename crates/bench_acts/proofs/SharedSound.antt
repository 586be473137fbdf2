-- What is held stays sound where the expressions of an act are shared.
use Rattle.std.proofs.Common.{◌≡◌, refl, sym, subst, ◌∙◌, ap, arith, length, length-append, append-nil, append_assoc, ℕ, zero, suc, ◌+◌, ◌<◌, ◌≤◌, List, [], ◌∷◌, ◌++◌, map, take, drop, Option, Some, None}
use Rattle.std.specs.Prelude.{fold, slice_get}
use Rattle.std.specs.List.{AllByRecursion}
use Rattle.design_ir.specs.declared.ids.ExprId.{ExprId}
use Rattle.design_ir.specs.declared.expr.Expr.{Expr}
use Rattle.design_ir.specs.Pools.{Pooled}
use Rattle.design_ir.proofs.Equations.{place_below}
use Rattle.amh_things.specs.declared.thing.Thing.{Thing}
use Rattle.amh_things.specs.declared.thing.Thing.TheVariants as thing
use Rattle.amh_things.specs.Held.{AreHeld}
use Rattle.amh_things.specs.Renumbered.{thing_now, things_now}
use Rattle.amh_things.proofs.RenumberLaws.{AreBelow, renumbered_held}
use Rattle.elab_store.specs.declared.kept.Begin.{Begin}
use Rattle.elab_store.specs.declared.kept.Begin.TheVariants as begin
use Rattle.elab_store.specs.declared.kept.Kept.{Kept}
use Rattle.elab_store.specs.declared.kept.Kept.TheVariants as kept
use Rattle.elab_store.specs.Sound.{IsKept, IsSound}
use Rattle.elab_store.specs.Stores.{Held}
use Rattle.elab_acts.proofs.GrownLaws.{all_and, pool_grown}
use Rattle.expr_index.specs.First.{first_number}
use Rattle.expr_index.specs.Numbers.{number_now, renumbered}
use Rattle.bench_acts.specs.Sharing.{Shared, number_in, share_one, shared, begin_now, kept_now, kepts_now, held_shared}
use Rattle.bench_acts.proofs.ShareLaws.{first_is, stays, take_whole, none_left}

-- ---- the numbers that came are of expressions that are there

below_more : (m n : ℕ) (es : List ExprId) → m ≤ n → AreBelow m es → AreBelow n es
below_more m n [] le h = tt
below_more m n (e ∷ es) le h = (omega (arith, h.0, le), below_more m n es le h.1)

abbrev Below : ℕ → ExprId → Type 0
Below n e = e.0 < n

in_below : (o : Option ℕ) (e : Expr) (s : Shared) → first_number s.exprs e ≡ o → AreBelow (length s.exprs) s.numbers → AreBelow (length (number_in o e s).exprs) (number_in o e s).numbers
in_below (Some j) e s first h = all_and (Below (length s.exprs)) s.numbers (record { 0 = j } ∷ []) h (place_below s.exprs j e (first_is s.exprs e j first), tt)
in_below None e s first h =
    let size = length-append s.exprs (e ∷ []) in
    all_and (Below (length (s.exprs ++ e ∷ []))) s.numbers (record { 0 = length s.exprs } ∷ []) (below_more (length s.exprs) (length (s.exprs ++ e ∷ [])) s.numbers (omega (arith, size)) h) (omega (arith, size), tt)

in_count : (o : Option ℕ) (e : Expr) (s : Shared) → length (number_in o e s).numbers ≡ length s.numbers + 1
in_count (Some j) e s = length-append s.numbers (record { 0 = j } ∷ [])
in_count None e s = length-append s.numbers (record { 0 = length s.exprs } ∷ [])

in_more : (o : Option ℕ) (e : Expr) (s : Shared) → (more : List Expr) × ((number_in o e s).exprs ≡ s.exprs ++ more)
in_more (Some j) e s = ([], sym (append-nil s.exprs))
in_more None e s = (e ∷ [], refl)

all_below : (n : ℕ) (s : Shared) (es : List Expr) → AreBelow (length s.exprs) s.numbers → AreBelow (length (fold (share_one n) s es).exprs) (fold (share_one n) s es).numbers
all_below n s [] h = h
all_below n s (e ∷ es) h =
    let d = renumbered (number_now n s.numbers) e in
    all_below n (share_one n s e) es (in_below (first_number s.exprs d) d s refl h)

all_count : (n : ℕ) (s : Shared) (es : List Expr) → length (fold (share_one n) s es).numbers ≡ length s.numbers + length es
all_count n s [] = omega arith
all_count n s (e ∷ es) =
    let d = renumbered (number_now n s.numbers) e in
    omega (arith, all_count n (share_one n s e) es, in_count (first_number s.exprs d) d s)

all_more : (n : ℕ) (s : Shared) (es : List Expr) → (more : List Expr) × ((fold (share_one n) s es).exprs ≡ s.exprs ++ more)
all_more n s [] = ([], sym (append-nil s.exprs))
all_more n s (e ∷ es) =
    let d = renumbered (number_now n s.numbers) e in
    let one = in_more (first_number s.exprs d) d s in
    let rest = all_more n (share_one n s e) es in
    (one.0 ++ rest.0, rest.1 ∙ ap (λ xs. xs ++ rest.0) one.1 ∙ append_assoc s.exprs one.0 rest.0)

-- ---- where each number stays, so does what stands over it

module _ (to : ExprId → ExprId) (same : (e : ExprId) → to e ≡ e) where
  thing_same : (t : Thing) → thing_now to t ≡ t
  thing_same (thing.Value e) = ap thing.Value (same e)
  thing_same (thing.Numbered h e) = ap (thing.Numbered h) (same e)
  thing_same (thing.View h e) = ap (thing.View h) (same e)
  thing_same (thing.Method h e m) = ap (λ x. thing.Method h x m) (same e)
  thing_same (thing.Layout x) = refl
  thing_same (thing.Enumeration x) = refl
  thing_same (thing.Member x) = refl
  thing_same (thing.Name x) = refl
  thing_same (thing.Shape x) = refl
  thing_same (thing.Array x) = refl
  thing_same (thing.Kept x) = refl

  each_thing : (ts : List Thing) → map (thing_now to) ts ≡ ts
  each_thing [] = refl
  each_thing (t ∷ ts) = ap (λ x. x ∷ map (thing_now to) ts) (thing_same t) ∙ ap (λ xs. t ∷ xs) (each_thing ts)

  things_same : (n : ℕ) (ts : List Thing) → things_now n to ts ≡ ts
  things_same zero ts = each_thing ts
  things_same (suc n) [] = refl
  things_same (suc n) (t ∷ ts) = ap (λ xs. t ∷ xs) (things_same n ts)

  begin_same : (b : Begin) → begin_now to b ≡ b
  begin_same (begin.If e) = ap begin.If (same e)
  begin_same (begin.Elif e) = ap begin.Elif (same e)
  begin_same (begin.Switch e) = ap begin.Switch (same e)
  begin_same begin.Else = refl
  begin_same (begin.Case k) = refl
  begin_same begin.Default = refl
  begin_same begin.Misplaced = refl

  kept_same : (k : Kept) → kept_now to k ≡ k
  kept_same (kept.Statement x) = ap (λ e. kept.Statement (record x { target = e; value = to x.value })) (same x.target) ∙ ap (λ e. kept.Statement (record x { value = e })) (same x.value)
  kept_same (kept.Block m b) = ap (kept.Block m) (begin_same b)
  kept_same k = refl

  each_kept : (ks : List Kept) → map (kept_now to) ks ≡ ks
  each_kept [] = refl
  each_kept (k ∷ ks) = ap (λ x. x ∷ map (kept_now to) ks) (kept_same k) ∙ ap (λ xs. k ∷ xs) (each_kept ks)

  kepts_same : (n : ℕ) (ks : List Kept) → kepts_now n to ks ≡ ks
  kepts_same zero ks = each_kept ks
  kepts_same (suc n) [] = refl
  kepts_same (suc n) (k ∷ ks) = ap (λ xs. k ∷ xs) (kepts_same n ks)

-- the first ones stay
kepts_first : (to : ExprId → ExprId) (ks : List Kept) → kepts_now (length ks) to ks ≡ ks
kepts_first to [] = refl
kepts_first to (k ∷ ks) = ap (λ xs. k ∷ xs) (kepts_first to ks)

-- ---- an act that put nothing to the pool

abbrev shared_by : Held → Held → List Expr → Held
shared_by h k es =
    let s = shared h.pool.exprs es in
    let to = number_now (length h.pool.exprs) s.numbers in
    record k { pool = record (h.pool) { exprs = s.exprs }; store = record (k.store) { things = things_now (length h.store.things) to k.store.things; kept = kepts_now (length h.store.kept) to k.store.kept } }

pub same_shared : (h k : Held) → k.pool ≡ h.pool → held_shared h k ≡ k
same_shared h k is =
    let n = length h.pool.exprs in
    let none : drop n k.pool.exprs ≡ [] = ap (λ (q : Pooled). drop n q.exprs) is ∙ none_left h.pool.exprs n (omega arith) in
    ap (shared_by h k) none
    ∙ ap (λ ts. record k { pool = h.pool; store = record (k.store) { things = ts; kept = kepts_now (length h.store.kept) (number_now n []) k.store.kept } }) (things_same (number_now n []) (stays n) (length h.store.things) k.store.things)
    ∙ ap (λ ks. record k { pool = h.pool; store = record (k.store) { kept = ks } }) (kepts_same (number_now n []) (stays n) (length h.store.kept) k.store.kept)
    ∙ ap (λ q. record k { pool = q }) (sym is)

-- ---- an act that put expressions and things behind the others

pub drop_whole : {A : Type 0} (xs ys : List A) → drop (length xs) (xs ++ ys) ≡ ys
drop_whole [] ys = refl
drop_whole (x ∷ xs) ys = drop_whole xs ys

pub planned_shared : (h : Held) (q : Pooled) (es : List Expr) (ts more : List Thing) → q.signals ≡ h.pool.signals → q.exprs ≡ h.pool.exprs ++ es → ts ≡ h.store.things ++ more → AreHeld (length q.exprs) ts → IsSound h
    → IsSound (held_shared h (record { pool = q; store = record (h.store) { things = ts } }))
planned_shared h q es ts more signals exprs things held sound =
    let n = length h.pool.exprs in
    let begun : Shared = record { numbers = []; exprs = h.pool.exprs } in
    let behind = drop n q.exprs in
    let s = shared h.pool.exprs behind in
    let r : Pooled = record (h.pool) { exprs = s.exprs } in
    let grown = all_more n begun behind in
    let t : IsSound (record h { pool = r }) = pool_grown h r [] grown.0 sound (sym (append-nil h.pool.signals)) grown.1 tt in
    let left : behind ≡ es = ap (drop n) exprs ∙ drop_whole h.pool.exprs es in
    let count = all_count n begun behind in
    let size = ap length exprs ∙ length-append h.pool.exprs es in
    let wide = ap length grown.1 ∙ length-append h.pool.exprs grown.0 in
    let first : AreHeld (length r.exprs) (take (length h.store.things) ts) = subst (AreHeld (length r.exprs)) (sym (ap (take (length h.store.things)) things ∙ take_whole h.store.things more)) t.things in
    let now : AreHeld (length r.exprs) (things_now (length h.store.things) (number_now n s.numbers) ts) =
    renumbered_held (length h.store.things) n (length q.exprs) (length r.exprs) s.numbers ts (omega (arith, wide)) (omega (arith, count, size, ap length left)) (all_below n begun behind tt) first held in record {
      names = t.names;
      things = now;
      kept = subst (AllByRecursion (IsKept r h.store.components.signatures h.store.components.ends)) (sym (kepts_first (number_now n s.numbers) h.store.kept)) t.kept;
      modules = t.modules;
      components = t.components;
      machines = t.machines;
      domains = t.domains;
      additions = t.additions;
      clock_domains = t.clock_domains;
      memories = t.memories;
      registers = t.registers;
      wrappings = t.wrappings;
      waits = t.waits;
    }
