-- Statements one after another, and the arms of a choice.
use Rattle.std.specs.Prelude.{◌≡◌, refl, ℕ, zero, suc, ◌+◌, ◌<◌, ◌&&◌, not, Bool, true, false, if◌then◌else◌, List, [], ◌∷◌, ◌++◌, map, take, length, slice_get, slice_index_or, ℤ, Option, Some, None, IfSome}
use Rattle.std.specs.List.{AllByRecursion}
use Rattle.std.proofs.Common.{sym, ◌∙◌, ap, subst, append_assoc, append-nil}
use Rattle.std.proofs.lemmas.Option.{slice_get_read}
use Rattle.shape_rules.specs.Operators.{is_zero}
use Rattle.design_ir.specs.declared.ids.ExprId.{ExprId}
use Rattle.design_ir.specs.declared.stmt.Stmt.{Stmt}
use Rattle.design_ir.specs.declared.stmt.Arm.{Arm}
use Rattle.design_ir.specs.Pools.{Pooled}
use Rattle.design_ir.specs.PoolRules.{IsPool}
use Rattle.design_ir.specs.Targets.{Bit}
use Rattle.design_ir.specs.Needed.{needed_whole}
use Rattle.design_ir.specs.Trees.{Block, Choices}
use Rattle.design_ir.specs.Statements.{statement_of, block_of, choices_of}
use Rattle.design_ir.specs.Guards.{Guard, Guarded, guarded, guarded_in, guarded_arms, statement_exprs, choices_exprs, block_exprs}
use Rattle.design_ir.specs.GuardedPut.{holds, put_guarded}
use Rattle.design_ir.proofs.GuardLaws.{fold_append}
use Rattle.flat_design.specs.declared.sources.Source.{Source}
use Rattle.flat_design.specs.Growing.{IsMore, IsReadable}
use Rattle.flat_design.specs.Activity.{IsActive, IsOneBit}
use Rattle.flat_design.specs.Sources.{IsSource}
use Rattle.flat_design.specs.Shown.{SoFar, IsSlot, AreSlots, after}
use Rattle.flat_design.specs.Begun.{all_hold, all_need, IsOwn, IsBegun}
use Rattle.flat_design.proofs.Growing.{more_trans, num_more, needed_whole_more, source_bit_more, source_needs_more, active_more}
use Rattle.flat_design.proofs.SlotLists.{take_one_more}
use Rattle.flat_design.proofs.WrittenSources.{all_get, sources_more}

-- ---- parts

all_left : {A : Type 0} (P : A → Type 0) (xs ys : List A) → AllByRecursion P (xs ++ ys) → AllByRecursion P xs
all_left P [] ys h = tt
all_left P (x ∷ xs) ys h = (h.0, all_left P xs ys h.1)

all_right : {A : Type 0} (P : A → Type 0) (xs ys : List A) → AllByRecursion P (xs ++ ys) → AllByRecursion P ys
all_right P [] ys h = h
all_right P (x ∷ xs) ys h = all_right P xs ys h.1

-- the condition of an arm that is carried out, and of one that was passed by
abbrev pub met : Arm → Guard
met a = record { condition = a.condition; taken = true }

abbrev pub missed : Arm → Guard
missed a = record { condition = a.condition; taken = false }

module _ (P : ExprId → Type 0) where
  pub statement_part : (ss : List Stmt) (i : ℕ) (s : Stmt) → slice_get ss i ≡ Some s → AllByRecursion P (block_exprs (block_of ss)) → AllByRecursion P (statement_exprs (statement_of s))
  statement_part [] i s e h = cc
  statement_part (x ∷ ss) zero s e h = let same : x ≡ s = cc in subst (λ y. AllByRecursion P (statement_exprs (statement_of y))) same (all_left P (statement_exprs (statement_of x)) (block_exprs (block_of ss)) h)
  statement_part (x ∷ ss) (suc i) s e h = statement_part ss i s e (all_right P (statement_exprs (statement_of x)) (block_exprs (block_of ss)) h)

  pub arm_part : (arms : List Arm) (i : ℕ) (a : Arm) → slice_get arms i ≡ Some a → AllByRecursion P (choices_exprs (choices_of arms)) → P a.condition × AllByRecursion P (block_exprs a.body)
  arm_part [] i a e h = cc
  arm_part (x ∷ arms) zero a e h =
      let same : x ≡ a = cc in subst (λ (y : Arm). P y.condition × AllByRecursion P (block_exprs y.body)) same (h.0, all_left P (block_exprs x.body) (choices_exprs (choices_of arms)) h.1)
  arm_part (x ∷ arms) (suc i) a e h = arm_part arms i a e (all_right P (block_exprs x.body) (choices_exprs (choices_of arms)) h.1)

module _ (P : Guarded → Type 0) where
  pub statement_own : (gs : List Guard) (ss : List Stmt) (i : ℕ) (s : Stmt) → slice_get ss i ≡ Some s → AllByRecursion P (guarded gs (block_of ss)) → AllByRecursion P (guarded_in gs (statement_of s))
  statement_own gs [] i s e h = cc
  statement_own gs (x ∷ ss) zero s e h = let same : x ≡ s = cc in subst (λ y. AllByRecursion P (guarded_in gs (statement_of y))) same (all_left P (guarded_in gs (statement_of x)) (guarded gs (block_of ss)) h)
  statement_own gs (x ∷ ss) (suc i) s e h = statement_own gs ss i s e (all_right P (guarded_in gs (statement_of x)) (guarded gs (block_of ss)) h)

  pub arm_own : (gs : List Guard) (arms : List Arm) (i : ℕ) (a : Arm) → slice_get arms i ≡ Some a → AllByRecursion P (guarded_arms gs (choices_of arms)) → AllByRecursion P (guarded ((gs ++ map missed (take i arms)) ++ met a ∷ []) a.body)
  arm_own gs [] i a e h = cc
  arm_own gs (x ∷ arms) zero a e h =
      let same : x ≡ a = cc in
      let here = all_left P (guarded (gs ++ met x ∷ []) x.body) (guarded_arms (gs ++ missed x ∷ []) (choices_of arms)) h in
      subst (λ (y : Arm). AllByRecursion P (guarded ((gs ++ []) ++ met y ∷ []) y.body)) same (subst (λ hs. AllByRecursion P (guarded (hs ++ met x ∷ []) x.body)) (sym (append-nil gs)) here)
  arm_own gs (x ∷ arms) (suc i) a e h =
      subst (λ hs. AllByRecursion P (guarded (hs ++ met a ∷ []) a.body)) (append_assoc gs (missed x ∷ []) (map missed (take i arms)))
      (arm_own (gs ++ missed x ∷ []) arms i a e (all_right P (guarded (gs ++ met x ∷ []) x.body) (guarded_arms (gs ++ missed x ∷ []) (choices_of arms)) h))

-- ---- one more

statement_push : (gs : List Guard) (ss : List Stmt) (s : Stmt) → guarded gs (block_of (ss ++ s ∷ [])) ≡ guarded gs (block_of ss) ++ guarded_in gs (statement_of s)
statement_push gs [] s = append-nil (guarded_in gs (statement_of s))
statement_push gs (x ∷ ss) s =
    ap (λ xs. guarded_in gs (statement_of x) ++ xs) (statement_push gs ss s) ∙ sym (append_assoc (guarded_in gs (statement_of x)) (guarded gs (block_of ss)) (guarded_in gs (statement_of s)))

pub statement_more : (gs : List Guard) (ss : List Stmt) (i : ℕ) (s : Stmt) → i < length ss → s ≡ slice_index_or ss i s → guarded gs (block_of (take (i + 1) ss)) ≡ guarded gs (block_of (take i ss)) ++ guarded_in gs (statement_of s)
statement_more gs ss i s h e = ap (λ xs. guarded gs (block_of xs)) (take_one_more ss i s h e) ∙ statement_push gs (take i ss) s

arm_push : (gs : List Guard) (arms : List Arm) (a : Arm) → guarded_arms gs (choices_of (arms ++ a ∷ [])) ≡ guarded_arms gs (choices_of arms) ++ guarded ((gs ++ map missed arms) ++ met a ∷ []) a.body
arm_push gs [] a = append-nil (guarded (gs ++ met a ∷ []) a.body) ∙ ap (λ hs. guarded (hs ++ met a ∷ []) a.body) (sym (append-nil gs))
arm_push gs (x ∷ arms) a =
    let first : List Guarded = guarded (gs ++ met x ∷ []) x.body in
    let rest : List Guarded = guarded_arms (gs ++ missed x ∷ []) (choices_of arms) in
    ap (λ xs. first ++ xs) (arm_push (gs ++ missed x ∷ []) arms a)
    ∙ ap (λ hs. first ++ (rest ++ guarded (hs ++ met a ∷ []) a.body)) (append_assoc gs (missed x ∷ []) (map missed arms))
    ∙ sym (append_assoc first rest (guarded ((gs ++ missed x ∷ map missed arms) ++ met a ∷ []) a.body))

pub arm_more : (gs : List Guard) (arms : List Arm) (i : ℕ) (a : Arm) → i < length arms → a ≡ slice_index_or arms i a
    → guarded_arms gs (choices_of (take (i + 1) arms)) ≡ guarded_arms gs (choices_of (take i arms)) ++ guarded ((gs ++ map missed (take i arms)) ++ met a ∷ []) a.body
arm_more gs arms i a h e = ap (λ xs. guarded_arms gs (choices_of xs)) (take_one_more arms i a h e) ∙ arm_push gs (take i arms) a

missed_push : (arms : List Arm) (a : Arm) → map missed (arms ++ a ∷ []) ≡ map missed arms ++ missed a ∷ []
missed_push [] a = refl
missed_push (x ∷ arms) a = ap (λ xs. missed x ∷ xs) (missed_push arms a)

pub missed_more : (gs : List Guard) (arms : List Arm) (i : ℕ) (a : Arm) → i < length arms → a ≡ slice_index_or arms i a → gs ++ map missed (take (i + 1) arms) ≡ (gs ++ map missed (take i arms)) ++ missed a ∷ []
missed_more gs arms i a h e =
    ap (λ xs. gs ++ map missed xs) (take_one_more arms i a h e) ∙ ap (λ xs. gs ++ xs) (missed_push (take i arms) a) ∙ sym (append_assoc gs (map missed (take i arms)) (missed a ∷ []))

-- ---- what is left

pub after_none : (t : SoFar) → t ≡ after t []
after_none t = λ i. record t { done = sym (append-nil t.done) i }

pub after_after : (t : SoFar) (xs ys : List Guarded) → after (after t xs) ys ≡ after t (xs ++ ys)
after_after t xs ys = λ i. record t { behind = λ env cur. sym (fold_append (put_guarded t.pool env) (t.behind env cur) xs ys) i; done = append_assoc t.done xs ys i }

-- the same slots over a pool that has grown
slot_grown : (t : SoFar) (q r : Pooled) (s : ℕ) (xs : List Source) → IsPool q → IsMore q r → IsSlot t q s xs → IsSlot t r s xs
slot_grown t q r s xs rules more h = record {
  size = h.size;
  sources = sources_more q r rules more xs h.sources;
  bits = λ env cur i x fit fits long starts e. source_bit_more q r rules more env x (all_get (IsSource q) xs i x h.sources e) ∙ h.bits env cur i x fit fits long starts e;
  needs = λ comb i x c e has. h.needs comb i x c e (rw (source_needs_more q r rules more x (all_get (IsSource q) xs i x h.sources e)) at has);
}

pub slots_grown : (t : SoFar) (q r : Pooled) (slots : List (List Source)) → IsPool q → IsMore q r → AreSlots t q slots → AreSlots t r slots
slots_grown t q r slots rules more h = record {
  more = more_trans t.pool q r h.more more;
  size = h.size;
  long = h.long;
  each = λ s among. slot_grown t q r s (slice_index_or slots s []) rules more (h.each s among);
}

-- ---- one guard more

hold_push : (p : Pooled) (env : List ℤ) (gs : List Guard) (g : Guard) → all_hold p (gs ++ g ∷ []) env ≡ (all_hold p gs env && holds p env g)
hold_push p env [] g = last (holds p env g)
  where
    last : (b : Bool) → (b && true) ≡ b
    last true = refl
    last false = refl
hold_push p env (x ∷ gs) g = ap (λ b. holds p env x && b) (hold_push p env gs g) ∙ and_assoc (holds p env x) (all_hold p gs env) (holds p env g)
  where
    and_assoc : (a b c : Bool) → (a && (b && c)) ≡ ((a && b) && c)
    and_assoc true b c = refl
    and_assoc false b c = refl

need_push : (p : Pooled) (gs : List Guard) (g : Guard) → all_need p (gs ++ g ∷ []) ≡ all_need p gs ++ needed_whole p g.condition
need_push p [] g = append-nil (needed_whole p g.condition)
need_push p (x ∷ gs) g = ap (λ xs. needed_whole p x.condition ++ xs) (need_push p gs g) ∙ sym (append_assoc (needed_whole p x.condition) (all_need p gs) (needed_whole p g.condition))

holds_more : (p q : Pooled) (env : List ℤ) (g : Guard) → IsPool p → IsMore p q → IsReadable p g.condition → holds q env g ≡ holds p env g
holds_more p q env g rules more h = ap (λ n. if g.taken then not (is_zero n) else is_zero n) (num_more p q rules more env g.condition.0 h.there)

pub guard_more : (p q r : Pooled) (gs : List Guard) (g : Guard) (a : Option ExprId) → IsPool p → IsMore p q → IsReadable p g.condition
    → IsActive r (λ env. all_hold p gs env && holds q env g) (all_need p gs ++ needed_whole q g.condition) a → IsActive r (all_hold p (gs ++ g ∷ [])) (all_need p (gs ++ g ∷ [])) a
guard_more p q r gs g a rules more readable h =
    let test : (λ (env : List ℤ). all_hold p gs env && holds q env g) ≡ all_hold p (gs ++ g ∷ []) =
    λ i env. (ap (λ b. all_hold p gs env && b) (holds_more p q env g rules more readable) ∙ sym (hold_push p env gs g)) i in
    let bits : all_need p gs ++ needed_whole q g.condition ≡ all_need p (gs ++ g ∷ []) =
    ap (λ xs. all_need p gs ++ xs) (needed_whole_more p q rules more g.condition readable.there) ∙ sym (need_push p gs g) in
    subst (λ f. IsActive r f (all_need p (gs ++ g ∷ [])) a) test (subst (λ xs. IsActive r (λ env. all_hold p gs env && holds q env g) xs a) bits h)

-- ---- a statement of a block

module _ (t : SoFar) (gs : List Guard) (q0 : Pooled) (slots0 : List (List Source)) (active : Option ExprId) (rules : IsPool q0) (q : Pooled) (more : IsMore q0 q) where
  pub statement_begun : (body : Block) (ss : List Stmt) (i : ℕ) (s : Stmt) (slots : List (List Source)) → block_of ss ≡ body → IsBegun t gs q0 slots0 active (block_exprs body) (guarded gs body) → i < length ss → s ≡ slice_index_or ss i s
      → AreSlots (after t (guarded gs (block_of (take i ss)))) q slots → IsBegun (after t (guarded gs (block_of (take i ss)))) gs q slots active (statement_exprs (statement_of s)) (guarded_in gs (statement_of s))
  statement_begun body ss i s slots same begun h e shown =
      let here : slice_get ss i ≡ Some s = slice_get_read ss (length ss) i s refl h e in
      record {
        rules = begun.rules;
        shown = shown;
        taken = active_more q0 q rules more (all_hold t.pool gs) (all_need t.pool gs) active begun.taken;
        readable = statement_part (IsReadable t.pool) ss i s here (subst (λ b. AllByRecursion (IsReadable t.pool) (block_exprs b)) (sym same) begun.readable);
        own = statement_own (IsOwn t.pool t.driven) gs ss i s here (subst (λ b. AllByRecursion (IsOwn t.pool t.driven) (guarded gs b)) (sym same) begun.own);
      }

-- the condition of an arm is of the process's pool
pub condition_readable : (t : SoFar) (gs : List Guard) (q0 : Pooled) (slots0 : List (List Source)) (active : Option ExprId) (arms : Choices) (xs : List Arm) (i : ℕ) (a : Arm) → choices_of xs ≡ arms
    → IsBegun t gs q0 slots0 active (choices_exprs arms) (guarded_arms gs arms) → i < length xs → a ≡ slice_index_or xs i a → IsReadable t.pool a.condition
condition_readable t gs q0 slots0 active arms xs i a same begun h e =
    (arm_part (IsReadable t.pool) xs i a (slice_get_read xs (length xs) i a refl h e) (subst (λ b. AllByRecursion (IsReadable t.pool) (choices_exprs b)) (sym same) begun.readable)).0

pub statement_turn : (t : SoFar) (gs : List Guard) (ss : List Stmt) (i : ℕ) (s : Stmt) (q : Pooled) (slots : List (List Source)) → i < length ss → s ≡ slice_index_or ss i s
    → AreSlots (after (after t (guarded gs (block_of (take i ss)))) (guarded_in gs (statement_of s))) q slots → AreSlots (after t (guarded gs (block_of (take (i + 1) ss)))) q slots
statement_turn t gs ss i s q slots h e shown =
    subst (λ x. AreSlots x q slots) (after_after t (guarded gs (block_of (take i ss))) (guarded_in gs (statement_of s)) ∙ ap (after t) (sym (statement_more gs ss i s h e))) shown

pub arm_turn : (t : SoFar) (gs : List Guard) (xs : List Arm) (i : ℕ) (a : Arm) (q : Pooled) (slots : List (List Source)) → i < length xs → a ≡ slice_index_or xs i a
    → AreSlots (after (after t (guarded_arms gs (choices_of (take i xs)))) (guarded ((gs ++ map missed (take i xs)) ++ met a ∷ []) a.body)) q slots → AreSlots (after t (guarded_arms gs (choices_of (take (i + 1) xs)))) q slots
arm_turn t gs xs i a q slots h e shown =
    subst (λ x. AreSlots x q slots) (after_after t (guarded_arms gs (choices_of (take i xs))) (guarded ((gs ++ map missed (take i xs)) ++ met a ∷ []) a.body) ∙ ap (after t) (sym (arm_more gs xs i a h e))) shown

pub active_one : (p : Pooled) (test : List ℤ → Bool) (bits : List Bit) (a : Option ExprId) → IsActive p test bits a → IfSome a (IsOneBit p)
active_one p test bits None h = tt
active_one p test bits (Some e) h = record { readable = h.readable; shape = h.shape }

-- ---- an arm of a choice

-- the pool is q before the arm's conditions are worked, q2 behind the first, q3 behind the second
module _ (t : SoFar) (gs : List Guard) (q0 : Pooled) (slots0 : List (List Source)) (active : Option ExprId) (arms : Choices) (xs : List Arm) (i : ℕ) (a : Arm) (same : choices_of xs ≡ arms) (begun : IsBegun t gs q0 slots0 active (choices_exprs arms) (guarded_arms gs arms))
    (h : i < length xs) (e : a ≡ slice_index_or xs i a) (q q2 q3 : Pooled) (slots : List (List Source)) (now : IsPool q) (next : IsPool q2) (first : IsMore q q2) (second : IsMore q2 q3) (shown : AreSlots (after t (guarded_arms gs (choices_of (take i xs)))) q slots) where
  here : slice_get xs i ≡ Some a
  here = slice_get_read xs (length xs) i a refl h e

  readable : IsReadable t.pool a.condition
  readable = condition_readable t gs q0 slots0 active arms xs i a same begun h e

  pub arm_begun : (taken : Option ExprId) → IsActive q2 (λ env. all_hold t.pool (gs ++ map missed (take i xs)) env && holds q env (met a)) (all_need t.pool (gs ++ map missed (take i xs)) ++ needed_whole q a.condition) taken
      → IsBegun (after t (guarded_arms gs (choices_of (take i xs)))) ((gs ++ map missed (take i xs)) ++ met a ∷ []) q3 slots taken (block_exprs a.body) (guarded ((gs ++ map missed (take i xs)) ++ met a ∷ []) a.body)
  arm_begun taken act =
      let hs : List Guard = gs ++ map missed (take i xs) in
      record {
        rules = begun.rules;
        shown = slots_grown (after t (guarded_arms gs (choices_of (take i xs)))) q q3 slots now (more_trans q q2 q3 first second) shown;
        taken = active_more q2 q3 next second (all_hold t.pool (hs ++ met a ∷ [])) (all_need t.pool (hs ++ met a ∷ [])) taken (guard_more t.pool q q2 hs (met a) taken begun.rules shown.more readable act);
        readable = (arm_part (IsReadable t.pool) xs i a here (subst (λ b. AllByRecursion (IsReadable t.pool) (choices_exprs b)) (sym same) begun.readable)).1;
        own = arm_own (IsOwn t.pool t.driven) gs xs i a here (subst (λ b. AllByRecursion (IsOwn t.pool t.driven) (guarded_arms gs b)) (sym same) begun.own);
      }

  pub rest_active : (rest : Option ExprId) → IsActive q3 (λ env. all_hold t.pool (gs ++ map missed (take i xs)) env && holds q2 env (missed a)) (all_need t.pool (gs ++ map missed (take i xs)) ++ needed_whole q2 a.condition) rest
      → IsActive q3 (all_hold t.pool (gs ++ map missed (take (i + 1) xs))) (all_need t.pool (gs ++ map missed (take (i + 1) xs))) rest
  rest_active rest act =
      let hs : List Guard = gs ++ map missed (take i xs) in
      subst (λ ks. IsActive q3 (all_hold t.pool ks) (all_need t.pool ks) rest) (sym (missed_more gs xs i a h e))
      (guard_more t.pool q2 q3 hs (missed a) rest begun.rules (more_trans t.pool q q2 shown.more first) readable act)
