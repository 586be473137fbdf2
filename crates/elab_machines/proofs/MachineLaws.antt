-- The walk over a pool before a register gets its shape.
use Rattle.std.specs.Prelude.{◌≡◌, ◌≢◌, refl, ℕ, zero, suc, ◌+◌, ◌≤◌, ◌&&◌, ◌||◌, ◌==◌, not, ◌<◌, Bool, true, false, List, [], ◌∷◌, ◌++◌, length, slice_get, slice_set, slice_index_or, is_some, nat_lt, Option, Some, None, Result, Ok, Err, drop, codes}
use Rattle.std.proofs.Common.{sym, ◌∙◌, ap, arith, subst, eqb-true, true≢false, inl, inr}
use Rattle.std.specs.List.{list_any, list_all}
use Rattle.std.proofs.lemmas.Bool.{cases_order}
use Rattle.std.proofs.lemmas.Bool.Decides.{nat_tests}
use Rattle.design_ir.specs.declared.ids.ExprId.{ExprId}
use Rattle.design_ir.specs.Named.{named, AllBelow}
use Rattle.design_ir.specs.PoolRules.{AreExprs}
use Rattle.shape_rules.specs.Forms.{Form, unsigned}
use Rattle.design_ir.specs.declared.signal.Sig.{Sig}
use Rattle.std.proofs.lemmas.List.{length-append}
use Rattle.elab_store.specs.Sound.{IsFront}
use Rattle.std.proofs.lemmas.Bool.{and_parts}
use Rattle.py_heap.proofs.ObjectLaws.{drop_at}
use Rattle.design_ir.specs.declared.expr.Expr.{Expr}
use Rattle.design_ir.specs.Pools.{Pooled}
use Rattle.design_ir.specs.Values.{signal_form, form_step}
use Rattle.design_ir.specs.PoolRules.{IsPool}
use Rattle.design_ir.specs.Settling.{IsUnsettled, is_signal, is_match, names_place}
use Rattle.fsm_lowering.specs.Machines.{Machine, HasRegister, state_number, in_state}
use Rattle.py_values.specs.declared.val.Val.{Val}
use Rattle.elab_machines.specs.declared.state_machines.MachineArguments.{MachineArguments}
use Rattle.elab_store.specs.declared.own_machine.OwnMachine.{OwnMachine}
use Rattle.amh_host.specs.declared.place.Place.{Place}
use Rattle.py_frames.specs.declared.request.Cause.TheVariants.{Raised}
use Rattle.module_dsl.specs.Builders.{Built, built_blocks}
use Rattle.fsm_lowering.specs.declared.refusal.FsmStop.{FsmStop}
use Rattle.elab_store.specs.Stores.{Stored, Held, refused}
use Rattle.elab_store.specs.Counts.{statement_count}
use Rattle.module_dsl.specs.Blocks.{in_switch}
use Rattle.design_ir.specs.PoolRules.{expr_added}
use Rattle.fsm_lowering.specs.declared.refusal.FsmStop.TheVariants as stop
use Rattle.fsm_lowering.specs.States.{is_within, number_of}
use Rattle.fsm_lowering.specs.Calls.{next_stop, stop_where, is_too_many, is_full, and_mention, with_next, ongoing_refusal, and_asked, IsOwed, UnlessMemory}
use Rattle.elab_store.specs.OpenMachines.{innermost}
use Rattle.elab_machines.specs.StateMachines.{is_clocked, is_apart, is_unsettled, machine_keywords, Moved, Move, with_moved, move_answer, own_moved, moved, stop_told, is_placed, chain_ended, store_begun, next_goes, asked_of}
use Rattle.elab_machines.specs.Moves.{IsMoved, moved_as, told_after, asked_after}
use Rattle.elab_store.proofs.Pools.{signal_there}

-- ---- domains

pub not_comb : (n : List ℕ) → is_clocked n ≡ true → n ≢ codes "comb"
not_comb n h e = true≢false (sym h ∙ ap is_clocked e)

-- ---- what was made since the register

pub apart_next : (x : Machine) (es : List Expr) (i : ℕ) (e : Expr) (whole : Bool) → slice_get es i ≡ Some e → is_apart x e ≡ true → list_all (is_apart x) (drop i es) ≡ whole → list_all (is_apart x) (drop (i + 1) es) ≡ whole
apart_next x es i e whole at_i h w = sym (ap (list_all (is_apart x)) (drop_at es i e at_i) ∙ ap (λ b. b && list_all (is_apart x) (drop (i + 1) es)) h) ∙ w

pub apart_not : (x : Machine) (es : List Expr) (i : ℕ) (e : Expr) (whole : Bool) → slice_get es i ≡ Some e → is_apart x e ≡ false → list_all (is_apart x) (drop i es) ≡ whole → false ≡ whole
apart_not x es i e whole at_i h w = sym (ap (list_all (is_apart x)) (drop_at es i e at_i) ∙ ap (λ b. b && list_all (is_apart x) (drop (i + 1) es)) h) ∙ w

-- ---- what settling asks

not_false : (b : Bool) → not b ≡ true → b ≡ false
not_false false h = refl
not_false true h = absurd (true≢false (sym h))

or_not : (a b : Bool) → (a || not b) ≡ true → b ≡ true → a ≡ true
or_not true b h g = refl
or_not false true h g = h
or_not false false h g = g

behind_at : (x : Machine) (es : List Expr) (n k : ℕ) (e : Expr) → list_all (is_apart x) (drop n es) ≡ true → n ≤ k → slice_get es k ≡ Some e → is_apart x e ≡ true
behind_at x [] n k e h le at = absurd cc
behind_at x (y ∷ es) zero zero e h le at = let same : y ≡ e = cc in subst (λ z. is_apart x z ≡ true) same (and_parts (is_apart x y) (list_all (is_apart x) es) h).0
behind_at x (y ∷ es) zero (suc k) e h le at = behind_at x es zero k e (and_parts (is_apart x y) (list_all (is_apart x) es) h).1 (omega arith) at
behind_at x (y ∷ es) (suc n) zero e h le at = absurd (omega (arith, le))
behind_at x (y ∷ es) (suc n) (suc k) e h le at = behind_at x es n k e h (omega (arith, le)) at

none_named : (n j : ℕ) (ids : List ExprId) → AllBelow n ids → n ≤ j → list_any (λ (a : ExprId). a.0 == j) ids ≡ false
none_named n j [] h le = refl
none_named n j (a ∷ ids) h le = let apart : (a.0 == j) ≡ false = below-not a.0 j (let lt = h.0 in omega (arith, lt, le)) in rw apart (none_named n j ids h.1 le)
  where
    below-not : (n m : ℕ) → n < m → (n == m) ≡ false
    below-not n m lt = grind (arith, nat_tests)

-- an expression of a pool names those before it
names_below : (sigs : List Sig) (known : List Form) (es : List Expr) (k : ℕ) (e : Expr) → AreExprs sigs known es → slice_get es k ≡ Some e → AllBelow (length known + k) (named e)
names_below sigs known [] k e h at = absurd cc
names_below sigs known (x ∷ es) zero e h at =
    let same : x ≡ e = cc in
    subst (λ z. AllBelow (length known + 0) (named z)) same (subst (λ n. AllBelow n (named x)) (omega arith) h.0.names)
names_below sigs known (x ∷ es) (suc k) e h at =
    let more = form_step sigs (λ j. slice_index_or known j (unsigned 0)) x in
    subst (λ n. AllBelow n (named e)) (omega (arith, length-append known (more ∷ []))) (names_below sigs (known ++ more ∷ []) es k e h.1 at)

names_before : (q : Pooled) (k : ℕ) (e : Expr) → IsPool q → slice_get q.exprs k ≡ Some e → AllBelow k (named e)
names_before q k e rules at =
    let none : List Form = [] in
    let same : length none + k ≡ k = omega arith in
    subst (λ n. AllBelow n (named e)) same (names_below q.signals none q.exprs k e rules.exprs at)

-- the test says what settling asks
pub unsettled_is : (q : Pooled) (x : Machine) → IsPool q → HasRegister q x → IsFront q x → is_unsettled q x ≡ true → IsUnsettled q x.signal.0
unsettled_is q x rules has front h =
    let parts = and_parts ((signal_form q.signals x.signal.0).width == 0) (list_all (is_apart x) (drop (x.register.0 + 1) q.exprs)) h in record {
      there = signal_there q.signals [] q.exprs x.register.0 x.signal rules.exprs has;
      empty = eqb-true _ _ parts.0;
      over = over parts.1;
    }
  where
    -- the one expression that is the signal
    placed : list_all (is_apart x) (drop (x.register.0 + 1) q.exprs) ≡ true → (j : ℕ) (y : Expr) → slice_get q.exprs j ≡ Some y → is_signal x.signal.0 y ≡ true → j ≡ x.register.0
    placed all j y at signal =
        elim (cases_order j x.register.0) [
          | inl same ↦ same
          | inr apart ↦ elim apart [
            | inl less ↦ absurd (true≢false (sym signal ∙ front j y less at))
            | inr more ↦ absurd (true≢false (sym signal ∙ not_false (is_signal x.signal.0 y) (and_parts (not (is_signal x.signal.0 y)) (is_match y || not (names_place y x.register.0)) (behind_at x q.exprs (x.register.0 + 1) j y all (omega (arith, more)) at)).0))
          ]
        ]

    -- what stands up to the register does not name it
    matched : list_all (is_apart x) (drop (x.register.0 + 1) q.exprs) ≡ true → (k : ℕ) (e : Expr) → slice_get q.exprs k ≡ Some e → names_place e x.register.0 ≡ true → is_match e ≡ true
    matched all k e at names =
        elim (cases_order k x.register.0) [
          | inl same ↦ absurd (true≢false (sym names ∙ none_named k x.register.0 (named e) (names_before q k e rules at) (omega (arith, same))))
          | inr apart ↦ elim apart [
            | inl less ↦ absurd (true≢false (sym names ∙ none_named k x.register.0 (named e) (names_before q k e rules at) (omega (arith, less))))
            | inr more ↦ or_not (is_match e) (names_place e x.register.0) (and_parts (not (is_signal x.signal.0 e)) (is_match e || not (names_place e x.register.0)) (behind_at x q.exprs (x.register.0 + 1) k e all (omega (arith, more)) at)).1 names
          ]
        ]

    over : list_all (is_apart x) (drop (x.register.0 + 1) q.exprs) ≡ true → (k j : ℕ) (e y : Expr) → slice_get q.exprs k ≡ Some e → slice_get q.exprs j ≡ Some y → is_signal x.signal.0 y ≡ true → names_place e j ≡ true → is_match e ≡ true
    over all k j e y at_k at_j signal names = matched all k e at_k (subst (λ i. names_place e i ≡ true) (placed all j y at_j signal) names)

-- ---- arguments

pub keywords_none : (ns : List (List ℕ)) (vs : List Val) (args : MachineArguments) → 0 < length ns → length vs ≡ 0 → machine_keywords ns vs args ≡ None
keywords_none [] vs args h1 h2 = absurd (omega arith)
keywords_none (n ∷ ns) [] args h1 h2 = refl
keywords_none (n ∷ ns) (v ∷ vs) args h1 h2 = absurd (omega arith)

-- ---- lists

pub at_place : {A : Type 0} (xs : List A) (k : ℕ) (x : A) → k < length xs → x ≡ slice_index_or xs k x → slice_get xs k ≡ Some x
at_place [] k x h e = absurd (omega (arith, h))
at_place (y ∷ xs) zero x h e = ap (λ z. Some z) (sym e)
at_place (y ∷ xs) (suc k) x h e = at_place xs k x (omega (arith, h)) e

pub past_place : {A : Type 0} (xs : List A) (k : ℕ) → length xs ≤ k → slice_get xs k ≡ None
past_place [] k h = refl
past_place (x ∷ xs) zero h = absurd (omega (arith, h))
past_place (x ∷ xs) (suc k) h = past_place xs k (omega (arith, h))

pub same_set : {A : Type 0} (xs : List A) (k : ℕ) (x : A) → slice_get xs k ≡ Some x → slice_set xs k x ≡ xs
same_set [] k x e = refl
same_set (y ∷ xs) zero x e = let same : y ≡ x = cc in ap (λ z. z ∷ xs) (sym same)
same_set (y ∷ xs) (suc k) x e = ap (λ ys. y ∷ ys) (same_set xs k x e)

-- ---- the innermost machine does something

pub moves-nowhere : (f : Move) (m : ℕ) (p : Place) (h : Held) → innermost m h.store.machines ≡ None → moved f m p h ≡ refused Raised h
moves-nowhere f m p h e = rw e refl

no_module : (f : Move) (k m : ℕ) (o : Option OwnMachine) (p : Place) (h : Held) → own_moved f k o m None p h ≡ refused Raised h
no_module f k m None p h = refl
no_module f k m (Some x) p h = refl

pub moves-no_module : (f : Move) (k m : ℕ) (p : Place) (h : Held) → innermost m h.store.machines ≡ Some k → length h.store.modules ≤ m → moved f m p h ≡ refused Raised h
moves-no_module f k m p h e past = rw (e, past_place h.store.modules m past) (no_module f k m (slice_get h.store.machines k) p h)

pub moves-no_machine : (f : Move) (k m : ℕ) (p : Place) (h : Held) → innermost m h.store.machines ≡ Some k → length h.store.machines ≤ k → moved f m p h ≡ refused Raised h
moves-no_machine f k m p h e past = rw (e, past_place h.store.machines k past) refl

module _ (f : Move) (k m : ℕ) (p : Place) (h : Held) (x : OwnMachine) (b : Built) (inner : innermost m h.store.machines ≡ Some k) (own : slice_get h.store.machines k ≡ Some x) (built : slice_get h.store.modules m ≡ Some b) where
  by_result : (r : Result Moved FsmStop) → f h.pool x.machine b ≡ r → moved f m p h ≡ move_answer k x m p r h
  by_result r e = rw (inner, own, built, e) refl

  unmoved : with_moved k x m (moved_as h.pool x.machine b) h ≡ h
  unmoved =
      let held : List OwnMachine → List Built → Held = λ ms bs. record { pool = h.pool; store = record h.store { machines = ms; modules = bs } } in
      ap (λ ms. held ms (slice_set h.store.modules m b)) (same_set h.store.machines k x own) ∙ ap (λ bs. held h.store.machines bs) (same_set h.store.modules m b built)

  -- what it did, or why it is refused and all is as it was
  pub moves-acted : (why : Option FsmStop) (y : Moved) → IsMoved why (f h.pool x.machine b) (moved_as h.pool x.machine b) y → moved f m p h ≡ told_after why p (with_moved k x m y h)
  moves-acted None y e = by_result (Ok y) e
  moves-acted (Some why) y e = by_result (Err why) e.0 ∙ ap (stop_told p why) (sym (ap (λ z. with_moved k x m z h) e.1 ∙ unmoved))

-- ---- a machine begins

placed_some : (m : ℕ) (o : Option Built) (xs : List OwnMachine) → is_placed m o xs ≡ true → is_some o ≡ true
placed_some m None xs h = absurd cc
placed_some m (Some b) xs h = refl

some_below : {A : Type 0} (xs : List A) (k : ℕ) → is_some (slice_get xs k) ≡ true → k < length xs
some_below [] k h = absurd cc
some_below (x ∷ xs) zero h = omega arith
some_below (x ∷ xs) (suc k) h = omega (arith, some_below xs k h)

-- the module of a machine that may begin is there
pub placed_there : (m : ℕ) (bs : List Built) (xs : List OwnMachine) → is_placed m (slice_get bs m) xs ≡ true → m < length bs
placed_there m bs xs h = some_below bs m (placed_some m (slice_get bs m) xs h)

pub begun-given : (m : ℕ) (x : Machine) (s : Stored) (b c : Built) → slice_get s.modules m ≡ Some b → c ≡ chain_ended x.register b → store_begun m x s ≡ record s { machines = s.machines ++ record { of = m; machine = x } ∷ []; modules = slice_set s.modules m c }
begun-given m x s b c at e = rw (at, e) refl

-- ---- `m.next`

above : (n : ℕ) → 65536 < n → nat_lt 65536 n ≡ true
above n h = grind (arith, nat_tests)

within : (n : ℕ) → n ≤ 65536 → nat_lt 65536 n ≡ false
within n h = grind (arith, nat_tests)

pub next-outside : (q : Pooled) (x : Machine) (b : Built) (name : List ℕ) → next_stop q x b name ≡ None → in_switch (built_blocks b).around ≡ false
next-outside q x b name e = by_test (is_within x.stage) (in_switch (built_blocks b).around) e
  where
    by_test : (w i : Bool) → stop_where stop.Order (not w || i) (stop_where stop.Limit (is_too_many x name || is_full q) None) ≡ None → i ≡ false
    by_test w false e = refl
    by_test true true e = absurd cc
    by_test false true e = absurd cc

module _ (m : ℕ) (h : Held) (name : List ℕ) (p : Place) (q : Pooled) (x : Machine) (b : Built) where
  pub goes-stopped : (why : FsmStop) → next_stop q x b name ≡ Some why → next_goes m h name p q x b ≡ Err why
  goes-stopped why e = rw e refl

  pub goes-over : (n : ℕ) → next_stop q x b name ≡ None → statement_count (slice_set h.store.modules m (with_next q x b p)) ≡ n → 65536 < n → next_goes m h name p q x b ≡ Err stop.Limit
  goes-over n e count over = rw (e, count, above n over) refl

  pub goes-given : (n : ℕ) (q' : Pooled) (x' : Machine) (b' : Built) → next_stop q x b name ≡ None → statement_count (slice_set h.store.modules m (with_next q x b p)) ≡ n → n ≤ 65536
      → x' ≡ and_mention x name p → b' ≡ with_next q x b p → q' ≡ expr_added q (state_number (number_of x.states name)) → next_goes m h name p q x b ≡ Ok (moved_as q' x' b')
  goes-given n q' x' b' e count few e1 e2 e3 = rw (e, count, within n few, e1, e2, e3) refl

-- ---- `ongoing`

pub asked-nowhere : (k : ℕ) (h : Held) (name : List ℕ) (p : Place) → length h.store.machines ≤ k → asked_of k (slice_get h.store.machines k) name p h ≡ refused Raised h
asked-nowhere k h name p past = rw (past_place h.store.machines k past) refl

module _ (k : ℕ) (h : Held) (name : List ℕ) (p : Place) (x : OwnMachine) (own : slice_get h.store.machines k ≡ Some x) (q : Pooled) (y : Machine) where
  pub asked-made : ongoing_refusal h.pool x.machine name ≡ None → y ≡ and_asked x.machine name p (record { 0 = length h.pool.exprs }) → q ≡ expr_added h.pool (in_state x.machine (number_of x.machine.states name))
      → asked_of k (slice_get h.store.machines k) name p h ≡ asked_after None p (record { 0 = length h.pool.exprs }) (record { pool = q; store = record h.store { machines = slice_set h.store.machines k (record x { machine = y }) } })
  asked-made none e1 e2 = rw (own, none, e1, e2) refl

  pub asked-refused : (why : FsmStop) → ongoing_refusal h.pool x.machine name ≡ Some why → y ≡ x.machine → q ≡ h.pool
      → asked_of k (slice_get h.store.machines k) name p h ≡ asked_after (Some why) p (record { 0 = length h.pool.exprs }) (record { pool = q; store = record h.store { machines = slice_set h.store.machines k (record x { machine = y }) } })
  asked-refused why some e1 e2 =
      told ∙ ap (stop_told p why) (sym (ap (λ z. held h.pool (slice_set h.store.machines k (record x { machine = z }))) e1 ∙ ap (held h.pool) (same_set h.store.machines k x own)) ∙ ap (λ r. held r (slice_set h.store.machines k (record x { machine = y }))) (sym e2))
    where
      held : Pooled → List OwnMachine → Held
      held r ms = record { pool = r; store = record h.store { machines = ms } }

      told : asked_of k (slice_get h.store.machines k) name p h ≡ stop_told p why h
      told = rw (own, some) refl

-- a refusal that is told is the one that is owed, and leaves all as it was
pub owed_is : (o : Option FsmStop) (why : FsmStop) → IsOwed o why → why ≢ stop.NoMemory → o ≡ Some why
owed_is o (stop.UndefinedState p) h ne = h
owed_is o stop.Repeated h ne = h
owed_is o stop.Order h ne = h
owed_is o stop.Limit h ne = h
owed_is o stop.NoMemory h ne = absurd (ne refl)

pub unless_is : (P : Type 0) (why : FsmStop) → UnlessMemory why P → why ≢ stop.NoMemory → P
unless_is P (stop.UndefinedState p) h ne = h
unless_is P stop.Repeated h ne = h
unless_is P stop.Order h ne = h
unless_is P stop.Limit h ne = h
unless_is P stop.NoMemory h ne = absurd (ne refl)
