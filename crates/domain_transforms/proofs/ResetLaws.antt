-- What a reset inserter does to registers.
use Rattle.std.specs.Prelude.{IsTrue, ◌≡◌, ◌≢◌, refl, ℕ, zero, suc, ◌+◌, ◌<◌, ◌≤◌, ◌==◌, ◌||◌, Bool, true, false, cond, List, [], ◌∷◌, ◌++◌, map, length, slice_get, slice_set, slice_index_or, ℤ, pos, Option, Some, None, unwrap_or, option_map}
use Rattle.std.specs.List.{AllByRecursion, cons_option, filter_map, range_with_len}
use Rattle.std.proofs.Common.{sym, ◌∙◌, ap, arith, subst, ⊎_elim}
use Rattle.std.proofs.lemmas.Bool.{false≢true, eqb-true, eq-eqb, cases_lt, cases_eq}
use Rattle.std.proofs.lemmas.List.{length-set, get_or-set_same, get_or-set_other}
use Rattle.amh_bits.specs.Patterns.{IsOf}
use Rattle.amh_bits.proofs.Wraps.{number_pattern}
use Rattle.shape_rules.specs.Forms.{Form, unsigned}
use Rattle.shape_rules.specs.Operators.{is_zero}
use Rattle.design_ir.specs.declared.ids.ExprId.{ExprId}
use Rattle.design_ir.specs.declared.signal.Sig.{Sig}
use Rattle.design_ir.specs.declared.expr.Expr.{Expr}
use Rattle.design_ir.specs.declared.expr.Expr.TheVariants as expr
use Rattle.design_ir.specs.declared.process.Side.TheVariants.{Clocked}
use Rattle.design_ir.specs.declared.process.Process.{Process}
use Rattle.design_ir.specs.Trees.{Statement, assign, choose, none, arm, Block, done, next, block_and}
use Rattle.design_ir.specs.Pools.{Pooled, answers}
use Rattle.design_ir.specs.PoolRules.{IsPool, HasInit, expr_added}
use Rattle.design_ir.specs.Values.{num, signal_form}
use Rattle.design_ir.specs.declared.domain.Domain.{Domain}
use Rattle.domain_transforms.specs.Controlled.{control_of}
use Rattle.design_ir.specs.Targets.{is_target, bits_of, target_bits, target_signals}
use Rattle.design_ir.specs.Put.{put, put_statement, put_number}
use Rattle.design_ir.specs.Guards.{Guarded, guarded, driven}
use Rattle.design_ir.specs.Settling.{is_signal}
use Rattle.design_ir.specs.Circuits.{State, at, is_among, FitsSignals}
use Rattle.design_ir.specs.Clearing.{own}
use Rattle.design_ir.proofs.Equations.{num_is, place_below}
use Rattle.design_ir.proofs.PutLaws.{put_length}
use Rattle.design_ir.proofs.TargetLaws.{target_is}
use Rattle.design_ir.proofs.Whole.{put_whole}
use Rattle.comb_graph.proofs.PutFits.{put_fits}
use Rattle.flat_design.proofs.Growing.{get_kept}
use Rattle.fragment_walks.specs.Marks.{hit_step}
use Rattle.fragment_walks.specs.Reads.{block_targets}
use Rattle.fragment_walks.proofs.Lists.{all_at, any_none}
use Rattle.fragment_walks.proofs.Outs.{among_flat, hits_is}
use Rattle.clock_domains.proofs.DriverLaws.{driven_flat, driven_none}
use Rattle.fragment_laws.specs.Stepping.{register_number}
use Rattle.domain_transforms.specs.declared.controls.Control.{Control}
use Rattle.domain_transforms.specs.declared.resetting.Register.{Register}
use Rattle.domain_transforms.specs.Making.{each_in}
use Rattle.domain_transforms.specs.Enabling.{side_control}
use Rattle.domain_transforms.specs.Resetting.{block_in_order, file_start, init_statement, place_from, register_of, reset_process, reset_process_by, reset_register, reset_registers}
use Rattle.domain_transforms.specs.Laws.{at_edge, with_reset, IsKept, IsReadIn, OtherProcessesStay, ResetRegistersTake}
use Rattle.domain_transforms.proofs.GateLaws.{get_last}
use Rattle.domain_transforms.proofs.PlaceLaws.{place_stands}

pub others_stay : OtherProcessesStay
others_stay controls proc p control = ap (λ o. reset_process_by o p proc) control

-- ---- statements

put_and : (q : Pooled) (env : List ℤ) (b : Block) (s : Statement) (cur : List ℤ) → put q env (block_and b s) cur ≡ put_statement q env s (put q env b cur)
put_and q env done s cur = refl
put_and q env (next t b) s cur = put_and q env b s (put_statement q env t cur)

pub inits_keep : (p : Pooled) (rs : List Register) (k : ℕ) (e : Expr) → slice_get p.exprs k ≡ Some e → slice_get (each_in init_statement p rs).1.exprs k ≡ Some e
inits_keep p [] k e at = at
inits_keep p (r ∷ rs) k e at = inits_keep (expr_added p (expr.Const r.init r.shape)) rs k e (get_kept p.exprs (expr.Const r.init r.shape ∷ []) k (place_below p.exprs k e at) ∙ at)

-- ---- a register that is reset is a signal of the pool, with an expression that is it

pub record IsReset (p : Pooled) (n : ℕ) (r : Register) : Type 0 where
  pub signal : Sig
  pub there : slice_get p.signals n ≡ Some signal
  pub target : slice_get p.exprs r.target.0 ≡ Some (expr.Sig (record { 0 = n }))
  pub init : r.init ≡ signal.init
  pub shape : r.shape ≡ signal.shape
  pub plain : signal.reset_less ≡ false

signal_is : (n : ℕ) (e : Expr) → is_signal n e ≡ true → e ≡ expr.Sig (record { 0 = n })
signal_is n (expr.Sig t) h = let same : t.0 ≡ n = eqb-true t.0 n h in ap (λ m. expr.Sig (record { 0 = m })) same
signal_is n (expr.Const k s) h = absurd (false≢true h)
signal_is n (expr.Unary op a) h = absurd (false≢true h)
signal_is n (expr.Binary op a b) h = absurd (false≢true h)
signal_is n (expr.Mux c a b) h = absurd (false≢true h)
signal_is n (expr.Slice a low width) h = absurd (false≢true h)
signal_is n (expr.Cat es) h = absurd (false≢true h)
signal_is n (expr.Part a offset width stride) h = absurd (false≢true h)
signal_is n (expr.Pick index es) h = absurd (false≢true h)
signal_is n (expr.Cast a signed) h = absurd (false≢true h)
signal_is n (expr.Matches a patterns) h = absurd (false≢true h)
signal_is n (expr.Reset domain place) h = absurd (false≢true h)

place_target : (p : Pooled) (n : ℕ) (t : ExprId) → place_from n 0 p.exprs ≡ Some t → slice_get p.exprs t.0 ≡ Some (expr.Sig (record { 0 = n }))
place_target p n t h =
    let r = place_stands n 0 p.exprs t h in
    ap (λ (x : ExprId). slice_get p.exprs x.0) r.4 ∙ ap (slice_get p.exprs) (let e : 0 + r.0 ≡ r.0 = omega arith in e) ∙ r.2 ∙ ap (λ e. Some e) (signal_is n r.1 r.3)

register_is : (p : Pooled) (n : ℕ) (r : Register) (o : Option ExprId) (x : Option Sig) → place_from n 0 p.exprs ≡ o → slice_get p.signals n ≡ x → register_of o x ≡ Some r → IsReset p n r
register_is p n r None x placed there h = absurd cc
register_is p n r (Some t) None placed there h = absurd cc
register_is p n r (Some t) (Some x) placed there h = by x.reset_less refl h
  where
    by : (b : Bool) → x.reset_less ≡ b → cond b None (Some (record { target = t; init = x.init; shape = x.shape })) ≡ Some r → IsReset p n r
    by true e h = absurd cc
    by false e h =
        let same : record { target = t; init = x.init; shape = x.shape } ≡ r = cc in
        subst (IsReset p n) same record { signal = x; there = there; target = place_target p n t placed; init = refl; shape = refl; plain = e }

pub reset_is : (p : Pooled) (body : Block) (n : ℕ) (r : Register) → reset_register p body n ≡ Some r → IsReset p n r
reset_is p body n r h = by (is_among (driven p body) n) h
  where
    by : (b : Bool) → cond b (register_of (place_from n 0 p.exprs) (slice_get p.signals n)) None ≡ Some r → IsReset p n r
    by true h = register_is p n r (place_from n 0 p.exprs) (slice_get p.signals n) refl refl h
    by false h = absurd cc

-- ---- what the new statements leave

abbrev init_or : Option Register → ℤ → ℤ
init_or None n = n
init_or (Some r) n = r.init

module _ (p q : Pooled) (env : List ℤ) (body : Block) (rules : IsPool q) (signals : q.signals ≡ p.signals) where
  -- the pool in which all is read has what stands in this one
  abbrev Reads : Pooled → Type 0
  Reads x = (k : ℕ) (e : Expr) → slice_get x.exprs k ≡ Some e → IsKept e → slice_get q.exprs k ≡ Some e

  -- an assignment of its init
  one_init : (x : Pooled) (n : ℕ) (r : Register) (cur : List ℤ) → IsReset p n r → Reads p → Reads (expr_added x (expr.Const r.init r.shape)) → FitsSignals q cur → length cur ≡ length q.signals
      → put_statement q env (assign r.target (record { 0 = length x.exprs }) file_start) cur ≡ slice_set cur n r.init
  one_init x n r cur is first later fit long =
      let sig : Form = signal_form q.signals n in
      let here : slice_get q.signals n ≡ Some is.signal = ap (λ ss. slice_get ss n) signals ∙ is.there in
      let form_is : sig ≡ is.signal.shape = ap (λ o. unwrap_or (option_map (λ (y : Sig). y.shape) o) (unsigned 0)) here in
      let target : slice_get q.exprs r.target.0 ≡ Some (expr.Sig (record { 0 = n })) = first r.target.0 (expr.Sig (record { 0 = n })) is.target tt in
      let places : target_bits q env r.target.0 ≡ map (λ b. Some b) (bits_of n sig.width) = target_is q env r.target.0 (expr.Sig (record { 0 = n })) rules target in
      let constant : slice_get q.exprs (length x.exprs) ≡ Some (expr.Const r.init r.shape) = later (length x.exprs) (expr.Const r.init r.shape) (get_last x.exprs (expr.Const r.init r.shape)) tt in
      let value : num q env (length x.exprs) ≡ r.init = num_is q env (length x.exprs) (expr.Const r.init r.shape) rules constant in
      let inside : n < length q.signals = place_below q.signals n is.signal here in
      let own_init : HasInit is.signal = all_at HasInit q.signals n is.signal rules.inits here in
      let fits : IsOf sig.signed sig.width r.init = subst (λ (f : Form). IsOf f.signed f.width r.init) (sym form_is) (subst (λ z. IsOf is.signal.shape.signed is.signal.shape.width z) (sym is.init) own_init) in
      ap (λ bits. put_number q bits (num q env (length x.exprs)) cur) places
      ∙ ap (λ z. put_number q (map (λ b. Some b) (bits_of n sig.width)) z cur) value
      ∙ put_whole q n cur r.init (omega (arith, inside, long)) (fit n inside)
      ∙ ap (slice_set cur n) (number_pattern sig.signed sig.width r.init fits)

  init_fits : (n : ℕ) (r : Register) (cur : List ℤ) → IsReset p n r → FitsSignals q cur → length cur ≡ length q.signals → FitsSignals q (slice_set cur n r.init)
  init_fits n r cur is fit long = λ s low.
      let here : slice_get q.signals n ≡ Some is.signal = ap (λ ss. slice_get ss n) signals ∙ is.there in
      let form_is : signal_form q.signals n ≡ is.signal.shape = ap (λ o. unwrap_or (option_map (λ (y : Sig). y.shape) o) (unsigned 0)) here in
      let own_init : HasInit is.signal = all_at HasInit q.signals n is.signal rules.inits here in
      ⊎_elim
      (λ (same : s ≡ n). subst (λ m. IsOf (signal_form q.signals m).signed (signal_form q.signals m).width (at (slice_set cur n r.init) m)) (sym same)
      (subst (λ z. IsOf (signal_form q.signals n).signed (signal_form q.signals n).width z) (sym (get_or-set_same cur n r.init (pos 0) (omega (arith, long, place_below q.signals n is.signal here))))
      (subst (λ (f : Form). IsOf f.signed f.width r.init) (sym form_is) (subst (λ z. IsOf is.signal.shape.signed is.signal.shape.width z) (sym is.init) own_init))))
      (λ (other : s ≢ n). subst (λ z. IsOf (signal_form q.signals s).signed (signal_form q.signals s).width z) (sym (get_or-set_other cur n s r.init (pos 0) other)) (fit s low))
      (cases_eq s n)

  both : (b : Bool) (z : ℤ) → cond b z z ≡ z
  both true z = refl
  both false z = refl

  abbrev Leaves : ℕ → List Register → Bool → Pooled → List ℤ → Type 0
  Leaves s rs among x cur =
      at (put q env (block_in_order (each_in init_statement x rs).0) cur) s ≡ cond among (init_or (reset_register p body s) (at cur s)) (at cur s)

  -- one signal more before the others
  leave_step : (n : ℕ) (rs : List Register) (among : Bool) (x : Pooled) (cur : List ℤ) (s : ℕ) (o : Option Register) → reset_register p body n ≡ o → Reads p → Reads (each_in init_statement x (cons_option o rs)).1 → FitsSignals q cur → length cur ≡ length q.signals
      → ((y : Pooled) (c : List ℤ) → Reads (each_in init_statement y rs).1 → FitsSignals q c → length c ≡ length q.signals → Leaves s rs among y c)
      → at (put q env (block_in_order (each_in init_statement x (cons_option o rs)).0) cur) s ≡ cond ((n == s) || among) (init_or (reset_register p body s) (at cur s)) (at cur s)
  leave_step n rs among x cur s None is first reads fit long others = others x cur reads fit long ∙ by (n == s) refl
    where
      by : (b : Bool) → (n == s) ≡ b → cond among (init_or (reset_register p body s) (at cur s)) (at cur s) ≡ cond (b || among) (init_or (reset_register p body s) (at cur s)) (at cur s)
      by false e = refl
      by true e =
          let none : init_or (reset_register p body s) (at cur s) ≡ at cur s = ap (λ m. init_or (reset_register p body m) (at cur s)) (sym (eqb-true n s e)) ∙ ap (λ o. init_or o (at cur s)) is in
          ap (λ z. cond among z (at cur s)) none ∙ both among (at cur s) ∙ sym none
  leave_step n rs among x cur s (Some r) is first reads fit long others =
      let one = one_init x n r cur (reset_is p body n r is) first (λ k e at kept. reads k e (inits_keep (expr_added x (expr.Const r.init r.shape)) rs k e at) kept) fit long in
      ap (λ c. at (put q env (block_in_order (each_in init_statement (expr_added x (expr.Const r.init r.shape)) rs).0) c) s) one
      ∙ others (expr_added x (expr.Const r.init r.shape)) (slice_set cur n r.init) reads (init_fits n r cur (reset_is p body n r is) fit long) (length-set cur n r.init ∙ long)
      ∙ by (n == s) refl
    where
      by : (b : Bool) → (n == s) ≡ b → cond among (init_or (reset_register p body s) (at (slice_set cur n r.init) s)) (at (slice_set cur n r.init) s) ≡ cond (b || among) (init_or (reset_register p body s) (at cur s)) (at cur s)
      by false e =
          let kept : at (slice_set cur n r.init) s ≡ at cur s = get_or-set_other cur n s r.init (pos 0) (λ (same : s ≡ n). false≢true (sym e ∙ eq-eqb n s (sym same))) in
          ap (λ z. cond among (init_or (reset_register p body s) z) z) kept
      by true e =
          let same : n ≡ s = eqb-true n s e in
          let inside : n < length cur = omega (arith, place_below p.signals n (reset_is p body n r is).signal (reset_is p body n r is).there, long, ap length signals) in
          let set : at (slice_set cur n r.init) s ≡ r.init = ap (at (slice_set cur n r.init)) (sym same) ∙ get_or-set_same cur n r.init (pos 0) inside in
          let of : (z : ℤ) → init_or (reset_register p body s) z ≡ r.init = λ z. ap (λ m. init_or (reset_register p body m) z) (sym same) ∙ ap (λ o. init_or o z) is in
          ap (λ z. cond among z (at (slice_set cur n r.init) s)) (of (at (slice_set cur n r.init) s)) ∙ ap (cond among r.init) set ∙ both among r.init ∙ sym (of (at cur s))

  -- those of several signals
  pub inits_leave : (ns : List ℕ) (x : Pooled) (cur : List ℤ) → Reads p → Reads (each_in init_statement x (filter_map (reset_register p body) ns)).1 → FitsSignals q cur → length cur ≡ length q.signals → (s : ℕ) → Leaves s (filter_map (reset_register p body) ns) (is_among ns s) x cur
  inits_leave [] x cur first reads fit long s = refl
  inits_leave (n ∷ ns) x cur first reads fit long s =
      leave_step n (filter_map (reset_register p body) ns) (is_among ns s) x cur s (reset_register p body n) refl first reads fit long (λ y c reads' fit' long'. inits_leave ns y c first reads' fit' long' s)

-- ---- a signal that is driven has an expression that is it

not_signal : (s : ℕ) (f : ℕ → Bool) (e : Expr) → ((j : ℕ) → f j ≡ false) → is_signal s e ≡ false → hit_step (λ t. t == s) f e ≡ false
not_signal s f (expr.Sig t) nowhere h = h
not_signal s f (expr.Slice a low width) nowhere h = nowhere a.0
not_signal s f (expr.Cat es) nowhere h = any_none (λ (a : ExprId). f a.0) es (each es)
  where
    each : (es : List ExprId) → AllByRecursion (λ (a : ExprId). f a.0 ≡ false) es
    each [] = tt
    each (a ∷ rest) = (nowhere a.0, each rest)
not_signal s f (expr.Part a offset width stride) nowhere h = nowhere a.0
not_signal s f (expr.Pick index es) nowhere h = any_none (λ (a : ExprId). f a.0) es (each es)
  where
    each : (es : List ExprId) → AllByRecursion (λ (a : ExprId). f a.0 ≡ false) es
    each [] = tt
    each (a ∷ rest) = (nowhere a.0, each rest)
not_signal s f (expr.Cast a signed) nowhere h = nowhere a.0
not_signal s f (expr.Const n k) nowhere h = refl
not_signal s f (expr.Unary op a) nowhere h = refl
not_signal s f (expr.Binary op a b) nowhere h = refl
not_signal s f (expr.Mux c a b) nowhere h = refl
not_signal s f (expr.Matches a patterns) nowhere h = refl
not_signal s f (expr.Reset domain place) nowhere h = refl

more_false : (known : List Bool) (b : Bool) → ((j : ℕ) → slice_index_or known j false ≡ false) → b ≡ false → (j : ℕ) → slice_index_or (known ++ b ∷ []) j false ≡ false
more_false [] b h e zero = e
more_false [] b h e (suc j) = refl
more_false (k ∷ known) b h e zero = h zero
more_false (k ∷ known) b h e (suc j) = more_false known b (λ i. h (suc i)) e j

all_false : (s : ℕ) (es : List Expr) (known : List Bool) → AllByRecursion (λ e. is_signal s e ≡ false) es → ((j : ℕ) → slice_index_or known j false ≡ false) → (j : ℕ) → slice_index_or (answers false (hit_step (λ t. t == s)) known es) j false ≡ false
all_false s [] known h nowhere j = nowhere j
all_false s (e ∷ es) known h nowhere j =
    all_false s es (known ++ hit_step (λ t. t == s) (λ k. slice_index_or known k false) e ∷ []) h.1 (more_false known (hit_step (λ t. t == s) (λ k. slice_index_or known k false) e) nowhere (not_signal s (λ k. slice_index_or known k false) e nowhere h.0)) j

unplaced : (s k : ℕ) (es : List Expr) → place_from s k es ≡ None → AllByRecursion (λ e. is_signal s e ≡ false) es
unplaced s k [] h = tt
unplaced s k (e ∷ es) h = by (is_signal s e) refl h (unplaced s (suc k) es)
  where
    by : (b : Bool) → is_signal s e ≡ b → cond b (Some (record { 0 = k })) (place_from s (suc k) es) ≡ None → (place_from s (suc k) es ≡ None → AllByRecursion (λ e. is_signal s e ≡ false) es) → (is_signal s e ≡ false) × AllByRecursion (λ e. is_signal s e ≡ false) es
    by true is h rest = absurd cc
    by false is h rest = (is, rest h)

undriven : (p : Pooled) (body : Block) (s : ℕ) → place_from s 0 p.exprs ≡ None → is_among (driven p body) s ≡ false
undriven p body s h =
    let nowhere : (k : ℕ) → is_among (target_signals p k) s ≡ false = λ k. sym (hits_is p (λ t. t == s) k) ∙ all_false s p.exprs [] (unplaced s 0 p.exprs h) (λ j. past j) k in
    ap (λ ss. is_among ss s) (driven_flat p body) ∙ among_flat (target_signals p) (block_targets body) s ∙ any_none (λ t. is_among (target_signals p t) s) (block_targets body) (each nowhere (block_targets body))
  where
    past : (j : ℕ) → slice_index_or [] j false ≡ false
    past zero = refl
    past (suc j) = refl

    each : ((k : ℕ) → is_among (target_signals p k) s ≡ false) → (ts : List ℕ) → AllByRecursion (λ t. is_among (target_signals p t) s ≡ false) ts
    each nowhere [] = tt
    each nowhere (t ∷ ts) = (nowhere t, each nowhere ts)

-- ---- what a register has

chosen : (o : Option ExprId) (x : Option Sig) (z : ℤ) → (o ≡ None → ⊥) → init_or (register_of o x) z ≡ own x z
chosen None x z h = absurd (h refl)
chosen (Some t) None z h = refl
chosen (Some t) (Some x) z h = by x.reset_less
  where
    by : (b : Bool) → init_or (cond b None (Some (record { target = t; init = x.init; shape = x.shape }))) z ≡ cond b z x.init
    by true = refl
    by false = refl

reset_value : (p : Pooled) (body : Block) (s : ℕ) (z : ℤ) → init_or (reset_register p body s) z ≡ cond (is_among (driven p body) s) (own (slice_get p.signals s) z) z
reset_value p body s z = by (is_among (driven p body) s) refl
  where
    by : (b : Bool) → is_among (driven p body) s ≡ b → init_or (cond b (register_of (place_from s 0 p.exprs) (slice_get p.signals s)) None) z ≡ cond b (own (slice_get p.signals s) z) z
    by true e = chosen (place_from s 0 p.exprs) (slice_get p.signals s) z (λ none. false≢true (sym (undriven p body s none) ∙ e))
    by false e = refl

in_range : (a d s : ℕ) → a ≤ s → s < a + d → is_among (range_with_len a d) s ≡ true
in_range a zero s low high = absurd (omega (arith, low, high))
in_range a (suc d) s low high = by (a == s) refl (λ (other : a ≢ s). in_range (a + 1) d s (omega (arith, low, other)) (omega (arith, high)))
  where
    by : (b : Bool) → (a == s) ≡ b → (a ≢ s → is_among (range_with_len (a + 1) d) s ≡ true) → (b || is_among (range_with_len (a + 1) d) s) ≡ true
    by true e rest = refl
    by false e rest = rest (λ same. false≢true (sym e ∙ eq-eqb a s same))

not_in_range : (a d s : ℕ) → a + d ≤ s → is_among (range_with_len a d) s ≡ false
not_in_range a zero s h = refl
not_in_range a (suc d) s h = by (a == s) refl (not_in_range (a + 1) d s (omega (arith, h)))
  where
    by : (b : Bool) → (a == s) ≡ b → is_among (range_with_len (a + 1) d) s ≡ false → (b || is_among (range_with_len (a + 1) d) s) ≡ false
    by true e rest = absurd (omega (arith, h, eqb-true a s e))
    by false e rest = rest

-- all of them
value_whole : (p : Pooled) (body : Block) (s : ℕ) (z : ℤ) → (length p.signals ≤ s → is_among (driven p body) s ≡ false) → cond (is_among (range_with_len 0 (length p.signals)) s) (init_or (reset_register p body s) z) z ≡ cond (is_among (driven p body) s) (own (slice_get p.signals s) z) z
value_whole p body s z nowhere =
    ⊎_elim
    (λ (low : s < length p.signals). ap (λ b. cond b (init_or (reset_register p body s) z) z) (in_range 0 (length p.signals) s (omega arith) (omega (arith, low))) ∙ reset_value p body s z)
    (λ (past : length p.signals ≤ s). ap (λ b. cond b (init_or (reset_register p body s) z) z) (not_in_range 0 (length p.signals) s (omega (arith, past))) ∙ sym (ap (λ b. cond b (own (slice_get p.signals s) z) z) (nowhere past)))
    (cases_lt s (length p.signals))

choice_at : (b : Bool) (xs ys : List ℤ) (s : ℕ) → at (cond b xs ys) s ≡ cond b (at xs s) (at ys s)
choice_at true xs ys s = refl
choice_at false xs ys s = refl

pub take_from : (controls : List Control) (proc : Process) (name : List ℕ) (c : ExprId) (p q : Pooled) (domains : List Domain) (st : State) (env : List ℤ) (names : List (List ℕ)) (s : ℕ) → proc.side ≡ Clocked name → control_of controls name ≡ Some c
    → (length p.signals ≤ s → is_among (driven p proc.body) s ≡ false) → IsPool q → IsReadIn (reset_process controls p proc).1 q → AllByRecursion (λ (g : Guarded). IsTrue (is_target q g.target.0)) (guarded [] proc.body) → FitsSignals q st.held → length st.held ≡ length q.signals
    → register_number q domains st env names s (reset_process controls p proc).0.body (Clocked name) ≡ at_edge q domains st env names s name (with_reset p q env proc c s (at (put q env proc.body st.held) s))
unfolding reset_registers
take_from controls proc name c p q domains st env names s side control first rules read targets fit long =
    let made = reset_process_by (Some c) p proc in
    let is : reset_process controls p proc ≡ made = ap (λ o. reset_process_by o p proc) (ap (side_control controls) side ∙ control) in
    let read' : IsReadIn made.1 q = subst (λ (x : Process × Pooled). IsReadIn x.1 q) is read in
    let ns : List ℕ = range_with_len 0 (length p.signals) in
    let inits : List Statement × Pooled = each_in init_statement p (filter_map (reset_register p proc.body) ns) in
    let left : List ℤ = put q env proc.body st.held in
    let same : q.signals ≡ p.signals = read'.signals ∙ kept_signals p (filter_map (reset_register p proc.body) ns) in
    let reads : (k : ℕ) (e : Expr) → slice_get inits.1.exprs k ≡ Some e → IsKept e → slice_get q.exprs k ≡ Some e = read'.kept in
    let begun : (k : ℕ) (e : Expr) → slice_get p.exprs k ≡ Some e → IsKept e → slice_get q.exprs k ≡ Some e = λ k e at kept. reads k e (inits_keep p (filter_map (reset_register p proc.body) ns) k e at) kept in
    let new : ℤ = at (put q env (block_in_order inits.0) left) s in
    let value : new ≡ cond (is_among (driven p proc.body) s) (own (slice_get q.signals s) (at left s)) (at left s) =
    inits_leave p q env proc.body rules same ns p left begun reads (put_fits q env proc.body st.held rules targets fit) (put_length q env proc.body st.held ∙ long) s ∙ value_whole p proc.body s (at left s) first
    ∙ ap (λ (ss : List Sig). cond (is_among (driven p proc.body) s) (own (slice_get ss s) (at left s)) (at left s)) (sym same) in
    ap (λ (x : Process × Pooled). register_number q domains st env names s x.0.body (Clocked name)) is
    ∙ ap (at_edge q domains st env names s name)
    (ap (λ cur. at cur s) (put_and q env proc.body (choose (arm c (block_in_order inits.0) none)) st.held) ∙ choice_at (is_zero (num q env c.0)) left (put q env (block_in_order inits.0) left) s ∙ ap (cond (is_zero (num q env c.0)) (at left s)) value)
  where
    kept_signals : (p : Pooled) (rs : List Register) → (each_in init_statement p rs).1.signals ≡ p.signals
    kept_signals p [] = refl
    kept_signals p (r ∷ rs) = kept_signals (expr_added p (expr.Const r.init r.shape)) rs

pub resets_take : ResetRegistersTake
resets_take controls proc name c p q domains st env names s side control first rules read targets fit long =
    take_from controls proc name c p q domains st env names s side control (driven_none p proc.body s first) rules read targets fit long
