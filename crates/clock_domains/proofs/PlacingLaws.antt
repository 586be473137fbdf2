-- Resets as the signals that they are: which are held, which domains have none, and each placed in turn.
use Rattle.std.proofs.Common.{◌≡◌, ℕ, zero, suc, ◌+◌, ◌-◌, ◌<◌, ◌≤◌, nat_lt, ◌⊎◌, inl, inr, Bool, true, false, ◌||◌, ◌&&◌, not, cond, List, [], ◌∷◌, ◌++◌, length, take, Option, Some, None, is_some, bytes_eq, slice_get, slice_set, position, refl, sym, ap, ◌∙◌, subst, arith, append-nil}
use Rattle.std.specs.Prelude.{option_and_then, option_map}
use Rattle.std.specs.Option.{option_map_or, option_or}
use Rattle.std.specs.List.{filter, filter_map, find, list_any, range_with_len}
use Rattle.std.proofs.lemmas.Bool.{false≢true}
use Rattle.std.proofs.lemmas.Bool.Decides.{nat_tests}
use Rattle.std.proofs.lemmas.List.Elements.{filter-append, filter_map-append}
use Rattle.std.proofs.lemmas.List.Folds.{find-append}
use Rattle.std.proofs.lemmas.Slice.Eq.{bytes_eq-Decides}
use Rattle.lists.specs.Texts.{text_eq}
use Rattle.lists.proofs.TextLaws.{by_equal, text_eq_true}
use Rattle.amh_host.specs.declared.place.Place.{Place}
use Rattle.design_ir.specs.declared.ids.ExprId.{ExprId}
use Rattle.design_ir.specs.declared.ids.SigId.{SigId}
use Rattle.design_ir.specs.declared.domain.Domain.{Domain}
use Rattle.design_ir.specs.declared.domain.DomainDef.{DomainDef}
use Rattle.design_ir.specs.declared.expr.Expr as expr
use Rattle.design_ir.specs.declared.expr.Expr.{Expr}
use Rattle.design_ir.specs.declared.expr.Expr.TheVariants.{Const, Unary, Binary, Mux, Slice, Cat, Part, Pick, Cast, Matches, Reset}
use Rattle.design_ir.specs.Pools.{Pooled}
use Rattle.fragment_walks.specs.Held.{ResetCall, held_resets, is_within, reset_call}
use Rattle.fragment_walks.specs.Holders.{AreHolders, all_roots}
use Rattle.fragment_walks.specs.Numbers.{is_below, first_at}
use Rattle.fragment_walks.proofs.Lists.{or_false, take_end, take-push}
use Rattle.fragment_walks.proofs.NumberLaws.{bounded_at}
use Rattle.fragment_walks.proofs.ResetNames.{numbers-push, range_parted}
use Rattle.clock_domains.specs.declared.stop.ResolveStop.{ResolveStop}
use Rattle.clock_domains.specs.declared.stop.ResolveStop.TheVariants.{DomainClash, NoReset}
use Rattle.clock_domains.specs.Placed.{or_signal, placed_expr, placed_from, placed_pool, reset_of}
use Rattle.clock_domains.specs.Placing.{IsLacking, IsLackingPut, place_stop, placed_signal, signal_for}
use Rattle.clock_domains.specs.Resolved.{clash_after, clashes, first_of, has_name, lacks_reset, reset_refusal}
use Rattle.clock_domains.specs.Stops.{IsOwed}
use Rattle.clock_domains.specs.Tracked.{IsPut}
use Rattle.clock_domains.proofs.ClashLaws.{clash_told, clashes_named, names_of}
use Rattle.clock_domains.proofs.EachOnce.{find_nowhere, find_placed}

-- ---- what is held

below_greater : (m i : ℕ) → m < i → is_below i (Some m) ≡ true
below_greater m i h = grind (arith, nat_tests)

-- what has a number stands in some fragment
pub held_is : (q : Pooled) (roots : List (List ExprId)) (firsts : List (Option ℕ)) (k : ℕ) → AreHolders q roots firsts → k < length q.exprs → is_some (first_at firsts k) ≡ is_within q (all_roots roots) k
held_is q roots firsts k h low = split (first_at firsts k) refl
  where
    told : (i : ℕ) → length roots ≤ i → is_below i (first_at firsts k) ≡ is_within q (all_roots roots) k
    told i le = sym (bounded_at i firsts k) ∙ h.each i k low ∙ ap (λ rs. is_within q (all_roots rs) k) (take_end roots i le)

    split : (o : Option ℕ) → first_at firsts k ≡ o → is_some o ≡ is_within q (all_roots roots) k
    split None e = sym (ap (is_below (length roots)) e) ∙ told (length roots) (omega arith)
    split (Some m) e = sym (below_greater m (length roots + suc m) (omega arith)) ∙ sym (ap (is_below (length roots + suc m)) e) ∙ told (length roots + suc m) (omega arith)

abbrev pub has_holder : List (Option ℕ) → ℕ → Bool
has_holder firsts k = is_some (first_at firsts k)

-- ---- domains without a reset

and_true : (b : Bool) → (b && true) ≡ b
and_true true = refl
and_true false = refl

and_false : (b : Bool) → (b && false) ≡ false
and_false true = refl
and_false false = refl

or_and_false : (a b : Bool) → (a || (b && false)) ≡ a
or_and_false true b = refl
or_and_false false b = and_false b

-- of one definition
lacks_last : (d : DomainDef) (name : List ℕ) → lacks_reset (d ∷ []) name ≡ (not (is_some d.domain.rst) && text_eq d.domain.name name)
lacks_last d name = split (text_eq d.domain.name name)
  where
    split : (t : Bool) → option_map_or (λ (x : Domain). not (is_some x.rst)) (option_map (λ (x : DomainDef). x.domain) (cond t (Some d) None)) false ≡ (not (is_some d.domain.rst) && t)
    split true = sym (and_true (not (is_some d.domain.rst)))
    split false = sym (and_false (not (is_some d.domain.rst)))

or_none : (a b : Bool) → (a || b) ≡ false → (a ≡ false) × (b ≡ false)
or_none true b h = absurd (false≢true (sym h))
or_none false b h = (refl, h)

-- one definition more, of a name that is new
lacks_more : (ds : List DomainDef) (d : DomainDef) (name : List ℕ) → has_name (names_of ds) d.domain.name ≡ false → lacks_reset (ds ++ d ∷ []) name ≡ (lacks_reset ds name || (not (is_some d.domain.rst) && text_eq d.domain.name name))
lacks_more [] d name fresh = lacks_last d name
lacks_more (x ∷ ds) d name fresh =
    let parts = or_none (text_eq d.domain.name x.domain.name) (has_name (names_of ds) d.domain.name) fresh in
    split parts.0 (lacks_more ds d name parts.1) (text_eq x.domain.name name) refl
  where
    split : text_eq d.domain.name x.domain.name ≡ false → lacks_reset (ds ++ d ∷ []) name ≡ (lacks_reset ds name || (not (is_some d.domain.rst) && text_eq d.domain.name name)) → (b : Bool) → text_eq x.domain.name name ≡ b
        → option_map_or (λ (y : Domain). not (is_some y.rst)) (option_map (λ (y : DomainDef). y.domain) (cond b (Some x) (find (λ (y : DomainDef). text_eq y.domain.name name) (ds ++ d ∷ [])))) false
        ≡ (option_map_or (λ (y : Domain). not (is_some y.rst)) (option_map (λ (y : DomainDef). y.domain) (cond b (Some x) (find (λ (y : DomainDef). text_eq y.domain.name name) ds))) false || (not (is_some d.domain.rst) && text_eq d.domain.name name))
    split other rest true e =
        let off : text_eq d.domain.name name ≡ false = ap (text_eq d.domain.name) (sym (text_eq_true x.domain.name name e)) ∙ other in
        sym (ap (λ b. not (is_some x.domain.rst) || (not (is_some d.domain.rst) && b)) off ∙ or_and_false (not (is_some x.domain.rst)) (not (is_some d.domain.rst)))
    split other rest false e = rest

first_parts : {A : Type 0} (a b : Option A) → first_of a b ≡ None → (a ≡ None) × (b ≡ None)
first_parts None b h = (refl, h)
first_parts (Some x) b h = cc

clash_taken : (before ds : List DomainDef) (i : ℕ) → clash_after before ds ≡ None → clash_after before (take i ds) ≡ None
clash_taken before ds zero h = refl
clash_taken before [] (suc i) h = refl
clash_taken before (d ∷ ds) (suc i) h =
    let here : Option ResolveStop = cond (list_any (clashes d) before) (Some (DomainClash d.place)) None in
    let parts = first_parts here (clash_after (before ++ d ∷ []) ds) h in
    ap (λ o. first_of o (clash_after (before ++ d ∷ []) (take i ds))) parts.0 ∙ clash_taken (before ++ d ∷ []) ds i parts.1

-- one definition more, where none clashes
pub lacking_turn : (ds : List DomainDef) (i : ℕ) (d : DomainDef) (look look' : List ℕ → Option ℕ) → slice_get ds i ≡ Some d → clash_after [] ds ≡ None → IsLacking (take i ds) look → IsLackingPut look d look' → IsLacking (take (i + 1) ds) look'
lacking_turn ds i d look look' at free lacking put name =
    put name
    ∙ ap (λ b. b || (not (is_some d.domain.rst) && text_eq d.domain.name name)) (lacking name)
    ∙ sym (ap (λ xs. lacks_reset xs name) (take-push ds i d at) ∙ lacks_more (take i ds) d name (new (has_name (names_of (take i ds)) d.domain.name) refl))
  where
    no_some : Some (DomainClash d.place) ≡ None → ⊥
    no_some e = cc

    new : (b : Bool) → has_name (names_of (take i ds)) d.domain.name ≡ b → has_name (names_of (take i ds)) d.domain.name ≡ false
    new true e = absurd (no_some (sym (clash_told ds i d at (clash_taken [] ds i free) (clashes_named d (take i ds) e)) ∙ free))
    new false e = e

or_end : (b : Bool) → (b || true) ≡ true
or_end true = refl
or_end false = refl

-- a name more, where the definition has no reset
pub lacking_put : (look look' : List ℕ → Option ℕ) (d : DomainDef) (name : List ℕ) → name ≡ d.domain.name → is_some d.domain.rst ≡ false → IsPut look name 0 look' → IsLackingPut look d look'
lacking_put look look' d name same without put q =
    ap is_some (put q) ∙ ap (λ t. is_some (cond t (Some 0) (look q))) (by_equal (bytes_eq name q) name q (bytes_eq-Decides name q) ∙ ap (λ n. text_eq n q) same)
    ∙ split (text_eq d.domain.name q) ∙ ap (λ b. is_some (look q) || (b && text_eq d.domain.name q)) (sym (ap not without))
  where
    split : (t : Bool) → is_some (cond t (Some 0) (look q)) ≡ (is_some (look q) || (true && t))
    split true = sym (or_end (is_some (look q)))
    split false = sym (or_false (is_some (look q)))

pub lacking_same : (look : List ℕ → Option ℕ) (d : DomainDef) → is_some d.domain.rst ≡ true → IsLackingPut look d look
lacking_same look d with' name = sym (ap (λ b. is_some (look name) || (not b && text_eq d.domain.name name)) with' ∙ or_false (is_some (look name)))

pub none_lacks : (look : List ℕ → Option ℕ) → ((name : List ℕ) → look name ≡ None) → IsLacking [] look
none_lacks look h name = ap is_some (h name)

-- ---- the first reset whose domain has none

abbrev call_at : Pooled → ℕ → Option ResetCall
call_at q k = option_and_then reset_call (slice_get q.exprs k)

-- those of the first so many expressions that are held
abbrev pub calls_to : Pooled → List ExprId → ℕ → List ResetCall
calls_to q roots n = filter_map (call_at q) (filter (is_within q roots) (range_with_len 0 n))

pub calls_all : (q : Pooled) (roots : List ExprId) → calls_to q roots (length q.exprs) ≡ held_resets q roots
unfolding held_resets
calls_all q roots = refl

calls-append : (q : Pooled) (roots : List ExprId) (ks js : List ℕ) → filter_map (call_at q) (filter (is_within q roots) (ks ++ js)) ≡ filter_map (call_at q) (filter (is_within q roots) ks) ++ filter_map (call_at q) (filter (is_within q roots) js)
calls-append q roots ks js =
    ap (filter_map (call_at q)) (filter-append (is_within q roots) ks js) ∙ filter_map-append (call_at q) (filter (is_within q roots) ks) (filter (is_within q roots) js)

refusal-append : (ds : List DomainDef) (xs ys : List ResetCall) → reset_refusal ds (xs ++ ys) ≡ first_of (reset_refusal ds xs) (reset_refusal ds ys)
refusal-append ds xs ys =
    ap (option_map (λ (r : ResetCall). NoReset r.place)) (find-append (λ (r : ResetCall). lacks_reset ds r.domain) xs ys)
    ∙ either (find (λ (r : ResetCall). lacks_reset ds r.domain) xs) (find (λ (r : ResetCall). lacks_reset ds r.domain) ys)
  where
    either : (a b : Option ResetCall) → option_map (λ (r : ResetCall). NoReset r.place) (option_or a b) ≡ first_of (option_map (λ (r : ResetCall). NoReset r.place) a) (option_map (λ (r : ResetCall). NoReset r.place) b)
    either None b = refl
    either (Some r) b = refl

-- of one expression
stop_is : (ds : List DomainDef) (look : List ℕ → Option ℕ) (e : Expr) → IsLacking ds look → reset_refusal ds (filter_map reset_call (e ∷ [])) ≡ place_stop look e
stop_is ds look (Reset domain place) h = ap (λ b. option_map (λ (r : ResetCall). NoReset r.place) (cond b (Some (record { domain = domain; place = place })) None)) (sym (h domain)) ∙ split (is_some (look domain))
  where
    split : (b : Bool) → option_map (λ (r : ResetCall). NoReset r.place) (cond b (Some (record { domain = domain; place = place })) None) ≡ cond b (Some (NoReset place)) None
    split true = refl
    split false = refl
stop_is ds look (expr.TheVariants.Sig s) h = refl
stop_is ds look (Slice a low width) h = refl
stop_is ds look (Cat es) h = refl
stop_is ds look (Part a offset width stride) h = refl
stop_is ds look (Pick index es) h = refl
stop_is ds look (Cast a signed) h = refl
stop_is ds look (Const n s) h = refl
stop_is ds look (Unary op a) h = refl
stop_is ds look (Binary op a b) h = refl
stop_is ds look (Mux s a b) h = refl
stop_is ds look (Matches a patterns) h = refl

-- a refusal is for a reset alone
pub stop_owed : (look : List ℕ → Option ℕ) (e : Expr) (owed : Option ResolveStop) (s : ResolveStop) → place_stop look e ≡ Some s → owed ≡ Some s → IsOwed owed s
stop_owed look (Reset domain place) owed s h told = split (is_some (look domain)) h
  where
    split : (b : Bool) → cond b (Some (NoReset place)) None ≡ Some s → IsOwed owed s
    split true e = let same : NoReset place ≡ s = cc in subst (IsOwed owed) same (told ∙ ap Some (sym same))
    split false e = absurd cc
stop_owed look (expr.TheVariants.Sig x) owed s h told = absurd cc
stop_owed look (Slice a low width) owed s h told = absurd cc
stop_owed look (Cat es) owed s h told = absurd cc
stop_owed look (Part a offset width stride) owed s h told = absurd cc
stop_owed look (Pick index es) owed s h told = absurd cc
stop_owed look (Cast a signed) owed s h told = absurd cc
stop_owed look (Const n x) owed s h told = absurd cc
stop_owed look (Unary op a) owed s h told = absurd cc
stop_owed look (Binary op a b) owed s h told = absurd cc
stop_owed look (Mux x a b) owed s h told = absurd cc
stop_owed look (Matches a patterns) owed s h told = absurd cc

calls-push : (q : Pooled) (roots : List ExprId) (k : ℕ) → calls_to q roots (k + 1) ≡ calls_to q roots k ++ filter_map (call_at q) (cond (is_within q roots k) (k ∷ []) [])
calls-push q roots k =
    ap (λ ks. filter_map (call_at q) (filter (is_within q roots) ks)) (numbers-push 0 k ∙ ap (λ m. range_with_len 0 k ++ m ∷ []) (let e : 0 + k ≡ k = omega arith in e))
    ∙ calls-append q roots (range_with_len 0 k) (k ∷ [])

-- one that is not held
pub refusal_other : (ds : List DomainDef) (q : Pooled) (roots : List ExprId) (k : ℕ) → is_within q roots k ≡ false → reset_refusal ds (calls_to q roots k) ≡ None → reset_refusal ds (calls_to q roots (k + 1)) ≡ None
refusal_other ds q roots k out h =
    ap (reset_refusal ds) (calls-push q roots k ∙ ap (λ b. calls_to q roots k ++ filter_map (call_at q) (cond b (k ∷ []) [])) out ∙ append-nil (calls_to q roots k)) ∙ h

-- one that is held
pub refusal_held : (ds : List DomainDef) (look : List ℕ → Option ℕ) (q : Pooled) (roots : List ExprId) (k : ℕ) (e : Expr) → IsLacking ds look → slice_get q.exprs k ≡ Some e → is_within q roots k ≡ true → reset_refusal ds (calls_to q roots k) ≡ None → reset_refusal ds (calls_to q roots (k + 1)) ≡ place_stop look e
refusal_held ds look q roots k e lacking at here h =
    ap (reset_refusal ds) (calls-push q roots k ∙ ap (λ b. calls_to q roots k ++ filter_map (call_at q) (cond b (k ∷ []) [])) here)
    ∙ refusal-append ds (calls_to q roots k) (filter_map (call_at q) (k ∷ []))
    ∙ ap (λ o. first_of o (reset_refusal ds (filter_map (call_at q) (k ∷ [])))) h
    ∙ ap (λ (o : Option ResetCall). reset_refusal ds (filter_map (λ (j : ℕ). o) (k ∷ []))) (ap (option_and_then reset_call) at)
    ∙ stop_is ds look e lacking

-- what is told of the first so many is told of all
pub refusal_told : (ds : List DomainDef) (q : Pooled) (roots : List ExprId) (k : ℕ) (s : ResolveStop) → k ≤ length q.exprs → reset_refusal ds (calls_to q roots k) ≡ Some s → reset_refusal ds (held_resets q roots) ≡ Some s
refusal_told ds q roots k s le h =
    ap (reset_refusal ds) (sym (calls_all q roots) ∙ ap (calls_to q roots) (let e : length q.exprs ≡ k + (length q.exprs - k) = omega (arith, le) in e) ∙ ap (λ ks. filter_map (call_at q) (filter (is_within q roots) ks)) (range_parted 0 k (length q.exprs - k)) ∙ calls-append q roots (range_with_len 0 k) (range_with_len (0 + k) (length q.exprs - k)))
    ∙ refusal-append ds (calls_to q roots k) (filter_map (call_at q) (filter (is_within q roots) (range_with_len (0 + k) (length q.exprs - k))))
    ∙ ap (λ o. first_of o (reset_refusal ds (filter_map (call_at q) (filter (is_within q roots) (range_with_len (0 + k) (length q.exprs - k)))))) h

-- ---- the signal of a reset

pub reset_found : (ds : List Domain) (name : List ℕ) (k : ℕ) (d : Domain) → position (λ (x : Domain). text_eq x.name name) ds ≡ Some k → slice_get ds k ≡ Some d → reset_of ds name ≡ d.rst
reset_found ds name k d placed at = ap (option_and_then (λ (x : Domain). x.rst)) (find_placed (λ (x : Domain). text_eq x.name name) ds k placed ∙ at)

pub reset_nowhere : (ds : List Domain) (name : List ℕ) → position (λ (x : Domain). text_eq x.name name) ds ≡ None → reset_of ds name ≡ None
reset_nowhere ds name nowhere = ap (option_and_then (λ (x : Domain). x.rst)) (find_nowhere (λ (x : Domain). text_eq x.name name) ds nowhere)

pub signal_is : (ds : List Domain) (held : Bool) (o : Option Expr) (name : List ℕ) (place : Place) → held ≡ true → o ≡ Some (Reset name place) → placed_signal ds held o ≡ reset_of ds name
signal_is ds held o name place here at = ap (placed_signal ds held) at ∙ ap (λ b. placed_signal ds b (Some (Reset name place))) here

-- what has a signal is a reset
pub record IsSignal (ds : List Domain) (e : Expr) (s : SigId) : Type 0 where
  pub domain : List ℕ
  pub place : Place
  pub reset : e ≡ Reset domain place
  pub signal : reset_of ds domain ≡ Some s

pub signal_told : (ds : List Domain) (e : Expr) (s : SigId) → signal_for ds e ≡ Some s → IsSignal ds e s
signal_told ds (Reset domain place) s h = record { domain = domain; place = place; reset = refl; signal = h }
signal_told ds (expr.TheVariants.Sig x) s h = absurd cc
signal_told ds (Slice a low width) s h = absurd cc
signal_told ds (Cat es) s h = absurd cc
signal_told ds (Part a offset width stride) s h = absurd cc
signal_told ds (Pick index es) s h = absurd cc
signal_told ds (Cast a signed) s h = absurd cc
signal_told ds (Const n x) s h = absurd cc
signal_told ds (Unary op a) s h = absurd cc
signal_told ds (Binary op a b) s h = absurd cc
signal_told ds (Mux x a b) s h = absurd cc
signal_told ds (Matches a patterns) s h = absurd cc

-- and becomes it
signal_placed : (ds : List Domain) (e : Expr) (s : SigId) → IsSignal ds e s → placed_expr ds e ≡ expr.TheVariants.Sig s
signal_placed ds e s h = ap (placed_expr ds) h.reset ∙ ap (or_signal (Reset h.domain h.place)) h.signal

-- what has none stays
unplaced : (ds : List Domain) (e : Expr) → signal_for ds e ≡ None → placed_expr ds e ≡ e
unplaced ds (Reset domain place) h = ap (or_signal (Reset domain place)) h
unplaced ds (expr.TheVariants.Sig x) h = refl
unplaced ds (Slice a low width) h = refl
unplaced ds (Cat es) h = refl
unplaced ds (Part a offset width stride) h = refl
unplaced ds (Pick index es) h = refl
unplaced ds (Cast a signed) h = refl
unplaced ds (Const n x) h = refl
unplaced ds (Unary op a) h = refl
unplaced ds (Binary op a b) h = refl
unplaced ds (Mux x a b) h = refl
unplaced ds (Matches a patterns) h = refl

-- ---- one expression after another

module _ (ds : List Domain) where
  pub placed_agree : (p p' : ℕ → Bool) (n : ℕ) (es : List Expr) → ((j : ℕ) → n ≤ j → j < n + length es → p j ≡ p' j) → placed_from ds p n es ≡ placed_from ds p' n es
  placed_agree p p' n [] h = refl
  placed_agree p p' n (e ∷ es) h =
      let a : cond (p n) (placed_expr ds e) e ≡ cond (p' n) (placed_expr ds e) e = ap (λ b. cond b (placed_expr ds e) e) (h n (omega arith) (omega arith)) in
      let b = placed_agree p p' (suc n) es (λ j le low. h j (omega (arith, le)) (omega (arith, low))) in cc

  placed_nowhere : (p : ℕ → Bool) (n : ℕ) (es : List Expr) → ((j : ℕ) → p j ≡ false) → placed_from ds p n es ≡ es
  placed_nowhere p n [] h = refl
  placed_nowhere p n (e ∷ es) h =
      let a : cond (p n) (placed_expr ds e) e ≡ e = ap (λ b. cond b (placed_expr ds e) e) (h n) in
      let b = placed_nowhere p (suc n) es h in cc

  -- one that does not pass is as it was
  placed_get : (p : ℕ → Bool) (n : ℕ) (es : List Expr) (k : ℕ) → p (n + k) ≡ false → slice_get (placed_from ds p n es) k ≡ slice_get es k
  placed_get p n [] k h = refl
  placed_get p n (e ∷ es) zero h = ap (λ b. Some (cond b (placed_expr ds e) e)) (ap p (let e : n ≡ n + 0 = omega arith in e) ∙ h)
  placed_get p n (e ∷ es) (suc k) h = placed_get p (suc n) es k (ap p (let e : suc n + k ≡ n + suc k = omega arith in e) ∙ h)

  module _ (p p' : ℕ → Bool) where
    abbrev pub Agree : ℕ → Type 0
    Agree m = (j : ℕ) → (j < m) ⊎ (m < j) → p j ≡ p' j

    -- one that passes now
    placed_set : (n : ℕ) (es : List Expr) (k : ℕ) (e : Expr) → slice_get es k ≡ Some e → Agree (n + k) → slice_set (placed_from ds p n es) k (cond (p' (n + k)) (placed_expr ds e) e) ≡ placed_from ds p' n es
    placed_set n [] k e at h = absurd cc
    placed_set n (x ∷ es) zero e at h =
        let same : x ≡ e = cc in
        let a : cond (p' (n + 0)) (placed_expr ds e) e ≡ cond (p' n) (placed_expr ds x) x =
        ap (λ m. cond (p' m) (placed_expr ds e) e) (let e : n + 0 ≡ n = omega arith in e) ∙ ap (λ y. cond (p' n) (placed_expr ds y) y) (sym same) in
        let b = placed_agree p p' (suc n) es (λ j le low. h j (inr (omega (arith, le)))) in cc
    placed_set n (x ∷ es) (suc k) e at h =
        let next : suc n + k ≡ n + suc k = omega arith in
        let a : cond (p n) (placed_expr ds x) x ≡ cond (p' n) (placed_expr ds x) x = ap (λ b. cond b (placed_expr ds x) x) (h n (inl (omega arith))) in
        let b : slice_set (placed_from ds p (suc n) es) k (cond (p' (n + suc k)) (placed_expr ds e) e) ≡ placed_from ds p' (suc n) es =
        ap (λ m. slice_set (placed_from ds p (suc n) es) k (cond (p' m) (placed_expr ds e) e)) (sym next) ∙ placed_set (suc n) es k e at (subst Agree (sym next) h) in cc

    -- one that stays
    placed_skip : (n : ℕ) (es : List Expr) (k : ℕ) → ((e : Expr) → slice_get es k ≡ Some e → cond (p (n + k)) (placed_expr ds e) e ≡ cond (p' (n + k)) (placed_expr ds e) e) → Agree (n + k) → placed_from ds p n es ≡ placed_from ds p' n es
    placed_skip n [] k stays h = refl
    placed_skip n (x ∷ es) zero stays h =
        let here : n + 0 ≡ n = omega arith in
        let a : cond (p n) (placed_expr ds x) x ≡ cond (p' n) (placed_expr ds x) x = subst (λ m. cond (p m) (placed_expr ds x) x ≡ cond (p' m) (placed_expr ds x) x) here (stays x refl) in
        let b = placed_agree p p' (suc n) es (λ j le low. h j (inr (omega (arith, le)))) in cc
    placed_skip n (x ∷ es) (suc k) stays h =
        let next : suc n + k ≡ n + suc k = omega arith in
        let a : cond (p n) (placed_expr ds x) x ≡ cond (p' n) (placed_expr ds x) x = ap (λ b. cond b (placed_expr ds x) x) (h n (inl (omega arith))) in
        let b = placed_skip (suc n) es k (λ e at. subst (λ m. cond (p m) (placed_expr ds e) e ≡ cond (p' m) (placed_expr ds e) e) (sym next) (stays e at)) (subst Agree (sym next) h) in cc

  -- ---- of those that are held, the first so many

  module _ (held : ℕ → Bool) where
    abbrev pub up_to : ℕ → ℕ → Bool
    up_to k j = nat_lt j k && held j

    below_both : (k j : ℕ) → j < k → up_to k j ≡ up_to (k + 1) j
    below_both k j h = let a : nat_lt j k ≡ true = grind (arith, nat_tests) in let b : nat_lt j (k + 1) ≡ true = grind (arith, nat_tests) in cc

    past_both : (k j : ℕ) → k < j → up_to k j ≡ up_to (k + 1) j
    past_both k j h = let a : nat_lt j k ≡ false = grind (arith, nat_tests) in let b : nat_lt j (k + 1) ≡ false = grind (arith, nat_tests) in cc

    agree : (k : ℕ) → Agree (up_to k) (up_to (k + 1)) (0 + k)
    agree k j (inl low) = below_both k j (omega (arith, low))
    agree k j (inr high) = past_both k j (omega (arith, high))

    not_yet : (k : ℕ) → up_to k (0 + k) ≡ false
    not_yet k = ap (up_to k) (let e : 0 + k ≡ k = omega arith in e) ∙ ap (λ b. b && held k) (let e : nat_lt k k ≡ false = grind (arith, nat_tests) in e)

    then' : (k : ℕ) → up_to (k + 1) (0 + k) ≡ held k
    then' k = ap (up_to (k + 1)) (let e : 0 + k ≡ k = omega arith in e) ∙ ap (λ b. b && held k) (let e : nat_lt k (k + 1) ≡ true = grind (arith, nat_tests) in e)

    pub placed_first : (es : List Expr) → placed_from ds (up_to 0) 0 es ≡ es
    placed_first es = placed_nowhere (up_to 0) 0 es (λ j. ap (λ b. b && held j) (let e : nat_lt j 0 ≡ false = grind (arith, nat_tests) in e))

    pub placed_last : (es : List Expr) (k : ℕ) → length es ≤ k → placed_from ds (up_to k) 0 es ≡ placed_from ds held 0 es
    placed_last es k le = placed_agree (up_to k) held 0 es (λ j lo low. ap (λ b. b && held j) (within j low))
      where
        within : (j : ℕ) → j < 0 + length es → nat_lt j k ≡ true
        within j low = grind (arith, nat_tests)

    -- one that has no signal
    pub placed_stays : (es : List Expr) (k : ℕ) → placed_signal ds (held k) (slice_get (placed_from ds (up_to k) 0 es) k) ≡ None → placed_from ds (up_to k) 0 es ≡ placed_from ds (up_to (k + 1)) 0 es
    placed_stays es k none = placed_skip (up_to k) (up_to (k + 1)) 0 es k same (agree k)
      where
        kept : (e : Expr) (b : Bool) → cond b (signal_for ds e) None ≡ None → cond b (placed_expr ds e) e ≡ e
        kept e true h = unplaced ds e h
        kept e false h = refl

        same : (e : Expr) → slice_get es k ≡ Some e → cond (up_to k (0 + k)) (placed_expr ds e) e ≡ cond (up_to (k + 1) (0 + k)) (placed_expr ds e) e
        same e at =
            ap (λ b. cond b (placed_expr ds e) e) (not_yet k)
            ∙ sym (ap (λ b. cond b (placed_expr ds e) e) (then' k) ∙ kept e (held k) (sym (ap (placed_signal ds (held k)) (placed_get (up_to k) 0 es k (not_yet k) ∙ at)) ∙ none))

    -- what is known of one that has
    pub record IsTurn (es : List Expr) (k : ℕ) (s : SigId) : Type 0 where
      pub expression : Expr
      pub stands : slice_get es k ≡ Some expression
      pub held_so : held k ≡ true
      pub signal : IsSignal ds expression s

    turn_told : (es : List Expr) (k : ℕ) (s : SigId) (o : Option Expr) (b : Bool) → slice_get es k ≡ o → held k ≡ b → placed_signal ds b o ≡ Some s → IsTurn es k s
    turn_told es k s None b at e h = absurd cc
    turn_told es k s (Some x) false at e h = absurd cc
    turn_told es k s (Some x) true at e h = record { expression = x; stands = at; held_so = e; signal = signal_told ds x s h }

    pub turn_is : (es : List Expr) (k : ℕ) (s : SigId) → placed_signal ds (held k) (slice_get (placed_from ds (up_to k) 0 es) k) ≡ Some s → IsTurn es k s
    turn_is es k s h = turn_told es k s (slice_get es k) (held k) refl refl (sym (ap (placed_signal ds (held k)) (placed_get (up_to k) 0 es k (not_yet k))) ∙ h)

    pub turn_get : (es : List Expr) (k : ℕ) → slice_get (placed_from ds (up_to k) 0 es) k ≡ slice_get es k
    turn_get es k = placed_get (up_to k) 0 es k (not_yet k)

    pub placed_turns : (es : List Expr) (k : ℕ) (s : SigId) → IsTurn es k s → slice_set (placed_from ds (up_to k) 0 es) k (expr.TheVariants.Sig s) ≡ placed_from ds (up_to (k + 1)) 0 es
    placed_turns es k s h =
        ap (slice_set (placed_from ds (up_to k) 0 es) k) (sym (ap (λ b. cond b (placed_expr ds h.expression) h.expression) (then' k ∙ h.held_so) ∙ signal_placed ds h.expression s h.signal))
        ∙ placed_set (up_to k) (up_to (k + 1)) 0 es k h.expression h.stands (agree k)

-- ---- of what all fragments hold

pub placed_held : (ds : List Domain) (q : Pooled) (roots : List (List ExprId)) (firsts : List (Option ℕ)) → AreHolders q roots firsts → record q { exprs = placed_from ds (λ k. is_some (first_at firsts k)) 0 q.exprs } ≡ placed_pool ds q (all_roots roots)
unfolding placed_pool
placed_held ds q roots firsts h = ap (λ (es : List Expr). record q { exprs = es }) (placed_agree ds (λ k. is_some (first_at firsts k)) (is_within q (all_roots roots)) 0 q.exprs (λ k le low. held_is q roots firsts k h (omega (arith, low))))
