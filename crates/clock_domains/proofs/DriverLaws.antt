-- What is driven, and the first statement that is refused.
use Rattle.std.proofs.Common.{◌≡◌, inl, inr, ℕ, zero, suc, ◌+◌, ◌<◌, ◌≤◌, ◌==◌, Bool, true, false, ◌||◌, if◌then◌else◌, List, [], ◌∷◌, ◌++◌, map, length, take, Option, Some, None, slice_get, replicate, refl, sym, ap, ◌∙◌, subst, arith, append-nil, append_assoc}
use Rattle.std.specs.List.{AllByRecursion, list_any, flat_map}
use Rattle.std.proofs.lemmas.Bool.{false≢true, eqb-true, eq-eqb}
use Rattle.std.proofs.lemmas.List.{length-replicate, take-append-le}
use Rattle.std.proofs.lemmas.List.Concat.{flat_map-append}
use Rattle.std.proofs.lemmas.Bool.{cases_lt}
use Rattle.amh_host.specs.declared.place.Place.{Place}
use Rattle.design_ir.specs.declared.ids.ExprId.{ExprId}
use Rattle.design_ir.specs.declared.expr.Expr.{Expr}
use Rattle.design_ir.specs.declared.process.Process.{Process}
use Rattle.design_ir.specs.Named.{AllBelow, named}
use Rattle.design_ir.specs.Trees.{Statement, assign, choose, Choices, none, arm, Block, done, next}
use Rattle.design_ir.specs.Pools.{Pooled}
use Rattle.design_ir.specs.PoolRules.{IsPool}
use Rattle.design_ir.specs.Targets.{target_signals}
use Rattle.design_ir.specs.Guards.{Guard, Guarded, guarded, guarded_in, guarded_arms, driven, block_exprs, statement_exprs, choices_exprs}
use Rattle.design_ir.specs.Circuits.{is_among}
use Rattle.design_ir.specs.Designs.{share}
use Rattle.fragment_walks.specs.Marks.{Flag, is_marked, marked, numbers, comes_out, target_parts}
use Rattle.fragment_walks.specs.Reads.{own_signals, statement_targets, choices_targets, block_targets, statement_values, choices_values, block_values, is_driven, signals_in}
use Rattle.fragment_walks.specs.Numbers.{bounded, process_targets}
use Rattle.fragment_walks.proofs.Lists.{take_end, all_imp, all_joined, any_agree, any-append, or_false, below_split}
use Rattle.fragment_walks.proofs.NumberLaws.{bounded_none}
use Rattle.fragment_walks.proofs.Markings.{fresh_marks, more_below, none_below}
use Rattle.fragment_walks.proofs.Outs.{among_flat, signals_lead, reads_lead, own_below, parts_there, named_there, target_signals_past, signals_in_past}
use Rattle.clock_domains.specs.declared.stop.ResolveStop.{ResolveStop}
use Rattle.clock_domains.specs.declared.stop.ResolveStop.TheVariants as stop
use Rattle.clock_domains.specs.Resolvable.{IsPlain, IsSideOf}
use Rattle.clock_domains.specs.Resolved.{statement_refusal, first_of, first_refusal, driver_refusal}
use Rattle.clock_domains.specs.Stops.{statement_stop, choices_stop, block_stop, processes_stop, target_stop, IsOwed}
use Rattle.clock_domains.proofs.FirstLaws.{first_assoc, first_one}

-- ---- expressions of statements

pub plain_below : (q : Pooled) (es : List ExprId) → AllByRecursion (IsPlain q) es → AllBelow (length q.exprs) es
plain_below q [] h = tt
plain_below q (e ∷ es) h = (h.0.there, plain_below q es h.1)

mutual
  statement_targets_below : (n : ℕ) (s : Statement) → AllBelow n (statement_exprs s) → AllByRecursion (λ k. k < n) (statement_targets s)
  statement_targets_below n (assign t v p) h = (h.0, tt)
  statement_targets_below n (choose arms) h = choices_targets_below n arms h

  choices_targets_below : (n : ℕ) (c : Choices) → AllBelow n (choices_exprs c) → AllByRecursion (λ k. k < n) (choices_targets c)
  choices_targets_below n none h = tt
  choices_targets_below n (arm c body others) h =
      let parts = below_split n (block_exprs body) (choices_exprs others) h.1 in all_joined (λ k. k < n) (block_targets body) (choices_targets others) (targets_below n body parts.0) (choices_targets_below n others parts.1)

  targets_below : (n : ℕ) (b : Block) → AllBelow n (block_exprs b) → AllByRecursion (λ k. k < n) (block_targets b)
  targets_below n done h = tt
  targets_below n (next s rest) h =
      let parts = below_split n (statement_exprs s) (block_exprs rest) h in all_joined (λ k. k < n) (statement_targets s) (block_targets rest) (statement_targets_below n s parts.0) (targets_below n rest parts.1)

mutual
  statement_values_below : (n : ℕ) (s : Statement) → AllBelow n (statement_exprs s) → AllByRecursion (λ k. k < n) (statement_values s)
  statement_values_below n (assign t v p) h = (h.1.0, tt)
  statement_values_below n (choose arms) h = choices_values_below n arms h

  choices_values_below : (n : ℕ) (c : Choices) → AllBelow n (choices_exprs c) → AllByRecursion (λ k. k < n) (choices_values c)
  choices_values_below n none h = tt
  choices_values_below n (arm c body others) h =
      let parts = below_split n (block_exprs body) (choices_exprs others) h.1 in (h.0, all_joined (λ k. k < n) (block_values body) (choices_values others) (values_below n body parts.0) (choices_values_below n others parts.1))

  pub values_below : (n : ℕ) (b : Block) → AllBelow n (block_exprs b) → AllByRecursion (λ k. k < n) (block_values b)
  values_below n done h = tt
  values_below n (next s rest) h =
      let parts = below_split n (statement_exprs s) (block_exprs rest) h in all_joined (λ k. k < n) (statement_values s) (block_values rest) (statement_values_below n s parts.0) (values_below n rest parts.1)

-- ---- the targets of assignments are those of the flat list

target_of : Guarded → ℕ
target_of g = g.target.0

map_joined : (xs ys : List Guarded) → map (λ (g : Guarded). g.target.0) (xs ++ ys) ≡ map (λ (g : Guarded). g.target.0) xs ++ map (λ (g : Guarded). g.target.0) ys
map_joined [] ys = refl
map_joined (x ∷ xs) ys = ap (λ zs. x.target.0 ∷ zs) (map_joined xs ys)

mutual
  statement_flat : (gs : List Guard) (s : Statement) → map (λ (g : Guarded). g.target.0) (guarded_in gs s) ≡ statement_targets s
  statement_flat gs (assign t v p) = refl
  statement_flat gs (choose arms) = choices_flat gs arms

  choices_flat : (gs : List Guard) (c : Choices) → map (λ (g : Guarded). g.target.0) (guarded_arms gs c) ≡ choices_targets c
  choices_flat gs none = refl
  choices_flat gs (arm c body others) =
      map_joined (guarded (gs ++ record { condition = c; taken = true } ∷ []) body) (guarded_arms (gs ++ record { condition = c; taken = false } ∷ []) others)
      ∙ ap (λ xs. xs ++ map (λ (g : Guarded). g.target.0) (guarded_arms (gs ++ record { condition = c; taken = false } ∷ []) others)) (block_flat (gs ++ record { condition = c; taken = true } ∷ []) body)
      ∙ ap (λ xs. block_targets body ++ xs) (choices_flat (gs ++ record { condition = c; taken = false } ∷ []) others)

  pub block_flat : (gs : List Guard) (b : Block) → map (λ (g : Guarded). g.target.0) (guarded gs b) ≡ block_targets b
  block_flat gs done = refl
  block_flat gs (next s rest) =
      map_joined (guarded_in gs s) (guarded gs rest) ∙ ap (λ xs. xs ++ map (λ (g : Guarded). g.target.0) (guarded gs rest)) (statement_flat gs s) ∙ ap (λ xs. statement_targets s ++ xs) (block_flat gs rest)

flat_mapped : (f : ℕ → List ℕ) (xs : List Guarded) → flat_map (λ (g : Guarded). f g.target.0) xs ≡ flat_map f (map (λ (g : Guarded). g.target.0) xs)
flat_mapped f [] = refl
flat_mapped f (x ∷ xs) = ap (λ ys. f x.target.0 ++ ys) (flat_mapped f xs)

pub driven_flat : (q : Pooled) (b : Block) → driven q b ≡ flat_map (target_signals q) (block_targets b)
driven_flat q b = flat_mapped (target_signals q) (guarded [] b) ∙ ap (flat_map (target_signals q)) (block_flat [] b)

-- ---- what processes drive

pub flat_below : (f : Block → List ℕ) (n : ℕ) (ps : List Process) → AllByRecursion (λ (p : Process). AllByRecursion (λ k. k < n) (f p.body)) ps → AllByRecursion (λ k. k < n) (flat_map (λ (p : Process). f p.body) ps)
flat_below f n [] h = tt
flat_below f n (p ∷ ps) h = all_joined (λ k. k < n) (f p.body) (flat_map (λ (p : Process). f p.body) ps) h.0 (flat_below f n ps h.1)

pub sides_targets : (q : Pooled) (ps : List Process) → AllByRecursion (IsSideOf q) ps → AllByRecursion (λ (p : Process). AllByRecursion (λ k. k < length q.exprs) (block_targets p.body)) ps
sides_targets q [] h = tt
sides_targets q (p ∷ ps) h = (targets_below (length q.exprs) p.body (plain_below q (block_exprs p.body) h.0.expressions), sides_targets q ps h.1)

driven_any : (q : Pooled) (ps : List Process) (s : ℕ) → list_any (λ j. is_among (target_signals q j) s) (process_targets ps) ≡ is_driven q ps s
driven_any q [] s = refl
driven_any q (p ∷ ps) s =
    any-append (λ j. is_among (target_signals q j) s) (block_targets p.body) (process_targets ps)
    ∙ ap (λ b. b || list_any (λ j. is_among (target_signals q j) s) (process_targets ps)) (sym (among_flat (target_signals q) (block_targets p.body) s) ∙ ap (λ ss. is_among ss s) (sym (driven_flat q p.body)))
    ∙ ap (λ b. is_among (driven q p.body) s || b) (driven_any q ps s)

-- what the marks of their targets come to
pub driven_spread : (q : Pooled) (ps : List Process) (out : List Bool) (s : ℕ) → AllByRecursion (IsSideOf q) ps → comes_out (target_signals q) (marked (process_targets ps) (replicate (length q.exprs) false)) out (length q.exprs) s ≡ (is_marked out s || is_driven q ps s)
driven_spread q ps out s sides =
    let n = length q.exprs in
    let ts = process_targets ps in
    ap (λ c. is_marked out s || c)
    (more_below (λ j. is_among (target_signals q j) s) ts (replicate n false) n (flat_below block_targets n ps (sides_targets q ps sides)) (omega (arith, length-replicate n false))
    ∙ ap (λ c. list_any (λ j. is_among (target_signals q j) s) ts || c) (none_below (λ j. is_among (target_signals q j) s) n n)
    ∙ or_false (list_any (λ j. is_among (target_signals q j) s) ts)
    ∙ driven_any q ps s)

-- what the numbers below a bound come to, where those of the targets are of these processes
pub first_known : (q : Pooled) (ps : List Process) (i s n m : ℕ) (fresh targets unset out : List (Option ℕ)) → AllByRecursion (IsSideOf q) ps → n ≡ length q.exprs → fresh ≡ replicate n None → unset ≡ replicate m None
    → bounded i targets ≡ marked (process_targets ps) (bounded i fresh) → is_marked (bounded i out) s ≡ comes_out (target_signals q) (bounded i targets) (bounded i unset) (length q.exprs) s → is_marked (bounded i out) s ≡ is_driven q ps s
first_known q ps i s n m fresh targets unset out sides size fe ne te oe =
    oe
    ∙ ap (λ ms. comes_out (target_signals q) ms (bounded i unset) (length q.exprs) s)
    (te ∙ ap (marked (process_targets ps)) (ap (bounded i) fe ∙ bounded_none i n ∙ ap (λ k. replicate k false) size))
    ∙ driven_spread q ps (bounded i unset) s sides
    ∙ ap (λ b. b || is_driven q ps s) (ap (λ xs. is_marked (bounded i xs) s) ne ∙ ap (λ ms. is_marked ms s) (bounded_none i m) ∙ fresh_marks m s)

-- ---- signals of the pool

-- what an expression leads to is among these, by its parts
module _ (q : Pooled) (leads : ℕ → List ℕ) (n : ℕ) (own : Expr → List ℕ) (parts : Expr → List ℕ) (past : (k : ℕ) → length q.exprs ≤ k → leads k ≡ []) (low : (k : ℕ) (e : Expr) → slice_get q.exprs k ≡ Some e → AllByRecursion (λ j. j < k) (parts e)) (inside : (k : ℕ) (e : Expr) → slice_get q.exprs k ≡ Some e → AllByRecursion (λ s. s < n) (own e))
    (whole : (k : ℕ) (e : Expr) (s : ℕ) → slice_get q.exprs k ≡ Some e → is_among (leads k) s ≡ (is_among (own e) s || list_any (λ j. is_among (leads j) s) (parts e))) where
  among_small : (ss : List ℕ) (s : ℕ) → AllByRecursion (λ t. t < n) ss → n ≤ s → is_among ss s ≡ false
  among_small [] s h le = refl
  among_small (t ∷ ss) s h le = split (t == s) refl (among_small ss s h.1 le)
    where
      split : (b : Bool) → (t == s) ≡ b → is_among ss s ≡ false → (b || is_among ss s) ≡ false
      split true e rest = absurd (omega (arith, eqb-true t s e, h.0, le))
      split false e rest = rest

  none_of : (s : ℕ) (js : List ℕ) (k : ℕ) → AllByRecursion (λ j. j < k) js → ((j : ℕ) → j < k → is_among (leads j) s ≡ false) → list_any (λ j. is_among (leads j) s) js ≡ false
  none_of s [] k h f = refl
  none_of s (j ∷ js) k h f = ap (λ b. b || list_any (λ j. is_among (leads j) s) js) (f j h.0) ∙ none_of s js k h.1 f

  none_up_to : (s : ℕ) → n ≤ s → (m k : ℕ) → k < m → is_among (leads k) s ≡ false
  none_up_to s le zero k below = absurd (omega (arith, below))
  none_up_to s le (suc m) k below = by_place (slice_get q.exprs k) refl (λ j h. none_up_to s le m j (omega (arith, h, below)))
    where
      by_place : (o : Option Expr) → slice_get q.exprs k ≡ o → ((j : ℕ) → j < k → is_among (leads j) s ≡ false) → is_among (leads k) s ≡ false
      by_place (Some e) at rest =
          whole k e s at ∙ ap (λ b. b || list_any (λ j. is_among (leads j) s) (parts e)) (among_small (own e) s (inside k e at) le) ∙ none_of s (parts e) k (low k e at) rest
      by_place None at rest = ap (λ ss. is_among ss s) (past k (past_end q.exprs k at))
        where
          past_end : (xs : List Expr) (k : ℕ) → slice_get xs k ≡ None → length xs ≤ k
          past_end [] k e = omega arith
          past_end (x ∷ xs) zero e = cc
          past_end (x ∷ xs) (suc k) e = omega (arith, past_end xs k e)

  pub leads_none : (k s : ℕ) → n ≤ s → is_among (leads k) s ≡ false
  leads_none k s le = none_up_to s le (suc k) k (omega arith)

pub target_none : (q : Pooled) (k s : ℕ) → IsPool q → length q.signals ≤ s → is_among (target_signals q k) s ≡ false
target_none q k s rules =
    leads_none q (target_signals q) (length q.signals) own_signals (λ e. numbers (target_parts e)) (target_signals_past q) (λ k e at. parts_there q k e rules at) (λ k e at. own_below q k e rules at) (λ k e s at. signals_lead q k e s rules at) k s

pub reads_none : (q : Pooled) (k s : ℕ) → IsPool q → length q.signals ≤ s → is_among (signals_in q k) s ≡ false
reads_none q k s rules =
    leads_none q (signals_in q) (length q.signals) own_signals (λ e. numbers (named e)) (signals_in_past q) (λ k e at. named_there q k e rules at) (λ k e at. own_below q k e rules at) (λ k e s at. reads_lead q k e s rules at) k s

flat_none : (f : ℕ → List ℕ) (xs : List ℕ) (s : ℕ) → ((k : ℕ) → is_among (f k) s ≡ false) → is_among (flat_map f xs) s ≡ false
flat_none f [] s h = refl
flat_none f (x ∷ xs) s h = any-append (λ y. y == s) (f x) (flat_map f xs) ∙ ap (λ b. b || is_among (flat_map f xs) s) (h x) ∙ flat_none f xs s h

pub driven_none : (q : Pooled) (b : Block) (s : ℕ) → IsPool q → length q.signals ≤ s → is_among (driven q b) s ≡ false
driven_none q b s rules le = ap (λ ss. is_among ss s) (driven_flat q b) ∙ flat_none (target_signals q) (block_targets b) s (λ k. target_none q k s rules le)

pub is_driven_none : (q : Pooled) (ps : List Process) (s : ℕ) → IsPool q → length q.signals ≤ s → is_driven q ps s ≡ false
is_driven_none q [] s rules le = refl
is_driven_none q (p ∷ ps) s rules le = ap (λ b. b || is_driven q ps s) (driven_none q p.body s rules le) ∙ is_driven_none q ps s rules le

pub read_none : (q : Pooled) (xs : List ℕ) (s : ℕ) → IsPool q → length q.signals ≤ s → is_among (flat_map (signals_in q) xs) s ≡ false
read_none q xs s rules le = flat_none (signals_in q) xs s (λ k. reads_none q k s rules le)

-- a list in which nothing past a bound is
pub small_all : (n : ℕ) (ss : List ℕ) → ((s : ℕ) → n ≤ s → is_among ss s ≡ false) → AllByRecursion (λ s. s < n) ss
small_all n [] h = tt
small_all n (t ∷ ss) h = (
  elim (cases_lt t n) [ inl below ↦ below | inr past ↦ absurd (false≢true (sym (h t (omega (arith, past))) ∙ here t ss)) ],
  small_all n ss (λ s le. rest (t == s) (is_among ss s) (h s le)),
)
  where
    here : (t : ℕ) (ss : List ℕ) → is_among (t ∷ ss) t ≡ true
    here t ss = ap (λ b. b || is_among ss t) (same_number t)
      where
        same_number : (t : ℕ) → (t == t) ≡ true
        same_number t = split (t == t) refl
          where
            split : (b : Bool) → (t == t) ≡ b → b ≡ true
            split true e = refl
            split false e = absurd (false≢true (sym e ∙ eq-eqb t t refl))

    rest : (a b : Bool) → (a || b) ≡ false → b ≡ false
    rest true b e = absurd (false≢true (sym e))
    rest false b e = e

pub target_small : (q : Pooled) (k : ℕ) → IsPool q → AllByRecursion (λ s. s < 16384) (target_signals q k)
target_small q k rules = small_all 16384 (target_signals q k) (λ s le. target_none q k s rules (omega (arith, le, rules.few_signals)))

-- ---- refusals

pub owed_itself : (owed : Option ResolveStop) (s : ResolveStop) → owed ≡ Some s → IsOwed owed s
owed_itself owed (stop.DomainClash p) e = e
owed_itself owed (stop.NoReset p) e = e
owed_itself owed (stop.TwoDrivers p) e = e
owed_itself owed (stop.DrivenInput p) e = e
owed_itself owed (stop.Limit p) e = e
owed_itself owed stop.NoMemory e = tt

first-append : (f : Guarded → Option ResolveStop) (xs ys : List Guarded) → first_refusal f (xs ++ ys) ≡ first_of (first_refusal f xs) (first_refusal f ys)
first-append f [] ys = refl
first-append f (x ∷ xs) ys = ap (first_of (f x)) (first-append f xs ys) ∙ sym (first_assoc (f x) (first_refusal f xs) (first_refusal f ys))

-- a refusal that looks at the target and the place alone
module _ (f : ℕ → Place → Option ResolveStop) (r : Guarded → Option ResolveStop) (same : (g : Guarded) → f g.target.0 g.place ≡ r g) where
  mutual
    statement_first : (gs : List Guard) (s : Statement) → statement_stop f s ≡ first_refusal r (guarded_in gs s)
    statement_first gs (assign t v p) = same (record { guards = gs; target = t; value = v; place = p }) ∙ sym (first_one (r (record { guards = gs; target = t; value = v; place = p })))
    statement_first gs (choose arms) = choices_first gs arms

    choices_first : (gs : List Guard) (c : Choices) → choices_stop f c ≡ first_refusal r (guarded_arms gs c)
    choices_first gs none = refl
    choices_first gs (arm c body others) =
        ap (λ o. first_of o (choices_stop f others)) (block_first (gs ++ record { condition = c; taken = true } ∷ []) body)
        ∙ ap (first_of (first_refusal r (guarded (gs ++ record { condition = c; taken = true } ∷ []) body))) (choices_first (gs ++ record { condition = c; taken = false } ∷ []) others)
        ∙ sym (first-append r (guarded (gs ++ record { condition = c; taken = true } ∷ []) body) (guarded_arms (gs ++ record { condition = c; taken = false } ∷ []) others))

    pub block_first : (gs : List Guard) (b : Block) → block_stop f b ≡ first_refusal r (guarded gs b)
    block_first gs done = refl
    block_first gs (next s rest) =
        ap (λ o. first_of o (block_stop f rest)) (statement_first gs s) ∙ ap (first_of (first_refusal r (guarded_in gs s))) (block_first gs rest) ∙ sym (first-append r (guarded_in gs s) (guarded gs rest))

-- what the processes before drive
abbrev pub driven_by : Pooled → List Process → List ℕ
driven_by q ps = flat_map (λ (p : Process). driven q p.body) ps

pub driven_by_is : (q : Pooled) (ps : List Process) (s : ℕ) → is_among (driven_by q ps) s ≡ is_driven q ps s
driven_by_is q ps s = among_flat (λ (p : Process). driven q p.body) ps s

-- the refusal by marks is that of the definition
stop_same : (q : Pooled) (inputs on_inputs taken on_taken : List Bool) (ins before : List ℕ) (b : Block) → IsPool q → Flag inputs (is_among ins) → Flag taken (is_among before) → ((k : ℕ) → is_marked on_inputs k ≡ list_any (is_marked inputs) (target_signals q k))
    → ((k : ℕ) → is_marked on_taken k ≡ list_any (is_marked taken) (target_signals q k)) → block_stop (target_stop on_inputs on_taken) b ≡ first_refusal (statement_refusal q ins before) (guarded [] b)
stop_same q inputs on_inputs taken on_taken ins before b rules fi ft hi ht = block_first (target_stop on_inputs on_taken) (statement_refusal q ins before) each [] b
  where
    each : (g : Guarded) → target_stop on_inputs on_taken g.target.0 g.place ≡ statement_refusal q ins before g
    each g =
        let t = g.target.0 in
        let ts = target_signals q t in
        let a : is_marked on_inputs t ≡ share ts ins = hi t ∙ any_agree (is_marked inputs) (is_among ins) ts (all_imp (λ s small. fi.each s small) ts (target_small q t rules)) in
        let c : is_marked on_taken t ≡ share ts before = ht t ∙ any_agree (is_marked taken) (is_among before) ts (all_imp (λ s small. ft.each s small) ts (target_small q t rules)) in
        ap (λ x. if x then Some (stop.DrivenInput g.place) else (if is_marked on_taken t then Some (stop.TwoDrivers g.place) else None)) a
        ∙ ap (λ x. if share ts ins then Some (stop.DrivenInput g.place) else (if x then Some (stop.TwoDrivers g.place) else None)) c

or_either : (a b : Bool) → (a || b) ≡ (b || a)
or_either true true = refl
or_either true false = refl
or_either false true = refl
or_either false false = refl

-- of all processes: a target's least number is below that of a process exactly where one before drives a signal of it, or a read port
-- gives it
module _ (q : Pooled) (inputs on_inputs given : List Bool) (firsts leasts : List (Option ℕ)) (ins before : List ℕ) (rules : IsPool q) (fi : Flag inputs (is_among ins)) (fg : Flag given (is_among before))
    (hi : (k : ℕ) → is_marked on_inputs k ≡ list_any (is_marked inputs) (target_signals q k)) (hl : (i k : ℕ) → is_marked (bounded i leasts) k ≡ list_any (is_marked (bounded i firsts)) (target_signals q k)) where
  abbrev stop_at : ℕ → ℕ → Place → Option ResolveStop
  stop_at i = target_stop on_inputs (bounded i leasts)

  abbrev AreKnown : List Process → Type 0
  AreKnown ps = (i : ℕ) → Flag (bounded (i + 1) firsts) (λ s. is_driven q (take i ps) s || is_marked given s)

  -- what those before it drive, or a read port gives
  taken_by : (n : ℕ) (past rest : List Process) → length past ≡ n → AreKnown (past ++ rest) → Flag (bounded (suc n) firsts) (is_among (before ++ driven_by q past))
  taken_by n past rest size h = record { size = all.size; each = λ s small. all.each s small ∙ ap (λ b. is_driven q past s || b) (fg.each s small) ∙ joined s }
    where
      first : take n (past ++ rest) ≡ past
      first = take-append-le n past rest (omega (arith, size)) ∙ take_end past n (omega (arith, size))

      next : n + 1 ≡ suc n
      next = omega arith

      all : Flag (bounded (suc n) firsts) (λ s. is_driven q past s || is_marked given s)
      all = subst (λ m. Flag (bounded m firsts) (λ s. is_driven q past s || is_marked given s)) next (subst (λ ps. Flag (bounded (n + 1) firsts) (λ s. is_driven q ps s || is_marked given s)) first (h n))

      joined : (s : ℕ) → (is_driven q past s || is_among before s) ≡ is_among (before ++ driven_by q past) s
      joined s =
          or_either (is_driven q past s) (is_among before s) ∙ ap (λ b. is_among before s || b) (sym (driven_by_is q past s)) ∙ sym (any-append (λ y. y == s) before (driven_by q past))

  refusal_from : (n : ℕ) (past rest : List Process) → length past ≡ n → AreKnown (past ++ rest) → processes_stop stop_at (suc n) rest ≡ driver_refusal q ins (before ++ driven_by q past) rest
  refusal_from n past [] size h = refl
  refusal_from n past (p ∷ rest) size h =
      ap (λ o. first_of o (processes_stop stop_at (suc (suc n)) rest))
      (stop_same q inputs on_inputs (bounded (suc n) firsts) (bounded (suc n) leasts) ins (before ++ driven_by q past) p.body rules fi (taken_by n past (p ∷ rest) size h) hi (hl (suc n)))
      ∙ ap (first_of (first_refusal (statement_refusal q ins (before ++ driven_by q past)) (guarded [] p.body)))
      (refusal_from (suc n) (past ++ p ∷ []) rest (omega (arith, grown past, size)) (subst AreKnown (sym (append_assoc past (p ∷ []) rest)) h) ∙ ap (λ ss. driver_refusal q ins ss rest) more)
    where
      grown : (xs : List Process) → length (xs ++ p ∷ []) ≡ suc (length xs)
      grown [] = refl
      grown (x ∷ xs) = ap suc (grown xs)

      more : before ++ driven_by q (past ++ p ∷ []) ≡ (before ++ driven_by q past) ++ driven q p.body
      more =
          ap (λ ss. before ++ ss) (flat_map-append (λ (p : Process). driven q p.body) past (p ∷ []) ∙ ap (λ ss. driven_by q past ++ ss) (append-nil (driven q p.body)))
          ∙ sym (append_assoc before (driven_by q past) (driven q p.body))

  pub refusal_same : (ps : List Process) → AreKnown ps → processes_stop stop_at 1 ps ≡ driver_refusal q ins before ps
  refusal_same ps h = refusal_from 0 [] ps refl h ∙ ap (λ ss. driver_refusal q ins ss ps) (append-nil before)
