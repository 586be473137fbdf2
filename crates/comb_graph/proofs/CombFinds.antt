-- The signals that are found from the marks of targets are the combinational ones.
use Rattle.std.proofs.Common.{◌≡◌, ◌∙◌, ◌⊎◌, inl, inr, ℕ, zero, suc, ◌+◌, ◌<◌, ◌==◌, ◌&&◌, ◌||◌, Bool, true, false, Option, None, is_none, if◌then◌else◌, All, List, [], ◌∷◌, ◌++◌, length, Some, slice_get, replicate, refl, sym, ap, subst, arith}
use Rattle.std.specs.List.{Contains, AllByRecursion, flat_map, list_any}
use Rattle.std.proofs.lemmas.Bool.{cases_eq, false≢true, and_from, and_parts, or_left, or_right, eqb-true, eq-eqb}
use Rattle.std.proofs.lemmas.Grind.{flat_map-append}
use Rattle.std.proofs.lemmas.List.{length-replicate}
use Rattle.design_ir.specs.declared.ids.ExprId.{ExprId}
use Rattle.design_ir.specs.declared.ids.DomainId.{DomainId}
use Rattle.design_ir.specs.declared.signal.Sig.{Sig}
use Rattle.design_ir.specs.declared.memory.MemRead.{MemRead}
use Rattle.design_ir.specs.declared.memory.Memory.{Memory}
use Rattle.design_ir.specs.declared.process.DesignProcess.{DesignProcess}
use Rattle.design_ir.specs.declared.expr.Expr as expr
use Rattle.design_ir.specs.declared.expr.Expr.{Expr}
use Rattle.design_ir.specs.declared.expr.Expr.TheVariants.{Const, Unary, Binary, Mux, Slice, Cat, Part, Pick, Cast, Matches, Reset}
use Rattle.shape_rules.specs.Forms.{Form}
use Rattle.design_ir.specs.Trees.{Statement, assign, choose, Choices, none, arm, Block, done, next}
use Rattle.design_ir.specs.Named.{named, AllBelow}
use Rattle.design_ir.specs.Pools.{Pooled}
use Rattle.design_ir.specs.PoolRules.{IsPool, IsInRange}
use Rattle.design_ir.specs.Values.{form}
use Rattle.design_ir.specs.Targets.{signals_step, target_signals}
use Rattle.design_ir.specs.Guards.{Guard, Guarded, guarded, guarded_in, guarded_arms, driven}
use Rattle.design_ir.specs.Circuits.{Circuit, is_among}
use Rattle.design_ir.specs.Designs.{IsMemory, IsReadPort}
use Rattle.design_ir.proofs.Congruence.{AreSame, same_below}
use Rattle.design_ir.proofs.Equations.{standing, answer_at}
use Rattle.comb_graph.specs.Orders.{is_comb}
use Rattle.comb_graph.specs.CombTargets.{is_marked, IsMarked, statement_targets, choices_targets, block_targets, comb_targets, own_signals, target_parts, numbers, IsAimedAt, IsFound, FindsSame, comb_word, comb_words}
use Rattle.comb_graph.specs.CombNodes.{AreCombSignals}
use Rattle.digraph.proofs.WalkPaths.{contains-head, contains-cases}
use Rattle.design_ir.proofs.Elements.{map_of, flat_of, any_of, any_has}
use Rattle.comb_graph.proofs.GraphNeeds.{map_has, flat_has}
use Rattle.comb_graph.proofs.CombMarks.{marked_inside, fresh_marks}

-- ---- lists

or_parts : (a b : Bool) → (a || b) ≡ true → (a ≡ true) ⊎ (b ≡ true)
or_parts true b h = inl refl
or_parts false b h = inr h

-- a number of a list is among it
among_of : (ss : List ℕ) (s : ℕ) → is_among ss s ≡ true → Contains ss s
among_of ss s h = let found = any_of (λ x. x == s) ss h in subst (λ x. Contains ss x) (eqb-true found.0 s found.2) found.1

pub among_has : (ss : List ℕ) (s : ℕ) → Contains ss s → is_among ss s ≡ true
among_has ss s in' = any_has (λ x. x == s) ss s in' (eq-eqb s s refl)

-- ---- the signals of a target

flat_same : (f g : ℕ → List ℕ) (es : List ExprId) → AreSame f g es → flat_map (λ (e : ExprId). f e.0) es ≡ flat_map (λ (e : ExprId). g e.0) es
flat_same f g [] h = refl
flat_same f g (e ∷ es) h = let a = h.0 in let b = flat_same f g es h.1 in cc

signals_same : (f g : ℕ → List ℕ) (e : Expr) → AreSame f g (named e) → signals_step f e ≡ signals_step g e
signals_same f g (Slice a low width) h = h.0
signals_same f g (Cat es) h = flat_same f g es h
signals_same f g (Part a offset width stride) h = h.0
signals_same f g (Pick index es) h = flat_same f g es h.1
signals_same f g (Cast a signed) h = h.0
signals_same f g (expr.TheVariants.Sig s) h = refl
signals_same f g (Const n s) h = refl
signals_same f g (Unary op a) h = refl
signals_same f g (Binary op a b) h = refl
signals_same f g (Mux s a b) h = refl
signals_same f g (Matches a patterns) h = refl
signals_same f g (Reset domain place) h = refl

target_signals_is : (p : Pooled) (k : ℕ) (e : Expr) → IsPool p → slice_get p.exprs k ≡ Some e → target_signals p k ≡ signals_step (target_signals p) e
unfolding target_signals
target_signals_is p k e h is =
    let names = (standing p k e h is).names in
    answer_at [] signals_step p.exprs k e is (λ f g same. signals_same f g e (same_below f g k (named e) same names))

-- a signal of a target is its own, or one of a part
abbrev IsOfParts : (ℕ → List ℕ) → Expr → ℕ → Type 0
IsOfParts f e s = Contains (own_signals e) s ⊎ ((x : ExprId) × Contains (target_parts e) x × Contains (f x.0) s)

one_part : (f : ℕ → List ℕ) (a : ExprId) (s : ℕ) → Contains (f a.0) s → Contains [] s ⊎ ((x : ExprId) × Contains (a ∷ []) x × Contains (f x.0) s)
one_part f a s in' = inr (a, contains-head a [], in')

parts_of : (f : ℕ → List ℕ) (e : Expr) (s : ℕ) → Contains (signals_step f e) s → IsOfParts f e s
parts_of f (expr.TheVariants.Sig x) s in' = inl in'
parts_of f (Slice a low width) s in' = one_part f a s in'
parts_of f (Cat es) s in' = inr (flat_of (λ (e : ExprId). f e.0) es s in')
parts_of f (Part a offset width stride) s in' = one_part f a s in'
parts_of f (Pick index es) s in' = inr (flat_of (λ (e : ExprId). f e.0) es s in')
parts_of f (Cast a signed) s in' = one_part f a s in'
parts_of f (Const n form) s in' = inl in'
parts_of f (Unary op a) s in' = inl in'
parts_of f (Binary op a b) s in' = inl in'
parts_of f (Mux x a b) s in' = inl in'
parts_of f (Matches a patterns) s in' = inl in'
parts_of f (Reset domain place) s in' = inl in'

no_part : (f : ℕ → List ℕ) (s : ℕ) → Contains [] s ⊎ ((x : ExprId) × Contains [] x × Contains (f x.0) s) → Contains [] s
no_part f s (inl in') = in'
no_part f s (inr (x, in', h)) = absurd (omega (arith, in'.1))

of_one : (f : ℕ → List ℕ) (a : ExprId) (s : ℕ) → Contains [] s ⊎ ((x : ExprId) × Contains (a ∷ []) x × Contains (f x.0) s) → Contains (f a.0) s
of_one f a s (inl in') = absurd (omega (arith, in'.1))
of_one f a s (inr (x, in', h)) = elim (contains-cases a x [] in') [ inl same ↦ subst (λ (y : ExprId). Contains (f y.0) s) (sym same) h | inr none' ↦ absurd (omega (arith, none'.1)) ]

of_all : (f : ℕ → List ℕ) (es : List ExprId) (s : ℕ) → Contains [] s ⊎ ((x : ExprId) × Contains es x × Contains (f x.0) s) → Contains (flat_map (λ (e : ExprId). f e.0) es) s
of_all f es s (inl in') = absurd (omega (arith, in'.1))
of_all f es s (inr (x, in', h)) = flat_has (λ (e : ExprId). f e.0) es x s in' h

of_parts : (f : ℕ → List ℕ) (e : Expr) (s : ℕ) → IsOfParts f e s → Contains (signals_step f e) s
of_parts f (expr.TheVariants.Sig x) s (inl in') = in'
of_parts f (expr.TheVariants.Sig x) s (inr (y, in', h)) = absurd (omega (arith, in'.1))
of_parts f (Slice a low width) s h = of_one f a s h
of_parts f (Cat es) s h = of_all f es s h
of_parts f (Part a offset width stride) s h = of_one f a s h
of_parts f (Pick index es) s h = of_all f es s h
of_parts f (Cast a signed) s h = of_one f a s h
of_parts f (Const n form) s h = no_part f s h
of_parts f (Unary op a) s h = no_part f s h
of_parts f (Binary op a b) s h = no_part f s h
of_parts f (Mux x a b) s h = no_part f s h
of_parts f (Matches a patterns) s h = no_part f s h
of_parts f (Reset domain place) s h = no_part f s h

-- the parts of an expression are expressions that it names
parts_below : (k : ℕ) (e : Expr) → AllBelow k (named e) → AllBelow k (target_parts e)
parts_below k (Slice a low width) h = h
parts_below k (Cat es) h = h
parts_below k (Part a offset width stride) h = (h.0, tt)
parts_below k (Pick index es) h = h.1
parts_below k (Cast a signed) h = h
parts_below k (expr.TheVariants.Sig s) h = tt
parts_below k (Const n s) h = tt
parts_below k (Unary op a) h = tt
parts_below k (Binary op a b) h = tt
parts_below k (Mux s a b) h = tt
parts_below k (Matches a patterns) h = tt
parts_below k (Reset domain place) h = tt

below_part : (k : ℕ) (es : List ExprId) (x : ExprId) → AllBelow k es → Contains es x → x.0 < k
below_part k [] x h in' = absurd (omega (arith, in'.1))
below_part k (e ∷ es) x h in' = elim (contains-cases e x es in') [ inl same ↦ subst (λ (y : ExprId). y.0 < k) same h.0 | inr more ↦ below_part k es x h.1 more ]

below_more : (k n : ℕ) (es : List ExprId) → k < n → AllBelow k es → AllBelow n es
below_more k n [] less h = tt
below_more k n (e ∷ es) less h = (omega (arith, h.0, less), below_more k n es less h.1)

no_signals : (n : ℕ) → All (λ s. s < n) []
no_signals n k d in' = absurd (omega (arith, in'))

one_signal : (n s : ℕ) → s < n → All (λ k. k < n) (s ∷ [])
one_signal n s h zero d in' = h
one_signal n s h (suc k) d in' = absurd (omega (arith, in'))

own_inside : (sigs : List Sig) (form : ℕ → Form) (e : Expr) → IsInRange sigs form e → All (λ s. s < length sigs) (own_signals e)
own_inside sigs form (expr.TheVariants.Sig s) h = one_signal (length sigs) s.0 h
own_inside sigs form (Slice a low width) h = no_signals (length sigs)
own_inside sigs form (Cat es) h = no_signals (length sigs)
own_inside sigs form (Part a offset width stride) h = no_signals (length sigs)
own_inside sigs form (Pick index es) h = no_signals (length sigs)
own_inside sigs form (Cast a signed) h = no_signals (length sigs)
own_inside sigs form (Const n s) h = no_signals (length sigs)
own_inside sigs form (Unary op a) h = no_signals (length sigs)
own_inside sigs form (Binary op a b) h = no_signals (length sigs)
own_inside sigs form (Mux s a b) h = no_signals (length sigs)
own_inside sigs form (Matches a patterns) h = no_signals (length sigs)
own_inside sigs form (Reset domain place) h = no_signals (length sigs)

-- ---- from an expression to its parts

pub finds_same : (pool : Pooled) (exprs signals : List Bool) (below : ℕ) → FindsSame pool exprs signals below exprs signals below
finds_same pool exprs signals below = record { exprs_size = refl; signals_size = refl; into = λ s h. h; only = λ s h. h }

pub finds_then : (pool : Pooled) (e1 s1 : List Bool) (n1 : ℕ) (e2 s2 : List Bool) (n2 : ℕ) (e3 s3 : List Bool) (n3 : ℕ) → FindsSame pool e1 s1 n1 e2 s2 n2 → FindsSame pool e2 s2 n2 e3 s3 n3 → FindsSame pool e1 s1 n1 e3 s3 n3
finds_then pool e1 s1 n1 e2 s2 n2 e3 s3 n3 h k = record {
  exprs_size = k.exprs_size ∙ h.exprs_size;
  signals_size = k.signals_size ∙ h.signals_size;
  into = λ s f. k.into s (h.into s f);
  only = λ s f. h.only s (k.only s f);
}

lower : (pool : Pooled) (exprs : List Bool) (e s : ℕ) → (a : IsAimedAt pool exprs (e + 1) s) → (a.target ≡ e) ⊎ IsAimedAt pool exprs e s
lower pool exprs e s a = elim (cases_eq a.target e) [ inl same ↦ inl same | inr other ↦ inr (record { target = a.target; low = omega (arith, a.low, other); marked = a.marked; among = a.among }) ]

higher : (pool : Pooled) (exprs : List Bool) (e s : ℕ) → IsAimedAt pool exprs e s → IsAimedAt pool exprs (e + 1) s
higher pool exprs e s a = record { target = a.target; low = omega (arith, a.low); marked = a.marked; among = a.among }

-- an expression that is not marked
pub spread_none : (pool : Pooled) (exprs signals : List Bool) (e : ℕ) → is_marked exprs e ≡ false → FindsSame pool exprs signals (e + 1) exprs signals e
spread_none pool exprs signals e not_marked = record {
  exprs_size = refl;
  signals_size = refl;
  into = λ s h. elim h [
    | inl is ↦ inl is
    | inr a ↦ elim (lower pool exprs e s a) [ inl same ↦ absurd (false≢true (sym not_marked ∙ sym (ap (is_marked exprs) same) ∙ a.marked)) | inr more ↦ inr more ]
  ];
  only = λ s h. elim h [ inl is ↦ inl is | inr a ↦ inr (higher pool exprs e s a) ];
}

module _ (pool : Pooled) (rules : IsPool pool) (e : ℕ) (x : Expr) (at : slice_get pool.exprs e ≡ Some x) where
  own_of : (s : ℕ) → is_among (target_signals pool e) s ≡ true → IsOfParts (target_signals pool) x s
  own_of s h = parts_of (target_signals pool) x s (subst (λ ss. Contains ss s) (target_signals_is pool e x rules at) (among_of (target_signals pool e) s h))

  own_has : (s : ℕ) → IsOfParts (target_signals pool) x s → is_among (target_signals pool e) s ≡ true
  own_has s h = among_has (target_signals pool e) s (subst (λ ss. Contains ss s) (sym (target_signals_is pool e x rules at)) (of_parts (target_signals pool) x s h))

  module _ (exprs signals exprs' signals' : List Bool) (parts : IsMarked (numbers (target_parts x)) exprs exprs') (own : IsMarked (own_signals x) signals signals') where
    -- a signal of the expression is marked now, or a part of a marked expression below
    part_found : (s : ℕ) → IsOfParts (target_signals pool) x s → IsFound pool exprs' signals' e s
    part_found s (inl in') = inl (own.added s in')
    part_found s (inr (y, in', of)) =
        let below = below_part e (target_parts x) y (parts_below e x (standing pool e x rules at).names) in' in
        inr (record { target = y.0; low = below; marked = parts.added y.0 (map_has (λ (z : ExprId). z.0) (target_parts x) y in'); among = among_has (target_signals pool y.0) s of })

    spread_into : (s : ℕ) → IsFound pool exprs signals (e + 1) s → IsFound pool exprs' signals' e s
    spread_into s (inl is) = inl (own.kept s is)
    spread_into s (inr a) =
        elim (lower pool exprs e s a) [
          | inl same ↦ part_found s (own_of s (ap (λ k. is_among (target_signals pool k) s) (sym same) ∙ a.among))
          | inr more ↦ inr (record { target = more.target; low = more.low; marked = parts.kept more.target more.marked; among = more.among })
        ]

    here : is_marked exprs e ≡ true → (s : ℕ) → IsOfParts (target_signals pool) x s → IsFound pool exprs signals (e + 1) s
    here marked s h = inr (record { target = e; low = omega arith; marked = marked; among = own_has s h })

    spread_only : is_marked exprs e ≡ true → (s : ℕ) → IsFound pool exprs' signals' e s → IsFound pool exprs signals (e + 1) s
    spread_only marked s (inl is) = elim (own.only s is) [ inl before ↦ inl before | inr in' ↦ here marked s (inl in') ]
    spread_only marked s (inr a) =
        elim (parts.only a.target a.marked) [
          | inl before ↦ inr (record { target = a.target; low = omega (arith, a.low); marked = before; among = a.among })
          | inr in' ↦
              let found = map_of (λ (z : ExprId). z.0) (target_parts x) a.target in' in
              let among = among_of (target_signals pool found.0.0) s (ap (λ k. is_among (target_signals pool k) s) found.2 ∙ a.among) in
              here marked s (inr (found.0, found.1, among))
        ]

    -- an expression that is marked
    pub spread_one : is_marked exprs e ≡ true → FindsSame pool exprs signals (e + 1) exprs' signals' e
    spread_one marked = record { exprs_size = parts.size; signals_size = own.size; into = spread_into; only = spread_only marked }

  -- what is marked then is there
  pub parts_there : (count : ℕ) → e < count → AllBelow count (target_parts x)
  parts_there count there = below_more e count (target_parts x) there (parts_below e x (standing pool e x rules at).names)

  pub own_there : All (λ s. s < length pool.signals) (own_signals x)
  own_there = own_inside pool.signals (form pool) x (standing pool e x rules at).askable.parts

-- ---- the signals that statements drive

abbrev targeted : (ℕ → List ℕ) → List Guarded → List ℕ
targeted f gs = flat_map (λ (g : Guarded). f g.target.0) gs

mutual
  statement_drives : (f : ℕ → List ℕ) (gs : List Guard) (s : Statement) → targeted f (guarded_in gs s) ≡ flat_map f (statement_targets s)
  statement_drives f gs (assign t v p) = refl
  statement_drives f gs (choose arms) = arms_drive f gs arms

  arms_drive : (f : ℕ → List ℕ) (gs : List Guard) (arms : Choices) → targeted f (guarded_arms gs arms) ≡ flat_map f (choices_targets arms)
  arms_drive f gs none = refl
  arms_drive f gs (arm c body others) =
      let one = guarded (gs ++ record { condition = c; taken = true } ∷ []) body in
      let rest = guarded_arms (gs ++ record { condition = c; taken = false } ∷ []) others in
      flat_map-append (λ (g : Guarded). f g.target.0) one rest
      ∙ ap (λ xs. xs ++ targeted f rest) (block_drives f (gs ++ record { condition = c; taken = true } ∷ []) body)
      ∙ ap (λ xs. flat_map f (block_targets body) ++ xs) (arms_drive f (gs ++ record { condition = c; taken = false } ∷ []) others)
      ∙ sym (flat_map-append f (block_targets body) (choices_targets others))

  block_drives : (f : ℕ → List ℕ) (gs : List Guard) (b : Block) → targeted f (guarded gs b) ≡ flat_map f (block_targets b)
  block_drives f gs done = refl
  block_drives f gs (next s rest) =
      flat_map-append (λ (g : Guarded). f g.target.0) (guarded_in gs s) (guarded gs rest)
      ∙ ap (λ xs. xs ++ targeted f (guarded gs rest)) (statement_drives f gs s)
      ∙ ap (λ xs. flat_map f (statement_targets s) ++ xs) (block_drives f gs rest)
      ∙ sym (flat_map-append f (statement_targets s) (block_targets rest))

-- ---- all signals

comb_part_of : (p : DesignProcess) (d : Option DomainId) (t : ℕ) → p.domain ≡ d → Contains (if is_none d then block_targets p.body else []) t → (is_none p.domain ≡ true) × Contains (block_targets p.body) t
comb_part_of p None t is in' = (ap is_none is, in')
comb_part_of p (Some d) t is in' = absurd (omega (arith, in'.1))

comb_part_has : (p : DesignProcess) (d : Option DomainId) (t : ℕ) → is_none d ≡ true → Contains (block_targets p.body) t → Contains (if is_none d then block_targets p.body else []) t
comb_part_has p None t is in' = in'
comb_part_has p (Some d) t is in' = absurd (false≢true is)

comb_word_of : (r : MemRead) (d : Option (List ℕ)) (s : ℕ) → r.domain ≡ d → Contains (if is_none d then r.word.0 ∷ [] else []) s → (is_none r.domain && (r.word.0 == s)) ≡ true
comb_word_of r None s is in' =
    elim (contains-cases r.word.0 s [] in') [ inl same ↦ and_from (is_none r.domain) (r.word.0 == s) (ap is_none is) (eq-eqb r.word.0 s same) | inr none' ↦ absurd (omega (arith, none'.1)) ]
comb_word_of r (Some d) s is in' = absurd (omega (arith, in'.1))

comb_word_has : (r : MemRead) (d : Option (List ℕ)) (s : ℕ) → is_none d ≡ true → r.word.0 ≡ s → Contains (if is_none d then r.word.0 ∷ [] else []) s
comb_word_has r None s is same = subst (λ k. Contains (r.word.0 ∷ []) k) same (contains-head r.word.0 [])
comb_word_has r (Some d) s is same = absurd (false≢true is)

module _ (c : Circuit) (s : ℕ) where
  abbrev drives : DesignProcess → Bool
  drives p = is_none p.domain && is_among (driven c.pool p.body) s

  abbrev gives : MemRead → Bool
  gives r = is_none r.domain && (r.word.0 == s)

  abbrev holds : Memory → Bool
  holds m = list_any gives m.reads

  -- a target that drives the signal
  record IsDriven : Type 0 where
    target : ℕ
    stands : Contains (flat_map comb_targets c.processes) target
    among : is_among (target_signals c.pool target) s ≡ true

  driven_of : list_any drives c.processes ≡ true → IsDriven
  driven_of h =
      let found = any_of drives c.processes h in
      let p : DesignProcess = found.0 in
      let parts = and_parts (is_none p.domain) (is_among (driven c.pool p.body) s) found.2 in
      let in' : Contains (flat_map (target_signals c.pool) (block_targets p.body)) s = subst (λ ss. Contains ss s) (block_drives (target_signals c.pool) [] p.body) (among_of (driven c.pool p.body) s parts.1) in
      let t = flat_of (target_signals c.pool) (block_targets p.body) s in' in
      record { target = t.0; stands = flat_has comb_targets c.processes p t.0 found.1 (comb_part_has p p.domain t.0 parts.0 t.1); among = among_has (target_signals c.pool t.0) s t.2 }

  driven_has : IsDriven → list_any drives c.processes ≡ true
  driven_has h =
      let p = flat_of comb_targets c.processes h.target h.stands in
      let parts = comb_part_of p.0 p.0.domain h.target refl p.2 in
      let in' : Contains (driven c.pool p.0.body) s =
      subst (λ ss. Contains ss s) (sym (block_drives (target_signals c.pool) [] p.0.body)) (flat_has (target_signals c.pool) (block_targets p.0.body) h.target s parts.1 (among_of (target_signals c.pool h.target) s h.among)) in
      any_has drives c.processes p.0 p.1 (and_from (is_none p.0.domain) (is_among (driven c.pool p.0.body) s) parts.0 (among_has (driven c.pool p.0.body) s in'))

  given_of : list_any holds c.memories ≡ true → Contains (flat_map comb_words c.memories) s
  given_of h =
      let m = any_of holds c.memories h in
      let r = any_of gives m.0.reads m.2 in
      let parts = and_parts (is_none r.0.domain) (r.0.word.0 == s) r.2 in
      flat_has comb_words c.memories m.0 s m.1 (flat_has comb_word m.0.reads r.0 s r.1 (comb_word_has r.0 r.0.domain s parts.0 (eqb-true r.0.word.0 s parts.1)))

  given_has : Contains (flat_map comb_words c.memories) s → list_any holds c.memories ≡ true
  given_has in' =
      let m = flat_of comb_words c.memories s in' in
      let r = flat_of comb_word m.0.reads s m.2 in
      any_has holds c.memories m.0 m.1 (any_has gives m.0.reads r.0 r.1 (comb_word_of r.0 r.0.domain s refl r.2))

bool_same : (a b : Bool) → (a ≡ true → b ≡ true) → (b ≡ true → a ≡ true) → a ≡ b
bool_same true b into only = sym (into refl)
bool_same false true into only = only refl
bool_same false false into only = refl

pub all_comb : (c : Circuit) (e1 e2 s2 s3 : List Bool) → IsMarked (flat_map comb_targets c.processes) (replicate (length c.pool.exprs) false) e1
    → FindsSame c.pool e1 (replicate (length c.pool.signals) false) (length c.pool.exprs) e2 s2 0 → IsMarked (flat_map comb_words c.memories) s2 s3 → AreCombSignals c s3
all_comb c e1 e2 s2 s3 marked finds given =
    let into : (s : ℕ) → is_marked s3 s ≡ true → is_comb c s ≡ true =
    λ s h. elim (given.only s h) [
      | inl before ↦ elim (finds.only s (inl before)) [
        | inl fresh ↦ absurd (false≢true (sym (fresh_marks (length c.pool.signals) s) ∙ fresh))
        | inr a ↦
            let stands : Contains (flat_map comb_targets c.processes) a.target = elim (marked.only a.target a.marked) [ inl fresh ↦ absurd (false≢true (sym (fresh_marks (length c.pool.exprs) a.target) ∙ fresh)) | inr in' ↦ in' ] in
            or_left (list_any (drives c s) c.processes) (list_any (holds c s) c.memories) (driven_has c s (record { target = a.target; stands = stands; among = a.among }))
      ]
      | inr in' ↦ or_right (list_any (drives c s) c.processes) (list_any (holds c s) c.memories) (given_has c s in')
    ] in
    let only : (s : ℕ) → is_comb c s ≡ true → is_marked s3 s ≡ true =
    λ s h. elim (or_parts (list_any (drives c s) c.processes) (list_any (holds c s) c.memories) h) [
      | inl d ↦
          let x = driven_of c s d in
          let m = marked.added x.target x.stands in
          let low : x.target < length c.pool.exprs = omega (arith, marked_inside e1 x.target m, marked.size, length-replicate (length c.pool.exprs) false) in
          elim (finds.into s (inr (record { target = x.target; low = low; marked = m; among = x.among }))) [ inl is ↦ given.kept s is | inr a ↦ absurd (omega (arith, a.low)) ]
      | inr g ↦ given.added s (given_of c s g)
    ] in
    record {
      size = given.size ∙ finds.signals_size ∙ length-replicate (length c.pool.signals) false;
      each = λ s below. bool_same (is_marked s3 s) (is_comb c s) (into s) (only s);
    }

words_there : (c : Circuit) (m : Memory) (rs : List MemRead) → AllByRecursion (IsReadPort c m) rs → AllByRecursion (λ (r : MemRead). r.word.0 < length c.pool.signals) rs
words_there c m [] h = tt
words_there c m (r ∷ rs) h = (h.0.word.there, words_there c m rs h.1)

-- the data of a memory's read ports are signals
pub reads_there : (c : Circuit) (m : Memory) → IsMemory c m → AllByRecursion (λ (r : MemRead). r.word.0 < length c.pool.signals) m.reads
reads_there c m h = words_there c m m.reads h.reads
