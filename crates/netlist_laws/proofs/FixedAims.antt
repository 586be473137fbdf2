-- A fixed target aims at each of its places from the bit of the value at that place.
use Rattle.std.specs.Prelude.{◌≡◌, refl, ℕ, zero, suc, ◌+◌, ◌-◌, ◌<◌, ◌≤◌, nat_le, nat_lt, Bool, true, false, List, [], ◌∷◌, ◌++◌, map, length, take, drop, slice_get, Option, Some, None}
use Rattle.std.specs.List.{AllByRecursion, flat_map, filter_map, cons_option, list_all, range_with_len}
use Rattle.std.proofs.Common.{sym, ◌∙◌, ap, arith, subst, ⊎_elim, inl, inr}
use Rattle.std.proofs.lemmas.Bool.{false≢true, and_parts, cases_lt, lt-ltb, le-leb}
use Rattle.std.proofs.lemmas.List.{length-map}
use Rattle.shape_rules.specs.Forms.{Form}
use Rattle.design_ir.specs.declared.ids.ExprId.{ExprId}
use Rattle.design_ir.specs.declared.expr.Expr.{Expr}
use Rattle.design_ir.specs.declared.expr.Expr.TheVariants as expr
use Rattle.design_ir.specs.Named.{named, AllBelow}
use Rattle.design_ir.specs.Pools.{Pooled}
use Rattle.design_ir.specs.PoolRules.{IsPool}
use Rattle.design_ir.specs.Values.{form, signal_form}
use Rattle.design_ir.specs.Targets.{Bit, numbers, fixed, Aim, raised, within, aims_of_all, aim_at, aim_step, aims}
use Rattle.design_ir.proofs.Congruence.{AreSame, same_below}
use Rattle.design_ir.proofs.AimSteps.{aims_is}
use Rattle.design_ir.proofs.Equations.{standing, answer_at}
use Rattle.design_ir.proofs.NumbersFit.{element}
use Rattle.design_ir.proofs.TargetLaws.{target_length}
use Rattle.rtlil_text.proofs.Among.{Among, Among-left, Among-right, Among-map}
use Rattle.netlist_laws.proofs.Places.{slice_get-append_left, slice_get-append_right}
use Rattle.design_ir.specs.Fixed.{fixed_step, is_fixed}
use Rattle.netlist_laws.specs.Latest.{places_step, places}
use Rattle.flat_design.proofs.FixedTargets.{is_target-fixed}
use Rattle.netlist_laws.proofs.FixedTargets.{target_bits-fixed}

-- ---- places and aims are decided by those of the expressions that are named

all_same : (f g : ℕ → Bool) (es : List ExprId) → AreSame f g es → list_all (λ (e : ExprId). f e.0) es ≡ list_all (λ (e : ExprId). g e.0) es
all_same f g [] h = refl
all_same f g (e ∷ es) h = let a = h.0 in let b = all_same f g es h.1 in cc

flat_same : (f g : ℕ → List Bit) (es : List ExprId) → AreSame f g es → flat_map (λ (e : ExprId). f e.0) es ≡ flat_map (λ (e : ExprId). g e.0) es
flat_same f g [] h = refl
flat_same f g (e ∷ es) h = let a = h.0 in let b = flat_same f g es h.1 in cc

module _ (sig_form : ℕ → Form) where
  places_same : (f g : ℕ → List Bit) (e : Expr) → AreSame f g (named e) → places_step sig_form f e ≡ places_step sig_form g e
  places_same f g (expr.Const n s) h = refl
  places_same f g (expr.Sig s) h = refl
  places_same f g (expr.Unary op a) h = refl
  places_same f g (expr.Binary op a b) h = refl
  places_same f g (expr.Mux s a b) h = refl
  places_same f g (expr.Slice a low width) h = ap (λ xs. take width (drop low xs)) h.0
  places_same f g (expr.Cat es) h = flat_same f g es h
  places_same f g (expr.Part a offset width stride) h = refl
  places_same f g (expr.Pick index es) h = refl
  places_same f g (expr.Cast a signed) h = h.0
  places_same f g (expr.Matches a patterns) h = refl
  places_same f g (expr.Reset domain place) h = refl

fixed_same : (f g : ℕ → Bool) (e : Expr) → AreSame f g (named e) → fixed_step f e ≡ fixed_step g e
fixed_same f g (expr.Const n s) h = refl
fixed_same f g (expr.Sig s) h = refl
fixed_same f g (expr.Unary op a) h = refl
fixed_same f g (expr.Binary op a b) h = refl
fixed_same f g (expr.Mux s a b) h = refl
fixed_same f g (expr.Slice a low width) h = h.0
fixed_same f g (expr.Cat es) h = all_same f g es h
fixed_same f g (expr.Part a offset width stride) h = refl
fixed_same f g (expr.Pick index es) h = refl
fixed_same f g (expr.Cast a signed) h = h.0
fixed_same f g (expr.Matches a patterns) h = refl
fixed_same f g (expr.Reset domain place) h = refl

-- ---- places in lists

signal_aimed : (s a n j : ℕ) (b : Bit) → slice_get (map (λ i. record { sig = s; index = i }) (range_with_len a n)) j ≡ Some b
    → Among (map (aim_at s) (range_with_len a n)) (record { bit = b; spot = fixed (a + j) })
signal_aimed s a zero j b e = cc
signal_aimed s a (suc n) zero b e =
    let same : record { sig = s; index = a } ≡ b = cc in
    let here : a ≡ a + 0 = omega arith in
    inl (λ i. record { bit = same i; spot = fixed (here i) })
signal_aimed s a (suc n) (suc j) b e =
    let next : (a + 1) + j ≡ a + suc j = omega arith in
    inr (subst (λ k. Among (map (aim_at s) (range_with_len (a + 1) n)) (record { bit = b; spot = fixed k })) next (signal_aimed s (a + 1) n j b e))

taken : {A : Type 0} (width : ℕ) (xs : List A) (j : ℕ) (x : A) → slice_get (take width xs) j ≡ Some x → (j < width) × (slice_get xs j ≡ Some x)
taken zero [] j x e = cc
taken zero (y ∷ xs) j x e = cc
taken (suc width) [] j x e = cc
taken (suc width) (y ∷ xs) zero x e = (omega arith, e)
taken (suc width) (y ∷ xs) (suc j) x e = let r = taken width xs j x e in (omega (arith, r.0), r.1)

dropped : {A : Type 0} (low : ℕ) (xs : List A) (j : ℕ) → slice_get (drop low xs) j ≡ slice_get xs (low + j)
dropped zero [] j = refl
dropped zero (y ∷ xs) j = let e : j ≡ 0 + j = omega arith in ap (slice_get (y ∷ xs)) e
dropped (suc low) [] j = refl
dropped (suc low) (y ∷ xs) j = dropped low xs j ∙ (let e : suc (low + j) ≡ suc low + j = omega arith in ap (slice_get (y ∷ xs)) e)

among_filtered : {A B : Type 0} (f : A → Option B) (xs : List A) (a : A) (b : B) → Among xs a → f a ≡ Some b → Among (filter_map f xs) b
among_filtered f [] a b h e = absurd h
among_filtered {A} {B} f (x ∷ xs) a b h e = ⊎_elim (λ (same : x ≡ a). here (f x) (ap f same ∙ e)) (λ (more : Among xs a). there (f x) (among_filtered f xs a b more e)) h
  where
    here : (o : Option B) → o ≡ Some b → Among (cons_option o (filter_map f xs)) b
    here None e = cc
    here (Some y) e = inl cc

    there : (o : Option B) → Among (filter_map f xs) b → Among (cons_option o (filter_map f xs)) b
    there None h = h
    there (Some y) h = inr h

-- an aim in a slice
sliced : (low width j : ℕ) (b : Bit) → j < width → within low width (record { bit = b; spot = fixed (low + j) }) ≡ Some (record { bit = b; spot = fixed j })
sliced low width j b l =
    let from : nat_le low (low + j) ≡ true = le-leb low (low + j) (omega arith) in
    let to : nat_lt (low + j) (low + width) ≡ true = lt-ltb (low + j) (low + width) (omega (arith, l)) in
    let back : (low + j) - low ≡ j = omega arith in
    rw (from, to, back) refl

-- ---- the expressions of a pool

module _ (p : Pooled) (rules : IsPool p) where
  fixed_is : (k : ℕ) (e : Expr) → slice_get p.exprs k ≡ Some e → is_fixed p k ≡ fixed_step (is_fixed p) e
  unfolding is_fixed
  fixed_is k e is = answer_at false fixed_step p.exprs k e is (λ f g same. fixed_same f g e (same_below f g k (named e) same (standing p k e rules is).names))

  places_is : (k : ℕ) (e : Expr) → slice_get p.exprs k ≡ Some e → places p k ≡ places_step (signal_form p.signals) (places p) e
  unfolding places
  places_is k e is =
      answer_at [] (places_step (signal_form p.signals)) p.exprs k e is (λ f g same. places_same (signal_form p.signals) f g e (same_below f g k (named e) same (standing p k e rules is).names))

  -- so many places as bits
  places_long : (e : ExprId) → e.0 < length p.exprs → is_fixed p e.0 ≡ true → length (places p e.0) ≡ (form p e.0).width
  places_long e there firm =
      sym (ap length (target_bits-fixed p [] e.0 firm) ∙ length-map (places p e.0) (λ b. Some b)) ∙ target_length p [] rules e there (is_target-fixed p e.0 firm)

  -- each place of these is aimed at
  abbrev AreAimed : List Bit → List Aim → Type 0
  AreAimed bits list = (j : ℕ) (b : Bit) → slice_get bits j ≡ Some b → Among list (record { bit = b; spot = fixed j })

  record IsAimed (e : ExprId) : Type 0 where
    there : e.0 < length p.exprs
    aimed : is_fixed p e.0 ≡ true → AreAimed (places p e.0) (aims p e.0)

  joined_aimed : (es : List ExprId) → AllByRecursion IsAimed es → list_all (λ (e : ExprId). is_fixed p e.0) es ≡ true → (low j : ℕ) (b : Bit) → slice_get (flat_map (λ (e : ExprId). places p e.0) es) j ≡ Some b
      → Among (aims_of_all (form p) (aims p) low es) (record { bit = b; spot = fixed (low + j) })
  joined_aimed [] h t low j b e = cc
  joined_aimed (x ∷ es) h t low j b e =
      let parts = and_parts (is_fixed p x.0) (list_all (λ (y : ExprId). is_fixed p y.0) es) t in
      let own : List Bit = places p x.0 in
      let others : List Bit = flat_map (λ (y : ExprId). places p y.0) es in
      let w : ℕ = (form p x.0).width in
      let wide : length own ≡ w = places_long x h.0.there parts.0 in
      let mine : List Aim = map (raised low) (aims p x.0) in
      let rest : List Aim = aims_of_all (form p) (aims p) (low + w) es in
      ⊎_elim
      (λ (l : j < length own).
      Among-left mine rest (record { bit = b; spot = fixed (low + j) })
      (Among-map (raised low) (aims p x.0) (record { bit = b; spot = fixed j }) (h.0.aimed parts.0 j b (sym (slice_get-append_left own others j l) ∙ e))))
      (λ (le : length own ≤ j).
      let d : length own + (j - length own) ≡ j = omega arith in
      let n : (low + w) + (j - length own) ≡ low + j = omega (arith, wide) in
      Among-right mine rest (record { bit = b; spot = fixed (low + j) })
      (subst (λ k. Among rest (record { bit = b; spot = fixed k })) n
      (joined_aimed es h.1 parts.1 (low + w) (j - length own) b (sym (slice_get-append_right own others (j - length own)) ∙ ap (slice_get (own ++ others)) d ∙ e))))
      (cases_lt j (length own))

  step_aimed : (e : Expr) → AllByRecursion IsAimed (named e) → fixed_step (is_fixed p) e ≡ true → AreAimed (places_step (signal_form p.signals) (places p) e) (aim_step (signal_form p.signals) (form p) (numbers p) (aims p) e)
  step_aimed (expr.Const n s) h t = absurd (false≢true t)
  step_aimed (expr.Sig s) h t = λ j b e.
      let d : 0 + j ≡ j = omega arith in
      let w : ℕ = (signal_form p.signals s.0).width in
      subst (λ k. Among (map (aim_at s.0) (range_with_len 0 w)) (record { bit = b; spot = fixed k })) d (signal_aimed s.0 0 w j b e)
  step_aimed (expr.Unary op a) h t = absurd (false≢true t)
  step_aimed (expr.Binary op a b) h t = absurd (false≢true t)
  step_aimed (expr.Mux s a b) h t = absurd (false≢true t)
  step_aimed (expr.Slice a low width) h t = λ j b e.
      let r = taken width (drop low (places p a.0)) j b e in
      among_filtered (within low width) (aims p a.0) (record { bit = b; spot = fixed (low + j) }) (record { bit = b; spot = fixed j })
      (h.0.aimed t (low + j) b (sym (dropped low (places p a.0) j) ∙ r.1)) (sliced low width j b r.0)
  step_aimed (expr.Cat es) h t = λ j b e.
      let d : 0 + j ≡ j = omega arith in
      subst (λ k. Among (aims_of_all (form p) (aims p) 0 es) (record { bit = b; spot = fixed k })) d (joined_aimed es h t 0 j b e)
  step_aimed (expr.Part a offset width stride) h t = absurd (false≢true t)
  step_aimed (expr.Pick index es) h t = absurd (false≢true t)
  step_aimed (expr.Cast a signed) h t = h.0.aimed t
  step_aimed (expr.Matches a patterns) h t = absurd (false≢true t)
  step_aimed (expr.Reset domain place) h t = absurd (false≢true t)

  all_below : (k : ℕ) (es : List ExprId) → AllBelow k es → ((e : ExprId) → e.0 < k → IsAimed e) → AllByRecursion IsAimed es
  all_below k [] h each = tt
  all_below k (e ∷ es) h each = (each e h.0, all_below k es h.1 each)

  up_to : (n : ℕ) (e : ExprId) → e.0 < n → e.0 < length p.exprs → IsAimed e
  up_to zero e below there = absurd (omega (arith, below))
  up_to (suc n) e below there =
      let x = element p.exprs e.0 there in
      let stands = standing p e.0 x.0 rules x.1 in
      let earlier = all_below e.0 (named x.0) stands.names (λ a lt. up_to n a (omega (arith, below, lt)) (omega (arith, there, lt))) in
      record {
        there = there;
        aimed = λ t. rw (places_is e.0 x.0 x.1, aims_is p e.0 x.0 rules x.1) (step_aimed x.0 earlier (sym (fixed_is e.0 x.0 x.1) ∙ t));
      }

  pub fixed_aims : (e : ExprId) (j : ℕ) (b : Bit) → e.0 < length p.exprs → is_fixed p e.0 ≡ true → slice_get (places p e.0) j ≡ Some b → Among (aims p e.0) (record { bit = b; spot = fixed j })
  fixed_aims e j b there firm is = (up_to (suc e.0) e (omega arith) there).aimed firm j b is
