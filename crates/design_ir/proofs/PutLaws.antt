-- What statements leave alone: the length of an environment, and the signals that they do not drive.
use Rattle.std.specs.Prelude.{◌≡◌, ◌≢◌, refl, ℕ, zero, suc, ◌+◌, ◌-◌, ◌*◌, ◌==◌, ◌||◌, ⊤, min, cond, Bool, true, false, IsTrue, List, [], ◌∷◌, ◌++◌, map, length, take, drop, replicate, slice_index_or, ℤ, pos, unsigned_abs, Option, Some, None, fold}
use Rattle.std.specs.List.{AllByRecursion, flat_map, list_all, range_with_len}
use Rattle.std.proofs.Common.{sym, ◌∙◌, ap}
use Rattle.std.proofs.lemmas.Bool.{eq-eqb, false≢true}
use Rattle.std.proofs.lemmas.List.{length-set, get_or-set_other}
use Rattle.amh_bits.specs.Patterns.{pattern, nat_bit}
use Rattle.shape_rules.specs.Forms.{Form}
use Rattle.shape_rules.specs.Operators.{is_zero}
use Rattle.design_ir.specs.declared.ids.ExprId.{ExprId}
use Rattle.design_ir.specs.declared.expr.Expr as expr
use Rattle.design_ir.specs.declared.expr.Expr.{Expr}
use Rattle.design_ir.specs.declared.expr.Expr.TheVariants.{Const, Unary, Binary, Mux, Slice, Cat, Part, Pick, Cast, Matches, Reset}
use Rattle.design_ir.specs.Trees.{Statement, assign, choose, Choices, none, arm, Block, done, next}
use Rattle.design_ir.specs.Pools.{Pooled}
use Rattle.design_ir.specs.Values.{form, num, signal_form, common_of_all}
use Rattle.design_ir.specs.Targets.{Bit, padded, target_step, target_bits, signals_step, target_signals}
use Rattle.design_ir.specs.Put.{put, put_statement, put_choices, put_number, put_bits, put_place}
use Rattle.design_ir.specs.Guards.{Guarded, guarded, driven}
use Rattle.design_ir.specs.Circuits.{at, is_among}
use Rattle.design_ir.proofs.Related.{related}
use Rattle.design_ir.proofs.GuardLaws.{holds, put_guarded, put_is}

-- ---- lengths

place_length : (pool : Pooled) (x : Option Bit) (b : ℕ) (cur : List ℤ) → length (put_place pool x b cur) ≡ length cur
place_length pool None b cur = refl
place_length pool (Some x) b cur = length-set cur x.sig _

bits_length : (pool : Pooled) (xs : List (Option Bit)) (v i : ℕ) (cur : List ℤ) → length (put_bits pool xs v i cur) ≡ length cur
bits_length pool [] v i cur = refl
bits_length pool (x ∷ xs) v i cur = bits_length pool xs v (i + 1) (put_place pool x (nat_bit v i) cur) ∙ place_length pool x (nat_bit v i) cur

choice_length : (t : Bool) (xs ys : List ℤ) (n : ℕ) → length xs ≡ n → length ys ≡ n → length (cond t xs ys) ≡ n
choice_length true xs ys n h k = h
choice_length false xs ys n h k = k

module _ (pool : Pooled) (env : List ℤ) where
  mutual
    statement_length : (s : Statement) (cur : List ℤ) → length (put_statement pool env s cur) ≡ length cur
    statement_length (assign t v p) cur = bits_length pool (target_bits pool env t.0) (pattern (length (target_bits pool env t.0)) (num pool env v.0)) 0 cur
    statement_length (choose arms) cur = choices_length arms cur

    choices_length : (arms : Choices) (cur : List ℤ) → length (put_choices pool env arms cur) ≡ length cur
    choices_length none cur = refl
    choices_length (arm c body others) cur =
        choice_length (is_zero (num pool env c.0)) (put_choices pool env others cur) (put pool env body cur) (length cur) (choices_length others cur) (put_length body cur)

    pub put_length : (b : Block) (cur : List ℤ) → length (put pool env b cur) ≡ length cur
    put_length done cur = refl
    put_length (next s rest) cur = put_length rest (put_statement pool env s cur) ∙ statement_length s cur

-- ---- the bits of a target are of its signals

-- a place is none, or a bit of one of these signals
abbrev pub IsWithin : List ℕ → Option Bit → Type 0
IsWithin ss None = ⊤
IsWithin ss (Some b) = IsTrue (is_among ss b.sig)

abbrev pub AreWithin : List (Option Bit) → List ℕ → Type 0
AreWithin places ss = AllByRecursion (IsWithin ss) places

or_left : (a b : Bool) → a ≡ true → (a || b) ≡ true
or_left true b e = refl
or_left false b e = absurd (false≢true e)

or_right : (a b : Bool) → b ≡ true → (a || b) ≡ true
or_right true b e = refl
or_right false b e = e

among_left : (xs ys : List ℕ) (s : ℕ) → is_among xs s ≡ true → is_among (xs ++ ys) s ≡ true
among_left [] ys s e = absurd (false≢true e)
among_left (x ∷ xs) ys s e = or_split (x == s) refl e (among_left xs ys s)
  where
    or_split : (t : Bool) → (x == s) ≡ t → (t || is_among xs s) ≡ true → (is_among xs s ≡ true → is_among (xs ++ ys) s ≡ true) → (t || is_among (xs ++ ys) s) ≡ true
    or_split true e h f = refl
    or_split false e h f = f h

among_right : (xs ys : List ℕ) (s : ℕ) → is_among ys s ≡ true → is_among (xs ++ ys) s ≡ true
among_right [] ys s e = e
among_right (x ∷ xs) ys s e = or_right (x == s) (is_among (xs ++ ys) s) (among_right xs ys s e)

within_left : (xs ys : List ℕ) (o : Option Bit) → IsWithin xs o → IsWithin (xs ++ ys) o
within_left xs ys None h = tt
within_left xs ys (Some b) h = among_left xs ys b.sig h

within_right : (xs ys : List ℕ) (o : Option Bit) → IsWithin ys o → IsWithin (xs ++ ys) o
within_right xs ys None h = tt
within_right xs ys (Some b) h = among_right xs ys b.sig h

all_imp : {A : Type 0} {P Q : A → Type 0} (f : (x : A) → P x → Q x) (xs : List A) → AllByRecursion P xs → AllByRecursion Q xs
all_imp f [] h = tt
all_imp f (x ∷ xs) h = (f x h.0, all_imp f xs h.1)

all_append : {A : Type 0} (P : A → Type 0) (xs ys : List A) → AllByRecursion P xs → AllByRecursion P ys → AllByRecursion P (xs ++ ys)
all_append P [] ys h k = k
all_append P (x ∷ xs) ys h k = (h.0, all_append P xs ys h.1 k)

all_take : {A : Type 0} (P : A → Type 0) (n : ℕ) (xs : List A) → AllByRecursion P xs → AllByRecursion P (take n xs)
all_take P zero [] h = tt
all_take P zero (x ∷ xs) h = tt
all_take P (suc n) [] h = tt
all_take P (suc n) (x ∷ xs) h = (h.0, all_take P n xs h.1)

all_drop : {A : Type 0} (P : A → Type 0) (n : ℕ) (xs : List A) → AllByRecursion P xs → AllByRecursion P (drop n xs)
all_drop P zero [] h = h
all_drop P zero (x ∷ xs) h = h
all_drop P (suc n) [] h = tt
all_drop P (suc n) (x ∷ xs) h = all_drop P n xs h.1

none_within : (ss : List ℕ) (n : ℕ) → AreWithin (replicate n None) ss
none_within ss zero = tt
none_within ss (suc n) = (tt, none_within ss n)

padded_within : (ss : List ℕ) (n : ℕ) (places : List (Option Bit)) → AreWithin places ss → AreWithin (padded n places) ss
padded_within ss n places h =
    all_take (IsWithin ss) n (places ++ replicate n None) (all_append (IsWithin ss) places (replicate n None) h (none_within ss n))

signal_within : (s : ℕ) (is : List ℕ) → AreWithin (map (λ b. Some b) (map (λ i. record { sig = s; index = i }) is)) (s ∷ [])
signal_within s [] = tt
signal_within s (i ∷ is) = (or_left (s == s) false (eq-eqb s s refl), signal_within s is)

module _ (f : ℕ → List (Option Bit)) (g : ℕ → List ℕ) (h : (k : ℕ) → AreWithin (f k) (g k)) where
  all_within : (es : List ExprId) → AreWithin (flat_map (λ (e : ExprId). f e.0) es) (flat_map (λ (e : ExprId). g e.0) es)
  all_within [] = tt
  all_within (e ∷ es) =
      all_append (IsWithin (flat_map (λ (e : ExprId). g e.0) (e ∷ es))) (f e.0) (flat_map (λ (e : ExprId). f e.0) es)
      (all_imp (within_left (g e.0) (flat_map (λ (e : ExprId). g e.0) es)) (f e.0) (h e.0))
      (all_imp (within_right (g e.0) (flat_map (λ (e : ExprId). g e.0) es)) (flat_map (λ (e : ExprId). f e.0) es) (all_within es))

  item_within : (es : List ExprId) (k : ℕ) → AreWithin (slice_index_or (map (λ (e : ExprId). f e.0) es) k []) (flat_map (λ (e : ExprId). g e.0) es)
  item_within [] k = tt
  item_within (e ∷ es) zero = all_imp (within_left (g e.0) (flat_map (λ (e : ExprId). g e.0) es)) (f e.0) (h e.0)
  item_within (e ∷ es) (suc k) = all_imp (within_right (g e.0) (flat_map (λ (e : ExprId). g e.0) es)) (slice_index_or (map (λ (e : ExprId). f e.0) es) k []) (item_within es k)

module _ (sig_form forms : ℕ → Form) (nums : ℕ → ℤ) where
  step_within : (f : ℕ → List (Option Bit)) (g : ℕ → List ℕ) (e : Expr) → ((k : ℕ) → AreWithin (f k) (g k)) → AreWithin (target_step sig_form forms nums f e) (signals_step g e)
  step_within f g (Const n s) h = tt
  step_within f g (expr.TheVariants.Sig s) h = signal_within s.0 (range_with_len 0 (sig_form s.0).width)
  step_within f g (Unary op a) h = tt
  step_within f g (Binary op a b) h = tt
  step_within f g (Mux s a b) h = tt
  step_within f g (Slice a low width) h = all_take (IsWithin (g a.0)) width (drop low (f a.0)) (all_drop (IsWithin (g a.0)) low (f a.0) (h a.0))
  step_within f g (Cat es) h = all_within f g h es
  step_within f g (Part a offset width stride) h =
      padded_within (g a.0) width _ (all_drop (IsWithin (g a.0)) (unsigned_abs (nums offset.0) * stride) (f a.0) (h a.0))
  step_within f g (Pick index es) h =
      padded_within (flat_map (λ (e : ExprId). g e.0) es) (common_of_all forms es).width _ (item_within f g h es (min (unsigned_abs (nums index.0)) (length (map (λ (e : ExprId). f e.0) es) - 1)))
  step_within f g (Cast a signed) h = h a.0
  step_within f g (Matches a patterns) h = tt
  step_within f g (Reset domain place) h = tt

pub target_within : (pool : Pooled) (env : List ℤ) (k : ℕ) → AreWithin (target_bits pool env k) (target_signals pool k)
unfolding target_bits target_signals
target_within pool env k =
    related [] [] (target_step (signal_form pool.signals) (form pool) (num pool env)) signals_step AreWithin tt (step_within (signal_form pool.signals) (form pool) (num pool env)) pool.exprs k

-- ---- a signal that is not among these keeps its number

pub apart : (ss : List ℕ) (s t : ℕ) → is_among ss s ≡ false → is_among ss t ≡ true → s ≢ t
apart ss s t e f same = false≢true (sym e ∙ ap (is_among ss) same ∙ f)

place_other : (pool : Pooled) (ss : List ℕ) (s : ℕ) (x : Option Bit) (b : ℕ) (cur : List ℤ) → is_among ss s ≡ false → IsWithin ss x → at (put_place pool x b cur) s ≡ at cur s
place_other pool ss s None b cur e h = refl
place_other pool ss s (Some x) b cur e h = get_or-set_other cur x.sig s _ (pos 0) (apart ss s x.sig e h)

bits_other : (pool : Pooled) (ss : List ℕ) (s : ℕ) (xs : List (Option Bit)) (v i : ℕ) (cur : List ℤ) → is_among ss s ≡ false → AreWithin xs ss → at (put_bits pool xs v i cur) s ≡ at cur s
bits_other pool ss s [] v i cur e h = refl
bits_other pool ss s (x ∷ xs) v i cur e h =
    bits_other pool ss s xs v (i + 1) (put_place pool x (nat_bit v i) cur) e h.1 ∙ place_other pool ss s x (nat_bit v i) cur e h.0

choice_at : (t : Bool) (xs ys : List ℤ) (s : ℕ) (n : ℤ) → at xs s ≡ n → at ys s ≡ n → at (cond t xs ys) s ≡ n
choice_at true xs ys s n h k = h
choice_at false xs ys s n h k = k

pub among_parts : (xs ys : List ℕ) (s : ℕ) → is_among (xs ++ ys) s ≡ false → (is_among xs s ≡ false) × (is_among ys s ≡ false)
among_parts [] ys s e = (refl, e)
among_parts (x ∷ xs) ys s e = first (x == s) refl e (among_parts xs ys s)
  where
    first : (t : Bool) → (x == s) ≡ t → (t || is_among (xs ++ ys) s) ≡ false → (is_among (xs ++ ys) s ≡ false → (is_among xs s ≡ false) × (is_among ys s ≡ false)) → ((t || is_among xs s) ≡ false) × (is_among ys s ≡ false)
    first true e h f = absurd (false≢true (sym h))
    first false e h f = f h

guarded_other : (pool : Pooled) (env : List ℤ) (s : ℕ) (gs : List Guarded) (cur : List ℤ) → is_among (flat_map (λ (g : Guarded). target_signals pool g.target.0) gs) s ≡ false → at (fold (put_guarded pool env) cur gs) s ≡ at cur s
guarded_other pool env s [] cur e = refl
guarded_other pool env s (g ∷ gs) cur e =
    let split = among_parts (target_signals pool g.target.0) (flat_map (λ (g : Guarded). target_signals pool g.target.0) gs) s e in
    let places : List (Option Bit) = target_bits pool env g.target.0 in
    guarded_other pool env s gs (put_guarded pool env cur g) split.1
    ∙ choice_at (list_all (holds pool env) g.guards) (put_number pool places (num pool env g.value.0) cur) cur s (at cur s)
    (bits_other pool (target_signals pool g.target.0) s places (pattern (length places) (num pool env g.value.0)) 0 cur split.0 (target_within pool env g.target.0)) refl

-- statements change only the signals that they drive
pub put_other : (pool : Pooled) (env : List ℤ) (b : Block) (cur : List ℤ) (s : ℕ) → is_among (driven pool b) s ≡ false → at (put pool env b cur) s ≡ at cur s
put_other pool env b cur s e = ap (λ x. at x s) (put_is pool env b cur) ∙ guarded_other pool env s (guarded [] b) cur e
