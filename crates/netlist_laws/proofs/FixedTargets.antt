-- A fixed target stands for the same bits in every environment: bits of its signals, each within its signal.
use Rattle.std.specs.Prelude.{◌≡◌, refl, ℕ, zero, suc, ◌+◌, ◌<◌, ◌≤◌, Bool, true, false, IsTrue, ⊤, List, [], ◌∷◌, ◌++◌, map, take, drop, ℤ, Option, Some, slice_index_or}
use Rattle.std.specs.List.{AllByRecursion, flat_map, list_all, range_with_len}
use Rattle.std.proofs.Common.{sym, ◌∙◌, ap, arith}
use Rattle.std.proofs.lemmas.Bool.{false≢true, and_parts}
use Rattle.std.proofs.lemmas.List.{map-append, take-map, drop-map}
use Rattle.shape_rules.specs.Forms.{Form}
use Rattle.design_ir.specs.declared.ids.ExprId.{ExprId}
use Rattle.design_ir.specs.declared.expr.Expr.{Expr}
use Rattle.design_ir.specs.declared.expr.Expr.TheVariants as expr
use Rattle.design_ir.specs.Pools.{Pooled, answers}
use Rattle.design_ir.specs.Values.{form, num, signal_form}
use Rattle.design_ir.specs.Targets.{Bit, target_step, target_bits, signals_step, target_signals}
use Rattle.design_ir.specs.Circuits.{is_among}
use Rattle.design_ir.proofs.Related.{related}
use Rattle.design_ir.proofs.PutLaws.{AreWithin, target_within}
use Rattle.design_ir.specs.Fixed.{fixed_step, is_fixed}
use Rattle.netlist_laws.specs.Latest.{places_step, places}

-- ---- the same bits in every environment

-- the bits, where the target is fixed, are these places
abbrev AreThese : Bool → List (Option Bit) → List Bit → Type 0
AreThese fixed bits places = fixed ≡ true → bits ≡ map (λ b. Some b) places

abbrev Triples : List Bool → List (List (Option Bit)) → List (List Bit) → Type 0
Triples [] [] [] = ⊤
Triples (a ∷ ts) (b ∷ bs) (c ∷ cs) = AreThese a b c × Triples ts bs cs
Triples [] [] (c ∷ cs) = ⊥
Triples [] (b ∷ bs) cs = ⊥
Triples (a ∷ ts) [] cs = ⊥
Triples (a ∷ ts) (b ∷ bs) [] = ⊥

triples_get : (ts : List Bool) (bs : List (List (Option Bit))) (cs : List (List Bit)) (k : ℕ) → Triples ts bs cs → AreThese (slice_index_or ts k false) (slice_index_or bs k []) (slice_index_or cs k [])
triples_get [] [] [] k h = λ e. absurd (false≢true e)
triples_get (a ∷ ts) (b ∷ bs) (c ∷ cs) zero h = h.0
triples_get (a ∷ ts) (b ∷ bs) (c ∷ cs) (suc k) h = triples_get ts bs cs k h.1
triples_get [] [] (c ∷ cs) k h = absurd h
triples_get [] (b ∷ bs) cs k h = absurd h
triples_get (a ∷ ts) [] cs k h = absurd h
triples_get (a ∷ ts) (b ∷ bs) [] k h = absurd h

triples_more : (ts : List Bool) (bs : List (List (Option Bit))) (cs : List (List Bit)) (a : Bool) (b : List (Option Bit)) (c : List Bit) → Triples ts bs cs → AreThese a b c → Triples (ts ++ a ∷ []) (bs ++ b ∷ []) (cs ++ c ∷ [])
triples_more [] [] [] a b c h r = (r, tt)
triples_more (x ∷ ts) (y ∷ bs) (z ∷ cs) a b c h r = (h.0, triples_more ts bs cs a b c h.1 r)
triples_more [] [] (z ∷ cs) a b c h r = absurd h
triples_more [] (y ∷ bs) cs a b c h r = absurd h
triples_more (x ∷ ts) [] cs a b c h r = absurd h
triples_more (x ∷ ts) (y ∷ bs) [] a b c h r = absurd h

module _ (sig_form forms : ℕ → Form) (nums : ℕ → ℤ) where
  all_these : (f : ℕ → Bool) (g : ℕ → List (Option Bit)) (h : ℕ → List Bit) → ((k : ℕ) → AreThese (f k) (g k) (h k)) → (es : List ExprId)
      → list_all (λ (e : ExprId). f e.0) es ≡ true → flat_map (λ (e : ExprId). g e.0) es ≡ map (λ b. Some b) (flat_map (λ (e : ExprId). h e.0) es)
  all_these f g h each [] t = refl
  all_these f g h each (e ∷ es) t =
      let p = and_parts (f e.0) (list_all (λ (x : ExprId). f x.0) es) t in
      let first : g e.0 ≡ map (λ b. Some b) (h e.0) = each e.0 p.0 in
      let others : flat_map (λ (x : ExprId). g x.0) es ≡ map (λ b. Some b) (flat_map (λ (x : ExprId). h x.0) es) = all_these f g h each es p.1 in
      ap (λ xs. xs ++ flat_map (λ (x : ExprId). g x.0) es) first
      ∙ ap (λ ys. map (λ b. Some b) (h e.0) ++ ys) others
      ∙ sym (map-append (λ b. Some b) (h e.0) (flat_map (λ (x : ExprId). h x.0) es))

  sliced_these : (low width : ℕ) (xs : List (Option Bit)) (ys : List Bit) → xs ≡ map (λ b. Some b) ys → take width (drop low xs) ≡ map (λ b. Some b) (take width (drop low ys))
  sliced_these low width xs ys e =
      ap (λ zs. take width (drop low zs)) e ∙ ap (take width) (drop-map (λ b. Some b) low ys) ∙ take-map (λ b. Some b) width (drop low ys)

  step_these : (f : ℕ → Bool) (g : ℕ → List (Option Bit)) (h : ℕ → List Bit) → ((k : ℕ) → AreThese (f k) (g k) (h k)) → (e : Expr)
      → AreThese (fixed_step f e) (target_step sig_form forms nums g e) (places_step sig_form h e)
  step_these f g h each (expr.Const n s) = λ t. refl
  step_these f g h each (expr.Sig s) = λ t. refl
  step_these f g h each (expr.Unary op a) = λ t. refl
  step_these f g h each (expr.Binary op a b) = λ t. refl
  step_these f g h each (expr.Mux s a b) = λ t. refl
  step_these f g h each (expr.Slice a low width) = λ t. sliced_these low width (g a.0) (h a.0) (each a.0 t)
  step_these f g h each (expr.Cat es) = λ t. all_these f g h each es t
  step_these f g h each (expr.Part a offset width stride) = λ t. absurd (false≢true t)
  step_these f g h each (expr.Pick index es) = λ t. absurd (false≢true t)
  step_these f g h each (expr.Cast a signed) = λ t. each a.0 t
  step_these f g h each (expr.Matches a patterns) = λ t. refl
  step_these f g h each (expr.Reset domain place) = λ t. refl

  answers_these : (ts : List Bool) (bs : List (List (Option Bit))) (cs : List (List Bit)) (es : List Expr) → Triples ts bs cs
      → Triples (answers false fixed_step ts es) (answers [] (target_step sig_form forms nums) bs es) (answers [] (places_step sig_form) cs es)
  answers_these ts bs cs [] h = h
  answers_these ts bs cs (e ∷ es) h =
      answers_these (ts ++ fixed_step (λ k. slice_index_or ts k false) e ∷ []) (bs ++ target_step sig_form forms nums (λ k. slice_index_or bs k []) e ∷ []) (cs ++ places_step sig_form (λ k. slice_index_or cs k []) e ∷ []) es
      (triples_more ts bs cs _ _ _ h (step_these (λ k. slice_index_or ts k false) (λ k. slice_index_or bs k []) (λ k. slice_index_or cs k []) (λ k. triples_get ts bs cs k h) e))

pub target_bits-fixed : (pool : Pooled) (env : List ℤ) (k : ℕ) → is_fixed pool k ≡ true → target_bits pool env k ≡ map (λ b. Some b) (places pool k)
unfolding target_bits is_fixed places
target_bits-fixed pool env k t =
    let step = target_step (signal_form pool.signals) (form pool) (num pool env) in
    triples_get (answers false fixed_step [] pool.exprs) (answers [] step [] pool.exprs) (answers [] (places_step (signal_form pool.signals)) [] pool.exprs) k
    (answers_these (signal_form pool.signals) (form pool) (num pool env) [] [] [] pool.exprs tt) t

-- ---- each within its signal

-- the bit is one of its signal
abbrev pub IsInside : (ℕ → Form) → Bit → Type 0
IsInside sig_form b = b.index < (sig_form b.sig).width

all_append : {A : Type 0} (P : A → Type 0) (xs ys : List A) → AllByRecursion P xs → AllByRecursion P ys → AllByRecursion P (xs ++ ys)
all_append P [] ys h k = k
all_append P (x ∷ xs) ys h k = (h.0, all_append P xs ys h.1 k)

all_take : {A : Type 0} (P : A → Type 0) (n : ℕ) (xs : List A) → AllByRecursion P xs → AllByRecursion P (take n xs)
all_take P zero [] h = tt
all_take P zero (x ∷ xs) h = tt
all_take P (suc n) [] h = tt
all_take P (suc n) (x ∷ xs) h = (h.0, all_take P n xs h.1)

all_drop : {A : Type 0} (P : A → Type 0) (n : ℕ) (xs : List A) → AllByRecursion P xs → AllByRecursion P (drop n xs)
all_drop P zero [] h = h
all_drop P zero (x ∷ xs) h = h
all_drop P (suc n) [] h = tt
all_drop P (suc n) (x ∷ xs) h = all_drop P n xs h.1

module _ (sig_form : ℕ → Form) where
  signal_inside : (s low width : ℕ) → low + width ≤ (sig_form s).width → AllByRecursion (IsInside sig_form) (map (λ i. record { sig = s; index = i }) (range_with_len low width))
  signal_inside s low zero h = tt
  signal_inside s low (suc width) h = (omega (arith, h), signal_inside s (low + 1) width (omega (arith, h)))

  all_inside : (f : ℕ → List Bit) → ((k : ℕ) → AllByRecursion (IsInside sig_form) (f k)) → (es : List ExprId) → AllByRecursion (IsInside sig_form) (flat_map (λ (e : ExprId). f e.0) es)
  all_inside f each [] = tt
  all_inside f each (e ∷ es) = all_append (IsInside sig_form) (f e.0) (flat_map (λ (x : ExprId). f x.0) es) (each e.0) (all_inside f each es)

  -- what these are read of plays no part
  abbrev Inside : List ℕ → List Bit → Type 0
  Inside ss bs = AllByRecursion (IsInside sig_form) bs

  step_inside : (g : ℕ → List ℕ) (f : ℕ → List Bit) (e : Expr) → ((k : ℕ) → Inside (g k) (f k)) → Inside (signals_step g e) (places_step sig_form f e)
  step_inside g f (expr.Const n s) h = tt
  step_inside g f (expr.Sig s) h = signal_inside s.0 0 (sig_form s.0).width (omega arith)
  step_inside g f (expr.Unary op a) h = tt
  step_inside g f (expr.Binary op a b) h = tt
  step_inside g f (expr.Mux s a b) h = tt
  step_inside g f (expr.Slice a low width) h = all_take (IsInside sig_form) width (drop low (f a.0)) (all_drop (IsInside sig_form) low (f a.0) (h a.0))
  step_inside g f (expr.Cat es) h = all_inside f h es
  step_inside g f (expr.Part a offset width stride) h = tt
  step_inside g f (expr.Pick index es) h = tt
  step_inside g f (expr.Cast a signed) h = h a.0
  step_inside g f (expr.Matches a patterns) h = tt
  step_inside g f (expr.Reset domain place) h = tt

pub places_inside : (pool : Pooled) (k : ℕ) → AllByRecursion (IsInside (signal_form pool.signals)) (places pool k)
unfolding places
places_inside pool k =
    related [] [] signals_step (places_step (signal_form pool.signals)) (Inside (signal_form pool.signals)) tt (step_inside (signal_form pool.signals)) pool.exprs k

-- ---- of the target's signals

-- the bit is of one of these signals
abbrev pub IsOfThese : List ℕ → Bit → Type 0
IsOfThese ss b = IsTrue (is_among ss b.sig)

unmapped : (ss : List ℕ) (bs : List Bit) → AreWithin (map (λ b. Some b) bs) ss → AllByRecursion (IsOfThese ss) bs
unmapped ss [] h = tt
unmapped ss (b ∷ bs) h = (h.0, unmapped ss bs h.1)

pub places_of : (pool : Pooled) (k : ℕ) → is_fixed pool k ≡ true → AllByRecursion (IsOfThese (target_signals pool k)) (places pool k)
places_of pool k t = unmapped (target_signals pool k) (places pool k) (rw (target_bits-fixed pool [] k t) at (target_within pool [] k))
