-- Statements leave the same where the signals that they read have the same numbers.
use Rattle.std.specs.Prelude.{◌≡◌, refl, ℕ, zero, suc, ◌<◌, ◌||◌, ◌*◌, Bool, true, false, List, [], ◌∷◌, map, length, take, drop, slice_get, ℤ, pos, unsigned_abs, Some, cond}
use Rattle.std.specs.List.{AllByRecursion, flat_map, list_any}
use Rattle.std.proofs.Common.{sym, ◌∙◌, ap, arith}
use Rattle.std.proofs.lemmas.Bool.{eq-eqb, false≢true}
use Rattle.shape_rules.specs.Forms.{Form}
use Rattle.shape_rules.specs.Operators.{is_zero}
use Rattle.design_ir.specs.declared.ids.ExprId.{ExprId}
use Rattle.design_ir.specs.declared.expr.Expr as expr
use Rattle.design_ir.specs.declared.expr.Expr.{Expr}
use Rattle.design_ir.specs.declared.expr.Expr.TheVariants.{Const, Unary, Binary, Mux, Slice, Cat, Part, Pick, Cast, Matches, Reset}
use Rattle.design_ir.specs.Circuits.{at}
use Rattle.design_ir.specs.Guards.{block_exprs, statement_exprs, choices_exprs}
use Rattle.design_ir.specs.Named.{named, AllBelow}
use Rattle.design_ir.specs.Pools.{Pooled}
use Rattle.design_ir.specs.PoolRules.{IsPool}
use Rattle.design_ir.specs.Put.{put, put_statement, put_choices, put_number}
use Rattle.design_ir.specs.Targets.{padded, target_step, target_bits}
use Rattle.design_ir.specs.Trees.{Statement, assign, choose, Choices, none, arm, Block, done, next}
use Rattle.design_ir.specs.Values.{form, num, joined, picked, signal_form, value_step, common_of_all}
use Rattle.design_ir.proofs.Congruence.{AreSame, same_below}
use Rattle.design_ir.proofs.Equations.{standing, num_is, answer_at}
use Rattle.design_ir.proofs.NumbersFit.{element}
use Rattle.design_ir.proofs.TargetLaws.{target_is}
use Rattle.sim_plans.proofs.Walks.{all_parts}
use Rattle.sim_plans.specs.Reads.{stands_step, stands_in, placing_step, places, statement_reads, choices_read, block_reads}

-- ---- where a signal stands, by the expressions that are named

any_same : (f g : ℕ → Bool) (es : List ExprId) → AreSame f g es → list_any (λ (e : ExprId). f e.0) es ≡ list_any (λ (e : ExprId). g e.0) es
any_same f g [] h = refl
any_same f g (e ∷ es) h = let a = h.0 in let b = any_same f g es h.1 in cc

stands_same : (s : ℕ) (f g : ℕ → Bool) (e : Expr) → AreSame f g (named e) → stands_step s f e ≡ stands_step s g e
stands_same s f g (Const n x) h = refl
stands_same s f g (expr.TheVariants.Sig x) h = refl
stands_same s f g (Unary op a) h = any_same f g (named (Unary op a)) h
stands_same s f g (Binary op a b) h = any_same f g (named (Binary op a b)) h
stands_same s f g (Mux i a b) h = any_same f g (named (Mux i a b)) h
stands_same s f g (Slice a low width) h = any_same f g (named (Slice a low width)) h
stands_same s f g (Cat es) h = any_same f g es h
stands_same s f g (Part a offset width stride) h = any_same f g (named (Part a offset width stride)) h
stands_same s f g (Pick index es) h = any_same f g (named (Pick index es)) h
stands_same s f g (Cast a signed) h = any_same f g (named (Cast a signed)) h
stands_same s f g (Matches a patterns) h = any_same f g (named (Matches a patterns)) h
stands_same s f g (Reset domain place) h = refl

pub stands_is : (p : Pooled) (s k : ℕ) (e : Expr) → IsPool p → slice_get p.exprs k ≡ Some e → stands_in p s k ≡ stands_step s (stands_in p s) e
unfolding stands_in
stands_is p s k e h is =
    let names = (standing p k e h is).names in
    answer_at false (stands_step s) p.exprs k e is (λ f g same. stands_same s f g e (same_below f g k (named e) same names))

placing_same : (p : Pooled) (s : ℕ) (f g : ℕ → Bool) (e : Expr) → AreSame f g (named e) → placing_step p s f e ≡ placing_step p s g e
placing_same p s f g (Const n x) h = refl
placing_same p s f g (expr.TheVariants.Sig x) h = refl
placing_same p s f g (Unary op a) h = refl
placing_same p s f g (Binary op a b) h = refl
placing_same p s f g (Mux i a b) h = refl
placing_same p s f g (Slice a low width) h = h.0
placing_same p s f g (Cat es) h = any_same f g es h
placing_same p s f g (Part a offset width stride) h = ap (λ t. stands_in p s offset.0 || t) h.0
placing_same p s f g (Pick index es) h = ap (λ t. stands_in p s index.0 || t) (any_same f g es h.1)
placing_same p s f g (Cast a signed) h = h.0
placing_same p s f g (Matches a patterns) h = refl
placing_same p s f g (Reset domain place) h = refl

pub places_is : (p : Pooled) (s k : ℕ) (e : Expr) → IsPool p → slice_get p.exprs k ≡ Some e → places p s k ≡ placing_step p s (places p s) e
unfolding places
places_is p s k e h is =
    let names = (standing p k e h is).names in
    answer_at false (placing_step p s) p.exprs k e is (λ f g same. placing_same p s f g e (same_below f g k (named e) same names))

-- ---- the numbers of expressions

pub left : (a b : Bool) → a ≡ true → (a || b) ≡ true
left true b e = refl
left false b e = absurd (false≢true e)

pub right : (a b : Bool) → b ≡ true → (a || b) ≡ true
right true b e = refl
right false b e = e

-- whatever is named agrees
named_agree : (holds : ℕ → ℕ → Bool) (P : ℕ → Type 0) (Q : ℕ → Type 0) (k : ℕ) (es : List ExprId) → AllBelow k es → ((s : ℕ) → list_any (λ (e : ExprId). holds s e.0) es ≡ true → P s)
    → ((j : ℕ) → j < k → ((s : ℕ) → holds s j ≡ true → P s) → Q j) → AllByRecursion (λ (e : ExprId). Q e.0) es
named_agree holds P Q k [] h agree each = tt
named_agree holds P Q k (e ∷ es) h agree each = (
  each e.0 h.0 (λ s t. agree s (left (holds s e.0) (list_any (λ (x : ExprId). holds s x.0) es) t)),
  named_agree holds P Q k es h.1 (λ s t. agree s (right (holds s e.0) (list_any (λ (x : ExprId). holds s x.0) es) t)) each,
)

module _ (form : ℕ → Form) (f g : ℕ → ℤ) where
  joined_same : (es : List ExprId) → AreSame f g es → joined form f es ≡ joined form g es
  joined_same [] h = refl
  joined_same (e ∷ es) h = let a = h.0 in let b = joined_same es h.1 in cc

map_same : {A : Type 0} (f g : ℕ → A) (es : List ExprId) → AreSame f g es → map (λ (e : ExprId). f e.0) es ≡ map (λ (e : ExprId). g e.0) es
map_same f g [] h = refl
map_same f g (e ∷ es) h = let a = h.0 in let b = map_same f g es h.1 in cc

flat_same : {A : Type 0} (f g : ℕ → List A) (es : List ExprId) → AreSame f g es → flat_map (λ (e : ExprId). f e.0) es ≡ flat_map (λ (e : ExprId). g e.0) es
flat_same f g [] h = refl
flat_same f g (e ∷ es) h = let a = h.0 in let b = flat_same f g es h.1 in cc

module _ (p : Pooled) (E F : List ℤ) (rules : IsPool p) where
  -- both have the same number of a signal
  abbrev Same : ℕ → Type 0
  Same s = at E s ≡ at F s

  -- whatever stands in these has the same numbers
  abbrev Agree : (ℕ → ℕ → Bool) → ℕ → Type 0
  Agree holds k = (s : ℕ) → holds s k ≡ true → Same s

  value_same : (e : Expr) → ((s : ℕ) → stands_step s (stands_in p s) e ≡ true → Same s) → AreSame (num p E) (num p F) (named e) → value_step (form p) E (num p E) e ≡ value_step (form p) F (num p F) e
  value_same (Const n x) agree h = refl
  value_same (expr.TheVariants.Sig x) agree h = agree x.0 (eq-eqb x.0 x.0 refl)
  value_same (Unary op a) agree h = let q = h.0 in cc
  value_same (Binary op a b) agree h = let q = h.0 in let r = h.1.0 in cc
  value_same (Mux i a b) agree h = let q = h.0 in let r = h.1.0 in let t = h.1.1.0 in cc
  value_same (Slice a low width) agree h = let q = h.0 in cc
  value_same (Cat es) agree h = ap pos (joined_same (form p) (num p E) (num p F) es h)
  value_same (Part a offset width stride) agree h = let q = h.0 in let r = h.1.0 in cc
  value_same (Pick index es) agree h =
      let r = map_same (num p E) (num p F) es h.1 in
      ap (λ x. picked (pos 0) x (unsigned_abs (num p E index.0))) r ∙ ap (λ x. picked (pos 0) (map (λ (e : ExprId). num p F e.0) es) (unsigned_abs x)) h.0
  value_same (Cast a signed) agree h = let q = h.0 in cc
  value_same (Matches a patterns) agree h = rw h.0 refl
  value_same (Reset domain place) agree h = refl

  -- what stands in the expressions that are named stands in the expression
  value_names : (k : ℕ) (e : Expr) → AllBelow k (named e) → ((s : ℕ) → stands_step s (stands_in p s) e ≡ true → Same s) → ((j : ℕ) → j < k → Agree (stands_in p) j → num p E j ≡ num p F j) → AreSame (num p E) (num p F) (named e)
  value_names k (Const n x) h agree each = tt
  value_names k (expr.TheVariants.Sig x) h agree each = tt
  value_names k (Unary op a) h agree each = named_agree (stands_in p) Same (λ j. num p E j ≡ num p F j) k (named (Unary op a)) h agree each
  value_names k (Binary op a b) h agree each = named_agree (stands_in p) Same (λ j. num p E j ≡ num p F j) k (named (Binary op a b)) h agree each
  value_names k (Mux i a b) h agree each = named_agree (stands_in p) Same (λ j. num p E j ≡ num p F j) k (named (Mux i a b)) h agree each
  value_names k (Slice a low width) h agree each = named_agree (stands_in p) Same (λ j. num p E j ≡ num p F j) k (named (Slice a low width)) h agree each
  value_names k (Cat es) h agree each = named_agree (stands_in p) Same (λ j. num p E j ≡ num p F j) k es h agree each
  value_names k (Part a offset width stride) h agree each = named_agree (stands_in p) Same (λ j. num p E j ≡ num p F j) k (named (Part a offset width stride)) h agree each
  value_names k (Pick index es) h agree each = named_agree (stands_in p) Same (λ j. num p E j ≡ num p F j) k (named (Pick index es)) h agree each
  value_names k (Cast a signed) h agree each = named_agree (stands_in p) Same (λ j. num p E j ≡ num p F j) k (named (Cast a signed)) h agree each
  value_names k (Matches a patterns) h agree each = named_agree (stands_in p) Same (λ j. num p E j ≡ num p F j) k (named (Matches a patterns)) h agree each
  value_names k (Reset domain place) h agree each = tt

  num_up_to : (n k : ℕ) → k < n → k < length p.exprs → Agree (stands_in p) k → num p E k ≡ num p F k
  num_up_to zero k below there agree = absurd (omega (arith, below))
  num_up_to (suc n) k below there agree =
      let x = element p.exprs k there in
      let names = (standing p k x.0 rules x.1).names in
      let here : (s : ℕ) → stands_step s (stands_in p s) x.0 ≡ true → Same s = λ s t. agree s (stands_is p s k x.0 rules x.1 ∙ t) in
      let earlier = value_names k x.0 names here (λ j lt a. num_up_to n j (omega (arith, below, lt)) (omega (arith, there, lt)) a) in
      num_is p E k x.0 rules x.1 ∙ value_same x.0 here earlier ∙ sym (num_is p F k x.0 rules x.1)

  -- an expression has the same integer where the signals that stand in it have the same numbers
  pub num_agrees : (k : ℕ) → k < length p.exprs → Agree (stands_in p) k → num p E k ≡ num p F k
  num_agrees k there agree = num_up_to (suc k) k (omega arith) there agree

  target_same : (k : ℕ) (e : Expr) → k < length p.exprs → AllBelow k (named e) → ((s : ℕ) → placing_step p s (places p s) e ≡ true → Same s) → ((j : ℕ) → j < k → Agree (places p) j → target_bits p E j ≡ target_bits p F j)
      → target_step (signal_form p.signals) (form p) (num p E) (target_bits p E) e ≡ target_step (signal_form p.signals) (form p) (num p F) (target_bits p F) e
  target_same k (Const n x) there h agree each = refl
  target_same k (expr.TheVariants.Sig x) there h agree each = refl
  target_same k (Unary op a) there h agree each = refl
  target_same k (Binary op a b) there h agree each = refl
  target_same k (Mux i a b) there h agree each = refl
  target_same k (Slice a low width) there h agree each = ap (λ xs. take width (drop low xs)) (each a.0 h.0 agree)
  target_same k (Cat es) there h agree each = flat_same (target_bits p E) (target_bits p F) es (named_agree (places p) Same (λ j. target_bits p E j ≡ target_bits p F j) k es h agree each)
  target_same k (Part a offset width stride) there h agree each =
      let by = num_agrees offset.0 (omega (arith, h.1.0, there)) (λ s t. agree s (left (stands_in p s offset.0) (places p s a.0) t)) in
      let of = each a.0 h.0 (λ s t. agree s (right (stands_in p s offset.0) (places p s a.0) t)) in
      ap (λ xs. padded width (drop (unsigned_abs (num p E offset.0) * stride) xs)) of ∙ ap (λ n. padded width (drop (unsigned_abs n * stride) (target_bits p F a.0))) by
  target_same k (Pick index es) there h agree each =
      let by = num_agrees index.0 (omega (arith, h.0, there)) (λ s t. agree s (left (stands_in p s index.0) (list_any (λ (x : ExprId). places p s x.0) es) t)) in
      let items = named_agree (places p) Same (λ j. target_bits p E j ≡ target_bits p F j) k es h.1 (λ s t. agree s (right (stands_in p s index.0) (list_any (λ (x : ExprId). places p s x.0) es) t)) each in
      let of = map_same (target_bits p E) (target_bits p F) es items in
      ap (λ xs. padded (common_of_all (form p) es).width (picked [] xs (unsigned_abs (num p E index.0)))) of
      ∙ ap (λ n. padded (common_of_all (form p) es).width (picked [] (map (λ (e : ExprId). target_bits p F e.0) es) (unsigned_abs n))) by
  target_same k (Cast a signed) there h agree each = each a.0 h.0 agree
  target_same k (Matches a patterns) there h agree each = refl
  target_same k (Reset domain place) there h agree each = refl

  target_up_to : (n k : ℕ) → k < n → k < length p.exprs → Agree (places p) k → target_bits p E k ≡ target_bits p F k
  target_up_to zero k below there agree = absurd (omega (arith, below))
  target_up_to (suc n) k below there agree =
      let x = element p.exprs k there in
      let names = (standing p k x.0 rules x.1).names in
      target_is p E k x.0 rules x.1
      ∙ target_same k x.0 there names (λ s t. agree s (places_is p s k x.0 rules x.1 ∙ t)) (λ j lt a. target_up_to n j (omega (arith, below, lt)) (omega (arith, there, lt)) a)
      ∙ sym (target_is p F k x.0 rules x.1)

  -- a target stands for the same bits where the signals in its offsets and indices have the same numbers
  pub target_agrees : (k : ℕ) → k < length p.exprs → Agree (places p) k → target_bits p E k ≡ target_bits p F k
  target_agrees k there agree = target_up_to (suc k) k (omega arith) there agree

  -- ---- statements

  abbrev There : ExprId → Type 0
  There e = e.0 < length p.exprs

  mutual
    statement_agrees : (x : Statement) (cur : List ℤ) → AllByRecursion There (statement_exprs x) → ((s : ℕ) → statement_reads p s x ≡ true → Same s) → put_statement p E x cur ≡ put_statement p F x cur
    statement_agrees (assign t v place) cur there agree =
        let bits = target_agrees t.0 there.0 (λ s h. agree s (left (places p s t.0) (stands_in p s v.0) h)) in
        let value = num_agrees v.0 there.1.0 (λ s h. agree s (right (places p s t.0) (stands_in p s v.0) h)) in
        ap (λ xs. put_number p xs (num p E v.0) cur) bits ∙ ap (λ n. put_number p (target_bits p F t.0) n cur) value
    statement_agrees (choose arms) cur there agree = choices_agree arms cur there agree

    choices_agree : (arms : Choices) (cur : List ℤ) → AllByRecursion There (choices_exprs arms) → ((s : ℕ) → choices_read p s arms ≡ true → Same s) → put_choices p E arms cur ≡ put_choices p F arms cur
    choices_agree none cur there agree = refl
    choices_agree (arm c body others) cur there agree =
        let parts = all_parts There (block_exprs body) (choices_exprs others) there.1 in
        let rest : ℕ → Bool = λ s. block_reads p s body || choices_read p s others in
        let test = num_agrees c.0 there.0 (λ s h. agree s (left (stands_in p s c.0) (rest s) h)) in
        let first = put_agrees body cur parts.0 (λ s h. agree s (right (stands_in p s c.0) (rest s) (left (block_reads p s body) (choices_read p s others) h))) in
        let more = choices_agree others cur parts.1 (λ s h. agree s (right (stands_in p s c.0) (rest s) (right (block_reads p s body) (choices_read p s others) h))) in
        ap (λ n. cond (is_zero n) (put_choices p E others cur) (put p E body cur)) test
        ∙ ap (λ xs. cond (is_zero (num p F c.0)) xs (put p E body cur)) more
        ∙ ap (λ xs. cond (is_zero (num p F c.0)) (put_choices p F others cur) xs) first

    -- statements leave the same where the signals that they read have the same numbers
    pub put_agrees : (b : Block) (cur : List ℤ) → AllByRecursion There (block_exprs b) → ((s : ℕ) → block_reads p s b ≡ true → Same s) → put p E b cur ≡ put p F b cur
    put_agrees done cur there agree = refl
    put_agrees (next x rest) cur there agree =
        let parts = all_parts There (statement_exprs x) (block_exprs rest) there in
        ap (put p E rest) (statement_agrees x cur parts.0 (λ s h. agree s (left (statement_reads p s x) (block_reads p s rest) h)))
        ∙ put_agrees rest (put_statement p F x cur) parts.1 (λ s h. agree s (right (statement_reads p s x) (block_reads p s rest) h))
