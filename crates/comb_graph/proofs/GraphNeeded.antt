-- What an expression of a pool needs, by what the expressions that it names need.
use Rattle.std.proofs.Common.{◌≡◌, ◌∙◌, ℕ, ◌+◌, ◌-◌, nat_lt, if◌then◌else◌, List, [], ◌∷◌, ◌++◌, refl, ap, slice_get, Some}
use Rattle.std.specs.List.{flat_map}
use Rattle.shape_rules.specs.Forms.{Form}
use Rattle.design_ir.specs.declared.ids.ExprId.{ExprId}
use Rattle.design_ir.specs.declared.expr.Expr as expr
use Rattle.design_ir.specs.declared.expr.Expr.{Expr}
use Rattle.design_ir.specs.declared.expr.Expr.TheVariants.{Const, Unary, Binary, Mux, Slice, Cat, Part, Pick, Cast, Matches, Reset}
use Rattle.design_ir.specs.Named.{named}
use Rattle.design_ir.specs.Pools.{Pooled}
use Rattle.design_ir.specs.PoolRules.{IsPool}
use Rattle.design_ir.specs.Targets.{Bit}
use Rattle.design_ir.specs.Values.{form}
use Rattle.design_ir.specs.Needed.{is_bitwise, extended, every, joined_bits, bits_step, needed, needed_whole, needed_indices, index_step}
use Rattle.design_ir.proofs.Congruence.{AreSame, same_below}
use Rattle.design_ir.proofs.Equations.{standing, answer_at}

-- the bits of one expression
abbrev Bits : Type 0
Bits = ℕ → List Bit

module _ (form : ℕ → Form) (f g : ℕ → Bits) where
  joined_same : (es : List ExprId) → AreSame f g es → joined_bits form f es ≡ joined_bits form g es
  joined_same [] h = refl
  joined_same (e ∷ es) h =
      let step = λ (b rest : Bits) (k : ℕ). if nat_lt k (form e.0).width then b k else rest (k - (form e.0).width) in
      ap (λ (b : Bits). step b (joined_bits form f es)) h.0 ∙ ap (λ (rest : Bits). step (g e.0) rest) (joined_same es h.1)

  wholes_same : (es : List ExprId) → AreSame f g es → flat_map (λ (e : ExprId). every (form e.0) (f e.0)) es ≡ flat_map (λ (e : ExprId). every (form e.0) (g e.0)) es
  wholes_same [] h = refl
  wholes_same (e ∷ es) h =
      ap (λ (b : Bits). every (form e.0) b ++ flat_map (λ (x : ExprId). every (form x.0) (f x.0)) es) h.0
      ∙ ap (λ rest. every (form e.0) (g e.0) ++ rest) (wholes_same es h.1)

  pub bits_same : (e : Expr) → AreSame f g (named e) → bits_step form f e ≡ bits_step form g e
  bits_same (Const n s) h = refl
  bits_same (expr.TheVariants.Sig s) h = refl
  bits_same (Unary op a) h = ap {B = Bits} (λ (x : Bits) (k : ℕ). if is_bitwise op then x k else every (form a.0) x) h.0
  bits_same (Binary op a b) h =
      let step = λ (x y : Bits) (k : ℕ). if is_bitwise op then extended (form a.0) x k ++ extended (form b.0) y k else every (form a.0) x ++ every (form b.0) y in
      ap (λ (x : Bits). step x (f b.0)) h.0 ∙ ap (λ (y : Bits). step (g a.0) y) h.1.0
  bits_same (Mux s a b) h =
      let step = λ (w x y : Bits) (k : ℕ). every (form s.0) w ++ extended (form a.0) x k ++ extended (form b.0) y k in
      ap (λ (w : Bits). step w (f a.0) (f b.0)) h.0 ∙ ap (λ (x : Bits). step (g s.0) x (f b.0)) h.1.0 ∙ ap (λ (y : Bits). step (g s.0) (g a.0) y) h.1.1.0
  bits_same (Slice a low width) h = ap {B = Bits} (λ (x : Bits) (k : ℕ). x (low + k)) h.0
  bits_same (Cat es) h = joined_same es h
  bits_same (Part a offset width stride) h =
      let step = λ (x y : Bits) (k : ℕ). every (form a.0) x ++ every (form offset.0) y in
      ap (λ (x : Bits). step x (f offset.0)) h.0 ∙ ap (λ (y : Bits). step (g a.0) y) h.1.0
  bits_same (Pick index es) h =
      let step = λ (x : Bits) (rest : List Bit) (k : ℕ). every (form index.0) x ++ rest in
      ap (λ (x : Bits). step x (flat_map (λ (e : ExprId). every (form e.0) (f e.0)) es)) h.0 ∙ ap (λ (rest : List Bit). step (g index.0) rest) (wholes_same es h.1)
  bits_same (Cast a signed) h = h.0
  bits_same (Matches a patterns) h = ap {B = Bits} (λ (x : Bits) (k : ℕ). every (form a.0) x) h.0
  bits_same (Reset domain place) h = refl

pub needed_is : (p : Pooled) (k : ℕ) (e : Expr) → IsPool p → slice_get p.exprs k ≡ Some e → needed p k ≡ bits_step (form p) (needed p) e
unfolding needed
needed_is p k e h is =
    let names = (standing p k e h is).names in
    answer_at (λ (j : ℕ). []) (bits_step (form p)) p.exprs k e is (λ f g same. bits_same (form p) f g e (same_below f g k (named e) same names))

-- ---- offsets and indices

module _ (f g : ℕ → List Bit) where
  lists_same : (es : List ExprId) → AreSame f g es → flat_map (λ (e : ExprId). f e.0) es ≡ flat_map (λ (e : ExprId). g e.0) es
  lists_same [] h = refl
  lists_same (e ∷ es) h = let a = h.0 in let b = lists_same es h.1 in cc

  pub indices_same : (p : Pooled) (e : Expr) → AreSame f g (named e) → index_step p f e ≡ index_step p g e
  indices_same p (Slice a low width) h = h.0
  indices_same p (Cat es) h = lists_same es h
  indices_same p (Part a offset width stride) h = ap (λ bs. needed_whole p offset ++ bs) h.0
  indices_same p (Pick index es) h = ap (λ bs. needed_whole p index ++ bs) (lists_same es h.1)
  indices_same p (Cast a signed) h = h.0
  indices_same p (Const n s) h = refl
  indices_same p (expr.TheVariants.Sig s) h = refl
  indices_same p (Unary op a) h = refl
  indices_same p (Binary op a b) h = refl
  indices_same p (Mux s a b) h = refl
  indices_same p (Matches a patterns) h = refl
  indices_same p (Reset domain place) h = refl

pub indices_is : (p : Pooled) (k : ℕ) (e : Expr) → IsPool p → slice_get p.exprs k ≡ Some e → needed_indices p k ≡ index_step p (needed_indices p) e
unfolding needed_indices
indices_is p k e h is =
    let names = (standing p k e h is).names in
    answer_at [] (index_step p) p.exprs k e is (λ f g same. indices_same f g p e (same_below f g k (named e) same names))
