-- The bits that fixed targets stand for.
use Rattle.std.proofs.Common.{◌≡◌, ◌<◌, ◌≤◌, ◌+◌, ◌-◌, ℕ, suc, min, List, [], ◌∷◌, ◌++◌, length, length-drop, take, drop, map, get_or, refl, sym, ap, ◌∙◌, arith, append-nil, ◌⊎◌, ⊎_elim, inl, inr, ℤ}
use Rattle.std.specs.Prelude.{Some, slice_get}
use Rattle.std.specs.List.{flat_map, range_with_len}
use Rattle.std.proofs.lemmas.Bool.{cases_lt}
use Rattle.std.proofs.lemmas.List.{take_more, take_min, take_all, drop_all}
use Rattle.std.proofs.lemmas.List.Concat.{flat_map-append}
use Rattle.amh_host.specs.declared.place.Place.{Place}
use Rattle.shape_rules.specs.Forms.{Form}
use Rattle.shape_rules.specs.declared.op.Op.{Op}
use Rattle.design_ir.specs.declared.ids.ExprId.{ExprId}
use Rattle.design_ir.specs.declared.expr.Pattern.{Pattern}
use Rattle.design_ir.specs.declared.expr.Expr.{Expr}
use Rattle.design_ir.specs.declared.expr.Expr.TheVariants as expr
use Rattle.design_ir.specs.Named.{named}
use Rattle.design_ir.specs.Pools.{Pooled}
use Rattle.design_ir.specs.PoolRules.{IsPool}
use Rattle.design_ir.specs.Targets.{Bit}
use Rattle.design_ir.specs.Values.{signal_form}
use Rattle.design_ir.proofs.Congruence.{AreSame, same_below}
use Rattle.design_ir.proofs.Equations.{standing, answer_at}
use Rattle.netlist_laws.specs.Latest.{places_step, places}

-- ---- by the expressions that a target names

flat_same : (f g : ℕ → List Bit) (es : List ExprId) → AreSame f g es → flat_map (λ (e : ExprId). f e.0) es ≡ flat_map (λ (e : ExprId). g e.0) es
flat_same f g [] h = refl
flat_same f g (e ∷ es) h = let a = h.0 in let b = flat_same f g es h.1 in cc

places_same : (forms : ℕ → Form) (f g : ℕ → List Bit) (e : Expr) → AreSame f g (named e) → places_step forms f e ≡ places_step forms g e
places_same forms f g (expr.Const n s) h = refl
places_same forms f g (expr.Sig s) h = refl
places_same forms f g (expr.Unary op a) h = refl
places_same forms f g (expr.Binary op a b) h = refl
places_same forms f g (expr.Mux s a b) h = refl
places_same forms f g (expr.Slice a low width) h = ap (λ xs. take width (drop low xs)) h.0
places_same forms f g (expr.Cat es) h = flat_same f g es h
places_same forms f g (expr.Part a offset width stride) h = refl
places_same forms f g (expr.Pick index es) h = refl
places_same forms f g (expr.Cast a signed) h = h.0
places_same forms f g (expr.Matches a patterns) h = refl
places_same forms f g (expr.Reset domain place) h = refl

pub places_is : (p : Pooled) (k : ℕ) (e : Expr) → IsPool p → slice_get p.exprs k ≡ Some e → places p k ≡ places_step (signal_form p.signals) (places p) e
unfolding places
places_is p k e h is =
    let names = (standing p k e h is).names in
    answer_at [] (places_step (signal_form p.signals)) p.exprs k e is (λ f g same. places_same (signal_form p.signals) f g e (same_below f g k (named e) same names))

-- ---- slices and joins

pub sliced : (xs : List Bit) (low width : ℕ) → take (min (low + width) (length xs) - min low (length xs)) (drop (min low (length xs)) xs) ≡ take width (drop low xs)
sliced xs low width =
    let n : ℕ = length xs in
    ⊎_elim
    (λ (lt : low < n).
    let from : min low n ≡ low = omega arith in
    let count : min (low + width) n - low ≡ min width (length (drop low xs)) = omega (arith, length-drop low xs) in
    ap (λ k. take (min (low + width) n - k) (drop k xs)) from ∙ ap (λ k. take k (drop low xs)) count ∙ take_min width (drop low xs))
    (λ (le : n ≤ low).
    let none : drop low xs ≡ [] = drop_all low xs le in
    let gone : drop (min low n) xs ≡ [] = drop_all (min low n) xs (omega arith) in
    ap (take (min (low + width) n - min low n)) gone ∙ take_all (min (low + width) n - min low n) [] (omega arith) ∙ sym (take_all width [] (omega arith)) ∙ ap (take width) (sym none))
    (cases_lt low n)

pub joined_turn : (f : ℕ → List Bit) (es : List ExprId) (i : ℕ) (d : ExprId) (bits more bits' : List Bit) → i < length es → bits ≡ flat_map (λ (e : ExprId). f e.0) (take i es) → more ≡ f (get_or es i d).0 → bits' ≡ bits ++ more
    → bits' ≡ flat_map (λ (e : ExprId). f e.0) (take (i + 1) es)
joined_turn f es i d bits more bits' lt before one added =
    let g : ExprId → List Bit = λ e. f e.0 in
    let whole : flat_map g (take (i + 1) es) ≡ flat_map g (take i es) ++ f (get_or es i d).0 =
    ap (flat_map g) (take_more es i d lt) ∙ flat_map-append g (take i es) (get_or es i d ∷ []) ∙ ap (λ xs. flat_map g (take i es) ++ xs) (append-nil (f (get_or es i d).0)) in
    added ∙ (λ j. before j ++ one j) ∙ sym whole

abbrev pub bit_at : ℕ → ℕ → Bit
bit_at s i = record { sig = s; index = i }

pub bits_next : (s w i : ℕ) → i < w → map (bit_at s) (range_with_len i (w - i)) ≡ bit_at s i ∷ map (bit_at s) (range_with_len (i + 1) (w - (i + 1)))
bits_next s w i h = let e : w - i ≡ suc (w - (i + 1)) = omega arith in ap (λ n. map (bit_at s) (range_with_len i n)) e

pub bits_end : (s w i : ℕ) → w ≤ i → map (bit_at s) (range_with_len i (w - i)) ≡ []
bits_end s w i h = let e : w - i ≡ 0 = omega arith in ap (λ n. map (bit_at s) (range_with_len i n)) e

-- ---- expressions that stand for no bits

abbrev pub IsBare : Expr → Type 0
IsBare e =
    ((x : ℤ) × (y : Form) × (e ≡ expr.Const x y))
    ⊎ (((x : Op) × (y : ExprId) × (e ≡ expr.Unary x y))
    ⊎ (((x : Op) × (y : ExprId) × (z : ExprId) × (e ≡ expr.Binary x y z))
    ⊎ (((x : ExprId) × (y : ExprId) × (z : ExprId) × (e ≡ expr.Mux x y z))
    ⊎ (((x : ExprId) × (y : ExprId) × (z : ℕ) × (w : ℕ) × (e ≡ expr.Part x y z w))
    ⊎ (((x : ExprId) × (y : List ExprId) × (e ≡ expr.Pick x y))
    ⊎ (((x : ExprId) × (y : List Pattern) × (e ≡ expr.Matches x y))
    ⊎ ((x : List ℕ) × (y : Place) × (e ≡ expr.Reset x y))))))))

bare_places : (forms : ℕ → Form) (f : ℕ → List Bit) (e : Expr) → IsBare e → places_step forms f e ≡ []
bare_places forms f e (inl (x, y, p)) = ap (places_step forms f) p
bare_places forms f e (inr (inl (x, y, p))) = ap (places_step forms f) p
bare_places forms f e (inr (inr (inl (x, y, z, p)))) = ap (places_step forms f) p
bare_places forms f e (inr (inr (inr (inl (x, y, z, p))))) = ap (places_step forms f) p
bare_places forms f e (inr (inr (inr (inr (inl (x, y, z, w, p)))))) = ap (places_step forms f) p
bare_places forms f e (inr (inr (inr (inr (inr (inl (x, y, p))))))) = ap (places_step forms f) p
bare_places forms f e (inr (inr (inr (inr (inr (inr (inl (x, y, p)))))))) = ap (places_step forms f) p
bare_places forms f e (inr (inr (inr (inr (inr (inr (inr (x, y, p)))))))) = ap (places_step forms f) p

pub bare_is : (p : Pooled) (k : ℕ) (e : Expr) → IsPool p → slice_get p.exprs k ≡ Some e → IsBare e → places p k ≡ []
bare_is p k e h is bare = places_is p k e h is ∙ bare_places (signal_form p.signals) (places p) e bare
