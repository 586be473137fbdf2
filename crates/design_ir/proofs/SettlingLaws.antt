-- A signal that is settled changes no shape but its own.
use Rattle.std.specs.Prelude.{◌≡◌, ◌≢◌, refl, ℕ, zero, suc, ◌+◌, ◌<◌, ◌≤◌, ◌==◌, ◌||◌, cond, Bool, true, false, if◌then◌else◌, List, [], ◌∷◌, ◌++◌, length, slice_get, slice_index_or, slice_set, ℤ, Some, None}
use Rattle.std.specs.List.{AllByRecursion, list_any}
use Rattle.std.proofs.Common.{sym, ◌∙◌, ap, arith, subst, append_assoc, take}
use Rattle.std.proofs.lemmas.Bool.{cond_above, eqb-true, eqb-false, eq-eqb, false≢true}
use Rattle.amh_bits.specs.Patterns.{IsOf}
use Rattle.shape_rules.specs.Forms.{Form, IsForm, unsigned}
use Rattle.design_ir.specs.declared.ids.ExprId.{ExprId}
use Rattle.design_ir.specs.declared.signal.Sig.{Sig}
use Rattle.design_ir.specs.declared.expr.Expr as expr
use Rattle.design_ir.specs.declared.expr.Expr.{Expr}
use Rattle.design_ir.specs.declared.expr.Expr.TheVariants.{Const, Unary, Binary, Mux, Slice, Cat, Part, Pick, Cast, Matches, Reset}
use Rattle.design_ir.specs.declared.refusal.PoolStop.TheVariants.{Width, Limit}
use Rattle.design_ir.specs.Named.{named, AllBelow}
use Rattle.design_ir.specs.Pools.{Pooled, answers}
use Rattle.design_ir.specs.PoolRules.{IsInRange, AreExprs, IsCached, HasInit, bad_operand, greatest_width, shape_stop, signal_bits}
use Rattle.design_ir.specs.Settling.{is_signal, is_match, names_place, IsUnsettled, settled_at, signal_settled, settle_refusal, reshaped}
use Rattle.design_ir.specs.Values.{form_step, signal_form}
use Rattle.design_ir.proofs.Congruence.{AreSame, form_same, range_same, operand_same, width_same}
use Rattle.std.proofs.lemmas.List.{append-nil, length-set}
use Rattle.std.proofs.lemmas.Option.{slice_get-get_or}
use Rattle.design_ir.proofs.Growth.{length_more}
use Rattle.design_ir.proofs.NumbersFit.{element}

-- ---- the signals

settled_same : (sigs : List Sig) (s : ℕ) (f : Form) (n : ℤ) → s < length sigs → signal_form (settled_at sigs s f n) s ≡ f
settled_same [] s f n h = absurd (omega (arith, h))
settled_same (x ∷ sigs) zero f n h = refl
settled_same (x ∷ sigs) (suc s) f n h = settled_same sigs s f n (omega (arith, h))

settled_other : (sigs : List Sig) (s t : ℕ) (f : Form) (n : ℤ) → t ≢ s → signal_form (settled_at sigs s f n) t ≡ signal_form sigs t
settled_other [] s t f n h = refl
settled_other (x ∷ sigs) zero zero f n h = absurd (h refl)
settled_other (x ∷ sigs) zero (suc t) f n h = refl
settled_other (x ∷ sigs) (suc s) zero f n h = refl
settled_other (x ∷ sigs) (suc s) (suc t) f n h = settled_other sigs s t f n (λ e. h (ap suc e))

settled_length : (sigs : List Sig) (s : ℕ) (f : Form) (n : ℤ) → length (settled_at sigs s f n) ≡ length sigs
settled_length [] s f n = refl
settled_length (x ∷ sigs) zero f n = refl
settled_length (x ∷ sigs) (suc s) f n = ap suc (settled_length sigs s f n)

settled_bits : (sigs : List Sig) (s : ℕ) (f : Form) (n : ℤ) → s < length sigs → (signal_form sigs s).width ≡ 0 → signal_bits (settled_at sigs s f n) ≡ signal_bits sigs + f.width
settled_bits [] s f n h e = absurd (omega (arith, h))
settled_bits (x ∷ sigs) zero f n h e = omega (arith, e)
settled_bits (x ∷ sigs) (suc s) f n h e = omega (arith, settled_bits sigs s f n (omega (arith, h)) e)

settled_all : (P : Sig → Type 0) (sigs : List Sig) (s : ℕ) (f : Form) (n : ℤ) → AllByRecursion P sigs → ((x : Sig) → P (record x { shape = f; init = n })) → AllByRecursion P (settled_at sigs s f n)
settled_all P [] s f n h new = tt
settled_all P (x ∷ sigs) zero f n h new = (new x, h.1)
settled_all P (x ∷ sigs) (suc s) f n h new = (h.0, settled_all P sigs s f n h.1 new)

-- a signal that is written with its new shape and init is settled
pub set_settles : (sigs : List Sig) (s : ℕ) (f : Form) (n : ℤ) (x : Sig) → s < length sigs → x ≡ slice_index_or sigs s x → slice_set sigs s (record x { shape = f; init = n }) ≡ settled_at sigs s f n
set_settles [] s f n x h e = refl
set_settles (y ∷ sigs) zero f n x h e = ap (λ (z : Sig). record z { shape = f; init = n } ∷ sigs) e
set_settles (y ∷ sigs) (suc s) f n x h e = ap (λ zs. y ∷ zs) (set_settles sigs s f n x (omega (arith, h)) e)

-- ---- lists of shapes

get_seam : {A : Type 0} (xs : List A) (y : A) (ys : List A) → slice_get (xs ++ y ∷ ys) (length xs) ≡ Some y
get_seam [] y ys = refl
get_seam (x ∷ xs) y ys = get_seam xs y ys

get_left : {A : Type 0} (xs ys : List A) (k : ℕ) (x : A) → slice_get xs k ≡ Some x → slice_get (xs ++ ys) k ≡ Some x
get_left [] ys k x e = cc
get_left (y ∷ xs) ys zero x e = e
get_left (y ∷ xs) ys (suc k) x e = get_left xs ys k x e

module _ (s : ℕ) (f : Form) where
  reshaped_get : (before : List Expr) (known : List Form) (k : ℕ) (x : Expr) (d : Form) → slice_get before k ≡ Some x → is_signal s x ≡ false → slice_index_or known k d ≡ slice_index_or (reshaped s f before known) k d
  reshaped_get [] known k x d e n = refl
  reshaped_get (b ∷ before) [] k x d e n = refl
  reshaped_get (b ∷ before) (g ∷ known) zero x d e n =
      let same : b ≡ x = cc in
      let no_signal : is_signal s b ≡ false = ap (is_signal s) same ∙ n in
      ap (λ t. cond t f g) (sym no_signal)
  reshaped_get (b ∷ before) (g ∷ known) (suc k) x d e n = reshaped_get before known k x d e n

  reshaped_more : (before : List Expr) (known : List Form) (e : Expr) (g : Form) → length known ≡ length before → reshaped s f (before ++ e ∷ []) (known ++ g ∷ []) ≡ reshaped s f before known ++ (if is_signal s e then f else g) ∷ []
  reshaped_more [] [] e g h = refl
  reshaped_more [] (k ∷ known) e g h = absurd (omega (arith, h))
  reshaped_more (b ∷ before) [] e g h = absurd (omega (arith, h))
  reshaped_more (b ∷ before) (k ∷ known) e g h = ap (λ xs. (if is_signal s b then f else k) ∷ xs) (reshaped_more before known e g (omega (arith, h)))

  reshaped_length : (before : List Expr) (known : List Form) → length (reshaped s f before known) ≡ length known
  reshaped_length [] known = refl
  reshaped_length (b ∷ before) [] = refl
  reshaped_length (b ∷ before) (k ∷ known) = ap suc (reshaped_length before known)

cons_choice : {A : Type 0} (t : Bool) (a b : A) (xs : List A) → cond t a b ∷ xs ≡ cond t (a ∷ xs) (b ∷ xs)
cons_choice true a b xs = refl
cons_choice false a b xs = refl

choice_cons : {A : Type 0} (t : Bool) (a : A) (xs ys : List A) → a ∷ cond t xs ys ≡ cond t (a ∷ xs) (a ∷ ys)
choice_cons true a xs ys = refl
choice_cons false a xs ys = refl

-- one turn of the loop that gives the expressions of the signal its shape
pub reshaped_turn : (s : ℕ) (f : Form) (es : List Expr) (forms : List Form) (i : ℕ) (e : Expr) → length forms ≡ length es → slice_get es i ≡ Some e → reshaped s f (take (suc i) es) forms ≡ cond (is_signal s e) (slice_set (reshaped s f (take i es) forms) i f) (reshaped s f (take i es) forms)
reshaped_turn s f [] forms i e h is = cc
reshaped_turn s f (x ∷ es) [] i e h is = absurd (omega (arith, h))
reshaped_turn s f (x ∷ es) (g ∷ forms) zero e h is =
    let same : x ≡ e = cc in
    ap (λ y. cond (is_signal s y) f g ∷ forms) same ∙ cons_choice (is_signal s e) f g forms
reshaped_turn s f (x ∷ es) (g ∷ forms) (suc i) e h is =
    ap (λ xs. cond (is_signal s x) f g ∷ xs) (reshaped_turn s f es forms i e (omega (arith, h)) is)
    ∙ choice_cons (is_signal s e) (cond (is_signal s x) f g) (slice_set (reshaped s f (take i es) forms) i f) (reshaped s f (take i es) forms)

-- ---- each expression

-- in this list, whatever names an expression of the signal is a `Matches`
abbrev pub IsOver : ℕ → List Expr → Type 0
IsOver s xs = (k j : ℕ) (e x : Expr) → slice_get xs k ≡ Some e → slice_get xs j ≡ Some x → is_signal s x ≡ true → names_place e j ≡ true → is_match e ≡ true

or_first : (a b : Bool) → a ≡ true → (a || b) ≡ true
or_first true b e = refl
or_first false b e = absurd (false≢true e)

or_second : (a b : Bool) → b ≡ true → (a || b) ≡ true
or_second true b e = refl
or_second false b e = e

not_true : (t : Bool) → (t ≡ true → ⊥) → t ≡ false
not_true true h = absurd (h refl)
not_true false h = refl

form_narrow : (s : Bool) (w : ℕ) → IsForm w s → w ≤ 128
form_narrow false w h = h
form_narrow true w h = h.1

module _ (sigs : List Sig) (s : ℕ) (f : Form) (n : ℤ) (there : s < length sigs) (narrow : f.width ≤ 128) where
  signal_step : (t : ℕ) (b : Bool) → (t == s) ≡ b → signal_form (settled_at sigs s f n) t ≡ cond b f (signal_form sigs t)
  signal_step t true e = ap (signal_form (settled_at sigs s f n)) (eqb-true t s e) ∙ settled_same sigs s f n there
  signal_step t false e = settled_other sigs s t f n (λ same. eqb-false t s e same)

  form_step_settled : (lk lk' : ℕ → Form) (e : Expr) → (is_match e ≡ false → AreSame lk lk' (named e)) → form_step (settled_at sigs s f n) lk' e ≡ cond (is_signal s e) f (form_step sigs lk e)
  form_step_settled lk lk' (Const m g) h = refl
  form_step_settled lk lk' (expr.TheVariants.Sig t) h = signal_step t.0 (t.0 == s) refl
  form_step_settled lk lk' (Unary op a) h = sym (form_same lk lk' sigs (Unary op a) (h refl))
  form_step_settled lk lk' (Binary op a b) h = sym (form_same lk lk' sigs (Binary op a b) (h refl))
  form_step_settled lk lk' (Mux c a b) h = sym (form_same lk lk' sigs (Mux c a b) (h refl))
  form_step_settled lk lk' (Slice a low width) h = refl
  form_step_settled lk lk' (Cat es) h = sym (form_same lk lk' sigs (Cat es) (h refl))
  form_step_settled lk lk' (Part a offset width stride) h = refl
  form_step_settled lk lk' (Pick index es) h = sym (form_same lk lk' sigs (Pick index es) (h refl))
  form_step_settled lk lk' (Cast a signed) h = sym (form_same lk lk' sigs (Cast a signed) (h refl))
  form_step_settled lk lk' (Matches a patterns) h = refl
  form_step_settled lk lk' (Reset domain place) h = refl

  range_settled : (lk lk' : ℕ → Form) (e : Expr) → (is_match e ≡ false → AreSame lk lk' (named e)) → IsInRange sigs lk e → IsInRange (settled_at sigs s f n) lk' e
  range_settled lk lk' (Const m g) h r = r
  range_settled lk lk' (expr.TheVariants.Sig t) h r = omega (arith, r, settled_length sigs s f n)
  range_settled lk lk' (Unary op a) h r = r
  range_settled lk lk' (Binary op a b) h r = r
  range_settled lk lk' (Mux c a b) h r = r
  range_settled lk lk' (Slice a low width) h r = range_same lk lk' sigs (Slice a low width) (h refl) r
  range_settled lk lk' (Cat es) h r = r
  range_settled lk lk' (Part a offset width stride) h r = r
  range_settled lk lk' (Pick index es) h r = r
  range_settled lk lk' (Cast a signed) h r = range_same lk lk' sigs (Cast a signed) (h refl) r
  range_settled lk lk' (Matches a patterns) h r = r
  range_settled lk lk' (Reset domain place) h r = r

  fine : shape_stop false f.width ≡ None
  fine = sym (cond_above 128 f.width (Some Width) None None narrow refl)

  signal_accepted : (t : ℕ) (b : Bool) → (t == s) ≡ b → shape_stop false (signal_form sigs t).width ≡ None → shape_stop false (signal_form (settled_at sigs s f n) t).width ≡ None
  signal_accepted t true e a = ap (λ (g : Form). shape_stop false g.width) (signal_step t true e) ∙ fine
  signal_accepted t false e a = ap (λ (g : Form). shape_stop false g.width) (signal_step t false e) ∙ a

  both_same : (lk lk' : ℕ → Form) (e : Expr) → AreSame lk lk' (named e) → shape_stop (bad_operand lk e) (greatest_width sigs lk e) ≡ None → shape_stop (bad_operand lk' e) (greatest_width sigs lk' e) ≡ None
  both_same lk lk' e h a =
      ap (λ b. shape_stop b (greatest_width sigs lk' e)) (sym (operand_same lk lk' e h)) ∙ ap (shape_stop (bad_operand lk e)) (sym (width_same lk lk' sigs e h)) ∙ a

  accepted_settled : (lk lk' : ℕ → Form) (e : Expr) → (is_match e ≡ false → AreSame lk lk' (named e)) → shape_stop (bad_operand lk e) (greatest_width sigs lk e) ≡ None → shape_stop (bad_operand lk' e) (greatest_width (settled_at sigs s f n) lk' e) ≡ None
  accepted_settled lk lk' (Const m g) h a = a
  accepted_settled lk lk' (expr.TheVariants.Sig t) h a = signal_accepted t.0 (t.0 == s) refl a
  accepted_settled lk lk' (Unary op x) h a = both_same lk lk' (Unary op x) (h refl) a
  accepted_settled lk lk' (Binary op x y) h a = both_same lk lk' (Binary op x y) (h refl) a
  accepted_settled lk lk' (Mux c x y) h a = both_same lk lk' (Mux c x y) (h refl) a
  accepted_settled lk lk' (Slice x low width) h a = a
  accepted_settled lk lk' (Cat es) h a = both_same lk lk' (Cat es) (h refl) a
  accepted_settled lk lk' (Part x offset width stride) h a = both_same lk lk' (Part x offset width stride) (h refl) a
  accepted_settled lk lk' (Pick index es) h a = both_same lk lk' (Pick index es) (h refl) a
  accepted_settled lk lk' (Cast x signed) h a = both_same lk lk' (Cast x signed) (h refl) a
  accepted_settled lk lk' (Matches x patterns) h a = a
  accepted_settled lk lk' (Reset domain place) h a = a

  -- ---- all expressions: nothing but `Matches` stands over one of the signal

  -- an expression that is no `Matches` names none of the signal, and the shapes of others stay
  named_same : (before : List Expr) (known : List Form) (items : List ExprId) → length known ≡ length before → AllBelow (length known) items → ((j : ℕ) (x : Expr) → slice_get before j ≡ Some x → list_any (λ (a : ExprId). a.0 == j) items ≡ true → is_signal s x ≡ false) → AreSame (λ k. slice_index_or known k (unsigned 0)) (λ k. slice_index_or (reshaped s f before known) k (unsigned 0)) items
  named_same before known [] len h no_signal = tt
  named_same before known (a ∷ items) len h no_signal =
      let x = element before a.0 (omega (arith, h.0, len)) in (
        reshaped_get s f before known a.0 x.0 (unsigned 0) x.1 (no_signal a.0 x.0 x.1 (or_first (a.0 == a.0) (list_any (λ (b : ExprId). b.0 == a.0) items) (eq-eqb a.0 a.0 refl))),
        named_same before known items len h.1 (λ j y is any. no_signal j y is (or_second (a.0 == j) (list_any (λ (b : ExprId). b.0 == j) items) any)),
      )

  rest : (es before : List Expr) (known : List Form) → length known ≡ length before → AreExprs sigs known es → IsOver s (before ++ es) → (answers (unsigned 0) (form_step (settled_at sigs s f n)) (reshaped s f before known) es ≡ reshaped s f (before ++ es) (answers (unsigned 0) (form_step sigs) known es)) × AreExprs (settled_at sigs s f n) (reshaped s f before known) es
  rest [] before known len h over = (ap (λ xs. reshaped s f xs known) (sym (append-nil before)), tt)
  rest (e ∷ es) before known len h over =
      let lk : ℕ → Form = λ k. slice_index_or known k (unsigned 0) in
      let lk' : ℕ → Form = λ k. slice_index_or (reshaped s f before known) k (unsigned 0) in
      let g : Form = form_step sigs lk e in
      let same : is_match e ≡ false → AreSame lk lk' (named e) =
      λ no_match. named_same before known (named e) len h.0.names (λ j x is any. not_true (is_signal s x) (λ yes. false≢true (sym no_match ∙ over (length before) j e x (get_seam before e es) (get_left before (e ∷ es) j x is) yes any))) in
      let step : form_step (settled_at sigs s f n) lk' e ≡ cond (is_signal s e) f g = form_step_settled lk lk' e same in
      let joined : (before ++ e ∷ []) ++ es ≡ before ++ e ∷ es = append_assoc before (e ∷ []) es in
      let more = reshaped_more s f before known e g len in
      let r = rest es (before ++ e ∷ []) (known ++ g ∷ []) (omega (arith, len, length_more known g, length_more before e)) h.1 (subst (IsOver s) (sym joined) over) in (
        ap (λ x. answers (unsigned 0) (form_step (settled_at sigs s f n)) (reshaped s f before known ++ x ∷ []) es) step ∙ ap (λ x. answers (unsigned 0) (form_step (settled_at sigs s f n)) x es) (sym more) ∙ r.0 ∙ ap (λ xs. reshaped s f xs (answers (unsigned 0) (form_step sigs) (known ++ g ∷ []) es)) joined,
        (
          record {
            names = rw (reshaped_length s f before known) h.0.names;
            formed = h.0.formed;
            parts = range_settled lk lk' e same h.0.parts;
            accepted = accepted_settled lk lk' e same h.0.accepted;
          },
          subst (λ x. AreExprs (settled_at sigs s f n) x es) (more ∙ ap (λ x. reshaped s f before known ++ x ∷ []) (sym step)) r.1,
        ),
      )

-- a pool with a settled signal keeps its rules
pub cached_settled : (p : Pooled) (shapes : List Form) (bits s : ℕ) (f : Form) (n : ℤ) → IsCached p shapes bits → IsUnsettled p s → IsForm f.width f.signed → IsOf f.signed f.width n → bits + f.width ≤ 262144 → IsCached (signal_settled p s f n) (reshaped s f p.exprs shapes) (bits + f.width)
cached_settled p shapes bits s f n h free formed of few =
    let narrow = form_narrow f.signed f.width formed in
    let total = settled_bits p.signals s f n free.there free.empty in
    let all = rest p.signals s f n free.there narrow p.exprs [] [] refl h.rules.exprs free.over in
    record {
      rules = record {
        few_signals = omega (arith, h.rules.few_signals, settled_length p.signals s f n);
        few_bits = omega (arith, few, h.bits_are, total);
        few_exprs = h.rules.few_exprs;
        shapes = settled_all (λ (x : Sig). IsForm x.shape.width x.shape.signed) p.signals s f n h.rules.shapes (λ x. formed);
        inits = settled_all HasInit p.signals s f n h.rules.inits (λ x. of);
        exprs = all.1;
      };
      shapes_are = ap (reshaped s f p.exprs) h.shapes_are ∙ sym all.0;
      bits_are = omega (arith, h.bits_are, total);
    }

-- ---- the loop that gives the expressions of the signal its shape

choice_length : {A : Type 0} (t : Bool) (xs ys : List A) (m : ℕ) → length xs ≡ m → length ys ≡ m → length (cond t xs ys) ≡ m
choice_length true xs ys m h k = h
choice_length false xs ys m h k = k

pub turn : (s : ℕ) (f : Form) (es : List Expr) (forms now after : List Form) (i : ℕ) (e : Expr) → length forms ≡ length es → i < length es → e ≡ slice_index_or es i e → now ≡ reshaped s f (take i es) forms → length now ≡ length es → after ≡ cond (is_signal s e) (slice_set now i f) now → (after ≡ reshaped s f (take (i + 1) es) forms) × (length after ≡ length es)
turn s f es forms now after i e len below is so_far same step =
    let there : slice_get es i ≡ Some e = slice_get-get_or es i e below ∙ ap (λ x. Some x) (sym is) in
    let next : i + 1 ≡ suc i = omega arith in (
      step ∙ ap (λ xs. cond (is_signal s e) (slice_set xs i f) xs) so_far ∙ sym (reshaped_turn s f es forms i e len there) ∙ ap (λ k. reshaped s f (take k es) forms) (sym next),
      ap length step ∙ choice_length (is_signal s e) (slice_set now i f) now (length es) (length-set now i f ∙ same) same,
    )

-- ---- the pool after it

pub settle_keeps : (p : Pooled) (shapes after : List Form) (bits s : ℕ) (f : Form) (n : ℤ) (x : Sig) → IsCached p shapes bits → IsUnsettled p s → IsForm f.width f.signed → IsOf f.signed f.width n → bits + f.width ≤ 262144 → x ≡ slice_index_or p.signals s x → after ≡ reshaped s f p.exprs shapes → IsCached record { signals = slice_set p.signals s (record x { shape = f; init = n }); exprs = p.exprs } after (bits + f.width)
settle_keeps p shapes after bits s f n x h free formed of few is done =
    rw (set_settles p.signals s f n x free.there is, done) (cached_settled p shapes bits s f n h free formed of few)

pub settle_gives : (p now : Pooled) (s : ℕ) (f : Form) (n : ℤ) (x : Sig) → p ≡ now → s < length p.signals → x ≡ slice_index_or p.signals s x → record { signals = slice_set p.signals s (record x { shape = f; init = n }); exprs = p.exprs } ≡ signal_settled now s f n
settle_gives p now s f n x same there is =
    ap (λ xs. record { signals = xs; exprs = p.exprs }) (set_settles p.signals s f n x there is) ∙ ap (λ q. signal_settled q s f n) same

pub settle_fits : (p now : Pooled) (bits w : ℕ) → p ≡ now → bits ≡ signal_bits p.signals → bits + w ≤ 262144 → settle_refusal now w ≡ None
settle_fits p now bits w same total few =
    ap (λ q. settle_refusal q w) (sym same) ∙ sym (cond_above 262144 (signal_bits p.signals + w) (Some Limit) None None (omega (arith, few, total)) refl)
