-- What is known of an expression stays where its pool grows.
use Rattle.std.specs.Prelude.{◌≡◌, refl, ℕ, zero, suc, ◌+◌, ◌-◌, ◌<◌, Bool, false, List, [], ◌∷◌, ◌++◌, map, length, slice_get, slice_index_or, ℤ, pos, unsigned_abs, Option, Some, None, option_and_then}
use Rattle.std.specs.List.{AllByRecursion, flat_map, filter_map}
use Rattle.std.proofs.Common.{sym, ◌∙◌, ap, arith, subst, get_or, length-append, append-nil, append_assoc}
use Rattle.std.proofs.Math.Path.{fun_ext}
use Rattle.std.proofs.Math.ListN.{get_or-append}
use Rattle.amh_bits.specs.Patterns.{pattern, nat_bit}
use Rattle.shape_rules.specs.Forms.{Form, unsigned}
use Rattle.design_ir.specs.declared.ids.ExprId.{ExprId}
use Rattle.design_ir.specs.declared.expr.Expr as expr
use Rattle.design_ir.specs.declared.expr.Expr.{Expr}
use Rattle.design_ir.specs.declared.expr.Expr.TheVariants.{Const, Unary, Binary, Mux, Slice, Cat, Part, Pick, Cast, Matches, Reset}
use Rattle.design_ir.specs.Named.{named, AllBelow}
use Rattle.design_ir.specs.Pools.{Pooled, answers, answer}
use Rattle.design_ir.specs.PoolRules.{IsPool, expr_added}
use Rattle.design_ir.specs.Values.{form, form_step, num, value_step, signal_form, joined, picked, common_of_all}
use Rattle.design_ir.specs.Targets.{Bit, Aim, is_target, target_test, target_signals, signals_step, target_bits, target_step, numbers, numbers_of, own_number, aims, aim_step, aims_of_all, raised, padded, chosen_items, shifted, loose}
use Rattle.design_ir.specs.Needed.{needed, bits_step, joined_bits, needed_whole, every, needed_indices, index_step}
use Rattle.design_ir.specs.Circuits.{FitsSignals}
use Rattle.design_ir.specs.Designs.{holds_reset, reset_test}
use Rattle.design_ir.specs.Fixed.{is_fixed, fixed_step}
use Rattle.design_ir.proofs.Answers.{answers_append, answers_begin}
use Rattle.design_ir.proofs.Equations.{standing}
use Rattle.design_ir.proofs.Congruence.{AreSame, same_below, form_same}
use Rattle.flat_design.specs.declared.sources.Source.{Source}
use Rattle.flat_design.specs.Growing.{IsMore, IsReadable}
use Rattle.flat_design.specs.Sources.{IsSource, source_bit, source_needs}
use Rattle.flat_design.specs.Activity.{IsActive}

-- ---- pools

pub more_refl : (p : Pooled) → IsMore p p
more_refl p = record { signals = refl; more = []; exprs = sym (append-nil p.exprs) }

pub more_added : (p : Pooled) (e : Expr) → IsMore p (expr_added p e)
more_added p e = record { signals = refl; more = e ∷ []; exprs = refl }

pub more_trans : (p q r : Pooled) → IsMore p q → IsMore q r → IsMore p r
more_trans p q r a b = record {
  signals = b.signals ∙ a.signals;
  more = a.more ++ b.more;
  exprs = b.exprs ∙ ap (λ es. es ++ b.more) a.exprs ∙ append_assoc p.exprs a.more b.more;
}

pub there_more : (p q : Pooled) (k : ℕ) → IsMore p q → k < length p.exprs → k < length q.exprs
there_more p q k more there = omega (arith, there, ap length more.exprs, length-append p.exprs more.more)

-- ---- answers

-- what stands at a place of the list stays
pub get_kept : {A : Type 0} (xs ys : List A) (k : ℕ) → k < length xs → slice_get (xs ++ ys) k ≡ slice_get xs k
get_kept [] ys k there = absurd (omega (arith, there))
get_kept (x ∷ xs) ys zero there = refl
get_kept (x ∷ xs) ys (suc k) there = get_kept xs ys k (omega (arith, there))

-- two steps that give the same for each expression give the same answers
answers_same : {A : Type 0} (d : A) (step step' : (ℕ → A) → Expr → A) (known : List A) (es : List Expr) → AllByRecursion (λ e. (f : ℕ → A) → step' f e ≡ step f e) es → answers d step' known es ≡ answers d step known es
answers_same d step step' known [] h = refl
answers_same d step step' known (e ∷ es) h =
    ap (λ x. answers d step' (known ++ x ∷ []) es) (h.0 (λ k. slice_index_or known k d))
    ∙ answers_same d step step' (known ++ step (λ k. slice_index_or known k d) e ∷ []) es h.1

all_get : {A : Type 0} (P : A → Type 0) (xs : List A) → ((k : ℕ) (x : A) → slice_get xs k ≡ Some x → P x) → AllByRecursion P xs
all_get P [] each = tt
all_get P (x ∷ xs) each = (each 0 x refl, all_get P xs (λ k y e. each (suc k) y e))

module _ {A : Type 0} (d : A) (step step' : (ℕ → A) → Expr → A) (p q : Pooled) (rules : IsPool p) (more : IsMore p q) where
  -- the steps give the same for each expression that names some of the pool's
  pub answer_kept : ((e : Expr) → AllBelow (length p.exprs) (named e) → (f : ℕ → A) → step' f e ≡ step f e) → (k : ℕ) → k < length p.exprs → answer d step' q.exprs k ≡ answer d step p.exprs k
  answer_kept same k there =
      let known : List A = answers d step' [] p.exprs in
      let begun = answers_begin d step' [] p.exprs in
      let after = answers_begin d step' known more.more in
      let longer : answers d step' [] q.exprs ≡ known ++ after.0 = ap (answers d step' []) more.exprs ∙ answers_append d step' [] p.exprs more.more ∙ after.1 in
      ap (λ x. get_or x k d) longer
      ∙ get_or-append known after.0 d k (omega (arith, there, begun.2, ap length begun.1))
      ∙ ap (λ x. get_or x k d) (answers_same d step step' [] p.exprs (all_get (λ e. (f : ℕ → A) → step' f e ≡ step f e) p.exprs (λ j e is. same e (standing p j e rules is).askable.names)))

-- ---- steps that look at more than the answers before

module _ (f g : ℕ → Form) where
  joined_form : (num : ℕ → ℤ) (es : List ExprId) → AreSame f g es → joined f num es ≡ joined g num es
  joined_form num [] h = refl
  joined_form num (e ∷ es) h = let a = h.0 in let b = joined_form num es h.1 in cc

  value_form : (env : List ℤ) (num : ℕ → ℤ) (e : Expr) → AreSame f g (named e) → value_step f env num e ≡ value_step g env num e
  value_form env num (Const n s) h = refl
  value_form env num (expr.TheVariants.Sig s) h = refl
  value_form env num (Unary op a) h = let x = h.0 in cc
  value_form env num (Binary op a b) h = let x = h.0 in let y = h.1.0 in cc
  value_form env num (Mux s a b) h = refl
  value_form env num (Slice a low width) h = refl
  value_form env num (Cat es) h = ap pos (joined_form num es h)
  value_form env num (Part a offset width stride) h = refl
  value_form env num (Pick index es) h = refl
  value_form env num (Cast a signed) h = let x = h.0 in cc
  value_form env num (Matches a patterns) h = rw h.0 refl
  value_form env num (Reset domain place) h = refl

  joined_bits_form : (bits : ℕ → ℕ → List Bit) (es : List ExprId) → AreSame f g es → (k : ℕ) → joined_bits f bits es k ≡ joined_bits g bits es k
  joined_bits_form bits [] h k = refl
  joined_bits_form bits (e ∷ es) h k = rw h.0 (rw (joined_bits_form bits es h.1 (k - (g e.0).width)) refl)

  flat_every_form : (bits : ℕ → ℕ → List Bit) (es : List ExprId) → AreSame f g es → flat_map (λ (e : ExprId). every (f e.0) (bits e.0)) es ≡ flat_map (λ (e : ExprId). every (g e.0) (bits e.0)) es
  flat_every_form bits [] h = refl
  flat_every_form bits (e ∷ es) h = let a = ap (λ x. every x (bits e.0)) h.0 in let b = flat_every_form bits es h.1 in cc

  bits_form : (bits : ℕ → ℕ → List Bit) (e : Expr) → AreSame f g (named e) → (k : ℕ) → bits_step f bits e k ≡ bits_step g bits e k
  bits_form bits (Const n s) h k = refl
  bits_form bits (expr.TheVariants.Sig s) h k = refl
  bits_form bits (Unary op a) h k = rw h.0 refl
  bits_form bits (Binary op a b) h k = rw (h.0, h.1.0) refl
  bits_form bits (Mux s a b) h k = rw (h.0, h.1.0, h.1.1.0) refl
  bits_form bits (Slice a low width) h k = refl
  bits_form bits (Cat es) h k = joined_bits_form bits es h k
  bits_form bits (Part a offset width stride) h k = rw (h.0, h.1.0) refl
  bits_form bits (Pick index es) h k = rw (h.0, flat_every_form bits es h.1) refl
  bits_form bits (Cast a signed) h k = refl
  bits_form bits (Matches a patterns) h k = rw h.0 refl
  bits_form bits (Reset domain place) h k = refl

-- ---- expressions that were there
module _ (p q : Pooled) (rules : IsPool p) (more : IsMore p q) where
  pub form_more : (k : ℕ) → k < length p.exprs → form q k ≡ form p k
  unfolding form
  form_more k there =
      answer_kept (unsigned 0) (form_step p.signals) (form_step q.signals) p q rules more (λ e names f. ap (λ sigs. form_step sigs f e) more.signals) k there

  forms_more : (es : List ExprId) → AllBelow (length p.exprs) es → AreSame (form q) (form p) es
  forms_more es names = same_below (form q) (form p) (length p.exprs) es form_more names

  pub num_more : (env : List ℤ) (k : ℕ) → k < length p.exprs → num q env k ≡ num p env k
  unfolding num
  num_more env k there =
      answer_kept (pos 0) (value_step (form p) env) (value_step (form q) env) p q rules more (λ e names f. value_form (form q) (form p) env f e (forms_more (named e) names)) k there

  pub needed_more : (k : ℕ) → k < length p.exprs → needed q k ≡ needed p k
  unfolding needed
  needed_more k there =
      answer_kept (λ i. []) (bits_step (form p)) (bits_step (form q)) p q rules more (λ e names f. fun_ext λ i. bits_form (form q) (form p) f e (forms_more (named e) names) i) k there

  pub needed_whole_more : (e : ExprId) → e.0 < length p.exprs → needed_whole q e ≡ needed_whole p e
  needed_whole_more e there = ap (λ f. every f (needed q e.0)) (form_more e.0 there) ∙ ap (every (form p e.0)) (needed_more e.0 there)

  pub reset_more : (k : ℕ) → k < length p.exprs → holds_reset q k ≡ holds_reset p k
  unfolding holds_reset
  reset_more k there = answer_kept false reset_test reset_test p q rules more (λ e names f. refl) k there

  pub target_more : (k : ℕ) → k < length p.exprs → is_target q k ≡ is_target p k
  unfolding is_target
  target_more k there = answer_kept false target_test target_test p q rules more (λ e names f. refl) k there

  pub fixed_more : (k : ℕ) → k < length p.exprs → is_fixed q k ≡ is_fixed p k
  unfolding is_fixed
  fixed_more k there = answer_kept false fixed_step fixed_step p q rules more (λ e names f. refl) k there

  pub signals_more : (k : ℕ) → k < length p.exprs → target_signals q k ≡ target_signals p k
  unfolding target_signals
  signals_more k there = answer_kept [] signals_step signals_step p q rules more (λ e names f. refl) k there

  pub numbers_more : (k : ℕ) → k < length p.exprs → numbers q k ≡ numbers p k
  unfolding numbers
  numbers_more k there =
      ap (λ (f : Form). numbers_of f.width (option_and_then own_number (slice_get q.exprs k))) (form_more k there)
      ∙ ap (λ o. numbers_of (form p k).width (option_and_then own_number o)) (ap (λ es. slice_get es k) more.exprs ∙ get_kept p.exprs more.more k there)

  indices_step : (e : Expr) → AllBelow (length p.exprs) (named e) → (f : ℕ → List Bit) → index_step q f e ≡ index_step p f e
  indices_step (Part a offset width stride) names f = ap (λ bits. bits ++ f a.0) (needed_whole_more offset names.1.0)
  indices_step (Pick index es) names f = ap (λ bits. bits ++ flat_map (λ (e : ExprId). f e.0) es) (needed_whole_more index names.0)
  indices_step e names f = refl

  pub indices_more : (k : ℕ) → k < length p.exprs → needed_indices q k ≡ needed_indices p k
  unfolding needed_indices
  indices_more k there = answer_kept [] (index_step p) (index_step q) p q rules more indices_step k there

  aims_form : (f : ℕ → List Aim) (low : ℕ) (es : List ExprId) → AllBelow (length p.exprs) es → aims_of_all (form q) f low es ≡ aims_of_all (form p) f low es
  aims_form f low [] names = refl
  aims_form f low (e ∷ es) names =
      ap (λ (x : Form). map (raised low) (f e.0) ++ aims_of_all (form q) f (low + x.width) es) (form_more e.0 names.0)
      ∙ ap (λ xs. map (raised low) (f e.0) ++ xs) (aims_form f (low + (form p e.0).width) es names.1)

  aim_form : (e : Expr) → AllBelow (length p.exprs) (named e) → (f : ℕ → List Aim) → aim_step (signal_form q.signals) (form q) (numbers q) f e ≡ aim_step (signal_form p.signals) (form p) (numbers p) f e
  aim_form (expr.TheVariants.Sig s) names f = ap (λ sigs. aim_step (signal_form sigs) (form p) (numbers p) f (expr.TheVariants.Sig s)) more.signals
  aim_form (Cat es) names f = aims_form f 0 es names
  aim_form (Part a offset width stride) names f =
      ap (λ (x : Form). filter_map (shifted (numbers q offset.0) x.width width stride) (f a.0)) (form_more a.0 names.0)
      ∙ ap (λ n. filter_map (shifted n (form p a.0).width width stride) (f a.0)) (numbers_more offset.0 names.1.0)
  aim_form (Pick index es) names f =
      ap (λ (x : Form). filter_map (loose x.width) (flat_map (λ (e : ExprId). f e.0) (chosen_items (numbers q index.0) es))) (form_same (form q) (form p) [] (Pick index es) (forms_more (index ∷ es) names))
      ∙ ap (λ n. filter_map (loose (common_of_all (form p) es).width) (flat_map (λ (e : ExprId). f e.0) (chosen_items n es))) (numbers_more index.0 names.0)
  aim_form e names f = refl

  pub aims_more : (k : ℕ) → k < length p.exprs → aims q k ≡ aims p k
  unfolding aims
  aims_more k there =
      answer_kept [] (aim_step (signal_form p.signals) (form p) (numbers p)) (aim_step (signal_form q.signals) (form q) (numbers q)) p q rules more aim_form k there

  place_form : (env : List ℤ) (e : Expr) → AllBelow (length p.exprs) (named e) → (f : ℕ → List (Option Bit)) → target_step (signal_form q.signals) (form q) (num q env) f e ≡ target_step (signal_form p.signals) (form p) (num p env) f e
  place_form env (expr.TheVariants.Sig s) names f = ap (λ sigs. target_step (signal_form sigs) (form p) (num p env) f (expr.TheVariants.Sig s)) more.signals
  place_form env (Part a offset width stride) names f =
      ap (λ n. target_step (signal_form p.signals) (form p) (λ k. n) f (Part a offset width stride)) (num_more env offset.0 names.1.0)
  place_form env (Pick index es) names f =
      ap (λ (x : Form). padded x.width (picked [] (map (λ (e : ExprId). f e.0) es) (unsigned_abs (num q env index.0)))) (form_same (form q) (form p) [] (Pick index es) (forms_more (index ∷ es) names))
      ∙ ap (λ n. padded (common_of_all (form p) es).width (picked [] (map (λ (e : ExprId). f e.0) es) (unsigned_abs n))) (num_more env index.0 names.0)
  place_form env e names f = refl

  pub bits_more : (env : List ℤ) (k : ℕ) → k < length p.exprs → target_bits q env k ≡ target_bits p env k
  unfolding target_bits
  bits_more env k there =
      answer_kept [] (target_step (signal_form p.signals) (form p) (num p env)) (target_step (signal_form q.signals) (form q) (num q env)) p q rules more (place_form env) k there

  -- ---- sources

  pub readable_more : (e : ExprId) → IsReadable p e → IsReadable q e
  readable_more e h = record { there = there_more p q e.0 more h.there; resolved = reset_more e.0 h.there ∙ h.resolved }

  pub source_more : (x : Source) → IsSource p x → IsSource q x
  source_more x h = record { readable = readable_more x.expr h.readable; inside = rw (form_more x.expr.0 h.readable.there) h.inside }

  pub bit_more : (env : List ℤ) (e : ExprId) (k : ℕ) → e.0 < length p.exprs → source_bit q env (record { expr = e; bit = k }) ≡ source_bit p env (record { expr = e; bit = k })
  bit_more env e k there =
      ap (λ (f : Form). nat_bit (pattern f.width (num q env e.0)) k) (form_more e.0 there)
      ∙ ap (λ n. nat_bit (pattern (form p e.0).width n) k) (num_more env e.0 there)

  pub source_bit_more : (env : List ℤ) (x : Source) → IsSource p x → source_bit q env x ≡ source_bit p env x
  source_bit_more env x h = bit_more env x.expr x.bit h.readable.there

  pub source_needs_more : (x : Source) → IsSource p x → source_needs q x ≡ source_needs p x
  source_needs_more x h = ap (λ (bits : ℕ → List Bit). bits x.bit) (needed_more x.expr.0 h.readable.there)

  -- ---- signals

  pub fits_more : (env : List ℤ) → FitsSignals p env → FitsSignals q env
  fits_more env fit = subst (λ sigs. FitsSignals (record p { signals = sigs }) env) (sym more.signals) fit

  pub fits_before : (env : List ℤ) → FitsSignals q env → FitsSignals p env
  fits_before env fit = subst (λ sigs. FitsSignals (record q { signals = sigs }) env) more.signals fit

  pub active_more : (holds : List ℤ → Bool) (bits : List Bit) (a : Option ExprId) → IsActive p holds bits a → IsActive q holds bits a
  active_more holds bits None h = λ env fit. h env (fits_before env fit)
  active_more holds bits (Some e) h = record {
    readable = readable_more e h.readable;
    shape = form_more e.0 h.readable.there ∙ h.shape;
    value = λ env fit. rw (num_more env e.0 h.readable.there) (h.value env (fits_before env fit));
    needs = λ c n. h.needs c (rw (needed_whole_more e h.readable.there) at n);
  }
