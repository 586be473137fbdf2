-- The sources of signals before any statement.
use Rattle.std.specs.Prelude.{◌≡◌, refl, ℕ, zero, suc, ◌<◌, ◌≤◌, ◌==◌, ◌||◌, Bool, true, false, List, [], ◌∷◌, ◌++◌, All, Contains, length, slice_get, slice_index_or, slice_set, pos, Some, None, option_map, unwrap_or}
use Rattle.std.specs.List.{AllByRecursion}
use Rattle.std.proofs.Common.{sym, ◌∙◌, ap, arith, subst, ⊎_elim}
use Rattle.std.proofs.lemmas.Bool.{false≢true, cond_above, cases_eq, eqb-true, or_cases}
use Rattle.std.proofs.lemmas.List.{length-set, get_or-set_same, get_or-set_other}
use Rattle.std.proofs.lemmas.Option.{slice_get_within}
use Rattle.amh_bits.specs.Patterns.{pattern, nat_bit}
use Rattle.shape_rules.specs.Forms.{Form, IsForm, unsigned}
use Rattle.design_ir.specs.declared.ids.ExprId.{ExprId}
use Rattle.design_ir.specs.declared.ids.SigId.{SigId}
use Rattle.design_ir.specs.declared.signal.Sig.{Sig}
use Rattle.design_ir.specs.declared.expr.Expr.TheVariants as expr
use Rattle.design_ir.specs.declared.refusal.PoolStop.TheVariants.{Width}
use Rattle.design_ir.specs.Pools.{Pooled}
use Rattle.design_ir.specs.PoolRules.{IsPool, HasInit, shape_stop}
use Rattle.design_ir.specs.Values.{form, num, signal_form}
use Rattle.design_ir.specs.Targets.{Bit}
use Rattle.design_ir.specs.Circuits.{is_among}
use Rattle.design_ir.proofs.Equations.{form_is, num_is}
use Rattle.comb_graph.proofs.NeededBits.{needed_is}
use Rattle.flat_design.specs.declared.sources.Source.{Source}
use Rattle.flat_design.specs.Growing.{IsMore, IsReadable}
use Rattle.flat_design.specs.Sources.{IsSource, source_bit, source_needs}
use Rattle.flat_design.specs.Adding.{IsAdded, AreBits}
use Rattle.flat_design.specs.Shown.{IsSlot, AreSlots, init_of}
use Rattle.flat_design.specs.Found.{numbers_of}
use Rattle.flat_design.specs.Assigned.{begins, IsStart}
use Rattle.flat_design.proofs.Growing.{source_bit_more, source_needs_more}
use Rattle.flat_design.proofs.WrittenSources.{all_get, all_from_get, sources_more}
use Rattle.flat_design.proofs.FoundLaws.{among_append}

-- ---- signals of a pool

form_width : (w : ℕ) (s : Bool) → IsForm w s → w ≤ 128
form_width w false h = h
form_width w true h = h.1

width_few : (sigs : List Sig) (s : ℕ) → AllByRecursion (λ (x : Sig). IsForm x.shape.width x.shape.signed) sigs → (signal_form sigs s).width ≤ 128
width_few [] s h = omega arith
width_few (x ∷ sigs) zero h = form_width x.shape.width x.shape.signed h.0
width_few (x ∷ sigs) (suc s) h = width_few sigs s h.1

pub signal_few : (p : Pooled) (s : ℕ) → IsPool p → (signal_form p.signals s).width ≤ 128
signal_few p s rules = width_few p.signals s rules.shapes

pub no_stop : (w : ℕ) → w ≤ 128 → shape_stop false w ≡ None
no_stop w h = sym (cond_above 128 w (Some Width) None None h refl)

pub init_at : (sigs : List Sig) (s : ℕ) (x : Sig) → AllByRecursion HasInit sigs → slice_get sigs s ≡ Some x → HasInit x
init_at [] s x h e = cc
init_at (y ∷ sigs) zero x h e = let same : y ≡ x = cc in subst HasInit same h.0
init_at (y ∷ sigs) (suc s) x h e = init_at sigs s x h.1 e

pub signal_shape : (p : Pooled) (s : ℕ) (x : Sig) → slice_get p.signals s ≡ Some x → signal_form p.signals s ≡ x.shape
signal_shape p s x e = ap (λ o. unwrap_or (option_map (λ (y : Sig). y.shape) o) (unsigned 0)) e

signal_init : (p : Pooled) (s : ℕ) (x : Sig) → slice_get p.signals s ≡ Some x → init_of p s ≡ x.init
signal_init p s x e = ap (λ o. unwrap_or (option_map (λ (y : Sig). y.init) o) (pos 0)) e

-- ---- the bits of one expression

bits_sources : (q : Pooled) (e : ExprId) (n : ℕ) (xs : List Source) → IsReadable q e → (form q e.0).width ≡ n → AreBits e n xs → All (IsSource q) xs
bits_sources q e n xs readable width h =
    all_from_get (IsSource q) xs (λ i x at. subst (IsSource q) (sym (h.each i x at)) (record { readable = readable; inside = omega (arith, slice_get_within xs i x at, h.size, width) }))

module _ (p q : Pooled) (rules : IsPool q) (more : IsMore p q) (s : SigId) (e : ExprId) (xs : List Source) where
  pub start_register : IsAdded q (expr.Sig s) e → AreBits e (signal_form p.signals s.0).width xs → IsStart p q true s.0 xs
  start_register added h =
      let readable : IsReadable q e = record { there = slice_get_within q.exprs e.0 (expr.Sig s) added.stands; resolved = added.resolved } in
      let shape : form q e.0 ≡ signal_form p.signals s.0 = form_is q e.0 (expr.Sig s) rules added.stands ∙ ap (λ sigs. signal_form sigs s.0) more.signals in
      record {
        size = h.size;
        sources = bits_sources q e (signal_form p.signals s.0).width xs readable (ap (λ (f : Form). f.width) shape) h;
        bits = λ env i x at.
            ap (source_bit q env) (h.each i x at)
            ∙ ap (λ (f : Form). nat_bit (pattern f.width (num q env e.0)) i) shape
            ∙ ap (λ n. nat_bit (pattern (signal_form p.signals s.0).width n) i) (num_is q env e.0 (expr.Sig s) rules added.stands);
        needs = λ comb i x at. absurd (false≢true (sym comb));
      }

  pub start_init : (sig : Sig) → slice_get p.signals s.0 ≡ Some sig → IsAdded q (expr.Const sig.init sig.shape) e → AreBits e sig.shape.width xs → IsStart p q false s.0 xs
  start_init sig here added h =
      let readable : IsReadable q e = record { there = slice_get_within q.exprs e.0 (expr.Const sig.init sig.shape) added.stands; resolved = added.resolved } in
      let own : form q e.0 ≡ sig.shape = form_is q e.0 (expr.Const sig.init sig.shape) rules added.stands in
      let width : (signal_form p.signals s.0).width ≡ sig.shape.width = ap (λ (f : Form). f.width) (signal_shape p s.0 sig here) in
      record {
        size = h.size ∙ sym width;
        sources = bits_sources q e sig.shape.width xs readable (ap (λ (f : Form). f.width) own) h;
        bits = λ env i x at.
            ap (source_bit q env) (h.each i x at)
            ∙ ap (λ (f : Form). nat_bit (pattern f.width (num q env e.0)) i) own
            ∙ ap (λ n. nat_bit (pattern sig.shape.width n) i) (num_is q env e.0 (expr.Const sig.init sig.shape) rules added.stands ∙ sym (signal_init p s.0 sig here))
            ∙ ap (λ w. nat_bit (pattern w (init_of p s.0)) i) (sym width);
        needs = λ comb i x at. ap (source_needs q) (h.each i x at) ∙ ap (λ (f : ℕ → List Bit). f i) (needed_is q e.0 (expr.Const sig.init sig.shape) rules added.stands);
      }

-- ---- all signals

pub start_more : (p q r : Pooled) (clocked : Bool) (s : ℕ) (xs : List Source) → IsPool q → IsMore q r → IsStart p q clocked s xs → IsStart p r clocked s xs
start_more p q r clocked s xs rules more h = record {
  size = h.size;
  sources = sources_more q r rules more xs h.sources;
  bits = λ env i x at. source_bit_more q r rules more env x (all_get (IsSource q) xs i x h.sources at) ∙ h.bits env i x at;
  needs = λ comb i x at. source_needs_more q r rules more x (all_get (IsSource q) xs i x h.sources at) ∙ h.needs comb i x at;
}

-- the first of these signals have their slots
pub record AreStarted (p q : Pooled) (clocked : Bool) (ss : List SigId) (slots : List (List Source)) : Type 0 where
  pub size : length slots ≡ length p.signals
  pub each : (s : ℕ) → is_among (numbers_of ss) s ≡ true → IsStart p q clocked s (slice_index_or slots s [])

pub none_started : (p q : Pooled) (clocked : Bool) (slots : List (List Source)) → length slots ≡ length p.signals → AreStarted p q clocked [] slots
none_started p q clocked slots size = record { size = size; each = λ s e. absurd (false≢true e) }

numbers_push : (xs : List SigId) (x : SigId) → numbers_of (xs ++ x ∷ []) ≡ numbers_of xs ++ x.0 ∷ []
numbers_push [] x = refl
numbers_push (y ∷ xs) x = ap (λ ys. y.0 ∷ ys) (numbers_push xs x)

one_among : (a s : ℕ) → ((a == s) || false) ≡ true → a ≡ s
one_among a s e = ⊎_elim (λ (h : (a == s) ≡ true). eqb-true a s h) (λ (h : false ≡ true). absurd (false≢true h)) (or_cases (a == s) false e)

pub one_started : (p q r : Pooled) (clocked : Bool) (ss : List SigId) (x : SigId) (slots : List (List Source)) (xs : List Source) → IsPool q → IsMore q r → x.0 < length p.signals → AreStarted p q clocked ss slots → IsStart p r clocked x.0 xs
    → AreStarted p r clocked (ss ++ x ∷ []) (slice_set slots x.0 xs)
one_started p q r clocked ss x slots xs rules more there h own = record {
  size = length-set slots x.0 xs ∙ h.size;
  each = λ s e.
      ⊎_elim
      (λ (same : s ≡ x.0). subst (λ u. IsStart p r clocked u (slice_index_or (slice_set slots x.0 xs) u [])) (sym same) (subst (IsStart p r clocked x.0) (sym (get_or-set_same slots x.0 xs [] (omega (arith, there, h.size)))) own))
      (λ apart.
      ⊎_elim
      (λ before. subst (IsStart p r clocked s) (sym (get_or-set_other slots x.0 s xs [] apart)) (start_more p q r clocked s (slice_index_or slots s []) rules more (h.each s before)))
      (λ last. absurd (apart (sym (one_among x.0 s last))))
      (or_cases (is_among (numbers_of ss) s) (is_among (x.0 ∷ []) s) (sym (ap (λ ys. is_among ys s) (numbers_push ss x) ∙ among_append (numbers_of ss) (x.0 ∷ []) s) ∙ e)))
      (cases_eq s x.0);
}

slot_started : (p q : Pooled) (clocked : Bool) (driven : List ℕ) (s : ℕ) (xs : List Source) → is_among driven s ≡ true → IsStart p q clocked s xs → IsSlot (begins p clocked driven) q s xs
slot_started p q clocked driven s xs among h = record {
  size = h.size;
  sources = h.sources;
  bits = λ env cur i x fit fits long starts at. h.bits env i x at ∙ ap (λ n. nat_bit (pattern (signal_form p.signals s).width n) i) (sym (starts s among));
  needs = λ comb i x c at has. let none = subst (λ xs. Contains xs c) (h.needs comb i x at) has in absurd (omega (arith, none.1));
}

pub slots_started : (p q : Pooled) (clocked : Bool) (driven : List ℕ) (ss : List SigId) (slots : List (List Source)) → IsMore p q → ((s : ℕ) → is_among (numbers_of ss) s ≡ is_among driven s) → AreStarted p q clocked ss slots → AreSlots (begins p clocked driven) q slots
slots_started p q clocked driven ss slots more listed h = record {
  more = more;
  size = h.size;
  long = λ env cur fit. refl;
  each = λ s among. slot_started p q clocked driven s (slice_index_or slots s []) among (h.each s (listed s ∙ among));
}
