-- Expressions that are put to the design, one after another: the first one that is the same, or else one more at the end.
use Rattle.std.proofs.Common.{◌≡◌, refl, sym, subst, ◌∙◌, ap, arith, cond, length, length-append, append-nil, Option, Some, None, ℕ, zero, suc, ◌+◌, ◌-◌, ◌<◌, ◌≤◌, Bool, true, false, List, [], ◌∷◌, ◌++◌, map, take, drop, get_or}
use Rattle.std.specs.Prelude.{nat_lt, ◌&&◌, if◌then◌else◌, slice_get, slice_index_or, fold}
use Rattle.std.specs.List.{position_from}
use Rattle.std.proofs.lemmas.Bool.{ltb-true, ltb-false, false≢true, and_parts, and_from}
use Rattle.std.proofs.lemmas.Iterator.Adapters.{position_from-zero}
use Rattle.std.proofs.Math.Seq.{get_or-append_seam}
use Rattle.std.proofs.Math.ListN.{get_or-append}
use Rattle.shape_rules.specs.Forms.{Form}
use Rattle.py_heap.proofs.ObjectLaws.{drop_at}
use Rattle.design_ir.specs.declared.ids.ExprId.{ExprId}
use Rattle.design_ir.specs.declared.signal.Sig.{Sig}
use Rattle.design_ir.specs.declared.expr.Expr.{Expr}
use Rattle.design_ir.specs.Circuits.{Circuit}
use Rattle.design_ir.specs.Named.{named, AllBelow}
use Rattle.design_ir.specs.Pools.{Pooled}
use Rattle.design_ir.specs.PoolRules.{IsPool, expr_added, IsInRange, bad_operand, greatest_width, shape_stop}
use Rattle.design_ir.specs.Values.{form, form_step}
use Rattle.design_ir.proofs.Elements.{some_is}
use Rattle.design_ir.proofs.Equations.{standing, form_is, place_below}
use Rattle.design_ir.proofs.Congruence.{AreSame, same_below, form_same, range_same, operand_same, width_same}
use Rattle.flat_design.specs.Growing.{IsMore}
use Rattle.flat_design.proofs.Growing.{form_more, there_more, get_kept}
use Rattle.expr_index.specs.First.{first_number}
use Rattle.expr_index.specs.Knows.{Index, Knows}
use Rattle.expr_index.specs.Numbers.{number_now, renumbered}
use Rattle.expr_index.specs.Same.{same}
use Rattle.expr_index.proofs.SameLaws.{same_are}
use Rattle.bench_acts.specs.declared.sharing.ShareStop.{ShareStop}
use Rattle.bench_acts.specs.declared.sharing.ShareStop.TheVariants as stop
use Rattle.bench_acts.specs.Sharing.{Shared, number_in, share_one, shared, too_many}
use Rattle.bench_acts.specs.Held.{IsShareStop, MayCome}
use Rattle.bench_acts.proofs.NumberedLaws.{read_at, below_now, form_now, range_now, operand_now, width_now, renumbered_same}

-- ---- an expression at the end

last_is : (es : List Expr) (e : Expr) → slice_get (es ++ e ∷ []) (length es) ≡ Some e
last_is [] e = refl
last_is (x ∷ es) e = last_is es e

pub known_more : (x : Index) (es fs : List Expr) (e d : Expr) (k : ℕ) → fs ≡ es ++ e ∷ [] → k ≡ length es → slice_get fs k ≡ Some d → Knows x (es ++ d ∷ []) → Knows x fs
known_more x es fs e d k is at there h =
    let same : d ≡ e = some_is d e (sym there ∙ ap (λ l. slice_get l k) is ∙ ap (slice_get (es ++ e ∷ [])) at ∙ last_is es e) in
    subst (λ l. Knows x l) (ap (λ y. es ++ y ∷ []) same ∙ sym is) h

-- ---- the first one that is the same

found_from : (e : Expr) (k : ℕ) (es : List Expr) (j : ℕ) → position_from (λ x. same x e) k es ≡ Some j → (i : ℕ) × (j ≡ k + i) × (slice_get es i ≡ Some e)
found_from e k [] j h = absurd cc
found_from e k (x ∷ es) j h = by_test (same x e) refl h (found_from e (k + 1) es j)
  where
    by_test : (b : Bool) → same x e ≡ b → cond b (Some k) (position_from (λ y. same y e) (k + 1) es) ≡ Some j → (position_from (λ y. same y e) (k + 1) es ≡ Some j → (i : ℕ) × (j ≡ k + 1 + i) × (slice_get es i ≡ Some e)) → (i : ℕ) × (j ≡ k + i) × (slice_get (x ∷ es) i ≡ Some e)
    by_test true t f later = let here : k ≡ j = cc in (0, omega (arith, here), ap Some (same_are x e t))
    by_test false t f later = let r = later f in (suc r.0, omega (arith, r.1), r.2)

pub first_is : (es : List Expr) (e : Expr) (j : ℕ) → first_number es e ≡ Some j → slice_get es j ≡ Some e
first_is es e j h =
    let r = found_from e 0 es j (sym (position_from-zero (λ x. same x e) es) ∙ h) in
    let at : j ≡ r.0 = omega (arith, r.1) in
    ap (slice_get es) at ∙ r.2

-- ---- one expression more

last_same : (xs : List ExprId) (a b : ExprId) → xs ++ a ∷ [] ≡ xs ++ b ∷ [] → a ≡ b
last_same [] a b h = cc
last_same (x ∷ xs) a b h = let rest : xs ++ a ∷ [] ≡ xs ++ b ∷ [] = cc in last_same xs a b rest

-- where an expression stands behind the numbers that came so far
pub record IsPut (es fs : List Expr) (e : Expr) (x : ExprId) : Type 0 where
  pub there : slice_get fs x.0 ≡ Some e
  pub more : List Expr
  pub exprs : fs ≡ es ++ more

put_in : (o : Option ℕ) (e : Expr) (s : Shared) (x : ExprId) (fs : List Expr) → first_number s.exprs e ≡ o → number_in o e s ≡ record { numbers = s.numbers ++ x ∷ []; exprs = fs } → IsPut s.exprs fs e x
put_in (Some j) e s x fs first h =
    let number : record { 0 = j } ≡ x = last_same s.numbers (record { 0 = j }) x (ap (λ (z : Shared). z.numbers) h) in
    let exprs : s.exprs ≡ fs = ap (λ (z : Shared). z.exprs) h in
    record {
      there = sym (ap (λ l. slice_get l x.0) exprs) ∙ sym (ap (λ (y : ExprId). slice_get s.exprs y.0) number) ∙ first_is s.exprs e j first;
      more = [];
      exprs = sym exprs ∙ sym (append-nil s.exprs);
    }
put_in None e s x fs first h =
    let number : record { 0 = length s.exprs } ≡ x = last_same s.numbers (record { 0 = length s.exprs }) x (ap (λ (z : Shared). z.numbers) h) in
    let exprs : s.exprs ++ e ∷ [] ≡ fs = ap (λ (z : Shared). z.exprs) h in
    record {
      there = sym (ap (λ l. slice_get l x.0) exprs) ∙ sym (ap (λ (y : ExprId). slice_get (s.exprs ++ e ∷ []) y.0) number) ∙ last_is s.exprs e;
      more = e ∷ [];
      exprs = sym exprs;
    }

put_one : (before : ℕ) (s : Shared) (e : Expr) (x : ExprId) (fs : List Expr) → share_one before s e ≡ record { numbers = s.numbers ++ x ∷ []; exprs = fs } → IsPut s.exprs fs (renumbered (number_now before s.numbers) e) x
put_one before s e x fs h =
    let d = renumbered (number_now before s.numbers) e in
    put_in (first_number s.exprs d) d s x fs refl h

-- ---- the first ones of a list

pub take_whole : {A : Type 0} (xs ys : List A) → take (length xs) (xs ++ ys) ≡ xs
take_whole [] ys = refl
take_whole (x ∷ xs) ys = ap (λ zs. x ∷ zs) (take_whole xs ys)

take_within : {A : Type 0} (n : ℕ) (xs ys : List A) → n ≤ length xs → take n (xs ++ ys) ≡ take n xs
take_within zero xs ys le = refl
take_within (suc n) [] ys le = absurd (omega (arith, le))
take_within (suc n) (x ∷ xs) ys le = ap (λ zs. x ∷ zs) (take_within n xs ys (omega (arith, le)))

take_one : {A : Type 0} (xs : List A) (i : ℕ) (x : A) → slice_get xs i ≡ Some x → take i xs ++ x ∷ [] ≡ take (suc i) xs
take_one [] i x h = absurd cc
take_one (y ∷ xs) zero x h = let same : y ≡ x = cc in ap (λ z. z ∷ []) (sym same)
take_one (y ∷ xs) (suc i) x h = ap (λ zs. y ∷ zs) (take_one xs i x h)

take_size : {A : Type 0} (xs : List A) (i : ℕ) → i ≤ length xs → length (take i xs) ≡ i
take_size xs zero le = refl
take_size [] (suc i) le = absurd (omega (arith, le))
take_size (x ∷ xs) (suc i) le = ap suc (take_size xs i (omega (arith, le)))

take_and_drop : {A : Type 0} (xs : List A) (i : ℕ) → xs ≡ take i xs ++ drop i xs
take_and_drop xs zero = refl
take_and_drop [] (suc i) = refl
take_and_drop (x ∷ xs) (suc i) = ap (λ zs. x ∷ zs) (take_and_drop xs i)

take_past : {A : Type 0} (xs : List A) (i : ℕ) → length xs ≤ i → take i xs ≡ xs
take_past [] zero le = refl
take_past [] (suc i) le = refl
take_past (x ∷ xs) zero le = absurd (omega (arith, le))
take_past (x ∷ xs) (suc i) le = ap (λ zs. x ∷ zs) (take_past xs i (omega (arith, le)))

-- ---- the numbers so far

-- those before stay, and the next one gets the last number
module _ (before i : ℕ) (now : List ExprId) (x : ExprId) (count : before + length now ≡ i) where
  now_before : (e : ExprId) → e.0 < i → number_now before (now ++ x ∷ []) e ≡ number_now before now e
  now_before e lt = by_test (nat_lt e.0 before) refl
    where
      by_test : (b : Bool) → nat_lt e.0 before ≡ b → (if b then e else slice_index_or (now ++ x ∷ []) (e.0 - before) e) ≡ (if b then e else slice_index_or now (e.0 - before) e)
      by_test true is = refl
      by_test false is = let behind = ltb-false e.0 before is in get_or-append now (x ∷ []) e (e.0 - before) (omega (arith, behind, lt, count))

  now_last : (e : ExprId) → e.0 ≡ i → number_now before (now ++ x ∷ []) e ≡ x
  now_last e at = by_test (nat_lt e.0 before) refl
    where
      by_test : (b : Bool) → nat_lt e.0 before ≡ b → (if b then e else slice_index_or (now ++ x ∷ []) (e.0 - before) e) ≡ x
      by_test true is = let first = ltb-true e.0 before is in absurd (omega (arith, first, at, count))
      by_test false is =
          let place : e.0 - before ≡ length now = omega (arith, at, count) in
          ap (λ j. slice_index_or (now ++ x ∷ []) j e) place ∙ get_or-append_seam now x [] e

-- behind the numbers that came so far, each expression of the pool k stands in the pool q with its shape
pub record IsShared (before : ℕ) (k q : Pooled) (now : List ExprId) (i : ℕ) : Type 0 where
  pub rules : IsPool q
  pub signals : q.signals ≡ k.signals
  pub least : before ≤ length q.exprs
  pub first : take before k.exprs ≡ take before q.exprs
  pub count : before + length now ≡ i
  pub there : (e : ExprId) → e.0 < i → (number_now before now e).0 < length q.exprs
  pub forms : (e : ExprId) → e.0 < i → form q (number_now before now e).0 ≡ form k e.0

pub stays : (before : ℕ) (e : ExprId) → number_now before [] e ≡ e
stays before e = by_test (nat_lt e.0 before)
  where
    by_test : (b : Bool) → (if b then e else slice_index_or [] (e.0 - before) e) ≡ e
    by_test true = refl
    by_test false = refl

pub copied : (before : ℕ) (e : Expr) → renumbered (number_now before []) e ≡ e
copied before e = renumbered_same (number_now before []) (stays before) e

pub shared_none : (p k : Pooled) → IsPool p → k.signals ≡ p.signals → k.exprs ≡ p.exprs ++ drop (length p.exprs) k.exprs → IsShared (length p.exprs) k p [] (length p.exprs)
shared_none p k rules signals exprs =
    let more : IsMore p k = record { signals = signals; more = drop (length p.exprs) k.exprs; exprs = exprs } in
    record {
      rules = rules;
      signals = sym signals;
      least = omega arith;
      first = ap (take (length p.exprs)) exprs ∙ take_whole p.exprs (drop (length p.exprs) k.exprs) ∙ sym (take_past p.exprs (length p.exprs) (omega arith));
      count = omega arith;
      there = λ e lt. subst (λ (x : ExprId). x.0 < length p.exprs) (sym (stays (length p.exprs) e)) lt;
      forms = λ e lt. ap (λ (x : ExprId). form p x.0) (stays (length p.exprs) e) ∙ sym (form_more p k rules more e.0 lt);
    }

module _ (before i : ℕ) (k q : Pooled) (now : List ExprId) (rules : IsPool k) (s : IsShared before k q now i) (e : Expr) (is : slice_get k.exprs i ≡ Some e) where
  -- the next expression may come
  pub next_may_come : MayCome q (renumbered (number_now before now) e)
  next_may_come =
      let to = number_now before now in
      let st = standing k i e rules is in
      let forth : AreSame (read_at to (form q)) (form k) (named e) = same_below (read_at to (form q)) (form k) i (named e) (λ j lt. s.forms (record { 0 = j }) lt) st.names in
      let back : AreSame (form k) (read_at to (form q)) (named e) = same_below (form k) (read_at to (form q)) i (named e) (λ j lt. sym (s.forms (record { 0 = j }) lt)) st.names in
      let parts : IsInRange q.signals (form k) e = subst (λ sigs. IsInRange sigs (form k) e) (sym s.signals) st.askable.parts in
      let bad = operand_now to (form q) e ∙ operand_same (read_at to (form q)) (form k) e forth in
      let width = width_now to (form q) q.signals e ∙ width_same (read_at to (form q)) (form k) q.signals e forth ∙ ap (λ sigs. greatest_width sigs (form k) e) s.signals in
      record {
        askable = record {
          names = below_now to i (length q.exprs) s.there e st.names;
          parts = range_now to (form q) q.signals e (range_same (form k) (read_at to (form q)) q.signals e back parts);
        };
        shaped = ap (λ b. shape_stop b (greatest_width q.signals (form q) (renumbered to e))) bad ∙ ap (shape_stop (bad_operand (form k) e)) width ∙ st.accepted;
      }

  -- and once it stands there, its shape does
  module _ (x : ExprId) (r : Pooled) (there_rules : IsPool r) (sigs : r.signals ≡ q.signals) (one : share_one before (record { numbers = now; exprs = q.exprs }) e ≡ record { numbers = now ++ x ∷ []; exprs = r.exprs }) where
    pub next_shared : IsShared before k r (now ++ x ∷ []) (i + 1)
    next_shared =
        let to = number_now before now in
        let put = put_one before (record { numbers = now; exprs = q.exprs }) e x r.exprs one in
        let more : IsMore q r = record { signals = sigs; more = put.more; exprs = put.exprs } in
        let st = standing k i e rules is in
        let kept : (d : ExprId) → d.0 < i → form r (to d).0 ≡ form k d.0 = λ d lt. form_more q r s.rules more (to d).0 (s.there d lt) ∙ s.forms d lt in
        let forth : AreSame (read_at to (form r)) (form k) (named e) = same_below (read_at to (form r)) (form k) i (named e) (λ j lt. kept (record { 0 = j }) lt) st.names in
        let last : form r x.0 ≡ form k i =
        form_is r x.0 (renumbered to e) there_rules put.there ∙ form_now to (form r) r.signals e ∙ form_same (read_at to (form r)) (form k) r.signals e forth ∙ ap (λ g. form_step g (form k) e) (sigs ∙ s.signals) ∙ sym (form_is k i e rules is) in
        record {
          rules = there_rules;
          signals = sigs ∙ s.signals;
          least = omega (arith, s.least, ap length put.exprs, length-append q.exprs put.more);
          first = s.first ∙ sym (ap (take before) put.exprs ∙ take_within before q.exprs put.more s.least);
          count = omega (arith, s.count, length-append now (x ∷ []));
          there = λ d lt. there_at d lt put more (nat_lt d.0 i) refl;
          forms = λ d lt. form_at d lt kept last (nat_lt d.0 i) refl;
        }
      where
        there_at : (d : ExprId) → d.0 < i + 1 → IsPut q.exprs r.exprs (renumbered (number_now before now) e) x → IsMore q r → (b : Bool) → nat_lt d.0 i ≡ b → (number_now before (now ++ x ∷ []) d).0 < length r.exprs
        there_at d lt put more true is = let first = ltb-true d.0 i is in subst (λ (y : ExprId). y.0 < length r.exprs) (sym (now_before before i now x s.count d first)) (there_more q r (number_now before now d).0 more (s.there d first))
        there_at d lt put more false is =
            let behind = ltb-false d.0 i is in
            subst (λ (y : ExprId). y.0 < length r.exprs) (sym (now_last before i now x s.count d (omega (arith, behind, lt)))) (place_below r.exprs x.0 (renumbered (number_now before now) e) put.there)

        form_at : (d : ExprId) → d.0 < i + 1 → ((y : ExprId) → y.0 < i → form r (number_now before now y).0 ≡ form k y.0) → form r x.0 ≡ form k i → (b : Bool) → nat_lt d.0 i ≡ b → form r (number_now before (now ++ x ∷ []) d).0 ≡ form k d.0
        form_at d lt kept last true is = let first = ltb-true d.0 i is in ap (λ (y : ExprId). form r y.0) (now_before before i now x s.count d first) ∙ kept d first
        form_at d lt kept last false is =
            let behind = ltb-false d.0 i is in
            let at : d.0 ≡ i = omega (arith, behind, lt) in
            ap (λ (y : ExprId). form r y.0) (now_last before i now x s.count d at) ∙ last ∙ sym (ap (form k) at)

-- ---- one after another

-- one turn
pub share_turn : (before : ℕ) (s t all : Shared) (es : List Expr) (i : ℕ) (e : Expr) → slice_get es i ≡ Some e → share_one before s e ≡ t → fold (share_one before) s (drop i es) ≡ all → fold (share_one before) t (drop (i + 1) es) ≡ all
share_turn before s t all es i e is one h = ap (λ x. fold (share_one before) x (drop (i + 1) es)) (sym one) ∙ sym (ap (fold (share_one before) s) (drop_at es i e is)) ∙ h

pub none_left : {A : Type 0} (xs : List A) (i : ℕ) → length xs ≤ i → drop i xs ≡ []
none_left [] zero le = refl
none_left [] (suc i) le = refl
none_left (x ∷ xs) zero le = absurd (omega (arith, le))
none_left (x ∷ xs) (suc i) le = none_left xs i (omega (arith, le))

pub share_end : (before : ℕ) (s all : Shared) (es : List Expr) (i : ℕ) → length es ≤ i → fold (share_one before) s (drop i es) ≡ all → s ≡ all
share_end before s all es i le h = sym (ap (fold (share_one before) s) (none_left es i le)) ∙ h

in_grows : (o : Option ℕ) (e : Expr) (s : Shared) → length s.exprs ≤ length (number_in o e s).exprs
in_grows (Some k) e s = omega arith
in_grows None e s = omega (arith, length-append s.exprs (e ∷ []))

grows : (before : ℕ) (s : Shared) (es : List Expr) → length s.exprs ≤ length (fold (share_one before) s es).exprs
grows before s [] = omega arith
grows before s (e ∷ es) =
    let d = renumbered (number_now before s.numbers) e in
    let one = in_grows (first_number s.exprs d) d s in
    omega (arith, one, grows before (share_one before s e) es)

-- ---- too many

many_from : (n m : ℕ) → n < m → 262144 < m → (nat_lt n m && nat_lt 262144 m) ≡ true
many_from n m lt many = by_tests (nat_lt n m) (nat_lt 262144 m) refl refl
  where
    by_tests : (b c : Bool) → nat_lt n m ≡ b → nat_lt 262144 m ≡ c → (b && c) ≡ true
    by_tests true true f g = refl
    by_tests true false f g = let h = ltb-false 262144 m g in absurd (omega (arith, h, many))
    by_tests false c f g = let h = ltb-false n m f in absurd (omega (arith, h, lt))

many_parts : (n m : ℕ) → (nat_lt n m && nat_lt 262144 m) ≡ true → (n < m) × (262144 < m)
many_parts n m h = let p = and_parts (nat_lt n m) (nat_lt 262144 m) h in (ltb-true n m p.0, ltb-true 262144 m p.1)

-- more of them are too many too
many_more : (n k l m : ℕ) → n ≤ k → l ≤ m → (nat_lt k l && nat_lt 262144 l) ≡ true → (nat_lt n m && nat_lt 262144 m) ≡ true
many_more n k l m first more h = let p = many_parts k l h in many_from n m (omega (arith, first, more, p.0)) (omega (arith, more, p.1))

pub many_at_last : (before i : ℕ) (p q : Pooled) (now : List ExprId) (es : List Expr) (e : Expr) (all : Shared) (r : ShareStop) → length p.exprs ≤ length q.exprs → slice_get es i ≡ Some e → fold (share_one before) (record { numbers = now; exprs = q.exprs }) (drop i es) ≡ all
    → IsShareStop r (too_many q (share_one before (record { numbers = now; exprs = q.exprs }) e).exprs ≡ true) → IsShareStop r (too_many p all.exprs ≡ true)
many_at_last before i p q now es e all stop.NoMemory least is h many = tt
many_at_last before i p q now es e all stop.Limit least is h many =
    let one = share_one before (record { numbers = now; exprs = q.exprs }) e in
    let whole : fold (share_one before) one (drop (i + 1) es) ≡ all = share_turn before (record { numbers = now; exprs = q.exprs }) one all es i e is refl h in
    let more = grows before one (drop (i + 1) es) in
    many_more (length p.exprs) (length q.exprs) (length one.exprs) (length all.exprs) least (omega (arith, more, ap (λ (z : Shared). length z.exprs) whole)) many

-- one more is too many where there is no room
pub many_where_full : (before : ℕ) (q : Pooled) (now : List ExprId) (e d : Expr) (r : ShareStop) → d ≡ renumbered (number_now before now) e → first_number q.exprs d ≡ None → IsShareStop r (262144 ≤ length q.exprs)
    → IsShareStop r (too_many q (share_one before (record { numbers = now; exprs = q.exprs }) e).exprs ≡ true)
many_where_full before q now e d stop.NoMemory is none full = tt
many_where_full before q now e d stop.Limit is none full =
    let s : Shared = record { numbers = now; exprs = q.exprs } in
    let here : share_one before s e ≡ number_in None (renumbered (number_now before now) e) s = ap (λ o. number_in o (renumbered (number_now before now) e) s) (sym (ap (first_number q.exprs) is) ∙ none) in
    let size = length-append q.exprs (renumbered (number_now before now) e ∷ []) in
    subst (λ (t : Shared). too_many q t.exprs ≡ true) (sym here) (many_from (length q.exprs) (length (q.exprs ++ renumbered (number_now before now) e ∷ [])) (omega (arith, size)) (omega (arith, size, full)))

-- not too many, and then not too many more
few_by_room : (p q : Pooled) (fs : List Expr) → too_many p q.exprs ≡ false → too_many q fs ≡ false → length q.exprs ≤ length fs → (length p.exprs < length fs) × (262144 < length fs) → (b : Bool) → nat_lt (length q.exprs) (length fs) ≡ b → true ≡ false
few_by_room p q fs few fewer more many true f = sym (many_from (length q.exprs) (length fs) (ltb-true (length q.exprs) (length fs) f) many.1) ∙ fewer
few_by_room p q fs few fewer more many false f =
    let past = ltb-false (length q.exprs) (length fs) f in
    sym (many_from (length p.exprs) (length q.exprs) (omega (arith, past, more, many.0)) (omega (arith, past, more, many.1))) ∙ few

pub few_more : (p q : Pooled) (fs : List Expr) → too_many p q.exprs ≡ false → too_many q fs ≡ false → length q.exprs ≤ length fs → too_many p fs ≡ false
few_more p q fs few fewer more = by_test (too_many p fs) refl
  where
    by_test : (b : Bool) → too_many p fs ≡ b → b ≡ false
    by_test false h = refl
    by_test true h = few_by_room p q fs few fewer more (many_parts (length p.exprs) (length fs) h) (nat_lt (length q.exprs) (length fs)) refl

-- none more, or one more where there is room
few_same : (p : Pooled) (fs : List Expr) → length fs ≤ length p.exprs → too_many p fs ≡ false
few_same p fs le = by_test (nat_lt (length p.exprs) (length fs)) refl
  where
    by_test : (b : Bool) → nat_lt (length p.exprs) (length fs) ≡ b → (b && nat_lt 262144 (length fs)) ≡ false
    by_test true h = let first = ltb-true (length p.exprs) (length fs) h in absurd (omega (arith, first, le))
    by_test false h = refl

few_within : (p : Pooled) (fs : List Expr) → length fs ≤ 262144 → too_many p fs ≡ false
few_within p fs le = by_test (nat_lt (length p.exprs) (length fs)) (nat_lt 262144 (length fs)) refl
  where
    by_test : (b c : Bool) → nat_lt 262144 (length fs) ≡ c → (b && c) ≡ false
    by_test b true h = let first = ltb-true 262144 (length fs) h in absurd (omega (arith, first, le))
    by_test true false h = refl
    by_test false false h = refl

-- and then there is room for all of them
pub few_still : (p : Pooled) (fs : List Expr) → length p.exprs ≤ 262144 → too_many p fs ≡ false → length fs ≤ 262144
few_still p fs room few = by_test (nat_lt 262144 (length fs)) refl
  where
    by_test : (b : Bool) → nat_lt 262144 (length fs) ≡ b → length fs ≤ 262144
    by_test false h = omega (arith, ltb-false 262144 (length fs) h)
    by_test true h =
        let past = ltb-true 262144 (length fs) h in
        absurd (false≢true (sym few ∙ many_from (length p.exprs) (length fs) (omega (arith, room, past)) past))

pub few_none : (p q : Pooled) → q ≡ p → too_many p q.exprs ≡ false
few_none p q is = few_same p q.exprs (omega (arith, ap (λ (x : Pooled). length x.exprs) is))

pub few_one : (p q : Pooled) (e : Expr) → length p.exprs < 262144 → q ≡ expr_added p e → too_many p q.exprs ≡ false
few_one p q e room is = few_within p q.exprs (omega (arith, room, ap (λ (x : Pooled). length x.exprs) is, length-append p.exprs (e ∷ [])))

-- ---- the loop

some_at : {A : Type 0} (xs : List A) (i : ℕ) → i < length xs → (x : A) × (slice_get xs i ≡ Some x)
some_at [] i lt = absurd (omega (arith, lt))
some_at (x ∷ xs) zero lt = (x, refl)
some_at (x ∷ xs) (suc i) lt = some_at xs i (omega (arith, lt))

pub share_begin : (p k : Pooled) (n : ℕ) (now : List ExprId) → n ≡ length p.exprs → now ≡ [] → IsPool p → k.signals ≡ p.signals → k.exprs ≡ p.exprs ++ drop (length p.exprs) k.exprs → IsShared n k p now n
share_begin p k n now is none rules signals exprs =
    subst (λ xs. IsShared n k p xs n) (sym none) (subst (λ m. IsShared m k p [] m) (sym is) (shared_none p k rules signals exprs))

pub read_begin : (p : Pooled) (n : ℕ) (now : List ExprId) (more : List Expr) → n ≡ length p.exprs → now ≡ [] → fold (share_one n) (record { numbers = now; exprs = p.exprs }) more ≡ shared p.exprs more
read_begin p n now more is none = ap (λ m. fold (share_one m) (record { numbers = now; exprs = p.exprs }) more) is ∙ ap (λ xs. fold (share_one (length p.exprs)) (record { numbers = xs; exprs = p.exprs }) more) none

module _ (n i : ℕ) (k q : Pooled) (now told : List ExprId) (is : told ≡ now) (s : IsShared n k q now i) (there : i < length k.exprs) where
  pub limit_told : (p : Pooled) (r : ShareStop) → n ≡ length p.exprs → fold (share_one n) (record { numbers = now; exprs = q.exprs }) (drop i k.exprs) ≡ shared p.exprs (drop n k.exprs)
      → ((e : Expr) → slice_get k.exprs i ≡ Some e → IsShareStop r (too_many q (share_one n (record { numbers = told; exprs = q.exprs }) e).exprs ≡ true)) → IsShareStop r (too_many p (shared p.exprs (drop (length p.exprs) k.exprs)).exprs ≡ true)
  limit_told p r first read many =
      let x = some_at k.exprs i there in
      let here : IsShareStop r (too_many q (share_one n (record { numbers = now; exprs = q.exprs }) x.0).exprs ≡ true) = subst (λ xs. IsShareStop r (too_many q (share_one n (record { numbers = xs; exprs = q.exprs }) x.0).exprs ≡ true)) is (many x.0 x.1) in
      let whole = read ∙ ap (λ m. shared p.exprs (drop m k.exprs)) first in
      many_at_last n i p q now k.exprs x.0 (shared p.exprs (drop (length p.exprs) k.exprs)) r (omega (arith, s.least, first)) x.1 whole here

  module _ (r : Pooled) (x : ExprId) (next : List ExprId) (after : next ≡ now ++ x ∷ []) (one : (e : Expr) → slice_get k.exprs i ≡ Some e → share_one n (record { numbers = told; exprs = q.exprs }) e ≡ record { numbers = told ++ x ∷ []; exprs = r.exprs }) where
    one_at : (e : Expr) → slice_get k.exprs i ≡ Some e → share_one n (record { numbers = now; exprs = q.exprs }) e ≡ record { numbers = now ++ x ∷ []; exprs = r.exprs }
    one_at e at = subst (λ xs. share_one n (record { numbers = xs; exprs = q.exprs }) e ≡ record { numbers = xs ++ x ∷ []; exprs = r.exprs }) is (one e at)

    pub share_next : IsPool k → IsPool r → r.signals ≡ q.signals → IsShared n k r next (i + 1)
    share_next rules more_rules signals =
        let e = some_at k.exprs i there in
        subst (λ xs. IsShared n k r xs (i + 1)) (sym after) (next_shared n i k q now rules s e.0 e.1 x r more_rules signals (one_at e.0 e.1))

    pub read_next : (all : Shared) → fold (share_one n) (record { numbers = now; exprs = q.exprs }) (drop i k.exprs) ≡ all → fold (share_one n) (record { numbers = next; exprs = r.exprs }) (drop (i + 1) k.exprs) ≡ all
    read_next all read =
        let e = some_at k.exprs i there in
        ap (λ xs. fold (share_one n) (record { numbers = xs; exprs = r.exprs }) (drop (i + 1) k.exprs)) after
        ∙ share_turn n (record { numbers = now; exprs = q.exprs }) (record { numbers = now ++ x ∷ []; exprs = r.exprs }) all k.exprs i e.0 e.1 (one_at e.0 e.1) read

    pub few_next : (p : Pooled) → too_many p q.exprs ≡ false → too_many q r.exprs ≡ false → too_many p r.exprs ≡ false
    few_next p few fewer =
        let e = some_at k.exprs i there in
        let put = put_one n (record { numbers = now; exprs = q.exprs }) e.0 x r.exprs (one_at e.0 e.1) in
        few_more p q r.exprs few fewer (omega (arith, ap length put.exprs, length-append q.exprs put.more))

-- the rest of the design stays
pub design_next : (a b c : Circuit) → b ≡ record a { pool = record (a.pool) { exprs = b.pool.exprs } } → c ≡ record b { pool = record (b.pool) { exprs = c.pool.exprs } } → c ≡ record a { pool = record (a.pool) { exprs = c.pool.exprs } }
design_next a b c first next = next ∙ ap (λ (x : Circuit). record x { pool = record (x.pool) { exprs = c.pool.exprs } }) first

-- ---- the pool of what is held, put anew

-- the first expressions of a pool
abbrev pub first_of : Pooled → ℕ → Pooled
first_of q i = record q { exprs = take i q.exprs }

-- behind the first ones the next one may come
pub copy_may_come : (p q : Pooled) (i : ℕ) (e d : Expr) → IsPool p → IsPool q → p ≡ first_of q i → slice_get q.exprs i ≡ Some e → d ≡ e → MayCome p d
copy_may_come p q i e d rules all is there copy =
    let size : length p.exprs ≡ i = ap (λ (x : Pooled). length x.exprs) is ∙ take_size q.exprs i (omega (arith, place_below q.exprs i e there)) in
    let exprs : q.exprs ≡ p.exprs ++ drop i q.exprs = take_and_drop q.exprs i ∙ ap (λ (x : Pooled). x.exprs ++ drop i q.exprs) (sym is) in
    let signals : q.signals ≡ p.signals = ap (λ (x : Pooled). x.signals) (sym is) in
    let more : IsMore p q = record { signals = signals; more = drop i q.exprs; exprs = exprs } in
    let st = standing q i e all there in
    let forth : AreSame (form p) (form q) (named e) = same_below (form p) (form q) i (named e) (λ j lt. sym (form_more p q rules more j (omega (arith, lt, size)))) st.names in
    let back : AreSame (form q) (form p) (named e) = same_below (form q) (form p) i (named e) (λ j lt. form_more p q rules more j (omega (arith, lt, size))) st.names in
    let bad = operand_same (form p) (form q) e forth in
    let width = width_same (form p) (form q) p.signals e forth ∙ ap (λ sigs. greatest_width sigs (form q) e) (sym signals) in
    let may : MayCome p e = record {
      askable = record {
        names = subst (λ n. AllBelow n (named e)) (sym size) st.names;
        parts = range_same (form q) (form p) p.signals e back (subst (λ sigs. IsInRange sigs (form q) e) signals st.askable.parts);
      };
      shaped = ap (λ b. shape_stop b (greatest_width p.signals (form p) e)) bad ∙ ap (shape_stop (bad_operand (form q) e)) width ∙ st.accepted;
    } in
    subst (MayCome p) (sym copy) may

pub copy_turn : (p r q : Pooled) (i : ℕ) (e d : Expr) → p ≡ first_of q i → slice_get q.exprs i ≡ Some e → d ≡ e → r ≡ expr_added p d → r ≡ first_of q (i + 1)
copy_turn p r q i e d is there copy added =
    let next : suc i ≡ i + 1 = omega arith in
    added ∙ ap (λ x. expr_added x d) is ∙ ap (λ x. record q { exprs = take i q.exprs ++ x ∷ [] }) copy ∙ ap (λ xs. record q { exprs = xs }) (take_one q.exprs i e there) ∙ ap (first_of q) next

pub copy_end : (p q : Pooled) (i : ℕ) → p ≡ first_of q i → length q.exprs ≤ i → p ≡ q
copy_end p q i is le = is ∙ ap (λ xs. record q { exprs = xs }) (take_past q.exprs i le)

pub copy_begin : (p k q : Pooled) (n : ℕ) → p ≡ record k { exprs = take n k.exprs } → k.signals ≡ q.signals → take n k.exprs ≡ take n q.exprs → p ≡ first_of q n
copy_begin p k q n is signals first = is ∙ ap (λ xs. record k { exprs = xs }) first ∙ ap (λ sigs. record { signals = sigs; exprs = take n q.exprs }) signals
