-- Expressions made anew, one after another.
use Rattle.std.proofs.Common.{◌≡◌, ◌≢◌, ℕ, zero, suc, ◌+◌, ◌-◌, ◌<◌, ◌≤◌, ◌==◌, ◌&&◌, ◌||◌, Bool, true, false, cond, List, [], ◌∷◌, ◌++◌, map, length, Some, None, slice_get, refl, sym, ap, ◌∙◌, subst, arith, append-nil, append_assoc, length-append, ⊎_elim}
use Rattle.std.specs.Prelude.{IsTrue, option_map, option_to_list}
use Rattle.std.specs.List.{AllByRecursion, filter, cons_option, range_with_len}
use Rattle.std.proofs.lemmas.Bool.{false≢true, eqb-true, eq-eqb, cases_lt}
use Rattle.std.proofs.lemmas.Option.{get_or_from_slice_get}
use Rattle.std.proofs.lemmas.List.Elements.{filter-append}
use Rattle.shape_rules.specs.Forms.{Form, unsigned, common}
use Rattle.shape_rules.specs.Operators.{form_of}
use Rattle.shape_rules.specs.Stops.{is_bad_operand, widest}
use Rattle.design_ir.specs.declared.ids.ExprId.{ExprId}
use Rattle.design_ir.specs.declared.signal.Sig.{Sig}
use Rattle.design_ir.specs.declared.expr.Expr.{Expr}
use Rattle.design_ir.specs.declared.expr.Expr.TheVariants as expr
use Rattle.design_ir.specs.Named.{named, AllBelow}
use Rattle.design_ir.specs.Pools.{Pooled}
use Rattle.design_ir.specs.PoolRules.{IsPool, IsAskable, IsInRange, bad_operand, expr_added, greatest_width, shape_stop}
use Rattle.design_ir.specs.Values.{form, form_step, total_width, common_with, common_of_all}
use Rattle.design_ir.specs.Circuits.{is_among}
use Rattle.design_ir.proofs.Equations.{standing, form_is}
use Rattle.flat_design.specs.Growing.{IsMore}
use Rattle.flat_design.proofs.Growing.{form_more, more_added, get_kept}
use Rattle.fragment_walks.specs.Marks.{is_marked}
use Rattle.fragment_walks.proofs.Lists.{all_filtered}
use Rattle.clock_domains.proofs.PortLaws.{range-push}
use Rattle.domain_transforms.specs.declared.controls.NamePair.{NamePair}
use Rattle.domain_transforms.specs.Anew.{AreAnew}
use Rattle.domain_transforms.specs.Changes.{id_of}
use Rattle.std.proofs.Math.Path.{fun_ext}
use Rattle.std.proofs.lemmas.List.{get_or_past}
use Rattle.domain_transforms.specs.Renamed.{anew, holds_renamed, is_within, new_exprs, remade, renamed_expr, renamed_pool}
use Rattle.domain_transforms.proofs.GateLaws.{get_last}
use Rattle.domain_transforms.proofs.PlaceLaws.{filter_map-push}

-- ---- what stands for an expression

pub anew_absent : (n : ℕ) (ks : List ℕ) (e : ExprId) → is_among ks e.0 ≡ false → anew n ks e ≡ e
anew_absent n [] e h = refl
anew_absent n (k ∷ ks) e h = by (k == e.0) (anew_absent (suc n) ks e) h
  where
    by : (b : Bool) → (is_among ks e.0 ≡ false → anew (suc n) ks e ≡ e) → (b || is_among ks e.0) ≡ false → cond b (record { 0 = n }) (anew (suc n) ks e) ≡ e
    by true rest h = absurd (false≢true (sym h))
    by false rest h = rest h

pub anew_at : (n : ℕ) (xs ys : List ℕ) (e : ExprId) → is_among xs e.0 ≡ false → anew n (xs ++ e.0 ∷ ys) e ≡ record { 0 = n + length xs }
anew_at n [] ys e h = ap (λ b. cond b (record { 0 = n }) (anew (suc n) ys e)) (eq-eqb e.0 e.0 refl) ∙ ap (λ m. record { 0 = m }) (let s : n ≡ n + 0 = omega arith in s)
anew_at n (k ∷ xs) ys e h = by (k == e.0) (anew_at (suc n) xs ys e) h
  where
    by : (b : Bool) → (is_among xs e.0 ≡ false → anew (suc n) (xs ++ e.0 ∷ ys) e ≡ record { 0 = suc n + length xs }) → (b || is_among xs e.0) ≡ false → cond b (record { 0 = n }) (anew (suc n) (xs ++ e.0 ∷ ys) e) ≡ record { 0 = n + suc (length xs) }
    by true rest h = absurd (false≢true (sym h))
    by false rest h = rest h ∙ ap (λ m. record { 0 = m }) (let s : suc n + length xs ≡ n + suc (length xs) = omega arith in s)

-- ---- numbers that pass

module _ (test : ℕ → Bool) where
  pub absent : (xs : List ℕ) (k : ℕ) → test k ≡ false → is_among (filter test xs) k ≡ false
  absent [] k h = refl
  absent (x ∷ xs) k h = by (test x) refl (x == k) refl (absent xs k h)
    where
      by : (b : Bool) → test x ≡ b → (d : Bool) → (x == k) ≡ d → is_among (filter test xs) k ≡ false → is_among (cond b (x ∷ filter test xs) (filter test xs)) k ≡ false
      by true e true f rest = absurd (false≢true (sym h ∙ ap test (sym (eqb-true x k f)) ∙ e))
      by true e false f rest = ap (λ c. c || is_among (filter test xs) k) f ∙ rest
      by false e d f rest = rest

  before_absent : (a d k : ℕ) → a + d ≤ k → is_among (filter test (range_with_len a d)) k ≡ false
  before_absent a zero k h = refl
  before_absent a (suc d) k h = by (test a) (a == k) refl (before_absent (a + 1) d k (omega (arith, h)))
    where
      by : (b c : Bool) → (a == k) ≡ c → is_among (filter test (range_with_len (a + 1) d)) k ≡ false → is_among (cond b (a ∷ filter test (range_with_len (a + 1) d)) (filter test (range_with_len (a + 1) d))) k ≡ false
      by true true e rest = absurd (omega (arith, h, eqb-true a k e))
      by true false e rest = ap (λ c. c || is_among (filter test (range_with_len (a + 1) d)) k) e ∙ rest
      by false c e rest = rest

  range_split : (a m d : ℕ) → range_with_len a (m + d) ≡ range_with_len a m ++ range_with_len (a + m) d
  range_split a zero d = ap (range_with_len a) (let s : 0 + d ≡ d = omega arith in s) ∙ ap (λ b. range_with_len b d) (let s : a ≡ a + 0 = omega arith in s)
  range_split a (suc m) d =
      ap (range_with_len a) (let s : suc m + d ≡ suc (m + d) = omega arith in s) ∙ ap (λ ns. a ∷ ns) (range_split (a + 1) m d) ∙ ap (λ b. a ∷ (range_with_len (a + 1) m ++ range_with_len b d)) (let s : a + 1 + m ≡ a + suc m = omega arith in s)

  -- those before number k, and behind them k
  pub split_at : (n k : ℕ) → k < n → test k ≡ true → (ys : List ℕ) × (filter test (range_with_len 0 n) ≡ filter test (range_with_len 0 k) ++ k ∷ ys)
  split_at n k low h =
      let d = n - k - 1 in (
        filter test (range_with_len (k + 1) d),
        ap (λ m. filter test (range_with_len 0 m)) (let s : n ≡ k + suc d = omega (arith, low) in s)
            ∙ ap (filter test) (range_split 0 k (suc d))
            ∙ filter-append test (range_with_len 0 k) (range_with_len (0 + k) (suc d))
            ∙ ap (λ m. filter test (range_with_len 0 k) ++ filter test (range_with_len m (suc d))) (let s : 0 + k ≡ k = omega arith in s)
            ∙ ap (λ b. filter test (range_with_len 0 k) ++ cond b (k ∷ filter test (range_with_len (k + 1) d)) (filter test (range_with_len (k + 1) d))) h,
      )

  numbers_push : (k : ℕ) → filter test (range_with_len 0 (k + 1)) ≡ filter test (range_with_len 0 k) ++ cond (test k) (k ∷ []) []
  numbers_push k =
      ap (filter test) (range-push 0 k) ∙ filter-append test (range_with_len 0 k) ((0 + k) ∷ []) ∙ ap (λ m. filter test (range_with_len 0 k) ++ filter test (m ∷ [])) (let s : 0 + k ≡ k = omega arith in s)

  range_low : (a d n : ℕ) → a + d ≤ n → AllByRecursion (λ j. j < n) (range_with_len a d)
  range_low a zero n h = tt
  range_low a (suc d) n h = (omega (arith, h), range_low (a + 1) d n (omega (arith, h)))

  pub passing_low : (k n : ℕ) → k ≤ n → AllByRecursion (λ j. j < n) (filter test (range_with_len 0 k))
  passing_low k n le = all_filtered (λ j. j < n) test (range_with_len 0 k) (range_low 0 k n (omega (arith, le)))

  pub anew_same : (n k : ℕ) → test k ≡ false → anew n (filter test (range_with_len 0 n)) (record { 0 = k }) ≡ record { 0 = k }
  anew_same n k h = anew_absent n (filter test (range_with_len 0 n)) (record { 0 = k }) (absent (range_with_len 0 n) k h)

  pub anew_new : (n k : ℕ) → k < n → test k ≡ true → anew n (filter test (range_with_len 0 n)) (record { 0 = k }) ≡ record { 0 = n + length (filter test (range_with_len 0 k)) }
  anew_new n k low h =
      let parts = split_at n k low h in
      ap (λ ks. anew n ks (record { 0 = k })) parts.1 ∙ anew_at n (filter test (range_with_len 0 k)) parts.0 (record { 0 = k }) (before_absent 0 k k (omega arith))

-- ---- the new expressions

module _ (names : List NamePair) (to : ExprId → ExprId) (es : List Expr) where
  at_place : (k : ℕ) → k < length es → (e : Expr) × (slice_get es k ≡ Some e)
  at_place k low = go es k low
    where
      go : (xs : List Expr) (k : ℕ) → k < length xs → (e : Expr) × (slice_get xs k ≡ Some e)
      go [] k h = absurd (omega (arith, h))
      go (x ∷ xs) zero h = (x, refl)
      go (x ∷ xs) (suc k) h = go xs k (omega (arith, h))

  pub new_length : (ks : List ℕ) → AllByRecursion (λ j. j < length es) ks → length (new_exprs names to es ks) ≡ length ks
  new_length [] h = refl
  new_length (k ∷ ks) h =
      let x = at_place k h.0 in
      ap (λ o. length (cons_option (option_map (renamed_expr names to) o) (new_exprs names to es ks))) x.1 ∙ ap suc (new_length ks h.1)

  pub new-push : (ks : List ℕ) (k : ℕ) (e : Expr) → slice_get es k ≡ Some e → new_exprs names to es (ks ++ k ∷ []) ≡ new_exprs names to es ks ++ renamed_expr names to e ∷ []
  new-push ks k e at = filter_map-push (λ j. option_map (renamed_expr names to) (slice_get es j)) ks k ∙ ap (λ o. new_exprs names to es ks ++ option_to_list (option_map (renamed_expr names to) o)) at

-- ---- an expression over other parts

map_same : (f g : ExprId → ExprId) (es : List ExprId) → AllByRecursion (λ a. f a ≡ g a) es → map f es ≡ map g es
map_same f g [] h = refl
map_same f g (e ∷ es) h = let a = h.0 in let b = map_same f g es h.1 in cc

pub renamed_same : (names : List NamePair) (f g : ExprId → ExprId) (e : Expr) → AllByRecursion (λ a. f a ≡ g a) (named e) → renamed_expr names f e ≡ renamed_expr names g e
renamed_same names f g (expr.Const n s) h = refl
renamed_same names f g (expr.Sig s) h = refl
renamed_same names f g (expr.Unary op a) h = let x = h.0 in cc
renamed_same names f g (expr.Binary op a b) h = let x = h.0 in let y = h.1.0 in cc
renamed_same names f g (expr.Mux s a b) h = let x = h.0 in let y = h.1.0 in let z = h.1.1.0 in cc
renamed_same names f g (expr.Slice a low width) h = let x = h.0 in cc
renamed_same names f g (expr.Cat es) h = ap expr.Cat (map_same f g es h)
renamed_same names f g (expr.Part a offset width stride) h = let x = h.0 in let y = h.1.0 in cc
renamed_same names f g (expr.Pick index es) h = let x = h.0 in let y = map_same f g es h.1 in cc
renamed_same names f g (expr.Cast a signed) h = let x = h.0 in cc
renamed_same names f g (expr.Matches a patterns) h = let x = h.0 in cc
renamed_same names f g (expr.Reset domain place) h = refl

map_below : (to : ExprId → ExprId) (m : ℕ) (es : List ExprId) → AllByRecursion (λ a. (to a).0 < m) es → AllBelow m (map to es)
map_below to m [] h = tt
map_below to m (e ∷ es) h = (h.0, map_below to m es h.1)

pub renamed_names : (names : List NamePair) (to : ExprId → ExprId) (m : ℕ) (e : Expr) → AllByRecursion (λ a. (to a).0 < m) (named e) → AllBelow m (named (renamed_expr names to e))
renamed_names names to m (expr.Const n s) h = tt
renamed_names names to m (expr.Sig s) h = tt
renamed_names names to m (expr.Unary op a) h = (h.0, tt)
renamed_names names to m (expr.Binary op a b) h = (h.0, (h.1.0, tt))
renamed_names names to m (expr.Mux s a b) h = (h.0, (h.1.0, (h.1.1.0, tt)))
renamed_names names to m (expr.Slice a low width) h = (h.0, tt)
renamed_names names to m (expr.Cat es) h = map_below to m es h
renamed_names names to m (expr.Part a offset width stride) h = (h.0, (h.1.0, tt))
renamed_names names to m (expr.Pick index es) h = (h.0, map_below to m es h.1)
renamed_names names to m (expr.Cast a signed) h = (h.0, tt)
renamed_names names to m (expr.Matches a patterns) h = (h.0, tt)
renamed_names names to m (expr.Reset domain place) h = tt

module _ (names : List NamePair) (to : ExprId → ExprId) (f g : ℕ → Form) where
  abbrev Same : List ExprId → Type 0
  Same es = AllByRecursion (λ (a : ExprId). f (to a).0 ≡ g a.0) es

  total_same : (es : List ExprId) → Same es → total_width f (map to es) ≡ total_width g es
  total_same [] h = refl
  total_same (e ∷ es) h = ap (λ (x : Form). x.width + total_width f (map to es)) h.0 ∙ ap (λ n. (g e.0).width + n) (total_same es h.1)

  with_same : (x : Form) (es : List ExprId) → Same es → common_with f x (map to es) ≡ common_with g x es
  with_same x [] h = refl
  with_same x (e ∷ es) h = ap (λ y. common_with f (common x y) (map to es)) h.0 ∙ with_same (common x (g e.0)) es h.1

  common_same : (es : List ExprId) → Same es → common_of_all f (map to es) ≡ common_of_all g es
  common_same [] h = refl
  common_same (e ∷ es) h = ap (λ x. common_with f x (map to es)) h.0 ∙ with_same (g e.0) es h.1

  pub form_renamed : (sigs : List Sig) (e : Expr) → Same (named e) → form_step sigs f (renamed_expr names to e) ≡ form_step sigs g e
  form_renamed sigs (expr.Const n s) h = refl
  form_renamed sigs (expr.Sig s) h = refl
  form_renamed sigs (expr.Unary op a) h = ap (λ x. form_of op x (unsigned 0)) h.0
  form_renamed sigs (expr.Binary op a b) h = ap (λ x. form_of op x (f (to b).0)) h.0 ∙ ap (λ y. form_of op (g a.0) y) h.1.0
  form_renamed sigs (expr.Mux s a b) h = ap (λ x. common x (f (to b).0)) h.1.0 ∙ ap (λ y. common (g a.0) y) h.1.1.0
  form_renamed sigs (expr.Slice a low width) h = refl
  form_renamed sigs (expr.Cat es) h = ap unsigned (total_same es h)
  form_renamed sigs (expr.Part a offset width stride) h = refl
  form_renamed sigs (expr.Pick index es) h = common_same es h.1
  form_renamed sigs (expr.Cast a signed) h = ap (λ (x : Form). record { width = x.width; signed = signed }) h.0
  form_renamed sigs (expr.Matches a patterns) h = refl
  form_renamed sigs (expr.Reset domain place) h = refl

  some_same : (es : List ExprId) → es ≢ [] → map to es ≢ []
  some_same [] h = λ e. h refl
  some_same (e ∷ es) h = λ k. cc

  pub range_renamed : (sigs : List Sig) (e : Expr) → Same (named e) → IsInRange sigs g e → IsInRange sigs f (renamed_expr names to e)
  range_renamed sigs (expr.Const n s) h r = r
  range_renamed sigs (expr.Sig s) h r = r
  range_renamed sigs (expr.Unary op a) h r = r
  range_renamed sigs (expr.Binary op a b) h r = r
  range_renamed sigs (expr.Mux s a b) h r = r
  range_renamed sigs (expr.Slice a low width) h r = subst (λ (x : Form). low + width ≤ x.width) (sym h.0) r
  range_renamed sigs (expr.Cat es) h r = r
  range_renamed sigs (expr.Part a offset width stride) h r = r
  range_renamed sigs (expr.Pick index es) h r = some_same es r
  range_renamed sigs (expr.Cast a signed) h r = subst (λ (x : Form). IsTrue signed → 1 ≤ x.width) (sym h.0) r
  range_renamed sigs (expr.Matches a patterns) h r = r
  range_renamed sigs (expr.Reset domain place) h r = r

  pub operand_renamed : (e : Expr) → Same (named e) → bad_operand f (renamed_expr names to e) ≡ bad_operand g e
  operand_renamed (expr.Const n s) h = refl
  operand_renamed (expr.Sig s) h = refl
  operand_renamed (expr.Unary op a) h = refl
  operand_renamed (expr.Binary op a b) h = ap (is_bad_operand op) h.1.0
  operand_renamed (expr.Mux s a b) h = refl
  operand_renamed (expr.Slice a low width) h = refl
  operand_renamed (expr.Cat es) h = refl
  operand_renamed (expr.Part a offset width stride) h = ap (λ (x : Form). x.signed) h.1.0
  operand_renamed (expr.Pick index es) h = ap (λ (x : Form). x.signed) h.0
  operand_renamed (expr.Cast a signed) h = refl
  operand_renamed (expr.Matches a patterns) h = refl
  operand_renamed (expr.Reset domain place) h = refl

  pub width_renamed : (sigs : List Sig) (e : Expr) → Same (named e) → greatest_width sigs f (renamed_expr names to e) ≡ greatest_width sigs g e
  width_renamed sigs (expr.Const n s) h = refl
  width_renamed sigs (expr.Sig s) h = refl
  width_renamed sigs (expr.Unary op a) h = ap (λ x. widest op x (unsigned 0)) h.0
  width_renamed sigs (expr.Binary op a b) h = ap (λ x. widest op x (f (to b).0)) h.0 ∙ ap (λ y. widest op (g a.0) y) h.1.0
  width_renamed sigs (expr.Mux s a b) h = ap (λ (x : Form). x.width) (form_renamed sigs (expr.Mux s a b) h)
  width_renamed sigs (expr.Slice a low width) h = refl
  width_renamed sigs (expr.Cat es) h = ap (λ (x : Form). x.width) (form_renamed sigs (expr.Cat es) h)
  width_renamed sigs (expr.Part a offset width stride) h = refl
  width_renamed sigs (expr.Pick index es) h = ap (λ (x : Form). x.width) (form_renamed sigs (expr.Pick index es) h)
  width_renamed sigs (expr.Cast a signed) h = ap (λ (x : Form). x.width) h.0
  width_renamed sigs (expr.Matches a patterns) h = refl
  width_renamed sigs (expr.Reset domain place) h = refl

-- ---- one expression more

pub all_below : {P : ExprId → Type 0} (k : ℕ) (es : List ExprId) → AllBelow k es → ((a : ExprId) → a.0 < k → P a) → AllByRecursion P es
all_below k [] h each = tt
all_below k (e ∷ es) h each = (each e h.0, all_below k es h.1 each)

module _ (names : List NamePair) (q : Pooled) (test : ℕ → Bool) (k : ℕ) (ids : List ExprId) (p : Pooled) (h : AreAnew names q test k ids p) (here : k < length q.exprs) where
  abbrev n : ℕ
  n = length q.exprs

  abbrev ks : List ℕ
  ks = filter test (range_with_len 0 n)

  abbrev before : List ℕ
  before = filter test (range_with_len 0 k)

  more : IsMore q p
  more = record { signals = ap (λ (x : Pooled). x.signals) h.pool; more = new_exprs names (anew n ks) q.exprs before; exprs = ap (λ (x : Pooled). x.exprs) h.pool }

  pub count : length p.exprs ≡ n + length before
  count =
      ap (λ (x : Pooled). length x.exprs) h.pool ∙ length-append q.exprs (new_exprs names (anew n ks) q.exprs before)
      ∙ ap (λ m. n + m) (new_length names (anew n ks) q.exprs before (passing_low test k n (let le : k ≤ n = omega (arith, here) in le)))

  pub at_kept : slice_get p.exprs k ≡ slice_get q.exprs k
  at_kept = ap (λ (x : Pooled). slice_get x.exprs k) h.pool ∙ get_kept q.exprs (new_exprs names (anew n ks) q.exprs before) k here

  table : (a : ExprId) → a.0 < k → id_of ids a ≡ anew n ks a
  table a low = get_or_from_slice_get ids a.0 (anew n ks a) a (h.given a.0 low)

  pushed : (x : ExprId) → anew n ks (record { 0 = k }) ≡ x → (j : ℕ) → j < k + 1 → slice_get (ids ++ x ∷ []) j ≡ Some (anew n ks (record { 0 = j }))
  pushed x is j low =
      ⊎_elim
      (λ (below : j < k). get_kept ids (x ∷ []) j (omega (arith, below, h.size)) ∙ h.given j below)
      (λ (above : k ≤ j). let same : j ≡ length ids = omega (arith, low, above, h.size) in let same' : j ≡ k = omega (arith, low, above) in ap (slice_get (ids ++ x ∷ [])) same ∙ get_last ids x ∙ ap (λ y. Some y) (sym is) ∙ ap (λ m. Some (anew n ks (record { 0 = m }))) (sym same'))
      (cases_lt j k)

  longer : (x : ExprId) → length (ids ++ x ∷ []) ≡ k + 1
  longer x = omega (arith, length-append ids (x ∷ []), h.size)

  -- ---- it stays

  pub turn_same : test k ≡ false → AreAnew names q test (k + 1) (ids ++ record { 0 = k } ∷ []) p
  turn_same fails =
      let same = anew_same test n k fails in record {
        rules = h.rules;
        size = longer (record { 0 = k });
        given = pushed (record { 0 = k }) same;
        pool =
            h.pool ∙ ap (λ xs. record q { exprs = q.exprs ++ new_exprs names (anew n ks) q.exprs xs }) (sym (numbers_push test k ∙ ap (λ b. before ++ cond b (k ∷ []) []) fails ∙ append-nil before));
        there = λ j low. ⊎_elim (λ (below : j < k). h.there j below) (λ (above : k ≤ j). let e : j ≡ k = omega (arith, low, above) in subst (λ m. (anew n ks (record { 0 = m })).0 < length p.exprs) (sym e) (subst (λ (x : ExprId). x.0 < length p.exprs) (sym same) (omega (arith, here, count)))) (cases_lt j k);
        forms = λ j low. ⊎_elim (λ (below : j < k). h.forms j below) (λ (above : k ≤ j). let e : j ≡ k = omega (arith, low, above) in subst (λ m. form p (anew n ks (record { 0 = m })).0 ≡ form q m) (sym e) (ap (λ (x : ExprId). form p x.0) same ∙ form_more q p h.rules more k here)) (cases_lt j k);
      }

  -- ---- it is made anew

  module _ (e : Expr) (at : slice_get q.exprs k ≡ Some e) where
    parts_there : AllByRecursion (λ a. (id_of ids a).0 < length p.exprs) (named e)
    parts_there = all_below k (named e) (standing q k e h.rules at).names (λ a low. subst (λ (x : ExprId). x.0 < length p.exprs) (sym (table a low)) (h.there a.0 low))

    parts_forms : AllByRecursion (λ a. form p (id_of ids a).0 ≡ form q a.0) (named e)
    parts_forms = all_below k (named e) (standing q k e h.rules at).names (λ a low. ap (λ (x : ExprId). form p x.0) (table a low) ∙ h.forms a.0 low)

    pub anew_askable : IsAskable p (renamed_expr names (id_of ids) e)
    anew_askable = record {
      names = renamed_names names (id_of ids) (length p.exprs) e parts_there;
      parts = subst (λ sigs. IsInRange sigs (form p) (renamed_expr names (id_of ids) e)) (sym more.signals) (range_renamed names (id_of ids) (form p) (form q) q.signals e parts_forms (standing q k e h.rules at).askable.parts);
    }

    pub anew_accepted : shape_stop (bad_operand (form p) (renamed_expr names (id_of ids) e)) (greatest_width p.signals (form p) (renamed_expr names (id_of ids) e)) ≡ None
    anew_accepted =
        ap (λ b. shape_stop b (greatest_width p.signals (form p) (renamed_expr names (id_of ids) e))) (operand_renamed names (id_of ids) (form p) (form q) e parts_forms)
        ∙ ap (λ sigs. shape_stop (bad_operand (form q) e) (greatest_width sigs (form p) (renamed_expr names (id_of ids) e))) more.signals
        ∙ ap (shape_stop (bad_operand (form q) e)) (width_renamed names (id_of ids) (form p) (form q) q.signals e parts_forms)
        ∙ (standing q k e h.rules at).accepted

    module _ (p' : Pooled) (id : ExprId) (rules : IsPool p) (rules' : IsPool p') (passes : test k ≡ true) (added : p' ≡ expr_added p (renamed_expr names (id_of ids) e)) (is : id ≡ record { 0 = length p.exprs }) where
      place : anew n ks (record { 0 = k }) ≡ id
      place = anew_new test n k here passes ∙ ap (λ m. record { 0 = m }) (sym count) ∙ sym is

      as_total : renamed_expr names (id_of ids) e ≡ renamed_expr names (anew n ks) e
      as_total = renamed_same names (id_of ids) (anew n ks) e (all_below k (named e) (standing q k e h.rules at).names table)

      grown : IsMore p p'
      grown = subst (IsMore p) (sym added) (more_added p (renamed_expr names (id_of ids) e))

      count' : length p'.exprs ≡ length p.exprs + 1
      count' = ap (λ (x : Pooled). length x.exprs) added ∙ length-append p.exprs (renamed_expr names (id_of ids) e ∷ [])

      new_form : form p' id.0 ≡ form q k
      new_form =
          let stands : slice_get p'.exprs id.0 ≡ Some (renamed_expr names (id_of ids) e) = ap (λ (x : ExprId). slice_get p'.exprs x.0) is ∙ ap (λ (x : Pooled). slice_get x.exprs (length p.exprs)) added ∙ get_last p.exprs (renamed_expr names (id_of ids) e) in
          let kept : AllByRecursion (λ a. form p' (id_of ids a).0 ≡ form q a.0) (named e) =
          all_below k (named e) (standing q k e h.rules at).names (λ a low. form_more p p' rules grown (id_of ids a).0 (subst (λ (x : ExprId). x.0 < length p.exprs) (sym (table a low)) (h.there a.0 low)) ∙ ap (λ (x : ExprId). form p x.0) (table a low) ∙ h.forms a.0 low) in
          form_is p' id.0 (renamed_expr names (id_of ids) e) rules' stands ∙ ap (λ sigs. form_step sigs (form p') (renamed_expr names (id_of ids) e)) (grown.signals ∙ more.signals) ∙ form_renamed names (id_of ids) (form p') (form q) q.signals e kept
          ∙ sym (form_is q k e h.rules at)

      pub turn_new : AreAnew names q test (k + 1) (ids ++ id ∷ []) p'
      turn_new = record {
        rules = h.rules;
        size = longer id;
        given = pushed id place;
        pool =
            added ∙ ap (expr_added p) as_total
            ∙ ap (λ (x : Pooled). expr_added x (renamed_expr names (anew n ks) e)) h.pool
            ∙ ap (λ xs. record q { exprs = xs }) (append_assoc q.exprs (new_exprs names (anew n ks) q.exprs before) (renamed_expr names (anew n ks) e ∷ []))
            ∙ ap (λ xs. record q { exprs = q.exprs ++ xs }) (sym (new-push names (anew n ks) q.exprs before k e at))
            ∙ ap (λ xs. record q { exprs = q.exprs ++ new_exprs names (anew n ks) q.exprs xs }) (sym (numbers_push test k ∙ ap (λ b. before ++ cond b (k ∷ []) []) passes));
        there = λ j low.
            ⊎_elim (λ (below : j < k). omega (arith, h.there j below, count'))
            (λ (above : k ≤ j). let same : j ≡ k = omega (arith, low, above) in subst (λ m. (anew n ks (record { 0 = m })).0 < length p'.exprs) (sym same) (subst (λ (x : ExprId). x.0 < length p'.exprs) (sym place) (omega (arith, ap (λ (x : ExprId). x.0) is, count')))) (cases_lt j k);
        forms = λ j low.
            ⊎_elim (λ (below : j < k). form_more p p' rules grown (anew n ks (record { 0 = j })).0 (h.there j below) ∙ h.forms j below)
            (λ (above : k ≤ j). let same : j ≡ k = omega (arith, low, above) in subst (λ m. form p' (anew n ks (record { 0 = m })).0 ≡ form q m) (sym same) (ap (λ (x : ExprId). form p' x.0) place ∙ new_form)) (cases_lt j k);
      }

-- ---- all of them

filter_agree : (p r : ℕ → Bool) (xs : List ℕ) → AllByRecursion (λ x. p x ≡ r x) xs → filter p xs ≡ filter r xs
filter_agree p r [] h = refl
filter_agree p r (x ∷ xs) h = ap (λ b. cond b (x ∷ filter p xs) (filter p xs)) h.0 ∙ ap (λ ys. cond (r x) (x ∷ ys) ys) (filter_agree p r xs h.1)

range_each : {P : ℕ → Type 0} (a d n : ℕ) → a + d ≤ n → ((k : ℕ) → k < n → P k) → AllByRecursion P (range_with_len a d)
range_each a zero n le each = tt
range_each a (suc d) n le each = (each a (omega (arith, le)), range_each (a + 1) d n (omega (arith, le)) each)

pub are_remade : (names : List NamePair) (q : Pooled) (roots : List ExprId) (within touched : List Bool) → ((k : ℕ) → k < length q.exprs → is_marked within k ≡ is_within q roots k) → ((k : ℕ) → is_marked touched k ≡ holds_renamed names q k)
    → filter (λ k. is_marked within k && is_marked touched k) (range_with_len 0 (length q.exprs)) ≡ remade names q roots
unfolding remade
are_remade names q roots within touched a b =
    filter_agree (λ k. is_marked within k && is_marked touched k) (λ k. is_within q roots k && holds_renamed names q k) (range_with_len 0 (length q.exprs))
    (range_each 0 (length q.exprs) (length q.exprs) (omega arith) (λ k low. ap (λ c. c && is_marked touched k) (a k low) ∙ ap (λ c. is_within q roots k && c) (b k)))

module _ (names : List NamePair) (q : Pooled) (test : ℕ → Bool) (ids : List ExprId) (p : Pooled) (h : AreAnew names q test (length q.exprs) ids p) where
  one_id : (e : ExprId) → id_of ids e ≡ anew (length q.exprs) (filter test (range_with_len 0 (length q.exprs))) e
  one_id e =
      ⊎_elim (λ (below : e.0 < length q.exprs). get_or_from_slice_get ids e.0 (anew (length q.exprs) (filter test (range_with_len 0 (length q.exprs))) e) e (h.given e.0 below))
      (λ (past : length q.exprs ≤ e.0). get_or_past ids e.0 e (omega (arith, past, h.size)) ∙ sym (anew_absent (length q.exprs) (filter test (range_with_len 0 (length q.exprs))) e (before_absent test 0 (length q.exprs) e.0 (omega (arith, past)))))
      (cases_lt e.0 (length q.exprs))

  pub are_ids : (news : List ℕ) → filter test (range_with_len 0 (length q.exprs)) ≡ news → id_of ids ≡ anew (length q.exprs) news
  are_ids news is = fun_ext one_id ∙ ap (anew (length q.exprs)) is

  pub are_pool : (news : List ℕ) → filter test (range_with_len 0 (length q.exprs)) ≡ news → p ≡ renamed_pool names q news
  are_pool news is = h.pool ∙ ap (renamed_pool names q) is
