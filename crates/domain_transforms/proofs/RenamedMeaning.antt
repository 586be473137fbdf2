-- Expressions that are made anew mean what they meant.
use Rattle.std.specs.Prelude.{◌≡◌, refl, ℕ, zero, suc, ◌+◌, ◌*◌, ◌^◌, ◌<◌, ◌≤◌, ◌==◌, ◌&&◌, ◌||◌, Bool, true, false, cond, is_some, List, [], ◌∷◌, ◌++◌, map, length, take, drop, slice_get, ℤ, pos, unsigned_abs, Option, Some, None, option_map, unwrap_or}
use Rattle.std.specs.List.{AllByRecursion, cons_option, filter, flat_map, list_any, range_with_len}
use Rattle.std.proofs.Common.{sym, ◌∙◌, ap, arith, subst}
use Rattle.std.proofs.lemmas.Bool.{false≢true, eqb-true, eq-eqb}
use Rattle.std.proofs.lemmas.List.Elements.{filter_map-append}
use Rattle.std.proofs.lemmas.List.Concat.{flat_map-append}
use Rattle.amh_bits.specs.Patterns.{nat_bit, pattern, wrap}
use Rattle.shape_rules.specs.Forms.{Form, unsigned}
use Rattle.shape_rules.specs.Operators.{is_zero, integer_of, truth}
use Rattle.amh_host.specs.declared.place.Place.{Place}
use Rattle.design_ir.specs.declared.ids.ExprId.{ExprId}
use Rattle.design_ir.specs.declared.ids.SigId.{SigId}
use Rattle.design_ir.specs.declared.domain.Domain.{Domain}
use Rattle.design_ir.specs.declared.expr.Expr.{Expr}
use Rattle.design_ir.specs.declared.expr.Expr.TheVariants as expr
use Rattle.design_ir.specs.Named.{named, AllBelow}
use Rattle.design_ir.specs.Trees.{Statement, assign, choose, Choices, none, arm, Block, done, next}
use Rattle.design_ir.specs.Pools.{Pooled}
use Rattle.design_ir.specs.PoolRules.{IsPool}
use Rattle.design_ir.specs.Values.{bits_from, form, matches, num, value_step, joined, picked, signal_form, common_of_all}
use Rattle.design_ir.specs.Targets.{Bit, signals_step, target_bits, target_signals, target_step, padded}
use Rattle.design_ir.specs.Put.{put, put_bits, put_place, put_statement, put_choices, put_number}
use Rattle.design_ir.specs.Guards.{block_exprs, choices_exprs, statement_exprs}
use Rattle.design_ir.specs.Circuits.{is_among}
use Rattle.design_ir.proofs.Congruence.{AreSame, same_below}
use Rattle.design_ir.proofs.Equations.{answer_at, form_is, num_is, place_below, standing}
use Rattle.design_ir.proofs.NumbersFit.{element}
use Rattle.design_ir.proofs.TargetLaws.{target_is}
use Rattle.flat_design.proofs.Growing.{get_kept}
use Rattle.fragment_walks.specs.Marks.{numbers}
use Rattle.fragment_walks.specs.Reads.{block_targets, choices_targets, statement_targets}
use Rattle.fragment_walks.proofs.Lists.{all_imp, all_left, all_right, any-append, below_all, or_none}
use Rattle.fragment_walks.proofs.Outs.{among_flat, target_signals_is}
use Rattle.clock_domains.proofs.DriverLaws.{driven_flat}
use Rattle.fragment_laws.specs.Surroundings.{or_signal, pool_in, read_in, reset_of}
use Rattle.domain_transforms.specs.declared.controls.NamePair.{NamePair}
use Rattle.domain_transforms.specs.Controlled.{is_renamed, name_after, pair_of}
use Rattle.domain_transforms.specs.Renamed.{holds_renamed, inside, is_within, new_exprs, remade, renamed_block, renamed_choices, renamed_expr, renamed_pool, renamed_statement, renamed_test}
use Rattle.domain_transforms.specs.Laws.{HaveTheirResets, MeansAs, new_id, read_after, RenamedExpressionsStay, RenamedStatementsDrive, RenamedStatementsStay}
use Rattle.domain_transforms.proofs.AnewLaws.{anew_new, anew_same, form_renamed, new_length, passing_low, split_at}
use Rattle.domain_transforms.proofs.RootLaws.{inside_lead}

-- ---- what stands in an expression stands where it does

or_split : (a b c : Bool) → (a ≡ true → c ≡ true) → (b ≡ true → c ≡ true) → (a || b) ≡ true → c ≡ true
or_split true b c f g h = f refl
or_split false b c f g h = g h

or_right : (a b : Bool) → b ≡ true → (a || b) ≡ true
or_right true b h = refl
or_right false b h = h

-- a test of some numbers that holds for one of them that is among them
any_among : (t : ℕ → Bool) (xs : List ℕ) (k : ℕ) → is_among xs k ≡ true → t k ≡ true → list_any t xs ≡ true
any_among t [] k h yes' = absurd (false≢true h)
any_among t (x ∷ xs) k h yes' = by (x == k) refl h (λ g. any_among t xs k g yes')
  where
    by : (b : Bool) → (x == k) ≡ b → (b || is_among xs k) ≡ true → (is_among xs k ≡ true → list_any t xs ≡ true) → (t x || list_any t xs) ≡ true
    by true e h rest = ap (λ c. c || list_any t xs) (ap t (eqb-true x k e) ∙ yes')
    by false e h rest = or_right (t x) (list_any t xs) (rest h)

-- where one of some numbers passes a test, each of which implies another, one passes that
any_weaker : (t u : ℕ → Bool) (n : ℕ) (xs : List ℕ) → AllByRecursion (λ x. x < n) xs → ((x : ℕ) → x < n → t x ≡ true → u x ≡ true) → list_any t xs ≡ true → list_any u xs ≡ true
any_weaker t u n [] low f h = h
any_weaker t u n (x ∷ xs) low f h =
    or_split (t x) (list_any t xs) (u x || list_any u xs) (λ a. ap (λ c. c || list_any u xs) (f x low.0 a)) (λ b. or_right (u x) (list_any u xs) (any_weaker t u n xs low.1 f b)) h

module _ (q : Pooled) (rules : IsPool q) where
  -- by the number of the outer expression
  inside_through : (bound r k a : ℕ) → r < bound → r < length q.exprs → is_among (inside q r) k ≡ true → is_among (inside q k) a ≡ true → is_among (inside q r) a ≡ true
  inside_through zero r k a low there h g = absurd (omega (arith, low))
  inside_through (suc bound) r k a low there h g =
      let x = element q.exprs r there in
      let parts : List ℕ = numbers (named x.0) in
      let names = below_all r (named x.0) (standing q r x.0 rules x.1).names in
      let whole : (is_among parts k || list_any (λ j. is_among (inside q j) k) parts) ≡ true = sym (inside_lead q r x.0 k rules x.1) ∙ h in
      inside_lead q r x.0 a rules x.1
      ∙ or_right (is_among parts a) (list_any (λ j. is_among (inside q j) a) parts)
      (or_split (is_among parts k) (list_any (λ j. is_among (inside q j) k) parts) (list_any (λ j. is_among (inside q j) a) parts) (λ own. any_among (λ j. is_among (inside q j) a) parts k own g)
      (λ deep. any_weaker (λ j. is_among (inside q j) k) (λ j. is_among (inside q j) a) r parts names (λ j less within. inside_through bound j k a (omega (arith, less, low)) (omega (arith, less, there)) within g) deep) whole)

  -- the parts of what is within are within
  part_within : (roots : List ExprId) (k : ℕ) (e : Expr) (a : ℕ) → AllByRecursion (λ r. r < length q.exprs) (numbers roots) → slice_get q.exprs k ≡ Some e → is_among (numbers (named e)) a ≡ true → is_within q roots k ≡ true → is_within q roots a ≡ true
  part_within roots k e a low at part h =
      let rs : List ℕ = numbers roots in
      let direct : is_among (inside q k) a ≡ true = inside_lead q k e a rules at ∙ ap (λ b. b || list_any (λ j. is_among (inside q j) a) (numbers (named e))) part in
      let deep : is_among (flat_map (inside q) rs) a ≡ list_any (λ r. is_among (inside q r) a) rs = among_flat (inside q) rs a in
      let whole : (is_among rs k || list_any (λ r. is_among (inside q r) k) rs) ≡ true = sym (any-append (λ x. x == k) rs (flat_map (inside q) rs) ∙ ap (λ b. is_among rs k || b) (among_flat (inside q) rs k)) ∙ h in
      any-append (λ x. x == a) rs (flat_map (inside q) rs)
      ∙ or_right (is_among rs a) (is_among (flat_map (inside q) rs) a)
      (deep
      ∙ or_split (is_among rs k) (list_any (λ r. is_among (inside q r) k) rs) (list_any (λ r. is_among (inside q r) a) rs) (λ own. any_among (λ r. is_among (inside q r) a) rs k own direct)
      (λ far. any_weaker (λ r. is_among (inside q r) k) (λ r. is_among (inside q r) a) (length q.exprs) rs low (λ r less within. inside_through (suc r) r k a (omega arith) less within direct) far) whole)

-- ---- what stands for an expression

map_get : {A B : Type 0} (f : A → B) (xs : List A) (k : ℕ) (x : A) → slice_get xs k ≡ Some x → slice_get (map f xs) k ≡ Some (f x)
map_get f [] k x h = absurd cc
map_get f (y ∷ xs) zero x h = let same : y ≡ x = cc in ap (λ z. Some (f z)) same
map_get f (y ∷ xs) (suc k) x h = map_get f xs k x h

get_behind : {A : Type 0} (xs ys : List A) (k : ℕ) → slice_get (xs ++ ys) (length xs + k) ≡ slice_get ys k
get_behind [] ys k = ap (slice_get ys) (let e : 0 + k ≡ k = omega arith in e)
get_behind (x ∷ xs) ys k = ap (slice_get (x ∷ (xs ++ ys))) (let e : suc (length xs) + k ≡ suc (length xs + k) = omega arith in e) ∙ get_behind xs ys k

renamed_is : (names : List NamePair) (q : Pooled) (k : ℕ) (e : Expr) → IsPool q → slice_get q.exprs k ≡ Some e → holds_renamed names q k ≡ renamed_test names (holds_renamed names q) e
unfolding holds_renamed
renamed_is names q k e rules at = answer_at false (renamed_test names) q.exprs k e at (λ f g same. test_same f g e (same_below f g k (named e) same (standing q k e rules at).names))
  where
    any_same : (f g : ℕ → Bool) (es : List ExprId) → AreSame f g es → list_any (λ (e : ExprId). f e.0) es ≡ list_any (λ (e : ExprId). g e.0) es
    any_same f g [] h = refl
    any_same f g (e ∷ es) h = let a = h.0 in let b = any_same f g es h.1 in cc

    test_same : (f g : ℕ → Bool) (e : Expr) → AreSame f g (named e) → renamed_test names f e ≡ renamed_test names g e
    test_same f g (expr.Reset domain place) h = refl
    test_same f g e h = any_same f g (named e) h

-- an expression in which no renamed reset stands is as it was
kept_name : (names : List NamePair) (name : List ℕ) → is_renamed names name ≡ false → name_after names name ≡ name
kept_name names name h = by (pair_of names name) refl h
  where
    by : (o : Option NamePair) → pair_of names name ≡ o → is_some o ≡ false → name_after names name ≡ name
    by None e h = ap (λ o. unwrap_or (option_map (λ (x : NamePair). x.after) o) name) e
    by (Some x) e h = absurd (false≢true (sym h))

none_in : (t : ℕ → Bool) (es : List ExprId) → list_any (λ (e : ExprId). t e.0) es ≡ false → AllByRecursion (λ (e : ExprId). t e.0 ≡ false) es
none_in t [] h = tt
none_in t (e ∷ es) h = let parts = or_none (t e.0) (list_any (λ (x : ExprId). t x.0) es) h in (parts.0, none_in t es parts.1)

map_same : (to : ExprId → ExprId) (es : List ExprId) → AllByRecursion (λ a. to a ≡ a) es → map to es ≡ es
map_same to [] h = refl
map_same to (e ∷ es) h = let a = h.0 in let b = map_same to es h.1 in cc

as_it_was : (names : List NamePair) (to : ExprId → ExprId) (t : ℕ → Bool) (e : Expr) → renamed_test names t e ≡ false → ((a : ExprId) → t a.0 ≡ false → to a ≡ a) → renamed_expr names to e ≡ e
as_it_was names to t (expr.Const n s) h same = refl
as_it_was names to t (expr.Sig s) h same = refl
as_it_was names to t (expr.Unary op a) h same = ap (expr.Unary op) (same a (none_in t (a ∷ []) h).0)
as_it_was names to t (expr.Binary op a b) h same = let x = same a (none_in t (a ∷ b ∷ []) h).0 in let y = same b (none_in t (a ∷ b ∷ []) h).1.0 in cc
as_it_was names to t (expr.Mux s a b) h same =
    let all = none_in t (s ∷ a ∷ b ∷ []) h in
    let x = same s all.0 in let y = same a all.1.0 in let z = same b all.1.1.0 in cc
as_it_was names to t (expr.Slice a low width) h same = let x = same a (none_in t (a ∷ []) h).0 in cc
as_it_was names to t (expr.Cat es) h same = ap expr.Cat (map_same to es (all_imp (λ a none'. same a none') es (none_in t es h)))
as_it_was names to t (expr.Part a offset width stride) h same =
    let all = none_in t (a ∷ offset ∷ []) h in
    let x = same a all.0 in let y = same offset all.1.0 in cc
as_it_was names to t (expr.Pick index es) h same =
    let all = none_in t (index ∷ es) h in
    let x = same index all.0 in let y = map_same to es (all_imp (λ a none'. same a none') es all.1) in cc
as_it_was names to t (expr.Cast a signed) h same = let x = same a (none_in t (a ∷ []) h).0 in cc
as_it_was names to t (expr.Matches a patterns) h same = let x = same a (none_in t (a ∷ []) h).0 in cc
as_it_was names to t (expr.Reset domain place) h same = ap (λ n. expr.Reset n place) (kept_name names domain h)

module _ (names : List NamePair) (q : Pooled) (roots : List ExprId) (rules : IsPool q) where
  abbrev test : ℕ → Bool
  test k = is_within q roots k && holds_renamed names q k

  abbrev to : ExprId → ExprId
  to = new_id names q roots

  abbrev given : Pooled
  given = renamed_pool names q (remade names q roots)

  same_id : (a : ExprId) → holds_renamed names q a.0 ≡ false → to a ≡ a
  unfolding remade
  same_id a h = anew_same test (length q.exprs) a.0 (ap (λ b. is_within q roots a.0 && b) h ∙ and_false (is_within q roots a.0))
    where
      and_false : (b : Bool) → (b && false) ≡ false
      and_false true = refl
      and_false false = refl

  -- of what is within, the renamed expression stands in the new pool
  pub stands : (k : ℕ) (e : Expr) → slice_get q.exprs k ≡ Some e → is_within q roots k ≡ true → slice_get given.exprs (to (record { 0 = k })).0 ≡ Some (renamed_expr names to e)
  unfolding remade
  stands k e at within = by (holds_renamed names q k) refl
    where
      by : (b : Bool) → holds_renamed names q k ≡ b → slice_get given.exprs (to (record { 0 = k })).0 ≡ Some (renamed_expr names to e)
      by false h =
          ap (λ (x : ExprId). slice_get given.exprs x.0) (same_id (record { 0 = k }) h)
          ∙ get_kept q.exprs (new_exprs names to q.exprs (remade names q roots)) k (place_below q.exprs k e at) ∙ at
          ∙ ap (λ x. Some x) (sym (as_it_was names to (holds_renamed names q) e (sym (renamed_is names q k e rules at) ∙ h) same_id))
      by true h =
          let low = place_below q.exprs k e at in
          let passes : test k ≡ true = ap (λ b. b && holds_renamed names q k) within ∙ h in
          let before : List ℕ = filter test (range_with_len 0 k) in
          let parts = split_at test (length q.exprs) k low passes in
          let size : length (new_exprs names to q.exprs before) ≡ length before = new_length names to q.exprs before (passing_low test k (length q.exprs) (let le : k ≤ length q.exprs = omega (arith, low) in le)) in
          let tail : List Expr = new_exprs names to q.exprs parts.0 in
          let here : new_exprs names to q.exprs (before ++ k ∷ parts.0) ≡ new_exprs names to q.exprs before ++ renamed_expr names to e ∷ tail =
          filter_map-append (λ j. option_map (renamed_expr names to) (slice_get q.exprs j)) before (k ∷ parts.0) ∙ ap (λ o. new_exprs names to q.exprs before ++ cons_option (option_map (renamed_expr names to) o) tail) at in
          ap (λ (x : ExprId). slice_get given.exprs x.0) (anew_new test (length q.exprs) k low passes)
          ∙ get_behind q.exprs (new_exprs names to q.exprs (remade names q roots)) (length before)
          ∙ ap (λ ks. slice_get (new_exprs names to q.exprs ks) (length before)) parts.1
          ∙ ap (λ xs. slice_get xs (length before)) here
          ∙ ap (slice_get (new_exprs names to q.exprs before ++ renamed_expr names to e ∷ tail)) (let z : length before ≡ length (new_exprs names to q.exprs before) + 0 = omega (arith, size) in z)
          ∙ get_behind (new_exprs names to q.exprs before) (renamed_expr names to e ∷ tail) 0

-- ---- integers and places over other parts

module _ (names : List NamePair) (to : ExprId → ExprId) (f g : ℕ → Form) (n m : ℕ → ℤ) (env : List ℤ) where
  abbrev Alike : List ExprId → Type 0
  Alike es = AllByRecursion (λ (a : ExprId). (f (to a).0 ≡ g a.0) × (n (to a).0 ≡ m a.0)) es

  joined_same : (es : List ExprId) → Alike es → joined f n (map to es) ≡ joined g m es
  joined_same [] h = refl
  joined_same (e ∷ es) h =
      ap (λ (x : Form). pattern x.width (n (to e).0) + 2 ^ x.width * joined f n (map to es)) h.0.0
      ∙ ap (λ z. pattern (g e.0).width z + 2 ^ (g e.0).width * joined f n (map to es)) h.0.1
      ∙ ap (λ z. pattern (g e.0).width (m e.0) + 2 ^ (g e.0).width * z) (joined_same es h.1)

  numbers_same : (es : List ExprId) → Alike es → map (λ (e : ExprId). n e.0) (map to es) ≡ map (λ (e : ExprId). m e.0) es
  numbers_same [] h = refl
  numbers_same (e ∷ es) h = ap (λ z. z ∷ map (λ (e : ExprId). n e.0) (map to es)) h.0.1 ∙ ap (λ zs. m e.0 ∷ zs) (numbers_same es h.1)

  value_renamed : (e : Expr) → Alike (named e) → value_step f env n (renamed_expr names to e) ≡ value_step g env m e
  value_renamed (expr.Const k s) h = refl
  value_renamed (expr.Sig s) h = refl
  value_renamed (expr.Unary op a) h = ap (λ x. integer_of op x (n (to a).0) (unsigned 0) (pos 0)) h.0.0 ∙ ap (λ z. integer_of op (g a.0) z (unsigned 0) (pos 0)) h.0.1
  value_renamed (expr.Binary op a b) h =
      ap (λ x. integer_of op x (n (to a).0) (f (to b).0) (n (to b).0)) h.0.0 ∙ ap (λ z. integer_of op (g a.0) z (f (to b).0) (n (to b).0)) h.0.1
      ∙ ap (λ x. integer_of op (g a.0) (m a.0) x (n (to b).0)) h.1.0.0 ∙ ap (λ z. integer_of op (g a.0) (m a.0) (g b.0) z) h.1.0.1
  value_renamed (expr.Mux s a b) h =
      ap (λ z. cond (is_zero z) (n (to b).0) (n (to a).0)) h.0.1 ∙ ap (λ z. cond (is_zero (m s.0)) (n (to b).0) z) h.1.0.1 ∙ ap (λ z. cond (is_zero (m s.0)) z (m a.0)) h.1.1.0.1
  value_renamed (expr.Slice a low width) h = ap (λ z. value_step g env (λ k. z) (expr.Slice a low width)) h.0.1
  value_renamed (expr.Cat es) h = ap pos (joined_same es h)
  value_renamed (expr.Part a offset width stride) h =
      ap (λ z. pos (bits_from (unsigned_abs (n (to offset).0) * stride) width z)) h.0.1 ∙ ap (λ z. pos (bits_from (unsigned_abs z * stride) width (m a.0))) h.1.0.1
  value_renamed (expr.Pick index es) h =
      ap (λ xs. picked (pos 0) xs (unsigned_abs (n (to index).0))) (numbers_same es h.1) ∙ ap (λ z. picked (pos 0) (map (λ (e : ExprId). m e.0) es) (unsigned_abs z)) h.0.1
  value_renamed (expr.Cast a signed) h = ap (λ (x : Form). wrap signed x.width (n (to a).0)) h.0.0 ∙ ap (λ z. wrap signed (g a.0).width z) h.0.1
  value_renamed (expr.Matches a patterns) h =
      ap (λ (x : Form). truth (list_any (λ p. matches p (pattern x.width (n (to a).0))) patterns)) h.0.0 ∙ ap (λ z. truth (list_any (λ p. matches p (pattern (g a.0).width z)) patterns)) h.0.1
  value_renamed (expr.Reset domain place) h = refl

  module _ (sf : ℕ → Form) (u v : ℕ → List (Option Bit)) where
    abbrev Placed : List ExprId → Type 0
    Placed es = AllByRecursion (λ (a : ExprId). u (to a).0 ≡ v a.0) es

    flat_same : (es : List ExprId) → Placed es → flat_map (λ (e : ExprId). u e.0) (map to es) ≡ flat_map (λ (e : ExprId). v e.0) es
    flat_same [] h = refl
    flat_same (e ∷ es) h = ap (λ z. z ++ flat_map (λ (e : ExprId). u e.0) (map to es)) h.0 ∙ ap (λ z. v e.0 ++ z) (flat_same es h.1)

    lists_same : (es : List ExprId) → Placed es → map (λ (e : ExprId). u e.0) (map to es) ≡ map (λ (e : ExprId). v e.0) es
    lists_same [] h = refl
    lists_same (e ∷ es) h = ap (λ z. z ∷ map (λ (e : ExprId). u e.0) (map to es)) h.0 ∙ ap (λ zs. v e.0 ∷ zs) (lists_same es h.1)

    target_renamed : (e : Expr) → Alike (named e) → Placed (named e) → ((es : List ExprId) (i : ExprId) → e ≡ expr.Pick i es → common_of_all f (map to es) ≡ common_of_all g es)
        → target_step sf f n u (renamed_expr names to e) ≡ target_step sf g m v e
    target_renamed (expr.Const k s) h p c = refl
    target_renamed (expr.Sig s) h p c = refl
    target_renamed (expr.Unary op a) h p c = refl
    target_renamed (expr.Binary op a b) h p c = refl
    target_renamed (expr.Mux s a b) h p c = refl
    target_renamed (expr.Slice a low width) h p c = ap (λ z. take width (drop low z)) p.0
    target_renamed (expr.Cat es) h p c = flat_same es p
    target_renamed (expr.Part a offset width stride) h p c = ap (λ z. padded width (drop (unsigned_abs (n (to offset).0) * stride) z)) p.0 ∙ ap (λ z. padded width (drop (unsigned_abs z * stride) (v a.0))) h.1.0.1
    target_renamed (expr.Pick index es) h p c =
        ap (λ (x : Form). padded x.width (picked [] (map (λ (e : ExprId). u e.0) (map to es)) (unsigned_abs (n (to index).0)))) (c es index refl)
        ∙ ap (λ xs. padded (common_of_all g es).width (picked [] xs (unsigned_abs (n (to index).0)))) (lists_same es p.1)
        ∙ ap (λ z. padded (common_of_all g es).width (picked [] (map (λ (e : ExprId). v e.0) es) (unsigned_abs z))) h.0.1
    target_renamed (expr.Cast a signed) h p c = p.0
    target_renamed (expr.Matches a patterns) h p c = refl
    target_renamed (expr.Reset domain place) h p c = refl

module _ (names : List NamePair) (to : ExprId → ExprId) (u v : ℕ → List ℕ) where
  signals_flat : (es : List ExprId) → AllByRecursion (λ (a : ExprId). u (to a).0 ≡ v a.0) es → flat_map (λ (e : ExprId). u e.0) (map to es) ≡ flat_map (λ (e : ExprId). v e.0) es
  signals_flat [] h = refl
  signals_flat (e ∷ es) h = ap (λ z. z ++ flat_map (λ (e : ExprId). u e.0) (map to es)) h.0 ∙ ap (λ z. v e.0 ++ z) (signals_flat es h.1)

  signals_renamed : (e : Expr) → AllByRecursion (λ (a : ExprId). u (to a).0 ≡ v a.0) (named e) → signals_step u (renamed_expr names to e) ≡ signals_step v e
  signals_renamed (expr.Const k s) p = refl
  signals_renamed (expr.Sig s) p = refl
  signals_renamed (expr.Unary op a) p = refl
  signals_renamed (expr.Binary op a b) p = refl
  signals_renamed (expr.Mux s a b) p = refl
  signals_renamed (expr.Slice a low width) p = p.0
  signals_renamed (expr.Cat es) p = signals_flat es p
  signals_renamed (expr.Part a offset width stride) p = p.0
  signals_renamed (expr.Pick index es) p = signals_flat es p.1
  signals_renamed (expr.Cast a signed) p = p.0
  signals_renamed (expr.Matches a patterns) p = refl
  signals_renamed (expr.Reset domain place) p = refl

-- ---- all expressions of the fragment

parts_of : {P : ExprId → Type 0} (k : ℕ) (es : List ExprId) → AllBelow k es → ((a : ExprId) → a.0 < k → is_among (numbers es) a.0 ≡ true → P a) → AllByRecursion P es
parts_of k [] low each = tt
parts_of k (e ∷ es) low each =
    (each e low.0 (ap (λ b. b || is_among (numbers es) e.0) (eq-eqb e.0 e.0 refl)), parts_of k es low.1 (λ a less within. each a less (or_right (e.0 == a.0) (is_among (numbers es) a.0) within)))

module _ (names : List NamePair) (q : Pooled) (roots : List ExprId) (before after : List Domain) (env : List ℤ) (rules : IsPool q) (rules0 : IsPool (pool_in before q)) (rules1 : IsPool (read_after names q roots after)) (resets : HaveTheirResets names before after) (low : AllBelow (length q.exprs) roots) where
  abbrev r0 : Pooled
  r0 = pool_in before q

  abbrev r1 : Pooled
  r1 = read_after names q roots after

  abbrev new : ExprId → ExprId
  new = new_id names q roots

  abbrev Means : ℕ → Type 0
  Means k = MeansAs r1 r0 env k (new (record { 0 = k })).0

  plain : (k : ℕ) (e : Expr) → slice_get q.exprs k ≡ Some e → is_within q roots k ≡ true → read_in before e ≡ e → read_in after (renamed_expr names new e) ≡ renamed_expr names new e → AllByRecursion (λ (a : ExprId). Means a.0) (named e)
      → ((es : List ExprId) (i : ExprId) → e ≡ expr.Pick i es → common_of_all (form r1) (map new es) ≡ common_of_all (form r0) es) → Means k
  plain k e at within old renewed parts common =
      let here0 : slice_get r0.exprs k ≡ Some e = map_get (read_in before) q.exprs k e at ∙ ap (λ x. Some x) old in
      let j : ℕ = (new (record { 0 = k })).0 in
      let here1 : slice_get r1.exprs j ≡ Some (renamed_expr names new e) = map_get (read_in after) (renamed_pool names q (remade names q roots)).exprs j (renamed_expr names new e) (stands names q roots rules k e at within) ∙ ap (λ x. Some x) renewed in
      let both = all_imp (λ (a : ExprId) (h : Means a.0). (h.shape, h.value)) (named e) parts in
      record {
        shape = form_is r1 j (renamed_expr names new e) rules1 here1 ∙ form_renamed names new (form r1) (form r0) q.signals e (all_imp (λ (a : ExprId) (h : Means a.0). h.shape) (named e) parts) ∙ sym (form_is r0 k e rules0 here0);
        value = num_is r1 env j (renamed_expr names new e) rules1 here1 ∙ value_renamed names new (form r1) (form r0) (num r1 env) (num r0 env) env e both ∙ sym (num_is r0 env k e rules0 here0);
        places =
            target_is r1 env j (renamed_expr names new e) rules1 here1
            ∙ target_renamed names new (form r1) (form r0) (num r1 env) (num r0 env) env (signal_form q.signals) (target_bits r1 env) (target_bits r0 env) e both (all_imp (λ (a : ExprId) (h : Means a.0). h.places) (named e) parts) common
            ∙ sym (target_is r0 env k e rules0 here0);
        signals =
            target_signals_is r1 j (renamed_expr names new e) rules1 here1 ∙ signals_renamed names new (target_signals r1) (target_signals r0) e (all_imp (λ (a : ExprId) (h : Means a.0). h.signals) (named e) parts)
            ∙ sym (target_signals_is r0 k e rules0 here0);
      }

  by_reset : (k : ℕ) (d : List ℕ) (pl : Place) → slice_get q.exprs k ≡ Some (expr.Reset d pl) → is_within q roots k ≡ true → (o : Option SigId) → reset_of before d ≡ o → Means k
  by_reset k d pl at within o is =
      let j : ℕ = (new (record { 0 = k })).0 in
      let renamed' : Expr = expr.Reset (name_after names d) pl in
      let here0 : slice_get r0.exprs k ≡ Some (or_signal (expr.Reset d pl) o) = map_get (read_in before) q.exprs k (expr.Reset d pl) at ∙ ap (λ x. Some (or_signal (expr.Reset d pl) x)) is in
      let here1 : slice_get r1.exprs j ≡ Some (or_signal renamed' o) =
      map_get (read_in after) (renamed_pool names q (remade names q roots)).exprs j renamed' (stands names q roots rules k (expr.Reset d pl) at within) ∙ ap (λ x. Some (or_signal renamed' x)) (resets d ∙ is) in
      by o here0 here1
    where
      by : (o : Option SigId) → slice_get r0.exprs k ≡ Some (or_signal (expr.Reset d pl) o) → slice_get r1.exprs (new (record { 0 = k })).0 ≡ Some (or_signal (expr.Reset (name_after names d) pl) o) → Means k
      by None a b = record {
        shape = form_is r1 (new (record { 0 = k })).0 (expr.Reset (name_after names d) pl) rules1 b ∙ sym (form_is r0 k (expr.Reset d pl) rules0 a);
        value = num_is r1 env (new (record { 0 = k })).0 (expr.Reset (name_after names d) pl) rules1 b ∙ sym (num_is r0 env k (expr.Reset d pl) rules0 a);
        places = target_is r1 env (new (record { 0 = k })).0 (expr.Reset (name_after names d) pl) rules1 b ∙ sym (target_is r0 env k (expr.Reset d pl) rules0 a);
        signals = target_signals_is r1 (new (record { 0 = k })).0 (expr.Reset (name_after names d) pl) rules1 b ∙ sym (target_signals_is r0 k (expr.Reset d pl) rules0 a);
      }
      by (Some s) a b = record {
        shape = form_is r1 (new (record { 0 = k })).0 (expr.Sig s) rules1 b ∙ sym (form_is r0 k (expr.Sig s) rules0 a);
        value = num_is r1 env (new (record { 0 = k })).0 (expr.Sig s) rules1 b ∙ sym (num_is r0 env k (expr.Sig s) rules0 a);
        places = target_is r1 env (new (record { 0 = k })).0 (expr.Sig s) rules1 b ∙ sym (target_is r0 env k (expr.Sig s) rules0 a);
        signals = target_signals_is r1 (new (record { 0 = k })).0 (expr.Sig s) rules1 b ∙ sym (target_signals_is r0 k (expr.Sig s) rules0 a);
      }

  by_case : (k : ℕ) (e : Expr) → slice_get q.exprs k ≡ Some e → is_within q roots k ≡ true → AllByRecursion (λ (a : ExprId). Means a.0) (named e) → Means k
  by_case k (expr.Reset d pl) at within parts = by_reset k d pl at within (reset_of before d) refl
  by_case k (expr.Const n s) at within parts = plain k (expr.Const n s) at within refl refl parts (λ es i is. cc)
  by_case k (expr.Sig s) at within parts = plain k (expr.Sig s) at within refl refl parts (λ es i is. cc)
  by_case k (expr.Unary op a) at within parts = plain k (expr.Unary op a) at within refl refl parts (λ es i is. cc)
  by_case k (expr.Binary op a b) at within parts = plain k (expr.Binary op a b) at within refl refl parts (λ es i is. cc)
  by_case k (expr.Mux s a b) at within parts = plain k (expr.Mux s a b) at within refl refl parts (λ es i is. cc)
  by_case k (expr.Slice a l w) at within parts = plain k (expr.Slice a l w) at within refl refl parts (λ es i is. cc)
  by_case k (expr.Cat xs) at within parts = plain k (expr.Cat xs) at within refl refl parts (λ es i is. cc)
  by_case k (expr.Part a o w t) at within parts = plain k (expr.Part a o w t) at within refl refl parts (λ es i is. cc)
  by_case k (expr.Pick index xs) at within parts =
      plain k (expr.Pick index xs) at within refl refl parts
      (λ es i is. let same : xs ≡ es = cc in subst (λ ys. common_of_all (form r1) (map new ys) ≡ common_of_all (form r0) ys) same (form_renamed names new (form r1) (form r0) q.signals (expr.Pick index xs) (all_imp (λ (a : ExprId) (h : Means a.0). h.shape) (index ∷ xs) parts)))
  by_case k (expr.Cast a signed) at within parts = plain k (expr.Cast a signed) at within refl refl parts (λ es i is. cc)
  by_case k (expr.Matches a ps) at within parts = plain k (expr.Matches a ps) at within refl refl parts (λ es i is. cc)

  means : (bound k : ℕ) → k < bound → k < length q.exprs → is_within q roots k ≡ true → Means k
  means zero k less there within = absurd (omega (arith, less))
  means (suc bound) k less there within =
      let x = element q.exprs k there in
      by_case k x.0 x.1 within
      (parts_of k (named x.0) (standing q k x.0 rules x.1).names
      (λ a under part. means bound a.0 (omega (arith, under, less)) (omega (arith, under, there)) (part_within q rules roots k x.0 a.0 (below_all (length q.exprs) roots low) x.1 part within)))

  -- ---- statements

  abbrev Inside : List ExprId → Type 0
  Inside es = AllByRecursion (λ (e : ExprId). (e.0 < length q.exprs) × (is_within q roots e.0 ≡ true)) es

  meant : (e : ExprId) → (e.0 < length q.exprs) × (is_within q roots e.0 ≡ true) → Means e.0
  meant e h = means (suc e.0) e.0 (omega arith) h.0 h.1

  bits_alike : (xs : List (Option Bit)) (v i : ℕ) (cur : List ℤ) → put_bits r1 xs v i cur ≡ put_bits r0 xs v i cur
  bits_alike [] v i cur = refl
  bits_alike (None ∷ xs) v i cur = bits_alike xs v (i + 1) cur
  bits_alike (Some x ∷ xs) v i cur = bits_alike xs v (i + 1) (put_place r1 (Some x) (nat_bit v i) cur)

  mutual
    statement_stays : (s : Statement) (cur : List ℤ) → Inside (statement_exprs s) → put_statement r1 env (renamed_statement new s) cur ≡ put_statement r0 env s cur
    statement_stays (assign t v p) cur h =
        let target = meant t h.0 in
        let value = meant v h.1.0 in
        ap (λ bits. put_number r1 bits (num r1 env (new v).0) cur) target.places ∙ ap (λ z. put_number r1 (target_bits r0 env t.0) z cur) value.value
        ∙ bits_alike (target_bits r0 env t.0) (pattern (length (target_bits r0 env t.0)) (num r0 env v.0)) 0 cur
    statement_stays (choose arms) cur h = choices_stay arms cur h

    choices_stay : (arms : Choices) (cur : List ℤ) → Inside (choices_exprs arms) → put_choices r1 env (renamed_choices new arms) cur ≡ put_choices r0 env arms cur
    choices_stay none cur h = refl
    choices_stay (arm c body others) cur h =
        ap (λ z. cond (is_zero z) (put_choices r1 env (renamed_choices new others) cur) (put r1 env (renamed_block new body) cur)) (meant c h.0).value
        ∙ ap (λ xs. cond (is_zero (num r0 env c.0)) xs (put r1 env (renamed_block new body) cur)) (choices_stay others cur (all_right _ (block_exprs body) (choices_exprs others) h.1))
        ∙ ap (λ xs. cond (is_zero (num r0 env c.0)) (put_choices r0 env others cur) xs) (block_stays body cur (all_left _ (block_exprs body) (choices_exprs others) h.1))

    block_stays : (b : Block) (cur : List ℤ) → Inside (block_exprs b) → put r1 env (renamed_block new b) cur ≡ put r0 env b cur
    block_stays done cur h = refl
    block_stays (next s rest) cur h =
        ap (put r1 env (renamed_block new rest)) (statement_stays s cur (all_left _ (statement_exprs s) (block_exprs rest) h)) ∙ block_stays rest (put_statement r0 env s cur) (all_right _ (statement_exprs s) (block_exprs rest) h)

  mutual
    statement_drives : (s : Statement) → Inside (statement_exprs s) → flat_map (target_signals r1) (statement_targets (renamed_statement new s)) ≡ flat_map (target_signals r0) (statement_targets s)
    statement_drives (assign t v p) h = ap (λ xs. xs ++ []) (meant t h.0).signals
    statement_drives (choose arms) h = choices_drive arms h

    choices_drive : (arms : Choices) → Inside (choices_exprs arms) → flat_map (target_signals r1) (choices_targets (renamed_choices new arms)) ≡ flat_map (target_signals r0) (choices_targets arms)
    choices_drive none h = refl
    choices_drive (arm c body others) h =
        flat_map-append (target_signals r1) (block_targets (renamed_block new body)) (choices_targets (renamed_choices new others))
        ∙ ap (λ xs. xs ++ flat_map (target_signals r1) (choices_targets (renamed_choices new others))) (block_drives body (all_left _ (block_exprs body) (choices_exprs others) h.1))
        ∙ ap (λ xs. flat_map (target_signals r0) (block_targets body) ++ xs) (choices_drive others (all_right _ (block_exprs body) (choices_exprs others) h.1))
        ∙ sym (flat_map-append (target_signals r0) (block_targets body) (choices_targets others))

    block_drives : (b : Block) → Inside (block_exprs b) → flat_map (target_signals r1) (block_targets (renamed_block new b)) ≡ flat_map (target_signals r0) (block_targets b)
    block_drives done h = refl
    block_drives (next s rest) h =
        flat_map-append (target_signals r1) (statement_targets (renamed_statement new s)) (block_targets (renamed_block new rest))
        ∙ ap (λ xs. xs ++ flat_map (target_signals r1) (block_targets (renamed_block new rest))) (statement_drives s (all_left _ (statement_exprs s) (block_exprs rest) h))
        ∙ ap (λ xs. flat_map (target_signals r0) (statement_targets s) ++ xs) (block_drives rest (all_right _ (statement_exprs s) (block_exprs rest) h))
        ∙ sym (flat_map-append (target_signals r0) (statement_targets s) (block_targets rest))

pub expressions_stay : RenamedExpressionsStay
expressions_stay names p roots before after env k rules rules0 rules1 resets low there within = means names p roots before after env rules rules0 rules1 resets low (suc k) k (omega arith) there within

pub statements_stay : RenamedStatementsStay
statements_stay names p roots before after env cur body rules rules0 rules1 resets low inside' = block_stays names p roots before after env rules rules0 rules1 resets low body cur inside'

pub statements_drive : RenamedStatementsDrive
statements_drive names p roots before after body rules rules0 rules1 resets low inside' =
    driven_flat (read_after names p roots after) (renamed_block (new_id names p roots) body) ∙ block_drives names p roots before after [] rules rules0 rules1 resets low body inside' ∙ sym (driven_flat (pool_in before p) body)
