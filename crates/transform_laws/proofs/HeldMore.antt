-- In the expressions of a module stand the resets that stood in them, where the pool grew.
use Rattle.std.proofs.Common.{◌≡◌, ℕ, zero, suc, ◌+◌, ◌<◌, ◌≤◌, ◌==◌, false, cond, List, [], ◌∷◌, ◌++◌, length, Option, slice_get, refl, sym, ap, ◌∙◌, subst, arith, length-append, append-nil}
use Rattle.std.specs.Prelude.{option_and_then}
use Rattle.std.specs.List.{AllByRecursion, cons_option, filter, filter_map, flat_map, range_with_len}
use Rattle.std.proofs.lemmas.Bool.Decides.{nat_tests}
use Rattle.std.proofs.lemmas.List.Elements.{filter-append}
use Rattle.design_ir.specs.declared.ids.ExprId.{ExprId}
use Rattle.design_ir.specs.Named.{named, AllBelow}
use Rattle.design_ir.specs.Pools.{Pooled}
use Rattle.design_ir.specs.PoolRules.{IsPool}
use Rattle.design_ir.specs.Circuits.{is_among}
use Rattle.design_ir.proofs.Equations.{standing}
use Rattle.design_ir.proofs.NumbersFit.{element}
use Rattle.flat_design.specs.Growing.{IsMore}
use Rattle.flat_design.proofs.Growing.{answer_kept, get_kept}
use Rattle.fragment_walks.specs.Held.{ResetCall, held_resets, inside, inside_step, reset_call}
use Rattle.fragment_walks.specs.Marks.{numbers}
use Rattle.fragment_walks.proofs.HolderLaws.{inside_is}
use Rattle.fragment_walks.proofs.Lists.{all_imp, all_joined, any_none, below_all, below_wider}
use Rattle.fragment_walks.proofs.ResetNames.{range_parted}
use Rattle.domain_transforms.proofs.AnewLaws.{all_below, passing_low}

-- ---- lists

flat_all : {A : Type 0} (P : ℕ → Type 0) (f : A → List ℕ) (xs : List A) → AllByRecursion (λ x. AllByRecursion P (f x)) xs → AllByRecursion P (flat_map f xs)
flat_all P f [] h = tt
flat_all P f (x ∷ xs) h = all_joined P (f x) (flat_map f xs) h.0 (flat_all P f xs h.1)

flat_agree : (f g : ℕ → List ℕ) (xs : List ℕ) → AllByRecursion (λ x. f x ≡ g x) xs → flat_map f xs ≡ flat_map g xs
flat_agree f g [] h = refl
flat_agree f g (x ∷ xs) h = let a = h.0 in let b = flat_agree f g xs h.1 in cc

taken_agree : {B : Type 0} (f g : ℕ → Option B) (xs : List ℕ) → AllByRecursion (λ x. f x ≡ g x) xs → filter_map f xs ≡ filter_map g xs
taken_agree f g [] h = refl
taken_agree f g (x ∷ xs) h = ap (λ o. cons_option o (filter_map f xs)) h.0 ∙ ap (cons_option (g x)) (taken_agree f g xs h.1)

-- no number past them is among some
other : (x a : ℕ) → x < a → (x == a) ≡ false
other x a h = grind (arith, nat_tests)

none_past : (n : ℕ) (ns : List ℕ) (a d : ℕ) → n ≤ a → AllByRecursion (λ j. j < n) ns → filter (is_among ns) (range_with_len a d) ≡ []
none_past n ns a zero le low = refl
none_past n ns a (suc d) le low =
    ap (λ b. cond b (a ∷ filter (is_among ns) (range_with_len (a + 1) d)) (filter (is_among ns) (range_with_len (a + 1) d))) (any_none (λ x. x == a) ns (all_imp (λ x less. other x a (omega (arith, less, le))) ns low))
    ∙ none_past n ns (a + 1) d (omega (arith, le)) low

-- ---- what stands in an expression

module _ (q p : Pooled) (rules : IsPool q) (more : IsMore q p) where
  abbrev Low : ℕ → Type 0
  Low k = k < length q.exprs

  inside_more : (k : ℕ) → Low k → inside p k ≡ inside q k
  unfolding inside
  inside_more k there = answer_kept [] inside_step inside_step q p rules more (λ e names f. refl) k there

  -- by the number of the expression
  inside_low : (bound k : ℕ) → k < bound → Low k → AllByRecursion Low (inside q k)
  inside_low zero k less there = absurd (omega (arith, less))
  inside_low (suc bound) k less there =
      let x = element q.exprs k there in
      let names = (standing q k x.0 rules x.1).names in
      subst (AllByRecursion Low) (sym (inside_is q k x.0 rules x.1))
      (all_joined Low (numbers (named x.0)) (flat_map (λ (a : ExprId). inside q a.0) (named x.0)) (below_all (length q.exprs) (named x.0) (below_wider k (length q.exprs) (named x.0) (omega (arith, there)) names))
      (flat_all Low (λ (a : ExprId). inside q a.0) (named x.0) (all_below {P = λ (a : ExprId). AllByRecursion Low (inside q a.0)} k (named x.0) names (λ a under. inside_low bound a.0 (omega (arith, under, less)) (omega (arith, under, there))))))

  call_at : Pooled → ℕ → Option ResetCall
  call_at x k = option_and_then reset_call (slice_get x.exprs k)

  same_call : (k : ℕ) → Low k → call_at p k ≡ call_at q k
  unfolding call_at
  same_call k there = ap (option_and_then reset_call) (ap (λ es. slice_get es k) more.exprs ∙ get_kept q.exprs more.more k there)

  pub held_more : (roots : List ExprId) → AllBelow (length q.exprs) roots → held_resets p roots ≡ held_resets q roots
  unfolding held_resets call_at
  held_more roots there =
      let n : ℕ = length q.exprs in
      let d : ℕ = length more.more in
      let own : List ℕ = numbers roots in
      let low : AllByRecursion Low own = below_all n roots there in
      let all : List ℕ = own ++ flat_map (inside q) own in
      let all_low : AllByRecursion Low all = all_joined Low own (flat_map (inside q) own) low (flat_all Low (inside q) own (all_imp (λ k less. inside_low (suc k) k (omega arith) less) own low)) in
      let same : own ++ flat_map (inside p) own ≡ all = ap (λ ns. own ++ ns) (flat_agree (inside p) (inside q) own (all_imp inside_more own low)) in
      let size : length p.exprs ≡ n + d = ap length more.exprs ∙ length-append q.exprs more.more in
      let front : filter (is_among all) (range_with_len 0 (length p.exprs)) ≡ filter (is_among all) (range_with_len 0 n) =
      ap (λ k. filter (is_among all) (range_with_len 0 k)) size ∙ ap (filter (is_among all)) (range_parted 0 n d) ∙ filter-append (is_among all) (range_with_len 0 n) (range_with_len (0 + n) d)
      ∙ ap (λ ks. filter (is_among all) (range_with_len 0 n) ++ ks) (none_past n all (0 + n) d (omega arith) all_low) ∙ append-nil (filter (is_among all) (range_with_len 0 n)) in
      ap (λ ns. filter_map (call_at p) (filter (is_among ns) (range_with_len 0 (length p.exprs)))) same
      ∙ ap (filter_map (call_at p)) front
      ∙ taken_agree (call_at p) (call_at q) (filter (is_among all) (range_with_len 0 n)) (all_imp same_call (filter (is_among all) (range_with_len 0 n)) (passing_low (is_among all) n n (omega arith)))
