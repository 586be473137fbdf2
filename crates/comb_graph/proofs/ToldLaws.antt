-- The first assignment that may write a bit, statement by statement.
use Rattle.std.proofs.Common.{◌≡◌, ◌∙◌, ℕ, zero, suc, ◌+◌, true, false, List, [], ◌∷◌, ◌++◌, refl, sym, ap, take, Option, Some, None, option_map, slice_get}
use Rattle.std.specs.Option.{option_or}
use Rattle.std.specs.List.{find, flat_map}
use Rattle.std.proofs.lemmas.List.Folds.{find-append}
use Rattle.amh_host.specs.declared.place.Place.{Place}
use Rattle.design_ir.specs.declared.stmt.Stmt.{Stmt}
use Rattle.design_ir.specs.declared.stmt.Arm.{Arm}
use Rattle.design_ir.specs.Guards.{Guard, Guarded, guarded, guarded_in, guarded_arms}
use Rattle.design_ir.specs.Statements.{statement_of, block_of, choices_of}
use Rattle.design_ir.specs.Targets.{Bit}
use Rattle.comb_graph.specs.declared.aimed.Aimed.{Aimed}
use Rattle.comb_graph.specs.Seen.{row_at}
use Rattle.comb_graph.specs.Told.{aims_at, first_place}
use Rattle.digraph.proofs.GraphLists.{some-same}
use Rattle.digraph.proofs.Takes.{take-push}
use Rattle.comb_graph.proofs.GraphRows.{flat_more}
use Rattle.comb_graph.proofs.GraphBlocks.{arms-push}

module _ (table : List (List Aimed)) (b : Bit) where
  abbrev told : List Guarded → Option Place
  told gs = first_place table b gs

  place_or : (x y : Option Guarded) → option_map (λ (g : Guarded). g.place) (option_or x y) ≡ option_or (option_map (λ (g : Guarded). g.place) x) (option_map (λ (g : Guarded). g.place) y)
  place_or None y = refl
  place_or (Some x) y = refl

  told-append : (xs ys : List Guarded) → told (xs ++ ys) ≡ option_or (told xs) (told ys)
  told-append xs ys =
      let test = λ (g : Guarded). aims_at (row_at table g.target.0) b in
      ap (option_map (λ (g : Guarded). g.place)) (find-append test xs ys) ∙ place_or (find test xs) (find test ys)

  or_none : (x y : Option Place) → option_or x y ≡ None → (x ≡ None) × (y ≡ None)
  or_none None y e = (refl, e)
  or_none (Some x) y e = absurd cc

  -- neither part has one
  none_both : (xs ys : List Guarded) → told xs ≡ None → told ys ≡ None → told (xs ++ ys) ≡ None
  none_both xs ys e f = told-append xs ys ∙ ap (λ x. option_or x (told ys)) e ∙ f

  none_parts : (xs ys : List Guarded) → told (xs ++ ys) ≡ None → (told xs ≡ None) × (told ys ≡ None)
  none_parts xs ys e = or_none (told xs) (told ys) (sym (told-append xs ys) ∙ e)

  in_first : (xs ys : List Guarded) (p : Place) → told xs ≡ Some p → told (xs ++ ys) ≡ Some p
  in_first xs ys p e = told-append xs ys ∙ ap (λ x. option_or x (told ys)) e

  in_second : (xs ys : List Guarded) (p : Place) → told xs ≡ None → told ys ≡ Some p → told (xs ++ ys) ≡ Some p
  in_second xs ys p e f = told-append xs ys ∙ ap (λ x. option_or x (told ys)) e ∙ f

  -- ---- lists of parts

  pub flat_none : {X : Type 0} (f : X → List Guarded) (xs : List X) (i : ℕ) (x : X) → slice_get xs i ≡ Some x → told (flat_map f (take i xs)) ≡ None → told (f x) ≡ None → told (flat_map f (take (i + 1) xs)) ≡ None
  flat_none f xs i x at e none = ap told (flat_more f xs i x at) ∙ none_both (flat_map f (take i xs)) (f x) e none

  pub flat_found : {X : Type 0} (f : X → List Guarded) (xs : List X) (i : ℕ) (x : X) (p : Place) → slice_get xs i ≡ Some x → told (flat_map f (take i xs)) ≡ None → told (f x) ≡ Some p → told (flat_map f xs) ≡ Some p
  flat_found f [] i x p at e is = absurd cc
  flat_found f (y ∷ xs) zero x p at e is = in_first (f y) (flat_map f xs) p (ap (λ z. told (f z)) (some-same y x at) ∙ is)
  flat_found f (y ∷ xs) (suc i) x p at e is =
      let parts = none_parts (f y) (flat_map f (take i xs)) e in
      in_second (f y) (flat_map f xs) p parts.0 (flat_found f xs i x p at parts.1 is)

  -- ---- blocks

  block_flat : (gs : List Guard) (ss : List Stmt) → guarded gs (block_of ss) ≡ flat_map (λ s. guarded_in gs (statement_of s)) ss
  block_flat gs [] = refl
  block_flat gs (s ∷ ss) = ap (λ xs. guarded_in gs (statement_of s) ++ xs) (block_flat gs ss)

  pub block_none : (gs : List Guard) (ss : List Stmt) (i : ℕ) (s : Stmt) → slice_get ss i ≡ Some s → told (guarded gs (block_of (take i ss))) ≡ None → told (guarded_in gs (statement_of s)) ≡ None → told (guarded gs (block_of (take (i + 1) ss))) ≡ None
  block_none gs ss i s at e none =
      ap told (block_flat gs (take (i + 1) ss)) ∙ flat_none (λ s. guarded_in gs (statement_of s)) ss i s at (sym (ap told (block_flat gs (take i ss))) ∙ e) none

  pub block_found : (gs : List Guard) (ss : List Stmt) (i : ℕ) (s : Stmt) (p : Place) → slice_get ss i ≡ Some s → told (guarded gs (block_of (take i ss))) ≡ None → told (guarded_in gs (statement_of s)) ≡ Some p → told (guarded gs (block_of ss)) ≡ Some p
  block_found gs ss i s p at e is =
      ap told (block_flat gs ss) ∙ flat_found (λ s. guarded_in gs (statement_of s)) ss i s p at (sym (ap told (block_flat gs (take i ss))) ∙ e) is

  -- ---- arms

  -- under any guards an arm's body tells this
  abbrev BodyTells : Arm → Option Place → Type 0
  BodyTells a o = (gs : List Guard) → told (guarded gs a.body) ≡ o

  pub arms_none : (gs : List Guard) (arms : List Arm) (i : ℕ) (a : Arm) → slice_get arms i ≡ Some a → told (guarded_arms gs (choices_of (take i arms))) ≡ None → BodyTells a None → told (guarded_arms gs (choices_of (take (i + 1) arms))) ≡ None
  arms_none gs arms i a at e none =
      ap (λ xs. told (guarded_arms gs (choices_of xs))) (take-push arms i a at)
      ∙ ap told (arms-push gs (take i arms) a)
      ∙ none_both (guarded_arms gs (choices_of (take i arms))) _ e (none _)

  pub arms_found : (gs : List Guard) (arms : List Arm) (i : ℕ) (a : Arm) (p : Place) → slice_get arms i ≡ Some a → told (guarded_arms gs (choices_of (take i arms))) ≡ None → BodyTells a (Some p) → told (guarded_arms gs (choices_of arms)) ≡ Some p
  arms_found gs [] i a p at e is = absurd cc
  arms_found gs (x ∷ arms) zero a p at e is =
      let here = ap (λ (y : Arm). told (guarded (gs ++ record { condition = x.condition; taken = true } ∷ []) y.body)) (some-same x a at) in
      in_first (guarded (gs ++ record { condition = x.condition; taken = true } ∷ []) x.body) (guarded_arms (gs ++ record { condition = x.condition; taken = false } ∷ []) (choices_of arms)) p (here ∙ is _)
  arms_found gs (x ∷ arms) (suc i) a p at e is =
      let yes : List Guard = gs ++ record { condition = x.condition; taken = true } ∷ [] in
      let no' : List Guard = gs ++ record { condition = x.condition; taken = false } ∷ [] in
      let parts = none_parts (guarded yes x.body) (guarded_arms no' (choices_of (take i arms))) e in
      in_second (guarded yes x.body) (guarded_arms no' (choices_of arms)) p parts.0 (arms_found no' arms i a p at parts.1 is)
