-- One thing more, and one fragment more.
use Rattle.std.proofs.Common.{◌≡◌, ℕ, ◌+◌, List, [], ◌∷◌, ◌++◌, take, Some, slice_get, refl, sym, ap, ◌∙◌}
use Rattle.design_ir.specs.Forests.{Leaf, Forest, bare, grown, forest_and}
use Rattle.design_ir.specs.declared.fragment.Fragment.{Fragment}
use Rattle.design_ir.specs.Fragments.{leaf_of, forest_of}
use Rattle.design_ir.proofs.Lists.{forest_of_snoc}
use Rattle.design_ir.specs.Pools.{Pooled}
use Rattle.domain_transforms.specs.Making.{each_in, forest_in, fragment_in}
use Rattle.fragment_walks.proofs.Lists.{take-push}

module _ {A B : Type 0} (make : Pooled → A → B × Pooled) where
  pub each_in-push : (q : Pooled) (xs : List A) (x : A) → each_in make q (xs ++ x ∷ []) ≡ ((each_in make q xs).0 ++ (make (each_in make q xs).1 x).0 ∷ [], (make (each_in make q xs).1 x).1)
  each_in-push q [] x = refl
  each_in-push q (y ∷ xs) x = ap (λ (r : List B × Pooled). ((make q y).0 ∷ r.0, r.1)) (each_in-push (make q y).1 xs x)

  pub each_in_turn : (q : Pooled) (xs : List A) (i : ℕ) (x : A) (all : List B) (cur new : Pooled) (y : B) → slice_get xs i ≡ Some x → (all, cur) ≡ each_in make q (take i xs) → (y, new) ≡ make cur x → (all ++ y ∷ [], new) ≡ each_in make q (take (i + 1) xs)
  each_in_turn q xs i x all cur new y at h one =
      let before : List B × Pooled = each_in make q (take i xs) in
      ap (λ (r : B × Pooled). (all ++ r.0 ∷ [], r.1)) one
      ∙ ap (λ (s : List B × Pooled). (s.0 ++ (make s.1 x).0 ∷ [], (make s.1 x).1)) h
      ∙ sym (each_in-push q (take i xs) x)
      ∙ ap (each_in make q) (sym (take-push xs i x at))

module _ (make : Pooled → Leaf → Leaf × Pooled) where
  pub forest_in-push : (q : Pooled) (f : Forest) (l : Leaf) (b : Forest) → forest_in make q (forest_and f l b)
      ≡ (
        forest_and (forest_in make q f).0 (make (forest_in make q f).1 l).0 (forest_in make (make (forest_in make q f).1 l).1 b).0,
        (forest_in make (make (forest_in make q f).1 l).1 b).1,
      )
  forest_in-push q bare l b = refl
  forest_in-push q (grown k c rest) l b =
      ap (λ (r : Forest × Pooled). (grown (make q k).0 (forest_in make (make q k).1 c).0 r.0, r.1)) (forest_in-push (forest_in make (make q k).1 c).1 rest l b)

  pub forest_in_turn : (q : Pooled) (fs : List Fragment) (i : ℕ) (m : Fragment) (all : Forest) (cur new : Pooled) (f : Fragment) → slice_get fs i ≡ Some m → (all, cur) ≡ forest_in make q (forest_of (take i fs)) → (f, new) ≡ fragment_in make cur m
      → (forest_and all (leaf_of f) f.submodules, new) ≡ forest_in make q (forest_of (take (i + 1) fs))
  forest_in_turn q fs i m all cur new f at h one =
      ap (λ (r : Fragment × Pooled). (forest_and all (leaf_of r.0) r.0.submodules, r.1)) one
      ∙ ap (λ (s : Forest × Pooled). (forest_and s.0 (make s.1 (leaf_of m)).0 (forest_in make (make s.1 (leaf_of m)).1 m.submodules).0, (forest_in make (make s.1 (leaf_of m)).1 m.submodules).1)) h
      ∙ sym (forest_in-push q (forest_of (take i fs)) (leaf_of m) m.submodules)
      ∙ ap (forest_in make q) (sym (ap forest_of (take-push fs i m at) ∙ forest_of_snoc (take i fs) m))
