-- Things that are made one after another over a pool that grows: what is kept of the pool, and what holds of all that is made.
use Rattle.std.proofs.Common.{◌≡◌, List, [], ◌∷◌, map, refl}
use Rattle.std.specs.List.{AllByRecursion}
use Rattle.lists.specs.Names.{IsName}
use Rattle.design_ir.specs.declared.fragment.Fragment.{Fragment}
use Rattle.design_ir.specs.Forests.{Leaf, Forest, bare, grown}
use Rattle.design_ir.specs.Fragments.{leaf_of}
use Rattle.design_ir.specs.Pools.{Pooled}
use Rattle.std.proofs.Common.{subst, sym}
use Rattle.flat_design.specs.Growing.{IsMore}
use Rattle.flat_design.proofs.Growing.{more_refl, more_trans}
use Rattle.clock_domains.specs.Resolvable.{AreModules, IsModule, IsTree}
use Rattle.domain_transforms.specs.Making.{each_in, forest_in, fragment_in}

-- ---- what is kept of the pool

module _ (K : Pooled → Type 0) where
  pub each_keeps : {A B : Type 0} (make : Pooled → A → B × Pooled) → ((p : Pooled) (x : A) → K p → K (make p x).1) → (p : Pooled) (xs : List A) → K p → K (each_in make p xs).1
  each_keeps make keeps p [] h = h
  each_keeps make keeps p (x ∷ xs) h = each_keeps make keeps (make p x).1 xs (keeps p x h)

  module _ (make : Pooled → Leaf → Leaf × Pooled) (keeps : (p : Pooled) (l : Leaf) → K p → K (make p l).1) where
    pub forest_keeps : (p : Pooled) (f : Forest) → K p → K (forest_in make p f).1
    forest_keeps p bare h = h
    forest_keeps p (grown l below rest) h =
        let inner : Forest × Pooled = forest_in make (make p l).1 below in
        forest_keeps inner.1 rest (forest_keeps (make p l).1 below (keeps p l h))

    pub fragment_keeps : (p : Pooled) (f : Fragment) → K p → K (fragment_in make p f).1
    fragment_keeps p f h = forest_keeps (make p (leaf_of f)).1 f.submodules (keeps p (leaf_of f) h)

-- ---- lists

pub each_same : {A B C : Type 0} (make : Pooled → A → B × Pooled) (f : B → C) (g : A → C) → ((p : Pooled) (x : A) → f (make p x).0 ≡ g x) → (p : Pooled) (xs : List A) → map f (each_in make p xs).0 ≡ map g xs
each_same make f g same p [] = refl
each_same make f g same p (x ∷ xs) = let a = same p x in let b = each_same make f g same (make p x).1 xs in cc

-- a thing that only adds expressions
abbrev pub Adds : {A B : Type 0} → (Pooled → A → B × Pooled) → Type 0
Adds {A} make = (p : Pooled) (x : A) → IsMore p (make p x).1

pub each_adds : {A B : Type 0} (make : Pooled → A → B × Pooled) → Adds make → (p : Pooled) (xs : List A) → IsMore p (each_in make p xs).1
each_adds make adds p xs = each_keeps (IsMore p) make (λ x y more. more_trans p x (make x y).1 more (adds x y)) p xs (more_refl p)

-- what stands over the pool before gives what stands over the pool in the end
module _ (q r : Pooled) where
  pub each_stands : {A B : Type 0} (make : Pooled → A → B × Pooled) → Adds make → (P : A → Type 0) (Q : B → Type 0) → ((p : Pooled) (x : A) → IsMore q p → IsMore (make p x).1 r → P x → Q (make p x).0)
      → (p : Pooled) (xs : List A) → IsMore q p → IsMore (each_in make p xs).1 r → AllByRecursion P xs → AllByRecursion Q (each_in make p xs).0
  each_stands make adds P Q one p [] before after h = tt
  each_stands make adds P Q one p (x ∷ xs) before after h =
      let next : Pooled = (make p x).1 in
      (one p x before (more_trans next (each_in make next xs).1 r (each_adds make adds next xs) after) h.0, each_stands make adds P Q one next xs (more_trans q p next before (adds p x)) after h.1)

  module _ (make : Pooled → Leaf → Leaf × Pooled) (adds : Adds make) (named : (p : Pooled) (l : Leaf) → (make p l).0.name ≡ l.name) (one : (p : Pooled) (l : Leaf) → IsMore q p → IsMore (make p l).1 r → IsModule q l → IsModule r (make p l).0) where
    forest_adds : (p : Pooled) (f : Forest) → IsMore p (forest_in make p f).1
    forest_adds p f = forest_keeps (IsMore p) make (λ x l more. more_trans p x (make x l).1 more (adds x l)) p f (more_refl p)

    forest_stands : (p : Pooled) (f : Forest) → IsMore q p → IsMore (forest_in make p f).1 r → AreModules q f → AreModules r (forest_in make p f).0
    forest_stands p bare before after h = tt
    forest_stands p (grown l below rest) before after h =
        let next : Pooled = (make p l).1 in
        let inner : Forest × Pooled = forest_in make next below in
        let others : Forest × Pooled = forest_in make inner.1 rest in
        let begun : IsMore q next = more_trans q p next before (adds p l) in
        let from_inner : IsMore inner.1 r = more_trans inner.1 others.1 r (forest_adds inner.1 rest) after in (
          subst IsName (sym (named p l)) h.0,
          (
            one p l before (more_trans next inner.1 r (forest_adds next below) from_inner) h.1.0,
            (
              forest_stands next below begun from_inner h.1.1.0,
              forest_stands inner.1 rest (more_trans q next inner.1 begun (forest_adds next below)) after h.1.1.1,
            ),
          ),
        )

    pub fragment_stands : (p : Pooled) (f : Fragment) → IsMore q p → IsMore (fragment_in make p f).1 r → IsTree q f → IsTree r (fragment_in make p f).0
    fragment_stands p f before after h =
        let next : Pooled = (make p (leaf_of f)).1 in
        record {
          own = one p (leaf_of f) before (more_trans next (forest_in make next f.submodules).1 r (forest_adds next f.submodules) after) h.own;
          below = forest_stands next f.submodules (more_trans q p next before (adds p (leaf_of f))) after h.below;
        }
