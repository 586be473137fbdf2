-- What is of a pool stays so where the pool grows, and so are the parts of it.
use Rattle.std.proofs.Common.{◌≡◌, ℕ, zero, suc, ◌≤◌, List, [], ◌∷◌, ◌++◌, length, Some, None, slice_get, sym, subst, arith, append_assoc}
use Rattle.std.specs.Prelude.{Result, Ok, Err, OnOk, Option, option_map, option_and_then, Bool, true, false}
use Rattle.std.proofs.Common.{cond}
use Rattle.std.specs.List.{flat_map, find}
use Rattle.lists.specs.Texts.{text_eq}
use Rattle.design_ir.specs.declared.ids.ExprId.{ExprId}
use Rattle.design_ir.specs.declared.fragment.Fragment.{Fragment}
use Rattle.design_ir.specs.Fragments.{leaf_of, forest_of}
use Rattle.design_ir.specs.Named.{AllBelow}
use Rattle.fragment_walks.proofs.Lists.{below_split, below_wider}
use Rattle.domain_transforms.specs.declared.controls.Control.{Control}
use Rattle.design_ir.specs.Pools.{Pooled}
use Rattle.domain_transforms.specs.declared.fragments.Change.{Change}
use Rattle.domain_transforms.specs.declared.fragments.Change.TheVariants.{Enable, Reset, Rename}
use Rattle.domain_transforms.specs.Changes.{bound}
use Rattle.domain_transforms.specs.Controlled.{control_of}
use Rattle.domain_transforms.specs.Placed.{AreControls, OptionBelow, leaf_exprs, forest_exprs, fragment_exprs}

pub controls_wider : (m n : ℕ) (cs : List Control) → m ≤ n → AreControls m cs → AreControls n cs
controls_wider m n [] le h = tt
controls_wider m n (c ∷ cs) le h = (omega (arith, h.0, le), controls_wider m n cs le h.1)

pub flat_below : {A : Type 0} (f : A → List ExprId) (n : ℕ) (xs : List A) (i : ℕ) (x : A) → AllBelow n (flat_map f xs) → slice_get xs i ≡ Some x → AllBelow n (f x)
flat_below f n [] i x h at = absurd cc
flat_below f n (y ∷ xs) zero x h at = let same : y ≡ x = cc in subst (λ z. AllBelow n (f z)) same (below_split n (f y) (flat_map f xs) h).0
flat_below f n (y ∷ xs) (suc i) x h at = flat_below f n xs i x (below_split n (f y) (flat_map f xs) h).1 at

pub flat_wider : {A : Type 0} (f : A → List ExprId) (m n : ℕ) (xs : List A) (i : ℕ) (x : A) → m ≤ n → AllBelow m (flat_map f xs) → slice_get xs i ≡ Some x → AllBelow n (f x)
flat_wider f m n xs i x le h at = below_wider m n (f x) le (flat_below f m xs i x h at)

-- the control of a domain is of the pool
pub control_below : (n : ℕ) (cs : List Control) (name : List ℕ) → AreControls n cs → OptionBelow n (control_of cs name)
control_below n [] name h = tt
control_below n (c ∷ cs) name h = by (control_below n cs name h.1) (text_eq c.domain name)
  where
    by : OptionBelow n (control_of cs name) → (b : Bool) → OptionBelow n (option_map (λ (x : Control). x.condition) (cond b (Some c) (find (λ (x : Control). text_eq x.domain name) cs)))
    by rest true = h.0
    by rest false = rest

pub option_control_below : (n : ℕ) (cs : List Control) (o : Option (List ℕ)) → AreControls n cs → OptionBelow n (option_and_then (control_of cs) o)
option_control_below n cs None h = tt
option_control_below n cs (Some name) h = control_below n cs name h

pub on_ok : {U E : Type 0} {P Q : Type 0} (r : Result U E) → (P → Q) → OnOk r P → OnOk r Q
on_ok (Ok u) f h = f h
on_ok (Err e) f h = tt

-- the expressions of one of several fragments
pub forest_below : (n : ℕ) (fs : List Fragment) (i : ℕ) (f : Fragment) → AllBelow n (forest_exprs (forest_of fs)) → slice_get fs i ≡ Some f → AllBelow n (fragment_exprs f)
forest_below n [] i f h at = absurd cc
forest_below n (g ∷ fs) zero f h at =
    let same : g ≡ f = cc in
    let whole : AllBelow n ((leaf_exprs (leaf_of g) ++ forest_exprs g.submodules) ++ forest_exprs (forest_of fs)) = subst (AllBelow n) (sym (append_assoc (leaf_exprs (leaf_of g)) (forest_exprs g.submodules) (forest_exprs (forest_of fs)))) h in
    subst (λ x. AllBelow n (fragment_exprs x)) same (below_split n (leaf_exprs (leaf_of g) ++ forest_exprs g.submodules) (forest_exprs (forest_of fs)) whole).0
forest_below n (g ∷ fs) (suc i) f h at =
    forest_below n fs i f (below_split n (forest_exprs g.submodules) (forest_exprs (forest_of fs)) (below_split n (leaf_exprs (leaf_of g)) (forest_exprs g.submodules ++ forest_exprs (forest_of fs)) h).1).1 at

pub bound_grows : (change : Change) (p q : Pooled) → length p.exprs ≤ length q.exprs → bound change p ≤ bound change q
bound_grows (Enable controls) p q le = le
bound_grows (Reset controls places) p q le = le
bound_grows (Rename names ids) p q le = omega arith
