-- The parameters of a function by their number: those that have a default, and those that are annotated.
use Rattle.std.proofs.Common.{◌≡◌, ℕ, zero, suc, ◌+◌, ◌<◌, ◌≤◌, refl, ap, ◌∙◌, sym, List, [], ◌∷◌, ◌++◌, map, length, get_or, Some, None, add-one}
use Rattle.std.specs.List.{slice_get}
use Rattle.std.proofs.lemmas.Option.{slice_get_read, slice_get_past}
use Rattle.py_tree.specs.declared.stmt.Param.{Param}
use Rattle.py_tree.specs.Programs.{parameter_of}
use Rattle.py_tree.specs.Tree.{Tree, absent, present}
use Rattle.py_tree.specs.Steps.{Parameter, Named, Star}
use Rattle.py_values.specs.declared.val.Val.{Val}
use Rattle.py_frames.specs.declared.frame.Purpose.TheVariants.{Plain}
use Rattle.py_frames.specs.Doing.{Doing, Known, ◌>>=◌}
use Rattle.py_frames.specs.Expressions.{value_of}
use Rattle.py_frames.specs.Statements.{defaults_then, annotations_then}
use Rattle.py_frames.specs.Def_frames.{parameters_from}
use Rattle.py_definitions.specs.Def_begun.{default_in, annotation_in, numbered, first_default, first_annotation}

parameters_at : (xs : List Param) (n : ℕ) (x : Param) → slice_get xs n ≡ Some x → parameters_from n (map parameter_of xs) ≡ parameter_of x ∷ parameters_from (suc n) (map parameter_of xs)
parameters_at [] n x h = cc
parameters_at (y ∷ ys) zero x h = let e : y ≡ x = cc in ap (λ z. parameter_of z ∷ map parameter_of ys) e
parameters_at (y ∷ ys) (suc n) x h = parameters_at ys n x h

parameters_past : (xs : List Param) (n : ℕ) → slice_get xs n ≡ None → parameters_from n (map parameter_of xs) ≡ []
parameters_past [] zero h = refl
parameters_past [] (suc n) h = refl
parameters_past (x ∷ xs) zero h = cc
parameters_past (x ∷ xs) (suc n) h = parameters_past xs n h

parameter_found : (xs : List Param) (n : ℕ) (x : Param) → n < length xs → x ≡ get_or xs n x → parameters_from n (map parameter_of xs) ≡ parameter_of x ∷ parameters_from (suc n) (map parameter_of xs)
parameter_found xs n x h e = parameters_at xs n x (slice_get_read xs (length xs) n x refl h e)

parameter_lacks : (xs : List Param) (n : ℕ) → length xs ≤ n → parameters_from n (map parameter_of xs) ≡ []
parameter_lacks xs n h = parameters_past xs n (slice_get_past xs n h)

-- ---- the first of them

pub default_steps : (xs : List Param) (i : ℕ) (x : Param) → i < length xs → x ≡ get_or xs i x → default_in (parameter_of x) ≡ absent → first_default i (parameters_from i (map parameter_of xs)) ≡ first_default (i + 1) (parameters_from (i + 1) (map parameter_of xs))
default_steps xs i x h e d =
    ap (first_default i) (parameter_found xs i x h e)
    ∙ (ap (λ z. numbered i z (first_default (suc i) (parameters_from (suc i) (map parameter_of xs)))) d
    ∙ ap (λ j. first_default j (parameters_from j (map parameter_of xs))) (sym (add-one i)))

pub default_found : (xs : List Param) (i : ℕ) (x : Param) (t : Tree) → i < length xs → x ≡ get_or xs i x → default_in (parameter_of x) ≡ present t → first_default i (parameters_from i (map parameter_of xs)) ≡ Some (i, t)
default_found xs i x t h e d =
    ap (first_default i) (parameter_found xs i x h e)
    ∙ ap (λ z. numbered i z (first_default (suc i) (parameters_from (suc i) (map parameter_of xs)))) d

pub default_lacks : (xs : List Param) (i : ℕ) → length xs ≤ i → first_default i (parameters_from i (map parameter_of xs)) ≡ None
default_lacks xs i h = ap (first_default i) (parameter_lacks xs i h)

pub annotation_steps : (xs : List Param) (i : ℕ) (x : Param) → i < length xs → x ≡ get_or xs i x → annotation_in (parameter_of x) ≡ absent → first_annotation i (parameters_from i (map parameter_of xs)) ≡ first_annotation (i + 1) (parameters_from (i + 1) (map parameter_of xs))
annotation_steps xs i x h e d =
    ap (first_annotation i) (parameter_found xs i x h e)
    ∙ (ap (λ z. numbered i z (first_annotation (suc i) (parameters_from (suc i) (map parameter_of xs)))) d
    ∙ ap (λ j. first_annotation j (parameters_from j (map parameter_of xs))) (sym (add-one i)))

pub annotation_found : (xs : List Param) (i : ℕ) (x : Param) (t : Tree) → i < length xs → x ≡ get_or xs i x → annotation_in (parameter_of x) ≡ present t → first_annotation i (parameters_from i (map parameter_of xs)) ≡ Some (i, t)
annotation_found xs i x t h e d =
    ap (first_annotation i) (parameter_found xs i x h e)
    ∙ ap (λ z. numbered i z (first_annotation (suc i) (parameters_from (suc i) (map parameter_of xs)))) d

pub annotation_lacks : (xs : List Param) (i : ℕ) → length xs ≤ i → first_annotation i (parameters_from i (map parameter_of xs)) ≡ None
annotation_lacks xs i h = ap (first_annotation i) (parameter_lacks xs i h)

-- ---- what they mean

-- what stands behind a parameter
behind : (all ps : List Parameter) (n : ℕ) (p : Parameter) → parameters_from n all ≡ p ∷ ps → parameters_from (suc n) all ≡ ps
behind [] ps zero p e = cc
behind [] ps (suc n) p e = cc
behind (x ∷ xs) ps zero p e = cc
behind (x ∷ xs) ps (suc n) p e = behind xs ps n p e

pub defaults_end : (k : Known) (vs : List Val) (f : List Val → Doing) (ps : List Parameter) (n : ℕ) → first_default n ps ≡ None → defaults_then k vs ps f ≡ f vs
defaults_end k vs f [] n e = refl
defaults_end k vs f (Star q ∷ ps) n e = defaults_end k vs f ps (suc n) e
defaults_end k vs f (Named q name a absent ∷ ps) n e = defaults_end k vs f ps (suc n) e
defaults_end k vs f (Named q name a (present t) ∷ ps) n e = cc

pub defaults_next : (k : Known) (vs : List Val) (f : List Val → Doing) (all ps : List Parameter) (n i : ℕ) (t : Tree) → parameters_from n all ≡ ps → first_default n ps ≡ Some (i, t) → defaults_then k vs ps f ≡ (value_of k Plain t >>= (λ v. defaults_then k (vs ++ v ∷ []) (parameters_from (suc i) all) f))
defaults_next k vs f all [] n i t q e = cc
defaults_next k vs f all (Star p ∷ ps) n i t q e = defaults_next k vs f all ps (suc n) i t (behind all ps n (Star p) q) e
defaults_next k vs f all (Named p name a absent ∷ ps) n i t q e = defaults_next k vs f all ps (suc n) i t (behind all ps n (Named p name a absent) q) e
defaults_next k vs f all (Named p name a (present u) ∷ ps) n i t q e =
    let both : ◌≡◌ {A = ℕ × Tree} (n, u) (i, t) = cc in
    let e1 : n ≡ i = ap (λ (z : ℕ × Tree). z.0) both in
    let e2 : u ≡ t = ap (λ (z : ℕ × Tree). z.1) both in
    let e3 : ps ≡ parameters_from (suc i) all = sym (behind all ps n (Named p name a (present u)) q) ∙ ap (λ j. parameters_from (suc j) all) e1 in
    ap (λ (z : Tree). value_of k Plain z >>= (λ v. defaults_then k (vs ++ v ∷ []) ps f)) e2
    ∙ ap (λ (g : List Parameter). value_of k Plain t >>= (λ v. defaults_then k (vs ++ v ∷ []) g f)) e3

pub annotations_end : (k : Known) (m : Doing) (ps : List Parameter) (n : ℕ) → first_annotation n ps ≡ None → annotations_then k ps m ≡ m
annotations_end k m [] n e = refl
annotations_end k m (Star q ∷ ps) n e = annotations_end k m ps (suc n) e
annotations_end k m (Named q name absent d ∷ ps) n e = annotations_end k m ps (suc n) e
annotations_end k m (Named q name (present t) d ∷ ps) n e = cc

pub annotations_next : (k : Known) (m : Doing) (all ps : List Parameter) (n i : ℕ) (t : Tree) → parameters_from n all ≡ ps → first_annotation n ps ≡ Some (i, t) → annotations_then k ps m ≡ (value_of k Plain t >>= (λ v. annotations_then k (parameters_from (suc i) all) m))
annotations_next k m all [] n i t q e = cc
annotations_next k m all (Star p ∷ ps) n i t q e = annotations_next k m all ps (suc n) i t (behind all ps n (Star p) q) e
annotations_next k m all (Named p name absent d ∷ ps) n i t q e = annotations_next k m all ps (suc n) i t (behind all ps n (Named p name absent d) q) e
annotations_next k m all (Named p name (present u) d ∷ ps) n i t q e =
    let both : ◌≡◌ {A = ℕ × Tree} (n, u) (i, t) = cc in
    let e1 : n ≡ i = ap (λ (z : ℕ × Tree). z.0) both in
    let e2 : u ≡ t = ap (λ (z : ℕ × Tree). z.1) both in
    let e3 : ps ≡ parameters_from (suc i) all = sym (behind all ps n (Named p name (present u) d) q) ∙ ap (λ j. parameters_from (suc j) all) e1 in
    ap (λ (z : Tree). value_of k Plain z >>= (λ v. annotations_then k ps m)) e2
    ∙ ap (λ (g : List Parameter). value_of k Plain t >>= (λ v. annotations_then k g m)) e3

pub ruleset default_rules = (default_steps, default_found, default_lacks)

pub ruleset annotation_rules = (annotation_steps, annotation_found, annotation_lacks)
