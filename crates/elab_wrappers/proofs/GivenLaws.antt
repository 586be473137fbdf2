-- Rows and values that are gone through.
use Rattle.std.proofs.Common.{◌≡◌, ℕ, ◌+◌, ◌-◌, ◌<◌, ◌≤◌, refl, ap, sym, ◌∙◌, subst, List, [], ◌∷◌, ◌++◌, length, take, drop, get_or, Option, Some, None, option_map, Result, Ok, Err, append_assoc, arith}
use Rattle.std.specs.Prelude.{slice_index_or}
use Rattle.std.proofs.lemmas.List.{take_all, at_drop_more}
use Rattle.py_values.specs.declared.val.Val.{Val}
use Rattle.py_heap.specs.Heaps.{Seen}
use Rattle.py_frames.specs.declared.request.Cause.{Cause}
use Rattle.py_frames.specs.declared.request.NamedVal.{NamedVal}
use Rattle.design_ir.specs.declared.ids.ExprId.{ExprId}
use Rattle.design_ir.specs.declared.expr.Expr.{Expr}
use Rattle.design_ir.specs.Pools.{Pooled}
use Rattle.domain_transforms.specs.declared.controls.Control.{Control}
use Rattle.domain_transforms.specs.declared.controls.NamePair.{NamePair}
use Rattle.amh_things.specs.declared.thing.Thing.{Thing}
use Rattle.amh_things.specs.Meant.{expr_meant, Gives as Meant}
use Rattle.amh_things.specs.Plans.{grown_by}
use Rattle.amh_things.specs.Held.{AreHeld}
use Rattle.elab_store.specs.Stores.{Held}
use Rattle.elab_wrappers.specs.Wrappers.{Controlled, and_control, control_by, controls_from, and_item, pair_named, domain_named, pairs_of_row, control_named, controls_of_row}
use Rattle.elab_wrappers.proofs.MeantLaws.{held_grown}

-- the first two items and those behind them
pub two_first : {A : Type 0} (xs : List A) (a b : A) → 2 ≤ length xs → a ≡ slice_index_or xs 0 a → b ≡ slice_index_or xs 1 b → xs ≡ a ∷ b ∷ take (length xs - 2) (drop 2 xs)
two_first [] a b h e1 e2 = absurd (omega arith)
two_first (x ∷ []) a b h e1 e2 = absurd (omega arith)
two_first (x ∷ y ∷ xs) a b h e1 e2 =
    let rest : take (length (x ∷ y ∷ xs) - 2) xs ≡ xs = take_all (length (x ∷ y ∷ xs) - 2) xs (omega arith) in
    ap (λ (z : _). z ∷ y ∷ xs) (sym e1) ∙ ap (λ (z : _). a ∷ z ∷ xs) (sym e2) ∙ ap (λ (zs : _). a ∷ b ∷ zs) (sym rest)

-- ---- rows

-- what was found, and what is found behind it
abbrev pub found_so : {B : Type 0} → List B → Option (List B) → Option (List B)
found_so ys o = option_map (λ zs. ys ++ zs) o

-- one more is found
found_next : {B : Type 0} (ys after : List B) (y : B) (o : Option (List B)) → after ≡ ys ++ y ∷ [] → found_so after o ≡ found_so ys (and_item (Some y) o)
found_next ys after y None e = refl
found_next ys after y (Some zs) e = ap (λ xs. Some (xs ++ zs)) e ∙ ap Some (append_assoc ys (y ∷ []) zs)

pub pair_found : (s : Seen) (row more : List Val) (k v : Val) (o : Option NamePair) (p : NamePair) (before after : List NamePair) (whole : Option (List NamePair))
    → row ≡ k ∷ v ∷ more → o ≡ pair_named (domain_named s k) (domain_named s v) → o ≡ Some p → after ≡ before ++ p ∷ []
    → found_so before (pairs_of_row s row) ≡ whole → found_so after (pairs_of_row s more) ≡ whole
pair_found s row more k v o p before after whole e named found pushed so_far =
    found_next before after p (pairs_of_row s more) pushed
    ∙ ap (λ (x : Option NamePair). found_so before (and_item x (pairs_of_row s more))) (sym found ∙ named)
    ∙ ap (λ (r : List Val). found_so before (pairs_of_row s r)) (sym e)
    ∙ so_far

pub control_found : (s : Seen) (h : Held) (row more : List Val) (k v : Val) (name : Option (List ℕ)) (o : Option NamedVal) (x : NamedVal) (before after : List NamedVal) (whole : Option (List NamedVal))
    → row ≡ k ∷ v ∷ more → name ≡ domain_named s k → o ≡ control_named h name v → o ≡ Some x → after ≡ before ++ x ∷ []
    → found_so before (controls_of_row s h row) ≡ whole → found_so after (controls_of_row s h more) ≡ whole
control_found s h row more k v name o x before after whole e is named found pushed so_far =
    found_next before after x (controls_of_row s h more) pushed
    ∙ ap (λ (y : Option NamedVal). found_so before (and_item y (controls_of_row s h more))) (sym found ∙ named)
    ∙ ap (λ (n : Option (List ℕ)). found_so before (and_item (control_named h n v) (controls_of_row s h more))) is
    ∙ ap (λ (r : List Val). found_so before (controls_of_row s h r)) (sym e)
    ∙ so_far

-- ---- controls

-- the controls that were made, and what comes of the other values
abbrev pub behind_controls : List Control → Result (List Control) Cause → Result (List Control) Cause
behind_controls ys (Ok cs) = Ok (ys ++ cs)
behind_controls ys (Err why) = Err why

abbrev so_made : Pooled → Result (List Control) Cause → Controlled
so_made q made = record { made = made; pool = q }

abbrev pub controlled_so : List Control → Controlled → Controlled
controlled_so ys c = so_made c.pool (behind_controls ys c.made)

behind_next : (ys : List Control) (y : Control) (r : Result (List Control) Cause) → behind_controls (ys ++ y ∷ []) r ≡ behind_controls ys (and_control y r)
behind_next ys y (Ok cs) = ap Ok (append_assoc ys (y ∷ []) cs)
behind_next ys y (Err why) = refl

item_at : {A : Type 0} (xs : List A) (i : ℕ) (x : A) → i < length xs → x ≡ get_or xs i x → drop i xs ≡ x ∷ drop (i + 1) xs
item_at xs i x h is = at_drop_more (λ zs. zs) xs i x h ∙ ap (λ z. z ∷ drop (i + 1) xs) (sym is)

-- one more control is made
pub control_next : (ts : List Thing) (p q : Pooled) (xs : List NamedVal) (i : ℕ) (x : NamedVal) (e : ExprId) (domain : List ℕ) (before after : List Control) (whole : Controlled)
    → i < length xs → x ≡ get_or xs i x → Meant (expr_meant p ts x.val) (Ok e) p q → domain ≡ x.name → after ≡ before ++ record { domain = domain; condition = e } ∷ []
    → AreHeld (length p.exprs) ts × (controlled_so before (controls_from ts p (drop i xs)) ≡ whole)
    → AreHeld (length q.exprs) ts × (controlled_so after (controls_from ts q (drop (i + 1) xs)) ≡ whole)
control_next ts p q xs i x e domain before after whole h is meant named pushed so_far = by_meant (expr_meant p ts x.val) refl meant
  where
    by_meant : (r : Result (ExprId × List Expr) Cause) → expr_meant p ts x.val ≡ r → Meant r (Ok e) p q
        → AreHeld (length q.exprs) ts × (controlled_so after (controls_from ts q (drop (i + 1) xs)) ≡ whole)
    by_meant (Err why) same m = absurd m
    by_meant (Ok y) same m =
        let c : Control = record { domain = x.name; condition = y.0 } in
        let rest : Controlled = controls_from ts (grown_by p y.1) (drop (i + 1) xs) in
        let grown : after ≡ before ++ c ∷ [] =
        pushed ∙ ap (λ (n : List ℕ). before ++ record { domain = n; condition = e } ∷ []) named ∙ ap (λ (d : ExprId). before ++ record { domain = x.name; condition = d } ∷ []) m.0 in (
          subst (λ (g : Pooled). AreHeld (length g.exprs) ts) (sym m.1) (held_grown p y.1 ts so_far.0),
          ap (λ (g : Pooled). controlled_so after (controls_from ts g (drop (i + 1) xs))) m.1
              ∙ ap (λ (cs : List Control). controlled_so cs rest) grown
              ∙ ap (so_made rest.pool) (behind_next before c rest.made)
              ∙ ap (λ (o : Result (ExprId × List Expr) Cause). controlled_so before (control_by x.name p (λ g. controls_from ts g (drop (i + 1) xs)) o)) (sym same)
              ∙ ap (λ (zs : List NamedVal). controlled_so before (controls_from ts p zs)) (sym (item_at xs i x h is))
              ∙ so_far.1,
        )
