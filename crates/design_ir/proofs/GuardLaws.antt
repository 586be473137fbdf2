-- Statements as assignments one after another, each carried out where its guards hold.
use Rattle.std.specs.Prelude.{◌≡◌, refl, Bool, true, false, cond, not, ◌&&◌, if◌then◌else◌, List, [], ◌∷◌, ◌++◌, ℤ, fold}
use Rattle.std.specs.List.{list_all}
use Rattle.std.proofs.Common.{sym, ◌∙◌, ap}
use Rattle.shape_rules.specs.Operators.{is_zero}
use Rattle.design_ir.specs.Pools.{Pooled}
use Rattle.design_ir.specs.Trees.{Statement, assign, choose, Choices, none, arm, Block, done, next}
use Rattle.design_ir.specs.Values.{num}
use Rattle.design_ir.specs.Put.{put, put_statement, put_choices, put_number}
use Rattle.design_ir.specs.Targets.{target_bits}
use Rattle.design_ir.specs.Guards.{Guard, Guarded, guarded, guarded_in, guarded_arms}
pub use Rattle.design_ir.specs.GuardedPut.{holds, put_guarded}

pub fold_append : {A B : Type 0} (f : B → A → B) (b : B) (xs ys : List A) → fold f b (xs ++ ys) ≡ fold f (fold f b xs) ys
fold_append f b [] ys = refl
fold_append f b (x ∷ xs) ys = fold_append f (f b x) xs ys

and_true : (b : Bool) → (b && true) ≡ b
and_true true = refl
and_true false = refl

and_assoc : (a b c x : Bool) → b ≡ (c && x) → (a && b) ≡ ((a && c) && x)
and_assoc true b c x e = e
and_assoc false b c x e = refl

all_append : {A : Type 0} (p : A → Bool) (xs : List A) (x : A) → list_all p (xs ++ x ∷ []) ≡ (list_all p xs && p x)
all_append p [] x = and_true (p x)
all_append p (y ∷ ys) x = and_assoc (p y) _ _ _ (all_append p ys x)

cond_same : {A : Type 0} (b : Bool) (x : A) → x ≡ cond b x x
cond_same true x = refl
cond_same false x = refl

one_more : {A : Type 0} (b : Bool) (f g : A → A) (x : A) → cond b (g (cond b (f x) x)) (cond b (f x) x) ≡ cond b (g (f x)) x
one_more true f g x = refl
one_more false f g x = refl

one_arm : {A : Type 0} (b z : Bool) (body others : A → A) (x : A) → cond (b && z) (others (cond (b && not z) (body x) x)) (cond (b && not z) (body x) x) ≡ cond b (cond z (others x) (body x)) x
one_arm true true body others x = refl
one_arm true false body others x = refl
one_arm false z body others x = refl

module _ (pool : Pooled) (env : List ℤ) where
  mutual
    in_is : (gs : List Guard) (s : Statement) (cur : List ℤ) → fold (put_guarded pool env) cur (guarded_in gs s) ≡ cond (list_all (holds pool env) gs) (put_statement pool env s cur) cur
    in_is gs (assign t v p) cur = refl
    in_is gs (choose arms) cur = arms_are gs arms cur

    arms_are : (gs : List Guard) (arms : Choices) (cur : List ℤ) → fold (put_guarded pool env) cur (guarded_arms gs arms) ≡ cond (list_all (holds pool env) gs) (put_choices pool env arms cur) cur
    arms_are gs none cur = cond_same (list_all (holds pool env) gs) cur
    arms_are gs (arm c body others) cur =
        fold_append (put_guarded pool env) cur (guarded (gs ++ record { condition = c; taken = true } ∷ []) body) (guarded_arms (gs ++ record { condition = c; taken = false } ∷ []) others)
        ∙ ap (λ x. fold (put_guarded pool env) x (guarded_arms (gs ++ record { condition = c; taken = false } ∷ []) others)) (block_is (gs ++ record { condition = c; taken = true } ∷ []) body cur)
        ∙ arms_are (gs ++ record { condition = c; taken = false } ∷ []) others _
        ∙ rw (all_append (holds pool env) gs record { condition = c; taken = true }, all_append (holds pool env) gs record { condition = c; taken = false }) (one_arm (list_all (holds pool env) gs) (is_zero (num pool env c.0)) (put pool env body) (put_choices pool env others) cur)

    pub block_is : (gs : List Guard) (b : Block) (cur : List ℤ) → fold (put_guarded pool env) cur (guarded gs b) ≡ cond (list_all (holds pool env) gs) (put pool env b cur) cur
    block_is gs done cur = cond_same (list_all (holds pool env) gs) cur
    block_is gs (next s rest) cur =
        fold_append (put_guarded pool env) cur (guarded_in gs s) (guarded gs rest)
        ∙ ap (λ x. fold (put_guarded pool env) x (guarded gs rest)) (in_is gs s cur)
        ∙ block_is gs rest _
        ∙ one_more (list_all (holds pool env) gs) (put_statement pool env s) (put pool env rest) cur

  -- what statements leave is what their assignments leave, each where its guards hold
  pub put_is : (b : Block) (cur : List ℤ) → put pool env b cur ≡ fold (put_guarded pool env) cur (guarded [] b)
  put_is b cur = sym (block_is [] b cur)
