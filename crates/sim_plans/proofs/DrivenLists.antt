-- The signals that statements drive, by their targets one after another.
use Rattle.std.specs.Prelude.{◌≡◌, refl, ℕ, ◌+◌, ◌<◌, true, false, List, [], ◌∷◌, ◌++◌, map, drop, length, slice_index_or}
use Rattle.std.specs.List.{flat_map}
use Rattle.std.proofs.Common.{sym, ◌∙◌, ap, append_assoc, append-nil, get_or}
use Rattle.design_ir.specs.declared.ids.ExprId.{ExprId}
use Rattle.design_ir.specs.declared.ids.SigId.{SigId}
use Rattle.design_ir.specs.declared.stmt.Stmt.{Stmt}
use Rattle.design_ir.specs.declared.stmt.Arm.{Arm}
use Rattle.design_ir.specs.Circuits.{is_among}
use Rattle.design_ir.specs.Guards.{Guard, Guarded, guarded, guarded_in, guarded_arms, driven, block_exprs, statement_exprs, choices_exprs}
use Rattle.design_ir.specs.Pools.{Pooled}
use Rattle.design_ir.specs.Statements.{statement_of, block_of, choices_of}
use Rattle.design_ir.specs.Targets.{target_signals}
use Rattle.design_ir.specs.Trees.{Statement, assign, choose, Choices, none, arm, Block, done, next, statements}
use Rattle.sim_plans.specs.Driven.{AreTargets, IsLike, numbers_of, listed, statement_listed, choices_listed}
use Rattle.sim_plans.specs.Reading.{AreBelow, AreThere}
use Rattle.sim_plans.specs.Tasks.{picked}
use Rattle.sim_plans.proofs.Likes.{like_append, numbers_append}
use Rattle.sim_plans.proofs.StatementTurns.{picked_at}
use Rattle.sim_plans.proofs.Walks.{all_parts, block_at, choices_at}

pub append_turn : {A : Type 0} (old new x rest all : List A) → new ≡ old ++ x → old ++ (x ++ rest) ≡ all → new ++ rest ≡ all
append_turn old new x rest all e known = ap (λ ys. ys ++ rest) e ∙ append_assoc old x rest ∙ known

pub listed_turn : {A : Type 0} (of : ℕ → List A) (ss : List Stmt) (i : ℕ) (s : Stmt) (old new all : List A) → i < length ss → s ≡ get_or ss i s → new ≡ old ++ statement_listed of (statement_of s) → old ++ listed of (block_of (drop i ss)) ≡ all → new ++ listed of (block_of (drop (i + 1) ss)) ≡ all
listed_turn of ss i s old new all h is e known =
    append_turn old new (statement_listed of (statement_of s)) (listed of (block_of (drop (i + 1) ss))) all e (sym (ap (λ b. old ++ listed of b) (block_at ss i s h is)) ∙ known)

pub picked_turn : {A : Type 0} (of : ℕ → List A) (body : Block) (ss : List Stmt) (is_body : body ≡ block_of ss) (is : List ℕ) (j i : ℕ) (s : Stmt) (more : j < length is) (here : i ≡ get_or is j i) (h : i < length ss) (stands : s ≡ get_or ss i s)
    → (old new all : List A) → new ≡ old ++ statement_listed of (statement_of s) → old ++ listed of (picked body (drop j is)) ≡ all → new ++ listed of (picked body (drop (j + 1) is)) ≡ all
picked_turn of body ss is_body is j i s more here h stands old new all e known =
    append_turn old new (statement_listed of (statement_of s)) (listed of (picked body (drop (j + 1) is))) all e (sym (ap (λ b. old ++ listed of b) (picked_at body ss is_body is j i s more here h stands)) ∙ known)

pub each_turn : {A : Type 0} (of : ℕ → List A) (ss : List Stmt) (i : ℕ) (s : Stmt) (old new : List (List A)) (one : List A) (all : List (List A)) → i < length ss → s ≡ get_or ss i s → one ≡ [] ++ statement_listed of (statement_of s) → new ≡ old ++ one ∷ [] → old ++ map (statement_listed of) (statements (block_of (drop i ss))) ≡ all → new ++ map (statement_listed of) (statements (block_of (drop (i + 1) ss))) ≡ all
each_turn of ss i s old new one all h is e grown known =
    append_turn old new (one ∷ []) (map (statement_listed of) (statements (block_of (drop (i + 1) ss)))) all grown
    (ap (λ x. old ++ (x ∷ map (statement_listed of) (statements (block_of (drop (i + 1) ss))))) e ∙ sym (ap (λ b. old ++ map (statement_listed of) (statements b)) (block_at ss i s h is)) ∙ known)

pub arms_turn : {A : Type 0} (of : ℕ → List A) (arms : List Arm) (i : ℕ) (a : Arm) (old new all : List A) → i < length arms → a ≡ get_or arms i a → new ≡ old ++ listed of a.body → old ++ choices_listed of (choices_of (drop i arms)) ≡ all → new ++ choices_listed of (choices_of (drop (i + 1) arms)) ≡ all
arms_turn of arms i a old new all h is e known =
    append_turn old new (listed of a.body) (choices_listed of (choices_of (drop (i + 1) arms))) all e (sym (ap (λ x. old ++ choices_listed of x) (choices_at arms i a h is)) ∙ known)

flat_append : (f : Guarded → List ℕ) (xs ys : List Guarded) → flat_map f (xs ++ ys) ≡ flat_map f xs ++ flat_map f ys
flat_append f [] ys = refl
flat_append f (x ∷ xs) ys = ap (λ zs. f x ++ zs) (flat_append f xs ys) ∙ sym (append_assoc (f x) (flat_map f xs) (flat_map f ys))

module _ (p : Pooled) where
  abbrev of_guarded : Guarded → List ℕ
  of_guarded g = target_signals p g.target.0

  mutual
    statement_driven : (gs : List Guard) (s : Statement) → flat_map of_guarded (guarded_in gs s) ≡ statement_listed (target_signals p) s
    statement_driven gs (assign t v place) = append-nil (target_signals p t.0)
    statement_driven gs (choose arms) = choices_driven gs arms

    choices_driven : (gs : List Guard) (arms : Choices) → flat_map of_guarded (guarded_arms gs arms) ≡ choices_listed (target_signals p) arms
    choices_driven gs none = refl
    choices_driven gs (arm c body others) =
        let first : List Guarded = guarded (gs ++ record { condition = c; taken = true } ∷ []) body in
        let rest : List Guarded = guarded_arms (gs ++ record { condition = c; taken = false } ∷ []) others in
        flat_append of_guarded first rest
        ∙ ap (λ xs. xs ++ flat_map of_guarded rest) (body_driven (gs ++ record { condition = c; taken = true } ∷ []) body)
        ∙ ap (λ xs. listed (target_signals p) body ++ xs) (choices_driven (gs ++ record { condition = c; taken = false } ∷ []) others)

    body_driven : (gs : List Guard) (b : Block) → flat_map of_guarded (guarded gs b) ≡ listed (target_signals p) b
    body_driven gs done = refl
    body_driven gs (next s rest) =
        flat_append of_guarded (guarded_in gs s) (guarded gs rest)
        ∙ ap (λ xs. xs ++ flat_map of_guarded (guarded gs rest)) (statement_driven gs s)
        ∙ ap (λ xs. statement_listed (target_signals p) s ++ xs) (body_driven gs rest)

  pub driven_is : (b : Block) → driven p b ≡ listed (target_signals p) b
  driven_is b = body_driven [] b

module _ (n : ℕ) (f : ℕ → List SigId) (g : ℕ → List ℕ) (like : (k : ℕ) → k < n → IsLike (numbers_of (f k)) (g k)) where
  both_like : (xs ys : List SigId) (us vs : List ℕ) → IsLike (numbers_of xs) us → IsLike (numbers_of ys) vs → IsLike (numbers_of (xs ++ ys)) (us ++ vs)
  both_like xs ys us vs h k = λ s.
      ap (λ zs. is_among zs s) (numbers_append xs ys) ∙ like_append (numbers_of xs) (numbers_of ys) us vs h k s

  mutual
    statement_like : (s : Statement) → AreBelow n (statement_exprs s) → IsLike (numbers_of (statement_listed f s)) (statement_listed g s)
    statement_like (assign t v place) h = like t.0 h.0
    statement_like (choose arms) h = choices_like arms h

    choices_like : (arms : Choices) → AreBelow n (choices_exprs arms) → IsLike (numbers_of (choices_listed f arms)) (choices_listed g arms)
    choices_like none h = λ s. refl
    choices_like (arm c body others) h =
        let parts = all_parts (λ (e : ExprId). e.0 < n) (block_exprs body) (choices_exprs others) h.1 in
        both_like (listed f body) (choices_listed f others) (listed g body) (choices_listed g others) (body_like body parts.0) (choices_like others parts.1)

    body_like : (b : Block) → AreBelow n (block_exprs b) → IsLike (numbers_of (listed f b)) (listed g b)
    body_like done h = λ s. refl
    body_like (next s rest) h =
        let parts = all_parts (λ (e : ExprId). e.0 < n) (statement_exprs s) (block_exprs rest) h in
        both_like (statement_listed f s) (listed f rest) (statement_listed g s) (listed g rest) (statement_like s parts.0) (body_like rest parts.1)

-- the signals of a body's targets are those that it drives
pub driven_like : (p : Pooled) (targets : List (List SigId)) (b : Block) (signals : List SigId) → AreTargets p (length p.exprs) targets → AreThere p (block_exprs b) → signals ≡ listed (λ k. slice_index_or targets k []) b → IsLike (numbers_of signals) (driven p b)
driven_like p targets b signals known there is = λ s.
    ap (λ xs. is_among (numbers_of xs) s) is
    ∙ body_like (length p.exprs) (λ k. slice_index_or targets k []) (target_signals p) known.each b there s
    ∙ ap (λ xs. is_among xs s) (sym (driven_is p b))
