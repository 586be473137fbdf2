-- Statements and arms of trees, one after another.
use Rattle.std.proofs.Common.{◌≡◌, ℕ, zero, suc, ◌+◌, ◌<◌, Bool, List, [], ◌∷◌, ◌++◌, take, Some, slice_get, sym, ap, ◌∙◌, subst, append-nil, append_assoc}
use Rattle.design_ir.specs.declared.stmt.Stmt.{Stmt}
use Rattle.design_ir.specs.declared.stmt.Arm.{Arm}
use Rattle.design_ir.specs.Named.{AllBelow}
use Rattle.design_ir.specs.Statements.{statement_of, block_of, choices_of}
use Rattle.design_ir.specs.Trees.{Statement, Block, Choices, block_and, choices_and}
use Rattle.design_ir.proofs.Lists.{block_of_snoc, choices_of_snoc}
use Rattle.design_ir.specs.Guards.{statement_exprs, choices_exprs, block_exprs}
use Rattle.fragment_walks.specs.Marks.{marked}
use Rattle.fragment_walks.specs.Reads.{statement_targets, choices_targets, block_targets, statement_values, choices_values, block_values}
use Rattle.fragment_walks.proofs.Lists.{take-push, below_split}
use Rattle.fragment_walks.proofs.Markings.{marked-append}

pub statement_names : (n : ℕ) (ss : List Stmt) (i : ℕ) (s : Stmt) → AllBelow n (block_exprs (block_of ss)) → slice_get ss i ≡ Some s → AllBelow n (statement_exprs (statement_of s))
statement_names n [] i s h at = absurd cc
statement_names n (x ∷ ss) zero s h at = let same : x ≡ s = cc in subst (λ y. AllBelow n (statement_exprs (statement_of y))) same (below_split n (statement_exprs (statement_of x)) (block_exprs (block_of ss)) h).0
statement_names n (x ∷ ss) (suc i) s h at = statement_names n ss i s (below_split n (statement_exprs (statement_of x)) (block_exprs (block_of ss)) h).1 at

pub arm_names : (n : ℕ) (arms : List Arm) (i : ℕ) (a : Arm) → AllBelow n (choices_exprs (choices_of arms)) → slice_get arms i ≡ Some a → (a.condition.0 < n) × AllBelow n (block_exprs a.body)
arm_names n [] i a h at = absurd cc
arm_names n (b ∷ arms) zero a h at = let same : b ≡ a = cc in subst (λ (y : Arm). (y.condition.0 < n) × AllBelow n (block_exprs y.body)) same (h.0, (below_split n (block_exprs b.body) (choices_exprs (choices_of arms)) h.1).0)
arm_names n (b ∷ arms) (suc i) a h at = arm_names n arms i a (below_split n (block_exprs b.body) (choices_exprs (choices_of arms)) h.1).1 at

-- ---- one more at the end

pub targets-push : (ss : List Stmt) (s : Stmt) → block_targets (block_of (ss ++ s ∷ [])) ≡ block_targets (block_of ss) ++ statement_targets (statement_of s)
targets-push [] s = append-nil (statement_targets (statement_of s))
targets-push (t ∷ ss) s = ap (λ xs. statement_targets (statement_of t) ++ xs) (targets-push ss s) ∙ sym (append_assoc (statement_targets (statement_of t)) (block_targets (block_of ss)) (statement_targets (statement_of s)))

values-push : (ss : List Stmt) (s : Stmt) → block_values (block_of (ss ++ s ∷ [])) ≡ block_values (block_of ss) ++ statement_values (statement_of s)
values-push [] s = append-nil (statement_values (statement_of s))
values-push (t ∷ ss) s = ap (λ xs. statement_values (statement_of t) ++ xs) (values-push ss s) ∙ sym (append_assoc (statement_values (statement_of t)) (block_values (block_of ss)) (statement_values (statement_of s)))

pub arm_targets-push : (arms : List Arm) (x : Arm) → choices_targets (choices_of (arms ++ x ∷ [])) ≡ choices_targets (choices_of arms) ++ block_targets x.body
arm_targets-push [] x = append-nil (block_targets x.body)
arm_targets-push (y ∷ arms) x = ap (λ xs. block_targets y.body ++ xs) (arm_targets-push arms x) ∙ sym (append_assoc (block_targets y.body) (choices_targets (choices_of arms)) (block_targets x.body))

arm_values-push : (arms : List Arm) (x : Arm) → choices_values (choices_of (arms ++ x ∷ [])) ≡ choices_values (choices_of arms) ++ (x.condition.0 ∷ block_values x.body)
arm_values-push [] x = ap (λ xs. x.condition.0 ∷ xs) (append-nil (block_values x.body))
arm_values-push (y ∷ arms) x =
    ap (λ xs. y.condition.0 ∷ (block_values y.body ++ xs)) (arm_values-push arms x)
    ∙ ap (λ xs. y.condition.0 ∷ xs) (sym (append_assoc (block_values y.body) (choices_values (choices_of arms)) (x.condition.0 ∷ block_values x.body)))

-- ---- turns

turn : {X : Type 0} (f : List X → List ℕ) (items : List X) (i : ℕ) (x : X) (more : List ℕ) (old cur new : List Bool) → slice_get items i ≡ Some x → f (take i items ++ x ∷ []) ≡ f (take i items) ++ more → cur ≡ marked (f (take i items)) old → new ≡ marked more cur → new ≡ marked (f (take (i + 1) items)) old
turn f items i x more old cur new at push h k =
    k ∙ ap (marked more) h ∙ sym (marked-append (f (take i items)) more old) ∙ ap (λ ns. marked ns old) (sym (ap f (take-push items i x at) ∙ push))

pub targets_turn : (ss : List Stmt) (i : ℕ) (s : Stmt) (old cur new : List Bool) → slice_get ss i ≡ Some s → cur ≡ marked (block_targets (block_of (take i ss))) old → new ≡ marked (statement_targets (statement_of s)) cur → new ≡ marked (block_targets (block_of (take (i + 1) ss))) old
targets_turn ss i s old cur new at = turn (λ xs. block_targets (block_of xs)) ss i s (statement_targets (statement_of s)) old cur new at (targets-push (take i ss) s)

pub values_turn : (ss : List Stmt) (i : ℕ) (s : Stmt) (old cur new : List Bool) → slice_get ss i ≡ Some s → cur ≡ marked (block_values (block_of (take i ss))) old → new ≡ marked (statement_values (statement_of s)) cur → new ≡ marked (block_values (block_of (take (i + 1) ss))) old
values_turn ss i s old cur new at = turn (λ xs. block_values (block_of xs)) ss i s (statement_values (statement_of s)) old cur new at (values-push (take i ss) s)

pub arm_targets_turn : (arms : List Arm) (i : ℕ) (x : Arm) (old cur new : List Bool) → slice_get arms i ≡ Some x → cur ≡ marked (choices_targets (choices_of (take i arms))) old → new ≡ marked (block_targets x.body) cur → new ≡ marked (choices_targets (choices_of (take (i + 1) arms))) old
arm_targets_turn arms i x old cur new at = turn (λ xs. choices_targets (choices_of xs)) arms i x (block_targets x.body) old cur new at (arm_targets-push (take i arms) x)

pub arm_values_turn : (arms : List Arm) (i : ℕ) (x : Arm) (old cur new : List Bool) → slice_get arms i ≡ Some x → cur ≡ marked (choices_values (choices_of (take i arms))) old → new ≡ marked (x.condition.0 ∷ block_values x.body) cur → new ≡ marked (choices_values (choices_of (take (i + 1) arms))) old
arm_values_turn arms i x old cur new at = turn (λ xs. choices_values (choices_of xs)) arms i x (x.condition.0 ∷ block_values x.body) old cur new at (arm_values-push (take i arms) x)

-- ---- copies

pub block_copied : (ss : List Stmt) (i : ℕ) (s : Stmt) (old new : Block) (t : Statement) → slice_get ss i ≡ Some s → old ≡ block_of (take i ss) → new ≡ block_and old t → t ≡ statement_of s → new ≡ block_of (take (i + 1) ss)
block_copied ss i s old new t at h k e =
    k ∙ ap (λ b. block_and b t) h ∙ ap (block_and (block_of (take i ss))) e ∙ sym (block_of_snoc (take i ss) s) ∙ ap block_of (sym (take-push ss i s at))

pub choices_copied : (arms : List Arm) (i : ℕ) (a : Arm) (old new : Choices) (body : Block) → slice_get arms i ≡ Some a → old ≡ choices_of (take i arms) → new ≡ choices_and old a.condition body → body ≡ a.body → new ≡ choices_of (take (i + 1) arms)
choices_copied arms i a old new body at h k e =
    k ∙ ap (λ b. choices_and b a.condition body) h ∙ ap (choices_and (choices_of (take i arms)) a.condition) e ∙ sym (choices_of_snoc (take i arms) a) ∙ ap choices_of (sym (take-push arms i a at))
