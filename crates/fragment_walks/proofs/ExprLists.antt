-- The expressions of statements and memory ports, one after another.
use Rattle.std.proofs.Common.{◌≡◌, ℕ, ◌+◌, List, [], ◌∷◌, ◌++◌, take, Some, slice_get, sym, ap, ◌∙◌, append-nil, append_assoc}
use Rattle.std.specs.List.{flat_map}
use Rattle.std.proofs.lemmas.List.Concat.{flat_map-append}
use Rattle.design_ir.specs.declared.stmt.Stmt.{Stmt}
use Rattle.design_ir.specs.declared.stmt.Arm.{Arm}
use Rattle.design_ir.specs.Statements.{statement_of, block_of, choices_of}
use Rattle.design_ir.specs.Guards.{block_exprs, choices_exprs, statement_exprs}
use Rattle.fragment_walks.proofs.Lists.{take-push}

pub added_turn : {X B : Type 0} (f : List X → List B) (items : List X) (i : ℕ) (x : X) (more old cur new : List B) → slice_get items i ≡ Some x → f (take i items ++ x ∷ []) ≡ f (take i items) ++ more → cur ≡ old ++ f (take i items) → new ≡ cur ++ more → new ≡ old ++ f (take (i + 1) items)
added_turn f items i x more old cur new at push h k =
    k ∙ ap (λ xs. xs ++ more) h ∙ append_assoc old (f (take i items)) more ∙ ap (λ xs. old ++ xs) (sym (ap f (take-push items i x at) ∙ push))

pub flat_added : {X B : Type 0} (g : X → List B) (items : List X) (i : ℕ) (x : X) (old cur new : List B) → slice_get items i ≡ Some x → cur ≡ old ++ flat_map g (take i items) → new ≡ cur ++ g x → new ≡ old ++ flat_map g (take (i + 1) items)
flat_added g items i x old cur new at = added_turn (flat_map g) items i x (g x) old cur new at (flat_map-append g (take i items) (x ∷ []) ∙ ap (λ ys. flat_map g (take i items) ++ ys) (append-nil (g x)))

pub block_exprs-push : (ss : List Stmt) (s : Stmt) → block_exprs (block_of (ss ++ s ∷ [])) ≡ block_exprs (block_of ss) ++ statement_exprs (statement_of s)
block_exprs-push [] s = append-nil (statement_exprs (statement_of s))
block_exprs-push (t ∷ ss) s = ap (λ xs. statement_exprs (statement_of t) ++ xs) (block_exprs-push ss s) ∙ sym (append_assoc (statement_exprs (statement_of t)) (block_exprs (block_of ss)) (statement_exprs (statement_of s)))

pub choices_exprs-push : (arms : List Arm) (x : Arm) → choices_exprs (choices_of (arms ++ x ∷ [])) ≡ choices_exprs (choices_of arms) ++ (x.condition ∷ block_exprs x.body)
choices_exprs-push [] x = ap (λ xs. x.condition ∷ xs) (append-nil (block_exprs x.body))
choices_exprs-push (y ∷ arms) x =
    ap (λ xs. y.condition ∷ (block_exprs y.body ++ xs)) (choices_exprs-push arms x)
    ∙ ap (λ xs. y.condition ∷ xs) (sym (append_assoc (block_exprs y.body) (choices_exprs (choices_of arms)) (x.condition ∷ block_exprs x.body)))
