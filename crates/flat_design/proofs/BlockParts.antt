-- What all expressions of statements keep to, the targets, values and conditions of their assignments keep to.
use Rattle.std.specs.Prelude.{true, false, List, [], ◌∷◌, ◌++◌}
use Rattle.std.specs.List.{AllByRecursion}
use Rattle.design_ir.specs.declared.ids.ExprId.{ExprId}
use Rattle.design_ir.specs.Trees.{Statement, assign, choose, Choices, none, arm, Block, done, next}
use Rattle.design_ir.specs.Guards.{Guard, Guarded, guarded, guarded_in, guarded_arms, statement_exprs, choices_exprs, block_exprs}

pub all_left : {A : Type 0} (P : A → Type 0) (xs ys : List A) → AllByRecursion P (xs ++ ys) → AllByRecursion P xs
all_left P [] ys h = tt
all_left P (x ∷ xs) ys h = (h.0, all_left P xs ys h.1)

pub all_right : {A : Type 0} (P : A → Type 0) (xs ys : List A) → AllByRecursion P (xs ++ ys) → AllByRecursion P ys
all_right P [] ys h = h
all_right P (x ∷ xs) ys h = all_right P xs ys h.1

pub all_append : {A : Type 0} (P : A → Type 0) (xs ys : List A) → AllByRecursion P xs → AllByRecursion P ys → AllByRecursion P (xs ++ ys)
all_append P [] ys h k = k
all_append P (x ∷ xs) ys h k = (h.0, all_append P xs ys h.1 k)

module _ (P : ExprId → Type 0) where
  abbrev pub AreGuards : List Guard → Type 0
  AreGuards gs = AllByRecursion (λ (g : Guard). P g.condition) gs

  pub record HasParts (g : Guarded) : Type 0 where
    pub guards : AllByRecursion (λ (x : Guard). P x.condition) g.guards
    pub target : P g.target
    pub value : P g.value

  mutual
    in_parts : (gs : List Guard) (s : Statement) → AreGuards gs → AllByRecursion P (statement_exprs s) → AllByRecursion HasParts (guarded_in gs s)
    in_parts gs (assign t v p) are h = (record { guards = are; target = h.0; value = h.1.0 }, tt)
    in_parts gs (choose arms) are h = arm_parts gs arms are h

    arm_parts : (gs : List Guard) (arms : Choices) → AreGuards gs → AllByRecursion P (choices_exprs arms) → AllByRecursion HasParts (guarded_arms gs arms)
    arm_parts gs none are h = tt
    arm_parts gs (arm c body others) are h =
        let taken : List Guard = gs ++ record { condition = c; taken = true } ∷ [] in
        let passed : List Guard = gs ++ record { condition = c; taken = false } ∷ [] in
        all_append HasParts (guarded taken body) (guarded_arms passed others)
        (block_parts taken body (all_append (λ (g : Guard). P g.condition) gs (record { condition = c; taken = true } ∷ []) are (h.0, tt)) (all_left P (block_exprs body) (choices_exprs others) h.1))
        (arm_parts passed others (all_append (λ (g : Guard). P g.condition) gs (record { condition = c; taken = false } ∷ []) are (h.0, tt)) (all_right P (block_exprs body) (choices_exprs others) h.1))

    pub block_parts : (gs : List Guard) (b : Block) → AreGuards gs → AllByRecursion P (block_exprs b) → AllByRecursion HasParts (guarded gs b)
    block_parts gs done are h = tt
    block_parts gs (next s rest) are h =
        all_append HasParts (guarded_in gs s) (guarded gs rest)
        (in_parts gs s are (all_left P (statement_exprs s) (block_exprs rest) h))
        (block_parts gs rest are (all_right P (statement_exprs s) (block_exprs rest) h))
