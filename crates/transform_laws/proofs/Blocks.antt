-- What stands in statements that were put together, and what they aim at.
use Rattle.std.proofs.Common.{◌≡◌, ℕ, List, [], ◌∷◌, ◌++◌, refl, sym, ap, ◌∙◌, append-nil, append_assoc}
use Rattle.std.specs.List.{AllByRecursion}
use Rattle.design_ir.specs.declared.ids.ExprId.{ExprId}
use Rattle.design_ir.specs.Trees.{Statement, assign, choose, Choices, none, arm, Block, done, next, block_and}
use Rattle.design_ir.specs.Guards.{block_exprs, choices_exprs, statement_exprs}
use Rattle.fragment_walks.specs.Reads.{block_targets, choices_targets, statement_targets}
use Rattle.fragment_walks.proofs.Lists.{all_joined, all_left, all_right}
use Rattle.domain_transforms.specs.Renamed.{block_append, renamed_block, renamed_choices, renamed_statement}
use Rattle.domain_transforms.specs.Resetting.{block_in_order}

-- ---- one behind the other

pub exprs-and : (b : Block) (s : Statement) → block_exprs (block_and b s) ≡ block_exprs b ++ statement_exprs s
exprs-and done s = append-nil (statement_exprs s)
exprs-and (next t b) s = ap (λ xs. statement_exprs t ++ xs) (exprs-and b s) ∙ sym (append_assoc (statement_exprs t) (block_exprs b) (statement_exprs s))

pub exprs-append : (a b : Block) → block_exprs (block_append a b) ≡ block_exprs a ++ block_exprs b
exprs-append done b = refl
exprs-append (next s a) b = ap (λ xs. statement_exprs s ++ xs) (exprs-append a b) ∙ sym (append_assoc (statement_exprs s) (block_exprs a) (block_exprs b))

pub targets-append : (a b : Block) → block_targets (block_append a b) ≡ block_targets a ++ block_targets b
targets-append done b = refl
targets-append (next s a) b = ap (λ xs. statement_targets s ++ xs) (targets-append a b) ∙ sym (append_assoc (statement_targets s) (block_targets a) (block_targets b))

pub exprs_in_order : (P : ExprId → Type 0) (ss : List Statement) → AllByRecursion (λ s. AllByRecursion P (statement_exprs s)) ss → AllByRecursion P (block_exprs (block_in_order ss))
exprs_in_order P [] h = tt
exprs_in_order P (s ∷ ss) h = all_joined P (statement_exprs s) (block_exprs (block_in_order ss)) h.0 (exprs_in_order P ss h.1)

-- ---- under a condition

pub exprs_under : (P : ExprId → Type 0) (c : ExprId) (b : Block) → P c → AllByRecursion P (block_exprs b) → AllByRecursion P (statement_exprs (choose (arm c b none)))
exprs_under P c b own h = (own, all_joined P (block_exprs b) [] h tt)

pub targets_under : (P : ℕ → Type 0) (c : ExprId) (b : Block) → AllByRecursion P (block_targets b) → AllByRecursion P (statement_targets (choose (arm c b none)))
targets_under P c b h = all_joined P (block_targets b) [] h tt

-- ---- over other expressions

module _ (to : ExprId → ExprId) where
  module _ (P Q : ExprId → Type 0) (each : (e : ExprId) → P e → Q (to e)) where
    mutual
      statement_moved : (s : Statement) → AllByRecursion P (statement_exprs s) → AllByRecursion Q (statement_exprs (renamed_statement to s))
      statement_moved (assign t v p) h = (each t h.0, (each v h.1.0, tt))
      statement_moved (choose arms) h = choices_moved arms h

      choices_moved : (arms : Choices) → AllByRecursion P (choices_exprs arms) → AllByRecursion Q (choices_exprs (renamed_choices to arms))
      choices_moved none h = tt
      choices_moved (arm c body others) h =
          (each c h.0, all_joined Q (block_exprs (renamed_block to body)) (choices_exprs (renamed_choices to others)) (exprs_moved body (all_left P (block_exprs body) (choices_exprs others) h.1)) (choices_moved others (all_right P (block_exprs body) (choices_exprs others) h.1)))

      pub exprs_moved : (b : Block) → AllByRecursion P (block_exprs b) → AllByRecursion Q (block_exprs (renamed_block to b))
      exprs_moved done h = tt
      exprs_moved (next s rest) h =
          all_joined Q (statement_exprs (renamed_statement to s)) (block_exprs (renamed_block to rest)) (statement_moved s (all_left P (statement_exprs s) (block_exprs rest) h)) (exprs_moved rest (all_right P (statement_exprs s) (block_exprs rest) h))

  module _ (P Q : ℕ → Type 0) (each : (e : ExprId) → P e.0 → Q (to e).0) where
    mutual
      aim_moved : (s : Statement) → AllByRecursion P (statement_targets s) → AllByRecursion Q (statement_targets (renamed_statement to s))
      aim_moved (assign t v p) h = (each t h.0, tt)
      aim_moved (choose arms) h = aims_moved arms h

      aims_moved : (arms : Choices) → AllByRecursion P (choices_targets arms) → AllByRecursion Q (choices_targets (renamed_choices to arms))
      aims_moved none h = tt
      aims_moved (arm c body others) h =
          all_joined Q (block_targets (renamed_block to body)) (choices_targets (renamed_choices to others)) (targets_moved body (all_left P (block_targets body) (choices_targets others) h)) (aims_moved others (all_right P (block_targets body) (choices_targets others) h))

      pub targets_moved : (b : Block) → AllByRecursion P (block_targets b) → AllByRecursion Q (block_targets (renamed_block to b))
      targets_moved done h = tt
      targets_moved (next s rest) h =
          all_joined Q (statement_targets (renamed_statement to s)) (block_targets (renamed_block to rest)) (aim_moved s (all_left P (statement_targets s) (block_targets rest) h)) (targets_moved rest (all_right P (statement_targets s) (block_targets rest) h))
