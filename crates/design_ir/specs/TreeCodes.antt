-- A code of trees of statements, by which a proof tells two of them apart.
use Rattle.std.specs.Prelude.{◌≡◌, refl, ℕ}
use Rattle.std.specs.Coded.{Coded, code_by}
use Rattle.std.proofs.Common.{ap}
use base.Stored.{Gv, gnil, gnum, gcons}
use denote.Struct.Codes.{itself}
use Rattle.design_ir.specs.Trees.{Statement, assign, choose, Choices, none, arm, Block, done, next}

abbrev mutual
  pub statement_code : Statement → Gv
  statement_code (assign t v p) = gcons (gnum t.0) (gcons (gnum v.0) (gcons (gnum p.line) (gnum p.col)))
  statement_code (choose c) = gcons gnil (choices_gv c)

  pub choices_gv : Choices → Gv
  choices_gv none = gnil
  choices_gv (arm c b rest) = gcons (gcons (gnum c.0) (block_gv b)) (choices_gv rest)

  pub block_gv : Block → Gv
  block_gv done = gnil
  block_gv (next s rest) = gcons (statement_code s) (block_gv rest)

abbrev pub number_back : Gv → ℕ
number_back gnil = 0
number_back (gnum n) = n
number_back (gcons a b) = 0

abbrev pub first_back : Gv → Gv
first_back gnil = gnil
first_back (gnum n) = gnil
first_back (gcons a b) = a

abbrev pub rest_back : Gv → Gv
rest_back gnil = gnil
rest_back (gnum n) = gnil
rest_back (gcons a b) = b

abbrev pub no_statement : Statement
no_statement = choose none

abbrev mutual
  pub statement_back : Gv → Statement
  statement_back gnil = no_statement
  statement_back (gnum n) = no_statement
  statement_back (gcons (gnum t) v) = assign record { 0 = t } record { 0 = number_back (first_back v) } record { line = number_back (first_back (rest_back v)); col = number_back (rest_back (rest_back v)) }
  statement_back (gcons gnil c) = choose (choices_back c)
  statement_back (gcons (gcons x y) c) = no_statement

  pub choices_back : Gv → Choices
  choices_back gnil = none
  choices_back (gnum n) = none
  choices_back (gcons gnil rest) = none
  choices_back (gcons (gnum n) rest) = none
  choices_back (gcons (gcons c b) rest) = arm record { 0 = number_back c } (block_back b) (choices_back rest)

  pub block_back : Gv → Block
  block_back gnil = done
  block_back (gnum n) = done
  block_back (gcons s rest) = next (statement_back s) (block_back rest)

mutual
  pub statement_again : (s : Statement) → statement_back (statement_code s) ≡ s
  statement_again (assign t v p) = refl
  statement_again (choose c) = ap choose (choices_again c)

  pub choices_again : (c : Choices) → choices_back (choices_gv c) ≡ c
  choices_again none = refl
  choices_again (arm c b rest) = let e = block_again b in let f = choices_again rest in cc

  pub block_again : (b : Block) → block_back (block_gv b) ≡ b
  block_again done = refl
  block_again (next s rest) = let e = statement_again s in let f = block_again rest in cc

abbrev pub block_code : Coded Block
block_code = code_by Gv itself block_gv block_back block_again

abbrev pub choices_code : Coded Choices
choices_code = code_by Gv itself choices_gv choices_back choices_again
