-- Entries and branches: what is given in them, and how many statements they are.
use Rattle.std.proofs.Common.{◌≡◌, ◌+◌, ◌∷◌, ◌++◌, length, refl, sym, ap, ◌∙◌, append-nil, append_assoc, arith}
use Rattle.design_ir.specs.declared.ids.ExprId.{ExprId}
use Rattle.module_dsl.specs.Blocks.{Entries, nothing, given, choice, Branches, none, branch, joined, and_branch, ended}
use Rattle.module_dsl.specs.Sided.{givens, givens_in, sides_of, statement_count, branch_count}

pub givens-joined : (es more : Entries) → givens (joined es more) ≡ givens es ++ givens more
givens-joined nothing more = refl
givens-joined (given g rest) more = ap (λ gs. g ∷ gs) (givens-joined rest more)
givens-joined (choice bs rest) more = ap (λ gs. givens_in bs ++ gs) (givens-joined rest more) ∙ sym (append_assoc (givens_in bs) (givens rest) (givens more))

pub givens_in-and_branch : (bs : Branches) (c : ExprId) (es : Entries) → givens_in (and_branch bs c es) ≡ givens_in bs ++ givens es
givens_in-and_branch none c es = append-nil (givens es)
givens_in-and_branch (branch d other bs) c es = ap (λ gs. givens other ++ gs) (givens_in-and_branch bs c es) ∙ sym (append_assoc (givens other) (givens_in bs) (givens es))

pub givens-ended : (es : Entries) (bs : Branches) → givens (ended es bs) ≡ givens es ++ givens_in bs
givens-ended es none = sym (append-nil (givens es))
givens-ended es (branch c body bs) = givens-joined es (choice (branch c body bs) nothing) ∙ ap (λ gs. givens es ++ gs) (append-nil (givens_in (branch c body bs)))

pub count-joined : (es more : Entries) → statement_count (joined es more) ≡ statement_count es + statement_count more
count-joined nothing more = omega arith
count-joined (given g rest) more = omega (arith, count-joined rest more)
count-joined (choice bs rest) more = omega (arith, count-joined rest more)

pub count-and_branch : (bs : Branches) (c : ExprId) (es : Entries) → branch_count (and_branch bs c es) ≡ branch_count bs + statement_count es
count-and_branch none c es = omega arith
count-and_branch (branch d other bs) c es = omega (arith, count-and_branch bs c es)

pub count-ended : (es : Entries) (bs : Branches) → statement_count (ended es bs) ≡ statement_count es + (length (sides_of (givens_in bs)) + branch_count bs)
count-ended es none = omega arith
count-ended es (branch c body bs) = omega (arith, count-joined es (choice (branch c body bs) nothing))
