-- How many parts the expressions of a pool take: one expression more, and few enough for ids to differ.
use Rattle.std.specs.Prelude.{◌≡◌, ◌≤◌, ◌<◌, ◌+◌, ◌*◌, ◌^◌, ℕ, List, [], ◌∷◌, ◌++◌, length, take}
use Rattle.std.specs.List.{AllByRecursion}
use Rattle.std.proofs.Common.{sym, ap, ◌∙◌, arith, get_or}
use Rattle.std.proofs.lemmas.List.{take_more}
use Rattle.design_ir.specs.declared.expr.Expr.{Expr}
use Rattle.design_ir.specs.Pools.{Pooled}
use Rattle.design_ir.specs.PoolRules.{IsPool}
use Rattle.netlist_laws.specs.Expressions.{part_count, part_total}

pub part_total-append : (es fs : List Expr) → part_total (es ++ fs) ≡ part_total es + part_total fs
part_total-append [] fs = omega arith
part_total-append (e ∷ es) fs = omega (arith, part_total-append es fs)

-- a turn of a loop that counts parts
pub part_total-more : (es : List Expr) (i : ℕ) (e : Expr) → i < length es → e ≡ get_or es i e → part_total (take (i + 1) es) ≡ part_total (take i es) + part_count e
part_total-more es i e h is =
    let one : part_total (get_or es i e ∷ []) ≡ part_count e = ap (λ (x : Expr). part_total (x ∷ [])) (sym is) ∙ (let z : part_count e + 0 ≡ part_count e = omega arith in z) in
    ap part_total (take_more es i e h) ∙ part_total-append (take i es) (get_or es i e ∷ []) ∙ ap (λ n. part_total (take i es) + n) one

part_total-bound : (es : List Expr) → AllByRecursion (λ (e : Expr). part_count e ≤ 2 ^ 128) es → part_total es ≤ length es * 2 ^ 128
part_total-bound [] h = omega arith
part_total-bound (e ∷ es) h = omega (arith, h.0, part_total-bound es h.1)

-- lists that a machine can hold are short enough
pub few_parts : (p : Pooled) → IsPool p → AllByRecursion (λ (e : Expr). part_count e ≤ 2 ^ 128) p.exprs → part_total p.exprs < 10 ^ 63
few_parts p pool h = omega (arith, part_total-bound p.exprs h, pool.few_exprs)
