-- Expressions that another one names, one at a time.
use Rattle.std.proofs.Common.{◌≡◌, ◌<◌, ◌≤◌, ◌+◌, ◌-◌, ℕ, zero, suc, List, [], ◌∷◌, ◌++◌, length, drop, get_or, ap, ◌∙◌, arith}
use Rattle.std.proofs.lemmas.List.{drop_more, drop_all}
use Rattle.design_ir.specs.declared.ids.ExprId.{ExprId}
use Rattle.design_ir.specs.Named.{AllBelow}
use Rattle.netlist_laws.specs.Operators.{Value, whole}
use Rattle.netlist_laws.specs.Expressions.{joined}

pub below_get : (n : ℕ) (es : List ExprId) (i : ℕ) (d : ExprId) → AllBelow n es → i < length es → (get_or es i d).0 < n
below_get n [] i d h lt = absurd (omega arith)
below_get n (e ∷ es) zero d h lt = h.0
below_get n (e ∷ es) (suc i) d h lt = below_get n es i d h.1 (omega arith)

pub joined_begin : (value : ℕ → Value) (es : List ExprId) → joined value (drop (length es - 0) es) ≡ []
joined_begin value es = ap (joined value) (drop_all (length es - 0) es (omega arith))

pub joined_turn : (value : ℕ → Value) (es : List ExprId) (i : ℕ) (d : ExprId) → i < length es
    → joined value (drop (length es - (i + 1)) es) ≡ joined value (drop (length es - i) es) ++ whole (value (get_or es (length es - 1 - i) d).0)
joined_turn value es i d h =
    let k : ℕ = length es - 1 - i in
    let here : length es - (i + 1) ≡ k = omega arith in
    let next : k + 1 ≡ length es - i = omega arith in
    ap (λ j. joined value (drop j es)) here ∙ ap (joined value) (drop_more es k d (omega arith)) ∙ ap (λ j. joined value (drop j es) ++ whole (value (get_or es k d).0)) next

pub joined_end : (value : ℕ → Value) (es : List ExprId) (i : ℕ) → length es ≤ i → joined value (drop (length es - i) es) ≡ joined value es
joined_end value es i h = let none : length es - i ≡ 0 = omega arith in ap (λ j. joined value (drop j es)) none
