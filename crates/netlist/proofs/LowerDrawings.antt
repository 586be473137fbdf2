-- Turns of the loop over all expressions.
use Rattle.std.proofs.Common.{◌≡◌, ◌<◌, ◌≤◌, ◌+◌, ℕ, suc, List, [], ◌∷◌, length, drop, get_or, sym, ap, ◌∙◌, arith, append-nil}
use Rattle.std.proofs.lemmas.List.{drop_more, drop_all}
use Rattle.design_ir.specs.declared.expr.Expr.{Expr}
use Rattle.design_ir.specs.Circuits.{Circuit}
use Rattle.netlist_laws.specs.Operators.{Drawing}
use Rattle.netlist_laws.specs.Expressions.{and_also, part_count, drawn}
use Rattle.netlist_laws.specs.Module.{signal_value, expr_value, drawn_from}
use Rattle.netlist.specs.Tables.{together}
use Rattle.netlist_cells.proofs.LowerItems.{and_also_assoc}

pub also_nothing : (d : Drawing) → and_also d (together []) ≡ d
also_nothing d = λ i. record { wires = append-nil d.wires i; cells = append-nil d.cells i; links = append-nil d.links i }

pub also_more : (d d' all e : Drawing) (es : List Drawing) → d' ≡ and_also d e → and_also d (together (e ∷ es)) ≡ all → and_also d' (together es) ≡ all
also_more d d' all e es added whole = ap (λ (x : Drawing). and_also x (together es)) added ∙ and_also_assoc d e (together es) ∙ whole

pub drawings_turn : (c : Circuit) (i n n' : ℕ) (es : List Expr) (e : Expr) (d d' all : Drawing) → i < length es → get_or es i e ≡ e → n' ≡ n + part_count e
    → d' ≡ and_also d (drawn (signal_value c) (expr_value c) n (expr_value c i) e) → and_also d (together (drawn_from c i n (drop i es))) ≡ all → and_also d' (together (drawn_from c (i + 1) n' (drop (i + 1) es))) ≡ all
drawings_turn c i n n' es e d d' all h is count added whole =
    let head : drop i es ≡ e ∷ drop (i + 1) es = drop_more es i e h ∙ ap (λ (x : Expr). x ∷ drop (i + 1) es) is in
    let one : i + 1 ≡ suc i = omega arith in
    let same : drawn_from c (i + 1) n' (drop (i + 1) es) ≡ drawn_from c (suc i) (n + part_count e) (drop (i + 1) es) = (λ j. drawn_from c (one j) (count j) (drop (i + 1) es)) in
    ap (λ (ds : List Drawing). and_also d' (together ds)) same
    ∙ also_more d d' all (drawn (signal_value c) (expr_value c) n (expr_value c i) e) (drawn_from c (suc i) (n + part_count e) (drop (i + 1) es)) added (ap (λ xs. and_also d (together (drawn_from c i n xs))) (sym head) ∙ whole)

pub drawings_end : (c : Circuit) (i n : ℕ) (es : List Expr) (d all : Drawing) → length es ≤ i → and_also d (together (drawn_from c i n (drop i es))) ≡ all → d ≡ all
drawings_end c i n es d all h whole = sym (also_nothing d) ∙ ap (λ xs. and_also d (together (drawn_from c i n xs))) (sym (drop_all i es h)) ∙ whole
