-- Turns of the loops over items and patterns.
use Rattle.std.proofs.Common.{◌≡◌, ◌<◌, ◌≤◌, ◌+◌, ℕ, suc, max, List, [], ◌∷◌, length, length-drop, drop, get_or, refl, sym, ap, ◌∙◌, arith, append_assoc, pos}
use Rattle.std.proofs.lemmas.List.{drop_more, drop_all}
use Rattle.shape_rules.specs.Forms.{unsigned}
use Rattle.design_ir.specs.declared.expr.Pattern.{Pattern}
use Rattle.netlist_laws.specs.Ids.{part_id}
use Rattle.netlist_laws.specs.Operands.{at_width, const_spec}
use Rattle.netlist_laws.specs.Operators.{Value, Drawing, linked}
use Rattle.netlist_laws.specs.Expressions.{and_also, picked_of, matched_within, matched_any}
use Rattle.netlist_laws.specs.ItemSteps.{item_drawing, picked_from, either_drawing}

pub and_also_assoc : (d e f : Drawing) → and_also (and_also d e) f ≡ and_also d (and_also e f)
and_also_assoc d e f = λ i. record { wires = append_assoc d.wires e.wires f.wires i; cells = append_assoc d.cells e.cells f.cells i; links = append_assoc d.links e.links f.links i }

-- ---- items

pub picked_begin : (n : ℕ) (index : Value) (items : List Value) (y : Value) → picked_from n index 0 items y ≡ picked_of n index items y
picked_begin n index [] y = refl
picked_begin n index (x ∷ xs) y = refl

picked_next : (n : ℕ) (index : Value) (i : ℕ) (x : Value) (xs : List Value) (into : Value) → 0 < length xs → picked_from n index i (x ∷ xs) into ≡ and_also (item_drawing n index i x into) (picked_from (n + 4) index (suc i) xs (record { id = part_id (n + 3); form = into.form }))
picked_next n index i x [] into h = absurd (omega arith)
picked_next n index i x (z ∷ zs) into h = refl

pub picked_turn : (n : ℕ) (index : Value) (i : ℕ) (items : List Value) (x into into' : Value) (d d' all : Drawing) → i + 1 < length items → x ≡ get_or items i x → into' ≡ record { id = part_id (n + 3); form = into.form }
    → d' ≡ and_also d (item_drawing n index i x into) → and_also d (picked_from n index i (drop i items) into) ≡ all → and_also d' (picked_from (n + 4) index (i + 1) (drop (i + 1) items) into') ≡ all
picked_turn n index i items x into into' d d' all h is next added whole =
    let other : Value = record { id = part_id (n + 3); form = into.form } in
    let rest : Drawing = picked_from (n + 4) index (i + 1) (drop (i + 1) items) other in
    let more : 0 < length (drop (i + 1) items) = omega (arith, length-drop (i + 1) items) in
    let head : drop i items ≡ x ∷ drop (i + 1) items = drop_more items i x (omega arith) ∙ ap (λ (z : Value). z ∷ drop (i + 1) items) (sym is) in
    let one : suc i ≡ i + 1 = omega arith in
    let first : picked_from n index i (drop i items) into ≡ and_also (item_drawing n index i x into) rest =
    ap (λ xs. picked_from n index i xs into) head ∙ picked_next n index i x (drop (i + 1) items) into more ∙ ap (λ k. and_also (item_drawing n index i x into) (picked_from (n + 4) index k (drop (i + 1) items) other)) one in
    ap (λ (z : Value). and_also d' (picked_from (n + 4) index (i + 1) (drop (i + 1) items) z)) next
    ∙ ap (λ (e : Drawing). and_also e rest) added ∙ and_also_assoc d (item_drawing n index i x into) rest ∙ ap (and_also d) (sym first) ∙ whole

pub picked_end : (n : ℕ) (index : Value) (i : ℕ) (items : List Value) (x into : Value) (d d' all : Drawing) → i + 1 ≡ length items → x ≡ get_or items i x
    → d' ≡ and_also d (linked into (at_width x.id x.form into.form.width)) → and_also d (picked_from n index i (drop i items) into) ≡ all → d' ≡ all
picked_end n index i items x into d d' all h is added whole =
    let head : drop i items ≡ x ∷ [] = drop_more items i x (omega arith) ∙ ap (λ (z : Value). z ∷ drop (i + 1) items) (sym is) ∙ ap (λ zs. x ∷ zs) (drop_all (i + 1) items (omega arith)) in
    added ∙ ap (λ zs. and_also d (picked_from n index i zs into)) (sym head) ∙ whole

-- ---- patterns

pub matched_turn : (n : ℕ) (a : Value) (i : ℕ) (ps : List Pattern) (p : Pattern) (into into' : Value) (d e d' all : Drawing) → i < length ps → p ≡ get_or ps i p → into' ≡ record { id = part_id (n + 5); form = unsigned 1 }
    → e ≡ and_also d (matched_within n (unsigned (max 1 a.form.width)) a p) → d' ≡ and_also e (either_drawing n into) → and_also d (matched_any n a (drop i ps) into) ≡ all → and_also d' (matched_any (n + 6) a (drop (i + 1) ps) into') ≡ all
matched_turn n a i ps p into into' d e d' all h is next one two whole =
    let other : Value = record { id = part_id (n + 5); form = unsigned 1 } in
    let match : Drawing = matched_within n (unsigned (max 1 a.form.width)) a p in
    let rest : Drawing = matched_any (n + 6) a (drop (i + 1) ps) other in
    let head : drop i ps ≡ p ∷ drop (i + 1) ps = drop_more ps i p h ∙ ap (λ (z : Pattern). z ∷ drop (i + 1) ps) (sym is) in
    ap (λ (z : Value). and_also d' (matched_any (n + 6) a (drop (i + 1) ps) z)) next
    ∙ ap (λ (f : Drawing). and_also f rest) (two ∙ ap (λ (f : Drawing). and_also f (either_drawing n into)) one)
    ∙ and_also_assoc (and_also d match) (either_drawing n into) rest
    ∙ and_also_assoc d match (and_also (either_drawing n into) rest)
    ∙ ap (λ zs. and_also d (matched_any n a zs into)) (sym head)
    ∙ whole

pub matched_end : (n : ℕ) (a : Value) (i : ℕ) (ps : List Pattern) (into : Value) (d d' all : Drawing) → length ps ≤ i
    → d' ≡ and_also d (linked into (const_spec 1 (pos 0))) → and_also d (matched_any n a (drop i ps) into) ≡ all → d' ≡ all
matched_end n a i ps into d d' all h added whole = added ∙ ap (λ zs. and_also d (matched_any n a zs into)) (sym (drop_all i ps h)) ∙ whole
