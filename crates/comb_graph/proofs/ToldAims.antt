-- The table of aims tells which assignments may write a bit.
use Rattle.std.proofs.Common.{◌≡◌, ◌∙◌, inl, inr, ℕ, zero, suc, ◌<◌, ◌≤◌, ◌==◌, ◌&&◌, ◌||◌, cond, Bool, false, List, [], ◌∷◌, map, length, refl, sym, ap, subst, arith, Some, option_map, unwrap_or}
use Rattle.std.specs.List.{find, list_any, Contains, AllByRecursion}
use Rattle.std.proofs.lemmas.Bool.{cases_eq, cases_lt, eq-eqb, ne_eqb, lt-ltb, le-ltb, and_from, and_left, and_right, or_from}
use Rattle.std.proofs.lemmas.List.{get_or_past}
use Rattle.design_ir.specs.declared.signal.Sig.{Sig}
use Rattle.design_ir.specs.Circuits.{Circuit}
use Rattle.design_ir.specs.Guards.{Guarded}
use Rattle.design_ir.specs.Pools.{Pooled}
use Rattle.design_ir.specs.PoolRules.{IsPool}
use Rattle.design_ir.specs.Targets.{Bit, Aim, aims}
use Rattle.design_ir.specs.Values.{signal_form}
use Rattle.shape_rules.specs.Forms.{IsForm}
use Rattle.comb_graph.specs.declared.aimed.Aimed.{Aimed}
use Rattle.comb_graph.specs.CombNodes.{bit_at}
use Rattle.comb_graph.specs.Meanings.{node_of}
use Rattle.comb_graph.specs.Orders.{same_bit}
use Rattle.comb_graph.specs.Refusals.{assignments, may_assign, loop_place}
use Rattle.comb_graph.specs.Seen.{HasAims, row_at, seen}
use Rattle.comb_graph.specs.Told.{aims_at, first_place}
use Rattle.comb_graph.proofs.AimBits.{aims_are, aims_past}
use Rattle.comb_graph.proofs.AimTables.{node_back}
use Rattle.comb_graph.proofs.GraphSteps.{narrow}
use Rattle.digraph.proofs.WalkPaths.{contains-cons, contains-head}

-- ---- bits and their nodes

node_same : (a b : Bit) → a.index < 128 → b.index < 128 → (node_of a == node_of b) ≡ same_bit a b
node_same a b small low =
    elim (cases_eq a.sig b.sig) [
      | inl sig ↦ elim (cases_eq a.index b.index) [
        | inl index ↦ eq-eqb (node_of a) (node_of b) (omega (arith, sig, index)) ∙ sym (and_from (a.sig == b.sig) (a.index == b.index) (eq-eqb a.sig b.sig sig) (eq-eqb a.index b.index index))
        | inr other ↦ ne_eqb (node_of a) (node_of b) (λ e. other (omega (arith, e, sig))) ∙ sym (and_right (a.sig == b.sig) (a.index == b.index) (ne_eqb a.index b.index other))
      ]
      | inr other ↦ ne_eqb (node_of a) (node_of b) (λ e. other (omega (arith, e, small, low))) ∙ sym (and_left (a.sig == b.sig) (a.index == b.index) (ne_eqb a.sig b.sig other))
    ]

-- the bits of aims are low
abbrev AreLow : List Aim → Type 0
AreLow xs = (x : Aim) → Contains xs x → x.bit.index < 128

any_node : (row : List Aimed) (b : Bit) → b.index < 128 → list_any (λ (a : Aimed). a.node == node_of b) row ≡ list_any (λ (a : Aim). same_bit a.bit b) (map seen row)
any_node [] b low = refl
any_node (a ∷ row) b low =
    let small : (bit_at a.node).index < 128 = omega arith in
    ap (λ t. t || list_any (λ (x : Aimed). x.node == node_of b) row) (ap (λ n. n == node_of b) (sym (node_back a.node)) ∙ node_same (bit_at a.node) b small low)
    ∙ ap (λ t. same_bit (bit_at a.node) b || t) (any_node row b low)

any_high : (xs : List Aim) (b : Bit) → AreLow xs → 128 ≤ b.index → list_any (λ (a : Aim). same_bit a.bit b) xs ≡ false
any_high [] b all high = refl
any_high (x ∷ xs) b all high =
    let small : x.bit.index < 128 = all x (contains-head x xs) in
    or_from (same_bit x.bit b) (list_any (λ (a : Aim). same_bit a.bit b) xs)
    (and_right (x.bit.sig == b.sig) (x.bit.index == b.index) (ne_eqb x.bit.index b.index (λ e. omega (arith, e, small, high))))
    (any_high xs b (λ y among. all y (contains-cons x y xs among)) high)

aims_same : (row : List Aimed) (b : Bit) → AreLow (map seen row) → aims_at row b ≡ list_any (λ (a : Aim). same_bit a.bit b) (map seen row)
aims_same row b all =
    let any = list_any (λ (a : Aimed). a.node == node_of b) row in
    elim (cases_lt b.index 128) [
      | inl low ↦ ap (λ t. t && any) (lt-ltb b.index 128 low) ∙ any_node row b low
      | inr high ↦ ap (λ t. t && any) (le-ltb b.index 128 high) ∙ sym (any_high (map seen row) b all high)
    ]

-- ---- the rows of the table

rows_of : (pool : Pooled) (table : List (List Aimed)) (e : ℕ) → HasAims pool table → map seen (row_at table e) ≡ aims pool e
rows_of pool table e h =
    elim (cases_lt e (length pool.exprs)) [
      | inl there ↦ h.rows e there
      | inr past ↦ ap (map seen) (get_or_past table e [] (omega (arith, past, h.count))) ∙ sym (aims_past pool e past)
    ]

signal_narrow : (sigs : List Sig) (s : ℕ) → AllByRecursion (λ (x : Sig). IsForm x.shape.width x.shape.signed) sigs → s < length sigs → (signal_form sigs s).width ≤ 128
signal_narrow [] s h there = absurd (omega (arith, there))
signal_narrow (x ∷ sigs) zero h there = narrow x.shape.width x.shape.signed h.0
signal_narrow (x ∷ sigs) (suc s) h there = signal_narrow sigs s h.1 (omega (arith, there))

aims_low : (pool : Pooled) (e : ℕ) → IsPool pool → AreLow (aims pool e)
aims_low pool e rules x among =
    let is = aims_are pool rules e x among in
    let wide = signal_narrow pool.signals x.bit.sig rules.shapes is.there in
    let below = is.index in
    omega (arith, wide, below)

-- ---- assignments

test_same : (c : Circuit) (table : List (List Aimed)) (b : Bit) (g : Guarded) → IsPool c.pool → HasAims c.pool table → aims_at (row_at table g.target.0) b ≡ may_assign c b g
test_same c table b g rules h =
    let is : map seen (row_at table g.target.0) ≡ aims c.pool g.target.0 = rows_of c.pool table g.target.0 h in
    aims_same (row_at table g.target.0) b (subst AreLow (sym is) (aims_low c.pool g.target.0 rules)) ∙ ap (list_any (λ (a : Aim). same_bit a.bit b)) is

find_same : {X : Type 0} (p q : X → Bool) (xs : List X) → ((x : X) → p x ≡ q x) → find p xs ≡ find q xs
find_same p q [] h = refl
find_same p q (x ∷ xs) h = ap (λ t. cond t (Some x) (find p xs)) (h x) ∙ ap (λ o. cond (q x) (Some x) o) (find_same p q xs h)

-- the table tells the place of the loop
pub place_is : (c : Circuit) (table : List (List Aimed)) (b : Bit) → IsPool c.pool → HasAims c.pool table → unwrap_or (first_place table b (assignments c)) (record { line = 1; col = 1 }) ≡ loop_place c b
place_is c table b rules h =
    ap (λ o. unwrap_or (option_map (λ (g : Guarded). g.place) o) (record { line = 1; col = 1 }))
    (find_same (λ (g : Guarded). aims_at (row_at table g.target.0) b) (may_assign c b) (assignments c) (λ g. test_same c table b g rules h))
