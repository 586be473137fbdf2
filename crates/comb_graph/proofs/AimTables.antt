-- The table of aims, one expression more; and the rows of an expression, one aim more.
use Rattle.std.specs.Prelude.{◌≡◌, refl, ℕ, ◌+◌, ◌*◌, ◌/◌, ◌%◌, ◌<◌, ◌≤◌, List, [], ◌∷◌, ◌++◌, map, length, take, drop, slice_get, slice_index_or, Option, Some, None, option_map, Contains, Result, Ok, Err, IfOk}
use Rattle.std.specs.List.{AllByRecursion, flat_map, filter_map, cons_option}
use Rattle.std.proofs.Common.{sym, ◌∙◌, ap, arith, subst, append_assoc, inl, inr}
use Rattle.std.proofs.lemmas.Bool.{cases_eq}
use Rattle.std.proofs.lemmas.List.{length-append, map-append}
use Rattle.std.proofs.lemmas.List.Elements.{Contains-get_or, filter_map-append}
use Rattle.std.proofs.lemmas.Nat.{div-mul-add, mod-mul-add}
use Rattle.std.proofs.Math.ListN.{get_or-append}
use Rattle.std.proofs.Math.Seq.{get_or-append_seam}
use Rattle.shape_rules.specs.Forms.{Form}
use Rattle.design_ir.specs.declared.ids.ExprId.{ExprId}
use Rattle.design_ir.specs.Pools.{Pooled}
use Rattle.design_ir.specs.PoolRules.{IsPool}
use Rattle.design_ir.specs.Values.{form}
use Rattle.design_ir.specs.Targets.{Aim, Numbers, aim_at, aims, aims_of_all, chosen_items, raised}
use Rattle.design_ir.specs.Named.{AllBelow}
use Rattle.design_ir.proofs.AimSteps.{all_chosen}
use Rattle.design_ir.proofs.Elements.{map_has}
use Rattle.comb_graph.specs.declared.aimed.At.TheVariants.{Fixed}
use Rattle.comb_graph.specs.declared.aimed.Aimed.{Aimed}
use Rattle.comb_graph.specs.CombNodes.{bit_at}
use Rattle.comb_graph.specs.Meanings.{node_of}
use Rattle.comb_graph.specs.Places.{bit_nodes}
use Rattle.comb_graph.specs.Rules.{IsAim}
use Rattle.comb_graph.specs.Seen.{AllStandBelow, HasRows, HasAims, row_at, seen, spot_of}
use Rattle.comb_graph.proofs.AimBits.{aims_are}
use Rattle.digraph.proofs.Takes.{take-push}
use Rattle.comb_graph.proofs.GraphRows.{drop-next, flat_more}
use Rattle.comb_graph.proofs.GraphSteps.{signals_fit}

-- ---- nodes and bits

pub node_back : (n : ℕ) → node_of (bit_at n) ≡ n
node_back n = omega arith

pub seen_at : (s i : ℕ) → i < 128 → seen (record { node = 128 * s + i; at = Fixed i }) ≡ aim_at s i
seen_at s i h =
    let order : 128 * s + i ≡ s * 128 + i = omega arith in
    let sig : (128 * s + i) / 128 ≡ s = ap (λ n. n / 128) order ∙ div-mul-add s 128 i h in
    let index : (128 * s + i) % 128 ≡ i = ap (λ n. n % 128) order ∙ mod-mul-add s 128 i h in
    λ j. record { bit = record { sig = sig j; index = index j }; spot = spot_of (Fixed i) }

-- ---- what holds of the aims of a row

row_aim : (pool : Pooled) (row : List Aimed) (e k : ℕ) (d : Aimed) → IsPool pool → map seen row ≡ aims pool e → k < length row → IsAim pool e (seen (slice_index_or row k d))
row_aim pool row e k d rules is below =
    let a : Aimed = slice_index_or row k d in
    aims_are pool rules e (seen a) (subst (λ xs. Contains xs (seen a)) is (map_has seen row a (Contains-get_or row k d below)))

pub stand_below : (pool : Pooled) (table : List (List Aimed)) (e : ℕ) → IsPool pool → HasRows pool table → e < length table → AllStandBelow (form pool e).width (row_at table e)
stand_below pool table e rules h there = λ k d below. (row_aim pool (row_at table e) e k d rules (h.rows e there) below).below

pub all_narrow : (w v : ℕ) (row : List Aimed) → w ≤ v → AllStandBelow w row → AllStandBelow v row
all_narrow w v row le h = λ k d below j here. let inside = h k d below j here in omega (arith, inside, le)

-- ---- the table

pub rows_begin : (pool : Pooled) → HasRows pool []
rows_begin pool = record { few = omega arith; rows = λ e there. absurd (omega (arith, there)) }

pub rows_push : (pool : Pooled) (table : List (List Aimed)) (row : List Aimed) → length table < length pool.exprs → HasRows pool table → map seen row ≡ aims pool (length table) → HasRows pool (table ++ row ∷ [])
rows_push pool table row there h new =
    let long : length (table ++ row ∷ []) ≡ length table + 1 = length-append table (row ∷ []) in
    record {
      few = omega (arith, long, there);
      rows = λ e inside. elim (cases_eq e (length table)) [
        | inl same ↦ subst (λ k. map seen (row_at (table ++ row ∷ []) k) ≡ aims pool k) (sym same) (ap (map seen) (get_or-append_seam table row [] []) ∙ new)
        | inr other ↦
            let below : e < length table = omega (arith, inside, long, other) in
            ap (map seen) (get_or-append table (row ∷ []) [] e below) ∙ h.rows e below
      ];
    }

pub aims_of : (pool : Pooled) (table : List (List Aimed)) → IsPool pool → HasRows pool table → length table ≡ length pool.exprs → HasAims pool table
aims_of pool table rules h count = record {
  count = count;
  rows = λ e there. h.rows e (omega (arith, there, count));
  inside = λ e there k d below.
      let a : Aimed = slice_index_or (row_at table e) k d in
      let is = row_aim pool (row_at table e) e k d rules (h.rows e (omega (arith, there, count))) below in
      let fits = (signals_fit pool.signals rules.shapes (bit_at a.node).sig (bit_at a.node).index is.there is.index).0 in
      subst (λ n. n < bit_nodes pool) (node_back a.node) fits;
}

-- ---- the rows, one aim more

pub seen_push : (row : List Aimed) (a : Aimed) (xs : List Aim) (x : Aim) → map seen row ≡ xs → seen a ≡ x → map seen (row ++ a ∷ []) ≡ xs ++ x ∷ []
seen_push row a xs x is one = map-append seen row (a ∷ []) ∙ ap (λ ys. ys ++ seen a ∷ []) is ∙ ap (λ y. xs ++ y ∷ []) one

option_seen : (o : Option Aimed) → map seen (cons_option o []) ≡ cons_option (option_map seen o) []
option_seen None = refl
option_seen (Some a) = refl

pub seen_push_some : (row : List Aimed) (o : Option Aimed) (xs : List Aim) (x : Option Aim) → map seen row ≡ xs → option_map seen o ≡ x → map seen (row ++ cons_option o []) ≡ xs ++ cons_option x []
seen_push_some row o xs x is one =
    map-append seen row (cons_option o []) ∙ ap (λ ys. ys ++ map seen (cons_option o [])) is ∙ ap (λ ys. xs ++ ys) (option_seen o ∙ ap (λ y. cons_option y []) one)

-- the aims of targets one above the other, one target more
pub joined_more : (forms : ℕ → Form) (f : ℕ → List Aim) (row all : List Aim) (by : ℕ) (es : List ExprId) (i : ℕ) (e : ExprId) → slice_get es i ≡ Some e
    → row ++ aims_of_all forms f by (drop i es) ≡ all → (row ++ map (raised by) (f e.0)) ++ aims_of_all forms f (by + (forms e.0).width) (drop (i + 1) es) ≡ all
joined_more forms f row all by es i e at is =
    append_assoc row (map (raised by) (f e.0)) (aims_of_all forms f (by + (forms e.0).width) (drop (i + 1) es))
    ∙ sym (ap (λ xs. row ++ aims_of_all forms f by xs) (drop-next es i e at)) ∙ is

-- the aims of one item more
pub items_more : (f : Aim → Option Aim) (xs more : List Aim) → filter_map f (xs ++ more) ≡ filter_map f xs ++ filter_map f more
items_more f xs more = filter_map-append f xs more

seen_more : (row : List Aimed) (i : ℕ) (a : Aimed) → slice_get row i ≡ Some a → map seen (take (i + 1) row) ≡ map seen (take i row) ++ seen a ∷ []
seen_more row i a at = ap (map seen) (take-push row i a at) ∙ map-append seen (take i row) (a ∷ [])

pub filtered_more : (f : Aim → Option Aim) (row : List Aimed) (i : ℕ) (a : Aimed) → slice_get row i ≡ Some a → filter_map f (map seen (take (i + 1) row)) ≡ filter_map f (map seen (take i row)) ++ cons_option (f (seen a)) []
filtered_more f row i a at = ap (filter_map f) (seen_more row i a at) ∙ filter_map-append f (map seen (take i row)) (seen a ∷ [])

pub raised_more : (by : ℕ) (row : List Aimed) (i : ℕ) (a : Aimed) → slice_get row i ≡ Some a → map (raised by) (map seen (take (i + 1) row)) ≡ map (raised by) (map seen (take i row)) ++ raised by (seen a) ∷ []
raised_more by row i a at = ap (map (raised by)) (seen_more row i a at) ∙ map-append (raised by) (map seen (take i row)) (seen a ∷ [])

pub picked_more : (f : Aim → Option Aim) (g : ℕ → List Aim) (es : List ExprId) (i : ℕ) (e : ExprId) → slice_get es i ≡ Some e
    → filter_map f (flat_map (λ (x : ExprId). g x.0) (take (i + 1) es)) ≡ filter_map f (flat_map (λ (x : ExprId). g x.0) (take i es)) ++ filter_map f (g e.0)
picked_more f g es i e at =
    ap (filter_map f) (flat_more (λ (x : ExprId). g x.0) es i e at) ∙ filter_map-append f (flat_map (λ (x : ExprId). g x.0) (take i es)) (g e.0)

-- a copy of a row
pub copied : {E : Type 0} (r : Result (List Aimed) E) (row : List Aimed) (xs : List Aim) → map seen row ≡ xs → IfOk r (λ copy. copy ≡ row) → IfOk r (λ copy. map seen copy ≡ xs)
copied (Ok copy) row xs is same = ap (map seen) same ∙ is
copied (Err e) row xs is same = tt

-- the items that an index picks are below what all items are below
pub items_below : (k : ℕ) (n : Numbers) (es : List ExprId) → AllBelow k es → AllBelow k (chosen_items n es)
items_below k n es h = below_all k (chosen_items n es) (all_chosen (λ (e : ExprId). e.0 < k) n es (all_below k es h))
  where
    all_below : (k : ℕ) (es : List ExprId) → AllBelow k es → AllByRecursion (λ (e : ExprId). e.0 < k) es
    all_below k [] h = tt
    all_below k (e ∷ es) h = (h.0, all_below k es h.1)

    below_all : (k : ℕ) (es : List ExprId) → AllByRecursion (λ (e : ExprId). e.0 < k) es → AllBelow k es
    below_all k [] h = tt
    below_all k (e ∷ es) h = (h.0, below_all k es h.1)
