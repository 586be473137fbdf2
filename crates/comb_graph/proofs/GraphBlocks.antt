-- One statement more, or one arm.
use Rattle.std.proofs.Common.{◌≡◌, ◌∙◌, ℕ, zero, suc, ◌+◌, ◌<◌, Bool, true, false, List, [], ◌∷◌, ◌++◌, length, refl, sym, ap, subst, arith, append_assoc, take, Some, slice_get}
use Rattle.std.proofs.lemmas.List.{append-nil}
use Rattle.std.proofs.lemmas.Grind.{flat_map-append}
use Rattle.design_ir.specs.declared.ids.ExprId.{ExprId}
use Rattle.design_ir.specs.declared.stmt.Stmt.{Stmt}
use Rattle.design_ir.specs.declared.stmt.Arm.{Arm}
use Rattle.design_ir.specs.Named.{AllBelow}
use Rattle.design_ir.specs.Trees.{none, done}
use Rattle.design_ir.specs.Statements.{statement_of, block_of, choices_of}
use Rattle.design_ir.specs.Guards.{Guard, Guarded, guarded, guarded_in, guarded_arms, statement_exprs, choices_exprs, block_exprs}
use Rattle.design_ir.specs.Needed.{needed_whole}
use Rattle.design_ir.specs.Pools.{Pooled}
use Rattle.design_ir.specs.Values.{form}
use Rattle.digraph.specs.Graphs.{Digraph, IsGraph, joined}
use Rattle.comb_graph.specs.Meanings.{Means, Extends}
use Rattle.comb_graph.specs.Places.{HasPlaces, bit_nodes, first_of, whole_at}
use Rattle.comb_graph.specs.Rules.{Rule, ObeysRules, Adds, AddsBlock, AddsStatement, AddsArms, MeansPassed, passed, guard_reads, rules_of, all_rules}
use Rattle.digraph.proofs.GraphLists.{some-same}
use Rattle.comb_graph.proofs.GraphMeanings.{mean-one, mean-cons, means_more, extends_same, extends_then, joined_means, two_inside}
use Rattle.comb_graph.proofs.GraphPlaces.{whole}
use Rattle.comb_graph.proofs.GraphAims.{adds_joined}
use Rattle.digraph.proofs.Takes.{take-push}

-- ---- rules that were added

pub adds_none : (g : Digraph) (pool : Pooled) → Adds g g pool []
adds_none g pool = record {
  extends = extends_same g (bit_nodes pool);
  rules = λ rules o. subst (ObeysRules g (bit_nodes pool)) (sym (append-nil rules)) o;
}

pub adds_then : (f g h : Digraph) (pool : Pooled) (xs ys : List Rule) → Adds f g pool xs → Adds g h pool ys → Adds f h pool (xs ++ ys)
adds_then f g h pool xs ys a b = record {
  extends = extends_then f g h (bit_nodes pool) a.extends b.extends;
  rules = λ rules o. subst (ObeysRules h (bit_nodes pool)) (append_assoc rules xs ys) (b.rules (rules ++ xs) (a.rules rules o));
}

pub rules-append : (pool : Pooled) (xs ys : List Guarded) → all_rules pool (xs ++ ys) ≡ all_rules pool xs ++ all_rules pool ys
rules-append pool xs ys = flat_map-append (rules_of pool) xs ys

-- ---- one more at the end

block-push : (gs : List Guard) (ss : List Stmt) (s : Stmt) → guarded gs (block_of (ss ++ s ∷ [])) ≡ guarded gs (block_of ss) ++ guarded_in gs (statement_of s)
block-push gs [] s = append-nil (guarded_in gs (statement_of s))
block-push gs (t ∷ ss) s = ap (λ xs. guarded_in gs (statement_of t) ++ xs) (block-push gs ss s) ∙ sym (append_assoc (guarded_in gs (statement_of t)) (guarded gs (block_of ss)) (guarded_in gs (statement_of s)))

passed-push : (gs : List Guard) (arms : List Arm) (a : Arm) → passed gs (choices_of (arms ++ a ∷ [])) ≡ passed gs (choices_of arms) ++ record { condition = a.condition; taken = false } ∷ []
passed-push gs [] a = refl
passed-push gs (b ∷ arms) a = passed-push (gs ++ record { condition = b.condition; taken = false } ∷ []) arms a

pub arms-push : (gs : List Guard) (arms : List Arm) (a : Arm)
    → guarded_arms gs (choices_of (arms ++ a ∷ [])) ≡ guarded_arms gs (choices_of arms) ++ guarded (passed gs (choices_of arms) ++ record { condition = a.condition; taken = true } ∷ []) a.body
arms-push gs [] a = append-nil (guarded (gs ++ record { condition = a.condition; taken = true } ∷ []) a.body)
arms-push gs (b ∷ arms) a =
    let gs' : List Guard = gs ++ record { condition = b.condition; taken = false } ∷ [] in
    let body = guarded (gs ++ record { condition = b.condition; taken = true } ∷ []) b.body in
    ap (λ xs. body ++ xs) (arms-push gs' arms a)
    ∙ sym (append_assoc body (guarded_arms gs' (choices_of arms)) (guarded (passed gs' (choices_of arms) ++ record { condition = a.condition; taken = true } ∷ []) a.body))

guard-push : (pool : Pooled) (gs : List Guard) (c : ExprId) (t : Bool) → guard_reads pool (gs ++ record { condition = c; taken = t } ∷ []) ≡ guard_reads pool gs ++ needed_whole pool c
guard-push pool gs c t =
    flat_map-append (λ (x : Guard). needed_whole pool x.condition) gs (record { condition = c; taken = t } ∷ [])
    ∙ ap (λ xs. guard_reads pool gs ++ xs) (append-nil (needed_whole pool c))

-- ---- names

below-split : (n : ℕ) (xs ys : List ExprId) → AllBelow n (xs ++ ys) → AllBelow n xs × AllBelow n ys
below-split n [] ys h = (tt, h)
below-split n (x ∷ xs) ys h = let more = below-split n xs ys h.1 in ((h.0, more.0), more.1)

pub statement_names : (n : ℕ) (ss : List Stmt) (i : ℕ) (s : Stmt) → AllBelow n (block_exprs (block_of ss)) → slice_get ss i ≡ Some s → AllBelow n (statement_exprs (statement_of s))
statement_names n [] i s h at = absurd cc
statement_names n (x ∷ ss) zero s h at = subst (λ y. AllBelow n (statement_exprs (statement_of y))) (some-same x s at) (below-split n (statement_exprs (statement_of x)) (block_exprs (block_of ss)) h).0
statement_names n (x ∷ ss) (suc i) s h at = statement_names n ss i s (below-split n (statement_exprs (statement_of x)) (block_exprs (block_of ss)) h).1 at

pub arm_names : (n : ℕ) (arms : List Arm) (i : ℕ) (a : Arm) → AllBelow n (choices_exprs (choices_of arms)) → slice_get arms i ≡ Some a → (a.condition.0 < n) × AllBelow n (block_exprs a.body)
arm_names n [] i a h at = absurd cc
arm_names n (b ∷ arms) zero a h at = subst (λ (y : Arm). (y.condition.0 < n) × AllBelow n (block_exprs y.body)) (some-same b a at) (h.0, (below-split n (block_exprs b.body) (choices_exprs (choices_of arms)) h.1).0)
arm_names n (b ∷ arms) (suc i) a h at = arm_names n arms i a (below-split n (block_exprs b.body) (choices_exprs (choices_of arms)) h.1).1 at

-- ---- turns

pub block_begin : (g : Digraph) (pool : Pooled) (guard : ℕ) → AddsBlock g g pool guard done
block_begin g pool guard gs m = adds_none g pool

pub arms_begin : (g : Digraph) (pool : Pooled) (guard : ℕ) → AddsArms g g pool guard none
arms_begin g pool guard gs m = adds_none g pool

pub block_turn : (g h j : Digraph) (pool : Pooled) (guard : ℕ) (ss : List Stmt) (i : ℕ) (s : Stmt) → IsGraph g → Extends g h (bit_nodes pool) → slice_get ss i ≡ Some s
    → AddsBlock g h pool guard (block_of (take i ss)) → AddsStatement h j pool guard (statement_of s) → AddsBlock g j pool guard (block_of (take (i + 1) ss))
block_turn g h j pool guard ss i s graph e at so-far more gs m =
    let a = so-far gs m in
    let b = more gs (means_more g h (bit_nodes pool) guard (guard_reads pool gs) graph e m) in
    let split : guarded gs (block_of (take (i + 1) ss)) ≡ guarded gs (block_of (take i ss)) ++ guarded_in gs (statement_of s) = ap (λ xs. guarded gs (block_of xs)) (take-push ss i s at) ∙ block-push gs (take i ss) s in
    subst (Adds g j pool) (sym (ap (all_rules pool) split ∙ rules-append pool (guarded gs (block_of (take i ss))) (guarded_in gs (statement_of s))))
    (adds_then g h j pool (all_rules pool (guarded gs (block_of (take i ss)))) (all_rules pool (guarded_in gs (statement_of s))) a b)

-- the node of an arm's condition and of those before it
arm_mean : (h : Digraph) (pool : Pooled) (firsts : List ℕ) (inner : ℕ) (gs : List Guard) (c : ExprId) (t : Bool) → IsGraph h → HasPlaces h pool firsts → c.0 < length firsts → Means h (bit_nodes pool) inner (guard_reads pool gs)
    → Means (joined h (inner ∷ whole_at (form pool) (first_of firsts) c ∷ [])) (bit_nodes pool) h.size (guard_reads pool (gs ++ record { condition = c; taken = t } ∷ []))
arm_mean h pool firsts inner gs c t graph p there m =
    let count = bit_nodes pool in
    let w = whole_at (form pool) (first_of firsts) c in
    let both = mean-cons h count inner (w ∷ []) (guard_reads pool gs) (needed_whole pool c) m (mean-one h count w (needed_whole pool c) (whole h count pool (first_of firsts) (length firsts) p.placed c there)) in
    subst (Means (joined h (inner ∷ w ∷ [])) count h.size) (sym (guard-push pool gs c t)) (joined_means h count (inner ∷ w ∷ []) (guard_reads pool gs ++ needed_whole pool c) graph p.size both)

pub arms_turn : (g h j : Digraph) (pool : Pooled) (firsts : List ℕ) (guard inner : ℕ) (arms : List Arm) (i : ℕ) (a : Arm) → IsGraph h → HasPlaces h pool firsts → a.condition.0 < length firsts → slice_get arms i ≡ Some a
    → AddsArms g h pool guard (choices_of (take i arms)) → MeansPassed g h pool guard inner (choices_of (take i arms))
    → AddsBlock (joined h (inner ∷ whole_at (form pool) (first_of firsts) a.condition ∷ [])) j pool h.size a.body
    → AddsArms g j pool guard (choices_of (take (i + 1) arms))
arms_turn g h j pool firsts guard inner arms i a graph p there at so-far means body gs m =
    let c = a.condition in
    let w = whole_at (form pool) (first_of firsts) c in
    let old = passed gs (choices_of (take i arms)) in
    let xs = guarded_arms gs (choices_of (take i arms)) in
    let ys = guarded (old ++ record { condition = c; taken = true } ∷ []) a.body in
    let b = body (old ++ record { condition = c; taken = true } ∷ []) (arm_mean h pool firsts inner old c true graph p there (means gs m)) in
    let inside = two_inside h inner w (means gs m).inside (whole h (bit_nodes pool) pool (first_of firsts) (length firsts) p.placed c there).inside in
    let b' = adds_joined h j pool (inner ∷ w ∷ []) (all_rules pool ys) graph p.size inside b in
    let split : guarded_arms gs (choices_of (take (i + 1) arms)) ≡ xs ++ ys = ap (λ zs. guarded_arms gs (choices_of zs)) (take-push arms i a at) ∙ arms-push gs (take i arms) a in
    subst (Adds g j pool) (sym (ap (all_rules pool) split ∙ rules-append pool xs ys)) (adds_then g h j pool (all_rules pool xs) (all_rules pool ys) (so-far gs m) b')

pub passed_turn : (g h j : Digraph) (pool : Pooled) (firsts : List ℕ) (guard inner : ℕ) (arms : List Arm) (i : ℕ) (a : Arm) → IsGraph h → HasPlaces h pool firsts → a.condition.0 < length firsts → slice_get arms i ≡ Some a
    → IsGraph (joined h (inner ∷ whole_at (form pool) (first_of firsts) a.condition ∷ [])) → Extends (joined h (inner ∷ whole_at (form pool) (first_of firsts) a.condition ∷ [])) j (bit_nodes pool)
    → MeansPassed g h pool guard inner (choices_of (take i arms)) → MeansPassed g j pool guard h.size (choices_of (take (i + 1) arms))
passed_turn g h j pool firsts guard inner arms i a graph p there at graph' e means gs m =
    let c = a.condition in
    let h1 = joined h (inner ∷ whole_at (form pool) (first_of firsts) c ∷ []) in
    let old = passed gs (choices_of (take i arms)) in
    let new = means_more h1 j (bit_nodes pool) h.size (guard_reads pool (old ++ record { condition = c; taken = false } ∷ [])) graph' e (arm_mean h pool firsts inner old c false graph p there (means gs m)) in
    let split : passed gs (choices_of (take (i + 1) arms)) ≡ old ++ record { condition = c; taken = false } ∷ [] = ap (λ zs. passed gs (choices_of zs)) (take-push arms i a at) ∙ passed-push gs (take i arms) a in
    subst (λ zs. Means j (bit_nodes pool) h.size (guard_reads pool zs)) (sym split) new
