-- What a bit needs of statements, as a list.
use Rattle.std.specs.Prelude.{◌≡◌, ℕ, zero, suc, ◌<◌, ◌⊎◌, cond, true, List, [], ◌∷◌, ◌++◌, length, Contains, slice_index_or}
use Rattle.std.specs.List.{flat_map}
use Rattle.std.proofs.Common.{sym, ap, arith, subst, ⊎_elim, inl, inr}
use Rattle.std.proofs.lemmas.Bool.{eq-eqb, and_from}
use Rattle.std.proofs.lemmas.List.Elements.{Contains-append_left, Contains-append_right}
use Rattle.design_ir.specs.declared.process.DesignProcess.{DesignProcess}
use Rattle.design_ir.specs.Pools.{Pooled}
use Rattle.design_ir.specs.Targets.{Bit, Aim, fixed_place, aims}
use Rattle.design_ir.specs.Needed.{needed_whole, needed_indices}
use Rattle.design_ir.specs.Guards.{Guard, Guarded, guarded}
use Rattle.design_ir.specs.Loops.{ProcessNeeds, needed_value}
use Rattle.design_ir.specs.Circuits.{Circuit}
use Rattle.comb_graph.specs.Orders.{same_bit}

-- what an assignment reads where this aim of it is written
abbrev reads_of : Pooled → Guarded → Aim → List Bit
reads_of pool g a = flat_map (λ (x : Guard). needed_whole pool x.condition) g.guards ++ needed_indices pool g.target.0 ++ needed_value pool g.value (fixed_place a.spot)

-- all that the bit needs
unfoldable pub needs_of : Circuit → Bit → List Bit
needs_of c b =
    flat_map (λ (p : DesignProcess). flat_map (λ (g : Guarded). flat_map (λ (a : Aim). cond (same_bit a.bit b) (reads_of c.pool g a) []) (aims c.pool g.target.0)) (guarded [] p.body)) c.processes

pub contains_cases : {A : Type 0} (z x : A) (xs : List A) (k : ℕ) → k < length (z ∷ xs) → slice_index_or (z ∷ xs) k x ≡ x → (z ≡ x) ⊎ Contains xs x
contains_cases z x xs zero lt h = inl h
contains_cases z x xs (suc k) lt h = inr (k, omega (arith, lt), h)

in_parts : {A B : Type 0} (f : A → List B) (xs : List A) (x : A) (y : B) → Contains xs x → Contains (f x) y → Contains (flat_map f xs) y
in_parts f [] x y c h = absurd (omega (arith, c.1))
in_parts f (z ∷ xs) x y c h =
    ⊎_elim
    (λ (same : z ≡ x). Contains-append_left (f z) (flat_map f xs) y (subst (λ a. Contains (f a) y) (sym same) h))
    (λ (more : Contains xs x). Contains-append_right (f z) (flat_map f xs) y (in_parts f xs x y more h))
    (contains_cases z x xs c.0 c.1 c.2)

pub all_needs : (c : Circuit) (b x : Bit) → ProcessNeeds c b x → Contains (needs_of c b) x
unfolding needs_of
all_needs c b x n =
    let p : DesignProcess = n.process in
    let g : Guarded = n.assignment in
    let same : same_bit n.needs.aim.bit b ≡ true = and_from _ _ (eq-eqb _ _ (ap (λ (y : Bit). y.sig) n.needs.writes)) (eq-eqb _ _ (ap (λ (y : Bit). y.index) n.needs.writes)) in
    let read : Contains (cond (same_bit n.needs.aim.bit b) (reads_of c.pool g n.needs.aim) []) x = subst (λ t. Contains (cond t (reads_of c.pool g n.needs.aim) []) x) (sym same) n.needs.reads in
    let aimed = in_parts (λ (a : Aim). cond (same_bit a.bit b) (reads_of c.pool g a) []) (aims c.pool g.target.0) n.needs.aim x n.needs.may read in
    let assigned = in_parts (λ (h : Guarded). flat_map (λ (a : Aim). cond (same_bit a.bit b) (reads_of c.pool h a) []) (aims c.pool h.target.0)) (guarded [] p.body) g x n.stands aimed in
    in_parts (λ (q : DesignProcess). flat_map (λ (h : Guarded). flat_map (λ (a : Aim). cond (same_bit a.bit b) (reads_of c.pool h a) []) (aims c.pool h.target.0)) (guarded [] q.body)) c.processes p x n.among assigned
