-- The expressions of memory ports, in an order in which they can be computed.
use Rattle.std.specs.Prelude.{◌≡◌, refl, ℕ, zero, suc, ◌+◌, ◌<◌, ◌≤◌, ◌==◌, ◌||◌, Bool, true, false, List, [], ◌∷◌, ◌++◌, length, replicate, slice_get, Option, Some, None}
use Rattle.std.specs.List.{AllByRecursion, flat_map}
use Rattle.std.specs.List.Sorted.{IsNonDecreasing}
use Rattle.std.proofs.Common.{sym, ◌∙◌, ap, arith, subst, ⊎_elim}
use Rattle.std.proofs.lemmas.Bool.{cases_lt, eq-eqb, eqb-true, false≢true}
use Rattle.design_ir.specs.declared.expr.Expr as expr
use Rattle.design_ir.specs.declared.ids.ExprId.{ExprId}
use Rattle.design_ir.specs.declared.ids.SigId.{SigId}
use Rattle.design_ir.specs.declared.memory.MemRead.{MemRead}
use Rattle.design_ir.specs.declared.memory.MemWrite.{MemWrite}
use Rattle.design_ir.specs.declared.memory.Memory.{Memory}
use Rattle.design_ir.specs.Circuits.{Circuit, is_among}
use Rattle.design_ir.specs.Designs.{IsMemory, IsReadPort, IsWritePort, IsClocking}
use Rattle.design_ir.specs.Pools.{Pooled}
use Rattle.design_ir.specs.PoolRules.{IsPool}
use Rattle.design_ir.specs.Targets.{is_target}
use Rattle.design_ir.proofs.Equations.{standing}
use Rattle.sim_plans.specs.Compiled.{HoldsSignal}
use Rattle.sim_plans.specs.Driven.{numbers_of}
use Rattle.sim_plans.specs.Given.{marked}
use Rattle.sim_plans.specs.Marks.{is_marked, AreMarked, AreSpread, ReadOnly, Stays}
use Rattle.sim_plans.specs.Ports.{HasPorts, write_exprs, enable_exprs, read_exprs, port_exprs}
use Rattle.sim_plans.specs.Reading.{AreBelow, AreThere}
use Rattle.sim_plans.specs.Reads.{stands_in}
use Rattle.sim_plans.specs.Tasks.{AreAmong, IsProgram, places_of}
use Rattle.sim_plans.proofs.Agrees.{right, stands_is}
use Rattle.sim_plans.proofs.Listing.{all_among}
use Rattle.sim_plans.proofs.ReadMarks.{stands_held}
use Rattle.sim_plans.proofs.SignalsInside.{all_of}
use Rattle.sim_plans.proofs.Spreading.{marks_back, marks_new, all_stay}
use Rattle.sim_plans.proofs.TargetsInside.{all_append}
use Rattle.sim_plans.proofs.Waits.{none_marked, replicate_length}

-- ---- they are expressions of the pool

module _ (c : Circuit) (m : Memory) where
  join : (xs ys : List ExprId) → AreThere c.pool xs → AreThere c.pool ys → AreThere c.pool (xs ++ ys)
  join xs ys h k = all_append (λ (e : ExprId). e.0 < length c.pool.exprs) xs ys h k

  writes_there : (ws : List MemWrite) → AllByRecursion (IsWritePort c m) ws → AreThere c.pool (flat_map write_exprs ws)
  writes_there [] h = tt
  writes_there (w ∷ ws) h = join (write_exprs w) (flat_map write_exprs ws) (h.0.addr.usable.there, (h.0.word.usable.there, (h.0.enable.usable.there, tt))) (writes_there ws h.1)

  enable_there : (d : Option (List ℕ)) (e : Option ExprId) → IsClocking c d e → AreThere c.pool (enable_exprs e)
  enable_there d None h = tt
  enable_there None (Some e) h = absurd h
  enable_there (Some d) (Some e) h = (h.1.usable.there, tt)

  reads_there : (rs : List MemRead) → AllByRecursion (IsReadPort c m) rs → AreThere c.pool (flat_map read_exprs rs)
  reads_there [] h = tt
  reads_there (r ∷ rs) h = join (read_exprs r) (flat_map read_exprs rs) (h.0.addr.usable.there, enable_there r.domain r.enable h.0.clocking) (reads_there rs h.1)

  pub ports_there : IsMemory c m → AreThere c.pool (port_exprs m)
  ports_there is = join (flat_map write_exprs m.writes) (flat_map read_exprs m.reads) (writes_there m.writes is.writes) (reads_there m.reads is.reads)

-- ---- what is marked of them is listed

either : (aims values : List Bool) (es : List ExprId) → AreMarked values es → AllByRecursion (λ (e : ExprId). (is_marked aims e.0 || is_marked values e.0) ≡ true) es
either aims values [] h = tt
either aims values (e ∷ es) h = (right (is_marked aims e.0) (is_marked values e.0) h.0, either aims values es h.1)

module _ (c : Circuit) (rules : IsPool c.pool) (es : List ExprId) (old first aims values : List Bool) (e : first ≡ marked (places_of es) old) (below : AreBelow (length old) es) (stay : Stays first values)
    (long : length aims ≡ length c.pool.exprs) (long' : length values ≡ length c.pool.exprs) (closed : AreSpread c.pool aims values) (are : (j : ℕ) → is_marked aims j ≡ true → is_target c.pool j ≡ true)
    (list : List ExprId) (order : IsNonDecreasing (places_of list)) (has : (j : ℕ) → is_among (places_of list) j ≡ (is_marked aims j || is_marked values j)) where
  pub ports_among : AreAmong list es
  ports_among =
      let marks : AreMarked values es = all_stay first values es stay (subst (λ ms. AreMarked ms es) (sym e) (marks_new es old below)) in
      all_among c.pool rules aims values long long' closed are list order has es (either aims values es marks)

-- ---- what an address reads

both : (a b : Bool) → (a ≡ true → b ≡ true) → (b ≡ true → a ≡ true) → a ≡ b
both true b f g = sym (f refl)
both false true f g = g refl
both false false f g = refl

first_only : (p : Pooled) (e : ExprId) (aims values : List Bool) (n : ℕ) → aims ≡ replicate n false → values ≡ marked (e.0 ∷ []) (replicate n false) → ReadOnly p aims values (λ s. stands_in p s e.0)
first_only p e aims values n ea ev = (
  λ j s m h.
      ⊎_elim
      (λ (was : is_marked (replicate n false) j ≡ true). absurd (false≢true (sym (none_marked n j) ∙ was)))
      (λ (own : is_among (e.0 ∷ []) j ≡ true). ap (stands_in p s) (eqb-true e.0 j (or_none (e.0 == j) own)) ∙ h)
      (marks_back (e.0 ∷ []) (replicate n false) j (ap (λ ms. is_marked ms j) (sym ev) ∙ m)),
  λ j s m h. absurd (false≢true (sym (none_marked n j) ∙ ap (λ ms. is_marked ms j) (sym ea) ∙ m)),
)
  where
    or_none : (a : Bool) → (a || false) ≡ true → a ≡ true
    or_none true h = refl
    or_none false h = h

-- the signals of the marked expressions are exactly those that stand in it
pub address_reads : (p : Pooled) → IsPool p → (e : ExprId) → e.0 < length p.exprs → (aims0 values0 aims values : List Bool) → aims0 ≡ replicate (length p.exprs) false → values0 ≡ marked (e.0 ∷ []) (replicate (length p.exprs) false) → length aims ≡ length p.exprs → length values ≡ length p.exprs
    → Stays values0 values → AreSpread p aims values → ((r : ℕ → Bool) → ReadOnly p aims0 values0 r → ReadOnly p aims values r)
    → (list : List SigId) → ((k : ℕ) (s : SigId) → slice_get p.exprs k ≡ Some (expr.TheVariants.Sig s) → is_marked values k ≡ true → is_among (numbers_of list) s.0 ≡ true) → ((s : ℕ) → is_among (numbers_of list) s ≡ true → HoldsSignal p values s)
    → (s : ℕ) → is_among (numbers_of list) s ≡ stands_in p s e.0
address_reads p rules e there aims0 values0 aims values ea ev long long' stay closed only list all_in only_in s =
    let reads = only (λ x. stands_in p x e.0) (first_only p e aims0 values0 (length p.exprs) ea ev) in
    let begun : AreMarked values0 (e ∷ []) = subst (λ ms. AreMarked ms (e ∷ [])) (sym ev) (marks_new (e ∷ []) (replicate (length p.exprs) false) (subst (λ n. AreBelow n (e ∷ [])) (sym (replicate_length false (length p.exprs))) (there, tt))) in
    let marked : is_marked values e.0 ≡ true = (all_stay values0 values (e ∷ []) stay begun).0 in
    both (is_among (numbers_of list) s) (stands_in p s e.0)
    (λ h.
    let x = only_in s h in
    reads.0 x.k s x.marked (stands_is p s x.k (expr.TheVariants.Sig x.sig) rules x.is ∙ eq-eqb x.sig.0 s x.same))
    (λ h.
    let x = stands_held p rules aims values long long' closed s e.0 marked h in
    subst (λ n. is_among (numbers_of list) n ≡ true) x.same (all_in x.k x.sig x.is x.marked))

pub address_below : (p : Pooled) → IsPool p → (values : List Bool) (list : List SigId) → ((s : ℕ) → is_among (numbers_of list) s ≡ true → HoldsSignal p values s) → AllByRecursion (λ s. s < length p.signals) (numbers_of list)
address_below p rules values list only_in =
    all_of (λ s. s < length p.signals) (numbers_of list) (λ s h. let y = only_in s h in subst (λ i. i < length p.signals) y.same (standing p y.k (expr.TheVariants.Sig y.sig) rules y.is).askable.parts)

-- ---- one memory more

get_old : {A : Type 0} (xs : List A) (x y : A) (i : ℕ) → slice_get xs i ≡ Some y → slice_get (xs ++ x ∷ []) i ≡ Some y
get_old [] x y i e = cc
get_old (z ∷ xs) x y zero e = e
get_old (z ∷ xs) x y (suc i) e = get_old xs x y i e

get_last : {A : Type 0} (xs : List A) (x : A) → slice_get (xs ++ x ∷ []) (length xs) ≡ Some x
get_last [] x = refl
get_last (y ∷ xs) x = get_last xs x

module _ (c : Circuit) (n k : ℕ) (all more : List (List ExprId)) (list : List ExprId) (many : length all ≡ k) (grown : more ≡ all ++ list ∷ []) where
  pub ports_more : IsProgram c.pool n list → ((m : Memory) → slice_get c.memories k ≡ Some m → AreAmong list (port_exprs m)) → ((j : ℕ) (m : Memory) → j < k → slice_get c.memories j ≡ Some m → HasPorts c n all j m)
      → (j : ℕ) (m : Memory) → j < k + 1 → slice_get c.memories j ≡ Some m → HasPorts c n more j m
  ports_more program computed was j m lt is =
      ⊎_elim
      (λ (old : j < k).
      let h = was j m old is in
      record { list = h.list; stands = ap (λ xs. slice_get xs j) grown ∙ get_old all list h.list j h.stands; program = h.program; computed = h.computed })
      (λ (new : k ≤ j).
      let here : j ≡ k = omega (arith, lt, new) in
      record {
        list = list;
        stands = ap (λ xs. slice_get xs j) grown ∙ ap (slice_get (all ++ list ∷ [])) (here ∙ sym many) ∙ get_last all list;
        program = program;
        computed = computed m (ap (slice_get c.memories) (sym here) ∙ is);
      })
      (cases_lt j k)
