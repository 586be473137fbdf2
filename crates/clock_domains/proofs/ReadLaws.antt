-- What is read.
use Rattle.std.proofs.Common.{◌≡◌, ℕ, zero, suc, ◌+◌, ◌<◌, ◌≤◌, ◌==◌, Bool, false, ◌&&◌, ◌||◌, List, [], ◌∷◌, ◌++◌, length, take, Some, slice_get, replicate, refl, sym, ap, ◌∙◌, subst, arith, append-nil}
use Rattle.std.specs.List.{AllByRecursion, list_any, flat_map}
use Rattle.std.proofs.lemmas.List.Concat.{flat_map-append}
use Rattle.std.proofs.lemmas.List.{length-replicate}
use Rattle.design_ir.specs.declared.memory.Memory.{Memory}
use Rattle.design_ir.specs.declared.process.Process.{Process}
use Rattle.design_ir.specs.Named.{AllBelow}
use Rattle.design_ir.specs.Trees.{Block}
use Rattle.design_ir.specs.Pools.{Pooled}
use Rattle.design_ir.specs.PoolRules.{IsPool}
use Rattle.design_ir.specs.Guards.{block_exprs}
use Rattle.design_ir.specs.Circuits.{is_among}
use Rattle.fragment_walks.specs.Held.{memory_exprs}
use Rattle.fragment_walks.specs.Marks.{is_marked, marked, any_below, comes_out, numbers, target_parts, own_offsets}
use Rattle.fragment_walks.specs.Reads.{block_targets, block_values, offsets_in, signals_in, read_roots, is_read}
use Rattle.fragment_walks.proofs.Lists.{take-push, all_joined, any-append, below_all, or_assoc, or_false}
use Rattle.fragment_walks.proofs.Markings.{marked-append, marked_at, fresh_marks, more_below, none_below}
use Rattle.fragment_walks.proofs.Outs.{among_flat, offsets_lead, offsets_there, parts_there, offsets_in_past}
use Rattle.clock_domains.specs.Resolvable.{IsSideOf}
use Rattle.clock_domains.proofs.DriverLaws.{plain_below, values_below, flat_below, sides_targets, leads_none, small_all}

pub processes_turn : (f : Block → List ℕ) (ps : List Process) (i : ℕ) (p : Process) (old cur new : List Bool) → slice_get ps i ≡ Some p → cur ≡ marked (flat_map (λ (p : Process). f p.body) (take i ps)) old → new ≡ marked (f p.body) cur → new ≡ marked (flat_map (λ (p : Process). f p.body) (take (i + 1) ps)) old
processes_turn f ps i p old cur new at h k =
    k ∙ ap (marked (f p.body)) h ∙ sym (marked-append (flat_map (λ (p : Process). f p.body) (take i ps)) (f p.body) old)
    ∙ ap (λ ns. marked ns old)
    (ap (λ ns. flat_map (λ (p : Process). f p.body) (take i ps) ++ ns) (sym (append-nil (f p.body))) ∙ sym (flat_map-append (λ (p : Process). f p.body) (take i ps) (p ∷ [])) ∙ ap (flat_map (λ (p : Process). f p.body)) (sym (take-push ps i p at)))

-- ---- marks below a bound, by a list

below_agree : (p q : ℕ → Bool) (k : ℕ) → ((j : ℕ) → j < k → p j ≡ q j) → any_below p k ≡ any_below q k
below_agree p q zero h = refl
below_agree p q (suc k) h = let a = h k (omega arith) in let b = below_agree p q k (λ j low. h j (omega (arith, low))) in cc

-- marks that are exactly those of a list
below_list : (q : ℕ → Bool) (ws : List ℕ) (marks : List Bool) (n : ℕ) → AllByRecursion (λ w. w < n) ws → ((j : ℕ) → j < n → is_marked marks j ≡ is_among ws j) → any_below (λ j. is_marked marks j && q j) n ≡ list_any q ws
below_list q ws marks n low same =
    below_agree (λ j. is_marked marks j && q j) (λ j. is_marked (marked ws (replicate n false)) j && q j) n (λ j h. ap (λ b. b && q j) (same j h ∙ sym (fresh j)))
    ∙ more_below q ws (replicate n false) n low (omega (arith, length-replicate n false))
    ∙ ap (λ b. list_any q ws || b) (none_below q n n)
    ∙ or_false (list_any q ws)
  where
    fresh : (j : ℕ) → is_marked (marked ws (replicate n false)) j ≡ is_among ws j
    fresh j = marked_at ws (replicate n false) j (subst (λ m. AllByRecursion (λ w. w < m) ws) (sym (length-replicate n false)) low) ∙ ap (λ b. b || is_among ws j) (fresh_marks n j)

sides_values : (q : Pooled) (ps : List Process) → AllByRecursion (IsSideOf q) ps → AllByRecursion (λ (p : Process). AllByRecursion (λ k. k < length q.exprs) (block_values p.body)) ps
sides_values q [] h = tt
sides_values q (p ∷ ps) h = (values_below (length q.exprs) p.body (plain_below q (block_exprs p.body) h.0.expressions), sides_values q ps h.1)

place_below : {A : Type 0} (xs : List A) (k : ℕ) (x : A) → slice_get xs k ≡ Some x → k < length xs
place_below [] k x e = cc
place_below (y ∷ xs) zero x e = omega arith
place_below (y ∷ xs) (suc k) x e = omega (arith, place_below xs k x e)

all_weaker : {P Q : ℕ → Type 0} → ((x : ℕ) → P x → Q x) → (xs : List ℕ) → AllByRecursion P xs → AllByRecursion Q xs
all_weaker f [] h = tt
all_weaker f (x ∷ xs) h = (f x h.0, all_weaker f xs h.1)

offsets_none : (q : Pooled) (k s : ℕ) → IsPool q → length q.exprs ≤ s → is_among (offsets_in q k) s ≡ false
offsets_none q k s rules =
    leads_none q (offsets_in q) (length q.exprs) own_offsets (λ e. numbers (target_parts e)) (offsets_in_past q) (λ k e at. parts_there q k e rules at)
    (λ k e at. all_weaker (λ j low. omega (arith, low, place_below q.exprs k e at)) (own_offsets e) (offsets_there q k e rules at)) (λ k e s at. offsets_lead q k e s rules at) k s

offsets_flat : (q : Pooled) (ts : List ℕ) → IsPool q → AllByRecursion (λ k. k < length q.exprs) (flat_map (offsets_in q) ts)
offsets_flat q [] rules = tt
offsets_flat q (t ∷ ts) rules =
    all_joined (λ k. k < length q.exprs) (offsets_in q t) (flat_map (offsets_in q) ts) (small_all (length q.exprs) (offsets_in q t) (λ s le. offsets_none q t s rules le)) (offsets_flat q ts rules)

-- what a module reads stands in the pool
roots_below : (q : Pooled) (ps : List Process) (ms : List Memory) → IsPool q → AllByRecursion (IsSideOf q) ps → AllBelow (length q.exprs) (flat_map memory_exprs ms) → AllByRecursion (λ k. k < length q.exprs) (read_roots q ps ms)
roots_below q ps ms rules sides ports =
    let n = length q.exprs in
    let ts = flat_map (λ (p : Process). block_targets p.body) ps in
    let vs = flat_map (λ (p : Process). block_values p.body) ps in
    all_joined (λ k. k < n) vs (flat_map (offsets_in q) ts ++ numbers (flat_map memory_exprs ms)) (flat_below block_values n ps (sides_values q ps sides))
    (all_joined (λ k. k < n) (flat_map (offsets_in q) ts) (numbers (flat_map memory_exprs ms)) (offsets_flat q ts rules) (below_all n (flat_map memory_exprs ms) ports))

-- the marks of a list, where none were there before
fresh_list : (ns : List ℕ) (n j : ℕ) → AllByRecursion (λ k. k < n) ns → is_marked (marked ns (replicate n false)) j ≡ is_among ns j
fresh_list ns n j low = marked_at ns (replicate n false) j (subst (λ m. AllByRecursion (λ w. w < m) ns) (sym (length-replicate n false)) low) ∙ ap (λ b. b || is_among ns j) (fresh_marks n j)

-- what the targets and the values of statements come to, with the expressions of ports
read_marks : (q : Pooled) (ps : List Process) (ms : List Memory) (targets values values' all : List Bool) (j : ℕ) → j < length q.exprs → AllByRecursion (IsSideOf q) ps → AllBelow (length q.exprs) (flat_map memory_exprs ms)
    → targets ≡ marked (flat_map (λ (p : Process). block_targets p.body) ps) (replicate (length q.exprs) false) → values ≡ marked (flat_map (λ (p : Process). block_values p.body) ps) (replicate (length q.exprs) false)
    → is_marked values' j ≡ comes_out (offsets_in q) targets values (length q.exprs) j → length values' ≡ length q.exprs → all ≡ marked (numbers (flat_map memory_exprs ms)) values' → is_marked all j ≡ is_among (read_roots q ps ms) j
read_marks q ps ms targets values values' all j low sides ports te ve step size ae =
    let n = length q.exprs in
    let ts = flat_map (λ (p : Process). block_targets p.body) ps in
    let vs = flat_map (λ (p : Process). block_values p.body) ps in
    let os = flat_map (offsets_in q) ts in
    let es = numbers (flat_map memory_exprs ms) in
    let tlow = flat_below block_targets n ps (sides_targets q ps sides) in
    let vlow = flat_below block_values n ps (sides_values q ps sides) in
    let elow : AllByRecursion (λ k. k < length values') es = subst (λ m. AllByRecursion (λ k. k < m) es) (sym size) (below_all n (flat_map memory_exprs ms) ports) in
    let tmarks : (i : ℕ) → i < n → is_marked targets i ≡ is_among ts i = λ i h. ap (λ bs. is_marked bs i) te ∙ fresh_list ts n i tlow in
    let vmarks : is_marked values j ≡ is_among vs j = ap (λ bs. is_marked bs j) ve ∙ fresh_list vs n j vlow in
    let offsets : any_below (λ i. is_marked targets i && is_among (offsets_in q i) j) n ≡ is_among os j = below_list (λ i. is_among (offsets_in q i) j) ts targets n tlow tmarks ∙ sym (among_flat (offsets_in q) ts j) in
    ap (λ bs. is_marked bs j) ae
    ∙ marked_at es values' j elow
    ∙ ap (λ b. b || is_among es j) (step ∙ ap (λ b. b || any_below (λ i. is_marked targets i && is_among (offsets_in q i) j) n) vmarks ∙ ap (λ b. is_among vs j || b) offsets)
    ∙ or_assoc (is_among vs j) (is_among os j) (is_among es j)
    ∙ ap (λ b. is_among vs j || b) (sym (any-append (λ x. x == j) os es))
    ∙ sym (any-append (λ x. x == j) vs (os ++ es))

-- what all passes come to
pub reads_are : (q : Pooled) (ps : List Process) (ms : List Memory) (targets values values' all out : List Bool) (s : ℕ) → IsPool q → AllByRecursion (IsSideOf q) ps → AllBelow (length q.exprs) (flat_map memory_exprs ms)
    → targets ≡ marked (flat_map (λ (p : Process). block_targets p.body) ps) (replicate (length q.exprs) false) → values ≡ marked (flat_map (λ (p : Process). block_values p.body) ps) (replicate (length q.exprs) false)
    → ((k : ℕ) → k < length q.exprs → is_marked values' k ≡ comes_out (offsets_in q) targets values (length q.exprs) k) → length values' ≡ length q.exprs → all ≡ marked (numbers (flat_map memory_exprs ms)) values' → is_marked out s ≡ false
    → comes_out (signals_in q) all out (length q.exprs) s ≡ is_read q ps ms s
reads_are q ps ms targets values values' all out s rules sides ports te ve step size ae none =
    let n = length q.exprs in
    let ws = read_roots q ps ms in
    let same : (j : ℕ) → j < n → is_marked all j ≡ is_among ws j = λ j low. read_marks q ps ms targets values values' all j low sides ports te ve (step j low) size ae in
    ap (λ b. b || any_below (λ j. is_marked all j && is_among (signals_in q j) s) n) none ∙ below_list (λ j. is_among (signals_in q j) s) ws all n (roots_below q ps ms rules sides ports) same ∙ sym (among_flat (signals_in q) ws s)
