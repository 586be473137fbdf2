-- The names of a design's columns and of the memories of its module: no two are the same, and all are public.
use Rattle.std.specs.Prelude.{◌≡◌, ◌<◌, ◌≤◌, ◌+◌, ◌^◌, ◌||◌, nat_eq, ℕ, zero, suc, Bool, true, false, List, [], ◌∷◌, ◌++◌, map, length}
use Rattle.std.specs.List.{AllByRecursion, IsDistinct, filter, list_any, range_with_len}
use Rattle.std.specs.Cmp.{IsEquivalence}
use Rattle.std.proofs.Common.{refl, sym, ap, ◌∙◌, arith, subst, ⊎_elim}
use Rattle.std.proofs.lemmas.Bool.{cond_both, eqb-true, eq-eqb, or_cases, false≢true}
use Rattle.std.proofs.lemmas.List.{length-append, length-map}
use Rattle.std.proofs.lemmas.List.FromFn.{length-range_with_len}
use Rattle.std.proofs.lemmas.Map.Made.{length-le_from_is_member}
use Rattle.lists.specs.Names.{IsPath, IsPublicName}
use Rattle.lists.specs.Texts.{text_eq}
use Rattle.design_ir.specs.declared.memory.Memory.{Memory}
use Rattle.design_ir.specs.declared.port.Column.{Column}
use Rattle.design_ir.specs.PoolRules.{IsPool}
use Rattle.design_ir.specs.Circuits.{Circuit}
use Rattle.design_ir.specs.Designs.{IsDesign, IsMemory}
use Rattle.rtlil_text.specs.declared.module.RtlMemory.{RtlMemory}
use Rattle.memory_cells.specs.Plans.{planned}
use Rattle.new_names.specs.Fresh.{fresh_name, given_names}
use Rattle.new_names.proofs.GivenNames.{fresh_is_public, given_are_distinct}
use Rattle.netlist_laws.specs.Module.{public_id, is_there}
use Rattle.netlist_laws.specs.MemoryDrawings.{Placed, Part, placed, memories_of, parts_of, all_parts, memory_lines}
use Rattle.netlist_laws.proofs.ColumnSignals.{column_signals, columns_distinct}
use Rattle.netlist_laws.proofs.ReadWires.{length-given, memories_are}

-- ---- numbers below a bound, no two the same, are no more than the bound

nat_laws : IsEquivalence nat_eq
nat_laws = record { refl = λ a. eq-eqb a a refl; symm = flipped; congr = λ a b c h. ap (λ x. nat_eq x c) (eqb-true a b h) }
  where
    flipped : (a b : ℕ) → nat_eq a b ≡ nat_eq b a
    flipped a b = by (nat_eq a b) (nat_eq b a) refl refl
      where
        by : (s t : Bool) → nat_eq a b ≡ s → nat_eq b a ≡ t → nat_eq a b ≡ nat_eq b a
        by true t e f = e ∙ sym (eq-eqb b a (sym (eqb-true a b e)))
        by false true e f = eq-eqb a b (sym (eqb-true b a f)) ∙ sym f
        by false false e f = e ∙ sym f

range_has : (k n q : ℕ) → k ≤ q → q < k + n → list_any (nat_eq q) (range_with_len k n) ≡ true
range_has k zero q low high = absurd (omega (arith, low, high))
range_has k (suc n) q low high = by (λ l. range_has (k + 1) n q l (omega (arith, high))) (nat_eq q k) refl
  where
    by : (k + 1 ≤ q → list_any (nat_eq q) (range_with_len (k + 1) n) ≡ true) → (t : Bool) → nat_eq q k ≡ t → (t || list_any (nat_eq q) (range_with_len (k + 1) n)) ≡ true
    by later true e = refl
    by later false e = later (let apart : (q ≡ k → ⊥) = λ s. false≢true (sym e ∙ eq-eqb q k s) in omega (arith, low, apart))

all_below : (n : ℕ) (xs : List ℕ) → AllByRecursion (λ x. x < n) xs → (q : ℕ) → list_any (nat_eq q) xs ≡ true → list_any (nat_eq q) (range_with_len 0 n) ≡ true
all_below n [] h q e = absurd (false≢true e)
all_below n (x ∷ xs) h q e = ⊎_elim (λ (here : nat_eq q x ≡ true). range_has 0 n q (omega arith) (omega (arith, subst (λ y. y < n) (sym (eqb-true q x here)) h.0))) (λ (more : list_any (nat_eq q) xs ≡ true). all_below n xs h.1 q more) (or_cases (nat_eq q x) (list_any (nat_eq q) xs) e)

signals_below : (n : ℕ) (xs : List Column) → AllByRecursion (λ (x : Column). x.sig.0 < n) xs → AllByRecursion (λ s. s < n) (column_signals xs)
signals_below n [] h = tt
signals_below n (x ∷ xs) h = (h.0, signals_below n xs h.1)

-- each signal has one column at most
few_columns : (c : Circuit) → IsDesign c → length c.columns ≤ length c.pool.signals
few_columns c design =
    let n = length c.pool.signals in
    omega (arith, length-le_from_is_member nat_laws (column_signals c.columns) (range_with_len 0 n) (columns_distinct c design) (all_below n (column_signals c.columns) (signals_below n c.columns design.columns.there)), length-map c.columns (λ (x : Column). x.sig.0), length-range_with_len 0 n)

-- each memory has a part at least
few_placed : (xs : List Placed) → length xs ≤ length (all_parts xs)
few_placed [] = omega arith
few_placed (x ∷ xs) =
    let pair : Part → Placed × Part = λ q. (x, q) in
    omega (arith, few_placed xs, length-append (map pair (parts_of x.memory)) (all_parts xs), length-map (parts_of x.memory) pair)

-- ---- the names

module _ (c : Circuit) where
  abbrev pub column_names : List (List ℕ)
  column_names = map (λ (x : Column). x.name) c.columns

  abbrev pub paths : List (List ℕ)
  paths = map (λ (m : Memory). m.name) (filter is_there c.memories)

  abbrev pub memory_names : List (List ℕ)
  memory_names = given_names column_names paths

line_ids : (names : List (List ℕ)) (ms : List Memory) → length names ≡ length ms → map (λ (r : RtlMemory). r.id) (map (λ (x : Placed). planned x.plan) (placed names ms)) ≡ map public_id names
line_ids [] [] e = refl
line_ids [] (m ∷ ms) e = cc
line_ids (name ∷ names) [] e = cc
line_ids (name ∷ names) (m ∷ ms) e = let less : length names ≡ length ms = cc in ap (λ xs. public_id name ∷ xs) (line_ids names ms less)

pub memory_ids : (c : Circuit) → map (λ (r : RtlMemory). r.id) (memory_lines c) ≡ map public_id (memory_names c)
unfolding memories_of
memory_ids c =
    let ms : List Memory = filter is_there c.memories in
    line_ids (memory_names c) ms (length-given (column_names c) (paths c) ∙ length-map ms (λ (m : Memory). m.name))

module _ (c : Circuit) (pool : IsPool c.pool) (design : IsDesign c) (few : length (all_parts (memories_of c)) < 10 ^ 18) where
  few_names : length (column_names c) + length (paths c) < 2 ^ 64
  few_names =
      let ms : List Memory = filter is_there c.memories in
      let same : length (memories_of c) ≡ length ms = sym (length-map (memories_of c) (λ (x : Placed). x.memory)) ∙ ap length (memories_are c) in
      omega (arith, few, few_placed (memories_of c), same, few_columns c design, pool.few_signals, length-map c.columns (λ (x : Column). x.name), length-map ms (λ (m : Memory). m.name))

  pub names_distinct : IsDistinct text_eq (column_names c ++ memory_names c)
  names_distinct = given_are_distinct (column_names c) (paths c) few_names design.columns.names

  given_public : (names more : List (List ℕ)) → length names + length more < 2 ^ 64 → AllByRecursion IsPath more → AllByRecursion IsPublicName (given_names names more)
  given_public names [] k h = tt
  given_public names (name ∷ more) k h =
      let new : List ℕ = fresh_name names name in
      (fresh_is_public names name (omega (arith, k)) h.0, given_public (names ++ new ∷ []) more (omega (arith, k, length-append names (new ∷ []))) h.1)

  paths_are : (ms : List Memory) → AllByRecursion (IsMemory c) ms → AllByRecursion IsPath (map (λ (m : Memory). m.name) (filter is_there ms))
  paths_are [] h = tt
  paths_are (m ∷ ms) h = cond_both (is_there m) (m ∷ filter is_there ms) (filter is_there ms) (λ xs. AllByRecursion IsPath (map (λ (y : Memory). y.name) xs)) (λ t. (h.0.path, paths_are ms h.1)) (λ t. paths_are ms h.1)

  pub names_public : AllByRecursion IsPublicName (memory_names c)
  names_public = given_public (column_names c) (paths c) few_names (paths_are c.memories design.memories)
