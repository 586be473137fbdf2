-- Places of signals, found from the last one on.
use Rattle.std.proofs.Common.{◌≡◌, ◌<◌, ◌+◌, ◌-◌, ◌==◌, ℕ, zero, suc, Bool, true, false, cond, List, [], ◌∷◌, length, drop, replicate, get_or, set, refl, sym, ap, ◌∙◌, arith, subst, ◌≤◌, ⊎_elim}
use Rattle.std.specs.Prelude.{Option, Some, None, slice_get, slice_index_or, option_and_then, map}
use Rattle.std.specs.List.{find, AllByRecursion}
use Rattle.std.proofs.lemmas.Bool.{eqb-true, eqb-false, cases_lt}
use Rattle.std.proofs.lemmas.List.{drop_more, drop_all, length-set, get_or_past, get_or-set_same, get_or-set_other}
use Rattle.std.proofs.lemmas.Option.{get_or_from_slice_get}
use Rattle.design_ir.specs.declared.port.Port.{Port}
use Rattle.design_ir.specs.declared.port.Column.{Column}
use Rattle.design_ir.specs.Circuits.{Circuit}
use Rattle.design_ir.specs.Designs.{IsDesign, port_signals}
use Rattle.design_ir.proofs.Counts.{columns_there, all_left}
use Rattle.netlist_cells.specs.Places.{ArePlaces}

-- ---- no places

abbrev no_place : Option ℕ
no_place = None

get_none : (n s : ℕ) → get_or (replicate n no_place) s None ≡ no_place
get_none zero s = refl
get_none (suc n) zero = refl
get_none (suc n) (suc s) = get_none n s

long_none : (n : ℕ) → length (replicate n no_place) ≡ n
long_none zero = refl
long_none (suc n) = ap suc (long_none n)

pub places_none : (X : Type 0) (test : ℕ → X → Bool) (xs : List X) (n : ℕ) (places : List (Option ℕ)) → places ≡ replicate n None → ArePlaces X test xs (length xs) n places
places_none X test xs n places e = record {
  long = ap length e ∙ long_none n;
  inside = λ s k f. let none : None ≡ Some k = sym (get_none n s) ∙ ap (λ (ps : List (Option ℕ)). get_or ps s None) (sym e) ∙ f in cc;
  each = λ s lt. ap (λ (ps : List (Option ℕ)). option_and_then (slice_get xs) (get_or ps s None)) e ∙ ap (option_and_then (slice_get xs)) (get_none n s) ∙ ap (find (test s)) (sym (drop_all (length xs) xs (omega arith)));
}

-- ---- one more, at the place k

abbrev pub IsWritten : (X : Type 0) → (ℕ → X → Bool) → ℕ → ℕ → X → List (Option ℕ) → List (Option ℕ) → Type 0
IsWritten X test n k x places places' = (s : ℕ) → s < n → slice_index_or places' s None ≡ cond (test s x) (Some k) (slice_index_or places s None)

module _ (X : Type 0) (test : ℕ → X → Bool) (xs : List X) (k n : ℕ) (x : X) (places places' : List (Option ℕ)) (here : k < length xs) (is : slice_get xs k ≡ Some x) (old : ArePlaces X test xs (k + 1) n places) (long : length places' ≡ n) (written : IsWritten X test n k x places places') where
  found : (s : ℕ) (b : Bool) → test s x ≡ b → s < n → option_and_then (slice_get xs) (cond b (Some k) (get_or places s None)) ≡ cond b (Some x) (find (test s) (drop (k + 1) xs))
  found s true t lt = is
  found s false t lt = old.each s lt

  head : drop k xs ≡ x ∷ drop (k + 1) xs
  head = drop_more xs k x here ∙ ap (λ (z : X). z ∷ drop (k + 1) xs) (get_or_from_slice_get xs k x x is)

  places_each : (s : ℕ) → s < n → option_and_then (slice_get xs) (get_or places' s None) ≡ find (test s) (drop k xs)
  places_each s lt = ap (option_and_then (slice_get xs)) (written s lt) ∙ found s (test s x) refl lt ∙ ap (find (test s)) (sym head)

  past : (s : ℕ) → n ≤ s → get_or places' s None ≡ None
  past s le = get_or_past places' s None (omega (arith, long))

  inside_at : (s j : ℕ) (b : Bool) → cond b (Some k) (get_or places s None) ≡ Some j → j < length xs
  inside_at s j true e = let same : k ≡ j = cc in omega arith
  inside_at s j false e = old.inside s j e

  places_inside : (s j : ℕ) → get_or places' s None ≡ Some j → j < length xs
  places_inside s j e = ⊎_elim (λ (lt : s < n). inside_at s j (test s x) (sym (written s lt) ∙ e)) (λ (le : n ≤ s). let none : None ≡ Some j = sym (past s le) ∙ e in cc) (cases_lt s n)

  pub places_more : ArePlaces X test xs k n places'
  places_more = record { long = long; inside = places_inside; each = places_each }

-- ---- one write

pub one_write : (places : List (Option ℕ)) (t k s : ℕ) → t < length places → get_or (set places t (Some k)) s None ≡ cond (t == s) (Some k) (get_or places s None)
one_write places t k s lt = by (t == s) refl
  where
    by : (b : Bool) → (t == s) ≡ b → get_or (set places t (Some k)) s None ≡ cond b (Some k) (get_or places s None)
    by true e = let same : t ≡ s = eqb-true t s e in ap (λ j. get_or (set places t (Some k)) j None) (sym same) ∙ get_or-set_same places t (Some k) None lt
    by false e = get_or-set_other places t s (Some k) None (λ f. eqb-false t s e (sym f))

-- ---- columns and ports stand for signals of the pool

column_at : (c : Circuit) (n : ℕ) (xs : List Column) (k : ℕ) (x : Column) → AllByRecursion (λ (y : Column). y.sig.0 < n) xs → slice_get xs k ≡ Some x → x.sig.0 < n
column_at c n [] k x h e = cc
column_at c n (y ∷ xs) zero x h e = let same : y ≡ x = cc in subst (λ (z : Column). z.sig.0 < n) same h.0
column_at c n (y ∷ xs) (suc k) x h e = column_at c n xs k x h.1 e

pub column_there : (c : Circuit) (k : ℕ) (x : Column) → IsDesign c → slice_get c.columns k ≡ Some x → x.sig.0 < length c.pool.signals
column_there c k x h e = column_at c (length c.pool.signals) c.columns k x h.columns.there e

port_at : (n : ℕ) (ps : List Port) (k : ℕ) (p : Port) → AllByRecursion (λ s. s < n) (map (λ (q : Port). q.sig.0) ps) → slice_get ps k ≡ Some p → p.sig.0 < n
port_at n [] k p h e = cc
port_at n (q ∷ ps) zero p h e = let same : q ≡ p = cc in subst (λ (z : Port). z.sig.0 < n) same h.0
port_at n (q ∷ ps) (suc k) p h e = port_at n ps k p h.1 e

pub port_there : (c : Circuit) (k : ℕ) (p : Port) → IsDesign c → slice_get c.ports k ≡ Some p → p.sig.0 < length c.pool.signals
port_there c k p h e = port_at (length c.pool.signals) c.ports k p (all_left (λ s. s < length c.pool.signals) (port_signals c) h.columns.registers (columns_there c h)) e

-- ---- a turn of the loop that goes from the last on

pub places_turn : (X : Type 0) (test : ℕ → X → Bool) (xs : List X) (count j n t : ℕ) (x : X) (places : List (Option ℕ)) → j < count → count ≡ length xs → slice_get xs (count - 1 - j) ≡ Some x → t < n
    → ((s : ℕ) → test s x ≡ (t == s)) → ArePlaces X test xs (count - j) n places → ArePlaces X test xs (count - (j + 1)) n (set places t (Some (count - 1 - j)))
places_turn X test xs count j n t x places lt all is inside tests old =
    let k : ℕ = count - 1 - j in
    let next : count - j ≡ k + 1 = omega arith in
    let here : count - (j + 1) ≡ k = omega arith in
    let before : ArePlaces X test xs (k + 1) n places = subst (λ i. ArePlaces X test xs i n places) next old in
    let places' : List (Option ℕ) = set places t (Some k) in
    let long : length places' ≡ n = length-set places t (Some k) ∙ old.long in
    let written : IsWritten X test n k x places places' = λ s below. one_write places t k s (omega (arith, old.long)) ∙ ap (λ b. cond b (Some k) (get_or places s None)) (sym (tests s)) in
    subst (λ i. ArePlaces X test xs i n places') (sym here) (places_more X test xs k n x places places' (omega (arith, all)) is before long written)
