-- Marks of memories whose rows changed, and of the read ports that they wake, one after another.
use Rattle.std.specs.Prelude.{◌≡◌, ◌≢◌, refl, ℕ, zero, suc, ◌+◌, ◌<◌, ◌≤◌, ◌||◌, if◌then◌else◌, Bool, true, false, not, List, [], ◌∷◌, length, slice_get, slice_index_or, slice_set, ℤ, Some}
use Rattle.std.proofs.Common.{sym, ◌∙◌, ap, arith, ⊎_elim}
use Rattle.std.proofs.lemmas.Bool.{cases_eq}
use Rattle.std.proofs.lemmas.List.{length-set, get_or-set_same, get_or-set_other}
use Rattle.sim_plans.specs.declared.task.PortTask.{PortTask}
use Rattle.sim_plans.specs.Plans.{WakesPorts}
use Rattle.sim_plans.specs.Waiting.{Waiting, IsWaiting}
use Rattle.sim_plans.specs.Woken.{same_rows}
use Rattle.delta_sim.proofs.Settles.{idle_of}

abbrev set_if : Bool → List Bool → ℕ → List Bool
set_if b marks k = if b then slice_set marks k true else marks

pub set_length : (b : Bool) (marks : List Bool) (k : ℕ) → length (set_if b marks k) ≡ length marks
set_length true marks k = length-set marks k true
set_length false marks k = refl

set_other : (b : Bool) (marks : List Bool) (k j : ℕ) → j ≢ k → slice_index_or (set_if b marks k) j false ≡ slice_index_or marks j false
set_other true marks k j e = get_or-set_other marks k j true false e
set_other false marks k j e = refl

set_here : (b : Bool) (marks : List Bool) (k : ℕ) → k < length marks → slice_index_or (set_if b marks k) k false ≡ (slice_index_or marks k false || b)
set_here true marks k h = get_or-set_same marks k true false h ∙ sym (or_true (slice_index_or marks k false))
  where
    or_true : (b : Bool) → (b || true) ≡ true
    or_true true = refl
    or_true false = refl
set_here false marks k h = or_false (slice_index_or marks k false)
  where
    or_false : (b : Bool) → b ≡ (b || false)
    or_false true = refl
    or_false false = refl

-- ---- memories

-- the first so many are marked where their rows changed, and no others are
pub record AreFlagged (old now : List (List ℤ)) (k : ℕ) (marks : List Bool) : Type 0 where
  pub done : (j : ℕ) → j < k → slice_index_or marks j false ≡ not (same_rows (slice_index_or old j []) (slice_index_or now j []))
  pub rest : (j : ℕ) → k ≤ j → slice_index_or marks j false ≡ false

pub flag_turn : (old now : List (List ℤ)) (k : ℕ) (new : List ℤ) (marks marks' : List Bool) (b : Bool) → k < length now → k < length marks → b ≡ not (same_rows (slice_index_or old k []) new) → marks' ≡ (if b then slice_set marks k true else marks)
    → AreFlagged old now k marks → AreFlagged old (slice_set now k new) (k + 1) marks'
flag_turn old now k new marks marks' b there inside is e was = record {
  done = λ j lt.
      ⊎_elim
      (λ (same : j ≡ k).
      ap (λ ms. slice_index_or ms j false) e ∙ ap (λ n. slice_index_or (set_if b marks k) n false) same ∙ set_here b marks k inside
      ∙ ap (λ x. x || b) (was.rest k (let le : k ≤ k = omega arith in le)) ∙ is
      ∙ ap (λ xs. not (same_rows (slice_index_or old k []) xs)) (sym (get_or-set_same now k new [] there))
      ∙ ap (λ n. not (same_rows (slice_index_or old n []) (slice_index_or (slice_set now k new) n []))) (sym same))
      (λ (other : j ≢ k).
      ap (λ ms. slice_index_or ms j false) e ∙ set_other b marks k j other ∙ was.done j (omega (arith, lt, other))
      ∙ ap (λ xs. not (same_rows (slice_index_or old j []) xs)) (sym (get_or-set_other now k j new [] other)))
      (cases_eq j k);
  rest = λ j le. ap (λ ms. slice_index_or ms j false) e ∙ set_other b marks k j (λ f. omega (arith, f, le)) ∙ was.rest j (omega (arith, le));
}

pub flag_first : (old now : List (List ℤ)) (n : ℕ) (marks : List Bool) → ((j : ℕ) → slice_index_or marks j false ≡ false) → AreFlagged old now 0 marks
flag_first old now n marks h = record { done = λ j lt. absurd (omega (arith, lt)); rest = λ j le. h j }

-- ---- read ports

-- the first so many are marked where their memories are, and nothing else is
pub record AreCalled (first : ℕ) (tasks : List PortTask) (changed was : List Bool) (i : ℕ) (marks : List Bool) : Type 0 where
  pub count : length marks ≡ length was
  pub done : (j : ℕ) (t : PortTask) → j < i → slice_get tasks j ≡ Some t → slice_index_or marks (first + j) false ≡ (slice_index_or was (first + j) false || slice_index_or changed t.memory false)
  pub rest : (j : ℕ) → i ≤ j → slice_index_or marks (first + j) false ≡ slice_index_or was (first + j) false
  pub others : (j : ℕ) → j < first → slice_index_or marks j false ≡ slice_index_or was j false

pub called_first : (first : ℕ) (tasks : List PortTask) (changed was : List Bool) → AreCalled first tasks changed was 0 was
called_first first tasks changed was = record { count = refl; done = λ j t lt is. absurd (omega (arith, lt)); rest = λ j le. refl; others = λ j lt. refl }

pub called_turn : (first : ℕ) (tasks : List PortTask) (changed was : List Bool) (i : ℕ) (t : PortTask) (marks marks' : List Bool) (b : Bool) → slice_get tasks i ≡ Some t → first + i < length marks → b ≡ slice_index_or changed t.memory false
    → marks' ≡ (if b then slice_set marks (first + i) true else marks) → AreCalled first tasks changed was i marks → AreCalled first tasks changed was (i + 1) marks'
called_turn first tasks changed was i t marks marks' b is inside wanted e h = record {
  count = ap length e ∙ set_length b marks (first + i) ∙ h.count;
  done = λ j u lt at.
      ⊎_elim
      (λ (same : j ≡ i).
      let alike : t ≡ u = let f : Some t ≡ Some u = sym is ∙ ap (slice_get tasks) (sym same) ∙ at in cc in
      ap (λ ms. slice_index_or ms (first + j) false) e
      ∙ ap (λ n. slice_index_or (set_if b marks (first + i)) (first + n) false) same
      ∙ set_here b marks (first + i) inside
      ∙ ap (λ x. x || b) (h.rest i (let le : i ≤ i = omega arith in le))
      ∙ ap (λ x. slice_index_or was (first + i) false || x) wanted
      ∙ ap (λ (v : PortTask). slice_index_or was (first + i) false || slice_index_or changed v.memory false) alike
      ∙ ap (λ n. slice_index_or was (first + n) false || slice_index_or changed u.memory false) (sym same))
      (λ (other : j ≢ i).
      ap (λ ms. slice_index_or ms (first + j) false) e ∙ set_other b marks (first + i) (first + j) (λ f. other (omega (arith, f))) ∙ h.done j u (omega (arith, lt, other)) at)
      (cases_eq j i);
  rest = λ j le. ap (λ ms. slice_index_or ms (first + j) false) e ∙ set_other b marks (first + i) (first + j) (λ f. omega (arith, f, le)) ∙ h.rest j (omega (arith, le));
  others = λ j lt. ap (λ ms. slice_index_or ms j false) e ∙ set_other b marks (first + i) j (λ f. omega (arith, f, lt)) ∙ h.others j lt;
}

pub called_end : (first : ℕ) (tasks : List PortTask) (changed was : List Bool) (i : ℕ) (marks : List Bool) → length tasks ≤ i → AreCalled first tasks changed was i marks → WakesPorts first tasks changed was marks
called_end first tasks changed was i marks past h = record {
  count = h.count;
  ports = λ j t is. h.done j t (let l = below tasks j t is in omega (arith, l, past)) is;
  others = h.others;
}
  where
    below : (xs : List PortTask) (j : ℕ) (t : PortTask) → slice_get xs j ≡ Some t → j < length xs
    below [] j t e = cc
    below (x ∷ xs) zero t e = omega arith
    below (x ∷ xs) (suc j) t e = let r = below xs j t e in omega (arith, r)

-- where no memory is marked, no port is woken
pub called_none : (first : ℕ) (tasks : List PortTask) (changed : Waiting) (was : List Bool) → IsWaiting changed → length changed.list ≡ 0 → WakesPorts first tasks changed.marks was was
called_none first tasks changed was rules none = record {
  count = refl;
  ports = λ i t is. or_none (slice_index_or was (first + i) false) (slice_index_or changed.marks t.memory false) (idle_of changed rules none t.memory);
  others = λ j lt. refl;
}
  where
    or_none : (a b : Bool) → b ≡ false → a ≡ (a || b)
    or_none true b e = refl
    or_none false b e = sym e
