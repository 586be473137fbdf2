-- Marks, and the columns and domains that are copied one after another.
use Rattle.std.specs.Prelude.{◌≡◌, ◌≢◌, refl, ℕ, zero, suc, ◌+◌, ◌<◌, ◌==◌, ◌&&◌, ◌||◌, not, Bool, true, false, List, [], ◌∷◌, ◌++◌, map, drop, length, replicate, fold, slice_get, slice_set, slice_index_or, Some}
use Rattle.std.specs.List.{list_any}
use Rattle.std.proofs.Math.Seq.{take-append_seam}
use Rattle.std.proofs.Common.{cond, take, sym, ap, ◌∙◌, subst, add-one, append_assoc}
use Rattle.std.proofs.lemmas.Bool.{eqb-true, eq-eqb, false≢true}
use Rattle.std.proofs.lemmas.List.{length-set, get_or-set_same, get_or-set_other, length-replicate}
use Rattle.sim_plans.specs.Reading.{AreFirst}
use Rattle.delta_sim.proofs.Starts.{drop_get}
use Rattle.design_ir.specs.declared.domain.Domain.{Domain}
use Rattle.design_ir.specs.declared.port.Port.{Port}
use Rattle.design_ir.specs.Circuits.{Circuit, is_input, is_clock}
use Rattle.design_ir.specs.Tests.{is_settable}
use Rattle.play_text.specs.BoardMarks.{mark_input, unmark_clock}

-- ---- lists, one element after another

-- one element more of a fold
pub fold_turn : {A B : Type 0} (f : B → A → B) (xs : List A) (i : ℕ) (x : A) (now more all : B)
    → slice_get xs i ≡ Some x → more ≡ f now x → fold f now (drop i xs) ≡ all → fold f more (drop (i + 1) xs) ≡ all
fold_turn f xs i x now more all is step known =
    ap (λ k. fold f more (drop k xs)) (add-one i)
    ∙ ap (λ y. fold f y (drop (suc i) xs)) step
    ∙ sym (ap (fold f now) (drop_get xs i x is)) ∙ known

-- one element more of a copy
pub map_turn : {A B : Type 0} (f : A → B) (xs : List A) (i : ℕ) (x : A) (now more all : List B)
    → slice_get xs i ≡ Some x → more ≡ now ++ f x ∷ [] → now ++ map f (drop i xs) ≡ all → more ++ map f (drop (i + 1) xs) ≡ all
map_turn f xs i x now more all is grown known =
    ap (λ k. more ++ map f (drop k xs)) (add-one i)
    ∙ ap (λ ys. ys ++ map f (drop (suc i) xs)) grown
    ∙ append_assoc now (f x ∷ []) (map f (drop (suc i) xs))
    ∙ sym (ap (λ ys. now ++ map f ys) (drop_get xs i x is)) ∙ known

-- and where each element stands as it is
pub copy_turn : {A : Type 0} (xs : List A) (i : ℕ) (x : A) (now more all : List A) → slice_get xs i ≡ Some x → more ≡ now ++ x ∷ [] → now ++ drop i xs ≡ all → more ++ drop (i + 1) xs ≡ all
copy_turn xs i x now more all is grown known =
    ap (λ k. more ++ drop k xs) (add-one i)
    ∙ ap (λ ys. ys ++ drop (suc i) xs) grown
    ∙ append_assoc now (x ∷ []) (drop (suc i) xs)
    ∙ sym (ap (λ ys. now ++ ys) (drop_get xs i x is)) ∙ known

-- ---- marks

-- the mark of a signal
abbrev mark_of : List Bool → ℕ → Bool
mark_of marks s = slice_index_or marks s false

mark_of-set : (marks : List Bool) (s t : ℕ) (b : Bool) → t < length marks → mark_of (slice_set marks s b) t ≡ cond (s == t) b (mark_of marks t)
mark_of-set marks s t b there = split (s == t) refl
  where
    split : (q : Bool) → (s == t) ≡ q → mark_of (slice_set marks s b) t ≡ cond q b (mark_of marks t)
    split true e =
        let same : s ≡ t = eqb-true s t e in
        ap (λ k. mark_of (slice_set marks k b) t) same ∙ get_or-set_same marks t b false there
    split false e =
        let other : t ≢ s = λ same. false≢true (sym e ∙ eq-eqb s t (sym same)) in
        get_or-set_other marks s t b false other

input_length : (marks : List Bool) (p : Port) → length (mark_input marks p) ≡ length marks
input_length marks p = here p.is_input
  where
    here : (b : Bool) → length (cond b (slice_set marks p.sig.0 true) marks) ≡ length marks
    here true = length-set marks p.sig.0 true
    here false = refl

input_mark : (marks : List Bool) (p : Port) (s : ℕ) → s < length marks → mark_of (mark_input marks p) s ≡ (mark_of marks s || (p.is_input && (p.sig.0 == s)))
input_mark marks p s there = here p.is_input
  where
    set : (q m : Bool) → cond q true m ≡ (m || q)
    set true true = refl
    set true false = refl
    set false true = refl
    set false false = refl

    same : (m : Bool) → m ≡ (m || false)
    same true = refl
    same false = refl

    here : (b : Bool) → mark_of (cond b (slice_set marks p.sig.0 true) marks) s ≡ (mark_of marks s || (b && (p.sig.0 == s)))
    here true = mark_of-set marks p.sig.0 s true there ∙ set (p.sig.0 == s) (mark_of marks s)
    here false = same (mark_of marks s)

-- a port's signal is an input
abbrev has_input : List Port → ℕ → Bool
has_input ps s = list_any (λ (p : Port). p.is_input && (p.sig.0 == s)) ps

abbrev has_clock : List Domain → ℕ → Bool
has_clock ds s = list_any (λ (d : Domain). d.clk.0 == s) ds

inputs_length : (ps : List Port) (marks : List Bool) → length (fold mark_input marks ps) ≡ length marks
inputs_length [] marks = refl
inputs_length (p ∷ ps) marks = inputs_length ps (mark_input marks p) ∙ input_length marks p

inputs_mark : (ps : List Port) (marks : List Bool) (s : ℕ) → s < length marks → mark_of (fold mark_input marks ps) s ≡ (mark_of marks s || has_input ps s)
inputs_mark [] marks s there = none (mark_of marks s)
  where
    none : (m : Bool) → m ≡ (m || false)
    none true = refl
    none false = refl
inputs_mark (p ∷ ps) marks s there =
    inputs_mark ps (mark_input marks p) s (subst (λ n. s < n) (sym (input_length marks p)) there)
    ∙ ap (λ m. m || has_input ps s) (input_mark marks p s there)
    ∙ assoc (mark_of marks s) (p.is_input && (p.sig.0 == s)) (has_input ps s)
  where
    assoc : (a b c : Bool) → ((a || b) || c) ≡ (a || (b || c))
    assoc true b c = refl
    assoc false b c = refl

clocks_length : (ds : List Domain) (marks : List Bool) → length (fold unmark_clock marks ds) ≡ length marks
clocks_length [] marks = refl
clocks_length (d ∷ ds) marks = clocks_length ds (unmark_clock marks d) ∙ length-set marks d.clk.0 false

clocks_mark : (ds : List Domain) (marks : List Bool) (s : ℕ) → s < length marks → mark_of (fold unmark_clock marks ds) s ≡ (mark_of marks s && not (has_clock ds s))
clocks_mark [] marks s there = none (mark_of marks s)
  where
    none : (m : Bool) → m ≡ (m && true)
    none true = refl
    none false = refl
clocks_mark (d ∷ ds) marks s there =
    clocks_mark ds (unmark_clock marks d) s (subst (λ n. s < n) (sym (length-set marks d.clk.0 false)) there)
    ∙ ap (λ m. m && not (has_clock ds s)) (mark_of-set marks d.clk.0 s false there)
    ∙ joined (d.clk.0 == s) (mark_of marks s) (has_clock ds s)
  where
    joined : (q m h : Bool) → (cond q false m && not h) ≡ (m && not (q || h))
    joined true true h = refl
    joined true false h = refl
    joined false m h = refl

no_marks : (n s : ℕ) → mark_of (replicate n false) s ≡ false
no_marks zero s = refl
no_marks (suc n) zero = refl
no_marks (suc n) (suc s) = no_marks n s

marks_of : (c : Circuit) (n : ℕ) (first inputs marks : List Bool) → first ≡ replicate n false → inputs ≡ fold mark_input first c.ports → marks ≡ fold unmark_clock inputs c.domains
    → AreFirst false (is_settable c) n marks
marks_of c n first inputs marks is made cleared =
    let size : length first ≡ n = ap length is ∙ length-replicate n false in
    let all : length inputs ≡ n = ap length made ∙ inputs_length c.ports first ∙ size in
    record {
      count = ap length cleared ∙ clocks_length c.domains inputs ∙ all;
      each = λ s there.
          ap (λ ms. mark_of ms s) cleared
          ∙ clocks_mark c.domains inputs s (subst (λ k. s < k) (sym all) there)
          ∙ ap (λ m. m && not (is_clock c s)) (ap (λ ms. mark_of ms s) made ∙ inputs_mark c.ports first s (subst (λ k. s < k) (sym size) there) ∙ ap (λ m. m || is_input c s) (ap (λ ms. mark_of ms s) is ∙ no_marks n s));
    }

-- what was written through a slice of all of it
written_back : {A : Type 0} (xs new : List A) (len : ℕ) → length new ≡ len → take len (new ++ drop (length new) xs) ≡ new
written_back xs new len e = subst (λ k. take k (new ++ drop (length new) xs) ≡ new) e (take-append_seam new (drop (length new) xs))

-- the marks of a design
pub settable_marks : (c : Circuit) (n len : ℕ) (items before inputs between marks : List Bool) → items ≡ replicate n false → len ≡ n → before ≡ items → inputs ≡ fold mark_input before c.ports
    → between ≡ take len (inputs ++ drop (length inputs) items) → marks ≡ fold unmark_clock between c.domains
    → AreFirst false (is_settable c) n (take len (marks ++ drop (length marks) (take len (inputs ++ drop (length inputs) items))))
settable_marks c n len items before inputs between marks is size seen made seen_again cleared =
    let count : length before ≡ n = ap length (seen ∙ is) ∙ length-replicate n false in
    let inputs_count : length inputs ≡ len = ap length made ∙ inputs_length c.ports before ∙ count ∙ sym size in
    let back = written_back items inputs len inputs_count in
    let marks_count : length marks ≡ len = ap length cleared ∙ clocks_length c.domains between ∙ ap length (seen_again ∙ back) ∙ inputs_count in
    subst (AreFirst false (is_settable c) n) (sym (written_back (take len (inputs ++ drop (length inputs) items)) marks len marks_count))
    (marks_of c n before inputs marks (seen ∙ is) made (cleared ∙ ap (λ ms. fold unmark_clock ms c.domains) (seen_again ∙ back)))
