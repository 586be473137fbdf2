-- What all modules of a forest give, where the forest is parted into its first trees and those behind them.
use Rattle.std.proofs.Common.{◌≡◌, ℕ, zero, suc, refl, ap, ◌∙◌, sym, List, [], ◌∷◌, ◌++◌, map, append_assoc}
use Rattle.std.specs.List.{AllByRecursion, flat_map}
use Rattle.design_ir.specs.declared.memory.Memory.{Memory}
use Rattle.design_ir.specs.declared.memory.MemRead.{MemRead}
use Rattle.design_ir.specs.Forests.{Leaf, Forest, bare, grown}
use Rattle.fragment_walks.specs.Reads.{data_signals}
use Rattle.fragment_walks.specs.Walks.{gathered, memory_named, memories_of, path_under}
use Rattle.elab_eval.specs.Elaborates.{first_trees, other_trees}
use Rattle.elab_acts.proofs.GrownLaws.{all_and}

-- ---- both parts of a list

pub all_front : {A : Type 0} (P : A → Type 0) (xs ys : List A) → AllByRecursion P (xs ++ ys) → AllByRecursion P xs
all_front P [] ys h = tt
all_front P (x ∷ xs) ys h = (h.0, all_front P xs ys h.1)

pub all_back : {A : Type 0} (P : A → Type 0) (xs ys : List A) → AllByRecursion P (xs ++ ys) → AllByRecursion P ys
all_back P [] ys h = h
all_back P (x ∷ xs) ys h = all_back P xs ys h.1

-- ---- what modules give

module _ {A : Type 0} (P : A → Type 0) (own : Leaf → List A) where
  pub first_gathered : (n : ℕ) (f : Forest) → AllByRecursion P (gathered own f) → AllByRecursion P (gathered own (first_trees n f))
  first_gathered zero f h = tt
  first_gathered (suc n) bare h = tt
  first_gathered (suc n) (grown l below rest) h =
      let behind = all_back P (own l) (gathered own below ++ gathered own rest) h in
      all_and P (own l) (gathered own below ++ gathered own (first_trees n rest)) (all_front P (own l) (gathered own below ++ gathered own rest) h)
      (all_and P (gathered own below) (gathered own (first_trees n rest)) (all_front P (gathered own below) (gathered own rest) behind) (first_gathered n rest (all_back P (gathered own below) (gathered own rest) behind)))

  pub others_gathered : (n : ℕ) (f : Forest) → AllByRecursion P (gathered own f) → AllByRecursion P (gathered own (other_trees n f))
  others_gathered zero f h = h
  others_gathered (suc n) bare h = tt
  others_gathered (suc n) (grown l below rest) h =
      others_gathered n rest (all_back P (gathered own below) (gathered own rest) (all_back P (own l) (gathered own below ++ gathered own rest) h))

  -- a module more, which takes the first trees
  pub grown_gathered : (l : Leaf) (n : ℕ) (f : Forest) → AllByRecursion P (own l) → AllByRecursion P (gathered own f) → AllByRecursion P (gathered own (grown l (first_trees n f) (other_trees n f)))
  grown_gathered l n f mine h =
      all_and P (own l) (gathered own (first_trees n f) ++ gathered own (other_trees n f)) mine
      (all_and P (gathered own (first_trees n f)) (gathered own (other_trees n f)) (first_gathered n f h) (others_gathered n f h))

-- ---- the data of read ports, under whatever names the memories stand

abbrev pub leaf_data : Leaf → List ℕ
leaf_data l = data_signals l.memories

abbrev pub forest_data : Forest → List ℕ
forest_data f = gathered leaf_data f

flat_and : {A B : Type 0} (f : A → List B) (xs ys : List A) → flat_map f (xs ++ ys) ≡ flat_map f xs ++ flat_map f ys
flat_and f [] ys = refl
flat_and f (x ∷ xs) ys = ap (λ zs. f x ++ zs) (flat_and f xs ys) ∙ sym (append_assoc (f x) (flat_map f xs) (flat_map f ys))

data_and : (ms ns : List Memory) → data_signals (ms ++ ns) ≡ data_signals ms ++ data_signals ns
data_and ms ns = flat_and (λ (m : Memory). map (λ (r : MemRead). r.word.0) m.reads) ms ns

pub named_data : (name : List ℕ) (ms : List Memory) → data_signals (map (memory_named name) ms) ≡ data_signals ms
named_data name [] = refl
named_data name (m ∷ ms) = ap (λ xs. map (λ (r : MemRead). r.word.0) m.reads ++ xs) (named_data name ms)

pub data_gathered : (path : List ℕ) (f : Forest) → data_signals (memories_of path f) ≡ forest_data f
data_gathered path bare = refl
data_gathered path (grown l below rest) =
    let own = map (memory_named (path ++ l.name)) l.memories in
    let under = path_under path l.name in
    data_and own (memories_of under below ++ memories_of path rest)
    ∙ ap (λ xs. xs ++ data_signals (memories_of under below ++ memories_of path rest)) (named_data (path ++ l.name) l.memories)
    ∙ ap (λ xs. leaf_data l ++ xs) (data_and (memories_of under below) (memories_of path rest) ∙ ap (λ xs. xs ++ data_signals (memories_of path rest)) (data_gathered under below) ∙ ap (λ xs. forest_data below ++ xs) (data_gathered path rest))

pub all_data : (name : List ℕ) (ms : List Memory) (f : Forest) → data_signals (map (memory_named name) ms ++ memories_of [] f) ≡ data_signals ms ++ forest_data f
all_data name ms f =
    data_and (map (memory_named name) ms) (memories_of [] f) ∙ ap (λ xs. xs ++ data_signals (memories_of [] f)) (named_data name ms) ∙ ap (λ xs. data_signals ms ++ xs) (data_gathered [] f)
