-- Numbers that wait, each once.
use Rattle.std.specs.Prelude.{◌≡◌, ℕ, ◌<◌, ◌++◌, Bool, false, List, length, slice_index_or}
use Rattle.std.specs.List.{AllByRecursion, count_by}
use Rattle.design_ir.specs.Circuits.{is_among}

-- for each number below a bound whether it waits, and those that do in the order in which they came
pub record Waiting : Type 0 where
  pub marks : List Bool
  pub list : List ℕ

-- the list has those that are marked, each once
pub record IsWaiting (w : Waiting) : Type 0 where
  pub listed : (n : ℕ) → slice_index_or w.marks n false ≡ is_among w.list n
  pub below : AllByRecursion (λ n. n < length w.marks) w.list
  pub count : length w.list ≡ count_by (λ b. b) w.marks

-- the list goes on from where the other ends
pub record IsFront (xs ys : List ℕ) : Type 0 where
  pub more : List ℕ
  pub is : ys ≡ xs ++ more
