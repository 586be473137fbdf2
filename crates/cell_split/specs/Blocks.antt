-- Numbers that no id of a module has, sought by blocks of 2^64 numbers.
-- Internal: no rule of the language.
use Rattle.std.specs.Prelude.{◌≡◌, ◌≤◌, ◌<◌, ◌+◌, ◌*◌, ◌^◌, ℕ, Bool, true, false, List, length, slice_index_or, count_by}
use Rattle.cell_split.specs.Pieces.{numbered_id}

-- the block is marked
abbrev pub is_taken : List Bool → (block : ℕ) → Bool
is_taken taken block = slice_index_or taken block false

abbrev pub count_taken : List Bool → ℕ
count_taken taken = count_by (λ b. b) taken

-- the block of the id's number is marked, where it is one of these
abbrev pub MarksId : List Bool → List ℕ → Type 0
MarksId taken id = (k block : ℕ) → id ≡ numbered_id k → block < length taken → block * 2 ^ 64 ≤ k → k < (block + 1) * 2 ^ 64 → is_taken taken block ≡ true

-- as many blocks, of which none is free again
pub record Marks (old new : List Bool) : Type 0 where
  pub size : length new ≡ length old
  pub kept : (block : ℕ) → is_taken old block ≡ true → is_taken new block ≡ true
