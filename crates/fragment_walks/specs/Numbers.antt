-- Numbers of processes that are kept for expressions and for signals, the least for each. Those below a bound are marks.
use Rattle.std.specs.Prelude.{ℕ, nat_lt, Bool, false, if◌then◌else◌, List, [], ◌∷◌, map, slice_index_or, slice_set, Option, Some, None}
use Rattle.std.specs.List.{flat_map}
use Rattle.design_ir.specs.declared.process.Process.{Process}
use Rattle.fragment_walks.specs.Reads.{block_targets}

-- ---- one for each

-- the lesser of two numbers, where there are any
abbrev pub lesser : Option ℕ → Option ℕ → Option ℕ
lesser None b = b
lesser (Some m) None = Some m
lesser (Some m) (Some n) = if nat_lt n m then Some n else Some m

abbrev pub first_at : List (Option ℕ) → ℕ → Option ℕ
first_at firsts s = slice_index_or firsts s None

-- these have this number, or keep a lesser one
abbrev pub lowered : List ℕ → ℕ → List (Option ℕ) → List (Option ℕ)
lowered [] n firsts = firsts
lowered (k ∷ ks) n firsts = lowered ks n (slice_set firsts k (lesser (first_at firsts k) (Some n)))

-- ---- below a bound

-- there is a number, and it is below this one
abbrev pub is_below : ℕ → Option ℕ → Bool
is_below i None = false
is_below i (Some n) = nat_lt n i

-- a mark for each number below this one
abbrev pub bounded : ℕ → List (Option ℕ) → List Bool
bounded i firsts = map (is_below i) firsts

-- ---- processes

abbrev pub process_targets : List Process → List ℕ
process_targets ps = flat_map (λ (p : Process). block_targets p.body) ps
