-- Bytes in escapes: what a line of the table spells.
-- Internal: no rule of the language.
use Rattle.std.specs.Prelude.{◌≡◌, ℕ, ◌+◌, ◌-◌, ◌*◌, ◌==◌, ◌&&◌, nat_le, List, [], ◌∷◌, drop, slice_index, Option, Some, None, if◌then◌else◌}

-- the value of a hexadecimal digit, where a byte is one: `0` to `9`, `A` to `F`
abbrev pub digit : ℕ → Option ℕ
digit b =
    if nat_le 48 b && nat_le b 57 then Some (b - 48)
    else if nat_le 65 b && nat_le b 70 then Some (b - 55)
    else None

-- the byte of two digits, where both are some, and what stands behind it
abbrev pub joined : Option ℕ → Option ℕ → List ℕ → Option (ℕ × List ℕ)
joined (Some x) (Some y) behind = Some (16 * x + y, behind)
joined (Some x) None behind = None
joined None y behind = None

-- the byte of the two hexadecimal digits at the front, and what stands behind them
abbrev pub coded : List ℕ → Option (ℕ × List ℕ)
coded digits = joined (digit (slice_index digits 0)) (digit (slice_index digits 1)) (drop 2 digits)

-- the byte that stands behind a backslash, and what stands behind it
abbrev pub escaped : List ℕ → Option (ℕ × List ℕ)
escaped rest =
    if slice_index rest 0 == 92 then Some (92, drop 1 rest)
    else if slice_index rest 0 == 110 then Some (10, drop 1 rest)
    else if slice_index rest 0 == 116 then Some (9, drop 1 rest)
    else if slice_index rest 0 == 115 then Some (32, drop 1 rest)
    else if slice_index rest 0 == 120 then coded (drop 1 rest)
    else None

-- the byte at the front of a line, which stands for itself or in an escape, and what stands behind it
abbrev pub first_byte : List ℕ → Option (ℕ × List ℕ)
first_byte [] = None
first_byte (b ∷ rest) = if b == 92 then escaped rest else Some (b, rest)

-- the bytes that a line spells, one behind the other
pub data Spells : List ℕ → List ℕ → Type 0 where
  nothing : Spells [] []
  one_more : (b : ℕ) (bs behind line : List ℕ) → first_byte line ≡ Some (b, behind) → Spells bs behind → Spells (b ∷ bs) line
