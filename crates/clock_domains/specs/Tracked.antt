-- How the names of columns are kept: each with the greatest number that it was given.
use Rattle.std.specs.Prelude.{◌≡◌, ℕ, ◌<◌, ◌≤◌, true, false, cond, bytes_eq, is_some, List, map, length, String, Option, Some}
use Rattle.std.specs.BTreeMap.{BTreeMap, get_by_text}
use Rattle.std.specs.declared.alloc.Global.{Global}
use Rattle.design_ir.specs.declared.port.Column.{Column}
use Rattle.clock_domains.specs.Resolved.{has_name, numbered_name}

abbrev pub names_of : List Column → List (List ℕ)
names_of columns = map (λ (c : Column). c.name) columns

-- all numbers up to this one stand already behind the name
abbrev pub AreTaken : List (List ℕ) → List ℕ → ℕ → Type 0
AreTaken names name last = (j : ℕ) → 1 ≤ j → j ≤ last → has_name names (numbered_name name j) ≡ true

-- a look-up finds exactly these names, each with a number up to which all are taken
pub record Tracks (look : List ℕ → Option ℕ) (names : List (List ℕ)) : Type 0 where
  pub has : (q : List ℕ) → is_some (look q) ≡ has_name names q
  pub taken : (q : List ℕ) (last : ℕ) → look q ≡ Some last → AreTaken names q last

abbrev pub IsTracked : BTreeMap (String Global) ℕ → List Column → Type 0
IsTracked numbers columns = Tracks (get_by_text numbers) (names_of columns)

-- the least number with which a name is new
pub record IsFree (names : List (List ℕ)) (name : List ℕ) (number : ℕ) : Type 0 where
  pub some : 1 ≤ number
  pub few : number ≤ length names
  pub before : (j : ℕ) → 1 ≤ j → j < number → has_name names (numbered_name name j) ≡ true
  pub new : has_name names (numbered_name name number) ≡ false

-- a look-up in which a name has a number now
abbrev pub IsPut : (List ℕ → Option ℕ) → List ℕ → ℕ → (List ℕ → Option ℕ) → Type 0
IsPut look name number look' = (q : List ℕ) → look' q ≡ cond (bytes_eq name q) (Some number) (look q)
