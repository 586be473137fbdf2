-- The parts of a script's line, as they are read.
-- Internal: no rule of the language.
use Rattle.std.specs.Prelude.{◌≡◌, ℕ, ◌+◌, ◌^◌, Bool, nat_lt, ◌&&◌, if◌then◌else◌, List, [], ◌∷◌, length, ℤ, pos, negsuc, Option, Some, None, position, bytes_eq, count_by}
use Rattle.std.specs.List.{list_all}
use Rattle.std.specs.BTreeMap.{BTreeMap, get_by}
use Rattle.std.specs.Cmp.Lexicographic.{slice_cmp}
use Rattle.std.specs.Ordering.{nat_cmp}
use denote.Ref.{Bor}
use Rattle.shape_rules.specs.Forms.{Form}
use Rattle.design_ir.specs.declared.ids.DomainId.{DomainId}
use Rattle.design_ir.specs.declared.domain.Domain.{Domain}
use Rattle.play_text.specs.declared.board.Shown.{Shown}
use Rattle.play_text.specs.declared.board.Board.{Board}
use Rattle.play_text.specs.Script.{words_in, named_domains, holds}

-- ---- words

-- the words behind a blank; where no blank stands, none
abbrev pub words_behind : Option (List ℕ) → List (List ℕ)
words_behind None = []
words_behind (Some text) = words_in text

-- how many bytes are left with the blank before them
abbrev pub behind_size : Option (List ℕ) → ℕ
behind_size None = 0
behind_size (Some text) = length text + 1

-- the words where there are two
abbrev pub two_words : List (List ℕ) → Option (List ℕ × List ℕ)
two_words [] = None
two_words (a ∷ []) = None
two_words (a ∷ b ∷ []) = Some (a, b)
two_words (a ∷ b ∷ c ∷ more) = None

-- ---- names

-- a column that a script may set and that has this name
abbrev pub is_settable_as : List ℕ → Shown → Bool
is_settable_as name x = x.is_settable && bytes_eq x.name name

-- the map has the number of the column that a script may set under each name
abbrev pub Numbers : BTreeMap (Bor (List ℕ)) ℕ → List Shown → Type 0
Numbers numbers columns = (name : List ℕ) → get_by (λ k. slice_cmp nat_cmp name k.now) numbers ≡ position (is_settable_as name) columns

-- the words name the domain at most once
abbrev pub is_named_once : List (List ℕ) → Domain → Bool
is_named_once words d = nat_lt (count_by (bytes_eq d.name) words) 2

-- the domains that the words name, where they name none twice
abbrev pub once_each : Board → List (List ℕ) → Option (List DomainId)
once_each b words = if list_all (is_named_once words) b.domains then Some (named_domains b words) else None

-- ---- numbers

-- an integer of the shape
abbrev pub in_shape : Form → ℤ → Option ℤ
in_shape f z = if holds f z then Some z else None

-- a number of at most 128 bits
abbrev pub as_u128 : ℕ → Option ℕ
as_u128 n = if nat_lt n (2 ^ 128) then Some n else None

-- an integer from -2^127 to 2^128 - 1; negsuc n is -1 - n
abbrev pub is_kept : ℤ → Bool
is_kept (pos n) = nat_lt n (2 ^ 128)
is_kept (negsuc n) = nat_lt n (2 ^ 127)

abbrev pub as_int : ℤ → Option ℤ
as_int z = if is_kept z then Some z else None
