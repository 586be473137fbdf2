-- What a line spells, byte by byte.
use Rattle.std.proofs.Common.{◌≡◌, ◌++◌, ◌∷◌, [], List, ℕ, Option, Some, None, subst, sym, ◌∙◌, append_assoc, ap, arith}
use Rattle.std.proofs.lemmas.List.{append-nil}
use Rattle.std.proofs.lemmas.Option.{none-some}
use Rattle.table_text.specs.Escapes.{first_byte, Spells}

-- bytes before those that the rest of a line spells
abbrev pub SpellsFrom : List ℕ → List ℕ → List ℕ → Type 0
SpellsFrom before rest line = (bs : List ℕ) → Spells bs rest → Spells (before ++ bs) line

pub spells_one_more : (before : List ℕ) (b : ℕ) (behind rest line : List ℕ) → SpellsFrom before rest line → first_byte rest ≡ Some (b, behind) → SpellsFrom (before ++ b ∷ []) behind line
spells_one_more before b behind rest line from begins bs spelled =
    let whole : Spells (before ++ b ∷ bs) line = from (b ∷ bs) (Spells.one_more b bs behind rest begins spelled)
    in subst (λ xs. Spells xs line) (sym (append_assoc before (b ∷ []) bs)) whole

pub spells_all : (before rest line : List ℕ) → rest ≡ [] → SpellsFrom before rest line → Spells before line
spells_all before rest line is_end from =
    let at_end : Spells [] rest = subst (λ xs. Spells [] xs) (sym is_end) Spells.nothing
    in subst (λ xs. Spells xs line) (append-nil before) (from [] at_end)

-- what spells nothing at all leaves nothing for the line before it
abbrev pub Refuted : List ℕ → List ℕ → Type 0
Refuted rest line = ((bs : List ℕ) → Spells bs rest → ⊥) → (bs : List ℕ) → Spells bs line → ⊥

-- what stands behind a byte, where there is one
abbrev behind_of : Option (ℕ × List ℕ) → List ℕ
behind_of None = []
behind_of (Some x) = x.1

same_behind : (x y : ℕ × List ℕ) → Some x ≡ Some y → x.1 ≡ y.1
same_behind x y e = ap behind_of e

-- where what stands behind a byte spells nothing, so does what begins with the byte
pub none_behind : (b : ℕ) (behind bs rest : List ℕ) → first_byte rest ≡ Some (b, behind) → ((bs : List ℕ) → Spells bs behind → ⊥) → Spells bs rest → ⊥
none_behind b behind bs rest begins none Spells.nothing = none-some (b, behind) begins
none_behind b behind bs rest begins none (Spells.one_more c cs after line found tail) =
    let same : after ≡ behind = same_behind (c, after) (b, behind) (sym found ∙ begins)
    in none cs (subst (λ xs. Spells cs xs) same tail)

-- what spells a byte spells it so whatever stands behind it
pub first_byte_behind : (b : ℕ) (piece behind rest : List ℕ) → first_byte piece ≡ Some (b, behind) → first_byte (piece ++ rest) ≡ Some (b, behind ++ rest)
first_byte_behind b [] behind rest e = grind arith
first_byte_behind b (x ∷ []) behind rest e = grind arith
first_byte_behind b (x ∷ y ∷ []) behind rest e = grind arith
first_byte_behind b (x ∷ y ∷ z ∷ []) behind rest e = grind arith
first_byte_behind b (x ∷ y ∷ z ∷ w ∷ more) behind rest e = grind arith

pub spells_then : (bs line : List ℕ) (b : ℕ) (piece : List ℕ) → Spells bs line → first_byte piece ≡ Some (b, []) → Spells (bs ++ b ∷ []) (line ++ piece)
spells_then bs line b piece Spells.nothing e = Spells.one_more b [] [] piece e Spells.nothing
spells_then bs line b piece (Spells.one_more c cs behind whole begins tail) e =
    Spells.one_more c (cs ++ b ∷ []) (behind ++ piece) (whole ++ piece) (first_byte_behind c whole behind piece begins) (spells_then cs behind b piece tail e)
