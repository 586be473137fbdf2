-- Ids are words, which begin with `\` or `$`.
use Rattle.std.proofs.Common.{◌≡◌, ◌⊎◌, ◌≤◌, ◌∷◌, [], ◌||◌, ◌&&◌, ◌==◌, ℕ, Bool, true, false, List, refl, sym, subst, arith, inl, inr, ⊎_elim, IsTrue}
use Rattle.std.specs.Prelude.{nat_le}
use Rattle.std.specs.List.{AllByRecursion}
use Rattle.std.specs.Fmt.{decimal}
use Rattle.rtlil_text.specs.Numerals.{numeral}
use Rattle.std.proofs.lemmas.Bool.{eqb-true, leb-true, false≢true}
use Rattle.std.proofs.lemmas.List.Elements.{recursion_from_All}
use Rattle.lists.specs.Names.{is_between, starts_name, continues_name, IsName, dotted, IsSuffix, IsPublicName}
use Rattle.rtlil_text.specs.Ids.{IsPublicId, IsInnerId, IsId}
use Rattle.rtlil_text.proofs.Words.{IsWord, IsWord-append}
use Rattle.rtlil_text.proofs.Numerals.{IsWord-numeral, IsWord-decimal}
use Rattle.rtlil_text.proofs.SpecOnce.{IsIdText}

bool_or : (a b : Bool) → (a || b) ≡ true → (a ≡ true) ⊎ (b ≡ true)
bool_or true b e = inl refl
bool_or false b e = inr e

bool_and : (a b : Bool) → (a && b) ≡ true → a ≡ true
bool_and true b e = refl
bool_and false b e = absurd (false≢true e)

between-low : (low high b : ℕ) → is_between low high b ≡ true → low ≤ b
between-low low high b e = leb-true low b (bool_and (nat_le low b) (nat_le b high) e)

starts-high : (b : ℕ) → starts_name b ≡ true → 33 ≤ b
starts-high b e =
    ⊎_elim
    (λ f. ⊎_elim (λ g. ⊎_elim (λ h. omega (arith, between-low 65 90 b h)) (λ h. omega (arith, between-low 97 122 b h)) (bool_or (is_between 65 90 b) (is_between 97 122 b) g)) (λ g. omega (arith, eqb-true b 95 g)) (bool_or (is_between 65 90 b || is_between 97 122 b) (b == 95) f))
    (λ f. omega (arith, leb-true 128 b f))
    (bool_or (is_between 65 90 b || is_between 97 122 b || (b == 95)) (nat_le 128 b) e)

continues-high : (b : ℕ) → continues_name b ≡ true → 33 ≤ b
continues-high b e = ⊎_elim (starts-high b) (λ f. omega (arith, between-low 48 57 b f)) (bool_or (starts_name b) (is_between 48 57 b) e)

IsWord-continues : (xs : List ℕ) → AllByRecursion (λ b. IsTrue (continues_name b)) xs → IsWord xs
IsWord-continues [] h = tt
IsWord-continues (x ∷ xs) h = (continues-high x h.0, IsWord-continues xs h.1)

IsWord-name : (name : List ℕ) → IsName name → IsWord name
IsWord-name name h =
    let w : IsWord (h.first ∷ h.rest) = (starts-high h.first h.starts, IsWord-continues h.rest (recursion_from_All (λ b. IsTrue (continues_name b)) h.rest h.continues)) in
    subst IsWord (sym h.whole) w

IsWord-dotted : (name : List ℕ) (more : List (List ℕ)) → IsName name → AllByRecursion IsName more → IsWord (dotted name more)
IsWord-dotted name [] h k = IsWord-name name h
IsWord-dotted name (m ∷ more) h k = IsWord-append name (46 ∷ dotted m more) (IsWord-name name h) (omega arith, IsWord-dotted m more k.0 k.1)

IsWord-suffix : (text : List ℕ) → IsSuffix text → IsWord text
IsWord-suffix text h = ⊎_elim (λ e. subst IsWord (sym e) tt) (λ s. let w : IsWord (36 ∷ decimal s.0) = (omega arith, IsWord-decimal s.0) in subst IsWord (sym s.1) w) h

IsWord-public_name : (text : List ℕ) → IsPublicName text → IsWord text
IsWord-public_name text h =
    subst IsWord (sym h.whole) (IsWord-append (dotted h.name h.more) h.suffix (IsWord-dotted h.name h.more h.first (recursion_from_All IsName h.more h.others)) (IsWord-suffix h.suffix h.ends))

pub IsIdText-public : (id : List ℕ) → IsPublicId id → IsIdText id
IsIdText-public id h =
    let w : IsWord (92 ∷ h.0) = (omega arith, IsWord-public_name h.0 h.1) in
    record { word = subst IsWord (sym h.2) w; begins = record { first = 92; rest = h.0; such = inl refl; is = h.2 } }

IsIdText-inner : (id : List ℕ) → IsInnerId id → IsIdText id
IsIdText-inner id h =
    let w : IsWord (36 ∷ numeral h.0) = (omega arith, IsWord-numeral h.0) in
    record { word = subst IsWord (sym h.1) w; begins = record { first = 36; rest = numeral h.0; such = inr refl; is = h.1 } }

pub IsIdText-id : (id : List ℕ) → IsId id → IsIdText id
IsIdText-id id h = ⊎_elim (IsIdText-public id) (IsIdText-inner id) h
