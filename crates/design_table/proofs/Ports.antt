-- Ports that are apart and shown.
use Rattle.std.specs.Prelude.{◌≡◌, refl, ℕ, ◌<◌, ◌≤◌, ◌==◌, ◌&&◌, ◌||◌, nat_eq, nat_lt, nat_le, Bool, true, false, not, IsTrue, List, [], ◌∷◌, map, length, All}
use Rattle.std.specs.List.{AllByRecursion, IsDistinct, list_all}
use Rattle.std.proofs.Common.{sym, arith, inl, append-nil}
use Rattle.std.proofs.lemmas.Bool.{false≢true, and_parts, eq-eqb}
use Rattle.std.proofs.lemmas.List.Elements.{All-nil, All-cons}
use Rattle.lists.specs.Names.{starts_name, continues_name, IsName, IsPublicName}
use Rattle.lists.specs.Texts.{text_eq}
use Rattle.design_ir.specs.declared.port.Port.{Port}
use Rattle.design_ir.specs.Pools.{Pooled}
use Rattle.design_ir.specs.Values.{signal_form}
use Rattle.design_table.specs.Tests.{is_name, is_apart, are_apart, is_shown, is_input_of}

-- ---- names

all_of_test : (test : ℕ → Bool) (xs : List ℕ) → list_all test xs ≡ true → All (λ b. IsTrue (test b)) xs
all_of_test test [] e = All-nil (λ b. IsTrue (test b))
all_of_test test (x ∷ xs) e =
    let r = and_parts (test x) (list_all test xs) e in
    All-cons (λ b. IsTrue (test b)) x xs r.0 (all_of_test test xs r.1)

pub name_is : (name : List ℕ) → is_name name ≡ true → IsName name
name_is [] e = absurd (false≢true e)
name_is (b ∷ bs) e =
    let r = and_parts (starts_name b) (list_all continues_name bs) e in
    record { first = b; rest = bs; whole = refl; starts = r.0; continues = all_of_test continues_name bs r.1 }

public_name : (name : List ℕ) → is_name name ≡ true → IsPublicName name
public_name name e = record {
  name = name;
  more = [];
  suffix = [];
  first = name_is name e;
  others = All-nil IsName;
  ends = inl refl;
  whole = sym (append-nil name);
}

-- ---- apart

pub not_true : (b : Bool) → not b ≡ true → b ≡ false
not_true true e = absurd (false≢true e)
not_true false e = refl

sigs_apart : (p : Port) (ps : List Port) → list_all (is_apart p) ps ≡ true → AllByRecursion (λ s. nat_eq p.sig.0 s ≡ false) (map (λ (q : Port). q.sig.0) ps)
sigs_apart p [] e = tt
sigs_apart p (q ∷ ps) e =
    let r = and_parts (is_apart p q) (list_all (is_apart p) ps) e in
    let h = and_parts (not (p.sig.0 == q.sig.0)) (not (text_eq p.name q.name)) r.0 in
    (not_true (p.sig.0 == q.sig.0) h.0, sigs_apart p ps r.1)

names_apart : (p : Port) (ps : List Port) → list_all (is_apart p) ps ≡ true → AllByRecursion (λ n. text_eq p.name n ≡ false) (map (λ (q : Port). q.name) ps)
names_apart p [] e = tt
names_apart p (q ∷ ps) e =
    let r = and_parts (is_apart p q) (list_all (is_apart p) ps) e in
    let h = and_parts (not (p.sig.0 == q.sig.0)) (not (text_eq p.name q.name)) r.0 in
    (not_true (text_eq p.name q.name) h.1, names_apart p ps r.1)

pub sigs_distinct : (ps : List Port) → are_apart ps ≡ true → IsDistinct nat_eq (map (λ (p : Port). p.sig.0) ps)
unfolding IsDistinct
sigs_distinct [] e = tt
sigs_distinct (p ∷ ps) e = let r = and_parts (list_all (is_apart p) ps) (are_apart ps) e in (sigs_apart p ps r.0, sigs_distinct ps r.1)

pub names_distinct : (ps : List Port) → are_apart ps ≡ true → IsDistinct text_eq (map (λ (p : Port). p.name) ps)
unfolding IsDistinct
names_distinct [] e = tt
names_distinct (p ∷ ps) e = let r = and_parts (list_all (is_apart p) ps) (are_apart ps) e in (names_apart p ps r.0, names_distinct ps r.1)

-- ---- shown

-- the port of a signal with bits, under a name
pub record IsShown (pool : Pooled) (p : Port) : Type 0 where
  pub there : p.sig.0 < length pool.signals
  pub some_width : 1 ≤ (signal_form pool.signals p.sig.0).width
  pub name : IsPublicName p.name

shown_is : (pool : Pooled) (p : Port) → is_shown pool p ≡ true → IsShown pool p
shown_is pool p e =
    let r = and_parts (nat_lt p.sig.0 (length pool.signals)) (nat_le 1 (signal_form pool.signals p.sig.0).width && is_name p.name) e in
    let q = and_parts (nat_le 1 (signal_form pool.signals p.sig.0).width) (is_name p.name) r.1 in
    record { there = grind (arith, r.0); some_width = grind (arith, q.0); name = public_name p.name q.1 }

pub all_shown : (pool : Pooled) (ps : List Port) → list_all (is_shown pool) ps ≡ true → AllByRecursion (IsShown pool) ps
all_shown pool [] e = tt
all_shown pool (p ∷ ps) e = let r = and_parts (is_shown pool p) (list_all (is_shown pool) ps) e in (shown_is pool p r.0, all_shown pool ps r.1)

-- ---- inputs

or_first : (a b : Bool) → a ≡ true → (a || b) ≡ true
or_first true b e = refl
or_first false b e = absurd (false≢true e)

or_second : (a b : Bool) → b ≡ true → (a || b) ≡ true
or_second true b e = refl
or_second false b e = e

and_of : (a b : Bool) → a ≡ true → b ≡ true → (a && b) ≡ true
and_of true b e f = f
and_of false b e f = absurd (false≢true e)

inputs_among : (all ps : List Port) → ((s : ℕ) → is_input_of ps s ≡ true → is_input_of all s ≡ true) → AllByRecursion (λ (p : Port). IsTrue p.is_input → is_input_of all p.sig.0 ≡ true) ps
inputs_among all [] h = tt
inputs_among all (p ∷ ps) h = (
  λ e. h p.sig.0 (or_first (p.is_input && (p.sig.0 == p.sig.0)) (is_input_of ps p.sig.0) (and_of p.is_input (p.sig.0 == p.sig.0) e (eq-eqb p.sig.0 p.sig.0 refl))),
  inputs_among all ps (λ s e. h s (or_second (p.is_input && (p.sig.0 == s)) (is_input_of ps s) e)),
)

-- each input is the port of an input
pub inputs_are : (ps : List Port) → AllByRecursion (λ (p : Port). IsTrue p.is_input → is_input_of ps p.sig.0 ≡ true) ps
inputs_are ps = inputs_among ps ps (λ s e. e)
