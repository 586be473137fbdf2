-- An identifier has, by its bytes, the form of a name.
use Rattle.std.proofs.Common.{◌≡◌, ℕ, ◌<◌, ◌≤◌, nat_lt, ◌==◌, ◌||◌, Bool, true, false, IsTrue, List, [], ◌∷◌, ◌++◌, length, get_or, encode_utf8_all, chars, refl, sym, ◌∙◌, subst, arith}
use Rattle.std.specs.Prelude.{All, encode_utf8}
use Rattle.std.specs.List.{list_all}
use Rattle.std.specs.Char.{is_ascii_alphabetic, is_ascii_alphanumeric}
use Rattle.std.specs.Str.{is_utf8}
use Rattle.std.proofs.lemmas.Bool.{and_parts, eqb-true, false≢true}
use Rattle.std.proofs.lemmas.Bool.Decides.{nat_tests}
use Rattle.std.proofs.lemmas.List.{append-nil}
use Rattle.std.proofs.lemmas.List.Elements.{All-nil, All-append, All-head, All-tail, All-from_get_or}
use Rattle.std.proofs.lemmas.Str.{IsUtf8-from_is_utf8, encodes-chars, inside_one, length-encode, len_utf8_bounds}
use Rattle.unicode_ident.specs.Ident.{is_xid_start, is_xid_continue}
use Rattle.unicode_ident.proofs.IdentLemmas.{is_xid_start-ascii, is_xid_continue-ascii, is_xid_start-is_xid_continue}
use Rattle.lists.specs.Names.{IsName, starts_name, continues_name}
use Rattle.identifiers.specs.Identifiers.{is_identifier, starts_identifier, has_form}

-- a byte of a name behind its first
abbrev Continues : ℕ → Type 0
Continues b = IsTrue (continues_name b)

-- ---- the characters of ASCII

alphabetic_starts : (c : ℕ) → is_ascii_alphabetic c ≡ true → starts_name c ≡ true
alphabetic_starts c h = grind (arith, nat_tests)

alphanumeric_continues : (c : ℕ) → (is_ascii_alphanumeric c || (c == 95)) ≡ true → continues_name c ≡ true
alphanumeric_continues c h = grind (arith, nat_tests)

ascii_continues : (c : ℕ) → c < 128 → is_xid_continue c ≡ true → continues_name c ≡ true
ascii_continues c lt h = alphanumeric_continues c (sym (is_xid_continue-ascii c lt) ∙ h)

ascii_starts : (c : ℕ) → c < 128 → starts_identifier c ≡ true → starts_name c ≡ true
ascii_starts c lt h = by_line (is_xid_start c) refl h
  where
    by_line : (b : Bool) → is_xid_start c ≡ b → (b || (c == 95)) ≡ true → starts_name c ≡ true
    by_line true e k = alphabetic_starts c (sym (is_xid_start-ascii c lt) ∙ e)
    by_line false e k = subst (λ x. starts_name x ≡ true) (sym (eqb-true c 95 k)) refl

-- ---- the bytes of a character

-- each byte of a character beyond ASCII is from 128 on, and the others have one byte
by_bytes : (p q : ℕ → Bool) → ((c : ℕ) → c < 128 → p c ≡ true → q c ≡ true) → ((b : ℕ) → 128 ≤ b → q b ≡ true) → (c : ℕ) → p c ≡ true → All (λ b. IsTrue (q b)) (encode_utf8 c)
by_bytes p q low high c h = All-from_get_or (λ b. IsTrue (q b)) (encode_utf8 c) 0 (λ k lt. at_byte k lt (nat_lt (get_or (encode_utf8 c) k 0) 128) refl)
  where
    at_byte : (k : ℕ) → k < length (encode_utf8 c) → (t : Bool) → nat_lt (get_or (encode_utf8 c) k 0) 128 ≡ t → IsTrue (q (get_or (encode_utf8 c) k 0))
    at_byte k lt true e =
        let below : get_or (encode_utf8 c) k 0 < 128 = grind (arith, nat_tests) in
        let same = inside_one c [] (encode_utf8 c) k (sym (append-nil (encode_utf8 c))) lt below in
        subst (λ b. q b ≡ true) same (low c (subst (λ b. b < 128) (sym same) below) h)
    at_byte k lt false e = high (get_or (encode_utf8 c) k 0) (grind (arith, nat_tests))

high_continues : (b : ℕ) → 128 ≤ b → continues_name b ≡ true
high_continues b h = grind (arith, nat_tests)

high_starts : (b : ℕ) → 128 ≤ b → starts_name b ≡ true
high_starts b h = grind (arith, nat_tests)

-- ---- the bytes of a text

bytes_continue : (cs : List ℕ) → list_all is_xid_continue cs ≡ true → All Continues (encode_utf8_all cs)
bytes_continue [] h = All-nil Continues
bytes_continue (c ∷ cs) h =
    let parts = and_parts (is_xid_continue c) (list_all is_xid_continue cs) h in
    All-append Continues (encode_utf8 c) (encode_utf8_all cs) (by_bytes is_xid_continue continues_name ascii_continues high_continues c parts.0) (bytes_continue cs parts.1)

-- a character that starts an identifier goes on one
starts_continues : (c : ℕ) → starts_identifier c ≡ true → is_xid_continue c ≡ true
starts_continues c h = by_line (is_xid_start c) refl h
  where
    by_line : (b : Bool) → is_xid_start c ≡ b → (b || (c == 95)) ≡ true → is_xid_continue c ≡ true
    by_line true e k = is_xid_start-is_xid_continue c e
    by_line false e k = subst (λ x. is_xid_continue x ≡ true) (sym (eqb-true c 95 k)) (is_xid_continue-ascii 95 (omega arith))

name_of : (first : List ℕ) (rest : List ℕ) → 0 < length first → All (λ b. IsTrue (starts_name b)) first → All Continues first → All Continues rest → IsName (first ++ rest)
name_of [] rest l s f r = absurd (omega (arith, l))
name_of (b ∷ bs) rest l s f r = record {
  first = b;
  rest = bs ++ rest;
  whole = refl;
  starts = All-head (λ b. IsTrue (starts_name b)) b bs s;
  continues = All-append Continues bs rest (All-tail Continues b bs f) r;
}

chars_name : (cs : List ℕ) → has_form cs ≡ true → IsName (encode_utf8_all cs)
chars_name [] h = absurd (false≢true h)
chars_name (c ∷ cs) h =
    let parts = and_parts (starts_identifier c) (list_all is_xid_continue cs) h in
    let some : 0 < length (encode_utf8 c) = omega (arith, length-encode c, (len_utf8_bounds c).0) in
    name_of (encode_utf8 c) (encode_utf8_all cs) some (by_bytes starts_identifier starts_name ascii_starts high_starts c parts.0) (by_bytes is_xid_continue continues_name ascii_continues high_continues c (starts_continues c parts.0)) (bytes_continue cs parts.1)

pub identifier_is_name : (text : List ℕ) → is_identifier text ≡ true → IsName text
unfolding is_identifier
identifier_is_name text h =
    let whole = and_parts (is_utf8 text) _ h in
    let form = and_parts (has_form (chars text)) _ whole.1 in
    subst IsName (encodes-chars text (IsUtf8-from_is_utf8 text whole.0)) (chars_name (chars text) form.0)
