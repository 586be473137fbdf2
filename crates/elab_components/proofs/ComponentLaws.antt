-- Steps of the loops over members, classes and names.
use Rattle.std.specs.Prelude.{◌≡◌, refl, ℕ, ◌+◌, ◌<◌, ◌||◌, ◌&&◌, ◌==◌, ◌≢◌, not, Bool, true, false, cond, List, [], ◌∷◌, ◌++◌, length, drop, get_or, Option, Some, None, bytes_eq}
use Rattle.std.specs.List.{list_any}
use Rattle.std.proofs.Common.{sym, ◌∙◌, ap, arith, true≢false}
use Rattle.std.proofs.lemmas.List.{at_drop_more, append_assoc}
use Rattle.std.proofs.lemmas.Bool.{eqb-true}
use Rattle.std.proofs.lemmas.List.Folds.{list_any-append}
use Rattle.std.proofs.lemmas.Slice.Eq.{bytes_eq-Decides}
use Rattle.lists.specs.Texts.{text_eq}
use Rattle.lists.proofs.TextLaws.{by_equal}
use Rattle.py_values.specs.declared.val.Val.{Val}
use Rattle.py_heap.specs.Heaps.{Seen}
use Rattle.elab_store.specs.declared.members.NamedMember.{NamedMember}
use Rattle.elab_store.specs.declared.members.Member.{Member}
use Rattle.elab_components.specs.Classes.{is_keyword}
use Rattle.identifiers.specs.Identifiers.{is_identifier}
use Rattle.elab_store.specs.Stores.{Stored, kept_of}
use Rattle.elab_components.specs.ComponentClasses.{member_of, value_before, member_before, behind_members, annotated}
use Rattle.elab_components.specs.Interfaces.{are_named, string_in, named_before, members_of_row}

-- ---- names

pub text_eq_bytes : (a b : List ℕ) → bytes_eq b a ≡ text_eq a b
text_eq_bytes a b = by_equal (bytes_eq b a) a b (λ e. sym ((bytes_eq-Decides b a).0 e), λ e. (bytes_eq-Decides b a).1 (sym e))

or_true : (a b : Bool) → (a || (b || false)) ≡ cond b true a
or_true true true = refl
or_true true false = refl
or_true false true = refl
or_true false false = refl

-- one name more
pub among_more : (names : List (List ℕ)) (name q : List ℕ) → cond (bytes_eq name q) true (list_any (text_eq q) names) ≡ list_any (text_eq q) (names ++ name ∷ [])
among_more names name q =
    ap (λ b. cond b true (list_any (text_eq q) names)) (text_eq_bytes q name)
    ∙ sym (list_any-append (text_eq q) names (name ∷ []) ∙ or_true (list_any (text_eq q) names) (text_eq q name))

-- a name in the form of one that stands not before
pub named_more : (before : List (List ℕ)) (ms : List NamedMember) (i : ℕ) (m : NamedMember) → i < length ms → get_or ms i m ≡ m → is_identifier m.name ≡ true → list_any (text_eq m.name) before ≡ false → are_named before (drop i ms) ≡ are_named (before ++ m.name ∷ []) (drop (i + 1) ms)
named_more before ms i m h same formed apart =
    at_drop_more (are_named before) ms i m h
    ∙ ap (λ (x : NamedMember). are_named before (x ∷ drop (i + 1) ms)) same
    ∙ ap (λ b. b && (not (list_any (text_eq m.name) before) && are_named (before ++ m.name ∷ []) (drop (i + 1) ms))) formed
    ∙ ap (λ b. not b && are_named (before ++ m.name ∷ []) (drop (i + 1) ms)) apart

-- ---- values of a class

abbrev Members : Type 0
Members = Option (List NamedMember)

-- one member more stands behind the others
pub member_next : (name : List ℕ) (m : Member) (x : NamedMember) (before after : List NamedMember) (rest : Option (List NamedMember)) → x ≡ record { name = name; member = m } → after ≡ before ++ x ∷ []
    → behind_members true after rest ≡ behind_members true before (member_before name (Some m) rest)
member_next name m x before after None e f = refl
member_next name m x before after (Some ms) e f =
    ap (λ (all : List NamedMember). Some (all ++ ms)) (f ∙ ap (λ (y : NamedMember). before ++ y ∷ []) e)
    ∙ ap (λ (all : List NamedMember). Some all) (append_assoc before (record { name = name; member = m } ∷ []) ms)

chosen : (colon equals : Bool) (before : List NamedMember) (member rest : Members) → colon ≡ false → behind_members (not equals) before rest ≡ behind_members true before (cond colon member (cond equals None rest))
chosen true equals before member rest e = absurd (true≢false e)
chosen false true before member rest e = refl
chosen false false before member rest e = refl

no_colon : (sign : ℕ) (b : Bool) → (sign == 58) ≡ b → sign ≢ 58 → b ≡ false
no_colon sign true e apart = absurd (apart (eqb-true sign 58 e))
no_colon sign false e apart = refl

-- a value whose name does not begin with a colon is no member, and may stand but where it is a keyword's
pub value_other : (name : List ℕ) (m : Option Member) (before : List NamedMember) (rest : Option (List NamedMember)) → ((more : List ℕ) → name ≢ 58 ∷ more) → behind_members (not (is_keyword name)) before rest ≡ behind_members true before (value_before name m rest)
value_other [] m before rest apart = refl
value_other (sign ∷ name) m before rest apart =
    chosen (sign == 58) (sign == 61) before (member_before name m rest) rest (no_colon sign (sign == 58) refl (λ e. apart name (ap (λ s. s ∷ name) e)))

-- a value whose name begins with one is the next member
pub value_member : (name more : List ℕ) (o : Option Member) (m : Member) (x : NamedMember) (before after : List NamedMember) (rest : Option (List NamedMember))
    → name ≡ 58 ∷ more → o ≡ Some m → x ≡ record { name = more; member = m } → after ≡ before ++ x ∷ [] → behind_members true after rest ≡ behind_members true before (value_before name o rest)
value_member name more o m x before after rest e1 e2 e3 e4 =
    member_next more m x before after rest e3 e4
    ∙ ap (λ (p : Option Member). behind_members true before (member_before more p rest)) (sym e2)
    ∙ ap (λ n. behind_members true before (value_before n o rest)) (sym e1)

-- so is the value of a name in a dict
pub row_member : (s : Seen) (store : Stored) (row more : List Val) (k v : Val) (name : Option (List ℕ)) (n : List ℕ) (o : Option Member) (m : Member) (x : NamedMember) (before after : List NamedMember) (whole : Option (List NamedMember))
    → row ≡ k ∷ v ∷ more → name ≡ string_in s k → name ≡ Some n → o ≡ member_of (kept_of store v) → o ≡ Some m → x ≡ record { name = n; member = m } → after ≡ before ++ x ∷ []
    → behind_members true before (members_of_row s store row) ≡ whole → behind_members true after (members_of_row s store more) ≡ whole
row_member s store row more k v name n o m x before after whole e n1 n2 o1 o2 made pushed so_far =
    member_next n m x before after (members_of_row s store more) made pushed
    ∙ ap (λ (p : Option Member). behind_members true before (member_before n p (members_of_row s store more))) (sym o2 ∙ o1)
    ∙ ap (λ (p : Option (List ℕ)). behind_members true before (named_before p (member_of (kept_of store v)) (members_of_row s store more))) (sym n2 ∙ n1)
    ∙ ap (λ (r : List Val). behind_members true before (members_of_row s store r)) (sym e)
    ∙ so_far

-- a name without a value is no annotation
pub annotated_short : (s : Stored) (names : List (List ℕ)) → 0 < length names → annotated s [] names ≡ None
annotated_short s [] h = absurd (omega arith)
annotated_short s (n ∷ ns) h = refl
