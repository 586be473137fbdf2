-- Identifiers. Keywords have the form too.
-- Source: Python reference 2.3, Identifiers and keywords; Unicode UAX #31 (the classes of characters), #15 (NFKC). That a text which is not in NFKC
-- is none: own rule (docs/RULES.md).
use Rattle.std.specs.Prelude.{ℕ, ◌==◌, ◌&&◌, ◌||◌, Bool, false, List, [], ◌∷◌, chars}
use Rattle.std.specs.List.{list_all}
use Rattle.std.specs.Str.{is_utf8}
use Rattle.unicode_ident.specs.Ident.{is_xid_start, is_xid_continue}
use Rattle.unicode_normalization.specs.Forms.{is_in_form, Nfkc}

-- a character of the class XID_Start, or `_`
abbrev pub starts_identifier : ℕ → Bool
starts_identifier c = is_xid_start c || (c == 95)

-- such a character, and behind it characters of the class XID_Continue
abbrev pub has_form : List ℕ → Bool
has_form [] = false
has_form (c ∷ cs) = starts_identifier c && list_all is_xid_continue cs

-- the text, in UTF-8, has the form and is in NFKC
unfoldable pub is_identifier : List ℕ → Bool
is_identifier text = is_utf8 text && (has_form (chars text) && is_in_form Nfkc (chars text))
