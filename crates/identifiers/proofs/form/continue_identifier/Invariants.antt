use Rattle.std.proofs.Common.{◌≡◌, chars}
use Rattle.std.specs.List.{list_all}
use Rattle.std.specs.Str.{IsUtf8}
use Rattle.std.specs.Str.Iter.{chars_rest}
use Rattle.unicode_ident.specs.Ident.{is_xid_continue}
use Rattle.identifiers.proofs.form.continue_identifier.Given as goal

-- what is left is a text, and the answer depends on it alone
abbrev pub invariant-loop-c : goal.invariant-loop-c
invariant-loop-c l =
    (goal.iterator-loop-c).can_next l.c-iterator × (goal.iterator-loop-c).is_finite l.c-iterator
    × IsUtf8 (chars_rest l.c-iterator)
    × (list_all is_xid_continue (chars (chars_rest l.c-iterator)) ≡ list_all is_xid_continue (chars l.rest))
