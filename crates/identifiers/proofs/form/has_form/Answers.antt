use Rattle.std.proofs.Common.{◌&&◌, sym, ap, ◌∙◌, chars}
use Rattle.std.specs.List.{list_all}
use Rattle.std.specs.Str.Iter.{chars_rest}
use Rattle.std.proofs.lemmas.Str.{chars_past_char}
use Rattle.unicode_ident.specs.Ident.{is_xid_continue}
use Rattle.identifiers.specs.Identifiers.{has_form}
use Rattle.identifiers.proofs.form.has_form.Goals as goal

pub returns-then-starts_identifier : goal.returns-then-starts_identifier
returns-then-starts_identifier c =
    let text = c.chars-rest.ensures.rest in
    let first = chars_past_char c.args.text.now _ c.in-Some.first c.utf8.text (sym text ∙ c.in-Some.ensures.steps.0) in
    c.continue_identifier.ensures ∙ ap (λ bs. list_all is_xid_continue (chars bs)) c.as_str.ensures ∙ ap (λ b. b && list_all is_xid_continue (chars (chars_rest c.next.new.self))) c.if-starts_identifier.ensures ∙ ap has_form (sym first)
