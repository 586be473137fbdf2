use Rattle.std.proofs.Common.{◌&&◌, sym, ap, ◌∙◌, chars}
use Rattle.std.specs.List.{list_all}
use Rattle.std.specs.Str.Iter.{chars_rest}
use Rattle.std.proofs.lemmas.Str.{IsUtf8-past_char}
use Rattle.unicode_ident.specs.Ident.{is_xid_continue}
use Rattle.identifiers.proofs.FormLaws.{all_past_char, all_none}
use Rattle.identifiers.proofs.form.continue_identifier.Goals as goal

pub returns-then-not-is_xid_continue : goal.returns-then-not-is_xid_continue
returns-then-not-is_xid_continue c =
    let step = all_past_char is_xid_continue _ _ c.in-Some.c c.loop-c.invariant.2 c.in-Some.ensures.steps.0 in
    ap (λ b. b && list_all is_xid_continue (chars (chars_rest c.next.new.self))) c.if-not-is_xid_continue.ensures.value ∙ sym step ∙ c.loop-c.invariant.3

pub loop-c-preserved : goal.loop-c-preserved
loop-c-preserved c =
    let step = all_past_char is_xid_continue _ _ c.in-Some.c c.loop-c.invariant.2 c.in-Some.ensures.steps.0 in (
      tt,
      tt,
      IsUtf8-past_char _ _ c.in-Some.c c.loop-c.invariant.2 c.in-Some.ensures.steps.0,
      ap (λ b. b && list_all is_xid_continue (chars (chars_rest c.next.new.self))) c.if-not-is_xid_continue.ensures.value ∙ sym step ∙ c.loop-c.invariant.3,
    )

pub returns : goal.returns
returns c = sym (all_none is_xid_continue _ c.in-None.ensures.steps.0.0) ∙ c.loop-c.invariant.3
