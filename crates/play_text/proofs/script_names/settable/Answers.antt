use Rattle.std.proofs.Common.{◌≡◌, ◌∙◌, sym, ap, ℕ, List}
use Rattle.std.specs.Prelude.{Option, None, Some, position, option_and_then, slice_get}
use Rattle.play_text.specs.declared.board.Shown.{Shown}
use Rattle.play_text.specs.ScriptParts.{is_settable_as}
use Rattle.play_text.proofs.ScriptNameLaws.{find_position, got_is}
use Rattle.play_text.proofs.script_names.settable.Goals as goal

pub returns-in_err-number : goal.returns-in_err-number
returns-in_err-number c =
    let xs = c.args.board.now.columns in
    let none : position (is_settable_as c.args.name.now) xs ≡ None = sym (c.in_err-number.ensures.value ∙ c.requires c.args.name.now) in
    rw c.from_residual.ensures (sym (find_position (is_settable_as c.args.name.now) xs ∙ ap (λ (o : Option ℕ). option_and_then (slice_get xs) o) none))

pub returns : goal.returns
returns c =
    let xs = c.args.board.now.columns in
    let some : position (is_settable_as c.args.name.now) xs ≡ Some c.in_ok-number.field-0.now = sym (c.in_ok-number.ensures.value ∙ c.requires c.args.name.now) in
    got_is c.as_slice.result.now c.in_ok-number.field-0.now c.get-2.result c.get-2.ensures.lookup.0 c.get-2.ensures.lookup.1
    ∙ ap (λ (ys : List Shown). slice_get ys c.in_ok-number.field-0.now) c.as_slice.ensures
    ∙ sym (find_position (is_settable_as c.args.name.now) xs ∙ ap (λ (o : Option ℕ). option_and_then (slice_get xs) o) some)
