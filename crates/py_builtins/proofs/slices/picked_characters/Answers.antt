use Rattle.std.proofs.Common.{◌≡◌, ◌++◌, Ok, ap, sym, ◌∙◌}
use Rattle.std.specs.String.{string_bytes}
use Rattle.py_builtins.proofs.SliceLaws.{spelled_start, spelled_turn, spelled_end}
use Rattle.py_builtins.proofs.slices.picked_characters.Goals as goal

pub loop-i-init : goal.loop-i-init
loop-i-init c = spelled_start (string_bytes c.new-all.result) c.args.cs.now c.args.count c.args.r.now c.new-all.ensures.bytes

pub loop-i-preserved : goal.loop-i-preserved
loop-i-preserved c =
    spelled_turn (string_bytes c.loop-i.all) (string_bytes c.push_character.new.all) _ c.args.cs.now c.args.count c.loop-i.i c.args.r.now c.span_number.result c.character_at.result c.loop-i-test.true c.span_number.ensures c.character_at.ensures c.in-Ok.ensures c.loop-i.invariant

pub returns-in-Ok-push : goal.returns-in-Ok-push
returns-in-Ok-push c =
    let t : c.push.new.self ≡ string_bytes c.loop-i.all = c.in-Ok-push.ensures.ok ∙ ap (λ xs. xs ++ c.as_str.result.now) c.new-text.ensures ∙ c.as_str.ensures.value in
    ap Ok (spelled_end (string_bytes c.loop-i.all) _ c.args.cs.now c.args.count c.loop-i.i c.args.r.now c.loop-i-test.false c.loop-i.invariant ∙ sym t)
