use Rattle.std.proofs.Common.{sym, ◌∙◌, ap, map, drop, string_bytes, arith, length-drop}
use Rattle.std.proofs.lemmas.List.{length-map}
use Rattle.lists.specs.Texts.{text_eq}
use Rattle.elab_acts.proofs.GlobalLaws.{global_next, global_end}
use Rattle.elab_acts.proofs.tops.global.Goals as goal

pub loop-i-preserved : goal.loop-i-preserved
loop-i-preserved c =
    global_next string_bytes c.args.name.now c.args.vals.now c.args.names.now c.loop-i.i c.index-names-i.result c.is_text.result _ (omega arith) (omega arith)
    c.index-names-i.is (c.is_text.ensures ∙ ap (λ t. text_eq t c.args.name.now) c.as_str.ensures.value) c.if-is_text.false c.loop-i.invariant

pub returns : goal.returns
returns c = sym (global_end c.args.name.now (drop c.loop-i.i c.args.vals.now) (map string_bytes (drop c.loop-i.i c.args.names.now)) (simp (length-map, length-drop) (omega arith))) ∙ c.loop-i.invariant
