use Rattle.std.proofs.Common.{◌∙◌, sym, ap}
use Rattle.std.specs.Prelude.{option_map}
use Rattle.design_ir.specs.declared.event.Event.TheVariants.{Edge}
use Rattle.play_text.proofs.ScriptEdgeLaws.{edge_event-once}
use Rattle.play_text.proofs.script_edge.edge_event.Goals as goal

pub returns-in-Some : goal.returns-in-Some
returns-in-Some c =
    ap (λ o. option_map (λ ds. Edge ds) o) (sym c.in-Some.is ∙ c.in_ok-clocks.ensures)
    ∙ sym (edge_event-once c.args.board.now c.args.words.now (sym c.are_domains.ensures ∙ c.if-not-are_domains.false))

pub returns-in-None : goal.returns-in-None
returns-in-None c =
    ap (λ o. option_map (λ ds. Edge ds) o) (sym c.in-None.is ∙ c.in_ok-clocks.ensures)
    ∙ sym (edge_event-once c.args.board.now c.args.words.now (sym c.are_domains.ensures ∙ c.if-not-are_domains.false))
