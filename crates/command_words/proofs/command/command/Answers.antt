use Rattle.std.proofs.Common.{◌≡◌, ◌∙◌, ap, ap₂, true, false, codes}
use Rattle.clap.specs.Words.{AddsArg, App, Rule, app_of, new_app, rule_of, with_rule}
use Rattle.clap.specs.declared.builder.command.Command.TheViews.{out-Command as fields_of}
use Rattle.clap.specs.Simple.{app_of_fields, on_top}
use Rattle.clap.specs.declared.builder.arg.Arg.{Arg}
use Rattle.clap.specs.declared.builder.command.Command.{Command}
use Rattle.command_words.specs.Command.{command}
use Rattle.command_words.proofs.command.command.Goals as goal

no_program : (old new : Command) → fields_of new ≡ record (fields_of old) { no_binary_name = true } → app_of new ≡ on_top (λ s. record s { no_binary_name = true }) (app_of old)
no_program old new e = ap app_of_fields e

no_help : (old new : Command) → fields_of new ≡ record (fields_of old) { disable_help_flag = true } → app_of new ≡ on_top (λ s. record s { disable_help_flag = true }) (app_of old)
no_help old new e = ap app_of_fields e

-- one more argument
more : (old : Command) (a : Arg) (new : Command) (x : App) (r : Rule) → AddsArg old a new → a.global ≡ false → app_of old ≡ x → rule_of a ≡ r → app_of new ≡ with_rule x r
more old a new x r added local is rule = added.shape local ∙ ap₂ with_rule is rule

pub returns : goal.returns
unfolding command
returns c =
    let bare : app_of c.disable_help_flag-bare.result ≡ on_top (λ s. record s { disable_help_flag = true }) (on_top (λ s. record s { no_binary_name = true }) (new_app (codes "amh_tool"))) =
    no_help _ _ c.disable_help_flag-bare.ensures ∙ ap (on_top (λ s. record s { disable_help_flag = true })) (no_program _ _ c.no_binary_name.ensures ∙ ap (on_top (λ s. record s { no_binary_name = true })) c.new.ensures.app) in
    let first = more _ _ _ _ _ c.in_ok-arg.ensures c.place.ensures.local bare c.place.ensures.rule in
    let second = more _ _ _ _ _ c.in_ok-arg-2.ensures c.place-2.ensures.local first c.place-2.ensures.rule in
    let third = more _ _ _ _ _ c.in_ok-places.ensures c.place-3.ensures.local second c.place-3.ensures.rule in
    let fourth = more _ _ _ _ _ c.in_ok-arg-3.ensures c.named.ensures.local third c.named.ensures.rule in
    let fifth = more _ _ _ _ _ c.in_ok-texts.ensures c.named-2.ensures.local fourth c.named-2.ensures.rule in
    let sixth = more _ _ _ _ _ c.in_ok-arg-4.ensures c.numbered.ensures.local fifth c.numbered.ensures.rule in
    more _ _ _ _ _ c.in_ok-numbers.ensures c.numbered-2.ensures.local sixth c.numbered-2.ensures.rule
