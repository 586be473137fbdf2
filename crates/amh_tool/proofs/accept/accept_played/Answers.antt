use Rattle.std.proofs.Common.{◌∙◌, ap, sym, subst, ℕ}
use Rattle.std.specs.Prelude.{None, Ok, Err, Result}
use Rattle.amh_tool.specs.declared.accept.Script.{Script}
use Rattle.amh_tool.specs.DesignGives.{given_seen}
use Rattle.amh_tool.specs.Outcome.{played, BadLine, Rejected}
use Rattle.amh_tool.specs.Verdicts.{IsScript}
use Rattle.amh_tool.proofs.AcceptLaws.{read_script_of}
use Rattle.amh_tool.proofs.ScriptLegal.{script_events-legal}
use Rattle.amh_tool.proofs.accept.accept_played.Goals as goal

pub with_script-requires-clause-legal : goal.with_script-requires-clause-legal
with_script-requires-clause-legal g c =
    let told = (g.H.Host.seen c.args.host.now).files in
    let d = c.args.ranked.design in
    let s = c.in-Ok-Ok.script in
    let h : IsScript told c.args.name.now d (Ok s) = subst (λ (x : Result Script ℕ). IsScript told c.args.name.now d x) c.in-Ok-Ok.field-0-is c.in-Ok-Ok.ensures.script in
    script_events-legal d h.1.0 s.events h.1.2

pub with_script-requires-clause-board : goal.with_script-requires-clause-board
with_script-requires-clause-board g c =
    let told = (g.H.Host.seen c.args.host.now).files in
    let d = c.args.ranked.design in
    let h : IsScript told c.args.name.now d (Ok c.in-Ok-Ok.script) = subst (λ (x : Result Script ℕ). IsScript told c.args.name.now d x) c.in-Ok-Ok.field-0-is c.in-Ok-Ok.ensures.script in
    h.0

pub returns-in-Ok-Ok-clause-found : goal.returns-in-Ok-Ok-clause-found
returns-in-Ok-Ok-clause-found g c =
    let told = (g.H.Host.seen c.args.host.now).files in
    let r = c.args.ranked in
    let d = r.design in
    let h : IsScript told c.args.name.now d (Ok c.in-Ok-Ok.script) = subst (λ (x : Result Script ℕ). IsScript told c.args.name.now d x) c.in-Ok-Ok.field-0-is c.in-Ok-Ok.ensures.script in (
      c.with_script.ensures.fitting,
      read_script_of c.args.name.now None told (given_seen r) h.1.0 _ h.1.1 (c.with_script.ensures.played ∙ sym (ap (played (given_seen r)) h.1.2)),
    )

pub returns-in-Ok-Err-clause-found : goal.returns-in-Ok-Err-clause-found
returns-in-Ok-Err-clause-found g c =
    let told = (g.H.Host.seen c.args.host.now).files in
    let r = c.args.ranked in
    let d = r.design in
    let line = c.in-Ok-Err.line in
    let h : IsScript told c.args.name.now d (Err line) = subst (λ (x : Result Script ℕ). IsScript told c.args.name.now d x) c.in-Ok-Err.field-0-is c.in-Ok-Err.ensures.script in
    read_script_of c.args.name.now None told (given_seen r) h.0 (Rejected (BadLine line)) h.1 (sym (ap (played (given_seen r)) h.2))
