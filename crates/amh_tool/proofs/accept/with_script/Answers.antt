use Rattle.std.proofs.Common.{◌≡◌, ◌-◌, ◌∙◌, min, ap, length, arith}
use Rattle.amh_tool.specs.DesignGives.{given_seen}
use Rattle.amh_tool.proofs.AcceptLaws.{played_within, legal-take}
use Rattle.amh_tool.proofs.accept.with_script.Goals as goal

pub returns-clause-fitting : goal.returns-clause-fitting
returns-clause-fitting c =
    let r = c.args.ranked in
    let events = c.args.script.events in
    let is : c.enough_for-within.result ≡ min (r.rest.left.left - 1) (length events) = c.enough_for-within.ensures ∙ ap (λ n. min (r.rest.left.left - 1) n) c.len.ensures in
    record {
      ready = c.requires.ready;
      board = c.requires.board;
      within = omega (arith, is);
      legal = legal-take r.design c.enough_for-within.result events c.requires.legal;
    }

pub returns-clause-played : goal.returns-clause-played
returns-clause-played c =
    let r = c.args.ranked in
    let events = c.args.script.events in
    let is : c.enough_for-within.result ≡ min (r.rest.left.left - 1) (length events) = c.enough_for-within.ensures ∙ ap (λ n. min (r.rest.left.left - 1) n) c.len.ensures in
    played_within (given_seen r) events c.enough_for-within.result c.requires.ready.units is
