use Rattle.std.proofs.Common.{ap, ◌∙◌}
use Rattle.std.specs.Prelude.{not}
use Rattle.data_layouts.proofs.TwinLaws.{is_seen}
use Rattle.data_layouts.proofs.twins.Seen.add.Goals as goal
use Rattle.data_layouts.proofs.twins.Seen.add.Goals.{in-Ok-insert, in-Err}

pub returns-clause-told : goal.returns-clause-told
returns-clause-told c =
    elim c.match-insert.branch [
      | in-Ok-insert w ↦ rw w.result-is (w.in-Ok-insert.ensures.added ∙ ap not (is_seen c.in-Ok.copy c.self.inside.names.keys c.args.name.now c.args.self.now c.in-Ok.ensures.ok c.self.view_is))
      | in-Err w ↦ rw w.result-is tt
    ]
