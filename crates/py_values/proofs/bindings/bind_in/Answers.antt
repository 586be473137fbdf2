use Rattle.py_values.proofs.BindingLaws.{bound_entries}
use Rattle.py_values.proofs.bindings.bind_in.Goals as goal
use Rattle.py_values.proofs.bindings.bind_in.Goals.{in-Ok-insert, in-Err}

pub returns-clause-ok : goal.returns-clause-ok
returns-clause-ok c =
    elim c.match-insert.branch [
      | in-Ok-insert w ↦ rw w.result-is (bound_entries c.in-Ok.name c.args.v c.args.more.now.entries c.insert.new.self.entries c.args.name.now w.in-Ok-insert.ensures.entries c.in-Ok.ensures.ok)
      | in-Err w ↦ rw w.result-is tt
    ]
