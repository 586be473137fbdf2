use Rattle.std.proofs.Common.{sym, subst}
use Rattle.flat_design.specs.Adding.{IsAdded}
use Rattle.flat_design.proofs.Added.{is_added}
use Rattle.flat_design.proofs.adding.added.Goals as goal

pub returns-clause-added : goal.returns-clause-added
returns-clause-added c =
    subst (λ q. IsAdded q c.args.e c.in_ok-id.id) (sym c.in_ok-id.ensures.added.1)
    (is_added c.args.pool.now c.args.e c.in_ok-id.id c.known.ensures c.requires.askable.names c.requires.resolved c.in_ok-id.ensures.added.0)
