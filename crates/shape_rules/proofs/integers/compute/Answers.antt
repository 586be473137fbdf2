use Rattle.std.proofs.Common.{subst}
use Rattle.shape_rules.specs.Forms.{Form, IsForm}
use Rattle.shape_rules.proofs.Laws.{fits, kept}
use Rattle.shape_rules.proofs.integers.compute.Goals as goal

pub integer-requires : goal.integer-requires
integer-requires c =
    let form = subst (λ (f : Form). IsForm f.width f.signed) c.a.view_is c.a.invariant in
    let form' = subst (λ (f : Form). IsForm f.width f.signed) c.b.view_is c.b.invariant in
    kept c.args.op c.args.a c.args.b c.args.x c.args.y form form' c.requires.taken c.requires.left c.requires.right

pub returns-clause-fits : goal.returns-clause-fits
returns-clause-fits c =
    let form = subst (λ (f : Form). IsForm f.width f.signed) c.a.view_is c.a.invariant in
    let form' = subst (λ (f : Form). IsForm f.width f.signed) c.b.view_is c.b.invariant in
    rw c.integer.ensures (fits c.args.op c.args.a c.args.b c.args.x c.args.y form form' c.requires.taken c.requires.left c.requires.right)
