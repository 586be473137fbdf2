use Rattle.std.proofs.Common.{sym, ◌∙◌, subst}
use Rattle.shape_rules.specs.Forms.{Form}
use Rattle.netlist_laws.specs.Ids.{value_id}
use Rattle.netlist_laws.specs.Latest.{places, given}
use Rattle.netlist_laws.specs.Module.{expr_value}
use Rattle.netlist.specs.Tables.{Shows}
use Rattle.netlist.proofs.sources.assign.Goals as goal

pub returns-clause-given : goal.returns-clause-given
returns-clause-given c = λ ids latest old.
    let d = c.args.design.now in
    let v = c.args.value.0 in
    let now = c.give.new.bits.items in
    let bs = places d.pool c.args.target.0 in
    subst (λ n. Shows ids n now (given (expr_value d v) bs 0 latest)) c.signals-count.ensures
    (subst (λ xs. Shows ids c.signals-count.result now (given (expr_value d v) xs 0 latest)) (c.as_slice.ensures.value ∙ c.in_ok-places.ensures)
    (subst (λ (f : Form). Shows ids c.signals-count.result now (given (record { id = value_id v; form = f }) c.as_slice.result.now 0 latest)) c.shape.ensures
    (c.give.ensures.given ids latest (subst (λ n. Shows ids n c.args.bits.now.items latest) (sym c.signals-count.ensures) old))))
