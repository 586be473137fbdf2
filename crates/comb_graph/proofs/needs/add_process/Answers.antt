use Rattle.std.proofs.Common.{Option, is_none, if◌then◌else◌, sym, subst, []}
use Rattle.design_ir.specs.declared.ids.DomainId.{DomainId}
use Rattle.design_ir.specs.Guards.{guarded}
use Rattle.comb_graph.specs.Rules.{Adds, all_rules}
use Rattle.comb_graph.proofs.needs.add_process.Goals as goal

pub returns-in_ok-add_block-in-None : goal.returns-in_ok-add_block-in-None
returns-in_ok-add_block-in-None c =
    let pool = c.args.design.now.pool in
    let P : Option DomainId → Type 0 = λ d. Adds c.args.graph.now c.add_block.new.graph pool (all_rules pool (if is_none d then guarded [] c.args.process.now.body else [])) in
    subst P (sym c.in-None.is) (c.in_ok-add_block-in-None.ensures.rules [] c.requires.guard)
