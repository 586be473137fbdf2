use Rattle.std.proofs.Common.{◌∙◌, ◌∷◌, [], ap}
use Rattle.sim_plans.specs.Given.{marked}
use Rattle.sim_plans.specs.Waiting.{Waiting}
use Rattle.sim_plans.proofs.Listing.{listed_program}
use Rattle.sim_plans.proofs.PortPrograms.{address_reads, address_below}
use Rattle.sim_plans.proofs.port_tasks.read_address.Goals as goal

pub returns-clause-program : goal.returns-clause-program
returns-clause-program c =
    let s = c.spread.ensures in
    listed_program c.args.design.now.pool c.count.ensures.rules c.spread.new.aims.marks c.spread.new.values.marks s.aims s.values s.spread s.targets c.in_ok-exprs.exprs c.in_ok-exprs.ensures.order c.in_ok-exprs.ensures.all

pub returns-clause-reads : goal.returns-clause-reads
returns-clause-reads c =
    let d = c.args.design.now in
    let s = c.spread.ensures in
    let aims = ap (λ (w : Waiting). w.marks) c.requires.marks.aims in
    let values = c.mark_all.ensures.marks ∙ ap (λ (w : Waiting). marked (c.args.e.0 ∷ []) w.marks) c.requires.marks.values in
    address_reads d.pool c.count.ensures.rules c.args.e c.requires.there c.args.marks.now.aims.marks c.mark_all.new.marks.marks c.spread.new.aims.marks c.spread.new.values.marks aims values s.aims s.values s.values_stay s.spread s.only c.in_ok-reads.reads c.in_ok-reads.ensures.all c.in_ok-reads.ensures.only

pub returns-clause-below : goal.returns-clause-below
returns-clause-below c = address_below c.args.design.now.pool c.count.ensures.rules c.spread.new.values.marks c.in_ok-reads.reads c.in_ok-reads.ensures.only
