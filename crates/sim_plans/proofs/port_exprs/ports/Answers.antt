use Rattle.std.proofs.Common.{◌≡◌, ◌∙◌, sym, ap, subst, Some, false, length, slice_get}
use Rattle.design_ir.specs.Designs.{IsMemory}
use Rattle.sim_plans.specs.Given.{marked}
use Rattle.sim_plans.specs.Ports.{port_exprs}
use Rattle.sim_plans.specs.Reading.{AreBelow}
use Rattle.sim_plans.specs.Tasks.{AreAmong, places_of}
use Rattle.sim_plans.specs.Waiting.{Waiting}
use Rattle.sim_plans.proofs.EdgesFit.{all_get}
use Rattle.sim_plans.proofs.Listing.{listed_program}
use Rattle.sim_plans.proofs.Marks.{marked_length}
use Rattle.sim_plans.proofs.PortPrograms.{ports_there, ports_among}
use Rattle.sim_plans.proofs.Waits.{replicate_length}
use Rattle.sim_plans.proofs.port_exprs.ports.Goals as goal

pub mark_all-requires : goal.mark_all-requires
mark_all-requires c =
    let d = c.args.design.now in
    let m = c.get.result.now in
    let p = subst (λ xs. slice_get xs c.args.k ≡ Some m) c.memories.ensures c.get.ensures.lookup in
    let is = all_get (IsMemory d) d.memories c.args.k m c.processes.ensures.rules.memories p in
    let es : c.as_slice.result.now ≡ port_exprs m = let a = c.as_slice.ensures in let b = c.exprs.view_is in let e = c.in_ok-exprs.ensures in cc in
    let long = ap (λ (w : Waiting). length w.marks) c.requires.marks.values ∙ replicate_length false (length d.pool.exprs) in
    subst (λ xs. AreBelow (length c.args.marks.now.values.marks) xs) (sym es) (subst (λ n. AreBelow n (port_exprs m)) (sym long) (ports_there d m is))

pub spread-requires-clause-values : goal.spread-requires-clause-values
spread-requires-clause-values c =
    let d = c.args.design.now in
    let long = ap (λ (w : Waiting). length w.marks) c.requires.marks.values ∙ replicate_length false (length d.pool.exprs) in
    ap length c.mark_all.ensures.marks ∙ marked_length (places_of c.as_slice.result.now) c.args.marks.now.values.marks ∙ long

pub returns-clause-program : goal.returns-clause-program
returns-clause-program c =
    let s = c.spread.ensures in
    listed_program c.args.design.now.pool c.count.ensures.rules c.spread.new.aims.marks c.spread.new.values.marks s.aims s.values s.spread s.targets c.in_ok-list.list c.in_ok-list.ensures.order c.in_ok-list.ensures.all

pub returns-clause-computed : goal.returns-clause-computed
returns-clause-computed c = λ q at.
    let d = c.args.design.now in
    let m = c.get.result.now in
    let p = subst (λ xs. slice_get xs c.args.k ≡ Some m) c.memories.ensures c.get.ensures.lookup in
    let is = all_get (IsMemory d) d.memories c.args.k m c.processes.ensures.rules.memories p in
    let same : m ≡ q = let f : Some m ≡ Some q = sym p ∙ at in cc in
    let es : c.as_slice.result.now ≡ port_exprs m = let a = c.as_slice.ensures in let b = c.exprs.view_is in let e = c.in_ok-exprs.ensures in cc in
    let long = ap (λ (w : Waiting). length w.marks) c.requires.marks.values ∙ replicate_length false (length d.pool.exprs) in
    let below = subst (λ n. AreBelow n (port_exprs m)) (sym long) (ports_there d m is) in
    let first = c.mark_all.ensures.marks ∙ ap (λ xs. marked (places_of xs) c.args.marks.now.values.marks) es in
    let s = c.spread.ensures in
    subst (λ x. AreAmong c.in_ok-list.list (port_exprs x)) same
    (ports_among d c.count.ensures.rules (port_exprs m) c.args.marks.now.values.marks c.mark_all.new.marks.marks c.spread.new.aims.marks c.spread.new.values.marks first below s.values_stay s.aims s.values s.spread s.targets c.in_ok-list.list c.in_ok-list.ensures.order c.in_ok-list.ensures.all)
