use Rattle.std.proofs.Common.{◌∙◌, sym, ap, subst, refl, false, length}
use Rattle.design_ir.specs.Guards.{block_exprs}
use Rattle.sim_plans.specs.Given.{marked}
use Rattle.sim_plans.specs.Reading.{AreBelow}
use Rattle.sim_plans.specs.Settling.{nobody}
use Rattle.sim_plans.specs.Tasks.{picked, places_of, block_targets, block_values}
use Rattle.sim_plans.specs.Waiting.{Waiting}
use Rattle.sim_plans.proofs.CompiledTasks.{there, first_aims, first_length, compiled}
use Rattle.sim_plans.proofs.Waits.{replicate_length}
use Rattle.sim_plans.proofs.compile.compile.Goals as goal

pub mark_picked-requires-clause-aims : goal.mark_picked-requires-clause-aims
mark_picked-requires-clause-aims c =
    let d = c.args.design.now in
    let p = c.args.p.now in
    let is = c.args.places.now in
    subst (λ n. AreBelow n (block_exprs (picked p.body is))) (sym (ap (λ (w : Waiting). length w.marks) c.requires.aims ∙ replicate_length false (length d.pool.exprs)))
    (there d c.count.ensures.rules c.processes.ensures.rules c.args.k p c.requires.there is)

pub mark_picked-requires-clause-values : goal.mark_picked-requires-clause-values
mark_picked-requires-clause-values c =
    let d = c.args.design.now in
    let p = c.args.p.now in
    let is = c.args.places.now in
    subst (λ n. AreBelow n (block_exprs (picked p.body is))) (sym (ap (λ (w : Waiting). length w.marks) c.requires.values ∙ replicate_length false (length d.pool.exprs)))
    (there d c.count.ensures.rules c.processes.ensures.rules c.args.k p c.requires.there is)

pub spread-requires-clause-aims : goal.spread-requires-clause-aims
spread-requires-clause-aims c =
    let d = c.args.design.now in
    let p = c.args.p.now in
    let is = c.args.places.now in
    let ss = places_of (block_targets (picked p.body is)) in
    first_length d c.count.ensures.rules c.processes.ensures.rules c.args.k p c.requires.there is ss c.mark_picked.new.aims.marks (c.mark_picked.ensures.aims ∙ ap (λ (w : Waiting). marked ss w.marks) c.requires.aims)

pub spread-requires-clause-values : goal.spread-requires-clause-values
spread-requires-clause-values c =
    let d = c.args.design.now in
    let p = c.args.p.now in
    let is = c.args.places.now in
    let ss = places_of (block_values (picked p.body is)) in
    first_length d c.count.ensures.rules c.processes.ensures.rules c.args.k p c.requires.there is ss c.mark_picked.new.values.marks (c.mark_picked.ensures.values ∙ ap (λ (w : Waiting). marked ss w.marks) c.requires.values)

pub spread-requires-clause-targets : goal.spread-requires-clause-targets
spread-requires-clause-targets c =
    let d = c.args.design.now in
    let p = c.args.p.now in
    let is = c.args.places.now in
    let ss = places_of (block_targets (picked p.body is)) in
    first_aims d c.count.ensures.rules c.processes.ensures.rules c.args.k p c.requires.there is (length d.pool.exprs) c.mark_picked.new.aims.marks (c.mark_picked.ensures.aims ∙ ap (λ (w : Waiting). marked ss w.marks) c.requires.aims)

pub driven_picked-requires-clause-there : goal.driven_picked-requires-clause-there
driven_picked-requires-clause-there c =
    let d = c.args.design.now in
    let p = c.args.p.now in
    let is = c.args.places.now in
    subst (λ n. AreBelow n (block_exprs (picked p.body is))) (sym c.requires.targets.count) (there d c.count.ensures.rules c.processes.ensures.rules c.args.k p c.requires.there is)

pub returns-clause-compiled : goal.returns-clause-compiled
returns-clause-compiled c =
    let d = c.args.design.now in
    let p = c.args.p.now in
    let is = c.args.places.now in
    let ts = places_of (block_targets (picked p.body is)) in
    let vs = places_of (block_values (picked p.body is)) in
    let ea = c.mark_picked.ensures.aims ∙ ap (λ (w : Waiting). marked ts w.marks) c.requires.aims in
    let ev = c.mark_picked.ensures.values ∙ ap (λ (w : Waiting). marked vs w.marks) c.requires.values in
    compiled d c.count.ensures.rules c.processes.ensures.rules c.args.k p c.requires.there is c.mark_picked.new.aims.marks c.mark_picked.new.values.marks c.spread.new.aims.marks c.spread.new.values.marks ea ev
    c.spread.ensures.aims c.spread.ensures.values c.spread.ensures.aims_stay c.spread.ensures.values_stay c.spread.ensures.spread c.spread.ensures.targets c.spread.ensures.only
    (record { task = record { process = c.args.k; statements = c.in_ok-statements.statements; outs = c.in_ok-outs.outs; exprs = c.in_ok-exprs.exprs }; reads = c.in_ok-reads.reads })
    c.args.targets.now c.requires.targets refl c.in_ok-statements.ensures c.in_ok-outs.ensures c.in_ok-exprs.ensures.order c.in_ok-exprs.ensures.all c.in_ok-reads.ensures.all c.in_ok-reads.ensures.only

pub returns-clause-aims : goal.returns-clause-aims
returns-clause-aims c = c.clear.ensures ∙ ap nobody c.spread.ensures.aims

pub returns-clause-values : goal.returns-clause-values
returns-clause-values c = c.clear-2.ensures ∙ ap nobody c.spread.ensures.values
