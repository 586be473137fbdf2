use Rattle.std.proofs.Common.{◌≡◌, ◌∙◌, length, take, Some, slice_get, refl, sym, ap, subst}
use Rattle.std.specs.List.{flat_map}
use Rattle.std.proofs.lemmas.Option.{slice_get_read}
use Rattle.design_ir.specs.declared.process.Process.{Process}
use Rattle.design_ir.specs.Named.{AllBelow}
use Rattle.design_ir.specs.Guards.{block_exprs}
use Rattle.fragment_walks.specs.Reads.{block_targets, block_values}
use Rattle.fragment_walks.proofs.Lists.{all_at}
use Rattle.fragment_walks.proofs.Markings.{length_marked}
use Rattle.clock_domains.specs.Resolvable.{IsSideOf}
use Rattle.clock_domains.proofs.DriverLaws.{plain_below}
use Rattle.clock_domains.proofs.ReadLaws.{processes_turn}
use Rattle.clock_domains.proofs.reads.mark_processes.Goals as goal

pub mark_block-requires-clause-targets : goal.mark_block-requires-clause-targets
mark_block-requires-clause-targets c =
    let ps = c.args.processes.now in
    let i = c.loop-process.process-index in
    let p = c.process-item.result in
    let at : slice_get ps i ≡ Some p = slice_get_read ps (length ps) i p refl c.loop-process-test.true c.process-item.is in
    let names = plain_below c.args.pool.now (block_exprs p.body) (all_at (IsSideOf c.args.pool.now) ps i p c.requires.sides at).expressions in
    let size = ap length c.loop-process.invariant.targets ∙ length_marked (flat_map (λ (p : Process). block_targets p.body) (take i ps)) c.args.roots.now.targets.items ∙ c.requires.targets in
    subst (λ n. AllBelow n (block_exprs p.body)) (sym size) names

pub mark_block-requires-clause-values : goal.mark_block-requires-clause-values
mark_block-requires-clause-values c =
    let ps = c.args.processes.now in
    let i = c.loop-process.process-index in
    let p = c.process-item.result in
    let at : slice_get ps i ≡ Some p = slice_get_read ps (length ps) i p refl c.loop-process-test.true c.process-item.is in
    let names = plain_below c.args.pool.now (block_exprs p.body) (all_at (IsSideOf c.args.pool.now) ps i p c.requires.sides at).expressions in
    let size = ap length c.loop-process.invariant.values ∙ length_marked (flat_map (λ (p : Process). block_values p.body) (take i ps)) c.args.roots.now.values.items ∙ c.requires.values in
    subst (λ n. AllBelow n (block_exprs p.body)) (sym size) names

pub loop-process-preserved : goal.loop-process-preserved
loop-process-preserved c =
    let ps = c.args.processes.now in
    let i = c.loop-process.process-index in
    let p = c.process-item.result in
    let at : slice_get ps i ≡ Some p = slice_get_read ps (length ps) i p refl c.loop-process-test.true c.process-item.is in
    let old = c.args.roots.now in
    let cur = c.loop-process.roots in
    let new = c.mark_block.new.roots in
    record {
      targets = processes_turn block_targets ps i p old.targets.items cur.targets.items new.targets.items at c.loop-process.invariant.targets c.mark_block.ensures.targets;
      values = processes_turn block_values ps i p old.values.items cur.values.items new.values.items at c.loop-process.invariant.values c.mark_block.ensures.values;
    }
