use Rattle.std.proofs.Common.{◌≡◌, ◌∙◌, ◌+◌, ◌∷◌, [], List, length, take, Some, slice_get, refl, sym, ap, subst, append-nil}
use Rattle.std.proofs.lemmas.Option.{slice_get_read}
use Rattle.design_ir.specs.declared.process.Process.{Process}
use Rattle.design_ir.specs.Named.{AllBelow}
use Rattle.design_ir.specs.Guards.{block_exprs}
use Rattle.fragment_walks.specs.Marks.{marked}
use Rattle.fragment_walks.specs.Numbers.{bounded, lowered, process_targets}
use Rattle.fragment_walks.specs.Reads.{block_targets}
use Rattle.fragment_walks.proofs.Lists.{all_at, take_end}
use Rattle.fragment_walks.proofs.NumberLaws.{length_lowered}
use Rattle.clock_domains.specs.Resolvable.{IsSideOf}
use Rattle.clock_domains.proofs.DriverLaws.{plain_below}
use Rattle.clock_domains.proofs.ProcessNumbers.{next_order, numbered_turn}
use Rattle.clock_domains.proofs.firsts.number_targets.Goals as goal

pub lower_block-requires : goal.lower_block-requires
lower_block-requires c =
    let ps = c.args.processes.now in
    let i = c.loop-number.number in
    let p = c.index-processes-number.result in
    let at : slice_get ps i ≡ Some p = slice_get_read ps (length ps) i p refl c.loop-number-test.true c.index-processes-number.is in
    subst (λ n. AllBelow n (block_exprs p.body)) (sym c.loop-number.invariant.size) (plain_below c.args.pool.now (block_exprs p.body) (all_at (IsSideOf c.args.pool.now) ps i p c.requires.sides at).expressions)

pub loop-number-preserved : goal.loop-number-preserved
loop-number-preserved c =
    let ps = c.args.processes.now in
    let i = c.loop-number.number in
    let p = c.index-processes-number.result in
    let at : slice_get ps i ≡ Some p = slice_get_read ps (length ps) i p refl c.loop-number-test.true c.index-processes-number.is in
    let cur = c.loop-number.targets.items in
    record {
      size = ap length c.lower_block.ensures ∙ length_lowered (block_targets p.body) (i + 1) cur ∙ c.loop-number.invariant.size;
      each =
          numbered_turn (λ k. k + 1) next_order (λ qs. qs) ps i p (p ∷ []) c.args.targets.now.items cur c.lower_block.new.targets.items at refl c.loop-number.invariant.each (c.lower_block.ensures ∙ ap (λ ts. lowered ts (i + 1) cur) (sym (append-nil (block_targets p.body))));
    }

pub returns-clause-each : goal.returns-clause-each
returns-clause-each c i =
    c.loop-number.invariant.each i
    ∙ ap (λ (qs : List Process). marked (process_targets (take i qs)) (bounded (i + 1) c.args.targets.now.items)) (take_end c.args.processes.now c.loop-number.number c.loop-number-test.false)

pub returns-clause-size : goal.returns-clause-size
returns-clause-size c = c.loop-number.invariant.size ∙ sym c.requires.size
