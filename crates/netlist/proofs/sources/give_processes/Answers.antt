use Rattle.std.proofs.Common.{length, take, sym, ◌∙◌, subst}
use Rattle.std.proofs.lemmas.List.{take_all}
use Rattle.netlist.specs.Tables.{Shows, latest_of_all}
use Rattle.netlist.proofs.LowerStarts.{all_turn}
use Rattle.netlist.proofs.sources.give_processes.Goals as goal

pub loop-p-preserved : goal.loop-p-preserved
loop-p-preserved c =
    let d = c.args.design.now in
    let ps = c.as_slice-p-items.result.now in
    let i = c.loop-p.p-index in
    record {
      long = c.in_ok-give_block.ensures.long ∙ c.loop-p.invariant.long;
      given = λ ids latest old.
          subst (Shows ids (length d.pool.signals) c.give_block.new.bits.items) (sym (all_turn d ps i c.p-item.result latest c.loop-p-test.true c.p-item.is))
          (c.in_ok-give_block.ensures.given ids (latest_of_all d (take i ps) latest) (c.loop-p.invariant.given ids latest old));
    }

pub returns : goal.returns
returns c = λ ids latest old.
    let d = c.args.design.now in
    subst (λ ps. Shows ids (length d.pool.signals) c.loop-p.bits.items (latest_of_all d ps latest)) (take_all c.loop-p.p-index c.as_slice-p-items.result.now c.loop-p-test.false ∙ c.as_slice-p-items.ensures ∙ c.processes.ensures.value) (c.loop-p.invariant.given ids latest old)
