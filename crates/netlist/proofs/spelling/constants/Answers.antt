use Rattle.std.proofs.Common.{map, ap, ◌∙◌}
use Rattle.std.proofs.lemmas.List.{take_all}
use Rattle.netlist.specs.Tables.{source_of, bit_of}
use Rattle.netlist.proofs.LowerRuns.{bits_more}
use Rattle.netlist.proofs.spelling.constants.Goals as goal

pub loop-x-preserved : goal.loop-x-preserved
loop-x-preserved c = λ ids. bits_more (source_of ids) c.args.run.now c.loop-x.x-index _ c.bit_of.result c.loop-x.bits c.push.new.self c.loop-x-test.true (c.loop-x.invariant ids) (c.bit_of.ensures ids) c.in_ok-push.ensures.ok

pub returns : goal.returns
returns c = λ ids. c.loop-x.invariant ids ∙ ap (λ xs. map bit_of (map (source_of ids) xs)) (take_all c.loop-x.x-index c.args.run.now c.loop-x-test.false)
