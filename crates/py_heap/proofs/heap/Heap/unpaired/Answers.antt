use Rattle.std.proofs.Common.{◌≡◌, ◌+◌, ◌++◌, [], drop, Option, Some, None, Ok, ap, sym, ◌∙◌, arith}
use Rattle.std.proofs.lemmas.List.{append-nil}
use Rattle.py_heap.specs.Heaps.{seen}
use Rattle.py_values.specs.Runs.{given}
use Rattle.py_heap.specs.Dicts.{two_of, unpaired}
use Rattle.py_heap.proofs.DictLaws.{behind, behind_turn, behind_stop, drop_item, drop_all}
use Rattle.py_heap.proofs.heap.Heap.unpaired.Goals as goal

pub returns-in_default : goal.returns-in_default
returns-in_default c =
    let here = drop_item c.args.pairs.now c.loop-p.p-index c.p-item.result c.loop-p-test.true c.p-item.is in
    let none : unpaired (seen c.args.frozen.now c.args.self.now) c.args.pairs.now ≡ None =
    sym c.loop-p.invariant ∙ ap (λ r. behind c.loop-p.all (unpaired (seen c.args.frozen.now c.args.self.now) r)) here ∙ behind_stop (seen c.args.frozen.now c.args.self.now) c.loop-p.all c.p-item.result (drop (c.loop-p.p-index + 1) c.args.pairs.now) (c.in_default.ensures ∙ ap two_of c.pair_row.ensures) in
    ap given none

pub loop-p-preserved : goal.loop-p-preserved
loop-p-preserved c =
    let here = drop_item c.args.pairs.now c.loop-p.p-index c.p-item.result c.loop-p-test.true c.p-item.is in
    let rest = unpaired (seen c.args.frozen.now c.args.self.now) (drop (c.loop-p.p-index + 1) c.args.pairs.now) in
    ap (λ all. behind all rest) c.in-Ok.ensures.ok ∙ sym (ap (λ r. behind c.loop-p.all (unpaired (seen c.args.frozen.now c.args.self.now) r)) here ∙ behind_turn (seen c.args.frozen.now c.args.self.now) c.loop-p.all c.p-item.result c.in-Some.k c.in-Some.v (drop (c.loop-p.p-index + 1) c.args.pairs.now) (c.in-Some.ensures ∙ ap two_of c.pair_row.ensures)) ∙ c.loop-p.invariant

pub returns : goal.returns
returns c =
    let some : unpaired (seen c.args.frozen.now c.args.self.now) c.args.pairs.now ≡ Some c.loop-p.all =
    sym c.loop-p.invariant ∙ ap (λ r. behind c.loop-p.all (unpaired (seen c.args.frozen.now c.args.self.now) r)) (drop_all c.args.pairs.now c.loop-p.p-index c.loop-p-test.false) ∙ ap Some (append-nil c.loop-p.all) in
    ap given some
