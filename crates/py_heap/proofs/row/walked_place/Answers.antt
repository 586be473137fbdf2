use Rattle.std.proofs.Common.{◌≡◌, ◌*◌, false, sym, ◌∙◌, arith}
use Rattle.py_heap.specs.Keys.{has_code}
use Rattle.py_heap.proofs.MemberLaws.{place_more, place_end}
use Rattle.py_heap.proofs.row.walked_place.Goals as goal

pub loop-i-preserved : goal.loop-i-preserved
loop-i-preserved c =
    let h : has_code c.args.code c.index-row-i.result ≡ false = cc in
    sym (place_more (has_code c.args.code) c.args.row.now c.loop-i.i c.index-row-i.result (omega arith) c.index-row-i.is h) ∙ c.loop-i.invariant

pub returns-clause-place : goal.returns-clause-place
returns-clause-place c =
    sym (sym c.loop-i.invariant ∙ place_end (has_code c.args.code) (2 * c.loop-i.i) c.args.row.now (2 * c.loop-i.i) (omega arith))
