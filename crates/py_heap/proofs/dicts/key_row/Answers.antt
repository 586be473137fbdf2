use Rattle.std.proofs.Common.{◌≡◌, ◌+◌, ◌*◌, ◌++◌, [], drop, Ok, ap, sym, ◌∙◌, arith, refl}
use Rattle.py_heap.specs.Dicts.{key_row}
use Rattle.py_heap.proofs.DictLaws.{drop_key, at_end, one_more, no_more}
use Rattle.py_heap.proofs.dicts.key_row.Goals as goal

pub loop-i-preserved : goal.loop-i-preserved
loop-i-preserved c =
    let here = drop_key c.args.row.now c.loop-i.i c.index-row-i.result (omega arith) c.index-row-i.is in
    one_more c.loop-i.keys c.push.new.self c.index-row-i.result (key_row (drop (2 * (c.loop-i.i + 1)) c.args.row.now)) (key_row c.args.row.now) c.in-Ok.ensures.ok (ap (λ r. c.loop-i.keys ++ key_row r) (sym here.1) ∙ c.loop-i.invariant)

pub returns : goal.returns
returns c =
    ap Ok (no_more c.loop-i.keys (key_row (drop (2 * c.loop-i.i) c.args.row.now)) (key_row c.args.row.now) (at_end key_row [] refl (λ x. refl) c.args.row.now (2 * c.loop-i.i) (omega arith)) c.loop-i.invariant)
