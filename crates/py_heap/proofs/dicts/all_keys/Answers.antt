use Rattle.std.proofs.Common.{◌≡◌, ◌*◌, false, true, ap, sym, ◌∙◌, arith, refl}
use Rattle.py_heap.specs.Members.{is_key}
use Rattle.py_heap.specs.Dicts.{all_keys}
use Rattle.py_heap.proofs.DictLaws.{drop_key, at_end}
use Rattle.py_heap.proofs.dicts.all_keys.Goals as goal

pub returns-then-not-is_key : goal.returns-then-not-is_key
returns-then-not-is_key c =
    let here = drop_key c.args.pairs.now c.loop-i.i c.index-pairs-i.result (omega arith) c.index-pairs-i.is in
    let no : is_key c.index-pairs-i.result ≡ false = cc in
    sym (ap all_keys here.1 ∙ rw no refl) ∙ c.loop-i.invariant

pub loop-i-preserved : goal.loop-i-preserved
loop-i-preserved c =
    let here = drop_key c.args.pairs.now c.loop-i.i c.index-pairs-i.result (omega arith) c.index-pairs-i.is in
    let yes : is_key c.index-pairs-i.result ≡ true = cc in
    sym (ap all_keys here.1 ∙ rw yes refl) ∙ c.loop-i.invariant

pub returns : goal.returns
returns c = sym (at_end all_keys true refl (λ x. refl) c.args.pairs.now (2 * c.loop-i.i) (omega arith)) ∙ c.loop-i.invariant
