use Rattle.std.proofs.Common.{◌∙◌, ap, sym, List, ℕ}
use Rattle.py_heap.specs.Heaps.{seen}
use Rattle.py_values.specs.declared.val.Val.{Val}
use Rattle.py_values.specs.declared.val.Val.TheVariants as val
use Rattle.py_frames.specs.Leaves.{own_attribute}
use Rattle.py_turns.proofs.at_once.own_attribute.Goals as goal

pub returns-in-Object : goal.returns-in-Object
returns-in-Object c =
    let heap = seen c.args.frozen.now c.args.going.now.state.heap in
    c.attribute.ensures
    ∙ ap (λ (n : List ℕ). own_attribute heap n (val.Object c.in-Object.o)) c.as_str.ensures
    ∙ ap (λ (v : Val). own_attribute heap c.args.name.now v) (sym c.in-Object.is)
