use Rattle.std.proofs.Common.{◌+◌, sym, arith}
use Rattle.std.proofs.lemmas.List.FromFn.{map-range_with_len_more}
use Rattle.py_values.specs.declared.val.Val.TheVariants as val
use Rattle.value_acts.proofs.indices.all_things.Goals as goal

pub loop-k-preserved : goal.loop-k-preserved
loop-k-preserved c =
    let more = map-range_with_len_more (λ k. val.Hw (record { 0 = c.args.next + k })) 0 c.loop-k.k c.loop-k.k (omega arith) in
    rw (c.in-Ok.ensures.ok, c.loop-k.invariant) (sym more)
