use Rattle.std.proofs.Common.{sym, arith}
use Rattle.std.proofs.lemmas.List.FromFn.{map-range_with_len_more}
use Rattle.value_acts.specs.Indices.{bit}
use Rattle.value_acts.proofs.indices.all_bits.Goals as goal

pub loop-k-preserved : goal.loop-k-preserved
loop-k-preserved c =
    let more = map-range_with_len_more (bit c.args.e) 0 c.loop-k.k c.loop-k.k (omega arith) in
    rw (c.in-Ok.ensures, c.bit.ensures, c.loop-k.invariant) (sym more)
