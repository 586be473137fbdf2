use Rattle.std.proofs.Common.{◌<◌, length, sym}
use Rattle.value_acts.proofs.IndexLaws.{bits_drafted}
use Rattle.amh_things.proofs.PutLaws.{bare_expr_below}
use Rattle.value_acts.proofs.indices.held_bits.Goals as goal

pub returns-in-Some-clause-drafted : goal.returns-in-Some-clause-drafted
returns-in-Some-clause-drafted g c =
    let p = g.P.Exprs.pooled c.args.pool.now in
    let there : c.in-Some.e.0 < length p.exprs = bare_expr_below _ c.args.values.now c.args.hw.0 _ c.requires.held (sym c.in-Some.ensures) in
    let made = rw c.requires.ends at c.bits_given.ensures in
    bits_drafted p c.args.values.now c.in-Some.e c.shape-shape.result there c.shape-shape.ensures c.note_form.ensures c.bits_given.result made
