use Rattle.value_acts.proofs.IndexLaws.{index_drafted}
use Rattle.value_acts.proofs.indices.bit_indexed.Goals as goal

pub returns-clause-drafted : goal.returns-clause-drafted
returns-clause-drafted g c =
    let p = g.P.Exprs.pooled c.args.pool.now in
    let made = rw (c.requires.ends, c.place_of.ensures.place, c.width_of.ensures) at c.bit_made.ensures in
    index_drafted p c.args.values.now c.args.e c.shape-shape.result c.requires.there c.shape-shape.ensures c.note_form.ensures c.bit_made.result c.args.i.now made
