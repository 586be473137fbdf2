use Rattle.value_acts.proofs.IndexLaws.{slice_drafted}
use Rattle.value_acts.proofs.indices.sliced.Goals as goal

pub returns-in-Some-clause-drafted : goal.returns-in-Some-clause-drafted
returns-in-Some-clause-drafted g c =
    let p = g.P.Exprs.pooled c.args.pool.now in
    let w = c.in-Some.way in
    let hs = rw c.width_of-width.ensures at c.in-Some.ensures.start in
    let ht = rw c.width_of-width.ensures at c.in-Some.ensures.stop in
    let made = rw (c.requires.ends, c.width_of-width.ensures) at c.cut_made.ensures in
    slice_drafted p c.args.values.now c.args.e c.shape-shape.result c.requires.there c.shape-shape.ensures c.note_form.ensures c.cut_made.result w.start w.stop w.step hs ht made
