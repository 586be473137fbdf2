use Rattle.std.specs.Prelude.{refl, List, length}
use Rattle.std.proofs.lemmas.Result.{IfOk-weaker}
use Rattle.flat_design.specs.Sources.{AreChosen, IsSource}
use Rattle.design_ir.specs.Pools.{Pooled}
use Rattle.flat_design.specs.declared.sources.Source.{Source}
use Rattle.flat_design.specs.Adding.{AreBits}
use Rattle.flat_design.proofs.Growing.{more_trans, readable_more}
use Rattle.flat_design.proofs.SourceLists.{sources_more, all_get}
use Rattle.flat_design.proofs.Joining.{joined_more}
use Rattle.flat_design.proofs.Choosing.{mux_accepted, mux_chosen}
use Rattle.flat_design.proofs.sources.chosen.Goals as goal

pub joined-requires-2-clause-sources : goal.joined-requires-2-clause-sources
joined-requires-2-clause-sources c = sources_more c.args.pool.now c.joined.new.pool c.args.old.now c.known.ensures c.in_ok-a.ensures.more c.requires.old

pub added-requires-clause-accepted : goal.added-requires-clause-accepted
added-requires-clause-accepted c =
    let ja = joined_more c.joined.new.pool c.joined-2.new.pool c.in_ok-a.ensures.rules c.in_ok-b.ensures.more c.args.new.now c.in_ok-a.a
    (all_get (IsSource c.joined.new.pool) c.args.new.now (sources_more c.args.pool.now c.joined.new.pool c.args.new.now c.known.ensures c.in_ok-a.ensures.more c.requires.new)) c.in_ok-a.ensures.joined in
    mux_accepted c.joined-2.new.pool c.in_ok-a.a c.in_ok-b.b c.args.new.now c.args.old.now c.requires.size c.requires.few ja c.in_ok-b.ensures.joined

pub added-requires-clause-resolved : goal.added-requires-clause-resolved
added-requires-clause-resolved c =
    let more = more_trans c.args.pool.now c.joined.new.pool c.joined-2.new.pool c.in_ok-a.ensures.more c.in_ok-b.ensures.more in
    rw (
      (readable_more c.args.pool.now c.joined-2.new.pool c.known.ensures more c.args.guard c.requires.guard).resolved,
      (readable_more c.joined.new.pool c.joined-2.new.pool c.in_ok-a.ensures.rules c.in_ok-b.ensures.more c.in_ok-a.a c.in_ok-a.ensures.joined.readable).resolved,
      c.in_ok-b.ensures.joined.readable.resolved,
    ) refl

pub returns-clause-chosen : goal.returns-clause-chosen
returns-clause-chosen c =
    let new : List Source = c.args.new.now in
    let old : List Source = c.args.old.now in
    let p : Pooled = c.args.pool.now in
    let p1 : Pooled = c.joined.new.pool in
    let p2 : Pooled = c.joined-2.new.pool in
    let q : Pooled = c.added.new.pool in
    let first = c.in_ok-a.ensures.more in
    let second = c.in_ok-b.ensures.more in
    let third = c.in_ok-mux.ensures.more in
    let new_sources = all_get (IsSource p1) new (sources_more p p1 new c.known.ensures first c.requires.new) in
    let old_sources = all_get (IsSource p2) old (sources_more p p2 old c.known.ensures (more_trans p p1 p2 first second) c.requires.old) in
    let ja = joined_more p1 q c.in_ok-a.ensures.rules (more_trans p1 p2 q second third) new c.in_ok-a.a new_sources c.in_ok-a.ensures.joined in
    let jb = joined_more p2 q c.in_ok-b.ensures.rules third old c.in_ok-b.b old_sources c.in_ok-b.ensures.joined in
    IfOk-weaker c.bits_of.result (AreBits c.in_ok-mux.mux (length new)) (AreChosen q c.args.guard new old)
    (λ xs bits. mux_chosen q c.in_ok-mux.ensures.rules c.args.guard c.in_ok-a.a c.in_ok-b.b c.in_ok-mux.mux new old c.requires.size ja jb c.in_ok-mux.ensures.added xs bits)
    c.bits_of.ensures
