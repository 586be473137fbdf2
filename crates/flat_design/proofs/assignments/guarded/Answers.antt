use Rattle.flat_design.specs.Growing.{IsMore}
use Rattle.flat_design.specs.Sources.{AreChosen}
use Rattle.flat_design.specs.Written.{AreGuarded}
use Rattle.flat_design.proofs.Answered.{ok_both}
use Rattle.flat_design.proofs.WrittenSources.{guarded_sources, unguarded_sources}
use Rattle.flat_design.proofs.assignments.guarded.Goals as goal

pub returns-in-Some-clause-guarded : goal.returns-in-Some-clause-guarded
returns-in-Some-clause-guarded c = λ test bits act.
    let q = c.args.pool.now in
    let r = c.chosen.new.pool in
    let guard = c.in-Some.guard in
    ok_both (λ x. IsMore q r) (AreChosen r guard c.args.new c.args.old.now) (AreGuarded q r test bits c.args.new c.args.old.now) c.chosen.result
    (λ xs more are. guarded_sources q r c.known.ensures more test bits guard c.args.new c.args.old.now xs (rw c.in-Some.is at act) c.requires.new c.requires.old are)
    c.chosen.ensures.more (rw c.as_slice.ensures at c.chosen.ensures.chosen)

pub returns-in-None-clause-guarded : goal.returns-in-None-clause-guarded
returns-in-None-clause-guarded c = λ test bits act. unguarded_sources c.args.pool.now test bits c.args.new c.args.old.now (rw c.in-None.is at act) c.requires.new c.requires.size
