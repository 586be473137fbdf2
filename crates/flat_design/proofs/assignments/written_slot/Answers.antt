use Rattle.std.proofs.Common.{◌≡◌, length, arith, ap}
use Rattle.flat_design.specs.Written.{AreGuarded, IsWrittenSlot}
use Rattle.flat_design.specs.Replaced.{replaced}
use Rattle.flat_design.proofs.Answered.{ok_imp}
use Rattle.flat_design.proofs.Growing.{active_more}
use Rattle.flat_design.proofs.WrittenSources.{extensions_sources, part, part_sources, part_length, written_slot_is}
use Rattle.flat_design.proofs.assignments.written_slot.Goals as goal

pub guarded-requires-clause-guard : goal.guarded-requires-clause-guard
guarded-requires-clause-guard c =
    let act = c.requires.guard in
    (act.0, act.1, active_more c.args.pool.now c.extension.new.pool c.known.ensures c.in_ok-new.ensures.more act.0 act.1 c.args.guard act.2)

pub guarded-requires-clause-new : goal.guarded-requires-clause-new
guarded-requires-clause-new c = extensions_sources c.extension.new.pool c.args.value c.args.write.now.from c.args.write.now.width c.in_ok-new.new c.in_ok-new.ensures.extensions

pub guarded-requires-clause-old : goal.guarded-requires-clause-old
guarded-requires-clause-old c =
    part_sources c.args.pool.now c.extension.new.pool c.args.slot.now c.args.write.now.low c.args.write.now.width c.known.ensures c.in_ok-new.ensures.more c.requires.sources

pub with_sources-requires : goal.with_sources-requires
with_sources-requires c =
    let w = c.args.write.now in
    let act = c.requires.guard in
    let q = c.args.pool.now in
    let q1 = c.extension.new.pool in
    let are = c.in_ok-sources.ensures.guarded act.0 act.1 (active_more q q1 c.known.ensures c.in_ok-new.ensures.more act.0 act.1 c.args.guard act.2) in
    let long = part_length c.args.slot.now w.low w.width c.requires.inside in
    let same = ap length c.as_slice.ensures in
    omega (arith, c.requires.inside, long, are.size, same)

pub returns-clause-written : goal.returns-clause-written
returns-clause-written c = λ test bits act.
    let w = c.args.write.now in
    let q = c.args.pool.now in
    let q1 = c.extension.new.pool in
    let r = c.guarded.new.pool in
    let slot = c.args.slot.now in
    let sources = c.in_ok-sources.sources in
    let are : AreGuarded q1 r test bits c.in_ok-new.new (part slot w.low w.width) sources =
    c.in_ok-sources.ensures.guarded test bits (active_more q q1 c.known.ensures c.in_ok-new.ensures.more test bits c.args.guard act) in
    let is : IsWrittenSlot q r test bits c.args.value w slot (replaced slot w.low sources) =
    written_slot_is q q1 r c.known.ensures c.in_ok-new.ensures.more test bits c.args.value c.requires.value w slot c.in_ok-new.new sources c.requires.sources c.requires.inside c.in_ok-new.ensures.extensions are in
    ok_imp (λ all. all ≡ replaced slot w.low c.as_slice.result.now) (IsWrittenSlot q r test bits c.args.value w slot) c.with_sources.result (λ all same. rw (same, c.as_slice.ensures) is) c.with_sources.ensures
