use Rattle.std.proofs.Common.{◌≡◌, ◌++◌, ◌&&◌, [], ℤ, Bool, List, slice_index_or, subst, ◌∙◌}
use Rattle.design_ir.specs.Targets.{Bit}
use Rattle.flat_design.specs.declared.sources.Source.{Source}
use Rattle.flat_design.specs.declared.writes.Test.{Test}
use Rattle.flat_design.specs.Activity.{IsActive, tests_hold, tests_need}
use Rattle.flat_design.specs.Written.{IsWrittenSlot}
use Rattle.flat_design.proofs.Growing.{readable_more}
use Rattle.flat_design.proofs.SlotLists.{own_at}
use Rattle.flat_design.proofs.WrittenSources.{sources_more, slots_before}
use Rattle.flat_design.proofs.assignments.put_write.Goals as goal

pub written_slot-requires-clause-value : goal.written_slot-requires-clause-value
written_slot-requires-clause-value c = readable_more c.args.latest.now.pool c.with_tests.new.pool c.known.ensures c.in_ok-guard.ensures.more c.args.value c.requires.value

pub written_slot-requires-clause-sources : goal.written_slot-requires-clause-sources
written_slot-requires-clause-sources c =
    let slots = c.args.latest.now.slots.items in
    let s = c.args.write.now.sig.0 in
    let slot : c.as_slice-2.result.now ≡ slice_index_or slots s [] = c.as_slice-2.ensures ∙ own_at slots s c.index_mut-slot.result.now [] c.requires.slot.there c.index_mut-slot.ensures.value in
    rw slot (sources_more c.args.latest.now.pool c.with_tests.new.pool c.known.ensures c.in_ok-guard.ensures.more (slice_index_or slots s []) c.requires.slot.sources)

pub written_slot-requires-clause-inside : goal.written_slot-requires-clause-inside
written_slot-requires-clause-inside c =
    let slots = c.args.latest.now.slots.items in
    let s = c.args.write.now.sig.0 in
    let slot : c.as_slice-2.result.now ≡ slice_index_or slots s [] = c.as_slice-2.ensures ∙ own_at slots s c.index_mut-slot.result.now [] c.requires.slot.there c.index_mut-slot.ensures.value in
    rw slot c.requires.slot.inside

pub written_slot-requires-clause-guard : goal.written_slot-requires-clause-guard
written_slot-requires-clause-guard c =
    let act = c.requires.active in
    let q = c.args.latest.now.pool in
    let tests = c.as_slice.result.now in
    ((λ env. act.0 env && tests_hold q tests env), act.1 ++ tests_need q tests, c.in_ok-guard.ensures.active act.0 act.1 act.2)

pub returns-clause-written : goal.returns-clause-written
returns-clause-written c = λ test bits act.
    let w = c.args.write.now in
    let q = c.args.latest.now.pool in
    let q1 = c.with_tests.new.pool in
    let r = c.written_slot.new.pool in
    let slots = c.args.latest.now.slots.items in
    let slot : c.as_slice-2.result.now ≡ slice_index_or slots w.sig.0 [] = c.as_slice-2.ensures ∙ own_at slots w.sig.0 c.index_mut-slot.result.now [] c.requires.slot.there c.index_mut-slot.ensures.value in
    let holds : List ℤ → Bool = λ env. test env && tests_hold q w.tests env in
    let needs : List Bit = bits ++ tests_need q w.tests in
    let guard : IsActive q1 holds needs c.in_ok-guard.guard =
    subst (λ (tests : List Test). IsActive q1 (λ env. test env && tests_hold q tests env) (bits ++ tests_need q tests) c.in_ok-guard.guard) c.as_slice.ensures (c.in_ok-guard.ensures.active test bits act) in
    let is : IsWrittenSlot q1 r holds needs c.args.value w (slice_index_or slots w.sig.0 []) c.in_ok-new.new =
    subst (λ (old : List Source). IsWrittenSlot q1 r holds needs c.args.value w old c.in_ok-new.new) slot (c.in_ok-new.ensures.written holds needs guard) in
    slots_before q q1 r c.known.ensures c.in_ok-guard.ensures.more holds needs c.args.value c.requires.value w slots c.in_ok-new.new c.requires.slot is
