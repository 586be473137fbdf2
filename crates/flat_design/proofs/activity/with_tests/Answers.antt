use Rattle.std.specs.Prelude.{◌≡◌, take, slice_index_or, false}
use Rattle.std.proofs.Common.{sym, subst}
use Rattle.std.proofs.lemmas.List.{take_all}
use Rattle.std.proofs.lemmas.Option.{slice_get-get_or}
use Rattle.digraph.proofs.Takes.{take-push}
use Rattle.design_ir.specs.Pools.{Pooled}
use Rattle.flat_design.specs.declared.writes.Test.{Test}
use Rattle.flat_design.proofs.Activities.{one_more}
use Rattle.flat_design.proofs.Testing.{AreTested, test_more, tested_none, tested_push}
use Rattle.flat_design.proofs.activity.with_tests.Goals as goal

pub loop-test-init : goal.loop-test-init
loop-test-init c = tested_none c.args.pool.now c.args.active c.known.ensures c.requires.active

pub test_bit-requires : goal.test_bit-requires
test_bit-requires c =
    let t : Test = slice_index_or c.args.tests.now c.loop-test.test-index record { index = record { 0 = 0 }; number = 0; and_above = false } in
    test_more c.args.pool.now c.loop-test.pool c.known.ensures c.loop-test.invariant.more t (c.requires.tests c.loop-test.test-index _ c.loop-test-test.true)

pub with_bit-requires-clause-active : goal.with_bit-requires-clause-active
with_bit-requires-clause-active c = one_more c.loop-test.pool c.test_bit.new.pool c.loop-test.all c.loop-test.invariant.rules c.in_ok-bit.ensures.more c.loop-test.invariant.one

pub loop-test-preserved : goal.loop-test-preserved
loop-test-preserved c =
    let p : Pooled = c.args.pool.now in
    let i = c.loop-test.test-index in
    let t : Test = slice_index_or c.args.tests.now i record { index = record { 0 = 0 }; number = 0; and_above = false } in
    let last = take-push c.args.tests.now i t (slice_get-get_or c.args.tests.now i record { index = record { 0 = 0 }; number = 0; and_above = false } c.loop-test-test.true) in
    subst (λ ts. AreTested p c.with_bit.new.pool ts c.args.active c.in_ok-all.all) (sym last)
    (tested_push p c.loop-test.pool c.test_bit.new.pool c.with_bit.new.pool (take i c.args.tests.now) t c.args.active c.loop-test.all c.in_ok-all.all c.in_ok-bit.bit c.known.ensures c.loop-test.invariant
    (c.requires.tests i _ c.loop-test-test.true) c.in_ok-bit.ensures.more c.in_ok-bit.ensures.bit c.in_ok-all.ensures.more c.in_ok-all.ensures.rules c.in_ok-all.ensures.one c.in_ok-all.ensures.active)

pub returns-clause-active : goal.returns-clause-active
returns-clause-active c =
    let all : take c.loop-test.test-index c.args.tests.now ≡ c.args.tests.now = take_all c.loop-test.test-index c.args.tests.now c.loop-test-test.false in
    (subst (λ ts. AreTested c.args.pool.now c.loop-test.pool ts c.args.active c.loop-test.all) all c.loop-test.invariant).active
