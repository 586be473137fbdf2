use Rattle.std.proofs.Common.{◌≡◌, ◌<◌, ◌≤◌, ◌+◌, [], List, All, length, take, slice_index_or, sym, ◌∙◌, subst, arith}
use Rattle.std.specs.Prelude.{Contains}
use Rattle.std.proofs.lemmas.List.{take_more}
use Rattle.design_ir.specs.declared.ids.SigId.{SigId}
use Rattle.amh_host.specs.declared.place.Place.{Place}
use Rattle.design_ir.specs.Trees.{assign, Block, block_and}
use Rattle.flat_design.specs.declared.sources.Source.{Source}
use Rattle.flat_design.specs.Sources.{IsSource, IsJoined}
use Rattle.flat_design.specs.Assigned.{AreAssigned}
use Rattle.flat_design.proofs.Growing.{more_trans}
use Rattle.flat_design.proofs.SlotLists.{own_at}
use Rattle.flat_design.proofs.StartLaws.{no_stop, signal_few}
use Rattle.flat_design.proofs.WrittenSources.{sources_more}
use Rattle.flat_design.proofs.AssignedMore.{assigned_push, assigned_more, assigned_one, item_in}
use Rattle.flat_design.proofs.processes.assigned.Goals as goal

pub joined-requires-clause-sources : goal.joined-requires-clause-sources
joined-requires-clause-sources c =
    let slots = c.args.latest.slots.items in
    let items = c.as_slice-s-items.result.now in
    let i = c.loop-s.s-index in
    let s : SigId = slice_index_or items i (record { 0 = 0 }) in
    let has : Contains c.args.signals.now s = item_in items c.args.signals.now i (record { 0 = 0 }) c.as_slice-s-items.ensures c.loop-s-test.true in
    let there : s.0 < length c.args.latest.pool.signals = subst (All (λ (x : SigId). x.0 < length c.args.latest.pool.signals)) (sym c.as_slice-s-items.ensures) c.requires.there i (record { 0 = 0 }) c.loop-s-test.true in
    let slot : c.as_slice.result.now ≡ slice_index_or slots s.0 [] = c.as_slice.ensures ∙ own_at slots s.0 c.index.result.now [] (omega (arith, there, c.requires.size)) c.index.ensures in
    subst (All (IsSource c.loop-s.pool)) (sym slot) (sources_more c.args.latest.pool c.loop-s.pool c.requires.rules c.loop-s.invariant.more (slice_index_or slots s.0 []) (c.requires.sources s has))

pub joined-requires-clause-few : goal.joined-requires-clause-few
joined-requires-clause-few c =
    let slots = c.args.latest.slots.items in
    let items = c.as_slice-s-items.result.now in
    let i = c.loop-s.s-index in
    let s : SigId = slice_index_or items i (record { 0 = 0 }) in
    let has : Contains c.args.signals.now s = item_in items c.args.signals.now i (record { 0 = 0 }) c.as_slice-s-items.ensures c.loop-s-test.true in
    let there : s.0 < length c.args.latest.pool.signals = subst (All (λ (x : SigId). x.0 < length c.args.latest.pool.signals)) (sym c.as_slice-s-items.ensures) c.requires.there i (record { 0 = 0 }) c.loop-s-test.true in
    let slot : c.as_slice.result.now ≡ slice_index_or slots s.0 [] = c.as_slice.ensures ∙ own_at slots s.0 c.index.result.now [] (omega (arith, there, c.requires.size)) c.index.ensures in
    subst (λ (xs : List Source). length xs ≤ 128) (sym slot) (c.requires.few s has)

pub added-requires-clause-accepted : goal.added-requires-clause-accepted
added-requires-clause-accepted c =
    let s : SigId = slice_index_or c.as_slice-s-items.result.now c.loop-s.s-index (record { 0 = 0 }) in
    no_stop _ (signal_few c.joined.new.pool s.0 c.in_ok-value.ensures.rules)

pub loop-s-preserved : goal.loop-s-preserved
loop-s-preserved c =
    let slots = c.args.latest.slots.items in
    let items = c.as_slice-s-items.result.now in
    let i = c.loop-s.s-index in
    let d : SigId = record { 0 = 0 } in
    let s : SigId = slice_index_or items i d in
    let q0 = c.args.latest.pool in
    let q = c.loop-s.pool in
    let q1 = c.joined.new.pool in
    let r = c.added.new.pool in
    let has : Contains c.args.signals.now s = item_in items c.args.signals.now i d c.as_slice-s-items.ensures c.loop-s-test.true in
    let there : s.0 < length q0.signals = subst (All (λ (x : SigId). x.0 < length q0.signals)) (sym c.as_slice-s-items.ensures) c.requires.there i d c.loop-s-test.true in
    let slot : c.as_slice.result.now ≡ slice_index_or slots s.0 [] = c.as_slice.ensures ∙ own_at slots s.0 c.index.result.now [] (omega (arith, there, c.requires.size)) c.index.ensures in
    let joined : IsJoined q1 (slice_index_or slots s.0 []) c.in_ok-value.value = subst (λ (xs : List Source). IsJoined q1 xs c.in_ok-value.value) slot c.in_ok-value.ensures.joined in
    let sources : All (IsSource q1) (slice_index_or slots s.0 []) =
    sources_more q0 q1 c.requires.rules (more_trans q0 q q1 c.loop-s.invariant.more c.in_ok-value.ensures.more) (slice_index_or slots s.0 []) (c.requires.sources s has) in
    let before = assigned_more q r c.loop-s.invariant.rules (more_trans q q1 r c.in_ok-value.ensures.more c.in_ok-target.ensures.more) slots (take i items) c.loop-s.body c.loop-s.invariant.assigned in
    let one = assigned_one q1 r c.in_ok-value.ensures.rules c.in_ok-target.ensures.more slots s c.in_ok-target.target c.in_ok-value.value sources joined c.in_ok-target.ensures.added in
    let place : Place = record { line = 1; col = 1 } in
    let body : Block = block_and c.loop-s.body (assign c.in_ok-target.target c.in_ok-value.value place) in
    record {
      more = more_trans q0 q r c.loop-s.invariant.more (more_trans q q1 r c.in_ok-value.ensures.more c.in_ok-target.ensures.more);
      rules = c.in_ok-target.ensures.rules;
      assigned = subst (AreAssigned r slots (take (i + 1) items)) (sym c.in_ok-push.ensures.ok)
          (subst (λ xs. AreAssigned r slots xs body) (sym (take_more items i d c.loop-s-test.true)) (assigned_push r slots (take i items) c.loop-s.body s c.in_ok-target.target c.in_ok-value.value place before one));
    }
