use Rattle.std.proofs.Common.{◌≡◌, ◌<◌, All, length, take, slice_index_or, slice_set, sym, ◌∙◌, subst}
use Rattle.std.proofs.lemmas.List.{take_all, take_more}
use Rattle.design_ir.specs.declared.ids.SigId.{SigId}
use Rattle.flat_design.proofs.Growing.{more_trans}
use Rattle.flat_design.proofs.StartLaws.{AreStarted, one_started, slots_started}
use Rattle.flat_design.proofs.processes.started.Goals as goal

pub loop-s-preserved : goal.loop-s-preserved
loop-s-preserved c =
    let p = c.args.design.now.pool in
    let q = c.loop-s.latest.pool in
    let r = c.start.new.pool in
    let items = c.as_slice-s-items.result.now in
    let i = c.loop-s.s-index in
    let d : SigId = record { 0 = 0 } in
    let s : SigId = slice_index_or items i d in
    let there : All (λ (x : SigId). x.0 < length p.signals) items = subst (All (λ (x : SigId). x.0 < length p.signals)) (sym c.as_slice-s-items.ensures) c.requires.there in
    let new = slice_set c.loop-s.latest.slots.items s.0 c.in_ok-sources.sources in
    record {
      more = more_trans c.args.pool q r c.loop-s.invariant.more c.in_ok-sources.ensures.more;
      all = more_trans p q r c.loop-s.invariant.all c.in_ok-sources.ensures.more;
      rules = c.in_ok-sources.ensures.rules;
      slots = subst (λ xs. AreStarted p r c.args.clocked xs new) (sym (take_more items i d c.loop-s-test.true))
          (one_started p q r c.args.clocked (take i items) s c.loop-s.latest.slots.items c.in_ok-sources.sources c.loop-s.invariant.rules c.in_ok-sources.ensures.more (there i d c.loop-s-test.true) c.loop-s.invariant.slots c.in_ok-sources.ensures.start);
    }

pub returns-clause-started : goal.returns-clause-started
returns-clause-started c = λ driven listed.
    let p = c.args.design.now.pool in
    let q = c.loop-s.latest.pool in
    let all : take c.loop-s.s-index c.as_slice-s-items.result.now ≡ c.args.signals.now = take_all c.loop-s.s-index c.as_slice-s-items.result.now c.loop-s-test.false ∙ c.as_slice-s-items.ensures in
    slots_started p q c.args.clocked driven c.args.signals.now c.loop-s.latest.slots.items c.loop-s.invariant.all listed (subst (λ xs. AreStarted p q c.args.clocked xs c.loop-s.latest.slots.items) all c.loop-s.invariant.slots)
