use Rattle.std.proofs.Common.{◌≡◌, None, Some, ap, sym, subst, ◌∙◌, length}
use Rattle.py_heap.specs.Heaps.{Seen, seen}
use Rattle.py_frames.specs.declared.request.Answer.{Answer}
use Rattle.amh_values.specs.Acts.{acted}
use Rattle.elab_store.specs.Held.{held_of}
use Rattle.elab_store.specs.Stores.{Held, Answered}
use Rattle.elab_eval.specs.Table.{prim}
use Rattle.bench_acts.specs.Serving.{is_served}
use Rattle.bench_acts.specs.Held.{IsActed}
use Rattle.bench_acts.specs.Sharing.{held_over}
use Rattle.bench_acts.proofs.ServeLaws.{shared_serves}
use Rattle.bench_acts.proofs.serving.answer_shared.Goals as goal

pub returns-in-Ok : goal.returns-in-Ok
returns-in-Ok c =
    let s : Seen = seen c.args.frozen.now c.args.machine.now.going.state.heap in
    let h : Held = held_of c.args.bench.now.held in
    let r = c.args.request.now in
    let on = is_served r.act (acted s h.pool h.store.things r) in
    let owed : Answered = prim None s h r in
    let d = c.args.bench.now.design in
    let k : Held = held_of c.answer_held.new.held in
    let made : IsActed on (Some c.in-Some.answer) h k owed = subst (λ a. IsActed on a h k owed) c.in-Some.is c.in_ok-answer.ensures in
    shared_serves c.args.bench.now (record { design = c.share.new.design; held = c.share.new.held; known = c.share.new.known }) on k c.in-Some.answer owed c.requires made.0 made.1 made.3
    (c.in-Ok.ensures.held ∙ ap (λ m. held_over d.pool m c.before_act-before.result.kept k) c.before_act-before.ensures.things ∙ ap (λ m. held_over d.pool (length h.store.things) m k) c.before_act-before.ensures.kept) c.in-Ok.ensures.design c.in-Ok.ensures.known c.in-Ok.ensures.few
