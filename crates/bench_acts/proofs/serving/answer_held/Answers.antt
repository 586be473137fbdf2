use Rattle.std.proofs.Common.{◌≡◌, ap, sym, subst, ◌∙◌, None}
use Rattle.py_heap.specs.Heaps.{Seen, seen}
use Rattle.py_frames.specs.declared.request.Answer.{Answer}
use Rattle.amh_values.specs.declared.acts.Acted.TheVariants as acted_as
use Rattle.amh_values.specs.Acts.{acted, Acts}
use Rattle.elab_store.specs.Held.{held_of, Gives}
use Rattle.elab_store.specs.Stores.{Held}
use Rattle.elab_eval.specs.Table.{prim}
use Rattle.elab_eval.proofs.AnswerLaws.{left_open, nothing_changed}
use Rattle.elab_store.specs.Sound.{IsSound}
use Rattle.bench_acts.proofs.ActLaws.{none_acted, planned_acted, read_acted}
use Rattle.bench_acts.proofs.serving.answer_held.Goals as goal

pub returns-in-Answer : goal.returns-in-Answer
returns-in-Answer c =
    let s : Seen = seen c.args.frozen.now c.args.machine.now.going.state.heap in
    let h : Held = held_of c.args.held.now in
    let r = c.args.request.now in
    let ts = c.plan_answer.new.store.things in
    planned_acted s h r c.in-Answer.answer c.plan_answer.new.pool ts c.in_ok-answer.ensures.held c.requires c.plan_answer.new.store c.in_ok-answer.ensures.rest
    (subst (λ a. Acts (acted s h.pool h.store.things r) a h.pool c.plan_answer.new.pool h.store.things ts) c.in-Answer.is c.in_ok-answer.ensures.acts)

pub returns-then-not-is_read : goal.returns-then-not-is_read
returns-then-not-is_read c =
    let s : Seen = seen c.args.frozen.now c.args.machine.now.going.state.heap in
    let h : Held = held_of c.args.held.now in
    let r = c.args.request.now in
    let q = c.plan_answer.new.pool in
    let ts = c.plan_answer.new.store.things in
    let acts = subst (λ a. Acts (acted s h.pool h.store.things r) a h.pool q h.store.things ts) c.in-Other.is c.in_ok-answer.ensures.acts in
    none_acted s h r q ts acts h (sym c.is_read.ensures ∙ c.if-not-is_read.true)

pub answer_request-requires : goal.answer_request-requires
answer_request-requires c =
    let s : Seen = seen c.args.frozen.now c.args.machine.now.going.state.heap in
    let h : Held = held_of c.args.held.now in
    let r = c.args.request.now in
    let q = c.plan_answer.new.pool in
    let st = c.plan_answer.new.store in
    let acts = subst (λ a. Acts (acted s h.pool h.store.things r) a h.pool q h.store.things st.things) c.in-Other.is c.in_ok-answer.ensures.acts in
    let open_left = left_open None s h r q st.things acts in
    let same = nothing_changed h q st open_left.1 open_left.2 c.in_ok-answer.ensures.rest in
    subst IsSound (sym same) c.requires

pub returns-in-Ok : goal.returns-in-Ok
returns-in-Ok c =
    let s : Seen = seen c.args.frozen.now c.args.machine.now.going.state.heap in
    let h : Held = held_of c.args.held.now in
    let r = c.args.request.now in
    let q = c.plan_answer.new.pool in
    let st = c.plan_answer.new.store in
    let acts = subst (λ a. Acts (acted s h.pool h.store.things r) a h.pool q h.store.things st.things) c.in-Other.is c.in_ok-answer.ensures.acts in
    let open_left = left_open None s h r q st.things acts in
    let same = nothing_changed h q st open_left.1 open_left.2 c.in_ok-answer.ensures.rest in
    read_acted s h r q st.things acts c.in-Ok.answer (held_of c.answer_request.new.elaboration) (sym c.is_read.ensures ∙ c.if-not-is_read.false) (ap (λ (k : Held). prim None s k r) (sym same) ∙ c.in-Ok.ensures.gives) c.in-Ok.ensures.sound
