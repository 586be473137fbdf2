use Rattle.std.proofs.Common.{sym, ◌∙◌, ap, subst}
use Rattle.std.specs.Option.{option_copied}
use Rattle.py_heap.specs.Heaps.{Seen, seen}
use Rattle.amh_values.specs.Acts.{acted, Acts}
use Rattle.elab_store.specs.Stores.{Stored, Held, Answered}
use Rattle.elab_store.specs.Sound.{IsSound}
use Rattle.elab_eval.specs.Table.{own_answered}
use Rattle.elab_store.specs.Held.{held_of, Gives}
use Rattle.elab_eval.proofs.AnswerLaws.{planned, planned_sound, left_open, gives_sound, nothing_changed}
use Rattle.elab_eval.proofs.TableSound.{own_sound}
use Rattle.elab_eval.proofs.running.answer_request.Goals as goal

pub answer_own-requires : goal.answer_own-requires
answer_own-requires c =
    let s : Seen = seen c.args.frozen.now c.args.machine.now.going.state.heap in
    subst (λ (st : Stored). IsSound (record { pool = c.serve.new.pool; store = st })) (sym c.in_ok-answer.ensures.rest)
    (planned_sound s (held_of c.args.elaboration.now) c.args.request.now c.in_ok-answer.field-0 c.serve.new.pool c.serve.new.store.things c.in_ok-answer.ensures.acts c.in_ok-answer.ensures.held c.requires)

pub returns-in-Answer-clause-gives : goal.returns-in-Answer-clause-gives
returns-in-Answer-clause-gives c =
    let s : Seen = seen c.args.frozen.now c.args.machine.now.going.state.heap in
    let h : Held = held_of c.args.elaboration.now in
    planned (option_copied c.args.top) s h c.args.request.now c.in-Answer.answer c.serve.new.pool c.serve.new.store.things
    (subst (λ a. Acts (acted s h.pool h.store.things c.args.request.now) a h.pool c.serve.new.pool h.store.things c.serve.new.store.things) c.in-Answer.is c.in_ok-answer.ensures.acts)
    ∙ ap (λ (st : Stored). record { answer = c.in-Answer.answer; held = record { pool = c.serve.new.pool; store = st } }) (sym c.in_ok-answer.ensures.rest)

pub returns-in-Answer-clause-sound : goal.returns-in-Answer-clause-sound
returns-in-Answer-clause-sound c =
    let s : Seen = seen c.args.frozen.now c.args.machine.now.going.state.heap in
    subst (λ (st : Stored). IsSound (record { pool = c.serve.new.pool; store = st })) (sym c.in_ok-answer.ensures.rest)
    (planned_sound s (held_of c.args.elaboration.now) c.args.request.now c.in_ok-answer.field-0 c.serve.new.pool c.serve.new.store.things c.in_ok-answer.ensures.acts c.in_ok-answer.ensures.held c.requires)

pub returns-in-Other-clause-gives : goal.returns-in-Other-clause-gives
returns-in-Other-clause-gives c =
    let s : Seen = seen c.args.frozen.now c.args.machine.now.going.state.heap in
    let h : Held = held_of c.args.elaboration.now in
    let open_left = left_open (option_copied c.args.top) s h c.args.request.now c.serve.new.pool c.serve.new.store.things
    (subst (λ a. Acts (acted s h.pool h.store.things c.args.request.now) a h.pool c.serve.new.pool h.store.things c.serve.new.store.things) c.in-Other.is c.in_ok-answer.ensures.acts) in
    let same = nothing_changed h c.serve.new.pool c.serve.new.store open_left.1 open_left.2 c.in_ok-answer.ensures.rest in
    subst (λ (x : Answered). Gives c.answer_own.result c.answer_own.new.elaboration x) (sym open_left.0)
    (subst (λ (k : Held). Gives c.answer_own.result c.answer_own.new.elaboration (own_answered (option_copied c.args.top) s c.args.request.now.act c.args.request.now k)) same c.answer_own.ensures)

pub returns-in-Other-clause-sound : goal.returns-in-Other-clause-sound
returns-in-Other-clause-sound c =
    let s : Seen = seen c.args.frozen.now c.args.machine.now.going.state.heap in
    let k : Held = record { pool = c.serve.new.pool; store = c.serve.new.store } in
    let sound : IsSound k = subst (λ (st : Stored). IsSound (record { pool = c.serve.new.pool; store = st })) (sym c.in_ok-answer.ensures.rest)
    (planned_sound s (held_of c.args.elaboration.now) c.args.request.now c.in_ok-answer.field-0 c.serve.new.pool c.serve.new.store.things c.in_ok-answer.ensures.acts c.in_ok-answer.ensures.held c.requires) in
    gives_sound c.answer_own.result c.answer_own.new.elaboration (own_answered (option_copied c.args.top) s c.args.request.now.act c.args.request.now k) c.answer_own.ensures (own_sound (option_copied c.args.top) s c.args.request.now.act c.args.request.now k c.known.ensures sound)
