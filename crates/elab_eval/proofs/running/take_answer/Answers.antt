use Rattle.std.proofs.Common.{Err, ◌≡◌, ◌∙◌, sym, ap, subst}
use Rattle.std.specs.Option.{option_copied}
use Rattle.py_tree.specs.Programs.{program_of}
use Rattle.py_heap.specs.Heaps.{Made, seen}
use Rattle.py_frames.specs.declared.request.Turn.TheVariants as turn
use Rattle.py_machine.specs.Lives.{Resumed, again}
use Rattle.elab_store.specs.Stores.{Held}
use Rattle.elab_eval.specs.declared.refusal.ElabStop.{ElabStop}
use Rattle.elab_eval.specs.Elaborates.{stop_of, told_at}
use Rattle.elab_eval.specs.Running.{Steps_to}
use Rattle.elab_eval.specs.Table.{prim}
use Rattle.elab_store.specs.Held.{held_of}
use Rattle.elab_eval.proofs.RunLaws.{next, ended, stopped, told_stop}
use Rattle.elab_eval.proofs.running.take_answer.Goals as goal

pub returns-in-Ok-clause-comes : goal.returns-in-Ok-clause-comes
returns-in-Ok-clause-comes g c =
    let h : Held = held_of c.args.elaboration.now in
    let resumed = subst (λ (f : Made). Resumed (again c.args.machine.now.stage) (program_of c.args.program.now) f c.args.answer (turn.Asks c.in-Asks.request) c.args.machine.now c.resume.new.self c.args.left.now.left) c.requires.frozen c.in-Asks.ensures.comes in
    let table = subst (λ (f : Made). prim (option_copied c.args.top) (seen f c.resume.new.self.going.state.heap) h c.in-Asks.request ≡ record { answer = c.in-Ok.next; held = held_of c.answer_request.new.elaboration }) c.requires.frozen c.in-Ok.ensures.gives in
    let both = next (program_of c.args.program.now) (option_copied c.args.top) c.args._budget c.args.left.now.left c.resume.new.left.left c.args.machine.now c.resume.new.self h (held_of c.answer_request.new.elaboration) c.args.answer c.in-Ok.next c.in-Asks.request
    c.requires.running resumed c.in-Asks.ensures.kept table c.in-Ok.ensures.sound in
    (both.0, both.1, c.note_taken.ensures)

pub returns-in-Ended-clause-comes : goal.returns-in-Ended-clause-comes
returns-in-Ended-clause-comes g c =
    let resumed = subst (λ (f : Made). Resumed (again c.args.machine.now.stage) (program_of c.args.program.now) f c.args.answer (turn.Ended c.in-Ended.field-0) c.args.machine.now c.resume.new.self c.args.left.now.left) c.requires.frozen c.in-Ended.ensures.comes in
    ended (program_of c.args.program.now) (option_copied c.args.top) c.args._budget c.args.left.now.left c.resume.new.left.left c.args.machine.now c.resume.new.self (held_of c.args.elaboration.now) c.args.answer c.in-Ended.field-0 c.requires.running resumed c.in-Ended.ensures.kept

pub returns-in-Stopped-clause-comes : goal.returns-in-Stopped-clause-comes
returns-in-Stopped-clause-comes g c =
    let resumed = subst (λ (f : Made). Resumed (again c.args.machine.now.stage) (program_of c.args.program.now) f c.args.answer (turn.Stopped c.in-Stopped.stop) c.args.machine.now c.resume.new.self c.args.left.now.left) c.requires.frozen c.in-Stopped.ensures.comes in
    subst (λ (x : ElabStop). Steps_to (program_of c.args.program.now) (option_copied c.args.top) c.args._budget (Err x) c.args.machine.now c.resume.new.self (held_of c.args.elaboration.now) c.resume.new.left.left) (sym (c.stop_of.ensures ∙ ap stop_of (c.told_at.ensures ∙ ap (λ t. told_at t c.in-Stopped.stop) c.told.ensures)))
    (told_stop (program_of c.args.program.now) (option_copied c.args.top) c.args._budget c.resume.new.left.left c.args.machine.now c.resume.new.self (held_of c.args.elaboration.now) (told_at c.args.elaboration.now.store.told c.in-Stopped.stop)
    (stopped (program_of c.args.program.now) (option_copied c.args.top) c.args._budget c.args.left.now.left c.resume.new.left.left c.args.machine.now c.resume.new.self (held_of c.args.elaboration.now) c.args.answer c.in-Stopped.stop c.requires.running resumed c.in-Stopped.ensures.left))
