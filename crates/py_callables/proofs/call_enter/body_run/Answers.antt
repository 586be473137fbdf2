use Rattle.std.proofs.Common.{◌≡◌, ◌+◌, ◌∙◌, suc, length, refl, ap, arith}
use Rattle.py_tree.specs.declared.stmt.Function.{Function, out-Function}
use Rattle.py_tree.specs.Programs.{steps_of, body_of}
use Rattle.py_callables.specs.Entering.{body_steps}
use Rattle.py_callables.proofs.EnterLaws.{body_block, body_ok, body_err}
use Rattle.py_callables.proofs.call_enter.body_run.Goals as goal

pub returns-in-Ok-names_bound-clause-moves : goal.returns-in-Ok-names_bound-clause-moves
returns-in-Ok-names_bound-clause-moves c =
    let room : c.args.going.now.state.here.room ≡ suc c.in-Some.room = omega (arith, c.in-Some.ensures) in
    let bound : c.in-Some-checked_add.bound ≡ c.args.going.now.state.bound + length c.args.met.now = omega (arith, c.in-Some-checked_add.ensures, c.len.ensures) in
    body_ok c.args.functions.now c.args.frozen.now c.body_begun.result c.args.going.now c.body_begun.new.going c.args.budget c.args.f.now c.args.args.now c.as_slice.result.now c.args.met.now c.as_slice-2.result.now (body_of c.args.known.now.function.value) c.args.place c.in-Some.room c.in-Some-checked_add.bound c.in-Ok-scope.scope c.scope.new.self c.names_bound.new.heap c.in-Ok.own c.first_of.result c.new.result (steps_of (out-Function c.deref.result.now).body)
    (c.in-Ok.ensures ∙ c.requires.own) (body_block c.deref.result.now ∙ ap (λ (z : Function). body_steps (body_of z)) c.deref.ensures) room bound c.as_slice.ensures c.first_of.ensures c.new.ensures c.in-Ok-scope.ensures c.as_slice-2.ensures c.in-Ok-names_bound.ensures c.body_begun.ensures.moves

pub returns-in-Err-names_bound-clause-moves : goal.returns-in-Err-names_bound-clause-moves
returns-in-Err-names_bound-clause-moves c =
    let room : c.args.going.now.state.here.room ≡ suc c.in-Some.room = omega (arith, c.in-Some.ensures) in
    rw c.told-in-Err-names_bound.ensures (body_err c.args.functions.now c.args.frozen.now c.args.going.now (record c.args.going.now { state = record c.args.going.now.state { heap = c.names_bound.new.heap } }) c.args.budget c.args.f.now c.args.args.now c.args.met.now c.as_slice-2.result.now (body_of c.args.known.now.function.value) c.args.place c.in-Some.room c.in-Ok-scope.scope c.scope.new.self c.in-Ok.own c.in-Err-names_bound.e
    (c.in-Ok.ensures ∙ c.requires.own) room c.in-Ok-scope.ensures c.as_slice-2.ensures c.in-Err-names_bound.ensures refl)
