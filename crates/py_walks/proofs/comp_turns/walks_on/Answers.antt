-- There is an element more, or none, or no turn more, or the size has changed.
use Rattle.std.proofs.Common.{◌≡◌, refl, arith}
use Rattle.py_walks.specs.Walk_parts.{comp_seen}
use Rattle.py_walks.proofs.CompLaws.{walk_out, walk_resized, walk_turns, walk_over}
use Rattle.py_walks.proofs.comp_turns.walks_on.Goals as goal

pub returns-then-walk-eq0-clause-moves : goal.returns-then-walk-eq0-clause-moves
returns-then-walk-eq0-clause-moves c = rw c.stopped.ensures (walk_out c.args.functions.now c.args.frozen.now c.args.going.now c.args.budget (comp_seen c.args.parts.now) c.args.walk.now c.args.outer c.args.done c.args.parts.now.place refl c.if-walk-eq0.true)

pub returns-then-row_size-walk-clause-moves : goal.returns-then-row_size-walk-clause-moves
returns-then-row_size-walk-clause-moves c =
    let ne : (c.args.walk.now.turns ≡ 0 → ⊥) = λ e. omega arith in
    let q : (c.row_size.result ≡ c.args.walk.now.size → ⊥) = λ e. omega arith in
    rw c.stopped-then-row_size-walk.ensures (walk_resized c.args.functions.now c.args.frozen.now c.args.going.now c.args.budget c.row_size.result (comp_seen c.args.parts.now) c.args.walk.now c.args.outer c.args.done c.args.parts.now.place refl ne c.row_size.ensures q)

pub returns-in-Some-clause-moves : goal.returns-in-Some-clause-moves
returns-in-Some-clause-moves c =
    let ne : (c.args.walk.now.turns ≡ 0 → ⊥) = λ e. omega arith in
    let q : c.row_size.result ≡ c.args.walk.now.size = omega arith in
    walk_turns c.args.functions.now c.args.frozen.now c.element_turn.result c.args.going.now c.element_turn.new.going c.args.budget c.row_size.result (comp_seen c.args.parts.now) c.args.walk.now c.args.outer c.args.done c.in-Some.v ne c.row_size.ensures q c.in-Some.ensures c.element_turn.ensures.moves

pub returns-in-None-clause-moves : goal.returns-in-None-clause-moves
returns-in-None-clause-moves c =
    let ne : (c.args.walk.now.turns ≡ 0 → ⊥) = λ e. omega arith in
    let q : c.row_size.result ≡ c.args.walk.now.size = omega arith in
    walk_over c.args.functions.now c.args.frozen.now c.walk_ends.result c.args.going.now c.walk_ends.new.going c.args.budget c.row_size.result (comp_seen c.args.parts.now) c.args.walk.now c.args.outer c.args.done ne c.row_size.ensures q c.in-None.ensures c.walk_ends.ensures.moves
