use Rattle.std.proofs.Common.{◌≡◌, suc, ◌+◌, ◌-◌, sym, ◌∙◌, arith}
use Rattle.py_heap.specs.Heaps.{seen}
use Rattle.py_heap.specs.Names.{in_chain}
use Rattle.py_heap.proofs.ScopeLaws.{chain_past, chain_lost, chain_turn, chain_end}
use Rattle.py_heap.proofs.heap.Heap.in_chain.Goals as goal

pub returns-in_default : goal.returns-in_default
returns-in_default c =
    sym (chain_past (seen c.args.frozen.now c.args.self.now) c.args.name.now (c.args.scopes - c.loop-turn._turn) c.loop-turn.at c.in_default.is) ∙ c.loop-turn.invariant

pub returns-in_default-scope_at : goal.returns-in_default-scope_at
returns-in_default-scope_at c =
    sym (chain_lost (seen c.args.frozen.now c.args.self.now) c.args.name.now (c.args.scopes - c.loop-turn._turn) c.loop-turn.at c.in-Some.id c.in-Some.is c.in_default-scope_at.ensures) ∙ c.loop-turn.invariant

pub returns-in-Some-told : goal.returns-in-Some-told
returns-in-Some-told c =
    let one_more : c.args.scopes - c.loop-turn._turn ≡ suc (c.args.scopes - (c.loop-turn._turn + 1)) = omega arith in
    sym (chain_turn (seen c.args.frozen.now c.args.self.now) c.args.name.now (c.args.scopes - c.loop-turn._turn) (c.args.scopes - (c.loop-turn._turn + 1)) c.loop-turn.at c.in-Some.id c.in-Some-scope_at.scope.now c.in-Some-told.meaning one_more c.in-Some.is c.in-Some-scope_at.ensures (c.in-Some-told.ensures _)) ∙ c.loop-turn.invariant

pub returns : goal.returns
returns c =
    let none : c.args.scopes - c.loop-turn._turn ≡ 0 = omega arith in
    sym (chain_end (seen c.args.frozen.now c.args.self.now) c.args.name.now (c.args.scopes - c.loop-turn._turn) c.loop-turn.at none) ∙ c.loop-turn.invariant

pub loop-turn-preserved : goal.loop-turn-preserved
loop-turn-preserved c =
    let one_more : c.args.scopes - c.loop-turn._turn ≡ suc (c.args.scopes - (c.loop-turn._turn + 1)) = omega arith in
    sym (chain_turn (seen c.args.frozen.now c.args.self.now) c.args.name.now (c.args.scopes - c.loop-turn._turn) (c.args.scopes - (c.loop-turn._turn + 1)) c.loop-turn.at c.in-Some.id c.in-Some-scope_at.scope.now (in_chain (c.args.scopes - (c.loop-turn._turn + 1)) (seen c.args.frozen.now c.args.self.now) c.args.name.now c.in-Some-scope_at.scope.now.enclosing) one_more c.in-Some.is c.in-Some-scope_at.ensures (c.in_default-told.ensures _)) ∙ c.loop-turn.invariant
