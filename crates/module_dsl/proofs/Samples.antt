-- Small modules, by computation.
use Rattle.std.specs.Prelude.{◌≡◌, refl, ℕ, Bool, true, false, List, [], ◌∷◌, ℤ, pos, Some, None, codes}
use Rattle.shape_rules.specs.Forms.{unsigned}
use Rattle.design_ir.specs.declared.ids.ExprId.{ExprId}
use Rattle.design_ir.specs.declared.process.Side.{Side}
use Rattle.design_ir.specs.declared.process.Side.TheVariants.{Comb, Clocked}
use Rattle.design_ir.specs.declared.expr.Expr.TheVariants.{Const, Slice, Cat, Unary, Matches, Reset}
use Rattle.design_ir.specs.Pools.{Pooled}
use Rattle.design_ir.specs.Trees.{Statement, assign, choose, none, arm, done, next}
use Rattle.design_ir.specs.Values.{form, num}
use Rattle.design_ir.specs.Targets.{target_bits, is_target, is_open_target}
use Rattle.shape_rules.specs.declared.op.Op.TheVariants as op
use Rattle.design_ir.proofs.SanityParts.{signal, s}
use Rattle.module_dsl.specs.declared.refusal.BuildStop.TheVariants.{NotTarget}
use Rattle.module_dsl.specs.Builders.{Built, assign_refusal}
use Rattle.module_dsl.specs.declared.step.Step.{Step}
use Rattle.module_dsl.specs.declared.step.Step.TheVariants.{Assign, Enter, Leave}
use Rattle.module_dsl.specs.declared.step.Opening.TheVariants as opening
use Rattle.module_dsl.specs.Blocks.{blocks_of, entries_of}
use Rattle.module_dsl.specs.Sided.{processes_of, statement_count, carried_out}

e : ℕ → ExprId
e n = record { 0 = n }

set : ℕ → ℕ → Statement
unfolding e
set target value = assign (e target) (e value) (record { line = 1; col = 1 })

to : Side → ℕ → ℕ → Step
unfolding e
to side target value = Assign side (e target) (e value) (record { line = 1; col = 1 })

sync : Side
sync = Clocked (codes "sync")

-- ---- sides

-- two statements of `sync` round one of `comb`: `sync` comes first, with both of its statements
two_sides : processes_of (entries_of (blocks_of (to sync 1 0 ∷ to Comb 2 0 ∷ to sync 3 0 ∷ []))) ≡ record { side = sync; body = next (set 1 0) (next (set 3 0) done) } ∷ record { side = Comb; body = next (set 2 0) done } ∷ []
unfolding to set sync e blocks_of
two_sides = refl

-- ---- `If`, `Elif` and `Else`, in two sides: each keeps all three branches

chain : List Step
unfolding to sync e
chain =
    Enter (opening.If (e 10)) ∷ to Comb 1 0 ∷ Leave
    ∷ Enter (opening.Elif (e 11)) ∷ to sync 2 0 ∷ Leave
    ∷ Enter (opening.Else (e 12)) ∷ to Comb 3 0 ∷ Leave ∷ to sync 4 0 ∷ []

chain_processes : processes_of (entries_of (blocks_of chain))
    ≡ record { side = Comb; body = next (choose (arm (e 10) (next (set 1 0) done) (arm (e 11) done (arm (e 12) (next (set 3 0) done) none)))) done }
    ∷ record { side = sync; body = next (choose (arm (e 10) done (arm (e 11) (next (set 2 0) done) (arm (e 12) done none)))) (next (set 4 0) done) } ∷ []
unfolding chain to set sync e blocks_of
chain_processes = refl

-- four statements, and the choice once for each side
chain_count : statement_count (entries_of (blocks_of chain)) ≡ 6
unfolding chain to sync e blocks_of
chain_count = refl

-- a statement between them: the second `If` is a choice of its own
apart : processes_of (entries_of (blocks_of (Enter (opening.If (e 10)) ∷ to Comb 1 0 ∷ Leave ∷ Enter (opening.If (e 11)) ∷ to Comb 2 0 ∷ Leave ∷ [])))
    ≡ record { side = Comb; body = next (choose (arm (e 10) (next (set 1 0) done) none)) (next (choose (arm (e 11) (next (set 2 0) done) none)) done) } ∷ []
unfolding to set e blocks_of
apart = refl

-- ---- `Switch`: the default in the middle hides what comes after it, and the case without statements stays

cases : List Step
unfolding to e
cases =
    Enter (opening.Switch (e 20)) ∷ Enter (opening.Case (e 21)) ∷ Leave ∷ Enter (opening.Case (e 22)) ∷ to Comb 1 0 ∷ Leave ∷ Enter (opening.Case (e 23)) ∷ to Comb 2 0 ∷ Leave ∷ Leave ∷ []

cases_processes : processes_of (entries_of (blocks_of cases)) ≡ record { side = Comb; body = next (choose (arm (e 21) done (arm (e 22) (next (set 1 0) done) (arm (e 23) (next (set 2 0) done) none)))) done } ∷ []
unfolding cases to set e blocks_of
cases_processes = refl

-- ---- blocks in blocks: what has no statement falls away

nested : List Step
unfolding to sync e
nested =
    Enter (opening.If (e 10)) ∷ Enter (opening.If (e 11)) ∷ to sync 1 0 ∷ Leave ∷ Enter (opening.Switch (e 12)) ∷ Enter (opening.Case (e 13)) ∷ Leave ∷ Leave ∷ to Comb 2 0 ∷ Leave ∷ []

nested_processes : processes_of (entries_of (blocks_of nested))
    ≡ record { side = sync; body = next (choose (arm (e 10) (next (choose (arm (e 11) (next (set 1 0) done) none)) done) none)) done }
    ∷ record { side = Comb; body = next (choose (arm (e 10) (next (set 2 0) done) none)) done } ∷ []
unfolding nested to set sync e blocks_of
nested_processes = refl

-- two statements, one inner choice, and the outer one for both sides
nested_count : statement_count (entries_of (blocks_of nested)) ≡ 5
unfolding nested to sync e blocks_of
nested_count = refl

-- ---- what blocks mean

-- x of three bits as expression 0, y of eight bits as 1, and the numbers 5, 6, 7 and 1; then whether x is 2 or more, and
-- whether it is odd
numbers : Pooled
unfolding e
numbers = record {
  signals = signal (unsigned 3) (pos 0) ∷ signal (unsigned 8) (pos 0) ∷ [];
  exprs = s 0 ∷ s 1 ∷ Const (pos 5) (unsigned 8) ∷ Const (pos 6) (unsigned 8) ∷ Const (pos 7) (unsigned 8) ∷ Const (pos 1) (unsigned 1)
      ∷ Matches (e 0) (record { mask = 6; bits = 2 } ∷ record { mask = 4; bits = 4 } ∷ [])
      ∷ Matches (e 0) (record { mask = 1; bits = 1 } ∷ [])
      ∷ [];
}

-- y is 5 where x is 2 or more, else 6 where it is odd, else 7
choice : List Step
unfolding to e
choice = Enter (opening.If (e 6)) ∷ to Comb 1 2 ∷ Leave ∷ Enter (opening.Elif (e 7)) ∷ to Comb 1 3 ∷ Leave ∷ Enter (opening.Else (e 5)) ∷ to Comb 1 4 ∷ Leave ∷ []

meaning : List ℤ → List ℤ
unfolding numbers choice blocks_of
meaning env = carried_out numbers env Comb (entries_of (blocks_of choice)) env

first_holds : (meaning (pos 3 ∷ pos 0 ∷ []) ≡ pos 3 ∷ pos 5 ∷ []) × (meaning (pos 1 ∷ pos 0 ∷ []) ≡ pos 1 ∷ pos 6 ∷ []) × (meaning (pos 0 ∷ pos 0 ∷ []) ≡ pos 0 ∷ pos 7 ∷ [])
unfolding meaning numbers choice to e blocks_of form num target_bits
first_holds = (refl, refl, refl)

-- ---- targets: a reset is one, and what is made of it, though none of them is one of a design; its complement is none

resets : Pooled
unfolding e
resets = record {
  signals = signal (unsigned 3) (pos 0) ∷ [];
  exprs = s 0 ∷ Reset (codes "sync") (record { line = 1; col = 1 }) ∷ Slice (e 1) 0 1 ∷ Cat (e 0 ∷ e 1 ∷ []) ∷ Unary op.Not (e 1) ∷ [];
}

a_module : Built
a_module = record { name = codes "top"; steps = [] }

resets_are_targets : (is_open_target resets 0 ≡ true) × (is_open_target resets 1 ≡ true) × (is_open_target resets 2 ≡ true) × (is_open_target resets 3 ≡ true) × (is_open_target resets 4 ≡ false) × (is_target resets 1 ≡ false) × (is_target resets 3 ≡ false)
unfolding resets e is_open_target is_target
resets_are_targets = (refl, refl, refl, refl, refl, refl, refl)

resets_are_assigned : (assign_refusal resets a_module sync (e 3) (e 0) (record { line = 1; col = 1 }) ≡ None) × (assign_refusal resets a_module sync (e 4) (e 0) (record { line = 1; col = 1 }) ≡ Some NotTarget)
unfolding resets a_module sync e is_open_target blocks_of
resets_are_assigned = (refl, refl)
