-- A state machine of a module, and the expressions that it makes. (Amaranth guide, Finite state machines: the state is a
-- register of the machine's domain, and `ongoing` tells whether the machine is in a state.)
use Rattle.std.specs.Prelude.{◌≡◌, ℕ, ◌+◌, ◌-◌, ◌^◌, ◌<◌, true, false, List, [], ◌∷◌, map, length, Option, Some, None, slice_get, pos, MatchOption, IsSome}
use Rattle.std.specs.List.{AllByRecursion, IsDistinct}
use Rattle.lists.specs.Texts.{text_eq}
use Rattle.amh_host.specs.declared.place.Place.{Place}
use Rattle.shape_rules.specs.Forms.{unsigned}
use Rattle.design_ir.specs.declared.ids.ExprId.{ExprId}
use Rattle.design_ir.specs.declared.ids.SigId.{SigId}
use Rattle.design_ir.specs.declared.signal.Sig.{Sig}
use Rattle.design_ir.specs.declared.expr.Pattern.{Pattern}
use Rattle.design_ir.specs.declared.expr.Expr.{Expr}
use Rattle.design_ir.specs.declared.expr.Expr.TheVariants.{Const, Matches}
use Rattle.design_ir.specs.declared.expr.Expr.TheVariants as expr
use Rattle.design_ir.specs.declared.process.Side.{Side}
use Rattle.design_ir.specs.Pools.{Pooled}
use Rattle.module_dsl.specs.Blocks.{Open}
use Rattle.module_dsl.specs.declared.step.OpenBlock.{OpenBlock}
use Rattle.module_dsl.specs.declared.step.OpenBlock.TheVariants as inside
use Rattle.fsm_lowering.specs.declared.states.State.{State}
use Rattle.fsm_lowering.specs.declared.states.Stage.{Stage}
use Rattle.fsm_lowering.specs.States.{range_width}

pub record Machine : Type 0 where
  -- the side whose statements change the state
  pub side : Side
  -- the first state, where it was given
  pub init : Option (List ℕ)
  pub place : Place
  -- the signal that has the number of the state, and the expression that stands for it
  pub signal : SigId
  pub register : ExprId
  -- state k has the number k
  pub states : List State
  -- the number of the state that was entered first
  pub first : Option ℕ
  pub stage : Stage

-- ---- what a machine's states keep to

pub record AreStates (states : List State) (first : Option ℕ) : Type 0 where
  pub few : length states < 257
  pub distinct : IsDistinct text_eq (map (λ (s : State). s.name) states)
  -- the first is among them, and without it none was entered
  pub begun : MatchOption first (AllByRecursion (λ (s : State). s.entered ≡ false) states) (λ n. n < length states)
  -- each that was entered has a condition
  pub conditions : AllByRecursion (λ (s : State). s.entered ≡ true → IsSome s.condition) states

-- ---- the register

-- a signal without bits
abbrev pub no_bits : List ℕ → Sig
no_bits name = record { name = name; shape = unsigned 0; init = pos 0; reset_less = false }

-- the pool has this machine's register
abbrev pub HasRegister : Pooled → Machine → Type 0
HasRegister q m = slice_get q.exprs m.register.0 ≡ Some (expr.Sig m.signal)

-- ---- expressions

-- All bits are compared, so the pattern is that of n at every width that has n.
abbrev pub number_pattern : ℕ → Pattern
number_pattern n = record { mask = 2 ^ 128 - 1; bits = n }

-- 1 where the register has the number n
abbrev pub in_state : Machine → ℕ → Expr
in_state m n = Matches m.register (number_pattern n ∷ [])

-- the number n, in the least shape that has it
abbrev pub state_number : ℕ → Expr
state_number n = Const (pos n) (unsigned (range_width (n + 1)))

-- ---- the blocks of the module

-- the subject of the innermost block, where this is a `Switch`
abbrev pub switch_block : OpenBlock → Option ExprId
switch_block (inside.Branch c) = None
switch_block (inside.Last c) = None
switch_block (inside.Switch v) = Some v
switch_block (inside.Case v c) = None

abbrev pub open_switch : List Open → Option ExprId
open_switch [] = None
open_switch (o ∷ around) = switch_block o.block

-- the subject of the innermost block, where this is a case
abbrev pub case_block : OpenBlock → Option ExprId
case_block (inside.Branch c) = None
case_block (inside.Last c) = None
case_block (inside.Switch v) = None
case_block (inside.Case v c) = Some v

abbrev pub open_case : List Open → Option ExprId
open_case [] = None
open_case (o ∷ around) = case_block o.block
