-- What holds of every state machine.
-- Internal: no rule of the language.
use Rattle.std.specs.Prelude.{◌<◌, ◌^◌, pos, slice_index_or, ◌≡◌, ℕ, ◌==◌, ◌≢◌, true, false, if◌then◌else◌, List, [], ◌∷◌, length, ℤ, Option, Some, slice_get}
use Rattle.std.specs.List.{AllByRecursion}
use Rattle.amh_bits.specs.Patterns.{pattern}
use Rattle.shape_rules.specs.Forms.{Form}
use Rattle.design_ir.specs.declared.ids.ExprId.{ExprId}
use Rattle.design_ir.specs.declared.signal.Sig.{Sig}
use Rattle.design_ir.specs.declared.expr.Expr.{Expr}
use Rattle.design_ir.specs.declared.process.Side.{Side}
use Rattle.design_ir.specs.Pools.{Pooled}
use Rattle.design_ir.specs.PoolRules.{IsPool, signal_added, expr_added}
use Rattle.design_ir.specs.Settling.{IsUnsettled, is_signal, is_match, names_place, signal_settled}
use Rattle.design_ir.specs.Values.{form, num, signal_form}
use Rattle.design_ir.specs.Designs.{IsAddressWidth}
use Rattle.module_dsl.specs.declared.step.OpenBlock.TheVariants.{Switch, Case}
use Rattle.module_dsl.specs.Blocks.{Entries, nothing, Branches, none, branch, and_branch, Open, content, ended}
use Rattle.module_dsl.specs.Builders.{Built, built_blocks, and_left}
use Rattle.module_dsl.specs.Sided.{carried_out, first_active}
use Rattle.fsm_lowering.specs.declared.states.State.{State}
use Rattle.fsm_lowering.specs.States.{is_known, number_of, range_width}
use Rattle.fsm_lowering.specs.Machines.{Machine, AreStates, HasRegister, in_state, state_number}
use Rattle.fsm_lowering.specs.Calls.{is_begun, with_choice, with_case, with_end}

-- ---- the numbers of states

-- state k has the number k, so no two states have one number
abbrev pub StatesAreNumbered : Type 0
StatesAreNumbered = (states : List State) (first : Option ℕ) (k : ℕ) (s : State) → AreStates states first → slice_get states k ≡ Some s → number_of states s.name ≡ k

-- and each number is of the register's shape, which is the least that has them all
abbrev pub NumbersFit : Type 0
NumbersFit = (states : List State) (first : Option ℕ) (name : List ℕ) → AreStates states first → is_known states name ≡ true → number_of states name < 2 ^ range_width (length states)

abbrev pub WidthsAreLeast : Type 0
WidthsAreLeast = (count : ℕ) → count < 257 → IsAddressWidth count (range_width count)

-- ---- the register while it has no shape

-- it is not the signal, and names the signal's expression only as a `Matches`
pub record IsApart (q : Pooled) (s : ℕ) (e : Expr) : Type 0 where
  pub other : is_signal s e ≡ false
  pub over : (j : ℕ) (x : Expr) → slice_get q.exprs j ≡ Some x → is_signal s x ≡ true → names_place e j ≡ true → is_match e ≡ true

-- what others may do to the pool before the machine ends
abbrev pub SignalsLeaveItUnsettled : Type 0
SignalsLeaveItUnsettled = (q : Pooled) (s : ℕ) (x : Sig) → IsUnsettled q s → IsUnsettled (signal_added q x) s

abbrev pub ExpressionsLeaveItUnsettled : Type 0
ExpressionsLeaveItUnsettled = (q : Pooled) (s : ℕ) (e : Expr) → IsUnsettled q s → IsApart q s e → IsUnsettled (expr_added q e) s

abbrev pub OthersLeaveItUnsettled : Type 0
OthersLeaveItUnsettled = (q : Pooled) (s t : ℕ) (f : Form) (n : ℤ) → t ≢ s → IsUnsettled q s → IsUnsettled (signal_settled q t f n) s

-- what the machine itself does
abbrev pub CallsLeaveItUnsettled : Type 0
CallsLeaveItUnsettled = (q : Pooled) (s : ℕ) (m : Machine) (n : ℕ) → IsApart q s (in_state m n) × IsApart q s (state_number n)

-- ---- one choice over the register

-- how the blocks go on, where the choice over the register is the innermost block, or one of its cases is
pub record MakesOneChoice (q : Pooled) (m : Machine) (b : Built) : Type 0 where
  -- the first state begins it
  pub begins : is_begun m ≡ false → (built_blocks (with_choice q m b)).around ≡ record { before = content (built_blocks b); branches = none; block = Switch m.register } ∷ (built_blocks b).around
  -- each state is a case more
  pub case_begins : (name : List ℕ) (before : Entries) (branches : Branches) (around : List Open) →
      (built_blocks (with_choice q m b)).around ≡ record { before = before; branches = branches; block = Switch m.register } ∷ around →
      built_blocks (with_case q m b name) ≡ record { entries = nothing; chain = none; around = record { before = before; branches = branches; block = Case m.register (record { 0 = length q.exprs }) } ∷ around }
  -- whose statements are those that stand there when it ends
  pub case_ends : (condition : ExprId) (before : Entries) (branches : Branches) (around : List Open) →
      (built_blocks b).around ≡ record { before = before; branches = branches; block = Case m.register condition } ∷ around →
      built_blocks (and_left b) ≡ record { entries = nothing; chain = none; around = record { before = before; branches = and_branch branches condition (content (built_blocks b)); block = Switch m.register } ∷ around }
  -- and then the choice stands in the module
  pub ends : (before : Entries) (branches : Branches) (around : List Open) → is_begun m ≡ true →
      (built_blocks b).around ≡ record { before = before; branches = branches; block = Switch m.register } ∷ around →
      built_blocks (with_end m b) ≡ record { entries = ended before branches; chain = none; around = around }

abbrev pub StatesMakeOneChoice : Type 0
StatesMakeOneChoice = (q : Pooled) (m : Machine) (b : Built) → MakesOneChoice q m b

-- ---- what the choice means

-- a state that was entered: its number, its condition and its statements
pub record Entered : Type 0 where
  pub number : ℕ
  pub condition : ExprId
  pub body : Entries

abbrev pub branches_of : List Entered → Branches
branches_of [] = none
branches_of (x ∷ xs) = branch x.condition x.body (branches_of xs)

-- the number in the register
abbrev pub register_number : Pooled → List ℤ → Machine → ℕ
register_number q env m = pattern (form q m.register.0).width (num q env m.register.0)

-- where the signal has a number of its shape, this is the number
abbrev pub RegisterIsTheSignal : Type 0
RegisterIsTheSignal =
    (q : Pooled) (env : List ℤ) (m : Machine) (n : ℕ) → IsPool q → HasRegister q m → slice_index_or env m.signal.0 (pos 0) ≡ pos n → n < 2 ^ (signal_form q.signals m.signal.0).width → register_number q env m ≡ n

-- the statements of the state with this number, and none where there is none
abbrev pub carried_out_in : Pooled → List ℤ → Side → ℕ → List Entered → List ℤ → List ℤ
carried_out_in q env side n [] cur = cur
carried_out_in q env side n (x ∷ xs) cur = if n == x.number then carried_out q env side x.body cur else carried_out_in q env side n xs cur

abbrev pub HasConditions : Pooled → Machine → List Entered → Type 0
HasConditions q m xs = AllByRecursion (λ (x : Entered). slice_get q.exprs x.condition.0 ≡ Some (in_state m x.number)) xs

-- where the register has the number of a state, the statements of that state are carried out
abbrev pub OneStateIsCarriedOut : Type 0
OneStateIsCarriedOut =
    (q : Pooled) (env : List ℤ) (side : Side) (m : Machine) (xs : List Entered) (cur : List ℤ) → IsPool q → HasRegister q m → HasConditions q m xs → first_active q env side (branches_of xs) cur ≡ carried_out_in q env side (register_number q env m) xs cur
