-- Which answers a program gets, one after the other, and what is held behind them.
use Rattle.std.specs.Prelude.{◌≡◌, ℕ, List, [], ◌∷◌, ◌++◌, Option}
use Rattle.py_tree.specs.Steps.{Steps}
use Rattle.py_heap.specs.Heaps.{seen, nothing}
use Rattle.py_frames.specs.declared.request.Answer.{Answer}
use Rattle.py_frames.specs.declared.request.Answer.TheVariants as answer
use Rattle.py_frames.specs.declared.request.Request.{Request}
use Rattle.py_frames.specs.declared.state.State.{State}
use Rattle.py_frames.specs.declared.state.Halt.TheVariants as halt
use Rattle.py_frames.specs.Doing.{World, Halts}
use Rattle.py_frames.specs.Whole.{ask_program}
use Rattle.elab_store.specs.Stores.{Held, Answered, nothing_held}
use Rattle.elab_eval.specs.Table.{prim}

-- a program is given so many units and these answers
abbrev pub world : ℕ → List Answer → World
world budget given = record { budget = budget; answers = given }

-- what the table answers to a request that comes from this state
abbrev pub answered : Option (List ℕ) → Held → Request → State → Answered
answered top h r s = prim top (seen nothing s.heap) h r

-- `Begin` comes first, and nothing is held then. Where the program asks behind answers that are reached, what the table answers comes next;
-- the words may name the top.
pub data Reaches (program : Steps) (top : Option (List ℕ)) (budget : ℕ) : List Answer → Held → Type 0 where
  begins : Reaches program top budget (answer.Begin ∷ []) nothing_held
  goes_on : (given : List Answer) (h : Held) (r : Request) (s : State)
      → Reaches program top budget given h → ask_program program (world budget given) ≡ Halts (halt.Asks r) s
      → Reaches program top budget (given ++ (answered top h r s).answer ∷ []) (answered top h r s).held
