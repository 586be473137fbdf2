-- Small programs, worked out by hand: what they ask, and what they cost.
use Rattle.std.proofs.Common.{◌≡◌, ℕ, refl, List, [], ◌∷◌, pos}
use Rattle.std.specs.Prelude.{codes, Option, Some, None}
use Rattle.amh_host.specs.declared.place.Place.{Place}
use Rattle.py_tree.specs.declared.expr.Operator.TheVariants as sign
use Rattle.py_tree.specs.Tree.{Name, Number, ListOf, Trailed, Binary, none, some, no_link, link, absent, each, no_trailer, trailer, Call, no_argument, argument, Positional}
use Rattle.py_tree.specs.Steps.{Steps, last, next, Assign}
use Rattle.py_values.specs.declared.val.Val.{Val}
use Rattle.py_values.specs.declared.val.Val.TheVariants as val
use Rattle.py_heap.specs.Heaps.{row_at, seen, nothing}
use Rattle.py_heap.specs.Names as names
use Rattle.py_frames.specs.declared.request.Answer.TheVariants as answer
use Rattle.py_frames.specs.declared.request.Act.TheVariants as act
use Rattle.py_frames.specs.declared.request.Act.{Act}
use Rattle.py_frames.specs.declared.state.Halt.TheVariants as halt
use Rattle.py_frames.specs.Doing.{World, Outcome, Halts}
use Rattle.py_frames.specs.Whole.{ask_program}

abbrev pub column : ℕ → Place
column n = record { line = 1; col = n }

-- x = [i * i for i in range(4)]
abbrev pub squares : Steps
squares = next
    (Assign (column 1) (some (Name (column 1) (codes "x")) none)
    (ListOf (column 5)
    (Binary (column 6) (Name (column 6) (codes "i")) (link sign.Mul (Name (column 10) (codes "i")) no_link))
    (each (Name (column 16) (codes "i"))
    (Trailed (column 21) (Name (column 21) (codes "range")) (trailer (Call (argument (Positional (Number (column 27) 4)) no_argument)) no_trailer))
    absent)))
    last

-- what a reader sees of an outcome: the act and the names, the items of the first value, and the cost
abbrev pub items_of_first : Outcome → List Val → List Val
items_of_first (Halts h s) (val.List o ∷ vs) = row_at (seen nothing s.heap) o.0
items_of_first o vs = []

abbrev pub told_of : Outcome → Option ((Act × List (List ℕ)) × (List Val × ℕ))
told_of (Halts (halt.Asks r) s) = Some ((r.act, r.names), (items_of_first (Halts (halt.Asks r) s) r.vals, s.used))
told_of o = None

abbrev pub stopped_of : Outcome → Option ((Place × ℕ))
stopped_of (Halts (halt.Stopped stop) s) = Some (stop.place, s.used)
stopped_of o = None

abbrev pub world : ℕ → World
world n = record { budget = n; answers = answer.Begin ∷ [] }

pub squares-asked : told_of (ask_program squares (world 100)) ≡ Some ((act.BodyEnd, codes "x" ∷ []), (val.Int (pos 0) ∷ val.Int (pos 1) ∷ val.Int (pos 4) ∷ val.Int (pos 9) ∷ [], 21))
unfolding names.in_chain Rattle.py_frames.specs.Expressions.elements_made Rattle.py_frames.specs.Asking.asked
squares-asked = refl

-- with 3 units the third is not carried out: it is the name of the range
pub squares-spent : stopped_of (ask_program squares (world 3)) ≡ Some (column 21, 3)
squares-spent = refl
