-- A statement's units, and what it means once they are spent.
-- Internal: no rule of the language.
use Rattle.std.specs.Prelude.{ℕ, List, [], ◌∷◌, ◌++◌, Bool, true, false, Option, Some, None}
use Rattle.amh_host.specs.declared.place.Place.{Place}
use Rattle.py_tree.specs.Tree.{Perhaps}
use Rattle.py_tree.specs.Steps.{Step, Pass, Break, Continue, Return, Assert, Raise, ImportAll, Import, Assign, Annotate, Augment, Evaluate, If, While, For, With, Def, Class}
use Rattle.py_frames.specs.declared.request.Cause.TheVariants.{Raised}
use Rattle.py_values.specs.declared.val.Val.{Val}
use Rattle.py_frames.specs.declared.state.Got.{Got}
use Rattle.py_frames.specs.declared.state.Got.TheVariants.{Value, Next, Broke, Continued, Returned}
use Rattle.py_frames.specs.declared.frame.StmtFrame.{StmtFrame}
use Rattle.py_frames.specs.declared.frame.StmtFrame.TheVariants as stmt
use Rattle.py_frames.specs.declared.frame.Purpose.TheVariants.{Plain}
use Rattle.py_frames.specs.Doing.{Doing, Known, ◌>>=◌, and_then, then_do, came, stop, choose, spend}
use Rattle.py_frames.specs.Asking.{most}
use Rattle.py_frames.specs.Functions.{named_val}
use Rattle.py_frames.specs.Own.{steps_names}
use Rattle.py_frames.specs.Parts.{operator_of, place_of}
use Rattle.py_frames.specs.Values.{truth_of, as_row}
use Rattle.py_frames.specs.Expressions.{value_of, perhaps_value}
use Rattle.py_frames.specs.Statements.{all_imported, imported, dotted, purpose_of, assigned, annotated, assign_annotated, augment, while_turns, for_loop, with_thing, defined, bases_then, base_of, class_begun, asserted, turn_on, run_all, run_branches, run_else}

-- how many units a statement spends where it begins
abbrev pub step_cost : Step → ℕ
step_cost (Augment p t o e) = 2
step_cost s = 1

-- the place of a statement
abbrev pub step_place : Step → Place
step_place (Pass p) = p
step_place (Break p) = p
step_place (Continue p) = p
step_place (Return p e) = p
step_place (Assert p e m) = p
step_place (Raise p e) = p
step_place (ImportAll p path) = p
step_place (Import p path names) = p
step_place (Assign p ts e) = p
step_place (Annotate p t a e) = p
step_place (Augment p t o e) = p
step_place (Evaluate p e) = p
step_place (If p bs b) = p
step_place (While p e b) = p
step_place (For p ts e b) = p
step_place (With p e t b) = p
step_place (Def p f) = p
step_place (Class p n a b) = p

-- what `return` means, with a value or without one
abbrev pub return_value : Known → Perhaps → Doing
return_value k e = do
  v ← perhaps_value k e
  came (Returned v)

-- what a statement means, its units spent
abbrev pub run_after : Known → Step → Doing
run_after k (Pass p) = came Next
run_after k (Break p) = came Broke
run_after k (Continue p) = came Continued
run_after k (Return p e) = return_value k e
run_after k (Assert p t message) = do
  x ← value_of k Plain t
  truth_of k x (place_of t) (λ b. choose b (came Next) (asserted k p message))
run_after k (Raise p e) = stop Raised p
run_after k (ImportAll p path) = all_imported k (dotted path) p
run_after k (Import p path names) = imported k (dotted path) p names
run_after k (Assign p ts t) = do
  v ← value_of k (purpose_of ts) t
  assigned k ts v
run_after k (Annotate p target t e) = and_then (assign_annotated k target e) (annotated k p target t)
run_after k (Augment p target o t) = augment k target p (operator_of o) t
run_after k (Evaluate p t) = do
  _ ← value_of k Plain t
  came Next
run_after k (If p bs b) = run_branches k bs (run_else k b)
run_after k (While p t b) = while_turns most k t (run_all k b) p
run_after k (For p ts t b) = do
  x ← value_of k Plain t
  row ← as_row k x p
  for_loop k row ts (run_all k b) p
run_after k (With p t target b) = do
  x ← value_of k Plain t
  with_thing k x target (run_all k b) p
run_after k (Def p f) = defined k p f
run_after k (Class p name arguments b) = bases_then k p arguments (λ vs keywords. class_begun k (base_of vs) name keywords (steps_names b) (run_all k b) p)

-- whether a frame of a statement waits for more than a value
abbrev pub takes_any : StmtFrame → Bool
takes_any (stmt.Block b n) = true
takes_any (stmt.AllImported p) = true
takes_any (stmt.Assigning s n v) = true
takes_any (stmt.Annotating s) = true
takes_any (stmt.WhileBody s n) = true
takes_any (stmt.ForBound s w) = true
takes_any (stmt.ForBody s w) = true
takes_any (stmt.WithBound s x) = true
takes_any (stmt.WithBody x p) = true
takes_any f = false

-- the value that has come
abbrev pub value_come : Got → Option Val
value_come (Value v) = Some v
value_come got = None

-- whether what has come leaves a block
abbrev pub leaves : Got → Bool
leaves Broke = true
leaves Continued = true
leaves (Returned v) = true
leaves got = false

-- what a loop comes to where a turn ends it
abbrev pub loop_left : Got → Option Got
loop_left (Returned v) = Some (Returned v)
loop_left Broke = Some Next
loop_left got = None

-- a turn whose test holds
abbrev pub while_body : Known → ℕ → Step → Doing
while_body k n (While p t b) = spend p (then_do (run_all k b) (λ got. turn_on got (while_turns n k t (run_all k b) p)))
while_body k n step = came Next

-- the annotation of a name is kept
abbrev pub note_named : List ℕ → Val → Doing
note_named name v = λ w s. came Next w (record s { here = record s.here { notes = s.here.notes ++ named_val name v ∷ [] } })

-- whether a frame waits for a part of an augmented assignment
abbrev pub changes : StmtFrame → Bool
changes (stmt.AugmentIndex s x) = true
changes (stmt.AugmentOld s c) = true
changes (stmt.AugmentRight s c x) = true
changes (stmt.AugmentNew s c) = true
changes f = false

-- whether a statement is an `if`, or an assignment
abbrev pub is_if : Step → Bool
is_if (If p bs b) = true
is_if s = false

abbrev pub is_assign : Step → Bool
is_assign (Assign p ts e) = true
is_assign s = false
