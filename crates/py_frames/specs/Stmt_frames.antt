-- How the frames of statements go on.
-- Internal: no rule of the language.
use Rattle.std.specs.Prelude.{ℕ, zero, suc, List, [], ◌∷◌, Option, Some, None}
use Rattle.amh_host.specs.declared.place.Place.{Place}
use Rattle.py_tree.specs.Programs.{step_of, steps_of}
use Rattle.py_tree.specs.Tree.{Tree, Name, Trees, none}
use Rattle.py_tree.specs.Steps.{Step, Assert, Import, Assign, Annotate, Augment, If, While, For, With, Branches, no_branch, branch, Import_name}
use Rattle.py_values.specs.declared.val.Val.{Val}
use Rattle.py_values.specs.declared.op.PyOp.{PyOp}
use Rattle.py_frames.specs.declared.request.Cause.TheVariants.{Assert as Assertion}
use Rattle.py_frames.specs.declared.state.Got.{Got}
use Rattle.py_frames.specs.declared.state.Got.TheVariants.{Next, Returned}
use Rattle.py_frames.specs.declared.frame.Purpose.TheVariants.{Plain}
use Rattle.py_frames.specs.declared.frame.Walk.{Walk}
use Rattle.py_frames.specs.declared.frame.Changed.{Changed}
use Rattle.py_frames.specs.declared.frame.Changed.TheVariants as changed
use Rattle.py_frames.specs.declared.frame.StmtFrame.{StmtFrame}
use Rattle.py_frames.specs.declared.frame.StmtFrame.TheVariants as stmt
use Rattle.py_frames.specs.Doing.{Doing, Known, ◌>>=◌, on_value, on_next, and_then, then_do, came, stop, choose, spend}
use Rattle.py_frames.specs.Own.{imported_as}
use Rattle.py_frames.specs.Parts.{operator_of, place_of, trees_from, steps_from, branches_from}
use Rattle.py_frames.specs.Values.{bind, bind_all, truth_of, on_names, indexed, store_attribute, store_index, as_row}
use Rattle.py_frames.specs.Expressions.{value_of, assign}
use Rattle.py_frames.specs.Statements.{asserted, imported, dotted, assigned, annotated, note, augmented, turn_on, while_turns, for_turns, for_loop, with_thing, assign_perhaps, left_with, run_all, run_branches, run_else}

-- ---- parts of statements

abbrev pub imports_from : ℕ → List Import_name → List Import_name
imports_from zero xs = xs
imports_from (suc n) [] = []
imports_from (suc n) (x ∷ xs) = imports_from n xs

-- a name was imported: it is bound, and then come those behind it
abbrev pub import_came : Known → List ℕ → Place → List Import_name → Val → Doing
import_came k path p [] v = came Next
import_came k path p (x ∷ xs) v = bind k (imported_as x.name x.bound) v p (imported k path p xs)

abbrev pub imported_at : Known → ℕ → Step → Val → Doing
imported_at k n (Import p path names) v = import_came k (dotted path) p (imports_from n names) v
imported_at k n step v = came Next

abbrev pub asserts : Known → Step → Val → Doing
asserts k (Assert p t message) x = truth_of k x (place_of t) (λ b. choose b (came Next) (asserted k p message))
asserts k step x = came Next

abbrev pub targets_of_step : Step → Trees
targets_of_step (Assign p ts t) = ts
targets_of_step step = none

-- the value of an annotated assignment goes to its target; what waits for that is under it
abbrev pub annotate_stored : Known → Step → Val → Doing
annotate_stored k (Annotate p target t e) v = assign k target v
annotate_stored k step v = came Next

abbrev pub annotates : Known → Step → Doing
annotates k (Annotate p target t e) = annotated k p target t
annotates k step = came Next

abbrev pub notes : Step → Val → Doing
notes (Annotate p target t e) v = note p target v
notes step v = came Next

-- ---- augmented assignments

-- what a statement changes, by its target's place, sign and right side
pub record Change : Type 0 where
  pub target : Tree
  pub at : Place
  pub sign : PyOp
  pub right : Tree

abbrev pub change_of : Step → Option Change
change_of (Augment p target o t) = Some (record { target = target; at = p; sign = operator_of o; right = t })
change_of step = None

abbrev pub with_change : Option Change → (Change → Doing) → Doing
with_change None f = came Next
with_change (Some c) f = f c

abbrev pub name_stored : Known → Tree → Val → Doing
name_stored k (Name q n) z = bind k n z q (came Next)
name_stored k t z = came Next

-- the name of an attribute that is changed stands last in the target
abbrev pub new_stored : Known → Change → Changed → Val → Doing
new_stored k c changed.Name z = name_stored k c.target z
new_stored k c (changed.Attribute x name) z = store_attribute k x name z (place_of c.target)
new_stored k c (changed.Index x i) z = store_index k x i z (place_of c.target)

abbrev pub right_came : Known → Change → Changed → Val → Val → Doing
right_came k c what old y = do
  z ← augmented k c.sign old y c.at
  new_stored k c what z

abbrev pub old_came : Known → Change → Changed → Val → Doing
old_came k c what old = do
  y ← value_of k Plain c.right
  right_came k c what old y

abbrev pub index_came : Known → Change → Val → Val → Doing
index_came k c x i = do
  old ← indexed k x i (place_of c.target)
  old_came k c (changed.Index x i) old

-- ---- blocks

abbrev pub branches_of : Step → Branches
branches_of (If p bs b) = bs
branches_of step = no_branch

abbrev pub other_of : Known → Step → Doing
other_of k (If p bs b) = run_else k b
other_of k step = came Next

-- a branch's test has come
abbrev pub branch_came : Known → Branches → Doing → Val → Doing
branch_came k no_branch other x = other
branch_came k (branch t b bs) other x = truth_of k x (place_of t) (λ c. choose c (run_all k b) (run_branches k bs other))

abbrev pub while_tested : Known → ℕ → Step → Val → Doing
while_tested k n (While p t b) x = truth_of k x (place_of t) (λ c. choose c (spend p (then_do (run_all k b) (λ got. turn_on got (while_turns n k t (run_all k b) p)))) (came Next))
while_tested k n step x = came Next

abbrev pub while_left : Known → ℕ → Step → Got → Doing
while_left k n (While p t b) got = turn_on got (while_turns n k t (run_all k b) p)
while_left k n step got = came Next

abbrev pub for_source : Known → Step → Val → Doing
for_source k (For p ts t b) x = do
  row ← as_row k x p
  for_loop k row ts (run_all k b) p
for_source k step x = came Next

abbrev pub for_row : Known → Step → Val → Doing
for_row k (For p ts t b) row = for_loop k row ts (run_all k b) p
for_row k step row = came Next

-- the turns behind those of a walk
abbrev pub for_walks : Known → Walk → Step → Doing
for_walks k w (For p ts t b) = for_turns w.turns k w.over w.next w.size ts (run_all k b) p
for_walks k w step = came Next

abbrev pub for_bound : Known → Walk → Step → Doing
for_bound k w (For p ts t b) = then_do (run_all k b) (λ got. turn_on got (for_turns w.turns k w.over w.next w.size ts (run_all k b) p))
for_bound k w step = came Next

abbrev pub with_came : Known → Step → Val → Doing
with_came k (With p t target b) x = with_thing k x target (run_all k b) p
with_came k step x = came Next

abbrev pub with_entered : Known → Val → Step → Val → Doing
with_entered k x (With p t target b) v = and_then (assign_perhaps k target v) (then_do (run_all k b) (left_with k x p))
with_entered k x step v = came Next

abbrev pub with_bound : Known → Val → Step → Doing
with_bound k x (With p t target b) = then_do (run_all k b) (left_with k x p)
with_bound k x step = came Next

-- ---- what a frame does

abbrev pub stmt_value_goes : Known → StmtFrame → Val → Doing
stmt_value_goes k stmt.LetGo v = came Next
stmt_value_goes k stmt.Return v = came (Returned v)
stmt_value_goes k (stmt.Asserted s) v = asserts k (step_of s) v
stmt_value_goes k (stmt.Message p) v = stop Assertion p
stmt_value_goes k (stmt.Imported s n) v = imported_at k n (step_of s) v
stmt_value_goes k (stmt.Assigned s) v = assigned k (targets_of_step (step_of s)) v
stmt_value_goes k (stmt.Annotated s) v = annotate_stored k (step_of s) v
stmt_value_goes k (stmt.Noted s) v = notes (step_of s) v
stmt_value_goes k (stmt.AugmentIndex s x) v = with_change (change_of (step_of s)) (λ c. index_came k c x v)
stmt_value_goes k (stmt.AugmentOld s what) v = with_change (change_of (step_of s)) (λ c. old_came k c what v)
stmt_value_goes k (stmt.AugmentRight s what old) v = with_change (change_of (step_of s)) (λ c. right_came k c what old v)
stmt_value_goes k (stmt.AugmentNew s what) v = with_change (change_of (step_of s)) (λ c. new_stored k c what v)
stmt_value_goes k (stmt.Branch s n) v = branch_came k (branches_from n (branches_of (step_of s))) (other_of k (step_of s)) v
stmt_value_goes k (stmt.WhileTest s n) v = while_tested k n (step_of s) v
stmt_value_goes k (stmt.ForSource s) v = for_source k (step_of s) v
stmt_value_goes k (stmt.ForRow s) v = for_row k (step_of s) v
stmt_value_goes k (stmt.With s) v = with_came k (step_of s) v
stmt_value_goes k (stmt.Entered s x) v = with_entered k x (step_of s) v
stmt_value_goes k (stmt.Left got) v = came got
stmt_value_goes k (stmt.Block b n) v = came Next
stmt_value_goes k (stmt.AllImported p) v = came Next
stmt_value_goes k (stmt.Assigning s n x) v = came Next
stmt_value_goes k (stmt.Annotating s) v = came Next
stmt_value_goes k (stmt.WhileBody s n) v = came Next
stmt_value_goes k (stmt.ForBound s w) v = came Next
stmt_value_goes k (stmt.ForBody s w) v = came Next
stmt_value_goes k (stmt.WithBound s x) v = came Next
stmt_value_goes k (stmt.WithBody x p) v = came Next

abbrev pub stmt_goes : Known → StmtFrame → Got → Doing
stmt_goes k (stmt.Block b n) got = on_next got (run_all k (steps_from n (steps_of b)))
stmt_goes k (stmt.AllImported p) got = on_names got (λ names. bind_all k names p (came Next))
stmt_goes k (stmt.Assigning s n v) got = on_next got (assigned k (trees_from n (targets_of_step (step_of s))) v)
stmt_goes k (stmt.Annotating s) got = on_next got (annotates k (step_of s))
stmt_goes k (stmt.WhileBody s n) got = while_left k n (step_of s) got
stmt_goes k (stmt.ForBound s w) got = on_next got (for_bound k w (step_of s))
stmt_goes k (stmt.ForBody s w) got = turn_on got (for_walks k w (step_of s))
stmt_goes k (stmt.WithBound s x) got = on_next got (with_bound k x (step_of s))
stmt_goes k (stmt.WithBody x p) got = left_with k x p got
stmt_goes k f got = on_value got (stmt_value_goes k f)
