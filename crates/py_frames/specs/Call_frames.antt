-- How the frames of calls, and of what trails a primary, go on.
-- Internal: no rule of the language.
use Rattle.std.specs.Prelude.{ℕ, zero, suc, List, [], ◌∷◌, ◌++◌, length, drop}
use Rattle.amh_host.specs.declared.place.Place.{Place}
use Rattle.py_tree.specs.Seen.{tree}
use Rattle.py_tree.specs.Programs.{step_of}
use Rattle.py_tree.specs.Tree.{Tree, Trailed, Perhaps, Trailers, no_trailer, trailer, Call, Slice, Arguments, no_argument, argument, Positional, Starred, Keyword}
use Rattle.py_tree.specs.Steps.{Step, Augment}
use Rattle.py_values.specs.declared.val.Val.{Val}
use Rattle.py_frames.specs.declared.request.NamedVal.{NamedVal}
use Rattle.py_frames.specs.declared.request.Cause.TheVariants.{Raised}
use Rattle.py_frames.specs.declared.state.Got.{Got}
use Rattle.py_frames.specs.declared.frame.Along.{Along}
use Rattle.py_frames.specs.declared.frame.Along.TheVariants as along
use Rattle.py_frames.specs.declared.frame.CallFrame.{CallFrame}
use Rattle.py_frames.specs.declared.frame.CallFrame.TheVariants as call
use Rattle.py_frames.specs.Doing.{Doing, Known, heap_seen, ◌>>=◌, on_value, give, stop}
use Rattle.py_frames.specs.Asking.{asked, returned}
use Rattle.py_frames.specs.Functions.{named_val}
use Rattle.py_frames.specs.Parts.{operator_of, place_of, trailers_from, arguments_from}
use Rattle.py_frames.specs.Values.{indexed, sliced, gone_over, summed, on_through, attribute_in_rounds, initialised, attributes_bound, on_names, as_row}
use Rattle.py_frames.specs.Expressions.{perhaps_value, trailed, stored, reached, call_for, once_named, arguments_then, with_elements, awaited}
use Rattle.py_frames.specs.Statements.{augment_along, call_ended}

-- ---- what trails a primary

abbrev pub trailers_of : Tree → Trailers
trailers_of (Trailed p t ts) = ts
trailers_of t = no_trailer

-- on, from a value, along what trails the target of a statement, behind so many
abbrev pub augmented_along : Known → ℕ → Val → Step → Place → Doing
augmented_along k n x (Augment p target o t) q = augment_along k (place_of target) (trailers_from n (trailers_of target)) x p (operator_of o) t
augmented_along k n x step q = stop Raised q

-- on, from a value, along what trails a node, behind so many
abbrev pub goes_along : Known → Along → ℕ → Tree → Val → Doing
goes_along k (along.Value u) n t x = trailed k u (place_of t) (trailers_from n (trailers_of t)) x
goes_along k (along.Store v) n t x = stored k (place_of t) (trailers_from n (trailers_of t)) x v
goes_along k along.Reach n t x = reached k (place_of t) (trailers_from n (trailers_of t)) x
goes_along k (along.Augment stmt) n t x = augmented_along k n x (step_of stmt) (place_of t)

-- ---- arguments

-- the arguments of the call that stands first
abbrev pub call_arguments : Trailers → Arguments
call_arguments (trailer (Call gs) ts) = gs
call_arguments ts = no_argument

-- an argument's value has come: on with the arguments behind it
abbrev pub argument_came : Known → Place → List Val → List NamedVal → Arguments → Val → (List Val → List NamedVal → Doing) → Doing
argument_came k p vs keywords no_argument v f = f vs keywords
argument_came k p vs keywords (argument (Positional t) gs) v f = arguments_then k p (vs ++ v ∷ []) keywords gs f
argument_came k p vs keywords (argument (Starred t) gs) v f = do
  row ← as_row k v p
  with_elements k row p (λ us. arguments_then k p (vs ++ us) keywords gs f)
argument_came k p vs keywords (argument (Keyword n t) gs) v f = once_named n keywords p (arguments_then k p vs (keywords ++ named_val n v ∷ []) gs f)

-- the elements of a `*` argument have come
abbrev pub elements_came : Known → Place → List Val → List NamedVal → Arguments → Val → (List Val → List NamedVal → Doing) → Doing
elements_came k p vs keywords no_argument row f = f vs keywords
elements_came k p vs keywords (argument g gs) row f = with_elements k row p (λ us. arguments_then k p (vs ++ us) keywords gs f)

-- ---- slices

abbrev pub slice_parts : Trailers → List Perhaps
slice_parts (trailer (Slice a b c) ts) = a ∷ b ∷ c ∷ []
slice_parts ts = []

abbrev pub perhaps_from : ℕ → List Perhaps → List Perhaps
perhaps_from zero xs = xs
perhaps_from (suc n) [] = []
perhaps_from (suc n) (x ∷ xs) = perhaps_from n xs

-- the parts that are still to come, and then the slice
abbrev pub sliced_by : Known → Val → List Val → Place → Doing
sliced_by k x (i ∷ j ∷ step ∷ []) p = sliced k x i j step p
sliced_by k x vs p = stop Raised p

abbrev pub parts_then : Known → Val → List Val → List Perhaps → Place → Doing
parts_then k x vs [] p = sliced_by k x vs p
parts_then k x vs (part ∷ parts) p = do
  v ← perhaps_value k part
  parts_then k x (vs ++ v ∷ []) parts p

-- ---- what a frame does

abbrev pub call_value_goes : Known → CallFrame → Val → Doing
call_value_goes k (call.Trail node n way) v = goes_along k way n (tree node) v
call_value_goes k (call.Argument node j n f vs keywords u) v =
    argument_came k (place_of (tree node)) vs keywords (arguments_from n (call_arguments (trailers_from j (trailers_of (tree node))))) v (λ us names. call_for k u f us names (place_of (tree node)))
call_value_goes k (call.Spread node j n f vs keywords u) v =
    elements_came k (place_of (tree node)) vs keywords (arguments_from n (call_arguments (trailers_from j (trailers_of (tree node))))) v (λ us names. call_for k u f us names (place_of (tree node)))
call_value_goes k (call.ListGiven f u p) v = call_for k u f (v ∷ []) [] p
call_value_goes k (call.Indexed x p) v = indexed k x v p
call_value_goes k (call.Sliced node j x parts) v = parts_then k x (parts ++ v ∷ []) (perhaps_from (suc (length parts)) (slice_parts (trailers_from j (trailers_of (tree node))))) (place_of (tree node))
call_value_goes k (call.Awaited p) v = awaited k v p
call_value_goes k (call.GoneOver b n done rest p) v = gone_over k b n (done ++ v ∷ []) rest p
call_value_goes k (call.Summing row n p) v = summed k v (drop n row) p
call_value_goes k (call.Initialised o p) v = initialised v o p
call_value_goes k (call.Answering act p callee n) v = λ w s. asked n k act (returned (heap_seen k s) p callee v) w s
call_value_goes k (call.AttributeTold name p n) v = give v
call_value_goes k (call.InitNames o p r) v = give v
call_value_goes k (call.CallEnd outer) v = give v

-- what a frame waits for is a value, but for a few
abbrev pub call_goes : Known → CallFrame → Got → Doing
call_goes k (call.AttributeTold name p n) got = on_through got (λ v. attribute_in_rounds n k v name p)
call_goes k (call.InitNames o p r) got = on_names got (λ names. attributes_bound k o names p (give r))
call_goes k (call.CallEnd outer) got = call_ended outer got
call_goes k f got = on_value got (call_value_goes k f)
