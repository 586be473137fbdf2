-- How classes go on: their arguments, their base and their body.
use Rattle.std.proofs.Common.{◌≡◌, ℕ, zero, suc, ◌+◌, ◌<◌, ◌≤◌, ◌&&◌, not, refl, ap, ◌∙◌, sym, subst, Bool, true, false, List, [], ◌∷◌, ◌++◌, map, length, get_or, Option, Some, None, option_map, Result, Ok, Err, arith, add-one}
use Rattle.std.specs.List.{slice_get}
use Rattle.std.proofs.lemmas.Option.{slice_get_read, slice_get_past}
use Rattle.amh_host.specs.declared.place.Place.{Place}
use Rattle.py_tree.specs.declared.expr.Argument.{Argument as Given}
use Rattle.py_tree.specs.declared.expr.Trailer.{Trailer as Trailing}
use Rattle.py_tree.specs.declared.stmt.Stmt.{Stmt}
use Rattle.py_tree.specs.Seen.{trailer_of, argument_of}
use Rattle.py_tree.specs.Programs.{step_of, steps_of}
use Rattle.py_tree.specs.Tree.{Tree, ListOf, Each, Perhaps, Attribute, Call, CallOf, Index, Slice, Arguments, no_argument, argument, arguments, Argument, Positional, Starred, Keyword}
use Rattle.py_tree.specs.Steps.{Step, Class, Steps, Bases, no_bases, bases, bases_of}
use Rattle.py_values.specs.declared.val.Val.{Val}
use Rattle.py_values.specs.declared.val.Val.TheVariants as val
use Rattle.py_values.specs.declared.val.ScopeId.{ScopeId}
use Rattle.py_values.specs.declared.val.ValueStop.{ValueStop}
use Rattle.py_values.specs.declared.val.ValueStop.TheVariants as refusal
use Rattle.py_heap.specs.Heaps.{Made, seen}
use Rattle.py_heap.specs.Names.{new_scope}
use Rattle.py_operators.specs.Elements.{elements}
use Rattle.py_values.specs.Runs.{Answers}
use Rattle.py_frames.specs.declared.request.NamedVal.{NamedVal}
use Rattle.py_frames.specs.declared.request.Cause.TheVariants as cause
use Rattle.py_frames.specs.declared.state.State.{State}
use Rattle.py_frames.specs.declared.state.Here.{Here}
use Rattle.py_frames.specs.declared.state.Halt.{Halt}
use Rattle.py_frames.specs.declared.state.Halt.TheVariants.{Asks, Stopped, NoMemory}
use Rattle.py_frames.specs.declared.frame.Now.{Now}
use Rattle.py_frames.specs.declared.frame.Purpose.TheVariants.{Plain}
use Rattle.py_frames.specs.declared.frame.Frame.{Frame}
use Rattle.py_frames.specs.declared.frame.DefFrame.TheVariants as def
use Rattle.py_frames.specs.declared.frame.Frame.TheVariants as frame
use Rattle.py_frames.specs.declared.functions.Functions.{Functions}
use Rattle.py_frames.specs.declared.going.Going.{Going}
use Rattle.py_frames.specs.Doing.{Doing, Known, after, on_value, stop, choose, making, heap_seen, then_do, cause_of, ◌>>=◌}
use Rattle.py_frames.specs.Functions.{named_val}
use Rattle.py_frames.specs.Own.{steps_names}
use Rattle.py_frames.specs.Parts.{arguments_from, place_of}
use Rattle.py_frames.specs.Values.{as_row, class_word}
use Rattle.py_frames.specs.Expressions.{value_of, arguments_then, on_elements, seen_from, once_named}
use Rattle.py_turns.specs.Binding.{refused}
use Rattle.py_frames.specs.Statements.{known, run_all, base_of, over_thing, are_keywords, class_begun, class_within, class_ended, class_here}
use Rattle.py_frames.specs.Stmt_begun.{run_after}
use Rattle.py_frames.specs.Call_frames.{argument_came, elements_came}
use Rattle.py_frames.specs.Def_frames.{class_arguments, class_place, class_given, class_left}
use Rattle.py_definitions.specs.Def_begun.{argument_value, class_list, class_starred, class_inside}
use Rattle.py_frames.specs.Frames.{GoesOn, within}
use Rattle.py_frames.proofs.BeginLaws.{no_memory, stop_goes, pushed}
use Rattle.py_frames.proofs.StmtLaws.{meant_same}
use Rattle.py_turns.proofs.IfLaws.{here_same}
use Rattle.py_definitions.proofs.DefLaws.{making_goes}

-- ---- arguments by their number

arguments_at : (xs : List Given) (n : ℕ) (x : Given) → slice_get xs n ≡ Some x → arguments_from n (arguments (map argument_of xs)) ≡ argument (argument_of x) (arguments_from (suc n) (arguments (map argument_of xs)))
arguments_at [] n x h = cc
arguments_at (y ∷ ys) zero x h = let e : y ≡ x = cc in ap (λ z. argument (argument_of z) (arguments (map argument_of ys))) e
arguments_at (y ∷ ys) (suc n) x h = arguments_at ys n x h

arguments_past : (xs : List Given) (n : ℕ) → slice_get xs n ≡ None → arguments_from n (arguments (map argument_of xs)) ≡ no_argument
arguments_past [] zero h = refl
arguments_past [] (suc n) h = refl
arguments_past (x ∷ xs) zero h = cc
arguments_past (x ∷ xs) (suc n) h = arguments_past xs n h

pub argument_found : (xs : List Given) (n : ℕ) (x : Given) → n < length xs → x ≡ get_or xs n x → arguments_from n (arguments (map argument_of xs)) ≡ argument (argument_of x) (arguments_from (n + 1) (arguments (map argument_of xs)))
argument_found xs n x h e =
    arguments_at xs n x (slice_get_read xs (length xs) n x refl h e) ∙ ap (λ j. argument (argument_of x) (arguments_from j (arguments (map argument_of xs)))) (sym (add-one n))

pub argument_lacks : (xs : List Given) (n : ℕ) → length xs ≤ n → arguments_from n (arguments (map argument_of xs)) ≡ no_argument
argument_lacks xs n h = arguments_past xs n (slice_get_past xs n h)

none_from : (n : ℕ) → arguments_from n no_argument ≡ no_argument
none_from zero = refl
none_from (suc n) = refl

pub none_given : (n : ℕ) (gs : Arguments) → gs ≡ no_argument → arguments_from n gs ≡ no_argument
none_given n gs e = ap (arguments_from n) e ∙ none_from n

-- ---- how a class begins

pub class_plain : (fns : Functions) (frozen : Made) (r : Result Now Halt) (x y : Going) (budget : ℕ) (p : Place) (name : List ℕ) (o : Option Trailing) (ss : Steps) (t : Step) → t ≡ Class p name (bases_of (option_map trailer_of o)) ss → o ≡ None → GoesOn fns frozen r x y budget (λ k. class_given k t [] []) → GoesOn fns frozen r x y budget (λ k. run_after k t)
class_plain fns frozen r x y budget p name o ss t e1 e2 h =
    let q : t ≡ Class p name no_bases ss = e1 ∙ ap (λ z. Class p name (bases_of (option_map trailer_of z)) ss) e2 in
    let N : Step → Type 0 = λ z. GoesOn fns frozen r x y budget (λ k. run_after k z) in
    let M : Step → Type 0 = λ z. GoesOn fns frozen r x y budget (λ k. class_given k z [] []) in
    subst N (sym q) (subst M q h)

pub brackets_call : (fns : Functions) (frozen : Made) (r : Result Now Halt) (x y : Going) (budget : ℕ) (p : Place) (name : List ℕ) (gs : Arguments) (ss : Steps) (t : Step) (vs : List Val) (kw : List NamedVal) → t ≡ Class p name (bases (Call gs)) ss → vs ≡ [] → kw ≡ [] → GoesOn fns frozen r x y budget (λ k. arguments_then k (class_place t) vs kw (arguments_from 0 (class_arguments t)) (class_given k t)) → GoesOn fns frozen r x y budget (λ k. run_after k t)
brackets_call fns frozen r x y budget p name gs ss t vs kw q e1 e2 h =
    let N : Step → Type 0 = λ z. GoesOn fns frozen r x y budget (λ k. run_after k z) in
    let M : Step → Type 0 = λ z. GoesOn fns frozen r x y budget (λ k. arguments_then k (class_place z) [] [] (arguments_from 0 (class_arguments z)) (class_given k z)) in
    let V : List Val → Type 0 = λ z. GoesOn fns frozen r x y budget (λ k. arguments_then k (class_place t) z kw (arguments_from 0 (class_arguments t)) (class_given k t)) in
    let W : List NamedVal → Type 0 = λ z. GoesOn fns frozen r x y budget (λ k. arguments_then k (class_place t) [] z (arguments_from 0 (class_arguments t)) (class_given k t)) in
    subst N (sym q) (subst M q (subst W e2 (subst V e1 h)))

pub brackets_list : (fns : Functions) (frozen : Made) (r : Result Now Halt) (x y : Going) (budget : ℕ) (p : Place) (name : List ℕ) (a : Tree) (c : Each) (ss : Steps) (t : Step) → t ≡ Class p name (bases (CallOf a c)) ss → GoesOn fns frozen r x y budget (λ k. class_list k t a c) → GoesOn fns frozen r x y budget (λ k. run_after k t)
brackets_list fns frozen r x y budget p name a c ss t q h =
    let N : Step → Type 0 = λ z. GoesOn fns frozen r x y budget (λ k. run_after k z) in
    let M : Step → Type 0 = λ z. GoesOn fns frozen r x y budget (λ k. class_list k z a c) in
    subst N (sym q) (subst M q h)

pub brackets_name : (fns : Functions) (frozen : Made) (r : Result Now Halt) (x y : Going) (budget : ℕ) (p : Place) (name n : List ℕ) (ss : Steps) (t : Step) → t ≡ Class p name (bases (Attribute n)) ss → GoesOn fns frozen r x y budget (λ k. class_given k t [] []) → GoesOn fns frozen r x y budget (λ k. run_after k t)
brackets_name fns frozen r x y budget p name n ss t q h =
    let N : Step → Type 0 = λ z. GoesOn fns frozen r x y budget (λ k. run_after k z) in
    let M : Step → Type 0 = λ z. GoesOn fns frozen r x y budget (λ k. class_given k z [] []) in
    subst N (sym q) (subst M q h)

pub brackets_index : (fns : Functions) (frozen : Made) (r : Result Now Halt) (x y : Going) (budget : ℕ) (p : Place) (name : List ℕ) (a : Tree) (ss : Steps) (t : Step) → t ≡ Class p name (bases (Index a)) ss → GoesOn fns frozen r x y budget (λ k. class_given k t [] []) → GoesOn fns frozen r x y budget (λ k. run_after k t)
brackets_index fns frozen r x y budget p name a ss t q h =
    let N : Step → Type 0 = λ z. GoesOn fns frozen r x y budget (λ k. run_after k z) in
    let M : Step → Type 0 = λ z. GoesOn fns frozen r x y budget (λ k. class_given k z [] []) in
    subst N (sym q) (subst M q h)

pub brackets_slice : (fns : Functions) (frozen : Made) (r : Result Now Halt) (x y : Going) (budget : ℕ) (p : Place) (name : List ℕ) (a b c : Perhaps) (ss : Steps) (t : Step) → t ≡ Class p name (bases (Slice a b c)) ss → GoesOn fns frozen r x y budget (λ k. class_given k t [] []) → GoesOn fns frozen r x y budget (λ k. run_after k t)
brackets_slice fns frozen r x y budget p name a b c ss t q h =
    let N : Step → Type 0 = λ z. GoesOn fns frozen r x y budget (λ k. run_after k z) in
    let M : Step → Type 0 = λ z. GoesOn fns frozen r x y budget (λ k. class_given k z [] []) in
    subst N (sym q) (subst M q h)

pub list_waits : (fns : Functions) (frozen : Made) (r : Result Now Halt) (x y : Going) (budget : ℕ) (a u : Tree) (c : Each) (t : Step) (node : Stmt) → step_of node ≡ t → u ≡ ListOf (place_of a) a c → GoesOn fns frozen r x y budget (within (frame.Def (def.ClassList node)) (λ k. value_of k Plain u)) → GoesOn fns frozen r x y budget (λ k. class_list k t a c)
list_waits fns frozen r x y budget a u c t node e1 e2 h =
    let S : Step → Type 0 = λ z. GoesOn fns frozen r x y budget (λ k w s. after (value_of k Plain u w s) (λ got. on_value got (λ v. class_given k z (v ∷ []) []) w)) in
    let U : Tree → Type 0 = λ z. GoesOn fns frozen r x y budget (λ k w s. after (value_of k Plain z w s) (λ got. on_value got (λ v. class_given k t (v ∷ []) []) w)) in
    subst U e2 (subst S e1 h)

-- ---- the arguments, one after the other

argument_same : (k : Known) (p : Place) (vs : List Val) (kw : List NamedVal) (g : Argument) (gs : Arguments) (f : List Val → List NamedVal → Doing) → arguments_then k p vs kw (argument g gs) f ≡ (value_of k Plain (argument_value g) >>= (λ v. argument_came k p vs kw (argument g gs) v f))
argument_same k p vs kw (Positional a) gs f = refl
argument_same k p vs kw (Starred a) gs f = refl
argument_same k p vs kw (Keyword n a) gs f = refl

pub argument_waits : (fns : Functions) (frozen : Made) (r : Result Now Halt) (x y : Going) (budget n : ℕ) (a : Tree) (g : Argument) (gs : Arguments) (t : Step) (node : Stmt) (vs : List Val) (kw : List NamedVal) → step_of node ≡ t → arguments_from n (class_arguments t) ≡ argument g gs → a ≡ argument_value g → GoesOn fns frozen r x y budget (within (frame.Def (def.ClassArgument node n vs kw)) (λ k. value_of k Plain a)) → GoesOn fns frozen r x y budget (λ k. arguments_then k (class_place t) vs kw (arguments_from n (class_arguments t)) (class_given k t))
argument_waits fns frozen r x y budget n a g gs t node vs kw e1 e2 e3 h =
    let S : Step → Type 0 = λ z. GoesOn fns frozen r x y budget (λ k w s. after (value_of k Plain a w s) (λ got. on_value got (λ v. argument_came k (class_place z) vs kw (arguments_from n (class_arguments z)) v (class_given k z)) w)) in
    let U : Tree → Type 0 = λ z. GoesOn fns frozen r x y budget (λ k w s. after (value_of k Plain z w s) (λ got. on_value got (λ v. argument_came k (class_place t) vs kw (arguments_from n (class_arguments t)) v (class_given k t)) w)) in
    let A : Arguments → Type 0 = λ z. GoesOn fns frozen r x y budget (λ k w s. after (value_of k Plain (argument_value g) w s) (λ got. on_value got (λ v. argument_came k (class_place t) vs kw z v (class_given k t)) w)) in
    let B : Arguments → Type 0 = λ z. GoesOn fns frozen r x y budget (λ k. arguments_then k (class_place t) vs kw z (class_given k t)) in
    subst B (sym e2) (meant_same fns frozen r x y budget (λ k. value_of k Plain (argument_value g) >>= (λ v. argument_came k (class_place t) vs kw (argument g gs) v (class_given k t))) (λ k. arguments_then k (class_place t) vs kw (argument g gs) (class_given k t))
    (λ k. argument_same k (class_place t) vs kw g gs (class_given k t)) (subst A e2 (subst U e3 (subst S e1 h))))

pub arguments_done : (fns : Functions) (frozen : Made) (r : Result Now Halt) (x y : Going) (budget n : ℕ) (t : Step) (vs : List Val) (kw : List NamedVal) → arguments_from n (class_arguments t) ≡ no_argument → GoesOn fns frozen r x y budget (λ k. class_given k t vs kw) → GoesOn fns frozen r x y budget (λ k. arguments_then k (class_place t) vs kw (arguments_from n (class_arguments t)) (class_given k t))
arguments_done fns frozen r x y budget n t vs kw e h =
    let B : Arguments → Type 0 = λ z. GoesOn fns frozen r x y budget (λ k. arguments_then k (class_place t) vs kw z (class_given k t)) in
    subst B (sym e) h

-- ---- an argument that has come

came_as : (fns : Functions) (frozen : Made) (r : Result Now Halt) (x y : Going) (budget n : ℕ) (as_given : Arguments) (t : Step) (vs : List Val) (kw : List NamedVal) (v : Val) → arguments_from n (class_arguments t) ≡ as_given → GoesOn fns frozen r x y budget (λ k. argument_came k (class_place t) vs kw as_given v (class_given k t)) → GoesOn fns frozen r x y budget (λ k. argument_came k (class_place t) vs kw (arguments_from n (class_arguments t)) v (class_given k t))
came_as fns frozen r x y budget n as_given t vs kw v e h =
    let B : Arguments → Type 0 = λ z. GoesOn fns frozen r x y budget (λ k. argument_came k (class_place t) vs kw z v (class_given k t)) in
    subst B (sym e) h

pub came_none : (fns : Functions) (frozen : Made) (r : Result Now Halt) (x y : Going) (budget n : ℕ) (t : Step) (vs : List Val) (kw : List NamedVal) (v : Val) → arguments_from n (class_arguments t) ≡ no_argument → GoesOn fns frozen r x y budget (λ k. class_given k t vs kw) → GoesOn fns frozen r x y budget (λ k. argument_came k (class_place t) vs kw (arguments_from n (class_arguments t)) v (class_given k t))
came_none fns frozen r x y budget n t vs kw v e h = came_as fns frozen r x y budget n no_argument t vs kw v e h

pub came_positional : (fns : Functions) (frozen : Made) (r : Result Now Halt) (x y : Going) (budget n : ℕ) (g : Argument) (gs : Arguments) (a : Tree) (t : Step) (vs : List Val) (kw : List NamedVal) (v : Val) → arguments_from n (class_arguments t) ≡ argument g gs → g ≡ Positional a → GoesOn fns frozen r x y budget (λ k. arguments_then k (class_place t) (vs ++ v ∷ []) kw gs (class_given k t)) → GoesOn fns frozen r x y budget (λ k. argument_came k (class_place t) vs kw (arguments_from n (class_arguments t)) v (class_given k t))
came_positional fns frozen r x y budget n g gs a t vs kw v e1 e2 h =
    came_as fns frozen r x y budget n (argument (Positional a) gs) t vs kw v (e1 ∙ ap (λ z. argument z gs) e2) h

pub came_keyword : (fns : Functions) (frozen : Made) (r : Result Now Halt) (x y : Going) (budget n : ℕ) (g : Argument) (gs : Arguments) (a : Tree) (name : List ℕ) (t : Step) (vs : List Val) (kw : List NamedVal) (v : Val) → arguments_from n (class_arguments t) ≡ argument g gs → g ≡ Keyword name a → GoesOn fns frozen r x y budget (λ k. once_named name kw (class_place t) (arguments_then k (class_place t) vs (kw ++ named_val name v ∷ []) gs (class_given k t))) → GoesOn fns frozen r x y budget (λ k. argument_came k (class_place t) vs kw (arguments_from n (class_arguments t)) v (class_given k t))
came_keyword fns frozen r x y budget n g gs a name t vs kw v e1 e2 h =
    came_as fns frozen r x y budget n (argument (Keyword name a) gs) t vs kw v (e1 ∙ ap (λ z. argument z gs) e2) h

pub came_starred : (fns : Functions) (frozen : Made) (r : Result Now Halt) (x y : Going) (budget n : ℕ) (g : Argument) (gs : Arguments) (a : Tree) (t : Step) (vs : List Val) (kw : List NamedVal) (v : Val) → arguments_from n (class_arguments t) ≡ argument g gs → g ≡ Starred a → GoesOn fns frozen r x y budget (λ k. class_starred k t n vs kw v) → GoesOn fns frozen r x y budget (λ k. argument_came k (class_place t) vs kw (arguments_from n (class_arguments t)) v (class_given k t))
came_starred fns frozen r x y budget n g gs a t vs kw v e1 e2 h =
    let q : arguments_from n (class_arguments t) ≡ argument (Starred a) gs = e1 ∙ ap (λ z. argument z gs) e2 in
    let B : Arguments → Type 0 = λ z. GoesOn fns frozen r x y budget (λ k. as_row k v (class_place t) >>= (λ row. elements_came k (class_place t) vs kw z row (class_given k t))) in
    came_as fns frozen r x y budget n (argument (Starred a) gs) t vs kw v q (subst B q h)

pub row_waits : (fns : Functions) (frozen : Made) (r : Result Now Halt) (x z : Going) (budget n : ℕ) (p : Place) (t : Step) (node : Stmt) (fs : List Frame) (vs : List Val) (kw : List NamedVal) (v : Val) → step_of node ≡ t → fs ≡ frame.Def (def.ClassSpread node n vs kw) ∷ x.frames → p ≡ class_place t → GoesOn fns frozen r (record x { frames = fs }) z budget (λ k. as_row k v p) → GoesOn fns frozen r x z budget (λ k. class_starred k t n vs kw v)
row_waits fns frozen r x z budget n p t node fs vs kw v e1 e2 e3 h =
    let F : List Frame → Type 0 = λ g. GoesOn fns frozen r (record x { frames = g }) z budget (λ k. as_row k v p) in
    let S : Step → Type 0 = λ j. GoesOn fns frozen r x z budget (λ k w s. after (as_row k v p w s) (λ got. on_value got (λ row. elements_came k (class_place j) vs kw (arguments_from n (class_arguments j)) row (class_given k j)) w)) in
    let Q : Place → Type 0 = λ j. GoesOn fns frozen r x z budget (λ k w s. after (as_row k v j w s) (λ got. on_value got (λ row. elements_came k (class_place t) vs kw (arguments_from n (class_arguments t)) row (class_given k t)) w)) in
    subst Q e3 (subst S e1 (pushed fns frozen r x z budget (frame.Def (def.ClassSpread node n vs kw)) (λ k. as_row k v p) refl (subst F e2 h)))

-- ---- the row of a `*` argument

spread_as : (fns : Functions) (frozen : Made) (r : Result Now Halt) (x y : Going) (budget n : ℕ) (as_given : Arguments) (t : Step) (vs : List Val) (kw : List NamedVal) (row : Val) → arguments_from n (class_arguments t) ≡ as_given → GoesOn fns frozen r x y budget (λ k. elements_came k (class_place t) vs kw as_given row (class_given k t)) → GoesOn fns frozen r x y budget (λ k. elements_came k (class_place t) vs kw (arguments_from n (class_arguments t)) row (class_given k t))
spread_as fns frozen r x y budget n as_given t vs kw row e h =
    let B : Arguments → Type 0 = λ z. GoesOn fns frozen r x y budget (λ k. elements_came k (class_place t) vs kw z row (class_given k t)) in
    subst B (sym e) h

pub spread_none : (fns : Functions) (frozen : Made) (r : Result Now Halt) (x y : Going) (budget n : ℕ) (t : Step) (vs : List Val) (kw : List NamedVal) (row : Val) → arguments_from n (class_arguments t) ≡ no_argument → GoesOn fns frozen r x y budget (λ k. class_given k t vs kw) → GoesOn fns frozen r x y budget (λ k. elements_came k (class_place t) vs kw (arguments_from n (class_arguments t)) row (class_given k t))
spread_none fns frozen r x y budget n t vs kw row e h = spread_as fns frozen r x y budget n no_argument t vs kw row e h

pub spread_on : (fns : Functions) (frozen : Made) (r : Result Now Halt) (x y : Going) (budget n : ℕ) (g : Argument) (gs : Arguments) (t : Step) (vs us : List Val) (kw : List NamedVal) (row : Val) → arguments_from n (class_arguments t) ≡ argument g gs → elements (seen frozen x.state.heap) row ≡ Ok us → GoesOn fns frozen r x y budget (λ k. arguments_then k (class_place t) (vs ++ us) kw gs (class_given k t)) → GoesOn fns frozen r x y budget (λ k. elements_came k (class_place t) vs kw (arguments_from n (class_arguments t)) row (class_given k t))
spread_on fns frozen r x y budget n g gs t vs us kw row e1 e2 h =
    let K : Known = known (steps_of fns.program) frozen x.state.here.room in
    spread_as fns frozen r x y budget n (argument g gs) t vs kw row e1
    (here_same fns frozen r x y budget (λ k. arguments_then k (class_place t) (vs ++ us) kw gs (class_given k t)) (λ k. elements_came k (class_place t) vs kw (argument g gs) row (class_given k t))
    (λ w. ap (λ o. on_elements o (class_place t) (λ es. arguments_then K (class_place t) (vs ++ es) kw gs (class_given K t)) w x.state) e2) h)

spread_stops : (fns : Functions) (frozen : Made) (r : Result Now Halt) (x y : Going) (budget n : ℕ) (g : Argument) (gs : Arguments) (t : Step) (vs : List Val) (e : ValueStop) (kw : List NamedVal) (row : Val) → arguments_from n (class_arguments t) ≡ argument g gs → elements (seen frozen x.state.heap) row ≡ Err e → GoesOn fns frozen r x y budget (λ k. stop (cause_of e) (class_place t)) → GoesOn fns frozen r x y budget (λ k. elements_came k (class_place t) vs kw (arguments_from n (class_arguments t)) row (class_given k t))
spread_stops fns frozen r x y budget n g gs t vs e kw row e1 e2 h =
    let K : Known = known (steps_of fns.program) frozen x.state.here.room in
    spread_as fns frozen r x y budget n (argument g gs) t vs kw row e1
    (here_same fns frozen r x y budget (λ k. stop (cause_of e) (class_place t)) (λ k. elements_came k (class_place t) vs kw (argument g gs) row (class_given k t))
    (λ w. ap (λ o. on_elements o (class_place t) (λ es. arguments_then K (class_place t) (vs ++ es) kw gs (class_given K t)) w x.state) e2) h)

spread_refusal : (fns : Functions) (frozen : Made) (x : Going) (budget n : ℕ) (g : Argument) (gs : Arguments) (t : Step) (vs : List Val) (e : ValueStop) (kw : List NamedVal) (row : Val) → arguments_from n (class_arguments t) ≡ argument g gs → Answers (Err e) (elements (seen frozen x.state.heap) row) → GoesOn fns frozen (Err (refused e (class_place t))) x x budget (λ k. elements_came k (class_place t) vs kw (arguments_from n (class_arguments t)) row (class_given k t))
spread_refusal fns frozen x budget n g gs t vs refusal.Raised kw row e1 a = spread_stops fns frozen _ x x budget n g gs t vs refusal.Raised kw row e1 a (stop_goes fns frozen x budget cause.Raised (class_place t))
spread_refusal fns frozen x budget n g gs t vs refusal.Width kw row e1 a = spread_stops fns frozen _ x x budget n g gs t vs refusal.Width kw row e1 a (stop_goes fns frozen x budget cause.Width (class_place t))
spread_refusal fns frozen x budget n g gs t vs refusal.Limit kw row e1 a = spread_stops fns frozen _ x x budget n g gs t vs refusal.Limit kw row e1 a (stop_goes fns frozen x budget cause.Limit (class_place t))
spread_refusal fns frozen x budget n g gs t vs refusal.Spent kw row e1 a = absurd a
spread_refusal fns frozen x budget n g gs t vs refusal.NoMemory kw row e1 a = no_memory fns frozen x x budget (λ k. elements_came k (class_place t) vs kw (arguments_from n (class_arguments t)) row (class_given k t))

pub spread_refused : (fns : Functions) (frozen : Made) (x : Going) (budget n : ℕ) (g : Argument) (gs : Arguments) (t : Step) (p : Place) (vs : List Val) (e : ValueStop) (kw : List NamedVal) (row : Val) → arguments_from n (class_arguments t) ≡ argument g gs → p ≡ class_place t → Answers (Err e) (elements (seen frozen x.state.heap) row) → GoesOn fns frozen (Err (refused e p)) x x budget (λ k. elements_came k (class_place t) vs kw (arguments_from n (class_arguments t)) row (class_given k t))
spread_refused fns frozen x budget n g gs t p vs e kw row e1 e2 a =
    let P : Place → Type 0 = λ z. GoesOn fns frozen (Err (refused e z)) x x budget (λ k. elements_came k (class_place t) vs kw (arguments_from n (class_arguments t)) row (class_given k t)) in
    subst P (sym e2) (spread_refusal fns frozen x budget n g gs t vs e kw row e1 a)

-- the same arguments
pub arguments_same : (fns : Functions) (frozen : Made) (r : Result Now Halt) (x y : Going) (budget : ℕ) (gs : Arguments) (t : Step) (vs us : List Val) (kw kx : List NamedVal) → vs ≡ us → kw ≡ kx → GoesOn fns frozen r x y budget (λ k. arguments_then k (class_place t) vs kw gs (class_given k t)) → GoesOn fns frozen r x y budget (λ k. arguments_then k (class_place t) us kx gs (class_given k t))
arguments_same fns frozen r x y budget gs t vs us kw kx e1 e2 h =
    let V : List Val → Type 0 = λ z. GoesOn fns frozen r x y budget (λ k. arguments_then k (class_place t) z kw gs (class_given k t)) in
    let W : List NamedVal → Type 0 = λ z. GoesOn fns frozen r x y budget (λ k. arguments_then k (class_place t) us z gs (class_given k t)) in
    subst W e2 (subst V e1 h)

-- ---- the base

pub base_none : (vs : List Val) → length vs ≡ 0 → Some val.None ≡ base_of vs
base_none [] e = refl
base_none (v ∷ vs) e = cc

base_single : (vs : List Val) (v : Val) → length vs ≡ 1 → v ≡ get_or vs 0 v → vs ≡ v ∷ []
base_single [] v e q = cc
base_single (u ∷ []) v e q = ap (λ z. z ∷ []) (sym q)
base_single (u ∷ w ∷ vs) v e q = cc

pub base_one : (vs : List Val) (v : Val) (o : Option Val) → length vs ≡ 1 → v ≡ get_or vs 0 v → o ≡ base_of (v ∷ []) → o ≡ base_of vs
base_one vs v o e1 e2 h = h ∙ ap base_of (sym (base_single vs v e1 e2))

base_several : (u v : Val) (vs : List Val) → None ≡ base_of (u ∷ v ∷ vs)
base_several val.None v vs = refl
base_several (val.Bool b) v vs = refl
base_several (val.Int i) v vs = refl
base_several (val.Str i) v vs = refl
base_several (val.Time i) v vs = refl
base_several (val.List i) v vs = refl
base_several (val.Tuple i) v vs = refl
base_several (val.Dict i) v vs = refl
base_several (val.Range i) v vs = refl
base_several (val.Func i) v vs = refl
base_several (val.Class i) v vs = refl
base_several (val.Object i) v vs = refl
base_several (val.Hw i) v vs = refl

pub base_many : (vs : List Val) → 1 < length vs → None ≡ base_of vs
base_many [] h = absurd (omega arith)
base_many (u ∷ []) h = absurd (omega arith)
base_many (u ∷ v ∷ vs) h = base_several u v vs

-- ---- the base and the body

pub base_given : (fns : Functions) (frozen : Made) (r : Result Now Halt) (x y : Going) (budget : ℕ) (p : Place) (name : List ℕ) (b : Bases) (ss : Steps) (t : Step) (vs : List Val) (kw : List NamedVal) (base : Option Val) → t ≡ Class p name b ss → base ≡ base_of vs → GoesOn fns frozen r x y budget (λ k. class_begun k base name kw (steps_names ss) (run_all k ss) p) → GoesOn fns frozen r x y budget (λ k. class_given k t vs kw)
base_given fns frozen r x y budget p name b ss t vs kw base e1 e2 h =
    let N : Step → Type 0 = λ z. GoesOn fns frozen r x y budget (λ k. class_given k z vs kw) in
    let B : Option Val → Type 0 = λ z. GoesOn fns frozen r x y budget (λ k. class_begun k z name kw (steps_names ss) (run_all k ss) p) in
    subst N (sym e1) (subst B e2 h)

-- the scope round the body is made
pub begun_makes : (fns : Functions) (frozen : Made) (r : Result Now Halt) (x z : Going) (budget : ℕ) (p : Place) (name : List ℕ) (ss : Steps) (kw : List NamedVal) (base : Option Val) (own : List (List ℕ)) (outside : Option ScopeId) (round : ScopeId) (heap : Made) → own ≡ class_word ∷ [] → outside ≡ seen_from (seen frozen x.state.heap) x.state.here.scope → new_scope (seen frozen x.state.heap) outside false own ≡ Ok (round, heap) → GoesOn fns frozen r (record x { state = record x.state { heap = heap } }) z budget (λ k. class_within k round base name kw (steps_names ss) (run_all k ss) p) → GoesOn fns frozen r x z budget (λ k. class_begun k base name kw (steps_names ss) (run_all k ss) p)
begun_makes fns frozen r x z budget p name ss kw base own outside round heap e1 e2 e3 h =
    let m : Known → State → Result (ScopeId × Made) ValueStop = λ k t. new_scope (heap_seen k t) (seen_from (heap_seen k t) t.here.scope) false (class_word ∷ []) in
    let f : Known → ScopeId → Doing = λ k id. class_within k id base name kw (steps_names ss) (run_all k ss) p in
    let q : m (known (steps_of fns.program) frozen x.state.here.room) x.state ≡ Ok (round, heap) =
    ap (λ o. new_scope (seen frozen x.state.heap) (seen_from (seen frozen x.state.heap) x.state.here.scope) false o) (sym e1) ∙ (ap (λ o. new_scope (seen frozen x.state.heap) o false own) (sym e2) ∙ e3) in
    making_goes fns frozen r x z budget heap round p m f q h

-- the scope of the body is made
pub within_makes : (fns : Functions) (frozen : Made) (r : Result Now Halt) (x z : Going) (budget : ℕ) (p : Place) (name : List ℕ) (ss : Steps) (kw : List NamedVal) (base : Option Val) (own : List (List ℕ)) (round id : ScopeId) (heap : Made) → own ≡ steps_names ss → new_scope (seen frozen x.state.heap) (Some round) true own ≡ Ok (id, heap) → GoesOn fns frozen r (record x { state = record x.state { heap = heap } }) z budget (λ k. class_inside k id base name kw (run_all k ss) p) → GoesOn fns frozen r x z budget (λ k. class_within k round base name kw (steps_names ss) (run_all k ss) p)
within_makes fns frozen r x z budget p name ss kw base own round id heap e1 e3 h =
    let m : Known → State → Result (ScopeId × Made) ValueStop = λ k t. new_scope (heap_seen k t) (Some round) true (steps_names ss) in
    let f : Known → ScopeId → Doing = λ k scope w2 t. then_do (run_all k ss) (class_ended k x.state.here base name kw p) w2 (record t { here = class_here x.state.here scope }) in
    let y : Going = record x { state = record x.state { heap = heap } } in
    let q : m (known (steps_of fns.program) frozen x.state.here.room) x.state ≡ Ok (id, heap) =
    ap (λ o. new_scope (seen frozen x.state.heap) (Some round) true o) (sym e1) ∙ e3 in
    here_same fns frozen r x z budget (λ k. making (m k) p (f k)) (λ k. class_within k round base name kw (steps_names ss) (run_all k ss) p) (λ w. refl)
    (making_goes fns frozen r x z budget heap id p m f q
    (here_same fns frozen r y z budget (λ k. class_inside k id base name kw (run_all k ss) p) (λ k. f k id) (λ w. refl) h))

-- the body runs in it
runs_inside : (fns : Functions) (frozen : Made) (r : Result Now Halt) (x z : Going) (budget : ℕ) (p : Place) (name : List ℕ) (ss : Steps) (kw : List NamedVal) (base : Option Val) (scope : ScopeId) → GoesOn fns frozen r (record x { state = record x.state { here = class_here x.state.here scope } }) z budget (λ k w s. after (run_all k ss w s) (λ got. class_ended k x.state.here base name kw p got w)) → GoesOn fns frozen r x z budget (λ k. class_inside k scope base name kw (run_all k ss) p)
unfolding GoesOn
runs_inside fns frozen (Ok now) x z budget p name ss kw base scope h = h
runs_inside fns frozen (Err (Stopped stop)) x z budget p name ss kw base scope h = h
runs_inside fns frozen (Err (Asks a)) x z budget p name ss kw base scope h = h
runs_inside fns frozen (Err NoMemory) x z budget p name ss kw base scope h = h

pub class_runs : (fns : Functions) (frozen : Made) (r : Result Now Halt) (x z : Going) (budget : ℕ) (p : Place) (name : List ℕ) (b : Bases) (ss : Steps) (t : Step) (node : Stmt) (kw : List NamedVal) (base : Option Val) (scope : ScopeId) (here outer : Here) → t ≡ Class p name b ss → step_of node ≡ t → here ≡ class_here x.state.here scope → outer ≡ x.state.here → GoesOn fns frozen r (record x { state = record x.state { here = here } }) z budget (within (frame.Def (def.ClassBody node base kw outer)) (λ k. run_all k ss)) → GoesOn fns frozen r x z budget (λ k. class_inside k scope base name kw (run_all k ss) p)
class_runs fns frozen r x z budget p name b ss t node kw base scope here outer e1 e2 e3 e4 h =
    let O : Here → Type 0 = λ g. GoesOn fns frozen r (record x { state = record x.state { here = here } }) z budget (within (frame.Def (def.ClassBody node base kw g)) (λ k. run_all k ss)) in
    let H : Here → Type 0 = λ g. GoesOn fns frozen r (record x { state = record x.state { here = g } }) z budget (within (frame.Def (def.ClassBody node base kw x.state.here)) (λ k. run_all k ss)) in
    let S : Step → Type 0 = λ g. GoesOn fns frozen r (record x { state = record x.state { here = class_here x.state.here scope } }) z budget (λ k w s. after (run_all k ss w s) (λ got. class_left k g base kw x.state.here got w)) in
    runs_inside fns frozen r x z budget p name ss kw base scope (subst S (e2 ∙ e1) (subst H e3 (subst O e4 h)))

pub ruleset argument_rules = (argument_found, argument_lacks)

pub ruleset lacks_rules = (none_given)

pub ruleset begin_rules = (class_plain)

pub ruleset brackets_rules = (brackets_call, brackets_list, brackets_name, brackets_index, brackets_slice)

pub ruleset list_rules = (list_waits, no_memory)

pub ruleset turn_rules = (argument_waits, arguments_done, no_memory)

pub ruleset came_rules = (came_none, came_positional, came_keyword, came_starred)

pub ruleset row_rules = (row_waits, no_memory)

pub ruleset spread_rules = (spread_none, spread_on, spread_refused)

pub ruleset next_rules = (arguments_same, no_memory)

pub ruleset base_rules = (base_none, base_one, base_many)

pub ruleset based_rules = (base_given)

pub ruleset begun_rules = (begun_makes, no_memory)

pub ruleset within_rules = (within_makes, no_memory)

pub ruleset inside_rules = (class_runs, no_memory)
