-- Laws of the arguments of a call.
use Rattle.std.proofs.Common.{◌≡◌, ℕ, zero, suc, ◌+◌, refl, ap, ◌∙◌, sym, subst, List, [], ◌∷◌, ◌++◌, map, slice_get, Option, Some, None, option_map, Result, Ok, Err, Bool, true, false, arith}
use Rattle.amh_host.specs.declared.place.Place.{Place}
use Rattle.py_tree.specs.declared.expr.Expr.{Expr}
use Rattle.py_tree.specs.declared.expr.Argument.{Argument as Given}
use Rattle.py_tree.specs.Programs.{steps_of}
use Rattle.py_tree.specs.Seen.{tree, argument_of}
use Rattle.py_tree.specs.Tree.{Tree, Trailers, no_trailer, trailer, Trailer, Call, CallOf, Attribute, Index, Slice, Arguments, no_argument, argument, Argument, Positional, Starred, Keyword, arguments}
use Rattle.py_heap.specs.Heaps.{Made, seen}
use Rattle.py_values.specs.declared.val.Val.{Val}
use Rattle.py_values.specs.declared.val.ValueStop.{ValueStop}
use Rattle.py_values.specs.declared.val.ValueStop.TheVariants as refusal
use Rattle.py_values.specs.Runs.{Answers}
use Rattle.py_operators.specs.Elements.{elements}
use Rattle.py_frames.specs.declared.request.NamedVal.{NamedVal}
use Rattle.py_frames.specs.declared.state.Halt.{Halt}
use Rattle.py_frames.specs.declared.frame.Now.{Now}
use Rattle.py_frames.specs.declared.frame.Purpose.{Purpose}
use Rattle.py_frames.specs.declared.frame.Purpose.TheVariants.{Plain}
use Rattle.py_frames.specs.declared.frame.Frame.TheVariants as frame
use Rattle.py_frames.specs.declared.frame.CallFrame.TheVariants as call
use Rattle.py_frames.specs.declared.functions.Functions.{Functions}
use Rattle.py_frames.specs.declared.going.Going.{Going}
use Rattle.py_frames.specs.Doing.{Doing, Known, after, on_value, ◌>>=◌, stop}
use Rattle.py_frames.specs.declared.request.Cause.TheVariants as cause
use Rattle.py_frames.specs.Statements.{known}
use Rattle.py_frames.specs.Functions.{named_val, is_given}
use Rattle.py_frames.specs.Parts.{place_of, trailers_from, arguments_from}
use Rattle.py_frames.specs.Expressions.{value_of, arguments_then, call_for, on_elements}
use Rattle.py_frames.specs.Values.{as_row}
use Rattle.py_frames.specs.Call_frames.{trailers_of, call_arguments, argument_came, elements_came}
use Rattle.py_frames.specs.Trailing.{first_trailer, first_argument, argument_tree}
use Rattle.py_calls.specs.Arguing.{arguments_in, elements_then}
use Rattle.py_frames.specs.Frames.{GoesOn, within, told}
use Rattle.py_frames.proofs.KeywordLaws.{once_free, once_taken}
use Rattle.py_frames.proofs.CallLaws.{looked, same_goes, same_runs}
use Rattle.py_frames.proofs.BeginLaws.{stop_goes, no_memory}

pub argument_get : (gs : List Given) (n : ℕ) → option_map argument_of (slice_get gs n) ≡ first_argument (arguments_from n (arguments (map argument_of gs)))
argument_get [] zero = refl
argument_get [] (suc n) = refl
argument_get (g ∷ gs) zero = refl
argument_get (g ∷ gs) (suc n) = argument_get gs n

pub argument_none : (n : ℕ) → None ≡ first_argument (arguments_from n no_argument)
argument_none zero = refl
argument_none (suc n) = refl

pub call_arguments-first : (ts : Trailers) (t : Trailer) → Some t ≡ first_trailer ts → arguments_in t ≡ call_arguments ts
call_arguments-first no_trailer t e = cc
call_arguments-first (trailer (Call gs) ts) t e = let q : t ≡ Call gs = cc in ap arguments_in q
call_arguments-first (trailer (CallOf a c) ts) t e = let q : t ≡ CallOf a c = cc in ap arguments_in q
call_arguments-first (trailer (Attribute n) ts) t e = let q : t ≡ Attribute n = cc in ap arguments_in q
call_arguments-first (trailer (Index a) ts) t e = let q : t ≡ Index a = cc in ap arguments_in q
call_arguments-first (trailer (Slice a b c) ts) t e = let q : t ≡ Slice a b c = cc in ap arguments_in q

pub call_some : (ts : Trailers) (t : Trailer) (n : ℕ) (r : Option Argument) → Some t ≡ first_trailer ts → r ≡ first_argument (arguments_from n (arguments_in t)) → r ≡ first_argument (arguments_from n (call_arguments ts))
call_some ts t n r e q = q ∙ ap (λ z. first_argument (arguments_from n z)) (call_arguments-first ts t e)

pub call_none : (ts : Trailers) (n : ℕ) → None ≡ first_trailer ts → None ≡ first_argument (arguments_from n (call_arguments ts))
call_none no_trailer n e = argument_none n
call_none (trailer t ts) n e = cc

pub ruleset call_rules = (call_some, call_none)

arguments-next : (n : ℕ) (gs : Arguments) (g : Argument) → Some g ≡ first_argument (arguments_from n gs) → argument g (arguments_from (suc n) gs) ≡ arguments_from n gs
arguments-next zero no_argument g e = cc
arguments-next zero (argument u us) g e = cc
arguments-next (suc n) no_argument g e = cc
arguments-next (suc n) (argument u us) g e = arguments-next n us g e

arguments-end : (gs : Arguments) → None ≡ first_argument gs → no_argument ≡ gs
arguments-end no_argument e = refl
arguments-end (argument g gs) e = cc

pub arguments_end : (fns : Functions) (frozen : Made) (r : Result Now Halt) (x y : Going) (budget : ℕ) (node : Expr) (j n : ℕ) (f : Val) (vs : List Val) (keywords : List NamedVal) (u : Purpose) → None ≡ first_argument (arguments_from n (call_arguments (trailers_from j (trailers_of (tree node))))) → GoesOn fns frozen r x y budget (λ k. call_for k u f vs keywords (place_of (tree node))) → GoesOn fns frozen r x y budget (λ k. arguments_then k (place_of (tree node)) vs keywords (arguments_from n (call_arguments (trailers_from j (trailers_of (tree node))))) (λ us names. call_for k u f us names (place_of (tree node))))
arguments_end fns frozen r x y budget node j n f vs keywords u e1 h = same_goes fns frozen r x y budget (λ z k. arguments_then k (place_of (tree node)) vs keywords z (λ us names. call_for k u f us names (place_of (tree node)))) no_argument (arguments_from n (call_arguments (trailers_from j (trailers_of (tree node))))) (arguments-end (arguments_from n (call_arguments (trailers_from j (trailers_of (tree node))))) e1) h

argument-begun : (k : Known) (p : Place) (vs : List Val) (keywords : List NamedVal) (g : Argument) (gs : Arguments) (f : List Val → List NamedVal → Doing) → arguments_then k p vs keywords (argument g gs) f ≡ (λ w s. after (value_of k Plain (argument_tree g) w s) (λ got. on_value got (λ v. argument_came k p vs keywords (argument g gs) v f) w))
argument-begun k p vs keywords (Positional t) gs f = refl
argument-begun k p vs keywords (Starred t) gs f = refl
argument-begun k p vs keywords (Keyword n t) gs f = refl

pub arguments_more : (fns : Functions) (frozen : Made) (r : Result Now Halt) (x y : Going) (budget : ℕ) (node : Expr) (j n : ℕ) (f : Val) (vs : List Val) (keywords : List NamedVal) (u : Purpose) (g : Argument) (more : Expr) (w1 : Purpose) (t : Tree) → Some g ≡ first_argument (arguments_from n (call_arguments (trailers_from j (trailers_of (tree node))))) → tree more ≡ tree node → w1 ≡ u → t ≡ argument_tree g → GoesOn fns frozen r x y budget (within (frame.Call (call.Argument more j n f vs keywords w1)) (λ k. value_of k Plain t)) → GoesOn fns frozen r x y budget (λ k. arguments_then k (place_of (tree node)) vs keywords (arguments_from n (call_arguments (trailers_from j (trailers_of (tree node))))) (λ us names. call_for k u f us names (place_of (tree node))))
arguments_more fns frozen r x y budget node j n f vs keywords u g more w1 t e1 e2 e3 e4 h =
    same_goes fns frozen r x y budget (λ z k. arguments_then k (place_of (tree node)) vs keywords z (λ us names. call_for k u f us names (place_of (tree node)))) (argument g (arguments_from (suc n) (call_arguments (trailers_from j (trailers_of (tree node)))))) (arguments_from n (call_arguments (trailers_from j (trailers_of (tree node))))) (arguments-next n (call_arguments (trailers_from j (trailers_of (tree node)))) g e1)
    (same_runs fns frozen r x y budget (λ k w s. after (value_of k Plain (argument_tree g) w s) (λ got. on_value got (λ v. argument_came k (place_of (tree node)) vs keywords (argument g (arguments_from (suc n) (call_arguments (trailers_from j (trailers_of (tree node)))))) v (λ us names. call_for k u f us names (place_of (tree node)))) w)) (λ k. arguments_then k (place_of (tree node)) vs keywords (argument g (arguments_from (suc n) (call_arguments (trailers_from j (trailers_of (tree node)))))) (λ us names. call_for k u f us names (place_of (tree node)))) (λ w. ap (λ (z : Doing). z w x.state) (argument-begun (known (steps_of fns.program) frozen x.state.here.room) (place_of (tree node)) vs keywords g (arguments_from (suc n) (call_arguments (trailers_from j (trailers_of (tree node))))) (λ us names. call_for (known (steps_of fns.program) frozen x.state.here.room) u f us names (place_of (tree node)))))
    (same_goes fns frozen r x y budget (λ z k w s. after (value_of k Plain (argument_tree g) w s) (λ got. on_value got (λ v. argument_came k (place_of (tree node)) vs keywords z v (λ us names. call_for k u f us names (place_of (tree node)))) w)) (arguments_from n (call_arguments (trailers_from j (trailers_of (tree node))))) (argument g (arguments_from (suc n) (call_arguments (trailers_from j (trailers_of (tree node)))))) (sym (arguments-next n (call_arguments (trailers_from j (trailers_of (tree node)))) g e1))
    (same_goes fns frozen r x y budget (λ z k w s. after (value_of k Plain z w s) (λ got. on_value got (λ v. argument_came k (place_of (tree node)) vs keywords (arguments_from n (call_arguments (trailers_from j (trailers_of (tree node))))) v (λ us names. call_for k u f us names (place_of (tree node)))) w)) t (argument_tree g) e4
    (same_goes fns frozen r x y budget (λ z k w s. after (value_of k Plain t w s) (λ got. on_value got (λ v. argument_came k (place_of (tree node)) vs keywords (arguments_from n (call_arguments (trailers_from j (trailers_of (tree node))))) v (λ us names. call_for k z f us names (place_of (tree node)))) w)) w1 u e3
    (same_goes fns frozen r x y budget (λ z k w s. after (value_of k Plain t w s) (λ got. on_value got (λ v. argument_came k (place_of z) vs keywords (arguments_from n (call_arguments (trailers_from j (trailers_of z)))) v (λ us names. call_for k w1 f us names (place_of z))) w)) (tree more) (tree node) e2 h)))))

pub arguments_same : (fns : Functions) (frozen : Made) (r : Result Now Halt) (x y : Going) (budget : ℕ) (p : Place) (vs us : List Val) (keywords names : List NamedVal) (n m : ℕ) (gs : Arguments) (f : Val) (u : Purpose) → us ≡ vs → names ≡ keywords → m ≡ n + 1 → GoesOn fns frozen r x y budget (λ k. arguments_then k p us names (arguments_from m gs) (λ vals named. call_for k u f vals named p)) → GoesOn fns frozen r x y budget (λ k. arguments_then k p vs keywords (arguments_from (suc n) gs) (λ vals named. call_for k u f vals named p))
arguments_same fns frozen r x y budget p vs us keywords names n m gs f u e1 e2 e3 h =
    let q : m ≡ suc n = omega arith in
    same_goes fns frozen r x y budget (λ z k. arguments_then k p z keywords (arguments_from (suc n) gs) (λ vals named. call_for k u f vals named p)) us vs e1
    (same_goes fns frozen r x y budget (λ z k. arguments_then k p us z (arguments_from (suc n) gs) (λ vals named. call_for k u f vals named p)) names keywords e2
    (same_goes fns frozen r x y budget (λ z k. arguments_then k p us names (arguments_from z gs) (λ vals named. call_for k u f vals named p)) m (suc n) q h))

-- an argument in order is evaluated, and then those behind it
pub positional_next : (fns : Functions) (frozen : Made) (r : Result Now Halt) (x y : Going) (budget : ℕ) (p : Place) (vs : List Val) (keywords : List NamedVal) (n : ℕ) (gs : Arguments) (f : Val) (u : Purpose) (t : Tree) → Some (Positional t) ≡ first_argument (arguments_from n gs) → GoesOn fns frozen r x y budget (λ k. value_of k Plain t >>= (λ v. arguments_then k p (vs ++ v ∷ []) keywords (arguments_from (suc n) gs) (λ us names. call_for k u f us names p))) → GoesOn fns frozen r x y budget (λ k. arguments_then k p vs keywords (arguments_from n gs) (λ us names. call_for k u f us names p))
positional_next fns frozen r x y budget p vs keywords n gs f u t e1 h = same_goes fns frozen r x y budget (λ z k. arguments_then k p vs keywords z (λ us names. call_for k u f us names p)) (argument (Positional t) (arguments_from (suc n) gs)) (arguments_from n gs) (arguments-next n gs (Positional t) e1) h

pub came_end : (fns : Functions) (frozen : Made) (r : Result Now Halt) (x y : Going) (budget : ℕ) (p : Place) (vs : List Val) (keywords : List NamedVal) (n : ℕ) (gs : Arguments) (v f : Val) (u : Purpose) → None ≡ first_argument (arguments_from n gs) → GoesOn fns frozen r x y budget (λ k. call_for k u f vs keywords p) → GoesOn fns frozen r x y budget (λ k. argument_came k p vs keywords (arguments_from n gs) v (λ us names. call_for k u f us names p))
came_end fns frozen r x y budget p vs keywords n gs v f u e1 h = same_goes fns frozen r x y budget (λ z k. argument_came k p vs keywords z v (λ us names. call_for k u f us names p)) no_argument (arguments_from n gs) (arguments-end (arguments_from n gs) e1) h

pub came_positional : (fns : Functions) (frozen : Made) (r : Result Now Halt) (x y : Going) (budget : ℕ) (p : Place) (vs : List Val) (keywords : List NamedVal) (n : ℕ) (gs : Arguments) (v f : Val) (u : Purpose) (t : Tree) → Some (Positional t) ≡ first_argument (arguments_from n gs) → GoesOn fns frozen r x y budget (λ k. arguments_then k p (vs ++ v ∷ []) keywords (arguments_from (suc n) gs) (λ us names. call_for k u f us names p)) → GoesOn fns frozen r x y budget (λ k. argument_came k p vs keywords (arguments_from n gs) v (λ us names. call_for k u f us names p))
came_positional fns frozen r x y budget p vs keywords n gs v f u t e1 h = same_goes fns frozen r x y budget (λ z k. argument_came k p vs keywords z v (λ us names. call_for k u f us names p)) (argument (Positional t) (arguments_from (suc n) gs)) (arguments_from n gs) (arguments-next n gs (Positional t) e1) h

pub came_keyword : (fns : Functions) (frozen : Made) (r : Result Now Halt) (x y : Going) (budget : ℕ) (p : Place) (vs : List Val) (keywords : List NamedVal) (n : ℕ) (gs : Arguments) (v f : Val) (u : Purpose) (t : Tree) (name : List ℕ) (b : Bool) → Some (Keyword name t) ≡ first_argument (arguments_from n gs) → b ≡ is_given name keywords → b ≡ false → GoesOn fns frozen r x y budget (λ k. arguments_then k p vs (keywords ++ named_val name v ∷ []) (arguments_from (suc n) gs) (λ us names. call_for k u f us names p)) → GoesOn fns frozen r x y budget (λ k. argument_came k p vs keywords (arguments_from n gs) v (λ us names. call_for k u f us names p))
came_keyword fns frozen r x y budget p vs keywords n gs v f u t name b e1 e2 e3 h = same_goes fns frozen r x y budget (λ z k. argument_came k p vs keywords z v (λ us names. call_for k u f us names p)) (argument (Keyword name t) (arguments_from (suc n) gs)) (arguments_from n gs) (arguments-next n gs (Keyword name t) e1) (once_free fns frozen r x y budget name keywords p (λ k. arguments_then k p vs (keywords ++ named_val name v ∷ []) (arguments_from (suc n) gs) (λ us names. call_for k u f us names p)) b e2 e3 h)

pub came_twice : (fns : Functions) (frozen : Made) (r : Result Now Halt) (x y : Going) (budget : ℕ) (p q : Place) (vs : List Val) (keywords : List NamedVal) (n : ℕ) (gs : Arguments) (v f : Val) (u : Purpose) (t : Tree) (name : List ℕ) (b : Bool) → Some (Keyword name t) ≡ first_argument (arguments_from n gs) → q ≡ p → b ≡ is_given name keywords → b ≡ true → GoesOn fns frozen r x y budget (λ k. stop cause.Raised q) → GoesOn fns frozen r x y budget (λ k. argument_came k p vs keywords (arguments_from n gs) v (λ us names. call_for k u f us names p))
came_twice fns frozen r x y budget p q vs keywords n gs v f u t name b e1 e2 e3 e4 h = same_goes fns frozen r x y budget (λ z k. argument_came k p vs keywords z v (λ us names. call_for k u f us names p)) (argument (Keyword name t) (arguments_from (suc n) gs)) (arguments_from n gs) (arguments-next n gs (Keyword name t) e1) (once_taken fns frozen r x y budget name keywords p (λ k. arguments_then k p vs (keywords ++ named_val name v ∷ []) (arguments_from (suc n) gs) (λ us names. call_for k u f us names p)) b e3 e4 (same_goes fns frozen r x y budget (λ z k. stop cause.Raised z) q p e2 h))

pub arguments_first : (fns : Functions) (frozen : Made) (r : Result Now Halt) (x y : Going) (budget : ℕ) (node : Expr) (j : ℕ) (t : Trailer) (f : Val) (us : List Val) (names : List NamedVal) (u : Purpose) → Some t ≡ first_trailer (trailers_from j (trailers_of (tree node))) → us ≡ [] → names ≡ [] → GoesOn fns frozen r x y budget (λ k. arguments_then k (place_of (tree node)) us names (call_arguments (trailers_from j (trailers_of (tree node)))) (λ us names. call_for k u f us names (place_of (tree node)))) → GoesOn fns frozen r x y budget (λ k. arguments_then k (place_of (tree node)) [] [] (arguments_in t) (λ us names. call_for k u f us names (place_of (tree node))))
arguments_first fns frozen r x y budget node j t f us names u e1 e2 e3 h = same_goes fns frozen r x y budget (λ z k. arguments_then k (place_of (tree node)) [] [] z (λ us names. call_for k u f us names (place_of (tree node)))) (call_arguments (trailers_from j (trailers_of (tree node)))) (arguments_in t) (sym (call_arguments-first (trailers_from j (trailers_of (tree node))) t e1)) (same_goes fns frozen r x y budget (λ z k. arguments_then k (place_of (tree node)) z [] (call_arguments (trailers_from j (trailers_of (tree node)))) (λ us names. call_for k u f us names (place_of (tree node)))) us [] e2 (same_goes fns frozen r x y budget (λ z k. arguments_then k (place_of (tree node)) us z (call_arguments (trailers_from j (trailers_of (tree node)))) (λ us names. call_for k u f us names (place_of (tree node)))) names [] e3 h))

-- ---- `*` arguments

pub starred_spreads : (fns : Functions) (frozen : Made) (r : Result Now Halt) (x y : Going) (budget : ℕ) (node : Expr) (j n : ℕ) (f : Val) (vs : List Val) (keywords : List NamedVal) (u : Purpose) (t : Tree) (more : Expr) (w1 : Purpose) (v : Val) (q : Place) → q ≡ place_of (tree node) → Some (Starred t) ≡ first_argument (arguments_from n (call_arguments (trailers_from j (trailers_of (tree node))))) → tree more ≡ tree node → w1 ≡ u → GoesOn fns frozen r x y budget (within (frame.Call (call.Spread more j n f vs keywords w1)) (λ k. as_row k v q)) → GoesOn fns frozen r x y budget (λ k. argument_came k (place_of (tree node)) vs keywords (arguments_from n (call_arguments (trailers_from j (trailers_of (tree node))))) v (λ us names. call_for k u f us names (place_of (tree node))))
starred_spreads fns frozen r x y budget node j n f vs keywords u t more w1 v q e0 e1 e2 e3 h =
    same_goes fns frozen r x y budget (λ z k. argument_came k (place_of (tree node)) vs keywords z v (λ us names. call_for k u f us names (place_of (tree node)))) (argument (Starred t) (arguments_from (suc n) (call_arguments (trailers_from j (trailers_of (tree node)))))) (arguments_from n (call_arguments (trailers_from j (trailers_of (tree node))))) (arguments-next n (call_arguments (trailers_from j (trailers_of (tree node)))) (Starred t) e1)
    (same_goes fns frozen r x y budget (λ z k w s. after (as_row k v z w s) (λ got. on_value got (λ row. elements_came k (place_of (tree node)) vs keywords (argument (Starred t) (arguments_from (suc n) (call_arguments (trailers_from j (trailers_of (tree node)))))) row (λ us names. call_for k u f us names (place_of (tree node)))) w)) q (place_of (tree node)) e0
    (same_goes fns frozen r x y budget (λ z k w s. after (as_row k v q w s) (λ got. on_value got (λ row. elements_came k (place_of (tree node)) vs keywords z row (λ us names. call_for k u f us names (place_of (tree node)))) w)) (arguments_from n (call_arguments (trailers_from j (trailers_of (tree node))))) (argument (Starred t) (arguments_from (suc n) (call_arguments (trailers_from j (trailers_of (tree node)))))) (sym (arguments-next n (call_arguments (trailers_from j (trailers_of (tree node)))) (Starred t) e1))
    (same_goes fns frozen r x y budget (λ z k w s. after (as_row k v q w s) (λ got. on_value got (λ row. elements_came k (place_of (tree node)) vs keywords (arguments_from n (call_arguments (trailers_from j (trailers_of (tree node))))) row (λ us names. call_for k z f us names (place_of (tree node)))) w)) w1 u e3
    (same_goes fns frozen r x y budget (λ z k w s. after (as_row k v q w s) (λ got. on_value got (λ row. elements_came k (place_of z) vs keywords (arguments_from n (call_arguments (trailers_from j (trailers_of z)))) row (λ us names. call_for k w1 f us names (place_of z))) w)) (tree more) (tree node) e2 h))))

pub arguments_extended : (fns : Functions) (frozen : Made) (r : Result Now Halt) (x y : Going) (budget : ℕ) (p : Place) (vs us more : List Val) (keywords : List NamedVal) (n m : ℕ) (gs : Arguments) (f : Val) (u : Purpose) → more ≡ vs ++ us → m ≡ n + 1 → GoesOn fns frozen r x y budget (λ k. arguments_then k p more keywords (arguments_from m gs) (λ vals named. call_for k u f vals named p)) → GoesOn fns frozen r x y budget (λ k. arguments_then k p (vs ++ us) keywords (arguments_from (suc n) gs) (λ vals named. call_for k u f vals named p))
arguments_extended fns frozen r x y budget p vs us more keywords n m gs f u e1 e2 h = arguments_same fns frozen r x y budget p (vs ++ us) more keywords keywords n m gs f u e1 refl e2 h

pub elements_ok : (fns : Functions) (frozen : Made) (r : Result Now Halt) (x y : Going) (budget : ℕ) (p : Place) (vs us : List Val) (keywords : List NamedVal) (gs : Arguments) (row f : Val) (u : Purpose) → elements (seen frozen x.state.heap) row ≡ Ok us → GoesOn fns frozen r x y budget (λ k. arguments_then k p (vs ++ us) keywords gs (λ vals named. call_for k u f vals named p)) → GoesOn fns frozen r x y budget (λ k. elements_then k p vs keywords gs row (λ vals named. call_for k u f vals named p))
elements_ok fns frozen r x y budget p vs us keywords gs row f u e1 h = looked fns frozen r x y budget (λ s. elements s row) (λ z k. on_elements z p (λ us. arguments_then k p (vs ++ us) keywords gs (λ vals named. call_for k u f vals named p))) (Ok us) (sym e1) h

stops-told : (fns : Functions) (frozen : Made) (x : Going) (budget : ℕ) (p : Place) (e : ValueStop) (owed : Result (List Val) ValueStop) (f : Known → List Val → Doing) → Answers {A = List Val} (Err e) owed → GoesOn fns frozen (told (Err e) p) x x budget (λ k. on_elements owed p (f k))
stops-told fns frozen x budget p refusal.Raised owed f h = same_goes fns frozen (told (Err refusal.Raised) p) x x budget (λ z k. on_elements z p (f k)) (Err refusal.Raised) owed (sym h) (stop_goes fns frozen x budget cause.Raised p)
stops-told fns frozen x budget p refusal.Width owed f h = same_goes fns frozen (told (Err refusal.Width) p) x x budget (λ z k. on_elements z p (f k)) (Err refusal.Width) owed (sym h) (stop_goes fns frozen x budget cause.Width p)
stops-told fns frozen x budget p refusal.Limit owed f h = same_goes fns frozen (told (Err refusal.Limit) p) x x budget (λ z k. on_elements z p (f k)) (Err refusal.Limit) owed (sym h) (stop_goes fns frozen x budget cause.Limit p)
stops-told fns frozen x budget p refusal.Spent owed f h = absurd h
stops-told fns frozen x budget p refusal.NoMemory owed f h = no_memory fns frozen x x budget (λ k. on_elements owed p (f k))

elements_err : (fns : Functions) (frozen : Made) (x : Going) (budget : ℕ) (p : Place) (vs : List Val) (keywords : List NamedVal) (gs : Arguments) (row f : Val) (u : Purpose) (e : ValueStop) → Answers {A = List Val} (Err e) (elements (seen frozen x.state.heap) row) → GoesOn fns frozen (told (Err e) p) x x budget (λ k. elements_then k p vs keywords gs row (λ vals named. call_for k u f vals named p))
elements_err fns frozen x budget p vs keywords gs row f u e h = looked fns frozen (told (Err e) p) x x budget (λ s. elements s row) (λ z k. on_elements z p (λ us. arguments_then k p (vs ++ us) keywords gs (λ vals named. call_for k u f vals named p))) (elements (seen frozen x.state.heap) row) refl (stops-told fns frozen x budget p e (elements (seen frozen x.state.heap) row) (λ k us. arguments_then k p (vs ++ us) keywords gs (λ vals named. call_for k u f vals named p)) h)

pub spread_end : (fns : Functions) (frozen : Made) (r : Result Now Halt) (x y : Going) (budget : ℕ) (p : Place) (vs : List Val) (keywords : List NamedVal) (n : ℕ) (gs : Arguments) (row f : Val) (u : Purpose) → None ≡ first_argument (arguments_from n gs) → GoesOn fns frozen r x y budget (λ k. call_for k u f vs keywords p) → GoesOn fns frozen r x y budget (λ k. elements_came k p vs keywords (arguments_from n gs) row (λ us names. call_for k u f us names p))
spread_end fns frozen r x y budget p vs keywords n gs row f u e1 h = same_goes fns frozen r x y budget (λ z k. elements_came k p vs keywords z row (λ us names. call_for k u f us names p)) no_argument (arguments_from n gs) (arguments-end (arguments_from n gs) e1) h

pub spread_more : (fns : Functions) (frozen : Made) (r : Result Now Halt) (x y : Going) (budget : ℕ) (p : Place) (vs : List Val) (keywords : List NamedVal) (n : ℕ) (gs : Arguments) (row f : Val) (u : Purpose) (g : Argument) → Some g ≡ first_argument (arguments_from n gs) → GoesOn fns frozen r x y budget (λ k. elements_then k p vs keywords (arguments_from (suc n) gs) row (λ us names. call_for k u f us names p)) → GoesOn fns frozen r x y budget (λ k. elements_came k p vs keywords (arguments_from n gs) row (λ us names. call_for k u f us names p))
spread_more fns frozen r x y budget p vs keywords n gs row f u g e1 h = same_goes fns frozen r x y budget (λ z k. elements_came k p vs keywords z row (λ us names. call_for k u f us names p)) (argument g (arguments_from (suc n) gs)) (arguments_from n gs) (arguments-next n gs g e1) h

pub elements_err_at : (fns : Functions) (frozen : Made) (r : Result Now Halt) (x : Going) (budget : ℕ) (q p : Place) (vs : List Val) (keywords : List NamedVal) (gs : Arguments) (row f : Val) (u : Purpose) (e : ValueStop) → q ≡ p → r ≡ told (Err e) q → Answers {A = List Val} (Err e) (elements (seen frozen x.state.heap) row) → GoesOn fns frozen r x x budget (λ k. elements_then k p vs keywords gs row (λ vals named. call_for k u f vals named p))
elements_err_at fns frozen r x budget q p vs keywords gs row f u e e1 e2 h =
    let P : Result Now Halt → Type 0 = λ z. GoesOn fns frozen z x x budget (λ k. elements_then k p vs keywords gs row (λ vals named. call_for k u f vals named p)) in
    subst P (sym (e2 ∙ ap (told (Err e)) e1)) (elements_err fns frozen x budget p vs keywords gs row f u e h)
