-- Laws of assignments to attributes and items.
use Rattle.std.proofs.Common.{◌≡◌, ℕ, suc, ◌+◌, arith, refl, ap, ◌∙◌, sym, List, [], ◌∷◌, Some, None, Result, Ok, Err}
use Rattle.amh_host.specs.declared.place.Place.{Place}
use Rattle.py_tree.specs.Programs.{steps_of}
use Rattle.py_tree.specs.declared.expr.Expr.{Expr}
use Rattle.py_tree.specs.Seen.{tree}
use Rattle.py_tree.specs.Tree.{no_trailer, trailer, Trailer}
use Rattle.py_values.specs.declared.val.Val.{Val}
use Rattle.py_values.specs.declared.val.Val.TheVariants as val
use Rattle.py_values.specs.declared.val.ValueStop.{ValueStop}
use Rattle.py_values.specs.declared.val.Hw.{Hw}
use Rattle.py_values.specs.declared.op.Builtin.{Builtin}
use Rattle.py_heap.specs.Heaps.{Made, seen}
use Rattle.py_values.specs.Runs.{Answers, paired}
use Rattle.py_heap.specs.Objects.{attribute_set}
use Rattle.py_frames.specs.declared.request.Act.TheVariants.{SetAttribute}
use Rattle.py_frames.specs.declared.request.Request.{Request}
use Rattle.py_frames.specs.declared.state.State.{State}
use Rattle.py_frames.specs.declared.state.Halt.{Halt}
use Rattle.py_frames.specs.declared.state.Got.TheVariants.{Next}
use Rattle.py_frames.specs.declared.frame.Now.{Now}
use Rattle.py_frames.specs.declared.frame.Now.TheVariants.{Came}
use Rattle.py_frames.specs.declared.frame.Frame.TheVariants as frame
use Rattle.py_frames.specs.declared.frame.StmtFrame.TheVariants as stmt
use Rattle.py_frames.specs.declared.frame.CallFrame.TheVariants as call
use Rattle.py_frames.specs.declared.frame.Along.TheVariants as along
use Rattle.py_frames.specs.declared.frame.Purpose.TheVariants.{Plain}
use Rattle.py_frames.specs.declared.request.Cause.TheVariants.{Raised}
use Rattle.py_frames.specs.declared.functions.Functions.{Functions}
use Rattle.py_frames.specs.declared.going.Going.{Going}
use Rattle.py_frames.specs.Doing.{Known, came, making, heap_seen, then_do, after, on_value, stop}
use Rattle.py_frames.specs.Parts.{place_of, trailers_from}
use Rattle.py_frames.specs.Expressions.{stored, store_last, reached, reach_last, trailed_one}
use Rattle.py_frames.specs.Call_frames.{trailers_of}
use Rattle.py_frames.specs.Trailing.{first_trailer}
use Rattle.py_frames.specs.Asking.{request, ask}
use Rattle.py_frames.specs.Statements.{known}
use Rattle.py_frames.specs.Values.{built, store_attribute, store_index}
use Rattle.py_frames.specs.Calling.{told_done, index_set}
use Rattle.py_frames.specs.Frames.{GoesOn, within}
use Rattle.py_frames.proofs.CallLaws.{same_goes, made_ok, made_err}
use Rattle.py_frames.proofs.TrailLaws.{trailers-next, trailers-end}

-- what the machine tells goes on as it is
pub came_goes : (fns : Functions) (frozen : Made) (x : Going) (budget : ℕ) → GoesOn fns frozen (Ok (Came Next)) x x budget (λ k. came Next)
unfolding GoesOn
came_goes fns frozen x budget = λ w h. refl

-- what is changed in the heap, and told
pub done_told : (fns : Functions) (frozen : Made) (given : Result (Unit {0}) ValueStop) (x : Going) (heap : Made) (place : Place) (budget : ℕ) (m : Known → State → Result (Unit {0} × Made) ValueStop) → Answers (paired given heap) (m (known (steps_of fns.program) frozen x.state.here.room) x.state) → GoesOn fns frozen (told_done given place) x (record x { state = record x.state { heap = heap } }) budget (λ k. making (m k) place (λ _. came Next))
done_told fns frozen (Ok v) x heap place budget m h = made_ok fns frozen (Ok (Came Next)) x (record x { state = record x.state { heap = heap } }) budget heap place v m (λ z k. came Next) h (came_goes fns frozen (record x { state = record x.state { heap = heap } }) budget)
done_told fns frozen (Err e) x heap place budget m h = made_err fns frozen x (record x { state = record x.state { heap = heap } }) budget place e heap m (λ k z. came Next) h refl

pub attribute_stored : (fns : Functions) (frozen : Made) (given : Result (Unit {0}) ValueStop) (x : Going) (heap : Made) (place : Place) (budget : ℕ) (o : ℕ) (name : List ℕ) (v : Val) → Answers (paired given heap) (attribute_set (seen frozen x.state.heap) o name v) → GoesOn fns frozen (told_done given place) x (record x { state = record x.state { heap = heap } }) budget (λ k. making (λ s. attribute_set (heap_seen k s) o name v) place (λ _. came Next))
attribute_stored fns frozen given x heap place budget o name v h = done_told fns frozen given x heap place budget (λ k s. attribute_set (heap_seen k s) o name v) h

pub store_asked : (fns : Functions) (frozen : Made) (r : Result Now Halt) (x y : Going) (budget : ℕ) (h1 : Hw) (name : List ℕ) (v : Val) (place : Place) (q : Request) → q ≡ request SetAttribute (val.Hw h1 ∷ v ∷ []) (name ∷ []) place → GoesOn fns frozen r x y budget (within (frame.Stmt stmt.LetGo) (λ k. ask k q)) → GoesOn fns frozen r x y budget (λ k. store_attribute k (val.Hw h1) name v place)
store_asked fns frozen r x y budget h1 name v place q e1 h = same_goes fns frozen r x y budget (λ z k. then_do (ask k z) (λ got. on_value got (λ _. came Next))) q (request SetAttribute (val.Hw h1 ∷ v ∷ []) (name ∷ []) place) e1 h

pub built_same : (fns : Functions) (frozen : Made) (r : Result Now Halt) (x y : Going) (budget : ℕ) (b : Builtin) (us vs : List Val) (place : Place) → vs ≡ us → GoesOn fns frozen r x y budget (λ k. built k b vs place) → GoesOn fns frozen r x y budget (λ k. built k b us place)
built_same fns frozen r x y budget b us vs place e1 h = same_goes fns frozen r x y budget (λ z k. built k b z place) vs us e1 h

pub index_stored : (fns : Functions) (frozen : Made) (r : Result Now Halt) (x y : Going) (budget : ℕ) (v i u : Val) (place : Place) → GoesOn fns frozen r x y budget (within (frame.Stmt stmt.LetGo) (λ k. index_set k v i u place)) → GoesOn fns frozen r x y budget (λ k. store_index k v i u place)
index_stored fns frozen r x y budget v i u place h = h

-- ---- along what trails a target

pub stored_end : (fns : Functions) (frozen : Made) (r : Result Now Halt) (x y : Going) (budget : ℕ) (n : ℕ) (node : Expr) (v i : Val) → None ≡ first_trailer (trailers_from n (trailers_of (tree node))) → GoesOn fns frozen r x y budget (λ k. stop Raised (place_of (tree node))) → GoesOn fns frozen r x y budget (λ k. stored k (place_of (tree node)) (trailers_from n (trailers_of (tree node))) v i)
stored_end fns frozen r x y budget n node v i e1 h = same_goes fns frozen r x y budget (λ z k. stored k (place_of (tree node)) z v i) no_trailer (trailers_from n (trailers_of (tree node))) (trailers-end (trailers_from n (trailers_of (tree node))) e1) h

pub stored_last : (fns : Functions) (frozen : Made) (r : Result Now Halt) (x y : Going) (budget : ℕ) (n m : ℕ) (node : Expr) (t : Trailer) (v i : Val) → Some t ≡ first_trailer (trailers_from n (trailers_of (tree node))) → m ≡ n + 1 → None ≡ first_trailer (trailers_from m (trailers_of (tree node))) → GoesOn fns frozen r x y budget (λ k. store_last k (place_of (tree node)) t v i) → GoesOn fns frozen r x y budget (λ k. stored k (place_of (tree node)) (trailers_from n (trailers_of (tree node))) v i)
stored_last fns frozen r x y budget n m node t v i e1 e2 e3 h =
    let q : m ≡ suc n = omega arith in
    same_goes fns frozen r x y budget (λ z k. stored k (place_of (tree node)) z v i) (trailer t (trailers_from (suc n) (trailers_of (tree node)))) (trailers_from n (trailers_of (tree node))) (trailers-next n (trailers_of (tree node)) t e1)
    (same_goes fns frozen r x y budget (λ z k. stored k (place_of (tree node)) (trailer t z) v i) no_trailer (trailers_from (suc n) (trailers_of (tree node))) (trailers-end (trailers_from m (trailers_of (tree node))) e3 ∙ ap (λ (z : ℕ). trailers_from z (trailers_of (tree node))) q) h)

pub stored_more : (fns : Functions) (frozen : Made) (r : Result Now Halt) (x y : Going) (budget : ℕ) (n m : ℕ) (node more : Expr) (t u : Trailer) (v i : Val) → Some t ≡ first_trailer (trailers_from n (trailers_of (tree node))) → m ≡ n + 1 → Some u ≡ first_trailer (trailers_from m (trailers_of (tree node))) → tree more ≡ tree node → GoesOn fns frozen r x y budget (within (frame.Call (call.Trail more m (along.Store i))) (λ k. trailed_one k Plain (place_of (tree node)) t v)) → GoesOn fns frozen r x y budget (λ k. stored k (place_of (tree node)) (trailers_from n (trailers_of (tree node))) v i)
stored_more fns frozen r x y budget n m node more t u v i e1 e2 e3 e4 h =
    let q : m ≡ suc n = omega arith in
    same_goes fns frozen r x y budget (λ z k. stored k (place_of (tree node)) z v i) (trailer t (trailers_from (suc n) (trailers_of (tree node)))) (trailers_from n (trailers_of (tree node))) (trailers-next n (trailers_of (tree node)) t e1)
    (same_goes fns frozen r x y budget (λ z k. stored k (place_of (tree node)) (trailer t z) v i) (trailer u (trailers_from (suc m) (trailers_of (tree node)))) (trailers_from (suc n) (trailers_of (tree node))) (trailers-next m (trailers_of (tree node)) u e3 ∙ ap (λ (z : ℕ). trailers_from z (trailers_of (tree node))) q)
    (same_goes fns frozen r x y budget (λ z k w s. after (trailed_one k Plain (place_of (tree node)) t v w s) (λ got. on_value got (λ y. stored k (place_of (tree node)) z y i) w)) (trailers_from m (trailers_of (tree node))) (trailer u (trailers_from (suc m) (trailers_of (tree node)))) (sym (trailers-next m (trailers_of (tree node)) u e3))
    (same_goes fns frozen r x y budget (λ z k w s. after (trailed_one k Plain (place_of (tree node)) t v w s) (λ got. on_value got (λ y. stored k (place_of z) (trailers_from m (trailers_of z)) y i) w)) (tree more) (tree node) e4 h)))

pub ruleset stored_rules = (stored_end, stored_last, stored_more)

-- ---- along what trails a target to which nothing goes

pub reached_end : (fns : Functions) (frozen : Made) (r : Result Now Halt) (x y : Going) (budget : ℕ) (n : ℕ) (node : Expr) (v : Val) → None ≡ first_trailer (trailers_from n (trailers_of (tree node))) → GoesOn fns frozen r x y budget (λ k. stop Raised (place_of (tree node))) → GoesOn fns frozen r x y budget (λ k. reached k (place_of (tree node)) (trailers_from n (trailers_of (tree node))) v)
reached_end fns frozen r x y budget n node v e1 h = same_goes fns frozen r x y budget (λ z k. reached k (place_of (tree node)) z v) no_trailer (trailers_from n (trailers_of (tree node))) (trailers-end (trailers_from n (trailers_of (tree node))) e1) h

pub reached_last : (fns : Functions) (frozen : Made) (r : Result Now Halt) (x y : Going) (budget : ℕ) (n m : ℕ) (node : Expr) (t : Trailer) (v : Val) → Some t ≡ first_trailer (trailers_from n (trailers_of (tree node))) → m ≡ n + 1 → None ≡ first_trailer (trailers_from m (trailers_of (tree node))) → GoesOn fns frozen r x y budget (λ k. reach_last k (place_of (tree node)) t) → GoesOn fns frozen r x y budget (λ k. reached k (place_of (tree node)) (trailers_from n (trailers_of (tree node))) v)
reached_last fns frozen r x y budget n m node t v e1 e2 e3 h =
    let q : m ≡ suc n = omega arith in
    same_goes fns frozen r x y budget (λ z k. reached k (place_of (tree node)) z v) (trailer t (trailers_from (suc n) (trailers_of (tree node)))) (trailers_from n (trailers_of (tree node))) (trailers-next n (trailers_of (tree node)) t e1)
    (same_goes fns frozen r x y budget (λ z k. reached k (place_of (tree node)) (trailer t z) v) no_trailer (trailers_from (suc n) (trailers_of (tree node))) (trailers-end (trailers_from m (trailers_of (tree node))) e3 ∙ ap (λ (z : ℕ). trailers_from z (trailers_of (tree node))) q) h)

pub reached_more : (fns : Functions) (frozen : Made) (r : Result Now Halt) (x y : Going) (budget : ℕ) (n m : ℕ) (node more : Expr) (t u : Trailer) (v : Val) → Some t ≡ first_trailer (trailers_from n (trailers_of (tree node))) → m ≡ n + 1 → Some u ≡ first_trailer (trailers_from m (trailers_of (tree node))) → tree more ≡ tree node → GoesOn fns frozen r x y budget (within (frame.Call (call.Trail more m along.Reach)) (λ k. trailed_one k Plain (place_of (tree node)) t v)) → GoesOn fns frozen r x y budget (λ k. reached k (place_of (tree node)) (trailers_from n (trailers_of (tree node))) v)
reached_more fns frozen r x y budget n m node more t u v e1 e2 e3 e4 h =
    let q : m ≡ suc n = omega arith in
    same_goes fns frozen r x y budget (λ z k. reached k (place_of (tree node)) z v) (trailer t (trailers_from (suc n) (trailers_of (tree node)))) (trailers_from n (trailers_of (tree node))) (trailers-next n (trailers_of (tree node)) t e1)
    (same_goes fns frozen r x y budget (λ z k. reached k (place_of (tree node)) (trailer t z) v) (trailer u (trailers_from (suc m) (trailers_of (tree node)))) (trailers_from (suc n) (trailers_of (tree node))) (trailers-next m (trailers_of (tree node)) u e3 ∙ ap (λ (z : ℕ). trailers_from z (trailers_of (tree node))) q)
    (same_goes fns frozen r x y budget (λ z k w s. after (trailed_one k Plain (place_of (tree node)) t v w s) (λ got. on_value got (λ y. reached k (place_of (tree node)) z y) w)) (trailers_from m (trailers_of (tree node))) (trailer u (trailers_from (suc m) (trailers_of (tree node)))) (sym (trailers-next m (trailers_of (tree node)) u e3))
    (same_goes fns frozen r x y budget (λ z k w s. after (trailed_one k Plain (place_of (tree node)) t v w s) (λ got. on_value got (λ y. reached k (place_of z) (trailers_from m (trailers_of z)) y) w)) (tree more) (tree node) e4 h)))
