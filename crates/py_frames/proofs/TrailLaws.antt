-- Laws of what trails a primary.
use Rattle.std.proofs.Common.{◌≡◌, ℕ, zero, suc, ◌+◌, refl, ap, ◌∙◌, sym, List, [], ◌∷◌, map, slice_get, Some, None, option_map, Result, Ok, Bool, true, false, arith}
use Rattle.amh_host.specs.declared.place.Place.{Place}
use Rattle.py_tree.specs.declared.expr.Expr.{Expr}
use Rattle.py_tree.specs.declared.expr.Trailer.{Trailer as Trails}
use Rattle.py_tree.specs.Seen.{tree, trailer_of}
use Rattle.py_tree.specs.Tree.{Tree, Trailers, no_trailer, trailer, Trailer, trailers, Trailed, Await}
use Rattle.py_heap.specs.Heaps.{Made}
use Rattle.py_values.specs.declared.val.Val.{Val}
use Rattle.py_frames.specs.declared.state.Halt.{Halt}
use Rattle.py_frames.specs.declared.frame.Now.{Now}
use Rattle.py_frames.specs.declared.frame.Now.TheVariants.{Begin}
use Rattle.py_frames.specs.declared.frame.Purpose.{Purpose}
use Rattle.py_frames.specs.declared.frame.Purpose.TheVariants.{Plain, Awaited}
use Rattle.py_frames.specs.declared.frame.Along.TheVariants as along
use Rattle.py_frames.specs.declared.frame.Frame.TheVariants as frame
use Rattle.py_frames.specs.declared.frame.CallFrame.TheVariants as call
use Rattle.py_frames.specs.declared.functions.Functions.{Functions}
use Rattle.py_frames.specs.declared.going.Going.{Going}
use Rattle.py_frames.specs.Doing.{give, after, on_value, choose, ◌>>=◌}
use Rattle.py_frames.specs.Parts.{place_of, trailers_from}
use Rattle.py_frames.specs.Expressions.{value_of, trailed, trailed_one, purpose_at, is_call, last_is_call, ends_in_call, is_a_call, awaited}
use Rattle.py_frames.specs.Begun.{value_after}
use Rattle.py_frames.specs.Call_frames.{trailers_of}
use Rattle.py_frames.specs.Trailing.{first_trailer, ended}
use Rattle.py_frames.specs.Frames.{GoesOn, within}
use Rattle.py_frames.proofs.CallLaws.{same_goes}

pub trailer_get : (ts : List Trails) (n : ℕ) → option_map trailer_of (slice_get ts n) ≡ first_trailer (trailers_from n (trailers (map trailer_of ts)))
trailer_get [] zero = refl
trailer_get [] (suc n) = refl
trailer_get (t ∷ ts) zero = refl
trailer_get (t ∷ ts) (suc n) = trailer_get ts n

pub trailer_none : (n : ℕ) → None ≡ first_trailer (trailers_from n no_trailer)
trailer_none zero = refl
trailer_none (suc n) = refl

-- where one trails, the others stand behind it
pub trailers-next : (n : ℕ) (ts : Trailers) (t : Trailer) → Some t ≡ first_trailer (trailers_from n ts) → trailer t (trailers_from (suc n) ts) ≡ trailers_from n ts
trailers-next zero no_trailer t e = cc
trailers-next zero (trailer u us) t e = cc
trailers-next (suc n) no_trailer t e = cc
trailers-next (suc n) (trailer u us) t e = trailers-next n us t e

pub trailers-end : (ts : Trailers) → None ≡ first_trailer ts → no_trailer ≡ ts
trailers-end no_trailer e = refl
trailers-end (trailer t ts) e = cc

pub purpose_last : (ts : Trailers) (u : Purpose) → None ≡ first_trailer ts → u ≡ purpose_at ts u
purpose_last no_trailer u e = refl
purpose_last (trailer t ts) u e = cc

pub purpose_more : (ts : Trailers) (t : Trailer) (u : Purpose) → Some t ≡ first_trailer ts → Plain ≡ purpose_at ts u
purpose_more no_trailer t u e = cc
purpose_more (trailer v ts) t u e = refl

pub ruleset purpose_rules = (purpose_last, purpose_more)

pub trail_end : (fns : Functions) (frozen : Made) (r : Result Now Halt) (x y : Going) (budget : ℕ) (n : ℕ) (node : Expr) (u : Purpose) (v : Val) → None ≡ first_trailer (trailers_from n (trailers_of (tree node))) → GoesOn fns frozen r x y budget (λ k. give v) → GoesOn fns frozen r x y budget (λ k. trailed k u (place_of (tree node)) (trailers_from n (trailers_of (tree node))) v)
trail_end fns frozen r x y budget n node u v e1 h = same_goes fns frozen r x y budget (λ z k. trailed k u (place_of (tree node)) z v) no_trailer (trailers_from n (trailers_of (tree node))) (trailers-end (trailers_from n (trailers_of (tree node))) e1) h

pub trail_more : (fns : Functions) (frozen : Made) (r : Result Now Halt) (x y : Going) (budget : ℕ) (n m : ℕ) (node more : Expr) (t : Trailer) (u part : Purpose) (v : Val) → Some t ≡ first_trailer (trailers_from n (trailers_of (tree node))) → m ≡ n + 1 → tree more ≡ tree node → part ≡ purpose_at (trailers_from m (trailers_of (tree node))) u → GoesOn fns frozen r x y budget (within (frame.Call (call.Trail more m (along.Value u))) (λ k. trailed_one k part (place_of (tree node)) t v)) → GoesOn fns frozen r x y budget (λ k. trailed k u (place_of (tree node)) (trailers_from n (trailers_of (tree node))) v)
trail_more fns frozen r x y budget n m node more t u part v e1 e2 e3 e4 h =
    let q : m ≡ suc n = omega arith in
    same_goes fns frozen r x y budget (λ z k. trailed k u (place_of (tree node)) z v) (trailer t (trailers_from (suc n) (trailers_of (tree node)))) (trailers_from n (trailers_of (tree node))) (trailers-next n (trailers_of (tree node)) t e1)
    (same_goes fns frozen r x y budget (λ z k w s. after (trailed_one k z (place_of (tree node)) t v w s) (λ got. on_value got (λ y. trailed k u (place_of (tree node)) (trailers_from (suc n) (trailers_of (tree node))) y) w)) part (purpose_at (trailers_from (suc n) (trailers_of (tree node))) u) (e4 ∙ ap (λ (z : ℕ). purpose_at (trailers_from z (trailers_of (tree node))) u) q)
    (same_goes fns frozen r x y budget (λ z k w s. after (trailed_one k part (place_of (tree node)) t v w s) (λ got. on_value got (λ y. trailed k u (place_of (tree node)) (trailers_from z (trailers_of (tree node))) y) w)) m (suc n) q
    (same_goes fns frozen r x y budget (λ z k w s. after (trailed_one k part (place_of (tree node)) t v w s) (λ got. on_value got (λ y. trailed k u (place_of z) (trailers_from m (trailers_of z)) y) w)) (tree more) (tree node) e3 h)))

ended-last_is_call : (t : Trailer) (ts : Trailers) → ended (is_call t) ts ≡ last_is_call t ts
ended-last_is_call t no_trailer = refl
ended-last_is_call t (trailer u us) = ended-last_is_call u us

pub ended_last : (ts : Trailers) → ended false ts ≡ ends_in_call ts
ended_last no_trailer = refl
ended_last (trailer t ts) = ended-last_is_call t ts

pub ended_call : (ts : Trailers) (b : Bool) → b ≡ ended false ts → b ≡ ends_in_call ts
ended_call ts b e = e ∙ ended_last ts

begin_on : (fns : Functions) (frozen : Made) (x : Going) (budget : ℕ) (e : Expr) (u : Purpose) → GoesOn fns frozen (Ok (Begin e u)) x x budget (λ k. value_of k u (tree e))
unfolding GoesOn
begin_on fns frozen x budget e u = λ w h. refl

pub trailed_begins : (fns : Functions) (frozen : Made) (r : Result Now Halt) (x y : Going) (budget : ℕ) (p : Place) (a t : Tree) (ts : Trailers) (node : Expr) (u w : Purpose) → t ≡ Trailed p a ts → tree node ≡ t → w ≡ u → GoesOn fns frozen r x y budget (within (frame.Call (call.Trail node 0 (along.Value w))) (λ k. value_of k Plain a)) → GoesOn fns frozen r x y budget (λ k. value_after k u t)
trailed_begins fns frozen r x y budget p a t ts node u w e1 e2 e3 h =
    same_goes fns frozen r x y budget (λ z k. value_after k u z) (Trailed p a ts) t (sym e1)
    (same_goes fns frozen r x y budget (λ z k w s. after (value_of k Plain a w s) (λ got. on_value got (λ y. trailed k z p ts y) w)) w u e3
    (same_goes fns frozen r x y budget (λ z k w2 s. after (value_of k Plain a w2 s) (λ got. on_value got (λ y. trailed k w (place_of z) (trailers_of z) y) w2)) (tree node) (Trailed p a ts) (e2 ∙ e1) h))

pub await_call : (fns : Functions) (frozen : Made) (x : Going) (budget : ℕ) (p : Place) (a t : Tree) (e : Expr) (u : Purpose) (b : Bool) → t ≡ Await p a → tree e ≡ a → b ≡ is_a_call a → b ≡ true → GoesOn fns frozen (Ok (Begin e (Awaited p))) x x budget (λ k. value_after k u t)
await_call fns frozen x budget p a t e u b e1 e2 e3 e4 =
    same_goes fns frozen (Ok (Begin e (Awaited p))) x x budget (λ z k. value_after k u z) (Await p a) t (sym e1)
    (same_goes fns frozen (Ok (Begin e (Awaited p))) x x budget (λ z k. choose z (value_of k (Awaited p) a) (value_of k Plain a >>= (λ x. awaited k x p))) true (is_a_call a) (sym e4 ∙ e3)
    (same_goes fns frozen (Ok (Begin e (Awaited p))) x x budget (λ z k. value_of k (Awaited p) z) (tree e) a e2 (begin_on fns frozen x budget e (Awaited p))))

pub await_other : (fns : Functions) (frozen : Made) (r : Result Now Halt) (x y : Going) (budget : ℕ) (p : Place) (a t : Tree) (u : Purpose) (b : Bool) → t ≡ Await p a → b ≡ is_a_call a → b ≡ false → GoesOn fns frozen r x y budget (within (frame.Call (call.Awaited p)) (λ k. value_of k Plain a)) → GoesOn fns frozen r x y budget (λ k. value_after k u t)
await_other fns frozen r x y budget p a t u b e1 e2 e3 h =
    same_goes fns frozen r x y budget (λ z k. value_after k u z) (Await p a) t (sym e1)
    (same_goes fns frozen r x y budget (λ z k. choose z (value_of k (Awaited p) a) (value_of k Plain a >>= (λ x. awaited k x p))) false (is_a_call a) (sym e3 ∙ e2) h)

pub ruleset await_rules = (await_call, await_other)
