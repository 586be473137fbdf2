-- The last of what trails: no frame waits for its value.
use Rattle.std.proofs.Common.{◌≡◌, ℕ, ◌+◌, refl, sym, subst, Some, None, Result}
use Rattle.amh_host.specs.declared.place.Place.{Place}
use Rattle.py_tree.specs.declared.expr.Expr.{Expr}
use Rattle.py_tree.specs.Seen.{tree}
use Rattle.py_tree.specs.Programs.{steps_of}
use Rattle.py_tree.specs.Tree.{Trailers, Trailer}
use Rattle.py_heap.specs.Heaps.{Made}
use Rattle.py_values.specs.declared.val.Val.{Val}
use Rattle.py_frames.specs.declared.state.Halt.{Halt}
use Rattle.py_frames.specs.declared.state.Got.TheVariants as got
use Rattle.py_frames.specs.declared.frame.Now.{Now}
use Rattle.py_frames.specs.declared.frame.Purpose.{Purpose}
use Rattle.py_frames.specs.declared.functions.Functions.{Functions}
use Rattle.py_frames.specs.declared.going.Going.{Going}
use Rattle.py_frames.specs.Statements.{known}
use Rattle.py_frames.specs.Doing.{World, Outcome, Done, Halts, Known, after, on_value, give}
use Rattle.py_frames.specs.Parts.{place_of, trailers_from}
use Rattle.py_frames.specs.Expressions.{trailed, trailed_one}
use Rattle.py_frames.specs.Call_frames.{trailers_of}
use Rattle.py_frames.specs.Trailing.{first_trailer}
use Rattle.py_frames.specs.Frames.{GoesOn}
use Rattle.py_frames.proofs.ExprLaws.{same_total}
use Rattle.py_frames.proofs.TrailLaws.{trail_more, trailers-end, purpose_last}

gives_all : (o : Outcome) (w : World) → after o (λ a. on_value a give w) ≡ o
gives_all (Halts h s) w = refl
gives_all (Done (got.Value v) s) w = refl
gives_all (Done (got.Bound names) s) w = refl
gives_all (Done (got.Through v) s) w = refl
gives_all (Done got.Next s) w = refl
gives_all (Done got.Broke s) w = refl
gives_all (Done got.Continued s) w = refl
gives_all (Done (got.Returned v) s) w = refl

pub trail_last : (fns : Functions) (frozen : Made) (r : Result Now Halt) (x y : Going) (budget : ℕ) (n m : ℕ) (node : Expr) (t : Trailer) (u : Purpose) (v : Val) → Some t ≡ first_trailer (trailers_from n (trailers_of (tree node))) → m ≡ n + 1 → None ≡ first_trailer (trailers_from m (trailers_of (tree node))) → GoesOn fns frozen r x y budget (λ k. trailed_one k u (place_of (tree node)) t v) → GoesOn fns frozen r x y budget (λ k. trailed k u (place_of (tree node)) (trailers_from n (trailers_of (tree node))) v)
trail_last fns frozen r x y budget n m node t u v e1 e2 last h =
    let K : Known = known (steps_of fns.program) frozen x.state.here.room in
    let p : Place = place_of (tree node) in
    let behind : Trailers = trailers_from m (trailers_of (tree node)) in
    let Q : Trailers → Type 0 = λ z. GoesOn fns frozen r x y budget (λ k w s. after (trailed_one k u p t v w s) (λ a. on_value a (λ b. trailed k u p z b) w)) in
    trail_more fns frozen r x y budget n m node node t u u v e1 e2 refl (purpose_last behind u last)
    (subst Q (trailers-end behind last)
    (same_total fns frozen r x y budget (λ k. trailed_one k u p t v) (λ k w s. after (trailed_one k u p t v w s) (λ a. on_value a give w))
    (λ w. sym (gives_all (trailed_one K u p t v w x.state) w)) h))
