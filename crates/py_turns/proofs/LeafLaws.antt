-- A part that is there at once spends its unit, and what waits for it goes on with its value.
use Rattle.std.specs.Prelude.{pos}
use Rattle.std.proofs.Common.{◌≡◌, ℕ, ◌+◌, ◌≤◌, refl, ap, ◌∙◌, sym, subst, Option, Some, Result, Ok, Err, nat_lt, Bool, true, false, if◌then◌else◌}
use Rattle.amh_host.specs.declared.place.Place.{Place}
use Rattle.py_tree.specs.Programs.{steps_of}
use Rattle.py_tree.specs.Tree.{Tree, Name, Number, Decimal_time, Quotient, Str, Format, Constant_value, Tuple, Display, Dict, ListOf, DictOf, Trailed, Await, Power, Unary, Not, Binary, Compare, Boolean, Choice}
use Rattle.py_heap.specs.Heaps.{Made, Seen, seen}
use Rattle.py_heap.specs.Names.{look_up}
use Rattle.py_values.specs.declared.val.Val.{Val}
use Rattle.py_values.specs.declared.val.Val.TheVariants as val
use Rattle.py_frames.specs.declared.request.Cause.TheVariants as cause
use Rattle.py_frames.specs.declared.state.State.{State}
use Rattle.py_frames.specs.declared.state.Halt.{Halt}
use Rattle.py_frames.specs.declared.state.Halt.TheVariants.{Stopped}
use Rattle.py_frames.specs.declared.state.Got.{Got}
use Rattle.py_frames.specs.declared.state.Got.TheVariants.{Value}
use Rattle.py_frames.specs.declared.frame.Now.{Now}
use Rattle.py_frames.specs.declared.frame.Purpose.TheVariants.{Plain}
use Rattle.py_frames.specs.declared.functions.Functions.{Functions}
use Rattle.py_frames.specs.declared.going.Going.{Going}
use Rattle.py_frames.specs.Statements.{known}
use Rattle.py_frames.specs.Doing.{World, Outcome, Done, Halts, Doing, Known, after, on_value, ◌>>=◌, give, with_value, spend_each, heap_seen}
use Rattle.py_frames.specs.Parts.{place_of}
use Rattle.py_frames.specs.Expressions.{constant_val, value_of}
use Rattle.py_frames.specs.Begun.{cost_of, value_after, Spends}
use Rattle.py_frames.specs.Leaves.{leaf_value}
use Rattle.py_frames.specs.Frames.{GoesOn}
use Rattle.py_frames.proofs.BeginLaws.{value_of-begun}
use Rattle.py_frames.proofs.ExprLaws.{same_total, spent_goes, spent_stops}
use Rattle.py_frames.proofs.ExprKinds.{read_by}

pub leaf_cost : (heap : Seen) (scope : ℕ) (t : Tree) (v : Val) → Some v ≡ leaf_value heap scope t → 1 ≡ cost_of t
leaf_cost heap scope (Name p n) v e = refl
leaf_cost heap scope (Number p n) v e = refl
leaf_cost heap scope (Constant_value p c) v e = refl
leaf_cost heap scope (Decimal_time p d) v e = refl
leaf_cost heap scope (Quotient p n a) v e = refl
leaf_cost heap scope (Str p s) v e = refl
leaf_cost heap scope (Format p s) v e = refl
leaf_cost heap scope (Tuple p ts) v e = refl
leaf_cost heap scope (Display p ts) v e = refl
leaf_cost heap scope (Dict p ps) v e = refl
leaf_cost heap scope (ListOf p a c) v e = refl
leaf_cost heap scope (DictOf p a b c) v e = refl
leaf_cost heap scope (Trailed p a ts) v e = cc
leaf_cost heap scope (Await p a) v e = refl
leaf_cost heap scope (Power p a b) v e = refl
leaf_cost heap scope (Unary p o a) v e = refl
leaf_cost heap scope (Not p a) v e = refl
leaf_cost heap scope (Binary p a ls) v e = cc
leaf_cost heap scope (Compare p a ls) v e = refl
leaf_cost heap scope (Boolean p a ls) v e = cc
leaf_cost heap scope (Choice p a b c) v e = refl

pub leaf_after : (k : Known) (w : World) (s : State) (t : Tree) (v : Val) → Some v ≡ leaf_value (heap_seen k s) s.here.scope.0 t → Done (Value v) s ≡ value_after k Plain t w s
leaf_after k w s (Name p n) v e =
    ap (λ (z : Option Val). with_value z p give w s) e ∙ ap (λ (d : Doing). d w s) (sym (read_by (look_up (heap_seen k s) s.here.scope.0 n) n p))
leaf_after k w s (Number p n) v e = let q : v ≡ val.Int (pos n) = cc in ap (λ (z : Val). Done (Value z) s) q
leaf_after k w s (Constant_value p c) v e = let q : v ≡ constant_val c = cc in ap (λ (z : Val). Done (Value z) s) q
leaf_after k w s (Decimal_time p d) v e = cc
leaf_after k w s (Quotient p n a) v e = cc
leaf_after k w s (Str p t) v e = cc
leaf_after k w s (Format p t) v e = cc
leaf_after k w s (Tuple p ts) v e = cc
leaf_after k w s (Display p ts) v e = cc
leaf_after k w s (Dict p ps) v e = cc
leaf_after k w s (ListOf p a c) v e = cc
leaf_after k w s (DictOf p a b c) v e = cc
leaf_after k w s (Trailed p a ts) v e = cc
leaf_after k w s (Await p a) v e = cc
leaf_after k w s (Power p a b) v e = cc
leaf_after k w s (Unary p o a) v e = cc
leaf_after k w s (Not p a) v e = cc
leaf_after k w s (Binary p a ls) v e = cc
leaf_after k w s (Compare p a ls) v e = cc
leaf_after k w s (Boolean p a ls) v e = cc
leaf_after k w s (Choice p a b c) v e = cc

spent_or_not : (b : Bool) (a c : Outcome) (h : Halt) (s : State) (f : Got → State → Outcome) → a ≡ after c f → (if b then a else Halts h s) ≡ after (if b then c else Halts h s) f
spent_or_not true a c h s f e = e
spent_or_not false a c h s f e = refl

leaf_total : (k : Known) (w : World) (s : State) (t : Tree) (v : Val) (m : Val → Doing) → Some v ≡ leaf_value (heap_seen k s) s.here.scope.0 t → spend_each 1 (place_of t) (m v) w s ≡ (value_of k Plain t >>= m) w s
leaf_total k w s t v m e =
    let on : Outcome → Outcome = λ o. after o (λ got. on_value got m w) in
    let spent : State = record s { used = s.used + 1 } in
    spent_or_not (nat_lt (s.used + 1) w.budget) (m v w spent) (value_after k Plain t w spent) (Stopped (record { cause = cause.Spent; place = place_of t })) (record s { used = w.budget }) (λ got. on_value got m w) (ap on (leaf_after k w spent t v e))
    ∙ (ap (λ (n : ℕ). on (spend_each n (place_of t) (value_after k Plain t) w s)) (leaf_cost (heap_seen k s) s.here.scope.0 t v e)
    ∙ ap (λ (d : Doing). on (d w s)) (sym (value_of-begun k Plain t)))

pub leaf_goes : (fns : Functions) (frozen : Made) (r : Result Now Halt) (x z y : Going) (budget : ℕ) (u : Unit {0}) (p : Place) (t : Tree) (v : Val) (m : Known → Val → Doing) → Some v ≡ leaf_value (seen frozen x.state.heap) x.state.here.scope.0 t → p ≡ place_of t → Spends (Ok u) 1 p x z budget → z.state.used ≤ y.state.used → GoesOn fns frozen r z y budget (λ k. m k v) → GoesOn fns frozen r x y budget (λ k. value_of k Plain t >>= m k)
leaf_goes fns frozen r x z y budget u p t v m e q s g h =
    let P : Place → Type 0 = λ a. GoesOn fns frozen r x y budget (λ k. spend_each 1 a (m k v)) in
    let k : Known = known (steps_of fns.program) frozen x.state.here.room in
    same_total fns frozen r x y budget (λ k. spend_each 1 (place_of t) (m k v)) (λ k. value_of k Plain t >>= m k)
    (λ w. leaf_total k w x.state t v (m k) e)
    (subst P q (spent_goes fns frozen r x z y budget 1 u p (λ k. m k v) s g h))

pub leaf_stops : (fns : Functions) (frozen : Made) (h : Halt) (x z : Going) (budget : ℕ) (p : Place) (t : Tree) (v : Val) (m : Known → Val → Doing) → Some v ≡ leaf_value (seen frozen x.state.heap) x.state.here.scope.0 t → p ≡ place_of t → Spends (Err h) 1 p x z budget → GoesOn fns frozen (Err h) x z budget (λ k. value_of k Plain t >>= m k)
leaf_stops fns frozen h x z budget p t v m e q s =
    let P : Place → Type 0 = λ a. GoesOn fns frozen (Err h) x z budget (λ k. spend_each 1 a (m k v)) in
    let k : Known = known (steps_of fns.program) frozen x.state.here.room in
    same_total fns frozen (Err h) x z budget (λ k. spend_each 1 (place_of t) (m k v)) (λ k. value_of k Plain t >>= m k)
    (λ w. leaf_total k w x.state t v (m k) e)
    (subst P q (spent_stops fns frozen h x z budget 1 p (λ k. m k v) s))
