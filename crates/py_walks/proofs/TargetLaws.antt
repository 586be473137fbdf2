-- What a value that goes to a target owes.
use Rattle.std.proofs.Common.{◌≡◌, ℕ, suc, ◌+◌, ◌-◌, ◌≤◌, refl, ap, ◌∙◌, sym, subst, List, [], ◌∷◌, Some, None, Result, Ok, Err, Bool, true, false, add-one}
use Rattle.amh_host.specs.declared.place.Place.{Place}
use Rattle.py_tree.specs.declared.expr.Expr.{Expr}
use Rattle.py_tree.specs.Seen.{tree}
use Rattle.py_tree.specs.Tree.{Tree, Name, Number, Decimal_time, Quotient, Str, Format, Constant_value, Tuple, Display, Dict, ListOf, DictOf, Trailed, Await, Power, Unary, Not, Binary, Compare, Boolean, Choice, Trees, none, some, Trailers}
use Rattle.py_heap.specs.Heaps.{Made, seen}
use Rattle.py_heap.specs.Names.{scope_bound}
use Rattle.py_operators.specs.Elements.{elements, counts_to}
use Rattle.py_values.specs.declared.val.Val.{Val}
use Rattle.py_frames.specs.declared.request.Cause.TheVariants as cause
use Rattle.py_frames.specs.declared.state.Halt.{Halt}
use Rattle.py_frames.specs.declared.state.Halt.TheVariants.{Stopped}
use Rattle.py_frames.specs.declared.state.Got.TheVariants.{Next}
use Rattle.py_frames.specs.declared.frame.Now.{Now}
use Rattle.py_frames.specs.declared.frame.Now.TheVariants.{Came}
use Rattle.py_frames.specs.declared.frame.Purpose.TheVariants.{Plain}
use Rattle.py_frames.specs.declared.frame.Frame.{Frame}
use Rattle.py_frames.specs.declared.frame.Frame.TheVariants as frame
use Rattle.py_frames.specs.declared.frame.CallFrame.TheVariants as call
use Rattle.py_frames.specs.declared.frame.WalkFrame.TheVariants as walk
use Rattle.py_frames.specs.declared.frame.Along.TheVariants as along
use Rattle.py_frames.specs.declared.functions.Functions.{Functions}
use Rattle.py_frames.specs.declared.going.Going.{Going}
use Rattle.py_frames.specs.Doing.{Doing, Known, after, on_value, on_next, came, stop, spend_each}
use Rattle.py_frames.specs.Parts.{place_of, tree_count, trees_from}
use Rattle.py_frames.specs.Values.{as_row}
use Rattle.py_frames.specs.Expressions.{value_of, assign, assign_each, stored, reach, reached, as_many, with_elements}
use Rattle.py_frames.specs.Expr_parts.{tree_at, is_trailed}
use Rattle.py_frames.specs.Call_frames.{trailers_of}
use Rattle.py_frames.specs.Begun.{cost_of, Spends}
use Rattle.py_frames.specs.Functions.{named_val}
use Rattle.py_frames.specs.Told.{Binds}
use Rattle.py_frames.specs.Walk_frames.{targets_in, unpacked}
use Rattle.py_walks.specs.Walk_parts.{TellsElements, is_target}
use Rattle.py_frames.specs.Frames.{GoesOn, KeepsRoom, within}
use Rattle.py_frames.proofs.BeginLaws.{no_memory, stop_goes}
use Rattle.py_frames.proofs.ExprLaws.{bind_goes, bind_stops, spent_goes, spent_stops}
use Rattle.py_frames.proofs.ExprGoes.{true_not_false}
use Rattle.py_frames.proofs.ExprParts.{trees_from_some, trees_from_none}
use Rattle.py_frames.proofs.StmtLaws.{meant_same, came_goes}
use Rattle.py_walks.proofs.WalkLaws.{under_frame, next_left, next_on, counts_hold, counts_differ, elements_come, elements_lack}

-- ---- names

pub name_bound : (fns : Functions) (frozen : Made) (x z : Going) (budget : ℕ) (p : Place) (name text : List ℕ) (t : Tree) (v : Val) (u : Unit {0}) → t ≡ Name p name → text ≡ name → Binds (Ok u) (scope_bound (seen frozen x.state.heap) x.state.here.scope.0 text v) (named_val text v) p x z → GoesOn fns frozen (Ok (Came Next)) x z budget (λ k. assign k t v)
name_bound fns frozen x z budget p name text t v u e q b =
    let N : List ℕ → Type 0 = λ i. Binds (Ok u) (scope_bound (seen frozen x.state.heap) x.state.here.scope.0 i v) (named_val i v) p x z in
    let P : Tree → Type 0 = λ a. GoesOn fns frozen (Ok (Came Next)) x z budget (λ k. assign k a v) in
    subst P (sym e) (bind_goes fns frozen (Ok (Came Next)) x z z budget u name v p (λ k. came Next) (subst N q b) (came_goes fns frozen z budget Next))

pub name_refused : (fns : Functions) (frozen : Made) (h : Halt) (x z : Going) (budget : ℕ) (p : Place) (name text : List ℕ) (t : Tree) (v : Val) → t ≡ Name p name → text ≡ name → Binds (Err h) (scope_bound (seen frozen x.state.heap) x.state.here.scope.0 text v) (named_val text v) p x z → GoesOn fns frozen (Err h) x z budget (λ k. assign k t v)
name_refused fns frozen h x z budget p name text t v e q b =
    let N : List ℕ → Type 0 = λ i. Binds (Err h) (scope_bound (seen frozen x.state.heap) x.state.here.scope.0 i v) (named_val i v) p x z in
    let P : Tree → Type 0 = λ a. GoesOn fns frozen (Err h) x z budget (λ k. assign k a v) in
    subst P (sym e) (bind_stops fns frozen h x z budget name v p (λ k. came Next) (subst N q b))

-- ---- what trails

pub trailed_waits : (fns : Functions) (frozen : Made) (r : Result Now Halt) (x y z : Going) (budget n : ℕ) (u : Unit {0}) (p : Place) (a t : Tree) (ts : Trailers) (node : Expr) (v : Val) → t ≡ Trailed p a ts → tree node ≡ t → n ≡ cost_of t → Spends (Ok u) n p x y budget → y.state.used ≤ z.state.used → GoesOn fns frozen r y z budget (within (frame.Call (call.Trail node 0 (along.Store v))) (λ k. value_of k Plain a)) → GoesOn fns frozen r x z budget (λ k. assign k t v)
trailed_waits fns frozen r x y z budget n u p a t ts node v e1 e2 e3 s g h =
    let A : Tree → Type 0 = λ b. GoesOn fns frozen r x z budget (λ k. assign k b v) in
    let B : Tree → Type 0 = λ b. GoesOn fns frozen r y z budget (λ k w st. after (value_of k Plain a w st) (λ got. on_value got (λ i. stored k (place_of b) (trailers_of b) i v) w)) in
    let N : ℕ → Type 0 = λ j. GoesOn fns frozen r x z budget (λ k. spend_each j p (λ w st. after (value_of k Plain a w st) (λ got. on_value got (λ i. stored k p ts i v) w))) in
    subst A (sym e1) (subst N (e3 ∙ ap cost_of e1)
    (spent_goes fns frozen r x y z budget n u p (λ k w st. after (value_of k Plain a w st) (λ got. on_value got (λ i. stored k p ts i v) w)) s g (subst B (e2 ∙ e1) h)))

pub trailed_stops : (fns : Functions) (frozen : Made) (h : Halt) (x z : Going) (budget n : ℕ) (p : Place) (a t : Tree) (ts : Trailers) (v : Val) → t ≡ Trailed p a ts → n ≡ cost_of t → Spends (Err h) n p x z budget → GoesOn fns frozen (Err h) x z budget (λ k. assign k t v)
trailed_stops fns frozen h x z budget n p a t ts v e1 e3 s =
    let A : Tree → Type 0 = λ b. GoesOn fns frozen (Err h) x z budget (λ k. assign k b v) in
    let N : ℕ → Type 0 = λ j. GoesOn fns frozen (Err h) x z budget (λ k. spend_each j p (λ w st. after (value_of k Plain a w st) (λ got. on_value got (λ i. stored k p ts i v) w))) in
    subst A (sym e1) (subst N (e3 ∙ ap cost_of e1)
    (spent_stops fns frozen h x z budget n p (λ k w st. after (value_of k Plain a w st) (λ got. on_value got (λ i. stored k p ts i v) w)) s))

-- ---- a target to which nothing goes

pub reach_waits : (fns : Functions) (frozen : Made) (r : Result Now Halt) (x y z : Going) (budget n m : ℕ) (u : Unit {0}) (p : Place) (a t : Tree) (ts : Trailers) (node : Expr) → t ≡ Trailed p a ts → tree node ≡ t → m ≡ cost_of t → n ≡ m - 1 → Spends (Ok u) n p x y budget → y.state.used ≤ z.state.used → GoesOn fns frozen r y z budget (within (frame.Call (call.Trail node 0 along.Reach)) (λ k. value_of k Plain a)) → GoesOn fns frozen r x z budget (λ k. reach k t)
reach_waits fns frozen r x y z budget n m u p a t ts node e1 e2 e3 e4 s g h =
    let A : Tree → Type 0 = λ b. GoesOn fns frozen r x z budget (λ k. reach k b) in
    let B : Tree → Type 0 = λ b. GoesOn fns frozen r y z budget (λ k w st. after (value_of k Plain a w st) (λ got. on_value got (λ i. reached k (place_of b) (trailers_of b) i) w)) in
    let N : ℕ → Type 0 = λ j. GoesOn fns frozen r x z budget (λ k. spend_each j p (λ w st. after (value_of k Plain a w st) (λ got. on_value got (λ i. reached k p ts i) w))) in
    subst A (sym e1) (subst N (e4 ∙ ap (λ (j : ℕ). j - 1) (e3 ∙ ap cost_of e1))
    (spent_goes fns frozen r x y z budget n u p (λ k w st. after (value_of k Plain a w st) (λ got. on_value got (λ i. reached k p ts i) w)) s g (subst B (e2 ∙ e1) h)))

pub reach_stops : (fns : Functions) (frozen : Made) (h : Halt) (x z : Going) (budget n m : ℕ) (p : Place) (a t : Tree) (ts : Trailers) → t ≡ Trailed p a ts → m ≡ cost_of t → n ≡ m - 1 → Spends (Err h) n p x z budget → GoesOn fns frozen (Err h) x z budget (λ k. reach k t)
reach_stops fns frozen h x z budget n m p a t ts e1 e3 e4 s =
    let A : Tree → Type 0 = λ b. GoesOn fns frozen (Err h) x z budget (λ k. reach k b) in
    let N : ℕ → Type 0 = λ j. GoesOn fns frozen (Err h) x z budget (λ k. spend_each j p (λ w st. after (value_of k Plain a w st) (λ got. on_value got (λ i. reached k p ts i) w))) in
    subst A (sym e1) (subst N (e4 ∙ ap (λ (j : ℕ). j - 1) (e3 ∙ ap cost_of e1))
    (spent_stops fns frozen h x z budget n p (λ k w st. after (value_of k Plain a w st) (λ got. on_value got (λ i. reached k p ts i) w)) s))

reach_free : (k : Known) (t : Tree) → is_trailed t ≡ false → reach k t ≡ came Next
reach_free k (Name p n) e = refl
reach_free k (Number p n) e = refl
reach_free k (Decimal_time p d) e = refl
reach_free k (Quotient p n a) e = refl
reach_free k (Str p s) e = refl
reach_free k (Format p s) e = refl
reach_free k (Constant_value p c) e = refl
reach_free k (Tuple p ts) e = refl
reach_free k (Display p ts) e = refl
reach_free k (Dict p ps) e = refl
reach_free k (ListOf p a c) e = refl
reach_free k (DictOf p a b c) e = refl
reach_free k (Trailed p a ts) e = absurd (true_not_false e)
reach_free k (Await p a) e = refl
reach_free k (Power p a b) e = refl
reach_free k (Unary p o a) e = refl
reach_free k (Not p a) e = refl
reach_free k (Binary p a ls) e = refl
reach_free k (Compare p a ls) e = refl
reach_free k (Boolean p a ls) e = refl
reach_free k (Choice p a b c) e = refl

pub reach_plain : (fns : Functions) (frozen : Made) (x : Going) (budget : ℕ) (t : Tree) (b : Bool) → b ≡ is_trailed t → b ≡ false → GoesOn fns frozen (Ok (Came Next)) x x budget (λ k. reach k t)
reach_plain fns frozen x budget t b e1 e2 = meant_same fns frozen (Ok (Came Next)) x x budget (λ k. came Next) (λ k. reach k t) (λ k. reach_free k t (sym e1 ∙ e2)) (came_goes fns frozen x budget Next)

-- ---- unpacking

pub tuple_row : (fns : Functions) (frozen : Made) (r : Result Now Halt) (x z : Going) (budget : ℕ) (p : Place) (ts : Trees) (t : Tree) (node : Expr) (v : Val) (fs : List Frame) → t ≡ Tuple p ts → tree node ≡ t → fs ≡ frame.Walk (walk.Unpacked node) ∷ x.frames → GoesOn fns frozen r (record x { frames = fs }) z budget (λ k. as_row k v p) → GoesOn fns frozen r x z budget (λ k. assign k t v)
tuple_row fns frozen r x z budget p ts t node v fs e1 e2 e3 h =
    let A : Tree → Type 0 = λ a. GoesOn fns frozen r x z budget (λ k. assign k a v) in
    let B : Tree → Type 0 = λ a. GoesOn fns frozen r x z budget (λ k w s. after (as_row k v p w s) (λ got. on_value got (unpacked k a) w)) in
    subst A (sym e1) (subst B (e2 ∙ e1) (under_frame fns frozen r x z budget (frame.Walk (walk.Unpacked node)) fs (λ k. as_row k v p) refl e3 h))

-- a value goes to a target under a frame
pub assign_waited : (fns : Functions) (frozen : Made) (r : Result Now Halt) (x z : Going) (budget : ℕ) (f : Frame) (fs : List Frame) (t : Tree) (v : Val) → KeepsRoom f x.state.here.room → fs ≡ f ∷ x.frames → GoesOn fns frozen r (record x { frames = fs }) z budget (λ k. assign k t v) → GoesOn fns frozen r x z budget (within f (λ k. assign k t v))
assign_waited fns frozen r x z budget f fs t v room e h = under_frame fns frozen r x z budget f fs (λ k. assign k t v) room e h

-- what unpacking is of so many targets at a place
abbrev unpacks : Known → ℕ → Place → Trees → Val → Doing
unpacks k n p ts v = as_many k n v p (with_elements k v p (λ vs. spend_each n p (assign_each k ts vs)))

as_unpacked : (fns : Functions) (frozen : Made) (r : Result Now Halt) (x z : Going) (budget n : ℕ) (p : Place) (t : Tree) (v : Val) → n ≡ tree_count (targets_in t) → p ≡ place_of t → GoesOn fns frozen r x z budget (λ k. unpacks k n p (targets_in t) v) → GoesOn fns frozen r x z budget (λ k. unpacked k t v)
as_unpacked fns frozen r x z budget n p t v e1 e2 h =
    let N : ℕ → Type 0 = λ j. GoesOn fns frozen r x z budget (λ k. unpacks k j (place_of t) (targets_in t) v) in
    let P : Place → Type 0 = λ q. GoesOn fns frozen r x z budget (λ k. unpacks k n q (targets_in t) v) in
    subst N e1 (subst P e2 h)

pub unpack_differs : (fns : Functions) (frozen : Made) (x : Going) (budget n : ℕ) (p : Place) (t : Tree) (v : Val) (b : Bool) → n ≡ tree_count (targets_in t) → p ≡ place_of t → b ≡ counts_to (seen frozen x.state.heap) v n → b ≡ false → GoesOn fns frozen (Err (Stopped (record { cause = cause.Raised; place = p }))) x x budget (λ k. unpacked k t v)
unpack_differs fns frozen x budget n p t v b e1 e2 e q =
    as_unpacked fns frozen _ x x budget n p t v e1 e2 (counts_differ fns frozen x budget n v p (λ k. with_elements k v p (λ vs. spend_each n p (assign_each k (targets_in t) vs))) (sym e ∙ q))

pub unpack_goes : (fns : Functions) (frozen : Made) (r : Result Now Halt) (x z : Going) (budget n : ℕ) (p : Place) (t : Tree) (v : Val) (vs : List Val) (b : Bool) → n ≡ tree_count (targets_in t) → p ≡ place_of t → b ≡ counts_to (seen frozen x.state.heap) v n → b ≡ true → TellsElements (Ok vs) (elements (seen frozen x.state.heap) v) p → GoesOn fns frozen r x z budget (λ k. spend_each n p (assign_each k (targets_in t) vs)) → GoesOn fns frozen r x z budget (λ k. unpacked k t v)
unpack_goes fns frozen r x z budget n p t v vs b e1 e2 e3 q e4 h =
    as_unpacked fns frozen r x z budget n p t v e1 e2
    (counts_hold fns frozen r x z budget n v p (λ k. with_elements k v p (λ us. spend_each n p (assign_each k (targets_in t) us))) (sym e3 ∙ q)
    (elements_come fns frozen r x z budget v vs p (λ k us. spend_each n p (assign_each k (targets_in t) us)) e4 h))

pub unpack_stops : (fns : Functions) (frozen : Made) (h : Halt) (x : Going) (budget n : ℕ) (p : Place) (t : Tree) (v : Val) (b : Bool) → n ≡ tree_count (targets_in t) → p ≡ place_of t → b ≡ counts_to (seen frozen x.state.heap) v n → b ≡ true → TellsElements (Err h) (elements (seen frozen x.state.heap) v) p → GoesOn fns frozen (Err h) x x budget (λ k. unpacked k t v)
unpack_stops fns frozen h x budget n p t v b e1 e2 e3 q e4 =
    as_unpacked fns frozen (Err h) x x budget n p t v e1 e2
    (counts_hold fns frozen (Err h) x x budget n v p (λ k. with_elements k v p (λ us. spend_each n p (assign_each k (targets_in t) us))) (sym e3 ∙ q)
    (elements_lack fns frozen h x budget v p (λ k us. spend_each n p (assign_each k (targets_in t) us)) e4))

pub spread_goes : (fns : Functions) (frozen : Made) (r : Result Now Halt) (x y z : Going) (budget n : ℕ) (u : Unit {0}) (p : Place) (ts : Trees) (vs : List Val) → Spends (Ok u) n p x y budget → y.state.used ≤ z.state.used → GoesOn fns frozen r y z budget (λ k. assign_each k (trees_from 0 ts) vs) → GoesOn fns frozen r x z budget (λ k. spend_each n p (assign_each k ts vs))
spread_goes fns frozen r x y z budget n u p ts vs s g h = spent_goes fns frozen r x y z budget n u p (λ k. assign_each k ts vs) s g h

pub spread_stops : (fns : Functions) (frozen : Made) (h : Halt) (x z : Going) (budget n : ℕ) (p : Place) (ts : Trees) (vs : List Val) → Spends (Err h) n p x z budget → GoesOn fns frozen (Err h) x z budget (λ k. spend_each n p (assign_each k ts vs))
spread_stops fns frozen h x z budget n p ts vs s = spent_stops fns frozen h x z budget n p (λ k. assign_each k ts vs) s

-- ---- one target after the other

pub each_next : (fns : Functions) (frozen : Made) (r : Result Now Halt) (x z : Going) (budget n m : ℕ) (node : Expr) (t : Tree) (vs rest : List Val) (v : Val) → m ≡ n + 1 → Some t ≡ tree_at n (targets_in (tree node)) → vs ≡ v ∷ rest → GoesOn fns frozen r x z budget (within (frame.Walk (walk.Unpacking node m rest)) (λ k. assign k t v)) → GoesOn fns frozen r x z budget (λ k. assign_each k (trees_from n (targets_in (tree node))) vs)
each_next fns frozen r x z budget n m node t vs rest v e1 e2 e3 h =
    let A : Trees → Type 0 = λ ts. GoesOn fns frozen r x z budget (λ k. assign_each k ts vs) in
    let V : List Val → Type 0 = λ us. GoesOn fns frozen r x z budget (λ k. assign_each k (some t (trees_from (suc n) (targets_in (tree node)))) us) in
    let N : ℕ → Type 0 = λ j. GoesOn fns frozen r x z budget (λ k w s. after (assign k t v w s) (λ got. on_next got (assign_each k (trees_from j (targets_in (tree node))) rest) w)) in
    subst A (sym (trees_from_some n (targets_in (tree node)) t e2)) (subst V (sym e3) (subst N (e1 ∙ add-one n) h))

pub each_ends : (fns : Functions) (frozen : Made) (x : Going) (budget n : ℕ) (ts : Trees) (vs : List Val) → None ≡ tree_at n ts → GoesOn fns frozen (Ok (Came Next)) x x budget (λ k. assign_each k (trees_from n ts) vs)
each_ends fns frozen x budget n ts vs e =
    let A : Trees → Type 0 = λ us. GoesOn fns frozen (Ok (Came Next)) x x budget (λ k. assign_each k us vs) in
    subst A (sym (trees_from_none n ts e)) (came_goes fns frozen x budget Next)

no_values : (k : Known) (ts : Trees) → assign_each k ts [] ≡ came Next
no_values k none = refl
no_values k (some t ts) = refl

pub each_empty : (fns : Functions) (frozen : Made) (x : Going) (budget : ℕ) (ts : Trees) (vs : List Val) → vs ≡ [] → GoesOn fns frozen (Ok (Came Next)) x x budget (λ k. assign_each k ts vs)
each_empty fns frozen x budget ts vs e =
    let V : List Val → Type 0 = λ us. GoesOn fns frozen (Ok (Came Next)) x x budget (λ k. assign_each k ts us) in
    subst V (sym e) (meant_same fns frozen (Ok (Came Next)) x x budget (λ k. came Next) (λ k. assign_each k ts []) (λ k. no_values k ts) (came_goes fns frozen x budget Next))

-- ---- other kinds

-- nothing else is a target
other_kinds : (k : Known) (t : Tree) (v : Val) → is_target t ≡ false → assign k t v ≡ stop cause.Raised (place_of t)
other_kinds k (Name p n) v e = absurd (true_not_false e)
other_kinds k (Number p n) v e = refl
other_kinds k (Decimal_time p d) v e = refl
other_kinds k (Quotient p n a) v e = refl
other_kinds k (Str p s) v e = refl
other_kinds k (Format p s) v e = refl
other_kinds k (Constant_value p c) v e = refl
other_kinds k (Tuple p ts) v e = absurd (true_not_false e)
other_kinds k (Display p ts) v e = refl
other_kinds k (Dict p ps) v e = refl
other_kinds k (ListOf p a c) v e = refl
other_kinds k (DictOf p a b c) v e = refl
other_kinds k (Trailed p a ts) v e = absurd (true_not_false e)
other_kinds k (Await p a) v e = refl
other_kinds k (Power p a b) v e = refl
other_kinds k (Unary p s a) v e = refl
other_kinds k (Not p a) v e = refl
other_kinds k (Binary p a ls) v e = refl
other_kinds k (Compare p a ls) v e = refl
other_kinds k (Boolean p a ls) v e = refl
other_kinds k (Choice p a b d) v e = refl

pub other_target : (fns : Functions) (frozen : Made) (x : Going) (budget : ℕ) (p : Place) (t : Tree) (v : Val) → is_target t ≡ false → p ≡ place_of t → GoesOn fns frozen (Err (Stopped (record { cause = cause.Raised; place = p }))) x x budget (λ k. assign k t v)
other_target fns frozen x budget p t v e q =
    let P : Place → Type 0 = λ i. GoesOn fns frozen (Err (Stopped (record { cause = cause.Raised; place = i }))) x x budget (λ k. assign k t v) in
    subst P (sym q) (meant_same fns frozen _ x x budget (λ k. stop cause.Raised (place_of t)) (λ k. assign k t v) (λ k. other_kinds k t v e) (stop_goes fns frozen x budget cause.Raised (place_of t)))

pub ruleset target_rules = (other_target, no_memory)

pub ruleset name_rules = (name_bound, name_refused)

pub ruleset trailed_rules = (trailed_waits, trailed_stops, no_memory)

pub ruleset reach_rules = (reach_plain, no_memory)

pub ruleset tuple_rules = (tuple_row, no_memory)

pub ruleset under_rules = (assign_waited, no_memory)

pub ruleset unpack_rules = (unpack_differs, unpack_goes, unpack_stops)

pub ruleset spread_rules = (spread_goes, spread_stops)

pub ruleset each_rules = (each_next, each_ends, each_empty, no_memory)

pub ruleset left_rules = (next_left, next_on)
