-- How augmented assignments begin: at a name that is read, or along what trails a primary.
use Rattle.std.proofs.Common.{◌≡◌, ℕ, ◌≤◌, refl, ap, ◌∙◌, sym, subst, List, ◌∷◌, Option, Some, None, Result, Ok, Err, Bool, true, false}
use Rattle.amh_host.specs.declared.place.Place.{Place}
use Rattle.py_tree.specs.declared.expr.Expr.{Expr}
use Rattle.py_tree.specs.declared.expr.Operator.{Operator}
use Rattle.py_tree.specs.declared.stmt.Stmt.{Stmt}
use Rattle.py_tree.specs.Seen.{tree}
use Rattle.py_tree.specs.Programs.{step_of, steps_of}
use Rattle.py_tree.specs.Steps.{Step, Pass, Break, Continue, Return, Assert, Raise, ImportAll, Import, Assign, Annotate, Augment, Evaluate, If, While, For, With, Def, Class}
use Rattle.py_tree.specs.Tree.{Tree, Name, Number, Decimal_time, Quotient, Str, Format, Constant_value, Tuple, Display, Dict, ListOf, DictOf, Trailed, Await, Power, Unary, Not, Binary, Compare, Boolean, Choice, Trailers, Trailer, Attribute, Call, CallOf, Index, Slice}
use Rattle.py_heap.specs.Heaps.{Made, seen}
use Rattle.py_heap.specs.Names.{look_up}
use Rattle.py_heap.specs.declared.scopes.LookUp.{LookUp}
use Rattle.py_values.specs.declared.val.Val.{Val}
use Rattle.py_values.specs.declared.op.PyOp.{PyOp}
use Rattle.py_frames.specs.declared.request.Cause.TheVariants as cause
use Rattle.py_frames.specs.declared.state.Halt.{Halt}
use Rattle.py_frames.specs.declared.state.Halt.TheVariants.{Stopped}
use Rattle.py_frames.specs.declared.state.Got.TheVariants as got
use Rattle.py_frames.specs.declared.frame.Now.{Now}
use Rattle.py_frames.specs.declared.frame.Purpose.TheVariants.{Plain}
use Rattle.py_frames.specs.declared.frame.Along.TheVariants as along
use Rattle.py_frames.specs.declared.frame.Changed.TheVariants as changed
use Rattle.py_frames.specs.declared.frame.StmtFrame.TheVariants as stmt
use Rattle.py_frames.specs.declared.frame.CallFrame.TheVariants as call
use Rattle.py_frames.specs.declared.frame.Frame.TheVariants as frame
use Rattle.py_frames.specs.declared.functions.Functions.{Functions}
use Rattle.py_frames.specs.declared.going.Going.{Going}
use Rattle.py_frames.specs.Statements.{known, augment, augment_name, augment_along, augment_last, augmented}
use Rattle.py_frames.specs.Doing.{Doing, Known, after, on_value, ◌>>=◌, came, stop, give, choose, with_value, spend_each}
use Rattle.py_frames.specs.Parts.{operator_of, place_of, trailers_from}
use Rattle.py_frames.specs.Values.{bind, attribute}
use Rattle.py_frames.specs.Expressions.{value_of}
use Rattle.py_frames.specs.Begun.{cost_of, Spends}
use Rattle.py_frames.specs.Expr_parts.{name_value}
use Rattle.py_frames.specs.Call_frames.{trailers_of, augmented_along}
use Rattle.py_frames.specs.Stmt_frames.{Change, change_of, with_change, index_came, old_came, right_came}
use Rattle.py_statements.specs.Augmented.{augment_after, augmented_last, can_change, can_change_last}
use Rattle.py_frames.specs.Frames.{GoesOn, within}
use Rattle.py_frames.proofs.ExprGoes.{true_not_false}
use Rattle.py_frames.proofs.BeginLaws.{stop_goes, pushed}
use Rattle.py_frames.proofs.ExprLaws.{same_total, spent_goes, spent_stops}
use Rattle.py_frames.proofs.ExprKinds.{read_by}

-- ---- targets

augment_by : (k : Known) (t : Tree) (p : Place) (o : PyOp) (a : Tree) → augment k t p o a ≡ choose (can_change t) (spend_each (cost_of t) (place_of t) (augment_after k t p o a)) (stop cause.Raised (place_of t))
augment_by k (Name q n) p o a = refl
augment_by k (Number q n) p o a = refl
augment_by k (Decimal_time q d) p o a = refl
augment_by k (Quotient q n b) p o a = refl
augment_by k (Str q s) p o a = refl
augment_by k (Format q s) p o a = refl
augment_by k (Constant_value q c) p o a = refl
augment_by k (Tuple q ts) p o a = refl
augment_by k (Display q ts) p o a = refl
augment_by k (Dict q ps) p o a = refl
augment_by k (ListOf q b c) p o a = refl
augment_by k (DictOf q b c d) p o a = refl
augment_by k (Trailed q b ts) p o a = refl
augment_by k (Await q b) p o a = refl
augment_by k (Power q b c) p o a = refl
augment_by k (Unary q s b) p o a = refl
augment_by k (Not q b) p o a = refl
augment_by k (Binary q b ls) p o a = refl
augment_by k (Compare q b ls) p o a = refl
augment_by k (Boolean q b ls) p o a = refl
augment_by k (Choice q b c d) p o a = refl

augment_chosen : (fns : Functions) (frozen : Made) (r : Result Now Halt) (x y : Going) (budget : ℕ) (t : Tree) (q : Place) (o : PyOp) (a : Tree) (b : Bool) → can_change t ≡ b → GoesOn fns frozen r x y budget (λ k. choose b (spend_each (cost_of t) (place_of t) (augment_after k t q o a)) (stop cause.Raised (place_of t))) → GoesOn fns frozen r x y budget (λ k. augment k t q o a)
augment_chosen fns frozen r x y budget t q o a b e h =
    let Q : Bool → Type 0 = λ z. GoesOn fns frozen r x y budget (λ k. choose z (spend_each (cost_of t) (place_of t) (augment_after k t q o a)) (stop cause.Raised (place_of t))) in
    same_total fns frozen r x y budget (λ k. choose (can_change t) (spend_each (cost_of t) (place_of t) (augment_after k t q o a)) (stop cause.Raised (place_of t))) (λ k. augment k t q o a)
    (λ w. ap (λ (d : Doing). d w x.state) (sym (augment_by (known (steps_of fns.program) frozen x.state.here.room) t q o a))) (subst Q (sym e) h)

pub begins_none : (fns : Functions) (frozen : Made) (x : Going) (budget : ℕ) (t : Tree) (p q : Place) (o : PyOp) (a : Tree) → can_change t ≡ false → p ≡ place_of t → GoesOn fns frozen (Err (Stopped (record { cause = cause.Raised; place = p }))) x x budget (λ k. augment k t q o a)
begins_none fns frozen x budget t p q o a e f =
    let P : Place → Type 0 = λ z. GoesOn fns frozen (Err (Stopped (record { cause = cause.Raised; place = p }))) x x budget (λ k. stop cause.Raised z) in
    augment_chosen fns frozen (Err (Stopped (record { cause = cause.Raised; place = p }))) x x budget t q o a false e (subst P f (stop_goes fns frozen x budget cause.Raised p))

pub begins_spent : (fns : Functions) (frozen : Made) (r : Result Now Halt) (x z y : Going) (budget n : ℕ) (u : Unit {0}) (t : Tree) (p q : Place) (o : PyOp) (a : Tree) → can_change t ≡ true → n ≡ cost_of t → p ≡ place_of t → Spends (Ok u) n p x z budget → z.state.used ≤ y.state.used → GoesOn fns frozen r z y budget (λ k. augment_after k t q o a) → GoesOn fns frozen r x y budget (λ k. augment k t q o a)
begins_spent fns frozen r x z y budget n u t p q o a e e1 e2 s g h =
    let P : ℕ → Type 0 = λ m. GoesOn fns frozen r x y budget (λ k. spend_each m p (augment_after k t q o a)) in
    let Q : Place → Type 0 = λ m. GoesOn fns frozen r x y budget (λ k. spend_each (cost_of t) m (augment_after k t q o a)) in
    augment_chosen fns frozen r x y budget t q o a true e (subst Q e2 (subst P e1 (spent_goes fns frozen r x z y budget n u p (λ k. augment_after k t q o a) s g h)))

pub begins_stops : (fns : Functions) (frozen : Made) (h : Halt) (x z : Going) (budget n : ℕ) (t : Tree) (p q : Place) (o : PyOp) (a : Tree) → can_change t ≡ true → n ≡ cost_of t → p ≡ place_of t → Spends (Err h) n p x z budget → GoesOn fns frozen (Err h) x z budget (λ k. augment k t q o a)
begins_stops fns frozen h x z budget n t p q o a e e1 e2 s =
    let P : ℕ → Type 0 = λ m. GoesOn fns frozen (Err h) x z budget (λ k. spend_each m p (augment_after k t q o a)) in
    let Q : Place → Type 0 = λ m. GoesOn fns frozen (Err h) x z budget (λ k. spend_each (cost_of t) m (augment_after k t q o a)) in
    augment_chosen fns frozen (Err h) x z budget t q o a true e (subst Q e2 (subst P e1 (spent_stops fns frozen h x z budget n p (λ k. augment_after k t q o a) s)))

-- ---- names

-- behind a name that is read
abbrev name_then : Known → Place → List ℕ → Place → PyOp → Tree → Val → Doing
name_then k q n p o a x = value_of k Plain a >>= (λ y. augmented k o x y p >>= (λ z. bind k n z q (came got.Next)))

name_by : (fns : Functions) (frozen : Made) (r : Result Now Halt) (x y : Going) (budget : ℕ) (q p : Place) (n : List ℕ) (o : PyOp) (a : Tree) (v : Option Val) → v ≡ name_value (look_up (seen frozen x.state.heap) x.state.here.scope.0 n) n → GoesOn fns frozen r x y budget (λ k. with_value v q give >>= name_then k q n p o a) → GoesOn fns frozen r x y budget (λ k. augment_name k q n p o a)
name_by fns frozen r x y budget q p n o a v e h =
    let K : Known = known (steps_of fns.program) frozen x.state.here.room in
    let l : LookUp = look_up (seen frozen x.state.heap) x.state.here.scope.0 n in
    same_total fns frozen r x y budget (λ k. with_value v q give >>= name_then k q n p o a) (λ k. augment_name k q n p o a)
    (λ w. ap (λ (d : Doing). (d >>= name_then K q n p o a) w x.state) (ap (λ (z : Option Val). with_value z q give) e ∙ sym (read_by l n q))) h

after_name : (fns : Functions) (frozen : Made) (r : Result Now Halt) (x y : Going) (budget : ℕ) (q p : Place) (n : List ℕ) (o : PyOp) (a t : Tree) → t ≡ Name q n → GoesOn fns frozen r x y budget (λ k. augment_name k q n p o a) → GoesOn fns frozen r x y budget (λ k. augment_after k t p o a)
after_name fns frozen r x y budget q p n o a t e h = let Q : Tree → Type 0 = λ z. GoesOn fns frozen r x y budget (λ k. augment_after k z p o a) in subst Q (sym e) h

pub name_stops : (fns : Functions) (frozen : Made) (x : Going) (budget : ℕ) (q p : Place) (n : List ℕ) (o : PyOp) (a t : Tree) → t ≡ Name q n → None ≡ name_value (look_up (seen frozen x.state.heap) x.state.here.scope.0 n) n → GoesOn fns frozen (Err (Stopped (record { cause = cause.Raised; place = q }))) x x budget (λ k. augment_after k t p o a)
name_stops fns frozen x budget q p n o a t e f =
    after_name fns frozen (Err (Stopped (record { cause = cause.Raised; place = q }))) x x budget q p n o a t e
    (name_by fns frozen (Err (Stopped (record { cause = cause.Raised; place = q }))) x x budget q p n o a None f
    (same_total fns frozen (Err (Stopped (record { cause = cause.Raised; place = q }))) x x budget (λ k. stop cause.Raised q) (λ k. with_value None q give >>= name_then k q n p o a) (λ w. refl) (stop_goes fns frozen x budget cause.Raised q)))

pub name_begins : (fns : Functions) (frozen : Made) (r : Result Now Halt) (x y : Going) (budget : ℕ) (q p : Place) (n : List ℕ) (o : Operator) (a t : Tree) (old : Val) (s more : Stmt) → step_of s ≡ Augment p t o a → t ≡ Name q n → step_of more ≡ step_of s → Some old ≡ name_value (look_up (seen frozen x.state.heap) x.state.here.scope.0 n) n → GoesOn fns frozen r x y budget (within (frame.Stmt (stmt.AugmentRight more changed.Name old)) (λ k. value_of k Plain a)) → GoesOn fns frozen r x y budget (λ k. augment_after k t p (operator_of o) a)
name_begins fns frozen r x y budget q p n o a t old s more es et em ev h =
    let S : Step → Type 0 = λ z. GoesOn fns frozen r x y budget (λ k w u. after (value_of k Plain a w u) (λ g. on_value g (λ v. with_change (change_of z) (λ c. right_came k c changed.Name old v)) w)) in
    let T : Tree → Type 0 = λ z. GoesOn fns frozen r x y budget (λ k w u. after (value_of k Plain a w u) (λ g. on_value g (λ v. with_change (change_of (Augment p z o a)) (λ c. right_came k c changed.Name old v)) w)) in
    after_name fns frozen r x y budget q p n (operator_of o) a t et
    (name_by fns frozen r x y budget q p n (operator_of o) a (Some old) ev
    (same_total fns frozen r x y budget (λ k w u. after (value_of k Plain a w u) (λ g. on_value g (λ v. with_change (change_of (Augment p (Name q n) o a)) (λ c. right_came k c changed.Name old v)) w)) (λ k. with_value (Some old) q give >>= name_then k q n p (operator_of o) a) (λ w. refl)
    (subst T et (subst S (em ∙ es) h))))

-- ---- walks

pub walk_begins : (fns : Functions) (frozen : Made) (r : Result Now Halt) (x y : Going) (budget : ℕ) (q p : Place) (e : Tree) (us : Trailers) (o : Operator) (a t : Tree) (node : Expr) (s more : Stmt) → step_of s ≡ Augment p t o a → t ≡ Trailed q e us → step_of more ≡ step_of s → GoesOn fns frozen r x y budget (within (frame.Call (call.Trail node 0 (along.Augment more))) (λ k. value_of k Plain e)) → GoesOn fns frozen r x y budget (λ k. augment_after k t p (operator_of o) a)
walk_begins fns frozen r x y budget q p e us o a t node s more es et em h =
    let S : Step → Type 0 = λ z. GoesOn fns frozen r x y budget (λ k w u. after (value_of k Plain e w u) (λ g. on_value g (λ v. augmented_along k 0 v z (place_of (tree node))) w)) in
    let N : Tree → Type 0 = λ z. GoesOn fns frozen r x y budget (λ k w u. after (value_of k Plain e w u) (λ g. on_value g (λ v. augment_along k (place_of z) (trailers_from 0 (trailers_of z)) v p (operator_of o) a) w)) in
    let Q : Tree → Type 0 = λ z. GoesOn fns frozen r x y budget (λ k. augment_after k z p (operator_of o) a) in
    subst Q (sym et) (subst N et (subst S (em ∙ es) h))

-- ---- what trails last

abbrev last_or : Option Change → Known → Place → Trailer → Val → Doing
last_or None k q u x = stop cause.Raised q
last_or (Some c) k q u x = augment_last k q u x c.at c.sign c.right

last_by : (k : Known) (q : Place) (u : Trailer) (x : Val) (s : Step) → augmented_last k q u x s ≡ last_or (change_of s) k q u x
last_by k q u x (Pass p) = refl
last_by k q u x (Break p) = refl
last_by k q u x (Continue p) = refl
last_by k q u x (Return p e) = refl
last_by k q u x (Assert p e m) = refl
last_by k q u x (Raise p e) = refl
last_by k q u x (ImportAll p path) = refl
last_by k q u x (Import p path names) = refl
last_by k q u x (Assign p ts e) = refl
last_by k q u x (Annotate p t a e) = refl
last_by k q u x (Augment p t o e) = refl
last_by k q u x (Evaluate p e) = refl
last_by k q u x (If p bs b) = refl
last_by k q u x (While p e b) = refl
last_by k q u x (For p ts e b) = refl
last_by k q u x (With p e t b) = refl
last_by k q u x (Def p f) = refl
last_by k q u x (Class p n a b) = refl

last_known : (fns : Functions) (frozen : Made) (r : Result Now Halt) (x y : Going) (budget : ℕ) (q : Place) (u : Trailer) (v : Val) (s : Step) (o : Option Change) → o ≡ change_of s → GoesOn fns frozen r x y budget (λ k. last_or o k q u v) → GoesOn fns frozen r x y budget (λ k. augmented_last k q u v s)
last_known fns frozen r x y budget q u v s o e h =
    let Q : Option Change → Type 0 = λ z. GoesOn fns frozen r x y budget (λ k. last_or z k q u v) in
    same_total fns frozen r x y budget (λ k. last_or (change_of s) k q u v) (λ k. augmented_last k q u v s)
    (λ w. ap (λ (d : Doing). d w x.state) (sym (last_by (known (steps_of fns.program) frozen x.state.here.room) q u v s))) (subst Q e h)

pub last_none : (fns : Functions) (frozen : Made) (x : Going) (budget : ℕ) (q : Place) (u : Trailer) (v : Val) (s : Step) → None ≡ change_of s → GoesOn fns frozen (Err (Stopped (record { cause = cause.Raised; place = q }))) x x budget (λ k. augmented_last k q u v s)
last_none fns frozen x budget q u v s e = last_known fns frozen (Err (Stopped (record { cause = cause.Raised; place = q }))) x x budget q u v s None e (stop_goes fns frozen x budget cause.Raised q)

other_stops : (k : Known) (q : Place) (u : Trailer) (v : Val) (c : Change) → can_change_last u ≡ false → last_or (Some c) k q u v ≡ stop cause.Raised q
other_stops k q (Attribute n) v c e = absurd (true_not_false e)
other_stops k q (Call gs) v c e = refl
other_stops k q (CallOf t d) v c e = refl
other_stops k q (Index t) v c e = absurd (true_not_false e)
other_stops k q (Slice a b d) v c e = refl

pub last_other : (fns : Functions) (frozen : Made) (x : Going) (budget : ℕ) (q : Place) (u : Trailer) (v : Val) (s : Step) (c : Change) → Some c ≡ change_of s → can_change_last u ≡ false → GoesOn fns frozen (Err (Stopped (record { cause = cause.Raised; place = q }))) x x budget (λ k. augmented_last k q u v s)
last_other fns frozen x budget q u v s c e f =
    last_known fns frozen (Err (Stopped (record { cause = cause.Raised; place = q }))) x x budget q u v s (Some c) e
    (same_total fns frozen (Err (Stopped (record { cause = cause.Raised; place = q }))) x x budget (λ k. stop cause.Raised q) (λ k. last_or (Some c) k q u v)
    (λ w. ap (λ (d : Doing). d w x.state) (sym (other_stops (known (steps_of fns.program) frozen x.state.here.room) q u v c f))) (stop_goes fns frozen x budget cause.Raised q))

pub last_as : (fns : Functions) (frozen : Made) (r : Result Now Halt) (x y : Going) (budget : ℕ) (p q : Place) (u : Trailer) (v : Val) (s : Step) → p ≡ q → GoesOn fns frozen r x y budget (λ k. augmented_last k p u v s) → GoesOn fns frozen r x y budget (λ k. augmented_last k q u v s)
last_as fns frozen r x y budget p q u v s e h = let Q : Place → Type 0 = λ z. GoesOn fns frozen r x y budget (λ k. augmented_last k z u v s) in subst Q e h

pub attribute_begins : (fns : Functions) (frozen : Made) (r : Result Now Halt) (x g y : Going) (budget : ℕ) (p : Place) (u : Trailer) (n : List ℕ) (v : Val) (s : Step) (c : Change) (more : Stmt) → Some c ≡ change_of s → u ≡ Attribute n → step_of more ≡ s → p ≡ place_of c.target → g ≡ record x { frames = frame.Stmt (stmt.AugmentOld more (changed.Attribute v n)) ∷ x.frames } → GoesOn fns frozen r g y budget (λ k. attribute k v n p) → GoesOn fns frozen r x y budget (λ k. augmented_last k (place_of c.target) u v s)
attribute_begins fns frozen r x g y budget p u n v s c more ec eu em ep eg h =
    let R : Going → Type 0 = λ z. GoesOn fns frozen r z y budget (λ k. attribute k v n p) in
    let P : Place → Type 0 = λ z. GoesOn fns frozen r (record x { frames = frame.Stmt (stmt.AugmentOld more (changed.Attribute v n)) ∷ x.frames }) y budget (λ k. attribute k v n z) in
    let C : Option Change → Type 0 = λ z. GoesOn fns frozen r x y budget (λ k w t. after (attribute k v n (place_of c.target) w t) (λ g. on_value g (λ old. with_change z (λ c. old_came k c (changed.Attribute v n) old)) w)) in
    let U : Trailer → Type 0 = λ z. GoesOn fns frozen r x y budget (λ k. last_or (Some c) k (place_of c.target) z v) in
    last_known fns frozen r x y budget (place_of c.target) u v s (Some c) ec
    (subst U (sym eu) (subst C (ap (λ (z : Step). change_of z) em ∙ sym ec)
    (pushed fns frozen r x y budget (frame.Stmt (stmt.AugmentOld more (changed.Attribute v n))) (λ k. attribute k v n (place_of c.target)) refl (subst P ep (subst R eg h)))))

pub index_begins : (fns : Functions) (frozen : Made) (r : Result Now Halt) (x y : Going) (budget : ℕ) (u : Trailer) (i : Tree) (v : Val) (s : Step) (c : Change) (more : Stmt) → Some c ≡ change_of s → u ≡ Index i → step_of more ≡ s → GoesOn fns frozen r x y budget (within (frame.Stmt (stmt.AugmentIndex more v)) (λ k. value_of k Plain i)) → GoesOn fns frozen r x y budget (λ k. augmented_last k (place_of c.target) u v s)
index_begins fns frozen r x y budget u i v s c more ec eu em h =
    let C : Option Change → Type 0 = λ z. GoesOn fns frozen r x y budget (λ k w t. after (value_of k Plain i w t) (λ g. on_value g (λ a. with_change z (λ c. index_came k c v a)) w)) in
    let U : Trailer → Type 0 = λ z. GoesOn fns frozen r x y budget (λ k. last_or (Some c) k (place_of c.target) z v) in
    last_known fns frozen r x y budget (place_of c.target) u v s (Some c) ec
    (subst U (sym eu) (subst C (ap (λ (z : Step). change_of z) em ∙ sym ec) h))
