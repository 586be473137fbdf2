-- What augmented assignments owe: their operators, what they store, and their frames.
use Rattle.std.proofs.Common.{◌≡◌, ℕ, ◌+◌, ◌-◌, ◌<◌, ◌≤◌, refl, ap, sym, subst, List, [], ◌∷◌, Option, Some, None, Result, Ok, Err, Bool, true, false, ◌||◌, if◌then◌else◌, nat_lt}
use Rattle.amh_host.specs.declared.place.Place.{Place}
use Rattle.py_tree.specs.declared.stmt.Stmt.{Stmt}
use Rattle.py_tree.specs.Programs.{step_of, steps_of}
use Rattle.py_tree.specs.Steps.{Step}
use Rattle.py_tree.specs.Tree.{Tree, Name, Number, Decimal_time, Quotient, Str, Format, Constant_value, Tuple, Display, Dict, ListOf, DictOf, Trailed, Await, Power, Unary, Not, Binary, Compare, Boolean, Choice}
use Rattle.py_heap.specs.Heaps.{Made, seen}
use Rattle.py_heap.specs.Names.{scope_bound}
use Rattle.py_builtins.specs.Builtins.{builtin}
use Rattle.py_values.specs.Runs.{free, Charged, paired}
use Rattle.py_values.specs.declared.val.Val.{Val}
use Rattle.py_values.specs.declared.val.ValueStop.{ValueStop}
use Rattle.py_values.specs.declared.val.ValueStop.TheVariants as refusal
use Rattle.py_values.specs.declared.op.PyOp.{PyOp}
use Rattle.py_values.specs.declared.op.Builtin.{Builtin}
use Rattle.py_frames.specs.declared.request.Act.TheVariants as act
use Rattle.py_frames.specs.declared.state.Halt.{Halt}
use Rattle.py_frames.specs.declared.state.State.{State}
use Rattle.py_frames.specs.declared.state.Got.{Got}
use Rattle.py_frames.specs.declared.state.Got.TheVariants as got
use Rattle.py_frames.specs.declared.frame.Now.{Now}
use Rattle.py_frames.specs.declared.frame.Now.TheVariants.{Came}
use Rattle.py_frames.specs.declared.frame.Purpose.TheVariants.{Plain}
use Rattle.py_frames.specs.declared.frame.Changed.{Changed}
use Rattle.py_frames.specs.declared.frame.Changed.TheVariants as changed
use Rattle.py_frames.specs.declared.frame.StmtFrame.TheVariants as stmt
use Rattle.py_frames.specs.declared.frame.Frame.TheVariants as frame
use Rattle.py_frames.specs.declared.functions.Functions.{Functions}
use Rattle.py_frames.specs.declared.going.Going.{Going}
use Rattle.py_frames.specs.Statements.{known, augmented, augmented_sign, in_place, list_changed, changed_or}
use Rattle.py_frames.specs.Doing.{World, Doing, Known, after, on_value, ◌>>=◌, came, give, made, charging, spend_each, spent_all, choose}
use Rattle.py_frames.specs.Asking.{request, ask}
use Rattle.py_frames.specs.Parts.{place_of}
use Rattle.py_frames.specs.Values.{is_thing, operated, bind, indexed, store_attribute, store_index}
use Rattle.py_frames.specs.Expressions.{value_of}
use Rattle.py_frames.specs.Stmt_frames.{Change, change_of, with_change, index_came, old_came, right_came, new_stored, name_stored}
use Rattle.py_frames.specs.Functions.{named_val}
use Rattle.py_frames.specs.Told.{Binds}
use Rattle.py_statements.specs.Augmented.{instead, is_a_name}
use Rattle.py_frames.specs.Frames.{told, GoesOn, within}
use Rattle.py_frames.proofs.ExprGoes.{true_not_false}
use Rattle.py_frames.proofs.BeginLaws.{pushed}
use Rattle.py_frames.proofs.ExprLaws.{same_total, bind_goes}
use Rattle.py_turns.proofs.ExprCharged.{charged_told}

-- what comes beside a value
pub came_goes : (fns : Functions) (frozen : Made) (x : Going) (budget : ℕ) (g : Got) → GoesOn fns frozen (Ok (Came g)) x x budget (λ k. came g)
unfolding GoesOn
came_goes fns frozen x budget g = λ w h. refl

-- ---- operators

pub augmented_asks : (fns : Functions) (frozen : Made) (r : Result Now Halt) (x y : Going) (budget : ℕ) (o : PyOp) (a b : Val) (place : Place) → (is_thing a || is_thing b) ≡ true → GoesOn fns frozen r x y budget (λ k. ask k (request act.Operator (a ∷ b ∷ []) (augmented_sign o ∷ []) place)) → GoesOn fns frozen r x y budget (λ k. augmented k o a b place)
augmented_asks fns frozen r x y budget o a b place e h =
    let P : Bool → Type 0 = λ z. GoesOn fns frozen r x y budget (λ k. choose z (ask k (request act.Operator (a ∷ b ∷ []) (augmented_sign o ∷ []) place)) (changed_or k (in_place o a) o a b place)) in
    subst P (sym e) h

augmented_beside : (fns : Functions) (frozen : Made) (r : Result Now Halt) (x y : Going) (budget : ℕ) (o : PyOp) (a b : Val) (place : Place) (c : Option Builtin) → (is_thing a || is_thing b) ≡ false → c ≡ in_place o a → GoesOn fns frozen r x y budget (λ k. changed_or k c o a b place) → GoesOn fns frozen r x y budget (λ k. augmented k o a b place)
augmented_beside fns frozen r x y budget o a b place c e f h =
    let P : Bool → Type 0 = λ z. GoesOn fns frozen r x y budget (λ k. choose z (ask k (request act.Operator (a ∷ b ∷ []) (augmented_sign o ∷ []) place)) (changed_or k (in_place o a) o a b place)) in
    let Q : Option Builtin → Type 0 = λ z. GoesOn fns frozen r x y budget (λ k. changed_or k z o a b place) in
    subst P (sym e) (subst Q f h)

pub augmented_changes : (fns : Functions) (frozen : Made) (r : Result Now Halt) (x y : Going) (budget : ℕ) (o : PyOp) (a b : Val) (place : Place) (i : Builtin) → (is_thing a || is_thing b) ≡ false → Some i ≡ in_place o a → GoesOn fns frozen r x y budget (λ k. list_changed k i a b place) → GoesOn fns frozen r x y budget (λ k. augmented k o a b place)
augmented_changes fns frozen r x y budget o a b place i e f h = augmented_beside fns frozen r x y budget o a b place (Some i) e f h

pub augmented_made : (fns : Functions) (frozen : Made) (r : Result Now Halt) (x y : Going) (budget : ℕ) (o : PyOp) (a b : Val) (place : Place) → (is_thing a || is_thing b) ≡ false → None ≡ in_place o a → GoesOn fns frozen r x y budget (λ k. operated k o a b place) → GoesOn fns frozen r x y budget (λ k. augmented k o a b place)
augmented_made fns frozen r x y budget o a b place e f h = augmented_beside fns frozen r x y budget o a b place None e f h

-- ---- a list that was changed is what comes

abbrev replaced : Val → Result (Val × Made) ValueStop → Result (Val × Made) ValueStop
replaced a (Ok p) = Ok (a, p.1)
replaced a (Err e) = Err e

replaced_charged : (given : Result Val ValueStop) (heap : Made) (before left : ℕ) (a : Val) (r : Result (Val × Made) ValueStop) → Charged (paired given heap) before left (free r) → Charged (paired (instead a given) heap) before left (free (replaced a r))
replaced_charged (Ok v) heap before left a r h = (ap (λ (z : Result (Val × Made) ValueStop). replaced a z) h.0, h.1, h.2)
replaced_charged (Err refusal.Raised) heap before left a r h = (ap (λ (z : Result (Val × Made) ValueStop). replaced a z) h.0, h.1, h.2)
replaced_charged (Err refusal.Width) heap before left a r h = (ap (λ (z : Result (Val × Made) ValueStop). replaced a z) h.0, h.1, h.2)
replaced_charged (Err refusal.Limit) heap before left a r h = (ap (λ (z : Result (Val × Made) ValueStop). replaced a z) h.0, h.1, h.2)
replaced_charged (Err refusal.Spent) heap before left a r h = h
replaced_charged (Err refusal.NoMemory) heap before left a r h = tt

replaced_made : (a : Val) (r : Result (Val × Made) ValueStop) (place : Place) (w : World) (s : State) → made (replaced a r) place give w s ≡ after (made r place give w s) (λ g. on_value g (λ _. give a) w)
replaced_made a (Ok p) place w s = refl
replaced_made a (Err e) place w s = refl

replaced_spent : (a : Val) (r : Result (Val × Made) ValueStop) (place : Place) (w : World) (s : State) (b : Bool) → (if b then made (replaced a r) place give w (record s { used = s.used + 0 }) else spent_all (record s { used = w.budget }) place) ≡ after (if b then made r place give w (record s { used = s.used + 0 }) else spent_all (record s { used = w.budget }) place) (λ g. on_value g (λ _. give a) w)
replaced_spent a r place w s true = replaced_made a r place w (record s { used = s.used + 0 })
replaced_spent a r place w s false = refl

replaced_each : (a : Val) (r : Result (Val × Made) ValueStop) (place : Place) (w : World) (s : State) → spend_each 0 place (made (replaced a r) place give) w s ≡ after (spend_each 0 place (made r place give) w s) (λ g. on_value g (λ _. give a) w)
replaced_each a r place w s = replaced_spent a r place w s (nat_lt (s.used + 0) w.budget)

pub changed_told : (fns : Functions) (frozen : Made) (given : Result Val ValueStop) (x : Going) (heap : Made) (place : Place) (budget left used : ℕ) (i : Builtin) (a b : Val) → x.state.used < budget → (x.state.used ≤ budget - left → used ≡ budget - left) → Charged (paired given heap) (budget - x.state.used) left (free (builtin frozen x.state.heap i (a ∷ b ∷ []))) → GoesOn fns frozen (told (instead a given) place) x (record x { state = record x.state { heap = heap; used = used } }) budget (λ k. list_changed k i a b place)
changed_told fns frozen given x heap place budget left used i a b lt f h =
    let r : Result (Val × Made) ValueStop = builtin frozen x.state.heap i (a ∷ b ∷ []) in
    same_total fns frozen (told (instead a given) place) x (record x { state = record x.state { heap = heap; used = used } }) budget (λ k. charging (λ s. free (replaced a (builtin k.frozen s.heap i (a ∷ b ∷ [])))) place give) (λ k. list_changed k i a b place)
    (λ w. replaced_each a r place w x.state)
    (charged_told fns frozen (instead a given) x heap place budget left used (λ k s. free (replaced a (builtin k.frozen s.heap i (a ∷ b ∷ [])))) lt f (replaced_charged given heap (budget - x.state.used) left a r h))

pub changed_by : (fns : Functions) (frozen : Made) (given : Result Val ValueStop) (x : Going) (heap : Made) (place : Place) (budget left used : ℕ) (i : Builtin) (a b : Val) (vals : List Val) → vals ≡ a ∷ b ∷ [] → x.state.used < budget → (x.state.used ≤ budget - left → used ≡ budget - left) → Charged (paired given heap) (budget - x.state.used) left (free (builtin frozen x.state.heap i vals)) → GoesOn fns frozen (told (instead a given) place) x (record x { state = record x.state { heap = heap; used = used } }) budget (λ k. list_changed k i a b place)
changed_by fns frozen given x heap place budget left used i a b vals e lt f h =
    let P : List Val → Type 0 = λ z. Charged (paired given heap) (budget - x.state.used) left (free (builtin frozen x.state.heap i z)) in
    changed_told fns frozen given x heap place budget left used i a b lt f (subst P e h)

-- ---- what is stored

other_target : (k : Known) (t : Tree) (z : Val) → is_a_name t ≡ false → name_stored k t z ≡ came got.Next
other_target k (Name p n) z e = absurd (true_not_false e)
other_target k (Number p n) z e = refl
other_target k (Decimal_time p d) z e = refl
other_target k (Quotient p n b) z e = refl
other_target k (Str p s) z e = refl
other_target k (Format p s) z e = refl
other_target k (Constant_value p c) z e = refl
other_target k (Tuple p ts) z e = refl
other_target k (Display p ts) z e = refl
other_target k (Dict p ps) z e = refl
other_target k (ListOf p b c) z e = refl
other_target k (DictOf p b c d) z e = refl
other_target k (Trailed p b ts) z e = refl
other_target k (Await p b) z e = refl
other_target k (Power p b c) z e = refl
other_target k (Unary p s b) z e = refl
other_target k (Not p b) z e = refl
other_target k (Binary p b ls) z e = refl
other_target k (Compare p b ls) z e = refl
other_target k (Boolean p b ls) z e = refl
other_target k (Choice p b c d) z e = refl

pub stored_beside : (fns : Functions) (frozen : Made) (x : Going) (budget : ℕ) (t : Tree) (z : Val) → is_a_name t ≡ false → GoesOn fns frozen (Ok (Came got.Next)) x x budget (λ k. name_stored k t z)
stored_beside fns frozen x budget t z e =
    same_total fns frozen (Ok (Came got.Next)) x x budget (λ k. came got.Next) (λ k. name_stored k t z)
    (λ w. ap (λ (d : Doing). d w x.state) (sym (other_target (known (steps_of fns.program) frozen x.state.here.room) t z e))) (came_goes fns frozen x budget got.Next)

pub bound_next : (fns : Functions) (frozen : Made) (x y : Going) (budget : ℕ) (u : Unit {0}) (name : List ℕ) (v : Val) (p : Place) → Binds (Ok u) (scope_bound (seen frozen x.state.heap) x.state.here.scope.0 name v) (named_val name v) p x y → GoesOn fns frozen (Ok (Came got.Next)) x y budget (λ k. bind k name v p (came got.Next))
bound_next fns frozen x y budget u name v p e = bind_goes fns frozen (Ok (Came got.Next)) x y y budget u name v p (λ k. came got.Next) e (came_goes fns frozen y budget got.Next)

pub stored_name : (fns : Functions) (frozen : Made) (r : Result Now Halt) (x y : Going) (budget : ℕ) (c : Change) (what : Changed) (z : Val) → what ≡ changed.Name → GoesOn fns frozen r x y budget (λ k. name_stored k c.target z) → GoesOn fns frozen r x y budget (λ k. new_stored k c what z)
stored_name fns frozen r x y budget c what z e h = let Q : Changed → Type 0 = λ a. GoesOn fns frozen r x y budget (λ k. new_stored k c a z) in subst Q (sym e) h

pub stored_attribute : (fns : Functions) (frozen : Made) (r : Result Now Halt) (x y : Going) (budget : ℕ) (c : Change) (what : Changed) (z v : Val) (n : List ℕ) (p : Place) → what ≡ changed.Attribute v n → p ≡ place_of c.target → GoesOn fns frozen r x y budget (λ k. store_attribute k v n z p) → GoesOn fns frozen r x y budget (λ k. new_stored k c what z)
stored_attribute fns frozen r x y budget c what z v n p e f h =
    let Q : Changed → Type 0 = λ a. GoesOn fns frozen r x y budget (λ k. new_stored k c a z) in
    let P : Place → Type 0 = λ a. GoesOn fns frozen r x y budget (λ k. store_attribute k v n z a) in
    subst Q (sym e) (subst P f h)

pub stored_index : (fns : Functions) (frozen : Made) (r : Result Now Halt) (x y : Going) (budget : ℕ) (c : Change) (what : Changed) (z v i : Val) (p : Place) → what ≡ changed.Index v i → p ≡ place_of c.target → GoesOn fns frozen r x y budget (λ k. store_index k v i z p) → GoesOn fns frozen r x y budget (λ k. new_stored k c what z)
stored_index fns frozen r x y budget c what z v i p e f h =
    let Q : Changed → Type 0 = λ a. GoesOn fns frozen r x y budget (λ k. new_stored k c a z) in
    let P : Place → Type 0 = λ a. GoesOn fns frozen r x y budget (λ k. store_index k v i z a) in
    subst Q (sym e) (subst P f h)

pub ruleset stored_rules = (stored_name, stored_attribute, stored_index)

-- ---- what a statement changes

change_known : (fns : Functions) (frozen : Made) (r : Result Now Halt) (x y : Going) (budget : ℕ) (o p : Option Change) (f : Known → Change → Doing) → p ≡ o → GoesOn fns frozen r x y budget (λ k. with_change p (f k)) → GoesOn fns frozen r x y budget (λ k. with_change o (f k))
change_known fns frozen r x y budget o p f e h = let Q : Option Change → Type 0 = λ z. GoesOn fns frozen r x y budget (λ k. with_change z (f k)) in subst Q e h

change_missing : (fns : Functions) (frozen : Made) (x : Going) (budget : ℕ) (o : Option Change) (f : Known → Change → Doing) → None ≡ o → GoesOn fns frozen (Ok (Came got.Next)) x x budget (λ k. with_change o (f k))
change_missing fns frozen x budget o f e = change_known fns frozen (Ok (Came got.Next)) x x budget o None f e (came_goes fns frozen x budget got.Next)

pub new_none : (fns : Functions) (frozen : Made) (x : Going) (budget : ℕ) (s : Step) (what : Changed) (z : Val) → None ≡ change_of s → GoesOn fns frozen (Ok (Came got.Next)) x x budget (λ k. with_change (change_of s) (λ c. new_stored k c what z))
new_none fns frozen x budget s what z e = change_missing fns frozen x budget (change_of s) (λ k c. new_stored k c what z) e

pub new_some : (fns : Functions) (frozen : Made) (r : Result Now Halt) (x y : Going) (budget : ℕ) (s : Step) (c : Change) (what : Changed) (z : Val) → Some c ≡ change_of s → GoesOn fns frozen r x y budget (λ k. new_stored k c what z) → GoesOn fns frozen r x y budget (λ k. with_change (change_of s) (λ c. new_stored k c what z))
new_some fns frozen r x y budget s c what z e h = change_known fns frozen r x y budget (change_of s) (Some c) (λ k c. new_stored k c what z) e h

pub ruleset change_rules = (new_none, new_some)

pub right_none : (fns : Functions) (frozen : Made) (x : Going) (budget : ℕ) (s : Step) (what : Changed) (old y : Val) → None ≡ change_of s → GoesOn fns frozen (Ok (Came got.Next)) x x budget (λ k. with_change (change_of s) (λ c. right_came k c what old y))
right_none fns frozen x budget s what old y e = change_missing fns frozen x budget (change_of s) (λ k c. right_came k c what old y) e

pub right_some : (fns : Functions) (frozen : Made) (r : Result Now Halt) (x g y : Going) (budget : ℕ) (s : Stmt) (c : Change) (what : Changed) (old v : Val) → Some c ≡ change_of (step_of s) → g ≡ record x { frames = frame.Stmt (stmt.AugmentNew s what) ∷ x.frames } → GoesOn fns frozen r g y budget (λ k. augmented k c.sign old v c.at) → GoesOn fns frozen r x y budget (λ k. with_change (change_of (step_of s)) (λ c. right_came k c what old v))
right_some fns frozen r x g y budget s c what old v e eg h =
    let R : Going → Type 0 = λ z. GoesOn fns frozen r z y budget (λ k. augmented k c.sign old v c.at) in
    let Q : Option Change → Type 0 = λ z. GoesOn fns frozen r x y budget (λ k w t. after (augmented k c.sign old v c.at w t) (λ g. on_value g (λ new. with_change z (λ c. new_stored k c what new)) w)) in
    change_known fns frozen r x y budget (change_of (step_of s)) (Some c) (λ k c. right_came k c what old v) e
    (subst Q (sym e) (pushed fns frozen r x y budget (frame.Stmt (stmt.AugmentNew s what)) (λ k. augmented k c.sign old v c.at) refl (subst R eg h)))

pub ruleset right_rules = (right_none, right_some)

pub old_none : (fns : Functions) (frozen : Made) (x : Going) (budget : ℕ) (s : Step) (what : Changed) (old : Val) → None ≡ change_of s → GoesOn fns frozen (Ok (Came got.Next)) x x budget (λ k. with_change (change_of s) (λ c. old_came k c what old))
old_none fns frozen x budget s what old e = change_missing fns frozen x budget (change_of s) (λ k c. old_came k c what old) e

pub old_some : (fns : Functions) (frozen : Made) (r : Result Now Halt) (x y : Going) (budget : ℕ) (s : Stmt) (c : Change) (what : Changed) (old : Val) → Some c ≡ change_of (step_of s) → GoesOn fns frozen r x y budget (within (frame.Stmt (stmt.AugmentRight s what old)) (λ k. value_of k Plain c.right)) → GoesOn fns frozen r x y budget (λ k. with_change (change_of (step_of s)) (λ c. old_came k c what old))
old_some fns frozen r x y budget s c what old e h =
    let Q : Option Change → Type 0 = λ z. GoesOn fns frozen r x y budget (λ k w t. after (value_of k Plain c.right w t) (λ g. on_value g (λ v. with_change z (λ c. right_came k c what old v)) w)) in
    change_known fns frozen r x y budget (change_of (step_of s)) (Some c) (λ k c. old_came k c what old) e (subst Q (sym e) h)

pub ruleset old_rules = (old_none, old_some)

pub index_none : (fns : Functions) (frozen : Made) (x : Going) (budget : ℕ) (s : Step) (over i : Val) → None ≡ change_of s → GoesOn fns frozen (Ok (Came got.Next)) x x budget (λ k. with_change (change_of s) (λ c. index_came k c over i))
index_none fns frozen x budget s over i e = change_missing fns frozen x budget (change_of s) (λ k c. index_came k c over i) e

pub index_some : (fns : Functions) (frozen : Made) (r : Result Now Halt) (x g y : Going) (budget : ℕ) (s : Stmt) (c : Change) (over i : Val) (p : Place) → Some c ≡ change_of (step_of s) → p ≡ place_of c.target → g ≡ record x { frames = frame.Stmt (stmt.AugmentOld s (changed.Index over i)) ∷ x.frames } → GoesOn fns frozen r g y budget (λ k. indexed k over i p) → GoesOn fns frozen r x y budget (λ k. with_change (change_of (step_of s)) (λ c. index_came k c over i))
index_some fns frozen r x g y budget s c over i p e ep eg h =
    let R : Going → Type 0 = λ z. GoesOn fns frozen r z y budget (λ k. indexed k over i p) in
    let S : Place → Type 0 = λ z. GoesOn fns frozen r (record x { frames = frame.Stmt (stmt.AugmentOld s (changed.Index over i)) ∷ x.frames }) y budget (λ k. indexed k over i z) in
    let Q : Option Change → Type 0 = λ z. GoesOn fns frozen r x y budget (λ k w t. after (indexed k over i (place_of c.target) w t) (λ g. on_value g (λ v. with_change z (λ c. old_came k c (changed.Index over i) v)) w)) in
    change_known fns frozen r x y budget (change_of (step_of s)) (Some c) (λ k c. index_came k c over i) e
    (subst Q (sym e) (pushed fns frozen r x y budget (frame.Stmt (stmt.AugmentOld s (changed.Index over i))) (λ k. indexed k over i (place_of c.target)) refl (subst S ep (subst R eg h))))

pub ruleset index_rules = (index_none, index_some)
