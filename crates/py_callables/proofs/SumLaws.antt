-- Additions from the left, one after the other.
use Rattle.std.proofs.Common.{◌≡◌, ℕ, ◌+◌, ◌-◌, ◌<◌, ◌≤◌, nat_lt, if◌then◌else◌, refl, ap, ◌∙◌, sym, subst, Bool, true, false, List, [], ◌∷◌, length, get_or, drop, pos, Some, None, Result, Ok, Err, arith}
use Rattle.std.proofs.lemmas.List.{drop_more, drop_all}
use Rattle.amh_host.specs.declared.place.Place.{Place}
use Rattle.py_values.specs.declared.val.Val.{Val}
use Rattle.py_values.specs.declared.val.Val.TheVariants as val
use Rattle.py_values.specs.declared.op.PyOp.TheVariants as op
use Rattle.py_tree.specs.Programs.{steps_of}
use Rattle.py_values.specs.declared.val.ValueStop.{ValueStop}
use Rattle.py_values.specs.declared.val.ValueStop.TheVariants as refusal
use Rattle.py_values.specs.declared.op.Builtin.{Builtin}
use Rattle.py_values.specs.declared.op.Builtin.TheVariants as builtins
use Rattle.py_heap.specs.Heaps.{Made, seen}
use Rattle.py_operators.specs.Elements.{elements}
use Rattle.py_operators.specs.Operators.{operate}
use Rattle.py_values.specs.Runs.{Run, Answers, Charged, paired}
use Rattle.py_frames.specs.declared.request.Act.TheVariants.{Operator}
use Rattle.py_frames.specs.declared.state.State.{State}
use Rattle.py_frames.specs.declared.state.Halt.{Halt}
use Rattle.py_frames.specs.declared.state.Halt.TheVariants.{Stopped}
use Rattle.py_frames.specs.declared.frame.Now.{Now}
use Rattle.py_frames.specs.declared.frame.Frame.TheVariants as frame
use Rattle.py_frames.specs.declared.frame.CallFrame.TheVariants as call
use Rattle.py_frames.specs.declared.functions.Functions.{Functions}
use Rattle.py_frames.specs.declared.going.Going.{Going}
use Rattle.py_frames.specs.declared.request.Cause.{Cause}
use Rattle.py_frames.specs.declared.request.Cause.TheVariants as cause
use Rattle.py_frames.specs.Asking.{request, ask}
use Rattle.py_frames.specs.Doing.{Doing, Known, World, Outcome, Halts, ◌>>=◌, after, on_value, heap_seen, give, stop, choose, cause_of, spend_each, spent_all, made, charging}
use Rattle.py_turns.specs.Binding.{refused}
use Rattle.py_frames.specs.Statements.{known, first_of}
use Rattle.py_frames.specs.Values.{asks_operator, sign_of, operated, built, summed, adds_things, sum_over, sum_asked, built_over}
use Rattle.py_callables.specs.Going_over.{Adds, start_of}
use Rattle.py_frames.specs.Frames.{GoesOn, within}
use Rattle.py_frames.proofs.BeginLaws.{no_memory, stop_goes, stops_as-finish}
use Rattle.py_frames.proofs.ExprLaws.{same_total, units_spent, units_short}
use Rattle.py_frames.proofs.CallLaws.{same_goes, same_runs}

-- ---- an addition that asks nothing

-- what is made in the heap, and then what follows
heap_goes : (fns : Functions) (frozen : Made) (r : Result Now Halt) (x z : Going) (budget : ℕ) (heap : Made) (g : Known → Doing) → GoesOn fns frozen r (record x { state = record x.state { heap = heap } }) z budget g → GoesOn fns frozen r x z budget (λ k. λ w s. g k w (record s { heap = heap }))
unfolding GoesOn
heap_goes fns frozen r x z budget heap g h = h

-- what stops, in a heap that was changed before
heap_stops : (fns : Functions) (frozen : Made) (x : Going) (heap : Made) (budget : ℕ) (why : Cause) (place : Place) → GoesOn fns frozen (Err (Stopped (record { cause = why; place = place }))) x (record x { state = record x.state { heap = heap } }) budget (λ k. stop why place)
unfolding GoesOn
heap_stops fns frozen x heap budget why place = λ w q. stops_as-finish (steps_of fns.program) frozen x.state.here.room x.frames w (record { cause = why; place = place }) x.state

-- where units are spent, and then a value comes or not, what follows a value may stand inside
follows_inside : (b : Bool) (a : Result (Val × Made) ValueStop) (place : Place) (f : Val → Doing) (w : World) (s : State) (spent : Outcome) (h : Halt) (u : State) → spent ≡ Halts h u → after (if b then made a place give w s else spent) (λ got. on_value got f w) ≡ (if b then made a place f w s else spent)
follows_inside true (Ok v) place f w s spent h u e = refl
follows_inside true (Err stop) place f w s spent h u e = refl
follows_inside false a place f w s spent h u e = ap (λ o. after o (λ got. on_value got f w)) e ∙ sym e

-- an addition that asks nothing, and what follows it
adds_as : (fns : Functions) (frozen : Made) (r : Result Now Halt) (x y : Going) (budget : ℕ) (total v : Val) (place : Place) (f : Known → Val → Doing) → asks_operator op.Add total v ≡ false → GoesOn fns frozen r x y budget (λ k. charging (λ s. operate k.frozen s.heap op.Add total v) place (f k)) → GoesOn fns frozen r x y budget (λ k. operated k op.Add total v place >>= f k)
adds_as fns frozen r x y budget total v place f e h =
    let K : Known = known (steps_of fns.program) frozen x.state.here.room in
    let run : Run (Val × Made) = operate frozen x.state.heap op.Add total v in
    same_total fns frozen r x y budget (λ k. charging (λ s. operate k.frozen s.heap op.Add total v) place (f k)) (λ k. operated k op.Add total v place >>= f k)
    (λ w. sym (ap (λ z. (choose z (ask K (request Operator (total ∷ v ∷ []) (sign_of op.Add ∷ []) place)) (charging (λ s. operate K.frozen s.heap op.Add total v) place give) >>= f K) w x.state) e
    ∙ follows_inside (nat_lt (x.state.used + run.cost) w.budget) run.answer place (f K) w (record x.state { used = x.state.used + run.cost }) (spent_all (record x.state { used = w.budget }) place) (Stopped (record { cause = cause.Spent; place = place })) (record x.state { used = w.budget }) refl)) h

added_value : (fns : Functions) (frozen : Made) (x : Going) (heap : Made) (place : Place) (budget left used n : ℕ) (v : Val) (a : Result (Val × Made) ValueStop) (r : Result Now Halt) (z : Going) (f : Known → Val → Doing) → x.state.used < budget → used ≡ budget - left → left + n ≡ budget - x.state.used → 0 < left → a ≡ Ok (v, heap) → used ≤ z.state.used → GoesOn fns frozen r (record x { state = record x.state { heap = heap; used = used } }) z budget (λ k. f k v) → GoesOn fns frozen r x z budget (λ k. spend_each n place (made a place (f k)))
added_value fns frozen x heap place budget left used n v a r z f lt e1 e2 some i more h =
    let e : used ≡ x.state.used + n = omega arith in
    let there : Going = record x { state = record x.state { used = x.state.used + n } } in
    let P : ℕ → Type 0 = λ u. GoesOn fns frozen r (record x { state = record x.state { heap = heap; used = u } }) z budget (λ k. f k v) in
    let Q : Result (Val × Made) ValueStop → Type 0 = λ b. GoesOn fns frozen r there z budget (λ k. made b place (f k)) in
    units_spent fns frozen r x z budget n place (λ k. made a place (f k)) (omega arith) (omega arith)
    (subst Q (sym i) (heap_goes fns frozen r there z budget heap (λ k. f k v) (subst P e h)))

added_stops : (fns : Functions) (frozen : Made) (x : Going) (heap : Made) (place : Place) (budget left used n : ℕ) (stop : ValueStop) (a : Result (Val × Made) ValueStop) (f : Known → Val → Doing) → x.state.used < budget → used ≡ budget - left → left + n ≡ budget - x.state.used → 0 < left → a ≡ Err stop → GoesOn fns frozen (Err (Stopped (record { cause = cause_of stop; place = place }))) x (record x { state = record x.state { heap = heap; used = used } }) budget (λ k. spend_each n place (made a place (f k)))
added_stops fns frozen x heap place budget left used n e a f lt e1 e2 some i =
    let same : used ≡ x.state.used + n = omega arith in
    let r : Result Now Halt = Err (Stopped (record { cause = cause_of e; place = place })) in
    let there : Going = record x { state = record x.state { used = x.state.used + n } } in
    let P : ℕ → Type 0 = λ u. GoesOn fns frozen r x (record x { state = record x.state { heap = heap; used = u } }) budget (λ k. spend_each n place (made a place (f k))) in
    let behind : Going = record x { state = record x.state { heap = heap; used = x.state.used + n } } in
    let Q : Result (Val × Made) ValueStop → Type 0 = λ b. GoesOn fns frozen r there behind budget (λ k. made b place (f k)) in
    subst P (sym same)
    (units_spent fns frozen r x behind budget n place (λ k. made a place (f k)) (omega arith) (omega arith)
    (subst Q (sym i) (heap_stops fns frozen there heap budget (cause_of e) place)))

-- where the units are not there
added_short : (fns : Functions) (frozen : Made) (x : Going) (heap : Made) (place : Place) (budget used n : ℕ) (a : Result (Val × Made) ValueStop) (f : Known → Val → Doing) → used ≡ budget → budget ≤ x.state.used + n → GoesOn fns frozen (Err (Stopped (record { cause = cause.Spent; place = place }))) x (record x { state = record x.state { heap = heap; used = used } }) budget (λ k. spend_each n place (made a place (f k)))
unfolding GoesOn
added_short fns frozen x heap place budget used n a f e h =
    λ w q. (units_short fns frozen x budget n place (λ k. made a place (f k)) h) w q ∙ ap (λ (z : ℕ). Some (record { cause = cause.Spent; place = place }, z)) (sym e)

pub added_goes : (fns : Functions) (frozen : Made) (x : Going) (heap : Made) (total v : Val) (place : Place) (budget left used : ℕ) (sum : Val) → x.state.used < budget → asks_operator op.Add total v ≡ false → (x.state.used ≤ budget - left → used ≡ budget - left) → Charged (paired (Ok sum) heap) (budget - x.state.used) left (operate frozen x.state.heap op.Add total v) → Adds fns frozen (Ok sum) total v place x (record x { state = record x.state { heap = heap; used = used } }) budget
added_goes fns frozen x heap total v place budget left used sum lt plain f h r z g more goes =
    let run : Run (Val × Made) = operate frozen x.state.heap op.Add total v in
    adds_as fns frozen r x z budget total v place g plain
    (same_total fns frozen r x z budget (λ k. spend_each run.cost place (made run.answer place (g k))) (λ k. charging (λ s. operate k.frozen s.heap op.Add total v) place (g k)) (λ w. refl)
    (added_value fns frozen x heap place budget left used run.cost sum run.answer r z g lt (f (omega (arith, h.1, h.2))) h.1 h.2 h.0 more goes))

added_refused_as : (fns : Functions) (frozen : Made) (x : Going) (heap : Made) (total v : Val) (place : Place) (budget left used : ℕ) (why : Cause) (f : Known → Val → Doing) → asks_operator op.Add total v ≡ false → GoesOn fns frozen (Err (Stopped (record { cause = why; place = place }))) x (record x { state = record x.state { heap = heap; used = used } }) budget (λ k. spend_each (operate frozen x.state.heap op.Add total v).cost place (made (operate frozen x.state.heap op.Add total v).answer place (f k))) → GoesOn fns frozen (Err (Stopped (record { cause = why; place = place }))) x (record x { state = record x.state { heap = heap; used = used } }) budget (λ k. operated k op.Add total v place >>= f k)
added_refused_as fns frozen x heap total v place budget left used why f plain h =
    let r : Result Now Halt = Err (Stopped (record { cause = why; place = place })) in
    let y : Going = record x { state = record x.state { heap = heap; used = used } } in
    let run : Run (Val × Made) = operate frozen x.state.heap op.Add total v in
    adds_as fns frozen r x y budget total v place f plain
    (same_total fns frozen r x y budget (λ k. spend_each run.cost place (made run.answer place (f k))) (λ k. charging (λ s. operate k.frozen s.heap op.Add total v) place (f k)) (λ w. refl) h)

pub added_refused : (fns : Functions) (frozen : Made) (x : Going) (heap : Made) (total v : Val) (place : Place) (budget left used : ℕ) (stop : ValueStop) → x.state.used < budget → asks_operator op.Add total v ≡ false → (x.state.used ≤ budget - left → used ≡ budget - left) → Charged (paired (Err stop) heap) (budget - x.state.used) left (operate frozen x.state.heap op.Add total v) → Adds fns frozen (Err (refused stop place)) total v place x (record x { state = record x.state { heap = heap; used = used } }) budget
added_refused fns frozen x heap total v place budget left used refusal.Raised lt plain q h f =
    added_refused_as fns frozen x heap total v place budget left used cause.Raised f plain (added_stops fns frozen x heap place budget left used (operate frozen x.state.heap op.Add total v).cost refusal.Raised (operate frozen x.state.heap op.Add total v).answer f lt (q (omega (arith, h.1, h.2))) h.1 h.2 h.0)
added_refused fns frozen x heap total v place budget left used refusal.Width lt plain q h f =
    added_refused_as fns frozen x heap total v place budget left used cause.Width f plain (added_stops fns frozen x heap place budget left used (operate frozen x.state.heap op.Add total v).cost refusal.Width (operate frozen x.state.heap op.Add total v).answer f lt (q (omega (arith, h.1, h.2))) h.1 h.2 h.0)
added_refused fns frozen x heap total v place budget left used refusal.Limit lt plain q h f =
    added_refused_as fns frozen x heap total v place budget left used cause.Limit f plain (added_stops fns frozen x heap place budget left used (operate frozen x.state.heap op.Add total v).cost refusal.Limit (operate frozen x.state.heap op.Add total v).answer f lt (q (omega (arith, h.1, h.2))) h.1 h.2 h.0)
added_refused fns frozen x heap total v place budget left used refusal.Spent lt plain q h f =
    let e : used ≡ budget - left = q (omega (arith, h.1)) in
    added_refused_as fns frozen x heap total v place budget left used cause.Spent f plain (added_short fns frozen x heap place budget used (operate frozen x.state.heap op.Add total v).cost (operate frozen x.state.heap op.Add total v).answer f (omega (arith, h.1)) (omega (arith, h.0)))
added_refused fns frozen x heap total v place budget left used refusal.NoMemory lt plain q h f = no_memory fns frozen x (record x { state = record x.state { heap = heap; used = used } }) budget (λ k. operated k op.Add total v place >>= f k)

pub added_left : (sum : Val) (heap : Made) (budget before left used : ℕ) (run : Run (Val × Made)) → before < budget → (before ≤ budget - left → used ≡ budget - left) → Charged (paired (Ok sum) heap) (budget - before) left run → used < budget
added_left sum heap budget before left used run lt f h = let e : used ≡ budget - left = f (omega (arith, h.1, h.2)) in omega (arith, h.2)

pub ruleset added_rules = (added_goes, added_refused, added_left)

-- ---- the additions

pub summed_none : (fns : Functions) (frozen : Made) (r : Result Now Halt) (x y : Going) (budget n : ℕ) (total : Val) (row kept : List Val) (place : Place) → kept ≡ row → length kept ≤ n → GoesOn fns frozen r x y budget (λ k. give total) → GoesOn fns frozen r x y budget (λ k. summed k total (drop n row) place)
summed_none fns frozen r x y budget n total row kept place i e h =
    let P : List Val → Type 0 = λ z. GoesOn fns frozen r x y budget (λ k. summed k total z place) in
    subst P (sym (ap (drop n) (sym i) ∙ drop_all n kept e)) h

-- the item of a number, and the others
item_of : (n : ℕ) (v : Val) (row kept same : List Val) → n < length kept → kept ≡ row → same ≡ kept → v ≡ get_or same n v → drop n row ≡ v ∷ drop (n + 1) row
item_of n v row kept same e i j q =
    let there : v ≡ get_or kept n v = q ∙ ap (λ (l : List Val). get_or l n v) j in
    subst (λ (l : List Val). drop n l ≡ v ∷ drop (n + 1) l) i (drop_more kept n v e ∙ ap (λ (l : Val). l ∷ drop (n + 1) kept) (sym there))

-- an addition for which the store is asked; a frame waits for it
pub summed_asks : (fns : Functions) (frozen : Made) (r : Result Now Halt) (x y : Going) (budget n : ℕ) (total v : Val) (row kept same : List Val) (place : Place) → n < length kept → kept ≡ row → same ≡ kept → v ≡ get_or same n v → GoesOn fns frozen r x y budget (within (frame.Call (call.Summing kept (n + 1) place)) (λ k. operated k op.Add total v place)) → GoesOn fns frozen r x y budget (λ k. summed k total (drop n row) place)
summed_asks fns frozen r x y budget n total v row kept same place e i j q h =
    let P : List Val → Type 0 = λ z. GoesOn fns frozen r x y budget (λ k. summed k total z place) in
    let Q : List Val → Type 0 = λ z. GoesOn fns frozen r x y budget (within (frame.Call (call.Summing z (n + 1) place)) (λ k. operated k op.Add total v place)) in
    subst P (sym (item_of n v row kept same e i j q)) (subst Q i h)

-- an addition that asks nothing, and then the others
pub summed_more : (fns : Functions) (frozen : Made) (r : Result Now Halt) (x y z : Going) (budget n : ℕ) (total v sum : Val) (row kept same : List Val) (place : Place) → n < length kept → kept ≡ row → same ≡ kept → v ≡ get_or same n v → Adds fns frozen (Ok sum) total v place x y budget → y.state.used ≤ z.state.used → GoesOn fns frozen r y z budget (λ k. summed k sum (drop (n + 1) row) place) → GoesOn fns frozen r x z budget (λ k. summed k total (drop n row) place)
summed_more fns frozen r x y z budget n total v sum row kept same place e i j q adds more h =
    let P : List Val → Type 0 = λ l. GoesOn fns frozen r x z budget (λ k. summed k total l place) in
    subst P (sym (item_of n v row kept same e i j q))
    (adds r z (λ k t. summed k t (drop (n + 1) row) place) more h)

pub summed_refused : (fns : Functions) (frozen : Made) (halt : Halt) (x y : Going) (budget n : ℕ) (total v : Val) (row kept same : List Val) (place : Place) → n < length kept → kept ≡ row → same ≡ kept → v ≡ get_or same n v → Adds fns frozen (Err halt) total v place x y budget → GoesOn fns frozen (Err halt) x y budget (λ k. summed k total (drop n row) place)
summed_refused fns frozen halt x y budget n total v row kept same place e i j q adds =
    let P : List Val → Type 0 = λ l. GoesOn fns frozen (Err halt) x y budget (λ k. summed k total l place) in
    subst P (sym (item_of n v row kept same e i j q))
    (adds (λ k t. summed k t (drop (n + 1) row) place))

-- ---- what `sum` goes over

sum_asked-as : (k : Known) (args : List Val) (row start : Val) (place : Place) (w : World) (s : State) → Some row ≡ first_of args → start ≡ start_of args → sum_asked k args place w s ≡ sum_over k (elements (heap_seen k s) row) start place w s
sum_asked-as k [] row start place w s e q = cc
sum_asked-as k (v ∷ []) row start place w s e q = let i : row ≡ v = cc in ap (λ (z : Val). sum_over k (elements (heap_seen k s) z) (val.Int (pos 0)) place w s) (sym i) ∙ ap (λ (z : Val). sum_over k (elements (heap_seen k s) row) z place w s) (sym q)
sum_asked-as k (v ∷ u ∷ []) row start place w s e q = let i : row ≡ v = cc in ap (λ (z : Val). sum_over k (elements (heap_seen k s) z) u place w s) (sym i) ∙ ap (λ (z : Val). sum_over k (elements (heap_seen k s) row) z place w s) (sym q)
sum_asked-as k (v ∷ u ∷ t ∷ ts) row start place w s e q = let i : row ≡ v = cc in ap (λ (z : Val). sum_over k (elements (heap_seen k s) z) (val.Int (pos 0)) place w s) (sym i) ∙ ap (λ (z : Val). sum_over k (elements (heap_seen k s) row) z place w s) (sym q)

asked_as : (fns : Functions) (frozen : Made) (r : Result Now Halt) (x y : Going) (budget : ℕ) (args : List Val) (row start : Val) (place : Place) (o : Result (List Val) ValueStop) → Some row ≡ first_of args → start ≡ start_of args → elements (seen frozen x.state.heap) row ≡ o → GoesOn fns frozen r x y budget (λ k. sum_over k o start place) → GoesOn fns frozen r x y budget (λ k. sum_asked k args place)
asked_as fns frozen r x y budget args row start place o f q e h =
    let K : Known = known (steps_of fns.program) frozen x.state.here.room in
    same_runs fns frozen r x y budget (λ k. sum_over k o start place) (λ k. sum_asked k args place)
    (λ w. sum_asked-as K args row start place w x.state f q ∙ ap (λ (z : Result (List Val) ValueStop). sum_over K z start place w x.state) e) h

pub asked_goes : (fns : Functions) (frozen : Made) (r : Result Now Halt) (x y : Going) (budget : ℕ) (args : List Val) (row start : Val) (vs : List Val) (place : Place) → Some row ≡ first_of args → start ≡ start_of args → elements (seen frozen x.state.heap) row ≡ Ok vs → GoesOn fns frozen r x y budget (λ k. summed k start (drop 0 vs) place) → GoesOn fns frozen r x y budget (λ k. sum_asked k args place)
asked_goes fns frozen r x y budget args row start vs place f q e h = asked_as fns frozen r x y budget args row start place (Ok vs) f q e h

asked_stops : (fns : Functions) (frozen : Made) (x : Going) (budget : ℕ) (args : List Val) (row : Val) (place : Place) (e : ValueStop) (why : Cause) → Some row ≡ first_of args → elements (seen frozen x.state.heap) row ≡ Err e → why ≡ cause_of e → GoesOn fns frozen (Err (Stopped (record { cause = why; place = place }))) x x budget (λ k. sum_asked k args place)
asked_stops fns frozen x budget args row place e why f q i =
    asked_as fns frozen (Err (Stopped (record { cause = why; place = place }))) x x budget args row (start_of args) place (Err e) f refl q
    (let P : Cause → Type 0 = λ z. GoesOn fns frozen (Err (Stopped (record { cause = why; place = place }))) x x budget (λ k. stop z place) in
    subst P i (stop_goes fns frozen x budget why place))

pub asked_refused : (fns : Functions) (frozen : Made) (x : Going) (budget : ℕ) (args : List Val) (row : Val) (place : Place) (e : ValueStop) → Some row ≡ first_of args → Answers (Err e) (elements (seen frozen x.state.heap) row) → GoesOn fns frozen (Err (refused e place)) x x budget (λ k. sum_asked k args place)
asked_refused fns frozen x budget args row place refusal.Raised f a = asked_stops fns frozen x budget args row place refusal.Raised cause.Raised f a refl
asked_refused fns frozen x budget args row place refusal.Width f a = asked_stops fns frozen x budget args row place refusal.Width cause.Width f a refl
asked_refused fns frozen x budget args row place refusal.Limit f a = asked_stops fns frozen x budget args row place refusal.Limit cause.Limit f a refl
asked_refused fns frozen x budget args row place refusal.Spent f a = absurd a
asked_refused fns frozen x budget args row place refusal.NoMemory f a = no_memory fns frozen x x budget (λ k. sum_asked k args place)

sum_asked-none : (k : Known) (args : List Val) (place : Place) → None ≡ first_of args → sum_asked k args place ≡ stop cause.Raised place
sum_asked-none k [] place e = refl
sum_asked-none k (v ∷ vs) place e = cc

pub asked_none : (fns : Functions) (frozen : Made) (r : Result Now Halt) (x y : Going) (budget : ℕ) (args : List Val) (place : Place) → None ≡ first_of args → GoesOn fns frozen r x y budget (λ k. stop cause.Raised place) → GoesOn fns frozen r x y budget (λ k. sum_asked k args place)
asked_none fns frozen r x y budget args place e h =
    same_runs fns frozen r x y budget (λ k. stop cause.Raised place) (λ k. sum_asked k args place)
    (λ w. ap (λ (z : Doing). z w x.state) (sum_asked-none (known (steps_of fns.program) frozen x.state.here.room) args place e)) h

-- ---- `sum` itself

over_as : (fns : Functions) (frozen : Made) (r : Result Now Halt) (x y : Going) (budget : ℕ) (vals : List Val) (place : Place) (b : Bool) → b ≡ adds_things (seen frozen x.state.heap) vals → GoesOn fns frozen r x y budget (λ k. choose b (sum_asked k vals place) (built k builtins.Sum vals place)) → GoesOn fns frozen r x y budget (λ k. built_over k builtins.Sum vals place)
over_as fns frozen r x y budget vals place b e h =
    let K : Known = known (steps_of fns.program) frozen x.state.here.room in
    same_runs fns frozen r x y budget (λ k. choose b (sum_asked k vals place) (built k builtins.Sum vals place)) (λ k. built_over k builtins.Sum vals place)
    (λ w. ap (λ z. choose z (sum_asked K vals place) (built K builtins.Sum vals place) w x.state) (sym e)) h

over_so : (fns : Functions) (frozen : Made) (r : Result Now Halt) (x y : Going) (budget : ℕ) (b : Builtin) (vals same : List Val) (place : Place) (t : Bool) → b ≡ builtins.Sum → same ≡ vals → t ≡ adds_things (seen frozen x.state.heap) same → GoesOn fns frozen r x y budget (λ k. choose t (sum_asked k vals place) (built k builtins.Sum vals place)) → GoesOn fns frozen r x y budget (λ k. built_over k b vals place)
over_so fns frozen r x y budget b vals same place t i j e h =
    same_goes fns frozen r x y budget (λ z k. built_over k z vals place) builtins.Sum b (sym i)
    (over_as fns frozen r x y budget vals place t (e ∙ ap (adds_things (seen frozen x.state.heap)) j) h)

pub over_things : (fns : Functions) (frozen : Made) (r : Result Now Halt) (x y : Going) (budget : ℕ) (b : Builtin) (vals same more : List Val) (place : Place) (t : Bool) → b ≡ builtins.Sum → same ≡ vals → more ≡ vals → t ≡ adds_things (seen frozen x.state.heap) same → t ≡ true → GoesOn fns frozen r x y budget (λ k. sum_asked k more place) → GoesOn fns frozen r x y budget (λ k. built_over k b vals place)
over_things fns frozen r x y budget b vals same more place t i j l e q h =
    over_so fns frozen r x y budget b vals same place true i j (sym q ∙ e) (same_goes fns frozen r x y budget (λ z k. sum_asked k z place) more vals l h)

pub over_plain : (fns : Functions) (frozen : Made) (r : Result Now Halt) (x y : Going) (budget : ℕ) (b : Builtin) (vals same : List Val) (place : Place) (t : Bool) → b ≡ builtins.Sum → same ≡ vals → t ≡ adds_things (seen frozen x.state.heap) same → t ≡ false → GoesOn fns frozen r x y budget (λ k. built k builtins.Sum vals place) → GoesOn fns frozen r x y budget (λ k. built_over k b vals place)
over_plain fns frozen r x y budget b vals same place t i j e q h = over_so fns frozen r x y budget b vals same place false i j (sym q ∙ e) h
