-- A value that is sought among elements, one after the other.
use Rattle.std.proofs.Common.{◌≡◌, ℕ, ◌+◌, ◌<◌, ◌≤◌, refl, ap, ◌∙◌, sym, subst, Bool, true, false, not, List, ◌∷◌, length, get_or, drop, Some, Result, Ok, Err}
use Rattle.std.proofs.lemmas.List.{drop_more, drop_all}
use Rattle.amh_host.specs.declared.place.Place.{Place}
use Rattle.py_tree.specs.Programs.{steps_of}
use Rattle.py_values.specs.declared.val.Val.{Val}
use Rattle.py_values.specs.declared.val.Val.TheVariants as val
use Rattle.py_values.specs.declared.val.ValueStop.{ValueStop}
use Rattle.py_values.specs.declared.val.ValueStop.TheVariants as refusal
use Rattle.py_values.specs.declared.op.PyOp.{PyOp}
use Rattle.py_values.specs.declared.op.PyOp.TheVariants as op
use Rattle.py_heap.specs.Heaps.{Made, seen}
use Rattle.py_operators.specs.Elements.{elements}
use Rattle.py_values.specs.Runs.{Answers}
use Rattle.py_operators.specs.Truths.{truth}
use Rattle.py_frames.specs.declared.request.Cause.TheVariants as cause
use Rattle.py_frames.specs.declared.state.Halt.{Halt}
use Rattle.py_frames.specs.declared.state.Got.TheVariants.{Value}
use Rattle.py_frames.specs.declared.frame.Now.{Now}
use Rattle.py_frames.specs.declared.frame.Now.TheVariants.{Came}
use Rattle.py_frames.specs.declared.frame.Frame.TheVariants as frame
use Rattle.py_frames.specs.declared.frame.ExprFrame.TheVariants as expr
use Rattle.py_frames.specs.declared.functions.Functions.{Functions}
use Rattle.py_frames.specs.declared.going.Going.{Going}
use Rattle.py_frames.specs.Begun.{Spends}
use Rattle.py_turns.specs.Binding.{refused}
use Rattle.py_frames.specs.Doing.{Doing, Known, ◌>>=◌, give, stop, choose, cause_of, spend_each}
use Rattle.py_frames.specs.Statements.{known}
use Rattle.py_frames.specs.Told.{TellsTruth}
use Rattle.py_frames.specs.Values.{operated, truth_of, is_same_thing, matched, sought, sought_among, seeks_things, contained}
use Rattle.py_frames.specs.Frames.{GoesOn, within}
use Rattle.py_frames.proofs.BeginLaws.{no_memory, stop_goes, give_goes}
use Rattle.py_frames.proofs.CallLaws.{same_runs}
use Rattle.py_frames.proofs.ExprLaws.{truth_goes, truth_stops, spent_goes, spent_stops}

-- ---- among the elements

contained_as : (fns : Functions) (frozen : Made) (r : Result Now Halt) (x y : Going) (budget : ℕ) (sign : Bool) (o : PyOp) (a v : Val) (place : Place) (b : Bool) (row : Result (List Val) ValueStop) → seeks_things (seen frozen x.state.heap) a v ≡ b → elements (seen frozen x.state.heap) v ≡ row → GoesOn fns frozen r x y budget (λ k. choose b (sought_among k sign a row place) (operated k o a v place)) → GoesOn fns frozen r x y budget (λ k. contained k sign o a v place)
contained_as fns frozen r x y budget sign o a v place b row e q h =
    let K : Known = known (steps_of fns.program) frozen x.state.here.room in
    same_runs fns frozen r x y budget (λ k. choose b (sought_among k sign a row place) (operated k o a v place)) (λ k. contained k sign o a v place)
    (λ w. ap (λ (z : Bool). choose z (sought_among K sign a (elements (seen frozen x.state.heap) v) place) (operated K o a v place) w x.state) e
    ∙ ap (λ (z : Result (List Val) ValueStop). choose b (sought_among K sign a z place) (operated K o a v place) w x.state) q) h

pub contained_plain : (fns : Functions) (frozen : Made) (r : Result Now Halt) (x y : Going) (budget : ℕ) (sign : Bool) (o : PyOp) (a v : Val) (place : Place) → seeks_things (seen frozen x.state.heap) a v ≡ false → GoesOn fns frozen r x y budget (λ k. operated k o a v place) → GoesOn fns frozen r x y budget (λ k. contained k sign o a v place)
contained_plain fns frozen r x y budget sign o a v place e h = contained_as fns frozen r x y budget sign o a v place false (elements (seen frozen x.state.heap) v) e refl h

pub contained_goes : (fns : Functions) (frozen : Made) (r : Result Now Halt) (x y : Going) (budget : ℕ) (sign : Bool) (o : PyOp) (a v : Val) (place : Place) (row : List Val) → seeks_things (seen frozen x.state.heap) a v ≡ true → elements (seen frozen x.state.heap) v ≡ Ok row → GoesOn fns frozen r x y budget (λ k. sought k sign a (drop 0 row) place) → GoesOn fns frozen r x y budget (λ k. contained k sign o a v place)
contained_goes fns frozen r x y budget sign o a v place row e q h = contained_as fns frozen r x y budget sign o a v place true (Ok row) e q h

contained_stops : (fns : Functions) (frozen : Made) (r : Result Now Halt) (x y : Going) (budget : ℕ) (sign : Bool) (o : PyOp) (a v : Val) (place : Place) (e : ValueStop) → seeks_things (seen frozen x.state.heap) a v ≡ true → elements (seen frozen x.state.heap) v ≡ Err e → GoesOn fns frozen r x y budget (λ k. stop (cause_of e) place) → GoesOn fns frozen r x y budget (λ k. contained k sign o a v place)
contained_stops fns frozen r x y budget sign o a v place e t q h = contained_as fns frozen r x y budget sign o a v place true (Err e) t q h

pub contained_refused : (fns : Functions) (frozen : Made) (x : Going) (budget : ℕ) (sign : Bool) (o : PyOp) (a v : Val) (place : Place) (e : ValueStop) → seeks_things (seen frozen x.state.heap) a v ≡ true → Answers (Err e) (elements (seen frozen x.state.heap) v) → GoesOn fns frozen (Err (refused e place)) x x budget (λ k. contained k sign o a v place)
contained_refused fns frozen x budget sign o a v place refusal.Raised t h = contained_stops fns frozen _ x x budget sign o a v place refusal.Raised t h (stop_goes fns frozen x budget cause.Raised place)
contained_refused fns frozen x budget sign o a v place refusal.Width t h = contained_stops fns frozen _ x x budget sign o a v place refusal.Width t h (stop_goes fns frozen x budget cause.Width place)
contained_refused fns frozen x budget sign o a v place refusal.Limit t h = contained_stops fns frozen _ x x budget sign o a v place refusal.Limit t h (stop_goes fns frozen x budget cause.Limit place)
contained_refused fns frozen x budget sign o a v place refusal.Spent t h = absurd h
contained_refused fns frozen x budget sign o a v place refusal.NoMemory t h = no_memory fns frozen x x budget (λ k. contained k sign o a v place)

-- ---- from one element on

pub sought_none : (fns : Functions) (frozen : Made) (r : Result Now Halt) (x y : Going) (budget n : ℕ) (sign : Bool) (a : Val) (row : List Val) (place : Place) → length row ≤ n → GoesOn fns frozen r x y budget (λ k. give (val.Bool (not sign))) → GoesOn fns frozen r x y budget (λ k. sought k sign a (drop n row) place)
sought_none fns frozen r x y budget n sign a row place e h =
    let P : List Val → Type 0 = λ z. GoesOn fns frozen r x y budget (λ k. sought k sign a z place) in
    subst P (sym (drop_all n row e)) h

sought_next : (fns : Functions) (frozen : Made) (r : Result Now Halt) (x y : Going) (budget n : ℕ) (sign : Bool) (a v : Val) (row : List Val) (place : Place) → n < length row → v ≡ get_or row n v → GoesOn fns frozen r x y budget (λ k. spend_each 1 place (matched k sign a v place (sought k sign a (drop (n + 1) row) place))) → GoesOn fns frozen r x y budget (λ k. sought k sign a (drop n row) place)
sought_next fns frozen r x y budget n sign a v row place e q h =
    let P : List Val → Type 0 = λ z. GoesOn fns frozen r x y budget (λ k. sought k sign a z place) in
    subst P (sym (drop_more row n v e ∙ ap (λ z. z ∷ drop (n + 1) row) (sym q))) h

pub sought_goes : (fns : Functions) (frozen : Made) (r : Result Now Halt) (x z y : Going) (budget n : ℕ) (u : Unit {0}) (sign : Bool) (a v : Val) (row : List Val) (place : Place) → n < length row → v ≡ get_or row n v → Spends (Ok u) 1 place x z budget → z.state.used ≤ y.state.used → GoesOn fns frozen r z y budget (λ k. matched k sign a v place (sought k sign a (drop (n + 1) row) place)) → GoesOn fns frozen r x y budget (λ k. sought k sign a (drop n row) place)
sought_goes fns frozen r x z y budget n u sign a v row place e q s g h =
    sought_next fns frozen r x y budget n sign a v row place e q
    (spent_goes fns frozen r x z y budget 1 u place (λ k. matched k sign a v place (sought k sign a (drop (n + 1) row) place)) s g h)

pub sought_stops : (fns : Functions) (frozen : Made) (halt : Halt) (x y : Going) (budget n : ℕ) (sign : Bool) (a v : Val) (row : List Val) (place : Place) → n < length row → v ≡ get_or row n v → Spends (Err halt) 1 place x y budget → GoesOn fns frozen (Err halt) x y budget (λ k. sought k sign a (drop n row) place)
sought_stops fns frozen halt x y budget n sign a v row place e q s =
    sought_next fns frozen (Err halt) x y budget n sign a v row place e q
    (spent_stops fns frozen halt x y budget 1 place (λ k. matched k sign a v place (sought k sign a (drop (n + 1) row) place)) s)

-- ---- one element

abbrev compared : Known → Bool → Val → Val → Place → Doing → Doing
compared k sign a v place rest = do
  t ← operated k op.Eq a v place
  truth_of k t place (λ found. choose found (give (val.Bool sign)) rest)

pub matched_same : (fns : Functions) (frozen : Made) (r : Result Now Halt) (x y : Going) (budget : ℕ) (sign : Bool) (a v : Val) (place : Place) (rest : Known → Doing) → is_same_thing a v ≡ true → GoesOn fns frozen r x y budget (λ k. give (val.Bool sign)) → GoesOn fns frozen r x y budget (λ k. matched k sign a v place (rest k))
matched_same fns frozen r x y budget sign a v place rest e h =
    let P : Bool → Type 0 = λ z. GoesOn fns frozen r x y budget (λ k. choose z (give (val.Bool sign)) (compared k sign a v place (rest k))) in
    subst P (sym e) h

pub matched_other : (fns : Functions) (frozen : Made) (r : Result Now Halt) (x y : Going) (budget n : ℕ) (sign : Bool) (a v : Val) (row : List Val) (place : Place) → is_same_thing a v ≡ false → GoesOn fns frozen r x y budget (within (frame.Expr (expr.Seeking sign a row n place)) (λ k. operated k op.Eq a v place)) → GoesOn fns frozen r x y budget (λ k. matched k sign a v place (sought k sign a (drop n row) place))
matched_other fns frozen r x y budget n sign a v row place e h =
    let P : Bool → Type 0 = λ z. GoesOn fns frozen r x y budget (λ k. choose z (give (val.Bool sign)) (compared k sign a v place (sought k sign a (drop n row) place))) in
    subst P (sym e) h

-- ---- what a comparison gave

abbrev by-found : Bool → Val → List Val → ℕ → Place → Known → Bool → Doing
by-found sign a row n place k found = choose found (give (val.Bool sign)) (sought k sign a (drop n row) place)

pub compared_stops : (fns : Functions) (frozen : Made) (halt : Halt) (x : Going) (budget n : ℕ) (sign : Bool) (a v : Val) (row : List Val) (place : Place) → TellsTruth (Err halt) (truth (seen frozen x.state.heap) v) place → GoesOn fns frozen (Err halt) x x budget (λ k. truth_of k v place (λ found. choose found (give (val.Bool sign)) (sought k sign a (drop n row) place)))
compared_stops fns frozen halt x budget n sign a v row place e = truth_stops fns frozen halt x budget v place (by-found sign a row n place) e

pub compared_found : (fns : Functions) (frozen : Made) (x : Going) (budget n : ℕ) (sign found : Bool) (a v : Val) (row : List Val) (place : Place) → TellsTruth (Ok found) (truth (seen frozen x.state.heap) v) place → found ≡ true → GoesOn fns frozen (Ok (Came (Value (val.Bool sign)))) x x budget (λ k. truth_of k v place (λ found. choose found (give (val.Bool sign)) (sought k sign a (drop n row) place)))
compared_found fns frozen x budget n sign found a v row place e q =
    truth_goes fns frozen (Ok (Came (Value (val.Bool sign)))) x x budget true v place (by-found sign a row n place) (e ∙ ap Some q) (give_goes fns frozen x budget (val.Bool sign))

pub compared_next : (fns : Functions) (frozen : Made) (r : Result Now Halt) (x y : Going) (budget n : ℕ) (sign found : Bool) (a v : Val) (row : List Val) (place : Place) → TellsTruth (Ok found) (truth (seen frozen x.state.heap) v) place → found ≡ false → GoesOn fns frozen r x y budget (λ k. sought k sign a (drop n row) place) → GoesOn fns frozen r x y budget (λ k. truth_of k v place (λ found. choose found (give (val.Bool sign)) (sought k sign a (drop n row) place)))
compared_next fns frozen r x y budget n sign found a v row place e q h = truth_goes fns frozen r x y budget false v place (by-found sign a row n place) (e ∙ ap Some q) h
