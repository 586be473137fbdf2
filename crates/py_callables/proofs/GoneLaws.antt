-- Laws of builtins that go over the elements of things.
use Rattle.std.proofs.Common.{◌≡◌, ℕ, ◌+◌, ◌<◌, ◌≤◌, refl, ap, ◌∙◌, sym, List, [], ◌∷◌, ◌++◌, length, get_or, drop, Result, Bool, true, false, ◌&&◌, if◌then◌else◌}
use Rattle.std.proofs.lemmas.List.{drop_more, drop_all}
use Rattle.amh_host.specs.declared.place.Place.{Place}
use Rattle.py_tree.specs.Programs.{steps_of}
use Rattle.py_values.specs.declared.val.Val.{Val}
use Rattle.py_values.specs.declared.op.Builtin.{Builtin}
use Rattle.py_heap.specs.Heaps.{Made}
use Rattle.py_callables.specs.declared.call_gone.Gone.{Gone}
use Rattle.py_callables.specs.declared.call_gone.Gone.TheVariants as gone
use Rattle.py_frames.specs.declared.state.Halt.{Halt}
use Rattle.py_frames.specs.declared.frame.Now.{Now}
use Rattle.py_frames.specs.declared.functions.Functions.{Functions}
use Rattle.py_frames.specs.declared.going.Going.{Going}
use Rattle.py_frames.specs.Doing.{Doing, Known, choose}
use Rattle.py_frames.specs.Statements.{known}
use Rattle.py_frames.specs.Values.{is_thing, goes_over, gone_over}
use Rattle.py_callables.specs.Going_over.{first_gone, thing_gone, gone_by}
use Rattle.py_frames.specs.Frames.{GoesOn}
use Rattle.py_frames.proofs.CallLaws.{same_runs}

-- ---- the walk over the arguments

first-step : (b : Builtin) (n : ℕ) (done : List Val) (rest : List Val) (i : ℕ) (v : Val) → i < length rest → v ≡ get_or rest i v → first_gone b n done (drop i rest) ≡ (if is_thing v && goes_over b n (length done) then gone.Thing done v (drop (i + 1) rest) else first_gone b n (done ++ v ∷ []) (drop (i + 1) rest))
first-step b n done rest i v e q = ap (first_gone b n done) (drop_more rest i v e ∙ ap (λ z. z ∷ drop (i + 1) rest) (sym q))

pub first_stops : (b : Builtin) (n : ℕ) (done : List Val) (rest : List Val) (i : ℕ) (v : Val) → i < length rest → v ≡ get_or rest i v → is_thing v ≡ true → goes_over b n (length done) ≡ true → first_gone b n done (drop i rest) ≡ gone.Thing done v (drop (i + 1) rest)
first_stops b n done rest i v e q e1 e2 = first-step b n done rest i v e q ∙ ap (λ (z : Bool). if z && goes_over b n (length done) then gone.Thing done v (drop (i + 1) rest) else first_gone b n (done ++ v ∷ []) (drop (i + 1) rest)) e1 ∙ ap (λ (z : Bool). if z then gone.Thing done v (drop (i + 1) rest) else first_gone b n (done ++ v ∷ []) (drop (i + 1) rest)) e2

pub first_goes : (b : Builtin) (n : ℕ) (done : List Val) (rest : List Val) (i : ℕ) (v : Val) → i < length rest → v ≡ get_or rest i v → is_thing v && goes_over b n (length done) ≡ false → first_gone b n done (drop i rest) ≡ first_gone b n (done ++ v ∷ []) (drop (i + 1) rest)
first_goes b n done rest i v e q e1 = first-step b n done rest i v e q ∙ ap (λ (z : Bool). if z then gone.Thing done v (drop (i + 1) rest) else first_gone b n (done ++ v ∷ []) (drop (i + 1) rest)) e1

pub first_ends : (b : Builtin) (n : ℕ) (done : List Val) (rest : List Val) (i : ℕ) → length rest ≤ i → first_gone b n done (drop i rest) ≡ gone.Whole done
first_ends b n done rest i e = ap (first_gone b n done) (drop_all i rest e)

pub ruleset first_rules = (first_stops, first_goes, first_ends)

-- ---- what it means

gone-choice : (k : Known) (b : Builtin) (n : ℕ) (done : List Val) (v : Val) (vs : List Val) (place : Place) (c : Bool) (m : Doing) (g : Gone) → m ≡ gone_by k b n g place → choose c (thing_gone k b n done v vs place) m ≡ gone_by k b n (if c then gone.Thing done v vs else g) place
gone-choice k b n done v vs place true m g e = refl
gone-choice k b n done v vs place false m g e = e

gone-first : (k : Known) (b : Builtin) (n : ℕ) (done rest : List Val) (place : Place) → gone_over k b n done rest place ≡ gone_by k b n (first_gone b n done rest) place
gone-first k b n done [] place = refl
gone-first k b n done (v ∷ vs) place = gone-choice k b n done v vs place (is_thing v && goes_over b n (length done)) (gone_over k b n (done ++ v ∷ []) vs place) (first_gone b n (done ++ v ∷ []) vs) (gone-first k b n (done ++ v ∷ []) vs place)

pub gone_first : (fns : Functions) (frozen : Made) (r : Result Now Halt) (x y : Going) (budget : ℕ) (b : Builtin) (n : ℕ) (done rest same : List Val) (place : Place) (g : Gone) → same ≡ rest → g ≡ first_gone b n done same → GoesOn fns frozen r x y budget (λ k. gone_by k b n g place) → GoesOn fns frozen r x y budget (λ k. gone_over k b n done rest place)
gone_first fns frozen r x y budget b n done rest same place g q e h = same_runs fns frozen r x y budget (λ k. gone_by k b n g place) (λ k. gone_over k b n done rest place) (λ w. ap (λ (z : Doing). z w x.state) (gone-first (known (steps_of fns.program) frozen x.state.here.room) b n done rest place) ∙ ap (λ (z : Gone). gone_by (known (steps_of fns.program) frozen x.state.here.room) b n z place w x.state) (ap (first_gone b n done) (sym q) ∙ sym e)) h
