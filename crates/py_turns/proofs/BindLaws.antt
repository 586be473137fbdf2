-- Names that are bound, and what goes on behind them.
use Rattle.std.proofs.Common.{◌≡◌, ℕ, ◌+◌, ◌<◌, ◌≤◌, ap, ◌∙◌, sym, subst, List, ◌∷◌, drop, length, get_or, Result, Ok, Err}
use Rattle.std.proofs.lemmas.List.{drop_more, drop_all}
use Rattle.amh_host.specs.declared.place.Place.{Place}
use Rattle.py_heap.specs.Heaps.{Made, seen}
use Rattle.py_heap.specs.Names.{scope_bound}
use Rattle.py_frames.specs.declared.request.NamedVal.{NamedVal}
use Rattle.py_frames.specs.declared.state.Halt.{Halt}
use Rattle.py_frames.specs.declared.state.Got.TheVariants.{Next}
use Rattle.py_frames.specs.declared.frame.Now.{Now}
use Rattle.py_frames.specs.declared.functions.Functions.{Functions}
use Rattle.py_frames.specs.declared.going.Going.{Going}
use Rattle.py_frames.specs.Doing.{came}
use Rattle.py_frames.specs.Values.{bind, bind_all}
use Rattle.py_frames.specs.Functions.{named_val}
use Rattle.py_frames.specs.Told.{Binds}
use Rattle.py_frames.specs.Frames.{GoesOn}
use Rattle.py_frames.proofs.ExprLaws.{bind_goes, bind_stops}

-- the names of a list, from one on
pub all_next : (fns : Functions) (frozen : Made) (r : Result Now Halt) (x y z : Going) (budget n : ℕ) (items names : List NamedVal) (i : NamedVal) (text : List ℕ) (p : Place) (u : Unit {0}) → items ≡ names → n < length items → i ≡ get_or items n i → text ≡ i.name → Binds (Ok u) (scope_bound (seen frozen x.state.heap) x.state.here.scope.0 text i.val) (named_val text i.val) p x y → GoesOn fns frozen r y z budget (λ k. bind_all k (drop (n + 1) names) p (came Next)) → GoesOn fns frozen r x z budget (λ k. bind_all k (drop n names) p (came Next))
all_next fns frozen r x y z budget n items names i text p u q lt e et b h =
    let A : List NamedVal → Type 0 = λ l. GoesOn fns frozen r x z budget (λ k. bind_all k l p (came Next)) in
    let T : List ℕ → Type 0 = λ l. GoesOn fns frozen r x z budget (λ k. bind k l i.val p (bind_all k (drop (n + 1) names) p (came Next))) in
    let D : List NamedVal → Type 0 = λ l. drop n l ≡ i ∷ drop (n + 1) l in
    let d : drop n names ≡ i ∷ drop (n + 1) names = subst D q (drop_more items n i lt ∙ ap (λ z. z ∷ drop (n + 1) items) (sym e)) in
    subst A (sym d) (subst T et (bind_goes fns frozen r x y z budget u text i.val p (λ k. bind_all k (drop (n + 1) names) p (came Next)) b h))

pub all_refused : (fns : Functions) (frozen : Made) (h : Halt) (x y : Going) (budget n : ℕ) (items names : List NamedVal) (i : NamedVal) (text : List ℕ) (p : Place) → items ≡ names → n < length items → i ≡ get_or items n i → text ≡ i.name → Binds (Err h) (scope_bound (seen frozen x.state.heap) x.state.here.scope.0 text i.val) (named_val text i.val) p x y → GoesOn fns frozen (Err h) x y budget (λ k. bind_all k (drop n names) p (came Next))
all_refused fns frozen h x y budget n items names i text p q lt e et b =
    let A : List NamedVal → Type 0 = λ l. GoesOn fns frozen (Err h) x y budget (λ k. bind_all k l p (came Next)) in
    let T : List ℕ → Type 0 = λ l. GoesOn fns frozen (Err h) x y budget (λ k. bind k l i.val p (bind_all k (drop (n + 1) names) p (came Next))) in
    let D : List NamedVal → Type 0 = λ l. drop n l ≡ i ∷ drop (n + 1) l in
    let d : drop n names ≡ i ∷ drop (n + 1) names = subst D q (drop_more items n i lt ∙ ap (λ z. z ∷ drop (n + 1) items) (sym e)) in
    subst A (sym d) (subst T et (bind_stops fns frozen h x y budget text i.val p (λ k. bind_all k (drop (n + 1) names) p (came Next)) b))

pub all_end : (fns : Functions) (frozen : Made) (r : Result Now Halt) (x z : Going) (budget n : ℕ) (items names : List NamedVal) (p : Place) → items ≡ names → length items ≤ n → GoesOn fns frozen r x z budget (λ k. came Next) → GoesOn fns frozen r x z budget (λ k. bind_all k (drop n names) p (came Next))
all_end fns frozen r x z budget n items names p q le h =
    let A : List NamedVal → Type 0 = λ l. GoesOn fns frozen r x z budget (λ k. bind_all k l p (came Next)) in
    subst A (sym (ap (drop n) (sym q) ∙ drop_all n items le)) h
