-- Laws of arguments by keyword.
use Rattle.std.proofs.Common.{◌≡◌, ℕ, ◌+◌, ◌<◌, ◌≤◌, ap, ◌∙◌, sym, List, ◌∷◌, length, get_or, drop, Result, Bool, true, false, if◌then◌else◌}
use Rattle.std.proofs.lemmas.List.{drop_more, drop_all}
use Rattle.lists.specs.Texts.{text_eq}
use Rattle.amh_host.specs.declared.place.Place.{Place}
use Rattle.py_heap.specs.Heaps.{Made}
use Rattle.py_frames.specs.declared.request.NamedVal.{NamedVal}
use Rattle.py_frames.specs.declared.request.Cause.TheVariants.{Raised}
use Rattle.py_frames.specs.declared.state.Halt.{Halt}
use Rattle.py_frames.specs.declared.frame.Now.{Now}
use Rattle.py_frames.specs.declared.functions.Functions.{Functions}
use Rattle.py_frames.specs.declared.going.Going.{Going}
use Rattle.py_frames.specs.Doing.{Doing, Known, choose, stop}
use Rattle.py_frames.specs.Functions.{is_given}
use Rattle.py_frames.specs.Expressions.{once_named}
use Rattle.py_frames.specs.Frames.{GoesOn}
use Rattle.py_frames.proofs.CallLaws.{same_goes}

pub given_found : (name : List ℕ) (keywords : List NamedVal) (i : ℕ) (x : NamedVal) → i < length keywords → x ≡ get_or keywords i x → text_eq x.name name ≡ true → is_given name (drop i keywords) ≡ true
given_found name keywords i x e q h = ap (is_given name) (drop_more keywords i x e ∙ ap (λ z. z ∷ drop (i + 1) keywords) (sym q)) ∙ ap (λ (z : Bool). if z then true else is_given name (drop (i + 1) keywords)) h

pub given_more : (name : List ℕ) (keywords : List NamedVal) (i : ℕ) (x : NamedVal) → i < length keywords → x ≡ get_or keywords i x → text_eq x.name name ≡ false → is_given name (drop i keywords) ≡ is_given name (drop (i + 1) keywords)
given_more name keywords i x e q h = ap (is_given name) (drop_more keywords i x e ∙ ap (λ z. z ∷ drop (i + 1) keywords) (sym q)) ∙ ap (λ (z : Bool). if z then true else is_given name (drop (i + 1) keywords)) h

pub given_end : (name : List ℕ) (keywords : List NamedVal) (i : ℕ) → length keywords ≤ i → is_given name (drop i keywords) ≡ false
given_end name keywords i e = ap (is_given name) (drop_all i keywords e)

pub ruleset given_rules = (given_found, given_more, given_end)

-- a keyword that is there for the first time, and one that stands already
pub once_free : (fns : Functions) (frozen : Made) (r : Result Now Halt) (x y : Going) (budget : ℕ) (name : List ℕ) (keywords : List NamedVal) (p : Place) (m : Known → Doing) (b : Bool) → b ≡ is_given name keywords → b ≡ false → GoesOn fns frozen r x y budget m → GoesOn fns frozen r x y budget (λ k. once_named name keywords p (m k))
once_free fns frozen r x y budget name keywords p m b e1 e2 h = same_goes fns frozen r x y budget (λ z k. choose z (stop Raised p) (m k)) false (is_given name keywords) (sym e2 ∙ e1) h

pub once_taken : (fns : Functions) (frozen : Made) (r : Result Now Halt) (x y : Going) (budget : ℕ) (name : List ℕ) (keywords : List NamedVal) (p : Place) (m : Known → Doing) (b : Bool) → b ≡ is_given name keywords → b ≡ true → GoesOn fns frozen r x y budget (λ k. stop Raised p) → GoesOn fns frozen r x y budget (λ k. once_named name keywords p (m k))
once_taken fns frozen r x y budget name keywords p m b e1 e2 h = same_goes fns frozen r x y budget (λ z k. choose z (stop Raised p) (m k)) true (is_given name keywords) (sym e2 ∙ e1) h

pub ruleset once_rules = (once_free, once_taken)
