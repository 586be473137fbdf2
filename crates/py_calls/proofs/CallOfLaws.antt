-- What a comprehension owes that is the one argument of a call.
use Rattle.std.proofs.Common.{◌≡◌, ℕ, zero, suc, ◌≤◌, refl, ap, ◌∙◌, subst, List, [], ◌∷◌, Some, None, Result, Ok, Err}
use Rattle.amh_host.specs.declared.place.Place.{Place}
use Rattle.py_tree.specs.declared.expr.Expr.{Expr}
use Rattle.py_tree.specs.Seen.{tree}
use Rattle.py_tree.specs.Tree.{Tree, Name, Number, Decimal_time, Quotient, Str, Format, Constant_value, Tuple, Display, Dict, ListOf, DictOf, Trailed, Await, Power, Unary, Not, Binary, Compare, Boolean, Choice, Each, each, Trailers, no_trailer, trailer, Trailer, CallOf}
use Rattle.py_heap.specs.Heaps.{Made}
use Rattle.py_values.specs.declared.val.Val.{Val}
use Rattle.py_frames.specs.declared.state.Halt.{Halt}
use Rattle.py_frames.specs.declared.frame.Now.{Now}
use Rattle.py_frames.specs.declared.frame.Purpose.{Purpose}
use Rattle.py_frames.specs.declared.frame.Comprehended.{Comprehended}
use Rattle.py_frames.specs.declared.frame.Frame.{Frame}
use Rattle.py_frames.specs.declared.frame.Frame.TheVariants as frame
use Rattle.py_frames.specs.declared.frame.CallFrame.TheVariants as call
use Rattle.py_frames.specs.declared.functions.Functions.{Functions}
use Rattle.py_frames.specs.declared.going.Going.{Going}
use Rattle.py_frames.specs.Doing.{Known, after, on_value, spend}
use Rattle.py_frames.specs.Parts.{place_of, trailers_from}
use Rattle.py_frames.specs.Expressions.{trailed_one, call_for, list_of}
use Rattle.py_frames.specs.Call_frames.{trailers_of}
use Rattle.py_frames.specs.Expr_parts.{comp_begun}
use Rattle.py_frames.specs.Begun.{Spends}
use Rattle.py_frames.specs.Walk_frames.{one, comp_at, comp_in, comp_of}
use Rattle.py_frames.specs.Trailing.{first_trailer}
use Rattle.py_frames.specs.Frames.{GoesOn}
use Rattle.py_frames.proofs.BeginLaws.{no_memory}
use Rattle.py_frames.proofs.ExprLaws.{spent_goes, spent_stops}
use Rattle.py_frames.proofs.StmtLaws.{meant_same}
use Rattle.py_walks.proofs.WalkLaws.{under_frame}

-- nothing trails past the last
none_behind : (n : ℕ) → first_trailer (trailers_from n no_trailer) ≡ None
none_behind zero = refl
none_behind (suc n) = refl

some_not_none : {A : Type 0} (a : A) → Some a ≡ None → ⊥
some_not_none a e = cc

lacks : (n : ℕ) (u : Trailer) → Some u ≡ first_trailer (trailers_from n no_trailer) → ⊥
lacks n u e = some_not_none u (e ∙ none_behind n)

first_comp : (us : Trailers) (t : Tree) (c : Each) → Some (CallOf t c) ≡ first_trailer us → comp_at us ≡ Some (record { place = place_of t; element = one t; source = c })
first_comp no_trailer t c e = cc
first_comp (trailer u us) t c e = let q : u ≡ CallOf t c = cc in ap (λ a. comp_at (trailer a us)) q

-- the comprehension of the call at a trailer
comp_there : (n : ℕ) (b t : Tree) (c : Each) → Some (CallOf t c) ≡ first_trailer (trailers_from n (trailers_of b)) → comp_in b (Some n) ≡ Some (record { place = place_of t; element = one t; source = c })
comp_there n (Name p x) t c e = absurd (lacks n (CallOf t c) e)
comp_there n (Number p x) t c e = absurd (lacks n (CallOf t c) e)
comp_there n (Decimal_time p d) t c e = absurd (lacks n (CallOf t c) e)
comp_there n (Quotient p x a) t c e = absurd (lacks n (CallOf t c) e)
comp_there n (Str p s) t c e = absurd (lacks n (CallOf t c) e)
comp_there n (Format p s) t c e = absurd (lacks n (CallOf t c) e)
comp_there n (Constant_value p k) t c e = absurd (lacks n (CallOf t c) e)
comp_there n (Tuple p ts) t c e = absurd (lacks n (CallOf t c) e)
comp_there n (Display p ts) t c e = absurd (lacks n (CallOf t c) e)
comp_there n (Dict p ps) t c e = absurd (lacks n (CallOf t c) e)
comp_there n (ListOf p a d) t c e = absurd (lacks n (CallOf t c) e)
comp_there n (DictOf p a b d) t c e = absurd (lacks n (CallOf t c) e)
comp_there n (Trailed p a ts) t c e = first_comp (trailers_from n ts) t c e
comp_there n (Await p a) t c e = absurd (lacks n (CallOf t c) e)
comp_there n (Power p a b) t c e = absurd (lacks n (CallOf t c) e)
comp_there n (Unary p s a) t c e = absurd (lacks n (CallOf t c) e)
comp_there n (Not p a) t c e = absurd (lacks n (CallOf t c) e)
comp_there n (Binary p a ls) t c e = absurd (lacks n (CallOf t c) e)
comp_there n (Compare p a ls) t c e = absurd (lacks n (CallOf t c) e)
comp_there n (Boolean p a ls) t c e = absurd (lacks n (CallOf t c) e)
comp_there n (Choice p a b d) t c e = absurd (lacks n (CallOf t c) e)

-- what begins is the list of the comprehension
list_begins : (k : Known) (c : Comprehended) (t : Tree) (d : Each) → comp_of c ≡ Some (record { place = place_of t; element = one t; source = d }) → list_of k t d ≡ spend (place_of t) (comp_begun k c)
list_begins k c t (each targets source condition) e = rw e refl

pub list_comes : (fns : Functions) (frozen : Made) (r : Result Now Halt) (x z : Going) (budget at : ℕ) (b t : Tree) (d : Each) (node : Expr) (c : Comprehended) (u : Purpose) (v : Val) (p q : Place) (fs : List Frame) → tree node ≡ b → Some (CallOf t d) ≡ first_trailer (trailers_from at (trailers_of b)) → c ≡ record { node = node; trailer = Some at } → p ≡ place_of b → q ≡ place_of t → fs ≡ frame.Call (call.ListGiven v u p) ∷ x.frames → GoesOn fns frozen r (record x { frames = fs }) z budget (λ k. spend q (comp_begun k c)) → GoesOn fns frozen r x z budget (λ k. trailed_one k u (place_of b) (CallOf t d) v)
list_comes fns frozen r x z budget at b t d node c u v p q fs e1 e2 e3 e4 e5 e6 h =
    let found : comp_of c ≡ Some (record { place = place_of t; element = one t; source = d }) = ap comp_of e3 ∙ (ap (λ i. comp_in i (Some at)) e1 ∙ comp_there at b t d e2) in
    let Q : Place → Type 0 = λ i. GoesOn fns frozen r (record x { frames = fs }) z budget (λ k. spend i (comp_begun k c)) in
    let P : Place → Type 0 = λ i. GoesOn fns frozen r x z budget (λ k w s. after (list_of k t d w s) (λ got. on_value got (λ l. call_for k u v (l ∷ []) [] i) w)) in
    subst P e4 (under_frame fns frozen r x z budget (frame.Call (call.ListGiven v u p)) fs (λ k. list_of k t d) refl e6
    (meant_same fns frozen r (record x { frames = fs }) z budget (λ k. spend (place_of t) (comp_begun k c)) (λ k. list_of k t d) (λ k. list_begins k c t d found) (subst Q e5 h)))

pub list_spends : (fns : Functions) (frozen : Made) (r : Result Now Halt) (x y z : Going) (budget : ℕ) (u : Unit {0}) (p : Place) (c : Comprehended) → Spends (Ok u) 1 p x y budget → y.state.used ≤ z.state.used → GoesOn fns frozen r y z budget (λ k. comp_begun k c) → GoesOn fns frozen r x z budget (λ k. spend p (comp_begun k c))
list_spends fns frozen r x y z budget u p c s g h = spent_goes fns frozen r x y z budget 1 u p (λ k. comp_begun k c) s g h

pub list_stops : (fns : Functions) (frozen : Made) (h : Halt) (x z : Going) (budget : ℕ) (p : Place) (c : Comprehended) → Spends (Err h) 1 p x z budget → GoesOn fns frozen (Err h) x z budget (λ k. spend p (comp_begun k c))
list_stops fns frozen h x z budget p c s = spent_stops fns frozen h x z budget 1 p (λ k. comp_begun k c) s

pub ruleset call_rules = (list_comes, no_memory)

pub ruleset list_rules = (list_spends, list_stops)
