-- What is there at once is what the part means, at the cost of its units.
use Rattle.std.specs.Prelude.{pos, ℤ}
use Rattle.std.proofs.Common.{◌≡◌, ℕ, suc, zero, ◌+◌, ◌<◌, ◌≤◌, refl, ap, ◌∙◌, sym, subst, List, [], ◌∷◌, Option, Some, None, Result, Ok, Err, nat_lt, Bool, true, false, if◌then◌else◌, arith}
use Rattle.amh_host.specs.declared.place.Place.{Place}
use Rattle.py_tree.specs.declared.expr.Operator.{Operator}
use Rattle.py_tree.specs.Programs.{steps_of}
use Rattle.py_tree.specs.Tree.{Tree, Name, Number, Decimal_time, Quotient, Str, Format, Constant_value, Tuple, Display, Dict, ListOf, DictOf, Trailed, Await, Power, Unary, Not, Binary, Compare, Boolean, Choice, Links, no_link, link, Trailers, no_trailer, trailer, Trailer, Attribute, Call, CallOf, Index, Slice}
use Rattle.py_heap.specs.Heaps.{Made, Seen, seen, row_at}
use Rattle.py_heap.specs.Objects.{attributes, attribute_in}
use Rattle.py_builtins.specs.Builtins.{builtin}
use Rattle.py_operators.specs.Operators.{operate}
use Rattle.py_values.specs.Runs.{Run, free}
use Rattle.py_builtins.specs.At_once.{integers_give, integers_operated, item_at}
use Rattle.py_builtins.proofs.AtOnceLaws.{AreIntegers, integers_are, integers_free, item_at_free}
use Rattle.py_values.specs.declared.op.PyOp.{PyOp}
use Rattle.py_values.specs.declared.op.PyOp.TheVariants as op
use Rattle.py_values.specs.declared.op.Builtin.TheVariants as builtins
use Rattle.py_values.specs.declared.val.Val.{Val}
use Rattle.py_values.specs.declared.val.Val.TheVariants as val
use Rattle.py_values.specs.declared.val.ObjId.{ObjId}
use Rattle.py_values.specs.declared.val.ValueStop.{ValueStop}
use Rattle.py_frames.specs.declared.leaf.Priced.{Priced}
use Rattle.py_frames.specs.declared.request.Act.TheVariants as act
use Rattle.py_frames.specs.declared.request.Cause.TheVariants as cause
use Rattle.py_frames.specs.declared.state.State.{State}
use Rattle.py_frames.specs.declared.state.Halt.{Halt}
use Rattle.py_frames.specs.declared.state.Halt.TheVariants.{Asks, Stopped, NoMemory}
use Rattle.py_frames.specs.declared.state.Got.{Got}
use Rattle.py_frames.specs.declared.state.Got.TheVariants.{Value}
use Rattle.py_frames.specs.declared.frame.Now.{Now}
use Rattle.py_frames.specs.declared.frame.Now.TheVariants.{Came}
use Rattle.py_frames.specs.declared.frame.Frame.{Frame}
use Rattle.py_frames.specs.declared.frame.Purpose.{Purpose}
use Rattle.py_frames.specs.declared.frame.Purpose.TheVariants.{Plain}
use Rattle.py_frames.specs.declared.functions.Functions.{Functions}
use Rattle.py_frames.specs.declared.going.Going.{Going}
use Rattle.py_frames.specs.Statements.{known}
use Rattle.py_frames.specs.Doing.{World, Outcome, Done, Halts, Doing, Known, after, on_value, ◌>>=◌, give, spend_each, heap_seen, choose, charged, then_do}
use Rattle.py_frames.specs.Asking.{request, ask}
use Rattle.py_frames.specs.Parts.{place_of, operator_of}
use Rattle.py_frames.specs.Values.{is_thing, sign_of, asks_operator, operated, related, indexed, attribute, attribute_in_rounds, of_object, on_through}
use Rattle.py_frames.specs.Asking.{most}
use Rattle.py_frames.specs.Expressions.{value_of, linked, compared, trailed, trailed_one}
use Rattle.py_frames.specs.Begun.{cost_of, value_after}
use Rattle.py_frames.specs.Leaves.{leaf_value, at_cost, of_one, of_both, joined, item_of, own_attribute, attribute_of, if_last_link, if_last_trailer, at_once, link_at_once, trailers_at_once, trailer_at_once}
use Rattle.py_frames.specs.Frames.{GoesOn, KeepsRoom, finish, stops_as, goes_on, within}
use Rattle.py_frames.proofs.BeginLaws.{value_of-begun, pushed}
use Rattle.py_frames.proofs.ExprLaws.{is_less}
use Rattle.py_turns.proofs.LeafLaws.{leaf_cost, leaf_after}

-- a leaf is there at once for one unit
pub leaf_at_once : (heap : Seen) (scope : ℕ) (t : Tree) (x : Priced) → Some x ≡ at_cost 1 (leaf_value heap scope t) → Some x ≡ at_once heap scope t
leaf_at_once heap scope (Name p n) x e = e
leaf_at_once heap scope (Number p n) x e = e
leaf_at_once heap scope (Decimal_time p d) x e = e
leaf_at_once heap scope (Quotient p n a) x e = e
leaf_at_once heap scope (Str p s) x e = e
leaf_at_once heap scope (Format p s) x e = e
leaf_at_once heap scope (Constant_value p c) x e = e
leaf_at_once heap scope (Tuple p ts) x e = e
leaf_at_once heap scope (Display p ts) x e = e
leaf_at_once heap scope (Dict p ps) x e = e
leaf_at_once heap scope (ListOf p a c) x e = e
leaf_at_once heap scope (DictOf p a b c) x e = e
leaf_at_once heap scope (Trailed p a ts) x e = cc
leaf_at_once heap scope (Await p a) x e = e
leaf_at_once heap scope (Power p a b) x e = e
leaf_at_once heap scope (Unary p o a) x e = e
leaf_at_once heap scope (Not p a) x e = e
leaf_at_once heap scope (Binary p a ls) x e = cc
leaf_at_once heap scope (Compare p a ls) x e = cc
leaf_at_once heap scope (Boolean p a ls) x e = e
leaf_at_once heap scope (Choice p a b c) x e = e

-- ---- one step after the other

-- where there are units enough
enough : (a b : ℕ) (x y : Outcome) → a < b → (if nat_lt a b then x else y) ≡ x
enough a b x y h = ap (λ (z : Bool). if z then x else y) (is_less a b h)

-- a value that has come goes on
came_on : (m : Doing) (f : Val → Doing) (w : World) (s t : State) (v : Val) → m w s ≡ Done (Value v) t → (m >>= f) w s ≡ f v w t
came_on m f w s t v e = ap (λ (o : Outcome). after o (λ got. on_value got f w)) e

-- ---- operators

asks_none : (o : PyOp) (m n : ℤ) → asks_operator o (val.Int m) (val.Int n) ≡ false
asks_none op.Add m n = refl
asks_none op.Sub m n = refl
asks_none op.Mul m n = refl
asks_none op.FloorDiv m n = refl
asks_none op.Rem m n = refl
asks_none op.Pow m n = refl
asks_none op.Shl m n = refl
asks_none op.Shr m n = refl
asks_none op.And m n = refl
asks_none op.Or m n = refl
asks_none op.Xor m n = refl
asks_none op.Neg m n = refl
asks_none op.Pos m n = refl
asks_none op.Invert m n = refl
asks_none op.Not m n = refl
asks_none op.Eq m n = refl
asks_none op.Ne m n = refl
asks_none op.Lt m n = refl
asks_none op.Le m n = refl
asks_none op.Gt m n = refl
asks_none op.Ge m n = refl
asks_none op.In m n = refl
asks_none op.NotIn m n = refl
asks_none op.Is m n = refl
asks_none op.IsNot m n = refl

-- what costs nothing and changes nothing
free_charged : (r : Run (Val × Made)) (v : Val) (p : Place) (w : World) (s : State) → r ≡ free (Ok (v, s.heap)) → s.used < w.budget → charged r p give w s ≡ Done (Value v) s
free_charged r v p w s e h =
    let zero_more : s.used + 0 ≡ s.used = omega arith in
    ap (λ (z : Run (Val × Made)). charged z p give w s) e
    ∙ (enough (s.used + 0) w.budget (Done (Value v) (record s { used = s.used + 0 })) (Halts (Stopped (record { cause = cause.Spent; place = p })) (record s { used = w.budget })) (omega arith)
    ∙ ap (λ (u : ℕ). Done (Value v) (record s { used = u })) zero_more)

integers_done : (k : Known) (o : PyOp) (m n : ℤ) (v : Val) (p : Place) (w : World) (s : State) → Some v ≡ integers_give o m n → s.used < w.budget → operated k o (val.Int m) (val.Int n) p w s ≡ Done (Value v) s
integers_done k o m n v p w s e h =
    ap (λ (b : Bool). choose b (ask k (request act.Operator (val.Int m ∷ val.Int n ∷ []) (sign_of o ∷ []) p)) (λ w2 s2. charged (operate k.frozen s2.heap o (val.Int m) (val.Int n)) p give w2 s2) w s) (asks_none o m n)
    ∙ free_charged (operate k.frozen s.heap o (val.Int m) (val.Int n)) v p w s (integers_free k.frozen s.heap o m n v e) h

operated_done : (k : Known) (o : PyOp) (a b v : Val) (p : Place) (w : World) (s : State) → Some v ≡ integers_operated o a b → s.used < w.budget → operated k o a b p w s ≡ Done (Value v) s
operated_done k o a b v p w s e h =
    let r = integers_are o a b v e in
    (λ i. operated k o (r.left i) (r.right i) p w s) ∙ integers_done k o r.m r.n v p w s r.gives h

-- no list stands among integers
related_integers : (k : Known) (o : PyOp) (m n : ℤ) (v : Val) (p : Place) → Some v ≡ integers_give o m n → related k o (val.Int m) (val.Int n) p ≡ operated k o (val.Int m) (val.Int n) p
related_integers k op.Add m n v p e = refl
related_integers k op.Sub m n v p e = refl
related_integers k op.Mul m n v p e = refl
related_integers k op.FloorDiv m n v p e = refl
related_integers k op.Rem m n v p e = refl
related_integers k op.Pow m n v p e = refl
related_integers k op.Shl m n v p e = refl
related_integers k op.Shr m n v p e = refl
related_integers k op.And m n v p e = refl
related_integers k op.Or m n v p e = refl
related_integers k op.Xor m n v p e = refl
related_integers k op.Neg m n v p e = refl
related_integers k op.Pos m n v p e = refl
related_integers k op.Invert m n v p e = refl
related_integers k op.Not m n v p e = refl
related_integers k op.Eq m n v p e = refl
related_integers k op.Ne m n v p e = refl
related_integers k op.Lt m n v p e = refl
related_integers k op.Le m n v p e = refl
related_integers k op.Gt m n v p e = refl
related_integers k op.Ge m n v p e = refl
related_integers k op.In m n v p e = cc
related_integers k op.NotIn m n v p e = cc
related_integers k op.Is m n v p e = refl
related_integers k op.IsNot m n v p e = refl

related_done : (k : Known) (o : PyOp) (a b v : Val) (p : Place) (w : World) (s : State) → Some v ≡ integers_operated o a b → s.used < w.budget → related k o a b p w s ≡ Done (Value v) s
related_done k o a b v p w s e h =
    let r = integers_are o a b v e in
    (λ i. related k o (r.left i) (r.right i) p w s) ∙ (ap (λ (d : Doing). d w s) (related_integers k o r.m r.n v p r.gives) ∙ integers_done k o r.m r.n v p w s r.gives h)

-- ---- attributes and items

object_done : (n : ℕ) (k : Known) (o : ObjId) (name : List ℕ) (v : Val) (p : Place) (w : World) (s : State) → 0 < n → Some v ≡ own_attribute (heap_seen k s) name (val.Object o) → attribute_in_rounds n k (val.Object o) name p w s ≡ Done (Value v) s
unfolding attribute_in_rounds
object_done zero k o name v p w s h e = absurd (omega arith)
object_done (suc n) k o name v p w s h e =
    ap (λ (z : Option Val). of_object k (λ y. then_do (ask k (request act.Attribute (y ∷ []) (name ∷ []) p)) (λ got. on_through got (λ u. attribute_in_rounds n k u name p))) o z name p w s) (sym e)

attribute_done : (k : Known) (a : Val) (name : List ℕ) (v : Val) (p : Place) (w : World) (s : State) → Some v ≡ own_attribute (heap_seen k s) name a → attribute k a name p w s ≡ Done (Value v) s
attribute_done k val.None name v p w s e = cc
attribute_done k (val.Bool x) name v p w s e = cc
attribute_done k (val.Int x) name v p w s e = cc
attribute_done k (val.Str x) name v p w s e = cc
attribute_done k (val.Time x) name v p w s e = cc
attribute_done k (val.List x) name v p w s e = cc
attribute_done k (val.Tuple x) name v p w s e = cc
attribute_done k (val.Dict x) name v p w s e = cc
attribute_done k (val.Range x) name v p w s e = cc
attribute_done k (val.Func x) name v p w s e = cc
attribute_done k (val.Class x) name v p w s e = cc
attribute_done k (val.Object o) name v p w s e = object_done most k o name v p w s (omega arith) e
attribute_done k (val.Hw x) name v p w s e = cc

item_no_thing : (heap : Seen) (a i v : Val) → Some v ≡ item_at heap a i → is_thing a ≡ false
item_no_thing heap val.None i v e = refl
item_no_thing heap (val.Bool x) i v e = refl
item_no_thing heap (val.Int x) i v e = refl
item_no_thing heap (val.Str x) i v e = refl
item_no_thing heap (val.Time x) i v e = refl
item_no_thing heap (val.List x) i v e = refl
item_no_thing heap (val.Tuple x) i v e = refl
item_no_thing heap (val.Dict x) i v e = refl
item_no_thing heap (val.Range x) i v e = refl
item_no_thing heap (val.Func x) i v e = refl
item_no_thing heap (val.Class x) i v e = refl
item_no_thing heap (val.Object x) i v e = refl
item_no_thing heap (val.Hw x) i v e = cc

item_done : (k : Known) (a i v : Val) (p : Place) (w : World) (s : State) → Some v ≡ item_at (heap_seen k s) a i → s.used < w.budget → indexed k a i p w s ≡ Done (Value v) s
item_done k a i v p w s e h =
    ap (λ (b : Bool). choose b (ask k (request act.Index (a ∷ i ∷ []) [] p)) (λ w2 s2. charged (free (builtin k.frozen s2.heap builtins.Index (a ∷ i ∷ []))) p give w2 s2) w s) (item_no_thing (heap_seen k s) a i v e)
    ∙ free_charged (free (builtin k.frozen s.heap builtins.Index (a ∷ i ∷ []))) v p w s (ap (λ (z : Result (Val × Made) ValueStop). free z) (item_at_free k.frozen s.heap a i v e)) h

-- ---- parts

-- a part comes to this value, at this cost
abbrev ComesTo : Known → Purpose → World → Tree → Priced → State → Type 0
ComesTo k u w t x s = value_of k u t w s ≡ Done (Value x.val) (record s { used = s.used + x.cost })

-- what was priced
abbrev IsPriced : Priced → ℕ → Val → Type 0
IsPriced x n v = x ≡ record { val = v; cost = n }

-- a part that is there, and the value that is priced
pub record At (n : ℕ) (o : Option Val) (x : Priced) : Type 0 where
  pub v : Val
  pub there : Some v ≡ o
  pub is : IsPriced x n v

at : (n : ℕ) (o : Option Val) (x : Priced) → Some x ≡ at_cost n o → At n o x
at n None x e = cc
at n (Some v) x e = record { v = v; there = refl; is = cc }

-- what the value of a leaf is for does not matter
after_plain : (k : Known) (u : Purpose) (w : World) (s : State) (t : Tree) (v : Val) → Some v ≡ leaf_value (heap_seen k s) s.here.scope.0 t → value_after k u t w s ≡ value_after k Plain t w s
after_plain k u w s (Name p n) v e = refl
after_plain k u w s (Number p n) v e = refl
after_plain k u w s (Decimal_time p d) v e = cc
after_plain k u w s (Quotient p n a) v e = cc
after_plain k u w s (Str p g) v e = cc
after_plain k u w s (Format p g) v e = cc
after_plain k u w s (Constant_value p c) v e = refl
after_plain k u w s (Tuple p ts) v e = cc
after_plain k u w s (Display p ts) v e = cc
after_plain k u w s (Dict p ps) v e = cc
after_plain k u w s (ListOf p a c) v e = cc
after_plain k u w s (DictOf p a b c) v e = cc
after_plain k u w s (Trailed p a ts) v e = cc
after_plain k u w s (Await p a) v e = cc
after_plain k u w s (Power p a b) v e = cc
after_plain k u w s (Unary p o a) v e = cc
after_plain k u w s (Not p a) v e = cc
after_plain k u w s (Binary p a ls) v e = cc
after_plain k u w s (Compare p a ls) v e = cc
after_plain k u w s (Boolean p a ls) v e = cc
after_plain k u w s (Choice p a b c) v e = cc

leaf_comes : (k : Known) (u : Purpose) (w : World) (t : Tree) (x : Priced) (s : State) → Some x ≡ at_cost 1 (leaf_value (heap_seen k s) s.here.scope.0 t) → s.used + x.cost < w.budget → ComesTo k u w t x s
leaf_comes k u w t x s e h =
    let r = at 1 (leaf_value (heap_seen k s) s.here.scope.0 t) x e in
    let P : Priced → Type 0 = λ y. s.used + y.cost < w.budget → ComesTo k u w t y s in
    subst P (sym r.is) (λ g.
    ap (λ (d : Doing). d w s) (value_of-begun k u t)
    ∙ (ap (λ (n : ℕ). spend_each n (place_of t) (value_after k u t) w s) (sym (leaf_cost (heap_seen k s) s.here.scope.0 t r.v r.there))
    ∙ (enough (s.used + 1) w.budget (value_after k u t w (record s { used = s.used + 1 })) (Halts (Stopped (record { cause = cause.Spent; place = place_of t })) (record s { used = w.budget })) g
    ∙ (after_plain k u w (record s { used = s.used + 1 }) t r.v r.there
    ∙ sym (leaf_after k w (record s { used = s.used + 1 }) t r.v r.there))))) h

-- two parts that are there, and what both are made into
pub record Both (f : Priced → Priced → Option Priced) (a b : Option Priced) (x : Priced) : Type 0 where
  pub left : Priced
  pub right : Priced
  pub left_there : Some left ≡ a
  pub right_there : Some right ≡ b
  pub made : Some x ≡ f left right

both : (f : Priced → Priced → Option Priced) (a b : Option Priced) (x : Priced) → Some x ≡ of_both f a b → Both f a b x
both f None b x e = cc
both f (Some a) None x e = cc
both f (Some a) (Some b) x e = record { left = a; right = b; left_there = refl; right_there = refl; made = e }

pub record One (f : Priced → Option Priced) (a : Option Priced) (x : Priced) : Type 0 where
  pub part : Priced
  pub there : Some part ≡ a
  pub made : Some x ≡ f part

one : (f : Priced → Option Priced) (a : Option Priced) (x : Priced) → Some x ≡ of_one f a → One f a x
one f None x e = cc
one f (Some a) x e = record { part = a; there = refl; made = e }

abbrev spent : State → ℕ → State
spent s n = record s { used = s.used + n }

settle : (k : Known) (u : Purpose) (w : World) (t : Tree) (s : State) (v : Val) (n m : ℕ) (x : Priced) → IsPriced x n v → m ≡ s.used + n → value_of k u t w s ≡ Done (Value v) (record s { used = m }) → ComesTo k u w t x s
settle k u w t s v n m x q c e =
    let P : Priced → Type 0 = λ y. ComesTo k u w t y s in
    subst P (sym q) (e ∙ ap (λ (u : ℕ). Done (Value v) (record s { used = u })) c)

abbrev short : World → State → Place → Outcome
short w s p = Halts (Stopped (record { cause = cause.Spent; place = p })) (record s { used = w.budget })

binary_steps : (k : Known) (z : Purpose) (w : World) (p : Place) (t u : Tree) (o : Operator) (s : State) (a b : Priced) (v : Val) → s.used + 1 < w.budget → ComesTo k Plain w t a (spent s 1) → ComesTo k Plain w u b (spent (spent s 1) a.cost) → operated k (operator_of o) a.val b.val p w (spent (spent (spent s 1) a.cost) b.cost) ≡ Done (Value v) (spent (spent (spent s 1) a.cost) b.cost) → value_of k z (Binary p t (link o u no_link)) w s ≡ Done (Value v) (spent (spent (spent s 1) a.cost) b.cost)
binary_steps k z w p t u o s a b v h e1 e2 e3 =
    enough (s.used + 1) w.budget ((value_of k Plain t >>= linked k p (link o u no_link)) w (spent s 1)) (short w s p) h
    ∙ (came_on (value_of k Plain t) (linked k p (link o u no_link)) w (spent s 1) (spent (spent s 1) a.cost) a.val e1
    ∙ (came_on (value_of k Plain u) (λ y. operated k (operator_of o) a.val y p >>= linked k p no_link) w (spent (spent s 1) a.cost) (spent (spent (spent s 1) a.cost) b.cost) b.val e2
    ∙ came_on (operated k (operator_of o) a.val b.val p) (linked k p no_link) w (spent (spent (spent s 1) a.cost) b.cost) (spent (spent (spent s 1) a.cost) b.cost) v e3))

compare_steps : (k : Known) (z : Purpose) (w : World) (p : Place) (t u : Tree) (o : Operator) (s : State) (a b : Priced) (v : Val) → s.used + 1 < w.budget → ComesTo k Plain w t a (spent s 1) → ComesTo k Plain w u b (spent (spent s 1) a.cost) → related k (operator_of o) a.val b.val p w (spent (spent (spent s 1) a.cost) b.cost) ≡ Done (Value v) (spent (spent (spent s 1) a.cost) b.cost) → value_of k z (Compare p t (link o u no_link)) w s ≡ Done (Value v) (spent (spent (spent s 1) a.cost) b.cost)
compare_steps k z w p t u o s a b v h e1 e2 e3 =
    enough (s.used + 1) w.budget ((value_of k Plain t >>= compared k p (link o u no_link)) w (spent s 1)) (short w s p) h
    ∙ (came_on (value_of k Plain t) (compared k p (link o u no_link)) w (spent s 1) (spent (spent s 1) a.cost) a.val e1
    ∙ (came_on (value_of k Plain u) (λ y. related k (operator_of o) a.val y p >>= give) w (spent (spent s 1) a.cost) (spent (spent (spent s 1) a.cost) b.cost) b.val e2
    ∙ came_on (related k (operator_of o) a.val b.val p) give w (spent (spent (spent s 1) a.cost) b.cost) (spent (spent (spent s 1) a.cost) b.cost) v e3))

item_steps : (k : Known) (z : Purpose) (w : World) (p : Place) (t u : Tree) (s : State) (a b : Priced) (v : Val) → s.used + 1 < w.budget → ComesTo k Plain w t a (spent s 1) → ComesTo k Plain w u b (spent (spent s 1) a.cost) → indexed k a.val b.val p w (spent (spent (spent s 1) a.cost) b.cost) ≡ Done (Value v) (spent (spent (spent s 1) a.cost) b.cost) → value_of k z (Trailed p t (trailer (Index u) no_trailer)) w s ≡ Done (Value v) (spent (spent (spent s 1) a.cost) b.cost)
item_steps k z w p t u s a b v h e1 e2 e3 =
    let here : (trailed_one k z p (Index u) a.val) w (spent (spent s 1) a.cost) ≡ Done (Value v) (spent (spent (spent s 1) a.cost) b.cost) =
    came_on (value_of k Plain u) (λ i. indexed k a.val i p) w (spent (spent s 1) a.cost) (spent (spent (spent s 1) a.cost) b.cost) b.val e2 ∙ e3 in
    enough (s.used + 1) w.budget ((value_of k Plain t >>= trailed k z p (trailer (Index u) no_trailer)) w (spent s 1)) (short w s p) h
    ∙ (came_on (value_of k Plain t) (trailed k z p (trailer (Index u) no_trailer)) w (spent s 1) (spent (spent s 1) a.cost) a.val e1
    ∙ came_on (trailed_one k z p (Index u) a.val) (trailed k z p no_trailer) w (spent (spent s 1) a.cost) (spent (spent (spent s 1) a.cost) b.cost) v here)

attribute_steps : (k : Known) (z : Purpose) (w : World) (p : Place) (t : Tree) (n : List ℕ) (s : State) (a : Priced) (v : Val) → s.used + 1 < w.budget → ComesTo k Plain w t a (spent s 1) → attribute k a.val n p w (spent (spent s 1) a.cost) ≡ Done (Value v) (spent (spent s 1) a.cost) → value_of k z (Trailed p t (trailer (Attribute n) no_trailer)) w s ≡ Done (Value v) (spent (spent s 1) a.cost)
attribute_steps k z w p t n s a v h e1 e2 =
    enough (s.used + 1) w.budget ((value_of k Plain t >>= trailed k z p (trailer (Attribute n) no_trailer)) w (spent s 1)) (short w s p) h
    ∙ (came_on (value_of k Plain t) (trailed k z p (trailer (Attribute n) no_trailer)) w (spent s 1) (spent (spent s 1) a.cost) a.val e1
    ∙ came_on (attribute k a.val n p) (trailed k z p no_trailer) w (spent (spent s 1) a.cost) (spent (spent s 1) a.cost) v e2)

part_comes : (k : Known) (z : Purpose) (w : World) (t : Tree) (x : Priced) (s : State) → Some x ≡ at_once (heap_seen k s) s.here.scope.0 t → s.used + x.cost < w.budget → ComesTo k z w t x s
part_comes k z w (Name p n) x s e h = leaf_comes k z w (Name p n) x s e h
part_comes k z w (Number p n) x s e h = leaf_comes k z w (Number p n) x s e h
part_comes k z w (Decimal_time p d) x s e h = leaf_comes k z w (Decimal_time p d) x s e h
part_comes k z w (Quotient p n a) x s e h = leaf_comes k z w (Quotient p n a) x s e h
part_comes k z w (Str p g) x s e h = leaf_comes k z w (Str p g) x s e h
part_comes k z w (Format p g) x s e h = leaf_comes k z w (Format p g) x s e h
part_comes k z w (Constant_value p c) x s e h = leaf_comes k z w (Constant_value p c) x s e h
part_comes k z w (Tuple p ts) x s e h = leaf_comes k z w (Tuple p ts) x s e h
part_comes k z w (Display p ts) x s e h = leaf_comes k z w (Display p ts) x s e h
part_comes k z w (Dict p ps) x s e h = leaf_comes k z w (Dict p ps) x s e h
part_comes k z w (ListOf p a c) x s e h = leaf_comes k z w (ListOf p a c) x s e h
part_comes k z w (DictOf p a b c) x s e h = leaf_comes k z w (DictOf p a b c) x s e h
part_comes k z w (Await p a) x s e h = leaf_comes k z w (Await p a) x s e h
part_comes k z w (Power p a b) x s e h = leaf_comes k z w (Power p a b) x s e h
part_comes k z w (Unary p o a) x s e h = leaf_comes k z w (Unary p o a) x s e h
part_comes k z w (Not p a) x s e h = leaf_comes k z w (Not p a) x s e h
part_comes k z w (Boolean p a ls) x s e h = leaf_comes k z w (Boolean p a ls) x s e h
part_comes k z w (Choice p a b c) x s e h = leaf_comes k z w (Choice p a b c) x s e h
part_comes k z w (Binary p t no_link) x s e h = cc
part_comes k z w (Binary p t (link o u (link q v ls))) x s e h = cc
part_comes k z w (Binary p t (link o u no_link)) x s e h =
    let r = both (joined o) (at_once (heap_seen k s) s.here.scope.0 t) (at_once (heap_seen k s) s.here.scope.0 u) x e in
    let q = at (1 + r.left.cost + r.right.cost) (integers_operated (operator_of o) r.left.val r.right.val) x r.made in
    let c : x.cost ≡ 1 + r.left.cost + r.right.cost = ap (λ (y : Priced). y.cost) q.is in
    let e1 : ComesTo k Plain w t r.left (spent s 1) = part_comes k Plain w t r.left (spent s 1) r.left_there (omega arith) in
    let e2 : ComesTo k Plain w u r.right (spent (spent s 1) r.left.cost) = part_comes k Plain w u r.right (spent (spent s 1) r.left.cost) r.right_there (omega arith) in
    let e3 = operated_done k (operator_of o) r.left.val r.right.val q.v p w (spent (spent (spent s 1) r.left.cost) r.right.cost) q.there (omega arith) in
    settle k z w (Binary p t (link o u no_link)) s q.v (1 + r.left.cost + r.right.cost) (s.used + 1 + r.left.cost + r.right.cost) x q.is (omega arith) (binary_steps k z w p t u o s r.left r.right q.v (omega arith) e1 e2 e3)
part_comes k z w (Compare p t no_link) x s e h = cc
part_comes k z w (Compare p t (link o u (link q v ls))) x s e h = cc
part_comes k z w (Compare p t (link o u no_link)) x s e h =
    let r = both (joined o) (at_once (heap_seen k s) s.here.scope.0 t) (at_once (heap_seen k s) s.here.scope.0 u) x e in
    let q = at (1 + r.left.cost + r.right.cost) (integers_operated (operator_of o) r.left.val r.right.val) x r.made in
    let c : x.cost ≡ 1 + r.left.cost + r.right.cost = ap (λ (y : Priced). y.cost) q.is in
    let e1 : ComesTo k Plain w t r.left (spent s 1) = part_comes k Plain w t r.left (spent s 1) r.left_there (omega arith) in
    let e2 : ComesTo k Plain w u r.right (spent (spent s 1) r.left.cost) = part_comes k Plain w u r.right (spent (spent s 1) r.left.cost) r.right_there (omega arith) in
    let e3 = related_done k (operator_of o) r.left.val r.right.val q.v p w (spent (spent (spent s 1) r.left.cost) r.right.cost) q.there (omega arith) in
    settle k z w (Compare p t (link o u no_link)) s q.v (1 + r.left.cost + r.right.cost) (s.used + 1 + r.left.cost + r.right.cost) x q.is (omega arith) (compare_steps k z w p t u o s r.left r.right q.v (omega arith) e1 e2 e3)
part_comes k z w (Trailed p t no_trailer) x s e h = cc
part_comes k z w (Trailed p t (trailer g (trailer f ts))) x s e h = cc
part_comes k z w (Trailed p t (trailer (Call gs) no_trailer)) x s e h = cc
part_comes k z w (Trailed p t (trailer (CallOf a c) no_trailer)) x s e h = cc
part_comes k z w (Trailed p t (trailer (Slice a b c) no_trailer)) x s e h = cc
part_comes k z w (Trailed p t (trailer (Attribute n) no_trailer)) x s e h =
    let r = one (attribute_of (heap_seen k s) n) (at_once (heap_seen k s) s.here.scope.0 t) x e in
    let q = at (1 + r.part.cost) (own_attribute (heap_seen k s) n r.part.val) x r.made in
    let c : x.cost ≡ 1 + r.part.cost = ap (λ (y : Priced). y.cost) q.is in
    let e1 : ComesTo k Plain w t r.part (spent s 1) = part_comes k Plain w t r.part (spent s 1) r.there (omega arith) in
    let e2 = attribute_done k r.part.val n q.v p w (spent (spent s 1) r.part.cost) q.there in
    settle k z w (Trailed p t (trailer (Attribute n) no_trailer)) s q.v (1 + r.part.cost) (s.used + 1 + r.part.cost) x q.is (omega arith) (attribute_steps k z w p t n s r.part q.v (omega arith) e1 e2)
part_comes k z w (Trailed p t (trailer (Index u) no_trailer)) x s e h =
    let r = both (item_of (heap_seen k s)) (at_once (heap_seen k s) s.here.scope.0 t) (at_once (heap_seen k s) s.here.scope.0 u) x e in
    let q = at (1 + r.left.cost + r.right.cost) (item_at (heap_seen k s) r.left.val r.right.val) x r.made in
    let c : x.cost ≡ 1 + r.left.cost + r.right.cost = ap (λ (y : Priced). y.cost) q.is in
    let e1 : ComesTo k Plain w t r.left (spent s 1) = part_comes k Plain w t r.left (spent s 1) r.left_there (omega arith) in
    let e2 : ComesTo k Plain w u r.right (spent (spent s 1) r.left.cost) = part_comes k Plain w u r.right (spent (spent s 1) r.left.cost) r.right_there (omega arith) in
    let e3 = item_done k r.left.val r.right.val q.v p w (spent (spent (spent s 1) r.left.cost) r.right.cost) q.there (omega arith) in
    settle k z w (Trailed p t (trailer (Index u) no_trailer)) s q.v (1 + r.left.cost + r.right.cost) (s.used + 1 + r.left.cost + r.right.cost) x q.is (omega arith) (item_steps k z w p t u s r.left r.right q.v (omega arith) e1 e2 e3)

-- ---- what a turn owes

-- a part that is there at once spends its units, and what waits for it goes on with its value
pub at_once_then : (fns : Functions) (frozen : Made) (r : Result Now Halt) (x y : Going) (budget : ℕ) (z : Purpose) (t : Tree) (a : Priced) (m : Known → Got → Doing) → Some a ≡ at_once (seen frozen x.state.heap) x.state.here.scope.0 t → x.state.used + a.cost < budget → x.state.used + a.cost ≤ y.state.used → GoesOn fns frozen r (record x { state = record x.state { used = x.state.used + a.cost } }) y budget (λ k. m k (Value a.val)) → GoesOn fns frozen r x y budget (λ k. then_do (value_of k z t) (m k))
unfolding GoesOn
at_once_then fns frozen (Ok now) x y budget z t a m e b g h = λ w q.
    let k : Known = known (steps_of fns.program) frozen x.state.here.room in
    ap (λ (o : Outcome). finish (steps_of fns.program) frozen x.state.here.room x.frames w (after o (λ got. m k got w))) (part_comes k z w t a x.state e (omega arith)) ∙ h w q
at_once_then fns frozen (Err (Stopped stop)) x y budget z t a m e b g h = λ w q.
    let k : Known = known (steps_of fns.program) frozen x.state.here.room in
    ap (λ (o : Outcome). stops_as (finish (steps_of fns.program) frozen x.state.here.room x.frames w (after o (λ got. m k got w)))) (part_comes k z w t a x.state e (omega arith)) ∙ h w q
at_once_then fns frozen (Err (Asks r)) x y budget z t a m e b g h = h
at_once_then fns frozen (Err NoMemory) x y budget z t a m e b g h = tt

pub at_once_goes : (fns : Functions) (frozen : Made) (r : Result Now Halt) (x y : Going) (budget : ℕ) (z : Purpose) (t : Tree) (a : Priced) (m : Known → Val → Doing) → Some a ≡ at_once (seen frozen x.state.heap) x.state.here.scope.0 t → x.state.used + a.cost < budget → x.state.used + a.cost ≤ y.state.used → GoesOn fns frozen r (record x { state = record x.state { used = x.state.used + a.cost } }) y budget (λ k. m k a.val) → GoesOn fns frozen r x y budget (λ k. value_of k z t >>= m k)
at_once_goes fns frozen r x y budget z t a m e b g h = at_once_then fns frozen r x y budget z t a (λ k got. on_value got (m k)) e b g h

pub at_once_within : (fns : Functions) (frozen : Made) (r : Result Now Halt) (x y : Going) (budget : ℕ) (z : Purpose) (t : Tree) (a : Priced) (f : Frame) → Some a ≡ at_once (seen frozen x.state.heap) x.state.here.scope.0 t → x.state.used + a.cost < budget → x.state.used + a.cost ≤ y.state.used → GoesOn fns frozen r (record x { state = record x.state { used = x.state.used + a.cost } }) y budget (λ k. goes_on k f (Value a.val)) → GoesOn fns frozen r x y budget (within f (λ k. value_of k z t))
at_once_within fns frozen r x y budget z t a f e b g h = at_once_then fns frozen r x y budget z t a (λ k got. goes_on k f got) e b g h

gives : (fns : Functions) (frozen : Made) (x : Going) (budget : ℕ) (v : Val) → GoesOn fns frozen (Ok (Came (Value v))) x x budget (λ k. give v)
unfolding GoesOn
gives fns frozen x budget v = λ w q. refl

-- a frame waits for a part that has come already
pub at_once_comes : (fns : Functions) (frozen : Made) (x : Going) (budget : ℕ) (f : Frame) (fs : List Frame) (t : Tree) (a : Priced) → Some a ≡ at_once (seen frozen x.state.heap) x.state.here.scope.0 t → x.state.used + a.cost < budget → fs ≡ f ∷ x.frames → KeepsRoom f x.state.here.room → GoesOn fns frozen (Ok (Came (Value a.val))) x (record x { frames = fs; state = record x.state { used = x.state.used + a.cost } }) budget (within f (λ k. value_of k Plain t))
at_once_comes fns frozen x budget f fs t a e b q room =
    let spends : Going = record x { state = spent x.state a.cost } in
    let waits : Going = record spends { frames = f ∷ x.frames } in
    let F : List Frame → Type 0 = λ g. GoesOn fns frozen (Ok (Came (Value a.val))) x (record spends { frames = g }) budget (within f (λ k. value_of k Plain t)) in
    subst F (sym q) (at_once_within fns frozen (Ok (Came (Value a.val))) x waits budget Plain t a f e b (omega arith)
    (pushed fns frozen (Ok (Came (Value a.val))) spends waits budget f (λ k. give a.val) room (gives fns frozen waits budget a.val)))
