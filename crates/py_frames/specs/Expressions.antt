-- What an expression means. Each node spends its units where it begins, before its parts; a chain of operators or of
-- what trails a primary begins all its nodes at its first token.
-- Source: Python reference 6, Expressions, with 6.16, Evaluation order; units: own rule (docs/RULES.md).
use Rattle.std.specs.Prelude.{ℕ, zero, suc, ◌+◌, ◌-◌, Bool, true, false, if◌then◌else◌, List, [], ◌∷◌, ◌++◌, ◌==◌, length, pos, Option, Some, None, option_map, Result, Ok, Err}
use Rattle.amh_host.specs.declared.place.Place.{Place}
use Rattle.py_tree.specs.declared.name.Piece.{Piece}
use Rattle.py_tree.specs.declared.name.Piece.TheVariants as piece
use Rattle.py_tree.specs.declared.expr.Constant.{Constant}
use Rattle.py_tree.specs.declared.expr.Constant.TheVariants as constants
use Rattle.py_tree.specs.declared.expr.Operator.{Operator}
use Rattle.py_tree.specs.declared.expr.Operator.TheVariants as sign
use Rattle.py_tree.specs.Tree.{Tree, Name, Number, Decimal_time, Quotient, Str, Format, Constant_value, Tuple, Display, Dict, ListOf, DictOf, Trailed, Await, Power, Unary, Not, Binary, Compare, Boolean, Choice, Trees, none, some, Links, no_link, link, Pairs, no_pair, pair, Perhaps, absent, present, Each, each, Trailers, no_trailer, trailer, Trailer, Attribute, Call, CallOf, Index, Slice, Arguments, no_argument, argument, Argument, Positional, Starred, Keyword}
use Rattle.py_values.specs.declared.val.Val.{Val}
use Rattle.py_values.specs.declared.val.Val.TheVariants as val
use Rattle.py_values.specs.declared.val.ScopeId.{ScopeId}
use Rattle.py_values.specs.declared.op.PyOp.TheVariants as op
use Rattle.py_heap.specs.Heaps.{Seen, row_at}
use Rattle.py_heap.specs.Places.{new_text, new_tuple, new_list}
use Rattle.py_heap.specs.Names.{literal, new_scope, scope_at}
use Rattle.py_heap.specs.Dicts.{new_dict}
use Rattle.py_heap.specs.Members.{is_key}
use Rattle.py_builtins.specs.Scalars.{shown_text}
use Rattle.py_operators.specs.Elements.{elements, element, counts_to}
use Rattle.py_values.specs.declared.func.Scope.{Scope}
use Rattle.py_values.specs.declared.val.ValueStop.{ValueStop}
use Rattle.py_frames.specs.declared.request.Act.TheVariants as act
use Rattle.py_frames.specs.declared.request.NamedVal.{NamedVal}
use Rattle.py_frames.specs.declared.request.Cause.TheVariants.{Raised, Spent}
use Rattle.py_frames.specs.declared.state.Got.TheVariants.{Next}
use Rattle.py_frames.specs.declared.frame.Purpose.{Purpose}
use Rattle.py_frames.specs.declared.frame.Purpose.TheVariants.{Plain, Named, Awaited}
use Rattle.py_frames.specs.Doing.{Doing, Known, heap_seen, ◌>>=◌, and_then, came, give, stop, choose, with_value, spend, spend_each, making, cause_of}
use Rattle.py_frames.specs.Asking.{request, ask, most}
use Rattle.py_frames.specs.Own.{target_names}
use Rattle.py_frames.specs.Functions.{named_val, is_given}
use Rattle.py_frames.specs.Times.{decimal_time, divided_time}
use Rattle.py_frames.specs.Parts.{operator_of, prefix_of, place_of, tree_count, link_count, trailer_count}
use Rattle.py_frames.specs.Async.{is_async}
use Rattle.py_frames.specs.Values.{bind, read, truth_of, is_thing, operated, related, turned, attribute, store_attribute, indexed, sliced, store_index, called, as_row}

-- ---- leaves

abbrev pub constant_val : Constant → Val
constant_val constants.Nothing = val.None
constant_val constants.True = val.Bool true
constant_val constants.False = val.Bool false

abbrev pub text_literal : Known → List ℕ → Place → Doing
text_literal k text place = making (λ s. literal (heap_seen k s) text) place give

-- the pieces of a format string: text, and holes, each of which reads its name and shows an integer or a string
abbrev pub shown_hole : Option (List ℕ) → Place → (List ℕ → Doing) → Doing
shown_hole None place f = stop Raised place
shown_hole (Some text) place f = f text

abbrev pub pieces_shown : Known → List ℕ → List Piece → Place → Doing
pieces_shown k done [] place = making (λ s. new_text (heap_seen k s) done) place give
pieces_shown k done (piece.Text t ∷ ps) place = pieces_shown k (done ++ t) ps place
pieces_shown k done (piece.Hole n ∷ ps) place = spend place (do
  v ← read k n place
  λ w s. shown_hole (shown_text (heap_seen k s) v) place (λ t. pieces_shown k (done ++ t) ps place) w s)

-- ---- calls

-- what is awaited: a thing alone, whose end the store tells
abbrev pub awaited : Known → Val → Place → Doing
awaited k v place = choose (is_thing v) (ask k (request act.Await (v ∷ []) [] place)) (stop Raised place)

-- under `await` an `async` function runs, and what another call gives is awaited
abbrev pub call_awaited : Known → Place → Val → List Val → List NamedVal → Place → Doing
call_awaited k p f args keywords place = λ w s.
    choose (is_async k (heap_seen k s) f) (k.call f args keywords place)
    (do
      v ← called k [] f args keywords place
      awaited k v p) w s

-- an argument by keyword has come: where the call at p has one of its name already, it raises
abbrev pub once_named : List ℕ → List NamedVal → Place → Doing → Doing
once_named name keywords p m = choose (is_given name keywords) (stop Raised p) m

abbrev pub call_for : Known → Purpose → Val → List Val → List NamedVal → Place → Doing
call_for k Plain f args keywords place = called k [] f args keywords place
call_for k (Named name) f args keywords place = called k name f args keywords place
call_for k (Awaited p) f args keywords place = call_awaited k p f args keywords place

-- what the value is for belongs to the last of what trails
abbrev pub purpose_at : Trailers → Purpose → Purpose
purpose_at no_trailer purpose = purpose
purpose_at (trailer t ts) purpose = Plain

-- whether a call is the last of what trails
abbrev pub is_call : Trailer → Bool
is_call (Attribute n) = false
is_call (Call gs) = true
is_call (CallOf t c) = true
is_call (Index t) = false
is_call (Slice a b c) = false

abbrev pub last_is_call : Trailer → Trailers → Bool
last_is_call t no_trailer = is_call t
last_is_call t (trailer u us) = last_is_call u us

-- ---- elements

abbrev pub on_elements : Result (List Val) ValueStop → Place → (List Val → Doing) → Doing
on_elements (Ok vs) place f = f vs
on_elements (Err e) place f = stop (cause_of e) place

abbrev pub with_elements : Known → Val → Place → (List Val → Doing) → Doing
with_elements k v place f = λ w s. on_elements (elements (heap_seen k s) v) place f w s

-- ---- scopes

-- the scope that the functions and comprehensions of a body see: of a class body the one that encloses it
abbrev pub seen_of : Option Scope → ScopeId → Option ScopeId
seen_of None here = Some here
seen_of (Some scope) here = if scope.is_class then scope.enclosing else Some here

abbrev pub seen_from : Seen → ScopeId → Option ScopeId
seen_from s here = seen_of (scope_at s here.0) here

-- a new scope, in which what follows stands
abbrev pub in_scope : Known → List (List ℕ) → Place → Doing → Doing
in_scope k own place m = making (λ s. new_scope (heap_seen k s) (seen_from (heap_seen k s) s.here.scope) false own) place
    (λ scope w s. m w (record s { here = record s.here { scope = scope } }))

-- back in the scope of before
abbrev pub back_in : ScopeId → Doing → Doing
back_in scope m = λ w s. m w (record s { here = record s.here { scope = scope } })

-- ---- comprehensions: so many turns at most, each of which takes an element and spends a unit

-- what one may go over
abbrev pub is_row : Val → Bool
is_row (val.List o) = true
is_row (val.Tuple o) = true
is_row (val.Dict o) = true
is_row (val.Range o) = true
is_row v = false

abbrev pub if_row : Val → Place → Doing → Doing
if_row v place m = choose (is_row v) m (stop Raised place)

-- a dict that changes its size while it is gone over raises
abbrev pub row_size : Seen → Val → ℕ
row_size s (val.Dict o) = length (row_at s o.0)
row_size s v = 0

abbrev pub of_size : Known → Val → ℕ → Place → Doing → Doing
of_size k v size p m = λ w s. choose (row_size (heap_seen k s) v == size) m (stop Raised p) w s

-- what a turn does with an element: it goes on with what was made so far
abbrev pub Making : Type 0
Making = Val → List Val → (List Val → Doing) → Doing

abbrev pub on_element : Option Val → Doing → (Val → Doing) → Doing
on_element None end_of turn = end_of
on_element (Some x) end_of turn = turn x

unfoldable pub elements_made : ℕ → Known → Val → (i size : ℕ) → Place → Making → List Val → (List Val → Doing) → Doing
elements_made zero k v i size place turn done f = stop Spent place
elements_made (suc n) k v i size place turn done f = of_size k v size place (λ w s.
    on_element (element (heap_seen k s) v i) (f done)
    (λ x. spend place (turn x done (λ more. elements_made n k v (i + 1) size place turn more f))) w s)

-- over a value, in a scope of its own
abbrev pub made_over : Known → List (List ℕ) → Val → Place → Making → (List Val → Doing) → Doing
made_over k own v place turn f = if_row v place (λ w s.
    in_scope k own place (elements_made most k v 0 (row_size (heap_seen k s) v) place turn [] (λ done. back_in s.here.scope (f done))) w s)

-- one element more, or one key and its value
abbrev pub Element : Type 0
Element = List Val → (List Val → Doing) → Doing

abbrev pub one_more : Doing → Element
one_more m done more = do
  x ← m
  more (done ++ x ∷ [])

-- a key that may be none raises in its turn
abbrev pub pair_more : Place → List Val → Val → Val → (List Val → Doing) → Doing
pair_more p done x y more = choose (is_key x) (more (done ++ x ∷ y ∷ [])) (stop Raised p)

abbrev pub two_more : Place → Doing → Doing → Element
two_more p m n done more = do
  x ← m
  y ← n
  pair_more p done x y more

-- what the elements become
abbrev pub list_made : Known → Place → List Val → Doing
list_made k p vs = making (λ s. new_list (heap_seen k s) vs) p give

abbrev pub dict_made : Known → Place → List Val → Doing
dict_made k p row = making (λ s. new_dict (heap_seen k s) row) p give

-- ---- chains

-- `and` goes on where its left operand is true, and `or` where it is not
abbrev pub goes_on : Operator → Bool → Bool
goes_on sign.Or true = false
goes_on sign.Or false = true
goes_on o b = b

-- a comparison that is not the last one goes on where it holds
abbrev pub where_more : Links → Doing → Doing → Doing
where_more no_link m n = m
where_more (link o t ls) m n = n

abbrev pub where_last : Trailers → Doing → Doing → Doing
where_last no_trailer m n = m
where_last (trailer t ts) m n = n

-- whether a node is a call
abbrev pub ends_in_call : Trailers → Bool
ends_in_call no_trailer = false
ends_in_call (trailer t ts) = last_is_call t ts

abbrev pub is_a_call : Tree → Bool
is_a_call (Trailed p t ts) = ends_in_call ts
is_a_call t = false

-- ---- targets

-- so many values are there for so many targets
abbrev pub as_many : Known → ℕ → Val → Place → Doing → Doing
as_many k n v place m = λ w s. choose (counts_to (heap_seen k s) v n) m (stop Raised place) w s

-- ---- expressions and targets

abbrev mutual
  -- the value of an expression, which may be for an assignment or an `await`
  pub value_of : Known → Purpose → Tree → Doing
  value_of k u (Name p n) = spend p (read k n p)
  value_of k u (Number p n) = spend p (give (val.Int (pos n)))
  value_of k u (Decimal_time p d) = spend p (with_value (option_map val.Time (decimal_time d)) p give)
  value_of k u (Quotient p n a) = spend p (with_value (option_map val.Time (divided_time n a)) p give)
  value_of k u (Str p text) = spend p (text_literal k text p)
  value_of k u (Format p ps) = spend p (pieces_shown k [] ps p)
  value_of k u (Constant_value p c) = spend p (give (constant_val c))
  value_of k u (Tuple p ts) = spend p (values_then k [] ts (λ vs. making (λ s. new_tuple (heap_seen k s) vs) p give))
  value_of k u (Display p ts) = spend p (values_then k [] ts (list_made k p))
  value_of k u (Dict p ps) = spend p (pairs_then k [] ps (dict_made k p))
  value_of k u (ListOf p t c) = spend p (made_of k p c (one_more (value_of k Plain t)) (list_made k p))
  value_of k u (DictOf p a b c) = spend p (made_of k p c (two_more p (value_of k Plain a) (value_of k Plain b)) (dict_made k p))
  value_of k u (Trailed p t ts) = spend_each (trailer_count ts) p (do
    x ← value_of k Plain t
    trailed k u p ts x)
  value_of k u (Await p t) = spend p (choose (is_a_call t)
      (value_of k (Awaited p) t)
      (do
        x ← value_of k Plain t
        awaited k x p))
  value_of k u (Power p a b) = spend p (do
    x ← value_of k Plain a
    y ← value_of k Plain b
    operated k op.Pow x y p)
  value_of k u (Unary p o t) = spend p (do
    x ← value_of k Plain t
    turned k (prefix_of o) x p)
  value_of k u (Not p t) = spend p (do
    x ← value_of k Plain t
    turned k op.Not x p)
  value_of k u (Binary p t ls) = spend_each (link_count ls) p (do
    x ← value_of k Plain t
    linked k p ls x)
  value_of k u (Compare p t ls) = spend p (do
    x ← value_of k Plain t
    compared k p ls x)
  value_of k u (Boolean p t ls) = spend_each (link_count ls) p (do
    x ← value_of k Plain t
    joined k (place_of t) ls x)
  value_of k u (Choice p a t b) = spend p (do
    x ← value_of k Plain t
    truth_of k x (place_of t) (λ c. choose c (value_of k Plain a) (value_of k Plain b)))

  -- values one after the other, behind those that are there
  pub values_then : Known → List Val → Trees → (List Val → Doing) → Doing
  values_then k vs none f = f vs
  values_then k vs (some t ts) f = do
    v ← value_of k Plain t
    values_then k (vs ++ v ∷ []) ts f

  -- keys with their values
  pub pairs_then : Known → List Val → Pairs → (List Val → Doing) → Doing
  pairs_then k row no_pair f = f row
  pairs_then k row (pair a b ps) f = do
    x ← value_of k Plain a
    y ← value_of k Plain b
    pairs_then k (row ++ x ∷ y ∷ []) ps f

  -- the operands of a chain of operators that group to the left
  pub linked : Known → Place → Links → Val → Doing
  linked k p no_link x = give x
  linked k p (link o t ls) x = do
    y ← value_of k Plain t
    z ← operated k (operator_of o) x y p
    linked k p ls z

  -- a chain of comparisons, each begun where the one before it holds
  pub compared : Known → Place → Links → Val → Doing
  compared k p no_link x = give x
  compared k p (link o t ls) x = do
    y ← value_of k Plain t
    z ← related k (operator_of o) x y p
    where_more ls (give z) (truth_of k z p (λ b. choose b (spend p (compared k p ls y)) (give z)))

  -- a chain of `and` or of `or`; q is the place of the operand that x is the value of
  pub joined : Known → Place → Links → Val → Doing
  joined k q no_link x = give x
  joined k q (link o t ls) x = truth_of k x q (λ b. choose (goes_on o b)
      (do
        y ← value_of k Plain t
        joined k (place_of t) ls y)
      (give x))

  -- what trails a primary, one after the other
  pub trailed : Known → Purpose → Place → Trailers → Val → Doing
  trailed k u p no_trailer x = give x
  trailed k u p (trailer t ts) x = do
    y ← trailed_one k (purpose_at ts u) p t x
    trailed k u p ts y

  pub trailed_one : Known → Purpose → Place → Trailer → Val → Doing
  trailed_one k u p (Attribute n) x = attribute k x n p
  trailed_one k u p (Call gs) x = arguments_then k p [] [] gs (λ vs keywords. call_for k u x vs keywords p)
  trailed_one k u p (CallOf t c) x = do
    l ← spend (place_of t) (made_of k (place_of t) c (one_more (value_of k Plain t)) (list_made k (place_of t)))
    call_for k u x (l ∷ []) [] p
  trailed_one k u p (Index t) x = do
    i ← value_of k Plain t
    indexed k x i p
  trailed_one k u p (Slice a b c) x = do
    i ← perhaps_value k a
    j ← perhaps_value k b
    step ← perhaps_value k c
    sliced k x i j step p

  pub perhaps_value : Known → Perhaps → Doing
  perhaps_value k absent = give val.None
  perhaps_value k (present t) = value_of k Plain t

  -- the arguments of a call at p, in order and by keyword, behind those that are there
  pub arguments_then : Known → Place → List Val → List NamedVal → Arguments → (List Val → List NamedVal → Doing) → Doing
  arguments_then k p vs keywords no_argument f = f vs keywords
  arguments_then k p vs keywords (argument g gs) f = argument_then k p vs keywords g (λ us names. arguments_then k p us names gs f)

  pub argument_then : Known → Place → List Val → List NamedVal → Argument → (List Val → List NamedVal → Doing) → Doing
  argument_then k p vs keywords (Positional t) f = do
    v ← value_of k Plain t
    f (vs ++ v ∷ []) keywords
  argument_then k p vs keywords (Starred t) f = do
    x ← value_of k Plain t
    row ← as_row k x p
    with_elements k row p (λ us. f (vs ++ us) keywords)
  argument_then k p vs keywords (Keyword n t) f = do
    v ← value_of k Plain t
    once_named n keywords p (f vs (keywords ++ named_val n v ∷ []))

  -- a comprehension at p; its source stands outside its scope
  pub made_of : Known → Place → Each → Element → (List Val → Doing) → Doing
  made_of k p (each targets source condition) element_more f = do
    x ← value_of k Plain source
    row ← as_row k x p
    made_over k (target_names targets) row p
        (λ v done more. and_then (assign k targets v) (where_holds k condition (element_more done more) (more done))) f

  pub where_holds : Known → Perhaps → Doing → Doing → Doing
  where_holds k absent m n = m
  where_holds k (present t) m n = do
    x ← value_of k Plain t
    truth_of k x (place_of t) (λ b. choose b m n)

  -- a value goes to a target
  pub assign : Known → Tree → Val → Doing
  assign k (Name p n) v = bind k n v p (came Next)
  assign k (Tuple p ts) v = do
    row ← as_row k v p
    as_many k (tree_count ts) row p (with_elements k row p (λ vs. spend_each (tree_count ts) p (assign_each k ts vs)))
  assign k (Trailed p t ts) v = spend_each (trailer_count ts) p (do
    x ← value_of k Plain t
    stored k p ts x v)
  assign k t v = stop Raised (place_of t)

  pub assign_each : Known → Trees → List Val → Doing
  assign_each k none vs = came Next
  assign_each k (some t ts) [] = came Next
  assign_each k (some t ts) (v ∷ vs) = and_then (assign k t v) (assign_each k ts vs)

  -- along what trails a target's primary to its last, where the value is stored
  pub stored : Known → Place → Trailers → Val → Val → Doing
  stored k p no_trailer x v = stop Raised p
  stored k p (trailer t ts) x v = where_last ts (store_last k p t x v) (do
    y ← trailed_one k Plain p t x
    stored k p ts y v)

  pub store_last : Known → Place → Trailer → Val → Val → Doing
  store_last k p (Attribute n) x v = store_attribute k x n v p
  store_last k p (Index t) x v = do
    i ← value_of k Plain t
    store_index k x i v p
  store_last k p (Call gs) x v = stop Raised p
  store_last k p (CallOf t c) x v = stop Raised p
  store_last k p (Slice a b c) x v = stop Raised p

-- ---- targets to which nothing goes

-- the last of what trails: it is neither read nor stored, but the parts of it are evaluated
abbrev pub reach_last : Known → Place → Trailer → Doing
reach_last k p (Attribute n) = came Next
reach_last k p (Index t) = do
  _ ← value_of k Plain t
  came Next
reach_last k p (Call gs) = stop Raised p
reach_last k p (CallOf t c) = stop Raised p
reach_last k p (Slice a b c) = stop Raised p

-- along what trails a target's primary to its last, where nothing is stored
abbrev pub reached : Known → Place → Trailers → Val → Doing
reached k p no_trailer x = stop Raised p
reached k p (trailer t ts) x = where_last ts (reach_last k p t) (do
  y ← trailed_one k Plain p t x
  reached k p ts y)

-- a target: what the last trailer stands behind, and its parts; that one itself costs nothing
abbrev pub reach : Known → Tree → Doing
reach k (Trailed p t ts) = spend_each (trailer_count ts - 1) p (do
  x ← value_of k Plain t
  reached k p ts x)
reach k t = came Next

-- the list of a comprehension that is the one argument of a call
abbrev pub list_of : Known → Tree → Each → Doing
list_of k t c = spend (place_of t) (made_of k (place_of t) c (one_more (value_of k Plain t)) (list_made k (place_of t)))
