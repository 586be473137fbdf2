-- How the pieces of a format string are shown, one after the other.
use Rattle.std.proofs.Common.{◌≡◌, ℕ, ◌+◌, ◌<◌, ◌≤◌, refl, ap, ◌∙◌, sym, subst, List, [], ◌∷◌, ◌++◌, drop, length, get_or, Option, Some, None, Result, Ok, Err, arith}
use Rattle.std.proofs.lemmas.List.{drop_more, drop_all}
use Rattle.amh_host.specs.declared.place.Place.{Place}
use Rattle.py_tree.specs.declared.name.Piece.{Piece}
use Rattle.py_tree.specs.declared.name.Piece.TheVariants as piece
use Rattle.py_tree.specs.Programs.{steps_of}
use Rattle.py_heap.specs.Heaps.{Made, seen}
use Rattle.py_builtins.specs.Scalars.{shown_text}
use Rattle.py_heap.specs.Names.{look_up}
use Rattle.py_heap.specs.Places.{new_text}
use Rattle.py_values.specs.declared.val.Val.{Val}
use Rattle.py_frames.specs.declared.request.Cause.TheVariants as cause
use Rattle.py_frames.specs.declared.state.Halt.{Halt}
use Rattle.py_frames.specs.declared.state.Halt.TheVariants.{Stopped}
use Rattle.py_frames.specs.declared.frame.Now.{Now}
use Rattle.py_frames.specs.declared.functions.Functions.{Functions}
use Rattle.py_frames.specs.declared.going.Going.{Going}
use Rattle.py_frames.specs.Statements.{known}
use Rattle.py_frames.specs.Doing.{Doing, Known, heap_seen, ◌>>=◌, stop, give, with_value, making}
use Rattle.py_frames.specs.Expressions.{pieces_shown, shown_hole}
use Rattle.py_frames.specs.Begun.{Spends}
use Rattle.py_frames.specs.Expr_parts.{name_value}
use Rattle.py_expressions.specs.Format_parts.{Carries, hole_then}
use Rattle.py_frames.specs.Frames.{GoesOn}
use Rattle.py_frames.proofs.BeginLaws.{stop_goes}
use Rattle.py_frames.proofs.ExprLaws.{same_total, spent_goes, spent_stops}
use Rattle.py_frames.proofs.ExprKinds.{read_by}

-- a name that is read, and what follows it
hole_by : (fns : Functions) (frozen : Made) (r : Result Now Halt) (x y : Going) (budget : ℕ) (done name : List ℕ) (rest : List Piece) (p : Place) (o : Option Val) → o ≡ name_value (look_up (seen frozen x.state.heap) x.state.here.scope.0 name) name → GoesOn fns frozen r x y budget (λ k. with_value o p give >>= (λ v w s. shown_hole (shown_text (heap_seen k s) v) p (λ t. pieces_shown k (done ++ t) rest p) w s)) → GoesOn fns frozen r x y budget (λ k. hole_then k done name rest p)
hole_by fns frozen r x y budget done name rest p o e h =
    let K : Known = known (steps_of fns.program) frozen x.state.here.room in
    same_total fns frozen r x y budget (λ k. with_value o p give >>= (λ v w s. shown_hole (shown_text (heap_seen k s) v) p (λ t. pieces_shown k (done ++ t) rest p) w s)) (λ k. hole_then k done name rest p)
    (λ w. ap (λ (d : Doing). (d >>= (λ v w s. shown_hole (shown_text (heap_seen K s) v) p (λ t. pieces_shown K (done ++ t) rest p) w s)) w x.state)
    (ap (λ (z : Option Val). with_value z p give) e ∙ sym (read_by (look_up (seen frozen x.state.heap) x.state.here.scope.0 name) name p))) h

pub hole_unbound : (fns : Functions) (frozen : Made) (x : Going) (budget : ℕ) (done name : List ℕ) (rest : List Piece) (p : Place) → None ≡ name_value (look_up (seen frozen x.state.heap) x.state.here.scope.0 name) name → GoesOn fns frozen (Err (Stopped (record { cause = cause.Raised; place = p }))) x x budget (λ k. hole_then k done name rest p)
hole_unbound fns frozen x budget done name rest p e =
    hole_by fns frozen (Err (Stopped (record { cause = cause.Raised; place = p }))) x x budget done name rest p None e
    (same_total fns frozen (Err (Stopped (record { cause = cause.Raised; place = p }))) x x budget (λ k. stop cause.Raised p) (λ k. with_value None p give >>= (λ v w s. shown_hole (shown_text (heap_seen k s) v) p (λ t. pieces_shown k (done ++ t) rest p) w s)) (λ w. refl) (stop_goes fns frozen x budget cause.Raised p))

hole_value : (fns : Functions) (frozen : Made) (r : Result Now Halt) (x y : Going) (budget : ℕ) (done name : List ℕ) (rest : List Piece) (p : Place) (v : Val) (o : Option (List ℕ)) → Some v ≡ name_value (look_up (seen frozen x.state.heap) x.state.here.scope.0 name) name → shown_text (seen frozen x.state.heap) v ≡ o → GoesOn fns frozen r x y budget (λ k. shown_hole o p (λ t. pieces_shown k (done ++ t) rest p)) → GoesOn fns frozen r x y budget (λ k. hole_then k done name rest p)
hole_value fns frozen r x y budget done name rest p v o e f h =
    let K : Known = known (steps_of fns.program) frozen x.state.here.room in
    hole_by fns frozen r x y budget done name rest p (Some v) e
    (same_total fns frozen r x y budget (λ k. shown_hole o p (λ t. pieces_shown k (done ++ t) rest p)) (λ k. with_value (Some v) p give >>= (λ v w s. shown_hole (shown_text (heap_seen k s) v) p (λ t. pieces_shown k (done ++ t) rest p) w s))
    (λ w. ap (λ (z : Option (List ℕ)). shown_hole z p (λ t. pieces_shown K (done ++ t) rest p) w x.state) (sym f)) h)

pub hole_unshown : (fns : Functions) (frozen : Made) (x : Going) (budget : ℕ) (done name : List ℕ) (rest : List Piece) (p : Place) (v : Val) → Some v ≡ name_value (look_up (seen frozen x.state.heap) x.state.here.scope.0 name) name → shown_text (seen frozen x.state.heap) v ≡ None → GoesOn fns frozen (Err (Stopped (record { cause = cause.Raised; place = p }))) x x budget (λ k. hole_then k done name rest p)
hole_unshown fns frozen x budget done name rest p v e f =
    hole_value fns frozen (Err (Stopped (record { cause = cause.Raised; place = p }))) x x budget done name rest p v None e f (stop_goes fns frozen x budget cause.Raised p)

pub hole_shown : (fns : Functions) (frozen : Made) (r : Result Now Halt) (x y : Going) (budget : ℕ) (done new name text : List ℕ) (rest : List Piece) (p : Place) (v : Val) → Some v ≡ name_value (look_up (seen frozen x.state.heap) x.state.here.scope.0 name) name → shown_text (seen frozen x.state.heap) v ≡ Some text → new ≡ done ++ text → GoesOn fns frozen r x y budget (λ k. pieces_shown k new rest p) → GoesOn fns frozen r x y budget (λ k. hole_then k done name rest p)
hole_shown fns frozen r x y budget done new name text rest p v e f g h =
    let Q : List ℕ → Type 0 = λ z. GoesOn fns frozen r x y budget (λ k. pieces_shown k z rest p) in
    hole_value fns frozen r x y budget done name rest p v (Some text) e f (subst Q g h)

pub text_shown : (fns : Functions) (frozen : Made) (r : Result Now Halt) (x y : Going) (budget : ℕ) (done new text : List ℕ) (rest : List Piece) (p : Place) → new ≡ done ++ text → GoesOn fns frozen r x y budget (λ k. pieces_shown k new rest p) → GoesOn fns frozen r x y budget (λ k. pieces_shown k done (piece.Text text ∷ rest) p)
text_shown fns frozen r x y budget done new text rest p g h =
    let Q : List ℕ → Type 0 = λ z. GoesOn fns frozen r x y budget (λ k. pieces_shown k z rest p) in
    subst Q g h

-- a hole spends its unit
pub hole_goes : (fns : Functions) (frozen : Made) (r : Result Now Halt) (x z y : Going) (budget : ℕ) (u : Unit {0}) (done name : List ℕ) (rest : List Piece) (p : Place) → Spends (Ok u) 1 p x z budget → z.state.used ≤ y.state.used → GoesOn fns frozen r z y budget (λ k. hole_then k done name rest p) → GoesOn fns frozen r x y budget (λ k. pieces_shown k done (piece.Hole name ∷ rest) p)
hole_goes fns frozen r x z y budget u done name rest p s g h = spent_goes fns frozen r x z y budget 1 u p (λ k. hole_then k done name rest p) s g h

pub hole_spent : (fns : Functions) (frozen : Made) (result : Result (Unit {0}) Halt) (x z y : Going) (budget : ℕ) (u : Unit {0}) (done new name : List ℕ) (rest : List Piece) (p : Place) → Spends (Ok u) 1 p x z budget → z.state.used ≤ y.state.used → Carries fns frozen result z y budget (λ k. hole_then k done name rest p) (λ k. pieces_shown k new rest p) → Carries fns frozen result x y budget (λ k. pieces_shown k done (piece.Hole name ∷ rest) p) (λ k. pieces_shown k new rest p)
hole_spent fns frozen (Ok v) x z y budget u done new name rest p s g h = λ r b le f. hole_goes fns frozen r x z b budget u done name rest p s (omega arith) (h r b le f)
hole_spent fns frozen (Err e) x z y budget u done new name rest p s g h = hole_goes fns frozen (Err e) x z y budget u done name rest p s g h

pub hole_stops : (fns : Functions) (frozen : Made) (h : Halt) (x z : Going) (budget : ℕ) (done name : List ℕ) (item : Piece) (rest : List Piece) (p : Place) → item ≡ piece.Hole name → Spends (Err h) 1 p x z budget → GoesOn fns frozen (Err h) x z budget (λ k. pieces_shown k done (item ∷ rest) p)
hole_stops fns frozen h x z budget done name item rest p e s =
    let Q : Piece → Type 0 = λ i. GoesOn fns frozen (Err h) x z budget (λ k. pieces_shown k done (i ∷ rest) p) in
    subst Q (sym e) (spent_stops fns frozen h x z budget 1 p (λ k. hole_then k done name rest p) s)

-- a hole, by what the piece is
pub hole_carried : (fns : Functions) (frozen : Made) (result : Result (Unit {0}) Halt) (x z y : Going) (budget : ℕ) (done new name : List ℕ) (item : Piece) (rest : List Piece) (p : Place) → item ≡ piece.Hole name → Spends (Ok tt) 1 p x z budget → y ≡ z → Carries fns frozen result z y budget (λ k. hole_then k done name rest p) (λ k. pieces_shown k new rest p) → Carries fns frozen result x y budget (λ k. pieces_shown k done (item ∷ rest) p) (λ k. pieces_shown k new rest p)
hole_carried fns frozen result x z y budget done new name item rest p e s f h =
    let used : z.state.used ≤ y.state.used = omega (arith, ap (λ (g : Going). g.state.used) f) in
    let Q : Piece → Type 0 = λ i. Carries fns frozen result x y budget (λ k. pieces_shown k done (i ∷ rest) p) (λ k. pieces_shown k new rest p) in
    subst Q (sym e) (hole_spent fns frozen result x z y budget tt done new name rest p s used h)

-- ---- the pieces one after the other

-- what is owed of the pieces from this number on is owed of all of them
abbrev pub Owes : Functions → Made → Going → Going → ℕ → List ℕ → List Piece → List Piece → Place → Type 0
Owes fns frozen x z budget done rest pieces p = (r : Result Now Halt) (y : Going) → z.state.used ≤ y.state.used → GoesOn fns frozen r z y budget (λ k. pieces_shown k done rest p) → GoesOn fns frozen r x y budget (λ k. pieces_shown k [] pieces p)

pub front_of : (items pieces : List Piece) (n : ℕ) (x : Piece) → items ≡ pieces → n < length items → x ≡ get_or items n x → drop n pieces ≡ x ∷ drop (n + 1) pieces
front_of items pieces n x e lt f =
    let P : List Piece → Type 0 = λ z. drop n z ≡ x ∷ drop (n + 1) z in
    subst P e (drop_more items n x lt ∙ ap (λ (z : Piece). z ∷ drop (n + 1) items) (sym f))

pub none_left : (items pieces : List Piece) (n : ℕ) → items ≡ pieces → length items ≤ n → drop n pieces ≡ []
none_left items pieces n e le = let P : List Piece → Type 0 = λ z. drop n z ≡ [] in subst P e (drop_all n items le)

pub piece_stops : (fns : Functions) (frozen : Made) (h : Halt) (x z y : Going) (budget : ℕ) (done : List ℕ) (item : Piece) (front rest pieces : List Piece) (p : Place) → Owes fns frozen x z budget done front pieces p → front ≡ item ∷ rest → z.state.used ≤ y.state.used → GoesOn fns frozen (Err h) z y budget (λ k. pieces_shown k done (item ∷ rest) p) → GoesOn fns frozen (Err h) x y budget (λ k. pieces_shown k [] pieces p)
piece_stops fns frozen h x z y budget done item front rest pieces p owes e le g =
    let Q : List Piece → Type 0 = λ i. GoesOn fns frozen (Err h) z y budget (λ k. pieces_shown k done i p) in
    owes (Err h) y le (subst Q (sym e) g)

pub piece_goes : (fns : Functions) (frozen : Made) (x z v : Going) (budget : ℕ) (done new : List ℕ) (item : Piece) (front rest pieces : List Piece) (p : Place) → Owes fns frozen x z budget done front pieces p → front ≡ item ∷ rest → z.state.used ≤ v.state.used → Carries fns frozen (Ok tt) z v budget (λ k. pieces_shown k done (item ∷ rest) p) (λ k. pieces_shown k new rest p) → Owes fns frozen x v budget new rest pieces p
piece_goes fns frozen x z v budget done new item front rest pieces p owes e le g = λ r y lt h.
    let Q : List Piece → Type 0 = λ i. GoesOn fns frozen r z y budget (λ k. pieces_shown k done i p) in
    owes r y (omega arith) (subst Q (sym e) (g r y lt h))

pub pieces_end : (fns : Functions) (frozen : Made) (r : Result Now Halt) (x z y : Going) (budget : ℕ) (done : List ℕ) (front pieces : List Piece) (p : Place) → Owes fns frozen x z budget done front pieces p → front ≡ [] → y.state.used ≡ z.state.used → GoesOn fns frozen r z y budget (λ k. making (λ s. new_text (heap_seen k s) done) p give) → GoesOn fns frozen r x y budget (λ k. pieces_shown k [] pieces p)
pieces_end fns frozen r x z y budget done front pieces p owes e le g =
    let Q : List Piece → Type 0 = λ i. GoesOn fns frozen r z y budget (λ k. pieces_shown k done i p) in
    owes r y (omega (arith, le)) (subst Q (sym e) g)
