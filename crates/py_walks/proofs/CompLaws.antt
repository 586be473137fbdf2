-- What the turns of comprehensions owe.
use Rattle.std.proofs.Common.{◌≡◌, ℕ, suc, ◌+◌, ◌-◌, ◌≤◌, ◌==◌, refl, ap, ◌∙◌, sym, subst, List, [], ◌∷◌, ◌++◌, Option, Some, None, Result, Ok, Err, Bool, true, false, arith}
use Rattle.amh_host.specs.declared.place.Place.{Place}
use Rattle.py_tree.specs.Programs.{steps_of}
use Rattle.py_tree.specs.Tree.{Tree, Perhaps, absent, present}
use Rattle.py_heap.specs.Heaps.{Made, seen}
use Rattle.py_operators.specs.Truths.{truth}
use Rattle.py_operators.specs.Elements.{element}
use Rattle.py_heap.specs.Members.{is_key}
use Rattle.py_values.specs.declared.val.Val.{Val}
use Rattle.py_values.specs.declared.val.ScopeId.{ScopeId}
use Rattle.py_values.specs.declared.val.ValueStop.{ValueStop}
use Rattle.py_frames.specs.declared.request.Cause.TheVariants as cause
use Rattle.py_frames.specs.declared.state.State.{State}
use Rattle.py_frames.specs.declared.state.Halt.{Halt}
use Rattle.py_frames.specs.declared.state.Halt.TheVariants.{Stopped, Asks, NoMemory}
use Rattle.py_frames.specs.declared.state.Got.TheVariants.{Next}
use Rattle.py_frames.specs.declared.frame.Now.{Now}
use Rattle.py_frames.specs.declared.frame.Now.TheVariants.{Came}
use Rattle.py_frames.specs.declared.frame.Purpose.TheVariants.{Plain}
use Rattle.py_frames.specs.declared.frame.Walk.{Walk}
use Rattle.py_frames.specs.declared.frame.Comprehended.{Comprehended}
use Rattle.py_frames.specs.declared.frame.Frame.{Frame}
use Rattle.py_frames.specs.declared.frame.Frame.TheVariants as frame
use Rattle.py_frames.specs.declared.frame.WalkFrame.TheVariants as walk
use Rattle.py_frames.specs.declared.functions.Functions.{Functions}
use Rattle.py_frames.specs.declared.going.Going.{Going}
use Rattle.py_frames.specs.Doing.{Doing, Known, heap_seen, after, on_value, on_next, stop, choose, made, spend}
use Rattle.py_frames.specs.Asking.{most}
use Rattle.py_frames.specs.Own.{target_names}
use Rattle.py_frames.specs.Parts.{place_of}
use Rattle.py_frames.specs.Values.{as_row}
use Rattle.py_frames.specs.Statements.{known}
use Rattle.py_frames.specs.Expressions.{value_of, assign, is_row, row_size, in_scope, back_in, on_element, elements_made, list_made, dict_made}
use Rattle.py_frames.specs.Expr_parts.{comp_begun}
use Rattle.py_frames.specs.Begun.{Spends}
use Rattle.py_frames.specs.Told.{TellsTruth}
use Rattle.py_frames.specs.Walk_frames.{Element, one, two, Comp, comp_of, with_comp, comp_over, comp_turn, walks_on, all_made, element_made, tested_by, made_came, pair_came, source_of, targets_of, condition_of}
use Rattle.py_walks.specs.Walk_parts.{first_of, row_over, behind_walk, element_turn, where_made, Entered}
use Rattle.py_frames.specs.Frames.{finish, Moves, GoesOn, within}
use Rattle.py_frames.proofs.BeginLaws.{no_memory, stop_goes}
use Rattle.py_frames.proofs.ExprLaws.{same_total, truth_goes, truth_stops, spent_goes, spent_stops}
use Rattle.py_frames.proofs.StmtLaws.{meant_same, came_goes}
use Rattle.py_walks.proofs.WalkLaws.{under_frame, back_goes, is_same, is_other}

-- ---- where there is a comprehension

pub comp_found : (fns : Functions) (frozen : Made) (r : Result Now Halt) (x z : Going) (budget : ℕ) (c : Comprehended) (d : Comp) (f : Known → Comp → Doing) → comp_of c ≡ Some d → GoesOn fns frozen r x z budget (λ k. f k d) → GoesOn fns frozen r x z budget (λ k. with_comp (comp_of c) (f k))
comp_found fns frozen r x z budget c d f e h =
    let P : Option Comp → Type 0 = λ o. GoesOn fns frozen r x z budget (λ k. with_comp o (f k)) in
    subst P (sym e) h

pub comp_lacks : (fns : Functions) (frozen : Made) (x : Going) (budget : ℕ) (c : Comprehended) (f : Known → Comp → Doing) → comp_of c ≡ None → GoesOn fns frozen (Ok (Came Next)) x x budget (λ k. with_comp (comp_of c) (f k))
comp_lacks fns frozen x budget c f e =
    let P : Option Comp → Type 0 = λ o. GoesOn fns frozen (Ok (Came Next)) x x budget (λ k. with_comp o (f k)) in
    subst P (sym e) (came_goes fns frozen x budget Next)

-- ---- its source

pub source_waits : (fns : Functions) (frozen : Made) (r : Result Now Halt) (x z : Going) (budget : ℕ) (c : Comprehended) (d : Comp) (t : Tree) → comp_of c ≡ Some d → source_of d.source ≡ t → GoesOn fns frozen r x z budget (within (frame.Walk (walk.Source c)) (λ k. value_of k Plain t)) → GoesOn fns frozen r x z budget (λ k. comp_begun k c)
source_waits fns frozen r x z budget c d t e q h =
    let B : Option Comp → Type 0 = λ o. GoesOn fns frozen r x z budget (λ k w s. after (value_of k Plain t w s) (λ got. on_value got (λ v. with_comp o (row_over k v)) w)) in
    let T : Tree → Type 0 = λ u. GoesOn fns frozen r x z budget (λ k w s. after (value_of k Plain u w s) (λ got. on_value got (λ v. row_over k v d) w)) in
    comp_found fns frozen r x z budget c d (λ k a w s. after (value_of k Plain (source_of a.source) w s) (λ got. on_value got (λ v. row_over k v a) w)) e (subst T (sym q) (subst B e h))

pub begin_lacks : (fns : Functions) (frozen : Made) (x : Going) (budget : ℕ) (c : Comprehended) → comp_of c ≡ None → GoesOn fns frozen (Ok (Came Next)) x x budget (λ k. comp_begun k c)
begin_lacks fns frozen x budget c e = comp_lacks fns frozen x budget c (λ k a w s. after (value_of k Plain (source_of a.source) w s) (λ got. on_value got (λ v. row_over k v a) w)) e

pub row_waits : (fns : Functions) (frozen : Made) (r : Result Now Halt) (x z : Going) (budget : ℕ) (c : Comprehended) (d : Comp) (v : Val) (p : Place) (fs : List Frame) → comp_of c ≡ Some d → d.place ≡ p → fs ≡ frame.Walk (walk.SourceRow c) ∷ x.frames → GoesOn fns frozen r (record x { frames = fs }) z budget (λ k. as_row k v p) → GoesOn fns frozen r x z budget (λ k. with_comp (comp_of c) (row_over k v))
row_waits fns frozen r x z budget c d v p fs e q e3 h =
    let B : Option Comp → Type 0 = λ o. GoesOn fns frozen r x z budget (λ k w s. after (as_row k v p w s) (λ got. on_value got (λ u. with_comp o (λ a. comp_over k a u)) w)) in
    let T : Place → Type 0 = λ y. GoesOn fns frozen r x z budget (λ k w s. after (as_row k v y w s) (λ got. on_value got (comp_over k d) w)) in
    comp_found fns frozen r x z budget c d (λ k. row_over k v) e
    (subst T (sym q) (subst B e (under_frame fns frozen r x z budget (frame.Walk (walk.SourceRow c)) fs (λ k. as_row k v p) refl e3 h)))

-- ---- a scope of its own

in_goes : (fns : Functions) (frozen : Made) (r : Result Now Halt) (x y z : Going) (budget : ℕ) (scope : ScopeId) (own : List (List ℕ)) (p : Place) (m : Known → Doing) → Entered (Ok scope) frozen own x y → GoesOn fns frozen r y z budget m → GoesOn fns frozen r x z budget (λ k. in_scope k own p (m k))
unfolding GoesOn
in_goes fns frozen r x y z budget scope own p m e h =
    let P : Going → Type 0 = λ g. GoesOn fns frozen r g z budget m in
    let Q : Result (ScopeId × Made) ValueStop → Type 0 = λ o. Moves (steps_of fns.program) frozen r z.frames z.state budget (λ w. finish (steps_of fns.program) frozen x.state.here.room x.frames w (made o p (λ (i : ScopeId) w2 (s2 : State). m (known (steps_of fns.program) frozen x.state.here.room) w2 (record s2 { here = record s2.here { scope = i } })) w x.state)) in
    subst Q (sym e.0) (subst P e.1 h)

pub over_goes : (fns : Functions) (frozen : Made) (r : Result Now Halt) (x y z : Going) (budget n : ℕ) (scope : ScopeId) (d : Comp) (v : Val) (w : Walk) (done : List Val) → is_row v ≡ true → n ≡ row_size (seen frozen x.state.heap) v → w ≡ record { over = v; next = 0; size = n; turns = most } → done ≡ [] → Entered (Ok scope) frozen (target_names (targets_of d.source)) x y → GoesOn fns frozen r y z budget (λ k. walks_on k d w x.state.here.scope done) → GoesOn fns frozen r x z budget (λ k. comp_over k d v)
over_goes fns frozen r x y z budget n scope d v w vs e1 e0 e2 e4 e3 h =
    let D : List Val → Type 0 = λ us. GoesOn fns frozen r y z budget (λ k. walks_on k d w x.state.here.scope us) in
    let W : Walk → Type 0 = λ a. GoesOn fns frozen r y z budget (λ k. walks_on k d a x.state.here.scope []) in
    let N : ℕ → Type 0 = λ j. GoesOn fns frozen r y z budget (λ k. walks_on k d (record { over = v; next = 0; size = j; turns = most }) x.state.here.scope []) in
    let K : Known = known (steps_of fns.program) frozen x.state.here.room in
    let size : ℕ = row_size (seen frozen x.state.heap) v in
    same_total fns frozen r x z budget (λ k. in_scope k (target_names (targets_of d.source)) d.place (walks_on k d (record { over = v; next = 0; size = size; turns = most }) x.state.here.scope [])) (λ k. comp_over k d v)
    (λ u. ap (λ (b : Bool). choose b (λ u2 (s2 : State). in_scope K (target_names (targets_of d.source)) d.place (elements_made most K v 0 (row_size (heap_seen K s2) v) d.place (comp_turn K d) [] (λ done. back_in s2.here.scope (all_made K d.element d.place done))) u2 s2) (stop cause.Raised d.place) u x.state) (sym e1))
    (in_goes fns frozen r x y z budget scope (target_names (targets_of d.source)) d.place (λ k. walks_on k d (record { over = v; next = 0; size = size; turns = most }) x.state.here.scope []) e3 (subst N e0 (subst W e2 (subst D e4 h))))

pub enter_stops : (fns : Functions) (frozen : Made) (h : Halt) (x z : Going) (budget : ℕ) (own : List (List ℕ)) (m : Known → Doing) → Entered (Err h) frozen own x z → GoesOn fns frozen (Err h) x z budget m
enter_stops fns frozen (Stopped st) x z budget own m e = absurd e
enter_stops fns frozen (Asks r) x z budget own m e = absurd e
enter_stops fns frozen NoMemory x z budget own m e = no_memory fns frozen x z budget m

pub over_refused : (fns : Functions) (frozen : Made) (x : Going) (budget : ℕ) (d : Comp) (v : Val) (p : Place) (b : Bool) → d.place ≡ p → b ≡ is_row v → b ≡ false → GoesOn fns frozen (Err (Stopped (record { cause = cause.Raised; place = p }))) x x budget (λ k. comp_over k d v)
over_refused fns frozen x budget d v p b q e1 e2 =
    let K : Known = known (steps_of fns.program) frozen x.state.here.room in
    let T : Place → Type 0 = λ y. GoesOn fns frozen (Err (Stopped (record { cause = cause.Raised; place = y }))) x x budget (λ k. comp_over k d v) in
    subst T q (same_total fns frozen _ x x budget (λ k. stop cause.Raised d.place) (λ k. comp_over k d v)
    (λ u. ap (λ (b : Bool). choose b (λ u2 (s2 : State). in_scope K (target_names (targets_of d.source)) d.place (elements_made most K v 0 (row_size (heap_seen K s2) v) d.place (comp_turn K d) [] (λ done. back_in s2.here.scope (all_made K d.element d.place done))) u2 s2) (stop cause.Raised d.place) u x.state) (sym (sym e1 ∙ e2)))
    (stop_goes fns frozen x budget cause.Raised d.place))

pub over_found : (fns : Functions) (frozen : Made) (r : Result Now Halt) (x z : Going) (budget : ℕ) (c : Comprehended) (d : Comp) (v : Val) → comp_of c ≡ Some d → GoesOn fns frozen r x z budget (λ k. comp_over k d v) → GoesOn fns frozen r x z budget (λ k. with_comp (comp_of c) (λ a. comp_over k a v))
over_found fns frozen r x z budget c d v e h = comp_found fns frozen r x z budget c d (λ k a. comp_over k a v) e h

-- ---- the walk

-- a turn with what stands at its place
abbrev on_turn : ℕ → Known → Val → (i size : ℕ) → Comp → ScopeId → List Val → Option Val → Doing
on_turn n k over i size d outer done o =
    on_element o (back_in outer (all_made k d.element d.place done)) (λ y. spend d.place (comp_turn k d y done (λ more. elements_made n k over (i + 1) size d.place (comp_turn k d) more (λ vs. back_in outer (all_made k d.element d.place vs)))))

sized_right : (fns : Functions) (frozen : Made) (r : Result Now Halt) (x z : Going) (budget n i size : ℕ) (over : Val) (d : Comp) (outer : ScopeId) (done : List Val) (o : Option Val) → (row_size (seen frozen x.state.heap) over == size) ≡ true → element (seen frozen x.state.heap) over i ≡ o → GoesOn fns frozen r x z budget (λ k. on_turn n k over i size d outer done o) → GoesOn fns frozen r x z budget (λ k. elements_made (suc n) k over i size d.place (comp_turn k d) done (λ vs. back_in outer (all_made k d.element d.place vs)))
unfolding elements_made
sized_right fns frozen r x z budget n i size over d outer done o kept e h =
    let K : Known = known (steps_of fns.program) frozen x.state.here.room in
    same_total fns frozen r x z budget (λ k. on_turn n k over i size d outer done o)
    (λ k. elements_made (suc n) k over i size d.place (comp_turn k d) done (λ vs. back_in outer (all_made k d.element d.place vs)))
    (λ w. ap (λ (u : Option Val). on_turn n K over i size d outer done u w x.state) (sym e) ∙ ap (λ (b : Bool). choose b (λ w2 (s2 : State). on_turn n K over i size d outer done (element (heap_seen K s2) over i) w2 s2) (stop cause.Raised d.place) w x.state) (sym kept))
    h

sized_wrong : (fns : Functions) (frozen : Made) (r : Result Now Halt) (x z : Going) (budget n i size : ℕ) (over : Val) (d : Comp) (outer : ScopeId) (done : List Val) → (row_size (seen frozen x.state.heap) over == size) ≡ false → GoesOn fns frozen r x z budget (λ k. stop cause.Raised d.place) → GoesOn fns frozen r x z budget (λ k. elements_made (suc n) k over i size d.place (comp_turn k d) done (λ vs. back_in outer (all_made k d.element d.place vs)))
unfolding elements_made
sized_wrong fns frozen r x z budget n i size over d outer done e h =
    let K : Known = known (steps_of fns.program) frozen x.state.here.room in
    same_total fns frozen r x z budget (λ k. stop cause.Raised d.place)
    (λ k. elements_made (suc n) k over i size d.place (comp_turn k d) done (λ vs. back_in outer (all_made k d.element d.place vs)))
    (λ w. ap (λ (b : Bool). choose b (λ w2 (s2 : State). on_turn n K over i size d outer done (element (heap_seen K s2) over i) w2 s2) (stop cause.Raised d.place) w x.state) (sym e))
    h

no_turn : (fns : Functions) (frozen : Made) (r : Result Now Halt) (x z : Going) (budget i size : ℕ) (over : Val) (d : Comp) (outer : ScopeId) (done : List Val) → GoesOn fns frozen r x z budget (λ k. stop cause.Spent d.place) → GoesOn fns frozen r x z budget (λ k. elements_made 0 k over i size d.place (comp_turn k d) done (λ vs. back_in outer (all_made k d.element d.place vs)))
unfolding elements_made
no_turn fns frozen r x z budget i size over d outer done h = h

-- so many turns
at_turns : (fns : Functions) (frozen : Made) (r : Result Now Halt) (x z : Going) (budget n : ℕ) (d : Comp) (w : Walk) (outer : ScopeId) (done : List Val) → n ≡ w.turns → GoesOn fns frozen r x z budget (λ k. elements_made n k w.over w.next w.size d.place (comp_turn k d) done (λ vs. back_in outer (all_made k d.element d.place vs))) → GoesOn fns frozen r x z budget (λ k. walks_on k d w outer done)
at_turns fns frozen r x z budget n d w outer done e h =
    let N : ℕ → Type 0 = λ j. GoesOn fns frozen r x z budget (λ k. elements_made j k w.over w.next w.size d.place (comp_turn k d) done (λ vs. back_in outer (all_made k d.element d.place vs))) in
    subst N e h

pub walk_out : (fns : Functions) (frozen : Made) (x : Going) (budget : ℕ) (d : Comp) (w : Walk) (outer : ScopeId) (done : List Val) (p : Place) → d.place ≡ p → w.turns ≡ 0 → GoesOn fns frozen (Err (Stopped (record { cause = cause.Spent; place = p }))) x x budget (λ k. walks_on k d w outer done)
walk_out fns frozen x budget d w outer done p q le =
    let e : 0 ≡ w.turns = sym le in
    let T : Place → Type 0 = λ y. GoesOn fns frozen (Err (Stopped (record { cause = cause.Spent; place = y }))) x x budget (λ k. walks_on k d w outer done) in
    subst T q (at_turns fns frozen _ x x budget 0 d w outer done e (no_turn fns frozen _ x x budget w.next w.size w.over d outer done (stop_goes fns frozen x budget cause.Spent d.place)))

pub walk_resized : (fns : Functions) (frozen : Made) (x : Going) (budget n : ℕ) (d : Comp) (w : Walk) (outer : ScopeId) (done : List Val) (p : Place) → d.place ≡ p → (w.turns ≡ 0 → ⊥) → n ≡ row_size (seen frozen x.state.heap) w.over → (n ≡ w.size → ⊥) → GoesOn fns frozen (Err (Stopped (record { cause = cause.Raised; place = p }))) x x budget (λ k. walks_on k d w outer done)
walk_resized fns frozen x budget n d w outer done p q lt e1 e2 =
    let more : suc (w.turns - 1) ≡ w.turns = omega arith in
    let N : ℕ → Type 0 = λ j. (j == w.size) ≡ false in
    let T : Place → Type 0 = λ y. GoesOn fns frozen (Err (Stopped (record { cause = cause.Raised; place = y }))) x x budget (λ k. walks_on k d w outer done) in
    subst T q (at_turns fns frozen _ x x budget (suc (w.turns - 1)) d w outer done more (sized_wrong fns frozen _ x x budget (w.turns - 1) w.next w.size w.over d outer done (subst N e1 (is_other n w.size e2)) (stop_goes fns frozen x budget cause.Raised d.place)))

pub walk_over : (fns : Functions) (frozen : Made) (r : Result Now Halt) (x z : Going) (budget n : ℕ) (d : Comp) (w : Walk) (outer : ScopeId) (done : List Val) → (w.turns ≡ 0 → ⊥) → n ≡ row_size (seen frozen x.state.heap) w.over → n ≡ w.size → None ≡ element (seen frozen x.state.heap) w.over w.next → GoesOn fns frozen r x z budget (λ k. back_in outer (all_made k d.element d.place done)) → GoesOn fns frozen r x z budget (λ k. walks_on k d w outer done)
walk_over fns frozen r x z budget n d w outer done lt e1 e2 e h =
    let q : suc (w.turns - 1) ≡ w.turns = omega arith in
    let N : ℕ → Type 0 = λ j. (j == w.size) ≡ true in
    at_turns fns frozen r x z budget (suc (w.turns - 1)) d w outer done q (sized_right fns frozen r x z budget (w.turns - 1) w.next w.size w.over d outer done None (subst N e1 (is_same n w.size e2)) (sym e) h)

pub walk_turns : (fns : Functions) (frozen : Made) (r : Result Now Halt) (x z : Going) (budget n : ℕ) (d : Comp) (w : Walk) (outer : ScopeId) (done : List Val) (v : Val) → (w.turns ≡ 0 → ⊥) → n ≡ row_size (seen frozen x.state.heap) w.over → n ≡ w.size → Some v ≡ element (seen frozen x.state.heap) w.over w.next → GoesOn fns frozen r x z budget (λ k. element_turn k d w outer done v) → GoesOn fns frozen r x z budget (λ k. walks_on k d w outer done)
walk_turns fns frozen r x z budget n d w outer done v lt e1 e2 e h =
    let q : suc (w.turns - 1) ≡ w.turns = omega arith in
    let N : ℕ → Type 0 = λ j. (j == w.size) ≡ true in
    at_turns fns frozen r x z budget (suc (w.turns - 1)) d w outer done q (sized_right fns frozen r x z budget (w.turns - 1) w.next w.size w.over d outer done (Some v) (subst N e1 (is_same n w.size e2)) (sym e) h)

pub ends_list : (fns : Functions) (frozen : Made) (r : Result Now Halt) (x z : Going) (budget : ℕ) (el : Element) (t : Tree) (p : Place) (outer : ScopeId) (done : List Val) → el ≡ one t → GoesOn fns frozen r (record x { state = record x.state { here = record x.state.here { scope = outer } } }) z budget (λ k. list_made k p done) → GoesOn fns frozen r x z budget (λ k. back_in outer (all_made k el p done))
ends_list fns frozen r x z budget el t p outer done e h =
    let E : Element → Type 0 = λ a. GoesOn fns frozen r x z budget (λ k. back_in outer (all_made k a p done)) in
    subst E (sym e) (back_goes fns frozen r x z budget outer (λ k. list_made k p done) h)

pub ends_dict : (fns : Functions) (frozen : Made) (r : Result Now Halt) (x z : Going) (budget : ℕ) (el : Element) (a b : Tree) (p : Place) (outer : ScopeId) (done : List Val) → el ≡ two a b → GoesOn fns frozen r (record x { state = record x.state { here = record x.state.here { scope = outer } } }) z budget (λ k. dict_made k p done) → GoesOn fns frozen r x z budget (λ k. back_in outer (all_made k el p done))
ends_dict fns frozen r x z budget el a b p outer done e h =
    let E : Element → Type 0 = λ i. GoesOn fns frozen r x z budget (λ k. back_in outer (all_made k i p done)) in
    subst E (sym e) (back_goes fns frozen r x z budget outer (λ k. dict_made k p done) h)

-- ---- a turn

pub turn_spends : (fns : Functions) (frozen : Made) (r : Result Now Halt) (x y z : Going) (budget : ℕ) (u : Unit {0}) (c : Comprehended) (d : Comp) (p : Place) (w w2 : Walk) (outer : ScopeId) (done : List Val) (v : Val) (t : Tree) → comp_of c ≡ Some d → d.place ≡ p → targets_of d.source ≡ t → w2 ≡ behind_walk w → Spends (Ok u) 1 p x y budget → y.state.used ≤ z.state.used → GoesOn fns frozen r y z budget (within (frame.Walk (walk.Bound c w2 done outer)) (λ k. assign k t v)) → GoesOn fns frozen r x z budget (λ k. element_turn k d w outer done v)
turn_spends fns frozen r x y z budget u c d p w w2 outer done v t e q1 q2 e2 s g h =
    let B : Option Comp → Type 0 = λ o. GoesOn fns frozen r y z budget (λ k a st. after (assign k t v a st) (λ got. on_next got (with_comp o (λ i. where_made k i w2 outer done)) a)) in
    let T : Tree → Type 0 = λ i. GoesOn fns frozen r y z budget (λ k a st. after (assign k i v a st) (λ got. on_next got (where_made k d w2 outer done) a)) in
    let W : Walk → Type 0 = λ i. GoesOn fns frozen r y z budget (λ k. comp_turn k d v done (walks_on k d i outer)) in
    let P : Place → Type 0 = λ i. GoesOn fns frozen r x z budget (λ k. spend i (comp_turn k d v done (walks_on k d (behind_walk w) outer))) in
    subst P (sym q1) (spent_goes fns frozen r x y z budget 1 u p (λ k. comp_turn k d v done (walks_on k d (behind_walk w) outer)) s g (subst W e2 (subst T (sym q2) (subst B e h))))

pub turn_stops : (fns : Functions) (frozen : Made) (h : Halt) (x z : Going) (budget : ℕ) (d : Comp) (p : Place) (w : Walk) (outer : ScopeId) (done : List Val) (v : Val) → d.place ≡ p → Spends (Err h) 1 p x z budget → GoesOn fns frozen (Err h) x z budget (λ k. element_turn k d w outer done v)
turn_stops fns frozen h x z budget d p w outer done v q1 s =
    let P : Place → Type 0 = λ i. GoesOn fns frozen (Err h) x z budget (λ k. spend i (comp_turn k d v done (walks_on k d (behind_walk w) outer))) in
    subst P (sym q1) (spent_stops fns frozen h x z budget 1 p (λ k. comp_turn k d v done (walks_on k d (behind_walk w) outer)) s)

-- ---- the condition

pub where_always : (fns : Functions) (frozen : Made) (r : Result Now Halt) (x z : Going) (budget : ℕ) (c : Comprehended) (d : Comp) (w : Walk) (outer : ScopeId) (done : List Val) → comp_of c ≡ Some d → condition_of d.source ≡ absent → GoesOn fns frozen r x z budget (λ k. element_made k d.place d.element done (walks_on k d w outer)) → GoesOn fns frozen r x z budget (λ k. with_comp (comp_of c) (λ a. where_made k a w outer done))
where_always fns frozen r x z budget c d w outer done e q h =
    comp_found fns frozen r x z budget c d (λ k a. where_made k a w outer done) e
    (meant_same fns frozen r x z budget (λ k. element_made k d.place d.element done (walks_on k d w outer)) (λ k. where_made k d w outer done) (λ k. rw q refl) h)

pub where_tests : (fns : Functions) (frozen : Made) (r : Result Now Halt) (x z : Going) (budget : ℕ) (c : Comprehended) (d : Comp) (w : Walk) (outer : ScopeId) (done : List Val) (t : Tree) → comp_of c ≡ Some d → condition_of d.source ≡ present t → GoesOn fns frozen r x z budget (within (frame.Walk (walk.Tested c w done outer)) (λ k. value_of k Plain t)) → GoesOn fns frozen r x z budget (λ k. with_comp (comp_of c) (λ a. where_made k a w outer done))
where_tests fns frozen r x z budget c d w outer done t e q h =
    let B : Option Comp → Type 0 = λ o. GoesOn fns frozen r x z budget (λ k a s. after (value_of k Plain t a s) (λ got. on_value got (λ v. with_comp o (λ i. tested_by k i w outer done (condition_of i.source) v)) a)) in
    comp_found fns frozen r x z budget c d (λ k a. where_made k a w outer done) e
    (meant_same fns frozen r x z budget (λ k a s. after (value_of k Plain t a s) (λ got. on_value got (λ v. tested_by k d w outer done (condition_of d.source) v) a)) (λ k. where_made k d w outer done) (λ k. rw q refl) (subst B e h))

made_by : (k : Known) (d : Comp) (el : Element) (w : Walk) (outer : ScopeId) (done : List Val) → element_made k d.place el done (walks_on k d w outer) ≡ (λ a s. after (value_of k Plain (first_of el) a s) (λ got. on_value got (made_came k d el w outer done) a))
made_by k d (one t) w outer done = refl
made_by k d (two a b) w outer done = refl

pub element_waits : (fns : Functions) (frozen : Made) (r : Result Now Halt) (x z : Going) (budget : ℕ) (c : Comprehended) (d : Comp) (w : Walk) (outer : ScopeId) (done : List Val) (t : Tree) → comp_of c ≡ Some d → t ≡ first_of d.element → GoesOn fns frozen r x z budget (within (frame.Walk (walk.Made c w done outer)) (λ k. value_of k Plain t)) → GoesOn fns frozen r x z budget (λ k. element_made k d.place d.element done (walks_on k d w outer))
element_waits fns frozen r x z budget c d w outer done t e q h =
    let B : Option Comp → Type 0 = λ o. GoesOn fns frozen r x z budget (λ k a s. after (value_of k Plain t a s) (λ got. on_value got (λ v. with_comp o (λ i. made_came k i i.element w outer done v)) a)) in
    let T : Tree → Type 0 = λ u. GoesOn fns frozen r x z budget (λ k a s. after (value_of k Plain u a s) (λ got. on_value got (made_came k d d.element w outer done) a)) in
    meant_same fns frozen r x z budget (λ k a s. after (value_of k Plain (first_of d.element) a s) (λ got. on_value got (made_came k d d.element w outer done) a)) (λ k. element_made k d.place d.element done (walks_on k d w outer)) (λ k. made_by k d d.element w outer done) (subst T q (subst B e h))

tested_as : (fns : Functions) (frozen : Made) (r : Result Now Halt) (x z : Going) (budget : ℕ) (d : Comp) (w : Walk) (outer : ScopeId) (done : List Val) (v : Val) (t : Perhaps) → condition_of d.source ≡ t → GoesOn fns frozen r x z budget (λ k. tested_by k d w outer done t v) → GoesOn fns frozen r x z budget (λ k. tested_by k d w outer done (condition_of d.source) v)
tested_as fns frozen r x z budget d w outer done v t e h =
    let P : Perhaps → Type 0 = λ u. GoesOn fns frozen r x z budget (λ k. tested_by k d w outer done u v) in
    subst P (sym e) h

pub tested_always : (fns : Functions) (frozen : Made) (r : Result Now Halt) (x z : Going) (budget : ℕ) (d : Comp) (w : Walk) (outer : ScopeId) (done : List Val) (v : Val) → condition_of d.source ≡ absent → GoesOn fns frozen r x z budget (λ k. walks_on k d w outer done) → GoesOn fns frozen r x z budget (λ k. tested_by k d w outer done (condition_of d.source) v)
tested_always fns frozen r x z budget d w outer done v e h = tested_as fns frozen r x z budget d w outer done v absent e h

pub tested_holds : (fns : Functions) (frozen : Made) (r : Result Now Halt) (x z : Going) (budget : ℕ) (d : Comp) (w : Walk) (outer : ScopeId) (done : List Val) (v : Val) (t : Tree) (q : Place) (b : Bool) → condition_of d.source ≡ present t → q ≡ place_of t → TellsTruth (Ok b) (truth (seen frozen x.state.heap) v) q → b ≡ true → GoesOn fns frozen r x z budget (λ k. element_made k d.place d.element done (walks_on k d w outer)) → GoesOn fns frozen r x z budget (λ k. tested_by k d w outer done (condition_of d.source) v)
tested_holds fns frozen r x z budget d w outer done v t q b e1 e2 tells eb h =
    tested_as fns frozen r x z budget d w outer done v (present t) e1
    (truth_goes fns frozen r x z budget true v (place_of t) (λ k i. choose i (element_made k d.place d.element done (walks_on k d w outer)) (walks_on k d w outer done)) (tells ∙ ap Some eb) h)

pub tested_fails : (fns : Functions) (frozen : Made) (r : Result Now Halt) (x z : Going) (budget : ℕ) (d : Comp) (w : Walk) (outer : ScopeId) (done : List Val) (v : Val) (t : Tree) (q : Place) (b : Bool) → condition_of d.source ≡ present t → q ≡ place_of t → TellsTruth (Ok b) (truth (seen frozen x.state.heap) v) q → b ≡ false → GoesOn fns frozen r x z budget (λ k. walks_on k d w outer done) → GoesOn fns frozen r x z budget (λ k. tested_by k d w outer done (condition_of d.source) v)
tested_fails fns frozen r x z budget d w outer done v t q b e1 e2 tells eb h =
    tested_as fns frozen r x z budget d w outer done v (present t) e1
    (truth_goes fns frozen r x z budget false v (place_of t) (λ k i. choose i (element_made k d.place d.element done (walks_on k d w outer)) (walks_on k d w outer done)) (tells ∙ ap Some eb) h)

pub tested_stops : (fns : Functions) (frozen : Made) (h : Halt) (x : Going) (budget : ℕ) (d : Comp) (w : Walk) (outer : ScopeId) (done : List Val) (v : Val) (t : Tree) (q : Place) → condition_of d.source ≡ present t → q ≡ place_of t → TellsTruth (Err h) (truth (seen frozen x.state.heap) v) q → GoesOn fns frozen (Err h) x x budget (λ k. tested_by k d w outer done (condition_of d.source) v)
tested_stops fns frozen h x budget d w outer done v t q e1 e2 tells =
    let P : Place → Type 0 = λ i. TellsTruth (Err h) (truth (seen frozen x.state.heap) v) i in
    tested_as fns frozen (Err h) x x budget d w outer done v (present t) e1
    (truth_stops fns frozen h x budget v (place_of t) (λ k i. choose i (element_made k d.place d.element done (walks_on k d w outer)) (walks_on k d w outer done)) (subst P e2 tells))

pub tested_found : (fns : Functions) (frozen : Made) (r : Result Now Halt) (x z : Going) (budget : ℕ) (c : Comprehended) (d : Comp) (w : Walk) (outer : ScopeId) (done : List Val) (v : Val) → comp_of c ≡ Some d → GoesOn fns frozen r x z budget (λ k. tested_by k d w outer done (condition_of d.source) v) → GoesOn fns frozen r x z budget (λ k. with_comp (comp_of c) (λ a. tested_by k a w outer done (condition_of a.source) v))
tested_found fns frozen r x z budget c d w outer done v e h = comp_found fns frozen r x z budget c d (λ k a. tested_by k a w outer done (condition_of a.source) v) e h

-- ---- an element more

made_as : (fns : Functions) (frozen : Made) (r : Result Now Halt) (x z : Going) (budget : ℕ) (c : Comprehended) (d : Comp) (w : Walk) (outer : ScopeId) (done : List Val) (v : Val) (el : Element) → comp_of c ≡ Some d → d.element ≡ el → GoesOn fns frozen r x z budget (λ k. made_came k d el w outer done v) → GoesOn fns frozen r x z budget (λ k. with_comp (comp_of c) (λ a. made_came k a a.element w outer done v))
made_as fns frozen r x z budget c d w outer done v el e q h =
    let E : Element → Type 0 = λ a. GoesOn fns frozen r x z budget (λ k. made_came k d a w outer done v) in
    comp_found fns frozen r x z budget c d (λ k a. made_came k a a.element w outer done v) e (subst E (sym q) h)

pub one_came : (fns : Functions) (frozen : Made) (r : Result Now Halt) (x z : Going) (budget : ℕ) (c : Comprehended) (d : Comp) (w : Walk) (outer : ScopeId) (done : List Val) (v : Val) (t : Tree) → comp_of c ≡ Some d → d.element ≡ one t → GoesOn fns frozen r x z budget (λ k. walks_on k d w outer (done ++ v ∷ [])) → GoesOn fns frozen r x z budget (λ k. with_comp (comp_of c) (λ a. made_came k a a.element w outer done v))
one_came fns frozen r x z budget c d w outer done v t e q h = made_as fns frozen r x z budget c d w outer done v (one t) e q h

pub key_came : (fns : Functions) (frozen : Made) (r : Result Now Halt) (x z : Going) (budget : ℕ) (c : Comprehended) (d : Comp) (w : Walk) (outer : ScopeId) (done : List Val) (v : Val) (a b : Tree) → comp_of c ≡ Some d → d.element ≡ two a b → GoesOn fns frozen r x z budget (within (frame.Walk (walk.PairMade c w done outer v)) (λ k. value_of k Plain b)) → GoesOn fns frozen r x z budget (λ k. with_comp (comp_of c) (λ i. made_came k i i.element w outer done v))
key_came fns frozen r x z budget c d w outer done v a b e q h =
    let B : Option Comp → Type 0 = λ o. GoesOn fns frozen r x z budget (λ k i s. after (value_of k Plain b i s) (λ got. on_value got (λ y. with_comp o (λ j. pair_came k j w outer done v y)) i)) in
    made_as fns frozen r x z budget c d w outer done v (two a b) e q (subst B e h)

pub one_done : (fns : Functions) (frozen : Made) (r : Result Now Halt) (x z : Going) (budget : ℕ) (d : Comp) (w : Walk) (outer : ScopeId) (done more : List Val) → more ≡ done → GoesOn fns frozen r x z budget (λ k. walks_on k d w outer more) → GoesOn fns frozen r x z budget (λ k. walks_on k d w outer done)
one_done fns frozen r x z budget d w outer done more e h =
    let P : List Val → Type 0 = λ vs. GoesOn fns frozen r x z budget (λ k. walks_on k d w outer vs) in
    subst P e h

pub pair_done : (fns : Functions) (frozen : Made) (r : Result Now Halt) (x z : Going) (budget : ℕ) (c : Comprehended) (d : Comp) (w : Walk) (outer : ScopeId) (done : List Val) (key v : Val) → comp_of c ≡ Some d → GoesOn fns frozen r x z budget (λ k. pair_came k d w outer done key v) → GoesOn fns frozen r x z budget (λ k. with_comp (comp_of c) (λ a. pair_came k a w outer done key v))
pair_done fns frozen r x z budget c d w outer done key v e h = comp_found fns frozen r x z budget c d (λ k a. pair_came k a w outer done key v) e h

pub key_takes : (fns : Functions) (frozen : Made) (r : Result Now Halt) (x z : Going) (budget : ℕ) (d : Comp) (w : Walk) (outer : ScopeId) (done : List Val) (key v : Val) → is_key key ≡ true → GoesOn fns frozen r x z budget (λ k. walks_on k d w outer (done ++ key ∷ v ∷ [])) → GoesOn fns frozen r x z budget (λ k. pair_came k d w outer done key v)
key_takes fns frozen r x z budget d w outer done key v e h =
    meant_same fns frozen r x z budget (λ k. walks_on k d w outer (done ++ key ∷ v ∷ [])) (λ k. pair_came k d w outer done key v) (λ k. rw e refl) h

pub key_refused : (fns : Functions) (frozen : Made) (x : Going) (budget : ℕ) (d : Comp) (w : Walk) (outer : ScopeId) (done : List Val) (key v : Val) (p : Place) → d.place ≡ p → is_key key ≡ false → GoesOn fns frozen (Err (Stopped (record { cause = cause.Raised; place = p }))) x x budget (λ k. pair_came k d w outer done key v)
key_refused fns frozen x budget d w outer done key v p q e =
    let T : Place → Type 0 = λ y. GoesOn fns frozen (Err (Stopped (record { cause = cause.Raised; place = y }))) x x budget (λ k. pair_came k d w outer done key v) in
    subst T q (meant_same fns frozen _ x x budget (λ k. stop cause.Raised d.place) (λ k. pair_came k d w outer done key v) (λ k. rw e refl) (stop_goes fns frozen x budget cause.Raised d.place))

pub ruleset begin_rules = (source_waits, begin_lacks, no_memory)

pub ruleset source_rules = (row_waits, comp_lacks, no_memory)

pub ruleset row_rules = (over_found, comp_lacks, no_memory)

pub ruleset fit_rules = (over_refused, no_memory)

pub ruleset over_rules = (over_goes, no_memory)

pub ruleset walk_rules = (walk_out, walk_resized, walk_over, walk_turns)

pub ruleset end_rules = (ends_list, ends_dict)

pub ruleset turn_rules = (turn_spends, turn_stops, no_memory)

pub ruleset bound_rules = (where_always, where_tests, comp_lacks, no_memory)

pub ruleset made_rules = (element_waits, no_memory)

pub ruleset tested_rules = (tested_found, comp_lacks, no_memory)

pub ruleset truth_rules = (tested_always, tested_holds, tested_fails, tested_stops)

pub ruleset came_rules = (one_came, key_came, comp_lacks, no_memory)

pub ruleset more_rules = (one_done, no_memory)

pub ruleset pair_rules = (pair_done, comp_lacks, no_memory)

pub ruleset key_rules = (key_takes, key_refused, no_memory)
