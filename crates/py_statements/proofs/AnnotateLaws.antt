-- How annotated assignments go on.
use Rattle.std.proofs.Common.{◌≡◌, ℕ, refl, ap, ◌∙◌, sym, subst, Bool, true, false, List, [], ◌∷◌, ◌++◌, Result, Ok, Err}
use Rattle.amh_host.specs.declared.place.Place.{Place}
use Rattle.py_tree.specs.declared.stmt.Stmt.{Stmt}
use Rattle.py_tree.specs.Programs.{step_of, steps_of}
use Rattle.py_tree.specs.Tree.{Tree, Perhaps, absent, present}
use Rattle.py_tree.specs.Steps.{Step, Annotate}
use Rattle.py_heap.specs.Heaps.{Made, seen}
use Rattle.py_values.specs.declared.val.Val.{Val}
use Rattle.py_frames.specs.declared.request.NamedVal.{NamedVal}
use Rattle.py_frames.specs.declared.state.Halt.{Halt}
use Rattle.py_frames.specs.declared.state.Halt.TheVariants.{Asks, Stopped, NoMemory}
use Rattle.py_frames.specs.declared.state.Got.{Got}
use Rattle.py_frames.specs.declared.state.Got.TheVariants.{Next}
use Rattle.py_frames.specs.declared.frame.Now.{Now}
use Rattle.py_frames.specs.declared.frame.Purpose.{Purpose}
use Rattle.py_frames.specs.declared.frame.Purpose.TheVariants.{Plain}
use Rattle.py_frames.specs.declared.frame.Frame.{Frame}
use Rattle.py_frames.specs.declared.frame.StmtFrame.TheVariants as stmt
use Rattle.py_frames.specs.declared.frame.Frame.TheVariants as frame
use Rattle.py_frames.specs.declared.functions.Functions.{Functions}
use Rattle.py_frames.specs.declared.going.Going.{Going}
use Rattle.py_frames.specs.Doing.{Doing, Known, after, on_value, on_next, came, choose, ◌>>=◌}
use Rattle.py_frames.specs.Functions.{named_val}
use Rattle.py_frames.specs.Own.{is_simple}
use Rattle.py_frames.specs.Expressions.{value_of, reach}
use Rattle.py_frames.specs.Statements.{known, annotated, evaluates_annotations, note, note_of, target_purpose}
use Rattle.py_frames.specs.Stmt_begun.{run_after, leaves, note_named}
use Rattle.py_frames.specs.Stmt_frames.{annotate_stored, annotates, notes}
use Rattle.py_frames.specs.Frames.{GoesOn, within}
use Rattle.py_frames.proofs.BeginLaws.{no_memory, pushed}
use Rattle.py_frames.proofs.StmtLaws.{meant_same}
use Rattle.py_frames.proofs.StmtGoes.{next_leaves, next_stays}
use Rattle.py_turns.proofs.IfLaws.{here_same}

-- an annotation without a value: its target is reached, and then comes the annotation
pub annotate_reaches : (fns : Functions) (frozen : Made) (r : Result Now Halt) (x z : Going) (budget : ℕ) (p : Place) (a b : Tree) (t : Step) (outer : Stmt) (fs : List Frame) → t ≡ Annotate p a b absent → step_of outer ≡ t → fs ≡ frame.Stmt (stmt.Annotating outer) ∷ x.frames → GoesOn fns frozen r (record x { frames = fs }) z budget (λ k. reach k a) → GoesOn fns frozen r x z budget (λ k. run_after k t)
annotate_reaches fns frozen r x z budget p a b t outer fs e1 e2 e3 h =
    let F : List Frame → Type 0 = λ g. GoesOn fns frozen r (record x { frames = g }) z budget (λ k. reach k a) in
    let O : Step → Type 0 = λ j. GoesOn fns frozen r x z budget (λ k w s. after (reach k a w s) (λ got. on_next got (annotates k j) w)) in
    let N : Step → Type 0 = λ j. GoesOn fns frozen r x z budget (λ k. run_after k j) in
    let g = pushed fns frozen r x z budget (frame.Stmt (stmt.Annotating outer)) (λ k. reach k a) refl (subst F e3 h) in
    subst N (sym e1) (subst O (e2 ∙ e1) g)

-- a value goes to its target, and then comes the annotation
pub annotate_begins : (fns : Functions) (frozen : Made) (r : Result Now Halt) (x z : Going) (budget : ℕ) (p : Place) (a b c : Tree) (t : Step) (u : Purpose) (outer node : Stmt) (fs : List Frame) → t ≡ Annotate p a b (present c) → step_of outer ≡ t → step_of node ≡ t → u ≡ target_purpose a → fs ≡ frame.Stmt (stmt.Annotating outer) ∷ x.frames → GoesOn fns frozen r (record x { frames = fs }) z budget (within (frame.Stmt (stmt.Annotated node)) (λ k. value_of k u c)) → GoesOn fns frozen r x z budget (λ k. run_after k t)
annotate_begins fns frozen r x z budget p a b c t u outer node fs e1 e2 e3 e4 e5 h =
    let F : List Frame → Type 0 = λ g. GoesOn fns frozen r (record x { frames = g }) z budget (within (frame.Stmt (stmt.Annotated node)) (λ k. value_of k u c)) in
    let M : Purpose → Step → Step → Known → Doing = λ v i j k w s. after (after (value_of k v c w s) (λ got. on_value got (annotate_stored k i) w)) (λ got. on_next got (annotates k j) w) in
    let S : Step → Type 0 = λ i. GoesOn fns frozen r x z budget (M u i (step_of outer)) in
    let O : Step → Type 0 = λ j. GoesOn fns frozen r x z budget (M u (Annotate p a b (present c)) j) in
    let U : Purpose → Type 0 = λ v. GoesOn fns frozen r x z budget (M v (Annotate p a b (present c)) (Annotate p a b (present c))) in
    let N : Step → Type 0 = λ j. GoesOn fns frozen r x z budget (λ k. run_after k j) in
    let g = pushed fns frozen r x z budget (frame.Stmt (stmt.Annotating outer)) (within (frame.Stmt (stmt.Annotated node)) (λ k. value_of k u c)) refl (subst F e5 h) in
    subst N (sym e1) (subst U e4 (subst O (e2 ∙ e1) (subst S (e3 ∙ e1) g)))

-- an annotation that is evaluated, and one that is not
pub annotation_waits : (fns : Functions) (frozen : Made) (r : Result Now Halt) (x y : Going) (budget : ℕ) (p : Place) (a b : Tree) (o : Perhaps) (t : Step) (node : Stmt) (e : Bool) → t ≡ Annotate p a b o → step_of node ≡ t → e ≡ evaluates_annotations (seen frozen x.state.heap) x.state.here.scope → e ≡ true → GoesOn fns frozen r x y budget (within (frame.Stmt (stmt.Noted node)) (λ k. value_of k Plain b)) → GoesOn fns frozen r x y budget (λ k. annotated k p a b)
annotation_waits fns frozen r x y budget p a b o t node e e1 e2 e3 e4 h =
    let S : Step → Type 0 = λ z. GoesOn fns frozen r x y budget (λ k w s. after (value_of k Plain b w s) (λ got. on_value got (notes z) w)) in
    here_same fns frozen r x y budget (λ k. value_of k Plain b >>= note p a) (λ k. annotated k p a b) (λ w. ap (λ c. choose c (value_of (known (steps_of fns.program) frozen x.state.here.room) Plain b >>= note p a) (came Next) w x.state) (sym e3 ∙ e4)) (subst S (e2 ∙ e1) h)

pub annotation_lacks : (fns : Functions) (frozen : Made) (r : Result Now Halt) (x y : Going) (budget : ℕ) (p : Place) (a b : Tree) (e : Bool) → e ≡ evaluates_annotations (seen frozen x.state.heap) x.state.here.scope → e ≡ false → GoesOn fns frozen r x y budget (λ k. came Next) → GoesOn fns frozen r x y budget (λ k. annotated k p a b)
annotation_lacks fns frozen r x y budget p a b e e3 e4 h =
    here_same fns frozen r x y budget (λ k. came Next) (λ k. annotated k p a b) (λ w. ap (λ c. choose c (value_of (known (steps_of fns.program) frozen x.state.here.room) Plain b >>= note p a) (came Next) w x.state) (sym e3 ∙ e4)) h

pub stored_leaves : (fns : Functions) (frozen : Made) (r : Result Now Halt) (x y : Going) (budget : ℕ) (t : Step) (got : Got) → leaves got ≡ true → GoesOn fns frozen r x y budget (λ k. came got) → GoesOn fns frozen r x y budget (λ k. on_next got (annotates k t))
stored_leaves fns frozen r x y budget t got e h =
    meant_same fns frozen r x y budget (λ k. came got) (λ k. on_next got (annotates k t)) (λ k. next_leaves got (annotates k t) e) h

pub stored_stays : (fns : Functions) (frozen : Made) (r : Result Now Halt) (x y : Going) (budget : ℕ) (t : Step) (got : Got) → leaves got ≡ false → GoesOn fns frozen r x y budget (λ k. annotates k t) → GoesOn fns frozen r x y budget (λ k. on_next got (annotates k t))
stored_stays fns frozen r x y budget t got e h =
    meant_same fns frozen r x y budget (λ k. annotates k t) (λ k. on_next got (annotates k t)) (λ k. next_stays got (annotates k t) e) h

-- notes that are kept
note_goes : (fns : Functions) (frozen : Made) (r : Result Now Halt) (x z : Going) (budget : ℕ) (name : List ℕ) (v : Val) → GoesOn fns frozen r (record x { state = record x.state { here = record x.state.here { notes = x.state.here.notes ++ named_val name v ∷ [] } } }) z budget (λ k. came Next) → GoesOn fns frozen r x z budget (λ k. note_named name v)
unfolding GoesOn
note_goes fns frozen (Ok now) x z budget name v h = h
note_goes fns frozen (Err (Stopped stop)) x z budget name v h = h
note_goes fns frozen (Err (Asks q)) x z budget name v h = h
note_goes fns frozen (Err NoMemory) x z budget name v h = h

pub note_kept : (fns : Functions) (frozen : Made) (r : Result Now Halt) (x z : Going) (budget : ℕ) (name : List ℕ) (v : Val) (n : NamedVal) (ns : List NamedVal) → n ≡ named_val name v → ns ≡ x.state.here.notes ++ n ∷ [] → GoesOn fns frozen r (record x { state = record x.state { here = record x.state.here { notes = ns } } }) z budget (λ k. came Next) → GoesOn fns frozen r x z budget (λ k. note_named name v)
note_kept fns frozen r x z budget name v n ns e1 e2 h =
    let P : List NamedVal → Type 0 = λ l. GoesOn fns frozen r (record x { state = record x.state { here = record x.state.here { notes = l } } }) z budget (λ k. came Next) in
    note_goes fns frozen r x z budget name v (subst P (e2 ∙ ap (λ i. x.state.here.notes ++ i ∷ []) e1) h)

-- whether the name has brackets decides
simple_as : (fns : Functions) (frozen : Made) (r : Result Now Halt) (x y : Going) (budget : ℕ) (p : Place) (t : Tree) (v : Val) (b c : Bool) → b ≡ is_simple p t → b ≡ c → GoesOn fns frozen r x y budget (λ k. choose c (note_of t v) (came Next)) → GoesOn fns frozen r x y budget (λ k. note p t v)
simple_as fns frozen r x y budget p t v b c e1 e2 h =
    meant_same fns frozen r x y budget (λ k. choose c (note_of t v) (came Next)) (λ k. note p t v) (λ k. ap (λ (d : Bool). choose d (note_of t v) (came Next)) (sym e1 ∙ e2)) h

pub simple_kept : (fns : Functions) (frozen : Made) (r : Result Now Halt) (x y : Going) (budget : ℕ) (p : Place) (t : Tree) (v : Val) (b : Bool) → b ≡ is_simple p t → b ≡ true → GoesOn fns frozen r x y budget (λ k. note_of t v) → GoesOn fns frozen r x y budget (λ k. note p t v)
simple_kept fns frozen r x y budget p t v b e1 e2 h = simple_as fns frozen r x y budget p t v b true e1 e2 h

pub simple_lacks : (fns : Functions) (frozen : Made) (r : Result Now Halt) (x y : Going) (budget : ℕ) (p : Place) (t : Tree) (v : Val) (b : Bool) → b ≡ is_simple p t → b ≡ false → GoesOn fns frozen r x y budget (λ k. came Next) → GoesOn fns frozen r x y budget (λ k. note p t v)
simple_lacks fns frozen r x y budget p t v b e1 e2 h = simple_as fns frozen r x y budget p t v b false e1 e2 h

pub ruleset simple_rules = (simple_kept, simple_lacks)

pub ruleset value_rules = (annotate_begins, no_memory)

pub ruleset annotation_rules = (annotation_waits, annotation_lacks, no_memory)

pub ruleset stored_rules = (stored_leaves, stored_stays)

pub ruleset note_rules = (note_kept, no_memory)
