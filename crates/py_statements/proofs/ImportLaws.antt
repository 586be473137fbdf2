-- Imported names by their number, and how imports go on.
use Rattle.std.proofs.Common.{◌≡◌, ℕ, zero, suc, ◌+◌, ◌<◌, ◌≤◌, refl, ap, ◌∙◌, sym, subst, List, [], ◌∷◌, ◌++◌, map, length, drop, get_or, Some, None, Result, Ok, Err, Bool, true, false, codes, arith, add-one}
use Rattle.std.specs.List.{slice_get}
use Rattle.std.proofs.lemmas.Option.{slice_get_read, slice_get_past}
use Rattle.std.proofs.lemmas.List.{append_assoc, append-nil, drop_more, drop_all}
use Rattle.amh_host.specs.declared.place.Place.{Place}
use Rattle.py_tree.specs.declared.stmt.Stmt.{Stmt}
use Rattle.py_tree.specs.declared.stmt.Imported.{Imported}
use Rattle.py_tree.specs.Programs.{step_of, steps_of, import_of}
use Rattle.py_tree.specs.Steps.{Step, Import, ImportAll, Import_name}
use Rattle.py_heap.specs.Heaps.{Made, seen}
use Rattle.py_heap.specs.Names.{scope_bound}
use Rattle.py_values.specs.declared.val.Val.{Val}
use Rattle.py_frames.specs.declared.request.Act.TheVariants as act
use Rattle.py_frames.specs.declared.request.Request.{Request}
use Rattle.py_frames.specs.declared.request.Cause.TheVariants as cause
use Rattle.py_frames.specs.declared.state.Halt.{Halt}
use Rattle.py_frames.specs.declared.state.Got.TheVariants.{Next}
use Rattle.py_frames.specs.declared.frame.Now.{Now}
use Rattle.py_frames.specs.declared.frame.StmtFrame.TheVariants as stmt
use Rattle.py_frames.specs.declared.frame.Frame.TheVariants as frame
use Rattle.py_frames.specs.declared.functions.Functions.{Functions}
use Rattle.py_frames.specs.declared.going.Going.{Going}
use Rattle.py_frames.specs.Doing.{Known, after, on_value, came, stop, choose}
use Rattle.py_frames.specs.Asking.{request, ask}
use Rattle.py_frames.specs.Own.{imported_as}
use Rattle.py_frames.specs.Values.{bind, bind_all, on_names}
use Rattle.py_frames.specs.Statements.{known, imported, dotted, with_dots, all_imported, all_asked, stands_in_module}
use Rattle.py_frames.specs.Functions.{named_val}
use Rattle.py_frames.specs.Told.{Binds}
use Rattle.py_frames.specs.Stmt_begun.{run_after}
use Rattle.py_frames.specs.Stmt_frames.{imports_from, imported_at, import_came}
use Rattle.py_frames.specs.Frames.{GoesOn, within}
use Rattle.py_frames.proofs.BeginLaws.{no_memory}
use Rattle.py_frames.proofs.ExprLaws.{bind_goes, bind_stops}
use Rattle.py_turns.proofs.IfLaws.{here_same}

imports_at : (xs : List Imported) (n : ℕ) (x : Imported) → slice_get xs n ≡ Some x → imports_from n (map import_of xs) ≡ import_of x ∷ imports_from (suc n) (map import_of xs)
imports_at [] n x h = cc
imports_at (y ∷ ys) zero x h = let e : y ≡ x = cc in ap (λ z. import_of z ∷ map import_of ys) e
imports_at (y ∷ ys) (suc n) x h = imports_at ys n x h

imports_past : (xs : List Imported) (n : ℕ) → slice_get xs n ≡ None → imports_from n (map import_of xs) ≡ []
imports_past [] zero h = refl
imports_past [] (suc n) h = refl
imports_past (x ∷ xs) zero h = cc
imports_past (x ∷ xs) (suc n) h = imports_past xs n h

pub import_found : (xs : List Imported) (n : ℕ) (x : Imported) → n < length xs → x ≡ get_or xs n x → imports_from n (map import_of xs) ≡ import_of x ∷ imports_from (n + 1) (map import_of xs)
import_found xs n x h e =
    imports_at xs n x (slice_get_read xs (length xs) n x refl h e) ∙ ap (λ j. import_of x ∷ imports_from j (map import_of xs)) (sym (add-one n))

pub import_lacks : (xs : List Imported) (n : ℕ) → length xs ≤ n → imports_from n (map import_of xs) ≡ []
import_lacks xs n h = imports_past xs n (slice_get_past xs n h)

-- ---- the name of a module

pub dots_more : (text one two name i all : List ℕ) (names : List (List ℕ)) (n : ℕ) → n < length names → i ≡ get_or names n i → one ≡ text ++ codes "." → name ≡ i → two ≡ one ++ name → text ++ with_dots (drop n names) ≡ all → two ++ with_dots (drop (n + 1) names) ≡ all
dots_more text one two name i all names n lt e1 e2 e3 e4 h =
    let rest : List ℕ = with_dots (drop (n + 1) names) in
    let d : drop n names ≡ i ∷ drop (n + 1) names = drop_more names n i lt ∙ ap (λ z. z ∷ drop (n + 1) names) (sym e1) in
    let f : two ≡ (text ++ 46 ∷ []) ++ i = e4 ∙ (ap (λ z. z ++ name) e2 ∙ ap (λ z. (text ++ 46 ∷ []) ++ z) e3) in
    ap (λ z. z ++ rest) f ∙ (append_assoc (text ++ 46 ∷ []) i rest ∙ (append_assoc text (46 ∷ []) (i ++ rest) ∙ (ap (λ z. text ++ with_dots z) (sym d) ∙ h)))

pub dots_end : (text all : List ℕ) (names : List (List ℕ)) (n : ℕ) → length names ≤ n → text ++ with_dots (drop n names) ≡ all → text ≡ all
dots_end text all names n le h = sym (append-nil text) ∙ (ap (λ z. text ++ with_dots z) (sym (drop_all n names le)) ∙ h)

pub ruleset dot_rules = (dots_more, dots_end)

pub module_more : (path rest : List (List ℕ)) (i name one two : List ℕ) → path ≡ i ∷ rest → name ≡ i → one ≡ [] ++ name → two ≡ one ++ with_dots rest → two ≡ dotted path
module_more path rest i name one two e1 e2 e3 e4 = e4 ∙ (ap (λ z. z ++ with_dots rest) (e3 ∙ e2) ∙ ap dotted (sym e1))

pub module_none : (path : List (List ℕ)) (text : List ℕ) → text ≡ [] → length path ≡ 0 → text ≡ dotted path
module_none [] text e h = e
module_none (i ∷ is) text e h = absurd (omega arith)

pub ruleset module_rules = (module_more, module_none)

-- all names of a module, in a module and elsewhere
all_where : (fns : Functions) (frozen : Made) (r : Result Now Halt) (x y : Going) (budget : ℕ) (p : Place) (path : List (List ℕ)) (t : Step) (b c : Bool) → t ≡ ImportAll p path → b ≡ stands_in_module (seen frozen x.state.heap) x.state.here.scope → b ≡ c → GoesOn fns frozen r x y budget (λ k. choose c (all_asked k (dotted path) p) (stop cause.Raised p)) → GoesOn fns frozen r x y budget (λ k. run_after k t)
all_where fns frozen r x y budget p path t b c e1 e2 e3 h =
    let N : Step → Type 0 = λ z. GoesOn fns frozen r x y budget (λ k. run_after k z) in
    let K : Known = known (steps_of fns.program) frozen x.state.here.room in
    subst N (sym e1) (here_same fns frozen r x y budget (λ k. choose c (all_asked k (dotted path) p) (stop cause.Raised p)) (λ k. all_imported k (dotted path) p) (λ w. ap (λ (d : Bool). choose d (all_asked K (dotted path) p) (stop cause.Raised p) w x.state) (sym e2 ∙ e3)) h)

pub all_within : (fns : Functions) (frozen : Made) (r : Result Now Halt) (x y : Going) (budget : ℕ) (p : Place) (path : List (List ℕ)) (t : Step) (b : Bool) → t ≡ ImportAll p path → b ≡ stands_in_module (seen frozen x.state.heap) x.state.here.scope → b ≡ true → GoesOn fns frozen r x y budget (λ k. all_asked k (dotted path) p) → GoesOn fns frozen r x y budget (λ k. run_after k t)
all_within fns frozen r x y budget p path t b e1 e2 e3 h = all_where fns frozen r x y budget p path t b true e1 e2 e3 h

pub all_outside : (fns : Functions) (frozen : Made) (r : Result Now Halt) (x y : Going) (budget : ℕ) (p : Place) (path : List (List ℕ)) (t : Step) (b : Bool) → t ≡ ImportAll p path → b ≡ stands_in_module (seen frozen x.state.heap) x.state.here.scope → b ≡ false → GoesOn fns frozen r x y budget (λ k. stop cause.Raised p) → GoesOn fns frozen r x y budget (λ k. run_after k t)
all_outside fns frozen r x y budget p path t b e1 e2 e3 h = all_where fns frozen r x y budget p path t b false e1 e2 e3 h

pub all_begins : (fns : Functions) (frozen : Made) (r : Result Now Halt) (x y : Going) (budget : ℕ) (p : Place) (path : List (List ℕ)) (q : Request) → q ≡ request act.Import [] (dotted path ∷ codes "*" ∷ []) p → GoesOn fns frozen r x y budget (within (frame.Stmt (stmt.AllImported p)) (λ k. ask k q)) → GoesOn fns frozen r x y budget (λ k. all_asked k (dotted path) p)
all_begins fns frozen r x y budget p path q e2 h =
    let R : Request → Type 0 = λ z. GoesOn fns frozen r x y budget (λ k w s. after (ask k z w s) (λ got. on_names got (λ names. bind_all k names p (came Next)) w)) in
    subst R e2 h

-- the names of a module, from the first on
pub import_begins : (fns : Functions) (frozen : Made) (r : Result Now Halt) (x y : Going) (budget : ℕ) (p : Place) (path : List (List ℕ)) (xs : List Import_name) (t : Step) → t ≡ Import p path xs → GoesOn fns frozen r x y budget (λ k. imported k (dotted path) p (imports_from 0 xs)) → GoesOn fns frozen r x y budget (λ k. run_after k t)
import_begins fns frozen r x y budget p path xs t e h =
    let N : Step → Type 0 = λ z. GoesOn fns frozen r x y budget (λ k. run_after k z) in
    subst N (sym e) h

-- a name of a module
pub import_asks : (fns : Functions) (frozen : Made) (r : Result Now Halt) (x y : Going) (budget n : ℕ) (p : Place) (path : List (List ℕ)) (xs : List Import_name) (i : Import_name) (t : Step) (node : Stmt) (q : Request) → t ≡ Import p path xs → step_of node ≡ t → imports_from n xs ≡ i ∷ imports_from (n + 1) xs → q ≡ request act.Import [] (dotted path ∷ i.name ∷ []) p → GoesOn fns frozen r x y budget (within (frame.Stmt (stmt.Imported node n)) (λ k. ask k q)) → GoesOn fns frozen r x y budget (λ k. imported k (dotted path) p (imports_from n xs))
import_asks fns frozen r x y budget n p path xs i t node q e1 e2 e3 e4 h =
    let S : Step → Type 0 = λ z. GoesOn fns frozen r x y budget (λ k w s. after (ask k q w s) (λ got. on_value got (imported_at k n z) w)) in
    let R : Request → Type 0 = λ z. GoesOn fns frozen r x y budget (λ k w s. after (ask k z w s) (λ got. on_value got (imported_at k n (Import p path xs)) w)) in
    let I : List Import_name → Type 0 = λ z. GoesOn fns frozen r x y budget (λ k w s. after (ask k (request act.Import [] (dotted path ∷ i.name ∷ []) p) w s) (λ got. on_value got (import_came k (dotted path) p z) w)) in
    let Q : List Import_name → Type 0 = λ z. GoesOn fns frozen r x y budget (λ k. imported k (dotted path) p z) in
    subst Q (sym e3) (subst I e3 (subst R e4 (subst S (e2 ∙ e1) h)))

pub imports_end : (fns : Functions) (frozen : Made) (r : Result Now Halt) (x y : Going) (budget n : ℕ) (p : Place) (path : List ℕ) (xs : List Import_name) → imports_from n xs ≡ [] → GoesOn fns frozen r x y budget (λ k. came Next) → GoesOn fns frozen r x y budget (λ k. imported k path p (imports_from n xs))
imports_end fns frozen r x y budget n p path xs e h =
    let Q : List Import_name → Type 0 = λ z. GoesOn fns frozen r x y budget (λ k. imported k path p z) in
    subst Q (sym e) h

-- what a name that has come is
at_import : (fns : Functions) (frozen : Made) (r : Result Now Halt) (x y : Going) (budget n : ℕ) (p : Place) (path : List (List ℕ)) (xs zs : List Import_name) (t : Step) (v : Val) → t ≡ Import p path xs → imports_from n xs ≡ zs → GoesOn fns frozen r x y budget (λ k. import_came k (dotted path) p zs v) → GoesOn fns frozen r x y budget (λ k. imported_at k n t v)
at_import fns frozen r x y budget n p path xs zs t v e1 e2 h =
    let N : Step → Type 0 = λ z. GoesOn fns frozen r x y budget (λ k. imported_at k n z v) in
    let I : List Import_name → Type 0 = λ z. GoesOn fns frozen r x y budget (λ k. import_came k (dotted path) p z v) in
    subst N (sym e1) (subst I (sym e2) h)

pub import_none : (fns : Functions) (frozen : Made) (r : Result Now Halt) (x y : Going) (budget n : ℕ) (p : Place) (path : List (List ℕ)) (xs : List Import_name) (t : Step) (v : Val) → t ≡ Import p path xs → imports_from n xs ≡ [] → GoesOn fns frozen r x y budget (λ k. came Next) → GoesOn fns frozen r x y budget (λ k. imported_at k n t v)
import_none fns frozen r x y budget n p path xs t v e1 e2 h = at_import fns frozen r x y budget n p path xs [] t v e1 e2 h

pub import_binds : (fns : Functions) (frozen : Made) (r : Result Now Halt) (x y z : Going) (budget n : ℕ) (p : Place) (path : List (List ℕ)) (xs : List Import_name) (i : Import_name) (t : Step) (v : Val) (u : Unit {0}) (name : List ℕ) → t ≡ Import p path xs → imports_from n xs ≡ i ∷ imports_from (n + 1) xs → name ≡ imported_as i.name i.bound → Binds (Ok u) (scope_bound (seen frozen x.state.heap) x.state.here.scope.0 name v) (named_val name v) p x y → GoesOn fns frozen r y z budget (λ k. imported k (dotted path) p (imports_from (n + 1) xs)) → GoesOn fns frozen r x z budget (λ k. imported_at k n t v)
import_binds fns frozen r x y z budget n p path xs i t v u name e1 e2 e3 b h =
    let Q : List ℕ → Type 0 = λ j. GoesOn fns frozen r x z budget (λ k. bind k j v p (imported k (dotted path) p (imports_from (n + 1) xs))) in
    at_import fns frozen r x z budget n p path xs (i ∷ imports_from (n + 1) xs) t v e1 e2
    (subst Q e3 (bind_goes fns frozen r x y z budget u name v p (λ k. imported k (dotted path) p (imports_from (n + 1) xs)) b h))

pub import_refused : (fns : Functions) (frozen : Made) (e : Halt) (x y : Going) (budget n : ℕ) (p : Place) (path : List (List ℕ)) (xs : List Import_name) (i : Import_name) (t : Step) (v : Val) (name : List ℕ) → t ≡ Import p path xs → imports_from n xs ≡ i ∷ imports_from (n + 1) xs → name ≡ imported_as i.name i.bound → Binds (Err e) (scope_bound (seen frozen x.state.heap) x.state.here.scope.0 name v) (named_val name v) p x y → GoesOn fns frozen (Err e) x y budget (λ k. imported_at k n t v)
import_refused fns frozen e x y budget n p path xs i t v name e1 e2 e3 b =
    let Q : List ℕ → Type 0 = λ j. GoesOn fns frozen (Err e) x y budget (λ k. bind k j v p (imported k (dotted path) p (imports_from (n + 1) xs))) in
    at_import fns frozen (Err e) x y budget n p path xs (i ∷ imports_from (n + 1) xs) t v e1 e2
    (subst Q e3 (bind_stops fns frozen e x y budget name v p (λ k. imported k (dotted path) p (imports_from (n + 1) xs)) b))

pub ruleset import_rules = (import_found, import_lacks)

pub ruleset begin_rules = (import_begins)

pub ruleset within_rules = (all_within, all_outside)

pub ruleset all_rules = (all_begins, no_memory)

pub ruleset turn_rules = (import_asks, imports_end, no_memory)

pub ruleset bound_rules = (import_none, import_binds, import_refused)
