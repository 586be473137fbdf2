-- Trees that are taken from a forest one after the other, and the forest of nodes, read from the last node on.
use Rattle.std.proofs.Common.{◌≡◌, ℕ, zero, suc, ◌+◌, ◌-◌, ◌<◌, ◌≤◌, refl, ap, ◌∙◌, sym, subst, Bool, true, false, List, [], ◌∷◌, ◌++◌, length, map, drop, get_or, Option, Some, None, Result, Ok, Err, arith, true≢false, is_some}
use Rattle.std.specs.Prelude.{reverse, slice_get, slice_index_or, option_and_then, ◌||◌, if◌then◌else◌, IfOk}
use Rattle.std.specs.Option.{option_map_or}
use Rattle.std.specs.List.{list_any}
use Rattle.std.proofs.lemmas.List.{length-reverse, reverse-append}
use Rattle.amh_host.specs.declared.place.Kind.TheVariants.{Raised}
use Rattle.clock_domains.specs.Resolved.{file_start}
use Rattle.design_ir.specs.Forests.{Leaf, Forest, bare, grown, forest_and}
use Rattle.design_ir.specs.Fragments.{leaf_of, forest_of}
use Rattle.design_ir.specs.Pools.{Pooled}
use Rattle.design_ir.specs.declared.fragment.Fragment.{Fragment}
use Rattle.module_dsl.specs.Builders.{Built, fragment_of}
use Rattle.design_ir.specs.declared.domain.DomainDef.{DomainDef}
use Rattle.design_ir.specs.declared.memory.Memory.{Memory}
use Rattle.design_ir.specs.declared.process.Process.{Process}
use Rattle.domain_transforms.specs.declared.stop.ControlStop.{ControlStop}
use Rattle.domain_transforms.specs.declared.stop.ControlStop.TheVariants as control
use Rattle.elab_store.specs.declared.hierarchy.Node.{Node}
use Rattle.elab_store.specs.declared.hierarchy.NodeOf.TheVariants as node
use Rattle.elab_store.specs.declared.memories.OwnMemory.{OwnMemory}
use Rattle.elab_store.specs.declared.wrappings.Wrapping.{Wrapping}
use Rattle.elab_store.specs.ClockDomains.{defined_by}
use Rattle.elab_store.specs.Stores.{Stored}
use Rattle.lists.specs.declared.items.NoMemory.{NoMemory}
use Rattle.elab_eval.specs.declared.refusal.ElabStop.{ElabStop}
use Rattle.elab_eval.specs.declared.refusal.ElabStop.TheVariants as stops
use Rattle.elab_eval.specs.Elaborates.{is_open, is_open_at, is_open_wrap, node_name, spec_of, leaf_in, first_trees, other_trees, first_wrapped, wrapped_by, is_past_by, within_counts, wrapped, and_then, put_before, node_put, forest_of_nodes, root_domains, root_before, root_wrapped, tree_of}
use Rattle.elab_eval.specs.Trees.{finished, is_missing, fragment_with, wrapper_stop, tree_found, IsGot}

-- ---- one tree more

pub one_more : (i k : ℕ) (f : Forest) (l : Leaf) (b r : Forest) → k ≡ suc i → other_trees i f ≡ grown l b r → (first_trees k f ≡ forest_and (first_trees i f) l b) × (other_trees k f ≡ r)
one_more i k f l b r same e = subst (λ n. (first_trees n f ≡ forest_and (first_trees i f) l b) × (other_trees n f ≡ r)) (sym same) (next i f e)
  where
    next : (i : ℕ) (f : Forest) → other_trees i f ≡ grown l b r → (first_trees (suc i) f ≡ forest_and (first_trees i f) l b) × (other_trees (suc i) f ≡ r)
    next zero bare e = cc
    next zero (grown k c s) e = (cc, cc)
    next (suc i) bare e = cc
    next (suc i) (grown k c s) e = let more = next i s e in (ap (λ g. grown k c g) more.0, more.1)

-- where none is left there are no more
pub none_more : (i n : ℕ) (f : Forest) → i ≤ n → other_trees i f ≡ bare → (first_trees n f ≡ first_trees i f) × (other_trees n f ≡ bare)
none_more zero zero f h e = (refl, e)
none_more zero (suc n) bare h e = (refl, refl)
none_more zero (suc n) (grown k c s) h e = cc
none_more (suc i) zero f h e = absurd (omega (arith, h))
none_more (suc i) (suc n) bare h e = (refl, refl)
none_more (suc i) (suc n) (grown k c s) h e = let more = none_more i n s (omega (arith, h)) e in (ap (λ g. grown k c g) more.0, more.1)

-- all of them
pub every_tree : (fs : List Fragment) (n : ℕ) → n ≡ length fs → first_trees n (forest_of fs) ≡ forest_of fs
every_tree [] zero e = refl
every_tree [] (suc n) e = refl
every_tree (f ∷ fs) zero e = absurd (omega (arith, e))
every_tree (f ∷ fs) (suc n) e = ap (λ g. grown (leaf_of f) f.submodules g) (every_tree fs n (omega (arith, e)))

-- ---- a stack of trees

pub put_first : (fs gs : List Fragment) (f : Fragment) → gs ≡ fs ++ f ∷ [] → forest_of (reverse gs) ≡ grown (leaf_of f) f.submodules (forest_of (reverse fs))
put_first fs gs f e = ap (λ xs. forest_of (reverse xs)) e ∙ ap forest_of (reverse-append fs (f ∷ []))

-- where all are taken
pub all_taken : (r : Result Forest NoMemory) (fs : List Fragment) (f after : Forest) (n : ℕ) → forest_of (reverse fs) ≡ f → n ≡ length fs → IfOk r (λ g. (g ≡ first_trees n f) × (after ≡ other_trees n f)) → IfOk r (λ g. g ≡ f)
all_taken (Err e) fs f after n is count h = tt
all_taken (Ok g) fs f after n is count h =
    h.0 ∙ ap (first_trees n) (sym is) ∙ every_tree (reverse fs) n (count ∙ sym (length-reverse fs)) ∙ is

pub none_past : {X : Type 0} (xs : List X) (k : ℕ) → length xs ≤ k → slice_get xs k ≡ None
none_past [] k h = refl
none_past (x ∷ xs) zero h = absurd (omega (arith, h))
none_past (x ∷ xs) (suc k) h = none_past xs k (omega (arith, h))

-- ---- modules that are done with

found_at : (bs : List Built) (m : ℕ) (f : Fragment) → slice_get (map finished bs) m ≡ Some (Some f) → fragment_of (slice_index_or bs m (record { name = []; steps = [] })) ≡ f
found_at [] m f at = absurd (true≢false (ap is_some (sym at)))
found_at (b ∷ bs) zero f at = by_test (is_open b) at
  where
    by_test : (o : Bool) → Some (if o then None else Some (fragment_of b)) ≡ Some (Some f) → fragment_of b ≡ f
    by_test true at = cc
    by_test false at = cc
found_at (b ∷ bs) (suc m) f at = found_at bs m f at

-- what a module that is done with is made of stands under the name of its node
pub module_leaf : (s : Stored) (name : List ℕ) (m : ℕ) (f : Fragment) → slice_get (map finished s.modules) m ≡ Some (Some f) → leaf_in s name (node.Module m) ≡ leaf_of (fragment_with name (defined_by m s.clock_domains) f.processes [] bare)
unfolding fragment_of
module_leaf s name m f at = ap (λ (g : Fragment). leaf_of (fragment_with name (defined_by m s.clock_domains) g.processes [] bare)) (found_at s.modules m f at)

pub memory_leaf : (s : Stored) (name : List ℕ) (k : ℕ) (own : OwnMemory) → slice_get s.memories k ≡ Some own → leaf_in s name (node.Memory k) ≡ leaf_of (fragment_with name [] [] (own.spec ∷ []) bare)
memory_leaf s name k own at = ap (λ o. leaf_of (fragment_with name [] [] (spec_of o) bare)) at

-- a module or a memory before the trees behind it, by what its fragment is made of
pub module_got : (s : Stored) (x : Node) (m : ℕ) (f : Fragment) (name : List ℕ) (ds : List DomainDef) (ps : List Process) (ms : List Memory) (behind : Forest) (r : Result Forest NoMemory) → slice_get (map finished s.modules) m ≡ Some (Some f)
    → name ≡ node_name s x → ds ≡ defined_by m s.clock_domains → ps ≡ f.processes → ms ≡ []
    → IfOk r (λ ts. ts ≡ grown (leaf_of (fragment_with name ds ps ms bare)) (first_trees x.below behind) (other_trees x.below behind))
    → IfOk r (λ ts. ts ≡ grown (leaf_in s (node_name s x) (node.Module m)) (first_trees x.below behind) (other_trees x.below behind))
module_got s x m f name ds ps ms behind r at named defined processed none h =
    let one = leaf_of (fragment_with name ds ps ms bare) in
    let leaf : one ≡ leaf_in s (node_name s x) (node.Module m) =
    ap (λ n. leaf_of (fragment_with n ds ps ms bare)) named ∙ ap (λ d. leaf_of (fragment_with (node_name s x) d ps ms bare)) defined ∙ ap (λ p. leaf_of (fragment_with (node_name s x) (defined_by m s.clock_domains) p ms bare)) processed
    ∙ ap (λ own. leaf_of (fragment_with (node_name s x) (defined_by m s.clock_domains) f.processes own bare)) none ∙ sym (module_leaf s (node_name s x) m f at) in
    subst (λ l. IfOk r (λ ts. ts ≡ grown l (first_trees x.below behind) (other_trees x.below behind))) leaf h

pub memory_got : (s : Stored) (x : Node) (k : ℕ) (own : OwnMemory) (name : List ℕ) (ds : List DomainDef) (ps : List Process) (ms : List Memory) (behind : Forest) (r : Result Forest NoMemory) → slice_get s.memories k ≡ Some own
    → name ≡ node_name s x → ds ≡ [] → ps ≡ [] → ms ≡ own.spec ∷ []
    → IfOk r (λ ts. ts ≡ grown (leaf_of (fragment_with name ds ps ms bare)) (first_trees x.below behind) (other_trees x.below behind))
    → IfOk r (λ ts. ts ≡ grown (leaf_in s (node_name s x) (node.Memory k)) (first_trees x.below behind) (other_trees x.below behind))
memory_got s x k own name ds ps ms behind r at named defined processed mine h =
    let one = leaf_of (fragment_with name ds ps ms bare) in
    let leaf : one ≡ leaf_in s (node_name s x) (node.Memory k) =
    ap (λ n. leaf_of (fragment_with n ds ps ms bare)) named ∙ ap (λ d. leaf_of (fragment_with (node_name s x) d ps ms bare)) defined ∙ ap (λ p. leaf_of (fragment_with (node_name s x) [] p ms bare)) processed
    ∙ ap (λ spec. leaf_of (fragment_with (node_name s x) [] [] spec bare)) mine ∙ sym (memory_leaf s (node_name s x) k own at) in
    subst (λ l. IfOk r (λ ts. ts ≡ grown l (first_trees x.below behind) (other_trees x.below behind))) leaf h

-- there is none, or a block of it is open
pub open_at : (bs : List Built) (m : ℕ) → option_map_or is_open (slice_get bs m) true ≡ is_missing (slice_get (map finished bs) m)
open_at [] m = refl
open_at (b ∷ bs) zero = by_test (is_open b)
  where
    by_test : (o : Bool) → o ≡ is_missing (Some (if o then None else Some (fragment_of b)))
    by_test true = refl
    by_test false = refl
open_at (b ∷ bs) (suc m) = open_at bs m

both_false : (a b : Bool) → (a || b) ≡ false → (a ≡ false) × (b ≡ false)
both_false true b e = absurd (true≢false e)
both_false false b e = (refl, e)

pub none_open : {X : Type 0} (p : X → Bool) (xs : List X) (k : ℕ) (x : X) → list_any p xs ≡ false → slice_get xs k ≡ Some x → p x ≡ false
none_open p [] k x e at = absurd (true≢false (ap is_some (sym at)))
none_open p (y ∷ xs) zero x e at = let same : y ≡ x = cc in subst (λ z. p z ≡ false) same (both_false (p y) (list_any p xs) e).0
none_open p (y ∷ xs) (suc k) x e at = none_open p xs k x (both_false (p y) (list_any p xs) e).1 at

-- ---- lists, read at a place

dropped : {X : Type 0} (xs : List X) (k : ℕ) (x : X) → slice_get xs k ≡ Some x → drop k xs ≡ x ∷ drop (suc k) xs
dropped [] k x e = absurd (true≢false (ap is_some (sym e)))
dropped (y ∷ xs) zero x e = let same : y ≡ x = cc in ap (λ z. z ∷ xs) same
dropped (y ∷ xs) (suc k) x e = dropped xs k x e

-- a wrapping that is not there, and one that is
wrap_past : (ws : List Wrapping) (k : ℕ) → length ws ≤ k → option_map_or (λ (x : Wrapping). false) (slice_get ws k) true ≡ true
wrap_past ws k h = ap (λ o. option_map_or (λ (x : Wrapping). false) o true) (none_past ws k h)

wrap_there : (ws : List Wrapping) (k : ℕ) → k < length ws → option_map_or (λ (x : Wrapping). false) (slice_get ws k) true ≡ false
wrap_there [] k h = absurd (omega (arith, h))
wrap_there (w ∷ ws) zero h = refl
wrap_there (w ∷ ws) (suc k) h = wrap_there ws k (omega (arith, h))

pub wrap_found : (s : Stored) (ks : List ℕ) (i k : ℕ) → slice_get ks i ≡ Some k → length s.wrappings ≤ k → list_any (is_open_wrap s) (drop i ks) ≡ list_any (is_open_wrap s) ks → true ≡ list_any (is_open_wrap s) ks
wrap_found s ks i k at past h =
    ap (λ b. b || list_any (is_open_wrap s) (drop (suc i) ks)) (sym (wrap_past s.wrappings k past)) ∙ ap (list_any (is_open_wrap s)) (sym (dropped ks i k at)) ∙ h

pub wrap_next : (s : Stored) (ks : List ℕ) (i k : ℕ) → slice_get ks i ≡ Some k → k < length s.wrappings → list_any (is_open_wrap s) (drop i ks) ≡ list_any (is_open_wrap s) ks → list_any (is_open_wrap s) (drop (i + 1) ks) ≡ list_any (is_open_wrap s) ks
wrap_next s ks i k at few h =
    let next : i + 1 ≡ suc i = omega arith in
    ap (λ n. list_any (is_open_wrap s) (drop n ks)) next ∙ ap (λ b. b || list_any (is_open_wrap s) (drop (suc i) ks)) (sym (wrap_there s.wrappings k few)) ∙ ap (list_any (is_open_wrap s)) (sym (dropped ks i k at)) ∙ h

-- ---- what is got, and what is refused

pub still_refused : {A B : Type 0} (stop : ElabStop) (q p : Pooled) (r : Result (A × Pooled) ElabStop) (t : Result (B × Pooled) ElabStop) → ((x : ElabStop) → r ≡ Err x → t ≡ Err x) → IsGot {A = A} (Err stop) q r → IsGot {A = B} (Err stop) p t
still_refused stops.NoMemory q p r t f h = tt
still_refused (stops.Refused k place) q p r t f h = f (stops.Refused k place) h
still_refused (stops.Spent place) q p r t f h = f (stops.Spent place) h

pub stopped_as : {A : Type 0} (x stop : ElabStop) (q : Pooled) (owed : Result (A × Pooled) ElabStop) → x ≡ stop → IsGot {A = A} (Err stop) q owed → IsGot {A = A} (Err x) q owed
stopped_as {A = A} x stop q owed is h = subst (λ y. IsGot {A = A} (Err y) q owed) (sym is) h

-- ---- what a wrapping makes

pub wrapped_none : (o : Option Wrapping) (t : Fragment × Pooled) → o ≡ None → wrapped o t ≡ Err (stops.Refused Raised file_start)
wrapped_none o t e = ap (λ x. wrapped x t) e

pub wrapped_got : (o : Option Wrapping) (w : Wrapping) (f g : Fragment) (q p : Pooled) → o ≡ Some w → (g, p) ≡ wrapped_by w q f → is_past_by w (wrapped_by w q f) ≡ false → wrapped o (f, q) ≡ Ok (g, p)
wrapped_got o w f g q p is made few = ap (λ x. wrapped x (f, q)) is ∙ ap (λ (b : Bool). within_counts b (wrapped_by w q f)) few ∙ ap (λ (t : Fragment × Pooled). Ok t) (sym made)

pub wrapped_stopped : (o : Option Wrapping) (w : Wrapping) (f : Fragment) (q p : Pooled) (stop : ControlStop) → o ≡ Some w → (stop ≡ control.Limit → is_past_by w (wrapped_by w q f) ≡ true) → IsGot {A = Fragment} (Err (wrapper_stop stop)) p (wrapped o (f, q))
wrapped_stopped o w f q p control.Limit is past = ap (λ x. wrapped x (f, q)) is ∙ ap (λ (b : Bool). within_counts b (wrapped_by w q f)) (past refl)
wrapped_stopped o w f q p control.NoMemory is past = tt

-- of the first tree
pub first_none : (o : Option Wrapping) (behind after : Forest) (q : Pooled) → behind ≡ bare → after ≡ bare → first_wrapped o behind q ≡ Ok (after, q)
first_none o behind after q before none = ap (λ f. first_wrapped o f q) before ∙ ap (λ (f : Forest). Ok (f, q)) (sym none)

pub first_got : (o : Option Wrapping) (behind rest trees : Forest) (f made : Fragment) (q p : Pooled) → behind ≡ grown (leaf_of f) f.submodules rest → wrapped o (f, q) ≡ Ok (made, p) → trees ≡ grown (leaf_of made) made.submodules rest → first_wrapped o behind q ≡ Ok (trees, p)
first_got o behind rest trees f made q p before got back = ap (λ g. first_wrapped o g q) before ∙ ap (λ r. and_then r (put_before rest)) got ∙ ap (λ (g : Forest). Ok (g, p)) (sym back)

pub first_refused : (o : Option Wrapping) (behind rest : Forest) (f : Fragment) (q p r : Pooled) (stop : ElabStop) → behind ≡ grown (leaf_of f) f.submodules rest → IsGot {A = Fragment} (Err stop) p (wrapped o (f, q)) → IsGot {A = Forest} (Err stop) r (first_wrapped o behind q)
first_refused o behind rest f q p r stop before h =
    still_refused stop p r (wrapped o (f, q)) (first_wrapped o behind q) (λ x e. ap (λ g. first_wrapped o g q) before ∙ ap (λ y. and_then y (put_before rest)) e) h

-- ---- what acts from the last one on

drop_length : {X : Type 0} (xs : List X) → drop (length xs) xs ≡ []
drop_length [] = refl
drop_length (x ∷ xs) = drop_length xs

all_dropped : {X : Type 0} (xs : List X) → drop (length xs - 0) xs ≡ []
all_dropped xs = let all : length xs - 0 ≡ length xs = omega arith in ap (λ n. drop n xs) all ∙ drop_length xs

none_dropped : {X : Type 0} (xs : List X) (i : ℕ) → length xs ≤ i → drop (length xs - i) xs ≡ xs
none_dropped xs i h = let none : length xs - i ≡ 0 = omega (arith, h) in ap (λ n. drop n xs) none

pub read : {X : Type 0} (xs : List X) (k : ℕ) (d : X) → k < length xs → slice_get xs k ≡ Some (get_or xs k d)
read [] k d h = absurd (omega (arith, h))
read (x ∷ xs) zero d h = refl
read (x ∷ xs) (suc k) d h = read xs k d (omega (arith, h))

module _ {X R : Type 0} (run : List X → Result R ElabStop) (act : X → R → Result R ElabStop) (steps : (x : X) (xs : List X) → run (x ∷ xs) ≡ and_then (run xs) (act x)) where
  one_before : (xs : List X) (i : ℕ) (d : X) (r : R) → i < length xs → run (drop (length xs - i) xs) ≡ Ok r → run (drop (length xs - (i + 1)) xs) ≡ act (get_or xs (length xs - 1 - i) d) r
  one_before xs i d r lt behind =
      let j = length xs - 1 - i in
      let x = get_or xs j d in
      let here : length xs - (i + 1) ≡ j = omega (arith, lt) in
      let next : suc j ≡ length xs - i = omega (arith, lt) in
      let first : drop (length xs - (i + 1)) xs ≡ x ∷ drop (length xs - i) xs = ap (λ n. drop n xs) here ∙ dropped xs j x (read xs j d (omega (arith, lt))) ∙ ap (λ n. x ∷ drop n xs) next in
      ap run first ∙ steps x (drop (length xs - i) xs) ∙ ap (λ y. and_then y (act x)) behind

  refused_behind : (xs : List X) (k : ℕ) (x : ElabStop) → run (drop k xs) ≡ Err x → run xs ≡ Err x
  refused_behind xs zero x e = e
  refused_behind [] (suc k) x e = e
  refused_behind (y ∷ xs) (suc k) x e = steps y xs ∙ ap (λ r. and_then r (act y)) (refused_behind xs k x e)

  one_refused : (xs : List X) (i : ℕ) (d : X) (r : R) (x : ElabStop) → i < length xs → run (drop (length xs - i) xs) ≡ Ok r → act (get_or xs (length xs - 1 - i) d) r ≡ Err x → run xs ≡ Err x
  one_refused xs i d r x lt behind e = refused_behind xs (length xs - (i + 1)) x (one_before xs i d r lt behind ∙ e)

-- ---- nodes

-- a module or a memory before the trees behind it
pub module_put : (s : Stored) (x : Node) (m : ℕ) (behind trees : Forest) (q : Pooled) → x.of ≡ node.Module m → trees ≡ grown (leaf_in s (node_name s x) (node.Module m)) (first_trees x.below behind) (other_trees x.below behind) → node_put s x x.of (behind, q) ≡ Ok (trees, q)
module_put s x m behind trees q is made =
    ap (λ o. node_put s x o (behind, q)) is ∙ ap (λ o. Ok (grown (leaf_in s (node_name s x) o) (first_trees x.below behind) (other_trees x.below behind), q)) is ∙ ap (λ f. Ok (f, q)) (sym made)

pub memory_put : (s : Stored) (x : Node) (k : ℕ) (behind trees : Forest) (q : Pooled) → x.of ≡ node.Memory k → trees ≡ grown (leaf_in s (node_name s x) (node.Memory k)) (first_trees x.below behind) (other_trees x.below behind) → node_put s x x.of (behind, q) ≡ Ok (trees, q)
memory_put s x k behind trees q is made =
    ap (λ o. node_put s x o (behind, q)) is ∙ ap (λ o. Ok (grown (leaf_in s (node_name s x) o) (first_trees x.below behind) (other_trees x.below behind), q)) is ∙ ap (λ f. Ok (f, q)) (sym made)

-- a wrapper before what it wraps
pub wrapper_put : (s : Stored) (x : Node) (k : ℕ) (behind : Forest) (q p : Pooled) (r : Result Forest ElabStop) → x.of ≡ node.Wrapper k → IsGot r p (first_wrapped (slice_get s.wrappings k) behind q) → IsGot r p (node_put s x x.of (behind, q))
wrapper_put s x k behind q p r is h = subst (λ o. IsGot r p (node_put s x o (behind, q))) (sym is) h

-- none yet, and all
pub nodes_none : (s : Stored) (xs : List Node) (q : Pooled) (f : Forest) → f ≡ bare → forest_of_nodes s (drop (length xs - 0) xs) q ≡ Ok (f, q)
nodes_none s xs q f e = ap (λ ys. forest_of_nodes s ys q) (all_dropped xs) ∙ ap (λ (g : Forest). Ok (g, q)) (sym e)

pub nodes_done : (s : Stored) (xs ys : List Node) (q : Pooled) (r : Result (Forest × Pooled) ElabStop) (i : ℕ) → length xs ≤ i → xs ≡ ys → forest_of_nodes s (drop (length xs - i) xs) q ≡ r → forest_of_nodes s ys q ≡ r
nodes_done s xs ys q r i h same e = ap (λ zs. forest_of_nodes s zs q) (sym same ∙ sym (none_dropped xs i h)) ∙ e

-- a node more, and what stands behind it
pub node_more : (s : Stored) (xs : List Node) (q : Pooled) (i : ℕ) (d : Node) (behind : Forest × Pooled) → i < length xs → forest_of_nodes s (drop (length xs - i) xs) q ≡ Ok behind
    → (let x = get_or xs (length xs - 1 - i) d in forest_of_nodes s (drop (length xs - (i + 1)) xs) q ≡ node_put s x x.of behind)
node_more s xs q i d behind lt e = one_before (λ ys. forest_of_nodes s ys q) (λ x. node_put s x x.of) (λ y ys. refl) xs i d behind lt e

-- a node that is refused
pub node_refused : (s : Stored) (xs : List Node) (q p r : Pooled) (i : ℕ) (d : Node) (stop : ElabStop) (behind : Forest × Pooled) → i < length xs → forest_of_nodes s (drop (length xs - i) xs) q ≡ Ok behind
    → (let x = get_or xs (length xs - 1 - i) d in IsGot {A = Forest} (Err stop) p (node_put s x x.of behind)) → IsGot {A = Forest} (Err stop) r (forest_of_nodes s xs q)
node_refused s xs q p r i d stop behind lt e h =
    let x = get_or xs (length xs - 1 - i) d in
    still_refused stop p r (node_put s x x.of behind) (forest_of_nodes s xs q) (λ y g. one_refused (λ ys. forest_of_nodes s ys q) (λ z. node_put s z z.of) (λ z zs. refl) xs i d behind y lt e g) h

-- ---- the wrappings of the top

pub wraps_none : (ws : List Wrapping) (ks : List ℕ) (t : Fragment × Pooled) → root_wrapped ws (drop (length ks - 0) ks) t ≡ Ok t
wraps_none ws ks t = ap (λ js. root_wrapped ws js t) (all_dropped ks)

pub wraps_done : (ws : List Wrapping) (ks js : List ℕ) (t : Fragment × Pooled) (r : Result (Fragment × Pooled) ElabStop) (i : ℕ) → length ks ≤ i → ks ≡ js → root_wrapped ws (drop (length ks - i) ks) t ≡ r → root_wrapped ws js t ≡ r
wraps_done ws ks js t r i h same e = ap (λ ls. root_wrapped ws ls t) (sym same ∙ sym (none_dropped ks i h)) ∙ e

pub wrap_more : (ws : List Wrapping) (ks : List ℕ) (t : Fragment × Pooled) (i d : ℕ) (inner : Fragment × Pooled) → i < length ks → root_wrapped ws (drop (length ks - i) ks) t ≡ Ok inner
    → root_wrapped ws (drop (length ks - (i + 1)) ks) t ≡ wrapped (slice_get ws (get_or ks (length ks - 1 - i) d)) inner
wrap_more ws ks t i d inner lt e = one_before (λ js. root_wrapped ws js t) (λ k. wrapped (slice_get ws k)) (λ k js. refl) ks i d inner lt e

pub wrap_refused : (ws : List Wrapping) (ks : List ℕ) (t : Fragment × Pooled) (p r : Pooled) (i d : ℕ) (stop : ElabStop) (inner : Fragment × Pooled) → i < length ks → root_wrapped ws (drop (length ks - i) ks) t ≡ Ok inner
    → IsGot {A = Fragment} (Err stop) p (wrapped (slice_get ws (get_or ks (length ks - 1 - i) d)) inner) → IsGot {A = Fragment} (Err stop) r (root_wrapped ws ks t)
wrap_refused ws ks t p r i d stop inner lt e h =
    still_refused stop p r (wrapped (slice_get ws (get_or ks (length ks - 1 - i) d)) inner) (root_wrapped ws ks t) (λ y g. one_refused (λ js. root_wrapped ws js t) (λ k. wrapped (slice_get ws k)) (λ k js. refl) ks i d inner y lt e g) h

-- ---- the top

or_true : (b : Bool) → b || true ≡ true
or_true true = refl
or_true false = refl

-- where a block of it is open, or there is none
pub root_open : (s : Stored) (o : Option Built) (q : Pooled) → option_map_or is_open o true ≡ true → tree_found s o q ≡ Err (stops.Refused Raised file_start)
root_open s None q e = refl
root_open s (Some b) q e = ap (λ (t : Bool). if t || (list_any (is_open_at s) s.hierarchy.nodes || list_any (is_open_wrap s) s.hierarchy.root_wraps) then Err (stops.Refused Raised file_start) else tree_of s b q) e

-- where it is so below it
pub below_open : (s : Stored) (o : Option Built) (q : Pooled) → list_any (is_open_at s) s.hierarchy.nodes || list_any (is_open_wrap s) s.hierarchy.root_wraps ≡ true → tree_found s o q ≡ Err (stops.Refused Raised file_start)
below_open s None q e = refl
below_open s (Some b) q e = ap (λ (t : Bool). if t then Err (stops.Refused Raised file_start) else tree_of s b q) (ap (λ t. is_open b || t) e ∙ or_true (is_open b))

-- a top, where no block is open
pub record IsTop (s : Stored) (o : Option Built) : Type 0 where
  pub built : Built
  pub is : o ≡ Some built
  pub closed : is_open built ≡ false
  pub nodes : list_any (is_open_at s) s.hierarchy.nodes ≡ false
  pub wraps : list_any (is_open_wrap s) s.hierarchy.root_wraps ≡ false

pub top_there : (s : Stored) (o : Option Built) → option_map_or is_open o true ≡ false → list_any (is_open_at s) s.hierarchy.nodes || list_any (is_open_wrap s) s.hierarchy.root_wraps ≡ false → IsTop s o
top_there s None e f = absurd (true≢false e)
top_there s (Some b) e f =
    let both = both_false (list_any (is_open_at s) s.hierarchy.nodes) (list_any (is_open_wrap s) s.hierarchy.root_wraps) f in record { built = b; is = refl; closed = e; nodes = both.0; wraps = both.1 }

pub found_of_top : (s : Stored) (o : Option Built) (q : Pooled) (t : IsTop s o) → tree_found s o q ≡ tree_of s t.built q
found_of_top s o q t =
    ap (λ x. tree_found s x q) t.is
    ∙ ap (λ (a : Bool). if a || (list_any (is_open_at s) s.hierarchy.nodes || list_any (is_open_wrap s) s.hierarchy.root_wraps) then Err (stops.Refused Raised file_start) else tree_of s t.built q) t.closed
    ∙ ap (λ (a : Bool). if a || list_any (is_open_wrap s) s.hierarchy.root_wraps then Err (stops.Refused Raised file_start) else tree_of s t.built q) t.nodes
    ∙ ap (λ (a : Bool). if a then Err (stops.Refused Raised file_start) else tree_of s t.built q) t.wraps

-- so the module of its number is done with
pub top_done : (s : Stored) (o : Option Built) (t : IsTop s o) → option_and_then finished o ≡ Some (fragment_of t.built)
top_done s o t = ap (option_and_then finished) t.is ∙ ap (λ (a : Bool). if a then None else Some (fragment_of t.built)) t.closed

-- where the nodes are refused
pub top_refused : (s : Stored) (o : Option Built) (q p r : Pooled) (stop : ElabStop) → IsTop s o → IsGot {A = Forest} (Err stop) p (forest_of_nodes s s.hierarchy.nodes q) → IsGot {A = Fragment} (Err stop) r (tree_found s o q)
top_refused s o q p r stop t h =
    still_refused stop p r (forest_of_nodes s s.hierarchy.nodes q) (tree_found s o q) (λ x e. found_of_top s o q t ∙ ap (λ y. and_then y (λ f. root_wrapped s.wrappings s.hierarchy.root_wraps (root_before s t.built f))) e) h

-- the top before the trees below it
pub top_before : (s : Stored) (b : Built) (below : Forest) (root : Fragment) → root ≡ fragment_with (fragment_of b).name (root_domains s) (fragment_of b).processes [] below → record (fragment_of b) { domains = root_domains s; submodules = below } ≡ root
unfolding fragment_of
top_before s b below root e = sym e

-- what its wrappings give
pub top_got : (s : Stored) (o : Option Built) (q p r : Pooled) (below : Forest) (root : Fragment) (made : Result Fragment ElabStop) (t : IsTop s o) → forest_of_nodes s s.hierarchy.nodes q ≡ Ok (below, p)
    → root ≡ fragment_with (fragment_of t.built).name (root_domains s) (fragment_of t.built).processes [] below
    → IsGot made r (root_wrapped s.wrappings s.hierarchy.root_wraps (root, p)) → IsGot made r (tree_found s o q)
top_got s o q p r below root made t nodes is h =
    let whole : tree_found s o q ≡ root_wrapped s.wrappings s.hierarchy.root_wraps (root, p) =
    found_of_top s o q t ∙ ap (λ y. and_then y (λ f. root_wrapped s.wrappings s.hierarchy.root_wraps (root_before s t.built f))) nodes
    ∙ ap (λ f. root_wrapped s.wrappings s.hierarchy.root_wraps (f, p)) (top_before s t.built below root is) in
    subst (IsGot made r) (sym whole) h

-- its module is there
pub top_module : (s : Stored) (o : Option Built) (t : IsTop s o) (found : Option Fragment) (f : Fragment) → found ≡ option_and_then finished o → found ≡ Some f → f ≡ fragment_of t.built
top_module s o t found f e some = by_some (sym some ∙ e ∙ top_done s o t)
  where
    by_some : Some f ≡ Some (fragment_of t.built) → f ≡ fragment_of t.built
    by_some same = cc

pub top_absent : {A : Type 0} (s : Stored) (o : Option Built) (t : IsTop s o) (found : Option Fragment) → found ≡ option_and_then finished o → found ≡ None → A
top_absent s o t found e none = absurd (true≢false (ap is_some (sym (top_done s o t) ∙ sym e ∙ none)))

pub top_made : (s : Stored) (b : Built) (below : Forest) (f root : Fragment) → f ≡ fragment_of b → root ≡ fragment_with f.name (root_domains s) f.processes [] below → root ≡ fragment_with (fragment_of b).name (root_domains s) (fragment_of b).processes [] below
top_made s b below f root same e = e ∙ ap (λ (g : Fragment). fragment_with g.name (root_domains s) g.processes [] below) same
