-- What a tree of modules gives: processes and their paths, definitions and names of domains.
use Rattle.std.proofs.Common.{◌≡◌, ℕ, ◌+◌, Bool, true, false, ◌||◌, List, [], ◌∷◌, ◌++◌, map, length, take, Some, slice_get, codes, refl, sym, ap, ◌∙◌, arith, append_assoc, append-nil}
use Rattle.std.specs.List.{AllByRecursion, flat_map, filter_map, list_any}
use Rattle.std.proofs.lemmas.List.{length-append}
use Rattle.lists.specs.Texts.{text_eq}
use Rattle.lists.proofs.TextLaws.{text_eq_same}
use Rattle.design_ir.specs.declared.domain.DomainDef.{DomainDef}
use Rattle.design_ir.specs.declared.memory.Memory.{Memory}
use Rattle.design_ir.specs.declared.process.Side.{Side}
use Rattle.design_ir.specs.declared.process.Side.TheVariants.{Comb, Clocked}
use Rattle.design_ir.specs.declared.process.Process.{Process}
use Rattle.design_ir.specs.declared.fragment.Fragment.{Fragment}
use Rattle.design_ir.specs.Forests.{Leaf, Forest, bare, grown, forest_and}
use Rattle.design_ir.specs.Fragments.{leaf_of, forest_of}
use Rattle.design_ir.specs.Pools.{Pooled}
use Rattle.design_ir.proofs.Lists.{forest_of_snoc}
use Rattle.fragment_walks.specs.Held.{ResetCall, held_resets, leaf_exprs}
use Rattle.fragment_walks.specs.Names.{leaves_of}
use Rattle.fragment_walks.specs.Walks.{gathered, gathered_under, processes_of, all_processes, naming_path, path_under, process_paths, paths_of, all_paths, memory_named, named_memories, memories_of, all_memories, memory_paths, memory_paths_of, all_memory_paths, plain_names, port_names, side_name, own_names, names_of, all_names}
use Rattle.fragment_walks.proofs.Lists.{all_imp, all_joined, any-append, length_map, map-append, take-push}

-- ---- one module more

gathered-push : {A : Type 0} (own : Leaf → List A) (f : Forest) (l : Leaf) (below : Forest) → gathered own (forest_and f l below) ≡ gathered own f ++ (own l ++ gathered own below)
gathered-push own bare l below = ap (λ xs. own l ++ xs) (append-nil (gathered own below))
gathered-push own (grown k b rest) l below =
    let more = own l ++ gathered own below in
    ap (λ xs. own k ++ (gathered own b ++ xs)) (gathered-push own rest l below)
    ∙ ap (λ xs. own k ++ xs) (sym (append_assoc (gathered own b) (gathered own rest) more))
    ∙ sym (append_assoc (own k) (gathered own b ++ gathered own rest) more)

under-push : {A : Type 0} (own : List ℕ → Leaf → List A) (path : List ℕ) (f : Forest) (l : Leaf) (below : Forest) → gathered_under own path (forest_and f l below) ≡ gathered_under own path f ++ (own path l ++ gathered_under own (path_under path l.name) below)
under-push own path bare l below = ap (λ xs. own path l ++ xs) (append-nil (gathered_under own (path_under path l.name) below))
under-push own path (grown k b rest) l below =
    let inner = gathered_under own (path_under path k.name) b in
    let more = own path l ++ gathered_under own (path_under path l.name) below in
    ap (λ xs. own path k ++ (inner ++ xs)) (under-push own path rest l below)
    ∙ ap (λ xs. own path k ++ xs) (sym (append_assoc inner (gathered_under own path rest) more))
    ∙ sym (append_assoc (own path k) (inner ++ gathered_under own path rest) more)

at_more : (fs : List Fragment) (i : ℕ) (f : Fragment) → slice_get fs i ≡ Some f → forest_of (take (i + 1) fs) ≡ forest_and (forest_of (take i fs)) (leaf_of f) f.submodules
at_more fs i f at = ap forest_of (take-push fs i f at) ∙ forest_of_snoc (take i fs) f

joined_turn : {A : Type 0} (old cur mid new before own below : List A) → cur ≡ old ++ before → mid ≡ cur ++ own → new ≡ mid ++ below → new ≡ old ++ (before ++ (own ++ below))
joined_turn old cur mid new before own below h k m =
    m ∙ ap (λ xs. xs ++ below) (k ∙ ap (λ xs. xs ++ own) h) ∙ append_assoc (old ++ before) own below ∙ append_assoc old before (own ++ below)

pub gathered_turn : {A : Type 0} (own : Leaf → List A) (fs : List Fragment) (i : ℕ) (f : Fragment) (old cur mid new : List A) → slice_get fs i ≡ Some f → cur ≡ old ++ gathered own (forest_of (take i fs)) → mid ≡ cur ++ own (leaf_of f) → new ≡ mid ++ gathered own f.submodules
    → new ≡ old ++ gathered own (forest_of (take (i + 1) fs))
gathered_turn own fs i f old cur mid new at h k m =
    joined_turn old cur mid new (gathered own (forest_of (take i fs))) (own (leaf_of f)) (gathered own f.submodules) h k m
    ∙ ap (λ xs. old ++ xs) (sym (ap (gathered own) (at_more fs i f at) ∙ gathered-push own (forest_of (take i fs)) (leaf_of f) f.submodules))

pub under_turn : {A : Type 0} (own : List ℕ → Leaf → List A) (path : List ℕ) (fs : List Fragment) (i : ℕ) (f : Fragment) (old cur mid new : List A) → slice_get fs i ≡ Some f → cur ≡ old ++ gathered_under own path (forest_of (take i fs)) → mid ≡ cur ++ own path (leaf_of f)
    → new ≡ mid ++ gathered_under own (path_under path f.name) f.submodules → new ≡ old ++ gathered_under own path (forest_of (take (i + 1) fs))
under_turn own path fs i f old cur mid new at h k m =
    joined_turn old cur mid new (gathered_under own path (forest_of (take i fs))) (own path (leaf_of f)) (gathered_under own (path_under path f.name) f.submodules) h k m
    ∙ ap (λ xs. old ++ xs) (sym (ap (gathered_under own path) (at_more fs i f at) ∙ under-push own path (forest_of (take i fs)) (leaf_of f) f.submodules))

-- what is computed of each fragment
leaves_mapped : {B : Type 0} (g : Leaf → B) (f : Forest) → map g (leaves_of f) ≡ gathered (λ (l : Leaf). g l ∷ []) f
leaves_mapped g bare = refl
leaves_mapped g (grown l below rest) =
    ap (λ xs. g l ∷ xs) (map-append g (leaves_of below) (leaves_of rest) ∙ let a = leaves_mapped g below in let b = leaves_mapped g rest in cc)

pub leaves_turn : {B : Type 0} (g : Leaf → B) (fs : List Fragment) (i : ℕ) (f : Fragment) (old cur mid new : List B) → slice_get fs i ≡ Some f → cur ≡ old ++ map g (leaves_of (forest_of (take i fs))) → mid ≡ cur ++ g (leaf_of f) ∷ [] → new ≡ mid ++ map g (leaves_of f.submodules)
    → new ≡ old ++ map g (leaves_of (forest_of (take (i + 1) fs)))
leaves_turn g fs i f old cur mid new at h k m =
    gathered_turn (λ (l : Leaf). g l ∷ []) fs i f old cur mid new at
    (h ∙ ap (λ xs. old ++ xs) (leaves_mapped g (forest_of (take i fs)))) k
    (m ∙ ap (λ xs. mid ++ xs) (leaves_mapped g f.submodules))
    ∙ ap (λ xs. old ++ xs) (sym (leaves_mapped g (forest_of (take (i + 1) fs))))

-- ---- as many paths as processes, and as memories

length_both : {A B : Type 0} (xs ys : List A) (us vs : List B) → length xs ≡ length us → length ys ≡ length vs → length (xs ++ ys) ≡ length (us ++ vs)
length_both xs ys us vs h k = omega (arith, length-append xs ys, length-append us vs, h, k)

below_length : (path : List ℕ) (f : Forest) → length (paths_of path f) ≡ length (processes_of f)
below_length path bare = refl
below_length path (grown l below rest) =
    length_both (process_paths path l) (paths_of (path_under path l.name) below ++ paths_of path rest) l.processes (processes_of below ++ processes_of rest)
    (length_map (λ (p : Process). naming_path l (path_under path l.name)) l.processes)
    (length_both (paths_of (path_under path l.name) below) (paths_of path rest) (processes_of below) (processes_of rest) (below_length (path_under path l.name) below) (below_length path rest))

pub walk_length : (f : Fragment) → length (all_paths f) ≡ length (all_processes f)
walk_length f = length_both (map (λ (p : Process). naming_path (leaf_of f) []) f.processes) (paths_of [] f.submodules) f.processes (processes_of f.submodules) (length_map (λ (p : Process). naming_path (leaf_of f) []) f.processes) (below_length [] f.submodules)

below_memory_length : (path : List ℕ) (f : Forest) → length (memory_paths_of path f) ≡ length (memories_of path f)
below_memory_length path bare = refl
below_memory_length path (grown l below rest) =
    length_both (memory_paths path l) (memory_paths_of (path_under path l.name) below ++ memory_paths_of path rest) (named_memories path l) (memories_of (path_under path l.name) below ++ memories_of path rest)
    (length_map (λ (m : Memory). naming_path l (path_under path l.name)) l.memories ∙ sym (length_map (memory_named (path ++ l.name)) l.memories))
    (length_both (memory_paths_of (path_under path l.name) below) (memory_paths_of path rest) (memories_of (path_under path l.name) below) (memories_of path rest) (below_memory_length (path_under path l.name) below) (below_memory_length path rest))

pub walk_memory_length : (f : Fragment) → length (all_memory_paths f) ≡ length (all_memories f)
walk_memory_length f =
    length_both (map (λ (m : Memory). naming_path (leaf_of f) []) f.memories) (memory_paths_of [] f.submodules) (map (memory_named (codes "top")) f.memories) (memories_of [] f.submodules)
    (length_map (λ (m : Memory). naming_path (leaf_of f) []) f.memories ∙ sym (length_map (memory_named (codes "top")) f.memories)) (below_memory_length [] f.submodules)

-- ---- the names of clocked sides are among them

abbrev pub clocked_names : List Process → List (List ℕ)
clocked_names ps = filter_map (λ (p : Process). side_name p.side) ps

abbrev pub HasName : List (List ℕ) → Process → Type 0
HasName names p = (n : List ℕ) → p.side ≡ Clocked n → list_any (λ m. text_eq m n) names ≡ true

or_true : (a b : Bool) → b ≡ true → (a || b) ≡ true
or_true true b e = refl
or_true false b e = e

name_left : (xs ys : List (List ℕ)) (p : Process) → HasName xs p → HasName (xs ++ ys) p
name_left xs ys p h n e = any-append (λ m. text_eq m n) xs ys ∙ ap (λ b. b || list_any (λ m. text_eq m n) ys) (h n e)

name_right : (xs ys : List (List ℕ)) (p : Process) → HasName ys p → HasName (xs ++ ys) p
name_right xs ys p h n e = any-append (λ m. text_eq m n) xs ys ∙ or_true (list_any (λ m. text_eq m n) xs) (list_any (λ m. text_eq m n) ys) (h n e)

clocked_has : (ps : List Process) → AllByRecursion (HasName (clocked_names ps)) ps
clocked_has [] = tt
clocked_has (p ∷ ps) = (
  λ n e. ap (λ (s : Side). list_any (λ m. text_eq m n) (clocked_names (record { side = s; body = p.body } ∷ ps))) e ∙ ap (λ b. b || list_any (λ m. text_eq m n) (clocked_names ps)) (text_eq_same n),
  (let f : (x : Process) → HasName (clocked_names ps) x → HasName (clocked_names (p ∷ ps)) x = λ x h n e. more p.side n (h n e) in all_imp f ps (clocked_has ps)),
)
  where
    more : (s : Side) (n : List ℕ) → list_any (λ m. text_eq m n) (clocked_names ps) ≡ true → list_any (λ m. text_eq m n) (clocked_names (record { side = s; body = p.body } ∷ ps)) ≡ true
    more Comb n h = h
    more (Clocked m) n h = or_true (text_eq m n) (list_any (λ m. text_eq m n) (clocked_names ps)) h

own_has : (q : Pooled) (l : Leaf) → AllByRecursion (HasName (own_names q l)) l.processes
own_has q l = all_imp (λ (p : Process) h. name_left (plain_names l) (map (λ (r : ResetCall). r.domain) (held_resets q (leaf_exprs l))) p (name_right (map (λ (d : DomainDef). d.domain.name) l.domains) (clocked_names l.processes ++ flat_map port_names l.memories) p (name_left (clocked_names l.processes) (flat_map port_names l.memories) p h))) l.processes (clocked_has l.processes)

below_has : (q : Pooled) (f : Forest) → AllByRecursion (HasName (names_of q f)) (processes_of f)
below_has q bare = tt
below_has q (grown l below rest) =
    let own = own_names q l in
    let inner = names_of q below in
    let others = names_of q rest in
    all_joined (HasName (own ++ (inner ++ others))) l.processes (processes_of below ++ processes_of rest)
    (all_imp (λ (p : Process) h. name_left own (inner ++ others) p h) l.processes (own_has q l))
    (all_joined (HasName (own ++ (inner ++ others))) (processes_of below) (processes_of rest)
    (all_imp (λ (p : Process) h. name_right own (inner ++ others) p (name_left inner others p h)) (processes_of below) (below_has q below))
    (all_imp (λ (p : Process) h. name_right own (inner ++ others) p (name_right inner others p h)) (processes_of rest) (below_has q rest)))

pub walk_has : (q : Pooled) (f : Fragment) → AllByRecursion (HasName (all_names q f)) (all_processes f)
walk_has q f =
    let own = own_names q (leaf_of f) in
    let inner = names_of q f.submodules in
    all_joined (HasName (own ++ inner)) f.processes (processes_of f.submodules) (all_imp (λ (p : Process) h. name_left own inner p h) f.processes (own_has q (leaf_of f)))
    (all_imp (λ (p : Process) h. name_right own inner p h) (processes_of f.submodules) (below_has q f.submodules))
