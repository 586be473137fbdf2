-- What a reset inserter does to a fragment and all below it.
use Rattle.std.specs.Prelude.{◌≡◌, refl, ℕ, ◌<◌, ◌≤◌, ◌==◌, ◌||◌, Bool, true, false, cond, List, [], ◌∷◌, ◌++◌, map, length, slice_get, Option, Some, None, fold}
use Rattle.std.specs.List.{AllByRecursion, cons_option, find, filter_map, flat_map, range_with_len}
use Rattle.std.proofs.Common.{sym, ◌∙◌, ap, arith, subst, append-nil, append_assoc}
use Rattle.std.proofs.lemmas.Bool.{false≢true, eqb-true}
use Rattle.std.proofs.lemmas.List.Concat.{flat_map-append}
use Rattle.design_ir.specs.declared.ids.ExprId.{ExprId}
use Rattle.design_ir.specs.declared.expr.Expr.{Expr}
use Rattle.design_ir.specs.declared.expr.Expr.TheVariants as expr
use Rattle.design_ir.specs.declared.process.Process.{Process}
use Rattle.design_ir.specs.declared.fragment.Fragment.{Fragment}
use Rattle.design_ir.specs.Forests.{Leaf, Forest, bare, grown}
use Rattle.design_ir.specs.Fragments.{leaf_of}
use Rattle.design_ir.specs.Named.{AllBelow}
use Rattle.design_ir.specs.Trees.{Statement, assign, choose, Choices, none, arm, Block, done, next, block_and}
use Rattle.design_ir.specs.Pools.{Pooled}
use Rattle.design_ir.specs.PoolRules.{IsPool, expr_added}
use Rattle.design_ir.specs.Guards.{block_exprs, choices_exprs, driven, statement_exprs}
use Rattle.design_ir.specs.Targets.{target_signals}
use Rattle.shape_rules.specs.Operators.{is_zero}
use Rattle.design_ir.specs.Values.{num}
use Rattle.design_ir.specs.Put.{put}
use Rattle.design_ir.specs.Clearing.{own}
use Rattle.design_ir.specs.Circuits.{at, is_among}
use Rattle.flat_design.specs.Growing.{IsMore}
use Rattle.flat_design.proofs.Growing.{get_kept, more_added, more_refl, more_trans, signals_more}
use Rattle.design_ir.proofs.Equations.{place_below}
use Rattle.fragment_walks.specs.Reads.{block_targets, choices_targets, statement_targets}
use Rattle.fragment_walks.specs.Walks.{all_processes, processes_of}
use Rattle.fragment_walks.proofs.Lists.{all_imp, all_joined, any-append, below_split}
use Rattle.fragment_walks.proofs.Outs.{target_signals_is}
use Rattle.clock_domains.proofs.DriverLaws.{driven_flat, driven_none}
use Rattle.fragment_laws.specs.Parts.{all_memories}
use Rattle.fragment_laws.specs.Givers.{ReadPort, giver_among, ports_from}
use Rattle.fragment_laws.specs.Stepping.{register_number, taken_number, toggle_by}
use Rattle.domain_transforms.specs.declared.controls.Control.{Control}
use Rattle.domain_transforms.specs.declared.resetting.Register.{Register}
use Rattle.domain_transforms.specs.Making.{each_in, forest_in}
use Rattle.domain_transforms.specs.Enabling.{side_control}
use Rattle.domain_transforms.specs.Placed.{forest_exprs, fragment_exprs, leaf_exprs, memory_exprs}
use Rattle.domain_transforms.specs.Resetting.{block_in_order, init_statement, place_from, register_of, reset_inserted, reset_leaf, reset_process, reset_process_by, reset_register, reset_registers}
use Rattle.domain_transforms.specs.Laws.{at_edge, IsKept, IsReadIn, ResetFragmentsTake}
use Rattle.domain_transforms.proofs.EnabledFragments.{given_by}
use Rattle.domain_transforms.proofs.ResetLaws.{reset_is, take_from}

-- ---- pools grow

inits_more : (x : Pooled) (rs : List Register) → IsMore x (each_in init_statement x rs).1
inits_more x [] = more_refl x
inits_more x (r ∷ rs) = let y : Pooled = expr_added x (expr.Const r.init r.shape) in more_trans x y (each_in init_statement y rs).1 (more_added x (expr.Const r.init r.shape)) (inits_more y rs)

process_more_by : (o : Option ExprId) (x : Pooled) (proc : Process) → IsMore x (reset_process_by o x proc).1
process_more_by None x proc = more_refl x
process_more_by (Some c) x proc = inits_more x (reset_registers x proc.body)

module _ (controls : List Control) where
  process_more : (x : Pooled) (proc : Process) → IsMore x (reset_process controls x proc).1
  process_more x proc = process_more_by (side_control controls proc.side) x proc

  processes_more : (x : Pooled) (ps : List Process) → IsMore x (each_in (reset_process controls) x ps).1
  processes_more x [] = more_refl x
  processes_more x (r ∷ ps) = let y : Pooled = (reset_process controls x r).1 in more_trans x y (each_in (reset_process controls) y ps).1 (process_more x r) (processes_more y ps)

  forest_more : (x : Pooled) (f : Forest) → IsMore x (forest_in (reset_leaf controls) x f).1
  forest_more x bare = more_refl x
  forest_more x (grown l below rest) =
      let y : Pooled = (reset_leaf controls x l).1 in
      let z : Pooled = (forest_in (reset_leaf controls) y below).1 in
      more_trans x y (forest_in (reset_leaf controls) z rest).1 (processes_more x l.processes) (more_trans y z (forest_in (reset_leaf controls) z rest).1 (forest_more y below) (forest_more z rest))

pub read_less : (x y q : Pooled) → IsMore x y → IsReadIn y q → IsReadIn x q
read_less x y q more read = record {
  signals = read.signals ∙ more.signals;
  kept = λ k e at kept. read.kept k e (ap (λ es. slice_get es k) more.exprs ∙ get_kept x.exprs more.more k (place_below x.exprs k e at) ∙ at) kept;
}

-- ---- each process is reset over some pool on the way

pub record IsResetOf (controls : List Control) (p q : Pooled) (proc new : Process) : Type 0 where
  pub pool : Pooled
  pub more : IsMore p pool
  pub read : IsReadIn (reset_process controls pool proc).1 q
  pub is : new ≡ (reset_process controls pool proc).0

abbrev AreResets : List Control → Pooled → Pooled → List Process → List Process → Type 0
AreResets controls p q [] [] = Unit {0}
AreResets controls p q [] (y ∷ ys) = ⊥
AreResets controls p q (x ∷ xs) [] = ⊥
AreResets controls p q (x ∷ xs) (y ∷ ys) = IsResetOf controls p q x y × AreResets controls p q xs ys

module _ (controls : List Control) (p q : Pooled) where
  resets_append : (xs ys us vs : List Process) → AreResets controls p q xs ys → AreResets controls p q us vs → AreResets controls p q (xs ++ us) (ys ++ vs)
  resets_append [] [] us vs h k = k
  resets_append [] (y ∷ ys) us vs h k = absurd h
  resets_append (x ∷ xs) [] us vs h k = absurd h
  resets_append (x ∷ xs) (y ∷ ys) us vs h k = (h.0, resets_append xs ys us vs h.1 k)

  list_resets : (x : Pooled) (ps : List Process) → IsMore p x → IsReadIn (each_in (reset_process controls) x ps).1 q → AreResets controls p q ps (each_in (reset_process controls) x ps).0
  list_resets x [] more read = tt
  list_resets x (r ∷ ps) more read =
      let y : Pooled = (reset_process controls x r).1 in (
        record { pool = x; more = more; read = read_less y (each_in (reset_process controls) y ps).1 q (processes_more controls y ps) read; is = refl },
        list_resets y ps (more_trans p x y more (process_more controls x r)) read,
      )

  forest_resets : (x : Pooled) (f : Forest) → IsMore p x → IsReadIn (forest_in (reset_leaf controls) x f).1 q → AreResets controls p q (processes_of f) (processes_of (forest_in (reset_leaf controls) x f).0)
  forest_resets x bare more read = tt
  forest_resets x (grown l below rest) more read =
      let y : Pooled = (reset_leaf controls x l).1 in
      let inner : Forest × Pooled = forest_in (reset_leaf controls) y below in
      let z : Pooled = inner.1 in
      let last : Forest × Pooled = forest_in (reset_leaf controls) z rest in
      let more_y : IsMore p y = more_trans p x y more (processes_more controls x l.processes) in
      let more_z : IsMore p z = more_trans p y z more_y (forest_more controls y below) in
      let read_z : IsReadIn z q = read_less z last.1 q (forest_more controls z rest) read in
      resets_append l.processes (reset_leaf controls x l).0.processes (processes_of below ++ processes_of rest) (processes_of inner.0 ++ processes_of last.0) (list_resets x l.processes more (read_less y z q (forest_more controls y below) read_z))
      (resets_append (processes_of below) (processes_of inner.0) (processes_of rest) (processes_of last.0) (forest_resets y below more_y read_z) (forest_resets z rest more_z read))

  fragment_resets : (f : Fragment) → IsReadIn (reset_inserted controls p f).1 q → AreResets controls p q (all_processes f) (all_processes (reset_inserted controls p f).0)
  fragment_resets f read =
      let y : Pooled = (reset_leaf controls p (leaf_of f)).1 in
      let inner : Forest × Pooled = forest_in (reset_leaf controls) y f.submodules in
      resets_append f.processes (reset_leaf controls p (leaf_of f)).0.processes (processes_of f.submodules) (processes_of inner.0) (list_resets p f.processes (more_refl p) (read_less y inner.1 q (forest_more controls y f.submodules) read))
      (forest_resets y f.submodules (processes_more controls p f.processes) read)

-- ---- a process that is reset drives what it drove

pub targets-and : (b : Block) (s : Statement) → block_targets (block_and b s) ≡ block_targets b ++ statement_targets s
targets-and done s = append-nil (statement_targets s)
targets-and (next t b) s = ap (λ xs. statement_targets t ++ xs) (targets-and b s) ∙ sym (append_assoc (statement_targets t) (block_targets b) (statement_targets s))

pub init_targets : (x : Pooled) (rs : List Register) → block_targets (block_in_order (each_in init_statement x rs).0) ≡ map (λ (r : Register). r.target.0) rs
init_targets x [] = refl
init_targets x (r ∷ rs) = ap (λ xs. r.target.0 ∷ xs) (init_targets (expr_added x (expr.Const r.init r.shape)) rs)

was_driven : (p : Pooled) (body : Block) (n : ℕ) (r : Register) → reset_register p body n ≡ Some r → is_among (driven p body) n ≡ true
was_driven p body n r h = by (is_among (driven p body) n) refl h
  where
    by : (b : Bool) → is_among (driven p body) n ≡ b → cond b (register_of (place_from n 0 p.exprs) (slice_get p.signals n)) None ≡ Some r → is_among (driven p body) n ≡ true
    by true e h = e
    by false e h = absurd cc

module _ (p q : Pooled) (rules : IsPool q) (body : Block) (reads : (k : ℕ) (e : Expr) → slice_get p.exprs k ≡ Some e → IsKept e → slice_get q.exprs k ≡ Some e) (same : (s : ℕ) → is_among (driven q body) s ≡ is_among (driven p body) s) (s : ℕ) where
  either : (a b c : Bool) → (a ≡ true → c ≡ true) → (b ≡ true → c ≡ true) → (a || b) ≡ true → c ≡ true
  either true b c f g h = f refl
  either false b c f g h = g h

  registers_driven : (ns : List ℕ) → is_among (flat_map (target_signals q) (map (λ (r : Register). r.target.0) (filter_map (reset_register p body) ns))) s ≡ true → is_among (driven q body) s ≡ true
  registers_driven [] h = absurd (false≢true h)
  registers_driven (n ∷ ns) h = by (reset_register p body n) refl h (registers_driven ns)
    where
      by : (o : Option Register) → reset_register p body n ≡ o → is_among (flat_map (target_signals q) (map (λ (r : Register). r.target.0) (cons_option o (filter_map (reset_register p body) ns)))) s ≡ true
          → (is_among (flat_map (target_signals q) (map (λ (r : Register). r.target.0) (filter_map (reset_register p body) ns))) s ≡ true → is_among (driven q body) s ≡ true) → is_among (driven q body) s ≡ true
      by None is h rest = rest h
      by (Some r) is h rest =
          let target : slice_get q.exprs r.target.0 ≡ Some (expr.Sig (record { 0 = n })) = reads r.target.0 (expr.Sig (record { 0 = n })) (reset_is p body n r is).target tt in
          let signals : target_signals q r.target.0 ≡ n ∷ [] = target_signals_is q r.target.0 (expr.Sig (record { 0 = n })) rules target in
          let others = flat_map (target_signals q) (map (λ (x : Register). x.target.0) (filter_map (reset_register p body) ns)) in
          let parts : ((n == s) || is_among others s) ≡ true = sym (ap (λ xs. is_among (xs ++ others) s) signals) ∙ h in
          either (n == s) (is_among others s) (is_among (driven q body) s) (λ e. same s ∙ ap (is_among (driven p body)) (sym (eqb-true n s e)) ∙ was_driven p body n r is) rest parts

  absorbed : (a b : Bool) → (b ≡ true → a ≡ true) → (a || b) ≡ a
  absorbed true b h = refl
  absorbed false true h = absurd (false≢true (h refl))
  absorbed false false h = refl

  pub drives_same : (o : Option ExprId) (proc : Process) → proc.body ≡ body → is_among (driven q (reset_process_by o p proc).0.body) s ≡ is_among (driven q body) s
  unfolding reset_registers
  drives_same None proc is = ap (λ b. is_among (driven q b) s) is
  drives_same (Some c) proc is =
      let rs : List Register = filter_map (reset_register p body) (range_with_len 0 (length p.signals)) in
      let inits : Block = block_in_order (each_in init_statement p rs).0 in
      let ts : List ℕ → List ℕ = flat_map (target_signals q) in
      let more : block_targets inits ++ [] ≡ map (λ (r : Register). r.target.0) rs = append-nil (block_targets inits) ∙ init_targets p rs in
      let whole : is_among (driven q (block_and body (choose (arm c inits none)))) s ≡ (is_among (ts (block_targets body)) s || is_among (ts (map (λ (r : Register). r.target.0) rs)) s) =
      ap (λ xs. is_among xs s) (driven_flat q (block_and body (choose (arm c inits none))) ∙ ap ts (targets-and body (choose (arm c inits none)) ∙ ap (λ xs. block_targets body ++ xs) more) ∙ flat_map-append (target_signals q) (block_targets body) (map (λ (r : Register). r.target.0) rs))
      ∙ any-append (λ x. x == s) (ts (block_targets body)) (ts (map (λ (r : Register). r.target.0) rs)) in
      let own : is_among (ts (block_targets body)) s ≡ is_among (driven q body) s = ap (λ xs. is_among xs s) (sym (driven_flat q body)) in
      ap (λ b. is_among (driven q (block_and b (choose (arm c (block_in_order (each_in init_statement p (filter_map (reset_register p b) (range_with_len 0 (length p.signals)))).0) none)))) s) is
      ∙ whole ∙ ap (λ b. b || is_among (ts (map (λ (r : Register). r.target.0) rs)) s) own
      ∙ absorbed (is_among (driven q body) s) (is_among (ts (map (λ (r : Register). r.target.0) rs)) s) (registers_driven (range_with_len 0 (length p.signals)))

side_kept : (o : Option ExprId) (p : Pooled) (proc : Process) → (reset_process_by o p proc).0.side ≡ proc.side
side_kept None p proc = refl
side_kept (Some c) p proc = refl

-- ---- the expressions of processes

flat_all : (n : ℕ) (ps : List Process) → AllBelow n (flat_map (λ (x : Process). block_exprs x.body) ps) → AllByRecursion (λ (x : Process). AllBelow n (block_exprs x.body)) ps
flat_all n [] h = tt
flat_all n (x ∷ ps) h = let parts = below_split n (block_exprs x.body) (flat_map (λ (y : Process). block_exprs y.body) ps) h in (parts.0, flat_all n ps parts.1)

leaf_all : (n : ℕ) (l : Leaf) → AllBelow n (leaf_exprs l) → AllByRecursion (λ (x : Process). AllBelow n (block_exprs x.body)) l.processes
leaf_all n l h = flat_all n l.processes (below_split n (flat_map (λ (y : Process). block_exprs y.body) l.processes) (flat_map memory_exprs l.memories) h).0

forest_all : (n : ℕ) (f : Forest) → AllBelow n (forest_exprs f) → AllByRecursion (λ (x : Process). AllBelow n (block_exprs x.body)) (processes_of f)
forest_all n bare h = tt
forest_all n (grown l below rest) h =
    let own = below_split n (leaf_exprs l) (forest_exprs below ++ forest_exprs rest) h in
    let others = below_split n (forest_exprs below) (forest_exprs rest) own.1 in
    all_joined (λ (x : Process). AllBelow n (block_exprs x.body)) l.processes (processes_of below ++ processes_of rest) (leaf_all n l own.0)
    (all_joined (λ (x : Process). AllBelow n (block_exprs x.body)) (processes_of below) (processes_of rest) (forest_all n below others.0) (forest_all n rest others.1))

fragment_all : (n : ℕ) (f : Fragment) → AllBelow n (fragment_exprs f) → AllByRecursion (λ (x : Process). AllBelow n (block_exprs x.body)) (all_processes f)
fragment_all n f h =
    let parts = below_split n (leaf_exprs (leaf_of f)) (forest_exprs f.submodules) h in
    all_joined (λ (x : Process). AllBelow n (block_exprs x.body)) f.processes (processes_of f.submodules) (leaf_all n (leaf_of f) parts.0) (forest_all n f.submodules parts.1)

flat_agree : (f g : ℕ → List ℕ) (n : ℕ) (ts : List ℕ) → ((k : ℕ) → k < n → f k ≡ g k) → AllByRecursion (λ t. t < n) ts → flat_map f ts ≡ flat_map g ts
flat_agree f g n [] h low = refl
flat_agree f g n (t ∷ ts) h low = let a = h t low.0 in let b = flat_agree f g n ts h low.1 in cc

mutual
  statement_targets_below : (n : ℕ) (s : Statement) → AllBelow n (statement_exprs s) → AllByRecursion (λ k. k < n) (statement_targets s)
  statement_targets_below n (assign t v p) h = (h.0, tt)
  statement_targets_below n (choose arms) h = choices_targets_below n arms h

  choices_targets_below : (n : ℕ) (c : Choices) → AllBelow n (choices_exprs c) → AllByRecursion (λ k. k < n) (choices_targets c)
  choices_targets_below n none h = tt
  choices_targets_below n (arm c body others) h =
      let parts = below_split n (block_exprs body) (choices_exprs others) h.1 in
      all_joined (λ k. k < n) (block_targets body) (choices_targets others) (targets_below n body parts.0) (choices_targets_below n others parts.1)

  targets_below : (n : ℕ) (b : Block) → AllBelow n (block_exprs b) → AllByRecursion (λ k. k < n) (block_targets b)
  targets_below n done h = tt
  targets_below n (next s rest) h =
      let parts = below_split n (statement_exprs s) (block_exprs rest) h in
      all_joined (λ k. k < n) (statement_targets s) (block_targets rest) (statement_targets_below n s parts.0) (targets_below n rest parts.1)

driven_agree : (p q : Pooled) (body : Block) → ((k : ℕ) → k < length p.exprs → target_signals q k ≡ target_signals p k) → AllBelow (length p.exprs) (block_exprs body) → driven q body ≡ driven p body
driven_agree p q body h low =
    driven_flat q body ∙ flat_agree (target_signals q) (target_signals p) (length p.exprs) (block_targets body) h (targets_below (length p.exprs) body low) ∙ sym (driven_flat p body)

-- ---- the process that drives a signal

module _ (controls : List Control) (p q : Pooled) (t : Process → Bool) where
  find_resets : (xs ys : List Process) → AreResets controls p q xs ys → AllByRecursion (λ x. (y : Process) → IsResetOf controls p q x y → t y ≡ t x) xs → (proc : Process) → find t xs ≡ Some proc → (new : Process) × (find t ys ≡ Some new) × IsResetOf controls p q proc new
  find_resets [] ys h each proc found = absurd cc
  find_resets (x ∷ xs) [] h each proc found = absurd h
  find_resets (x ∷ xs) (y ∷ ys) h each proc found = by (t x) refl found (find_resets xs ys h.1 each.1 proc)
    where
      by : (b : Bool) → t x ≡ b → cond b (Some x) (find t xs) ≡ Some proc → (find t xs ≡ Some proc → (new : Process) × (find t ys ≡ Some new) × IsResetOf controls p q proc new) → (new : Process) × (cond (t y) (Some y) (find t ys) ≡ Some new) × IsResetOf controls p q proc new
      by true e f rest = let same : x ≡ proc = cc in (y, ap (λ b. cond b (Some y) (find t ys)) (each.0 y h.0 ∙ e), subst (λ z. IsResetOf controls p q z y) same h.0)
      by false e f rest = let r = rest f in (r.0, ap (λ b. cond b (Some y) (find t ys)) (each.0 y h.0 ∙ e) ∙ r.1, r.2)

module _ (controls : List Control) (p q : Pooled) (first : IsPool p) (rules : IsPool q) (agree : (k : ℕ) → k < length p.exprs → target_signals q k ≡ target_signals p k) where
  -- over the pool on the way it drives what it drives over the first and over the last one
  on_the_way : (x : Pooled) (body : Block) → IsMore p x → AllBelow (length p.exprs) (block_exprs body) → driven x body ≡ driven p body
  on_the_way x body more low = driven_agree p x body (signals_more p x first more) low

  tested : (s : ℕ) (proc new : Process) → AllBelow (length p.exprs) (block_exprs proc.body) → IsResetOf controls p q proc new → is_among (driven q new.body) s ≡ is_among (driven q proc.body) s
  tested s proc new low h =
      let reads : (k : ℕ) (e : Expr) → slice_get h.pool.exprs k ≡ Some e → IsKept e → slice_get q.exprs k ≡ Some e = (read_less h.pool (reset_process controls h.pool proc).1 q (process_more controls h.pool proc) h.read).kept in
      let same : (n : ℕ) → is_among (driven q proc.body) n ≡ is_among (driven h.pool proc.body) n = λ n. ap (λ ss. is_among ss n) (driven_agree p q proc.body agree low ∙ sym (on_the_way h.pool proc.body h.more low)) in
      ap (λ (x : Process). is_among (driven q x.body) s) h.is ∙ drives_same h.pool q rules proc.body reads same s (side_control controls proc.side) proc refl

found_all : (t : Process → Bool) (P : Process → Type 0) (xs : List Process) (proc : Process) → AllByRecursion P xs → find t xs ≡ Some proc → P proc
found_all t P [] proc h found = absurd cc
found_all t P (x ∷ xs) proc h found = by (t x) found (found_all t P xs proc h.1)
  where
    by : (b : Bool) → cond b (Some x) (find t xs) ≡ Some proc → (find t xs ≡ Some proc → P proc) → P proc
    by true e rest = let same : x ≡ proc = cc in subst P same h.0
    by false e rest = rest e

pub fragments_take : ResetFragmentsTake
fragments_take controls f proc name c p q domains st env names s first rules read low agree given side control targets fit long =
    let t : Process → Bool = λ (x : Process). is_among (driven q x.body) s in
    let ports = find (λ (x : ReadPort). x.port.word.0 == s) (ports_from 0 (all_memories (reset_inserted controls p f).0)) in
    let each = fragment_all (length p.exprs) f low in
    let before : find t (all_processes f) ≡ Some proc = given_by (find t (all_processes f)) (find (λ (x : ReadPort). x.port.word.0 == s) (ports_from 0 (all_memories f))) proc given in
    let under : AllBelow (length p.exprs) (block_exprs proc.body) = found_all t (λ (x : Process). AllBelow (length p.exprs) (block_exprs x.body)) (all_processes f) proc each before in
    let r = find_resets controls p q t (all_processes f) (all_processes (reset_inserted controls p f).0) (fragment_resets controls p q f read) (all_imp (λ x under y h. tested controls p q first rules agree s x y under h) (all_processes f) each) proc before in
    let h : IsResetOf controls p q proc r.0 = r.2 in
    let way : driven h.pool proc.body ≡ driven p proc.body = on_the_way controls p q first rules agree h.pool proc.body h.more under in
    let nowhere : length h.pool.signals ≤ s → is_among (driven h.pool proc.body) s ≡ false = λ past. ap (λ ss. is_among ss s) way ∙ driven_none p proc.body s first (omega (arith, past, ap length h.more.signals)) in
    ap (λ o. fold (toggle_by domains s) (taken_number q domains st env names s (giver_among o ports)) names) r.1
    ∙ ap (λ (x : Process). fold (toggle_by domains s) (register_number q domains st env names s x.body x.side) names) h.is
    ∙ ap (λ x. fold (toggle_by domains s) (register_number q domains st env names s (reset_process controls h.pool proc).0.body x) names) (side_kept (side_control controls proc.side) h.pool proc ∙ side)
    ∙ ap (λ z. fold (toggle_by domains s) z names) (take_from controls proc name c h.pool q domains st env names s side control nowhere rules h.read targets fit long)
    ∙ ap (λ ds. fold (toggle_by domains s) (at_edge q domains st env names s name (cond (is_zero (num q env c.0)) (at (put q env proc.body st.held) s) (cond (is_among ds s) (own (slice_get q.signals s) (at (put q env proc.body st.held) s)) (at (put q env proc.body st.held) s)))) names) way
