-- What a program is elaborated to under the name that the words may give the top, within a budget: a design, or why there is none; and at what
-- cost.
use Rattle.std.specs.Prelude.{◌≡◌, ◌⊎◌, ℕ, zero, suc, ◌-◌, nat_lt, length, ◌||◌, not, Bool, true, false, if◌then◌else◌, ⊤, List, [], ◌∷◌, slice_get, slice_index_or, Option, Some, None, option_map, Result, Ok, Err, codes}
use Rattle.std.specs.Option.{option_map_or}
use Rattle.std.specs.List.{list_any}
use Rattle.amh_host.specs.declared.place.Place.{Place}
use Rattle.amh_host.specs.declared.place.Kind.TheVariants as kind
use Rattle.py_tree.specs.Steps.{Steps}
use Rattle.py_values.specs.declared.val.ObjId.{ObjId}
use Rattle.py_heap.specs.Heaps.{Made, Seen, seen, nothing}
use Rattle.py_frames.specs.declared.request.Answer.{Answer}
use Rattle.py_frames.specs.declared.request.Cause.{Cause}
use Rattle.py_frames.specs.declared.request.Cause.TheVariants as cause
use Rattle.py_frames.specs.declared.request.Stop.{Stop}
use Rattle.py_frames.specs.declared.state.State.{State}
use Rattle.py_frames.specs.declared.state.Got.{Got}
use Rattle.py_frames.specs.Doing.{Done}
use Rattle.py_frames.specs.Frames.{stops_as}
use Rattle.py_frames.specs.Whole.{ask_program}
use Rattle.design_ir.specs.declared.domain.DomainDef.{DomainDef}
use Rattle.design_ir.specs.declared.fragment.Fragment.{Fragment}
use Rattle.design_ir.specs.Forests.{Leaf, Forest, bare, grown}
use Rattle.design_ir.specs.Fragments.{leaf_of}
use Rattle.design_ir.specs.Circuits.{Circuit}
use Rattle.design_ir.specs.declared.expr.Expr.{Expr}
use Rattle.design_ir.specs.declared.expr.Expr.TheVariants as expr
use Rattle.identifiers.specs.Identifiers.{is_identifier}
use Rattle.module_dsl.specs.Blocks.{is_outermost}
use Rattle.module_dsl.specs.Builders.{Built, built_blocks, fragment_of}
use Rattle.clock_domains.specs.declared.top.TopPorts.{TopPorts}
use Rattle.clock_domains.specs.declared.top.TopPorts.TheVariants.{Loose}
use Rattle.clock_domains.specs.declared.stop.ResolveStop.{ResolveStop}
use Rattle.clock_domains.specs.declared.stop.ResolveStop.TheVariants as unresolved
use Rattle.clock_domains.specs.Resolved.{resolved, file_start}
use Rattle.elab_eval.specs.declared.running.Elaborated.{Elaborated}
use Rattle.elab_eval.specs.declared.refusal.ElabStop.{ElabStop}
use Rattle.elab_eval.specs.declared.refusal.ElabStop.TheVariants.{Refused, Spent, NoMemory}
use Rattle.elab_eval.specs.ObjectTops.{object_ports}
use Rattle.elab_store.specs.declared.simulation.ClockCall.{ClockCall}
use Rattle.elab_eval.specs.Clocks.{clock_refused}
use Rattle.elab_store.specs.declared.hierarchy.Addition.{Addition}
use Rattle.elab_store.specs.declared.hierarchy.Node.{Node}
use Rattle.elab_store.specs.declared.hierarchy.NodeOf.{NodeOf}
use Rattle.elab_store.specs.declared.hierarchy.NodeOf.TheVariants as node
use Rattle.elab_store.specs.declared.memories.OwnMemory.{OwnMemory}
use Rattle.elab_store.specs.declared.wrappings.Wrapping.{Wrapping}
use Rattle.elab_store.specs.declared.wrappings.Wrapping.TheVariants as wrapping
use Rattle.design_ir.specs.Pools.{Pooled}
use Rattle.domain_transforms.specs.Counted.{is_past}
use Rattle.domain_transforms.specs.Making.{fragment_with}
use Rattle.domain_transforms.specs.Renamed.{renamed}
use Rattle.domain_transforms.specs.Resetting.{reset_inserted}
use Rattle.domain_transforms.specs.Enabling.{enabled}
use Rattle.design_ir.specs.declared.memory.Memory.{Memory}
use Rattle.elab_acts.specs.Simulators.{with_simulation}
use Rattle.elab_store.specs.Simulations.{no_simulation}
use Rattle.elab_store.specs.ClockDomains.{defined_by}
use Rattle.elab_store.specs.Stores.{Stored, Held}
use Rattle.elab_eval.specs.Reaches.{Reaches, world}

-- ---- the ports of the top

-- those of a module are found in its statements
abbrev pub ports_of : Seen → Held → Option ObjId → Option TopPorts
ports_of s h None = Some Loose
ports_of s h (Some o) = object_ports s h o

abbrev pub top_ports : Seen → Held → Option TopPorts
top_ports s h = ports_of s h h.store.top.object

-- ---- the design

-- a design, the store without the modules, which are done with, and all that the program made
pub record Found : Type 0 where
  pub circuit : Circuit
  pub store : Stored
  pub frozen : Made

abbrev pub unresolved_stop : ResolveStop → ElabStop
unresolved_stop (unresolved.DomainClash p) = Refused kind.DomainClash p
unresolved_stop (unresolved.NoReset p) = Refused kind.Raised p
unresolved_stop (unresolved.TwoDrivers p) = Refused kind.TwoDrivers p
unresolved_stop (unresolved.DrivenInput p) = Refused kind.DrivenInput p
unresolved_stop (unresolved.Limit p) = Refused kind.Limit p
unresolved_stop unresolved.NoMemory = NoMemory

abbrev pub without_modules : Stored → Stored
without_modules s = record s { modules = [] }

-- What a design is refused for that was resolved: more expressions than it may have, or a clock of its simulator that may not be, at its call. The
-- calls that make expressions refuse one too many, and so do the wrappers, and no expression is made behind these: the first is never told.
abbrev pub design_stop : Circuit → List ClockCall → Option ElabStop
design_stop c clocks = if nat_lt 262144 (length c.pool.exprs) then Some (Refused kind.Limit file_start) else option_map (Refused kind.Raised) (clock_refused c clocks)

abbrev pub found_unless : Option ElabStop → Found → Result Found ElabStop
found_unless None found = Ok found
found_unless (Some stop) found = Err stop

abbrev pub found_with : Held → Made → Result Circuit ResolveStop → Result Found ElabStop
found_with h heap (Ok c) = found_unless (design_stop c h.store.simulation.clocks) (record { circuit = c; store = without_modules h.store; frozen = heap })
found_with h heap (Err stop) = Err (unresolved_stop stop)

-- ---- the tree of modules and memories

abbrev pub module_in : List Built → Option ℕ → Option Built
module_in bs None = None
module_in bs (Some m) = slice_get bs m

-- the module that is the top, or what the top's `elaborate` gave
abbrev pub root_module : Stored → Option Built
root_module s = module_in s.modules s.top.root

-- a module of which a block is open
abbrev pub is_open : Built → Bool
is_open b = not (is_outermost (built_blocks b).around)

-- what may not stand in the tree: beside such a module, what is not there
abbrev pub is_open_in : Stored → NodeOf → Bool
is_open_in s (node.Module m) = option_map_or is_open (slice_get s.modules m) true
is_open_in s (node.Memory k) = option_map_or (λ (x : OwnMemory). false) (slice_get s.memories k) true
is_open_in s (node.Wrapper k) = option_map_or (λ (x : Wrapping). false) (slice_get s.wrappings k) true

abbrev pub is_open_at : Stored → Node → Bool
is_open_at s x = is_open_in s x.of

-- the same of the wrappings of the top
abbrev pub is_open_wrap : Stored → ℕ → Bool
is_open_wrap s k = is_open_in s (node.Wrapper k)

-- a module of the tree as a fragment, under the name of its addition
abbrev pub fragment_at : Stored → ℕ → Fragment
fragment_at s m = fragment_of (slice_index_or s.modules m (record { name = []; steps = [] }))

abbrev pub node_name : Stored → Node → List ℕ
node_name s x = option_map_or (λ (a : Addition). a.name) (slice_get s.hierarchy.additions x.addition) (codes "u")

abbrev pub spec_of : Option OwnMemory → List Memory
spec_of None = []
spec_of (Some x) = x.spec ∷ []

-- a module with the domains that it defines, or a memory alone
abbrev pub leaf_in : Stored → List ℕ → NodeOf → Leaf
leaf_in s name (node.Module m) = record (leaf_of (fragment_at s m)) { name = name; domains = defined_by m s.clock_domains }
leaf_in s name (node.Memory k) = record { name = name; is_part = false; domains = []; processes = []; memories = spec_of (slice_get s.memories k) }
leaf_in s name (node.Wrapper k) = record { name = name; is_part = false; domains = []; processes = []; memories = [] }

abbrev pub leaf_at : Stored → Node → Leaf
leaf_at s x = leaf_in s (node_name s x) x.of

-- the first trees of a forest, and those behind them
abbrev pub first_trees : ℕ → Forest → Forest
first_trees zero f = bare
first_trees (suc n) bare = bare
first_trees (suc n) (grown l below rest) = grown l below (first_trees n rest)

abbrev pub other_trees : ℕ → Forest → Forest
other_trees zero f = f
other_trees (suc n) bare = bare
other_trees (suc n) (grown l below rest) = other_trees n rest

-- ---- wrappers: what they make of a module and of all below it, and the pool behind it

abbrev pub wrapped_by : Wrapping → Pooled → Fragment → Fragment × Pooled
wrapped_by (wrapping.Rename names) q f = renamed names q f
wrapped_by (wrapping.Reset controls) q f = reset_inserted controls q f
wrapped_by (wrapping.Enable controls) q f = enabled controls q f

-- it passes a count
abbrev pub is_past_by : Wrapping → Fragment × Pooled → Bool
is_past_by (wrapping.Rename names) made = nat_lt 262144 (length made.1.exprs)
is_past_by (wrapping.Reset controls) made = is_past made.1 made.0
is_past_by (wrapping.Enable controls) made = is_past made.1 made.0

abbrev pub within_counts : Bool → Fragment × Pooled → Result (Fragment × Pooled) ElabStop
within_counts true made = Err (Refused kind.Limit file_start)
within_counts false made = Ok made

abbrev pub wrapped : Option Wrapping → Fragment × Pooled → Result (Fragment × Pooled) ElabStop
wrapped None t = Err (Refused kind.Raised file_start)
wrapped (Some w) t = let made = wrapped_by w t.1 t.0 in within_counts (is_past_by w made) made

-- a refusal stays one
abbrev pub and_then : {A B : Type 0} → Result A ElabStop → (A → Result B ElabStop) → Result B ElabStop
and_then (Err stop) f = Err stop
and_then (Ok x) f = f x

-- a tree before these
abbrev pub put_before : Forest → Fragment × Pooled → Result (Forest × Pooled) ElabStop
put_before rest t = Ok (grown (leaf_of t.0) t.0.submodules rest, t.1)

-- the first tree is wrapped, where there is one
abbrev pub first_wrapped : Option Wrapping → Forest → Pooled → Result (Forest × Pooled) ElabStop
first_wrapped w bare q = Ok (bare, q)
first_wrapped w (grown l below rest) q = and_then (wrapped w (fragment_with l below, q)) (put_before rest)

-- ---- the tree below the top

-- a module or a memory stands before those behind it, of which it takes those below it; a wrapper takes the first and gives what it makes of it
abbrev pub node_put : Stored → Node → NodeOf → Forest × Pooled → Result (Forest × Pooled) ElabStop
node_put s x (node.Wrapper k) behind = first_wrapped (slice_get s.wrappings k) behind.0 behind.1
node_put s x (node.Module m) behind = Ok (grown (leaf_at s x) (first_trees x.below behind.0) (other_trees x.below behind.0), behind.1)
node_put s x (node.Memory k) behind = Ok (grown (leaf_at s x) (first_trees x.below behind.0) (other_trees x.below behind.0), behind.1)

-- nodes stand before those below them, and each tells how many stand directly below it; they are put from the last one on
abbrev pub forest_of_nodes : Stored → List Node → Pooled → Result (Forest × Pooled) ElabStop
forest_of_nodes s [] q = Ok (bare, q)
forest_of_nodes s (x ∷ xs) q = and_then (forest_of_nodes s xs q) (node_put s x x.of)

-- ---- the whole tree

-- the domains that the top defines
abbrev pub root_domains : Stored → List DomainDef
root_domains s = option_map_or (λ m. defined_by m s.clock_domains) s.top.root []

-- the top before these trees
abbrev pub root_before : Stored → Built → Forest × Pooled → Fragment × Pooled
root_before s b t = (record (fragment_of b) { domains = root_domains s; submodules = t.0 }, t.1)

-- the wrappings of the top act from the innermost one on
abbrev pub root_wrapped : List Wrapping → List ℕ → Fragment × Pooled → Result (Fragment × Pooled) ElabStop
root_wrapped ws [] t = Ok t
root_wrapped ws (k ∷ ks) t = and_then (root_wrapped ws ks t) (wrapped (slice_get ws k))

-- the top, with all that stands below it, and the pool behind its wrappers
abbrev pub tree_of : Stored → Built → Pooled → Result (Fragment × Pooled) ElabStop
tree_of s b q = and_then (forest_of_nodes s s.hierarchy.nodes q) (λ t. root_wrapped s.wrappings s.hierarchy.root_wraps (root_before s b t))

-- a block is open of the top or of a module below it
abbrev pub is_any_open : Stored → Built → Bool
is_any_open s b = is_open b || (list_any (is_open_at s) s.hierarchy.nodes || list_any (is_open_wrap s) s.hierarchy.root_wraps)

-- a component whose ports were not made is no top
abbrev pub found_by : Held → Made → Option TopPorts → Fragment × Pooled → Result Found ElabStop
found_by h heap None t = Err (Refused kind.Raised file_start)
found_by h heap (Some ports) t = found_with h heap (resolved t.1 t.0 ports)

-- a module of which a block is open raises
abbrev pub module_found : Held → Made → Option Built → Result Found ElabStop
module_found h heap None = Err (Refused kind.Raised file_start)
module_found h heap (Some b) =
    if is_any_open h.store b then Err (Refused kind.Raised file_start)
    else and_then (tree_of h.store b h.pool) (found_by h heap (top_ports (seen nothing heap) h))

-- a reset of a domain that has no name
abbrev pub is_nameless : Expr → Bool
is_nameless (expr.Reset domain place) = not (is_identifier domain)
is_nameless (expr.Const n s) = false
is_nameless (expr.Sig s) = false
is_nameless (expr.Unary o a) = false
is_nameless (expr.Binary o a b) = false
is_nameless (expr.Mux s a b) = false
is_nameless (expr.Slice a low width) = false
is_nameless (expr.Cat es) = false
is_nameless (expr.Part a offset width stride) = false
is_nameless (expr.Pick index es) = false
is_nameless (expr.Cast a signed) = false
is_nameless (expr.Matches a patterns) = false

-- What is held at the end of a program, with the heap that it made, as a design. A nameless reset would raise; a call of `ResetSignal` has refused
-- such a name before, so this is never told.
abbrev pub design_of : Held → Made → Result Found ElabStop
design_of h heap =
    if list_any is_nameless h.pool.exprs then Err (Refused kind.Raised file_start) else module_found h heap (root_module h.store)

-- ---- where a program stops: a false `assert` raises

abbrev pub cause_stop : Cause → Place → ElabStop
cause_stop cause.Raised p = Refused kind.Raised p
cause_stop cause.Width p = Refused kind.Width p
cause_stop cause.Limit p = Refused kind.Limit p
cause_stop cause.Assert p = Refused kind.Raised p
cause_stop cause.Spent p = Spent p

abbrev pub stop_of : Stop → ElabStop
stop_of x = cause_stop x.cause x.place

-- a refusal that the table told elsewhere than at the request, as that of a state that was never entered
abbrev pub told_place : Option Place → Cause → Place → Place
told_place (Some p) cause.Raised q = p
told_place told why q = q

abbrev pub told_at : Option Place → Stop → Stop
told_at told x = record x { place = told_place told x.cause x.place }

-- ---- outcomes

-- where the words name the top, what the file's simulator was told is let go: no clock is tested, and no testbench is left
abbrev pub without_simulation : Option (List ℕ) → Held → Held
without_simulation None h = h
without_simulation (Some name) h = with_simulation no_simulation h

-- behind answers that are reached a program ended, and what is then held gives this
pub record Ends (program : Steps) (top : Option (List ℕ)) (budget : ℕ) (found : Result Found ElabStop) (used : ℕ) : Type 0 where
  pub given : List Answer
  pub held : Held
  pub reached : Reaches program top budget given held
  pub got : Got
  pub state : State
  pub ends : ask_program program (world budget given) ≡ Done got state
  pub found_is : found ≡ design_of (without_simulation top held) state.heap
  pub used_is : used ≡ state.used

-- behind answers that are reached it stopped, at this cost
pub record Stops (program : Steps) (top : Option (List ℕ)) (budget : ℕ) (found : Result Found ElabStop) (used : ℕ) : Type 0 where
  pub given : List Answer
  pub held : Held
  pub reached : Reaches program top budget given held
  pub stop : Stop
  pub stops : stops_as (ask_program program (world budget given)) ≡ Some (stop, used)
  pub found_is : found ≡ Err (stop_of (told_at held.store.told stop))

-- what a program is elaborated to, and how many units it used
abbrev pub Elaborates : Steps → Option (List ℕ) → ℕ → Result Found ElabStop → ℕ → Type 0
Elaborates program top budget found used = Ends program top budget found used ⊎ Stops program top budget found used

-- there is one such outcome
abbrev pub OneOutcome : Type 0
OneOutcome =
    (program : Steps) (top : Option (List ℕ)) (budget : ℕ) (found other : Result Found ElabStop) (used spent : ℕ)
    → Elaborates program top budget found used → Elaborates program top budget other spent → (found ≡ other) × (used ≡ spent)

-- ---- what comes of a call, with what is left of the budget

pub record Comes (program : Steps) (top : Option (List ℕ)) (budget left : ℕ) (found : Result Found ElabStop) : Type 0 where
  pub used : ℕ
  pub outcome : Elaborates program top budget found used
  pub rest : left ≡ budget - used

-- what is elaborated in the code, as the definitions see it
abbrev pub found_of : Elaborated → Found
found_of e = record { circuit = e.design; store = e.store; frozen = e.frozen }

-- a design and a refusal are exactly what the program is elaborated to; want of memory may come at any time
abbrev pub IsElaborated : Steps → Option (List ℕ) → ℕ → ℕ → Result Elaborated ElabStop → Type 0
IsElaborated program top budget left (Ok e) = Comes program top budget left (Ok (found_of e))
IsElaborated program top budget left (Err (Refused k p)) = Comes program top budget left (Err (Refused k p))
IsElaborated program top budget left (Err (Spent p)) = Comes program top budget left (Err (Spent p))
IsElaborated program top budget left (Err NoMemory) = ⊤

-- what the end of a program gives is what is owed
abbrev pub IsFound : Result Elaborated ElabStop → Result Found ElabStop → Type 0
IsFound (Ok e) owed = owed ≡ Ok (found_of e)
IsFound (Err (Refused k p)) owed = owed ≡ Err (Refused k p)
IsFound (Err (Spent p)) owed = owed ≡ Err (Spent p)
IsFound (Err NoMemory) owed = ⊤

-- what is held with modules that were taken out of their store
abbrev pub held_of_modules : Pooled → Stored → List Built → Held
held_of_modules q s bs = record { pool = q; store = record s { modules = bs } }

-- the same of a design alone, over what is held and the heap
abbrev pub IsDesignOf : Held → Made → Result Circuit ElabStop → Result Found ElabStop → Type 0
IsDesignOf h heap (Ok c) owed = owed ≡ Ok (record { circuit = c; store = without_modules h.store; frozen = heap })
IsDesignOf h heap (Err (Refused k p)) owed = owed ≡ Err (Refused k p)
IsDesignOf h heap (Err (Spent p)) owed = owed ≡ Err (Spent p)
IsDesignOf h heap (Err NoMemory) owed = ⊤
