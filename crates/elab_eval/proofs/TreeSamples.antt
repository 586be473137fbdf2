-- A tree of modules, worked out: to the top, module 0, module 1 was added as `a` and module 2 without a name, and module 3 to module 1 as `x`. The
-- top defines the second of two clock domains, and module 3 the first. Wrapping 0 renames `sync` to `mid`, and wrapping 1 `mid` to `fast`.
use Rattle.std.specs.Prelude.{◌≡◌, refl, ℕ, zero, suc, true, false, List, [], ◌∷◌, Option, Some, None, Result, Ok, Err, codes}
use Rattle.py_values.specs.declared.val.Val.TheVariants as val
use Rattle.design_ir.specs.declared.ids.ExprId.{ExprId}
use Rattle.design_ir.specs.declared.domain.DomainDef.{DomainDef}
use Rattle.design_ir.specs.declared.process.Process.{Process}
use Rattle.design_ir.specs.declared.process.Side.{Side}
use Rattle.design_ir.specs.declared.process.Side.TheVariants.{Comb, Clocked}
use Rattle.design_ir.specs.declared.fragment.Fragment.{Fragment}
use Rattle.design_ir.specs.Forests.{Leaf, Forest, bare, grown}
use Rattle.design_ir.specs.Pools.{Pooled}
use Rattle.design_ir.specs.Trees.{assign, done, next}
use Rattle.module_dsl.specs.declared.step.Step.TheVariants.{Assign, Enter}
use Rattle.module_dsl.specs.declared.step.Opening.TheVariants.{If}
use Rattle.module_dsl.specs.Blocks.{blocks_of}
use Rattle.module_dsl.specs.Builders.{Built, fragment_of}
use Rattle.fragment_walks.specs.Walks.{all_processes, all_paths, all_definitions}
use Rattle.elab_store.specs.declared.hierarchy.Addition.{Addition}
use Rattle.elab_store.specs.declared.hierarchy.Node.{Node}
use Rattle.elab_store.specs.declared.hierarchy.NodeOf.TheVariants as node
use Rattle.elab_store.specs.declared.memories.OwnMemory.{OwnMemory}
use Rattle.elab_store.specs.declared.wrappings.Wrapping.{Wrapping}
use Rattle.elab_store.specs.declared.wrappings.Wrapping.TheVariants as wrapping
use Rattle.domain_transforms.specs.Renamed.{remade, holds_renamed}
use Rattle.amh_things.specs.declared.thing.Reading.TheVariants as reading
use Rattle.shape_rules.specs.Forms.{unsigned}
use Rattle.memory_ports.specs.Calls.{new_memory}
use Rattle.elab_store.specs.Components.{no_components}
use Rattle.elab_store.specs.declared.domains.ClockDomain.{ClockDomain}
use Rattle.elab_store.specs.ClockDomains.{ClockDomains}
use Rattle.elab_store.specs.Simulations.{no_simulation}
use Rattle.elab_store.specs.Stores.{Stored}
use Rattle.elab_eval.specs.declared.refusal.ElabStop.{ElabStop}
use Rattle.elab_eval.specs.Elaborates.{is_open, is_open_in, is_any_open, forest_of_nodes, tree_of}

e : ℕ → ExprId
e n = record { 0 = n }

-- a module with one statement, of these targets and values
told : Side → ℕ → Built
unfolding e
told side n = record { name = []; steps = Assign side (e n) (e 0) (record { line = n; col = 1 }) ∷ [] }

process : Side → ℕ → Process
unfolding e
process side n = record { side = side; body = next (assign (e n) (e 0) (record { line = n; col = 1 })) done }

sync : Side
sync = Clocked (codes "sync")

modules : List Built
unfolding told
modules = told Comb 10 ∷ told sync 11 ∷ told Comb 12 ∷ told sync 13 ∷ []

addition : ℕ → List ℕ → Addition
addition m name = record { of = m; name = name; is_named = true; thing = val.None }

additions : List Addition
unfolding addition
additions = addition 0 (codes "a") ∷ addition 0 (codes "u1") ∷ addition 1 (codes "x") ∷ []

nodes : List Node
nodes = record { addition = 0; of = node.Module 1; below = 1 } ∷ record { addition = 2; of = node.Module 3; below = 0 } ∷ record { addition = 1; of = node.Module 2; below = 0 } ∷ []

-- `fast`, without a reset, and `slow`
made : ℕ → ClockDomain
made zero = record { domain = record { name = codes "fast"; clk = record { 0 = 4 }; rst = None; falling = false; async_reset = false }; reset = None }
made (suc k) = record { domain = record { name = codes "slow"; clk = record { 0 = 7 }; rst = Some (record { 0 = 8 }); falling = false; async_reset = false }; reset = Some val.None }

-- where a clock domain is defined
defined : ℕ → ℕ → DomainDef
unfolding made
defined k line = record { domain = (made k).domain; place = record { line = line; col = 5 } }

clock_domains : ClockDomains
unfolding made
clock_domains = record {
  made = made 0 ∷ made 1 ∷ [];
  definitions = record { of = 3; clock_domain = 0; place = record { line = 21; col = 5 } } ∷ record { of = 0; clock_domain = 1; place = record { line = 22; col = 5 } } ∷ [];
}

leaf : List ℕ → List DomainDef → Process → Leaf
leaf name ds p = record { name = name; is_part = false; domains = ds; processes = p ∷ []; memories = [] }

-- a memory of four rows
own : OwnMemory
own = record { spec = new_memory (unsigned 8) 4 []; reading = reading.Plain }

-- domains get other names
renaming : List ℕ → List ℕ → Wrapping
renaming before after = wrapping.Rename (record { before = before; after = after } ∷ [])

wrappings : List Wrapping
unfolding renaming
wrappings = renaming (codes "sync") (codes "mid") ∷ renaming (codes "mid") (codes "fast") ∷ []

store : List Node → List ℕ → Stored
unfolding modules additions clock_domains own wrappings
store ns root_wraps = record {
  things = [];
  kept = [];
  modules = modules;
  patterns = [];
  top = record { object = None; root = Some 0 };
  components = no_components;
  hierarchy = record { additions = additions; nodes = ns; waiting = []; taken = 3; root_wraps = root_wraps };
  clock_domains = clock_domains;
  machines = [];
  memories = own ∷ [];
  wrappings = wrappings;
  wrapped = [];
  domains = [];
  told = None;
  simulation = no_simulation;
}

-- no wrapper makes an expression of these
pool : Pooled
pool = record { signals = []; exprs = [] }

forest : List Node → Result (Forest × Pooled) ElabStop
unfolding store pool
forest ns = forest_of_nodes (store ns []) ns pool

-- `a` with `a.x` below it, and then `u1`
tree_is : forest nodes
    ≡ Ok (grown (leaf (codes "a") [] (process sync 11)) (grown (leaf (codes "x") (defined 0 21 ∷ []) (process sync 13)) bare bare) (grown (leaf (codes "u1") [] (process Comb 12)) bare bare), pool)
unfolding e told process sync modules addition additions nodes made defined clock_domains leaf own renaming wrappings store pool forest fragment_of blocks_of
tree_is = refl

-- a module may stand in the tree more than once, each time under another name
twice : forest (record { addition = 0; of = node.Module 3; below = 0 } ∷ record { addition = 1; of = node.Module 3; below = 0 } ∷ [])
    ≡ Ok (grown (leaf (codes "a") (defined 0 21 ∷ []) (process sync 13)) bare (grown (leaf (codes "u1") (defined 0 21 ∷ []) (process sync 13)) bare bare), pool)
unfolding e told process sync modules addition additions made defined clock_domains leaf own renaming wrappings store pool forest fragment_of blocks_of
twice = refl

-- a memory stands alone
a_memory : forest (record { addition = 0; of = node.Memory 0; below = 0 } ∷ record { addition = 1; of = node.Module 2; below = 0 } ∷ [])
    ≡ Ok (grown (record { name = codes "a"; is_part = false; domains = []; processes = []; memories = new_memory (unsigned 8) 4 [] ∷ [] }) bare (grown (leaf (codes "u1") [] (process Comb 12)) bare bare), pool)
unfolding e told process sync modules addition additions made clock_domains leaf own renaming wrappings store pool forest fragment_of blocks_of
a_memory = refl

-- ---- wrappers

wrapper : ℕ → ℕ → Node
wrapper k addition = record { addition = addition; of = node.Wrapper k; below = 1 }

mid : Side
mid = Clocked (codes "mid")

fast : Side
fast = Clocked (codes "fast")

-- the domains of `a` and of `a.x` have another name, and those of `u1` have not
wrapped : forest (wrapper 0 0 ∷ nodes)
    ≡ Ok (grown (leaf (codes "a") [] (process mid 11)) (grown (leaf (codes "x") (defined 0 21 ∷ []) (process mid 13)) bare bare) (grown (leaf (codes "u1") [] (process Comb 12)) bare bare), pool)
unfolding e told process sync mid modules addition additions nodes made defined clock_domains leaf own renaming wrappings store pool forest wrapper fragment_of blocks_of remade holds_renamed
wrapped = refl

-- the wrapper that stands last acts first
inner_first : forest (wrapper 1 0 ∷ wrapper 0 0 ∷ record { addition = 0; of = node.Module 1; below = 0 } ∷ []) ≡ Ok (grown (leaf (codes "a") [] (process fast 11)) bare bare, pool)
unfolding e told process sync fast modules addition additions made clock_domains leaf own renaming wrappings store pool forest wrapper fragment_of blocks_of remade holds_renamed
inner_first = refl

outer_first : forest (wrapper 0 0 ∷ wrapper 1 0 ∷ record { addition = 0; of = node.Module 1; below = 0 } ∷ []) ≡ Ok (grown (leaf (codes "a") [] (process mid 11)) bare bare, pool)
unfolding e told process sync mid modules addition additions made clock_domains leaf own renaming wrappings store pool forest wrapper fragment_of blocks_of remade holds_renamed
outer_first = refl

-- ---- the whole: processes of the top come first, and each has the names above it

tree_with : List ℕ → Result (Fragment × Pooled) ElabStop
unfolding nodes store pool told
tree_with root_wraps = tree_of (store nodes root_wraps) (told Comb 10) pool

-- what a tree gives
given : {A : Type 0} → (Fragment → A) → Result (Fragment × Pooled) ElabStop → Option A
given f (Ok t) = Some (f t.0)
given f (Err stop) = None

processes_are : given all_processes (tree_with []) ≡ Some (process Comb 10 ∷ process sync 11 ∷ process sync 13 ∷ process Comb 12 ∷ [])
unfolding e told process sync modules addition additions nodes clock_domains own renaming wrappings store pool tree_with given fragment_of blocks_of
processes_are = refl

definitions_are : given all_definitions (tree_with []) ≡ Some (defined 1 22 ∷ defined 0 21 ∷ [])
unfolding e told process sync modules addition additions nodes made defined clock_domains own renaming wrappings store pool tree_with given fragment_of blocks_of
definitions_are = refl

paths_are : given all_paths (tree_with []) ≡ Some (Some [] ∷ Some (codes "a.") ∷ Some (codes "a.x.") ∷ Some (codes "u1.") ∷ [])
unfolding e told process sync modules addition additions nodes clock_domains own renaming wrappings store pool tree_with given fragment_of blocks_of
paths_are = refl

-- the wrappings of the top act on all of it, the last one first
root_is_wrapped : given all_processes (tree_with (1 ∷ 0 ∷ [])) ≡ Some (process Comb 10 ∷ process fast 11 ∷ process fast 13 ∷ process Comb 12 ∷ [])
unfolding e told process sync fast modules addition additions nodes made clock_domains own renaming wrappings store pool tree_with given fragment_of blocks_of remade holds_renamed
root_is_wrapped = refl

-- there is no module 4, no memory 1 and no wrapping 2
none_there : (is_open_in (store [] []) (node.Module 4) ≡ true) × (is_open_in (store [] []) (node.Memory 1) ≡ true) × (is_open_in (store [] []) (node.Wrapper 2) ≡ true) × (is_any_open (store [] (2 ∷ [])) (told Comb 1) ≡ true)
unfolding e told modules own renaming wrappings store blocks_of
none_there = (refl, refl, refl, refl)

-- what is there may stand in the tree
all_there : (is_open_in (store [] []) (node.Module 3) ≡ false) × (is_open_in (store [] []) (node.Memory 0) ≡ false) × (is_open_in (store [] []) (node.Wrapper 1) ≡ false) × (is_any_open (store nodes (1 ∷ [])) (told Comb 1) ≡ false)
unfolding e told modules additions nodes own renaming wrappings store blocks_of
all_there = (refl, refl, refl, refl)

-- a block is open
open_block : is_open (record { name = []; steps = Enter (If (e 1)) ∷ [] }) ≡ true
unfolding e blocks_of
open_block = refl
