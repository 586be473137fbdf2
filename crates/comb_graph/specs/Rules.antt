-- What bits of signals need, rule by rule, and the edges that say so.
use Rattle.std.specs.Prelude.{is_none, ◌<◌, ◌≤◌, if◌then◌else◌, false, take, ◌≡◌, ℕ, List, ◌∷◌, [], ◌++◌, map, Contains, Option, Some, None, length}
use Rattle.std.specs.List.{flat_map, range_with_len}
use Rattle.design_ir.specs.declared.memory.MemRead.{MemRead}
use Rattle.design_ir.specs.declared.memory.Memory.{Memory}
use Rattle.design_ir.specs.declared.process.DesignProcess.{DesignProcess}
use Rattle.design_ir.specs.Circuits.{Circuit}
use Rattle.design_ir.specs.Pools.{Pooled}
use Rattle.design_ir.specs.Targets.{Bit, Aim, fixed_place, aims, target_signals}
use Rattle.design_ir.specs.Guards.{Guard, Guarded, guarded, guarded_in, guarded_arms}
use Rattle.design_ir.specs.Trees.{Statement, Choices, none, arm, Block}
use Rattle.design_ir.specs.Values.{form, signal_form}
use Rattle.design_ir.specs.Needed.{needed_whole, needed_indices}
use Rattle.design_ir.specs.Loops.{needed_value}
use Rattle.shape_rules.specs.Forms.{Form}
use Rattle.design_ir.specs.declared.ids.ExprId.{ExprId}
use Rattle.comb_graph.specs.declared.aimed.Aimed.{Aimed}
use Rattle.comb_graph.specs.Seen.{StandsBelow, seen}
use Rattle.comb_graph.specs.Places.{bit_nodes, whole_at, extended_at}
use Rattle.digraph.specs.Graphs.{Digraph, Leads}
use Rattle.comb_graph.specs.Meanings.{node_of, Comes, Means, Extends, IsDown}

-- a bit, and bits that it needs
pub record Rule : Type 0 where
  pub bit : Bit
  pub reads : List Bit

-- a rule by which the bit of one node needs that of the other
pub record IsRuled (rules : List Rule) (n x : ℕ) : Type 0 where
  pub rule : Rule
  pub among : Contains rules rule
  pub bit : node_of rule.bit ≡ n
  pub read : Bit
  pub reads : Contains rule.reads read
  pub low : read.index < 128
  pub at : node_of read ≡ x

-- from the node of a signal's bit one comes to the next of such nodes exactly where a rule says that it needs that bit
pub record ObeysRules (g : Digraph) (count : ℕ) (rules : List Rule) : Type 0 where
  pub into : (r : Rule) (c : Bit) → Contains rules r → Contains r.reads c → (m : ℕ) × Leads g (node_of r.bit) m × Comes g count m (node_of c)
  pub only : (n m x : ℕ) → n < count → Leads g n m → x < count → Comes g count m x → IsRuled rules n x

-- ---- the rules of a design

-- what the conditions of the arms around an assignment need
abbrev pub guard_reads : Pooled → List Guard → List Bit
guard_reads pool gs = flat_map (λ (x : Guard). needed_whole pool x.condition) gs

-- what an assignment asks for each bit that it may write
abbrev pub rule_of : Pooled → Guarded → Aim → Rule
rule_of pool g x = record { bit = x.bit; reads = guard_reads pool g.guards ++ needed_indices pool g.target.0 ++ needed_value pool g.value (fixed_place x.spot) }

abbrev pub rules_of : Pooled → Guarded → List Rule
rules_of pool g = map (rule_of pool g) (aims pool g.target.0)

abbrev pub all_rules : Pooled → List Guarded → List Rule
all_rules pool gs = flat_map (rules_of pool) gs

-- ---- the edges of what is asked

-- where the node of a bit that is written leads
abbrev pub value_targets : (ℕ → Form) → (ℕ → ℕ) → ℕ → ExprId → Option ℕ → List ℕ
value_targets form first shared v None = shared ∷ whole_at form first v ∷ []
value_targets form first shared v (Some k) = shared ∷ extended_at form first v k

-- a graph has become larger, and obeys these rules too
pub record Adds (g h : Digraph) (pool : Pooled) (new : List Rule) : Type 0 where
  pub extends : Extends g h (bit_nodes pool)
  pub rules : (rules : List Rule) → ObeysRules g (bit_nodes pool) rules → ObeysRules h (bit_nodes pool) (rules ++ new)

-- what is asked for a bit that may be written, where all such bits of an assignment need these
abbrev pub reading : Pooled → ExprId → List Bit → Aim → Rule
reading pool v reads x = record { bit = x.bit; reads = reads ++ needed_value pool v (fixed_place x.spot) }

-- the rules of the first so many aims of an assignment, where the shared node stands for what all of its bits need
abbrev pub AddsAims : Digraph → Digraph → Pooled → ℕ → ExprId → List Aimed → ℕ → Type 0
AddsAims g h pool shared v nodes count =
    (reads : List Bit) → Means g (bit_nodes pool) shared reads → Adds g h pool (map (reading pool v reads) (take count (map seen nodes)))

-- the rules of an assignment under the conditions for which the guard's node stands
abbrev pub AddsAssignment : Digraph → Digraph → Pooled → ℕ → ExprId → ExprId → Type 0
AddsAssignment g h pool guard target value =
    (x : Guarded) → x.target ≡ target → x.value ≡ value → Means g (bit_nodes pool) guard (guard_reads pool x.guards) → Adds g h pool (rules_of pool x)

-- the rules of statements under the conditions for which the guard's node stands
abbrev pub AddsBlock : Digraph → Digraph → Pooled → ℕ → Block → Type 0
AddsBlock g h pool guard body = (gs : List Guard) → Means g (bit_nodes pool) guard (guard_reads pool gs) → Adds g h pool (all_rules pool (guarded gs body))

abbrev pub AddsStatement : Digraph → Digraph → Pooled → ℕ → Statement → Type 0
AddsStatement g h pool guard s = (gs : List Guard) → Means g (bit_nodes pool) guard (guard_reads pool gs) → Adds g h pool (all_rules pool (guarded_in gs s))

abbrev pub AddsArms : Digraph → Digraph → Pooled → ℕ → Choices → Type 0
AddsArms g h pool guard arms = (gs : List Guard) → Means g (bit_nodes pool) guard (guard_reads pool gs) → Adds g h pool (all_rules pool (guarded_arms gs arms))

-- what holds behind arms that were not carried out
abbrev pub passed : List Guard → Choices → List Guard
passed gs none = gs
passed gs (arm c body others) = passed (gs ++ record { condition = c; taken = false } ∷ []) others

-- the node behind arms stands for the conditions of those too
abbrev pub MeansPassed : Digraph → Digraph → Pooled → ℕ → ℕ → Choices → Type 0
MeansPassed g h pool guard inner arms = (gs : List Guard) → Means g (bit_nodes pool) guard (guard_reads pool gs) → Means h (bit_nodes pool) inner (guard_reads pool (passed gs arms))

-- a bit of one of a target's signals, which stands at places of its shape
pub record IsAim (pool : Pooled) (target : ℕ) (x : Aim) : Type 0 where
  pub there : x.bit.sig < length pool.signals
  pub index : x.bit.index < (signal_form pool.signals x.bit.sig).width
  pub of : Contains (target_signals pool target) x.bit.sig
  pub below : StandsBelow (form pool target).width x.spot

-- ---- the graph of a design

-- the assignments of a process, where it is combinational
abbrev pub comb_part : DesignProcess → List Guarded
comb_part p = if is_none p.domain then guarded [] p.body else []

-- the assignments of combinational processes, in order
abbrev pub comb_assignments : List DesignProcess → List Guarded
comb_assignments ps = flat_map comb_part ps

-- what a combinational read port asks for a bit of its word: all bits of its address
abbrev pub word_rule : Pooled → ℕ → ExprId → ℕ → Rule
word_rule pool sig address k = record { bit = record { sig = sig; index = k }; reads = needed_whole pool address }

-- what it asks for the first so many bits of its word
abbrev pub word_rules : Pooled → ℕ → ExprId → ℕ → List Rule
word_rules pool sig address width = map (word_rule pool sig address) (range_with_len 0 width)

-- what a read port asks, where it is combinational
abbrev pub read_rules : Pooled → MemRead → List Rule
read_rules pool r = if is_none r.domain then word_rules pool r.word.0 r.addr (signal_form pool.signals r.word.0).width else []

abbrev pub memory_rules : Pooled → Memory → List Rule
memory_rules pool m = flat_map (read_rules pool) m.reads

-- what a design asks: its assignments, and its read ports
abbrev pub needs_rules : Circuit → List Rule
needs_rules c = all_rules c.pool (comb_assignments c.processes) ++ flat_map (memory_rules c.pool) c.memories

-- the edges are what the design asks
pub record IsNeedsGraph (g : Digraph) (c : Circuit) : Type 0 where
  pub size : bit_nodes c.pool ≤ g.size
  pub down : IsDown g (bit_nodes c.pool)
  pub obeys : ObeysRules g (bit_nodes c.pool) (needs_rules c)

-- a rule by which a bit needs another
pub record IsAsked (rules : List Rule) (b x : Bit) : Type 0 where
  pub rule : Rule
  pub among : Contains rules rule
  pub bit : rule.bit ≡ b
  pub reads : Contains rule.reads x
