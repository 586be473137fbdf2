-- Which bits of signals a node of a graph stands for: those that it comes to without passing another.
use Rattle.std.specs.Prelude.{◌≡◌, ℕ, ◌+◌, ◌*◌, ◌<◌, ◌≤◌, List, [], ◌∷◌, Contains}
use Rattle.design_ir.specs.Targets.{Bit}
use Rattle.digraph.specs.Graphs.{Digraph, Leads}

-- the node of a signal's bit; the nodes of signals stand before all others
abbrev pub node_of : Bit → ℕ
node_of b = 128 * b.sig + b.index

-- the node is the end, or one past the nodes of signals that leads to the first of these, and so on to the end
abbrev pub Walks : Digraph → ℕ → ℕ → List ℕ → ℕ → Type 0
Walks g count n [] end = n ≡ end
Walks g count n (m ∷ ms) end = (count ≤ n) × Leads g n m × Walks g count m ms end

-- from a node one comes to another without passing a signal's
abbrev pub Comes : Digraph → ℕ → ℕ → ℕ → Type 0
Comes g count n end = (between : List ℕ) × Walks g count n between end

-- the bit of such a node
pub record IsBitAt (bits : List Bit) (x : ℕ) : Type 0 where
  pub bit : Bit
  pub among : Contains bits bit
  pub low : bit.index < 128
  pub at : node_of bit ≡ x

-- from one of these nodes one comes to these bits, and to no others
pub record MeanAll (g : Digraph) (count : ℕ) (nodes : List ℕ) (bits : List Bit) : Type 0 where
  pub inside : (n : ℕ) → Contains nodes n → n < g.size
  pub into : (b : Bit) → Contains bits b → (n : ℕ) × Contains nodes n × Comes g count n (node_of b)
  pub only : (n x : ℕ) → Contains nodes n → x < count → Comes g count n x → IsBitAt bits x

-- from the node one comes to these bits, and to no others
pub record Means (g : Digraph) (count n : ℕ) (bits : List Bit) : Type 0 where
  pub inside : n < g.size
  pub into : (b : Bit) → Contains bits b → Comes g count n (node_of b)
  pub only : (x : ℕ) → x < count → Comes g count n x → IsBitAt bits x

-- nodes past those of signals lead to lesser ones alone
abbrev pub IsDown : Digraph → ℕ → Type 0
IsDown g count = (a b : ℕ) → count ≤ a → Leads g a b → b < a

-- a graph has become larger, and the nodes that it had past those of signals lead to what they led to
pub record Extends (g h : Digraph) (count : ℕ) : Type 0 where
  pub size : g.size ≤ h.size
  pub kept : (a b : ℕ) → Leads g a b → Leads h a b
  pub old : (a b : ℕ) → count ≤ a → a < g.size → Leads h a b → Leads g a b
  pub down : IsDown g count → IsDown h count

-- the nodes of signals lead to what they led to
abbrev pub KeepsSignals : Digraph → Digraph → ℕ → Type 0
KeepsSignals g h count = (a b : ℕ) → a < count → Leads h a b → Leads g a b
