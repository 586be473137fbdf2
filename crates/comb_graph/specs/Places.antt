-- The nodes of a pool's expressions, and where they lead: a node for each bit, then one for all bits, then one for the
-- offsets and indices of the expression as a target.
use Rattle.std.specs.Prelude.{◌≡◌, ℕ, ◌+◌, ◌-◌, ◌*◌, ◌^◌, ◌<◌, ◌≤◌, All, length, nat_lt, if◌then◌else◌, List, [], ◌∷◌, ◌++◌, map, slice_index_or}
use Rattle.shape_rules.specs.Forms.{Form, IsForm}
use Rattle.design_ir.specs.declared.ids.ExprId.{ExprId}
use Rattle.design_ir.specs.declared.expr.Expr as expr
use Rattle.design_ir.specs.declared.expr.Expr.{Expr}
use Rattle.design_ir.specs.declared.expr.Expr.TheVariants.{Const, Unary, Binary, Mux, Slice, Cat, Part, Pick, Cast, Matches, Reset}
use Rattle.design_ir.specs.Pools.{Pooled}
use Rattle.design_ir.specs.declared.signal.Sig.{Sig}
use Rattle.design_ir.specs.Values.{form, signal_form}
use Rattle.design_ir.specs.Needed.{is_bitwise, every, needed, needed_indices}
use Rattle.design_ir.specs.Targets.{Bit}
use Rattle.digraph.specs.Graphs.{Digraph}
use Rattle.comb_graph.specs.Meanings.{Means, Extends, KeepsSignals}

-- the node of an expression's first bit
abbrev pub first_of : List ℕ → ℕ → ℕ
first_of firsts e = slice_index_or firsts e 0

abbrev pub whole_at : (ℕ → Form) → (ℕ → ℕ) → ExprId → ℕ
whole_at form first e = first e.0 + (form e.0).width

abbrev pub indices_at : (ℕ → Form) → (ℕ → ℕ) → ExprId → ℕ
indices_at form first e = first e.0 + (form e.0).width + 1

-- a bit past the width is the top bit of a signed expression
abbrev pub extended_at : (ℕ → Form) → (ℕ → ℕ) → ExprId → ℕ → List ℕ
extended_at form first e k =
    if nat_lt k (form e.0).width then (first e.0 + k) ∷ [] else (if (form e.0).signed then (first e.0 + ((form e.0).width - 1)) ∷ [] else [])

abbrev pub joined_at : (ℕ → Form) → (ℕ → ℕ) → List ExprId → ℕ → List ℕ
joined_at form first [] k = []
joined_at form first (e ∷ es) k = if nat_lt k (form e.0).width then (first e.0 + k) ∷ [] else joined_at form first es (k - (form e.0).width)

-- where the node of bit k leads
abbrev pub bit_targets : (ℕ → Form) → (ℕ → ℕ) → Expr → ℕ → List ℕ
bit_targets form first (Const n s) k = []
bit_targets form first (expr.TheVariants.Sig s) k = (128 * s.0 + k) ∷ []
bit_targets form first (Unary op a) k = if is_bitwise op then (first a.0 + k) ∷ [] else whole_at form first a ∷ []
bit_targets form first (Binary op a b) k =
    if is_bitwise op then extended_at form first a k ++ extended_at form first b k else whole_at form first a ∷ whole_at form first b ∷ []
bit_targets form first (Mux s a b) k = whole_at form first s ∷ (extended_at form first a k ++ extended_at form first b k)
bit_targets form first (Slice a low width) k = (first a.0 + (low + k)) ∷ []
bit_targets form first (Cat es) k = joined_at form first es k
bit_targets form first (Part a offset width stride) k = whole_at form first a ∷ whole_at form first offset ∷ []
bit_targets form first (Pick index es) k = whole_at form first index ∷ map (whole_at form first) es
bit_targets form first (Cast a signed) k = (first a.0 + k) ∷ []
bit_targets form first (Matches a patterns) k = whole_at form first a ∷ []
bit_targets form first (Reset domain place) k = []

-- where the node of the offsets and indices leads
abbrev pub index_targets : (ℕ → Form) → (ℕ → ℕ) → Expr → List ℕ
index_targets form first (Slice a low width) = indices_at form first a ∷ []
index_targets form first (Cat es) = map (indices_at form first) es
index_targets form first (Part a offset width stride) = whole_at form first offset ∷ indices_at form first a ∷ []
index_targets form first (Pick index es) = whole_at form first index ∷ map (indices_at form first) es
index_targets form first (Cast a signed) = indices_at form first a ∷ []
index_targets form first (Const n s) = []
index_targets form first (expr.TheVariants.Sig s) = []
index_targets form first (Unary op a) = []
index_targets form first (Binary op a b) = []
index_targets form first (Mux s a b) = []
index_targets form first (Matches a patterns) = []
index_targets form first (Reset domain place) = []

-- the nodes of an expression stand for what it needs
pub record IsPlaced (g : Digraph) (count : ℕ) (pool : Pooled) (first : ℕ → ℕ) (e : ℕ) : Type 0 where
  pub bits : (k : ℕ) → k < (form pool e).width → Means g count (first e + k) (needed pool e k)
  pub whole : Means g count (first e + (form pool e).width) (every (form pool e) (needed pool e))
  pub indices : Means g count (first e + (form pool e).width + 1) (needed_indices pool e)

-- the nodes of expressions of the pool, which leave room for some numbers more
pub record IsTable (pool : Pooled) (firsts : List ℕ) : Type 0 where
  pub few : length firsts ≤ length pool.exprs
  pub room : All (λ n. n < 2 ^ 63) firsts

-- expressions below a number have their nodes, and have shapes
pub record ArePlaced (g : Digraph) (count : ℕ) (pool : Pooled) (first : ℕ → ℕ) (below : ℕ) : Type 0 where
  pub placed : (e : ℕ) → e < below → IsPlaced g count pool first e
  pub shaped : (e : ℕ) → e < below → IsForm (form pool e).width (form pool e).signed

-- the nodes of signals' bits are so many, and 128 for each signal are enough
abbrev pub FitSignals : ℕ → List Sig → Type 0
FitSignals count sigs = (s k : ℕ) → s < length sigs → k < (signal_form sigs s).width → (128 * s + k < count) × (k < 128)

-- the nodes of signals' bits
abbrev pub bit_nodes : Pooled → ℕ
bit_nodes pool = 128 * length pool.signals

-- a graph with nodes for the first expressions of a pool
pub record HasPlaces (g : Digraph) (pool : Pooled) (firsts : List ℕ) : Type 0 where
  pub size : bit_nodes pool ≤ g.size
  pub table : IsTable pool firsts
  pub placed : ArePlaced g (bit_nodes pool) pool (first_of firsts) (length firsts)

-- so many nodes more, for the first bits of an expression
pub record HasBits (g h : Digraph) (pool : Pooled) (e n : ℕ) : Type 0 where
  pub size : h.size ≡ g.size + n
  pub extends : Extends g h (bit_nodes pool)
  pub signals : KeepsSignals g h (bit_nodes pool)
  pub bits : (k : ℕ) → k < n → Means h (bit_nodes pool) (g.size + k) (needed pool e k)

-- one node more, which stands for these bits
pub record HasNode (g h : Digraph) (pool : Pooled) (bits : List Bit) : Type 0 where
  pub size : h.size ≡ g.size + 1
  pub extends : Extends g h (bit_nodes pool)
  pub signals : KeepsSignals g h (bit_nodes pool)
  pub means : Means h (bit_nodes pool) g.size bits

-- the nodes of an expression's bits
abbrev pub AreBits : Digraph → Pooled → ℕ → ℕ → Type 0
AreBits g pool e first = (k : ℕ) → k < (form pool e).width → Means g (bit_nodes pool) (first + k) (needed pool e k)
