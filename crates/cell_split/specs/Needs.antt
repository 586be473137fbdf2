-- The graph of a module: a node for each cell, and nodes for the bits of its wires.
-- Internal: no rule of the language.
use Rattle.std.specs.Prelude.{◌≡◌, ℕ, ◌+◌, ◌≤◌, nat_lt, Bool, true, false, if◌then◌else◌, List, length, Option, Some, None, slice_get, slice_index_or, All}
use Rattle.std.specs.BTreeMap.{get_by_text}
use Rattle.lists.specs.Texts.{text_eq}
use Rattle.rtlil_text.specs.declared.cell.RtlEnd.{RtlEnd}
use Rattle.rtlil_text.specs.declared.cell.RtlCell.{RtlCell}
use Rattle.rtlil_text.specs.declared.module.RtlLink.{RtlLink}
use Rattle.rtlil_text.specs.declared.module.RtlModule.{RtlModule}
use Rattle.rtlil_text.specs.Sources.{Source, Constant, Net, spec_bits}
use Rattle.rtlil_text.specs.CellTables.{output_of}
use Rattle.rtlil_text.specs.Drivers.{ByCell, driver}
use Rattle.digraph.specs.Graphs.{Digraph, Leads}
use Rattle.cell_split.specs.declared.nodes.Nodes.{Nodes}
use Rattle.cell_split.specs.Loops.{Bit, is_comb, FeedsWhole, OnLoop}

-- ---- nodes

-- the node of a bit of a wire, by the node of its first bit; the spare one where there is none
abbrev pub node_behind : Nodes → Option ℕ → ℕ → ℕ
node_behind nodes None place = nodes.spare
node_behind nodes (Some first) place = if nat_lt (first + place) nodes.count then first + place else nodes.spare

abbrev pub node_of : Nodes → Source → ℕ
node_of nodes (Constant b) = nodes.spare
node_of nodes (Net wire i) = node_behind nodes (get_by_text nodes.firsts wire) i

-- ---- edges

-- all that led somewhere still does
pub record Grows (g h : Digraph) : Type 0 where
  pub size : h.size ≡ g.size
  pub leads : (a b : ℕ) → Leads g a b → Leads h a b

-- a cell leads to the bits of its output, and those at other ends lead to it
abbrev pub Ties : Digraph → (cell : ℕ) → (is_output : Bool) → (bit : ℕ) → Type 0
Ties g cell true bit = Leads g cell bit
Ties g cell false bit = Leads g bit cell

abbrev pub HasEnd : Digraph → (Source → ℕ) → (cell : ℕ) → (output : List ℕ) → RtlEnd → Type 0
HasEnd g node cell output e = All (λ s. Ties g cell (text_eq e.name output) (node s)) (spec_bits e.spec)

abbrev pub HasCell : Digraph → (Source → ℕ) → (place : ℕ) → RtlCell → Type 0
HasCell g node place c = is_comb c ≡ true → All (HasEnd g node place (output_of c.kind)) c.ends

abbrev pub HasCells : Digraph → (Source → ℕ) → List RtlCell → Type 0
HasCells g node cells = (p : ℕ) (c : RtlCell) → slice_get cells p ≡ Some c → HasCell g node p c

-- the one at a place leads to the other there
abbrev pub LeadsAt : Digraph → List ℕ → List ℕ → ℕ → Type 0
LeadsAt g froms uptos k = (a b : ℕ) → slice_get froms k ≡ Some a → slice_get uptos k ≡ Some b → Leads g a b

abbrev pub LeadAlong : Digraph → List ℕ → List ℕ → Type 0
LeadAlong g froms uptos = (k : ℕ) → LeadsAt g froms uptos k

-- each bit on the right side leads to that on the left
abbrev pub HasLink : Digraph → (Source → ℕ) → RtlLink → Type 0
HasLink g node l = (k : ℕ) (a b : Source) → slice_get (spec_bits l.right) k ≡ Some a → slice_get (spec_bits l.left) k ≡ Some b → Leads g (node a) (node b)

abbrev pub HasLinks : Digraph → (Source → ℕ) → List RtlLink → Type 0
HasLinks g node links = (p : ℕ) (l : RtlLink) → slice_get links p ≡ Some l → HasLink g node l

-- the cells are the first nodes, and what a bit needs leads to it
pub record HasNeeds (m : RtlModule) (g : Digraph) : Type 0 where
  pub node : Source → ℕ
  pub size : length m.cells ≤ g.size
  pub cells : HasCells g node m.cells
  pub links : HasLinks g node m.links

-- ---- marks

abbrev pub is_marked : List Bool → ℕ → Bool
is_marked marks p = slice_index_or marks p false

-- a bit that the cell drives lies on a loop through cells taken whole
pub record IsTangled (m : RtlModule) (c : RtlCell) : Type 0 where
  pub bit : Bit
  pub place : ℕ
  pub drives : driver m bit.wire bit.place ≡ ByCell c place
  pub loops : OnLoop (FeedsWhole m) bit

-- each such cell is marked
pub record MarksTangled (m : RtlModule) (marks : List Bool) : Type 0 where
  pub size : length marks ≡ length m.cells
  pub marked : (p : ℕ) (c : RtlCell) → slice_get m.cells p ≡ Some c → IsTangled m c → is_marked marks p ≡ true
