-- What a walk through a graph, deepest node first, keeps to.
use Rattle.std.specs.Prelude.{Option, Some, None, ◌≡◌, ◌≢◌, ℕ, ◌+◌, ◌*◌, ◌<◌, ◌≤◌, ◌⊎◌, Bool, true, false, ⊤, List, [], ◌∷◌, ◌++◌, map, length, Contains, sum_by, count_by, slice_index_or, slice_set}
use Rattle.digraph.specs.declared.walk.Mark.{Mark}
use Rattle.digraph.specs.declared.walk.Mark.TheVariants.{New, Open, Done}
use Rattle.digraph.specs.declared.walk.Frame.{Frame}
use Rattle.digraph.specs.declared.walk.Turn.{Turn}
use Rattle.digraph.specs.declared.walk.Turn.TheVariants.{Goes, Ends, Loops}
use Rattle.digraph.specs.declared.walk.Walked.{Walked}
use Rattle.digraph.specs.declared.walk.Walked.TheVariants.{Sorted, Looping}
use Rattle.digraph.specs.Graphs.{Digraph, Leads, Reaches, EdgeAt, IsRest, IsBehind, IsSorted}

-- how far each node is, the nodes that wait for the one that is walked, and the nodes that are done, in order
pub record Walking : Type 0 where
  pub marks : List Mark
  pub path : List Frame
  pub order : List ℕ

abbrev pub mark : List Mark → ℕ → Mark
mark marks n = slice_index_or marks n New

-- none of these is another of them
abbrev pub Apart : List ℕ → Type 0
Apart [] = ⊤
Apart (n ∷ ns) = (Contains ns n → ⊥) × Apart ns

-- ---- nodes that are done

-- the nodes of the order are those that are done, and each leads to earlier ones alone
pub record IsClosed (g : Digraph) (marks : List Mark) (order : List ℕ) : Type 0 where
  pub size : length marks ≡ g.size
  pub ordered : (n : ℕ) → mark marks n ≡ Done → Contains order n
  pub done : (n : ℕ) → Contains order n → mark marks n ≡ Done
  pub once : Apart order
  pub behind : IsBehind g order

-- ---- nodes that are open

-- the node leads to x, and each other edge of it that was looked at to a node that is done
pub record Awaits (g : Digraph) (marks : List Mark) (f : Frame) (x : ℕ) : Type 0 where
  pub rest : IsRest g f.node f.rest
  pub leads : Leads g f.node x
  pub read : (k b : ℕ) → f.rest ≤ k → EdgeAt g k f.node b → (mark marks b ≡ Done) ⊎ (b ≡ x)

-- the node that a frame below these waits for
abbrev pub above : List Frame → ℕ → ℕ
above [] x = x
above (f ∷ fs) x = f.node

-- each of these waits for the next, and the last for x
abbrev pub ArePath : Digraph → List Mark → List Frame → ℕ → Type 0
ArePath g marks [] x = ⊤
ArePath g marks (f ∷ fs) x = Awaits g marks f (above fs x) × ArePath g marks fs x

-- the nodes that are open
abbrev pub stack : List Frame → ℕ → List ℕ
stack path n = map (λ (f : Frame). f.node) path ++ n ∷ []

-- the path is a path to the node that is walked, whose edges that were looked at lead to nodes that are done
pub record IsOnPath (g : Digraph) (marks : List Mark) (path : List Frame) (at : Frame) : Type 0 where
  pub rest : IsRest g at.node at.rest
  pub read : (k b : ℕ) → at.rest ≤ k → EdgeAt g k at.node b → mark marks b ≡ Done
  pub waits : ArePath g marks path at.node
  pub is_open : (n : ℕ) → Contains (stack path at.node) n → mark marks n ≡ Open
  pub stacked : (n : ℕ) → mark marks n ≡ Open → Contains (stack path at.node) n
  pub once : Apart (stack path at.node)

-- ---- the walk

-- on its way, at a node
pub record Stands (g : Digraph) (w : Walking) (at : Frame) : Type 0 where
  pub closed : IsClosed g w.marks w.order
  pub on_path : IsOnPath g w.marks w.path at

-- between two roots
pub record IsIdle (g : Digraph) (w : Walking) : Type 0 where
  pub closed : IsClosed g w.marks w.order
  pub none_open : (n : ℕ) → mark w.marks n ≢ Open
  pub no_path : w.path ≡ []

abbrev pub is_new : Mark → Bool
is_new New = true
is_new Open = false
is_new Done = false

-- the work that is left: nodes that are new, and edges that were not looked at
abbrev pub work : Digraph → Walking → Frame → ℕ
work g w at = count_by is_new w.marks * (length g.edges + 2) + sum_by (λ (f : Frame). f.rest + 1) w.path + (at.rest + 1)

-- a node is done
abbrev pub finished : Walking → ℕ → Walking
finished w n = record { marks = slice_set w.marks n Done; path = w.path; order = w.order ++ n ∷ [] }

-- a node is opened
abbrev pub opened : Walking → ℕ → Walking
opened w n = record { marks = slice_set w.marks n Open; path = w.path; order = w.order }

-- a node waits
abbrev pub waiting : Walking → Frame → Walking
waiting w f = record { marks = w.marks; path = w.path ++ f ∷ []; order = w.order }

-- no node is new again
abbrev pub Kept : List Mark → List Mark → Type 0
Kept marks more = (n : ℕ) → mark more n ≡ New → mark marks n ≡ New

-- a walk goes on at a node, with less work left than there was
pub record GoesOn (g : Digraph) (old : Walking) (was : Frame) (w : Walking) (at : Frame) : Type 0 where
  pub stands : Stands g w at
  pub less : work g w at < work g old was
  pub kept : Kept old.marks w.marks

-- a walk from a root is over
pub record IsOver (g : Digraph) (old w : Walking) : Type 0 where
  pub idle : IsIdle g w
  pub kept : Kept old.marks w.marks

-- a node reaches itself
pub record IsLooping (g : Digraph) (w : Walking) (n : ℕ) : Type 0 where
  pub loops : Reaches g n n
  pub closed : IsClosed g w.marks w.order

-- what a turn of the walk comes to
abbrev pub Turned : Digraph → Walking → Frame → Walking → Turn → Type 0
Turned g old was w (Goes at) = GoesOn g old was w at
Turned g old was w Ends = IsOver g old w
Turned g old was w (Loops n) = IsLooping g w n

-- what the walk from a root comes to
pub record IsExplored (g : Digraph) (root : ℕ) (old w : Walking) : Type 0 where
  pub over : IsOver g old w
  pub done : mark w.marks root ≡ Done

abbrev pub Explored : Digraph → ℕ → Walking → Walking → Option ℕ → Type 0
Explored g root old w None = IsExplored g root old w
Explored g root old w (Some n) = IsLooping g w n

-- some node reaches itself, and none that is done does
pub record IsSeen (g : Digraph) (marks : List Mark) : Type 0 where
  pub node : ℕ
  pub loops : Reaches g node node
  pub size : length marks ≡ g.size
  pub done : (n : ℕ) → mark marks n ≡ Done → Reaches g n n → ⊥

-- what the walk of a whole graph comes to
abbrev pub IsWalked : Digraph → Walked → Type 0
IsWalked g (Sorted order) = IsSorted g order
IsWalked g (Looping marks) = IsSeen g marks.items
