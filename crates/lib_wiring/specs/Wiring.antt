-- Which signals of two interfaces are connected.
-- Source: Amaranth standard library 0.5, Interfaces and connections, Making connections: each path stands in both, widths and
-- inits agree, an output meets inputs alone, and each input is driven by the output at its path. Where a path stands twice in an
-- interface, its first leaf counts: this project's own rule.
use Rattle.std.specs.Prelude.{◌≡◌, ℕ, ◌<◌, ◌==◌, ◌&&◌, Bool, true, false, not, ⊤, if◌then◌else◌, List, [], ◌∷◌, length, Option, Some, None, option_and_then, slice_get, filter, find}
use Rattle.std.specs.List.{AllByRecursion, list_any, list_all, filter_map}
use Rattle.std.specs.Ordering.{int_eq}
use Rattle.lists.specs.Texts.{text_eq}
use Rattle.design_ir.specs.declared.signal.Sig.{Sig}
use Rattle.lib_wiring.specs.declared.leaf.Leaf.{Leaf}
use Rattle.lib_wiring.specs.declared.leaf.Link.{Link}
use Rattle.lib_wiring.specs.declared.leaf.WireStop.{WireStop}
use Rattle.lib_wiring.specs.declared.leaf.WireStop.TheVariants.{Unconnectable, NoMemory}

-- ---- paths

abbrev pub is_at : List ℕ → Leaf → Bool
is_at path l = text_eq l.path path

abbrev pub has_path : List ℕ → List Leaf → Bool
has_path path leaves = list_any (is_at path) leaves

-- the leaf that counts at a path
abbrev pub leaf_at : List ℕ → List Leaf → Option Leaf
leaf_at path leaves = find (is_at path) leaves

-- the leaves that count, in order: the first of each path
abbrev pub first_leaves : List Leaf → List Leaf
first_leaves [] = []
first_leaves (l ∷ ls) = l ∷ filter (λ m. not (is_at l.path m)) (first_leaves ls)

-- no path stands twice
abbrev pub are_apart : List Leaf → Bool
are_apart [] = true
are_apart (l ∷ ls) = not (has_path l.path ls) && are_apart ls

-- ---- what may meet

-- two signals have one width and one init
abbrev pub same_signal : Option Sig → Option Sig → Bool
same_signal None y = false
same_signal (Some x) None = false
same_signal (Some x) (Some y) = (x.shape.width == y.shape.width) && int_eq x.init y.init

abbrev pub agree : List Sig → ℕ → ℕ → Bool
agree sigs a b = same_signal (slice_get sigs a) (slice_get sigs b)

-- the signals agree, and not both lead out
abbrev pub may_meet : List Sig → Leaf → Leaf → Bool
may_meet sigs l m = agree sigs l.sig.0 m.sig.0 && not (l.is_out && m.is_out)

abbrev pub meets : List Sig → Leaf → Option Leaf → Bool
meets sigs l None = false
meets sigs l (Some m) = may_meet sigs l m

-- each path of the second is one of the first
abbrev pub have_paths : List Leaf → List Leaf → Bool
have_paths first second = list_all (λ m. has_path m.path first) second

-- each of these leaves meets a leaf that it may meet
abbrev pub all_meet : List Sig → List Leaf → List Leaf → Bool
all_meet sigs leaves second = list_all (λ l. meets sigs l (leaf_at l.path second)) leaves

-- both have the same paths, and what meets at each may meet
abbrev pub is_connectable : List Sig → List Leaf → List Leaf → Bool
is_connectable sigs first second = have_paths first second && all_meet sigs (first_leaves first) second

-- ---- links

-- the input is driven by the output; two inputs stay as they are
abbrev pub link_between : Leaf → Leaf → Option Link
link_between l m =
    if l.is_out then (if m.is_out then None else Some record { target = m.expr; source = l.expr }) else (if m.is_out then Some record { target = l.expr; source = m.expr } else None)

abbrev pub link_to : List Leaf → Leaf → Option Link
link_to second l = option_and_then (link_between l) (leaf_at l.path second)

abbrev pub links : List Leaf → List Leaf → List Link
links first second = filter_map (link_to second) (first_leaves first)

-- the links between two interfaces, where they are connectable
abbrev pub connected : List Sig → List Leaf → List Leaf → Option (List Link)
connected sigs first second = if is_connectable sigs first second then Some (links first second) else None

-- what is refused; want of memory may come at any time
abbrev pub IsOwed : Option (List Link) → WireStop → Type 0
IsOwed owed Unconnectable = owed ≡ None
IsOwed owed NoMemory = ⊤

-- all leaves are signals of the pool
abbrev pub AreSignals : List Sig → List Leaf → Type 0
AreSignals sigs leaves = AllByRecursion (λ (l : Leaf). l.sig.0 < length sigs) leaves
