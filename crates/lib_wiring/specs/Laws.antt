-- What is proved of links.
-- Source: Amaranth standard library 0.5, Interfaces and connections, Making connections.
use Rattle.std.specs.Prelude.{◌≡◌, ℕ, ◌⊎◌, if◌then◌else◌, ◌↔◌, true, false, not, List, [], ◌∷◌, Some, Contains}
use Rattle.std.specs.List.{AllZip}
use Rattle.design_ir.specs.declared.signal.Sig.{Sig}
use Rattle.lib_wiring.specs.declared.leaf.Leaf.{Leaf}
use Rattle.lib_wiring.specs.declared.leaf.Link.{Link}
use Rattle.lib_wiring.specs.Wiring.{has_path, are_apart, leaf_at, agree, may_meet, is_connectable, links, connected}

-- ---- what is connectable

-- both have the same paths, and what counts at a path may meet
pub record Fit (sigs : List Sig) (first second : List Leaf) : Type 0 where
  pub paths : (path : List ℕ) → has_path path first ≡ has_path path second
  pub meet : (path : List ℕ) (l m : Leaf) → leaf_at path first ≡ Some l → leaf_at path second ≡ Some m → may_meet sigs l m ≡ true

abbrev pub ConnectableIsFitting : Type 0
ConnectableIsFitting = (sigs : List Sig) (first second : List Leaf) → (is_connectable sigs first second ≡ true) ↔ Fit sigs first second

-- the same from both sides
abbrev pub FittingIsTheSame : Type 0
FittingIsTheSame = (sigs : List Sig) (first second : List Leaf) → is_connectable sigs first second ≡ is_connectable sigs second first

-- ---- links

-- one leaf leads in and is driven by the other, which leads out
pub record Leads (target source : Leaf) (link : Link) : Type 0 where
  pub in_leaf : target.is_out ≡ false
  pub out_leaf : source.is_out ≡ true
  pub driven : link.target ≡ target.expr
  pub drives : link.source ≡ source.expr

-- leaves of both interfaces at one path
pub record IsLinked (first second : List Leaf) (link : Link) : Type 0 where
  pub path : List ℕ
  pub one : Leaf
  pub other : Leaf
  pub of_first : leaf_at path first ≡ Some one
  pub of_second : leaf_at path second ≡ Some other
  pub leads : Leads one other link ⊎ Leads other one link

-- what is linked leads in from what leads out at the same path, and all that does is linked
abbrev pub LinksLeadIn : Type 0
LinksLeadIn = (first second : List Leaf) (link : Link) → Contains (links first second) link ↔ IsLinked first second link

-- the same links from both sides
abbrev pub LinksAreTheSame : Type 0
LinksAreTheSame = (first second : List Leaf) (link : Link) → Contains (links first second) link → Contains (links second first) link

-- ---- turned

-- the same path in the other direction, and signals that agree
pub record IsTurned (sigs : List Sig) (l m : Leaf) : Type 0 where
  pub path : m.path ≡ l.path
  pub turned : m.is_out ≡ not l.is_out
  pub agrees : agree sigs l.sig.0 m.sig.0 ≡ true

-- the input of two leaves that are turned against each other is driven by the output
abbrev pub link_across : Leaf → Leaf → Link
link_across l m = if l.is_out then record { target = m.expr; source = l.expr } else record { target = l.expr; source = m.expr }

-- the links of leaves that are turned against each other, leaf by leaf
abbrev pub across : List Leaf → List Leaf → List Link
across [] ms = []
across (l ∷ ls) [] = []
across (l ∷ ls) (m ∷ ms) = link_across l m ∷ across ls ms

abbrev pub TurnedAreLinked : Type 0
TurnedAreLinked = (sigs : List Sig) (first second : List Leaf) → AllZip (IsTurned sigs) first second → are_apart first ≡ true → connected sigs first second ≡ Some (across first second)
