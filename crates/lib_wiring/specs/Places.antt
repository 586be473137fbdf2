-- Where the leaves of an interface stand, and how far links have come.
-- Internal: no rule of the language.
use Rattle.std.specs.Prelude.{◌≡◌, ℕ, ◌==◌, Bool, true, false, ⊤, List, Option, Some, None, Result, MatchResult, String}
use Rattle.std.specs.List.{position_from, filter_map}
use Rattle.std.specs.BTreeMap.{BTreeMap, get_by_text}
use Rattle.std.specs.declared.alloc.Global.{Global}
use Rattle.design_ir.specs.declared.signal.Sig.{Sig}
use Rattle.lib_wiring.specs.declared.leaf.Leaf.{Leaf}
use Rattle.lib_wiring.specs.declared.leaf.Link.{Link}
use Rattle.lib_wiring.specs.declared.leaf.WireStop.{WireStop}
use Rattle.lib_wiring.specs.declared.leaf.WireStop.TheVariants.{Unconnectable, NoMemory}
use Rattle.lib_wiring.specs.Wiring.{is_at, all_meet, link_to}

-- a path has the place of its first leaf
abbrev pub ArePlaces : List Leaf → BTreeMap (String Global) ℕ → Type 0
ArePlaces leaves places = (path : List ℕ) → get_by_text places path ≡ position_from (is_at path) 0 leaves

abbrev pub is_place : ℕ → Option ℕ → Bool
is_place i None = false
is_place i (Some j) = j == i

-- what comes of a leaf that meets an interface
abbrev pub IsMeeting : Result (Option Link) WireStop → Bool → Option Link → Type 0
IsMeeting r met link = MatchResult r (λ owed. (met ≡ true) × (owed ≡ link)) (λ stop. (stop ≡ Unconnectable) × (met ≡ false))

-- these leaves all meet, and these are their links
pub record AreLinked (sigs : List Sig) (leaves second : List Leaf) (links : List Link) : Type 0 where
  pub met : all_meet sigs leaves second ≡ true
  pub are : links ≡ filter_map (link_to second) leaves

-- some leaf does not meet; want of memory may come at any time
abbrev pub IsApart : Bool → WireStop → Type 0
IsApart met Unconnectable = met ≡ false
IsApart met NoMemory = ⊤
