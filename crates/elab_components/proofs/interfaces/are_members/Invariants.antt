use Rattle.std.proofs.Common.{◌≡◌, ℕ, List, drop}
use Rattle.std.specs.List.{list_any}
use Rattle.std.specs.BTreeSet.{contains_text}
use Rattle.lists.specs.Texts.{text_eq}
use Rattle.elab_components.specs.Interfaces.{are_members, are_named}
use Rattle.elab_components.proofs.interfaces.are_members.Given as goal

abbrev pub invariant-loop-m : goal.invariant-loop-m
invariant-loop-m l =
    (before : List (List ℕ)) × (are_named before (drop l.m-index l.members) ≡ are_members l.members) × ((q : List ℕ) → contains_text l.names q ≡ list_any (text_eq q) before)
