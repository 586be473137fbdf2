use Rattle.std.proofs.Common.{◌≡◌, [], None, take}
use Rattle.std.specs.Ordering.{nat_cmp}
use Rattle.std.specs.BTreeMap.{get_by_text}
use Rattle.std.specs.BTreeSet.{contains}
use Rattle.clock_domains.specs.Resolved.{clash_after}
use Rattle.clock_domains.proofs.ClashLaws.{HasAll, IsLook, clocks_of, names_of}
use Rattle.clock_domains.proofs.clashes.no_clash.Given as goal

abbrev pub invariant-loop-definition : goal.invariant-loop-definition
invariant-loop-definition l = record {
  free : clash_after [] (take l.definition-index l.definitions) ≡ None;
  names : IsLook (get_by_text l.names) (names_of (take l.definition-index l.definitions));
  clocks : HasAll (contains nat_cmp l.clocks) (clocks_of (take l.definition-index l.definitions));
}
