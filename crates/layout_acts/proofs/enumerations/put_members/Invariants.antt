use Rattle.std.proofs.Common.{◌≡◌, ◌++◌, drop, map}
use Rattle.layout_acts.specs.Enumerations.{member_thing}
use Rattle.layout_acts.proofs.enumerations.put_members.Given as goal

abbrev pub invariant-loop-m : goal.invariant-loop-m
invariant-loop-m l =
    l.things ++ map (member_thing l.ends l.is_integer l.shape) (drop l.m-index l.members) ≡ l.initial.things ++ map (member_thing l.ends l.is_integer l.shape) l.members
