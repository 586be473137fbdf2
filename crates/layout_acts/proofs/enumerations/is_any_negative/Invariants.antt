use Rattle.std.proofs.Common.{◌≡◌, drop}
use Rattle.std.specs.List.{list_any}
use Rattle.amh_bits.specs.Integers.{sign_of}
use Rattle.layout_acts.specs.Enumerations.{numbers_of}
use Rattle.layout_acts.proofs.enumerations.is_any_negative.Given as goal

abbrev pub invariant-loop-m : goal.invariant-loop-m
invariant-loop-m l = list_any sign_of (numbers_of (drop l.m-index l.members)) ≡ list_any sign_of (numbers_of l.members)
