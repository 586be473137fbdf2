-- A bit vector that is extended stands for the same number.
use Rattle.std.proofs.Common.{◌≡◌, ℕ, ◌≤◌, ◌<◌, ◌^◌, Bool}
use Rattle.amh_bits.specs.BitVectors.{BitVector, extended}
use Rattle.amh_bits.specs.Patterns.{number}
use Rattle.amh_bits.proofs.Wraps.{number_pattern, number_is_of}
use Rattle.amh_bits.proofs.InShape.{of_wider}

pub number_extended : (signed : Bool) (v : BitVector) (width : ℕ) → v.bits < 2 ^ v.width → v.width ≤ width → number signed width (extended signed width v).bits ≡ number signed v.width v.bits
number_extended signed v width small wider =
    number_pattern signed width (number signed v.width v.bits) (of_wider signed v.width width _ wider (number_is_of signed v.width v.bits small))
