-- An integer that may have left the range, as a value.
-- Internal: no rule of the language.
use Rattle.std.specs.Prelude.{ℤ, Result, Ok, Err}
use Rattle.amh_bits.specs.declared.int.TooWide.{TooWide}
use Rattle.py_values.specs.declared.val.Val.{Val}
use Rattle.py_values.specs.declared.val.Val.TheVariants as val
use Rattle.py_values.specs.declared.val.NumberStop.{NumberStop}
use Rattle.py_values.specs.declared.val.NumberStop.TheVariants.{Width}

abbrev pub widened : Result ℤ TooWide → Result Val NumberStop
widened (Ok n) = Ok (val.Int n)
widened (Err e) = Err Width
