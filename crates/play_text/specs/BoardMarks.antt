-- A mark for each signal that a script may set, as the marks are made.
-- Internal: no rule of the language.
use Rattle.std.specs.Prelude.{Bool, true, false, if◌then◌else◌, List, slice_set}
use Rattle.design_ir.specs.declared.domain.Domain.{Domain}
use Rattle.design_ir.specs.declared.port.Port.{Port}

-- the signal of an input is marked
abbrev pub mark_input : List Bool → Port → List Bool
mark_input marks p = if p.is_input then slice_set marks p.sig.0 true else marks

-- the clock of a domain is not
abbrev pub unmark_clock : List Bool → Domain → List Bool
unmark_clock marks d = slice_set marks d.clk.0 false
