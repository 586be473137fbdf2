use Rattle.std.proofs.Common.{◌≡◌, ◌++◌, take, codes, string_bytes}
use Rattle.std.specs.List.{flat_map}
use Rattle.rtlil_text.specs.Lines.{◌▸◌}
use Rattle.rtlil_text.specs.Written.{part_text}
use Rattle.rtlil_text.specs.Widths.{width_in}
use Rattle.rtlil_text.proofs.spell.braced.Given as goal

abbrev pub invariant-loop-p : goal.invariant-loop-p
invariant-loop-p l =
    string_bytes l.out ≡ string_bytes l.fn.out ++ (codes "{" ++ flat_map (λ p. codes " " ▸ part_text (width_in l.widths) p) (take l.p-index l.p-items))
