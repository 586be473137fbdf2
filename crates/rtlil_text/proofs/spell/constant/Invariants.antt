use Rattle.std.proofs.Common.{◌≡◌, ◌++◌, map, string_bytes}
use Rattle.rtlil_text.specs.Lines.{bit_char}
use Rattle.rtlil_text.proofs.spell.constant.Given as goal

abbrev pub invariant-loop-b : goal.invariant-loop-b
invariant-loop-b l = string_bytes l.out ≡ string_bytes l.initial.out ++ map bit_char (map (λ b. b.now) l.yielded)
