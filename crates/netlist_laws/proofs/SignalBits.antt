-- The one bit of a signal of a clock or a reset.
use Rattle.std.specs.Prelude.{◌≡◌, ℕ, zero, suc, false, not, Some, option_and_then, ℤ, pos, negsuc, refl}
use Rattle.std.proofs.Common.{◌∙◌, ap, arith, subst}
use Rattle.amh_bits.specs.Patterns.{IsOf}
use Rattle.shape_rules.specs.Forms.{Form, unsigned}
use Rattle.shape_rules.specs.Operators.{is_zero}
use Rattle.design_ir.specs.Values.{signal_form}
use Rattle.design_ir.specs.Circuits.{Circuit}
use Rattle.rtlil_text.specs.Sources.{spec_bits}
use Rattle.rtlil_text.specs.Cells.{bit_at}
use Rattle.rtlil_text.specs.Meaning.{source_value}
use Rattle.rtlil_text.specs.History.{Wires}
use Rattle.netlist_laws.specs.Operators.{whole}
use Rattle.netlist_laws.specs.Carried.{IsIn, Carries}
use Rattle.netlist_laws.specs.Module.{signal_value}
use Rattle.netlist_laws.proofs.Places.{slice_get-wire_part}
use Rattle.netlist_laws.proofs.Reading.{bit_of, has_carried}

bit_of-zero : (x : ℤ) → IsOf false 1 x → bit_of x 0 ≡ not (is_zero x)
bit_of-zero (pos zero) h = refl
bit_of-zero (pos (suc zero)) h = refl
bit_of-zero (pos (suc (suc n))) h = absurd (omega arith)
bit_of-zero (negsuc n) h = absurd h

-- it is whether the signal's number is not 0
pub bit_at-signal : (wires : Wires) (c : Circuit) (s : ℕ) (x : ℤ) → signal_form c.pool.signals s ≡ unsigned 1 → IsIn (signal_form c.pool.signals s) x → Carries wires (signal_value c s) x
    → bit_at (source_value wires) (spec_bits (whole (signal_value c s))) 0 ≡ Some (not (is_zero x))
bit_at-signal wires c s x shape fits carried =
    let wide : (signal_form c.pool.signals s).width ≡ 1 = ap (λ (g : Form). g.width) shape in
    ap (option_and_then (source_value wires)) (slice_get-wire_part (signal_value c s).id 0 (signal_form c.pool.signals s).width 0 (omega (arith, wide)))
    ∙ (has_carried wires (signal_value c s) x carried).at 0 (omega (arith, wide))
    ∙ ap Some (bit_of-zero x (subst (λ (g : Form). IsIn g x) shape fits))
