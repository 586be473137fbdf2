-- Specs of bits whose sources give a number, and the sources before any statement.
use Rattle.std.specs.Prelude.{◌≡◌, refl, ℕ, ◌+◌, ◌<◌, Bool, true, false, List, map, length, slice_get, ℤ, Some, unwrap_or, option_map, option_and_then}
use Rattle.std.specs.List.{range_with_len}
use Rattle.std.proofs.Common.{sym, ◌∙◌, ap, arith}
use Rattle.std.proofs.lemmas.List.{length-map}
use Rattle.std.proofs.lemmas.List.FromFn.{length-range_with_len, get_or-range_with_len}
use Rattle.std.proofs.lemmas.Option.{slice_get-map, slice_get-get_or}
use Rattle.amh_bits.specs.Patterns.{pattern}
use Rattle.design_ir.specs.declared.signal.Sig.{Sig}
use Rattle.design_ir.specs.Values.{signal_form}
use Rattle.design_ir.specs.Circuits.{Circuit, at}
use Rattle.rtlil_text.specs.Sources.{Source, Constant, spec_bits}
use Rattle.rtlil_text.specs.Cells.{bit_at}
use Rattle.rtlil_text.specs.Cells.{number_bits}
use Rattle.rtlil_text.specs.Meaning.{source_value}
use Rattle.rtlil_text.specs.History.{Wires}
use Rattle.rtlil_text.proofs.CellLaws.{length-number_bits}
use Rattle.netlist_laws.specs.Carried.{Carries}
use Rattle.netlist_laws.specs.Spelled.{spec_of}
use Rattle.netlist_laws.specs.Module.{signal_value, init_bits, at_first}
use Rattle.netlist_laws.proofs.Reading.{bit_of, Reads, has_carried, slice_get-pattern}
use Rattle.netlist_laws.proofs.SpelledLaws.{spec_bits-spec_of}
use Rattle.netlist_laws.proofs.PutSources.{IsSourced}

-- ---- specs of sourced bits

from_zero : (n k : ℕ) → k < n → slice_get (range_with_len 0 n) k ≡ Some k
from_zero n k h =
    slice_get-get_or (range_with_len 0 n) k 0 (rw (length-range_with_len 0 n) h) ∙ ap Some (get_or-range_with_len 0 n k 0 h ∙ (let e : 0 + k ≡ k = omega arith in e))

-- bit k of a spec is its k-th source
pub bit_at-sources : (wires : Wires) (sources : ℕ → Source) (w k : ℕ) → k < w → bit_at (source_value wires) (spec_bits (spec_of (map sources (range_with_len 0 w)))) k ≡ source_value wires (sources k)
bit_at-sources wires sources w k l =
    ap (λ ss. option_and_then (source_value wires) (slice_get ss k)) (spec_bits-spec_of (map sources (range_with_len 0 w)))
    ∙ ap (option_and_then (source_value wires)) (slice_get-map sources (range_with_len 0 w) k ∙ ap (option_map sources) (from_zero w k l))

pub reads_sources : (wires : Wires) (sources : ℕ → Source) (w : ℕ) (x : ℤ) → ((i : ℕ) → i < w → source_value wires (sources i) ≡ Some (bit_of x i)) → Reads wires (spec_of (map sources (range_with_len 0 w))) w x
reads_sources wires sources w x h =
    let all : List Source = map sources (range_with_len 0 w) in
    record {
      wide = ap length (spec_bits-spec_of all) ∙ length-map (range_with_len 0 w) sources ∙ length-range_with_len 0 w;
      at = λ k l. bit_at-sources wires sources w k l ∙ h k l;
    }

pub reads_constants : (wires : Wires) (w : ℕ) (x : ℤ) → Reads wires (spec_of (map Constant (number_bits w (pattern w x)))) w x
reads_constants wires w x =
    let bits : List Bool = number_bits w (pattern w x) in
    record {
      wide = ap length (spec_bits-spec_of (map Constant bits)) ∙ length-map bits Constant ∙ length-number_bits w (pattern w x);
      at = λ k l.
          ap (λ ss. option_and_then (source_value wires) (slice_get ss k)) (spec_bits-spec_of (map Constant bits))
          ∙ ap (option_and_then (source_value wires)) (slice_get-map Constant bits k ∙ ap (option_map Constant) (slice_get-pattern w x k l));
    }

-- ---- before any statement

pub init_bits_are : (c : Circuit) (s : ℕ) (x : Sig) → slice_get c.pool.signals s ≡ Some x → init_bits c s ≡ number_bits (signal_form c.pool.signals s).width (pattern (signal_form c.pool.signals s).width x.init)
init_bits_are c s x e = rw e refl

-- a bit of a signal that is no register is that of its init
pub first_source : (c : Circuit) (s : ℕ) (x : Sig) (i : ℕ) → slice_get c.pool.signals s ≡ Some x → i < (signal_form c.pool.signals s).width → at_first c false s i ≡ Constant (bit_of x.init i)
first_source c s x i e l =
    ap (λ bits. Constant (unwrap_or (slice_get bits i) false)) (init_bits_are c s x e)
    ∙ ap (λ o. Constant (unwrap_or o false)) (slice_get-pattern (signal_form c.pool.signals s).width x.init i l)

pub first_sourced : (wires : Wires) (c : Circuit) (s : ℕ) (x : Sig) (cur : List ℤ) → slice_get c.pool.signals s ≡ Some x → at cur s ≡ x.init → IsSourced wires c.pool (at_first c false) cur s
first_sourced wires c s x cur e is = record {
  bits = λ i l.
      let w : ℕ = (signal_form c.pool.signals s).width in
      ap (λ bits. Some (unwrap_or (slice_get bits i) false)) (init_bits_are c s x e)
      ∙ ap (λ o. Some (unwrap_or o false)) (slice_get-pattern w x.init i l)
      ∙ ap (λ z. Some (bit_of z i)) (sym is);
}

pub held_sourced : (wires : Wires) (c : Circuit) (s : ℕ) (cur : List ℤ) (x : ℤ) → Carries wires (signal_value c s) x → at cur s ≡ x → IsSourced wires c.pool (at_first c true) cur s
held_sourced wires c s cur x carried is = record {
  bits = λ i l. (has_carried wires (signal_value c s) x carried).at i l ∙ ap (λ z. Some (bit_of z i)) (sym is);
}
