use Rattle.std.proofs.Common.{◌≡◌, ◌+◌, ◌-◌, ◌*◌, length, map, take, drop, ap, ◌∙◌, arith}
use Rattle.std.proofs.lemmas.Result.{IfOk-weaker}
use Rattle.design_ir.specs.Values.{signal_form}
use Rattle.netlist_laws.specs.Spelled.{spec_of}
use Rattle.netlist_laws.specs.Module.{wire_id}
use Rattle.netlist.specs.Tables.{source_of, at_start, latest_of_all}
use Rattle.netlist.proofs.LowerStarts.{form_at}
use Rattle.netlist.proofs.LowerLatest.{row_shown}
use Rattle.netlist.proofs.signals.last_bits.Goals as goal

pub returns : goal.returns
returns c =
    let d = c.args.design.now in
    let s = c.args.s.0 in
    let w = (signal_form d.pool.signals s).width in
    let bits = c.as_slice-2.result.now in
    let f = source_of (wire_id d) in
    let count : s * 128 + c.signal_width.result - s * 128 ≡ w = omega (arith, c.signal_width.ensures) in
    let shown = row_shown (wire_id d) (length d.pool.signals) c.args.t.now.bits.items (latest_of_all d d.processes (at_start d)) s w c.requires.tables.bits c.requires.there (form_at d.pool.signals s c.requires.pool.shapes) in
    IfOk-weaker c.spec_of.result _ _
    (λ spec e. e ∙ ap (λ n. spec_of (map f (take n (drop (s * 128) bits)))) count ∙ ap (λ xs. spec_of (map f (take w (drop (s * 128) xs)))) c.as_slice-2.ensures.value ∙ ap spec_of shown) c.spec_of.ensures
