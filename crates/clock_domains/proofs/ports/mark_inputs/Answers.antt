use Rattle.std.proofs.Common.{◌≡◌, ◌<◌, ℕ, List, length, take, Some, slice_get, refl, ap, arith}
use Rattle.std.proofs.lemmas.Option.{slice_get_read}
use Rattle.std.specs.List.{filter}
use Rattle.design_ir.specs.declared.port.Port.{Port}
use Rattle.fragment_walks.proofs.Lists.{all_at}
use Rattle.fragment_walks.proofs.Markings.{length_marked}
use Rattle.clock_domains.specs.Resolved.{signals_of}
use Rattle.clock_domains.proofs.PortLaws.{inputs_turn}
use Rattle.clock_domains.proofs.ports.mark_inputs.Goals as goal

pub mark_input-requires : goal.mark_input-requires
mark_input-requires c =
    let ps = c.args.ports.now in
    let i = c.loop-port.port-index in
    let p = c.port-item.result in
    let old = c.args.marks.now.items in
    let at : slice_get ps i ≡ Some p = slice_get_read ps (length ps) i p refl c.loop-port-test.true c.port-item.is in
    let done : List Port → List ℕ = λ xs. signals_of (filter (λ (p : Port). p.is_input) xs) in
    omega (arith, all_at (λ (p : Port). p.sig.0 < length old) ps i p c.requires at, ap length c.loop-port.invariant, length_marked (done (take i ps)) old)

pub loop-port-preserved : goal.loop-port-preserved
loop-port-preserved c =
    let ps = c.args.ports.now in
    let i = c.loop-port.port-index in
    let p = c.port-item.result in
    let at : slice_get ps i ≡ Some p = slice_get_read ps (length ps) i p refl c.loop-port-test.true c.port-item.is in
    inputs_turn ps i p c.args.marks.now.items c.loop-port.marks.items c.mark_input.new.marks.items at c.loop-port.invariant c.mark_input.ensures
