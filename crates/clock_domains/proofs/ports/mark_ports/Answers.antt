use Rattle.std.proofs.Common.{◌≡◌, ◌<◌, ℕ, List, length, take, Some, slice_get, refl, ap, subst, arith}
use Rattle.std.proofs.lemmas.Option.{slice_get_read}
use Rattle.design_ir.specs.declared.port.Port.{Port}
use Rattle.fragment_walks.proofs.Lists.{all_at, take_end}
use Rattle.fragment_walks.proofs.Markings.{length_marked}
use Rattle.clock_domains.specs.Resolved.{signals_of}
use Rattle.clock_domains.proofs.PortLaws.{IsMarking, marking_flag, small_signals, ports_turn}
use Rattle.clock_domains.proofs.ports.mark_ports.Goals as goal

pub mark-requires : goal.mark-requires
mark-requires c =
    let ps = c.args.ports.now in
    let i = c.loop-port.port-index in
    let p = c.port-item.result in
    let at : slice_get ps i ≡ Some p = slice_get_read ps (length ps) i p refl c.loop-port-test.true c.port-item.is in
    let done : List Port → List ℕ = λ xs. signals_of xs in
    omega (arith, all_at (λ (p : Port). p.sig.0 < 16384) ps i p c.requires at, ap length c.loop-port.invariant, length_marked (done (take i ps)) c.in_ok-marks.marks.items, c.in_ok-marks.ensures.size)

pub loop-port-preserved : goal.loop-port-preserved
loop-port-preserved c =
    let ps = c.args.ports.now in
    let i = c.loop-port.port-index in
    let p = c.port-item.result in
    let at : slice_get ps i ≡ Some p = slice_get_read ps (length ps) i p refl c.loop-port-test.true c.port-item.is in
    ports_turn ps i p c.in_ok-marks.marks.items c.loop-port.marks.items c.mark.new.marks.items at c.loop-port.invariant c.mark.ensures

pub returns : goal.returns
returns c =
    let ps = c.args.ports.now in
    let old = c.in_ok-marks.marks.items in
    let new = c.loop-port.marks.items in
    let all : take c.loop-port.port-index ps ≡ ps = take_end ps c.loop-port.port-index (omega (arith, c.loop-port-test.false)) in
    marking_flag old (signals_of c.args.ports.now) new c.in_ok-marks.ensures.size c.in_ok-marks.ensures.each (small_signals c.args.ports.now c.requires) (subst (λ xs. IsMarking old (signals_of xs) new) all c.loop-port.invariant)
