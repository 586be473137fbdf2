use Rattle.std.proofs.Common.{◌≡◌, length, Some, slice_get, refl}
use Rattle.std.proofs.lemmas.Option.{slice_get_read}
use Rattle.fragment_walks.specs.Marks.{is_marked}
use Rattle.fragment_walks.proofs.Lists.{all_at}
use Rattle.clock_domains.specs.Chosen.{AreThere, is_new}
use Rattle.clock_domains.proofs.PortLaws.{members_turn}
use Rattle.clock_domains.proofs.ports.add_members.Goals as goal

pub add_member-requires-clause-there : goal.add_member-requires-clause-there
add_member-requires-clause-there c =
    let ps = c.args.given.now in
    let i = c.loop-port.port-index in
    let p = c.port-item.result in
    let at : slice_get ps i ≡ Some p = slice_get_read ps (length ps) i p refl c.loop-port-test.true c.port-item.is in
    all_at (AreThere c.args.pool.now) ps i p c.requires.there at

pub loop-port-preserved : goal.loop-port-preserved
loop-port-preserved c =
    let ps = c.args.given.now in
    let i = c.loop-port.port-index in
    let p = c.port-item.result in
    let at : slice_get ps i ≡ Some p = slice_get_read ps (length ps) i p refl c.loop-port-test.true c.port-item.is in
    members_turn (is_new c.args.pool.now (is_marked c.args.known.now.is_port.items)) ps i p c.args.ports.now c.loop-port.ports c.add_member.new.ports at c.loop-port.invariant c.in_ok-add_member.ensures
